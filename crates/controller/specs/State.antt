-- What the calls and answers alone say: the configuration and the expected contents after them. Assumes nothing.
use Rattle.std.specs.Prelude.{ℕ, Bool, cond, ◌&&◌, List, [], ◌∷◌, map, take, None, Ok, Err, Result, ◌==◌}
use Rattle.std.specs.List.{range_with_len}
use Rattle.group.specs.Filling.{zeros}
use Rattle.array.specs.declared.refusal.Refused.{Refused}
use Rattle.array.specs.Kinds.{method_of}
use Rattle.array.specs.Configuration.{Configuration, nothing, group_at, new_group, with_group, with_volume, new_volume, controlled}
use Rattle.array.specs.Places.{Spot, spot_of, width_of, user_block}
use Rattle.controller.specs.declared.calls.Call.{Call}
use Rattle.controller.specs.declared.calls.Call.TheVariants.{MakeGroup, DeleteGroup, MakeVolume, DeleteVolume, WriteControl, Size, Map, Read, Write}
use Rattle.controller.specs.declared.calls.Value.{Value}

-- what a call answers: accepted with a value, or refused
abbrev pub Answer : Type 0
Answer = Result Value Refused

-- An entry of a log: a call, what its buffer held, its answer, what the buffer holds then, and of every drive whether it
-- was broken before the call and is broken after it.
pub record Entry : Type 0 where
  pub call : Call
  pub buffer : List ℕ
  pub answer : Answer
  pub left : List ℕ
  pub before : ℕ → Bool
  pub after : ℕ → Bool

-- the configuration, and for each group what each of its protected blocks should hold
pub record State : Type 0 where
  pub configuration : Configuration
  pub contents : ℕ → ℕ → List ℕ

-- a new array: nothing is configured
abbrev pub start : State
start = record { configuration = nothing; contents = λ g q. [] }

-- what an accepted call makes of the configuration
abbrev pub configured : Configuration → Call → Configuration
configured c (MakeGroup g code k es) = with_group c g (new_group (method_of code) k es.now)
configured c (DeleteGroup g) = with_group c g None
configured c (MakeVolume v rs) = with_volume c v (new_volume rs.now)
configured c (DeleteVolume v) = with_volume c v None
configured c (WriteControl v on) = controlled c v on
configured c (Size v) = c
configured c (Map v b) = c
configured c (Read v b) = c
configured c (Write v b) = c

-- one protected block becomes x
abbrev pub put : (ℕ → ℕ → List ℕ) → Spot → List ℕ → ℕ → ℕ → List ℕ
put contents p x g q = cond (g == p.group && q == p.block) x (contents g q)

-- every block of a group becomes x
abbrev pub put_all : (ℕ → ℕ → List ℕ) → ℕ → List ℕ → ℕ → ℕ → List ℕ
put_all contents n x g q = cond (g == n) x (contents g q)

-- and of the contents: making a group enters zeros, and a write the first 512 bytes of its buffer (those of a group that is
-- deleted mean nothing until one of its number is made again)
abbrev pub entered : State → Call → List ℕ → ℕ → ℕ → List ℕ
entered st (MakeGroup g code k es) buffer = put_all st.contents g zeros
entered st (DeleteGroup g) buffer = st.contents
entered st (MakeVolume v rs) buffer = st.contents
entered st (DeleteVolume v) buffer = st.contents
entered st (WriteControl v on) buffer = st.contents
entered st (Size v) buffer = st.contents
entered st (Map v b) buffer = st.contents
entered st (Read v b) buffer = st.contents
entered st (Write v b) buffer = put st.contents (spot_of st.configuration v b) (take 512 buffer)

abbrev pub after_answer : State → Call → List ℕ → Answer → State
after_answer st call buffer (Ok w) = record { configuration = configured st.configuration call; contents = entered st call buffer }
after_answer st call buffer (Err x) = st

abbrev pub after : State → Entry → State
after st e = after_answer st e.call e.buffer e.answer

abbrev pub after_all : State → List Entry → State
after_all st [] = st
after_all st (e ∷ log) = after_all (after st e) log

-- what a log says that began with a new array
unfoldable pub state_of : List Entry → State
state_of log = after_all start log

-- the user blocks that row r of group g should hold
abbrev pub users : State → ℕ → ℕ → List (List ℕ)
users st g r = map (λ p. st.contents g (user_block (group_at st.configuration g) r p)) (range_with_len 0 (width_of (group_at st.configuration g)))
