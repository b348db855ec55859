-- THE LAW of a log that began with a new array, and of one call on an array in use. Assumes nothing.
use Rattle.std.specs.Prelude.{◌≡◌, ℕ, ◌<◌, Bool, true, false, List, [], ◌∷◌, ◌++◌, length, take, Ok, Err}
use Rattle.bus.specs.Drives.{Drive, Worse, at, size}
use Rattle.layout.specs.Blocks.{Whole}
use Rattle.group.specs.Filling.{zeros}
use Rattle.array.specs.declared.tables.Array.{Array}
use Rattle.array.specs.declared.refusal.Refusal.TheVariants.{LostReading}
use Rattle.array.specs.Refusals.{of_drives}
use Rattle.array.specs.Arrays.{config}
use Rattle.array.specs.Configuration.{Configuration, Configured, nothing, group_at}
use Rattle.array.specs.Places.{Spot, mapped, blocks_of, spot_of, size_of, LostAt, LostRowAt}
use Rattle.array.specs.Tables.{ExtentsApart}
use Rattle.array.specs.Checks.{AllHold, block_checks}
use Rattle.array.specs.Calls.{OnDrives, Holds}
use Rattle.controller.specs.declared.calls.Call.{Call}
use Rattle.controller.specs.declared.calls.Call.TheVariants.{MakeGroup, DeleteGroup, MakeVolume, DeleteVolume, WriteControl, Size, Map, Read, Write}
use Rattle.controller.specs.State.{Answer, Entry, State, state_of, users}
use Rattle.controller.specs.Right.{Right, Blames}

-- NO DRIVE BLOCK LIES IN TWO EXTENTS, AND NO TWO VOLUME-SET BLOCKS SHARE A DRIVE BLOCK
pub record Apart (c : Configuration) : Type 0 where
  pub extents : ExtentsApart c
  pub blocks : (v b w d : ℕ) → b < blocks_of c v → d < blocks_of c w → mapped c v b ≡ mapped c w d → (v ≡ w) × (b ≡ d)

-- what is promised of an entry, after the log `past`
pub record Lawful (count : ℕ) (capacity : ℕ → ℕ) (past : List Entry) (e : Entry) : Type 0 where
  pub right : Right count capacity (state_of past) e
  pub blames : Blames count capacity (state_of past) e
  pub apart : Apart (state_of (past ++ e ∷ [])).configuration

-- THE LAW: however a log is cut into what was before, an entry and the rest
abbrev pub Law : ℕ → (ℕ → ℕ) → List Entry → Type 0
Law count capacity log = (past : List Entry) (e : Entry) (rest : List Entry) → log ≡ past ++ e ∷ rest → Lawful count capacity past e

-- what the drives hold ------------------------------------------------------------------------------------------------------

-- every row of every group holds what it should: every home that is not missing its expected block, in lost rows too, and
-- outside lost rows every member that is not missing its block of the row
abbrev pub Held : List Drive → State → Type 0
Held m st = (g r : ℕ) → Configured st.configuration.groups g → r < (group_at st.configuration g).rows → Holds m (group_at st.configuration g) r (users st g r)

abbrev pub WholeContents : State → Type 0
WholeContents st = (g q : ℕ) → Configured st.configuration.groups g → q < size_of (group_at st.configuration g) → Whole (st.contents g q)

-- the tables are what the log says, the extents lie on the drives, and the drives hold what the log says
pub record Kept (log : List Entry) (a : Array) (m : List Drive) : Type 0 where
  pub tables : config a ≡ (state_of log).configuration
  pub lies : OnDrives m (state_of log).configuration
  pub whole : WholeContents (state_of log)
  pub held : Held m (state_of log)

-- drives have to do with the answer
abbrev pub Tries : Answer → Type 0
Tries (Ok w) = Unit {0}
Tries (Err x) = of_drives x.refusal ≡ true

-- What a call leaves alone: every drive where it is refused before any work, or as a write whose row was lost when it began.
pub record Spared (st : State) (e : Entry) (m n : List Drive) : Type 0 where
  pub untried : (Tries e.answer → ⊥) → n ≡ m
  pub unwritten : (v b : ℕ) → e.call ≡ Write v b → LostRowAt e.before st.configuration v b → n ≡ m

-- ONE CALL on an array in use, after the log `past`: m are the drives before it, and n after it
pub record Performed (past : List Entry) (e : Entry) (m n : List Drive) : Type 0 where
  pub before : e.before ≡ (λ d. (at m d).broken)
  pub after : e.after ≡ (λ d. (at n d).broken)
  pub count : length n ≡ length m
  pub sizes : (d : ℕ) → size n d ≡ size m d
  pub stays : (d : ℕ) → (at m d).broken ≡ true → (at n d).broken ≡ true
  pub lawful : Lawful (length m) (λ d. size m d) past e
  pub spared : Spared (state_of past) e m n
  pub held_before : Held m (state_of past)
  pub held_after : Held n (state_of (past ++ e ∷ []))

-- whole runs --------------------------------------------------------------------------------------------------------------

-- A RUN from a new array over the drives `start`: the log so far, the array, and the drives. Drives break between calls; a
-- call is performed as promised.
pub data Reached (start : List Drive) : List Entry → Array → List Drive → Type 0 where
  begun : {a : Array} → config a ≡ nothing → Reached start [] a start
  waited : {log : List Entry} {a : Array} {m n : List Drive} → Reached start log a m → Worse m n → Reached start log a n
  called : {log : List Entry} {e : Entry} {a z : Array} {m n : List Drive} → Reached start log a m → Performed log e m n → Kept (log ++ e ∷ []) z n → Reached start (log ++ e ∷ []) z n

-- the entry of a call that finds the drives m and leaves the drives n
abbrev pub entry : Call → List ℕ → Answer → List ℕ → List Drive → List Drive → Entry
entry call buffer x left m n = record { call = call; buffer = buffer; answer = x; left = left; before = λ d. (at m d).broken; after = λ d. (at n d).broken }

-- one call, after any log that the tables and the drives keep
abbrev pub Step : Entry → Array → Array → List Drive → List Drive → Type 0
Step e a z m n = (past : List Entry) → Kept past a m → Performed past e m n × Kept (past ++ e ∷ []) z n

-- what follows, with no contents kept -------------------------------------------------------------------------------------------

abbrev pub accepted : Answer → Bool
accepted (Ok w) = true
accepted (Err x) = false

-- after `past`, e is an accepted read, or write, of the protected block p
pub record ReadAt (past : List Entry) (e : Entry) (p : Spot) : Type 0 where
  pub volume : ℕ
  pub block : ℕ
  pub asked : e.call ≡ Read volume block
  pub here : spot_of (state_of past).configuration volume block ≡ p
  pub taken : accepted e.answer ≡ true

pub record WroteAt (past : List Entry) (e : Entry) (p : Spot) : Type 0 where
  pub volume : ℕ
  pub block : ℕ
  pub asked : e.call ≡ Write volume block
  pub here : spot_of (state_of past).configuration volume block ≡ p
  pub taken : accepted e.answer ≡ true

-- e makes group g
abbrev pub Makes : ℕ → Call → Type 0
Makes g (MakeGroup n code k es) = n ≡ g
Makes g (DeleteGroup n) = ⊥
Makes g (MakeVolume v rs) = ⊥
Makes g (DeleteVolume v) = ⊥
Makes g (WriteControl v on) = ⊥
Makes g (Size v) = ⊥
Makes g (Map v b) = ⊥
Makes g (Read v b) = ⊥
Makes g (Write v b) = ⊥

abbrev pub Made : Entry → ℕ → Type 0
Made e g = Makes g e.call × (accepted e.answer ≡ true)

-- no entry of `mid`, which follows `past`, wrote protected block p or made its group
abbrev pub Untouched : List Entry → List Entry → Spot → Type 0
Untouched past mid p =
    (m : List Entry) (e : Entry) (n : List Entry) → mid ≡ m ++ e ∷ n → (WroteAt (past ++ m) e p → ⊥) × (Made e p.group → ⊥)

-- A READ GIVES WHAT THE LAST ACCEPTED WRITE THERE WROTE,
abbrev pub LastWrite : List Entry → Type 0
LastWrite log =
    (past : List Entry) (w : Entry) (mid : List Entry) (r : Entry) (rest : List Entry) (p : Spot) → log ≡ past ++ w ∷ mid ++ r ∷ rest →
    WroteAt past w p → Untouched (past ++ w ∷ []) mid p → ReadAt (past ++ w ∷ mid) r p → take 512 r.left ≡ take 512 w.buffer

-- and zeros if there was none since the group was made
abbrev pub FirstZeros : List Entry → Type 0
FirstZeros log =
    (past : List Entry) (w : Entry) (mid : List Entry) (r : Entry) (rest : List Entry) (p : Spot) → log ≡ past ++ w ∷ mid ++ r ∷ rest →
    Made w p.group → Untouched (past ++ w ∷ []) mid p → ReadAt (past ++ w ∷ mid) r p → take 512 r.left ≡ zeros

abbrev pub refused_as_lost : Answer → Type 0
refused_as_lost (Ok w) = ⊥
refused_as_lost (Err x) = x.refusal ≡ LostReading

-- A READ that passes every check before the last IS REFUSED EXACTLY WHEN ITS BLOCK IS LOST, by the broken marks after it
pub record LostExactly (log : List Entry) : Type 0 where
  pub only : (past : List Entry) (e : Entry) (rest : List Entry) (v b : ℕ) → log ≡ past ++ e ∷ rest → e.call ≡ Read v b →
      AllHold (block_checks (state_of past).configuration v b (length e.buffer)) → refused_as_lost e.answer → LostAt e.after (state_of past).configuration v b
  pub always : (past : List Entry) (e : Entry) (rest : List Entry) (v b : ℕ) → log ≡ past ++ e ∷ rest → e.call ≡ Read v b →
      AllHold (block_checks (state_of past).configuration v b (length e.buffer)) → LostAt e.after (state_of past).configuration v b → refused_as_lost e.answer

-- THE PROMISE: of every list of calls from a new array on, over the drives `start`, which left the drives n and made this log.
-- Every answer is right, every fault that is named is one, and after every call no drive block lies in two extents and no two
-- volume-set blocks share a drive block; an accepted read gives what the last accepted write there wrote, zeros if there was
-- none since the group was made; a read is refused as lost only, and always, when its block is; and the drives hold what the
-- log says.
pub record Promise (start n : List Drive) (log : List Entry) : Type 0 where
  pub law : Law (length start) (λ d. size start d) log
  pub last_write : LastWrite log
  pub first_zeros : FirstZeros log
  pub lost_exactly : LostExactly log
  pub held : Held n (state_of log)

-- One call, after any run that led to the array a and the drives m: it is performed as promised, the promise holds of the log
-- with its entry, and the run goes on by it.
abbrev pub Goes : Entry → Array → Array → List Drive → List Drive → Type 0
Goes e a z m n = (start : List Drive) (past : List Entry) → Reached start past a m → Performed past e m n × Promise start n (past ++ e ∷ []) × Reached start (past ++ e ∷ []) z n
