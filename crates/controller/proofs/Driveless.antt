-- The calls that try no drive, by what the array answers to them. Assumes nothing.
use Rattle.std.proofs.Common.{◌≡◌, ℕ, Bool, List, [], length, Some, None, Ok, Err, Option, Result, sym, refl, subst, Bor}
use Rattle.bus.specs.Drives.{Drive, size}
use Rattle.array.specs.declared.tables.Array.{Array}
use Rattle.array.specs.declared.volume.Run.{Run}
use Rattle.array.specs.declared.refusal.Fault.{Fault}
use Rattle.array.specs.declared.refusal.Refused.{Refused}
use Rattle.array.specs.Arrays.{config}
use Rattle.array.specs.Configuration.{Configuration}
use Rattle.array.specs.Places.{blocks_of, mapped}
use Rattle.array.specs.Checks.{Check, AllHold, FirstNo, Scene, delete_group_checks, volume_checks, delete_volume_checks, control_checks, size_checks, map_checks}
use Rattle.array.specs.Calls.{OnDrives, Asked, Configures}
use Rattle.controller.specs.declared.calls.Call.{Call}
use Rattle.controller.specs.declared.calls.Call.TheVariants.{DeleteGroup, MakeVolume, DeleteVolume, WriteControl, Size, Map}
use Rattle.controller.specs.declared.calls.Value.{Value}
use Rattle.controller.specs.declared.calls.Value.TheVariants.{Done, Blocks, At}
use Rattle.controller.specs.State.{Entry, State, state_of, configured, entered}
use Rattle.controller.specs.Right.{Answers, RightFor, Names, scene_at}
use Rattle.controller.specs.Law.{Held, WholeContents, Step, entry}
use Rattle.controller.proofs.Stepping.{answer_by, answered, Stepped, Plain, plain_blamed, still, behind_by}
use Rattle.controller.proofs.Making.{held_deleted, whole_deleted, lies_deleted}

-- the state after the call, if it is accepted
abbrev pub taken : State → Call → List ℕ → State
taken st call buffer = record { configuration = configured st.configuration call; contents = entered st call buffer }

-- what is kept from call to call, beside the tables: the extents lie on the drives m, and these hold what the state says
abbrev pub Keeps : List Drive → State → Type 0
Keeps m st = OnDrives m st.configuration × WholeContents st × Held m st

-- The call has these checks and this value, by a configuration, and no drive has to do with it.
pub record Driveless (call : Call) (cs : Configuration → List Check) (v : Configuration → Value) : Type 0 where
  pub plain : (c : Configuration) → Plain (cs c)
  pub right : (s : Scene) (st : State) (e : Entry) → Answers (cs st.configuration) (v st.configuration) [] e e.answer → RightFor s st e call
  pub unnamed : (s : Scene) (f : Option Fault) → f ≡ None → Names s call f
  pub keeps : (st : State) (m : List Drive) (buffer : List ℕ) → Keeps m st → Keeps m (taken st call buffer)

pub on_delete_group : (g : ℕ) → Driveless (DeleteGroup g) (λ c. delete_group_checks c g) (λ c. Done)
on_delete_group g = record {
  plain = λ c. (refl, (refl, tt));
  right = λ s st e h. h;
  unnamed = λ s f h. h;
  keeps = λ st m buffer h. (lies_deleted st g m h.0, whole_deleted st g h.1, held_deleted st g m h.2);
}

pub on_make_volume : (v : ℕ) (rs : Bor (List Run)) → Driveless (MakeVolume v rs) (λ c. volume_checks c v rs.now) (λ c. Done)
on_make_volume v rs = record { plain = λ c. (refl, (refl, (refl, (refl, tt)))); right = λ s st e h. h; unnamed = λ s f h. h; keeps = λ st m buffer h. h }

pub on_delete_volume : (v : ℕ) → Driveless (DeleteVolume v) (λ c. delete_volume_checks c v) (λ c. Done)
on_delete_volume v = record { plain = λ c. (refl, tt); right = λ s st e h. h; unnamed = λ s f h. h; keeps = λ st m buffer h. h }

pub on_write_control : (v : Option ℕ) (on : Bool) → Driveless (WriteControl v on) (λ c. control_checks c v) (λ c. Done)
on_write_control None on = record { plain = λ c. tt; right = λ s st e h. h; unnamed = λ s f h. h; keeps = λ st m buffer h. h }
on_write_control (Some v) on = record { plain = λ c. (refl, tt); right = λ s st e h. h; unnamed = λ s f h. h; keeps = λ st m buffer h. h }

pub on_size : (v : ℕ) → Driveless (Size v) (λ c. size_checks c v) (λ c. Blocks (blocks_of c v))
on_size v = record { plain = λ c. (refl, tt); right = λ s st e h. h; unnamed = λ s f h. h; keeps = λ st m buffer h. h }

pub on_map : (v b : ℕ) → Driveless (Map v b) (λ c. map_checks c v b) (λ c. At (record { drive = (mapped c v b).drive; block = (mapped c v b).at }))
on_map v b = record { plain = λ c. (refl, (refl, tt)); right = λ s st e h. h; unnamed = λ s f h. h; keeps = λ st m buffer h. h }

-- what the array answers to such a call: c is the configuration before, z after, and w where it is accepted
abbrev Told : {V : Type 0} → List Check → Value → (V → Value) → Configuration → Configuration → Configuration → Result V Refused → Type 0
Told cs v f c z w (Ok u) = AllHold cs × (f u ≡ v) × (z ≡ w)
Told cs v f c z w (Err x) = FirstNo cs x.refusal × (x.fault ≡ None) × (z ≡ c)

by_configures : {U : Type 0} (cs : List Check) (c z w : Configuration) (r : Result U Refused) → Configures cs c z w r → Told cs Done (λ u. Done) c z w r
by_configures cs c z w (Ok u) a = (a.0, refl, a.1)
by_configures cs c z w (Err x) a = a

by_asked : {V : Type 0} (f : V → Value) (v : Value) (Q : V → Type 0) → ((u : V) → Q u → f u ≡ v) → (cs : List Check) (c : Configuration) (r : Result V Refused) → Asked cs Q r → Told cs v f c c c r
by_asked f v Q q cs c (Ok u) a = (a.0, q u a.1, refl)
by_asked f v Q q cs c (Err x) a = (a.0, a.1, refl)

module _ {call : Call} {cs : Configuration → List Check} {v : Configuration → Value} (d : Driveless call cs v) where
  stepped : {V : Type 0} (f : V → Value) (st : State) (m : List Drive) (buffer : List ℕ) (z : Configuration) (r : Result V Refused) →
      Keeps m st → Told (cs st.configuration) (v st.configuration) f st.configuration z (configured st.configuration call) r →
      Stepped st (entry call buffer (answer_by f r) buffer m m) m m z
  stepped f st m buffer z (Ok u) k a =
      let e = entry call buffer (Ok (f u)) buffer m m in
      let then = d.keeps st m buffer k in
      still st call buffer m (Ok (f u)) z (d.right (scene_at (length m) (λ d. size m d) st e) st e (a.0, a.1, refl)) tt a.2 then.0 then.1 then.2
  stepped f st m buffer z (Err x) k a =
      let e = entry call buffer (Err x) buffer m m in
      let s = scene_at (length m) (λ d. size m d) st e in
      still st call buffer m (Err x) z (d.right s st e (a.0, refl)) (plain_blamed (cs st.configuration) x (d.plain st.configuration) a.0 a.1, d.unnamed s x.fault a.1) a.2 k.0 k.1 k.2

  told_step : {V : Type 0} (f : V → Value) (a z : Array) (m : List Drive) (buffer : List ℕ) (r : Result V Refused) →
      Told (cs (config a)) (v (config a)) f (config a) (config z) (configured (config a) call) r → Step (entry call buffer (answer_by f r) buffer m m) a z m m
  told_step f a z m buffer r told past k =
      behind_by past call buffer buffer (answer_by f r) a z m m k (λ (c : Configuration). Told (cs c) (v c) f c (config z) (configured c call) r) told
      (stepped f (state_of past) m buffer (config z) r (k.lies, k.whole, k.held))

-- a call that configures
pub configures_step : {call : Call} {cs : Configuration → List Check} → Driveless call cs (λ c. Done) → {U : Type 0} (a z : Array) (m : List Drive) (buffer : List ℕ) (r : Result U Refused) →
    Configures (cs (config a)) (config a) (config z) (configured (config a) call) r → Step (entry call buffer (answered r) buffer m m) a z m m
configures_step {call} {cs} d a z m buffer r h = told_step d (λ u. Done) a z m buffer r (by_configures (cs (config a)) (config a) (config z) (configured (config a) call) r h)

-- and one that asks, and leaves the configuration
pub asks_step : {call : Call} {cs : Configuration → List Check} {v : Configuration → Value} → Driveless call cs v → ((c : Configuration) → configured c call ≡ c) →
    {V : Type 0} (f : V → Value) (Q : V → Type 0) (a : Array) (m : List Drive) (buffer : List ℕ) (r : Result V Refused) →
    ((u : V) → Q u → f u ≡ v (config a)) → Asked (cs (config a)) Q r → Step (entry call buffer (answer_by f r) buffer m m) a a m m
asks_step {call} {cs} {v} d same f Q a m buffer r q h =
    told_step d f a a m buffer r
    (subst (λ (w : Configuration). Told (cs (config a)) (v (config a)) f (config a) (config a) w r) (sym (same (config a))) (by_asked f (v (config a)) Q q (cs (config a)) (config a) r h))
