-- The calls that try drives, by what the array answers to them. Assumes nothing.
use Rattle.std.proofs.Common.{◌≡◌, ℕ, ◌<◌, ◌≤◌, true, List, length, get_or, take, Some, None, Ok, Err, Option, Result, unwrap_or, sym, refl, ap, ◌∙◌, subst, ⊎_elim, arith, length-take, Bor}
use Rattle.std.proofs.lemmas.List.{get_or-take, get_or_past}
use Rattle.std.proofs.lemmas.Bool.{both_ways, cases_lt}
use Rattle.bus.specs.Drives.{Drive, at}
use Rattle.layout.specs.Blocks.{Whole}
use Rattle.layout.specs.declared.extent.ExtentRow.{ExtentRow}
use Rattle.array.specs.declared.refusal.Fault.{Fault}
use Rattle.array.specs.declared.refusal.Fault.TheVariants.{OfRow, OfBlock}
use Rattle.array.specs.declared.refusal.Refused.{Refused}
use Rattle.array.specs.declared.tables.Array.{Array}
use Rattle.array.specs.Refusals.{of_drives}
use Rattle.array.specs.Arrays.{config}
use Rattle.array.specs.Configuration.{Configuration, is_some}
use Rattle.array.specs.Places.{spot_of, LostRowAt}
use Rattle.array.specs.Tables.{SoundConfig}
use Rattle.array.specs.Checks.{FirstNo, scene, group_checks, read_checks, write_checks}
use Rattle.array.specs.Calls.{OnDrives, Blamed, MakesGroup, Unfilled, ReadsBlock, NotGiven, WritesBlock, NotTaken}
use Rattle.controller.specs.declared.calls.Call.{Call}
use Rattle.controller.specs.declared.calls.Call.TheVariants.{MakeGroup, DeleteGroup, MakeVolume, DeleteVolume, WriteControl, Size, Map, Read, Write}
use Rattle.controller.specs.State.{State, state_of}
use Rattle.controller.specs.Right.{NamesExtent, NamesMember}
use Rattle.controller.specs.Law.{Held, WholeContents, Step, entry}
use Rattle.controller.proofs.Stepping.{answered, Stepped, still, behind_by, left_by}
use Rattle.controller.proofs.Keeping.{lies_frame, held_frame}
use Rattle.controller.proofs.Making.{held_make, whole_make, lies_make, held_unfilled, unassigned_by, passed}
use Rattle.controller.proofs.Spots.{spot_inside}
use Rattle.controller.proofs.Traces.{sound_kept}
use Rattle.controller.proofs.Writing.{read_gives, held_write, held_left, whole_write}

-- the block of a volume set that a write names
abbrev written : Call → Option (ℕ × ℕ)
written (MakeGroup g code k es) = None
written (DeleteGroup g) = None
written (MakeVolume v rs) = None
written (DeleteVolume v) = None
written (WriteControl v on) = None
written (Size v) = None
written (Map v b) = None
written (Read v b) = None
written (Write v b) = Some (v, b)

no_write : (call : Call) (v b : ℕ) → written call ≡ None → call ≡ Write v b → ⊥
no_write call v b f q = both_ways (is_some (written call)) (ap is_some f) (ap (λ (k : Call). is_some (written k)) q)

-- where drives are named, they have to do with the refusal
tried : (x : Refused) (f : Fault) → Blamed x → x.fault ≡ Some f → of_drives x.refusal ≡ true
tried x f b e = sym b ∙ ap is_some e

module _ (st : State) (m n : List Drive) (sound : SoundConfig st.configuration) (lies : OnDrives m st.configuration) (whole : WholeContents st) (held : Held m st) where
  -- making a group
  unmade : (g code k : ℕ) (es : Bor (List ExtentRow)) (buffer : List ℕ) (z : Configuration) (x : Refused) (f : Option Fault) → x.fault ≡ f →
      FirstNo (group_checks (scene m n st.configuration) g code k es.now) x.refusal → z ≡ st.configuration → Blamed x → Unfilled m n g es.now f →
      Stepped st (entry (MakeGroup g code k es) buffer (Err x) buffer m n) m n z
  unmade g code k es buffer z x None e first same blamed left =
      subst (λ (o : List Drive). FirstNo (group_checks (scene m o st.configuration) g code k es.now) x.refusal → Stepped st (entry (MakeGroup g code k es) buffer (Err x) buffer m o) m o z) (sym left)
      (λ first. still st (MakeGroup g code k es) buffer m (Err x) z (first, refl)
      (blamed, subst (NamesExtent (scene m m st.configuration) g es.now) (sym e) tt) same lies whole held)
      first
  unmade g code k es buffer z x (Some (OfRow h r i p)) e first same blamed left =
      let frame = left.1 in
      let drives : of_drives x.refusal ≡ true = tried x (OfRow h r i p) blamed e in
      record {
        right = (first, refl);
        blames = (
          blamed,
          subst (NamesExtent (scene m n st.configuration) g es.now) (sym e)
              (record { group = left.0.group; inside = left.0.inside; row = left.0.row; drive = left.0.drive; block = left.0.block; broken = left.0.broken }),
        );
        count = frame.count;
        sizes = frame.sizes;
        stays = frame.stays;
        spared = record { untried = λ t. absurd (t drives); unwritten = λ v a q l. absurd (no_write (MakeGroup g code k es) v a refl q) };
        becomes = same;
        lies = lies_frame m n frame st.configuration lies;
        whole = whole;
        held = held_unfilled m n st es.now sound (unassigned_by m n st.configuration g code k es.now x.refusal first drives) frame held;
      }
  unmade g code k es buffer z x (Some (OfBlock o h r i p)) e first same blamed left = absurd left

  pub group_made : {U : Type 0} (g code k : ℕ) (es : Bor (List ExtentRow)) (buffer : List ℕ) (z : Configuration) (r : Result U Refused) → MakesGroup m n st.configuration z g code k es.now r →
      Stepped st (entry (MakeGroup g code k es) buffer (answered r) buffer m n) m n z
  group_made g code k es buffer z (Ok u) a =
      let frame = a.2.frame in
      record {
        right = (a.0, refl, refl);
        blames = tt;
        count = frame.count;
        sizes = frame.sizes;
        stays = frame.stays;
        spared = record { untried = λ t. absurd (t tt); unwritten = λ v b q l. absurd (no_write (MakeGroup g code k es) v b refl q) };
        becomes = a.1;
        lies = lies_make m n st g code k es.now lies a.0 a.2;
        whole = whole_make st g code k es.now whole;
        held = held_make m n st g code k es.now sound a.0 a.2 held;
      }
  group_made g code k es buffer z (Err x) a = unmade g code k es buffer z x x.fault refl a.0 a.1 a.2 a.3

  -- reading
  unread : (v b : ℕ) (was is : List ℕ) (x : Refused) (f : Option Fault) → x.fault ≡ f → FirstNo (read_checks (scene m n st.configuration) v b (length was)) x.refusal → is ≡ was → Blamed x →
      NotGiven m n st.configuration v b f → Stepped st (entry (Read v b) was (Err x) is m n) m n st.configuration
  unread v b was is x None e first same blamed left =
      subst (λ (o : List Drive). FirstNo (read_checks (scene m o st.configuration) v b (length was)) x.refusal → Stepped st (entry (Read v b) was (Err x) is m o) m o st.configuration) (sym left)
      (λ first. subst (λ (bytes : List ℕ). Stepped st (entry (Read v b) was (Err x) bytes m m) m m st.configuration) (sym same)
      (still st (Read v b) was m (Err x) st.configuration (first, refl) (blamed, subst (NamesMember (scene m m st.configuration) v b) (sym e) tt) refl lies whole held))
      first
  unread v b was is x (Some (OfRow h r i p)) e first same blamed left = absurd left
  unread v b was is x (Some (OfBlock o h r i p)) e first same blamed left =
      let frame = left.1 in
      let who = left.0 in
      record {
        right = (first, same);
        blames = (
          blamed,
          subst (NamesMember (scene m n st.configuration) v b) (sym e)
              (record { volume = who.volume; block = who.block; group = who.group; row = who.row; inside = who.member_of.inside; drive = who.member_of.drive; place = who.member_of.block; gone = who.member_of.gone }),
        );
        count = frame.count;
        sizes = frame.sizes;
        stays = frame.stays;
        spared = record { untried = λ t. absurd (t (tried x (OfBlock o h r i p) blamed e)); unwritten = λ y z q l. absurd (no_write (Read v b) y z refl q) };
        becomes = refl;
        lies = lies_frame m n frame st.configuration lies;
        whole = whole;
        held = held_frame m n frame st sound (λ g i r has l y. y) held;
      }

  pub block_read : {U : Type 0} (v b : ℕ) (was is : List ℕ) (r : Result U Refused) → ReadsBlock m n st.configuration v b was is r →
      Stepped st (entry (Read v b) was (answered r) is m n) m n st.configuration
  block_read v b was is (Ok u) a =
      let frame = a.1.frame in
      let p = spot_inside sound v b a.0.1.1.0 in
      record {
        right = (a.0, refl, read_gives st sound (spot_of st.configuration v b).group p.0 (spot_of st.configuration v b).block p.1 m n was is whole held a.1);
        blames = tt;
        count = frame.count;
        sizes = frame.sizes;
        stays = frame.stays;
        spared = record { untried = λ t. absurd (t tt); unwritten = λ w k q l. absurd (no_write (Read v b) w k refl q) };
        becomes = refl;
        lies = lies_frame m n frame st.configuration lies;
        whole = whole;
        held = held_frame m n frame st sound (λ g i r has l y. y) held;
      }
  block_read v b was is (Err x) a = unread v b was is x x.fault refl a.0 a.1 a.2 a.3

  -- writing
  lost_there : (v b w k : ℕ) → Write v b ≡ Write w k → LostRowAt (λ d. (at m d).broken) st.configuration w k → LostRowAt (λ d. (at m d).broken) st.configuration v b
  lost_there v b w k q l =
      let e : (v, b) ≡ (w, k) = ap (λ (x : Call). unwrap_or (written x) (0, 0)) q in
      subst (λ (p : ℕ × ℕ). LostRowAt (λ d. (at m d).broken) st.configuration p.0 p.1) (sym e) l

  unwritten : (v b : ℕ) (bytes : List ℕ) (x : Refused) (f : Option Fault) → x.fault ≡ f → FirstNo (write_checks (scene m n st.configuration) v b (length bytes)) x.refusal → Blamed x →
      NotTaken m n st.configuration v b f → Stepped st (entry (Write v b) bytes (Err x) bytes m n) m n st.configuration
  unwritten v b bytes x None e first blamed left =
      subst (λ (o : List Drive). FirstNo (write_checks (scene m o st.configuration) v b (length bytes)) x.refusal → Stepped st (entry (Write v b) bytes (Err x) bytes m o) m o st.configuration) (sym left)
      (λ first. still st (Write v b) bytes m (Err x) st.configuration (first, refl) (blamed, subst (NamesMember (scene m m st.configuration) v b) (sym e) tt) refl lies whole held)
      first
  unwritten v b bytes x (Some (OfRow h r i p)) e first blamed left = absurd left
  unwritten v b bytes x (Some (OfBlock o h r i p)) e first blamed left =
      let frame = left.1.frame in
      let who = left.0 in
      let drives : of_drives x.refusal ≡ true = tried x (OfBlock o h r i p) blamed e in
      let p = spot_inside sound v b (passed (passed (passed first drives refl).1 drives refl).1 drives refl).0 in
      record {
        right = (first, refl);
        blames = (
          blamed,
          subst (NamesMember (scene m n st.configuration) v b) (sym e)
              (record { volume = who.volume; block = who.block; group = who.group; row = who.row; inside = who.member_of.inside; drive = who.member_of.drive; place = who.member_of.block; gone = who.member_of.gone }),
        );
        count = frame.count;
        sizes = frame.sizes;
        stays = frame.stays;
        spared = record { untried = λ t. absurd (t drives); unwritten = λ w k q l. left.1.unwritten (lost_there v b w k q l) };
        becomes = refl;
        lies = lies_frame m n frame st.configuration lies;
        whole = whole;
        held = held_left st sound (spot_of st.configuration v b).group p.0 (spot_of st.configuration v b).block p.1 m n whole held left.1;
      }

  -- the first 512 of bytes that fit are a block
  front_whole : (bytes : List ℕ) → 512 ≤ length bytes → ((j : ℕ) → get_or bytes j 0 < 256) → Whole (take 512 bytes)
  front_whole bytes long fit = record {
    long = simp length-take (omega arith);
    bytes = λ j. ⊎_elim
        (λ (l : j < 512). subst (λ (x : ℕ). x < 256) (sym (get_or-take 512 bytes j 0 l)) (fit j))
        (λ (l : 512 ≤ j). subst (λ (x : ℕ). x < 256) (sym (get_or_past (take 512 bytes) j 0 (simp length-take (omega arith)))) (omega arith))
        (cases_lt j 512);
  }

  pub block_written : {U : Type 0} (v b : ℕ) (bytes : List ℕ) → ((j : ℕ) → get_or bytes j 0 < 256) → (r : Result U Refused) → WritesBlock m n st.configuration v b bytes r →
      Stepped st (entry (Write v b) bytes (answered r) bytes m n) m n st.configuration
  block_written v b bytes fit (Ok u) a =
      let frame = a.1.frame in
      let p = spot_inside sound v b a.0.1.1.0 in
      let g = (spot_of st.configuration v b).group in
      let q = (spot_of st.configuration v b).block in
      record {
        right = (a.0, refl, refl);
        blames = tt;
        count = frame.count;
        sizes = frame.sizes;
        stays = frame.stays;
        spared = record { untried = λ t. absurd (t tt); unwritten = λ w k z l. absurd (a.0.1.1.1.1.0.0 (lost_there v b w k z l)) };
        becomes = refl;
        lies = lies_frame m n frame st.configuration lies;
        whole = whole_write st g q (take 512 bytes) whole (front_whole bytes a.0.1.0 fit);
        held = held_write st sound g p.0 q p.1 m n whole held bytes a.1;
      }
  block_written v b bytes fit (Err x) a = unwritten v b bytes x x.fault refl a.0 a.1 a.2

-- the same of an array in use ---------------------------------------------------------------------------------------------------

module _ {U : Type 0} (a : Array) (m n : List Drive) (r : Result U Refused) where
  pub makes_step : (g code k : ℕ) (es : Bor (List ExtentRow)) (buffer : List ℕ) (z : Array) → MakesGroup m n (config a) (config z) g code k es.now r →
      Step (entry (MakeGroup g code k es) buffer (answered r) buffer m n) a z m n
  makes_step g code k es buffer z h past kept =
      behind_by past (MakeGroup g code k es) buffer buffer (answered r) a z m n kept (λ (d : Configuration). MakesGroup m n d (config z) g code k es.now r) h
      (group_made (state_of past) m n (sound_kept past a m kept) kept.lies kept.whole kept.held g code k es buffer (config z) r)

  pub reads_step : (v b : ℕ) (was is : List ℕ) → (OnDrives m (config a) → ReadsBlock m n (config a) v b was is r) → Step (entry (Read v b) was (answered r) is m n) a a m n
  reads_step v b was is h past k =
      left_by past (Read v b) was is (answered r) a m n k (λ (d : Configuration). OnDrives m d → ReadsBlock m n d v b was is r) h
      (λ told. block_read (state_of past) m n (sound_kept past a m k) k.lies k.whole k.held v b was is r (told k.lies))

  pub writes_step : (v b : ℕ) (bytes : List ℕ) → ((j : ℕ) → get_or bytes j 0 < 256) → (OnDrives m (config a) → WritesBlock m n (config a) v b bytes r) →
      Step (entry (Write v b) bytes (answered r) bytes m n) a a m n
  writes_step v b bytes fit h past k =
      left_by past (Write v b) bytes bytes (answered r) a m n k (λ (d : Configuration). OnDrives m d → WritesBlock m n d v b bytes r) h
      (λ told. block_written (state_of past) m n (sound_kept past a m k) k.lies k.whole k.held v b bytes fit r (told k.lies))
