use Rattle.std.proofs.Common.{ℕ, ◌<◌, Bool, true, false, List, length, MatchBool, arith, rules, tests}
use Rattle.std.specs.List.{HoldsAt, AllWithin}
use Rattle.std.proofs.lemmas.Iterator.{cases_from_all, YieldsList-from_slice}
use Rattle.layout.specs.declared.extent.ExtentRow.{ExtentRow}
use Rattle.layout.specs.Extents.{Sound}
use Rattle.group.specs.Filling.{no_extent, extent}
use Rattle.group.proofs.fill.sound_rows.Goals as goal

all_sound : (r : Bool) (es : List ExtentRow) → MatchBool r (AllWithin Sound es 0 (length es)) ((k : ℕ) × (k < length es) × HoldsAt (λ e. Sound e → ⊥) es k) →
    MatchBool r ((i : ℕ) → i < length es → Sound (extent es i)) (((i : ℕ) → i < length es → Sound (extent es i)) → ⊥)
all_sound true es h = λ i l. h i no_extent (omega arith) l
all_sound false es h = λ all. h.2 no_extent (all h.0 h.1)

pub returns : goal.returns
returns c =
    all_sound c.all.result c.args.extents.now
    (cases_from_all _ _ _ Sound (λ e. Sound e → ⊥) c.all.ensures.ran (YieldsList-from_slice c.args.extents.now cc) (λ x q k. search (rules, tests)) (λ x q k. search (rules, tests)))
