-- A row with no check block. Assumes nothing.
use Rattle.std.specs.Prelude.{◌≡◌, ℕ, ◌≤◌, Bool, true, List, [], length, slice_index_or, refl}
use Rattle.std.proofs.Common.{arith, lit≤}
use Rattle.std.proofs.lemmas.List.{ext_get_or}
use Rattle.std.proofs.lemmas.Bool.{both_ways}
use Rattle.layout.specs.Blocks.{missing_count, Agree}
use Rattle.layout.specs.Methods.{Sound, none_width, one_strip, none_home, none_check, none_row, none_tolerance}
use Rattle.layout.specs.Marks.{none_missing, none_marked}

pub none_fixed : (us : List (List ℕ)) (missing : List Bool) (bs : List (List ℕ)) → length bs ≡ length us → length missing ≡ length us → missing_count missing ≤ 0 → Agree missing bs us → bs ≡ us
none_fixed us missing bs eb eo none agree = ext_get_or [] bs us eb (λ k h. agree k h (none_missing missing none k (omega arith)))

pub none_sound : Sound 1 none_width one_strip none_home none_check none_row none_tolerance
none_sound = record {
  least_some = lit≤ tt;
  narrow = λ n few many. omega arith;
  inside = λ n t p few many h. h;
  free = λ n t p few many h. refl;
  apart = λ n t p q few many h k e. e;
  covered = λ n t m few many h f. (m, h, refl);
  short = λ n few many. (lit≤ tt, few);
  round = λ n t m few many. refl;
  some = λ n few many. few;
  whole = λ n t us few many u. u;
  placed = λ n t us p few many u h. refl;
  few_checks = λ n t marks few many eo told. none_marked marks (λ k l e. both_ways (slice_index_or marks k true) (told k (omega arith)) e);
  determined = λ n t missing us vs few many u v eo none agree. none_fixed vs missing us (omega (arith, u.many, v.many)) (omega (arith, v.many)) none agree;
}
