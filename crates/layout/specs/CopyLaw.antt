-- A row of copies. Assumes nothing.
use Rattle.std.specs.Prelude.{◌≡◌, ℕ, ◌-◌, ◌≤◌, Bool, List, [], length, get_or, replicate, slice_index_or, refl}
use Rattle.std.proofs.Common.{sym, ap, subst, ◌∙◌, arith, lit≤}
use Rattle.std.proofs.lemmas.List.{get_or-replicate, length-replicate}
use Rattle.std.proofs.lemmas.Bool.{ltb-false}
use Rattle.layout.specs.Blocks.{missing_count, first_present, Whole, Agree}
use Rattle.layout.specs.Methods.{Sound, copy_width, one_strip, copy_home, copy_check, copy_row, copy_tolerance}
use Rattle.layout.specs.Marks.{some_present, but_first}

-- the first member that is not missing has the block
pub copy_found : (n t : ℕ) (us : List (List ℕ)) (missing : List Bool) (bs : List (List ℕ)) → 2 ≤ n → length bs ≡ n → length missing ≡ n → missing_count missing ≤ n - 1 → Agree missing bs (copy_row n t us) →
    slice_index_or bs (first_present missing) [] ≡ slice_index_or us 0 []
copy_found n t us missing bs few eb eo lo agree =
    let s = some_present missing (omega arith) in
    agree (first_present missing) (omega arith) s.1 ∙ get_or-replicate n (first_present missing) (slice_index_or us 0 []) [] (omega arith)

pub copy_sound : Sound 2 copy_width one_strip copy_home copy_check copy_row copy_tolerance
copy_sound = record {
  least_some = lit≤ tt;
  narrow = λ n few many. few;
  inside = λ n t p few many h. few;
  free = λ n t p few many h. refl;
  apart = λ n t p q few many h k e. omega arith;
  covered = λ n t m few many h f. (0, lit≤ tt, omega (arith, ltb-false 0 m f));
  short = λ n few many. (lit≤ tt, few);
  round = λ n t m few many. refl;
  some = λ n few many. lit≤ tt;
  whole = λ n t us few many u. record {
    many = length-replicate n (slice_index_or us 0 []);
    whole = λ p h. subst Whole (sym (get_or-replicate n p (slice_index_or us 0 []) [] h)) (u.whole 0 (omega arith));
  };
  placed = λ n t us p few many u h. let z : 0 ≡ p = omega arith in
      get_or-replicate n 0 (slice_index_or us 0 []) [] (omega arith) ∙ ap (λ (i : ℕ). get_or us i []) z;
  few_checks = λ n t marks few many eo told. let r = but_first marks (told 0 (omega arith)) in omega arith;
  determined = λ n t missing us vs few many u v eo lo agree.
      let er : length (copy_row n t us) ≡ n = length-replicate n (slice_index_or us 0 []) in
      ap (replicate n) (sym (copy_found n t us missing (copy_row n t us) few er eo lo (λ m h f. refl)) ∙ copy_found n t vs missing (copy_row n t us) few er eo lo agree);
}
