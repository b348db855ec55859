-- Tables with nothing in them.
use Rattle.std.proofs.Common.{◌≡◌, ℕ, ◌<◌, Bool, true, false, List, map, length, get_or, None, Option, ◌↔◌, sym, ◌∙◌}
use Rattle.std.proofs.lemmas.Bool.{false≢true, false_from_ne_true}
use Rattle.array.specs.Configuration.{Configured, is_some, mapped_option}
use Rattle.array.proofs.Tabling.{configured_seen, configured_behind}

pub none_named : {A B : Type 0} (f : A → B) (b : Bool) (xs : List (Option A)) → (b ≡ true) ↔ ((n : ℕ) → n < length xs → is_some (get_or xs n None) ≡ false) → (b ≡ true) ↔ ((n : ℕ) → Configured (map (mapped_option f) xs) n → ⊥)
none_named f b xs each = (
  λ t n h. let on = configured_behind f xs n h in false≢true (sym (each.0 t n on.0) ∙ on.1),
  λ none. each.1 (λ n h. false_from_ne_true (is_some (get_or xs n None)) (λ on. none n (configured_seen f xs n (h, on)))),
)
