-- Text behind text. Assumes nothing.
use Rattle.std.proofs.Common.{eqb, ◌≡◌, ℕ, ◌<◌, List, [], ◌∷◌, ◌++◌, length, get_or, sym, ap, ◌∙◌, append_assoc}
use Rattle.script.specs.Showing.{shown_run, Extends}
use Rattle.std.specs.List.{IsChunkByPrefix}
use Rattle.script.proofs.Runs.{rest_shown, run_shown}

-- two texts, one behind the other
pub behind : (was mid is x y : List ℕ) → mid ≡ was ++ x → is ≡ mid ++ y → is ≡ was ++ (x ++ y)
behind was mid is x y e k = k ∙ ap (λ l. l ++ y) e ∙ append_assoc was x y

pub extends_on : (was mid is : List ℕ) → Extends was mid → Extends mid is → Extends was is
extends_on was mid is e k = (e.0 ++ k.0, behind was mid is e.0 k.0 e.1 k.1)

-- one run more: out is what was written, and sep and the run x are written behind it
pub run_written : (bs x rest sep was out mid is : List ℕ) → bs ≡ x ++ rest → 0 < length x → IsChunkByPrefix eqb bs (length x) → out ++ rest_shown sep bs ≡ was → mid ≡ out ++ sep → is ≡ mid ++ shown_run (length x, get_or x 0 0) → is ++ rest_shown (32 ∷ []) rest ≡ was
run_written bs x rest sep was out mid is parts some chunk so far on =
    let run = shown_run (length x, get_or x 0 0) in
    let after = rest_shown (32 ∷ []) rest in
    behind out mid (is ++ after) sep (run ++ after) far (ap (λ l. l ++ after) on ∙ append_assoc mid run after) ∙ ap (λ l. out ++ l) (sym (run_shown bs x rest parts some chunk sep)) ∙ so
