use Rattle.std.proofs.Common.{◌≡◌, ℕ, zero, suc, ◌+◌, ◌<◌, ◌≤◌, true, List, get_or, refl, sym, ap, ◌∙◌, subst, ⊎_elim, arith, rules}
use Rattle.std.specs.Array.{IsFromFnResultFrom}
use denote.Param.Members.{Mut, Called}
use Rattle.std.proofs.lemmas.List.{get_or_past}
use Rattle.std.proofs.lemmas.Bool.{cases_lt, cases_eq}
use Rattle.bus.specs.Drives.{Drive, absent, at}
use Rattle.controller.proofs.run.marks.Goals as goal

-- what each call gives at its number, if it keeps I, is so of each element
from_fn_each : {F B : Type 0} (g : Mut F (ℕ × Unit {0}) B) (I : F → Type 0) (P : ℕ → B → Type 0) →
    ((s : F) (i : ℕ) (y : B) (q : F) → I s → Called g s (i, tt) y q → P i y × I q) →
    (n i : ℕ) (f : F) (ys : List B) → I f → IsFromFnResultFrom g f ys i n → (k : ℕ) → i ≤ k → k < i + n → (d : B) → P k (get_or ys k d)
from_fn_each g I P step zero i f ys start r k low high d = absurd (omega arith)
from_fn_each g I P step (suc n) i f ys start r k low high d =
    let here = step f i r.1 r.0 start r.3 in
    ⊎_elim
    (λ (e : k ≡ i). subst (λ j. P j (get_or ys j d)) (sym e) (subst (P i) (sym (r.2.1 d)) here.0))
    (λ ne. from_fn_each g I P step n (i + 1) r.0 ys here.1 r.4 k (omega (arith, ne)) (omega arith) d)
    (cases_eq k i)

pub returns : goal.returns
returns g c = λ d.
    let ds = g.B.Bus.drives c.args.bus.now in
    let few = (g.met.B.Bus.sound c.args.bus.now).few in
    ⊎_elim
    (λ (l : d < 16). from_fn_each _ (λ f. f.0.now ≡ c.args.bus.now) (λ i y. y ≡ (at ds i).broken) (λ s i y q is r. search rules) 16 0 _ c.from_fn.result refl c.from_fn.ensures.items.each d (omega arith) (omega arith) true)
    (λ (l : 16 ≤ d). get_or_past c.from_fn.result d true (omega (arith, c.from_fn.ensures.items.long)) ∙ sym (ap (λ (x : Drive). x.broken) (get_or_past ds d absent (omega arith))))
    (cases_lt d 16)
