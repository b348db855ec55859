use Rattle.std.proofs.Common.{◌≡◌, ℕ, ◌<◌, ◌≤◌, true, false, Option, Some, None, MatchOption, ⊎_elim, rules, arith}
use borrow.Author.Tests.{tests}
use Rattle.std.proofs.lemmas.Bool.{cases_Bool}
use Rattle.std.proofs.lemmas.Iterator.{first_from_Range}
use Rattle.layout.specs.declared.method.Method.{Ghosts}
use Rattle.layout.specs.Methods.{Sound, capped}
use Rattle.layout.proofs.geometry.slot_at.Goals as goal

-- from the first p whose home, as far as a `usize` holds it, is i
slot : {X : Type 0} (m : Ghosts X) (s : Sound m.LEAST m.width m.cycle m.home m.check m.row m.tolerance) (n t i w : ℕ) → 1 ≤ n → n ≤ 8 → i < n → w ≡ m.width n →
    (r : Option ℕ) → MatchOption r ((k : ℕ) → 0 ≤ k → k < w → capped (m.home n t k) ≡ i → ⊥) (λ p. (0 ≤ p) × (p < w) × (capped (m.home n t p) ≡ i) × ((k : ℕ) → 0 ≤ k → k < p → capped (m.home n t k) ≡ i → ⊥)) →
    MatchOption r (m.check n t i ≡ true) (λ p. (p < m.width n) × (m.home n t p ≡ i))
slot m s n t i w one few inside e None none =
    ⊎_elim (λ (k : m.check n t i ≡ true). k)
    (λ (k : m.check n t i ≡ false). let p = s.covered n t i one few inside k in absurd (none p.0 (omega arith) (omega (arith, p.1)) (omega (arith, p.2))))
    (cases_Bool (m.check n t i))
slot m s n t i w one few inside e (Some p) h =
    let lt : p < m.width n = omega (arith, h.1) in (lt, omega (arith, h.2, s.inside n t p one few lt))

pub returns : goal.returns
returns g c =
    let n = c.args.n in
    let t = c.args.t in
    let m = c.args.m in
    slot g.M.Method g.met.M.Method.sound n t m c.width_of.result (omega arith) (omega arith) (omega arith) c.width_of.ensures c.find.result
    (first_from_Range _ _ _ c.find.result (λ p. capped (g.M.Method.home n t p) ≡ m) (λ p. capped (g.M.Method.home n t p) ≡ m → ⊥) c.find.ensures.ran
    (λ x q k. search (rules, tests)) (λ x q k. search (rules, tests)))
