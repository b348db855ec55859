use Rattle.std.proofs.Common.{◌≡◌, ◌≤◌, ℕ, suc, zero, min, List, [], ◌∷◌, ◌++◌, length, take, drop, refl, sym, ap, ◌∙◌, arith, length-take, bit_xor}
use Rattle.std.proofs.lemmas.List.{take_all}
use Rattle.layout.specs.Blocks.{xor, mixed}
use Rattle.layout.specs.XorBytes.{nil_r, xor_step}
use Rattle.layout.proofs.block.xor_into.Goals as goal

-- as many bytes as both have are mixed, and those of d beyond stay
front : (n : ℕ) (d s : List ℕ) → n ≡ min (length d) (length s) → xor (take n d) (take n s) ++ drop n d ≡ mixed d s
front zero [] s e = refl
front zero (x ∷ d) [] e = refl
front zero (x ∷ d) (y ∷ s) e = absurd (omega arith)
front (suc n) [] s e = absurd (omega arith)
front (suc n) (x ∷ d) [] e = absurd (omega arith)
front (suc n) (x ∷ d) (y ∷ s) e = ap (λ l. bit_xor x y ∷ l) (front n d s (omega arith))

pub loop-i-init : goal.loop-i-init
loop-i-init c = sym (nil_r (take c.min-n.result c.args.dst.now))

pub loop-i-preserved : goal.loop-i-preserved
loop-i-preserved c =
    let n = c.min-n.result in
    xor_step c.loop-i.byte-items (take n c.args.dst.now) (take n c.args.src.now) c.loop-i.i c.loop-i.invariant c.loop-i-test.true

pub returns : goal.returns
returns c =
    let n = c.min-n.result in
    let dst = c.args.dst.now in
    let src = take n c.args.src.now in
    let all : length src ≤ c.loop-i.i = omega (arith, length-take n dst, length-take n c.args.src.now, c.min-n.ensures) in
    ap (λ l. l ++ drop n dst) (c.loop-i.invariant ∙ ap (xor (take n dst)) (take_all c.loop-i.i src all)) ∙ front n dst c.args.src.now c.min-n.ensures
