use Rattle.std.proofs.Common.{◌≡◌, ℕ, ◌%◌, List, [], get_or, set, sym, ap, ◌∙◌, subst}
use Rattle.std.proofs.lemmas.Bool.{eqb-true}
use Rattle.layout.specs.Blocks.{Whole, xor}
use Rattle.layout.specs.Methods.{xor_row}
use Rattle.layout.specs.XorLaw.{xor_update}
use Rattle.layout.proofs.parity.ParityMethod.update.Goals as goal

pub returns : goal.returns
returns c = λ few many user member check w us u e f.
    let n = c.args._n in
    let t = c.args._t in
    let m : c.args._m ≡ t % n = eqb-true c.args._m (t % n) check in
    let new = c.args.new.now in
    c.xor_block-2.ensures ∙ ap (λ (b : List ℕ). xor b new) c.xor_block.ensures
    ∙ xor_update n t us few u c.args._p c.args.old.now new c.args.block.now user e (subst Whole e (u.whole c.args._p user)) w
    (ap (λ (i : ℕ). get_or (xor_row n t us) i []) (sym m) ∙ f)
    ∙ ap (λ (i : ℕ). get_or (xor_row n t (set us c.args._p new)) i []) (sym m)
