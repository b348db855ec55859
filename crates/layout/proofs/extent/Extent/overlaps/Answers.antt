use Rattle.std.proofs.Common.{refl, sym, ◌∙◌, arith}
use Rattle.std.proofs.lemmas.Bool.{eqb-true, ltb-true}
use Rattle.layout.proofs.Overlaps.{overlap_test}
use Rattle.layout.proofs.extent.Extent.overlaps.Goals as goal
use Rattle.layout.proofs.extent.Extent.overlaps.Goals.{then-self-other, else-self-other}

pub returns-then-end-other : goal.returns-then-end-other
returns-then-end-other c =
    elim c.if-self-other.branch [
      | then-self-other w ↦
          overlap_test c.args.self.now.row c.args.other.now.row _ _ c.end-then-end-other.ensures refl w.if-self-other.true (omega arith) (omega arith)
          (let past = ltb-true _ _ (sym w.value-is ∙ c.if-end-other.true) in omega (arith, w.end.ensures))
      | else-self-other w ↦ absurd (w.if-self-other.false (eqb-true _ _ (sym w.value-is ∙ c.if-end-other.true)))
    ]
