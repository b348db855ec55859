use Rattle.std.proofs.Common.{◌++◌, map, vec_items, sym, refl, ap, ◌∙◌, append-nil}
use Rattle.std.proofs.lemmas.List.{at_drop_all}
use Rattle.script.proofs.Spelt.{pair_of, paired_chunks}
use Rattle.script.proofs.bytes.push_pairs.Goals as goal

pub returns : goal.returns
returns c =
    let pairs = c.as_chunks.result.0.now in
    let was = vec_items c.args.out.now in
    sym (append-nil (vec_items c.loop-high.out)) ∙ sym (at_drop_all (λ l. vec_items c.loop-high.out ++ map pair_of l) pairs c.loop-high.high-index c.loop-high-test.false) ∙ c.loop-high.invariant.0
    ∙ ap (λ l. was ++ map pair_of l) c.as_chunks.ensures.front ∙ ap (λ l. was ++ l) (paired_chunks _ c.args.digits.now refl)
