use Rattle.std.proofs.Common.{◌≡◌, ℕ, List, length, vec_items, sym, ap, ◌∙◌, subst, rules}
use Rattle.std.specs.Vec.{with_items}
use Rattle.std.proofs.lemmas.List.{with_items_is}
use Rattle.controller.specs.State.{Entry}
use Rattle.controller.specs.Law.{Goes}
use Rattle.controller.proofs.Running.{entry_by}
use Rattle.controller.proofs.run.turn.Goals as goal

pub returns-clause-turned : goal.returns-clause-turned
returns-clause-turned g c =
    let m = g.B.Bus.drives c.args.bus.now in
    let n = g.B.Bus.drives c.perform-answer.new.bus in
    let kept : vec_items c.in_ok-buffer.buffer ≡ c.args.request.buffer.now = c.in_ok-buffer.ensures.items_if_clones_equal (λ x y h. h) in
    let copied : vec_items c.in_ok-left.left ≡ c.args.request.buffer.now = c.in_ok-left.ensures.items_if_clones_equal (λ x y h. h) in
    let long : length c.perform-answer.new.buf ≡ c.in_ok-left.left.len = search rules in
    record {
      question = ap (λ (b : List ℕ). record { call = c.args.request.call; buffer = b }) kept;
      goes = subst (λ (e : Entry). Goes e c.args.array.now c.perform-answer.new.array m n)
          (entry_by c.args.request.call c.perform-answer.result m n c.deref_mut.result.now c.perform-answer.new.buf (vec_items c.in_ok-buffer.buffer)
          (vec_items (with_items c.in_ok-left.left c.perform-answer.new.buf)) c.marks-before.result c.marks-after.result
          (c.deref_mut.ensures.value ∙ copied ∙ sym kept) (sym (with_items_is c.in_ok-left.left c.perform-answer.new.buf long)) c.marks-before.ensures c.marks-after.ensures)
          c.perform-answer.ensures;
    }
