use Rattle.std.proofs.Common.{◌≡◌, Some, None, vec_items, sym, ap, ◌∙◌, inl, inr, ⊎_elim, arith}
use Rattle.std.proofs.lemmas.Result.{err_from_is_err_and}
use Rattle.script.specs.Lines.{words}
use Rattle.script.specs.declared.line.Words.{Words}
use Rattle.jowlspur.specs.declared.wrong.Wrong.TheVariants.{Missing}
use Rattle.jowlspur.specs.Language.{extended_all}
use Rattle.jowlspur.proofs.Parsing.{bytes_none, bytes_begun, bytes_refused, all_refused, all_done, handed_on}
use Rattle.jowlspur.proofs.request.Line.rest_bytes.Goals as goal

pub returns-in_err-first : goal.returns-in_err-first
returns-in_err-first c =
    let none : c.next.result ≡ None = grind arith in
    let fault : c.in_err-first.field-0.0 ≡ Missing = grind (arith, none) in
    let p = err_from_is_err_and c.from_residual.result c.from_residual.ensures.1 in
    handed_on _ c.from_residual.result _ p.0 _ p.1 (p.2 ∙ fault) (inl (bytes_none _ (rw none at c.next.ensures.steps).0.0))

pub returns-in_err-add_word : goal.returns-in_err-add_word
returns-in_err-add_word c =
    let some : c.next.result ≡ Some c.in_ok-first.first = grind arith in
    let p = err_from_is_err_and c.from_residual-in_err-add_word.result c.from_residual-in_err-add_word.ensures.1 in
    handed_on _ c.from_residual-in_err-add_word.result _ p.0 _ p.1 p.2
    (⊎_elim (λ e. inl (bytes_refused _ _ _ (rw some at c.next.ensures.steps).0 _ _ c.new-bytes.ensures.items e)) inr c.in_err-add_word.ensures)

pub returns-in_err-add_word-2 : goal.returns-in_err-add_word-2
returns-in_err-add_word-2 c =
    let some : c.next.result ≡ Some c.in_ok-first.first = grind arith in
    let p = err_from_is_err_and c.from_residual-in_err-add_word-2.result c.from_residual-in_err-add_word-2.ensures.1 in
    let begun = bytes_begun _ _ _ (rw some at c.next.ensures.steps).0 _ _ c.new-bytes.ensures.items c.in_ok-add_word.ensures in
    let on = ap (λ (v : Words). words v.rest.now) c.into_iter-word-iterator.ensures.into_iter_gives in
    handed_on _ c.from_residual-in_err-add_word-2.result _ p.0 _ p.1 p.2
    (⊎_elim (λ e. inl (begun ∙ ap (λ ws. extended_all (vec_items c.add_word.new.bytes) ws) (sym on) ∙ c.loop-word.invariant ∙ all_refused _ _ _ c.in-Some.ensures.steps.0 _ _ e)) inr c.in_err-add_word-2.ensures)

pub returns : goal.returns
returns c =
    let some : c.next.result ≡ Some c.in_ok-first.first = grind arith in
    let begun = bytes_begun _ _ _ (rw some at c.next.ensures.steps).0 _ _ c.new-bytes.ensures.items c.in_ok-add_word.ensures in
    let on = ap (λ (v : Words). words v.rest.now) c.into_iter-word-iterator.ensures.into_iter_gives in
    begun ∙ ap (λ ws. extended_all (vec_items c.add_word.new.bytes) ws) (sym on) ∙ c.loop-word.invariant ∙ all_done _ _ c.in-None.ensures.steps.0.0
