use Rattle.std.proofs.Common.{vec_items}
use Rattle.std.proofs.lemmas.Result.{err_from_is_err_and}
use Rattle.jowlspur.proofs.Parsing.{extended_ok, word_refused}
use Rattle.jowlspur.proofs.request.add_word.Goals as goal

pub returns : goal.returns
returns c =
    let h = c.in_ok-add_bytes.ensures in
    extended_ok _ _ h.0 _ h.1 h.2 h.3

pub returns-in_err-add_bytes : goal.returns-in_err-add_bytes
returns-in_err-add_bytes c =
    let p = err_from_is_err_and c.from_residual.result c.from_residual.ensures.1 in
    rw (p.1, p.2) (word_refused (vec_items c.args.bytes.now) c.args.word.now _ _ c.in_err-add_bytes.ensures)
