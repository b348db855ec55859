use Rattle.std.proofs.Common.{◌≡◌, ◌%◌, ◌&&◌, length, rules, sym, ap, ◌∙◌}
use borrow.Author.Tests.{tests}
use Rattle.std.specs.Char.{is_ascii_hexdigit}
use Rattle.std.specs.List.{list_all}
use Rattle.std.proofs.lemmas.Bool.{eq-eqb, ne_eqb}
use Rattle.std.proofs.lemmas.Iterator.{YieldsList-from_slice}
use Rattle.std.proofs.lemmas.Iterator.Search.{all_from_yields_List}
use Rattle.script.proofs.Spelt.{plain_test}
use Rattle.script.proofs.bytes.is_plain.Goals as goal

pub returns-then-word-eq0 : goal.returns-then-word-eq0
returns-then-word-eq0 c =
    let w = c.args.word.now in
    let digits : c.all.result ≡ list_all is_ascii_hexdigit w = all_from_yields_List is_ascii_hexdigit _ _ c.all.result c.all.ensures.ran (YieldsList-from_slice w cc) (λ x b q k. search (rules, tests)) in
    digits ∙ sym (plain_test w ∙ ap (λ b. b && list_all is_ascii_hexdigit w) (eq-eqb (length w % 2) 0 c.if-word-eq0.true))

pub returns-else-word-eq0 : goal.returns-else-word-eq0
returns-else-word-eq0 c =
    let w = c.args.word.now in
    let odd = ne_eqb (length w % 2) 0 c.if-word-eq0.false in
    odd ∙ sym (plain_test w ∙ ap (λ b. b && list_all is_ascii_hexdigit w) odd)
