use Rattle.std.proofs.Common.{◌≡◌, ℕ, [], length, get_or, replicate, ap, ◌∙◌, rules, arith}
use Rattle.std.proofs.lemmas.List.{ext_get_or}
use Rattle.layout.specs.Blocks.{first_present}
use Rattle.layout.specs.CopyLaw.{copy_found}
use Rattle.layout.specs.Marks.{some_present}
use Rattle.layout.proofs.mirror.MirrorMethod.recover.Goals as goal

pub returns-then-from-blocks : goal.returns-then-from-blocks
returns-then-from-blocks c = λ enough us u agree.
    let bs = c.args.blocks.now in
    let n = length bs in
    let s = some_present c.args.missing.now (omega arith) in
    let e : c.unwrap_or-from.result ≡ first_present c.args.missing.now = search rules in
    let filled : c.fill.new.self ≡ replicate n (get_or bs c.unwrap_or-from.result []) = c.fill.ensures.after (λ y h. ext_get_or 0 y (get_or bs c.unwrap_or-from.result []) (search rules) (λ k lt. h.at k 0 0 (omega (arith, h.long)))) in
    let found = copy_found n c.args._t us c.args.missing.now bs enough.least_members (omega arith) enough.marked enough.few agree in
    filled ∙ ap (replicate n) (ap (λ (i : ℕ). get_or bs i []) e ∙ found)

pub returns-else-from-blocks : goal.returns-else-from-blocks
returns-else-from-blocks c = λ enough us u agree.
    let s = some_present c.args.missing.now (omega arith) in
    let e : c.unwrap_or-from.result ≡ first_present c.args.missing.now = search rules in
    absurd (omega arith)
