use Rattle.std.proofs.Common.{◌≡◌, ◌≤◌, ℕ, List, [], length, set, replicate, sym, ap, ◌∙◌, rules, arith}
use Rattle.std.proofs.lemmas.List.{set_past}
use Rattle.layout.specs.Blocks.{xor, xor_all, first_missing}
use Rattle.layout.specs.XorLaw.{xor_fixed}
use Rattle.layout.proofs.parity.ParityMethod.recover.Goals as goal

-- the row with the member i filled in
abbrev put : List (List ℕ) → ℕ → List (List ℕ)
put bs i = set bs i (xor (replicate 512 0) (xor_all (set bs i [])))

pub returns-then-m-blocks : goal.returns-then-m-blocks
returns-then-m-blocks c = λ enough us u agree.
    let bs = c.args.blocks.now in
    let e : c.unwrap_or-m.result ≡ first_missing c.args.missing.now = search (rules, arith) in
    ap (set bs c.unwrap_or-m.result) c.xor_others-block.ensures ∙ ap (put bs) e
    ∙ xor_fixed (length bs) c.args._t us enough.least_members u c.args.missing.now bs (omega arith) enough.marked enough.few agree

pub returns-else-m-blocks : goal.returns-else-m-blocks
returns-else-m-blocks c = λ enough us u agree.
    let bs = c.args.blocks.now in
    let past : length bs ≤ first_missing c.args.missing.now = search (rules, arith) in
    sym (set_past bs (first_missing c.args.missing.now) _ past)
    ∙ xor_fixed (length bs) c.args._t us enough.least_members u c.args.missing.now bs (omega arith) enough.marked enough.few agree
