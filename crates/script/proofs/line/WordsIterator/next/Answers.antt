use Rattle.std.proofs.Common.{◌≡◌, ◌∷◌, ◌+◌, length, rules, sym, ap, ◌∙◌, arith, true-eqb, false-eqb}
use Rattle.script.specs.Kinds.{blank, solid}
use Rattle.script.specs.Lines.{words}
use Rattle.script.proofs.Wording.{next_some, next_none}
use Rattle.script.proofs.line.WordsIterator.next.Goals as goal

pub returns-then-is_empty-clause-steps : goal.returns-then-is_empty-clause-steps
returns-then-is_empty-clause-steps c =
    let skipped = c.leading.ensures.count blank (λ x r k. search rules) in
    let long = c.leading-2.ensures.count solid (λ x r k. search rules) in
    let none = sym c.split_at-2.ensures.front_len ∙ true-eqb _ 0 c.if-is_empty.ensures in
    (next_none _ _ c.split_at-2.result.0.now _ _ _ skipped c.split_at.ensures.back long c.split_at-2.ensures.back none, omega arith)

pub returns-else-is_empty : goal.returns-else-is_empty
returns-else-is_empty c =
    let skipped = c.leading.ensures.count blank (λ x r k. search rules) in
    let long = c.leading-2.ensures.count solid (λ x r k. search rules) in
    let some = false-eqb _ 0 c.if-is_empty.ensures in
    let first : words c.args.self.now.rest.now ≡ c.split_at-2.result.0.now ∷ words c.split_at-2.result.1.now =
    next_some _ _ _ _ _ _ skipped c.split_at.ensures.back long c.split_at-2.ensures.front c.split_at-2.ensures.back (omega (arith, some)) in
    let fewer : length (words c.args.self.now.rest.now) ≡ length (words c.split_at-2.result.1.now) + 1 = ap length first ∙ omega arith in
    record {
      steps = (first, (omega (arith, some), omega (arith, some)));
      goes = record { on = λ _. (tt, tt, omega (arith, fewer)); keeps = tt; rests = λ _. tt };
    }
