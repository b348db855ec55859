use Rattle.std.proofs.Common.{codes, inl, arith}
use Rattle.std.proofs.lemmas.Slice.Eq.{text_from_reads}
use Rattle.jowlspur.proofs.Wording.{known, unknown}
use Rattle.jowlspur.proofs.request.Line.ask.Goals.{in_default-via-then-word-lt3, in_default-via-else-word-lt3+then-word-lt4+in-98+in-117+in_default-1, in_default-via-else-word-lt3+then-word-lt4+in-98+in_default-1, in_default-via-else-word-lt3+then-word-lt4+in-114+in-97+in_default-1, in_default-via-else-word-lt3+then-word-lt4+in-114+in_default-1, in_default-via-else-word-lt3+then-word-lt4+in_default-1, in_default-via-else-word-lt3+else-word-lt4+then-word-lt5+in-112+in-101+in-101-word-8+in_default-1, in_default-via-else-word-lt3+else-word-lt4+then-word-lt5+in-112+in-101+in_default-1, in_default-via-else-word-lt3+else-word-lt4+then-word-lt5+in-112+in-111+in-107+in_default-1, in_default-via-else-word-lt3+else-word-lt4+then-word-lt5+in-112+in-111+in_default-1, in_default-via-else-word-lt3+else-word-lt4+then-word-lt5+in-112+in_default-1, in_default-via-else-word-lt3+else-word-lt4+then-word-lt5+in_default-1, in_default-via-else-word-lt3+else-word-lt4+else-word-lt5+then-word-lt6+in-98+in-114+in-101+in-97+in_default-1, in_default-via-else-word-lt3+else-word-lt4+else-word-lt5+then-word-lt6+in-98+in-114+in-101+in_default-1, in_default-via-else-word-lt3+else-word-lt4+else-word-lt5+then-word-lt6+in-98+in-114+in_default-1, in_default-via-else-word-lt3+else-word-lt4+else-word-lt5+then-word-lt6+in-98+in_default-1, in_default-via-else-word-lt3+else-word-lt4+else-word-lt5+then-word-lt6+in_default-1, in_default-via-else-word-lt3+else-word-lt4+else-word-lt5+else-word-lt6+then-word-lt7+in-98+in-114+in-111+in-107+in-101+in_default-1, in_default-via-else-word-lt3+else-word-lt4+else-word-lt5+else-word-lt6+then-word-lt7+in-98+in-114+in-111+in-107+in_default-1, in_default-via-else-word-lt3+else-word-lt4+else-word-lt5+else-word-lt6+then-word-lt7+in-98+in-114+in-111+in_default-1, in_default-via-else-word-lt3+else-word-lt4+else-word-lt5+else-word-lt6+then-word-lt7+in-98+in-114+in_default-1, in_default-via-else-word-lt3+else-word-lt4+else-word-lt5+else-word-lt6+then-word-lt7+in-98+in_default-1, in_default-via-else-word-lt3+else-word-lt4+else-word-lt5+else-word-lt6+then-word-lt7+in_default-1, in_default-via-else-word-lt3+else-word-lt4+else-word-lt5+else-word-lt6+else-word-lt7}
use Rattle.jowlspur.proofs.request.Line.ask.Goals as goal

pub returns-in-break : goal.returns-in-break
returns-in-break c =
    let spelled = text_from_reads c.args.word.now (codes "break") (grind arith) (grind arith, (grind arith, (grind arith, (grind arith, (grind arith, tt))))) in
    known (codes "break") c.args.word.now _ ⊥ c.breaks.result spelled (λ x. absurd x) c.breaks.ensures

pub returns-in-broken : goal.returns-in-broken
returns-in-broken c =
    let spelled = text_from_reads c.args.word.now (codes "broken") (grind arith) (grind arith, (grind arith, (grind arith, (grind arith, (grind arith, (grind arith, tt)))))) in
    known (codes "broken") c.args.word.now _ ⊥ c.broken.result spelled (λ x. absurd x) c.broken.ensures

pub returns-in_default : goal.returns-in_default
returns-in_default c =
    elim c.in_default.branch [
      | in_default-via-then-word-lt3 w ↦ inl (unknown c.args.word.now _ (λ k. grind arith))
      | in_default-via-else-word-lt3+then-word-lt4+in-98+in-117+in_default-1 w ↦ inl (unknown c.args.word.now _ (λ k. grind arith))
      | in_default-via-else-word-lt3+then-word-lt4+in-98+in_default-1 w ↦ inl (unknown c.args.word.now _ (λ k. grind arith))
      | in_default-via-else-word-lt3+then-word-lt4+in-114+in-97+in_default-1 w ↦ inl (unknown c.args.word.now _ (λ k. grind arith))
      | in_default-via-else-word-lt3+then-word-lt4+in-114+in_default-1 w ↦ inl (unknown c.args.word.now _ (λ k. grind arith))
      | in_default-via-else-word-lt3+then-word-lt4+in_default-1 w ↦ inl (unknown c.args.word.now _ (λ k. grind arith))
      | in_default-via-else-word-lt3+else-word-lt4+then-word-lt5+in-112+in-101+in-101-word-8+in_default-1 w ↦ inl (unknown c.args.word.now _ (λ k. grind arith))
      | in_default-via-else-word-lt3+else-word-lt4+then-word-lt5+in-112+in-101+in_default-1 w ↦ inl (unknown c.args.word.now _ (λ k. grind arith))
      | in_default-via-else-word-lt3+else-word-lt4+then-word-lt5+in-112+in-111+in-107+in_default-1 w ↦ inl (unknown c.args.word.now _ (λ k. grind arith))
      | in_default-via-else-word-lt3+else-word-lt4+then-word-lt5+in-112+in-111+in_default-1 w ↦ inl (unknown c.args.word.now _ (λ k. grind arith))
      | in_default-via-else-word-lt3+else-word-lt4+then-word-lt5+in-112+in_default-1 w ↦ inl (unknown c.args.word.now _ (λ k. grind arith))
      | in_default-via-else-word-lt3+else-word-lt4+then-word-lt5+in_default-1 w ↦ inl (unknown c.args.word.now _ (λ k. grind arith))
      | in_default-via-else-word-lt3+else-word-lt4+else-word-lt5+then-word-lt6+in-98+in-114+in-101+in-97+in_default-1 w ↦ inl (unknown c.args.word.now _ (λ k. grind arith))
      | in_default-via-else-word-lt3+else-word-lt4+else-word-lt5+then-word-lt6+in-98+in-114+in-101+in_default-1 w ↦ inl (unknown c.args.word.now _ (λ k. grind arith))
      | in_default-via-else-word-lt3+else-word-lt4+else-word-lt5+then-word-lt6+in-98+in-114+in_default-1 w ↦ inl (unknown c.args.word.now _ (λ k. grind arith))
      | in_default-via-else-word-lt3+else-word-lt4+else-word-lt5+then-word-lt6+in-98+in_default-1 w ↦ inl (unknown c.args.word.now _ (λ k. grind arith))
      | in_default-via-else-word-lt3+else-word-lt4+else-word-lt5+then-word-lt6+in_default-1 w ↦ inl (unknown c.args.word.now _ (λ k. grind arith))
      | in_default-via-else-word-lt3+else-word-lt4+else-word-lt5+else-word-lt6+then-word-lt7+in-98+in-114+in-111+in-107+in-101+in_default-1 w ↦ inl (unknown c.args.word.now _ (λ k. grind arith))
      | in_default-via-else-word-lt3+else-word-lt4+else-word-lt5+else-word-lt6+then-word-lt7+in-98+in-114+in-111+in-107+in_default-1 w ↦ inl (unknown c.args.word.now _ (λ k. grind arith))
      | in_default-via-else-word-lt3+else-word-lt4+else-word-lt5+else-word-lt6+then-word-lt7+in-98+in-114+in-111+in_default-1 w ↦ inl (unknown c.args.word.now _ (λ k. grind arith))
      | in_default-via-else-word-lt3+else-word-lt4+else-word-lt5+else-word-lt6+then-word-lt7+in-98+in-114+in_default-1 w ↦ inl (unknown c.args.word.now _ (λ k. grind arith))
      | in_default-via-else-word-lt3+else-word-lt4+else-word-lt5+else-word-lt6+then-word-lt7+in-98+in_default-1 w ↦ inl (unknown c.args.word.now _ (λ k. grind arith))
      | in_default-via-else-word-lt3+else-word-lt4+else-word-lt5+else-word-lt6+then-word-lt7+in_default-1 w ↦ inl (unknown c.args.word.now _ (λ k. grind arith))
      | in_default-via-else-word-lt3+else-word-lt4+else-word-lt5+else-word-lt6+else-word-lt7 w ↦ inl (unknown c.args.word.now _ (λ k. grind arith))
    ]
