-- Counting marks.
use Rattle.std.proofs.Common.{◌≡◌, ℕ, zero, suc, ◌<◌, ◌≤◌, Bool, true, false, cond, Option, None, Some, MatchOption, List, [], ◌∷◌, length, get_or, filter, map, set, refl, ap, ◌∙◌, arith}
use Rattle.std.specs.List.{HoldsAt, AllWithin}
use Rattle.std.proofs.lemmas.List.{get_or-map, length-map}
use Rattle.std.proofs.lemmas.Bool.{true≢false, false≢true}
use Rattle.bus.specs.Drives.{Drive}
use Rattle.layout.specs.Blocks.{missing_count}
use Rattle.group.specs.declared.member.Member.{Member}
use Rattle.group.specs.Group.{nobody, member, missing, missings}

-- each mark of o is one of p
pub missing_count_within : (o p : List Bool) → length o ≡ length p → ((k : ℕ) → k < length o → get_or o k true ≡ true → get_or p k true ≡ true) → missing_count o ≤ missing_count p
missing_count_within [] p e h = omega arith
missing_count_within (b ∷ o) [] e h = absurd (omega arith)
missing_count_within (true ∷ o) (true ∷ p) e h = let r = missing_count_within o p (omega arith) (λ k l. h (suc k) (omega arith)) in omega arith
missing_count_within (true ∷ o) (false ∷ p) e h = absurd (false≢true (h 0 (omega arith) refl))
missing_count_within (false ∷ o) (true ∷ p) e h = let r = missing_count_within o p (omega arith) (λ k l. h (suc k) (omega arith)) in omega arith
missing_count_within (false ∷ o) (false ∷ p) e h = let r = missing_count_within o p (omega arith) (λ k l. h (suc k) (omega arith)) in omega arith

pub missing_count_set : (o : List Bool) (i : ℕ) → missing_count (set o i false) ≤ missing_count o
missing_count_set [] i = omega arith
missing_count_set (true ∷ o) zero = omega arith
missing_count_set (false ∷ o) zero = omega arith
missing_count_set (true ∷ o) (suc i) = let r = missing_count_set o i in omega arith
missing_count_set (false ∷ o) (suc i) = let r = missing_count_set o i in omega arith

-- counted by a test, or in the marks of it
counted_more : {X : Type 0} (b : Bool) (x : X) (ys : List X) (o : List Bool) → length ys ≡ missing_count o → length (cond b (x ∷ ys) ys) ≡ missing_count (b ∷ o)
counted_more true x ys o e = ap suc e
counted_more false x ys o e = e

pub counted : {X : Type 0} (p : X → Bool) (xs : List X) → length (filter p xs) ≡ missing_count (map p xs)
counted p [] = refl
counted p (x ∷ xs) = counted_more (p x) x (filter p xs) (map p xs) (counted p xs)

pub none_missing : (o : List Bool) → ((k : ℕ) → k < length o → get_or o k true ≡ false) → missing_count o ≡ 0
none_missing [] h = refl
none_missing (true ∷ o) h = absurd (true≢false (h 0 (omega arith)))
none_missing (false ∷ o) h = none_missing o (λ k l. h (suc k) (omega arith))

pub no_member_missing : (m : List Drive) (r : ℕ) (gs : List Member) → ((k : ℕ) → k < length gs → missing m r (member gs k) ≡ false) → missing_count (missings m r gs) ≡ 0
no_member_missing m r gs h =
    let long : length (missings m r gs) ≡ length gs = length-map gs (missing m r) in
    none_missing (missings m r gs) (λ k l. get_or-map (missing m r) gs k nobody true (omega arith) ∙ h k (omega arith))

-- the first that is missing, or none is
pub first_gone : (m : List Drive) (r : ℕ) (gs : List Member) (x : Option ℕ) →
    MatchOption x (AllWithin (λ g. missing m r g ≡ false) gs 0 (length gs)) (λ i. (i < length gs) × HoldsAt (λ g. missing m r g ≡ true) gs i × AllWithin (λ g. missing m r g ≡ false) gs 0 i) →
    MatchOption x (missing_count (missings m r gs) ≡ 0) (λ i. (i < length gs) × (missing m r (member gs i) ≡ true))
first_gone m r gs None h = no_member_missing m r gs (λ k l. h k nobody (omega arith) l)
first_gone m r gs (Some i) h = (h.0, h.1 nobody)
