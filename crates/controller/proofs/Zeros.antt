-- Rows of zeros, by every method.
use Rattle.std.proofs.Common.{◌≡◌, ℕ, suc, ◌+◌, ◌/◌, ◌%◌, ◌<◌, ◌≤◌, List, [], ◌∷◌, map, length, get_or, sym, ap, ◌∙◌, subst, ⊎_elim, not-suc-le-zero, arith, lit≤}
use Rattle.std.proofs.lemmas.List.{length-replicate, get_or-replicate, get_or_past, get_or-map, length-map}
use Rattle.std.proofs.lemmas.Bool.{cases_lt}
use Rattle.bus.specs.Drives.{Drive, block}
use Rattle.layout.specs.declared.extent.ExtentRow.{ExtentRow}
use Rattle.layout.specs.Blocks.{xor, xor_all, Whole}
use Rattle.layout.specs.XorBytes as bytes
use Rattle.layout.specs.PutIn.{insert_each}
use Rattle.group.specs.Group.{nobody, member, held}
use Rattle.group.specs.Filling.{zeros, no_extent, extent}
use Rattle.group.specs.Making.{whole_member}
use Rattle.group.proofs.Frames.{one_member}
use Rattle.array.specs.declared.kind.MethodKind.{MethodKind}
use Rattle.array.specs.declared.kind.MethodKind.TheVariants.{NoRedundancy, Copy, Xor}
use Rattle.array.specs.Kinds.{method}
use Rattle.array.specs.Configuration.{GroupConfig}
use Rattle.array.specs.Places.{count_of, width_of}
use Rattle.array.specs.Calls.{Holds}
use Rattle.array.proofs.Soundness.{method_sound}

pub zero_byte : (j : ℕ) → get_or zeros j 0 ≡ 0
zero_byte j =
    ⊎_elim (λ (l : j < 512). get_or-replicate 512 j 0 0 l) (λ (l : 512 ≤ j). get_or_past zeros j 0 (subst (λ (n : ℕ). n ≤ j) (sym (length-replicate {A = ℕ} 512 0)) l)) (cases_lt j 512)

pub zero_whole : Whole zeros
zero_whole = record { long = length-replicate {A = ℕ} 512 0; bytes = λ j. let e = zero_byte j in omega arith }

-- the exclusive or of blocks of zeros
pub zero_all : (us : List (List ℕ)) → 1 ≤ length us → ((p : ℕ) → p < length us → get_or us p [] ≡ zeros) → xor_all us ≡ zeros
zero_all [] h z = absurd (not-suc-le-zero h)
zero_all (u ∷ []) h z = bytes.nil_r u ∙ z 0 (omega arith)
zero_all (u ∷ v ∷ vs) h z =
    ap (λ (x : List ℕ). xor x (xor_all (v ∷ vs))) (z 0 (omega arith))
    ∙ ap (xor zeros) (zero_all (v ∷ vs) (omega arith) (λ p l. z (suc p) (omega arith)))
    ∙ bytes.zeros 512 zeros (omega (arith, zero_whole.long))

pub zero_row : (k : MethodKind) (n t : ℕ) (us : List (List ℕ)) → (method k).LEAST ≤ n → n ≤ 8 → length us ≡ (method k).width n →
    ((p : ℕ) → p < (method k).width n → get_or us p [] ≡ zeros) → (i : ℕ) → i < n → get_or ((method k).row n t us) i [] ≡ zeros
zero_row NoRedundancy n t us few many long z i h = z i h
zero_row Copy n t us few many long z i h = get_or-replicate n i (get_or us 0 []) [] h ∙ z 0 (lit≤ tt)
zero_row Xor n t us few many long z i h =
    insert_each (λ (b : List ℕ). b ≡ zeros) (t % n) (xor_all us) us []
    (zero_all us (omega arith) (λ p l. z p (omega arith))) (λ p l. z p (omega arith)) i (omega arith)

-- A row whose members all hold zeros holds user blocks of zeros.
pub zero_holds : (n : List Drive) (g : GroupConfig) (r : ℕ) (us : List (List ℕ)) → (method g.kind).LEAST ≤ count_of g → count_of g ≤ 8 →
    length us ≡ width_of g → ((p : ℕ) → p < width_of g → get_or us p [] ≡ zeros) → ((i : ℕ) → i < count_of g → held n r (member g.members i) ≡ zeros) → Holds n g r us
zero_holds n g r us few many long z h =
    let s = method_sound g.kind in
    record {
      user = λ p l e. h _ (s.inside (count_of g) (r / g.depth) p (one_member (method g.kind) s few) many l) ∙ sym (z p l);
      whole = λ fine i l e. h i l ∙ sym (zero_row g.kind (count_of g) (r / g.depth) us few many long z i l);
    }

-- the same of a new group, whose members are those of the extents es
pub new_member : (es : List ExtentRow) (i : ℕ) → i < length es → member (map whole_member es) i ≡ whole_member (extent es i)
new_member es i l = get_or-map whole_member es i no_extent nobody l

pub zero_new : (n : List Drive) (k : MethodKind) (depth rows r : ℕ) (es : List ExtentRow) (us : List (List ℕ)) → (method k).LEAST ≤ length es → length es ≤ 8 →
    length us ≡ (method k).width (length es) → ((p : ℕ) → p < (method k).width (length es) → get_or us p [] ≡ zeros) →
    ((i : ℕ) → i < length es → block n (extent es i).drive ((extent es i).start + r) ≡ zeros) →
    Holds n (record { kind = k; depth = depth; rows = rows; members = map whole_member es }) r us
zero_new n k depth rows r es us few many long z h =
    let e : length (map whole_member es) ≡ length es = length-map es whole_member in
    zero_holds n (record { kind = k; depth = depth; rows = rows; members = map whole_member es }) r us (omega arith) (omega arith)
    (long ∙ ap (method k).width (sym e)) (λ p l. z p (subst (λ (j : ℕ). p < (method k).width j) e l))
    (λ i l. ap (held n r) (new_member es i (omega arith)) ∙ h i (omega arith))
