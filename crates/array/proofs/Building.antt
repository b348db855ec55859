-- A group built from extents.
use Rattle.std.proofs.Common.{◌≡◌, ℕ, ◌<◌, ◌≤◌, List, map, length, take, Ok, Err, Result, Some, None, Option, IsOk, refl, sym, ap, ◌∙◌, ⊎_elim, arith}
use Rattle.std.proofs.lemmas.List.{get_or_past, get_or-take, get_or-map, length-map, length-take-le, ext_get_or}
use Rattle.std.proofs.lemmas.Bool.{cases_lt}
use Rattle.bus.specs.Drives as Drives
use Rattle.bus.specs.Drives.{Drive}
use Rattle.layout.specs.declared.extent.ExtentRow.{ExtentRow}
use Rattle.layout.specs.declared.geometry.Geometry.{Geometry}
use Rattle.layout.specs.declared.refusal.Refusal.{Refusal}
use Rattle.layout.specs.declared.refusal.Refusal.TheVariants.{OutOfRule, Outside}
use Rattle.layout.specs.Extents.{Sound}
use Rattle.layout.specs.Refusals.{AnsweredBoth}
use Rattle.group.specs.declared.member.Member.{Member}
use Rattle.group.specs.Group.{nobody}
use Rattle.group.specs.Filling.{no_extent, extent}
use Rattle.group.specs.Making.{Fits, MadeTo, whole_member}
use Rattle.group.specs.Record.{members_of}
use Rattle.std.specs.Option.{ok_or}
use Rattle.array.specs.declared.kind.MethodKind.{MethodKind}
use Rattle.array.specs.declared.kind.UnknownMethod.{UnknownMethod}
use Rattle.array.specs.declared.slot.GroupSlot.{GroupSlot}
use Rattle.array.specs.Configuration.{rows_in}
use Rattle.array.specs.Checks.{EachExtent, GroupFields}
use Rattle.array.specs.Planning.{Built, Lying}

-- what holds is not refused
pub answered : {V : Type 0} (P Q : Type 0) (R : V → Type 0) (r : Result V Refusal) → P → Q → AnsweredBoth P Q R r → IsOk r
answered P Q R (Ok v) p q h = refl
answered P Q R (Err OutOfRule) p q h = absurd (h p)
answered P Q R (Err Outside) p q h = absurd (h.1 q)

-- the method of a code
pub kind_named : (o : Option MethodKind) (kind : MethodKind) (u : UnknownMethod) → Ok kind ≡ ok_or o u → o ≡ Some kind
kind_named None kind u e = absurd (cc)
kind_named (Some k) kind u e = cc

-- sound extents that have rows have no more than a drive has blocks
pub rows_few : (es : List ExtentRow) → 1 ≤ rows_in es → EachExtent es Sound → rows_in es ≤ 65536
rows_few es some sound =
    ⊎_elim
    (λ (h : 0 < length es). omega (arith, (sound 0 h).ends))
    (λ (h : length es ≤ 0). omega (arith, ap (λ (e : ExtentRow). e.count) (get_or_past es 0 no_extent h), some))
    (cases_lt 0 (length es))

module _ (ms : List Member) (es : List ExtentRow) (sound : EachExtent es Sound) (made : MadeTo es ms (length es)) where
  -- there are no fewer members than extents, since a member of an extent has a mark
  enough_members : length es ≤ length ms
  enough_members =
      ⊎_elim
      (λ (h : length ms < length es).
      let mark = ap (λ (m : Member). m.mark) (sym (get_or_past ms (length ms) nobody (omega arith)) ∙ made (length ms) h) in
      absurd (omega (arith, (sound (length ms) h).some, mark)))
      (λ (h : length es ≤ length ms). h)
      (cases_lt (length ms) (length es))

  pub members_made : (n : ℕ) → n ≡ length es → take n ms ≡ map whole_member es
  members_made n many =
      let count : length (take n ms) ≡ n = length-take-le n ms (omega (arith, enough_members)) in
      ext_get_or nobody (take n ms) (map whole_member es) (count ∙ many ∙ sym (length-map es whole_member)) (λ i h.
      let l : i < n = omega (arith, count) in
      let k : i < length es = omega (arith, many) in
      get_or-take n ms i nobody l ∙ made i k ∙ sym (get_or-map whole_member es i no_extent nobody k))

pub built : (s : GroupSlot) (g k : ℕ) (es : List ExtentRow) (a : Geometry) → EachExtent es Sound → Fits es a → s.group.number ≡ g → s.group.geometry ≡ a →
    MadeTo es s.group.members a.members → a.depth ≡ k → a.rows ≡ rows_in es → Built s.kind g k es s
built s g k es a sound fits number shape made depth rows =
    let many : s.group.geometry.members ≡ length es = ap (λ (v : Geometry). v.members) shape ∙ sym fits.many in
    let members : members_of s.group ≡ map whole_member es = members_made s.group.members es sound (λ i h. made i (omega (arith, fits.many))) s.group.geometry.members many in
    record {
      apart = λ i j lt h. fits.all.apart i j lt (omega (arith, fits.many));
      number = number;
      view = let d : s.group.geometry.depth ≡ k = ap (λ (v : Geometry). v.depth) shape ∙ depth in let r : s.group.geometry.rows ≡ rows_in es = ap (λ (v : Geometry). v.rows) shape ∙ rows in cc;
    }

-- extents of rows that lie on the drives of a bus are sound
pub sound_extents : (m : List Drive) (kind : MethodKind) (k : ℕ) (es : List ExtentRow) → Drives.Sound m → GroupFields kind k es → Lying m es → EachExtent es Sound
sound_extents m kind k es bus fields lying i h = record {
  some = omega (arith, fields.fits.least_rows, fields.equal i h);
  ends = omega (arith, lying.inside i h, bus.small (extent es i).drive (lying.on_bus i h));
}
