-- What the making of a group answers, from its plan and its fill.
use Rattle.std.proofs.Common.{◌≡◌, ℕ, ◌<◌, List, map, length, get_or, set, Some, None, Ok, Err, Option, sym, refl, ap, ◌∙◌, subst, inl, inr, ⊎_elim, arith}
use Rattle.std.proofs.lemmas.List.{length-map, length-set, get_or-map}
use Rattle.std.proofs.lemmas.Bool.{cases_order}
use Rattle.bus.specs.Drives.{Drive}
use Rattle.layout.specs.declared.extent.ExtentRow.{ExtentRow}
use Rattle.group.specs.declared.member.Member.{Member}
use Rattle.group.specs.Group.{nobody}
use Rattle.group.specs.Filling.{no_extent, extent, Filled}
use Rattle.group.specs.Making.{whole_member}
use Rattle.array.specs.declared.kind.MethodKind.{MethodKind}
use Rattle.array.specs.declared.refusal.Fault.{Fault}
use Rattle.array.specs.declared.refusal.Refused.{Refused}
use Rattle.array.specs.declared.slot.GroupSlot.{GroupSlot}
use Rattle.array.specs.declared.tables.Array.{Array}
use Rattle.array.specs.Kinds.{method_of}
use Rattle.array.specs.Arrays.{config}
use Rattle.array.specs.Configuration.{GroupConfig, Configuration, Unassigned, extent_at, group_view, mapped_option, new_group, rows_in, with_group}
use Rattle.array.specs.Checks.{FieldsFor}
use Rattle.array.specs.Planning.{Planned, Plans, FillsGroup}
use Rattle.array.specs.Calls.{MakesGroup, Unfilled}
use Rattle.array.proofs.Keeping.{Fields, fields_by, kept_of, group_set}
use Rattle.array.proofs.Entering.{group_made, numbered_set}

-- the extents of the new group are those that were given
pub extent_made : (o : Option MethodKind) (k : ℕ) (es : List ExtentRow) (x : GroupConfig) → FieldsFor o k es → Some x ≡ new_group o k es → (i : ℕ) → i < length es → extent_at x i ≡ extent es i
extent_made None k es x fields view i h = absurd fields
extent_made (Some kind) k es x fields view i h =
    let members : x.members ≡ map whole_member es = cc in
    let rows : x.rows ≡ rows_in es = cc in
    let here : get_or x.members i nobody ≡ whole_member (extent es i) = ap (λ (v : List Member). get_or v i nobody) members ∙ get_or-map whole_member es i no_extent nobody h in
    let count : x.rows ≡ (extent es i).count = rows ∙ sym (fields.equal i h) in
    let row : Member → ℕ → ExtentRow = λ v n. record { drive = v.drive; start = v.start; count = n } in
    ap (λ (v : Member). row v x.rows) here ∙ ap (row (whole_member (extent es i))) count

pub count_made : (o : Option MethodKind) (k : ℕ) (es : List ExtentRow) (x : GroupConfig) → FieldsFor o k es → Some x ≡ new_group o k es → length x.members ≡ length es
count_made None k es x fields view = absurd fields
count_made (Some kind) k es x fields view = let members : x.members ≡ map whole_member es = cc in ap length members ∙ length-map es whole_member

module _ {m : List Drive} {c : Configuration} {g code k : ℕ} {es : List ExtentRow} (s : GroupSlot) (plan : Planned m c g code k es s) where
  same : (i : ℕ) → i < length (group_view s).members → extent_at (group_view s) i ≡ extent es i
  same i h =
      extent_made (method_of code) k es (group_view s) plan.fields plan.view i (omega (arith, h, count_made (method_of code) k es (group_view s) plan.fields plan.view))

  pub members_unassigned : (i : ℕ) → i < length (group_view s).members → Unassigned c (extent_at (group_view s) i)
  members_unassigned i h =
      subst (λ (e : ExtentRow). Unassigned c e) (sym (same i h))
      (plan.unassigned i (omega (arith, h, count_made (method_of code) k es (group_view s) plan.fields plan.view)))

  pub drives_differ : (i j : ℕ) → i < length (group_view s).members → j < length (group_view s).members → (extent_at (group_view s) i).drive ≡ (extent_at (group_view s) j).drive → i ≡ j
  drives_differ i j hi hj e =
      let many = count_made (method_of code) k es (group_view s) plan.fields plan.view in
      let d : (extent es i).drive ≡ (extent es j).drive = ap (λ (v : ExtentRow). v.drive) (sym (same i hi)) ∙ e ∙ ap (λ (v : ExtentRow). v.drive) (same j hj) in
      ⊎_elim (λ q. q)
      (⊎_elim (λ (lt : i < j). absurd (plan.apart i j lt (omega (arith, hj, many)) d)) (λ (lt : j < i). absurd (plan.apart j i lt (omega (arith, hi, many)) (sym d))))
      (cases_order i j)

  -- refused by the fill
  pub refused_by_fill : (U : Type 0) (n : List Drive) (x : Refused) → FillsGroup {U = U} m n g es (Err x) → MakesGroup {U = U} m n c c g code k es (Err x)
  refused_by_fill U n x told = (
    inr (plan.fields, inr (plan.lying.on_bus, inr (plan.free, inr (plan.lying.inside, inr ((plan.unassigned, plan.apart), inl (told.3, told.0)))))),
    refl,
    told.1,
    told.2,
  )

  -- filled, and entered
  pub entered_filled : {U : Type 0} (n : List Drive) (u : U) (z : Configuration) → Filled m n es → z ≡ with_group c g (Some (group_view s)) → MakesGroup {U = U} m n c z g code k es (Ok u)
  entered_filled n u z filled is = (
    (plan.fields, (plan.lying.on_bus, (plan.free, (plan.lying.inside, ((plan.unassigned, plan.apart), (filled.works, tt)))))),
    is ∙ ap (with_group c g) plan.view,
    filled,
  )

-- refused by a check
pub refused_by_plan : (U : Type 0) (m : List Drive) (c : Configuration) (g code k : ℕ) (es : List ExtentRow) (x : Refused) → Plans m c g code k es (Err x) → MakesGroup {U = U} m m c c g code k es (Err x)
refused_by_plan U m c g code k es x told =
    (told.0 m, refl, told.1, subst (λ (f : Option Fault). Unfilled m m g es f) (sym told.2) refl)

-- what holds of the tables alone holds of them with the new group
pub tables_entered : (a : Array) (m : List Drive) (g code k : ℕ) (es : List ExtentRow) (s : GroupSlot) → Planned m (config a) g code k es s → Fields (set a.groups g (Some s)) a.volumes
tables_entered a m g code k es s plan =
    fields_by (set a.groups g (Some s)) a.volumes (with_group (config a) g (Some (group_view s))) (length-set a.groups g (Some s) ∙ a.eight) a.sixteen
    (numbered_set a.groups g s (omega (arith, plan.free.0, length-map a.groups (mapped_option group_view))) plan.number a.numbered)
    (group_set a.groups a.volumes g (Some s))
    (group_made (config a) g plan.free (group_view s) (members_unassigned s plan) (drives_differ s plan) (kept_of a))
