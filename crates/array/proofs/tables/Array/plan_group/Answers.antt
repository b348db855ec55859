use Rattle.std.proofs.Common.{◌≡◌, Some, None, Option, refl, sym, ap, subst, inl, inr, arith}
use Rattle.std.proofs.lemmas.Bool.{iff_false}
use Rattle.std.proofs.lemmas.Option.{MatchOption-at_some, MatchOption-at_none}
use Rattle.layout.specs.Extents.{Sound}
use Rattle.array.specs.declared.kind.MethodKind.{MethodKind}
use Rattle.array.specs.declared.refusal.Refusal.TheVariants.{NoDrive, Outside, Conflict}
use Rattle.array.specs.Arrays.{config}
use Rattle.array.specs.Configuration.{Free, group_view, new_group}
use Rattle.array.specs.Checks.{EachExtent, FieldsFor, DifferentDrives}
use Rattle.array.specs.Kinds.{method_of, unknown}
use Rattle.array.specs.Planning.{Built, Lying}
use Rattle.array.specs.Refusals.{plain}
use Rattle.array.proofs.Tabling.{free_seen, free_below}
use Rattle.array.proofs.Building.{kind_named, sound_extents}
use Rattle.array.proofs.Checking.{unplanned}
use Rattle.array.proofs.tables.Array.plan_group.Goals as goal
use Rattle.array.proofs.tables.Array.plan_group.Goals.{In_ok-ensure, In_ok-ensure-3, In_ok-ensure-4}

fields : (g : _) (c : In_ok-ensure g) → FieldsFor (method_of c.args.code) c.args.depth c.args.extents.now
fields g c =
    subst (λ (o : Option MethodKind). FieldsFor o c.args.depth c.args.extents.now) (sym (kind_named (method_of c.args.code) c.in_ok-kind.kind (unknown c.args.code) c.in_ok-kind.ensures))
    (c.fields_fit.ensures.0 c.in_ok-ensure.ensures)

free : (g : _) (c : In_ok-ensure-3 g) → Free (config c.args.self.now).groups c.args.g
free g c = free_seen group_view c.args.self.now.groups c.args.g (c.is_free.ensures.0 c.in_ok-ensure-3.ensures)

lying : (g : _) (c : In_ok-ensure-4 g) → Lying (g.B.Bus.drives c.args.bus.now) c.args.extents.now
lying g c = record { on_bus = c.all_on_bus.ensures.0 c.in_ok-ensure-2.ensures; inside = c.all_inside.ensures.0 c.in_ok-ensure-4.ensures }

sound : (g : _) (c : In_ok-ensure-4 g) → EachExtent c.args.extents.now Sound
sound g c = sound_extents (g.B.Bus.drives c.args.bus.now) c.in_ok-kind.kind c.args.depth c.args.extents.now (g.met.B.Bus.sound c.args.bus.now) (c.fields_fit.ensures.0 c.in_ok-ensure.ensures) (lying g c)

pub build-requires : goal.build-requires
build-requires g c = (c.fields_fit.ensures.0 c.in_ok-ensure.ensures, sound g (goal.at.build-requires g c).In_ok-ensure-4)

pub returns-in_err-ensure-2 : goal.returns-in_err-ensure-2
returns-in_err-ensure-2 g c =
    unplanned NoDrive _ c.in_err-ensure-2.ensures.1 _ (config c.args.self.now) c.args.g c.args.code c.args.depth c.args.extents.now _ c.from_residual-in_err-ensure-2.ensures.1 refl
    (λ n. inr (fields g (goal.at.returns-in_err-ensure-2 g c).In_ok-ensure, inl (iff_false c.all_on_bus.ensures c.in_err-ensure-2.ensures.0, refl)))

pub returns-in_err-ensure-4 : goal.returns-in_err-ensure-4
returns-in_err-ensure-4 g c =
    let at = goal.at.returns-in_err-ensure-4 g c in
    unplanned Outside _ c.in_err-ensure-4.ensures.1 _ (config c.args.self.now) c.args.g c.args.code c.args.depth c.args.extents.now _ c.from_residual-in_err-ensure-4.ensures.1 refl
    (λ n. inr (fields g at.In_ok-ensure, inr (c.all_on_bus.ensures.0 c.in_ok-ensure-2.ensures, inr (free g at.In_ok-ensure-3, inl (iff_false c.all_inside.ensures c.in_err-ensure-4.ensures.0, refl)))))

pub returns-in_err-ensure-5 : goal.returns-in_err-ensure-5
returns-in_err-ensure-5 g c =
    let at = goal.at.returns-in_err-ensure-5 g c in
    let lies = lying g at.In_ok-ensure-4 in
    unplanned Conflict _ c.in_err-ensure-5.ensures.1 _ (config c.args.self.now) c.args.g c.args.code c.args.depth c.args.extents.now _ c.from_residual-in_err-ensure-5.ensures.1 refl
    (λ n. inr (fields g at.In_ok-ensure, inr (lies.on_bus, inr (free g at.In_ok-ensure-3, inr (lies.inside, inl (λ both. iff_false c.are_unassigned.ensures c.in_err-ensure-5.ensures.0 (λ i h ok. both.0 i h), refl))))))

pub returns-in_err-slot : goal.returns-in_err-slot
returns-in_err-slot g c =
    let at = goal.at.returns-in_err-slot g c in
    let lies = lying g at.In_ok-ensure-4 in
    let none : c.build.result ≡ None = grind arith in
    let same = MatchOption-at_none (DifferentDrives c.args.extents.now → ⊥) (Built c.in_ok-kind.kind c.args.g c.args.depth c.args.extents.now) none c.build.ensures in
    let conflict : c.in_err-slot.field-0.0 ≡ Conflict = grind arith in
    unplanned Conflict (plain c.in_err-slot.field-0.0) (ap plain conflict) _ (config c.args.self.now) c.args.g c.args.code c.args.depth c.args.extents.now _ c.from_residual-in_err-slot.ensures.1 refl
    (λ n. inr (fields g at.In_ok-ensure, inr (lies.on_bus, inr (free g at.In_ok-ensure-3, inr (lies.inside, inl (λ both. same both.1, refl))))))

pub returns : goal.returns
returns g c =
    let at = goal.at.returns g c in
    let some : c.build.result ≡ Some c.in_ok-slot.slot = grind arith in
    let built = MatchOption-at_some (DifferentDrives c.args.extents.now → ⊥) (Built c.in_ok-kind.kind c.args.g c.args.depth c.args.extents.now) c.in_ok-slot.slot some c.build.ensures in
    let kind = sym (kind_named (method_of c.args.code) c.in_ok-kind.kind (unknown c.args.code) c.in_ok-kind.ensures) in
    record {
      fields = fields g at.In_ok-ensure;
      lying = lying g at.In_ok-ensure-4;
      free = free g at.In_ok-ensure-3;
      below = free_below group_view c.args.self.now.groups c.args.g 8 c.args.self.now.eight (free g at.In_ok-ensure-3);
      unassigned = λ i h. c.are_unassigned.ensures.0 c.in_ok-ensure-5.ensures i h (sound g at.In_ok-ensure-4 i h);
      apart = built.apart;
      sound = sound g at.In_ok-ensure-4;
      number = built.number;
      view = subst (λ (o : Option MethodKind). Some (group_view c.in_ok-slot.slot) ≡ new_group o c.args.depth c.args.extents.now) kind built.view;
    }
