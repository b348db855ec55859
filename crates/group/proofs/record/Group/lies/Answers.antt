use Rattle.std.proofs.Common.{ℕ, ◌+◌, ◌<◌, ◌≤◌, Bool, true, false, List, length, MatchBool, ◌≡◌, ◌∙◌, ap, subst, arith, rules, tests}
use Rattle.std.specs.List.{HoldsAt, AllWithin}
use Rattle.std.proofs.lemmas.Iterator.{cases_from_all, YieldsList-from_slice}
use Rattle.bus.specs.Drives.{Drive, size}
use Rattle.group.specs.declared.member.Member.{Member}
use Rattle.group.specs.declared.record.Group.{Group}
use Rattle.group.specs.Group.{nobody, member}
use Rattle.group.specs.Record.{width_of, members_of, Lies}
use Rattle.group.proofs.Recording.{length_members, member_is}
use Rattle.group.proofs.record.Group.lies.Goals as goal

all_lie : (m : List Drive) (g : Group) (eight : length g.members ≡ 8) (r : ℕ) (b : Bool) (gs : List Member) → gs ≡ members_of g →
    MatchBool b (AllWithin (λ v. v.start + r < size m v.drive) gs 0 (length gs)) ((k : ℕ) × (k < length gs) × HoldsAt (λ v. size m v.drive ≤ v.start + r) gs k) →
    MatchBool b (Lies m g r) (Lies m g r → ⊥)
all_lie m g eight r true gs is h = λ i l.
    let inside : i < length gs = omega (arith, length_members g eight, ap length is) in
    subst (λ v. v.start + r < size m v.drive) (ap (λ v. member v i) is ∙ member_is g eight i l) (h i nobody (omega arith) inside)
all_lie m g eight r false gs is h = λ all.
    let inside : h.0 < width_of g = omega (arith, h.1, length_members g eight, ap length is) in
    let here = all h.0 inside in
    let there = subst (λ v. size m v.drive ≤ v.start + r) (ap (λ v. member v h.0) is ∙ member_is g eight h.0 inside) (h.2 nobody) in
    omega arith

pub returns : goal.returns
returns g c =
    let m = g.B.Bus.drives c.args.bus.now in
    let r = c.args.row in
    all_lie m c.args.self.now c.active.ensures.eight r c.all.result c.active.result.now c.active.ensures.value
    (cases_from_all _ _ _ (λ v. v.start + r < size m v.drive) (λ v. size m v.drive ≤ v.start + r) c.all.ensures.ran (YieldsList-from_slice c.active.result.now cc) (λ x q k. search (rules, tests)) (λ x q k. search (rules, tests)))
