use Rattle.std.proofs.Common.{◌<◌, refl, inl, inr}
use Rattle.std.proofs.lemmas.Bool.{iff_false}
use Rattle.array.specs.declared.refusal.Refusal.TheVariants.{Outside, Conflict}
use Rattle.array.specs.Arrays.{config}
use Rattle.array.specs.Checks.{volume_checks}
use Rattle.array.specs.Configuration.{volume_view}
use Rattle.array.proofs.Tabling.{free_seen, free_below}
use Rattle.array.proofs.Checking.{refused, asked_last}
use Rattle.array.proofs.tables.Array.check_volume.Goals as goal

pub returns-in_err-ensure-4 : goal.returns-in_err-ensure-4
returns-in_err-ensure-4 c =
    let counted = c.are_counted.ensures.0 c.in_ok-ensure.ensures in
    let grouped = c.have_groups.ensures.0 c.in_ok-ensure-2.ensures in
    let free = free_seen volume_view c.args.self.now.volumes c.args.v (c.is_free.ensures.0 c.in_ok-ensure-3.ensures) in
    refused Outside c.in_err-ensure-4.field-0.0 c.in_err-ensure-4.ensures.1 (volume_checks (config c.args.self.now) c.args.v c.args.runs.now) (λ u. c.args.v < 16) _ c.from_residual-in_err-ensure-4.ensures.1
    (inr (counted, inr ((grouped, free), inl (iff_false c.are_inside.ensures c.in_err-ensure-4.ensures.0, refl))))

pub returns-in_err-ensure-5 : goal.returns-in_err-ensure-5
returns-in_err-ensure-5 c =
    let counted = c.are_counted.ensures.0 c.in_ok-ensure.ensures in
    let grouped = c.have_groups.ensures.0 c.in_ok-ensure-2.ensures in
    let free = free_seen volume_view c.args.self.now.volumes c.args.v (c.is_free.ensures.0 c.in_ok-ensure-3.ensures) in
    let inside = c.are_inside.ensures.0 c.in_ok-ensure-4.ensures in
    refused Conflict c.in_err-ensure-5.field-0.0 c.in_err-ensure-5.ensures.1 (volume_checks (config c.args.self.now) c.args.v c.args.runs.now) (λ u. c.args.v < 16) _ c.from_residual-in_err-ensure-5.ensures.1
    (inr (counted, inr ((grouped, free), inr (inside, inl (λ both. iff_false c.are_unassigned.ensures c.in_err-ensure-5.ensures.0 both.0, refl)))))

pub returns : goal.returns
returns c =
    let counted = c.are_counted.ensures.0 c.in_ok-ensure.ensures in
    let grouped = c.have_groups.ensures.0 c.in_ok-ensure-2.ensures in
    let free = free_seen volume_view c.args.self.now.volumes c.args.v (c.is_free.ensures.0 c.in_ok-ensure-3.ensures) in
    let inside = c.are_inside.ensures.0 c.in_ok-ensure-4.ensures in
    let unassigned = c.are_unassigned.ensures.0 c.in_ok-ensure-5.ensures in
    asked_last (volume_checks (config c.args.self.now) c.args.v c.args.runs.now) (λ u. c.args.v < 16) c.are_separate.result Conflict c.ensure-6.result c.ensure-6.ensures
    (λ t. (counted, ((grouped, free), (inside, ((unassigned, c.are_separate.ensures.0 t), tt)))))
    (λ f. inr (counted, inr ((grouped, free), inr (inside, inl (λ both. iff_false c.are_separate.ensures f both.1, refl)))))
    (λ u. free_below volume_view c.args.self.now.volumes c.args.v 16 c.args.self.now.sixteen free)
