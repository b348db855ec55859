use Rattle.std.proofs.Common.{refl, ap, ◌∙◌, rules}
use Rattle.array.specs.Arrays.{config}
use Rattle.array.specs.Places.{mapped}
use Rattle.controller.specs.declared.calls.Value.TheVariants.{Done, Blocks, At}
use Rattle.controller.proofs.Stepping.{step_at}
use Rattle.controller.proofs.Driveless.{on_delete_group, on_make_volume, on_delete_volume, on_write_control, on_size, on_map, configures_step, asks_step}
use Rattle.controller.proofs.Performing.{makes_step, reads_step, writes_step}
use Rattle.controller.proofs.perform.answer.Goals as goal

pub returns-in-MakeGroup : goal.returns-in-MakeGroup
returns-in-MakeGroup g c =
    let k = c.in-MakeGroup in
    step_at k.is (λ u. Done) _ (λ u w q. search rules) c.make_group.result _ c.map.ensures.cases
    (makes_step c.args.array.now _ _ c.make_group.result k.group k.code k.depth k.extents _ _ c.make_group.ensures)

pub returns-in-DeleteGroup : goal.returns-in-DeleteGroup
returns-in-DeleteGroup g c =
    step_at c.in-DeleteGroup.is (λ u. Done) _ (λ u w q. search rules) c.delete_group.result _ c.map-in-DeleteGroup.ensures.cases
    (configures_step (on_delete_group c.in-DeleteGroup.group) c.args.array.now _ _ _ c.delete_group.result c.delete_group.ensures)

pub returns-in-MakeVolume : goal.returns-in-MakeVolume
returns-in-MakeVolume g c =
    step_at c.in-MakeVolume.is (λ u. Done) _ (λ u w q. search rules) c.make_volume.result _ c.map-in-MakeVolume.ensures.cases
    (configures_step (on_make_volume c.in-MakeVolume.volume c.in-MakeVolume.runs) c.args.array.now _ _ _ c.make_volume.result c.make_volume.ensures)

pub returns-in-DeleteVolume : goal.returns-in-DeleteVolume
returns-in-DeleteVolume g c =
    step_at c.in-DeleteVolume.is (λ u. Done) _ (λ u w q. search rules) c.delete_volume.result _ c.map-in-DeleteVolume.ensures.cases
    (configures_step (on_delete_volume c.in-DeleteVolume.volume) c.args.array.now _ _ _ c.delete_volume.result c.delete_volume.ensures)

pub returns-in-WriteControl : goal.returns-in-WriteControl
returns-in-WriteControl g c =
    step_at c.in-WriteControl.is (λ u. Done) _ (λ u w q. search rules) c.write_control.result _ c.map-in-WriteControl.ensures.cases
    (configures_step (on_write_control c.in-WriteControl.volume c.in-WriteControl.enabled) c.args.array.now _ _ _ c.write_control.result c.write_control.ensures)

pub returns-in-Size : goal.returns-in-Size
returns-in-Size g c =
    step_at c.in-Size.is Blocks _ (λ u w q. search rules) c.size.result _ c.map-in-Size.ensures.cases
    (asks_step (on_size c.in-Size.volume) (λ c. refl) Blocks _ c.args.array.now _ _ c.size.result (λ n e. ap Blocks e) c.size.ensures)

pub returns-in-Read : goal.returns-in-Read
returns-in-Read g c =
    step_at c.in-Read.is (λ u. Done) _ (λ u w q. search rules) c.read.result _ c.map-in-Read.ensures.cases
    (reads_step c.args.array.now _ _ c.read.result c.in-Read.volume c.in-Read.block _ _ c.read.ensures)

pub returns-in-Write : goal.returns-in-Write
returns-in-Write g c =
    step_at c.in-Write.is (λ u. Done) _ (λ u w q. search rules) c.write.result _ c.map-in-Write.ensures.cases
    (writes_step c.args.array.now _ _ c.write.result c.in-Write.volume c.in-Write.block _ c.bytes_fit.ensures c.write.ensures)

pub returns-in-Map : goal.returns-in-Map
returns-in-Map g c =
    step_at c.in-Map.is At _ (λ u w q. search rules) c.map-in-Map.result _ c.map-in-Map-2.ensures.cases
    (asks_step (on_map c.in-Map.volume c.in-Map.block) (λ c. refl) At _ c.args.array.now _ _ c.map-in-Map.result
    (λ p e. ap (λ d. At (record { drive = d; block = p.block })) e.0 ∙ ap (λ b. At (record { drive = (mapped (config c.args.array.now) c.in-Map.volume c.in-Map.block).drive; block = b })) e.1) c.map-in-Map.ensures)
