use Rattle.std.proofs.Common.{subst}
use Rattle.bus.specs.declared.address.BlockAddress.{BlockAddress}
use Rattle.bus.specs.Requests.{Writes}
use Rattle.group.proofs.Frames.{sent_by}
use Rattle.group.proofs.member.Member.send.Goals as goal

pub returns-then-not-missing_in : goal.returns-then-not-missing_in
returns-then-not-missing_in g c =
    let m = g.B.Bus.drives c.args.bus.now in
    let n = g.B.Bus.drives c.write.new.self in
    sent_by m n c.args.row c.args.self c.args.bytes.now c.write.result c.requires c.told-bytes
    (subst (λ (a : BlockAddress). Writes {U = Unit {0}} m n a.drive a.block c.args.bytes.now c.write.result) c.at.ensures c.write.ensures)
