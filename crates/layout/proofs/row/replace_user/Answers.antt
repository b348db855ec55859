use Rattle.std.proofs.Common.{◌≡◌, length, rules, arith}
use Rattle.layout.specs.Rewritten.{replaced}
use Rattle.layout.proofs.row.replace_user.Goals as goal

pub returns : goal.returns
returns g c =
    let n = length c.args.blocks.now in
    let rec = c.in_ok-recover_row.ensures in
    let s = g.met.M.Method.sound in
    let inside = s.inside n c.args.t c.args.p (omega (arith, s.least_some, rec.0.least_members)) rec.0.most_members (omega arith) in
    let home : c.home_of-home.result ≡ g.M.Method.home n c.args.t c.args.p = omega (arith, c.home_of-home.ensures, rec.0.most_members) in
    replaced g.M.Method s c.args.t c.args.missing.now c.args.p c.args.new.now c.args.blocks.now c.recover_row.new.blocks c.encode_row.new.blocks
    c.home_of-home.result c.encode_row.result rec.0 (omega arith) (record { long = c.told-new; bytes = search rules }) rec.1 (omega arith) home c.encode_row.ensures
