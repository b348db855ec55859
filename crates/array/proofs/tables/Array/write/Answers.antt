use Rattle.std.proofs.Common.{◌≡◌, true, Ok, Err, MatchResult, rules}
use Rattle.std.proofs.lemmas.Result.{MatchResult-weaker, err_from_is_err_and}
use Rattle.array.specs.declared.refusal.Refusal.TheVariants.{LostWriting}
use Rattle.array.specs.Arrays.{config}
use Rattle.array.specs.Blaming.{blamed}
use Rattle.array.proofs.Reading.{answer_seen, writes_block}
use Rattle.array.proofs.tables.Array.write.Goals as goal

pub returns : goal.returns
returns g c =
    let m = g.B.Bus.drives c.args.bus.now in
    let n = g.B.Bus.drives c.write.new.bus in
    let at = c.args.at in
    let found = c.in_ok-found.found in
    let told = c.in_ok-found.ensures in
    let enabled : c.in_ok-volume.volume.now.writes ≡ true = search rules in
    let seen : MatchResult c.write.result (λ u. c.map_err.result ≡ Ok u) (λ e. c.map_err.result ≡ Err (blamed at LostWriting e)) =
    MatchResult-weaker c.write.result c.map_err.ensures.cases (λ u h. h) (λ e h. let p = err_from_is_err_and c.map_err.result h in search rules) in λ on.
    writes_block m n (config c.args.self.now) at.volume at.block found.slot.now found.block told.1 c.args.bytes.now
    told.0 c.in_ok-volume.volume.now c.in_ok-volume.ensures.1 enabled on c.write.result c.map_err.result c.write.ensures (answer_seen at LostWriting c.write.result c.map_err.result seen)
