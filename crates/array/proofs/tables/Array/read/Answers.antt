use Rattle.std.proofs.Common.{◌≡◌, Ok, Err, MatchResult, rules}
use Rattle.std.proofs.lemmas.Result.{MatchResult-weaker, err_from_is_err_and}
use Rattle.array.specs.declared.refusal.Refusal.TheVariants.{LostReading}
use Rattle.array.specs.Arrays.{config}
use Rattle.array.specs.Blaming.{blamed}
use Rattle.array.proofs.Reading.{answer_seen, reads_block}
use Rattle.array.proofs.tables.Array.read.Goals as goal

pub returns : goal.returns
returns g c =
    let m = g.B.Bus.drives c.args.bus.now in
    let n = g.B.Bus.drives c.read.new.bus in
    let at = c.args.at in
    let found = c.in_ok-found.found in
    let told = c.in_ok-found.ensures in
    let seen : MatchResult c.read.result (λ u. c.map_err.result ≡ Ok u) (λ e. c.map_err.result ≡ Err (blamed at LostReading e)) =
    MatchResult-weaker c.read.result c.map_err.ensures.cases (λ u h. h) (λ e h. let p = err_from_is_err_and c.map_err.result h in search rules) in λ on.
    reads_block m n (config c.args.self.now) at.volume at.block found.slot.now found.block told.1 c.args.buf.now c.read.new.buf
    told.0 on c.read.result c.map_err.result c.read.ensures (answer_seen at LostReading c.read.result c.map_err.result seen)
