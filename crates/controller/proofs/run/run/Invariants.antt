use Rattle.std.proofs.Common.{◌≡◌, ◌≤◌, map, length, take, vec_items, vec_len, vec_capacity}
use Rattle.controller.specs.Law.{Reached}
use Rattle.controller.specs.Runs.{entry_of, asked, logged}
use Rattle.controller.proofs.run.run.Given as goal

abbrev pub invariant-loop-request : goal.invariant-loop-request
invariant-loop-request g l =
    (vec_len l.log ≡ l.request-index) × (l.request-index ≤ length l.requests) × (length l.requests ≤ vec_capacity l.log)
    × (map logged (vec_items l.log) ≡ map asked (take l.request-index l.requests))
    × Reached (g.B.Bus.drives l.initial.bus) (map entry_of (vec_items l.log)) l.array (g.B.Bus.drives l.bus)
