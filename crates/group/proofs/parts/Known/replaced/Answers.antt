use Rattle.std.proofs.Common.{◌≡◌, ℕ, ◌<◌, Bool, Ok, Err, Result, List, length, set}
use Rattle.layout.specs.Blocks.{Blocks, Agree}
use Rattle.layout.specs.declared.method.Method.{Ghosts}
use Rattle.layout.specs.declared.row.RowError.{RowError}
use Rattle.layout.specs.Rows.{Recoverable, ReplacesUser}
use Rattle.group.proofs.parts.Known.replaced.Goals as goal

-- a row that can be recovered is replaced
replaced : {X : Type 0} (k : Ghosts X) (t : ℕ) (o : List Bool) (p : ℕ) (new : List ℕ) (was is : List (List ℕ)) (b : Result (Unit {0}) RowError) → ReplacesUser k t o p new was is b → Recoverable k o was → p < k.width (length was) →
    (us : List (List ℕ)) → Blocks (k.width (length was)) us → Agree o was (k.row (length was) t us) → is ≡ k.row (length was) t (set us p new)
replaced k t o p new was is (Ok v) h r l us u a = h.2 us u a
replaced k t o p new was is (Err e) h r l us u a = absurd (h.0 (r, l))

pub returns-clause-row : goal.returns-clause-row
returns-clause-row g c =
    let k = g.M.Method in
    let known = c.args.self in
    let ps = known.parts in
    replaced k ps.strip ps.unread.now c.args.p c.args.new.now ps.blocks.now c.replace_user.new.blocks c.replace_user.result c.replace_user.ensures
    (record { least_members = ps.enough; most_members = ps.few; marked = ps.marked; few = known.enough }) c.requires
