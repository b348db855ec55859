-- Where the blocks of groups and volume sets lie. Assumes nothing.
use Rattle.std.specs.Prelude.{◌≡◌, ℕ, ◌+◌, ◌-◌, ◌*◌, ◌/◌, ◌%◌, ◌<◌, Bool, true, cond, ◌||◌, List, [], ◌∷◌, map, length, nat_le, nat_lt}
use Rattle.layout.specs.Blocks.{missing_count}
use Rattle.layout.specs.Places as layout
use Rattle.group.specs.declared.member.Member.{Member}
use Rattle.group.specs.Group.{member}
use Rattle.array.specs.declared.volume.Run.{Run}
use Rattle.array.specs.Kinds.{method}
use Rattle.array.specs.Configuration.{GroupConfig, Configuration, group_at, volume_at}

-- how many members a group has, and how many user blocks a row
abbrev pub count_of : GroupConfig → ℕ
count_of g = length g.members

abbrev pub width_of : GroupConfig → ℕ
width_of g = (method g.kind).width (count_of g)

abbrev pub tolerance_of : GroupConfig → ℕ
tolerance_of g = (method g.kind).tolerance (count_of g)

-- how many protected blocks it has
abbrev pub size_of : GroupConfig → ℕ
size_of g = layout.protected (method g.kind) (count_of g) g.rows

-- home, row and user block of protected block q
abbrev pub home_of : GroupConfig → ℕ → ℕ
home_of g q = layout.home_of (method g.kind) (count_of g) g.depth q

abbrev pub row_of : GroupConfig → ℕ → ℕ
row_of g q = layout.row_of (method g.kind) (count_of g) g.depth q

abbrev pub slot_of : GroupConfig → ℕ → ℕ
slot_of g q = layout.slot g.depth (width_of g) q

-- the protected block that is user block p of row r
abbrev pub user_block : GroupConfig → ℕ → ℕ → ℕ
user_block g r p = r / g.depth * (g.depth * width_of g) + (p * g.depth + r % g.depth)

-- a protected block of a group; a block of a drive
pub record Spot : Type 0 where
  pub group : ℕ
  pub block : ℕ

pub record DriveBlock : Type 0 where
  pub drive : ℕ
  pub at : ℕ

-- the protected block that is block b of the runs joined in order
abbrev pub spot_in : List Run → ℕ → Spot
spot_in [] b = record { group = 0; block = 0 }
spot_in (r ∷ rs) b = cond (nat_lt b r.count) (record { group = r.group; block = r.first + b }) (spot_in rs (b - r.count))

abbrev pub spot_of : Configuration → ℕ → ℕ → Spot
spot_of c v b = spot_in (volume_at c v).runs b

-- how many blocks the runs have together
abbrev pub blocks_in : List Run → ℕ
blocks_in [] = 0
blocks_in (r ∷ rs) = r.count + blocks_in rs

-- how many blocks a volume set has
abbrev pub blocks_of : Configuration → ℕ → ℕ
blocks_of c v = blocks_in (volume_at c v).runs

-- the drive block that is the home of a protected block
abbrev pub home_block : GroupConfig → ℕ → DriveBlock
home_block g q = record { drive = (member g.members (home_of g q)).drive; at = (member g.members (home_of g q)).start + row_of g q }

-- and of block b of volume set v
abbrev pub mapped : Configuration → ℕ → ℕ → DriveBlock
mapped c v b = home_block (group_at c (spot_of c v b).group) (spot_of c v b).block

-- missing members and lost rows, by the broken marks of the drives ------------------------------------------------------

-- the member is missing at row r: its drive is broken, or it is not rebuilt so far
abbrev pub missing : (ℕ → Bool) → ℕ → Member → Bool
missing broken r m = broken m.drive || nat_le m.mark r

-- more members are missing at row r than the method tolerates
abbrev pub LostRow : (ℕ → Bool) → GroupConfig → ℕ → Type 0
LostRow broken g r = tolerance_of g < missing_count (map (missing broken r) g.members)

-- the row of protected block q is lost, and its home is missing
abbrev pub LostBlock : (ℕ → Bool) → GroupConfig → ℕ → Type 0
LostBlock broken g q = (missing broken (row_of g q) (member g.members (home_of g q)) ≡ true) × LostRow broken g (row_of g q)

-- the same of block b of volume set v
abbrev pub LostRowAt : (ℕ → Bool) → Configuration → ℕ → ℕ → Type 0
LostRowAt broken c v b = LostRow broken (group_at c (spot_of c v b).group) (row_of (group_at c (spot_of c v b).group) (spot_of c v b).block)

abbrev pub LostAt : (ℕ → Bool) → Configuration → ℕ → ℕ → Type 0
LostAt broken c v b = LostBlock broken (group_at c (spot_of c v b).group) (spot_of c v b).block
