-- A row of bytes read as drives of one capacity, one behind the other, each block 512 bytes.
use Rattle.std.specs.Prelude.{ℕ, ◌+◌, ◌*◌, false, List, map, take, drop}
use Rattle.std.specs.List.{range_with_len}
use Rattle.bus.specs.Drives.{Drive}

-- the block k of all, counted through the drives
abbrev pub piece : List ℕ → ℕ → List ℕ
piece xs k = take 512 (drop (k * 512) xs)

-- the drive d, of cap blocks, which works
abbrev pub drive_in : List ℕ → ℕ → ℕ → Drive
drive_in xs cap d = record { blocks = map (λ b. piece xs (d * cap + b)) (range_with_len 0 cap); broken = false }

-- the first n drives, of cap blocks each
unfoldable pub image : List ℕ → ℕ → ℕ → List Drive
image xs n cap = map (λ d. drive_in xs cap d) (range_with_len 0 n)
