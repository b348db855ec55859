-- What a method of redundancy owes, and the three methods none, copy and XOR. Assumes nothing.
use Rattle.std.specs.Prelude.{◌≡◌, ℕ, ◌+◌, ◌-◌, ◌%◌, ◌<◌, ◌≤◌, min, Bool, true, false, cond, List, [], length, replicate, ◌==◌, nat_lt, slice_index_or, slice_set}
use Rattle.layout.specs.Blocks.{xor_all, put_in, missing_count, Whole, Blocks, Agree}

-- A group has n members. A row is a block of each member, and k rows in turn, k being the depth, are a strip.
-- In each row of strip t, user block p lies on the member `home n t p`, for the `width n` user blocks that a row has;
-- `check n t m`: member m holds a check block; `row n t us` is the block of each member, when us are the user blocks.
-- After `cycle n` strips the check members come round; `tolerance n` members may be missing.
pub record Sound (least : ℕ) (width cycle : ℕ → ℕ) (home : ℕ → ℕ → ℕ → ℕ) (check : ℕ → ℕ → ℕ → Bool)
    (row : ℕ → ℕ → List (List ℕ) → List (List ℕ)) (tolerance : ℕ → ℕ) : Type 0 where
  pub least_some : 1 ≤ least
  -- THE PLACES, with any number of members from 1 to 8: a row has no more user blocks than members
  pub narrow : (n : ℕ) → 1 ≤ n → n ≤ 8 → width n ≤ n
  -- a user block's home is a member
  pub inside : (n t p : ℕ) → 1 ≤ n → n ≤ 8 → p < width n → home n t p < n
  -- that holds no check block
  pub free : (n t p : ℕ) → 1 ≤ n → n ≤ 8 → p < width n → check n t (home n t p) ≡ false
  -- two user blocks of a row have two homes
  pub apart : (n t p q : ℕ) → 1 ≤ n → n ≤ 8 → p < width n → q < width n → home n t p ≡ home n t q → p ≡ q
  -- and a member that holds no check block holds a user block
  pub covered : (n t m : ℕ) → 1 ≤ n → n ≤ 8 → m < n → check n t m ≡ false → (p : ℕ) × (p < width n) × (home n t p ≡ m)
  -- after a cycle, of at least one strip and at most n, the check members are where they were
  pub short : (n : ℕ) → 1 ≤ n → n ≤ 8 → (1 ≤ cycle n) × (cycle n ≤ n)
  pub round : (n t m : ℕ) → 1 ≤ n → n ≤ 8 → check n (t + cycle n) m ≡ check n t m
  -- THE ROWS, with no fewer members than the method's least: a row has a user block
  pub some : (n : ℕ) → least ≤ n → n ≤ 8 → 1 ≤ width n
  -- it is n whole blocks
  pub whole : (n t : ℕ) (us : List (List ℕ)) → least ≤ n → n ≤ 8 → Blocks (width n) us → Blocks n (row n t us)
  -- each user block is there, as it is
  pub placed : (n t : ℕ) (us : List (List ℕ)) (p : ℕ) → least ≤ n → n ≤ 8 → Blocks (width n) us → p < width n →
      slice_index_or (row n t us) (home n t p) [] ≡ slice_index_or us p []
  -- no more members hold check blocks than may be missing, so that what recovers a row makes its check blocks too
  pub few_checks : (n t : ℕ) (marks : List Bool) → least ≤ n → n ≤ 8 → length marks ≡ n →
      ((m : ℕ) → m < n → slice_index_or marks m true ≡ check n t m) → missing_count marks ≤ tolerance n
  -- THE LAW: with no more members missing than the method tolerates, the others determine every block of the row
  pub determined : (n t : ℕ) (missing : List Bool) (us vs : List (List ℕ)) → least ≤ n → n ≤ 8 →
      Blocks (width n) us → Blocks (width n) vs → length missing ≡ n → missing_count missing ≤ tolerance n →
      Agree missing (row n t us) (row n t vs) → row n t us ≡ row n t vs

-- a number, as far as a `usize` holds it
abbrev pub capped : ℕ → ℕ
capped x = min x 18446744073709551615

-- the marks are those of a row of `was`, and the members that are not missing are enough to recover it
pub record Enough (least : ℕ) (tolerance : ℕ → ℕ) (missing : List Bool) (was : List (List ℕ)) : Type 0 where
  pub least_members : least ≤ length was
  pub most_members : length was ≤ 8
  pub marked : length missing ≡ length was
  pub few : missing_count missing ≤ tolerance (length was)

-- The blocks `was`, of a row in strip t, are made `is`: where the members that are not missing hold their blocks of a
-- row, and are enough, it is the whole row.
abbrev pub Recovers : (least : ℕ) (width : ℕ → ℕ) (row : ℕ → ℕ → List (List ℕ) → List (List ℕ)) (tolerance : ℕ → ℕ) →
    ℕ → List Bool → List (List ℕ) → List (List ℕ) → Type 0
Recovers least width row tolerance t missing was is =
    Enough least tolerance missing was →
    (us : List (List ℕ)) → Blocks (width (length was)) us → Agree missing was (row (length was) t us) → is ≡ row (length was) t us

-- The check block `was` of member m is made `is`: that of the row in which user block p, which was `old`, is `new`.
abbrev pub Updates : (least : ℕ) (width : ℕ → ℕ) (check : ℕ → ℕ → ℕ → Bool) (row : ℕ → ℕ → List (List ℕ) → List (List ℕ)) →
    ℕ → ℕ → ℕ → ℕ → List ℕ → List ℕ → List ℕ → List ℕ → Type 0
Updates least width check row n t p m old new was is =
    least ≤ n → n ≤ 8 → p < width n → m < n → check n t m ≡ true → Whole new →
    (us : List (List ℕ)) → Blocks (width n) us → slice_index_or us p [] ≡ old → slice_index_or (row n t us) m [] ≡ was →
    is ≡ slice_index_or (row n t (slice_set us p new)) m []

-- none: every member holds a user block
abbrev pub none_width : ℕ → ℕ
none_width n = n

abbrev pub none_home : ℕ → ℕ → ℕ → ℕ
none_home n t p = p

abbrev pub none_check : ℕ → ℕ → ℕ → Bool
none_check n t m = false

abbrev pub none_row : ℕ → ℕ → List (List ℕ) → List (List ℕ)
none_row n t us = us

abbrev pub none_tolerance : ℕ → ℕ
none_tolerance n = 0

-- copy: every member holds the one user block, at home on member 0
abbrev pub copy_width : ℕ → ℕ
copy_width n = 1

abbrev pub copy_home : ℕ → ℕ → ℕ → ℕ
copy_home n t p = 0

abbrev pub copy_check : ℕ → ℕ → ℕ → Bool
copy_check n t m = nat_lt 0 m

abbrev pub copy_row : ℕ → ℕ → List (List ℕ) → List (List ℕ)
copy_row n t us = replicate n (slice_index_or us 0 [])

abbrev pub copy_tolerance : ℕ → ℕ
copy_tolerance n = n - 1

-- none and copy have their check members, if any, in the same place in every strip
abbrev pub one_strip : ℕ → ℕ
one_strip n = 1

-- XOR: the check block is the exclusive or of the user blocks; its member c rotates from strip to strip
abbrev pub xor_width : ℕ → ℕ
xor_width n = n - 1

abbrev pub xor_cycle : ℕ → ℕ
xor_cycle n = n

-- the members in order without c
abbrev pub past : ℕ → ℕ → ℕ
past c p = cond (nat_lt p c) p (p + 1)

abbrev pub xor_home : ℕ → ℕ → ℕ → ℕ
xor_home n t p = past (t % n) p

abbrev pub xor_check : ℕ → ℕ → ℕ → Bool
xor_check n t m = m == t % n

abbrev pub xor_row : ℕ → ℕ → List (List ℕ) → List (List ℕ)
xor_row n t us = put_in (t % n) (xor_all us) us

abbrev pub xor_tolerance : ℕ → ℕ
xor_tolerance n = 1
