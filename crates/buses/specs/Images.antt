-- What the drives in a row of bytes are.
use Rattle.std.specs.Prelude.{◌≡◌, ℕ, ◌+◌, ◌*◌, ◌<◌, ◌≤◌, false, List, [], length, slice_index_or}
use Rattle.std.proofs.Common.{ap, ◌∙◌, arith}
use Rattle.std.proofs.lemmas.List.FromFn.{length-map-range_with_len, get_or-map-range_with_len}
use Rattle.std.proofs.lemmas.List.{get_or_past, length-drop, length-take}
use Rattle.std.proofs.lemmas.Nat.{mul-add-lt}
use Rattle.bus.specs.Drives.{Sound, at, size, block, absent}
use Rattle.buses.specs.Image.{piece, drive_in, image}

module _ (xs : List ℕ) (n cap : ℕ) where
  pub count_is : length (image xs n cap) ≡ n
  unfolding image
  count_is = length-map-range_with_len (λ d. drive_in xs cap d) 0 n

  pub at_is : (d : ℕ) → d < n → at (image xs n cap) d ≡ drive_in xs cap d
  unfolding image
  at_is d h = get_or-map-range_with_len (λ d. drive_in xs cap d) 0 n d d absent h (omega arith)

  pub at_beyond : (d : ℕ) → n ≤ d → at (image xs n cap) d ≡ absent
  at_beyond d h = get_or_past (image xs n cap) d absent (omega (arith, count_is))

  pub size_is : (d : ℕ) → d < n → size (image xs n cap) d ≡ cap
  size_is d h = ap (λ v. length v.blocks) (at_is d h) ∙ length-map-range_with_len (λ b. piece xs (d * cap + b)) 0 cap

  pub working_is : (d : ℕ) → d < n → (at (image xs n cap) d).broken ≡ false
  working_is d h = ap (λ v. v.broken) (at_is d h)

  pub block_is : (d b : ℕ) → d < n → b < cap → block (image xs n cap) d b ≡ piece xs (d * cap + b)
  block_is d b h k =
      ap (λ v. slice_index_or v.blocks b []) (at_is d h) ∙ get_or-map-range_with_len (λ b. piece xs (d * cap + b)) 0 cap b b [] k (omega arith)

-- every block lies inside the bytes
pub room : (n cap d b len : ℕ) → d < n → b < cap → len ≡ n * cap * 512 → (d * cap + b) * 512 + 512 ≤ len
room n cap d b len h k e = omega (arith, mul-add-lt d cap b n h k)

pub sound_is : (xs : List ℕ) (n cap : ℕ) → n ≤ 16 → 1 ≤ cap → cap ≤ 65536 → length xs ≡ n * cap * 512 → Sound (image xs n cap)
sound_is xs n cap few some small len = record {
  few = omega (arith, count_is xs n cap);
  some = λ d h. omega (arith, size_is xs n cap d (omega (arith, count_is xs n cap)));
  small = λ d h. omega (arith, size_is xs n cap d (omega (arith, count_is xs n cap)));
  whole = λ d b h k.
      let dn : d < n = omega (arith, count_is xs n cap) in
      let bc : b < cap = omega (arith, size_is xs n cap d dn) in
      ap length (block_is xs n cap d b dn bc) ∙ simp (length-take, length-drop) (omega (arith, room n cap d b (length xs) dn bc len));
}
