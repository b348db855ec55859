-- A request to drives in a row of bytes.
use Rattle.std.proofs.Common.{◌≡◌, ℕ, ◌+◌, ◌*◌, ◌<◌, ◌≤◌, ◌≢◌, List, ◌++◌, length, take, drop, Err, sym, refl, ap, ◌∙◌, arith}
use borrow.Rule.Slice.PartMut.{put_mid}
use Rattle.std.proofs.lemmas.List.{length-append, length-take, length-drop, drop-drop}
use Rattle.bus.specs.declared.fault.BusFault.{BusFault}
use Rattle.bus.specs.declared.fault.BusFault.TheVariants.{NoDrive, Length, Range, Broken}
use Rattle.bus.specs.Numbers.{number_of}
use Rattle.bus.specs.Requests.{RefusedBy, ReadBy, WroteBy}
use Rattle.buses.specs.Image.{image}
use Rattle.buses.specs.Images.{room, count_is, size_is, working_is, block_is}
use Rattle.buses.specs.Fitting.{Fit, fitting, fit_from_drive}
use Rattle.buses.specs.Memory.{held, Located, Locates, Wrong, Refuses}
use Rattle.buses.proofs.Pieces.{written}

length_put : (xs ys : List ℕ) (a : ℕ) → a + 512 ≤ length xs → length ys ≡ 512 → length (put_mid a 512 xs ys) ≡ length xs
length_put xs ys a h w = simp (length-append, length-take, length-drop) (omega arith)

module _ (xs : List ℕ) (n cap d b len : ℕ) where
  abbrev pub many : ℕ
  many = fitting (length xs) n cap

  -- what is wrong with a request is its fault
  wrong : (c : BusFault) → Wrong many cap d b len c → RefusedBy (held xs n cap) (held xs n cap) d b len c × (number_of c ≢ 9)
  wrong (NoDrive a) q = (record { beyond = omega (arith, count_is xs many cap, q); same = refl }, λ e. omega arith)
  wrong (Length a) q = (record { exists = omega (arith, count_is xs many cap, q.0); other = q.1; same = refl }, λ e. omega arith)
  wrong (Range a) q = (
    record { exists = omega (arith, count_is xs many cap, q.0); whole = q.1; beyond = omega (arith, size_is xs many cap d q.0, q.2); same = refl },
    λ e. omega arith,
  )
  wrong (Broken a) q = absurd q

  pub refused : (e : BusFault) → Refuses {U = Unit {0}} many cap d b len (Err e) → Locates xs n cap d b len (Err e)
  refused e q = ((q.0, (wrong e q.1).0), (wrong e q.1).1)

  module _ (dn : d < many) where
    fit : Fit (length xs) n cap
    fit = (fit_from_drive (length xs) n cap d dn).0

    is_n : many ≡ n
    is_n = (fit_from_drive (length xs) n cap d dn).1

    pub few_drives : d < 16
    few_drives = omega (arith, fit.few, is_n)

    pub small_drives : cap ≤ 65536
    small_drives = fit.small

    pub filled_by : length xs ≡ many * cap * 512
    filled_by = fit.filled ∙ ap (λ k. k * cap * 512) (sym is_n)

    pub located : (a : ℕ) → len ≡ 512 → b < cap → a ≡ (d * cap + b) * 512 → Located xs n cap d b len a
    located a k l e = record {
      placed = record { exists = omega (arith, count_is xs many cap); whole = k; within = omega (arith, size_is xs many cap d dn) };
      begins = e;
      room = omega (arith, room many cap d b (length xs) dn l filled_by);
    }

-- the block that was found
module _ (xs : List ℕ) (n cap d b len a : ℕ) (found : Located xs n cap d b len a) where
  there : d < fitting (length xs) n cap
  there = omega (arith, found.placed.exists, count_is xs (fitting (length xs) n cap) cap)

  within : b < cap
  within = omega (arith, found.placed.within, size_is xs (fitting (length xs) n cap) cap d there)

  pub found_read : (was is : List ℕ) → length was ≡ len → is ≡ take 512 (drop a xs) → ReadBy (held xs n cap) (held xs n cap) d b was is
  found_read was is e h = record {
    placed = record { exists = found.placed.exists; whole = e ∙ found.placed.whole; within = found.placed.within };
    working = working_is xs (fitting (length xs) n cap) cap d there;
    filled = h ∙ ap (λ k. take 512 (drop k xs)) found.begins ∙ sym (block_is xs (fitting (length xs) n cap) cap d b there within);
    same = refl;
  }

  pub found_write : (ys zs : List ℕ) (w : ℕ) → length zs ≡ len → w ≡ 512 → ys ≡ zs → WroteBy (held xs n cap) (held (put_mid a w xs ys) n cap) d b zs
  found_write ys zs w e ew ey =
      let whole : length zs ≡ 512 = e ∙ found.placed.whole in
      let p = (d * cap + b) * 512 in
      let same : put_mid a w xs ys ≡ put_mid p 512 xs zs = let i = found.begins in cc in
      let size : length (put_mid p 512 xs zs) ≡ length xs = length_put xs zs p (omega (arith, found.room, found.begins)) whole in
      record {
        placed = record { exists = found.placed.exists; whole = whole; within = found.placed.within };
        working = working_is xs (fitting (length xs) n cap) cap d there;
        stored =
            ap (λ v. held v n cap) same
            ∙ ap (λ l. image (put_mid p 512 xs zs) (fitting l n cap) cap) size
            ∙ written xs zs (fitting (length xs) n cap) cap d b there within (filled_by xs n cap d b len there) whole;
      }

  pub found_after : (ys zs : List ℕ) (w : ℕ) → w ≡ 512 → ys ≡ zs → put_mid a w xs ys ≡ take ((d * cap + b) * 512) xs ++ (zs ++ drop ((d * cap + b) * 512 + 512) xs)
  found_after ys zs w ew ey =
      let p = (d * cap + b) * 512 in
      let same : put_mid a w xs ys ≡ put_mid p 512 xs zs = let i = found.begins in cc in
      same ∙ ap (λ v. take p xs ++ (zs ++ v)) (drop-drop 512 p xs)
