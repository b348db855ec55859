-- What the drives in a row of bytes hold, and what a write to the bytes does to them.
use Rattle.std.proofs.Common.{◌≡◌, ℕ, ◌+◌, ◌-◌, ◌*◌, ◌/◌, ◌%◌, ◌<◌, ◌≤◌, false, ◌≢◌, List, [], map, length, get_or, take, drop, set, sym, ap, ◌∙◌, subst, ⊎_elim, arith}
use borrow.Rule.Slice.PartMut.{put_mid}
use Rattle.std.specs.List.{range_with_len}
use Rattle.std.proofs.lemmas.List.FromFn.{length-map-range_with_len, get_or-map-range_with_len}
use Rattle.std.proofs.lemmas.List.{get_or-set_same, get_or-set_other, length-set, ext_get_or}
use Rattle.std.proofs.lemmas.Slice.{between_is, take-put_mid_below, drop-put_mid, between-put_mid}
use Rattle.std.proofs.lemmas.Nat.{div-mul-add, mod-mul-add}
use Rattle.std.proofs.lemmas.Bool.{cases_eq, cases_order}
use Rattle.bus.specs.Drives.{Drive, stored, absent}
use Rattle.buses.specs.Image.{piece, drive_in, image}
use Rattle.buses.specs.Images.{at_is, room}

-- one piece after a write to the piece q
module _ (xs ys : List ℕ) (q : ℕ) (fits : q * 512 + 512 ≤ length xs) (whole : length ys ≡ 512) where
  pub piece_same : piece (put_mid (q * 512) 512 xs ys) q ≡ ys
  piece_same =
      let e = between-put_mid (q * 512) 512 xs ys (q * 512 + 512) (omega arith) (omega arith) in
      let w : q * 512 + 512 - q * 512 ≡ 512 = omega arith in
      rw w at e

  pub piece_other : (p : ℕ) → p ≢ q → piece (put_mid (q * 512) 512 xs ys) p ≡ piece xs p
  piece_other p ne =
      let w : p * 512 + 512 - p * 512 ≡ 512 = omega arith in
      let low : p < q → piece (put_mid (q * 512) 512 xs ys) p ≡ piece xs p =
      λ h.
      let e = between_is (put_mid (q * 512) 512 xs ys) (p * 512) (p * 512 + 512) in
      let f = between_is xs (p * 512) (p * 512 + 512) in
      let t = take-put_mid_below (q * 512) 512 xs ys (p * 512 + 512) (omega arith) (omega arith) in
      (rw w at e) ∙ ap (drop (p * 512)) t ∙ sym (rw w at f) in
      let high : q < p → piece (put_mid (q * 512) 512 xs ys) p ≡ piece xs p =
      λ h. ap (take 512) (drop-put_mid (q * 512) 512 xs ys (p * 512) (omega arith) (omega arith) whole) in
      ⊎_elim (λ e. absurd (ne e)) (⊎_elim low high) (cases_order p q)

-- a place tells its drive and its block
same_drive : (cap k j d b : ℕ) → j < cap → b < cap → k * cap + j ≡ d * cap + b → k ≡ d
same_drive cap k j d b hj hb e = sym (div-mul-add k cap j hj) ∙ ap (λ p. p / cap) e ∙ div-mul-add d cap b hb

same_block : (cap k j d b : ℕ) → j < cap → b < cap → k * cap + j ≡ d * cap + b → j ≡ b
same_block cap k j d b hj hb e = sym (mod-mul-add k cap j hj) ∙ ap (λ p. p % cap) e ∙ mod-mul-add d cap b hb

-- lists made by functions that agree below n
same_made : {X : Type 0} (f g : ℕ → X) (n : ℕ) (e : X) → ((j : ℕ) → j < n → f j ≡ g j) → map f (range_with_len 0 n) ≡ map g (range_with_len 0 n)
same_made f g n e h =
    ext_get_or e _ _ (length-map-range_with_len f 0 n ∙ sym (length-map-range_with_len g 0 n))
    (λ j k.
    let jn : j < n = omega (arith, length-map-range_with_len f 0 n) in
    get_or-map-range_with_len f 0 n j j e jn (omega arith) ∙ h j jn ∙ sym (get_or-map-range_with_len g 0 n j j e jn (omega arith)))

-- and one that differs at b alone
set_made : {X : Type 0} (f g : ℕ → X) (n b : ℕ) (e y : X) → f b ≡ y → ((j : ℕ) → j < n → j ≢ b → f j ≡ g j) → map f (range_with_len 0 n) ≡ set (map g (range_with_len 0 n)) b y
set_made f g n b e y here h =
    ext_get_or e _ _ (length-map-range_with_len f 0 n ∙ sym (length-set (map g (range_with_len 0 n)) b y ∙ length-map-range_with_len g 0 n))
    (λ j k.
    let jn : j < n = omega (arith, length-map-range_with_len f 0 n) in
    let fj : get_or (map f (range_with_len 0 n)) j e ≡ f j = get_or-map-range_with_len f 0 n j j e jn (omega arith) in
    let gl : j < length (map g (range_with_len 0 n)) = omega (arith, length-map-range_with_len g 0 n) in
    ⊎_elim
    (λ (q : j ≡ b). fj ∙ ap f q ∙ here ∙ sym (ap (λ i. get_or (set (map g (range_with_len 0 n)) b y) i e) q ∙ get_or-set_same (map g (range_with_len 0 n)) b y e (subst (λ i. i < length (map g (range_with_len 0 n))) q gl)))
    (λ ne. fj ∙ h j jn ne ∙ sym (get_or-set_other (map g (range_with_len 0 n)) b j y e ne ∙ get_or-map-range_with_len g 0 n j j e jn (omega arith)))
    (cases_eq j b))

module _ (xs ys : List ℕ) (n cap d b : ℕ) (dn : d < n) (bc : b < cap) (len : length xs ≡ n * cap * 512) (whole : length ys ≡ 512) where
  abbrev after : List ℕ
  after = put_mid ((d * cap + b) * 512) 512 xs ys

  fits : (d * cap + b) * 512 + 512 ≤ length xs
  fits = room n cap d b (length xs) dn bc len

  here : drive_in after cap d ≡ record { blocks = set (drive_in xs cap d).blocks b ys; broken = false }
  here =
      ap (λ (v : List (List ℕ)). record { blocks = v; broken = false })
      (set_made (λ j. piece after (d * cap + j)) (λ j. piece xs (d * cap + j)) cap b [] ys
      (piece_same xs ys (d * cap + b) fits whole)
      (λ j jc ne. piece_other xs ys (d * cap + b) fits whole (d * cap + j) (λ e. ne (same_block cap d j d b jc bc e))))

  there : (k : ℕ) → k ≢ d → drive_in after cap k ≡ drive_in xs cap k
  there k ne =
      ap (λ (v : List (List ℕ)). record { blocks = v; broken = false })
      (same_made (λ j. piece after (k * cap + j)) (λ j. piece xs (k * cap + j)) cap []
      (λ j jc. piece_other xs ys (d * cap + b) fits whole (k * cap + j) (λ e. ne (same_drive cap k j d b jc bc e))))

  pub written : image after n cap ≡ stored (image xs n cap) d b ys
  unfolding image
  written =
      set_made (λ k. drive_in after cap k) (λ k. drive_in xs cap k) n d absent _
      (here ∙ ap (λ (v : Drive). record { blocks = set v.blocks b ys; broken = v.broken }) (sym (at_is xs n cap d dn)))
      (λ k kn ne. there k ne)
