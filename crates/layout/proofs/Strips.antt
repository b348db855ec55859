-- Strip, slot and row of a block, at depth k with d user blocks to a row. Assumes nothing.
use Rattle.std.proofs.Common.{◌≡◌, ℕ, zero, suc, ◌+◌, ◌*◌, ◌/◌, ◌%◌, ◌<◌, sym, ap, ◌∙◌, subst, not-suc-le-zero, mod-lt, mul_assoc, mul_comm, div-add-mod', zero-mul, arith}
use native.Mathlib.Nat.{mod-mod_of_dvd, dvd-mul_right, zero-mod}
use lib.Arith.{digits_div, digits_mod, digits_lt}
use Rattle.std.proofs.lemmas.Nat.{div_below, mul-lt, mul-add-lt, div-mul-add, mod-mul-add}
use Rattle.layout.specs.Places.{strip, slot, line}

-- where there is a block, a row has one
pub some_width : (d l q : ℕ) → q < d * l → 0 < d
some_width zero l q h = absurd (not-suc-le-zero (subst (λ (x : ℕ). q < x) (zero-mul l) h))
some_width (suc d) l q h = omega arith

-- a multiple of k times c is one of k
pub multiple_of : (k c l : ℕ) → l % (k * c) ≡ 0 → l % k ≡ 0
multiple_of k c l e = sym (mod-mod_of_dvd k l (dvd-mul_right k c)) ∙ ap (λ (x : ℕ). x % k) e ∙ zero-mod k

-- d user blocks in each of s strips of k rows
regroup : (k d s : ℕ) → d * (s * k) ≡ k * d * s
regroup k d s = ap (λ (x : ℕ). d * x) (mul_comm s k) ∙ sym (mul_assoc d k s) ∙ ap (λ (x : ℕ). x * s) (mul_comm d k)

module _ (k d : ℕ) (kp : 0 < k) where
  pub unit_some : 0 < d → 0 < k * d
  unit_some dp = mul-lt 0 0 k d kp dp

  -- l rows are whole strips
  whole : (l : ℕ) → l % k ≡ 0 → l / k * k ≡ l
  whole l e = omega (arith, div-add-mod' l k)

  pub line_strip : (q : ℕ) → line k d q / k ≡ strip k d q
  line_strip q = digits_div (strip k d q) (mod-lt q kp)

  line_mod : (q : ℕ) → line k d q % k ≡ q % k
  line_mod q = digits_mod (strip k d q) (mod-lt q kp)

  pub line_below : 0 < d → (q l : ℕ) → l % k ≡ 0 → q < d * l → line k d q < l
  line_below dp q l e h =
      let s = l / k in
      let lt : q < s * (k * d) = subst (λ (x : ℕ). q < x) (ap (λ (x : ℕ). d * x) (sym (whole l e)) ∙ regroup k d s ∙ mul_comm (k * d) s) h in
      subst (λ (x : ℕ). line k d q < x) (whole l e) (digits_lt (div_below q (k * d) s (unit_some dp) lt) (mod-lt q kp))

  pub slot_below : 0 < d → (q : ℕ) → slot k d q < d
  slot_below dp q = div_below (q % (k * d)) k d kp (subst (λ (x : ℕ). q % (k * d) < x) (mul_comm k d) (mod-lt q (unit_some dp)))

  -- q from its strip, its slot and its row in the strip
  again : (q : ℕ) → q ≡ strip k d q * (k * d) + (slot k d q * k + q % k)
  again q =
      let low : slot k d q * k + q % k ≡ q % (k * d) =
      ap (λ (x : ℕ). slot k d q * k + x) (sym (mod-mod_of_dvd k q (dvd-mul_right k d))) ∙ div-add-mod' (q % (k * d)) k in
      sym (div-add-mod' q (k * d)) ∙ ap (λ (x : ℕ). strip k d q * (k * d) + x) (sym low)

  pub same_place : (q p : ℕ) → line k d q ≡ line k d p → slot k d q ≡ slot k d p → q ≡ p
  same_place q p e f =
      let s : strip k d q ≡ strip k d p = sym (line_strip q) ∙ ap (λ (x : ℕ). x / k) e ∙ line_strip p in
      let m : q % k ≡ p % k = sym (line_mod q) ∙ ap (λ (x : ℕ). x % k) e ∙ line_mod p in
      again q ∙ ap (λ (x : ℕ). x * (k * d) + (slot k d q * k + q % k)) s
      ∙ ap (λ (x : ℕ). strip k d p * (k * d) + (x * k + q % k)) f
      ∙ ap (λ (x : ℕ). strip k d p * (k * d) + (slot k d p * k + x)) m ∙ sym (again p)

  module _ (r p : ℕ) (lt : p < d) where
    low_below : p * k + r % k < k * d
    low_below = mul-add-lt p k (r % k) d lt (mod-lt r kp)

    pub strip_at : strip k d (r / k * (k * d) + (p * k + r % k)) ≡ r / k
    strip_at = div-mul-add (r / k) (k * d) (p * k + r % k) low_below

    low_at : (r / k * (k * d) + (p * k + r % k)) % (k * d) ≡ p * k + r % k
    low_at = mod-mul-add (r / k) (k * d) (p * k + r % k) low_below

    pub slot_at : slot k d (r / k * (k * d) + (p * k + r % k)) ≡ p
    slot_at = ap (λ (x : ℕ). x / k) low_at ∙ div-mul-add p k (r % k) (mod-lt r kp)

    pub line_at : line k d (r / k * (k * d) + (p * k + r % k)) ≡ r
    line_at =
        let q = r / k * (k * d) + (p * k + r % k) in
        let e : q % k ≡ r % k = sym (mod-mod_of_dvd k q (dvd-mul_right k d)) ∙ ap (λ (x : ℕ). x % k) low_at ∙ mod-mul-add p k (r % k) (mod-lt r kp) in
        ap (λ (x : ℕ). x * k + q % k) strip_at ∙ ap (λ (x : ℕ). r / k * k + x) e ∙ div-add-mod' r k

    pub at_below : (l : ℕ) → l % k ≡ 0 → r < l → r / k * (k * d) + (p * k + r % k) < d * l
    at_below l e h =
        let s = l / k in
        let strips : r / k < s = div_below r k s kp (subst (λ (x : ℕ). r < x) (sym (whole l e)) h) in
        subst (λ (x : ℕ). r / k * (k * d) + (p * k + r % k) < x) (sym (ap (λ (x : ℕ). d * x) (sym (whole l e)) ∙ regroup k d s)) (mul-add-lt (r / k) (k * d) (p * k + r % k) s strips low_below)
