-- Every method's places, from what it owes of each row. Assumes nothing.
use Rattle.std.proofs.Common.{◌≡◌, ℕ, ◌+◌, ◌*◌, ◌/◌, ◌%◌, ◌<◌, ◌≤◌, true, false, Option, Some, None, MatchOption, option_map, sym, refl, ap, ◌∙◌, subst, arith}
use Rattle.layout.specs.declared.method.Method.{Ghosts}
use Rattle.layout.specs.Methods.{Sound, capped}
use Rattle.layout.specs.Places.{strip, slot, line, protected, home_of, row_of, check_at, PlaceOf, HeldAt, OnePlaceEach}
use Rattle.layout.proofs.Strips.{some_width, line_strip, line_below, slot_below, same_place, strip_at, slot_at, line_at, at_below}

module _ {X : Type 0} (m : Ghosts X) (s : Sound m.LEAST m.width m.cycle m.home m.check m.row m.tolerance)
    (n k l : ℕ) (one : 1 ≤ n) (few : n ≤ 8) (kp : 1 ≤ k) (strips : l % k ≡ 0) where
  pub width_some : (q : ℕ) → q < protected m n l → 0 < m.width n
  width_some q h = some_width (m.width n) l q h

  pub slot_inside : (q : ℕ) → q < protected m n l → slot k (m.width n) q < m.width n
  slot_inside q h = slot_below k (m.width n) kp (width_some q h) q

  pub home_inside : (q : ℕ) → q < protected m n l → home_of m n k q < n
  home_inside q h = s.inside n (strip k (m.width n) q) (slot k (m.width n) q) one few (slot_inside q h)

  pub row_inside : (q : ℕ) → q < protected m n l → row_of m n k q < l
  row_inside q h = line_below k (m.width n) kp (width_some q h) q l strips h

  user : (q : ℕ) → q < protected m n l → check_at m n k (home_of m n k q) (row_of m n k q) ≡ false
  user q h =
      ap (λ (t : ℕ). m.check n t (home_of m n k q)) (line_strip k (m.width n) kp q)
      ∙ s.free n (strip k (m.width n) q) (slot k (m.width n) q) one few (slot_inside q h)

  apart : (p q : ℕ) → p < protected m n l → q < protected m n l → home_of m n k p ≡ home_of m n k q → row_of m n k p ≡ row_of m n k q → p ≡ q
  apart p q hp hq e f =
      let d = m.width n in
      let t : strip k d p ≡ strip k d q = sym (line_strip k d kp p) ∙ ap (λ (x : ℕ). x / k) f ∙ line_strip k d kp q in
      same_place k d kp p q f (s.apart n (strip k d q) (slot k d p) (slot k d q) one few (slot_inside p hp) (slot_inside q hq)
      (ap (λ (x : ℕ). m.home n x (slot k d p)) (sym t) ∙ e))

  -- the block at slot p of row r
  pub found : (r p : ℕ) → r < l → p < m.width n →
      (r / k * (k * m.width n) + (p * k + r % k) < protected m n l)
      × (home_of m n k (r / k * (k * m.width n) + (p * k + r % k)) ≡ m.home n (r / k) p)
      × (row_of m n k (r / k * (k * m.width n) + (p * k + r % k)) ≡ r)
  found r p h lt =
      let d = m.width n in
      let q = r / k * (k * d) + (p * k + r % k) in (
        at_below k d kp r p lt l strips h,
        ap (λ (t : ℕ). m.home n t (slot k d q)) (strip_at k d kp r p lt) ∙ ap (m.home n (r / k)) (slot_at k d kp r p lt),
        line_at k d kp r p lt,
      )

  here : (q h : ℕ) → q < protected m n l → h ≡ capped (home_of m n k q) →
      PlaceOf m n k l q (record { member = h; row = row_of m n k q; strip = strip k (m.width n) q; slot = slot k (m.width n) q })
  here q h lt e =
      let i : home_of m n k q < n = home_inside q lt in
      let f : h ≡ home_of m n k q = omega arith in
      record {
        home = f;
        row = refl;
        strip_of = sym (line_strip k (m.width n) kp q);
        slot_of = refl;
        member_inside = omega arith;
        row_inside = row_inside q lt;
        slot_inside = slot_inside q lt;
        at_home = f;
      }

  -- what `locate` answers, w being the width
  pub place_of : (q w h : ℕ) → q < protected m n l → w ≡ m.width n → h ≡ capped (m.home n (strip k w q) (slot k w q)) →
      PlaceOf m n k l q (record { member = h; row = line k w q; strip = strip k w q; slot = slot k w q })
  place_of q w h lt e =
      subst (λ (x : ℕ). h ≡ capped (m.home n (strip k x q) (slot k x q)) → PlaceOf m n k l q (record { member = h; row = line k x q; strip = strip k x q; slot = slot k x q }))
      (sym e) (here q h lt)

  -- what `held_at` answers, t being the strip and w the width
  pub held : (i r p t w : ℕ) → r < l → t ≡ r / k → w ≡ m.width n → p < m.width n → m.home n t p ≡ i →
      HeldAt m n k l i r (Some (t * (k * w) + (p * k + r % k)))
  held i r p t w hr e f lt at =
      let z = found r p hr lt in
      subst (λ (x : ℕ). HeldAt m n k l i r (Some (x * (k * w) + (p * k + r % k)))) (sym e)
      (subst (λ (x : ℕ). HeldAt m n k l i r (Some (r / k * (k * x) + (p * k + r % k)))) (sym f)
      (z.0, z.1 ∙ ap (λ (x : ℕ). m.home n x p) (sym e) ∙ at, z.2))

  -- p being what `slot_at` answers
  pub held_map : (i r : ℕ) (p : Option ℕ) (t w : ℕ) → r < l → t ≡ r / k → w ≡ m.width n →
      MatchOption p (m.check n t i ≡ true) (λ s. (s < m.width n) × (m.home n t s ≡ i)) →
      HeldAt m n k l i r (option_map (λ s. t * (k * w) + (s * k + r % k)) p)
  held_map i r (Some p) t w hr e f at = held i r p t w hr e f at.0 at.1
  held_map i r None t w hr e f at = ap (λ (x : ℕ). m.check n x i) (sym e) ∙ at

  pub one_place_each : OnePlaceEach m n k l
  one_place_each = record {
    inside = λ q h. (home_inside q h, row_inside q h);
    user = user;
    apart = apart;
    onto = λ i r hi hr free.
        let c = s.covered n (r / k) i one few hi free in
        let f = found r c.0 hr c.1 in (
          r / k * (k * m.width n) + (c.0 * k + r % k),
          f.0,
          f.1 ∙ c.2,
          f.2,
          λ p hp e g. apart p (r / k * (k * m.width n) + (c.0 * k + r % k)) hp f.0 (e ∙ sym (f.1 ∙ c.2)) (g ∙ sym f.2),
        );
  }
