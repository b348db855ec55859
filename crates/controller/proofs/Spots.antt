-- The protected block of each block of a volume set: it lies in a group, and no two blocks have the same.
use Rattle.std.proofs.Common.{◌≡◌, ℕ, suc, ◌+◌, ◌-◌, ◌<◌, true, List, [], ◌∷◌, length, get_or, take, Some, None, Option, sym, refl, ap, ◌∙◌, subst, ⊎_elim, arith}
use Rattle.std.proofs.lemmas.List.{get_or_past}
use Rattle.std.proofs.lemmas.Bool.{cases_lt, cond_below, cond_above}
use Rattle.array.specs.declared.volume.Run.{Run}
use Rattle.array.specs.Configuration.{Configuration, VolumeConfig, Configured, group_at, volume_at, or_else, no_volume, is_some, run}
use Rattle.array.specs.Places.{Spot, spot_in, spot_of, blocks_in, blocks_of, size_of}
use Rattle.array.specs.Tables.{SomeRun, SoundConfig}

-- block b of the runs is block o of run j
pub spot_found : (rs : List Run) (b : ℕ) → b < blocks_in rs →
    (j : ℕ) × (j < length rs) × (o : ℕ) × (o < (run rs j).count) × ((spot_in rs b).group ≡ (run rs j).group) × ((spot_in rs b).block ≡ (run rs j).first + o) × (b ≡ blocks_in (take j rs) + o)
spot_found [] b h = absurd (omega arith)
spot_found (r ∷ rs) b h =
    let here : Spot = record { group = r.group; block = r.first + b } in
    let later : Spot = spot_in rs (b - r.count) in
    ⊎_elim
    (λ l. let e = sym (cond_below b r.count here later l) in (0, omega arith, b, l, ap (λ v. v.group) e, ap (λ v. v.block) e, omega arith))
    (λ l.
    let x = spot_found rs (b - r.count) (omega arith) in
    let e = sym (cond_above b r.count here later later l refl) in
    (suc x.0, omega (arith, x.1), x.2, x.3, ap (λ v. v.group) e ∙ x.4, ap (λ v. v.block) e ∙ x.5, omega (arith, x.6)))
    (cases_lt b r.count)

-- what has a block is configured
some_volume : (o : Option VolumeConfig) (b : ℕ) → b < blocks_in (or_else no_volume o).runs → is_some o ≡ true
some_volume None b h = absurd (omega arith)
some_volume (Some v) b h = refl

pub volume_configured : (c : Configuration) (v b : ℕ) → b < blocks_of c v → Configured c.volumes v
volume_configured c v b h = (
  ⊎_elim (λ l. l)
      (λ l. absurd (omega (arith, subst (λ o. b < blocks_in (or_else no_volume o).runs) (get_or_past c.volumes v None l) h)))
      (cases_lt v (length c.volumes)),
  some_volume (get_or c.volumes v None) b h,
)

module _ {c : Configuration} (s : SoundConfig c) where
  -- the protected block is one of a group
  pub spot_inside : (v b : ℕ) → b < blocks_of c v → Configured c.groups (spot_of c v b).group × ((spot_of c v b).block < size_of (group_at c (spot_of c v b).group))
  spot_inside v b h =
      let x = spot_found (volume_at c v).runs b h in
      let r : SomeRun c = record { v = v; j = x.0; has = (volume_configured c v b h, x.1) } in (
        subst (Configured c.groups) (sym x.4) (s.grouped r),
        subst (λ g. (spot_of c v b).block < size_of (group_at c g)) (sym x.4) (omega (arith, x.3, x.5, s.inside r)),
      )

  -- and no two blocks have the same
  pub spots_apart : (v b w d : ℕ) → b < blocks_of c v → d < blocks_of c w →
      (spot_of c v b).group ≡ (spot_of c w d).group → (spot_of c v b).block ≡ (spot_of c w d).block → (v ≡ w) × (b ≡ d)
  spots_apart v b w d hb hd g q =
      let x = spot_found (volume_at c v).runs b hb in
      let y = spot_found (volume_at c w).runs d hd in
      let both = s.runs record {
        v = v;
        i = x.0;
        w = w;
        j = y.0;
        g = (spot_of c v b).group;
        q = (spot_of c v b).block;
        has_first = (volume_configured c v b hb, x.1);
        has_second = (volume_configured c w d hd, y.1);
        in_first = record { group = x.4; from = omega (arith, x.5); below = omega (arith, x.5, x.3) };
        in_second = record { group = g ∙ y.4; from = omega (arith, q, y.5); below = omega (arith, q, y.5, y.3) };
      } in
      let first : (run (volume_at c v).runs x.0).first ≡ (run (volume_at c w).runs y.0).first =
      ap (λ n. (run (volume_at c n).runs x.0).first) both.0 ∙ ap (λ n. (run (volume_at c w).runs n).first) both.1 in
      let ahead : blocks_in (take x.0 (volume_at c v).runs) ≡ blocks_in (take y.0 (volume_at c w).runs) =
      ap (λ n. blocks_in (take x.0 (volume_at c n).runs)) both.0 ∙ ap (λ n. blocks_in (take n (volume_at c w).runs)) both.1 in
      (both.0, omega (arith, q, x.5, y.5, x.6, y.6))
