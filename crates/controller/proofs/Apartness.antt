-- No two blocks of volume sets share a drive block.
use Rattle.std.proofs.Common.{◌≡◌, ℕ, ◌<◌, sym, refl, ap, subst, arith}
use Rattle.layout.specs.Extents.{Covers}
use Rattle.group.specs.Group.{member}
use Rattle.array.specs.Configuration.{GroupConfig, Configuration, Configured, group_at, extent_at}
use Rattle.array.specs.Places.{DriveBlock, home_block, home_of, size_of, spot_of}
use Rattle.array.specs.Tables.{SoundGroup, SoundConfig}
use Rattle.array.proofs.Soundness.{places_of}
use Rattle.controller.specs.Law.{Apart}
use Rattle.controller.proofs.Spots.{spot_inside, spots_apart}

module _ (g : GroupConfig) (s : SoundGroup g) where
  -- a home lies in its member's extent
  pub home_covered : (q : ℕ) → q < size_of g → Covers (extent_at g (home_of g q)) (home_block g q).drive (home_block g q).at
  home_covered q h = record { drive = refl; from = omega arith; below = omega (arith, ((places_of g s).inside q h).1) }

  -- and is the home of one protected block
  pub homes_once : (p q : ℕ) → p < size_of g → q < size_of g → home_of g p ≡ home_of g q → home_block g p ≡ home_block g q → p ≡ q
  homes_once p q hp hq i e =
      let start : (member g.members (home_of g p)).start ≡ (member g.members (home_of g q)).start = ap (λ n. (member g.members n).start) i in
      (places_of g s).apart p q hp hq i (omega (arith, ap (λ (x : DriveBlock). x.at) e))

module _ {c : Configuration} (s : SoundConfig c) where
  pub homes_apart : (g p h q : ℕ) → Configured c.groups g → p < size_of (group_at c g) → Configured c.groups h → q < size_of (group_at c h) →
      home_block (group_at c g) p ≡ home_block (group_at c h) q → (g ≡ h) × (p ≡ q)
  homes_apart g p h q cg hp ch hq e =
      let both = s.extents record {
        g = g;
        i = home_of (group_at c g) p;
        h = h;
        j = home_of (group_at c h) q;
        drive = (home_block (group_at c g) p).drive;
        block = (home_block (group_at c g) p).at;
        has_first = (cg, ((places_of (group_at c g) (s.groups g cg)).inside p hp).0);
        has_second = (ch, ((places_of (group_at c h) (s.groups h ch)).inside q hq).0);
        in_first = home_covered (group_at c g) (s.groups g cg) p hp;
        in_second = subst (λ (x : DriveBlock). Covers (extent_at (group_at c h) (home_of (group_at c h) q)) x.drive x.at) (sym e) (home_covered (group_at c h) (s.groups h ch) q hq);
      } in (
        both.0,
        subst (λ n. p < size_of (group_at c n) → home_of (group_at c n) p ≡ home_of (group_at c h) q → home_block (group_at c n) p ≡ home_block (group_at c h) q → p ≡ q)
            (sym both.0) (λ lp i f. homes_once (group_at c h) (s.groups h ch) p q lp hq i f) hp both.1 e,
      )

  pub apart_by : Apart c
  apart_by = record {
    extents = s.extents;
    blocks = λ v b w d hb hd e.
        let x = spot_inside s v b hb in
        let y = spot_inside s w d hd in
        let z = homes_apart (spot_of c v b).group (spot_of c v b).block (spot_of c w d).group (spot_of c w d).block x.0 x.1 y.0 y.1 e in
        spots_apart s v b w d hb hd z.0 z.1;
  }
