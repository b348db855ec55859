-- What a place of a table tells of the configuration, and how large what is configured can be.
use Rattle.std.proofs.Common.{◌≡◌, ℕ, zero, suc, ◌<◌, ◌≤◌, List, [], ◌∷◌, map, length, get_or, Some, None, Option, sym, ap, ◌∙◌, subst, mul-le-mul, arith}
use Rattle.std.proofs.lemmas.List.{length-take}
use Rattle.group.specs.Record.{members_of}
use Rattle.array.specs.declared.kind.MethodKind.{MethodKind}
use Rattle.array.specs.declared.kind.MethodKind.TheVariants.{NoRedundancy, Copy, Xor}
use Rattle.array.specs.declared.slot.GroupSlot.{GroupSlot}
use Rattle.array.specs.declared.spots.GroupBlock.{GroupBlock}
use Rattle.array.specs.declared.volume.Run.{Run}
use Rattle.array.specs.declared.volume.Volume.{Volume}
use Rattle.array.specs.declared.tables.Array.{Array}
use Rattle.array.specs.Kinds.{method}
use Rattle.array.specs.Arrays.{config}
use Rattle.array.specs.Configuration.{VolumeConfig, is_some, or_else, mapped_option, no_group, no_volume, Configured, group_at, volume_at, group_view, volume_view, run}
use Rattle.array.specs.Checks.{EachRun}
use Rattle.array.specs.Places.{size_of, spot_of, blocks_in, blocks_of}
use Rattle.array.specs.Tables.{number_in}
use Rattle.array.specs.Finding.{ShortRun, SpotAt, EntryAt, SlotAt, FoundAt}
use Rattle.array.proofs.Tabling.{entry_seen, configured_seen}
use Rattle.array.proofs.Walking.{in_some, blocks_few}

-- tables ----------------------------------------------------------------------------------------------------------------

module _ {A B : Type 0} (f : A → B) where
  module _ (xs : List (Option A)) (n : ℕ) (x : A) (e : EntryAt xs n x) where
    pub entry_configured : Configured (map (mapped_option f) xs) n
    entry_configured = configured_seen f xs n (e.inside, ap is_some e.is)

    pub entry_viewed : (d : B) → f x ≡ or_else d (get_or (map (mapped_option f) xs) n None)
    entry_viewed d = sym (ap (or_else d) (entry_seen f xs n (Some x) e.is))

  -- what holds of every entry's view and of the default holds under every number
  of_each : (P : B → Type 0) (d : B) → P d → ((x : A) → P (f x)) → (xs : List (Option A)) (n : ℕ) → P (or_else d (get_or (map (mapped_option f) xs) n None))
  of_each P d o each [] n = o
  of_each P d o each (None ∷ xs) zero = o
  of_each P d o each (Some x ∷ xs) zero = each x
  of_each P d o each (x ∷ xs) (suc n) = of_each P d o each xs n

pub slot_at : (a : Array) (g : ℕ) (s : GroupSlot) → EntryAt a.groups g s → SlotAt (config a) g s
slot_at a g s e = record {
  configured = entry_configured group_view a.groups g s e;
  view = entry_viewed group_view a.groups g s e no_group;
  number = sym (ap number_in e.is) ∙ a.numbered g (e.inside, ap is_some e.is);
}

-- sizes -----------------------------------------------------------------------------------------------------------------

width_few : (k : MethodKind) (n : ℕ) → n ≤ 8 → (method k).width n ≤ 8
width_few NoRedundancy n h = h
width_few Copy n h = omega arith
width_few Xor n h = omega arith

slot_small : (s : GroupSlot) → size_of (group_view s) ≤ 524288
slot_small s =
    let n = length (members_of s.group) in
    let few : n ≤ 8 = omega (arith, length-take s.group.geometry.members s.group.members, s.group.geometry.few_members) in
    mul-le-mul (width_few s.kind n few) s.group.geometry.few_rows

size_small : (a : Array) (g : ℕ) → size_of (group_at (config a) g) ≤ 524288
size_small a g = of_each group_view (λ v. size_of v ≤ 524288) no_group (omega arith) slot_small a.groups g

module _ (a : Array) (v : ℕ) (has : Configured (config a).volumes v) where
  runs_short : EachRun (volume_at (config a) v).runs ShortRun
  runs_short j h = omega (arith, a.inside (record { v = v; j = j; has = (has, h) }), size_small a (run (volume_at (config a) v).runs j).group)

  blocks_fit : blocks_of (config a) v ≤ 2097152
  blocks_fit =
      let few : length (volume_at (config a) v).runs ≤ 4 =
      of_each volume_view (λ x. length x.runs ≤ 4) no_volume (omega arith) (λ x. omega (arith, length-take x.count x.runs, x.few)) a.volumes v in
      omega (arith, blocks_few (volume_at (config a) v).runs runs_short)

  -- a block of a volume set lies in a group
  module _ (b : ℕ) (below : b < blocks_of (config a) v) where
    spot_grouped : Configured (config a).groups (spot_of (config a) v b).group
    spot_grouped =
        let i = in_some (volume_at (config a) v).runs b below in
        subst (λ g. Configured (config a).groups g) (sym i.2) (a.grouped (record { v = v; j = i.0; has = (has, i.1) }))

    spot_inside : (spot_of (config a) v b).block < size_of (group_at (config a) (spot_of (config a) v b).group)
    spot_inside =
        let i = in_some (volume_at (config a) v).runs b below in
        subst (λ g. (spot_of (config a) v b).block < size_of (group_at (config a) g)) (sym i.2) (omega (arith, i.3, a.inside (record { v = v; j = i.0; has = (has, i.1) })))

  -- the same of the runs rs of a volume set x that was looked up
  module _ (x : Volume) (rs : List Run) (runs : rs ≡ (volume_view x).runs) (view : volume_view x ≡ volume_at (config a) v) where
    runs_are : rs ≡ (volume_at (config a) v).runs
    runs_are = runs ∙ ap (λ (y : VolumeConfig). y.runs) view

    pub found_short : EachRun rs ShortRun
    found_short = subst (λ y. EachRun y ShortRun) (sym runs_are) runs_short

    pub found_fit : blocks_in rs ≤ 2097152
    found_fit = subst (λ y. blocks_in y ≤ 2097152) (sym runs_are) blocks_fit

    -- and of the spot that was found in them
    module _ (b : ℕ) (p : GroupBlock) (at : SpotAt rs b p) where
      spot : SpotAt (volume_at (config a) v).runs b p
      spot = subst (λ y. SpotAt y b p) runs_are at

      pub spot_below : b < blocks_of (config a) v
      spot_below = spot.below

      pub group_there : (Configured (config a).groups p.group → ⊥) → ⊥
      group_there none = none (subst (λ g. Configured (config a).groups g) (sym spot.group) (spot_grouped b spot.below))

      pub found_at : (s : GroupSlot) → SlotAt (config a) p.group s → FoundAt (config a) v b s p.block
      found_at s slot =
          let here : SlotAt (config a) (spot_of (config a) v b).group s = subst (λ g. SlotAt (config a) g s) spot.group slot in
          record {
            slot = here;
            block = spot.block;
            inside = subst (λ q. q < size_of (group_view s)) (sym spot.block) (subst (λ g. (spot_of (config a) v b).block < size_of g) (sym here.view) (spot_inside b spot.below));
          }
