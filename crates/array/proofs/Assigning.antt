-- Extents that share a block with a member of a group.
use Rattle.std.proofs.Common.{◌≡◌, ℕ, ◌<◌, List, map, length, get_or, Bool, true, [], Some, None, Option, ◌↔◌, sym, refl, ap, subst, arith}
use Rattle.std.proofs.lemmas.List.{length-map}
use Rattle.layout.specs.declared.extent.ExtentRow.{ExtentRow}
use Rattle.array.specs.declared.slot.GroupSlot.{GroupSlot}
use Rattle.array.specs.Configuration.{GroupConfig, configuration, group_at, group_view, is_some, mapped_option, no_group, or_else}
use Rattle.array.specs.Planning.{Assigned, Shared, slot_view}
use Rattle.array.proofs.Tabling.{entry_seen}

some_group : (x : Option GroupConfig) (i : ℕ) → i < length (or_else no_group x).members → is_some x ≡ true
some_group None i h = absurd (omega arith)
some_group (Some x) i h = refl

pub assigned : (gs : List (Option GroupSlot)) (e : ExtentRow) (b : Bool) → (b ≡ true) ↔ ((g : ℕ) × (g < length gs) × Shared e (slot_view (get_or gs g None))) → (b ≡ true) ↔ Assigned (configuration gs []) e
assigned gs e b each = (
  λ t.
      let one = each.0 t in
      let here : Shared e (group_at (configuration gs []) one.0) = subst (λ (v : GroupConfig). Shared e v) (seen one.0) one.2 in
      (one.0, here.0, ((omega (arith, one.1, length-map gs (mapped_option group_view)), some_group (get_or (map (mapped_option group_view) gs) one.0 None) here.0 here.1), here.1), here.2),
  λ one. each.1 (one.0, omega (arith, one.2.0.0, length-map gs (mapped_option group_view)), subst (λ (v : GroupConfig). Shared e v) (sym (seen one.0)) (one.1, one.2.1, one.3)),
)
  where
    seen : (g : ℕ) → slot_view (get_or gs g None) ≡ group_at (configuration gs []) g
    seen g = ap (or_else no_group) (sym (entry_seen group_view gs g (get_or gs g None) refl))
