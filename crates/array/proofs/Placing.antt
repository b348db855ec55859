-- The places of a group's blocks, as the group's view has them.
use Rattle.std.proofs.Common.{◌≡◌, ℕ, ◌/◌, sym, ap, ◌∙◌}
use Rattle.layout.specs.declared.geometry.Place.{Place}
use Rattle.layout.specs.Places as layout
use Rattle.layout.specs.Places.{PlaceOf, protected}
use Rattle.group.proofs.Recording.{length_members}
use Rattle.array.specs.declared.slot.GroupSlot.{GroupSlot}
use Rattle.array.specs.Kinds.{method}
use Rattle.array.specs.Configuration.{group_view}
use Rattle.array.specs.Places.{count_of, size_of, home_of, row_of, slot_of}

module _ (s : GroupSlot) where
  pub long : count_of (group_view s) ≡ s.group.geometry.members
  long = length_members s.group s.group.eight

  pub size_is : size_of (group_view s) ≡ protected (method s.kind) s.group.geometry.members s.group.geometry.rows
  size_is = ap (λ n. protected (method s.kind) n s.group.geometry.rows) long

  module _ (q : ℕ) (a : Place) (at : PlaceOf (method s.kind) s.group.geometry.members s.group.geometry.depth s.group.geometry.rows q a) where
    pub home_is : a.member ≡ home_of (group_view s) q
    home_is = at.home ∙ ap (λ n. layout.home_of (method s.kind) n s.group.geometry.depth q) (sym long)

    pub row_is : a.row ≡ row_of (group_view s) q
    row_is = at.row ∙ ap (λ n. layout.row_of (method s.kind) n s.group.geometry.depth q) (sym long)

    pub slot_is : a.slot ≡ slot_of (group_view s) q
    slot_is = at.slot_of ∙ ap (λ n. layout.slot s.group.geometry.depth ((method s.kind).width n) q) (sym long)

    pub strip_is : a.strip ≡ row_of (group_view s) q / s.group.geometry.depth
    strip_is = at.strip_of ∙ ap (λ r. r / s.group.geometry.depth) row_is
