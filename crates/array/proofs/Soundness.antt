-- What an array's tables hold is sound.
use Rattle.std.proofs.Common.{◌≡◌, ◌+◌, ◌<◌, ◌≤◌, true, length, get_or, Some, None, Option, sym, refl, ap, ◌∙◌, subst, ⊎_elim, arith}
use Rattle.std.proofs.lemmas.List.{length-map}
use Rattle.std.proofs.lemmas.Bool.{cases_order, false≢true}
use Rattle.layout.specs.Methods.{Sound}
use Rattle.layout.specs.Places.{OnePlaceEach}
use Rattle.layout.specs.NoneLaw.{none_sound}
use Rattle.layout.specs.CopyLaw.{copy_sound}
use Rattle.layout.specs.XorLaw.{xor_sound}
use Rattle.layout.proofs.PlaceLaws.{one_place_each}
use Rattle.group.specs.Group.{member}
use Rattle.group.specs.Record.{members_of, width_of}
use Rattle.group.proofs.Recording.{length_members, member_is}
use Rattle.array.specs.declared.kind.MethodKind.{MethodKind}
use Rattle.array.specs.declared.kind.MethodKind.TheVariants.{NoRedundancy, Copy, Xor}
use Rattle.array.specs.declared.slot.GroupSlot.{GroupSlot}
use Rattle.array.specs.declared.tables.Array.{Array}
use Rattle.array.specs.Kinds.{method}
use Rattle.array.specs.Configuration.{GroupConfig, group_view, is_some, mapped_option, no_group, or_else}
use Rattle.array.specs.Places.{count_of}
use Rattle.array.specs.Tables.{SoundGroup, SoundConfig}
use Rattle.array.specs.Arrays.{config}
use Rattle.array.proofs.Tabling.{entry_seen, configured_behind}

-- what is there
pub some_is : {A : Type 0} (o : Option A) → is_some o ≡ true → (x : A) × (o ≡ Some x)
some_is None e = absurd (false≢true e)
some_is (Some x) e = (x, refl)

pub sound_group : (s : GroupSlot) → SoundGroup (group_view s)
sound_group s =
    let g = s.group in
    let eight = g.eight in
    let long : length (members_of g) ≡ width_of g = length_members g eight in
    record {
      least = omega (arith, s.enough);
      most = omega (arith, g.geometry.few_members);
      depth = g.geometry.some_depth;
      some_rows = g.geometry.some_rows;
      strips = g.geometry.whole_strips;
      apart = λ i j hi hj e.
          let li : i < width_of g = omega arith in
          let lj : j < width_of g = omega arith in
          let d : (member g.members i).drive ≡ (member g.members j).drive =
          ap (λ v. v.drive) (sym (member_is g eight i li)) ∙ e ∙ ap (λ v. v.drive) (member_is g eight j lj) in
          ⊎_elim (λ q. q) (⊎_elim (λ lt. absurd (g.apart i j (lt, lj) d)) (λ lt. absurd (g.apart j i (lt, li) (sym d)))) (cases_order i j);
      ends = λ i h.
          let l : i < width_of g = omega arith in
          subst (λ v. v.start + g.geometry.rows ≤ 65536) (sym (member_is g eight i l)) (g.ends i l);
      marks = λ i h.
          let l : i < width_of g = omega arith in
          subst (λ v. v.mark ≤ g.geometry.rows) (sym (member_is g eight i l)) (g.marked i l);
    }

pub method_sound : (k : MethodKind) → Sound (method k).LEAST (method k).width (method k).cycle (method k).home (method k).check (method k).row (method k).tolerance
method_sound NoRedundancy = none_sound
method_sound Copy = copy_sound
method_sound Xor = xor_sound

-- the places of a group's blocks
pub places_of : (g : GroupConfig) → SoundGroup g → OnePlaceEach (method g.kind) (count_of g) g.depth g.rows
places_of g s =
    one_place_each (method g.kind) (method_sound g.kind) (count_of g) g.depth g.rows
    (omega (arith, (method_sound g.kind).least_some, s.least)) s.most s.depth s.strips

pub sound_array : (a : Array) → SoundConfig (config a)
sound_array a = record {
  eight = length-map a.groups (mapped_option group_view) ∙ a.eight;
  sixteen = length-map a.volumes _ ∙ a.sixteen;
  groups = λ g h.
      let x = some_is (get_or a.groups g None) (configured_behind group_view a.groups g h).1 in
      subst (λ v. SoundGroup (or_else no_group v)) (sym (entry_seen group_view a.groups g (Some x.0) x.1)) (sound_group x.0);
  extents = a.extents;
  filled = a.filled;
  grouped = a.grouped;
  inside = a.inside;
  runs = a.runs;
}
