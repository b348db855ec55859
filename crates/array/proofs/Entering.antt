-- The tables of an array seen as a configuration, and a new group among its groups.
use Rattle.std.proofs.Common.{◌≡◌, ℕ, ◌+◌, ◌<◌, ◌≤◌, true, List, length, get_or, set, Some, None, Option, sym, ap, ◌∙◌, subst, ⊎_elim}
use Rattle.std.proofs.lemmas.List.{get_or-set_same, get_or-set_other}
use Rattle.std.proofs.lemmas.Bool.{both_ways, cases_eq}
use Rattle.layout.specs.Extents.{Covers}
use Rattle.array.specs.declared.slot.GroupSlot.{GroupSlot}
use Rattle.array.specs.Configuration.{GroupConfig, Configuration, Configured, Free, HasMember, group_at, is_some, or_else, no_group, with_group, extent_at, Unassigned}
use Rattle.array.specs.Places.{size_of}
use Rattle.array.specs.Tables.{ExtentsApart, SomeRun, run_of, RunsFilled, RunsGrouped, RunsInside, RunsApart, number_in, Numbered}
use Rattle.array.proofs.Tabling.{configured_other, configured_still}
use Rattle.array.proofs.Keeping.{Kept}

-- group g, which was free, becomes x
module _ (c : Configuration) (g : ℕ) (free : Free c.groups g) (x : GroupConfig) where
  abbrev after : Configuration
  after = with_group c g (Some x)

  group_here : (h : ℕ) → h ≡ g → group_at after h ≡ x
  group_here h e = ap (group_at after) e ∙ ap (or_else no_group) (get_or-set_same c.groups g (Some x) None free.0)

  group_other : (h : ℕ) → (h ≡ g → ⊥) → group_at after h ≡ group_at c h
  group_other h ne = ap (or_else no_group) (get_or-set_other c.groups g h (Some x) None ne)

  not_free : (h : ℕ) → Configured c.groups h → h ≡ g → ⊥
  not_free h on e =
      both_ways (is_some (get_or c.groups g None)) free.1 (subst (λ (v : ℕ). is_some (get_or c.groups v None) ≡ true) e on.1)

  still_configured : (h : ℕ) → Configured c.groups h → Configured after.groups h
  still_configured h on = configured_still c.groups g (Some x) h (not_free h on) on

  was_member : (h i : ℕ) → (h ≡ g → ⊥) → HasMember after h i → HasMember c h i
  was_member h i ne has = (configured_other c.groups g (Some x) h ne has.0, subst (λ (v : GroupConfig). i < length v.members) (group_other h ne) has.1)

  new_member : (h i : ℕ) → h ≡ g → HasMember after h i → i < length x.members
  new_member h i e has = subst (λ (v : GroupConfig). i < length v.members) (group_here h e) has.1

  -- its extents share no block with those of the groups before, nor with each other
  extents_apart : ((i : ℕ) → i < length x.members → Unassigned c (extent_at x i)) →
      ((i j : ℕ) → i < length x.members → j < length x.members → (extent_at x i).drive ≡ (extent_at x j).drive → i ≡ j) →
      ExtentsApart c → ExtentsApart after
  extents_apart unassigned drives apart s =
      let new_in : (h i : ℕ) → h ≡ g → Covers (extent_at (group_at after h) i) s.drive s.block → Covers (extent_at x i) s.drive s.block =
      λ h i e q. subst (λ (v : GroupConfig). Covers (extent_at v i) s.drive s.block) (group_here h e) q in
      let old-in : (h i : ℕ) → (h ≡ g → ⊥) → Covers (extent_at (group_at after h) i) s.drive s.block → Covers (extent_at (group_at c h) i) s.drive s.block =
      λ h i ne q. subst (λ (v : GroupConfig). Covers (extent_at v i) s.drive s.block) (group_other h ne) q in
      ⊎_elim
      (λ (p : s.g ≡ g).
      ⊎_elim
      (λ (q : s.h ≡ g). (
        p ∙ sym q,
        drives s.i s.j (new_member s.g s.i p s.has_first) (new_member s.h s.j q s.has_second)
            (sym (new_in s.g s.i p s.in_first).drive ∙ (new_in s.h s.j q s.in_second).drive),
      ))
      (λ (q : s.h ≡ g → ⊥).
      absurd (unassigned s.i (new_member s.g s.i p s.has_first) s.h s.j (was_member s.h s.j q s.has_second)
      (s.drive, s.block, new_in s.g s.i p s.in_first, old-in s.h s.j q s.in_second)))
      (cases_eq s.h g))
      (λ (p : s.g ≡ g → ⊥).
      ⊎_elim
      (λ (q : s.h ≡ g).
      absurd (unassigned s.j (new_member s.h s.j q s.has_second) s.g s.i (was_member s.g s.i p s.has_first)
      (s.drive, s.block, new_in s.h s.j q s.in_second, old-in s.g s.i p s.in_first)))
      (λ (q : s.h ≡ g → ⊥). apart (record {
        g = s.g;
        i = s.i;
        h = s.h;
        j = s.j;
        drive = s.drive;
        block = s.block;
        has_first = was_member s.g s.i p s.has_first;
        has_second = was_member s.h s.j q s.has_second;
        in_first = old-in s.g s.i p s.in_first;
        in_second = old-in s.h s.j q s.in_second;
      }))
      (cases_eq s.h g))
      (cases_eq s.g g)

  -- the runs are as they were, and none is of group g
  runs_filled : RunsFilled c → RunsFilled after
  runs_filled filled s = filled (record { v = s.v; j = s.j; has = s.has })

  runs_grouped : RunsGrouped c → RunsGrouped after
  runs_grouped grouped s = still_configured (run_of after s).group (grouped (record { v = s.v; j = s.j; has = s.has }))

  runs_inside : RunsGrouped c → RunsInside c → RunsInside after
  runs_inside grouped inside s =
      let o : SomeRun c = record { v = s.v; j = s.j; has = s.has } in
      subst (λ (v : GroupConfig). (run_of c o).first + (run_of c o).count ≤ size_of v) (sym (group_other (run_of c o).group (not_free (run_of c o).group (grouped o)))) (inside o)

  runs_apart : RunsApart c → RunsApart after
  runs_apart apart s = apart (record {
    v = s.v;
    i = s.i;
    w = s.w;
    j = s.j;
    g = s.g;
    q = s.q;
    has_first = s.has_first;
    has_second = s.has_second;
    in_first = s.in_first;
    in_second = s.in_second;
  })

  pub group_made : ((i : ℕ) → i < length x.members → Unassigned c (extent_at x i)) →
      ((i j : ℕ) → i < length x.members → j < length x.members → (extent_at x i).drive ≡ (extent_at x j).drive → i ≡ j) →
      Kept c → Kept after
  group_made unassigned drives k = record {
    extents = extents_apart unassigned drives k.extents;
    filled = runs_filled k.filled;
    grouped = runs_grouped k.grouped;
    inside = runs_inside k.grouped k.inside;
    runs = runs_apart k.runs;
  }

-- the table after it
pub numbered_set : (gs : List (Option GroupSlot)) (g : ℕ) (s : GroupSlot) → g < length gs → s.group.number ≡ g → Numbered gs → Numbered (set gs g (Some s))
numbered_set gs g s h number numbered n on =
    ⊎_elim
    (λ (e : n ≡ g). ap (λ (v : ℕ). number_in (get_or (set gs g (Some s)) v None)) e ∙ ap number_in (get_or-set_same gs g (Some s) None h) ∙ number ∙ sym e)
    (λ (ne : n ≡ g → ⊥).
    ap number_in (get_or-set_other gs g n (Some s) None ne)
    ∙ numbered n (configured_other gs g (Some s) n ne on))
    (cases_eq n g)
