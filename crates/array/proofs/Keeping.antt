-- What holds of the tables, kept by a change that leaves no run and no group that was not there, and by a new volume set.
use Rattle.std.proofs.Common.{◌≡◌, ℕ, ◌+◌, ◌<◌, ◌≤◌, ◌⊎◌, List, map, length, get_or, set, replicate, None, Option, sym, refl, ap, ◌∙◌, subst, inl, inr, ⊎_elim, arith}
use Rattle.std.proofs.lemmas.List.{map-set, get_or-set_same, get_or-set_other, length-replicate, get_or-replicate}
use Rattle.std.proofs.lemmas.Bool.{false≢true, cases_eq, cases_order}
use Rattle.array.specs.declared.slot.GroupSlot.{GroupSlot}
use Rattle.array.specs.declared.tables.Array.{Array}
use Rattle.array.specs.declared.volume.Run.{Run}
use Rattle.array.specs.declared.volume.Volume.{Volume}
use Rattle.array.specs.Arrays.{config}
use Rattle.array.specs.Configuration.{GroupConfig, VolumeConfig, Configuration, Configured, Free, HasMember, HasRun, InRun, RunsOverlap, UnassignedRun, group_at, volume_at, extent_at, group_view, volume_view, configuration, with_group, with_volume, new_volume, nothing, or_else, no_group, no_volume, is_some, mapped_option, run}
use Rattle.layout.specs.Extents.{Covers}
use Rattle.array.specs.Checks.{EachRun, RunsSeparate}
use Rattle.array.specs.Places.{size_of}
use Rattle.array.specs.Tables.{ExtentsApart, SomeRun, run_of, RunsFilled, RunsGrouped, RunsInside, RunsApart, Numbered, number_in}
use Rattle.array.proofs.Tabling.{configured_other, configured_still, cleared}

-- all that holds of a configuration whatever the bus
pub record Kept (c : Configuration) : Type 0 where
  pub extents : ExtentsApart c
  pub filled : RunsFilled c
  pub grouped : RunsGrouped c
  pub inside : RunsInside c
  pub runs : RunsApart c

-- every group and every run of d is one of c, and a run's group is still there
pub record Part (c d : Configuration) : Type 0 where
  pub groups : (g : ℕ) → Configured d.groups g → Configured c.groups g × (group_at d g ≡ group_at c g)
  pub runs : (v j : ℕ) → HasRun d v j → HasRun c v j × (run (volume_at d v).runs j ≡ run (volume_at c v).runs j)
  pub used : (v j : ℕ) → HasRun c v j → HasRun d v j → Configured c.groups (run (volume_at c v).runs j).group → Configured d.groups (run (volume_at c v).runs j).group

module _ (c d : Configuration) (p : Part c d) (k : Kept c) where
  abbrev before : SomeRun d → SomeRun c
  before s = record { v = s.v; j = s.j; has = (p.runs s.v s.j s.has).0 }

  same_run : (s : SomeRun d) → run_of d s ≡ run_of c (before s)
  same_run s = (p.runs s.v s.j s.has).1

  grouped_before : (s : SomeRun d) → Configured d.groups (run_of c (before s)).group
  grouped_before s = p.used s.v s.j (before s).has s.has (k.grouped (before s))

  same_group : (s : SomeRun d) → group_at d (run_of c (before s)).group ≡ group_at c (run_of c (before s)).group
  same_group s = (p.groups (run_of c (before s)).group (grouped_before s)).1

  member_before : (g i : ℕ) → HasMember d g i → HasMember c g i
  member_before g i h = ((p.groups g h.0).0, subst (λ (x : GroupConfig). i < length x.members) (p.groups g h.0).1 h.1)

  pub part_kept : Kept d
  part_kept = record {
    extents = λ s. k.extents (record {
      g = s.g;
      i = s.i;
      h = s.h;
      j = s.j;
      drive = s.drive;
      block = s.block;
      has_first = member_before s.g s.i s.has_first;
      has_second = member_before s.h s.j s.has_second;
      in_first = subst (λ (x : GroupConfig). Covers (extent_at x s.i) s.drive s.block) (p.groups s.g s.has_first.0).1 s.in_first;
      in_second = subst (λ (x : GroupConfig). Covers (extent_at x s.j) s.drive s.block) (p.groups s.h s.has_second.0).1 s.in_second;
    });
    filled = λ s. subst (λ (r : Run). 1 ≤ r.count) (sym (same_run s)) (k.filled (before s));
    grouped = λ s. subst (λ (r : Run). Configured d.groups r.group) (sym (same_run s)) (grouped_before s);
    inside = λ s.
        subst (λ (r : Run). r.first + r.count ≤ size_of (group_at d r.group)) (sym (same_run s))
        (subst (λ (x : GroupConfig). (run_of c (before s)).first + (run_of c (before s)).count ≤ size_of x) (sym (same_group s)) (k.inside (before s)));
    runs = λ s. k.runs (record {
      v = s.v;
      i = s.i;
      w = s.w;
      j = s.j;
      g = s.g;
      q = s.q;
      has_first = (p.runs s.v s.i s.has_first).0;
      has_second = (p.runs s.w s.j s.has_second).0;
      in_first = subst (λ (r : Run). InRun r s.g s.q) (p.runs s.v s.i s.has_first).1 s.in_first;
      in_second = subst (λ (r : Run). InRun r s.g s.q) (p.runs s.w s.j s.has_second).1 s.in_second;
    });
  }

-- a volume set is deleted
module _ (c : Configuration) (v : ℕ) where
  deleted_run : (w j : ℕ) → HasRun (with_volume c v None) w j → HasRun c w j × (run (volume_at (with_volume c v None) w).runs j ≡ run (volume_at c w).runs j)
  deleted_run w j h =
      let ne = cleared c.volumes v w h.0 in
      let e = get_or-set_other c.volumes v w None None ne in (
        (configured_other c.volumes v None w ne h.0, subst (λ (x : Option VolumeConfig). j < length (or_else no_volume x).runs) e h.1),
        ap (λ (x : Option VolumeConfig). run (or_else no_volume x).runs j) e,
      )

  pub volume_deleted : Kept c → Kept (with_volume c v None)
  volume_deleted = part_kept c (with_volume c v None) (record { groups = λ g h. (h, refl); runs = deleted_run; used = λ w j h l x. x })

-- a group is deleted in which no run lies
module _ (c : Configuration) (g : ℕ) (unused : (v j : ℕ) → HasRun c v j → (run (volume_at c v).runs j).group ≡ g → ⊥) where
  pub group_deleted : Kept c → Kept (with_group c g None)
  group_deleted =
      part_kept c (with_group c g None) (record {
        groups = λ h x.
            let ne = cleared c.groups g h x in
            (configured_other c.groups g None h ne x, ap (λ (y : Option GroupConfig). or_else no_group y) (get_or-set_other c.groups g h None None ne));
        runs = λ v j h. (h, refl);
        used = λ v j h l x. configured_still c.groups g None (run (volume_at c v).runs j).group (unused v j h) x;
      })

-- the same runs in every volume set
module _ (c : Configuration) (ws : List (Option VolumeConfig))
    (some : (v : ℕ) → Configured ws v → Configured c.volumes v)
    (same : (v : ℕ) → (or_else no_volume (get_or ws v None)).runs ≡ (volume_at c v).runs) where
  pub runs_left : Kept c → Kept (record { groups = c.groups; volumes = ws })
  runs_left =
      part_kept c (record { groups = c.groups; volumes = ws }) (record {
        groups = λ g h. (h, refl);
        runs = λ v j h. ((some v h.0, subst (λ (rs : List Run). j < length rs) (same v) h.1), ap (λ (rs : List Run). run rs j) (same v));
        used = λ v j h l x. x;
      })

-- a volume set is made
module _ (c : Configuration) (v : ℕ) (rs : List Run) (free : Free c.volumes v)
    (filled : EachRun rs (λ r. 1 ≤ r.count))
    (grouped : EachRun rs (λ r. Configured c.groups r.group))
    (inside : EachRun rs (λ r. r.first + r.count ≤ size_of (group_at c r.group)))
    (unassigned : EachRun rs (UnassignedRun c)) (separate : RunsSeparate rs) where
  -- a run then is new, or was there
  abbrev New : ℕ → ℕ → Run → Type 0
  New w j r = (w ≡ v) × (j < length rs) × (r ≡ run rs j)

  abbrev Old : ℕ → ℕ → Run → Type 0
  Old w j r = (w ≡ v → ⊥) × HasRun c w j × (r ≡ run (volume_at c w).runs j)

  either : (w j : ℕ) → HasRun (with_volume c v (new_volume rs)) w j →
      New w j (run (volume_at (with_volume c v (new_volume rs)) w).runs j) ⊎ Old w j (run (volume_at (with_volume c v (new_volume rs)) w).runs j)
  either w j h =
      ⊎_elim
      (λ (q : w ≡ v).
      let e : get_or (set c.volumes v (new_volume rs)) w None ≡ new_volume rs = ap (λ (i : ℕ). get_or (set c.volumes v (new_volume rs)) i None) q ∙ get_or-set_same c.volumes v (new_volume rs) None free.0 in
      inl (q, subst (λ (x : Option VolumeConfig). j < length (or_else no_volume x).runs) e h.1, ap (λ (x : Option VolumeConfig). run (or_else no_volume x).runs j) e))
      (λ ne.
      let e = get_or-set_other c.volumes v w (new_volume rs) None ne in
      inr (
        ne,
        (configured_other c.volumes v (new_volume rs) w ne h.0, subst (λ (x : Option VolumeConfig). j < length (or_else no_volume x).runs) e h.1),
        ap (λ (x : Option VolumeConfig). run (or_else no_volume x).runs j) e,
      ))
      (cases_eq w v)

  -- what holds of each new run, and of each old one, holds of each
  each : (P : Run → Type 0) → EachRun rs P → ((s : SomeRun c) → P (run_of c s)) → (s : SomeRun (with_volume c v (new_volume rs))) → P (run_of (with_volume c v (new_volume rs)) s)
  each P new old s =
      ⊎_elim
      (λ (n : New s.v s.j (run_of (with_volume c v (new_volume rs)) s)). subst P (sym n.2) (new s.j n.1))
      (λ (o : Old s.v s.j (run_of (with_volume c v (new_volume rs)) s)). subst P (sym o.2) (old (record { v = s.v; j = s.j; has = o.1 })))
      (either s.v s.j s.has)

  one_new : (i j : ℕ) → i < length rs → j < length rs → RunsOverlap (run rs i) (run rs j) → i ≡ j
  one_new i j hi hj o =
      ⊎_elim (λ q. q) (⊎_elim (λ lt. absurd (separate i j lt hj o)) (λ lt. absurd (separate j i lt hi (o.0, o.1, o.3, o.2)))) (cases_order i j)

  apart : RunsApart c → RunsApart (with_volume c v (new_volume rs))
  apart old s =
      let d : Configuration = with_volume c v (new_volume rs) in
      ⊎_elim
      (λ (m : New s.v s.i (run (volume_at d s.v).runs s.i)).
      let here : InRun (run rs s.i) s.g s.q = subst (λ (r : Run). InRun r s.g s.q) m.2 s.in_first in
      ⊎_elim
      (λ (n : New s.w s.j (run (volume_at d s.w).runs s.j)).
      let there : InRun (run rs s.j) s.g s.q = subst (λ (r : Run). InRun r s.g s.q) n.2 s.in_second in
      (m.0 ∙ sym n.0, one_new s.i s.j m.1 n.1 (s.g, s.q, here, there)))
      (λ (o : Old s.w s.j (run (volume_at d s.w).runs s.j)).
      absurd (unassigned s.i m.1 s.w s.j o.1 (s.g, s.q, here, subst (λ (r : Run). InRun r s.g s.q) o.2 s.in_second)))
      (either s.w s.j s.has_second))
      (λ (m : Old s.v s.i (run (volume_at d s.v).runs s.i)).
      let here : InRun (run (volume_at c s.v).runs s.i) s.g s.q = subst (λ (r : Run). InRun r s.g s.q) m.2 s.in_first in
      ⊎_elim
      (λ (n : New s.w s.j (run (volume_at d s.w).runs s.j)).
      absurd (unassigned s.j n.1 s.v s.i m.1 (s.g, s.q, subst (λ (r : Run). InRun r s.g s.q) n.2 s.in_second, here)))
      (λ (o : Old s.w s.j (run (volume_at d s.w).runs s.j)).
      old (record {
        v = s.v;
        i = s.i;
        w = s.w;
        j = s.j;
        g = s.g;
        q = s.q;
        has_first = m.1;
        has_second = o.1;
        in_first = here;
        in_second = subst (λ (r : Run). InRun r s.g s.q) o.2 s.in_second;
      }))
      (either s.w s.j s.has_second))
      (either s.v s.i s.has_first)

  pub volume_made : Kept c → Kept (with_volume c v (new_volume rs))
  volume_made k = record {
    extents = λ s. k.extents (record {
      g = s.g;
      i = s.i;
      h = s.h;
      j = s.j;
      drive = s.drive;
      block = s.block;
      has_first = s.has_first;
      has_second = s.has_second;
      in_first = s.in_first;
      in_second = s.in_second;
    });
    filled = each (λ r. 1 ≤ r.count) filled k.filled;
    grouped = each (λ r. Configured c.groups r.group) grouped k.grouped;
    inside = each (λ r. r.first + r.count ≤ size_of (group_at c r.group)) inside k.inside;
    runs = apart k.runs;
  }

-- the tables of an array
pub kept_of : (a : Array) → Kept (config a)
kept_of a = record { extents = a.extents; filled = a.filled; grouped = a.grouped; inside = a.inside; runs = a.runs }

pub volume_set : (gs : List (Option GroupSlot)) (vs : List (Option Volume)) (v : ℕ) (x : Option Volume) → configuration gs (set vs v x) ≡ with_volume (configuration gs vs) v (mapped_option volume_view x)
volume_set gs vs v x = ap (λ (ws : List (Option VolumeConfig)). record { groups = map (mapped_option group_view) gs; volumes = ws }) (map-set (mapped_option volume_view) vs v x)

pub group_set : (gs : List (Option GroupSlot)) (vs : List (Option Volume)) (g : ℕ) (x : Option GroupSlot) → configuration (set gs g x) vs ≡ with_group (configuration gs vs) g (mapped_option group_view x)
group_set gs vs g x = ap (λ (hs : List (Option GroupConfig)). record { groups = hs; volumes = map (mapped_option volume_view) vs }) (map-set (mapped_option group_view) gs g x)

pub numbered_cleared : (gs : List (Option GroupSlot)) (g : ℕ) → Numbered gs → Numbered (set gs g None)
numbered_cleared gs g h n x =
    let ne = cleared gs g n x in
    ap number_in (get_or-set_other gs g n None None ne) ∙ h n (configured_other gs g None n ne x)

-- the ghost fields of an array with these tables
abbrev pub Fields : List (Option GroupSlot) → List (Option Volume) → Type 0
Fields gs vs =
    record {
      eight : length gs ≡ 8;
      sixteen : length vs ≡ 16;
      numbered : Numbered gs;
      extents : ExtentsApart (configuration gs vs);
      filled : RunsFilled (configuration gs vs);
      grouped : RunsGrouped (configuration gs vs);
      inside : RunsInside (configuration gs vs);
      runs : RunsApart (configuration gs vs);
    }

pub fields : (gs : List (Option GroupSlot)) (vs : List (Option Volume)) → length gs ≡ 8 → length vs ≡ 16 → Numbered gs → Kept (configuration gs vs) → Fields gs vs
fields gs vs l w n k = record {
  eight = l;
  sixteen = w;
  numbered = n;
  extents = k.extents;
  filled = k.filled;
  grouped = k.grouped;
  inside = k.inside;
  runs = k.runs;
}

-- by how the configuration comes from another
pub fields_by : (gs : List (Option GroupSlot)) (vs : List (Option Volume)) (d : Configuration) → length gs ≡ 8 → length vs ≡ 16 → Numbered gs → configuration gs vs ≡ d → Kept d → Fields gs vs
fields_by gs vs d l w n e k = fields gs vs l w n (subst Kept (sym e) k)

-- nothing is configured
pub all_none : (A : Type 0) (m n : ℕ) → Configured {A = A} (replicate m None) n → ⊥
all_none A m n h =
    let l : n < m = omega (arith, h.0, length-replicate {A = Option A} m None) in
    false≢true (ap is_some (sym (get_or-replicate {A = Option A} m n None None l)) ∙ h.1)

pub nothing_kept : Kept nothing
nothing_kept = record {
  extents = λ s. absurd (all_none GroupConfig 8 s.g s.has_first.0);
  filled = λ s. absurd (all_none VolumeConfig 16 s.v s.has.0);
  grouped = λ s. absurd (all_none VolumeConfig 16 s.v s.has.0);
  inside = λ s. absurd (all_none VolumeConfig 16 s.v s.has.0);
  runs = λ s. absurd (all_none VolumeConfig 16 s.v s.has_first.0);
}

pub nothing_fields : Fields (replicate 8 None) (replicate 16 None)
nothing_fields = fields (replicate 8 None) (replicate 16 None) (length-replicate {A = Option GroupSlot} 8 None) (length-replicate {A = Option Volume} 16 None) (λ n h. absurd (all_none GroupSlot 8 n h)) nothing_kept
