-- Write control of volume sets, one by one.
use Rattle.std.proofs.Common.{◌≡◌, ℕ, ◌+◌, ◌<◌, ◌≤◌, Bool, true, List, map, length, get_or, set, Some, None, Option, sym, refl, ap, ◌∙◌, subst, ⊎_elim, arith}
use Rattle.std.proofs.lemmas.List.{length-map, length-set, get_or-set_same, get_or-set_other, get_or_default, ext_get_or}
use Rattle.std.proofs.lemmas.Bool.{cases_eq}
use Rattle.std.proofs.Math.ListN.{get_or-map}
use Rattle.array.specs.declared.slot.GroupSlot.{GroupSlot}
use Rattle.array.specs.declared.tables.Array.{Array}
use Rattle.array.specs.declared.volume.Volume.{Volume}
use Rattle.array.specs.Arrays.{config}
use Rattle.array.specs.Configuration.{configuration, volume_view, GroupConfig, VolumeConfig, Configuration, volume_at, with_volume, with_writes, controlled, or_else, no_volume, is_some, mapped_option}
use Rattle.array.proofs.Tabling.{same_some, entry_seen, configured_behind}
use Rattle.array.proofs.Keeping.{Kept, Fields, runs_left, kept_of, volume_set, fields_by}

-- the entry of volume set v under write control
abbrev pub entry_on : Configuration → ℕ → Bool → Option VolumeConfig
entry_on c v on = mapped_option (with_writes on) (get_or c.volumes v None)

-- of the configuration c the volume sets below n are under write control in d, the others are as they were
pub record ControlledTo (c d : Configuration) (on : Bool) (n : ℕ) : Type 0 where
  pub groups : d.groups ≡ c.groups
  pub long : length d.volumes ≡ length c.volumes
  pub below : (k : ℕ) → k < n → get_or d.volumes k None ≡ entry_on c k on
  pub above : (k : ℕ) → n ≤ k → get_or d.volumes k None ≡ get_or c.volumes k None

module _ (c d : Configuration) (on : Bool) (n : ℕ) (t : ControlledTo c d on n) where
  pub controlled_more : (e : Configuration) → length d.volumes ≡ 16 → n < 16 → e ≡ with_volume d n (entry_on d n on) → ControlledTo c e on (n + 1)
  controlled_more e l h q =
      subst (λ (x : Configuration). ControlledTo c x on (n + 1)) (sym q) (record {
        groups = t.groups;
        long = length-set d.volumes n (entry_on d n on) ∙ t.long;
        below = λ k b.
            ⊎_elim
            (λ (s : k ≡ n).
            subst (λ (i : ℕ). get_or (set d.volumes n (entry_on d n on)) i None ≡ entry_on c i on) (sym s)
            (get_or-set_same d.volumes n (entry_on d n on) None (omega arith) ∙ ap (mapped_option (with_writes on)) (t.above n (omega arith))))
            (λ ne. let far : (k ≡ n → ⊥) = ne in get_or-set_other d.volumes n k (entry_on d n on) None ne ∙ t.below k (omega arith))
            (cases_eq k n);
        above = λ k b. get_or-set_other d.volumes n k (entry_on d n on) None (omega arith) ∙ t.above k (omega arith);
      })

  -- there are no others past 16
  pub controlled_all : length d.volumes ≡ 16 → 16 ≤ n → d ≡ controlled c None on
  controlled_all sixteen h =
      ap (λ (x : List (Option GroupConfig)). record { groups = x; volumes = d.volumes }) t.groups
      ∙ ap (λ (x : List (Option VolumeConfig)). record { groups = c.groups; volumes = x })
      (ext_get_or None d.volumes (map (mapped_option (with_writes on)) c.volumes) (t.long ∙ sym (length-map c.volumes (mapped_option (with_writes on))))
      (λ i l. t.below i (omega (arith, sixteen)) ∙ sym (get_or-map (mapped_option (with_writes on)) c.volumes i None)))

-- the runs are as they were
same_runs : (on : Bool) (x : Option VolumeConfig) → (or_else no_volume (mapped_option (with_writes on) x)).runs ≡ (or_else no_volume x).runs
same_runs on None = refl
same_runs on (Some x) = refl

module _ (c : Configuration) (v : ℕ) (on : Bool) where
  pub control_kept : v < length c.volumes → Kept c → Kept (with_volume c v (entry_on c v on))
  control_kept inside =
      runs_left c (set c.volumes v (entry_on c v on))
      (λ w h. (
        omega (arith, h.0, length-set c.volumes v (entry_on c v on)),
        ⊎_elim
            (λ (q : w ≡ v).
            subst (λ (i : ℕ). is_some (get_or c.volumes i None) ≡ true) (sym q)
            (sym (same_some (with_writes on) (get_or c.volumes v None)) ∙ ap is_some (sym (get_or-set_same c.volumes v (entry_on c v on) None inside))
            ∙ ap (λ (i : ℕ). is_some (get_or (set c.volumes v (entry_on c v on)) i None)) (sym q) ∙ h.1))
            (λ ne. ap is_some (sym (get_or-set_other c.volumes v w (entry_on c v on) None ne)) ∙ h.1)
            (cases_eq w v),
      ))
      (λ w.
      ⊎_elim
      (λ (q : w ≡ v).
      subst (λ (i : ℕ). (or_else no_volume (get_or (set c.volumes v (entry_on c v on)) i None)).runs ≡ (volume_at c i).runs) (sym q)
      (ap (λ (x : Option VolumeConfig). (or_else no_volume x).runs) (get_or-set_same c.volumes v (entry_on c v on) None inside) ∙ same_runs on (get_or c.volumes v None)))
      (λ ne. ap (λ (x : Option VolumeConfig). (or_else no_volume x).runs) (get_or-set_other c.volumes v w (entry_on c v on) None ne))
      (cases_eq w v))

-- tables of which an entry was put under write control
entry_set : (gs : List (Option GroupSlot)) (vs : List (Option Volume)) (v : ℕ) (on : Bool) (x y : Option Volume) → x ≡ get_or vs v None →
    mapped_option volume_view y ≡ mapped_option (with_writes on) (mapped_option volume_view x) → configuration gs (set vs v y) ≡ with_volume (configuration gs vs) v (entry_on (configuration gs vs) v on)
entry_set gs vs v on x y was is = volume_set gs vs v y ∙ ap (with_volume (configuration gs vs) v) (is ∙ ap (mapped_option (with_writes on)) (sym (entry_seen volume_view vs v x (sym was))))

-- the tables of an array in which an entry was put under write control
module _ (a : Array) (v : ℕ) (on : Bool) (inside : v < length a.volumes) (x y : Option Volume) (was : x ≡ get_or a.volumes v None)
    (is : mapped_option volume_view y ≡ mapped_option (with_writes on) (mapped_option volume_view x)) where
  pub control_set : configuration a.groups (set a.volumes v y) ≡ with_volume (config a) v (entry_on (config a) v on)
  control_set = entry_set a.groups a.volumes v on x y was is

  pub control_fields : Fields a.groups (set a.volumes v y)
  control_fields =
      fields_by a.groups (set a.volumes v y) (with_volume (config a) v (entry_on (config a) v on)) a.eight (length-set a.volumes v y ∙ a.sixteen) a.numbered control_set
      (control_kept (config a) v on (omega (arith, length-map a.volumes (mapped_option volume_view))) (kept_of a))

-- the tables of an array of which the volume sets below n were put under write control
module _ (a : Array) (on : Bool) (ys : List (Option Volume)) (n : ℕ) (t : ControlledTo (config a) (configuration a.groups ys) on n) where
  seen : length (map (mapped_option volume_view) ys) ≡ 16
  seen = t.long ∙ length-map a.volumes (mapped_option volume_view) ∙ a.sixteen

  long : length ys ≡ 16
  long = sym (length-map ys (mapped_option volume_view)) ∙ seen

  pub control_next : (d y : Option Volume) → n < 16 → mapped_option volume_view y ≡ mapped_option (with_writes on) (mapped_option volume_view (get_or ys n d)) →
      ControlledTo (config a) (configuration a.groups (set ys n y)) on (n + 1)
  control_next d y h is =
      controlled_more (config a) (configuration a.groups ys) on n t (configuration a.groups (set ys n y)) seen h
      (entry_set a.groups ys n on (get_or ys n d) y (get_or_default ys n d None (omega (arith, long))) is)

  pub control_mapped : 16 ≤ n → configuration a.groups ys ≡ controlled (config a) None on
  control_mapped h = controlled_all (config a) (configuration a.groups ys) on n t seen h

  mapped_kept : Kept (controlled (config a) None on)
  mapped_kept =
      let vs = map (mapped_option volume_view) a.volumes in
      runs_left (config a) (map (mapped_option (with_writes on)) vs)
      (λ v h. configured_behind (with_writes on) vs v h)
      (λ v. ap (λ (x : Option VolumeConfig). (or_else no_volume x).runs) (get_or-map (mapped_option (with_writes on)) vs v None) ∙ same_runs on (get_or vs v None))
      (kept_of a)

  pub mapped_fields : 16 ≤ n → Fields a.groups ys
  mapped_fields h = fields_by a.groups ys (controlled (config a) None on) a.eight long a.numbered (control_mapped h) mapped_kept
