-- The runs of a table, and runs that share no block with one another.
use Rattle.std.proofs.Common.{◌≡◌, ℕ, ◌<◌, Bool, true, List, [], map, length, get_or, take, Some, None, ◌↔◌, Option, sym, refl, ap, ◌∙◌, subst, arith}
use Rattle.std.proofs.lemmas.List.{length-take-le, get_or-take, length-map}
use Rattle.std.proofs.lemmas.List.FromFn.{length-enumerate_from, get_or-enumerate_from}
use Rattle.std.specs.List.{enumerate_from}
use Rattle.array.specs.Checks.{RunsSeparate}
use Rattle.array.specs.declared.volume.Run.{Run}
use Rattle.array.specs.declared.volume.Volume.{Volume}
use Rattle.array.specs.Configuration.{VolumeConfig, HasRun, run, is_some, RunsOverlap, configuration, volume_at, volume_view, mapped_option, or_else, no_volume, no_run}
use Rattle.array.proofs.Tabling.{entry_seen}

-- the runs of an entry of a table
abbrev pub runs_in : Option Volume → List Run
runs_in x = (or_else no_volume (mapped_option volume_view x)).runs

-- Runs of which none is P: those of one entry, and those of all volume sets.
module _ (P : Run → Type 0) where
  abbrev pub NoneOf : Option Volume → Type 0
  NoneOf x = ((j : ℕ) × (j < length (runs_in x)) × P (run (runs_in x) j)) → ⊥

  abbrev pub NoRun : List (Option Volume) → Type 0
  NoRun vs = (v j : ℕ) → HasRun (configuration [] vs) v j → P (run (volume_at (configuration [] vs) v).runs j) → ⊥

  some_entry : (x : Option VolumeConfig) (j : ℕ) → j < length (or_else no_volume x).runs → is_some x ≡ true
  some_entry None j h = absurd (omega arith)
  some_entry (Some x) j h = refl

  module _ (vs : List (Option Volume)) (v : ℕ) where
    same : runs_in (get_or vs v None) ≡ (volume_at (configuration [] vs) v).runs
    same = ap (λ (x : Option VolumeConfig). (or_else no_volume x).runs) (sym (entry_seen volume_view vs v (get_or vs v None) refl))

    no_run_at : NoneOf (get_or vs v None) → (j : ℕ) → HasRun (configuration [] vs) v j → P (run (volume_at (configuration [] vs) v).runs j) → ⊥
    no_run_at none j h p = none (j, subst (λ (rs : List Run). j < length rs) (sym same) h.1, subst (λ (rs : List Run). P (run rs j)) (sym same) p)

    none_at : v < length vs → NoRun vs → NoneOf (get_or vs v None)
    none_at h all x =
        let l : x.0 < length (volume_at (configuration [] vs) v).runs = subst (λ (rs : List Run). x.0 < length rs) same x.1 in
        all v x.0 ((omega (arith, length-map vs (mapped_option volume_view)), some_entry (get_or (map (mapped_option volume_view) vs) v None) x.0 l), l)
        (subst (λ (rs : List Run). P (run rs x.0)) same x.2)

  pub no_such_run : (b : Bool) (vs : List (Option Volume)) → (b ≡ true) ↔ ((v : ℕ) → v < length vs → NoneOf (get_or vs v None)) → (b ≡ true) ↔ NoRun vs
  no_such_run b vs each = (
    λ t v j h. no_run_at vs v (each.0 t v (omega (arith, h.0.0, length-map vs (mapped_option volume_view)))) j h,
    λ all. each.1 (λ v h. none_at vs v h all),
  )

-- Runs of which none shares a block with one before it.
module _ (rs : List Run) where
  abbrev pub Apart : ℕ × Run → Type 0
  Apart p = ((k : ℕ) × (k < length (take p.0 rs)) × RunsOverlap p.1 (run (take p.0 rs) k)) → ⊥

  numbered : (j : ℕ) → j < length rs → get_or (enumerate_from 0 rs) j (0, no_run) ≡ (j, run rs j)
  numbered j h = get_or-enumerate_from 0 rs j (0, no_run) h ∙ ap (λ (i : ℕ). (i, run rs j)) (omega arith)

  apart_before : (i j : ℕ) → i < j → j < length rs → Apart (j, run rs j) → RunsOverlap (run rs i) (run rs j) → ⊥
  apart_before i j lt h apart o =
      apart (
        i,
        omega (arith, length-take-le j rs (omega arith)),
        subst (λ (r : Run). RunsOverlap (run rs j) r) (sym (get_or-take j rs i no_run lt)) (o.0, o.1, o.3, o.2),
      )

  apart_at : (j : ℕ) → j < length rs → RunsSeparate rs → Apart (j, run rs j)
  apart_at j h all x =
      let lt : x.0 < j = omega (arith, x.1, length-take-le j rs (omega arith)) in
      let o = subst (λ (r : Run). RunsOverlap (run rs j) r) (get_or-take j rs x.0 no_run lt) x.2 in
      all x.0 j lt h (o.0, o.1, o.3, o.2)

  pub separate_by_index : (b : Bool) → (b ≡ true) ↔ ((j : ℕ) → j < length (enumerate_from 0 rs) → Apart (get_or (enumerate_from 0 rs) j (0, no_run))) → (b ≡ true) ↔ RunsSeparate rs
  separate_by_index b each = (
    λ t i j lt h. apart_before i j lt h (subst Apart (numbered j h) (each.0 t j (omega (arith, length-enumerate_from 0 rs)))),
    λ all. each.1 (λ j l. let h : j < length rs = omega (arith, length-enumerate_from 0 rs) in subst Apart (sym (numbered j h)) (apart_at j h all)),
  )
