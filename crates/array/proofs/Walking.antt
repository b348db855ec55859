-- Runs joined in order: how many blocks they have, and where each block is.
use Rattle.std.proofs.Common.{◌≡◌, ℕ, suc, ◌+◌, ◌-◌, ◌*◌, ◌<◌, ◌≤◌, Bool, true, false, cond, ltb, List, [], ◌∷◌, length, drop, sym, refl, ap, ◌∙◌, sum_by, arith}
use Rattle.std.proofs.lemmas.List.{at_drop_more}
use Rattle.std.proofs.lemmas.List.Sums.{sum_by-cons}
use Rattle.std.proofs.lemmas.Bool.{ltb-true, ltb-false, cond_below, cond_above}
use Rattle.array.specs.declared.volume.Run.{Run}
use Rattle.array.specs.Configuration.{no_run, run}
use Rattle.array.specs.Checks.{EachRun}
use Rattle.array.specs.Places.{Spot, spot_in, blocks_in}
use Rattle.array.specs.Finding.{ShortRun}

-- the blocks of runs, by the library's sum
pub blocks_sum : (rs : List Run) → sum_by (λ r. r.count) rs ≡ blocks_in rs
blocks_sum [] = refl
blocks_sum (r ∷ rs) = sum_by-cons (λ v. v.count) r rs ∙ ap (λ n. r.count + n) (blocks_sum rs)

-- one run further
module _ (rs : List Run) (i : ℕ) (h : i < length rs) where
  pub blocks_drop : blocks_in (drop i rs) ≡ (run rs i).count + blocks_in (drop (i + 1) rs)
  blocks_drop = at_drop_more blocks_in rs i no_run h

  pub spot_here : (left : ℕ) → left < (run rs i).count → spot_in (drop i rs) left ≡ record { group = (run rs i).group; block = (run rs i).first + left }
  spot_here left lt =
      at_drop_more (λ v. spot_in v left) rs i no_run h
      ∙ sym (cond_below left (run rs i).count (record { group = (run rs i).group; block = (run rs i).first + left }) (spot_in (drop (i + 1) rs) (left - (run rs i).count)) lt)

  pub spot_past : (left : ℕ) → (run rs i).count ≤ left → spot_in (drop i rs) left ≡ spot_in (drop (i + 1) rs) (left - (run rs i).count)
  spot_past left le =
      at_drop_more (λ v. spot_in v left) rs i no_run h
      ∙ sym (cond_above left (run rs i).count (record { group = (run rs i).group; block = (run rs i).first + left }) (spot_in (drop (i + 1) rs) (left - (run rs i).count)) (spot_in (drop (i + 1) rs) (left - (run rs i).count)) le refl)

-- the spot lies in one of the runs
abbrev pub InSome : List Run → Spot → Type 0
InSome rs s = (j : ℕ) × (j < length rs) × (s.group ≡ (run rs j).group) × (s.block < (run rs j).first + (run rs j).count)

in_later : (r : Run) (rs : List Run) (s : Spot) → InSome rs s → InSome (r ∷ rs) s
in_later r rs s (j, h, e, l) = (suc j, omega arith, e, l)

in_first : (r : Run) (rs : List Run) (b : ℕ) → b < r.count → InSome (r ∷ rs) (record { group = r.group; block = r.first + b })
in_first r rs b h = (0, omega arith, refl, omega arith)

pub in_some : (rs : List Run) (b : ℕ) → b < blocks_in rs → InSome rs (spot_in rs b)
in_some [] b h = absurd (omega arith)
in_some (r ∷ rs) b h =
    let step : (t : Bool) → ltb b r.count ≡ t → InSome (r ∷ rs) (cond t (record { group = r.group; block = r.first + b }) (spot_in rs (b - r.count))) =
    λ t. elim t as (λ v. ltb b r.count ≡ v → InSome (r ∷ rs) (cond v (record { group = r.group; block = r.first + b }) (spot_in rs (b - r.count)))) [
      | true ↦ λ e. in_first r rs b (ltb-true b r.count e)
      | false ↦ λ e. in_later r rs (spot_in rs (b - r.count)) (in_some rs (b - r.count) (omega (arith, ltb-false b r.count e)))
    ] in
    step (ltb b r.count) refl

-- short runs are short together
pub blocks_few : (rs : List Run) → EachRun rs ShortRun → blocks_in rs ≤ 524288 * length rs
blocks_few [] each = omega arith
blocks_few (r ∷ rs) each = omega (arith, each 0 (omega arith), blocks_few rs (λ i h. each (suc i) (omega arith)))
