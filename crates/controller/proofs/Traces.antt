-- From one call to whole runs. Assumes nothing.
use Rattle.std.proofs.Common.{◌≡◌, ℕ, suc, ◌+◌, ◌⊎◌, List, [], ◌∷◌, ◌++◌, length, refl, ap, ◌∙◌, subst, inl, inr, ⊎_elim, arith, length-append}
use mathlib.Core.Path.{fun_ext}
use Rattle.bus.specs.Drives.{Drive, Worse, size}
use Rattle.array.specs.declared.tables.Array.{Array}
use Rattle.array.specs.Arrays.{config}
use Rattle.array.specs.Configuration.{GroupConfig, nothing}
use Rattle.array.specs.Tables.{SoundConfig}
use Rattle.array.proofs.Soundness.{sound_array}
use Rattle.array.proofs.Keeping.{all_none}
use Rattle.controller.specs.State.{Entry, state_of}
use Rattle.controller.specs.Law.{Lawful, Law, Kept, Reached, begun, waited, called}
use Rattle.controller.proofs.Keeping.{held_worse, lies_worse}

pub kept_new : (a : Array) (m : List Drive) → config a ≡ nothing → Kept [] a m
unfolding state_of
kept_new a m e = record {
  tables = e;
  lies = λ g i has. absurd (all_none GroupConfig 8 g has.0);
  whole = λ g q has l. absurd (all_none GroupConfig 8 g has);
  held = λ g r has l. absurd (all_none GroupConfig 8 g has);
}

pub sound_kept : (log : List Entry) (a : Array) (m : List Drive) → Kept log a m → SoundConfig (state_of log).configuration
sound_kept log a m k = subst SoundConfig k.tables (sound_array a)

pub kept_worse : (log : List Entry) (a : Array) (m n : List Drive) → Worse m n → Kept log a m → Kept log a n
kept_worse log a m n w k = record {
  tables = k.tables;
  lies = lies_worse m n w (state_of log).configuration k.lies;
  whole = k.whole;
  held = held_worse m n w (state_of log) (sound_kept log a m k) k.held;
}

pub reached_kept : (from : List Drive) (log : List Entry) (a : Array) (m : List Drive) → Reached from log a m → Kept log a m
reached_kept from log a m (begun e) = kept_new a from e
reached_kept from log a m (waited {m = before} r w) = kept_worse log a before m w (reached_kept from log a before r)
reached_kept from log a m (called r p k) = k

-- the drives are as many and as large as they were
pub reached_count : (from : List Drive) (log : List Entry) (a : Array) (m : List Drive) → Reached from log a m → length m ≡ length from
reached_count from log a m (begun e) = refl
reached_count from log a m (waited {m = before} r w) = w.count ∙ reached_count from log a before r
reached_count from log a m (called {log = past} {a = b} {m = before} r p k) = p.count ∙ reached_count from past b before r

pub reached_sizes : (from : List Drive) (log : List Entry) (a : Array) (m : List Drive) → Reached from log a m → (d : ℕ) → size m d ≡ size from d
reached_sizes from log a m (begun e) d = refl
reached_sizes from log a m (waited {m = before} r w) d = ap length (w.blocks d) ∙ reached_sizes from log a before r d
reached_sizes from log a m (called {log = past} {a = b} {m = before} r p k) d = p.sizes d ∙ reached_sizes from past b before r d

-- a list cut somewhere is the one before its last, cut there, or cut at its last
no_cut : (ys : List Entry) (y : Entry) (zs : List Entry) → [] ≡ ys ++ y ∷ zs → ⊥
no_cut ys y zs e = let l : 0 ≡ length ys + suc (length zs) = ap length e ∙ length-append ys (y ∷ zs) in omega arith

abbrev head_or : Entry → List Entry → Entry
head_or d [] = d
head_or d (x ∷ xs) = x

abbrev rest_of : List Entry → List Entry
rest_of [] = []
rest_of (x ∷ xs) = xs

cut : (xs : List Entry) (x : Entry) (ys : List Entry) (y : Entry) (zs : List Entry) → xs ++ x ∷ [] ≡ ys ++ y ∷ zs →
    ((xs ≡ ys) × (x ≡ y)) ⊎ ((ws : List Entry) × (xs ≡ ys ++ y ∷ ws))
cut [] x [] y zs e = inl (refl, ap (head_or x) e)
cut [] x (b ∷ ys) y zs e = absurd (no_cut ys y zs (ap rest_of e))
cut (a ∷ xs) x [] y zs e = inr (xs, ap (λ (h : Entry). h ∷ xs) (ap (head_or a) e))
cut (a ∷ xs) x (b ∷ ys) y zs e =
    let h : a ≡ b = ap (head_or a) e in
    ⊎_elim
    (λ s. inl (ap (λ (l : List Entry). a ∷ l) s.0 ∙ ap (λ (l : Entry). l ∷ ys) h, s.1))
    (λ s. inr (s.0, ap (λ (l : List Entry). a ∷ l) s.1 ∙ ap (λ (l : Entry). l ∷ (ys ++ y ∷ s.0)) h))
    (cut xs x ys y zs (ap rest_of e))

-- THE LAW holds of every run
pub law_of : (from : List Drive) (log : List Entry) (a : Array) (m : List Drive) → Reached from log a m → Law (length from) (λ d. size from d) log
law_of from log a m (begun e) past f rest q = absurd (no_cut past f rest q)
law_of from log a m (waited {m = before} r w) past f rest q = law_of from log a before r past f rest q
law_of from log a m (called {log = known} {e = e} {a = b} {m = before} r p k) past f rest q =
    ⊎_elim
    (λ s.
    let here : Lawful (length from) (λ d. size from d) known e =
    subst (λ (n : ℕ). Lawful n (λ d. size from d) known e) (reached_count from known b before r)
    (subst (λ (c : ℕ → ℕ). Lawful (length before) c known e) (fun_ext (reached_sizes from known b before r)) p.lawful) in
    subst (λ (l : List Entry). Lawful (length from) (λ d. size from d) l f) s.0 (subst (λ (g : Entry). Lawful (length from) (λ d. size from d) known g) s.1 here))
    (λ s. law_of from known b before r past f s.0 s.1)
    (cut known e past f rest q)
