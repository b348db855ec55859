-- Which word of the language a word is.
use Rattle.std.proofs.Common.{◌≡◌, ℕ, false, ◌⊎◌, List, length, Ok, Err, codes, Result, sym, refl, subst, inl, inr}
use Rattle.std.specs.Str.{bytes_eq}
use Rattle.std.proofs.lemmas.Bool.{false_from_ne_true}
use Rattle.std.proofs.lemmas.Slice.Eq.{bytes_eq-Decides, HasBytesAt}
use Rattle.jowlspur.specs.declared.request.Request.{Request}
use Rattle.jowlspur.specs.declared.wrong.Wrong.{Wrong}
use Rattle.jowlspur.specs.declared.wrong.Wrong.TheVariants.{Unknown}
use Rattle.jowlspur.specs.Language.{Call, asked_by, Answers, Buffered}

weaker : (V W : Type 0) (a : Result Call Wrong) (r : Result Request Wrong) → (V → W) → Answers V a r → Answers W a r
weaker V W a (Ok q) f h = h
weaker V W a (Err e) f (inl h) = inl h
weaker V W a (Err e) f (inr h) = inr (h.0, f h.1)

-- the word w is the word `name`
pub known : (name w : List ℕ) (ws : List (List ℕ)) (V : Type 0) (r : Result Request Wrong) → w ≡ name → (V → Buffered name) → Answers V (asked_by name ws) r → Answers (Buffered w) (asked_by w ws) r
known name w ws V r e f h =
    let P : List ℕ → Type 0 = λ v. Answers (Buffered v) (asked_by v ws) r in
    subst P (sym e) (weaker V (Buffered name) (asked_by name ws) r f h)

not_word : (w p : List ℕ) → (w ≡ p → ⊥) → bytes_eq w p ≡ false
not_word w p h = false_from_ne_true (bytes_eq w p) (λ e. h ((bytes_eq-Decides w p).0 e))

-- w has the length of p, and its bytes
abbrev Same : List ℕ → List ℕ → Type 0
Same w p = (length w ≡ length p) × HasBytesAt w 0 p

-- one of the language's words
abbrev pub Known : List ℕ → Type 0
Known w =
    Same w (codes "bus") ⊎ (Same w (codes "break") ⊎ (Same w (codes "broken") ⊎ (Same w (codes "peek") ⊎ (Same w (codes "poke") ⊎ Same w (codes "raw")))))

-- a word that is none of the language's
pub unknown : (w : List ℕ) (ws : List (List ℕ)) → (Known w → ⊥) → asked_by w ws ≡ Err Unknown
unknown w ws h =
    let is : (v : List ℕ) → w ≡ v → Same v v → Same w v = λ v e k. subst (λ l. Same l v) (sym e) k in
    rw (
      not_word w (codes "bus") (λ e. h (inl (is (codes "bus") e (refl, (refl, (refl, (refl, tt))))))),
      not_word w (codes "break") (λ e. h (inr (inl (is (codes "break") e (refl, (refl, (refl, (refl, (refl, (refl, tt)))))))))),
      not_word w (codes "broken") (λ e. h (inr (inr (inl (is (codes "broken") e (refl, (refl, (refl, (refl, (refl, (refl, (refl, tt)))))))))))),
      not_word w (codes "peek") (λ e. h (inr (inr (inr (inl (is (codes "peek") e (refl, (refl, (refl, (refl, (refl, tt))))))))))),
      not_word w (codes "poke") (λ e. h (inr (inr (inr (inr (inl (is (codes "poke") e (refl, (refl, (refl, (refl, (refl, tt)))))))))))),
      not_word w (codes "raw") (λ e. h (inr (inr (inr (inr (inr (is (codes "raw") e (refl, (refl, (refl, (refl, tt))))))))))),
    ) refl
