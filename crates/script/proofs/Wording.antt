-- Word by word. Assumes nothing.
use Rattle.std.proofs.Common.{◌≡◌, ℕ, ◌+◌, ◌<◌, Bool, true, false, cond, not, ◌||◌, List, [], ◌∷◌, ◌++◌, length, take, drop, sym, refl, ap, ◌∙◌, append_assoc, append-nil, one-add, arith}
use Rattle.std.specs.List.{prefix_len}
use Rattle.script.specs.Kinds.{blank, hash, solid}
use Rattle.script.specs.Lines.{ended, words_after, words}

-- blanks in front do not count
pub words_skip : (l : List ℕ) → words (drop (prefix_len blank l) l) ≡ words l
words_skip [] = refl
words_skip (c ∷ cs) = by (blank c) refl (words_skip cs)
  where
    by : (b : Bool) → blank c ≡ b → words (drop (prefix_len blank cs) cs) ≡ words cs → words (drop (cond b (1 + prefix_len blank cs) 0) (c ∷ cs)) ≡ cond b (words cs) (cond (hash c) [] (words_after (c ∷ []) cs))
    by true e more = rw one-add more
    by false e more = rw e

-- what was read of a word is followed by the solid bytes in front
pub words_front : (w l : List ℕ) → words_after w l ≡ ended (w ++ take (prefix_len solid l) l) ++ words (drop (prefix_len solid l) l)
words_front w [] = rw (append-nil, append-nil)
words_front w (c ∷ cs) = by (blank c) (hash c) refl refl (words_front (w ++ c ∷ []) cs)
  where
    n : ℕ
    n = prefix_len solid cs

    by : (b h : Bool) → blank c ≡ b → hash c ≡ h → words_after (w ++ c ∷ []) cs ≡ ended ((w ++ c ∷ []) ++ take n cs) ++ words (drop n cs) →
        cond b (ended w ++ words cs) (cond h (ended w) (words_after (w ++ c ∷ []) cs)) ≡
        ended (w ++ take (cond (not (b || h)) (1 + n) 0) (c ∷ cs)) ++ words (drop (cond (not (b || h)) (1 + n) 0) (c ∷ cs))
    by true h eb eh more = simp (eb, append-nil)
    by false true eb eh more = simp (eb, eh, append-nil)
    by false false eb eh more = more ∙ simp (one-add, append_assoc)

-- a comment, or nothing
pub words_none : (l : List ℕ) → prefix_len blank l ≡ 0 → prefix_len solid l ≡ 0 → words l ≡ []
words_none [] h k = refl
words_none (c ∷ cs) h k = by (blank c) (hash c) h k
  where
    by : (b h : Bool) → cond b (1 + prefix_len blank cs) 0 ≡ 0 → cond (not (b || h)) (1 + prefix_len solid cs) 0 ≡ 0 → cond b (words cs) (cond h [] (words_after (c ∷ []) cs)) ≡ []
    by true h e k = absurd (omega arith)
    by false true e k = refl
    by false false e k = absurd (omega arith)

pub ended_some : (w : List ℕ) → 0 < length w → ended w ≡ w ∷ []
ended_some [] h = absurd (omega arith)
ended_some (c ∷ w) h = refl

-- no kind of byte stands where it has been skipped
pub leading_done : (p : ℕ → Bool) (l : List ℕ) → prefix_len p (drop (prefix_len p l) l) ≡ 0
leading_done p [] = refl
leading_done p (c ∷ cs) = by (p c) refl (leading_done p cs)
  where
    by : (b : Bool) → p c ≡ b → prefix_len p (drop (prefix_len p cs) cs) ≡ 0 → prefix_len p (drop (cond b (1 + prefix_len p cs) 0) (c ∷ cs)) ≡ 0
    by true e more = rw one-add more
    by false e more = rw e

-- the line after its blanks is unread, which is the word and the rest
module _ (line unread word rest : List ℕ) (s n : ℕ) (skip : s ≡ prefix_len blank line) (on : unread ≡ drop s line) (long : n ≡ prefix_len solid unread) where
  skipped : words line ≡ words unread
  skipped = sym (words_skip line) ∙ ap words (ap (λ k. drop k line) (sym skip) ∙ sym on)

  pub next_some : word ≡ take n unread → rest ≡ drop n unread → 0 < length word → words line ≡ word ∷ words rest
  next_some front back some =
      skipped ∙ words_front [] unread ∙ ap (λ k. ended (take k unread) ++ words (drop k unread)) (sym long)
      ∙ ap (λ w. ended w ++ words (drop n unread)) (sym front) ∙ ap (λ l. ended word ++ words l) (sym back) ∙ ap (λ ws. ws ++ words rest) (ended_some word some)

  pub next_none : rest ≡ drop n unread → n ≡ 0 → (words line ≡ []) × (words rest ≡ [])
  next_none back zero =
      let bare : prefix_len blank unread ≡ 0 = ap (prefix_len blank) (on ∙ ap (λ k. drop k line) skip) ∙ leading_done blank line in
      let none : words unread ≡ [] = words_none unread bare (sym long ∙ zero) in
      (skipped ∙ none, ap words (back ∙ ap (λ k. drop k unread) zero) ∙ none)
