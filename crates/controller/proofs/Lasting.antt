-- From the law of a log to the last write. Assumes nothing.
use Rattle.std.proofs.Common.{◌≡◌, ℕ, ◌≤◌, Bool, true, false, cond, ◌⊎◌, List, [], ◌∷◌, ◌++◌, map, length, take, drop, sym, refl, ap, ◌∙◌, subst, inl, inr, ⊎_elim, append_assoc, append-nil, arith, length-take, Ok, Err}
use Rattle.std.proofs.lemmas.List.{take_at}
use Rattle.std.proofs.lemmas.Bool.{eq-eqb, ne_eqb, cases_Bool, false≢true, cases_lt, both_ways}
use Rattle.group.specs.Filling.{zeros}
use Rattle.layout.specs.Blocks.{missing_count}
use Rattle.group.specs.Group.{member}
use Rattle.array.specs.Configuration.{Configuration, group_at}
use Rattle.array.specs.Places.{Spot, spot_of, LostAt, missing, row_of, home_of, tolerance_of}
use Rattle.array.specs.Checks.{Check, AllHold, read_checks, write_checks, block_checks}
use Rattle.controller.specs.declared.calls.Call.{Call}
use Rattle.controller.specs.declared.calls.Call.TheVariants.{MakeGroup, DeleteGroup, MakeVolume, DeleteVolume, WriteControl, Size, Map, Read, Write}
use Rattle.controller.specs.declared.calls.Value.{Value}
use Rattle.controller.specs.declared.calls.Value.TheVariants.{Done}
use Rattle.controller.specs.State.{Answer, Entry, State, after_answer, state_of, put, entered}
use Rattle.controller.specs.Right.{Answers, RightFor, over, scene_at}
use Rattle.controller.specs.Law.{Law, ReadAt, WroteAt, Makes, Made, Untouched, LastWrite, FirstZeros, LostExactly, accepted, refused_as_lost}
use Rattle.controller.proofs.Zeros.{zero_whole}
use Rattle.controller.proofs.Keeping.{state_snoc}
use Rattle.controller.proofs.Writing.{put_same, put_other}

-- whether a block is lost is known
decide_lost : (broken : ℕ → Bool) (c : Configuration) (v b : ℕ) → LostAt broken c v b ⊎ (LostAt broken c v b → ⊥)
decide_lost broken c v b =
    let g = group_at c (spot_of c v b).group in
    let q = (spot_of c v b).block in
    ⊎_elim
    (λ (t : missing broken (row_of g q) (member g.members (home_of g q)) ≡ true).
    ⊎_elim (λ l. inl (t, l)) (λ k. inr (λ z. let y = z.1 in omega arith)) (cases_lt (tolerance_of g) (missing_count (map (missing broken (row_of g q)) g.members))))
    (λ (f : missing broken (row_of g q) (member g.members (home_of g q)) ≡ false). inr (λ z. both_ways _ f z.0))
    (cases_Bool (missing broken (row_of g q) (member g.members (home_of g q))))

-- the block p of a state
abbrev pub content : State → Spot → List ℕ
content st p = st.contents p.group p.block

put_away : (f : ℕ → ℕ → List ℕ) (s : Spot) (x : List ℕ) (p : Spot) → (s ≡ p → ⊥) → put f s x p.group p.block ≡ f p.group p.block
put_away f s x p ne =
    put_other f s x p.group p.block (λ e. ne (ap (λ (g : ℕ). record { group = g; block = s.block }) (sym e.0) ∙ ap (λ (b : ℕ). record { group = p.group; block = b }) (sym e.1)))

-- an entry that neither writes the block nor makes its group leaves it
quiet_call : (st : State) (p : Spot) (buffer : List ℕ) (call : Call) →
    ((v b : ℕ) → call ≡ Write v b → spot_of st.configuration v b ≡ p → ⊥) → (Makes p.group call → ⊥) → entered st call buffer p.group p.block ≡ content st p
quiet_call st p buffer (MakeGroup g code k es) w m = ap (λ (b : Bool). cond b zeros (content st p)) (ne_eqb p.group g (λ e. m (sym e)))
quiet_call st p buffer (DeleteGroup g) w m = refl
quiet_call st p buffer (MakeVolume v rs) w m = refl
quiet_call st p buffer (DeleteVolume v) w m = refl
quiet_call st p buffer (WriteControl v on) w m = refl
quiet_call st p buffer (Size v) w m = refl
quiet_call st p buffer (Map v b) w m = refl
quiet_call st p buffer (Read v b) w m = refl
quiet_call st p buffer (Write v b) w m = put_away st.contents (spot_of st.configuration v b) (take 512 buffer) p (w v b refl)

quiet_answer : (st : State) (p : Spot) (buffer : List ℕ) (call : Call) (x : Answer) →
    (accepted x ≡ true → (v b : ℕ) → call ≡ Write v b → spot_of st.configuration v b ≡ p → ⊥) → (accepted x ≡ true → Makes p.group call → ⊥) →
    content (after_answer st call buffer x) p ≡ content st p
quiet_answer st p buffer call (Ok w) no_write no-make = quiet_call st p buffer call (no_write refl) (no-make refl)
quiet_answer st p buffer call (Err x) no_write no-make = refl

quiet : (past : List Entry) (e : Entry) (p : Spot) → (WroteAt past e p → ⊥) → (Made e p.group → ⊥) → content (state_of (past ++ e ∷ [])) p ≡ content (state_of past) p
quiet past e p w m =
    ap (λ (st : State). content st p) (state_snoc past e)
    ∙ quiet_answer (state_of past) p e.buffer e.call e.answer
    (λ t v b q h. w (record { volume = v; block = b; asked = q; here = h; taken = t }))
    (λ t x. m (x, t))

-- nor do any number of them
quiet_all : (past mid : List Entry) (p : Spot) → Untouched past mid p → content (state_of (past ++ mid)) p ≡ content (state_of past) p
quiet_all past [] p u = ap (λ (x : List Entry). content (state_of x) p) (append-nil past)
quiet_all past (e ∷ mid) p u =
    let first = u [] e mid refl in
    let here : content (state_of (past ++ e ∷ [])) p ≡ content (state_of past) p =
    quiet past e p (subst (λ (x : List Entry). WroteAt x e p → ⊥) (append-nil past) first.0) first.1 in
    let rest : Untouched (past ++ e ∷ []) mid p =
    λ m f n q. let z = u (e ∷ m) f n (ap (λ (x : List Entry). e ∷ x) q) in
    (subst (λ (x : List Entry). WroteAt x f p → ⊥) (sym (append_assoc past (e ∷ []) m)) z.0, z.1) in
    ap (λ (x : List Entry). content (state_of x) p) (sym (append_assoc past (e ∷ []) mid)) ∙ quiet_all (past ++ e ∷ []) mid p rest ∙ here

-- an accepted answer
by_accepted : (cs : List Check) (v : Value) (out : List ℕ) (e : Entry) (x : Answer) → Answers cs v out e x → accepted x ≡ true → AllHold cs × (e.left ≡ over out e.buffer)
by_accepted cs v out e (Ok w) a t = (a.0, a.2)
by_accepted cs v out e (Err x) a t = absurd (false≢true t)

contents_accepted : (st : State) (call : Call) (buffer : List ℕ) (x : Answer) → accepted x ≡ true → (after_answer st call buffer x).contents ≡ entered st call buffer
contents_accepted st call buffer (Ok w) t = refl
contents_accepted st call buffer (Err x) t = absurd (false≢true t)

-- what an accepted call enters at the block p
content_entered : (past : List Entry) (e : Entry) (p : Spot) (call : Call) → e.call ≡ call → accepted e.answer ≡ true →
    content (state_of (past ++ e ∷ [])) p ≡ entered (state_of past) call e.buffer p.group p.block
content_entered past e p call q t =
    ap (λ (st : State). content st p) (state_snoc past e)
    ∙ ap (λ (f : ℕ → ℕ → List ℕ). f p.group p.block) (contents_accepted (state_of past) e.call e.buffer e.answer t)
    ∙ ap (λ (k : Call). entered (state_of past) k e.buffer p.group p.block) q

module _ (count : ℕ) (capacity : ℕ → ℕ) (log : List Entry) (law : Law count capacity log) where
  right_at : (past : List Entry) (e : Entry) (rest : List Entry) → log ≡ past ++ e ∷ rest → (call : Call) → e.call ≡ call →
      RightFor (scene_at count capacity (state_of past) e) (state_of past) e call
  right_at past e rest q call k = subst (RightFor (scene_at count capacity (state_of past) e) (state_of past) e) k (law past e rest q).right

  -- a read gives the expected contents
  pub read_gave : (past : List Entry) (r : Entry) (rest : List Entry) (p : Spot) → log ≡ past ++ r ∷ rest → ReadAt past r p → r.left ≡ over (content (state_of past) p) r.buffer
  read_gave past r rest p q a =
      (by_accepted (read_checks (scene_at count capacity (state_of past) r) a.volume a.block (length r.buffer)) Done (content (state_of past) (spot_of (state_of past).configuration a.volume a.block)) r r.answer
      (right_at past r rest q (Read a.volume a.block) a.asked) a.taken).1
      ∙ ap (λ (s : Spot). over (content (state_of past) s) r.buffer) a.here

  -- a block that was entered, and left alone since, is what is read
  read_since : (past : List Entry) (w : Entry) (mid : List Entry) (r : Entry) (rest : List Entry) (p : Spot) (x : List ℕ) → log ≡ past ++ w ∷ mid ++ r ∷ rest →
      content (state_of (past ++ w ∷ [])) p ≡ x → length x ≡ 512 → Untouched (past ++ w ∷ []) mid p → ReadAt (past ++ w ∷ mid) r p → take 512 r.left ≡ x
  read_since past w mid r rest p x q c long u a =
      let then : (past ++ w ∷ []) ++ mid ≡ past ++ w ∷ mid = append_assoc past (w ∷ []) mid in
      let same : content (state_of (past ++ w ∷ mid)) p ≡ x = ap (λ (l : List Entry). content (state_of l) p) (sym then) ∙ quiet_all (past ++ w ∷ []) mid p u ∙ c in
      ap (take 512) (read_gave (past ++ w ∷ mid) r rest p q a)
      ∙ ap (λ (y : List ℕ). take 512 (over y r.buffer)) same
      ∙ take_at x (drop (length x) r.buffer) 512 long

  pub last_write : LastWrite log
  last_write past w mid r rest p q wrote u a =
      let enough : 512 ≤ length w.buffer =
      (by_accepted (write_checks (scene_at count capacity (state_of past) w) wrote.volume wrote.block (length w.buffer)) Done [] w w.answer
      (right_at past w (mid ++ r ∷ rest) (q ∙ append_assoc past (w ∷ mid) (r ∷ rest)) (Write wrote.volume wrote.block) wrote.asked) wrote.taken).0.1.0 in
      read_since past w mid r rest p (take 512 w.buffer) q
      (content_entered past w p (Write wrote.volume wrote.block) wrote.asked wrote.taken
      ∙ put_same (state_of past).contents (spot_of (state_of past).configuration wrote.volume wrote.block) (take 512 w.buffer) p.group p.block
      (ap (λ (s : Spot). s.group) (sym wrote.here)) (ap (λ (s : Spot). s.block) (sym wrote.here)))
      (simp length-take (omega arith)) u a

  makes_zeros : (past : List Entry) (w : Entry) (p : Spot) (call : Call) → w.call ≡ call → accepted w.answer ≡ true → Makes p.group call → content (state_of (past ++ w ∷ [])) p ≡ zeros
  makes_zeros past w p (MakeGroup g code k es) q t m =
      content_entered past w p (MakeGroup g code k es) q t ∙ ap (λ (b : Bool). cond b zeros (content (state_of past) p)) (eq-eqb p.group g (sym m))
  makes_zeros past w p (DeleteGroup g) q t m = absurd m
  makes_zeros past w p (MakeVolume v rs) q t m = absurd m
  makes_zeros past w p (DeleteVolume v) q t m = absurd m
  makes_zeros past w p (WriteControl v on) q t m = absurd m
  makes_zeros past w p (Size v) q t m = absurd m
  makes_zeros past w p (Map v b) q t m = absurd m
  makes_zeros past w p (Read v b) q t m = absurd m
  makes_zeros past w p (Write v b) q t m = absurd m

  pub first_zeros : FirstZeros log
  first_zeros past w mid r rest p q made u a =
      read_since past w mid r rest p zeros q (makes_zeros past w p w.call refl made.1 made.0) zero_whole.long u a

  -- a read that passes the other checks is refused exactly as lost
  only_lost : (past : List Entry) (e : Entry) (v b : ℕ) (x : Answer) →
      Answers (read_checks (scene_at count capacity (state_of past) e) v b (length e.buffer)) Done (content (state_of past) (spot_of (state_of past).configuration v b)) e x →
      AllHold (block_checks (state_of past).configuration v b (length e.buffer)) → refused_as_lost x → LostAt e.after (state_of past).configuration v b
  only_lost past e v b (Ok w) a h z = absurd z
  only_lost past e v b (Err x) a h z =
      ⊎_elim (λ l. absurd (l.0 h.0)) (λ f. ⊎_elim (λ l. absurd (l.0 h.1.0)) (λ f. ⊎_elim (λ l. absurd (l.0 h.1.1.0)) (λ f. ⊎_elim
      (λ l. ⊎_elim (λ lost. lost) (λ n. absurd (l.0 n)) (decide_lost e.after (state_of past).configuration v b)) (λ f. absurd f.1) f.1) f.1) f.1) a.0

  always_lost : (past : List Entry) (e : Entry) (v b : ℕ) (x : Answer) →
      Answers (read_checks (scene_at count capacity (state_of past) e) v b (length e.buffer)) Done (content (state_of past) (spot_of (state_of past).configuration v b)) e x →
      AllHold (block_checks (state_of past).configuration v b (length e.buffer)) → LostAt e.after (state_of past).configuration v b → refused_as_lost x
  always_lost past e v b (Ok w) a h z = absurd (a.0.1.1.1.0 z)
  always_lost past e v b (Err x) a h z =
      ⊎_elim (λ l. absurd (l.0 h.0)) (λ f. ⊎_elim (λ l. absurd (l.0 h.1.0)) (λ f. ⊎_elim (λ l. absurd (l.0 h.1.1.0)) (λ f. ⊎_elim
      (λ l. l.1) (λ f. absurd f.1) f.1) f.1) f.1) a.0

  pub lost_exactly : LostExactly log
  lost_exactly = record {
    only = λ past e rest v b q k h z. only_lost past e v b e.answer (right_at past e rest q (Read v b) k) h z;
    always = λ past e rest v b q k h z. always_lost past e v b e.answer (right_at past e rest q (Read v b) k) h z;
  }
