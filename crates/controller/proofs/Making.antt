-- What a made group changes: in the tables, in the contents, and on the drives.
use Rattle.std.proofs.Common.{◌≡◌, ℕ, ◌+◌, ◌<◌, ◌≤◌, Bool, true, false, cond, eqb, ◌⊎◌, List, [], map, length, get_or, set, Some, None, Option, sym, refl, ap, ◌∙◌, subst, inl, inr, ⊎_elim, arith}
use Rattle.std.specs.List.{range_with_len}
use Rattle.std.proofs.lemmas.List.{get_or-set_same, get_or-set_other, length-set, length-map}
use Rattle.std.proofs.lemmas.List.FromFn.{length-map-range_with_len, get_or-map-range_with_len}
use Rattle.std.proofs.lemmas.Bool.{cases_eq, both_ways, eq-eqb, ne_eqb, cond-true, false≢true}
use Rattle.bus.specs.Drives.{Drive, size}
use Rattle.layout.specs.declared.extent.ExtentRow.{ExtentRow}
use Rattle.layout.specs.Blocks.{Whole}
use Rattle.group.specs.declared.member.Member.{Member}
use Rattle.group.specs.Group.{member, Frame}
use Rattle.group.specs.Filling.{zeros, extent, SomeDrive, SomeBlock, Filled}
use Rattle.group.specs.Making.{whole_member}
use Rattle.array.specs.declared.kind.MethodKind.{MethodKind}
use Rattle.array.specs.declared.refusal.Refusal.{Refusal}
use Rattle.array.specs.Refusals.{of_drives}
use Rattle.array.specs.Kinds.{method, method_of}
use Rattle.array.specs.Configuration.{GroupConfig, Configuration, Configured, Unassigned, group_at, no_group, or_else, is_some, rows_in, new_group, with_group}
use Rattle.array.specs.Places.{width_of, size_of, user_block}
use Rattle.array.specs.Tables.{SoundConfig}
use Rattle.array.specs.Checks.{AllHold, FirstNo, EachExtent, GroupFields, FieldsFor, scene, group_checks}
use Rattle.array.specs.Calls.{OnDrives, Holds}
use Rattle.array.proofs.Tabling.{configured_other}
use Rattle.controller.specs.State.{State, put_all, users}
use Rattle.controller.specs.Law.{Held, WholeContents}
use Rattle.controller.proofs.Zeros.{zero_whole, new_member, zero_new}
use Rattle.controller.proofs.Keeping.{row_frame}

-- a table with one entry set -----------------------------------------------------------------------------------------------

module _ {A : Type 0} (xs : List (Option A)) (g : ℕ) (x : Option A) where
  -- what holds of the new entry and of the others holds of all
  pub each_entry : (P : ℕ → Option A → Type 0) → (g < length xs → is_some x ≡ true → P g x) → ((h : ℕ) → (h ≡ g → ⊥) → Configured xs h → P h (get_or xs h None)) →
      (h : ℕ) → Configured (set xs g x) h → P h (get_or (set xs g x) h None)
  each_entry P here other h c =
      ⊎_elim
      (λ (e : h ≡ g).
      let l : g < length xs = omega (arith, length-set xs g x, c.0) in
      let s : get_or (set xs g x) h None ≡ x = ap (λ (j : ℕ). get_or (set xs g x) j None) e ∙ get_or-set_same xs g x None l in
      subst (λ (o : Option A). P h o) (sym s) (subst (λ (j : ℕ). P j x) (sym e) (here l (ap is_some (sym s) ∙ c.1))))
      (λ (ne : h ≡ g → ⊥). subst (λ (o : Option A). P h o) (sym (get_or-set_other xs g h x None ne)) (other h ne (configured_other xs g x h ne c)))
      (cases_eq h g)

module _ (c : Configuration) (g : ℕ) (x : Option GroupConfig) where
  -- the same of groups
  pub each_group : (P : ℕ → GroupConfig → Type 0) → (g < length c.groups → is_some x ≡ true → P g (or_else no_group x)) →
      ((h : ℕ) → (h ≡ g → ⊥) → Configured c.groups h → P h (group_at c h)) →
      (h : ℕ) → Configured (with_group c g x).groups h → P h (group_at (with_group c g x) h)
  each_group P = each_entry c.groups g x (λ h o. P h (or_else no_group o))

-- group g becomes x, and each of its blocks b --------------------------------------------------------------------------------

abbrev pub regrouped : State → ℕ → Option GroupConfig → List ℕ → State
regrouped st g x b = record { configuration = with_group st.configuration g x; contents = put_all st.contents g b }

pub put_here : (contents : ℕ → ℕ → List ℕ) (g q : ℕ) (b : List ℕ) → put_all contents g b g q ≡ b
put_here contents g q b = cond-true (eqb g g) b (contents g q) (eq-eqb g g refl)

module _ (st : State) (g : ℕ) (x : Option GroupConfig) (b : List ℕ) where
  pub whole_regrouped : (is_some x ≡ true → Whole b) → WholeContents st → WholeContents (regrouped st g x b)
  whole_regrouped w h j q c =
      each_group st.configuration g x (λ i k. (q : ℕ) → q < size_of k → Whole (put_all st.contents g b i q))
      (λ l e q l2. subst Whole (sym (put_here st.contents g q b)) (w e))
      (λ i ne c q l. subst (λ (t : Bool). Whole (cond t b (st.contents i q))) (sym (ne_eqb i g ne)) (h i q c l))
      j c q

  pub held_regrouped : (n : List Drive) →
      (is_some x ≡ true → (r : ℕ) → r < (or_else no_group x).rows →
      Holds n (or_else no_group x) r (map (λ p. put_all st.contents g b g (user_block (or_else no_group x) r p)) (range_with_len 0 (width_of (or_else no_group x))))) →
      Held n st → Held n (regrouped st g x b)
  held_regrouped n new h j r c =
      each_group st.configuration g x
      (λ i k. (r : ℕ) → r < k.rows → Holds n k r (map (λ p. put_all st.contents g b i (user_block k r p)) (range_with_len 0 (width_of k))))
      (λ l e. new e)
      (λ i ne c r l.
      let k = group_at st.configuration i in
      subst (λ (t : Bool). Holds n k r (map (λ p. cond t b (st.contents i (user_block k r p))) (range_with_len 0 (width_of k)))) (sym (ne_eqb i g ne)) (h i r c l))
      j c r

-- extents of which no block is assigned: what changes there alone keeps what is held ---------------------------------------------

pub held_unfilled : (m n : List Drive) (st : State) (es : List ExtentRow) → SoundConfig st.configuration → EachExtent es (Unassigned st.configuration) →
    Frame m n (SomeDrive es) (SomeBlock es) → Held m st → Held n st
held_unfilled m n st es sound free f h g r c l =
    let k = group_at st.configuration g in
    let s = sound.groups g c in
    row_frame m n f k r (users st g r) s
    (λ i li y. free y.0 y.1 g i (c, li) ((member k.members i).drive, (member k.members i).start + r, y.2, record { drive = refl; from = omega arith; below = omega arith }))
    (h g r c l)

-- deleting group g ---------------------------------------------------------------------------------------------------------

module _ (st : State) (g : ℕ) where
  -- the state without group g
  abbrev pub ungrouped : State
  ungrouped = record { configuration = with_group st.configuration g None; contents = st.contents }

  pub held_deleted : (m : List Drive) → Held m st → Held m ungrouped
  held_deleted m held h r has =
      each_group st.configuration g None (λ h w. (r : ℕ) → r < w.rows → Holds m w r (map (λ p. st.contents h (user_block w r p)) (range_with_len 0 (width_of w))))
      (λ l e. absurd (false≢true e)) (λ h ne has r l. held h r has l) h has r

  pub whole_deleted : WholeContents st → WholeContents ungrouped
  whole_deleted whole h q has =
      each_group st.configuration g None (λ h w. (q : ℕ) → q < size_of w → Whole (st.contents h q)) (λ l e. absurd (false≢true e)) (λ h ne has q l. whole h q has l) h has q

  pub lies_deleted : (m : List Drive) → OnDrives m st.configuration → OnDrives m ungrouped.configuration
  lies_deleted m lies h i has =
      each_group st.configuration g None (λ h w. (i : ℕ) → i < length w.members → (member w.members i).start + w.rows ≤ size m (member w.members i).drive)
      (λ l e. absurd (false≢true e)) (λ h ne has i l. lies h i (has, l)) h has.0 i has.1

-- making group g ------------------------------------------------------------------------------------------------------------

-- what holds of every group that the code may mean holds of the new group
pub each_new : (o : Option MethodKind) (k : ℕ) (es : List ExtentRow) (P : GroupConfig → Type 0) → FieldsFor o k es →
    ((kind : MethodKind) → GroupFields kind k es → P (record { kind = kind; depth = k; rows = rows_in es; members = map whole_member es })) →
    P (or_else no_group (new_group o k es))
each_new None k es P f h = absurd f
each_new (Some kind) k es P f h = h kind f

pub whole_make : (st : State) (g code k : ℕ) (es : List ExtentRow) → WholeContents st → WholeContents (regrouped st g (new_group (method_of code) k es) zeros)
whole_make st g code k es = whole_regrouped st g (new_group (method_of code) k es) zeros (λ e. zero_whole)

module _ (m n : List Drive) (st : State) (g code k : ℕ) (es : List ExtentRow) where
  pub held_make : SoundConfig st.configuration → AllHold (group_checks (scene m n st.configuration) g code k es) → Filled m n es → Held m st →
      Held n (regrouped st g (new_group (method_of code) k es) zeros)
  held_make sound a f h =
      held_regrouped st g (new_group (method_of code) k es) zeros n
      (λ e. each_new (method_of code) k es
      (λ w. (r : ℕ) → r < w.rows → Holds n w r (map (λ p. put_all st.contents g zeros g (user_block w r p)) (range_with_len 0 (width_of w))))
      a.0
      (λ kind y r l.
      let w : GroupConfig = record { kind = kind; depth = k; rows = rows_in es; members = map whole_member es } in
      let long : width_of w ≡ (method kind).width (length es) = ap (method kind).width (length-map es whole_member) in
      zero_new n kind k (rows_in es) r es _ y.fits.least_members y.fits.most_members
      (length-map-range_with_len _ 0 (width_of w) ∙ long)
      (λ p lp. get_or-map-range_with_len (λ p. put_all st.contents g zeros g (user_block w r p)) 0 (width_of w) p p [] (omega arith) (omega arith) ∙ put_here st.contents g _ zeros)
      (λ i li. f.zeros i r li (omega (arith, y.equal i li)))))
      (held_unfilled m n st es sound a.1.1.1.1.0.0 f.frame h)

  pub lies_make : OnDrives m st.configuration → AllHold (group_checks (scene m n st.configuration) g code k es) → Filled m n es →
      OnDrives n (with_group st.configuration g (new_group (method_of code) k es))
  lies_make h a f j i c =
      each_group st.configuration g (new_group (method_of code) k es)
      (λ j w. (i : ℕ) → i < length w.members → (member w.members i).start + w.rows ≤ size n (member w.members i).drive)
      (λ l e. each_new (method_of code) k es (λ w. (i : ℕ) → i < length w.members → (member w.members i).start + w.rows ≤ size n (member w.members i).drive) a.0
      (λ kind y i l.
      let li : i < length es = omega (arith, length-map es whole_member) in
      subst (λ (v : Member). v.start + rows_in es ≤ size n v.drive) (sym (new_member es i li))
      (omega (arith, a.1.1.1.0 i li, y.equal i li, f.frame.sizes (extent es i).drive))))
      (λ j ne c i l. omega (arith, h j i (c, l), f.frame.sizes (member (group_at st.configuration j).members i).drive))
      j c.0 i c.1

-- where drives have to do with the refusal, a check that has nothing to do with them held
pub passed : {C F : Type 0} {x y : Refusal} → ((C → ⊥) × (x ≡ y)) ⊎ (C × F) → of_drives x ≡ true → of_drives y ≡ false → C × F
passed {x = x} (inl z) d e = absurd (both_ways (of_drives x) (ap of_drives z.1 ∙ e) d)
passed (inr z) d e = z

pub unassigned_by : (m n : List Drive) (c : Configuration) (g code k : ℕ) (es : List ExtentRow) (x : Refusal) →
    FirstNo (group_checks (scene m n c) g code k es) x → of_drives x ≡ true → EachExtent es (Unassigned c)
unassigned_by m n c g code k es x f d = (passed (passed (passed (passed (passed f d refl).1 d refl).1 d refl).1 d refl).1 d refl).0.0
