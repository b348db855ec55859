-- A protected block is read, or written, in the state that a log says. Assumes nothing.
use Rattle.std.proofs.Common.{◌≡◌, ℕ, ◌+◌, ◌<◌, ◌&&◌, eqb, List, [], ◌++◌, length, get_or, take, drop, set, sym, refl, ap, ◌∙◌, subst, ⊎_elim, arith}
use Rattle.std.proofs.lemmas.List.FromFn.{length-map-range_with_len, get_or-map-range_with_len, fill_by_all}
use Rattle.std.proofs.lemmas.List.{get_or-set_same, get_or-set_other, length-set}
use Rattle.std.proofs.lemmas.Bool.{cases_eq, cases_Bool, cond-true, cond-false, cond_both, eq-eqb, eqb-true, and_from, and_parts}
use Rattle.bus.specs.Drives.{Drive}
use Rattle.layout.specs.Blocks.{Whole, Blocks}
use Rattle.layout.proofs.Strips.{some_width, line_below, slot_below, same_place, slot_at, line_at, at_below}
use Rattle.group.specs.Group.{member, Frame, Ours, InRow}
use Rattle.array.specs.Configuration.{GroupConfig, Configured, group_at}
use Rattle.array.specs.Places.{Spot, size_of, width_of, row_of, slot_of, user_block}
use Rattle.array.specs.Tables.{SoundGroup, SoundConfig}
use Rattle.array.specs.Calls.{Holds, Gave, Took, Left}
use Rattle.controller.specs.State.{State, users, put}
use Rattle.controller.specs.Right.{over}
use Rattle.controller.specs.Law.{Held, WholeContents}
use Rattle.controller.proofs.Keeping.{row_frame}

-- row and slot of a protected block, and the block at a slot of a row
module _ (g : GroupConfig) (s : SoundGroup g) where
  pub block_inside : (r p : ℕ) → r < g.rows → p < width_of g → user_block g r p < size_of g
  block_inside r p h l = at_below g.depth (width_of g) s.depth r p l g.rows s.strips h

  pub block_row : (r p : ℕ) → p < width_of g → row_of g (user_block g r p) ≡ r
  block_row r p l = line_at g.depth (width_of g) s.depth r p l

  pub block_slot : (r p : ℕ) → p < width_of g → slot_of g (user_block g r p) ≡ p
  block_slot r p l = slot_at g.depth (width_of g) s.depth r p l

  module _ (q : ℕ) (inside : q < size_of g) where
    pub row_inside : row_of g q < g.rows
    row_inside = line_below g.depth (width_of g) s.depth (some_width (width_of g) g.rows q inside) q g.rows s.strips inside

    pub slot_inside : slot_of g q < width_of g
    slot_inside = slot_below g.depth (width_of g) s.depth (some_width (width_of g) g.rows q inside) q

    pub block_again : user_block g (row_of g q) (slot_of g q) ≡ q
    block_again = same_place g.depth (width_of g) s.depth _ q (block_row _ _ slot_inside) (block_slot _ _ slot_inside)

-- one block is put
module _ (f : ℕ → ℕ → List ℕ) (p : Spot) (x : List ℕ) (g q : ℕ) where
  pub put_same : g ≡ p.group → q ≡ p.block → put f p x g q ≡ x
  put_same a b = cond-true _ x (f g q) (and_from (eqb g p.group) (eqb q p.block) (eq-eqb g p.group a) (eq-eqb q p.block b))

  pub put_other : ((g ≡ p.group) × (q ≡ p.block) → ⊥) → put f p x g q ≡ f g q
  put_other ne = cond-false _ x (f g q)
      (⊎_elim
      (λ t. let z = and_parts (eqb g p.group) (eqb q p.block) t in absurd (ne (eqb-true g p.group z.0, eqb-true q p.block z.1)))
      (λ z. z)
      (cases_Bool (eqb g p.group && eqb q p.block)))

-- the state in which block q of group g is written
abbrev pub written : State → ℕ → ℕ → List ℕ → State
written st g q x = record { configuration = st.configuration; contents = put st.contents (record { group = g; block = q }) x }

pub whole_write : (st : State) (g q : ℕ) (x : List ℕ) → WholeContents st → Whole x → WholeContents (written st g q x)
whole_write st g q x whole w h k has l = cond_both (eqb h g && eqb k q) x (st.contents h k) Whole (λ e. w) (λ e. whole h k has l)

-- the user blocks of a row, by index
module _ (st : State) (g r : ℕ) where
  pub length_users : length (users st g r) ≡ width_of (group_at st.configuration g)
  length_users = length-map-range_with_len (λ p. st.contents g (user_block (group_at st.configuration g) r p)) 0 (width_of (group_at st.configuration g))

  pub get_or_users : (p : ℕ) → p < width_of (group_at st.configuration g) → get_or (users st g r) p [] ≡ st.contents g (user_block (group_at st.configuration g) r p)
  get_or_users p l =
      get_or-map-range_with_len (λ p. st.contents g (user_block (group_at st.configuration g) r p)) 0 (width_of (group_at st.configuration g)) p p [] l (omega arith)

  -- such a list is theirs
  pub users_from : (us : List (List ℕ)) → length us ≡ width_of (group_at st.configuration g) →
      ((p : ℕ) → p < width_of (group_at st.configuration g) → get_or us p [] ≡ st.contents g (user_block (group_at st.configuration g) r p)) → us ≡ users st g r
  users_from us = fill_by_all (λ p. st.contents g (user_block (group_at st.configuration g) r p)) us (width_of (group_at st.configuration g)) []

module _ (st : State) (s : SoundConfig st.configuration) (g : ℕ) (has : Configured st.configuration.groups g) where
  -- the group
  abbrev its : GroupConfig
  its = group_at st.configuration g

  fine : SoundGroup its
  fine = s.groups g has

  pub users_blocks : (r : ℕ) → r < its.rows → WholeContents st → Blocks (width_of its) (users st g r)
  users_blocks r l whole = record {
    many = length_users st g r;
    whole = λ p h. subst Whole (sym (get_or_users st g r p h)) (whole g (user_block its r p) has (block_inside its fine r p l h));
  }

  module _ (q : ℕ) (inside : q < size_of its) where
    -- row and slot of block q
    abbrev row : ℕ
    row = row_of its q

    abbrev slot : ℕ
    slot = slot_of its q

    users_at : get_or (users st g row) slot [] ≡ st.contents g q
    users_at = get_or_users st g row slot (slot_inside its fine q inside) ∙ ap (st.contents g) (block_again its fine q inside)

    pub read_gives : (m n : List Drive) (was is : List ℕ) → WholeContents st → Held m st → Gave m n its q was is → is ≡ over (st.contents g q) was
    read_gives m n was is whole held gave =
        let r = row_inside its fine q inside in
        gave.gives (users st g row) (users_blocks row r whole) (held g row has r)
        ∙ ap (λ (u : List ℕ). u ++ drop 512 was) users_at
        ∙ ap (λ (k : ℕ). st.contents g q ++ drop k was) (sym (whole g q has inside).long)

    -- what the written row should hold, and any other
    users_same : (x : List ℕ) → set (users st g row) slot x ≡ users (written st g q x) g row
    users_same x =
        users_from (written st g q x) g row (set (users st g row) slot x) (length-set (users st g row) slot x ∙ length_users st g row)
        (λ p l.
        ⊎_elim
        (λ (e : p ≡ slot).
        ap (λ (k : ℕ). get_or (set (users st g row) slot x) k []) e ∙ get_or-set_same (users st g row) slot x [] (omega (arith, length_users st g row, slot_inside its fine q inside))
        ∙ sym (put_same st.contents _ x g (user_block its row p) refl (ap (user_block its row) e ∙ block_again its fine q inside)))
        (λ (ne : p ≡ slot → ⊥).
        get_or-set_other (users st g row) slot p x [] ne ∙ get_or_users st g row p l
        ∙ sym (put_other st.contents _ x g (user_block its row p) (λ e. ne (sym (block_slot its fine row p l) ∙ ap (slot_of its) e.1))))
        (cases_eq p slot))

    users_other : (x : List ℕ) (h r : ℕ) → Configured st.configuration.groups h → ((h ≡ g) × (r ≡ row) → ⊥) → users st h r ≡ users (written st g q x) h r
    users_other x h r k ne =
        let o = group_at st.configuration h in
        users_from (written st g q x) h r (users st h r) (length_users st h r)
        (λ p l.
        get_or_users st h r p l
        ∙ sym (put_other st.contents _ x h (user_block o r p) (λ e.
        ne (e.0, sym (block_row o (s.groups h k) r p l) ∙ ap (row_of o) e.1 ∙ ap (λ (j : ℕ). row_of (group_at st.configuration j) q) e.0))))

    -- what is so of the row of q and of any other row is so of each
    each_row : (P : ℕ → ℕ → Type 0) → P g row → (h r : ℕ) → (((h ≡ g) × (r ≡ row) → ⊥) → P h r) → P h r
    each_row P here h r other =
        ⊎_elim
        (λ (e : h ≡ g).
        ⊎_elim (λ (k : r ≡ row). subst (λ (j : ℕ). P j r) (sym e) (subst (P g) (sym k) here)) (λ ne. other (λ z. ne z.1)) (cases_eq r row))
        (λ ne. other (λ z. ne z.0))
        (cases_eq h g)

    module _ (m n : List Drive) (whole : WholeContents st) (held : Held m st) where
      -- no block of another row was written
      holds_elsewhere : Frame m n (Ours its.members) (InRow row its.members) → (h r : ℕ) → Configured st.configuration.groups h →
          r < (group_at st.configuration h).rows → ((h ≡ g) × (r ≡ row) → ⊥) → Holds n (group_at st.configuration h) r (users st h r)
      holds_elsewhere f h r k l ne =
          let o = group_at st.configuration h in
          row_frame m n f o r (users st h r) (s.groups h k)
          (λ i li x.
          let both = s.extents (record {
            g = g;
            i = x.0;
            h = h;
            j = i;
            drive = (member o.members i).drive;
            block = (member o.members i).start + r;
            has_first = (has, x.1);
            has_second = (k, li);
            in_first = record { drive = sym x.2; from = omega (arith, x.3); below = omega (arith, x.3, row_inside its fine q inside) };
            in_second = record { drive = refl; from = omega arith; below = omega arith };
          }) in
          let same : (member its.members x.0).start ≡ (member o.members i).start =
          ap (λ (j : ℕ). (member its.members j).start) both.1 ∙ ap (λ (j : ℕ). (member (group_at st.configuration j).members i).start) both.0 in
          ne (sym both.0, omega (arith, x.3)))
          (held h r k l)

      here : Holds m its row (users st g row)
      here = held g row has (row_inside its fine q inside)

      now_whole : Blocks (width_of its) (users st g row)
      now_whole = users_blocks row (row_inside its fine q inside) whole

      pub held_write : (bytes : List ℕ) → Took m n its q bytes → Held n (written st g q (take 512 bytes))
      held_write bytes took h r k l =
          let x = take 512 bytes in
          each_row (λ h r. Holds n (group_at st.configuration h) r (users (written st g q x) h r))
          (subst (Holds n its row) (users_same x) (took.takes (users st g row) now_whole here))
          h r (λ ne. subst (Holds n (group_at st.configuration h) r) (users_other x h r k ne) (holds_elsewhere took.frame h r k l ne))

      pub held_left : Left m n its q → Held n st
      held_left left h r k l =
          each_row (λ h r. Holds n (group_at st.configuration h) r (users st h r)) (left.keeps (users st g row) now_whole here)
          h r (holds_elsewhere left.frame h r k l)
