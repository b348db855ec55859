-- From what a group answers to what the array says of a block of a volume set.
use Rattle.std.proofs.Common.{◌≡◌, ℕ, ◌+◌, ◌/◌, ◌<◌, ◌≤◌, true, List, length, Ok, Err, Result, MatchResult, sym, refl, ap, ◌∙◌, subst, inl, inr, ⊎_elim, arith}
use Rattle.bus.specs.Drives.{Drive, at, size}
use Rattle.layout.specs.Methods.{capped}
use Rattle.layout.specs.declared.geometry.Place.{Place}
use Rattle.layout.specs.Places as layout
use Rattle.layout.specs.Places.{PlaceOf, protected}
use Rattle.layout.proofs.PlaceLaws.{place_of}
use Rattle.group.specs.declared.member.Member.{Member}
use Rattle.group.specs.declared.fault.GroupFault.{GroupFault}
use Rattle.group.specs.declared.fault.GroupFault.TheVariants.{OutOfRule, Short, Outside as Beyond, Whole, Lost, Failed}
use Rattle.group.specs.Group as rows
use Rattle.group.specs.Group.{member, Frame, Ours, NoBlock}
use Rattle.group.specs.Record.{members_of, Lies, Unready, Names, ReadOk, ReadLost, Reads, WriteOk, WriteLost, Writes}
use Rattle.group.proofs.Recording.{member_is}
use Rattle.array.specs.declared.refusal.Refusal.{Refusal}
use Rattle.array.specs.declared.refusal.Refusal.TheVariants.{LostReading, LostWriting}
use Rattle.array.specs.declared.refusal.Refused.{Refused}
use Rattle.array.specs.declared.slot.GroupSlot.{GroupSlot}
use Rattle.array.specs.declared.volume.Volume.{Volume}
use Rattle.array.specs.declared.volume.VolumeBlock.{VolumeBlock}
use Rattle.array.specs.Kinds.{method}
use Rattle.array.specs.Configuration.{GroupConfig, VolumeConfig, Configuration, group_at, volume_at, group_view, volume_view}
use Rattle.array.specs.Places.{spot_of, row_of, home_of, slot_of, LostRow, LostBlock}
use Rattle.array.specs.Checks.{AllHold, block_checks}
use Rattle.array.specs.Calls.{OnDrives, NamesMember, Gave, ReadsBlock, Took, Left, WritesBlock}
use Rattle.array.specs.Finding.{FoundAt}
use Rattle.array.specs.Blaming.{blamed, of_block}
use Rattle.array.proofs.Soundness.{method_sound}
use Rattle.array.proofs.Placing.{long, size_is, home_is, row_is, slot_is, strip_is}

-- a place is its four numbers
place_is : (a : Place) (i r t p : ℕ) → a.member ≡ i → a.row ≡ r → a.strip ≡ t → a.slot ≡ p → a ≡ record { member = i; row = r; strip = t; slot = p }
place_is a i r t p ei er et ep =
    ap (λ x. record { member = x; row = a.row; strip = a.strip; slot = a.slot }) ei
    ∙ ap (λ x. record { member = i; row = x; strip = a.strip; slot = a.slot }) er
    ∙ ap (λ x. record { member = i; row = r; strip = x; slot = a.slot }) et
    ∙ ap (λ x. record { member = i; row = r; strip = t; slot = x }) ep

-- the place of protected block q, as the view of a group has it
abbrev pub place_in : GroupConfig → ℕ → Place
place_in g q = record { member = home_of g q; row = row_of g q; strip = row_of g q / g.depth; slot = slot_of g q }

module _ (s : GroupSlot) (q : ℕ) where
  pub same_place : (a : Place) → PlaceOf (method s.kind) s.group.geometry.members s.group.geometry.depth s.group.geometry.rows q a → a ≡ place_in (group_view s) q
  same_place a at = place_is a (home_of (group_view s) q) (row_of (group_view s) q) (row_of (group_view s) q / s.group.geometry.depth) (slot_of (group_view s) q) (home_is s q a at) (row_is s q a at) (strip_is s q a at) (slot_is s q a at)

  -- the member that a group's fault names
  pub names_member : (n : List Drive) (row h r i d b : ℕ) → Names n s.group row h r i d b → row ≡ row_of (group_view s) q → NamesMember n (group_view s) r i d b
  names_member n row h r i d b w e =
      let is = member_is s.group s.group.eight i w.inside in
      record {
        inside = omega (arith, w.inside, long s);
        drive = w.drive ∙ ap (λ (x : Member). x.drive) (sym is);
        block = w.block ∙ ap (λ x. (member s.group.members i).start + x) (sym w.row) ∙ ap (λ (x : Member). x.start + r) (sym is);
        gone = ap (λ (x : Member). rows.missing n r x) is ∙ ap (λ x. rows.missing n x (member s.group.members i)) w.row ∙ w.gone;
      }

-- what a group's answer becomes
pub answer_seen : {U : Type 0} (v : VolumeBlock) (x : Refusal) (r : Result U GroupFault) (z : Result U Refused) → MatchResult r (λ u. z ≡ Ok u) (λ e. z ≡ Err (blamed v x e)) → z ≡ of_block v x r
answer_seen v x (Ok u) z e = e
answer_seen v x (Err f) z e = e

-- block b of volume set v is protected block q of the group s
module _ (m : List Drive) (c : Configuration) (v b : ℕ) (s : GroupSlot) (q : ℕ) (found : FoundAt c v b s q) where
  pub over : (P : GroupConfig → ℕ → Type 0) → P (group_view s) q → P (group_at c (spot_of c v b).group) (spot_of c v b).block
  over P p = subst (λ x. P (group_at c (spot_of c v b).group) x) found.block (subst (λ x. P x q) found.slot.view p)

  on_members : OnDrives m c → (i : ℕ) → i < length (members_of s.group) → (member (members_of s.group) i).start + s.group.geometry.rows ≤ size m (member (members_of s.group) i).drive
  on_members on =
      subst (λ (g : GroupConfig). (i : ℕ) → i < length g.members → (member g.members i).start + g.rows ≤ size m (member g.members i).drive) (sym found.slot.view)
      (λ i h. on (spot_of c v b).group i (found.slot.configured, h))

  lies : OnDrives m c → (r : ℕ) → r < s.group.geometry.rows → Lies m s.group r
  lies on r h i hi =
      subst (λ (x : Member). x.start + r < size m x.drive) (member_is s.group s.group.eight i hi)
      (omega (arith, on_members on i (omega (arith, long s))))

  -- on a bus where the extents lie, no check of the group's own fails
  pub never_unready : OnDrives m c → (len : ℕ) → 512 ≤ len → (e : GroupFault) → Unready (method s.kind) m s.group q len e → ⊥
  never_unready on len h OutOfRule u = omega (arith, s.enough)
  never_unready on len h Short u = omega (arith, u.1)
  never_unready on len h Beyond u =
      let k = method s.kind in
      let g = s.group.geometry in
      let lt : q < protected (method s.kind) g.members g.rows = omega (arith, found.inside, size_is s) in
      let p = place_of (method s.kind) (method_sound s.kind) g.members g.depth g.rows g.some_members g.few_members g.some_depth g.whole_strips q (k.width g.members) (capped (layout.home_of (method s.kind) g.members g.depth q)) lt refl refl in
      u.2 _ (record { enough = s.enough; buffer = h; inside = lt; place = p; lies = lies on (layout.row_of (method s.kind) g.members g.depth q) p.row_inside })
  never_unready on len h Whole u = u
  never_unready on len h (Lost a r i x) u = u
  never_unready on len h (Failed a r i f) u = u

module _ (m n : List Drive) (c : Configuration) (v b : ℕ) (s : GroupSlot) (q : ℕ) (found : FoundAt c v b s q) where
  module _ (was is : List ℕ) where
    read_ok : ReadOk (method s.kind) m n s.group q was is (place_in (group_view s) q) → Gave m n (group_view s) q was is
    read_ok h = record { frame = h.served.frame; gives = h.gives }

    reads : {U : Type 0} → AllHold (block_checks c v b (length was)) → OnDrives m c → (r : Result U GroupFault) → Reads (method s.kind) m n s.group q was is r → ReadsBlock m n c v b was is (of_block (record { volume = v; block = b }) LostReading r)
    reads (has, (fits, (below, u))) on (Ok w) (a, h) =
        let o : ReadOk (method s.kind) m n s.group q was is (place_in (group_view s) q) =
        subst (λ x. ReadOk (method s.kind) m n s.group q was is x) (same_place s q a h.served.ready.place) h in (
          (has, (fits, (below, (over m c v b s q found (λ g x. LostBlock (λ d. (at n d).broken) g x → ⊥) o.found, tt)))),
          over m c v b s q found (λ g x. Gave m n g x was is) (read_ok o),
        )
    reads (has, (fits, (below, u))) on (Err OutOfRule) h = absurd (never_unready m c v b s q found on (length was) fits OutOfRule h.0)
    reads (has, (fits, (below, u))) on (Err Short) h = absurd (never_unready m c v b s q found on (length was) fits Short h.0)
    reads (has, (fits, (below, u))) on (Err Beyond) h = absurd (never_unready m c v b s q found on (length was) fits Beyond h.0)
    reads (has, (fits, (below, u))) on (Err Whole) h = absurd h
    reads (has, (fits, (below, u))) on (Err (Lost x r i y)) (a, h) =
        let o : ReadLost (method s.kind) m n s.group q was is x r i y.drive y.block (place_in (group_view s) q) =
        subst (λ z. ReadLost (method s.kind) m n s.group q was is x r i y.drive y.block z) (same_place s q a h.served.ready.place) h in (
          inr (has, inr (fits, inr (below, inl ((λ held. held (over m c v b s q found (λ g z. LostBlock (λ d. (at n d).broken) g z) o.lost)), refl)))),
          o.buffer,
          refl,
          (
            record {
              volume = refl;
              block = refl;
              group = o.names.group ∙ found.slot.number;
              row = over m c v b s q found (λ g z. r ≡ row_of g z) o.names.row;
              member_of = over m c v b s q found (λ g z. NamesMember n g r i y.drive y.block) (names_member s q n (row_of (group_view s) q) x r i y.drive y.block o.names refl);
            },
            over m c v b s q found (λ g z. Frame m n (Ours g.members) NoBlock) o.served.frame,
          ),
        )
    reads (has, (fits, (below, u))) on (Err (Failed x r i f)) h = absurd h

    -- z is what the array answers where the group answers r
    pub reads_block : {U : Type 0} → AllHold (block_checks c v b (length was)) → OnDrives m c → (r : Result U GroupFault) (z : Result U Refused) → Reads (method s.kind) m n s.group q was is r → z ≡ of_block (record { volume = v; block = b }) LostReading r → ReadsBlock m n c v b was is z
    reads_block all on r z h e = subst (λ x. ReadsBlock m n c v b was is x) (sym e) (reads all on r h)

  module _ (bytes : List ℕ) where
    write_ok : WriteOk (method s.kind) m n s.group q bytes (place_in (group_view s) q) → Took m n (group_view s) q bytes
    write_ok h = record { frame = h.served.frame; takes = h.changes }

    write_left : (x r i d y : ℕ) → WriteLost (method s.kind) m n s.group q bytes x r i d y (place_in (group_view s) q) → Left m n (group_view s) q
    write_left x r i d y h = record {
      frame = h.served.frame;
      keeps = h.keeps;
      unwritten = λ l. ⊎_elim (λ e. e.1) (λ e. absurd (e.0 l)) h.lost;
    }

    refused : (x r i d y : ℕ) → WriteLost (method s.kind) m n s.group q bytes x r i d y (place_in (group_view s) q) →
        (LostRow (λ d. (at m d).broken) (group_view s) (row_of (group_view s) q) → ⊥) × (LostBlock (λ d. (at n d).broken) (group_view s) q → ⊥) → ⊥
    refused x r i d y h (whole, there) = ⊎_elim (λ e. whole e.0) (λ e. there e.1) h.lost

    writes : {U : Type 0} → AllHold (block_checks c v b (length bytes)) → (volume_at c v).writes ≡ true → OnDrives m c → (r : Result U GroupFault) → Writes (method s.kind) m n s.group q bytes r → WritesBlock m n c v b bytes (of_block (record { volume = v; block = b }) LostWriting r)
    writes (has, (fits, (below, u))) enabled on (Ok w) (a, h) =
        let o : WriteOk (method s.kind) m n s.group q bytes (place_in (group_view s) q) =
        subst (λ x. WriteOk (method s.kind) m n s.group q bytes x) (same_place s q a h.served.ready.place) h in (
          (has, (fits, (below, (enabled, ((over m c v b s q found (λ g x. LostRow (λ d. (at m d).broken) g (row_of g x) → ⊥) o.intact, over m c v b s q found (λ g x. LostBlock (λ d. (at n d).broken) g x → ⊥) o.found), tt))))),
          over m c v b s q found (λ g x. Took m n g x bytes) (write_ok o),
        )
    writes (has, (fits, (below, u))) enabled on (Err OutOfRule) h = absurd (never_unready m c v b s q found on (length bytes) fits OutOfRule h.0)
    writes (has, (fits, (below, u))) enabled on (Err Short) h = absurd (never_unready m c v b s q found on (length bytes) fits Short h.0)
    writes (has, (fits, (below, u))) enabled on (Err Beyond) h = absurd (never_unready m c v b s q found on (length bytes) fits Beyond h.0)
    writes (has, (fits, (below, u))) enabled on (Err Whole) h = absurd h
    writes (has, (fits, (below, u))) enabled on (Err (Lost x r i y)) (a, h) =
        let o : WriteLost (method s.kind) m n s.group q bytes x r i y.drive y.block (place_in (group_view s) q) =
        subst (λ z. WriteLost (method s.kind) m n s.group q bytes x r i y.drive y.block z) (same_place s q a h.served.ready.place) h in (
          inr (
            has,
            inr (
              fits,
              inr (
                below,
                inr (
                  enabled,
                  inl (
                    over m c v b s q found (λ g z. (LostRow (λ d. (at m d).broken) g (row_of g z) → ⊥) × (LostBlock (λ d. (at n d).broken) g z → ⊥) → ⊥) (refused x r i y.drive y.block o),
                    refl,
                  ),
                ),
              ),
            ),
          ),
          refl,
          (
            record {
              volume = refl;
              block = refl;
              group = o.names.group ∙ found.slot.number;
              row = over m c v b s q found (λ g z. r ≡ row_of g z) o.names.row;
              member_of = over m c v b s q found (λ g z. NamesMember n g r i y.drive y.block) (names_member s q n (row_of (group_view s) q) x r i y.drive y.block o.names refl);
            },
            over m c v b s q found (λ g z. Left m n g z) (write_left x r i y.drive y.block o),
          ),
        )
    writes (has, (fits, (below, u))) enabled on (Err (Failed x r i f)) h = absurd h

    pub writes_block : {U : Type 0} → AllHold (block_checks c v b (length bytes)) → (x : Volume) → volume_view x ≡ volume_at c v → x.writes ≡ true → OnDrives m c → (r : Result U GroupFault) (z : Result U Refused) → Writes (method s.kind) m n s.group q bytes r → z ≡ of_block (record { volume = v; block = b }) LostWriting r → WritesBlock m n c v b bytes z
    writes_block all x view enabled on r z h e =
        subst (λ y. WritesBlock m n c v b bytes y) (sym e) (writes all (sym (ap (λ (y : VolumeConfig). y.writes) view) ∙ enabled) on r h)
