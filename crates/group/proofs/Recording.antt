-- From what is told of a row to what a call on its group says.
use Rattle.std.proofs.Common.{◌≡◌, ℕ, ◌+◌, ◌/◌, ◌<◌, List, ◌++◌, length, take, drop, set, Ok, Err, Result, sym, refl, ap, ◌∙◌, subst, inl, inr, ⊎_elim, arith}
use Rattle.std.proofs.lemmas.List.{get_or-take, length-take-le}
use Rattle.bus.specs.Drives.{Drive}
use Rattle.layout.specs.Blocks.{Blocks}
use Rattle.layout.specs.Methods.{Sound}
use Rattle.layout.specs.declared.method.Method.{Ghosts}
use Rattle.layout.specs.declared.geometry.Place.{Place}
use Rattle.group.specs.declared.record.Group.{Group}
use Rattle.group.specs.declared.fault.RowFault.{RowFault}
use Rattle.group.specs.declared.fault.RowFault.TheVariants.{Lost as LostAt, Failed as FailedAt}
use Rattle.group.specs.Group.{nobody, member, missing, BlockLost, RowHolds}
use Rattle.group.specs.Requests.{Blames, HomeFirst, RowRead, RowWrite, RowRebuild}
use Rattle.group.specs.declared.member.Member.{Member}
use Rattle.group.proofs.Answering.{mapped}
use Rattle.group.specs.Record.{width_of, members_of, Ready, raised, Names, ReadOk, Reads, WriteOk, Writes, next_row, Rebuildable, Rebuilds}

module _ (g : Group) (eight : length g.members ≡ 8) where
  pub length_members : length (members_of g) ≡ width_of g
  length_members = length-take-le (width_of g) g.members (omega (arith, g.geometry.few_members))

  pub member_is : (i : ℕ) → i < width_of g → member (members_of g) i ≡ member g.members i
  member_is i h = get_or-take (width_of g) g.members i nobody h

  -- what a row blames is of the group, and is named above it
  pub blames_named : (n : List Drive) (r j q : ℕ) → Blames n r (members_of g) j q → Names n g r g.number q j (member g.members j).drive ((member g.members j).start + q)
  blames_named n r j q b =
      let l : j < width_of g = omega (arith, b.inside, length_members) in
      record {
        group = refl;
        row = b.row;
        inside = l;
        drive = refl;
        block = ap (λ v. (member g.members j).start + v) b.row;
        gone = ap (missing n r) (sym (member_is j l)) ∙ b.gone;
      }

module _ {X : Type 0} (k : Ghosts X) (s : Sound k.LEAST k.width k.cycle k.home k.check k.row k.tolerance) (m n : List Drive) (g : Group) (eight : length g.members ≡ 8) (q : ℕ) (was : List ℕ) (a : Place) (ready : Ready k m g q (length was) a) where
  home_is : k.home (length (members_of g)) a.strip a.slot ≡ a.member
  home_is = ap (λ v. k.home v a.strip a.slot) (length_members g eight) ∙ sym ready.place.at_home

  pub read_ok : (is b : List ℕ) → RowRead k m n a.strip a.row a.slot (Ok b) (members_of g) → is ≡ b ++ drop 512 was → ReadOk k m n g q was is a
  read_ok is b h e = record {
    served = record { ready = ready; frame = h.frame };
    found = λ l. h.settled (subst (λ v. BlockLost (k.tolerance (length (members_of g))) n a.row (members_of g) v) (sym home_is) l);
    first = subst (λ v. HomeFirst m n a.row (members_of g) v) home_is h.first;
    keeps = h.keeps;
    gives = λ us u w. e ∙ ap (λ v. v ++ drop 512 was) (h.gives us u w);
  }

  pub read_refused : (U : Type 0) (e : RowFault) → RowRead k m n a.strip a.row a.slot (Err e) (members_of g) → Reads {U = U} k m n g q was was (Err (raised g e))
  read_refused U (LostAt j r) h = (
    a,
    record {
      served = record { ready = ready; frame = h.frame };
      lost = subst (λ v. BlockLost (k.tolerance (length (members_of g))) n a.row (members_of g) v) home_is h.settled.1;
      names = blames_named g eight n a.row j r h.settled.0;
      keeps = h.keeps;
      buffer = refl;
    },
  )
  read_refused U (FailedAt f j r) h = absurd h.settled

module _ {X : Type 0} (k : Ghosts X) (s : Sound k.LEAST k.width k.cycle k.home k.check k.row k.tolerance) (m n : List Drive) (g : Group) (eight : length g.members ≡ 8) (q : ℕ) (bytes : List ℕ) (a : Place) (ready : Ready k m g q (length bytes) a) where
  write_home : k.home (length (members_of g)) a.strip a.slot ≡ a.member
  write_home = ap (λ v. k.home v a.strip a.slot) (length_members g eight) ∙ sym ready.place.at_home

  pub write_ok : (U : Type 0) (u : U) (new : List ℕ) → RowWrite k m n a.strip a.row a.slot new (Ok u) (members_of g) → new ≡ take 512 bytes → WriteOk k m n g q bytes a
  write_ok U u new h e = record {
    served = record { ready = ready; frame = h.frame };
    intact = h.decided.0;
    found = λ l. h.decided.1 (subst (λ v. BlockLost (k.tolerance (length (members_of g))) n a.row (members_of g) v) (sym write_home) l);
    changes = subst (λ v. (us : List (List ℕ)) → Blocks (k.width (length (members_of g))) us → RowHolds k a.strip m a.row (members_of g) us → RowHolds k a.strip n a.row (members_of g) (set us a.slot v)) e h.changes;
  }

  pub write_told : (U : Type 0) (new : List ℕ) (x : Result U RowFault) → RowWrite k m n a.strip a.row a.slot new x (members_of g) → new ≡ take 512 bytes → Writes k m n g q bytes (mapped (raised g) x)
  write_told U new (Ok u) h e = (a, write_ok U u new h e)
  write_told U new (Err (LostAt j r)) h e = (
    a,
    record {
      served = record { ready = ready; frame = h.frame };
      lost = ⊎_elim inl (λ l. inr (l.0, subst (λ v. BlockLost (k.tolerance (length (members_of g))) n a.row (members_of g) v) write_home l.1)) h.decided.1;
      names = blames_named g eight n a.row j r h.decided.0;
      keeps = h.changes;
    },
  )
  write_told U new (Err (FailedAt f j r)) h e = absurd h.decided

module _ {X : Type 0} (k : Ghosts X) (m n : List Drive) (g : Group) (eight : length g.members ≡ 8) (i : ℕ) (ready : Rebuildable k m g i) where
  pub rebuild_told : (U : Type 0) (x : Result U RowFault) → RowRebuild k m n (next_row g i / g.geometry.depth) (next_row g i) i x (members_of g) → Rebuilds k m n g i (mapped (raised g) x)
  rebuild_told U (Ok u) h = record {
    rebuilt = record { ready = ready; frame = h.frame; keeps = h.keeps };
    intact = h.rebuilds.0;
    works = h.rebuilds.1;
    holds = h.rebuilds.2;
  }
  rebuild_told U (Err (LostAt j r)) h = record {
    rebuilt = record { ready = ready; frame = h.frame; keeps = h.keeps };
    lost = h.rebuilds.1;
    names = blames_named g eight n (next_row g i) j r h.rebuilds.0;
  }
  rebuild_told U (Err (FailedAt f j r)) h = record {
    rebuilt = record { ready = ready; frame = h.frame; keeps = h.keeps };
    intact = h.rebuilds.3;
    broken = h.rebuilds.4;
    group = refl;
    row = h.rebuilds.2;
    member_is = h.rebuilds.1;
    fault = h.rebuilds.0;
  }

-- what is told of a row, at its strip, its number, its members and the answer
pub told_at : {X : Type 0} (P : ℕ → ℕ → List Member → X → Type 0) (t z r q : ℕ) (gs hs : List Member) (x y : X) → t ≡ z → r ≡ q → gs ≡ hs → x ≡ y → P t r gs x → P z q hs y
told_at P t z r q gs hs x y et er eg ex h =
    subst (λ v. P v q hs y) et (subst (λ v. P t v hs y) er (subst (λ v. P t r v y) eg (subst (λ v. P t r gs v) ex h)))
