-- From what an array's call answers to the law of one call. Assumes nothing.
use Rattle.std.proofs.Common.{◌≡◌, ℕ, true, false, List, [], ◌∷◌, ◌++◌, length, None, Ok, Err, Result, IsOkAnd, MatchResult, sym, refl, ap, ◌∙◌, subst, ⊎_elim}
use Rattle.bus.specs.Drives.{Drive, at, size}
use Rattle.array.specs.declared.tables.Array.{Array}
use Rattle.array.specs.declared.refusal.Refusal.{Refusal}
use Rattle.array.specs.declared.refusal.Refused.{Refused}
use Rattle.array.specs.Arrays.{config}
use Rattle.array.specs.Refusals.{of_drives}
use Rattle.array.specs.Configuration.{Configuration, is_some}
use Rattle.array.specs.Tables.{SoundConfig}
use Rattle.array.specs.Checks.{Check, FirstNo}
use Rattle.array.specs.Calls.{OnDrives, Blamed}
use Rattle.array.proofs.Soundness.{sound_array}
use Rattle.controller.specs.declared.calls.Call.{Call}
use Rattle.controller.specs.declared.calls.Value.{Value}
use Rattle.controller.specs.declared.calls.Value.TheVariants.{Done}
use Rattle.controller.specs.State.{Answer, Entry, State, state_of, after, after_answer}
use Rattle.controller.specs.Right.{Right, Blames}
use Rattle.controller.specs.Law.{Held, WholeContents, Kept, Spared, Performed, Step, entry}
use Rattle.controller.proofs.Keeping.{state_snoc}
use Rattle.controller.proofs.Apartness.{apart_by}

-- accepted with what f makes of the value
abbrev pub answer_by : {V : Type 0} → (V → Value) → Result V Refused → Answer
answer_by f (Ok v) = Ok (f v)
answer_by f (Err x) = Err x

-- accepted with no value
abbrev pub answered : {U : Type 0} → Result U Refused → Answer
answered r = answer_by (λ u. Done) r

-- which is what `map` answers
answer_map : {V : Type 0} (f : V → Value) (Q : V → Value → Type 0) → ((v : V) (w : Value) → Q v w → w ≡ f v) → (r : Result V Refused) (x : Answer) →
    MatchResult r (λ v. IsOkAnd x (Q v)) (λ e. x ≡ Err e) → x ≡ answer_by f r
answer_map f Q q (Ok v) (Ok w) h = ap Ok (q v w h)
answer_map f Q q (Ok v) (Err e) h = absurd h
answer_map f Q q (Err e) x h = h

-- what a call makes of a state; z is the configuration that the tables hold then
pub record Stepped (st : State) (e : Entry) (m n : List Drive) (z : Configuration) : Type 0 where
  pub right : Right (length m) (λ d. size m d) st e
  pub blames : Blames (length m) (λ d. size m d) st e
  pub count : length n ≡ length m
  pub sizes : (d : ℕ) → size n d ≡ size m d
  pub stays : (d : ℕ) → (at m d).broken ≡ true → (at n d).broken ≡ true
  pub spared : Spared st e m n
  pub becomes : z ≡ (after st e).configuration
  pub lies : OnDrives n (after st e).configuration
  pub whole : WholeContents (after st e)
  pub held : Held n (after st e)

-- the same behind a log
pub behind : (past : List Entry) (call : Call) (was is : List ℕ) (x : Answer) (a z : Array) (m n : List Drive) → Kept past a m →
    Stepped (state_of past) (entry call was x is m n) m n (config z) →
    Performed past (entry call was x is m n) m n × Kept (past ++ entry call was x is m n ∷ []) z n
behind past call was is x a z m n k s =
    let e = entry call was x is m n in
    let then : state_of (past ++ e ∷ []) ≡ after (state_of past) e = state_snoc past e in
    let tables : config z ≡ (state_of (past ++ e ∷ [])).configuration = s.becomes ∙ ap (λ (st : State). st.configuration) (sym then) in
    let held : Held n (state_of (past ++ e ∷ [])) = subst (Held n) (sym then) s.held in (
      record {
        before = refl;
        after = refl;
        count = s.count;
        sizes = s.sizes;
        stays = s.stays;
        lawful = record { right = s.right; blames = s.blames; apart = apart_by (subst SoundConfig tables (sound_array z)) };
        spared = s.spared;
        held_before = k.held;
        held_after = held;
      },
      record {
        tables = tables;
        lies = subst (λ (st : State). OnDrives n st.configuration) (sym then) s.lies;
        whole = subst WholeContents (sym then) s.whole;
        held = held;
      },
    )

-- checks that have nothing to do with drives
abbrev pub Plain : List Check → Type 0
Plain [] = Unit {0}
Plain (c ∷ cs) = (of_drives c.refusal ≡ false) × Plain cs

pub plain_refusal : (cs : List Check) (x : Refusal) → Plain cs → FirstNo cs x → of_drives x ≡ false
plain_refusal [] x p f = absurd f
plain_refusal (c ∷ cs) x p f = ⊎_elim (λ z. ap of_drives z.1 ∙ p.0) (λ z. plain_refusal cs x p.1 z.1) f

pub plain_blamed : (cs : List Check) (x : Refused) → Plain cs → FirstNo cs x.refusal → x.fault ≡ None → Blamed x
plain_blamed cs x p f e = ap is_some e ∙ sym (plain_refusal cs x.refusal p f)

-- a call that tries no drive and leaves its buffer
module _ (st : State) (call : Call) (buffer : List ℕ) (m : List Drive) where
  pub still : (x : Answer) (z : Configuration) →
      Right (length m) (λ d. size m d) st (entry call buffer x buffer m m) → Blames (length m) (λ d. size m d) st (entry call buffer x buffer m m) →
      z ≡ (after_answer st call buffer x).configuration → OnDrives m (after_answer st call buffer x).configuration → WholeContents (after_answer st call buffer x) → Held m (after_answer st call buffer x) →
      Stepped st (entry call buffer x buffer m m) m m z
  still x z right blames becomes lies whole held = record {
    right = right;
    blames = blames;
    count = refl;
    sizes = λ d. refl;
    stays = λ d h. h;
    spared = record { untried = λ t. refl; unwritten = λ v b q l. refl };
    becomes = becomes;
    lies = lies;
    whole = whole;
    held = held;
  }

-- the same by what the array's contract says of its configuration, R
pub behind_by : (past : List Entry) (call : Call) (was is : List ℕ) (x : Answer) (a z : Array) (m n : List Drive) (k : Kept past a m) (R : Configuration → Type 0) → R (config a) →
    (R (state_of past).configuration → Stepped (state_of past) (entry call was x is m n) m n (config z)) →
    Performed past (entry call was x is m n) m n × Kept (past ++ entry call was x is m n ∷ []) z n
behind_by past call was is x a z m n k R h step = behind past call was is x a z m n k (step (subst R k.tables h))

-- a call that leaves the tables
pub left_by : (past : List Entry) (call : Call) (was is : List ℕ) (x : Answer) (a : Array) (m n : List Drive) (k : Kept past a m) (R : Configuration → Type 0) → R (config a) →
    (R (state_of past).configuration → Stepped (state_of past) (entry call was x is m n) m n (state_of past).configuration) →
    Performed past (entry call was x is m n) m n × Kept (past ++ entry call was x is m n ∷ []) a n
left_by past call was is x a m n k R h step =
    behind_by past call was is x a a m n k R h (λ y. subst (λ (c : Configuration). Stepped (state_of past) (entry call was x is m n) m n c) (sym k.tables) (step y))

-- the arm of a call, whose answer is what `map` gave
pub step_at : {V : Type 0} {call k : Call} {was is : List ℕ} {a z : Array} {m n : List Drive} → call ≡ k →
    (f : V → Value) (Q : V → Value → Type 0) → ((v : V) (w : Value) → Q v w → w ≡ f v) → (r : Result V Refused) (x : Answer) → MatchResult r (λ v. IsOkAnd x (Q v)) (λ e. x ≡ Err e) →
    Step (entry k was (answer_by f r) is m n) a z m n → Step (entry call was x is m n) a z m n
step_at {k} {was} {is} {a} {z} {m} {n} e f Q q r x given s =
    subst (λ (c : Call). Step (entry c was x is m n) a z m n) (sym e) (subst (λ (w : Answer). Step (entry k was w is m n) a z m n) (sym (answer_map f Q q r x given)) s)
