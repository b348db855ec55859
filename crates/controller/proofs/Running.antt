-- From one request to the next, and from the last to the law of the run. Assumes nothing.
use Rattle.std.proofs.Common.{◌≡◌, ℕ, ◌+◌, ◌<◌, ◌≤◌, Bool, true, List, [], ◌∷◌, ◌++◌, map, length, get_or, take, sym, ap, ◌∙◌, subst, take_all}
use mathlib.Core.Path.{fun_ext}
use Rattle.std.proofs.lemmas.List.{take_more, map-append}
use Rattle.bus.specs.Drives.{Drive, Worse, at, size}
use Rattle.array.specs.declared.tables.Array.{Array}
use Rattle.array.specs.Arrays.{config}
use Rattle.array.specs.Configuration.{nothing}
use Rattle.controller.specs.declared.calls.Call.{Call}
use Rattle.controller.specs.declared.log.Request.{Request}
use Rattle.controller.specs.declared.log.Event.{Event}
use Rattle.controller.specs.State.{Answer, Entry}
use Rattle.controller.specs.Law.{Reached, begun, waited, called, Step, Promise, Goes, entry}
use Rattle.controller.specs.Runs.{entry_of, Question, asked, logged, Ran}
use Rattle.controller.proofs.Traces.{reached_kept, law_of}
use Rattle.controller.proofs.Lasting.{last_write, first_zeros, lost_exactly}

-- the promise holds of every run
pub promise_of : (from : List Drive) (log : List Entry) (a : Array) (m : List Drive) → Reached from log a m → Promise from m log
promise_of from log a m ran =
    let law = law_of from log a m ran in
    record {
      law = law;
      last_write = last_write (length from) (λ d. size from d) log law;
      first_zeros = first_zeros (length from) (λ d. size from d) log law;
      lost_exactly = lost_exactly (length from) (λ d. size from d) log law;
      held = (reached_kept from log a m ran).held;
    }

pub goes : (e : Entry) (a z : Array) (m n : List Drive) → Step e a z m n → Goes e a z m n
goes e a z m n step from past r =
    let s = step past (reached_kept from past a m r) in
    let ran : Reached from (past ++ e ∷ []) z n = called r s.0 s.1 in
    (s.0, promise_of from (past ++ e ∷ []) z n ran, ran)

-- the entry by what was asked of the drives
pub entry_by : (call : Call) (x : Answer) (m n : List Drive) (was is old left : List ℕ) (before after : List Bool) → was ≡ old → is ≡ left →
    ((d : ℕ) → get_or before d true ≡ (at m d).broken) → ((d : ℕ) → get_or after d true ≡ (at n d).broken) →
    entry call was x is m n ≡ record { call = call; buffer = old; answer = x; left = left; before = λ d. get_or before d true; after = λ d. get_or after d true }
entry_by call x m n was is old left before after p q b a =
    ap (λ (w : List ℕ). entry call w x is m n) p
    ∙ ap (λ (w : List ℕ). entry call old x w m n) q
    ∙ ap (λ (f : ℕ → Bool). record { call = call; buffer = old; answer = x; left = left; before = f; after = λ d. (at n d).broken }) (sym (fun_ext b))
    ∙ ap (λ (f : ℕ → Bool). record { call = call; buffer = old; answer = x; left = left; before = λ d. get_or before d true; after = f }) (sym (fun_ext a))

pub run_new : (from : List Drive) (a : Array) (log : List Event) → log ≡ [] → config a ≡ nothing → Reached from (map entry_of log) a from
run_new from a log e f = subst (λ (l : List Event). Reached from (map entry_of l) a from) (sym e) (begun f)

module _ (log more : List Event) (e : Event) (is : more ≡ log ++ e ∷ []) where
  pub calls_more : (requests : List Request) (i : ℕ) (d : Request) → i < length requests → map logged log ≡ map asked (take i requests) → logged e ≡ asked (get_or requests i d) →
      map logged more ≡ map asked (take (i + 1) requests)
  calls_more requests i d inside same here =
      ap (map logged) is ∙ map-append logged log (e ∷ []) ∙ ap (λ (qs : List Question). qs ++ logged e ∷ []) same ∙ ap (λ (q : Question). map asked (take i requests) ++ q ∷ []) here
      ∙ sym (map-append asked (take i requests) (get_or requests i d ∷ [])) ∙ ap (map asked) (sym (take_more requests i d inside))

  pub run_more : (from : List Drive) (a z : Array) (m o n : List Drive) → Reached from (map entry_of log) a m → Worse m o → Goes (entry_of e) a z o n → Reached from (map entry_of more) z n
  run_more from a z m o n ran w goes =
      subst (λ (l : List Entry). Reached from l z n) (sym (ap (map entry_of) is ∙ map-append entry_of log (e ∷ []))) (goes from (map entry_of log) (waited ran w)).2

pub run_all : (from m : List Drive) (requests : List Request) (i : ℕ) (log : List Event) (a : Array) → length requests ≤ i → map logged log ≡ map asked (take i requests) →
    Reached from (map entry_of log) a m → Ran from m requests log
run_all from m requests i log a end same ran = record {
  calls = same ∙ ap (map asked) (take_all i requests end);
  array = a;
  ran = ran;
  promise = promise_of from (map entry_of log) a m ran;
}
