use Rattle.std.proofs.Common.{◌≡◌, ℕ, true, false, length, Ok, Err, Result, sym, ◌∙◌, arith}
use Rattle.std.proofs.lemmas.Bool.{true≢false}
use Rattle.std.specs.Result.{is_ok}
use Rattle.buses.specs.declared.misfit.Misfit.{Misfit}
use Rattle.buses.specs.declared.misfit.Misfit.TheVariants.{Count, Capacity, Bytes}
use Rattle.buses.specs.Fitting.{FitsMemory, fitting, fitting_all, fitting_none}
use Rattle.buses.proofs.memory.MemoryBus.present.Goals as goal

all : {U : Type 0} (len n cap : ℕ) (r : Result U Misfit) → FitsMemory len n cap r → is_ok r ≡ true → n ≡ fitting len n cap
all len n cap (Ok u) h e = sym (fitting_all len n cap h)
all len n cap (Err m) h e = absurd (true≢false (sym e))

none : {U : Type 0} (len n cap : ℕ) (r : Result U Misfit) → FitsMemory len n cap r → is_ok r ≡ false → 0 ≡ fitting len n cap
none len n cap (Ok u) h e = absurd (true≢false e)
none len n cap (Err Count) h e = sym (fitting_none len n cap (λ f. omega (arith, f.few)))
none len n cap (Err Capacity) h e = sym (fitting_none len n cap (λ f. h.wrong f.some f.small))
none len n cap (Err Bytes) h e = sym (fitting_none len n cap (λ f. h.other f.filled))

pub returns-then-is_ok : goal.returns-then-is_ok
returns-then-is_ok c = let d = c.args.self.now.drives in all (length c.args.self.now.bytes.now) d.number d.capacity c.fit.result c.fit.ensures (sym c.is_ok.ensures.value ∙ c.if-is_ok.true)

pub returns-else-is_ok : goal.returns-else-is_ok
returns-else-is_ok c = let d = c.args.self.now.drives in none (length c.args.self.now.bytes.now) d.number d.capacity c.fit.result c.fit.ensures (sym c.is_ok.ensures.value ∙ c.if-is_ok.false)
