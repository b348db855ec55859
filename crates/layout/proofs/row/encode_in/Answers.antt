use Rattle.std.proofs.Common.{◌≡◌, ℕ, ◌<◌, true, length, get_or, sym, ap, ◌∙◌, arith}
use Rattle.layout.proofs.row.encode_in.Goals as goal

pub returns : goal.returns
returns g c =
    let n = length c.args.blocks.now in
    let t = c.args.t in
    let marks = c.mark_checks.new.marks in
    let told : (m : ℕ) → m < n → get_or marks m true ≡ g.M.Method.check n t m =
    λ m h. c.mark_checks.ensures m (omega arith) ∙ ap (λ (k : ℕ). g.M.Method.check k t m) c.requires.room in
    let long : length marks ≡ n = omega arith in (
      c.requires.size,
      λ us u agree.
          c.recover.ensures
          (record {
            least_members = c.requires.size.least_members;
            most_members = c.requires.size.most_members;
            marked = long;
            few = g.met.M.Method.sound.few_checks n t marks c.requires.size.least_members c.requires.size.most_members long told;
          })
          us u (λ m h free. agree m h (sym (told m h) ∙ free)),
    )
