use Rattle.std.proofs.Common.{◌≡◌, ◌-◌, ◌&&◌, true, false, nat_le, length, take, sym, ap, subst, ◌∙◌}
use Rattle.std.specs.Prelude.{slice_get}
use Rattle.xq_axes.specs.private.Hits.{is_among, IsRising}
use Rattle.xq_axes.specs.private.Waiting.{is_deeper}
use Rattle.xq_axes.proofs.Deepest.{rising_take, kept_before, all_kept}
use Rattle.xq_axes.proofs.levels.leave_deeper.Goals as goal

pub loop-levels-preserved : goal.loop-levels-preserved
loop-levels-preserved c = λ up. (
    let inv = c.loop-levels.invariant up in
    let level = c.args.level in
    let ls = c.loop-levels.levels.items in
    let seen = c.deref.ensures.value in
    let n : c.loop-levels.levels.len ≡ length ls = sym c.deref.ensures.len ∙ ap length seen in
    let fewer : c.pop.new.self.items ≡ take (length ls - 1) ls = c.pop.ensures.rest ∙ ap (λ k. take (k - 1) ls) n in
    let deep : is_deeper (slice_get ls (length ls - 1)) level ≡ true = ap (λ xs. is_deeper (slice_get xs (length xs - 1)) level) (sym seen) ∙ sym c.ends_below.ensures ∙ c.loop-levels-test.true in
    record {
      rising = subst (λ xs. IsRising xs) (sym fewer) (rising_take ls (length ls - 1) inv.rising);
      kept = λ m. ap (λ xs. is_among xs m && nat_le m level) fewer ∙ kept_before ls level m inv.rising deep ∙ inv.kept m;
    })

pub returns-clause-kept : goal.returns-clause-kept
returns-clause-kept c = λ up m. (
    let inv = c.loop-levels.invariant up in
    let level = c.args.level in
    let ls = c.loop-levels.levels.items in
    let flat : is_deeper (slice_get ls (length ls - 1)) level ≡ false = ap (λ xs. is_deeper (slice_get xs (length xs - 1)) level) (sym c.deref.ensures.value) ∙ sym c.ends_below.ensures ∙ c.loop-levels-test.false in
    all_kept ls level m inv.rising flat ∙ inv.kept m)
