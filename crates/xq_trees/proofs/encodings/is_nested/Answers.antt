use Rattle.std.proofs.Common.{◌≡◌, ◌<◌, ◌-◌, suc, true, false, refl, sym, ◌∙◌, drop, subst, length, arith}
use Rattle.std.proofs.lemmas.List.{drop_all}
use Rattle.xq_trees.specs.private.Checks.{IsChecked, AreTexts, Passes}
use Rattle.xq_trees.proofs.Encoding.{refused, sound_at, checked_step, texts_step}
use Rattle.xq_trees.proofs.encodings.is_nested.Goals as goal

pub returns-then-count-eq0-clause-passes : goal.returns-then-count-eq0-clause-passes
returns-then-count-eq0-clause-passes g c = refused _ (λ e. omega (arith, e.root_size, c.count-count.ensures, c.if-count-eq0.true))

pub returns-then-count-gt-MAX_NODES-clause-passes : goal.returns-then-count-gt-MAX_NODES-clause-passes
returns-then-count-gt-MAX_NODES-clause-passes g c = refused _ (λ e. omega (arith, e.room, c.count-count.ensures, c.if-count-gt-MAX_NODES.true))

pub returns-then-level-ne0-clause-passes : goal.returns-then-level-ne0-clause-passes
returns-then-level-ne0-clause-passes g c = refused _ (λ e. omega (arith, e.root_level, c.level.ensures, c.if-level-ne0.true))

pub returns-then-size-count-clause-passes : goal.returns-then-size-count-clause-passes
returns-then-size-count-clause-passes g c = refused _ (λ e. omega (arith, e.root_size, c.size.ensures, c.count-count.ensures, c.if-size-count.true))

pub returns-then-not-is_sound-clause-passes : goal.returns-then-not-is_sound-clause-passes
returns-then-not-is_sound-clause-passes g c =
    let rs = g.R.TreeRows.listed c.args.rows.now in
    let e : false ≡ true → ⊥ = λ h. cc in
    refused rs (λ h. e (sym c.if-not-is_sound.true ∙ c.is_sound.ensures.sound.1 (sound_at rs (c.loop-at.at - 1) (omega arith) h)))

pub loop-at-init : goal.loop-at-init
loop-at-init g c =
    let rs = g.R.TreeRows.listed c.args.rows.now in
    record {
      within = omega (arith, c.count-count.ensures);
      checked = subst IsChecked (sym (drop_all c.count-count.result rs (omega (arith, c.count-count.ensures)))) tt;
      texts = subst AreTexts (sym (drop_all c.count-count.result rs (omega (arith, c.count-count.ensures)))) tt;
    }

pub loop-at-preserved : goal.loop-at-preserved
loop-at-preserved g c =
    let rs = g.R.TreeRows.listed c.args.rows.now in
    let i = c.loop-at.at - 1 in
    let lt : i < length rs = omega (arith, c.loop-at.invariant.within, c.loop-at-test.true) in
    let e : c.loop-at.at ≡ suc i = omega (arith, c.loop-at-test.true) in
    record {
      within = omega (arith, lt);
      checked = checked_step rs i lt (subst (λ n. IsChecked (drop n rs)) e c.loop-at.invariant.checked) (c.is_sound.ensures.sound.0 c.if-not-is_sound.false);
      texts = texts_step rs i lt c.is_sound.ensures.texts (subst (λ n. AreTexts (drop n rs)) e c.loop-at.invariant.texts);
    }

pub returns : goal.returns
returns g c =
    let rs = g.R.TreeRows.listed c.args.rows.now in
    let z : c.loop-at.at ≡ 0 = omega arith in
    let p : Passes rs = record {
      checked = subst (λ n. IsChecked (drop n rs)) z c.loop-at.invariant.checked;
      root_level = sym c.level.ensures ∙ c.if-level-ne0.false;
      root_size = omega (arith, c.size.ensures, c.count-count.ensures, c.if-size-count.false, c.if-count-eq0.false);
      room = omega (arith, c.count-count.ensures, c.if-count-gt-MAX_NODES.false);
    } in
    record { passes = (λ _. p, λ _. refl); texts = λ _. subst (λ n. AreTexts (drop n rs)) z c.loop-at.invariant.texts }
