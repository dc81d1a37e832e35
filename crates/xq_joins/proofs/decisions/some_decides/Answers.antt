use Rattle.std.proofs.Common.{◌≡◌, ◌+◌, ◌∙◌, ap, sym, subst, arith, rules, map, drop, List, not}
use Rattle.std.proofs.lemmas.List.{drop_all}
use Rattle.xq_trees.specs.Items.{item_view}
use Rattle.xq_trees.specs.Tree.{Tree}
use Rattle.xq_meaning.specs.Readings.{IsIn}
use Rattle.xq_operators.proofs.Lists.{all_at}
use Rattle.xq_joins.specs.Keyed.{passes_key}
use Rattle.xq_joins.specs.private.Keyed.{decided}
use Rattle.xq_joins.proofs.Lists.{left_first}
use Rattle.xq_joins.proofs.Deciding.{decided_found, decided_missed}
use Rattle.xq_joins.proofs.decisions.some_decides.Goals as goal

pub loop-item-preserved : goal.loop-item-preserved
loop-item-preserved g c =
    let i = c.loop-item.invariant in
    let old = g.L.TreeSource.forest c.args.source.now in
    let found = c.args.found.now in
    let items = c.args.items.now in
    let n = c.loop-item.item-index in
    let x = c.item-item.result in
    let b = c.in_ok-answer.answer in
    let wanted = c.args.wanted in
    let h = passes_key old found in
    let other : b ≡ not wanted = search rules in
    record {
      keeps = c.passes_key.ensures.keeps ∙ i.keeps;
      was_clean = λ k. i.was_clean (c.passes_key.ensures.was_clean k);
      left = λ k inside.
          let x_in = all_at (IsIn old) item_view items n x inside (omega arith) c.item-item.is in
          let answer : b ≡ h (item_view x) = subst (λ (f : List Tree). IsIn f (item_view x) → b ≡ passes_key f found (item_view x)) i.keeps (c.in_ok-answer.ensures.answer k tt) x_in in
          i.left (c.passes_key.ensures.was_clean k) inside
          ∙ ap (λ l. decided wanted (map h (map item_view l))) (left_first items n x (omega arith) c.item-item.is)
          ∙ decided_missed wanted (h (item_view x)) (map h (map item_view (drop (n + 1) items))) (sym answer ∙ other);
    }

pub returns-then-answer-wanted-clause-answer : goal.returns-then-answer-wanted-clause-answer
returns-then-answer-wanted-clause-answer g c = λ k inside.
    let i = c.loop-item.invariant in
    let old = g.L.TreeSource.forest c.args.source.now in
    let found = c.args.found.now in
    let items = c.args.items.now in
    let n = c.loop-item.item-index in
    let x = c.item-item.result in
    let b = c.in_ok-answer.answer in
    let wanted = c.args.wanted in
    let h = passes_key old found in
    let same : b ≡ wanted = search rules in
    let x_in = all_at (IsIn old) item_view items n x inside (omega arith) c.item-item.is in
    let answer : b ≡ h (item_view x) = subst (λ (f : List Tree). IsIn f (item_view x) → b ≡ passes_key f found (item_view x)) i.keeps (c.in_ok-answer.ensures.answer k tt) x_in in
    sym (i.left (c.passes_key.ensures.was_clean k) inside
    ∙ ap (λ l. decided wanted (map h (map item_view l))) (left_first items n x (omega arith) c.item-item.is)
    ∙ decided_found wanted (h (item_view x)) (map h (map item_view (drop (n + 1) items))) (sym answer ∙ same))

pub returns-clause-answer : goal.returns-clause-answer
returns-clause-answer g c = λ k inside.
    let h = passes_key (g.L.TreeSource.forest c.args.source.now) c.args.found.now in
    sym (c.loop-item.invariant.left k inside
    ∙ ap (λ xs. decided c.args.wanted (map h (map item_view xs))) (drop_all c.loop-item.item-index c.args.items.now (omega arith)))
