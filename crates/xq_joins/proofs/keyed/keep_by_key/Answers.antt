use Rattle.std.proofs.Common.{◌≡◌, ◌+◌, ◌++◌, ◌∙◌, refl, ap, sym, subst, arith, map, drop, List}
use Rattle.std.specs.Prelude.{filter}
use Rattle.std.proofs.lemmas.List.{drop_all, append-nil}
use Rattle.xq_trees.specs.Items.{item_view, item_views}
use Rattle.xq_trees.specs.Tree.{Tree}
use Rattle.xq_meaning.specs.Readings.{IsIn}
use Rattle.xq_operators.proofs.Lists.{all_at}
use Rattle.xq_joins.specs.Keyed.{passes_key}
use Rattle.xq_joins.proofs.TextTests.{kept_next}
use Rattle.std.specs.Global.{Vec}
use Rattle.xq_trees.specs.declared.items.Item.{Item}
use Rattle.xq_joins.specs.Equalities.{passes_text}
use Rattle.xq_joins.proofs.Keying.{only_keeps}
use Rattle.xq_joins.proofs.Lists.{left_first, if_ok}
use Rattle.xq_joins.proofs.keyed.keep_by_key.Goals as goal

pub loop-item-init : goal.loop-item-init
loop-item-init g c =
    let old = g.L.TreeSource.forest c.args.source.now in
    let all = filter (passes_key old c.args.found.now) (map item_view c.args.items.now) in
    record {
      keeps = refl;
      known = c.in_ok-known.ensures;
      was_clean = λ k. k;
      kept = λ k inside. ap (λ l. map item_view l ++ all) (sym c.new-kept.ensures.items);
    }

pub loop-item-preserved : goal.loop-item-preserved
loop-item-preserved g c =
    let i = c.loop-item.invariant in
    let old = g.L.TreeSource.forest c.args.source.now in
    let found = c.args.found.now in
    let items = c.args.items.now in
    let n = c.loop-item.item-index in
    let x = c.item-item.result in
    let b = c.in_ok-is_kept.is_kept in
    let h = passes_key old found in
    record {
      keeps = c.passes_key.ensures.keeps ∙ i.keeps;
      known = i.known;
      was_clean = λ k. i.was_clean (c.passes_key.ensures.was_clean k);
      kept = λ k inside.
          let x_in = all_at (IsIn old) item_view items n x inside (omega arith) c.item-item.is in
          let answer : b ≡ h (item_view x) = subst (λ (f : List Tree). IsIn f (item_view x) → b ≡ passes_key f found (item_view x)) i.keeps (c.in_ok-is_kept.ensures.answer k i.known) x_in in
          i.kept (c.passes_key.ensures.was_clean k) inside
          ∙ kept_next h (item_view x) (item_views c.loop-item.kept) (item_views c.in_ok-kept.kept) (map item_view (drop n items)) (map item_view (drop (n + 1) items)) b answer
          (ap (map item_view) (left_first items n x (omega arith) c.item-item.is)) c.in_ok-kept.ensures;
    }

pub returns-in-Some-clause-kept : goal.returns-in-Some-clause-kept
returns-in-Some-clause-kept g c = λ k inside.
    let f = g.L.TreeSource.forest c.args.source.now in
    let xs = map item_view c.args.items.now in
    let test = c.in-Some.test in
    let found = c.args.found.now in
    if_ok (λ (kept : Vec Item). item_views kept ≡ filter (passes_text f test) xs) (λ (kept : Vec Item). item_views kept ≡ filter (passes_key f found) xs) c.keep_by_text.result
    (λ kept e. e ∙ only_keeps f found test c.in-Some.ensures xs) (c.keep_by_text.ensures.kept k inside)

pub returns-clause-kept : goal.returns-clause-kept
returns-clause-kept g c = λ k inside.
    let h = passes_key (g.L.TreeSource.forest c.args.source.now) c.args.found.now in
    let kept = item_views c.loop-item.kept in
    sym (c.loop-item.invariant.kept k inside
    ∙ ap (λ xs. kept ++ filter h (map item_view xs)) (drop_all c.loop-item.item-index c.args.items.now (omega arith))
    ∙ append-nil kept)
