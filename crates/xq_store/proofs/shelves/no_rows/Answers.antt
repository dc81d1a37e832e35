use Rattle.std.proofs.Common.{◌≡◌, ◌+◌, [], ◌∷◌, List, length, length-append, sym, subst, arith}
use Rattle.std.specs.List.{AllByRecursion}
use Rattle.xq_trees.specs.Tree.{Tree}
use Rattle.xq_store.specs.declared.shelves.CachedDocument.{CachedDocument}
use Rattle.xq_store.specs.private.Shelves.{IsFrontOf}
use Rattle.xq_store.proofs.FrontLaws.{empty_fronts, all_pushed}
use Rattle.xq_store.proofs.shelves.no_rows.Goals as goal

pub loop-made-preserved : goal.loop-made-preserved
loop-made-preserved c =
    let so_far = c.loop-made.invariant in
    let pushed = c.in_ok-push.ensures.items in
    let more = length-append c.loop-made.fronts.items (c.new.result ∷ []) in
    record {
      count = subst (λ (xs : List CachedDocument). length xs ≡ c.loop-made.made + 1) (sym pushed) (omega (arith, more, so_far.count));
      none = subst (AllByRecursion (λ (v : CachedDocument). (t : Tree) → IsFrontOf t v)) (sym pushed)
          (all_pushed (λ (v : CachedDocument). (t : Tree) → IsFrontOf t v) c.loop-made.fronts.items c.new.result so_far.none c.new.ensures);
    }

pub returns : goal.returns
returns c = λ trees n.
    let so_far = c.loop-made.invariant in
    empty_fronts trees c.loop-made.fronts.items (omega (arith, n, so_far.count, c.loop-made-test.false, c.loop-made.auto.made-end)) so_far.none
