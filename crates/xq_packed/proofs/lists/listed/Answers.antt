use Rattle.std.proofs.Common.{◌≡◌, ◌<◌, ◌+◌, ◌++◌, List, [], ◌∷◌, map, length, ap, ◌∙◌, subst, sym, arith}
use Rattle.std.proofs.lemmas.List.{length_push}
use Rattle.xq_trees.specs.Rows.{row_of, row_at, AreNumbered}
use Rattle.xq_trees.specs.declared.NodeRow.{NodeRow}
use Rattle.xq_packed.proofs.Trees.{listed-more, numbered-more}
use Rattle.xq_packed.proofs.lists.listed.Goals as goal

pub loop-at-preserved : goal.loop-at-preserved
loop-at-preserved c =
    let xs = c.loop-at.list.items in
    let x = c.in_ok-listed_row.field-0 in
    let rs = c.args.rows.now.rows in
    let at = c.loop-at.at in
    let i = c.loop-at.invariant in
    let inside : at < length rs = omega (arith, c.loop-at-test.true, c.len-at-end.ensures.rows) in
    let more : c.push.new.self.items ≡ xs ++ x ∷ [] = c.in_ok-push.ensures.items in
    let here : row_of x ≡ row_at rs at = c.in_ok-listed_row.ensures.row ∙ c.new.ensures.row in
    record {
      rows = ap (map row_of) more ∙ listed-more xs x rs at inside i.rows here;
      places = subst (AreNumbered 0) (sym more) (numbered-more xs x at i.long c.in_ok-listed_row.ensures.place i.places);
      long = ap (λ (l : List NodeRow). length l) more ∙ length_push xs x ∙ ap (λ n. n + 1) i.long;
    }
