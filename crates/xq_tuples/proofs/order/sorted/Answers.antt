use Rattle.std.proofs.Common.{◌≡◌, ℕ, ◌+◌, ◌∷◌, map, length, ap, sym, subst, ◌∙◌, arith, slice_index_or}
use Rattle.std.specs.Prelude.{IfOk, IfSome}
use Rattle.std.specs.List.{AllByRecursion, enumerate_from, range_with_len}
use Rattle.std.specs.declared.cmp.Ordering.{Ordering}
use Rattle.std.proofs.lemmas.List.{length-map}
use Rattle.xq_atoms.specs.Compare.{Key, key_of, Nothing}
use Rattle.xq_trees.specs.Tuples.{sorted}
use Rattle.xq_tuples.specs.declared.rows.Ranked.{Ranked}
use Rattle.xq_tuples.specs.private.Groups.{compared_of}
use Rattle.xq_tuples.specs.private.Ranks.{by_keys_at, by_numbers, first_of}
use Rattle.xq_tuples.proofs.Lists.{map-map, numbers_in}
use Rattle.xq_tuples.proofs.Sorting.{sorted-map}
use Rattle.xq_tuples.proofs.Ranking.{IsFirst, by_numbers-is, sorted_same, each_first}
use Rattle.xq_tuples.proofs.order.sorted.Goals as goal

pub returns-in_ok-sort_ranked-in-Some-2-clause-numbers : goal.returns-in_ok-sort_ranked-in-Some-2-clause-numbers
returns-in_ok-sort_ranked-in-Some-2-clause-numbers c =
    let spec = c.in-Some.spec.now in
    let later = c.in-Some.later.now in
    let column = c.in-Some-split_first.column.now in
    let others = c.in-Some-split_first.others.now in
    let columns = column ∷ others in
    let rows = c.in-Some-2.found.items in
    let keys = compared_of column in
    let told = subst (λ found. IfSome found (λ rows. map first_of rows.items ≡ enumerate_from 0 (map key_of c.deref.result.now))) c.in-Some-2.is c.in_ok-found.ensures.rows in
    let are : map first_of rows ≡ enumerate_from 0 keys = told ∙ ap (λ l. enumerate_from 0 (map key_of l)) c.deref.ensures.value in
    let long : length keys ≡ c.args.count = omega (arith, length-map column.items key_of, c.if-len-count.false, c.len.ensures, column.ok.0) in
    let first : AllByRecursion (IsFirst column) rows = each_first column rows keys 0 (λ i l. (let z : 0 + i ≡ i = omega arith in ap (λ k. slice_index_or keys k Nothing) z)) are in
    let number : Ranked → ℕ = λ row. row.number in
    let cmp : Ranked → Ranked → Ordering = by_numbers spec later others in
    let meant : Ranked → Ranked → Ordering = λ a b. by_keys_at (spec ∷ later) columns a.number b.number in
    let same = sorted_same (IsFirst column) cmp meant (λ a b p q. by_numbers-is spec later column others a b p q) rows first in
    let all : map number rows ≡ range_with_len 0 c.args.count =
    sym (map-map (λ (p : ℕ × Key). p.0) first_of rows) ∙ ap (map (λ (p : ℕ × Key). p.0)) are ∙ numbers_in 0 keys ∙ ap (range_with_len 0) long in
    let whole : sorted (by_keys_at c.args.specs.now c.args.columns.now) (range_with_len 0 c.args.count) ≡ sorted (by_keys_at (spec ∷ later) columns) (range_with_len 0 c.args.count) =
    λ t. sorted (by_keys_at (c.in-Some.ensures.cases.0 t) (c.in-Some-split_first.ensures.cases.0 t)) (range_with_len 0 c.args.count) in
    let numbers = ap (map number) (c.deref-in-Some-2.ensures.value ∙ c.in_ok-sort_ranked-in-Some-2.ensures.rows ∙ same) ∙ sorted-map (by_keys_at (spec ∷ later) columns) number rows ∙ ap (sorted (by_keys_at (spec ∷ later) columns)) all ∙ sym whole in
    subst (λ l. IfOk c.numbers_of.result (λ made. made.items ≡ l)) numbers c.numbers_of.ensures.numbers
