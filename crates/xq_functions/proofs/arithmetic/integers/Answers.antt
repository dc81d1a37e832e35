use Rattle.std.proofs.Common.{◌≡◌, suc, ◌+◌, ◌++◌, ◌∷◌, ◌≤◌, ◌+ℤ◌, map, to_z, of_z, w64, pos, [], Ok, ap, sym, ◌∙◌, arith, rules}
use Rattle.std.proofs.lemmas.Int.{ints}
use Rattle.std.proofs.lemmas.List.{map_push}
use Rattle.xq_atoms.specs.Atom.{Integer}
use Rattle.xq_atoms.specs.declared.atoms.Atom.TheVariants.{Int}
use Rattle.xq_trees.specs.declared.items.Item.TheVariants.{Atom as AtomItem}
use Rattle.xq_trees.specs.Items.{Value, item_view}
use Rattle.xq_meaning.specs.Readings.{item_at, items_at}
use Rattle.xq_meaning.specs.Items.{Atom}
use Rattle.xq_meaning.specs.Operators.{integers_from, how_many}
use Rattle.xq_functions.proofs.NumberLemmas.{integers_from-push, integers-within}
use Rattle.xq_functions.proofs.arithmetic.integers.Goals as goal

pub overflow_add-first : goal.overflow_add-first
overflow_add-first c =
    let last = c.how_many-count.ensures.last c.loop-index.index (omega arith) in
    search (rules, last, ints)

pub loop-index-preserved : goal.loop-index-preserved
loop-index-preserved c trees =
    let first = to_z w64 (of_z w64 c.args.first) in
    let index = c.loop-index.index in
    let items = c.loop-index.items.items in
    let pushed = to_z w64 (of_z w64 (first +ℤ to_z w64 index)) in
    let last = c.how_many-count.ensures.last index (omega arith) in
    let value : pushed ≡ first +ℤ pos index = search (rules, last, ints) in
    ap (λ xs. items_at trees (map item_view xs)) c.in_ok-push.ensures.items
    ∙ ap (items_at trees) (map_push item_view items (AtomItem (Int pushed))) ∙ map_push (item_at trees) (map item_view items) (Value (Integer pushed))
    ∙ ap (λ xs. xs ++ Atom (Integer pushed) ∷ []) (c.loop-index.invariant trees) ∙ ap (λ n. integers_from first index ++ Atom (Integer n) ∷ []) value
    ∙ sym (integers_from-push first index) ∙ ap (integers_from first) (let e : suc index ≡ index + 1 = omega arith in e)

pub returns : goal.returns
returns c trees =
    let first = to_z w64 (of_z w64 c.args.first) in
    let all : c.loop-index.index ≡ c.how_many-count.result = omega arith in
    let same : c.args.first ≡ first = search rules in
    let count : c.how_many-count.result ≡ how_many c.args.first c.args.last = search (rules, c.how_many-count.ensures.count) in
    let few : how_many c.args.first c.args.last ≤ 1000000 = omega (arith, count, c.if-count-gt-MAX_RANGE.false) in
    integers-within c.args.first c.args.last few ∙ ap Ok (ap (integers_from c.args.first) (sym (all ∙ count)) ∙ ap (λ m. integers_from m c.loop-index.index) same ∙ sym (c.loop-index.invariant trees))
