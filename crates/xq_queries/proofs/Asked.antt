-- What is read by a path from a document, and then by printing its value.
use Rattle.std.proofs.Common.{◌≡◌, ◌+◌, ◌*◌, ◌≤◌, List, [], ◌∷◌, ◌++◌, length, map, take, drop, None, Ok, sym, ap, subst, ◌∙◌, arith}
use Rattle.std.proofs.lemmas.List.{take-append-le, take-append-drop}
use Rattle.std.proofs.Math.Seq.{take-append_seam}
use Rattle.xq_atoms.specs.Text.{Text}
use Rattle.xq_trees.specs.Items.{item_view}
use Rattle.xq_trees.specs.Forest.{count}
use Rattle.xq_trees.specs.Tree.{Tree, nodes}
use Rattle.xq_trees.specs.declared.items.Item.{Item as Held}
use Rattle.xq_trees.specs.declared.items.Item.TheVariants.{Node as NodeItem}
use Rattle.xq_trees.specs.declared.items.Node.{Node as Spot}
use Rattle.xq_sources.specs.Meters.{Readings}
use Rattle.xq_meaning.specs.declared.plans.Plan.{Plan}
use Rattle.xq_meaning.specs.PlanMeaning.{plan_mean}
use Rattle.xq_meaning.specs.Items.{Item, tree_below}
use Rattle.xq_meaning.specs.Readings.{items_at, node_at, Extends}
use Rattle.xq_meaning.specs.Same.{frame_of}
use Rattle.xq_build.specs.Reads.{ReadsAtMost, ReadsItems}
use Rattle.xq_eval.specs.Reads.{ReadsItsDocument, rows_at}
use Rattle.xq_queries.specs.Reads.{ReadsAndCopies, ReadsAndPrints, rows_below_value, own_rows_of}
use Rattle.xq_queries.specs.private.Copying.{CopiesItems}
use Rattle.xq_queries.specs.Values.{plan_value, value_of}

-- where nothing is printed
pub only_scanned : (p : Plan) (addresses : List Text) (f : List Tree) (before after : Readings) → ReadsItsDocument p addresses f before after → ReadsAndPrints p addresses f before after
only_scanned p addresses f before after scanned = λ address steps path.
    (let s = scanned address steps path in record { rows = omega (arith, s.rows); singles = omega (arith, s.singles) })

-- where the items are printed that the plan gave
pub then_printed : (p : Plan) (addresses : List Text) (f f' : List Tree) (items slice : List Held) (before mid after : Readings) → slice ≡ items
    → plan_mean p (frame_of [] None addresses) f ≡ (Ok (items_at f' (map item_view items)), f')
    → ReadsItsDocument p addresses f before mid → ReadsItems f' (items_at f' (map item_view slice)) mid after
    → ReadsAndPrints p addresses f before after
then_printed p addresses f f' items slice before mid after lent is scanned printed = λ address steps path.
    (let s = scanned address steps path in
    let k = length steps * rows_at address addresses f in
    let v : plan_value p addresses f ≡ Ok (items_at f' (map item_view items), f') = ap value_of is in
    let all : ReadsItems f' (items_at f' (map item_view items)) mid after = subst (λ (xs : List Held). ReadsItems f' (items_at f' (map item_view xs)) mid after) lent printed in
    subst (λ w. ReadsAtMost before after (k + rows_below_value w) (k + own_rows_of w)) (sym v)
    (record { rows = omega (arith, s.rows, all.rows); singles = omega (arith, s.singles, all.singles) }))

-- # Copies

pub only_scanned_to_copy : (p : Plan) (addresses : List Text) (f : List Tree) (before after : Readings) → ReadsItsDocument p addresses f before after → ReadsAndCopies p addresses f before after
only_scanned_to_copy p addresses f before after scanned = λ address steps path.
    (let s = scanned address steps path in record { rows = omega (arith, s.rows); singles = omega (arith, s.singles) })

-- where the items are copied that the plan gave
then_copied : (p : Plan) (addresses : List Text) (f f' : List Tree) (items slice : List Held) (before mid after : Readings) → slice ≡ items
    → plan_mean p (frame_of [] None addresses) f ≡ (Ok (items_at f' (map item_view items)), f')
    → ReadsItsDocument p addresses f before mid → CopiesItems f' (items_at f' (map item_view slice)) mid after
    → ReadsAndCopies p addresses f before after
then_copied p addresses f f' items slice before mid after lent is scanned copied = λ address steps path.
    (let s = scanned address steps path in
    let k = length steps * rows_at address addresses f in
    let v : plan_value p addresses f ≡ Ok (items_at f' (map item_view items), f') = ap value_of is in
    let all : CopiesItems f' (items_at f' (map item_view items)) mid after = subst (λ (xs : List Held). CopiesItems f' (items_at f' (map item_view xs)) mid after) lent copied in
    subst (λ w. ReadsAtMost before after (k + (rows_below_value w + own_rows_of w)) (k + own_rows_of w)) (sym v)
    (record { rows = omega (arith, s.rows, all.rows); singles = omega (arith, s.singles, all.singles) }))

-- the same over trees and counts that are as they were
pub then_copied_over : (p : Plan) (addresses : List Text) (f f' g : List Tree) (items slice : List Held) (before mid again after : Readings) → g ≡ f' → again ≡ mid → slice ≡ items
    → plan_mean p (frame_of [] None addresses) f ≡ (Ok (items_at f' (map item_view items)), f')
    → ReadsItsDocument p addresses f before mid → CopiesItems g (items_at g (map item_view slice)) again after
    → ReadsAndCopies p addresses f before after
then_copied_over p addresses f f' g items slice before mid again after same met lent is scanned copied =
    then_copied p addresses f f' items slice before mid after lent is scanned
    (subst (λ (m : Readings). CopiesItems f' (items_at f' (map item_view slice)) m after) met
    (subst (λ (h : List Tree). CopiesItems h (items_at h (map item_view slice)) again after) same copied))

pub none_copied : (f : List Tree) (xs : List Item) (m : Readings) → CopiesItems f xs m m
none_copied f xs m = record { rows = omega arith; singles = omega arith }

-- one node, copied
pub one_copied : (f : List Tree) (items : List Held) (n m : Spot) (before after : Readings) → items ≡ NodeItem n ∷ []
    → after.rows ≤ before.rows + count (nodes (tree_below f (node_at f m))) → after.singles ≤ before.singles + 1 → m ≡ n
    → CopiesItems f (items_at f (map item_view items)) before after
one_copied f items n m before after is rows singles same =
    let r = subst (λ (k : Spot). after.rows ≤ before.rows + count (nodes (tree_below f (node_at f k)))) same rows in
    subst (λ (xs : List Held). CopiesItems f (items_at f (map item_view xs)) before after) (sym is)
    (record { rows = omega (arith, r); singles = omega (arith, singles) })

-- # A tree that is uprooted

-- trees that begin with so many others begin with them without the last, if that is none of these
pub without_last : (old mid new : List Tree) (t : Tree) → Extends old mid → length old ≤ length new → mid ≡ new ++ t ∷ [] → Extends old new
without_last old mid new t e long is = record {
  added = drop (length old) new;
  is = sym (take-append-drop (length old) new)
      ∙ ap (λ front. front ++ drop (length old) new)
      (sym (take-append-le (length old) new (t ∷ []) long) ∙ ap (take (length old)) (sym is ∙ e.is) ∙ take-append_seam old e.added);
}
