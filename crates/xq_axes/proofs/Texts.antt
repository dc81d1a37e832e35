-- Joining the texts of rows in turn.
use Rattle.std.proofs.Common.{◌≡◌, ℕ, ◌+◌, ◌<◌, ◌≤◌, List, [], ◌∷◌, ◌++◌, length, refl, sym, ◌∙◌, ap, arith}
use Rattle.std.specs.Prelude.{slice_get, Some}
use Rattle.std.proofs.lemmas.List.{append-nil, flat_map_more}
use Rattle.std.proofs.lemmas.Option.{slice_get_within, get_or_from_slice_get}
use Rattle.xq_sources.specs.declared.lent.LentRow.{LentRow}
use Rattle.xq_trees.specs.declared.Kind.{Kind}
use Rattle.xq_trees.specs.declared.Kind.TheVariants.{Document, Element, Attribute, Text, Comment, ProcessingInstruction}
use Rattle.xq_trees.specs.Forest.{count}
use Rattle.xq_trees.specs.Node.{below_at}
use Rattle.xq_trees.specs.Order.{path_at}
use Rattle.xq_trees.specs.Tree.{Tree, nodes}
use Rattle.xq_trees.specs.Rows.{Row, no_row, row_at, rows}
use Rattle.xq_trees.specs.Value.{text_of, texts}
use Rattle.xq_trees.proofs.Encoding.{length-rows}
use Rattle.xq_trees.specs.declared.items.Node.{Node as Spot}
use Rattle.xq_sources.specs.Lenders.{IsRun}
use Rattle.xq_sources.specs.Lent.{placed_lent}
use Rattle.xq_sources.specs.Sources.{tree_at, rows_between, HasTree, HasNode}
use Rattle.xq_axes.specs.Reads.{Span, span, span_end, IsRowIn, AreRowsIn, rows_to, joined_texts}
use Rattle.xq_axes.proofs.Runs.{row_in_turn, run_in_turn, rows_to-more, one_on}
use Rattle.xq_axes.proofs.Below.{joined_texts-measured}
use Rattle.xq_axes.proofs.Sizes.{rows_to-none, rows_below}

pub no_text : (kind : Kind) (value : List ℕ) → (kind ≡ Text → ⊥) → text_of kind value ≡ []
no_text Document value h = refl
no_text Element value h = refl
no_text Attribute value h = refl
no_text Text value h = absurd (h refl)
no_text Comment value h = refl
no_text ProcessingInstruction value h = refl

pub texts_more : (t : Tree) (s : Span) (n : ℕ) (x : LentRow) (old new : List ℕ) → IsRowIn t s n (placed_lent x) → old ≡ joined_texts (rows_to (rows t) s.low n) → new ≡ old ++ text_of x.kind x.texts.value
    → (n + 1 + 0 ≤ span_end t s) × (new ≡ joined_texts (rows_to (rows t) s.low (n + 1 + 0)))
texts_more t s n x old new r e a =
    let f = λ (r : Row). text_of r.label.kind r.label.value in
    let m = rows_to-more (rows t) s.low n r.from (omega (arith, r.is_there, length-rows t)) in
    one_on t s n (placed_lent x) (λ k. new ≡ joined_texts (rows_to (rows t) s.low k)) r
    (a ∙ ap (λ l. l ++ text_of x.kind x.texts.value) e
    ∙ ap (λ (y : Row). joined_texts (rows_to (rows t) s.low n) ++ f y) r.row
    ∙ flat_map_more f [] (rows_to (rows t) s.low n) (row_at (rows t) n)
    ∙ sym (ap joined_texts m))

-- # A text that is all there is below a node

-- a row of a run
pub row_of_run : (t : Tree) (s : Span) (v : ℕ) (run : List (ℕ × Row)) (i : ℕ) (x : LentRow) → AreRowsIn t s v run → Some (placed_lent x) ≡ slice_get run i → IsRowIn t s (v + i) (placed_lent x)
row_of_run t s v run i x are e =
    row_in_turn t s v run i (placed_lent x) are (slice_get_within run i (placed_lent x) (sym e)) (sym (get_or_from_slice_get run i (placed_lent x) (0, no_row) (sym e)))

pub text_of_lone : (t : Tree) (s : Span) (v : ℕ) (run : List (ℕ × Row)) (x y : LentRow) → AreRowsIn t s v run → Some (placed_lent x) ≡ slice_get run 0 → Some (placed_lent y) ≡ slice_get run 1 → x.size ≡ 1 → y.kind ≡ Text
    → y.texts.value ≡ texts (below_at (nodes t) (path_at (nodes t) v))
text_of_lone t s v run x y are first next size kind =
    let node = row_of_run t s v run 0 x are first in
    let below = row_of_run t s v run 1 y are next in
    let z : v + 0 ≡ v = omega arith in
    let there : v < count (nodes t) = (let h = node.is_there in omega (arith, h)) in
    let within : v + 1 < length (rows t) = (let h = below.is_there in omega (arith, h, length-rows t)) in
    let one : 1 ≡ (row_at (rows t) v).size = sym size ∙ ap (λ (r : Row). r.size) (node.row ∙ ap (row_at (rows t)) z) in
    let value : y.texts.value ≡ joined_texts (row_at (rows t) (v + 1) ∷ []) =
    ap (λ k. text_of k y.texts.value) (sym kind) ∙ sym (append-nil (text_of y.kind y.texts.value)) ∙ ap (λ (r : Row). joined_texts (r ∷ [])) below.row in
    value
    ∙ ap joined_texts (ap (λ rs. rs ++ row_at (rows t) (v + 1) ∷ []) (sym (rows_to-none t (v + 1))) ∙ sym (rows_to-more (rows t) (v + 1) (v + 1) (omega arith) within) ∙ rows_below t v 1 there one)
    ∙ joined_texts-measured (length (path_at (nodes t) v)) (below_at (nodes t) (path_at (nodes t) v))

-- # The first row of a run

pub first_of_run : (trees : List Tree) (node : Spot) (high : ℕ) (run : List (ℕ × Row)) (x : LentRow) → HasTree trees node.tree → IsRun (rows_between (tree_at trees node.tree) node.pre high) run → Some (placed_lent x) ≡ slice_get run 0
    → HasNode trees node.tree node.pre × (placed_lent x ≡ (node.pre, row_at (rows (tree_at trees node.tree)) node.pre))
first_of_run trees node high run x tree is e =
    let t = tree_at trees node.tree in
    let s = span node.pre high in
    let r = row_of_run t s node.pre run 0 x (run_in_turn t s node.pre run (omega arith) is) e in
    let z : node.pre + 0 ≡ node.pre = omega arith in
    let there = r.is_there in (
      record { tree_in = tree; node_in = omega (arith, there) },
      (λ i. (r.place i, r.row i)) ∙ ap (λ (k : ℕ). (k, row_at (rows t) k)) z,
    )
