-- The rows of one address, and the nodes that code reads of them.
use Rattle.std.proofs.Common.{◌≡◌, ◌≢◌, ◌+◌, ◌<◌, ◌≤◌, ◌^◌, ℕ, zero, suc, List, [], ◌∷◌, map, length, refl, sym, ap, ap₂, subst, ◌∙◌, arith}
use Rattle.std.specs.List.{AllByRecursion, enumerate_from}
use Rattle.std.specs.Str.{IsUtf8}
use Rattle.sqlite_value.specs.Order.{Row, column}
use Rattle.sqlite_value.specs.declared.value.Value.{Value}
use Rattle.sqlite_value.specs.declared.value.Value.TheVariants.{Null}
use Rattle.xq_trees.specs.Forest.{Forest, end, node, count, labels, EachNode, IsWithinHeight}
use Rattle.xq_trees.specs.Tree.{Label, Tree, IsDocument, IsText, nodes}
use Rattle.xq_trees.specs.Rows.{Row as Node, rows as rows_of, measured, row_of, placed, placed_rows, AreNumbered, Encodes, IsEncoding}
use Rattle.xq_trees.specs.Nesting.{count-measured}
use Rattle.xq_trees.proofs.Injective.{rows-injective}
use Rattle.xq_trees.specs.declared.NodeRow.{NodeRow}
use Rattle.xq_trees.specs.declared.Kind.TheVariants.{Document}
use Rattle.xq_tables.specs.Nodes.{cells, node_in, number_in}
use Rattle.xq_tables.specs.private.Columns.{IsReadable}
use Rattle.xq_tables.specs.private.Adopt.{IsRun}
use Rattle.xq_trees.proofs.Lists.{all_append}
use Rattle.xq_tables.proofs.Calls.{encoded}
use Rattle.xq_tables.proofs.Loads.{length-labels}
use Rattle.xq_tables.proofs.Maps.{node_back}

-- nodes that were read and are those of a document
pub encoded_run : (list : List NodeRow) (t : Tree) → Encodes list t → t.root.kind ≡ Document → IsRun (map cells (map placed list))
encoded_run list t it root = (t, record { is_tree = it.is_tree; root = root }, ap (map cells) (encoded list t it))

abbrev place_in : Row → ℕ × Node
place_in r = (number_in (column r 0), node_in r)

places_back : (list : List (ℕ × Node)) → map place_in (map cells list) ≡ list
places_back [] = refl
places_back (p ∷ list) = ap₂ ◌∷◌ (ap (λ (n : Node). (p.0, n)) (node_back p)) (places_back list)

numbered_as : (n : ℕ) (list : List NodeRow) (xs : List Node) → map placed list ≡ enumerate_from n xs → AreNumbered n list × (map row_of list ≡ xs)
numbered_as n [] [] h = (tt, refl)
numbered_as n [] (x ∷ xs) h = absurd cc
numbered_as n (r ∷ list) [] h = absurd cc
numbered_as n (r ∷ list) (x ∷ xs) h =
    let head : placed r ≡ (n, x) = cc in
    let tail : map placed list ≡ enumerate_from (n + 1) xs = cc in
    let next : n + 1 ≡ suc n = omega arith in
    let more = numbered_as (n + 1) list xs tail in
    ((ap (λ (p : ℕ × Node). p.0) head, subst (λ m. AreNumbered m list) next more.0), ap₂ ◌∷◌ (ap (λ (p : ℕ × Node). p.1) head) more.1)

run_encodes : (list : List NodeRow) (t : Tree) → IsDocument t → map cells (map placed list) ≡ map cells (placed_rows t) → Encodes list t
run_encodes list t is h =
    let same : map placed list ≡ placed_rows t = sym (places_back (map placed list)) ∙ ap (map place_in) h ∙ places_back (placed_rows t) in
    let it = numbered_as 0 list (rows_of t) same in record { is_tree = is.is_tree; rows = it.1; numbered = it.0 }

-- rows that are those of no tree
pub no_tree : (list : List NodeRow) → ¬ IsEncoding list → ¬ IsRun (map cells (map placed list))
no_tree list none run = none (run.0, run_encodes list run.0 run.1 run.2)

-- rows that are those of a tree that is no document
pub no_document : (list : List NodeRow) (t : Tree) → Encodes list t → ¬ (t.root.kind ≡ Document) → ¬ IsRun (map cells (map placed list))
no_document list t it other run =
    let same : t ≡ run.0 = rows-injective t run.0 (sym it.rows ∙ (run_encodes list run.0 run.1 run.2).rows) in
    other (ap (λ (u : Tree). u.root.kind) same ∙ run.1.root)

-- # Each row of a document can be read

abbrev IsFit : Node → Type 0
IsFit r = (r.size < 2 ^ 32) × (r.level < 2 ^ 32) × IsUtf8 r.label.name × IsUtf8 r.label.value

small : (n : ℕ) → n ≤ 1000000 → n < 2 ^ 32
small n h = omega (arith, h)

rows_fit : (h level : ℕ) (f : Forest Label) → EachNode (λ a below. IsText a) f → IsWithinHeight h f → count f ≤ 1000000 → level + h ≤ 1000 → AllByRecursion IsFit (labels (measured level f))
rows_fit h level end texts high room low = tt
rows_fit zero level (node a below beside) texts high room low = absurd high
rows_fit (suc h) level (node a below beside) texts high room low = (
  (small (count below) (omega (arith, room)), small level (omega (arith, low)), texts.0.0, texts.0.1),
  all_append IsFit _ _ (rows_fit h (suc level) below texts.1.0 high.0 (omega (arith, room)) (omega (arith, low))) (rows_fit (suc h) level beside texts.1.1 high.1 (omega (arith, room)) low),
)

all_readable : (k : ℕ) (list : List Node) → AllByRecursion IsFit list → k + length list ≤ 1000000 → AllByRecursion IsReadable (map cells (enumerate_from k list))
all_readable k [] fit h = tt
all_readable k (n ∷ ns) fit h = (((k, n), refl, small k (omega (arith, h)), fit.0.0, fit.0.1, fit.0.2, fit.0.3), all_readable (k + 1) ns fit.1 (omega (arith, h)))

pub run_readable : (list : List Row) → IsRun list → AllByRecursion IsReadable list
run_readable list run =
    let t = run.0 in
    let tree = run.1.is_tree in
    let size : length (rows_of t) ≡ count (nodes t) = length-labels (measured 0 (nodes t)) ∙ count-measured 0 (nodes t) in
    let room = tree.room in
    let fit = rows_fit 101 0 (nodes t) tree.texts tree.height room (omega arith) in
    subst (AllByRecursion IsReadable) (sym run.2) (all_readable 0 (rows_of t) fit (omega (arith, size, room)))

-- a column that holds a value is there
pub column_there : (row : Row) (at : ℕ) (v : Value) → v ≢ Null → column row at ≡ v → at < length row
column_there [] at v some h = absurd (some (sym h))
column_there (x ∷ row) zero v some h = omega arith
column_there (x ∷ row) (suc at) v some h = let more = column_there row at v some h in omega (arith, more)
