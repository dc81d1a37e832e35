-- The rows of a small document, and its axes.
use Rattle.std.proofs.Common.{◌≡◌, true, ℕ, List, [], ◌∷◌, ◌++◌, length, map, refl, arith}
use Rattle.std.specs.Prelude.{codes, encode_utf8_all}
use Rattle.std.specs.List.{IsDistinct}
use Rattle.std.specs.Str.{chars, IsUtf8, all_scalars}
use Rattle.std.specs.Char.{encode_utf8}
use Rattle.xq_atoms.specs.Characters.{is_char, is_name_start, is_name_char}
use Rattle.xq_trees.specs.Forest.{Forest, end, node, EachNode}
use Rattle.xq_trees.specs.Tree.{Label, Tree, IsText, IsTree, nodes}
use Rattle.xq_trees.specs.Node.{subtree}
use Rattle.xq_trees.proofs.Steps.{steps, attribute, child}
use Rattle.xq_trees.specs.Order.{place_of, path_at}
use Rattle.xq_trees.specs.Value.{string_value, typed_value, untyped}
use Rattle.xq_trees.specs.Print.{print}
use Rattle.xq_trees.specs.Rows.{Row, rows, tree_of, row_at}
use Rattle.xq_trees.specs.declared.Kind.{Kind}
use Rattle.xq_trees.specs.declared.Kind.TheVariants.{Document, Element, Attribute, Text}

abbrev pub label : Kind → List ℕ → List ℕ → Label
label kind name value = record { kind = kind; name = name; value = value }

abbrev pub book : List ℕ → List ℕ → Forest Label → Forest Label
book id text beside =
    node (label Element (codes "book") []) (node (label Attribute (codes "id") id) end (node (label Text [] text) end end)) beside

-- document {element lib {element book {attribute id {"1"}, text {"A"}}, element book {attribute id {"2"}, text {"B"}}}}
abbrev pub library : Tree
library = record {
  root = label Document [] [];
  below = node (label Element (codes "lib") []) (book (codes "1") (codes "A") (book (codes "2") (codes "B") end)) end;
}

sizes : map (λ (r : Row). r.size) (rows library) ≡ 7 ∷ 6 ∷ 2 ∷ 0 ∷ 0 ∷ 2 ∷ 0 ∷ 0 ∷ []
sizes = refl

levels : map (λ (r : Row). r.level) (rows library) ≡ 0 ∷ 1 ∷ 2 ∷ 3 ∷ 3 ∷ 2 ∷ 3 ∷ 3 ∷ []
levels = refl

back_again : tree_of (rows library) ≡ library
back_again = refl

utf8 : (text : List ℕ) → all_scalars text ≡ true → encode_utf8_all text ≡ text → IsUtf8 text
utf8 text h e = (text, (h, e))

texts_of_library : EachNode (λ (a : Label) (below : List Label). IsText a) (nodes library)
unfolding encode_utf8
texts_of_library =
    let none : IsUtf8 [] = utf8 [] refl refl in
    let id : IsUtf8 (codes "id") = utf8 (codes "id") refl refl in
    let book : IsUtf8 (codes "book") = utf8 (codes "book") refl refl in
    ((none, none), (((utf8 (codes "lib") refl refl, none), (((book, none), (((id, utf8 (codes "1") refl refl), (tt, ((none, utf8 (codes "A") refl refl), (tt, tt)))), ((book, none), (((id, utf8 (codes "2") refl refl), (tt, ((none, utf8 (codes "B") refl refl), (tt, tt)))), tt)))), tt)), tt))

is_tree : IsTree library
unfolding chars IsDistinct is_char is_name_start is_name_char
is_tree = record {
  texts = texts_of_library;
  legal = (refl, ((refl, ((refl, ((refl, (tt, (refl, (tt, tt)))), (refl, ((refl, (tt, (refl, (tt, tt)))), tt)))), tt)), tt));
  content = (refl, ((refl, ((refl, ((refl, (tt, (refl, (tt, tt)))), (refl, ((refl, (tt, (refl, (tt, tt)))), tt)))), tt)), tt));
  names = (tt, ((tt, (((tt, tt), ((tt, (tt, (tt, (tt, tt)))), ((tt, tt), ((tt, (tt, (tt, (tt, tt)))), tt)))), tt)), tt));
  height = omega arith;
  room = omega arith;
}

-- the nodes in document order: the root, the library, and each book with its attribute and its text
paths :
    map (path_at (nodes library)) (0 ∷ 1 ∷ 2 ∷ 3 ∷ 4 ∷ 5 ∷ 6 ∷ 7 ∷ [])
    ≡ (0 ∷ []) ∷ (0 ∷ 0 ∷ []) ∷ (0 ∷ 0 ∷ 0 ∷ []) ∷ (0 ∷ 0 ∷ 0 ∷ 0 ∷ []) ∷ (0 ∷ 0 ∷ 0 ∷ 1 ∷ []) ∷ (0 ∷ 0 ∷ 1 ∷ []) ∷ (0 ∷ 0 ∷ 1 ∷ 0 ∷ []) ∷ (0 ∷ 0 ∷ 1 ∷ 1 ∷ []) ∷ []
paths = refl

places : map (λ n. place_of (nodes library) (path_at (nodes library) n)) (0 ∷ 1 ∷ 2 ∷ 3 ∷ 4 ∷ 5 ∷ 6 ∷ 7 ∷ []) ≡ 0 ∷ 1 ∷ 2 ∷ 3 ∷ 4 ∷ 5 ∷ 6 ∷ 7 ∷ []
places = refl

-- the last two as steps from the root
steps_to_id : steps library (path_at (nodes library) 6) ≡ child 0 ∷ child 1 ∷ attribute 0 ∷ []
steps_to_id = refl

steps_to_text : steps library (path_at (nodes library) 7) ≡ child 0 ∷ child 1 ∷ child 0 ∷ []
steps_to_text = refl

value : (row_at (rows library) 7).label.value ≡ codes "B"
value = refl

-- the values of the document, of a text and of an attribute
joined : string_value library ≡ codes "AB"
joined = refl

typed_text : typed_value (subtree library (path_at (nodes library) 4)) ≡ untyped (codes "A")
typed_text = refl

typed_id : typed_value (subtree library (path_at (nodes library) 3)) ≡ untyped (codes "1")
typed_id = refl

printed : print library ≡ codes "document {element lib {element book {attribute id {\"1\"}, text {\"A\"}}, element book {attribute id {\"2\"}, text {\"B\"}}}}"
printed = refl

printed_length : length (print library) ≡ 117
printed_length = refl

-- a quote is doubled, `&` and a carriage return are written as references
printed_text : print (record { root = label Text [] (34 ∷ 38 ∷ 13 ∷ 10 ∷ []); below = end }) ≡ codes "text {\"\"\"&amp;&#xD;" ++ 10 ∷ codes "\"}"
printed_text = refl
