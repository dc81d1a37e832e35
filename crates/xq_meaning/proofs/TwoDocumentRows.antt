-- Rows over two documents: an empty one at the address a, and the library at the address b.
use Rattle.std.specs.Prelude.{◌≡◌, refl, [], ◌∷◌, Ok, Err, codes}
use Rattle.std.specs.Fmt.{digits}
use Rattle.std.specs.Str.{chars}
use Rattle.xq_atoms.specs.Characters.{is_name_start, is_name_char}
use Rattle.xq_atoms.specs.declared.refusals.Code.TheVariants.{FODC0002}
use Rattle.xq_expressions.specs.declared.operators.ComparisonOperator.TheVariants.{Node}
use Rattle.xq_expressions.specs.declared.operators.NodeComparison.TheVariants.{Is, Precedes}
use Rattle.xq_expressions.specs.declared.operators.AxisName.TheVariants as axis
use Rattle.xq_expressions.specs.declared.operators.NodeTest.TheVariants as written
use Rattle.xq_meaning.proofs.Writing.{num, txt, var, seq, none, call, compare, union, path, primary, filtered, along, bare_step, child, element, flwor, let_be, slash, below}
use Rattle.xq_meaning.proofs.Library.{answer_of_two}

-- count(collection()), collection()[1], collection()[2] is doc("b")
collection_in_order : answer_of_two (seq (call "count" (call "collection" [] ∷ []) ∷ path (filtered
    (call "collection" []) (num 1 ∷ [])) [] ∷ compare (Node Is) (path (filtered (call "collection"
    []) (num 2 ∷ [])) []) (call "doc" (txt "b" ∷ [])) ∷ [])) ≡ Ok (codes "2, document {}, true()")
unfolding digits chars
collection_in_order = refl

-- doc("a") << doc("b"), (doc("b") | doc("a"))[1] is doc("a")
documents_by_address : answer_of_two (seq (compare (Node Precedes) (call "doc" (txt "a" ∷ []))
    (call "doc" (txt "b" ∷ [])) ∷ compare (Node Is) (path (filtered (union (call "doc" (txt "b" ∷
    []) ∷ call "doc" (txt "a" ∷ []) ∷ [])) (num 1 ∷ [])) []) (call "doc" (txt "a" ∷ [])) ∷ [])) ≡
    Ok (codes "true(), true()")
unfolding digits chars
documents_by_address = refl

-- count(doc("a")/following::node()), count(doc("b")/preceding::node()), count(doc("a")//node())
axes_stay_in_a_tree : answer_of_two (seq (call "count" (path (primary (call "doc" (txt "a" ∷ [])))
    (slash (along axis.Following written.Node []) ∷ []) ∷ []) ∷ call "count" (path (primary (call
    "doc" (txt "b" ∷ []))) (slash (along axis.Preceding written.Node []) ∷ []) ∷ []) ∷ call "count"
    (path (primary (call "doc" (txt "a" ∷ []))) (below (bare_step written.Node []) ∷ []) ∷ []) ∷
    [])) ≡ Ok (codes "0, 0, 0")
unfolding digits chars
axes_stay_in_a_tree = refl

-- let $e := element e {} return (doc("b") << $e, ($e | doc("b") | doc("a"))[3] is $e)
new_trees_come_last : answer_of_two (flwor (let_be "e" (element "e" none) ∷ []) (seq (compare (Node
    Precedes) (call "doc" (txt "b" ∷ [])) (var "e") ∷ compare (Node Is) (path (filtered (union (var
    "e" ∷ call "doc" (txt "b" ∷ []) ∷ call "doc" (txt "a" ∷ []) ∷ [])) (num 3 ∷ [])) []) (var "e")
    ∷ []))) ≡ Ok (codes "true(), true()")
unfolding digits chars is_name_start is_name_char
new_trees_come_last = refl

-- count((doc("a"), doc("b")//book)/root()), (doc("b")//book, doc("a"))/name()
nodes_of_two_trees : answer_of_two (seq (call "count" (path (primary (seq (call "doc" (txt "a" ∷
    []) ∷ path (primary (call "doc" (txt "b" ∷ []))) (below (child "book") ∷ []) ∷ []))) (slash
    (primary (call "root" [])) ∷ []) ∷ []) ∷ path (primary (seq (path (primary (call "doc" (txt "b"
    ∷ []))) (below (child "book") ∷ []) ∷ call "doc" (txt "a" ∷ []) ∷ []))) (slash (primary (call
    "name" [])) ∷ []) ∷ [])) ≡ Ok (codes "2, \"book\", \"book\", \"\"")
unfolding digits chars
nodes_of_two_trees = refl

-- doc("c")
absent_of_two : answer_of_two (call "doc" (txt "c" ∷ [])) ≡ Err FODC0002
unfolding digits chars
absent_of_two = refl
