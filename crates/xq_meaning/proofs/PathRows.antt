-- Rows of steps, predicates and paths.
use Rattle.std.specs.Prelude.{◌≡◌, refl, [], ◌∷◌, Some, None, Ok, Err, codes}
use Rattle.std.specs.Fmt.{digits}
use Rattle.std.specs.Str.{chars}
use Rattle.xq_atoms.specs.Characters.{is_name_start, is_name_char}
use Rattle.xq_atoms.specs.declared.refusals.Code.TheVariants.{FORG0006, XPDY0002, XPTY0019}
use Rattle.xq_expressions.specs.declared.operators.Relation.TheVariants.{Equal, Less}
use Rattle.xq_expressions.specs.declared.operators.ComparisonOperator.TheVariants.{General}
use Rattle.xq_expressions.specs.declared.operators.AxisName.TheVariants as axis
use Rattle.xq_expressions.specs.declared.operators.NodeTest.TheVariants as written
use Rattle.xq_meaning.proofs.Writing.{num, dec, txt, var, dot, seq, none, call, product, to, compare, root, path, path_from_root, path_below_root, primary, filtered, named, along, bare_step, child, at_test, at, up, element, attribute, instruction, text, comment, flwor, let_be, bare, div_by, mod_by, slash, below}
use Rattle.xq_meaning.proofs.Library.{answer}

-- doc("b")/lib/child::book/@id
child_axis : answer (path (primary (call "doc" (txt "b" ∷ []))) (slash (child "lib") ∷ slash (along
    axis.Child (named "book") []) ∷ slash (at "id") ∷ [])) ≡ Ok (codes
    "attribute id {\"1\"}, attribute id {\"2\"}")
unfolding digits chars
child_axis = refl

-- doc("b")/descendant::text()
descendant_axis : answer (path (primary (call "doc" (txt "b" ∷ []))) (slash (along axis.Descendant
    written.Text []) ∷ [])) ≡ Ok (codes "text {\"A\"}, text {\"B\"}")
unfolding digits chars
descendant_axis = refl

-- count(doc("b")/descendant-or-self::node()), doc("b")//@id[1]/descendant-or-self::node()
descendant_or_self_axis : answer (seq (call "count" (path (primary (call "doc" (txt "b" ∷ [])))
    (slash (along axis.DescendantOrSelf written.Node []) ∷ []) ∷ []) ∷ path (primary (call "doc"
    (txt "b" ∷ []))) (below (at_test (named "id") (num 1 ∷ [])) ∷ slash (along
    axis.DescendantOrSelf written.Node []) ∷ []) ∷ [])) ≡ Ok (codes
    "6, attribute id {\"1\"}, attribute id {\"2\"}")
unfolding digits chars
descendant_or_self_axis = refl

-- doc("b")//@id/self::node()[. = "2"], doc("b")//book/self::lib
self_axis : answer (seq (path (primary (call "doc" (txt "b" ∷ []))) (below (at "id") ∷ slash (along
    axis.SelfNode written.Node (compare (General Equal) dot (txt "2") ∷ [])) ∷ []) ∷ path (primary
    (call "doc" (txt "b" ∷ []))) (below (child "book") ∷ slash (along axis.SelfNode (named "lib")
    []) ∷ []) ∷ [])) ≡ Ok (codes "attribute id {\"2\"}")
unfolding digits chars
self_axis = refl

-- doc("b")//book[2]/attribute::id, doc("b")//book[1]/attribute::*, doc("b")/lib/@*
attribute_axis : answer (seq (path (primary (call "doc" (txt "b" ∷ []))) (below (bare_step (named
    "book") (num 2 ∷ [])) ∷ slash (along axis.Attribute (named "id") []) ∷ []) ∷ path (primary
    (call "doc" (txt "b" ∷ []))) (below (bare_step (named "book") (num 1 ∷ [])) ∷ slash (along
    axis.Attribute written.AnyName []) ∷ []) ∷ path (primary (call "doc" (txt "b" ∷ []))) (slash
    (child "lib") ∷ slash (at_test written.AnyName []) ∷ []) ∷ [])) ≡ Ok (codes
    "attribute id {\"2\"}, attribute id {\"1\"}")
unfolding digits chars
attribute_axis = refl

-- doc("b")//text()/parent::book/@id, doc("b")/parent::node(), doc("b")//@id[. = "2"]/..
parent_axis : answer (seq (path (primary (call "doc" (txt "b" ∷ []))) (below (bare_step
    written.Text []) ∷ slash (along axis.Parent (named "book") []) ∷ slash (at "id") ∷ []) ∷ path
    (primary (call "doc" (txt "b" ∷ []))) (slash (along axis.Parent written.Node []) ∷ []) ∷ path
    (primary (call "doc" (txt "b" ∷ []))) (below (at_test (named "id") (compare (General Equal) dot
    (txt "2") ∷ [])) ∷ slash (up []) ∷ []) ∷ [])) ≡ Ok (codes
    "attribute id {\"1\"}, attribute id {\"2\"}, element book {attribute id {\"2\"}, text {\"B\"}}")
unfolding digits chars
parent_axis = refl

-- doc("b")//@id[. = "2"]/ancestor::*/name(), count(doc("b")//text()/ancestor::node())
ancestor_axis : answer (seq (path (primary (call "doc" (txt "b" ∷ []))) (below (at_test (named
    "id") (compare (General Equal) dot (txt "2") ∷ [])) ∷ slash (along axis.Ancestor
    written.AnyName []) ∷ slash (primary (call "name" [])) ∷ []) ∷ call "count" (path (primary
    (call "doc" (txt "b" ∷ []))) (below (bare_step written.Text []) ∷ slash (along axis.Ancestor
    written.Node []) ∷ []) ∷ []) ∷ [])) ≡ Ok (codes "\"lib\", \"book\", 4")
unfolding digits chars
ancestor_axis = refl

-- (doc("b")//text())[1]/ancestor-or-self::*[1]/@id, count(doc("b")//@id/ancestor-or-self::node())
ancestor_or_self_axis : answer (seq (path (filtered (path (primary (call "doc" (txt "b" ∷ [])))
    (below (bare_step written.Text []) ∷ [])) (num 1 ∷ [])) (slash (along axis.AncestorOrSelf
    written.AnyName (num 1 ∷ [])) ∷ slash (at "id") ∷ []) ∷ call "count" (path (primary (call "doc"
    (txt "b" ∷ []))) (below (at "id") ∷ slash (along axis.AncestorOrSelf written.Node []) ∷ []) ∷
    []) ∷ [])) ≡ Ok (codes "attribute id {\"1\"}, 6")
unfolding digits chars
ancestor_or_self_axis = refl

-- (doc("b")//book)[1]/following::node(), doc("b")//book[2]/@id/following::node(),
-- doc("b")/following::node()
following_axis : answer (seq (path (filtered (path (primary (call "doc" (txt "b" ∷ []))) (below
    (child "book") ∷ [])) (num 1 ∷ [])) (slash (along axis.Following written.Node []) ∷ []) ∷ path
    (primary (call "doc" (txt "b" ∷ []))) (below (bare_step (named "book") (num 2 ∷ [])) ∷ slash
    (at "id") ∷ slash (along axis.Following written.Node []) ∷ []) ∷ path (primary (call "doc" (txt
    "b" ∷ []))) (slash (along axis.Following written.Node []) ∷ []) ∷ [])) ≡ Ok (codes
    "element book {attribute id {\"2\"}, text {\"B\"}}, text {\"B\"}, text {\"B\"}")
unfolding digits chars
following_axis = refl

-- doc("b")//book/following-sibling::node()/@id, doc("b")//@id/following-sibling::node()
following_sibling_axis : answer (seq (path (primary (call "doc" (txt "b" ∷ []))) (below (child
    "book") ∷ slash (along axis.FollowingSibling written.Node []) ∷ slash (at "id") ∷ []) ∷ path
    (primary (call "doc" (txt "b" ∷ []))) (below (at "id") ∷ slash (along axis.FollowingSibling
    written.Node []) ∷ []) ∷ [])) ≡ Ok (codes "attribute id {\"2\"}")
unfolding digits chars
following_sibling_axis = refl

-- (doc("b")//text())[2]/preceding::node(), doc("b")/preceding::node()
preceding_axis : answer (seq (path (filtered (path (primary (call "doc" (txt "b" ∷ []))) (below
    (bare_step written.Text []) ∷ [])) (num 2 ∷ [])) (slash (along axis.Preceding written.Node [])
    ∷ []) ∷ path (primary (call "doc" (txt "b" ∷ []))) (slash (along axis.Preceding written.Node
    []) ∷ []) ∷ [])) ≡ Ok (codes "element book {attribute id {\"1\"}, text {\"A\"}}, text {\"A\"}")
unfolding digits chars
preceding_axis = refl

-- doc("b")//book/preceding-sibling::*/@id, doc("b")//@id/preceding-sibling::node()
preceding_sibling_axis : answer (seq (path (primary (call "doc" (txt "b" ∷ []))) (below (child
    "book") ∷ slash (along axis.PrecedingSibling written.AnyName []) ∷ slash (at "id") ∷ []) ∷ path
    (primary (call "doc" (txt "b" ∷ []))) (below (at "id") ∷ slash (along axis.PrecedingSibling
    written.Node []) ∷ []) ∷ [])) ≡ Ok (codes "attribute id {\"1\"}")
unfolding digits chars
preceding_sibling_axis = refl

-- (doc("b")//text())[2]/ancestor::node()[1]/@id, (doc("b")//text())[2]/preceding::node()[last()]
reverse_axes_count_back : answer (seq (path (filtered (path (primary (call "doc" (txt "b" ∷ [])))
    (below (bare_step written.Text []) ∷ [])) (num 2 ∷ [])) (slash (along axis.Ancestor
    written.Node (num 1 ∷ [])) ∷ slash (at "id") ∷ []) ∷ path (filtered (path (primary (call "doc"
    (txt "b" ∷ []))) (below (bare_step written.Text []) ∷ [])) (num 2 ∷ [])) (slash (along
    axis.Preceding written.Node (call "last" [] ∷ [])) ∷ []) ∷ [])) ≡ Ok (codes
    "attribute id {\"2\"}, element book {attribute id {\"1\"}, text {\"A\"}}")
unfolding digits chars
reverse_axes_count_back = refl

-- doc("b")//book[2]/@id/ancestor::*/name()
reverse_axes_give_document_order : answer (path (primary (call "doc" (txt "b" ∷ []))) (below
    (bare_step (named "book") (num 2 ∷ [])) ∷ slash (at "id") ∷ slash (along axis.Ancestor
    written.AnyName []) ∷ slash (primary (call "name" [])) ∷ [])) ≡ Ok (codes "\"lib\", \"book\"")
unfolding digits chars
reverse_axes_give_document_order = refl

-- let $e := element e {attribute a {1}, text {"t"}, comment {"c"}, processing-instruction p
-- {"q"}, element f {}} return ($e/text(), $e/comment(), $e/processing-instruction(),
-- $e/processing-instruction(q), $e/processing-instruction(p), $e/element(), $e/element(g),
-- $e/attribute(), $e/attribute::attribute(a), $e/node())
tests : answer (flwor (let_be "e" (element "e" (seq (attribute "a" (num 1) ∷ text (txt "t") ∷
    comment (txt "c") ∷ instruction "p" (txt "q") ∷ element "f" none ∷ []))) ∷ []) (seq (path
    (primary (var "e")) (slash (bare_step written.Text []) ∷ []) ∷ path (primary (var "e")) (slash
    (bare_step written.Comment []) ∷ []) ∷ path (primary (var "e")) (slash (bare_step
    (written.ProcessingInstruction None) []) ∷ []) ∷ path (primary (var "e")) (slash (bare_step
    (written.ProcessingInstruction (Some (codes "q"))) []) ∷ []) ∷ path (primary (var "e")) (slash
    (bare_step (written.ProcessingInstruction (Some (codes "p"))) []) ∷ []) ∷ path (primary (var
    "e")) (slash (bare_step (written.Element None) []) ∷ []) ∷ path (primary (var "e")) (slash
    (bare_step (written.Element (Some (bare "g"))) []) ∷ []) ∷ path (primary (var "e")) (slash
    (bare_step (written.Attribute None) []) ∷ []) ∷ path (primary (var "e")) (slash (along
    axis.Attribute (written.Attribute (Some (bare "a"))) []) ∷ []) ∷ path (primary (var "e"))
    (slash (bare_step written.Node []) ∷ []) ∷ []))) ≡ Ok (codes
    "text {\"t\"}, comment {\"c\"}, processing-instruction p {\"q\"}, processing-instruction p {\"q\"}, element f {}, attribute a {\"1\"}, attribute a {\"1\"}, text {\"t\"}, comment {\"c\"}, processing-instruction p {\"q\"}, element f {}")
unfolding digits chars is_name_start is_name_char
tests = refl

-- doc("b")//book[1]/node()/self::*, doc("b")//@id/self::*, doc("b")//@id/self::id,
-- doc("b")/*/name()
names_test_elements : answer (seq (path (primary (call "doc" (txt "b" ∷ []))) (below (bare_step
    (named "book") (num 1 ∷ [])) ∷ slash (bare_step written.Node []) ∷ slash (along axis.SelfNode
    written.AnyName []) ∷ []) ∷ path (primary (call "doc" (txt "b" ∷ []))) (below (at "id") ∷ slash
    (along axis.SelfNode written.AnyName []) ∷ []) ∷ path (primary (call "doc" (txt "b" ∷ [])))
    (below (at "id") ∷ slash (along axis.SelfNode (named "id") []) ∷ []) ∷ path (primary (call
    "doc" (txt "b" ∷ []))) (slash (bare_step written.AnyName []) ∷ slash (primary (call "name" []))
    ∷ []) ∷ [])) ≡ Ok (codes "\"lib\"")
unfolding digits chars
names_test_elements = refl

-- doc("b")/self::document-node(), doc("b")/lib/document-node()
document_tests : answer (seq (path (primary (call "doc" (txt "b" ∷ []))) (slash (along
    axis.SelfNode written.Document []) ∷ []) ∷ path (primary (call "doc" (txt "b" ∷ []))) (slash
    (child "lib") ∷ slash (bare_step written.Document []) ∷ []) ∷ [])) ≡ Ok (codes
    "document {element lib {element book {attribute id {\"1\"}, text {\"A\"}}, element book {attribute id {\"2\"}, text {\"B\"}}}}")
unfolding digits chars
document_tests = refl

-- count((doc("b")//text(), doc("b")//book)/ancestor::node())
each_node_once : answer (call "count" (path (primary (seq (path (primary (call "doc" (txt "b" ∷
    []))) (below (bare_step written.Text []) ∷ []) ∷ path (primary (call "doc" (txt "b" ∷ [])))
    (below (child "book") ∷ []) ∷ []))) (slash (along axis.Ancestor written.Node []) ∷ []) ∷ [])) ≡
    Ok (codes "4")
unfolding digits chars
each_node_once = refl

-- doc("b")//book/string(@id), doc("b")//book/position(), doc("b")//book/last()
path_of_atoms : answer (seq (path (primary (call "doc" (txt "b" ∷ []))) (below (child "book") ∷
    slash (primary (call "string" (path (at "id") [] ∷ []))) ∷ []) ∷ path (primary (call "doc" (txt
    "b" ∷ []))) (below (child "book") ∷ slash (primary (call "position" [])) ∷ []) ∷ path (primary
    (call "doc" (txt "b" ∷ []))) (below (child "book") ∷ slash (primary (call "last" [])) ∷ []) ∷
    [])) ≡ Ok (codes "\"1\", \"2\", 1, 2, 2, 2")
unfolding digits chars
path_of_atoms = refl

-- (doc("b")//book[2], doc("b")//book[1])/@id
path_in_document_order : answer (path (primary (seq (path (primary (call "doc" (txt "b" ∷ [])))
    (below (bare_step (named "book") (num 2 ∷ [])) ∷ []) ∷ path (primary (call "doc" (txt "b" ∷
    []))) (below (bare_step (named "book") (num 1 ∷ [])) ∷ []) ∷ []))) (slash (at "id") ∷ [])) ≡ Ok
    (codes "attribute id {\"1\"}, attribute id {\"2\"}")
unfolding digits chars
path_in_document_order = refl

-- ()/(1 div 0), ()/a
path_from_nothing : answer (seq (path (primary none) (slash (primary (product (num 1) (div_by (num
    0) ∷ []))) ∷ []) ∷ path (primary none) (slash (child "a") ∷ []) ∷ [])) ≡ Ok (codes "()")
unfolding digits chars
path_from_nothing = refl

-- (doc("b"), 1)/(1 div 0)
atoms_before_a_slash_go_first : answer (path (primary (seq (call "doc" (txt "b" ∷ []) ∷ num 1 ∷
    []))) (slash (primary (product (num 1) (div_by (num 0) ∷ []))) ∷ [])) ≡ Err XPTY0019
unfolding digits chars
atoms_before_a_slash_go_first = refl

-- doc("b")//book[1]/(/lib/book[2]), (doc("b")//text())[1]/(//book[1]/@id)
root_in_a_path : answer (seq (path (primary (call "doc" (txt "b" ∷ []))) (below (bare_step (named
    "book") (num 1 ∷ [])) ∷ slash (primary (path_from_root (child "lib") (slash (bare_step (named
    "book") (num 2 ∷ [])) ∷ []))) ∷ []) ∷ path (filtered (path (primary (call "doc" (txt "b" ∷
    []))) (below (bare_step written.Text []) ∷ [])) (num 1 ∷ [])) (slash (primary (path_below_root
    (bare_step (named "book") (num 1 ∷ [])) (slash (at "id") ∷ []))) ∷ []) ∷ [])) ≡ Ok (codes
    "element book {attribute id {\"2\"}, text {\"B\"}}, attribute id {\"1\"}")
unfolding digits chars
root_in_a_path = refl

-- /
root_without_a_focus : answer root ≡ Err XPDY0002
unfolding digits chars
root_without_a_focus = refl

-- a
step_without_a_focus : answer (path (child "a") []) ≡ Err XPDY0002
unfolding digits chars
step_without_a_focus = refl

-- //a
below_root_without_a_focus : answer (path_below_root (child "a") []) ≡ Err XPDY0002
unfolding digits chars
below_root_without_a_focus = refl

-- doc("b")//lib//text(), doc("b")//book//@id
double_slash : answer (seq (path (primary (call "doc" (txt "b" ∷ []))) (below (child "lib") ∷ below
    (bare_step written.Text []) ∷ []) ∷ path (primary (call "doc" (txt "b" ∷ []))) (below (child
    "book") ∷ below (at "id") ∷ []) ∷ [])) ≡ Ok (codes
    "text {\"A\"}, text {\"B\"}, attribute id {\"1\"}, attribute id {\"2\"}")
unfolding digits chars
double_slash = refl

-- doc("b")//book/attribute(id), doc("b")//attribute(x)
bare_attribute_test : answer (seq (path (primary (call "doc" (txt "b" ∷ []))) (below (child "book")
    ∷ slash (bare_step (written.Attribute (Some (bare "id"))) []) ∷ []) ∷ path (primary (call "doc"
    (txt "b" ∷ []))) (below (bare_step (written.Attribute (Some (bare "x"))) []) ∷ []) ∷ [])) ≡ Ok
    (codes "attribute id {\"1\"}, attribute id {\"2\"}")
unfolding digits chars
bare_attribute_test = refl

-- (1, 2)[. = 2], doc("b")//book/./@id
context_item : answer (seq (path (filtered (seq (num 1 ∷ num 2 ∷ [])) (compare (General Equal) dot
    (num 2) ∷ [])) [] ∷ path (primary (call "doc" (txt "b" ∷ []))) (below (child "book") ∷ slash
    (primary dot) ∷ slash (at "id") ∷ []) ∷ [])) ≡ Ok (codes
    "2, attribute id {\"1\"}, attribute id {\"2\"}")
unfolding digits chars
context_item = refl

-- (5, 6, 7)[2], (5, 6)[2.0], (5, 6)[1.5], (5, 6)[3], (5, 6)[last()], (5, 6)[position() = 1]
predicates_by_position : answer (seq (path (filtered (seq (num 5 ∷ num 6 ∷ num 7 ∷ [])) (num 2 ∷
    [])) [] ∷ path (filtered (seq (num 5 ∷ num 6 ∷ [])) (dec 2000000 ∷ [])) [] ∷ path (filtered
    (seq (num 5 ∷ num 6 ∷ [])) (dec 1500000 ∷ [])) [] ∷ path (filtered (seq (num 5 ∷ num 6 ∷ []))
    (num 3 ∷ [])) [] ∷ path (filtered (seq (num 5 ∷ num 6 ∷ [])) (call "last" [] ∷ [])) [] ∷ path
    (filtered (seq (num 5 ∷ num 6 ∷ [])) (compare (General Equal) (call "position" []) (num 1) ∷
    [])) [] ∷ [])) ≡ Ok (codes "6, 6, 6, 5")
unfolding digits chars
predicates_by_position = refl

-- (5, 6)["a"], (5, 6)[""], (5, 6)[()], (5, 6)[true()], doc("b")//book[@id = "2"]/@id
predicates_by_truth : answer (seq (path (filtered (seq (num 5 ∷ num 6 ∷ [])) (txt "a" ∷ [])) [] ∷
    path (filtered (seq (num 5 ∷ num 6 ∷ [])) (txt "" ∷ [])) [] ∷ path (filtered (seq (num 5 ∷ num
    6 ∷ [])) (none ∷ [])) [] ∷ path (filtered (seq (num 5 ∷ num 6 ∷ [])) (call "true" [] ∷ [])) []
    ∷ path (primary (call "doc" (txt "b" ∷ []))) (below (bare_step (named "book") (compare (General
    Equal) (path (at "id") []) (txt "2") ∷ [])) ∷ slash (at "id") ∷ []) ∷ [])) ≡ Ok (codes
    "5, 6, 5, 6, attribute id {\"2\"}")
unfolding digits chars
predicates_by_truth = refl

-- (1 to 6)[. mod 2 = 0][2], doc("b")//book[1][@id = "2"]
predicates_in_turn : answer (seq (path (filtered (to (num 1) (num 6)) (compare (General Equal)
    (product dot (mod_by (num 2) ∷ [])) (num 0) ∷ num 2 ∷ [])) [] ∷ path (primary (call "doc" (txt
    "b" ∷ []))) (below (bare_step (named "book") (num 1 ∷ compare (General Equal) (path (at "id")
    []) (txt "2") ∷ [])) ∷ []) ∷ [])) ≡ Ok (codes "4")
unfolding digits chars
predicates_in_turn = refl

-- (5, 6)[(1, 2)]
predicate_of_two_numbers : answer (path (filtered (seq (num 5 ∷ num 6 ∷ [])) (seq (num 1 ∷ num 2 ∷
    []) ∷ [])) []) ≡ Err FORG0006
unfolding digits chars
predicate_of_two_numbers = refl

-- (doc("b")//text())[2], doc("b")//book/text()[2]
predicate_after_a_path : answer (seq (path (filtered (path (primary (call "doc" (txt "b" ∷ [])))
    (below (bare_step written.Text []) ∷ [])) (num 2 ∷ [])) [] ∷ path (primary (call "doc" (txt "b"
    ∷ []))) (below (child "book") ∷ slash (bare_step written.Text (num 2 ∷ [])) ∷ []) ∷ [])) ≡ Ok
    (codes "text {\"B\"}")
unfolding digits chars
predicate_after_a_path = refl

-- let $x := 2 return (5, 6)[$x]
predicate_sees_the_variables : answer (flwor (let_be "x" (num 2) ∷ []) (path (filtered (seq (num 5
    ∷ num 6 ∷ [])) (var "x" ∷ [])) [])) ≡ Ok (codes "6")
unfolding digits chars
predicate_sees_the_variables = refl

-- ()[1 div 0]
predicate_on_nothing : answer (path (filtered none (product (num 1) (div_by (num 0) ∷ []) ∷ []))
    []) ≡ Ok (codes "()")
unfolding digits chars
predicate_on_nothing = refl

-- doc("b")//book/string(@id)/a
atoms_in_the_middle : answer (path (primary (call "doc" (txt "b" ∷ []))) (below (child "book") ∷
    slash (primary (call "string" (path (at "id") [] ∷ []))) ∷ slash (child "a") ∷ [])) ≡ Err
    XPTY0019
unfolding digits chars
atoms_in_the_middle = refl

-- (5, 6)[position() = last()], doc("b")//book[position() < last()]/@id
position_is_last : answer (seq (path (filtered (seq (num 5 ∷ num 6 ∷ [])) (compare (General Equal)
    (call "position" []) (call "last" []) ∷ [])) [] ∷ path (primary (call "doc" (txt "b" ∷ [])))
    (below (bare_step (named "book") (compare (General Less) (call "position" []) (call "last" [])
    ∷ [])) ∷ slash (at "id") ∷ []) ∷ [])) ≡ Ok (codes "6, attribute id {\"1\"}")
unfolding digits chars
position_is_last = refl

-- let $a := attribute a {1} return (count($a/..), count($a/following::node()),
-- count($a/preceding::node()), count($a/ancestor-or-self::node()))
axes_of_a_lone_attribute : answer (flwor (let_be "a" (attribute "a" (num 1)) ∷ []) (seq (call
    "count" (path (primary (var "a")) (slash (up []) ∷ []) ∷ []) ∷ call "count" (path (primary (var
    "a")) (slash (along axis.Following written.Node []) ∷ []) ∷ []) ∷ call "count" (path (primary
    (var "a")) (slash (along axis.Preceding written.Node []) ∷ []) ∷ []) ∷ call "count" (path
    (primary (var "a")) (slash (along axis.AncestorOrSelf written.Node []) ∷ []) ∷ []) ∷ []))) ≡ Ok
    (codes "0, 0, 0, 1")
unfolding digits chars is_name_start is_name_char
axes_of_a_lone_attribute = refl

-- doc("b")//book[2]/ancestor-or-self::*[2]/name(),
-- name(doc("b")//book[2]/text()/ancestor::*[last()])
predicates_on_reverse_axes : answer (seq (path (primary (call "doc" (txt "b" ∷ []))) (below
    (bare_step (named "book") (num 2 ∷ [])) ∷ slash (along axis.AncestorOrSelf written.AnyName (num
    2 ∷ [])) ∷ slash (primary (call "name" [])) ∷ []) ∷ call "name" (path (primary (call "doc" (txt
    "b" ∷ []))) (below (bare_step (named "book") (num 2 ∷ [])) ∷ slash (bare_step written.Text [])
    ∷ slash (along axis.Ancestor written.AnyName (call "last" [] ∷ [])) ∷ []) ∷ []) ∷ [])) ≡ Ok
    (codes "\"lib\", \"lib\"")
unfolding digits chars
predicates_on_reverse_axes = refl
