-- Worked rows of normal forms.
use Rattle.std.specs.Prelude.{◌≡◌, refl, [], ◌∷◌, Some, None, Ok, Err, codes}
use Rattle.std.specs.Fmt.{digits}
use Rattle.std.specs.Str.{chars}
use Rattle.xq_atoms.specs.Characters.{is_name_start, is_name_char}
use Rattle.xq_atoms.specs.declared.refusals.Code.TheVariants.{FOAR0001, ProfPrefix, XPDY0002, XPTY0004, XPTY0018, XPTY0019, XPTY0020, XQDY0041}
use Rattle.xq_expressions.specs.declared.operators.Sign.TheVariants.{Plus, Minus}
use Rattle.xq_expressions.specs.declared.operators.ProductOperator.TheVariants.{Times, Div, Mod}
use Rattle.xq_expressions.specs.declared.operators.SetOperator.TheVariants.{Except}
use Rattle.xq_expressions.specs.declared.operators.Relation.TheVariants.{Equal, LessEqual, Greater}
use Rattle.xq_expressions.specs.declared.operators.ComparisonOperator.TheVariants.{Value, General, Node}
use Rattle.xq_expressions.specs.declared.operators.NodeComparison.TheVariants.{Is, Precedes}
use Rattle.xq_expressions.specs.declared.operators.Quantifier.TheVariants as quantifier
use Rattle.xq_expressions.specs.declared.operators.NamedNode.TheVariants as named
use Rattle.xq_expressions.specs.declared.operators.UnnamedNode.TheVariants as unnamed
use Rattle.xq_trees.specs.declared.Axis.TheVariants as axis
use Rattle.xq_expressions.specs.declared.signatures.Function.TheVariants as f
use Rattle.xq_meaning.specs.declared.node_tests.Test.TheVariants as test
use Rattle.xq_meaning.specs.declared.operators.Operator.TheVariants as operator
use Rattle.xq_meaning.proofs.CoreWriting as c
use Rattle.xq_meaning.proofs.Writing.{ascending, descending, descending_greatest}
use Rattle.xq_meaning.proofs.Library.{answer}

-- doc("b")
document_b : answer (c.call f.Doc (c.txt "b" ∷ [])) ≡ Ok (codes
    "document {element lib {element book {attribute id {\"1\"}, text {\"A\"}}, element book {attribute id {\"2\"}, text {\"B\"}}}}")
unfolding digits chars
document_b = refl

-- doc("b")//book[1]
first_book : answer (c.path (c.call f.Doc (c.txt "b" ∷ [])) (c.step axis.DescendantOrSelf test.Any
    [] ∷ c.step axis.Child (test.Element (Some (codes "book"))) (c.num 1 ∷ []) ∷ [])) ≡ Ok (codes
    "element book {attribute id {\"1\"}, text {\"A\"}}")
unfolding digits chars
first_book = refl

-- doc("b")//book[2]/preceding-sibling::*[1]/@id
preceding_sibling : answer (c.path (c.call f.Doc (c.txt "b" ∷ [])) (c.step axis.DescendantOrSelf
    test.Any [] ∷ c.step axis.Child (test.Element (Some (codes "book"))) (c.num 2 ∷ []) ∷ c.step
    axis.PrecedingSibling (test.Element None) (c.num 1 ∷ []) ∷ c.step axis.Attributes
    (test.Attribute (Some (codes "id"))) [] ∷ [])) ≡ Ok (codes "attribute id {\"1\"}")
unfolding digits chars
preceding_sibling = refl

-- doc("b")//@id[. = "1"]/following::node()
following_of_an_attribute : answer (c.path (c.call f.Doc (c.txt "b" ∷ [])) (c.step
    axis.DescendantOrSelf test.Any [] ∷ c.step axis.Attributes (test.Attribute (Some (codes "id")))
    (c.chain c.dot (c.op (operator.Comparison (General Equal)) (c.txt "1") ∷ []) ∷ []) ∷ c.step
    axis.Following test.Any [] ∷ [])) ≡ Ok (codes
    "text {\"A\"}, element book {attribute id {\"2\"}, text {\"B\"}}, text {\"B\"}")
unfolding digits chars
following_of_an_attribute = refl

-- ("a", 1) = 1
first_pair_is_refused : answer (c.chain (c.seq (c.txt "a" ∷ c.num 1 ∷ [])) (c.op
    (operator.Comparison (General Equal)) (c.num 1) ∷ [])) ≡ Err XPTY0004
unfolding digits chars
first_pair_is_refused = refl

-- for $x in (1, 1.0, "1") let $y := $x group by $x return count($y)
group_by_value : answer (c.flwor (c.for_in "x" (c.seq (c.num 1 ∷ c.dec 1000000 ∷ c.txt "1" ∷ [])) ∷
    c.let_be "y" (c.var "x") ∷ c.group_by (codes "x" ∷ []) ∷ []) (c.call f.Count (c.var "y" ∷ [])))
    ≡ Ok (codes "2, 1")
unfolding digits chars
group_by_value = refl

-- for $b in doc("b")//book group by $k := string-length($b) return count($b)
group_by_expression : answer (c.flwor (c.for_in "b" (c.path (c.call f.Doc (c.txt "b" ∷ [])) (c.step
    axis.DescendantOrSelf test.Any [] ∷ c.step axis.Child (test.Element (Some (codes "book"))) [] ∷
    [])) ∷ c.let_be "k" (c.call f.StringLength (c.var "b" ∷ [])) ∷ c.group_by (codes "k" ∷ []) ∷
    []) (c.call f.Count (c.var "b" ∷ []))) ≡ Ok (codes "2")
unfolding digits chars
group_by_expression = refl

-- for $b in doc("b")//book order by xs:integer($b/@id) descending return string($b)
order_by_number : answer (c.flwor (c.for_in "b" (c.path (c.call f.Doc (c.txt "b" ∷ [])) (c.step
    axis.DescendantOrSelf test.Any [] ∷ c.step axis.Child (test.Element (Some (codes "book"))) [] ∷
    [])) ∷ c.order_by (c.by (c.call f.ToInteger (c.path (c.var "b") (c.step axis.Attributes
    (test.Attribute (Some (codes "id"))) [] ∷ []) ∷ [])) descending ∷ []) ∷ []) (c.call f.String
    (c.var "b" ∷ []))) ≡ Ok (codes "\"B\", \"A\"")
unfolding digits chars
order_by_number = refl

-- 4 div 2, string(4 div 2), 1 div 3
quotients : answer (c.seq (c.chain (c.num 4) (c.op (operator.Product Div) (c.num 2) ∷ []) ∷ c.call
    f.String (c.chain (c.num 4) (c.op (operator.Product Div) (c.num 2) ∷ []) ∷ []) ∷ c.chain (c.num
    1) (c.op (operator.Product Div) (c.num 3) ∷ []) ∷ [])) ≡ Ok (codes "2.0, \"2\", 0.333333")
unfolding digits chars
quotients = refl

-- -9223372036854775807 - 1
least_integer : answer (c.chain (c.unary (Minus ∷ []) (c.num 9223372036854775807)) (c.op
    (operator.Sum Minus) (c.num 1) ∷ [])) ≡ Ok (codes "xs:integer(\"-9223372036854775808\")")
unfolding digits chars
least_integer = refl

-- element a {1, 2, text {""}, 3, "x"}
runs_and_texts : answer (c.named_node named.Element (c.txt "a") (c.seq (c.num 1 ∷ c.num 2 ∷
    c.unnamed_node unnamed.Text (c.txt "") ∷ c.num 3 ∷ c.txt "x" ∷ []))) ≡ Ok (codes
    "element a {text {\"1 23 x\"}}")
unfolding digits chars is_name_start is_name_char
runs_and_texts = refl

-- data(doc("b")//@id), true(), -1, -0.5
atoms_read_back : answer (c.seq (c.call f.Data (c.path (c.call f.Doc (c.txt "b" ∷ [])) (c.step
    axis.DescendantOrSelf test.Any [] ∷ c.step axis.Attributes (test.Attribute (Some (codes "id")))
    [] ∷ []) ∷ []) ∷ c.call f.True [] ∷ c.unary (Minus ∷ []) (c.num 1) ∷ c.unary (Minus ∷ [])
    (c.dec 500000) ∷ [])) ≡ Ok (codes
    "xs:untypedAtomic(\"1\"), xs:untypedAtomic(\"2\"), true(), -1, -0.5")
unfolding digits chars
atoms_read_back = refl

-- let $b := doc("b")//book return ($b[2], $b[1]) | $b[1]
union_in_order : answer (c.flwor (c.let_be "b" (c.path (c.call f.Doc (c.txt "b" ∷ [])) (c.step
    axis.DescendantOrSelf test.Any [] ∷ c.step axis.Child (test.Element (Some (codes "book"))) [] ∷
    [])) ∷ []) (c.chain (c.seq (c.filter (c.var "b") (c.num 2 ∷ []) ∷ c.filter (c.var "b") (c.num 1
    ∷ []) ∷ [])) (c.op (operator.Union) (c.filter (c.var "b") (c.num 1 ∷ [])) ∷ []))) ≡ Ok (codes
    "element book {attribute id {\"1\"}, text {\"A\"}}, element book {attribute id {\"2\"}, text {\"B\"}}")
unfolding digits chars
union_in_order = refl

-- let $b := doc("b")//book return ($b[1] << $b[2], () is $b[1])
before_and_nothing : answer (c.flwor (c.let_be "b" (c.path (c.call f.Doc (c.txt "b" ∷ [])) (c.step
    axis.DescendantOrSelf test.Any [] ∷ c.step axis.Child (test.Element (Some (codes "book"))) [] ∷
    [])) ∷ []) (c.seq (c.chain (c.filter (c.var "b") (c.num 1 ∷ [])) (c.op (operator.Comparison
    (Node Precedes)) (c.filter (c.var "b") (c.num 2 ∷ [])) ∷ []) ∷ c.chain (c.seq []) (c.op
    (operator.Comparison (Node Is)) (c.filter (c.var "b") (c.num 1 ∷ [])) ∷ []) ∷ []))) ≡ Ok (codes
    "true()")
unfolding digits chars
before_and_nothing = refl

-- 3 to 1
range_down : answer (c.chain (c.num 3) (c.op (operator.Range) (c.num 1) ∷ [])) ≡ Ok (codes "()")
unfolding digits chars
range_down = refl

-- doc("b")//text()[1]
text_of_each_parent : answer (c.path (c.call f.Doc (c.txt "b" ∷ [])) (c.step axis.DescendantOrSelf
    test.Any [] ∷ c.step axis.Child test.Text (c.num 1 ∷ []) ∷ [])) ≡ Ok (codes
    "text {\"A\"}, text {\"B\"}")
unfolding digits chars
text_of_each_parent = refl

-- let $x := 1 div 0 return 1
unused_let : answer (c.flwor (c.let_be "x" (c.chain (c.num 1) (c.op (operator.Product Div) (c.num
    0) ∷ [])) ∷ []) (c.num 1)) ≡ Err FOAR0001
unfolding digits chars
unused_let = refl

-- let $x := element x {}, $y := element y {$x} return $y/x is $x
copied_into_content : answer (c.flwor (c.let_be "x" (c.named_node named.Element (c.txt "x") (c.seq
    [])) ∷ c.let_be "y" (c.named_node named.Element (c.txt "y") (c.var "x")) ∷ []) (c.chain (c.path
    (c.var "y") (c.step axis.Child (test.Element (Some (codes "x"))) [] ∷ [])) (c.op
    (operator.Comparison (Node Is)) (c.var "x") ∷ []))) ≡ Ok (codes "false()")
unfolding digits chars is_name_start is_name_char
copied_into_content = refl

-- "a" + xs:untypedAtomic("1")
left_is_judged_first : answer (c.chain (c.txt "a") (c.op (operator.Sum Plus) (c.call f.ToUntyped
    (c.txt "1" ∷ [])) ∷ [])) ≡ Err XPTY0004
unfolding digits chars
left_is_judged_first = refl

-- .
no_focus : answer c.dot ≡ Err XPDY0002
unfolding digits chars
no_focus = refl

-- (1)[/]
root_of_an_atom : answer (c.filter (c.num 1) (c.root ∷ [])) ≡ Err XPTY0020
unfolding digits chars
root_of_an_atom = refl

-- (1)/a
slash_after_an_atom : answer (c.path (c.num 1) (c.step axis.Child (test.Element (Some (codes "a")))
    [] ∷ [])) ≡ Err XPTY0019
unfolding digits chars
slash_after_an_atom = refl

-- doc("b")/lib/(book[1], 1)
nodes_and_atoms : answer (c.path (c.call f.Doc (c.txt "b" ∷ [])) (c.step axis.Child (test.Element
    (Some (codes "lib"))) [] ∷ c.seq (c.step axis.Child (test.Element (Some (codes "book"))) (c.num
    1 ∷ []) ∷ c.num 1 ∷ []) ∷ [])) ≡ Err XPTY0018
unfolding digits chars
nodes_and_atoms = refl

-- processing-instruction {"1"} {""}
no_target : answer (c.named_node named.ProcessingInstruction (c.txt "1") (c.txt "")) ≡ Err XQDY0041
unfolding digits chars is_name_start is_name_char
no_target = refl

-- element {"p:a"} {}
computed_prefix : answer (c.named_node named.Element (c.txt "p:a") (c.seq [])) ≡ Err ProfPrefix
unfolding digits chars is_name_start is_name_char
computed_prefix = refl

-- doc("b")//book except doc("b")//book[1], count(doc("b")//node() except doc("b")//text())
exceptions : answer (c.seq (c.chain (c.path (c.call f.Doc (c.txt "b" ∷ [])) (c.step
    axis.DescendantOrSelf test.Any [] ∷ c.step axis.Child (test.Element (Some (codes "book"))) [] ∷
    [])) (c.op (operator.SetOperation Except) (c.path (c.call f.Doc (c.txt "b" ∷ [])) (c.step
    axis.DescendantOrSelf test.Any [] ∷ c.step axis.Child (test.Element (Some (codes "book")))
    (c.num 1 ∷ []) ∷ [])) ∷ []) ∷ c.call f.Count (c.chain (c.path (c.call f.Doc (c.txt "b" ∷ []))
    (c.step axis.DescendantOrSelf test.Any [] ∷ c.step axis.Child test.Any [] ∷ [])) (c.op
    (operator.SetOperation Except) (c.path (c.call f.Doc (c.txt "b" ∷ [])) (c.step
    axis.DescendantOrSelf test.Any [] ∷ c.step axis.Child test.Text [] ∷ [])) ∷ []) ∷ []) ∷ [])) ≡
    Ok (codes "element book {attribute id {\"2\"}, text {\"B\"}}, 3")
unfolding digits chars
exceptions = refl

-- 1 = 1 or 1 div 0
or_stops : answer (c.any_of (c.chain (c.num 1) (c.op (operator.Comparison (General Equal)) (c.num
    1) ∷ []) ∷ c.chain (c.num 1) (c.op (operator.Product Div) (c.num 0) ∷ []) ∷ [])) ≡ Ok (codes
    "true()")
unfolding digits chars
or_stops = refl

-- 1 and "a" and doc("b") and true() and 0.0
and_goes_on : answer (c.all_of (c.num 1 ∷ c.txt "a" ∷ c.call f.Doc (c.txt "b" ∷ []) ∷ c.call f.True
    [] ∷ c.dec 0 ∷ [])) ≡ Ok (codes "false()")
unfolding digits chars
and_goes_on = refl

-- if (()) then 1 else 2, if ("a") then 1 else 1 div 0, if (0.0) then 1 div 0 else 2
conditions : answer (c.seq (c.iff (c.seq []) (c.num 1) (c.num 2) ∷ c.iff (c.txt "a") (c.num 1)
    (c.chain (c.num 1) (c.op (operator.Product Div) (c.num 0) ∷ [])) ∷ c.iff (c.dec 0) (c.chain
    (c.num 1) (c.op (operator.Product Div) (c.num 0) ∷ [])) (c.num 2) ∷ [])) ≡ Ok (codes "2, 1, 2")
unfolding digits chars
conditions = refl

-- let $e := element e {attribute a {1}, text {"t"}, comment {"c"}, processing-instruction p
-- {"q"}, element f {}} return ($e/text(), $e/comment(), $e/processing-instruction(),
-- $e/processing-instruction(q), $e/processing-instruction(p), $e/element(), $e/element(g),
-- $e/attribute(), $e/attribute::attribute(a), $e/node())
tests : answer (c.flwor (c.let_be "e" (c.named_node named.Element (c.txt "e") (c.seq (c.named_node
    named.Attribute (c.txt "a") (c.num 1) ∷ c.unnamed_node unnamed.Text (c.txt "t") ∷
    c.unnamed_node unnamed.Comment (c.txt "c") ∷ c.named_node named.ProcessingInstruction (c.txt
    "p") (c.txt "q") ∷ c.named_node named.Element (c.txt "f") (c.seq []) ∷ []))) ∷ []) (c.seq
    (c.path (c.var "e") (c.step axis.Child test.Text [] ∷ []) ∷ c.path (c.var "e") (c.step
    axis.Child test.Comment [] ∷ []) ∷ c.path (c.var "e") (c.step axis.Child
    (test.ProcessingInstruction None) [] ∷ []) ∷ c.path (c.var "e") (c.step axis.Child
    (test.ProcessingInstruction (Some (codes "q"))) [] ∷ []) ∷ c.path (c.var "e") (c.step
    axis.Child (test.ProcessingInstruction (Some (codes "p"))) [] ∷ []) ∷ c.path (c.var "e")
    (c.step axis.Child (test.Element None) [] ∷ []) ∷ c.path (c.var "e") (c.step axis.Child
    (test.Element (Some (codes "g"))) [] ∷ []) ∷ c.path (c.var "e") (c.step axis.Attributes
    (test.Attribute None) [] ∷ []) ∷ c.path (c.var "e") (c.step axis.Attributes (test.Attribute
    (Some (codes "a"))) [] ∷ []) ∷ c.path (c.var "e") (c.step axis.Child test.Any [] ∷ []) ∷ [])))
    ≡ Ok (codes
    "text {\"t\"}, comment {\"c\"}, processing-instruction p {\"q\"}, processing-instruction p {\"q\"}, element f {}, attribute a {\"1\"}, attribute a {\"1\"}, text {\"t\"}, comment {\"c\"}, processing-instruction p {\"q\"}, element f {}")
unfolding digits chars is_name_start is_name_char
tests = refl

-- doc("b")//book/string(@id), doc("b")//book/position(), doc("b")//book/last()
path_of_atoms : answer (c.seq (c.path (c.call f.Doc (c.txt "b" ∷ [])) (c.step axis.DescendantOrSelf
    test.Any [] ∷ c.step axis.Child (test.Element (Some (codes "book"))) [] ∷ c.call f.String
    (c.step axis.Attributes (test.Attribute (Some (codes "id"))) [] ∷ []) ∷ []) ∷ c.path (c.call
    f.Doc (c.txt "b" ∷ [])) (c.step axis.DescendantOrSelf test.Any [] ∷ c.step axis.Child
    (test.Element (Some (codes "book"))) [] ∷ c.call f.Position [] ∷ []) ∷ c.path (c.call f.Doc
    (c.txt "b" ∷ [])) (c.step axis.DescendantOrSelf test.Any [] ∷ c.step axis.Child (test.Element
    (Some (codes "book"))) [] ∷ c.call f.Last [] ∷ []) ∷ [])) ≡ Ok (codes
    "\"1\", \"2\", 1, 2, 2, 2")
unfolding digits chars
path_of_atoms = refl

-- (1 to 6)[. mod 2 = 0][2], doc("b")//book[1][@id = "2"]
predicates_in_turn : answer (c.seq (c.filter (c.chain (c.num 1) (c.op (operator.Range) (c.num 6) ∷
    [])) (c.chain (c.chain c.dot (c.op (operator.Product Mod) (c.num 2) ∷ [])) (c.op
    (operator.Comparison (General Equal)) (c.num 0) ∷ []) ∷ c.num 2 ∷ []) ∷ c.path (c.call f.Doc
    (c.txt "b" ∷ [])) (c.step axis.DescendantOrSelf test.Any [] ∷ c.step axis.Child (test.Element
    (Some (codes "book"))) (c.num 1 ∷ c.chain (c.step axis.Attributes (test.Attribute (Some (codes
    "id"))) []) (c.op (operator.Comparison (General Equal)) (c.txt "2") ∷ []) ∷ []) ∷ []) ∷ [])) ≡
    Ok (codes "4")
unfolding digits chars
predicates_in_turn = refl

-- doc("b")//book[1]/(/lib/book[2]), (doc("b")//text())[1]/(//book[1]/@id)
root_in_a_path : answer (c.seq (c.path (c.call f.Doc (c.txt "b" ∷ [])) (c.step
    axis.DescendantOrSelf test.Any [] ∷ c.step axis.Child (test.Element (Some (codes "book")))
    (c.num 1 ∷ []) ∷ c.path c.root (c.step axis.Child (test.Element (Some (codes "lib"))) [] ∷
    c.step axis.Child (test.Element (Some (codes "book"))) (c.num 2 ∷ []) ∷ []) ∷ []) ∷ c.path
    (c.filter (c.path (c.call f.Doc (c.txt "b" ∷ [])) (c.step axis.DescendantOrSelf test.Any [] ∷
    c.step axis.Child test.Text [] ∷ [])) (c.num 1 ∷ [])) (c.path c.root (c.step
    axis.DescendantOrSelf test.Any [] ∷ c.step axis.Child (test.Element (Some (codes "book")))
    (c.num 1 ∷ []) ∷ c.step axis.Attributes (test.Attribute (Some (codes "id"))) [] ∷ []) ∷ []) ∷
    [])) ≡ Ok (codes "element book {attribute id {\"2\"}, text {\"B\"}}, attribute id {\"1\"}")
unfolding digits chars
root_in_a_path = refl

-- processing-instruction a {}, processing-instruction {"a"} {" b ", "c"}
instructions : answer (c.seq (c.named_node named.ProcessingInstruction (c.txt "a") (c.seq []) ∷
    c.named_node named.ProcessingInstruction (c.txt "a") (c.seq (c.txt " b " ∷ c.txt "c" ∷ [])) ∷
    [])) ≡ Ok (codes "processing-instruction a {\"\"}, processing-instruction a {\"b  c\"}")
unfolding digits chars is_name_start is_name_char
instructions = refl

-- attribute a {}, attribute a {1, 2.0}, attribute {"a"} {"x", element b {"y"}}
attributes : answer (c.seq (c.named_node named.Attribute (c.txt "a") (c.seq []) ∷ c.named_node
    named.Attribute (c.txt "a") (c.seq (c.num 1 ∷ c.dec 2000000 ∷ [])) ∷ c.named_node
    named.Attribute (c.txt "a") (c.seq (c.txt "x" ∷ c.named_node named.Element (c.txt "b") (c.txt
    "y") ∷ [])) ∷ [])) ≡ Ok (codes
    "attribute a {\"\"}, attribute a {\"1 2\"}, attribute a {\"x y\"}")
unfolding digits chars is_name_start is_name_char
attributes = refl

-- comment {}, comment {"a", 1}, comment {"-a"}
comments : answer (c.seq (c.unnamed_node unnamed.Comment (c.seq []) ∷ c.unnamed_node
    unnamed.Comment (c.seq (c.txt "a" ∷ c.num 1 ∷ [])) ∷ c.unnamed_node unnamed.Comment (c.txt
    "-a") ∷ [])) ≡ Ok (codes "comment {\"\"}, comment {\"a 1\"}, comment {\"-a\"}")
unfolding digits chars
comments = refl

-- for $x in (1, 2) for $y at $p in (5, 6) return $p
for_at_in_each_tuple : answer (c.flwor (c.for_in "x" (c.seq (c.num 1 ∷ c.num 2 ∷ [])) ∷ c.for_at
    "y" "p" (c.seq (c.num 5 ∷ c.num 6 ∷ [])) ∷ []) (c.var "p")) ≡ Ok (codes "1, 2, 1, 2")
unfolding digits chars
for_at_in_each_tuple = refl

-- for $x in 1 to 4 where $x mod 2 = 0 let $y := $x where $y > 2 return $y
where_between : answer (c.flwor (c.for_in "x" (c.chain (c.num 1) (c.op (operator.Range) (c.num 4) ∷
    [])) ∷ c.where_is (c.chain (c.chain (c.var "x") (c.op (operator.Product Mod) (c.num 2) ∷ []))
    (c.op (operator.Comparison (General Equal)) (c.num 0) ∷ [])) ∷ c.let_be "y" (c.var "x") ∷
    c.where_is (c.chain (c.var "y") (c.op (operator.Comparison (General Greater)) (c.num 2) ∷ []))
    ∷ []) (c.var "y")) ≡ Ok (codes "4")
unfolding digits chars
where_between = refl

-- for $x in (1, 2, 1) let $x := $x mod 2 group by $x return $x
group_hidden_binding : answer (c.flwor (c.for_in "x" (c.seq (c.num 1 ∷ c.num 2 ∷ c.num 1 ∷ [])) ∷
    c.let_be "x" (c.chain (c.var "x") (c.op (operator.Product Mod) (c.num 2) ∷ [])) ∷ c.group_by
    (codes "x" ∷ []) ∷ []) (c.var "x")) ≡ Ok (codes "1, 0")
unfolding digits chars
group_hidden_binding = refl

-- for $x in (1, 1) group by $x := 5, $x return ($x, count($x))
group_twice_the_same : answer (c.flwor (c.for_in "x" (c.seq (c.num 1 ∷ c.num 1 ∷ [])) ∷ c.let_be
    "x" (c.num 5) ∷ c.group_by (codes "x" ∷ codes "x" ∷ []) ∷ []) (c.seq (c.var "x" ∷ c.call
    f.Count (c.var "x" ∷ []) ∷ []))) ≡ Ok (codes "5, 1")
unfolding digits chars
group_twice_the_same = refl

-- let $o := (7, 8) for $x in (1, 2, 1) group by $x return count($o)
group_outer_in_the_same_flwor : answer (c.flwor (c.let_be "o" (c.seq (c.num 7 ∷ c.num 8 ∷ [])) ∷
    c.for_in "x" (c.seq (c.num 1 ∷ c.num 2 ∷ c.num 1 ∷ [])) ∷ c.group_by (codes "x" ∷ []) ∷ [])
    (c.call f.Count (c.var "o" ∷ []))) ≡ Ok (codes "4, 2")
unfolding digits chars
group_outer_in_the_same_flwor = refl

-- let $o := (7, 8) return for $x in (1, 2, 1) let $y := $x group by $x, $x return (count($y),
-- count($o))
group_leaves_outer_variables : answer (c.flwor (c.let_be "o" (c.seq (c.num 7 ∷ c.num 8 ∷ [])) ∷ [])
    (c.flwor (c.for_in "x" (c.seq (c.num 1 ∷ c.num 2 ∷ c.num 1 ∷ [])) ∷ c.let_be "y" (c.var "x") ∷
    c.group_by (codes "x" ∷ codes "x" ∷ []) ∷ []) (c.seq (c.call f.Count (c.var "y" ∷ []) ∷ c.call
    f.Count (c.var "o" ∷ []) ∷ [])))) ≡ Ok (codes "2, 2, 1, 2")
unfolding digits chars
group_leaves_outer_variables = refl

-- for $x in (1, 2), $y in (1, 2) order by $y descending, $x return 10 * $x + $y
order_by_two : answer (c.flwor (c.for_in "x" (c.seq (c.num 1 ∷ c.num 2 ∷ [])) ∷ c.for_in "y" (c.seq
    (c.num 1 ∷ c.num 2 ∷ [])) ∷ c.order_by (c.by (c.var "y") descending ∷ c.by (c.var "x")
    ascending ∷ []) ∷ []) (c.chain (c.chain (c.num 10) (c.op (operator.Product Times) (c.var "x") ∷
    [])) (c.op (operator.Sum Plus) (c.var "y") ∷ []))) ≡ Ok (codes "12, 22, 11, 21")
unfolding digits chars
order_by_two = refl

-- for $x in (3, 1, 2) order by (if ($x = 1) then () else $x) descending empty greatest return $x
order_descending_empty_greatest : answer (c.flwor (c.for_in "x" (c.seq (c.num 3 ∷ c.num 1 ∷ c.num 2
    ∷ [])) ∷ c.order_by (c.by (c.iff (c.chain (c.var "x") (c.op (operator.Comparison (General
    Equal)) (c.num 1) ∷ [])) (c.seq []) (c.var "x")) descending_greatest ∷ []) ∷ []) (c.var "x")) ≡
    Ok (codes "1, 3, 2")
unfolding digits chars
order_descending_empty_greatest = refl

-- let $s := (for $x in (1, 2) let $a := element a {attribute n {$x}} let $b := element b
-- {attribute n {$x}} return ($a, $b)) return ($s | ())/@n/string()
trees_of_the_next_tuple : answer (c.flwor (c.let_be "s" (c.flwor (c.for_in "x" (c.seq (c.num 1 ∷
    c.num 2 ∷ [])) ∷ c.let_be "a" (c.named_node named.Element (c.txt "a") (c.named_node
    named.Attribute (c.txt "n") (c.var "x"))) ∷ c.let_be "b" (c.named_node named.Element (c.txt
    "b") (c.named_node named.Attribute (c.txt "n") (c.var "x"))) ∷ []) (c.seq (c.var "a" ∷ c.var
    "b" ∷ []))) ∷ []) (c.path (c.chain (c.var "s") (c.op (operator.Union) (c.seq []) ∷ [])) (c.step
    axis.Attributes (test.Attribute (Some (codes "n"))) [] ∷ c.call f.String [] ∷ []))) ≡ Ok (codes
    "\"1\", \"2\", \"1\", \"2\"")
unfolding digits chars is_name_start is_name_char
trees_of_the_next_tuple = refl

-- every $x in (1, 2), $y in ($x, 3) satisfies $x le $y
every_of_two : answer (c.quantified quantifier.Every (c.be "x" (c.seq (c.num 1 ∷ c.num 2 ∷ [])) ∷
    c.be "y" (c.seq (c.var "x" ∷ c.num 3 ∷ [])) ∷ []) (c.chain (c.var "x") (c.op
    (operator.Comparison (Value LessEqual)) (c.var "y") ∷ []))) ≡ Ok (codes "true()")
unfolding digits chars
every_of_two = refl

-- some $x in (1, 0), $y in (1, 1 div $x) satisfies $y = 1
some_goes_depth_first : answer (c.quantified quantifier.Some (c.be "x" (c.seq (c.num 1 ∷ c.num 0 ∷
    [])) ∷ c.be "y" (c.seq (c.num 1 ∷ c.chain (c.num 1) (c.op (operator.Product Div) (c.var "x") ∷
    []) ∷ [])) ∷ []) (c.chain (c.var "y") (c.op (operator.Comparison (General Equal)) (c.num 1) ∷
    []))) ≡ Ok (codes "true()")
unfolding digits chars
some_goes_depth_first = refl

-- some $x in (1, 2), $x in (3, 4) satisfies $x = 4
quantifier_hides : answer (c.quantified quantifier.Some (c.be "x" (c.seq (c.num 1 ∷ c.num 2 ∷ []))
    ∷ c.be "x" (c.seq (c.num 3 ∷ c.num 4 ∷ [])) ∷ []) (c.chain (c.var "x") (c.op
    (operator.Comparison (General Equal)) (c.num 4) ∷ []))) ≡ Ok (codes "true()")
unfolding digits chars
quantifier_hides = refl

-- "a" || "b" || 1, () || "x", 2.0 || true(), () || ()
concatenated : answer (c.seq (c.chain (c.txt "a") (c.op (operator.Concat) (c.txt "b") ∷ c.op
    (operator.Concat) (c.num 1) ∷ []) ∷ c.chain (c.seq []) (c.op (operator.Concat) (c.txt "x") ∷
    []) ∷ c.chain (c.dec 2000000) (c.op (operator.Concat) (c.call f.True []) ∷ []) ∷ c.chain (c.seq
    []) (c.op (operator.Concat) (c.seq []) ∷ []) ∷ [])) ≡ Ok (codes
    "\"ab1\", \"x\", \"2true\", \"\"")
unfolding digits chars
concatenated = refl

-- count(doc("b")/descendant::node()/descendant::node())
two_scans : answer (c.call f.Count (c.path (c.call f.Doc (c.txt "b" ∷ [])) (c.step axis.Descendant
    test.Any [] ∷ c.step axis.Descendant test.Any [] ∷ []) ∷ [])) ≡ Ok (codes "4")
unfolding digits chars
two_scans = refl

-- let $a := 1 return for $b in (1, 2) where some $c in ($a, $b) satisfies $c = 2 return ($a, $b)
variable_under_a_quantifier : answer (c.flwor (c.let_be "a" (c.num 1) ∷ []) (c.flwor (c.for_in "b"
    (c.seq (c.num 1 ∷ c.num 2 ∷ [])) ∷ c.where_is (c.quantified quantifier.Some (c.be "c" (c.seq
    (c.var "a" ∷ c.var "b" ∷ [])) ∷ []) (c.chain (c.var "c") (c.op (operator.Comparison (General
    Equal)) (c.num 2) ∷ []))) ∷ []) (c.seq (c.var "a" ∷ c.var "b" ∷ [])))) ≡ Ok (codes "1, 2")
unfolding digits chars
variable_under_a_quantifier = refl

-- (3, 1, 2) ! (. * 10)
map_atoms : answer (c.mapped (c.seq (c.num 3 ∷ c.num 1 ∷ c.num 2 ∷ [])) (c.chain c.dot (c.op
    (operator.Product Times) (c.num 10) ∷ []) ∷ [])) ≡ Ok (codes "30, 10, 20")
unfolding digits chars
map_atoms = refl

-- "a" => concat("b") => string-length()
arrow_chain : answer (c.arrow (c.call f.Concat (c.txt "a" ∷ c.txt "b" ∷ [])) ((f.StringLength, [])
    ∷ [])) ≡ Ok (codes "2")
unfolding digits chars
arrow_chain = refl

-- for $x allowing empty at $p in () count $c return ($p, $c)
allowing_empty_and_count : answer (c.flwor (c.for_or_none_at "x" "p" (c.seq []) ∷ c.count_as "c" ∷
    []) (c.seq (c.var "p" ∷ c.var "c" ∷ []))) ≡ Ok (codes "0, 1")
unfolding digits chars
allowing_empty_and_count = refl
