-- Worked rows of plans: names are slots, and steps without predicates are scans.
use Rattle.std.specs.Prelude.{◌≡◌, refl, [], ◌∷◌, Some, None, Ok, Err, codes}
use Rattle.std.specs.Fmt.{digits}
use Rattle.std.specs.Str.{chars}
use Rattle.xq_atoms.specs.Characters.{is_name_start, is_name_char}
use Rattle.xq_atoms.specs.declared.refusals.Code.TheVariants.{FOAR0001, ProfPrefix, XPDY0002, XPTY0004, XPTY0018, XPTY0019, XPTY0020, XQDY0041}
use Rattle.xq_expressions.specs.declared.operators.Sign.TheVariants.{Plus, Minus}
use Rattle.xq_expressions.specs.declared.operators.ProductOperator.TheVariants.{Times, Div, Mod}
use Rattle.xq_expressions.specs.declared.operators.SetOperator.TheVariants.{Except}
use Rattle.xq_expressions.specs.declared.operators.Relation.TheVariants.{Equal, LessEqual, Greater}
use Rattle.xq_expressions.specs.declared.operators.ComparisonOperator.TheVariants.{Value, General, Node}
use Rattle.xq_expressions.specs.declared.operators.NodeComparison.TheVariants.{Is, Precedes}
use Rattle.xq_expressions.specs.declared.operators.Quantifier.TheVariants as quantifier
use Rattle.xq_expressions.specs.declared.operators.NamedNode.TheVariants as named
use Rattle.xq_expressions.specs.declared.operators.UnnamedNode.TheVariants as unnamed
use Rattle.xq_trees.specs.declared.Axis.TheVariants as axis
use Rattle.xq_expressions.specs.declared.signatures.Function.TheVariants as f
use Rattle.xq_meaning.specs.declared.joins.Equality.TheVariants as equality
use Rattle.xq_meaning.specs.declared.joins.KeyForm.TheVariants as key_form
use Rattle.xq_meaning.specs.declared.node_tests.Test.TheVariants as test
use Rattle.xq_meaning.specs.declared.operators.Operator.TheVariants as operator
use Rattle.xq_meaning.proofs.PlanWriting as p
use Rattle.xq_meaning.proofs.Writing.{ascending, descending, descending_greatest}
use Rattle.xq_meaning.proofs.Library.{plan_answer as answer}

-- doc("b")
document_b : answer (p.call f.Doc (p.txt "b" ∷ [])) ≡ Ok (codes
    "document {element lib {element book {attribute id {\"1\"}, text {\"A\"}}, element book {attribute id {\"2\"}, text {\"B\"}}}}")
unfolding digits chars
document_b = refl

-- doc("b")//book[1]
first_book : answer (p.path (p.call f.Doc (p.txt "b" ∷ [])) (p.scan axis.DescendantOrSelf test.Any
    ∷ p.each (p.step axis.Child (test.Element (Some (codes "book"))) (p.num 1 ∷ [])) ∷ [])) ≡ Ok
    (codes "element book {attribute id {\"1\"}, text {\"A\"}}")
unfolding digits chars
first_book = refl

-- doc("b")//book[2]/preceding-sibling::*[1]/@id
preceding_sibling : answer (p.path (p.call f.Doc (p.txt "b" ∷ [])) (p.scan axis.DescendantOrSelf
    test.Any ∷ p.each (p.step axis.Child (test.Element (Some (codes "book"))) (p.num 2 ∷ [])) ∷
    p.each (p.step axis.PrecedingSibling (test.Element None) (p.num 1 ∷ [])) ∷ p.scan
    axis.Attributes (test.Attribute (Some (codes "id"))) ∷ [])) ≡ Ok (codes "attribute id {\"1\"}")
unfolding digits chars
preceding_sibling = refl

-- doc("b")//@id[. = "1"]/following::node()
following_of_an_attribute : answer (p.path (p.call f.Doc (p.txt "b" ∷ [])) (p.scan
    axis.DescendantOrSelf test.Any ∷ p.each (p.step axis.Attributes (test.Attribute (Some (codes
    "id"))) (p.chain p.dot (p.op (operator.Comparison (General Equal)) (p.txt "1") ∷ []) ∷ [])) ∷
    p.scan axis.Following test.Any ∷ [])) ≡ Ok (codes
    "text {\"A\"}, element book {attribute id {\"2\"}, text {\"B\"}}, text {\"B\"}")
unfolding digits chars
following_of_an_attribute = refl

-- ("a", 1) = 1
first_pair_is_refused : answer (p.chain (p.seq (p.txt "a" ∷ p.num 1 ∷ [])) (p.op
    (operator.Comparison (General Equal)) (p.num 1) ∷ [])) ≡ Err XPTY0004
unfolding digits chars
first_pair_is_refused = refl

-- for $x in (1, 1.0, "1") let $y := $x group by $x return count($y)
group_by_value : answer (p.flwor (p.for_in (p.seq (p.num 1 ∷ p.dec 1000000 ∷ p.txt "1" ∷ [])) ∷
    p.let_be (p.slot 0) ∷ p.group_by (0 ∷ []) ∷ []) (p.call f.Count (p.slot 1 ∷ []))) ≡ Ok (codes
    "2, 1")
unfolding digits chars
group_by_value = refl

-- for $b in doc("b")//book group by $k := string-length($b) return count($b)
group_by_expression : answer (p.flwor (p.for_in (p.path (p.call f.Doc (p.txt "b" ∷ [])) (p.scan
    axis.DescendantOrSelf test.Any ∷ p.scan axis.Child (test.Element (Some (codes "book"))) ∷ []))
    ∷ p.let_be (p.call f.StringLength (p.slot 0 ∷ [])) ∷ p.group_by (1 ∷ []) ∷ []) (p.call f.Count
    (p.slot 0 ∷ []))) ≡ Ok (codes "2")
unfolding digits chars
group_by_expression = refl

-- for $b in doc("b")//book order by xs:integer($b/@id) descending return string($b)
order_by_number : answer (p.flwor (p.for_in (p.path (p.call f.Doc (p.txt "b" ∷ [])) (p.scan
    axis.DescendantOrSelf test.Any ∷ p.scan axis.Child (test.Element (Some (codes "book"))) ∷ []))
    ∷ p.order_by (p.by (p.call f.ToInteger (p.path (p.slot 0) (p.scan axis.Attributes
    (test.Attribute (Some (codes "id"))) ∷ []) ∷ [])) descending ∷ []) ∷ []) (p.call f.String
    (p.slot 0 ∷ []))) ≡ Ok (codes "\"B\", \"A\"")
unfolding digits chars
order_by_number = refl

-- 4 div 2, string(4 div 2), 1 div 3
quotients : answer (p.seq (p.chain (p.num 4) (p.op (operator.Product Div) (p.num 2) ∷ []) ∷ p.call
    f.String (p.chain (p.num 4) (p.op (operator.Product Div) (p.num 2) ∷ []) ∷ []) ∷ p.chain (p.num
    1) (p.op (operator.Product Div) (p.num 3) ∷ []) ∷ [])) ≡ Ok (codes "2.0, \"2\", 0.333333")
unfolding digits chars
quotients = refl

-- -9223372036854775807 - 1
least_integer : answer (p.chain (p.unary (Minus ∷ []) (p.num 9223372036854775807)) (p.op
    (operator.Sum Minus) (p.num 1) ∷ [])) ≡ Ok (codes "xs:integer(\"-9223372036854775808\")")
unfolding digits chars
least_integer = refl

-- element a {1, 2, text {""}, 3, "x"}
runs_and_texts : answer (p.named_node named.Element (p.txt "a") (p.seq (p.num 1 ∷ p.num 2 ∷
    p.unnamed_node unnamed.Text (p.txt "") ∷ p.num 3 ∷ p.txt "x" ∷ []))) ≡ Ok (codes
    "element a {text {\"1 23 x\"}}")
unfolding digits chars is_name_start is_name_char
runs_and_texts = refl

-- data(doc("b")//@id), true(), -1, -0.5
atoms_read_back : answer (p.seq (p.call f.Data (p.path (p.call f.Doc (p.txt "b" ∷ [])) (p.scan
    axis.DescendantOrSelf test.Any ∷ p.scan axis.Attributes (test.Attribute (Some (codes "id"))) ∷
    []) ∷ []) ∷ p.call f.True [] ∷ p.unary (Minus ∷ []) (p.num 1) ∷ p.unary (Minus ∷ []) (p.dec
    500000) ∷ [])) ≡ Ok (codes
    "xs:untypedAtomic(\"1\"), xs:untypedAtomic(\"2\"), true(), -1, -0.5")
unfolding digits chars
atoms_read_back = refl

-- let $b := doc("b")//book return ($b[2], $b[1]) | $b[1]
union_in_order : answer (p.flwor (p.let_be (p.path (p.call f.Doc (p.txt "b" ∷ [])) (p.scan
    axis.DescendantOrSelf test.Any ∷ p.scan axis.Child (test.Element (Some (codes "book"))) ∷ []))
    ∷ []) (p.chain (p.seq (p.filter (p.slot 0) (p.num 2 ∷ []) ∷ p.filter (p.slot 0) (p.num 1 ∷ [])
    ∷ [])) (p.op (operator.Union) (p.filter (p.slot 0) (p.num 1 ∷ [])) ∷ []))) ≡ Ok (codes
    "element book {attribute id {\"1\"}, text {\"A\"}}, element book {attribute id {\"2\"}, text {\"B\"}}")
unfolding digits chars
union_in_order = refl

-- let $b := doc("b")//book return ($b[1] << $b[2], () is $b[1])
before_and_nothing : answer (p.flwor (p.let_be (p.path (p.call f.Doc (p.txt "b" ∷ [])) (p.scan
    axis.DescendantOrSelf test.Any ∷ p.scan axis.Child (test.Element (Some (codes "book"))) ∷ []))
    ∷ []) (p.seq (p.chain (p.filter (p.slot 0) (p.num 1 ∷ [])) (p.op (operator.Comparison (Node
    Precedes)) (p.filter (p.slot 0) (p.num 2 ∷ [])) ∷ []) ∷ p.chain (p.seq []) (p.op
    (operator.Comparison (Node Is)) (p.filter (p.slot 0) (p.num 1 ∷ [])) ∷ []) ∷ []))) ≡ Ok (codes
    "true()")
unfolding digits chars
before_and_nothing = refl

-- 3 to 1
range_down : answer (p.chain (p.num 3) (p.op (operator.Range) (p.num 1) ∷ [])) ≡ Ok (codes "()")
unfolding digits chars
range_down = refl

-- doc("b")//text()[1]
text_of_each_parent : answer (p.path (p.call f.Doc (p.txt "b" ∷ [])) (p.scan axis.DescendantOrSelf
    test.Any ∷ p.each (p.step axis.Child test.Text (p.num 1 ∷ [])) ∷ [])) ≡ Ok (codes
    "text {\"A\"}, text {\"B\"}")
unfolding digits chars
text_of_each_parent = refl

-- let $x := 1 div 0 return 1
unused_let : answer (p.flwor (p.let_be (p.chain (p.num 1) (p.op (operator.Product Div) (p.num 0) ∷
    [])) ∷ []) (p.num 1)) ≡ Err FOAR0001
unfolding digits chars
unused_let = refl

-- let $x := element x {}, $y := element y {$x} return $y/x is $x
copied_into_content : answer (p.flwor (p.let_be (p.named_node named.Element (p.txt "x") (p.seq []))
    ∷ p.let_be (p.named_node named.Element (p.txt "y") (p.slot 0)) ∷ []) (p.chain (p.path (p.slot
    1) (p.scan axis.Child (test.Element (Some (codes "x"))) ∷ [])) (p.op (operator.Comparison (Node
    Is)) (p.slot 0) ∷ []))) ≡ Ok (codes "false()")
unfolding digits chars is_name_start is_name_char
copied_into_content = refl

-- "a" + xs:untypedAtomic("1")
left_is_judged_first : answer (p.chain (p.txt "a") (p.op (operator.Sum Plus) (p.call f.ToUntyped
    (p.txt "1" ∷ [])) ∷ [])) ≡ Err XPTY0004
unfolding digits chars
left_is_judged_first = refl

-- .
no_focus : answer p.dot ≡ Err XPDY0002
unfolding digits chars
no_focus = refl

-- (1)[/]
root_of_an_atom : answer (p.filter (p.num 1) (p.root ∷ [])) ≡ Err XPTY0020
unfolding digits chars
root_of_an_atom = refl

-- (1)/a
slash_after_an_atom : answer (p.path (p.num 1) (p.scan axis.Child (test.Element (Some (codes "a")))
    ∷ [])) ≡ Err XPTY0019
unfolding digits chars
slash_after_an_atom = refl

-- doc("b")/lib/(book[1], 1)
nodes_and_atoms : answer (p.path (p.call f.Doc (p.txt "b" ∷ [])) (p.scan axis.Child (test.Element
    (Some (codes "lib"))) ∷ p.each (p.seq (p.step axis.Child (test.Element (Some (codes "book")))
    (p.num 1 ∷ []) ∷ p.num 1 ∷ [])) ∷ [])) ≡ Err XPTY0018
unfolding digits chars
nodes_and_atoms = refl

-- processing-instruction {"1"} {""}
no_target : answer (p.named_node named.ProcessingInstruction (p.txt "1") (p.txt "")) ≡ Err XQDY0041
unfolding digits chars is_name_start is_name_char
no_target = refl

-- element {"p:a"} {}
computed_prefix : answer (p.named_node named.Element (p.txt "p:a") (p.seq [])) ≡ Err ProfPrefix
unfolding digits chars is_name_start is_name_char
computed_prefix = refl

-- doc("b")//book except doc("b")//book[1], count(doc("b")//node() except doc("b")//text())
exceptions : answer (p.seq (p.chain (p.path (p.call f.Doc (p.txt "b" ∷ [])) (p.scan
    axis.DescendantOrSelf test.Any ∷ p.scan axis.Child (test.Element (Some (codes "book"))) ∷ []))
    (p.op (operator.SetOperation Except) (p.path (p.call f.Doc (p.txt "b" ∷ [])) (p.scan
    axis.DescendantOrSelf test.Any ∷ p.each (p.step axis.Child (test.Element (Some (codes "book")))
    (p.num 1 ∷ [])) ∷ [])) ∷ []) ∷ p.call f.Count (p.chain (p.path (p.call f.Doc (p.txt "b" ∷ []))
    (p.scan axis.DescendantOrSelf test.Any ∷ p.scan axis.Child test.Any ∷ [])) (p.op
    (operator.SetOperation Except) (p.path (p.call f.Doc (p.txt "b" ∷ [])) (p.scan
    axis.DescendantOrSelf test.Any ∷ p.scan axis.Child test.Text ∷ [])) ∷ []) ∷ []) ∷ [])) ≡ Ok
    (codes "element book {attribute id {\"2\"}, text {\"B\"}}, 3")
unfolding digits chars
exceptions = refl

-- 1 = 1 or 1 div 0
or_stops : answer (p.any_of (p.chain (p.num 1) (p.op (operator.Comparison (General Equal)) (p.num
    1) ∷ []) ∷ p.chain (p.num 1) (p.op (operator.Product Div) (p.num 0) ∷ []) ∷ [])) ≡ Ok (codes
    "true()")
unfolding digits chars
or_stops = refl

-- 1 and "a" and doc("b") and true() and 0.0
and_goes_on : answer (p.all_of (p.num 1 ∷ p.txt "a" ∷ p.call f.Doc (p.txt "b" ∷ []) ∷ p.call f.True
    [] ∷ p.dec 0 ∷ [])) ≡ Ok (codes "false()")
unfolding digits chars
and_goes_on = refl

-- if (()) then 1 else 2, if ("a") then 1 else 1 div 0, if (0.0) then 1 div 0 else 2
conditions : answer (p.seq (p.iff (p.seq []) (p.num 1) (p.num 2) ∷ p.iff (p.txt "a") (p.num 1)
    (p.chain (p.num 1) (p.op (operator.Product Div) (p.num 0) ∷ [])) ∷ p.iff (p.dec 0) (p.chain
    (p.num 1) (p.op (operator.Product Div) (p.num 0) ∷ [])) (p.num 2) ∷ [])) ≡ Ok (codes "2, 1, 2")
unfolding digits chars
conditions = refl

-- let $e := element e {attribute a {1}, text {"t"}, comment {"c"}, processing-instruction p
-- {"q"}, element f {}} return ($e/text(), $e/comment(), $e/processing-instruction(),
-- $e/processing-instruction(q), $e/processing-instruction(p), $e/element(), $e/element(g),
-- $e/attribute(), $e/attribute::attribute(a), $e/node())
tests : answer (p.flwor (p.let_be (p.named_node named.Element (p.txt "e") (p.seq (p.named_node
    named.Attribute (p.txt "a") (p.num 1) ∷ p.unnamed_node unnamed.Text (p.txt "t") ∷
    p.unnamed_node unnamed.Comment (p.txt "c") ∷ p.named_node named.ProcessingInstruction (p.txt
    "p") (p.txt "q") ∷ p.named_node named.Element (p.txt "f") (p.seq []) ∷ []))) ∷ []) (p.seq
    (p.path (p.slot 0) (p.scan axis.Child test.Text ∷ []) ∷ p.path (p.slot 0) (p.scan axis.Child
    test.Comment ∷ []) ∷ p.path (p.slot 0) (p.scan axis.Child (test.ProcessingInstruction None) ∷
    []) ∷ p.path (p.slot 0) (p.scan axis.Child (test.ProcessingInstruction (Some (codes "q"))) ∷
    []) ∷ p.path (p.slot 0) (p.scan axis.Child (test.ProcessingInstruction (Some (codes "p"))) ∷
    []) ∷ p.path (p.slot 0) (p.scan axis.Child (test.Element None) ∷ []) ∷ p.path (p.slot 0)
    (p.scan axis.Child (test.Element (Some (codes "g"))) ∷ []) ∷ p.path (p.slot 0) (p.scan
    axis.Attributes (test.Attribute None) ∷ []) ∷ p.path (p.slot 0) (p.scan axis.Attributes
    (test.Attribute (Some (codes "a"))) ∷ []) ∷ p.path (p.slot 0) (p.scan axis.Child test.Any ∷ [])
    ∷ []))) ≡ Ok (codes
    "text {\"t\"}, comment {\"c\"}, processing-instruction p {\"q\"}, processing-instruction p {\"q\"}, element f {}, attribute a {\"1\"}, attribute a {\"1\"}, text {\"t\"}, comment {\"c\"}, processing-instruction p {\"q\"}, element f {}")
unfolding digits chars is_name_start is_name_char
tests = refl

-- doc("b")//book/string(@id), doc("b")//book/position(), doc("b")//book/last()
path_of_atoms : answer (p.seq (p.path (p.call f.Doc (p.txt "b" ∷ [])) (p.scan axis.DescendantOrSelf
    test.Any ∷ p.scan axis.Child (test.Element (Some (codes "book"))) ∷ p.each (p.call f.String
    (p.step axis.Attributes (test.Attribute (Some (codes "id"))) [] ∷ [])) ∷ []) ∷ p.path (p.call
    f.Doc (p.txt "b" ∷ [])) (p.scan axis.DescendantOrSelf test.Any ∷ p.scan axis.Child
    (test.Element (Some (codes "book"))) ∷ p.each (p.call f.Position []) ∷ []) ∷ p.path (p.call
    f.Doc (p.txt "b" ∷ [])) (p.scan axis.DescendantOrSelf test.Any ∷ p.scan axis.Child
    (test.Element (Some (codes "book"))) ∷ p.each (p.call f.Last []) ∷ []) ∷ [])) ≡ Ok (codes
    "\"1\", \"2\", 1, 2, 2, 2")
unfolding digits chars
path_of_atoms = refl

-- (1 to 6)[. mod 2 = 0][2], doc("b")//book[1][@id = "2"]
predicates_in_turn : answer (p.seq (p.filter (p.chain (p.num 1) (p.op (operator.Range) (p.num 6) ∷
    [])) (p.chain (p.chain p.dot (p.op (operator.Product Mod) (p.num 2) ∷ [])) (p.op
    (operator.Comparison (General Equal)) (p.num 0) ∷ []) ∷ p.num 2 ∷ []) ∷ p.path (p.call f.Doc
    (p.txt "b" ∷ [])) (p.scan axis.DescendantOrSelf test.Any ∷ p.each (p.step axis.Child
    (test.Element (Some (codes "book"))) (p.num 1 ∷ p.chain (p.step axis.Attributes (test.Attribute
    (Some (codes "id"))) []) (p.op (operator.Comparison (General Equal)) (p.txt "2") ∷ []) ∷ [])) ∷
    []) ∷ [])) ≡ Ok (codes "4")
unfolding digits chars
predicates_in_turn = refl

-- doc("b")//book[1]/(/lib/book[2]), (doc("b")//text())[1]/(//book[1]/@id)
root_in_a_path : answer (p.seq (p.path (p.call f.Doc (p.txt "b" ∷ [])) (p.scan
    axis.DescendantOrSelf test.Any ∷ p.each (p.step axis.Child (test.Element (Some (codes "book")))
    (p.num 1 ∷ [])) ∷ p.each (p.path p.root (p.scan axis.Child (test.Element (Some (codes "lib")))
    ∷ p.each (p.step axis.Child (test.Element (Some (codes "book"))) (p.num 2 ∷ [])) ∷ [])) ∷ []) ∷
    p.path (p.filter (p.path (p.call f.Doc (p.txt "b" ∷ [])) (p.scan axis.DescendantOrSelf test.Any
    ∷ p.scan axis.Child test.Text ∷ [])) (p.num 1 ∷ [])) (p.each (p.path p.root (p.scan
    axis.DescendantOrSelf test.Any ∷ p.each (p.step axis.Child (test.Element (Some (codes "book")))
    (p.num 1 ∷ [])) ∷ p.scan axis.Attributes (test.Attribute (Some (codes "id"))) ∷ [])) ∷ []) ∷
    [])) ≡ Ok (codes "element book {attribute id {\"2\"}, text {\"B\"}}, attribute id {\"1\"}")
unfolding digits chars
root_in_a_path = refl

-- processing-instruction a {}, processing-instruction {"a"} {" b ", "c"}
instructions : answer (p.seq (p.named_node named.ProcessingInstruction (p.txt "a") (p.seq []) ∷
    p.named_node named.ProcessingInstruction (p.txt "a") (p.seq (p.txt " b " ∷ p.txt "c" ∷ [])) ∷
    [])) ≡ Ok (codes "processing-instruction a {\"\"}, processing-instruction a {\"b  c\"}")
unfolding digits chars is_name_start is_name_char
instructions = refl

-- attribute a {}, attribute a {1, 2.0}, attribute {"a"} {"x", element b {"y"}}
attributes : answer (p.seq (p.named_node named.Attribute (p.txt "a") (p.seq []) ∷ p.named_node
    named.Attribute (p.txt "a") (p.seq (p.num 1 ∷ p.dec 2000000 ∷ [])) ∷ p.named_node
    named.Attribute (p.txt "a") (p.seq (p.txt "x" ∷ p.named_node named.Element (p.txt "b") (p.txt
    "y") ∷ [])) ∷ [])) ≡ Ok (codes
    "attribute a {\"\"}, attribute a {\"1 2\"}, attribute a {\"x y\"}")
unfolding digits chars is_name_start is_name_char
attributes = refl

-- comment {}, comment {"a", 1}, comment {"-a"}
comments : answer (p.seq (p.unnamed_node unnamed.Comment (p.seq []) ∷ p.unnamed_node
    unnamed.Comment (p.seq (p.txt "a" ∷ p.num 1 ∷ [])) ∷ p.unnamed_node unnamed.Comment (p.txt
    "-a") ∷ [])) ≡ Ok (codes "comment {\"\"}, comment {\"a 1\"}, comment {\"-a\"}")
unfolding digits chars
comments = refl

-- for $x in (1, 2) for $y at $p in (5, 6) return $p
for_at_in_each_tuple : answer (p.flwor (p.for_in (p.seq (p.num 1 ∷ p.num 2 ∷ [])) ∷ p.for_at (p.seq
    (p.num 5 ∷ p.num 6 ∷ [])) ∷ []) (p.slot 2)) ≡ Ok (codes "1, 2, 1, 2")
unfolding digits chars
for_at_in_each_tuple = refl

-- for $x in 1 to 4 where $x mod 2 = 0 let $y := $x where $y > 2 return $y
where_between : answer (p.flwor (p.for_in (p.chain (p.num 1) (p.op (operator.Range) (p.num 4) ∷
    [])) ∷ p.where_is (p.chain (p.chain (p.slot 0) (p.op (operator.Product Mod) (p.num 2) ∷ []))
    (p.op (operator.Comparison (General Equal)) (p.num 0) ∷ [])) ∷ p.let_be (p.slot 0) ∷ p.where_is
    (p.chain (p.slot 1) (p.op (operator.Comparison (General Greater)) (p.num 2) ∷ [])) ∷ [])
    (p.slot 1)) ≡ Ok (codes "4")
unfolding digits chars
where_between = refl

-- for $x in (1, 2, 1) let $x := $x mod 2 group by $x return $x
group_hidden_binding : answer (p.flwor (p.for_in (p.seq (p.num 1 ∷ p.num 2 ∷ p.num 1 ∷ [])) ∷
    p.let_be (p.chain (p.slot 0) (p.op (operator.Product Mod) (p.num 2) ∷ [])) ∷ p.group_by (1 ∷
    []) ∷ []) (p.slot 1)) ≡ Ok (codes "1, 0")
unfolding digits chars
group_hidden_binding = refl

-- for $x in (1, 1) group by $x := 5, $x return ($x, count($x))
group_twice_the_same : answer (p.flwor (p.for_in (p.seq (p.num 1 ∷ p.num 1 ∷ [])) ∷ p.let_be (p.num
    5) ∷ p.group_by (1 ∷ 1 ∷ []) ∷ []) (p.seq (p.slot 1 ∷ p.call f.Count (p.slot 1 ∷ []) ∷ []))) ≡
    Ok (codes "5, 1")
unfolding digits chars
group_twice_the_same = refl

-- let $o := (7, 8) for $x in (1, 2, 1) group by $x return count($o)
group_outer_in_the_same_flwor : answer (p.flwor (p.let_be (p.seq (p.num 7 ∷ p.num 8 ∷ [])) ∷
    p.for_in (p.seq (p.num 1 ∷ p.num 2 ∷ p.num 1 ∷ [])) ∷ p.group_by (1 ∷ []) ∷ []) (p.call f.Count
    (p.slot 0 ∷ []))) ≡ Ok (codes "4, 2")
unfolding digits chars
group_outer_in_the_same_flwor = refl

-- let $o := (7, 8) return for $x in (1, 2, 1) let $y := $x group by $x, $x return (count($y),
-- count($o))
group_leaves_outer_variables : answer (p.flwor (p.let_be (p.seq (p.num 7 ∷ p.num 8 ∷ [])) ∷ [])
    (p.flwor (p.for_in (p.seq (p.num 1 ∷ p.num 2 ∷ p.num 1 ∷ [])) ∷ p.let_be (p.slot 1) ∷
    p.group_by (0 ∷ 0 ∷ []) ∷ []) (p.seq (p.call f.Count (p.slot 2 ∷ []) ∷ p.call f.Count (p.slot 0
    ∷ []) ∷ [])))) ≡ Ok (codes "2, 2, 1, 2")
unfolding digits chars
group_leaves_outer_variables = refl

-- for $x in (1, 2), $y in (1, 2) order by $y descending, $x return 10 * $x + $y
order_by_two : answer (p.flwor (p.for_in (p.seq (p.num 1 ∷ p.num 2 ∷ [])) ∷ p.for_in (p.seq (p.num
    1 ∷ p.num 2 ∷ [])) ∷ p.order_by (p.by (p.slot 1) descending ∷ p.by (p.slot 0) ascending ∷ []) ∷
    []) (p.chain (p.chain (p.num 10) (p.op (operator.Product Times) (p.slot 0) ∷ [])) (p.op
    (operator.Sum Plus) (p.slot 1) ∷ []))) ≡ Ok (codes "12, 22, 11, 21")
unfolding digits chars
order_by_two = refl

-- for $x in (3, 1, 2) order by (if ($x = 1) then () else $x) descending empty greatest return $x
order_descending_empty_greatest : answer (p.flwor (p.for_in (p.seq (p.num 3 ∷ p.num 1 ∷ p.num 2 ∷
    [])) ∷ p.order_by (p.by (p.iff (p.chain (p.slot 0) (p.op (operator.Comparison (General Equal))
    (p.num 1) ∷ [])) (p.seq []) (p.slot 0)) descending_greatest ∷ []) ∷ []) (p.slot 0)) ≡ Ok (codes
    "1, 3, 2")
unfolding digits chars
order_descending_empty_greatest = refl

-- let $s := (for $x in (1, 2) let $a := element a {attribute n {$x}} let $b := element b
-- {attribute n {$x}} return ($a, $b)) return ($s | ())/@n/string()
trees_of_the_next_tuple : answer (p.flwor (p.let_be (p.flwor (p.for_in (p.seq (p.num 1 ∷ p.num 2 ∷
    [])) ∷ p.let_be (p.named_node named.Element (p.txt "a") (p.named_node named.Attribute (p.txt
    "n") (p.slot 0))) ∷ p.let_be (p.named_node named.Element (p.txt "b") (p.named_node
    named.Attribute (p.txt "n") (p.slot 0))) ∷ []) (p.seq (p.slot 1 ∷ p.slot 2 ∷ []))) ∷ [])
    (p.path (p.chain (p.slot 0) (p.op (operator.Union) (p.seq []) ∷ [])) (p.scan axis.Attributes
    (test.Attribute (Some (codes "n"))) ∷ p.each (p.call f.String []) ∷ []))) ≡ Ok (codes
    "\"1\", \"2\", \"1\", \"2\"")
unfolding digits chars is_name_start is_name_char
trees_of_the_next_tuple = refl

-- every $x in (1, 2), $y in ($x, 3) satisfies $x le $y
every_of_two : answer (p.quantified quantifier.Every (p.seq (p.num 1 ∷ p.num 2 ∷ []) ∷ p.seq
    (p.slot 0 ∷ p.num 3 ∷ []) ∷ []) (p.chain (p.slot 0) (p.op (operator.Comparison (Value
    LessEqual)) (p.slot 1) ∷ []))) ≡ Ok (codes "true()")
unfolding digits chars
every_of_two = refl

-- some $x in (1, 0), $y in (1, 1 div $x) satisfies $y = 1
some_goes_depth_first : answer (p.quantified quantifier.Some (p.seq (p.num 1 ∷ p.num 0 ∷ []) ∷
    p.seq (p.num 1 ∷ p.chain (p.num 1) (p.op (operator.Product Div) (p.slot 0) ∷ []) ∷ []) ∷ [])
    (p.chain (p.slot 1) (p.op (operator.Comparison (General Equal)) (p.num 1) ∷ []))) ≡ Ok (codes
    "true()")
unfolding digits chars
some_goes_depth_first = refl

-- some $x in (1, 2), $x in (3, 4) satisfies $x = 4
quantifier_hides : answer (p.quantified quantifier.Some (p.seq (p.num 1 ∷ p.num 2 ∷ []) ∷ p.seq
    (p.num 3 ∷ p.num 4 ∷ []) ∷ []) (p.chain (p.slot 1) (p.op (operator.Comparison (General Equal))
    (p.num 4) ∷ []))) ≡ Ok (codes "true()")
unfolding digits chars
quantifier_hides = refl

-- "a" || "b" || 1, () || "x", 2.0 || true(), () || ()
concatenated : answer (p.seq (p.chain (p.txt "a") (p.op (operator.Concat) (p.txt "b") ∷ p.op
    (operator.Concat) (p.num 1) ∷ []) ∷ p.chain (p.seq []) (p.op (operator.Concat) (p.txt "x") ∷
    []) ∷ p.chain (p.dec 2000000) (p.op (operator.Concat) (p.call f.True []) ∷ []) ∷ p.chain (p.seq
    []) (p.op (operator.Concat) (p.seq []) ∷ []) ∷ [])) ≡ Ok (codes
    "\"ab1\", \"x\", \"2true\", \"\"")
unfolding digits chars
concatenated = refl

-- count(doc("b")/descendant::node()/descendant::node())
two_scans : answer (p.call f.Count (p.path (p.call f.Doc (p.txt "b" ∷ [])) (p.scan axis.Descendant
    test.Any ∷ p.scan axis.Descendant test.Any ∷ []) ∷ [])) ≡ Ok (codes "4")
unfolding digits chars
two_scans = refl

-- let $a := 1 return for $b in (1, 2) where some $c in ($a, $b) satisfies $c = 2 return ($a, $b)
variable_under_a_quantifier : answer (p.flwor (p.let_be (p.num 1) ∷ []) (p.flwor (p.for_in (p.seq
    (p.num 1 ∷ p.num 2 ∷ [])) ∷ p.where_is (p.quantified quantifier.Some (p.seq (p.slot 0 ∷ p.slot
    1 ∷ []) ∷ []) (p.chain (p.slot 2) (p.op (operator.Comparison (General Equal)) (p.num 2) ∷ [])))
    ∷ []) (p.seq (p.slot 0 ∷ p.slot 1 ∷ [])))) ≡ Ok (codes "1, 2")
unfolding digits chars
variable_under_a_quantifier = refl

-- (3, 1, 2) ! (. * 10)
map_atoms : answer (p.mapped (p.seq (p.num 3 ∷ p.num 1 ∷ p.num 2 ∷ [])) (p.chain p.dot (p.op
    (operator.Product Times) (p.num 10) ∷ []) ∷ [])) ≡ Ok (codes "30, 10, 20")
unfolding digits chars
map_atoms = refl

-- "a" => concat("b") => string-length()
arrow_chain : answer (p.arrow (p.call f.Concat (p.txt "a" ∷ p.txt "b" ∷ [])) ((f.StringLength, [])
    ∷ [])) ≡ Ok (codes "2")
unfolding digits chars
arrow_chain = refl

-- for $x allowing empty at $p in () count $c return ($p, $c)
allowing_empty_and_count : answer (p.flwor (p.for_or_none_at (p.seq []) ∷ p.numbers ∷ []) (p.seq
    (p.slot 1 ∷ p.slot 2 ∷ []))) ≡ Ok (codes "0, 1")
unfolding digits chars
allowing_empty_and_count = refl

-- for $x in ("a", "b"), $y in ("b", "a", "b") where $y = $x return ($x, $y), by a join
join_in_the_order_of_both : answer (p.flwor (p.for_in (p.seq (p.txt "a" ∷ p.txt "b" ∷ [])) ∷ p.join
    (p.seq (p.txt "b" ∷ p.txt "a" ∷ p.txt "b" ∷ [])) equality.General (p.key 1 [] key_form.Value)
    (p.key 0 [] key_form.Value) ∷ []) (p.seq (p.slot 0 ∷ p.slot 1 ∷ []))) ≡ Ok (codes
    "\"a\", \"a\", \"b\", \"b\", \"b\", \"b\"")
unfolding digits chars
join_in_the_order_of_both = refl

-- let $d := doc("b"), $i := "2" for $b in $d//book where $i eq string($b/@id) return string($b), by
-- a join whose range starts from a slot of the tuple
join_from_a_slot : answer (p.flwor (p.let_be (p.call f.Doc (p.txt "b" ∷ [])) ∷ p.let_be (p.txt "2")
    ∷ p.join_from 0 (p.path (p.slot 0) (p.scan axis.DescendantOrSelf test.Any ∷ p.scan axis.Child
    (test.Element (Some (codes "book"))) ∷ [])) equality.Value (p.key 1 [] key_form.Value) (p.key 2
    ((axis.Attributes, test.Attribute (Some (codes "id"))) ∷ []) key_form.String) ∷ []) (p.call
    f.String (p.slot 2 ∷ []))) ≡ Ok (codes "\"B\"")
unfolding digits chars
join_from_a_slot = refl

-- for $x in ("a", "b") let $y := () for $z in (1, 2) where string($y) eq $z return 1, by a join: the
-- empty text and a number
join_of_the_empty_text : answer (p.flwor (p.for_in (p.seq (p.txt "a" ∷ p.txt "b" ∷ [])) ∷ p.let_be
    (p.seq []) ∷ p.join (p.seq (p.num 1 ∷ p.num 2 ∷ [])) equality.Value (p.key 1 []
    key_form.String) (p.key 2 [] key_form.Value) ∷ []) (p.num 1)) ≡ Err XPTY0004
unfolding digits chars
join_of_the_empty_text = refl

-- for $x in ("a", "b") let $y := () for $z in (1, 2) where $y eq $z return 1, by a join: nothing
-- equals nothing
join_of_nothing : answer (p.flwor (p.for_in (p.seq (p.txt "a" ∷ p.txt "b" ∷ [])) ∷ p.let_be
    (p.seq []) ∷ p.join (p.seq (p.num 1 ∷ p.num 2 ∷ [])) equality.Value (p.key 1 []
    key_form.Data) (p.key 2 [] key_form.Data) ∷ []) (p.num 1)) ≡ Ok (codes "()")
unfolding digits chars
join_of_nothing = refl

-- let $y := (1, 2) for $z in "a" where $z/a = string($y) return 1, by a join: the left key is
-- refused before the right one
join_refuses_the_left_key : answer (p.flwor (p.let_be (p.seq (p.num 1 ∷ p.num 2 ∷ [])) ∷ p.join
    (p.txt "a") equality.General (p.key 1 ((axis.Child, test.Any) ∷ []) key_form.Value) (p.key 0 []
    key_form.String) ∷ []) (p.num 1)) ≡ Err XPTY0019
unfolding digits chars
join_refuses_the_left_key = refl

-- for $x in ("a", "b", "c") let $m := for $y in ("b", "a", "b") where $y = $x return $y return
-- count($m), by a group join
group_join_counts : answer (p.flwor (p.for_in (p.seq (p.txt "a" ∷ p.txt "b" ∷ p.txt "c" ∷ []))
    ∷ p.group_join (p.seq (p.txt "b" ∷ p.txt "a" ∷ p.txt "b" ∷ [])) equality.General (p.key 1 []
    key_form.Value) (p.key 0 [] key_form.Value) ∷ []) (p.call f.Count (p.slot 1 ∷ []))) ≡ Ok (codes
    "1, 2, 0")
unfolding digits chars
group_join_counts = refl

-- let $d := doc("b"), $i := "2" let $m := for $b in $d//book where $i eq string($b/@id) return $b
-- return string($m), by a group join whose range starts from a slot of the tuple
group_join_from_a_slot : answer (p.flwor (p.let_be (p.call f.Doc (p.txt "b" ∷ [])) ∷ p.let_be
    (p.txt "2") ∷ p.group_join_from 0 (p.path (p.slot 0) (p.scan axis.DescendantOrSelf test.Any
    ∷ p.scan axis.Child (test.Element (Some (codes "book"))) ∷ [])) equality.Value (p.key 1 []
    key_form.Value) (p.key 2 ((axis.Attributes, test.Attribute (Some (codes "id"))) ∷ [])
    key_form.String) ∷ []) (p.call f.String (p.slot 2 ∷ []))) ≡ Ok (codes "\"B\"")
unfolding digits chars
group_join_from_a_slot = refl

-- for $x in ("a", "b") let $y := () let $m := for $z in (1, 2) where string($y) eq $z return $z
-- return 1, by a group join: the empty text and a number
group_join_of_the_empty_text : answer (p.flwor (p.for_in (p.seq (p.txt "a" ∷ p.txt "b" ∷ []))
    ∷ p.let_be (p.seq []) ∷ p.group_join (p.seq (p.num 1 ∷ p.num 2 ∷ [])) equality.Value (p.key 1 []
    key_form.String) (p.key 2 [] key_form.Value) ∷ []) (p.num 1)) ≡ Err XPTY0004
unfolding digits chars
group_join_of_the_empty_text = refl
