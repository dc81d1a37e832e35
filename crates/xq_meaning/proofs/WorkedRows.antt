-- The worked rows of the language, over the library under the address b.
use Rattle.std.specs.Prelude.{◌≡◌, refl, [], ◌∷◌, Ok, Err, codes}
use Rattle.std.specs.Fmt.{digits}
use Rattle.std.specs.Str.{chars}
use Rattle.std.specs.Char.{encode_utf8}
use Rattle.xq_atoms.specs.Characters.{is_name_start, is_name_char}
use Rattle.xq_atoms.specs.declared.refusals.Code.TheVariants.{FOAR0001, FOAR0002, FODC0002, ProfDouble, ProfRange, XPTY0004, XQTY0024}
use Rattle.xq_expressions.specs.declared.operators.Sign.TheVariants.{Minus}
use Rattle.xq_expressions.specs.declared.operators.Relation.TheVariants.{Equal}
use Rattle.xq_expressions.specs.declared.operators.ComparisonOperator.TheVariants.{General, Node}
use Rattle.xq_expressions.specs.declared.operators.NodeComparison.TheVariants.{Is, Precedes}
use Rattle.xq_expressions.specs.declared.operators.Quantifier.TheVariants as quantifier
use Rattle.xq_expressions.specs.declared.operators.AxisName.TheVariants as axis
use Rattle.xq_expressions.specs.declared.operators.NodeTest.TheVariants as written
use Rattle.xq_meaning.proofs.Writing.{num, dec, txt, var, dot, seq, none, call, call_by, prefixed, sum, product, unary, to, compare, union, iff, quantified, path, primary, filtered, named, along, bare_step, child, at_test, at, element, attribute, document, text, flwor, for_all, for_in, let_all, let_be, where_is, grouping, assigned, group_by, order_by, descending, plus, minus, div_by, idiv_by, mod_by, slash, below, be, each_at, by}
use Rattle.xq_meaning.proofs.Library.{answer}

-- doc("b")
document_b : answer (call "doc" (txt "b" ∷ [])) ≡ Ok (codes
    "document {element lib {element book {attribute id {\"1\"}, text {\"A\"}}, element book {attribute id {\"2\"}, text {\"B\"}}}}")
unfolding digits chars
document_b = refl

-- root((doc("b")//text())[1])
root_of_a_text : answer (call "root" (path (filtered (path (primary (call "doc" (txt "b" ∷ [])))
    (below (bare_step written.Text []) ∷ [])) (num 1 ∷ [])) [] ∷ [])) ≡ Ok (codes
    "document {element lib {element book {attribute id {\"1\"}, text {\"A\"}}, element book {attribute id {\"2\"}, text {\"B\"}}}}")
unfolding digits chars
root_of_a_text = refl

-- name(doc("b")/*)
name_of_a_child : answer (call "name" (path (primary (call "doc" (txt "b" ∷ []))) (slash (bare_step
    written.AnyName []) ∷ []) ∷ [])) ≡ Ok (codes "\"lib\"")
unfolding digits chars
name_of_a_child = refl

-- doc("b")//book[1]
first_book : answer (path (primary (call "doc" (txt "b" ∷ []))) (below (bare_step (named "book")
    (num 1 ∷ [])) ∷ [])) ≡ Ok (codes "element book {attribute id {\"1\"}, text {\"A\"}}")
unfolding digits chars
first_book = refl

-- (doc("b")//text())[2]/preceding::node()[1]
preceding_node : answer (path (filtered (path (primary (call "doc" (txt "b" ∷ []))) (below
    (bare_step written.Text []) ∷ [])) (num 2 ∷ [])) (slash (along axis.Preceding written.Node (num
    1 ∷ [])) ∷ [])) ≡ Ok (codes "text {\"A\"}")
unfolding digits chars
preceding_node = refl

-- doc("b")//book[2]/preceding-sibling::*[1]/@id
preceding_sibling : answer (path (primary (call "doc" (txt "b" ∷ []))) (below (bare_step (named
    "book") (num 2 ∷ [])) ∷ slash (along axis.PrecedingSibling written.AnyName (num 1 ∷ [])) ∷
    slash (at "id") ∷ [])) ≡ Ok (codes "attribute id {\"1\"}")
unfolding digits chars
preceding_sibling = refl

-- doc("b")//@id[. = "1"]/following::node()
following_of_an_attribute : answer (path (primary (call "doc" (txt "b" ∷ []))) (below (at_test
    (named "id") (compare (General Equal) dot (txt "1") ∷ [])) ∷ slash (along axis.Following
    written.Node []) ∷ [])) ≡ Ok (codes
    "text {\"A\"}, element book {attribute id {\"2\"}, text {\"B\"}}, text {\"B\"}")
unfolding digits chars
following_of_an_attribute = refl

-- doc("b")//@id = 1
untyped_and_number : answer (compare (General Equal) (path (primary (call "doc" (txt "b" ∷ [])))
    (below (at "id") ∷ [])) (num 1)) ≡ Err ProfDouble
unfolding digits chars
untyped_and_number = refl

-- (1, "a") = 1
first_pair_holds : answer (compare (General Equal) (seq (num 1 ∷ txt "a" ∷ [])) (num 1)) ≡ Ok
    (codes "true()")
unfolding digits chars
first_pair_holds = refl

-- ("a", 1) = 1
first_pair_is_refused : answer (compare (General Equal) (seq (txt "a" ∷ num 1 ∷ [])) (num 1)) ≡ Err
    XPTY0004
unfolding digits chars
first_pair_is_refused = refl

-- for $b in doc("b")//book order by xs:integer($b/@id) descending return string($b)
order_by_number : answer (flwor (for_in "b" (path (primary (call "doc" (txt "b" ∷ []))) (below
    (child "book") ∷ [])) ∷ order_by (by (call_by (prefixed "xs" "integer") (path (primary (var
    "b")) (slash (at "id") ∷ []) ∷ [])) descending ∷ []) ∷ []) (call "string" (var "b" ∷ []))) ≡ Ok
    (codes "\"B\", \"A\"")
unfolding digits chars
order_by_number = refl

-- for $b in (1, 2) order by (if ($b = 1) then () else 5) descending return $b
order_with_no_key : answer (flwor (for_in "b" (seq (num 1 ∷ num 2 ∷ [])) ∷ order_by (by (iff
    (compare (General Equal) (var "b") (num 1)) none (num 5)) descending ∷ []) ∷ []) (var "b")) ≡
    Ok (codes "2, 1")
unfolding digits chars
order_with_no_key = refl

-- for $x in (1, 1.0, "1") let $y := $x group by $x return count($y)
group_by_value : answer (flwor (for_in "x" (seq (num 1 ∷ dec 1000000 ∷ txt "1" ∷ [])) ∷ let_be "y"
    (var "x") ∷ group_by (grouping "x" ∷ []) ∷ []) (call "count" (var "y" ∷ []))) ≡ Ok (codes
    "2, 1")
unfolding digits chars
group_by_value = refl

-- for $x in (1.0, 1) group by $x return $x
group_keeps_first_key : answer (flwor (for_in "x" (seq (dec 1000000 ∷ num 1 ∷ [])) ∷ group_by
    (grouping "x" ∷ []) ∷ []) (var "x")) ≡ Ok (codes "1.0")
unfolding digits chars
group_keeps_first_key = refl

-- for $b in doc("b")//book group by $k := string-length($b) return count($b)
group_by_expression : answer (flwor (for_in "b" (path (primary (call "doc" (txt "b" ∷ []))) (below
    (child "book") ∷ [])) ∷ group_by (assigned "k" (call "string-length" (var "b" ∷ [])) ∷ []) ∷
    []) (call "count" (var "b" ∷ []))) ≡ Ok (codes "2")
unfolding digits chars
group_by_expression = refl

-- 4 div 2, string(4 div 2), 1 div 3
quotients : answer (seq (product (num 4) (div_by (num 2) ∷ []) ∷ call "string" (product (num 4)
    (div_by (num 2) ∷ []) ∷ []) ∷ product (num 1) (div_by (num 3) ∷ []) ∷ [])) ≡ Ok (codes
    "2.0, \"2\", 0.333333")
unfolding digits chars
quotients = refl

-- 7 idiv 2, -7 idiv 2, -7 mod 2, 7.5 mod 2
whole_quotients : answer (seq (product (num 7) (idiv_by (num 2) ∷ []) ∷ product (unary (Minus ∷ [])
    (num 7)) (idiv_by (num 2) ∷ []) ∷ product (unary (Minus ∷ []) (num 7)) (mod_by (num 2) ∷ []) ∷
    product (dec 7500000) (mod_by (num 2) ∷ []) ∷ [])) ≡ Ok (codes "3, -3, -1, 1.5")
unfolding digits chars
whole_quotients = refl

-- 9223372036854775807 + 1
greatest_and_one : answer (sum (num 9223372036854775807) (plus (num 1) ∷ [])) ≡ Err FOAR0002
unfolding digits chars
greatest_and_one = refl

-- -9223372036854775807 - 1
least_integer : answer (sum (unary (Minus ∷ []) (num 9223372036854775807)) (minus (num 1) ∷ [])) ≡
    Ok (codes "xs:integer(\"-9223372036854775808\")")
unfolding digits chars
least_integer = refl

-- element a {"", attribute b {"1"}}
empty_text_before_attribute : answer (element "a" (seq (txt "" ∷ attribute "b" (txt "1") ∷ []))) ≡
    Ok (codes "element a {attribute b {\"1\"}}")
unfolding digits chars is_name_start is_name_char
empty_text_before_attribute = refl

-- element a {"x", attribute b {"1"}}
text_before_attribute : answer (element "a" (seq (txt "x" ∷ attribute "b" (txt "1") ∷ []))) ≡ Err
    XQTY0024
unfolding digits chars is_name_start is_name_char
text_before_attribute = refl

-- element a {1, 2, text {""}, 3, "x"}
runs_and_texts : answer (element "a" (seq (num 1 ∷ num 2 ∷ text (txt "") ∷ num 3 ∷ txt "x" ∷ [])))
    ≡ Ok (codes "element a {text {\"1 23 x\"}}")
unfolding digits chars is_name_start is_name_char
runs_and_texts = refl

-- text {()}, text {""}, document {}
no_text : answer (seq (text none ∷ text (txt "") ∷ document none ∷ [])) ≡ Ok (codes
    "text {\"\"}, document {}")
unfolding digits chars
no_text = refl

-- "a""&amp;&#xD;"
quoted : answer (txt "a\"&\r") ≡ Ok (codes "\"a\"\"&amp;&#xD;\"")
unfolding digits chars
quoted = refl

-- "a\r\nb"
line_ends : answer (txt "a\nb") ≡ Ok (codes "\"a\nb\"")
unfolding digits chars
line_ends = refl

-- data(doc("b")//@id), true(), -1, -0.5
atoms_read_back : answer (seq (call "data" (path (primary (call "doc" (txt "b" ∷ []))) (below (at
    "id") ∷ []) ∷ []) ∷ call "true" [] ∷ unary (Minus ∷ []) (num 1) ∷ unary (Minus ∷ []) (dec
    500000) ∷ [])) ≡ Ok (codes
    "xs:untypedAtomic(\"1\"), xs:untypedAtomic(\"2\"), true(), -1, -0.5")
unfolding digits chars
atoms_read_back = refl

-- xs:untypedAtomic("1"), xs:untypedAtomic("2"), true(), -1, -0.5
atoms_again : answer (seq (call_by (prefixed "xs" "untypedAtomic") (txt "1" ∷ []) ∷ call_by
    (prefixed "xs" "untypedAtomic") (txt "2" ∷ []) ∷ call "true" [] ∷ unary (Minus ∷ []) (num 1) ∷
    unary (Minus ∷ []) (dec 500000) ∷ [])) ≡ Ok (codes
    "xs:untypedAtomic(\"1\"), xs:untypedAtomic(\"2\"), true(), -1, -0.5")
unfolding digits chars
atoms_again = refl

-- element x {}
no_document : answer (element "x" none) ≡ Ok (codes "element x {}")
unfolding digits chars is_name_start is_name_char
no_document = refl

-- let $b := doc("b")//book return ($b[2], $b[1]) | $b[1]
union_in_order : answer (flwor (let_be "b" (path (primary (call "doc" (txt "b" ∷ []))) (below
    (child "book") ∷ [])) ∷ []) (union (seq (path (filtered (var "b") (num 2 ∷ [])) [] ∷ path
    (filtered (var "b") (num 1 ∷ [])) [] ∷ []) ∷ path (filtered (var "b") (num 1 ∷ [])) [] ∷ [])))
    ≡ Ok (codes
    "element book {attribute id {\"1\"}, text {\"A\"}}, element book {attribute id {\"2\"}, text {\"B\"}}")
unfolding digits chars
union_in_order = refl

-- let $x := element x {}, $y := element y {} return ($y | $x)
new_trees_in_order : answer (flwor (let_all (be "x" (element "x" none) ∷ be "y" (element "y" none)
    ∷ []) ∷ []) (union (var "y" ∷ var "x" ∷ []))) ≡ Ok (codes "element x {}, element y {}")
unfolding digits chars is_name_start is_name_char
new_trees_in_order = refl

-- let $b := doc("b")//book return ($b[1] << $b[2], () is $b[1])
before_and_nothing : answer (flwor (let_be "b" (path (primary (call "doc" (txt "b" ∷ []))) (below
    (child "book") ∷ [])) ∷ []) (seq (compare (Node Precedes) (path (filtered (var "b") (num 1 ∷
    [])) []) (path (filtered (var "b") (num 2 ∷ [])) []) ∷ compare (Node Is) none (path (filtered
    (var "b") (num 1 ∷ [])) []) ∷ []))) ≡ Ok (codes "true()")
unfolding digits chars
before_and_nothing = refl

-- (: a (: b :) c :) 1
nested_comment : answer (num 1) ≡ Ok (codes "1")
unfolding digits chars
nested_comment = refl

-- element div {element for {}}/for
words_as_names : answer (path (primary (element "div" (element "for" none))) (slash (child "for") ∷
    [])) ≡ Ok (codes "element for {}")
unfolding digits chars is_name_start is_name_char
words_as_names = refl

-- round(2.5), round(-2.5), floor(-0.5), abs(-3)
rounded : answer (seq (call "round" (dec 2500000 ∷ []) ∷ call "round" (unary (Minus ∷ []) (dec
    2500000) ∷ []) ∷ call "floor" (unary (Minus ∷ []) (dec 500000) ∷ []) ∷ call "abs" (unary (Minus
    ∷ []) (num 3) ∷ []) ∷ [])) ≡ Ok (codes "3.0, -2.0, -1.0, 3")
unfolding digits chars
rounded = refl

-- sum((1, 2.5)), sum(()), min((2, 1.0)), max(("a", "B"))
aggregates : answer (seq (call "sum" (seq (num 1 ∷ dec 2500000 ∷ []) ∷ []) ∷ call "sum" (none ∷ [])
    ∷ call "min" (seq (num 2 ∷ dec 1000000 ∷ []) ∷ []) ∷ call "max" (seq (txt "a" ∷ txt "B" ∷ []) ∷
    []) ∷ [])) ≡ Ok (codes "3.5, 0, 1.0, \"a\"")
unfolding digits chars
aggregates = refl

-- substring("12345", 2, 3), substring("12345", 0, 3), substring-after("abc", "b"),
-- substring-before("abc", "x")
substrings : answer (seq (call "substring" (txt "12345" ∷ num 2 ∷ num 3 ∷ []) ∷ call "substring"
    (txt "12345" ∷ num 0 ∷ num 3 ∷ []) ∷ call "substring-after" (txt "abc" ∷ txt "b" ∷ []) ∷ call
    "substring-before" (txt "abc" ∷ txt "x" ∷ []) ∷ [])) ≡ Ok (codes
    "\"234\", \"12\", \"c\", \"\"")
unfolding digits chars encode_utf8
substrings = refl

-- normalize-space("  a  b "), string-join(("a", "b"), "-"), concat("a", 1)
strings : answer (seq (call "normalize-space" (txt "  a  b " ∷ []) ∷ call "string-join" (seq (txt
    "a" ∷ txt "b" ∷ []) ∷ txt "-" ∷ []) ∷ call "concat" (txt "a" ∷ num 1 ∷ []) ∷ [])) ≡ Ok (codes
    "\"a b\", \"a-b\", \"a1\"")
unfolding digits chars
strings = refl

-- xs:integer(" 7 "), xs:integer(-1.9), xs:boolean("1"), xs:decimal(".5")
casts : answer (seq (call_by (prefixed "xs" "integer") (txt " 7 " ∷ []) ∷ call_by (prefixed "xs"
    "integer") (unary (Minus ∷ []) (dec 1900000) ∷ []) ∷ call_by (prefixed "xs" "boolean") (txt "1"
    ∷ []) ∷ call_by (prefixed "xs" "decimal") (txt ".5" ∷ []) ∷ [])) ≡ Ok (codes
    "7, -1, true(), 0.5")
unfolding digits chars
casts = refl

-- distinct-values((1, 1.0, "1", xs:untypedAtomic("1")))
distinct_values : answer (call "distinct-values" (seq (num 1 ∷ dec 1000000 ∷ txt "1" ∷ call_by
    (prefixed "xs" "untypedAtomic") (txt "1" ∷ []) ∷ []) ∷ [])) ≡ Ok (codes "1, \"1\"")
unfolding digits chars
distinct_values = refl

-- for $b at $i in doc("b")//book where $i = 2 return $b/@id
at_two : answer (flwor (for_all (each_at "b" "i" (path (primary (call "doc" (txt "b" ∷ []))) (below
    (child "book") ∷ [])) ∷ []) ∷ where_is (compare (General Equal) (var "i") (num 2)) ∷ []) (path
    (primary (var "b")) (slash (at "id") ∷ []))) ≡ Ok (codes "attribute id {\"2\"}")
unfolding digits chars
at_two = refl

-- some $x in (1, 2) satisfies $x = 2
some_is_two : answer (quantified quantifier.Some (be "x" (seq (num 1 ∷ num 2 ∷ [])) ∷ []) (compare
    (General Equal) (var "x") (num 2))) ≡ Ok (codes "true()")
unfolding digits chars
some_is_two = refl

-- (((1)))
parentheses : answer (num 1) ≡ Ok (codes "1")
unfolding digits chars
parentheses = refl

-- 1 to 3
range_up : answer (to (num 1) (num 3)) ≡ Ok (codes "1, 2, 3")
unfolding digits chars
range_up = refl

-- 3 to 1
range_down : answer (to (num 3) (num 1)) ≡ Ok (codes "()")
unfolding digits chars
range_down = refl

-- 1 to 1000001
range_over_a_million : answer (to (num 1) (num 1000001)) ≡ Err ProfRange
unfolding digits chars
range_over_a_million = refl

-- count(doc("b")//node())
nodes_below : answer (call "count" (path (primary (call "doc" (txt "b" ∷ []))) (below (bare_step
    written.Node []) ∷ []) ∷ [])) ≡ Ok (codes "5")
unfolding digits chars
nodes_below = refl

-- document {doc("b")/lib/book[2]}
book_in_a_document : answer (document (path (primary (call "doc" (txt "b" ∷ []))) (slash (child
    "lib") ∷ slash (bare_step (named "book") (num 2 ∷ [])) ∷ []))) ≡ Ok (codes
    "document {element book {attribute id {\"2\"}, text {\"B\"}}}")
unfolding digits chars
book_in_a_document = refl

-- doc("c")
absent_document : answer (call "doc" (txt "c" ∷ [])) ≡ Err FODC0002
unfolding digits chars
absent_document = refl

-- doc("b")//text()[1]
text_of_each_parent : answer (path (primary (call "doc" (txt "b" ∷ []))) (below (bare_step
    written.Text (num 1 ∷ [])) ∷ [])) ≡ Ok (codes "text {\"A\"}, text {\"B\"}")
unfolding digits chars
text_of_each_parent = refl

-- let $x := 1 div 0 return 1
unused_let : answer (flwor (let_be "x" (product (num 1) (div_by (num 0) ∷ [])) ∷ []) (num 1)) ≡ Err
    FOAR0001
unfolding digits chars
unused_let = refl

-- let $x := element x {}, $y := element y {$x} return $y/x is $x
copied_into_content : answer (flwor (let_all (be "x" (element "x" none) ∷ be "y" (element "y" (var
    "x")) ∷ []) ∷ []) (compare (Node Is) (path (primary (var "y")) (slash (child "x") ∷ [])) (var
    "x"))) ≡ Ok (codes "false()")
unfolding digits chars is_name_start is_name_char
copied_into_content = refl

-- "a" + xs:untypedAtomic("1")
left_is_judged_first : answer (sum (txt "a") (plus (call_by (prefixed "xs" "untypedAtomic") (txt
    "1" ∷ [])) ∷ [])) ≡ Err XPTY0004
unfolding digits chars
left_is_judged_first = refl

-- 1 + 2
printed_sum : answer (sum (num 1) (plus (num 2) ∷ [])) ≡ Ok (codes "3")
unfolding digits chars
printed_sum = refl
