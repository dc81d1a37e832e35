-- The examples of docs/LANGUAGE.md, by its headings.
use Rattle.std.specs.Prelude.{◌≡◌, refl, [], ◌∷◌, Some, Ok, Err, codes}
use Rattle.std.specs.Fmt.{digits}
use Rattle.std.specs.Str.{chars}
use Rattle.xq_atoms.specs.Characters.{is_name_start, is_name_char}
use Rattle.xq_atoms.specs.declared.refusals.Code.TheVariants.{FOAR0001, FOAR0002, FORG0006, ProfDouble, ProfPrefix, ProfRange, XPDY0002, XPDY0050, XPST0017, XPTY0004, XPTY0018, XPTY0019, XPTY0020, XQDY0025, XQDY0026, XQDY0041, XQDY0044, XQDY0064, XQDY0072, XQDY0074, XQTY0024}
use Rattle.xq_expressions.specs.declared.operators.Sign.TheVariants.{Plus, Minus}
use Rattle.xq_expressions.specs.declared.operators.Relation.TheVariants.{Equal, Less}
use Rattle.xq_expressions.specs.declared.operators.ComparisonOperator.TheVariants.{Value, General, Node}
use Rattle.xq_expressions.specs.declared.operators.NodeComparison.TheVariants.{Is, Precedes}
use Rattle.xq_expressions.specs.declared.operators.AxisName.TheVariants as axis
use Rattle.xq_expressions.specs.declared.operators.NodeTest.TheVariants as written
use Rattle.xq_meaning.proofs.Writing.{bare, prefixed, num, dec, txt, var, dot, seq, none, call, call_by, onto, arrow, mapped, plus, times, div_by, idiv_by, mod_by, intersect, without, sum, product, unary, to, concat, compare, union, sets, any_of, all_of, iff, slash, below, root, path, path_from_root, path_below_root, primary, filtered, named, along, bare_step, child, at_test, at, up, element, element_by, attribute, instruction, instruction_by, document, text, comment, flwor, let_be}
use Rattle.xq_meaning.proofs.Library.{answer}

-- 1, 1.5, "a", ()
values_1 : answer (seq (num 1 ∷ dec 1500000 ∷ txt "a" ∷ none ∷ [])) ≡ Ok (codes "1, 1.5, \"a\"")
unfolding digits chars
values_1 = refl

-- data(element a {"x", element b {"y"}}), data(comment {"c"})
values_2 : answer (seq (call "data" (element "a" (seq (txt "x" ∷ element "b" (txt "y") ∷ [])) ∷ [])
    ∷ call "data" (comment (txt "c") ∷ []) ∷ [])) ≡ Ok (codes "xs:untypedAtomic(\"xy\"), \"c\"")
unfolding digits chars is_name_start is_name_char
values_2 = refl

-- data(doc("b")//@id)
values_3 : answer (call "data" (path (primary (call "doc" (txt "b" ∷ []))) (below (at "id") ∷ []) ∷
    [])) ≡ Ok (codes "xs:untypedAtomic(\"1\"), xs:untypedAtomic(\"2\")")
unfolding digits chars
values_3 = refl

-- boolean(()), boolean(doc("b")), boolean("0"), boolean(0.0)
values_4 : answer (seq (call "boolean" (none ∷ []) ∷ call "boolean" (call "doc" (txt "b" ∷ []) ∷
    []) ∷ call "boolean" (txt "0" ∷ []) ∷ call "boolean" (dec 0 ∷ []) ∷ [])) ≡ Ok (codes
    "false(), true(), true(), false()")
unfolding digits chars
values_4 = refl

-- boolean((1, 2))
values_5 : answer (call "boolean" (seq (num 1 ∷ num 2 ∷ []) ∷ [])) ≡ Err FORG0006
unfolding digits chars
values_5 = refl

-- element a {} << element b {}, doc("b") << element a {}
values_6 : answer (seq (compare (Node Precedes) (element "a" none) (element "b" none) ∷ compare
    (Node Precedes) (call "doc" (txt "b" ∷ [])) (element "a" none) ∷ [])) ≡ Ok (codes
    "true(), true()")
unfolding digits chars is_name_start is_name_char
values_6 = refl

-- "it's", 'it''s', "&lt;&#65;", .5, 7.
primary_expressions_1 : answer (seq (txt "it's" ∷ txt "it's" ∷ txt "<A" ∷ dec 500000 ∷ dec 7000000
    ∷ [])) ≡ Ok (codes "\"it's\", \"it's\", \"<A\", 0.5, 7.0")
unfolding digits chars
primary_expressions_1 = refl

-- let $x := 1 let $x := $x + 1 return $x
primary_expressions_2 : answer (flwor (let_be "x" (num 1) ∷ let_be "x" (sum (var "x") (plus (num 1)
    ∷ [])) ∷ []) (var "x")) ≡ Ok (codes "2")
unfolding digits chars
primary_expressions_2 = refl

-- (1, 2)[. = 2]
primary_expressions_3 : answer (path (filtered (seq (num 1 ∷ num 2 ∷ [])) (compare (General Equal)
    dot (num 2) ∷ [])) []) ≡ Ok (codes "2")
unfolding digits chars
primary_expressions_3 = refl

-- .
primary_expressions_4 : answer dot ≡ Err XPDY0002
unfolding digits chars
primary_expressions_4 = refl

-- (1, (2, ()), 3)
primary_expressions_5 : answer (seq (num 1 ∷ seq (num 2 ∷ none ∷ []) ∷ num 3 ∷ [])) ≡ Ok (codes
    "1, 2, 3")
unfolding digits chars
primary_expressions_5 = refl

-- fn:concat("a", 1 + 1)
primary_expressions_6 : answer (call_by (prefixed "fn" "concat") (txt "a" ∷ sum (num 1) (plus (num
    1) ∷ []) ∷ [])) ≡ Ok (codes "\"a2\"")
unfolding digits chars
primary_expressions_6 = refl

-- contains(1, 1 div 0)
primary_expressions_7 : answer (call "contains" (num 1 ∷ product (num 1) (div_by (num 0) ∷ []) ∷
    [])) ≡ Err FOAR0001
unfolding digits chars
primary_expressions_7 = refl

-- element div {element for {}}/for
primary_expressions_8 : answer (path (primary (element "div" (element "for" none))) (slash (child
    "for") ∷ [])) ≡ Ok (codes "element for {}")
unfolding digits chars is_name_start is_name_char
primary_expressions_8 = refl

-- 4 div 2, 1 div 3, 7.5 idiv 2, -7 mod 2, 2 * 1.5
operators_1 : answer (seq (product (num 4) (div_by (num 2) ∷ []) ∷ product (num 1) (div_by (num 3)
    ∷ []) ∷ product (dec 7500000) (idiv_by (num 2) ∷ []) ∷ product (unary (Minus ∷ []) (num 7))
    (mod_by (num 2) ∷ []) ∷ product (num 2) (times (dec 1500000) ∷ []) ∷ [])) ≡ Ok (codes
    "2.0, 0.333333, 3, -1, 3.0")
unfolding digits chars
operators_1 = refl

-- () + "a"
operators_2 : answer (sum none (plus (txt "a") ∷ [])) ≡ Ok (codes "()")
unfolding digits chars
operators_2 = refl

-- 1 div 0
operators_3 : answer (product (num 1) (div_by (num 0) ∷ [])) ≡ Err FOAR0001
unfolding digits chars
operators_3 = refl

-- 9223372036854775807 + 1
operators_4 : answer (sum (num 9223372036854775807) (plus (num 1) ∷ [])) ≡ Err FOAR0002
unfolding digits chars
operators_4 = refl

-- "1" + 1
operators_5 : answer (sum (txt "1") (plus (num 1) ∷ [])) ≡ Err XPTY0004
unfolding digits chars
operators_5 = refl

-- doc("b")//book[1]/@id + 1
operators_6 : answer (sum (path (primary (call "doc" (txt "b" ∷ []))) (below (bare_step (named
    "book") (num 1 ∷ [])) ∷ slash (at "id") ∷ [])) (plus (num 1) ∷ [])) ≡ Err ProfDouble
unfolding digits chars
operators_6 = refl

-- -1, --1, -(2.5), -()
operators_7 : answer (seq (unary (Minus ∷ []) (num 1) ∷ unary (Minus ∷ Minus ∷ []) (num 1) ∷ unary
    (Minus ∷ []) (dec 2500000) ∷ unary (Minus ∷ []) none ∷ [])) ≡ Ok (codes "-1, 1, -2.5")
unfolding digits chars
operators_7 = refl

-- +"1"
operators_8 : answer (unary (Plus ∷ []) (txt "1")) ≡ Err XPTY0004
unfolding digits chars
operators_8 = refl

-- "a" => concat("b") => string-length(), -3 => abs()
operators_9 : answer (seq (arrow (txt "a") (onto "concat" (txt "b" ∷ []) ∷ onto "string-length" []
    ∷ []) ∷ arrow (unary (Minus ∷ []) (num 3)) (onto "abs" [] ∷ []) ∷ [])) ≡ Ok (codes "2, 3")
unfolding digits chars
operators_9 = refl

-- (1, 2, 3) => sum() + 1
operators_10 : answer (sum (arrow (seq (num 1 ∷ num 2 ∷ num 3 ∷ [])) (onto "sum" [] ∷ [])) (plus
    (num 1) ∷ [])) ≡ Ok (codes "7")
unfolding digits chars
operators_10 = refl

-- (1 div 0) => concat(xs:integer("x"))
operators_11 : answer (arrow (product (num 1) (div_by (num 0) ∷ [])) (onto "concat" (call_by
    (prefixed "xs" "integer") (txt "x" ∷ []) ∷ []) ∷ [])) ≡ Err FOAR0001
unfolding digits chars
operators_11 = refl

-- 1 => position()
operators_12 : answer (arrow (num 1) (onto "position" [] ∷ [])) ≡ Err XPST0017
unfolding digits chars
operators_12 = refl

-- (3, 1, 2) ! (. * 10), "a" ! position() ! last()
operators_13 : answer (seq (mapped (seq (num 3 ∷ num 1 ∷ num 2 ∷ [])) (product dot (times (num 10)
    ∷ []) ∷ []) ∷ mapped (txt "a") (call "position" [] ∷ call "last" [] ∷ []) ∷ [])) ≡ Ok (codes
    "30, 10, 20, 1")
unfolding digits chars
operators_13 = refl

-- (doc("b")//book[2], doc("b")//book[1]) ! @id ! string()
operators_14 : answer (mapped (seq (path (primary (call "doc" (txt "b" ∷ []))) (below (bare_step
    (named "book") (num 2 ∷ [])) ∷ []) ∷ path (primary (call "doc" (txt "b" ∷ []))) (below
    (bare_step (named "book") (num 1 ∷ [])) ∷ []) ∷ [])) (path (at "id") [] ∷ call "string" [] ∷
    [])) ≡ Ok (codes "\"2\", \"1\"")
unfolding digits chars
operators_14 = refl

-- doc("b")//book[1] ! (@id, 1)
operators_15 : answer (mapped (path (primary (call "doc" (txt "b" ∷ []))) (below (bare_step (named
    "book") (num 1 ∷ [])) ∷ [])) (seq (path (at "id") [] ∷ num 1 ∷ []) ∷ [])) ≡ Ok (codes
    "attribute id {\"1\"}, 1")
unfolding digits chars
operators_15 = refl

-- -1 ! (. + 1)
operators_16 : answer (unary (Minus ∷ []) (mapped (num 1) (sum dot (plus (num 1) ∷ []) ∷ []))) ≡ Ok
    (codes "-2")
unfolding digits chars
operators_16 = refl

-- 1 to 3, 3 to 1, xs:untypedAtomic("5") to 5
operators_17 : answer (seq (to (num 1) (num 3) ∷ to (num 3) (num 1) ∷ to (call_by (prefixed "xs"
    "untypedAtomic") (txt "5" ∷ [])) (num 5) ∷ [])) ≡ Ok (codes "1, 2, 3, 5")
unfolding digits chars
operators_17 = refl

-- 1 to 1000001
operators_18 : answer (to (num 1) (num 1000001)) ≡ Err ProfRange
unfolding digits chars
operators_18 = refl

-- 1.0 to 3
operators_19 : answer (to (dec 1000000) (num 3)) ≡ Err XPTY0004
unfolding digits chars
operators_19 = refl

-- "a" || 1 || (), 2.0 || true()
operators_20 : answer (seq (concat (txt "a" ∷ num 1 ∷ none ∷ []) ∷ concat (dec 2000000 ∷ call
    "true" [] ∷ []) ∷ [])) ≡ Ok (codes "\"a1\", \"2true\"")
unfolding digits chars
operators_20 = refl

-- ("a", "b") || "c"
operators_21 : answer (concat (seq (txt "a" ∷ txt "b" ∷ []) ∷ txt "c" ∷ [])) ≡ Err XPTY0004
unfolding digits chars
operators_21 = refl

-- 1 eq 1.0, "a" lt "b", false() lt true(), () eq 1
operators_22 : answer (seq (compare (Value Equal) (num 1) (dec 1000000) ∷ compare (Value Less) (txt
    "a") (txt "b") ∷ compare (Value Less) (call "false" []) (call "true" []) ∷ compare (Value
    Equal) none (num 1) ∷ [])) ≡ Ok (codes "true(), true(), true()")
unfolding digits chars
operators_22 = refl

-- 1 eq "1"
operators_23 : answer (compare (Value Equal) (num 1) (txt "1")) ≡ Err XPTY0004
unfolding digits chars
operators_23 = refl

-- (1, 2) = (2, 3), () = (), doc("b")//@id = "2"
operators_24 : answer (seq (compare (General Equal) (seq (num 1 ∷ num 2 ∷ [])) (seq (num 2 ∷ num 3
    ∷ [])) ∷ compare (General Equal) none none ∷ compare (General Equal) (path (primary (call "doc"
    (txt "b" ∷ []))) (below (at "id") ∷ [])) (txt "2") ∷ [])) ≡ Ok (codes
    "true(), false(), true()")
unfolding digits chars
operators_24 = refl

-- (1, "a") = 1
operators_25 : answer (compare (General Equal) (seq (num 1 ∷ txt "a" ∷ [])) (num 1)) ≡ Ok (codes
    "true()")
unfolding digits chars
operators_25 = refl

-- ("a", 1) = 1
operators_26 : answer (compare (General Equal) (seq (txt "a" ∷ num 1 ∷ [])) (num 1)) ≡ Err XPTY0004
unfolding digits chars
operators_26 = refl

-- doc("b")//@id = 1
operators_27 : answer (compare (General Equal) (path (primary (call "doc" (txt "b" ∷ []))) (below
    (at "id") ∷ [])) (num 1)) ≡ Err ProfDouble
unfolding digits chars
operators_27 = refl

-- let $b := doc("b")//book return ($b[1] is $b[1], $b[1] << $b[2], () is $b[1])
operators_28 : answer (flwor (let_be "b" (path (primary (call "doc" (txt "b" ∷ []))) (below (child
    "book") ∷ [])) ∷ []) (seq (compare (Node Is) (path (filtered (var "b") (num 1 ∷ [])) []) (path
    (filtered (var "b") (num 1 ∷ [])) []) ∷ compare (Node Precedes) (path (filtered (var "b") (num
    1 ∷ [])) []) (path (filtered (var "b") (num 2 ∷ [])) []) ∷ compare (Node Is) none (path
    (filtered (var "b") (num 1 ∷ [])) []) ∷ []))) ≡ Ok (codes "true(), true()")
unfolding digits chars
operators_28 = refl

-- 1 is doc("b")
operators_29 : answer (compare (Node Is) (num 1) (call "doc" (txt "b" ∷ []))) ≡ Err XPTY0004
unfolding digits chars
operators_29 = refl

-- (doc("b")//@id | doc("b")//book[1]/@id)/string()
operators_30 : answer (path (primary (union (path (primary (call "doc" (txt "b" ∷ []))) (below (at
    "id") ∷ []) ∷ path (primary (call "doc" (txt "b" ∷ []))) (below (bare_step (named "book") (num
    1 ∷ [])) ∷ slash (at "id") ∷ []) ∷ []))) (slash (primary (call "string" [])) ∷ [])) ≡ Ok (codes
    "\"1\", \"2\"")
unfolding digits chars
operators_30 = refl

-- doc("b")//@id except doc("b")//book[1]/@id
operators_31 : answer (sets (path (primary (call "doc" (txt "b" ∷ []))) (below (at "id") ∷ []))
    (without (path (primary (call "doc" (txt "b" ∷ []))) (below (bare_step (named "book") (num 1 ∷
    [])) ∷ slash (at "id") ∷ [])) ∷ [])) ≡ Ok (codes "attribute id {\"2\"}")
unfolding digits chars
operators_31 = refl

-- doc("b")//@id intersect doc("b")//book[1]/@id
operators_32 : answer (sets (path (primary (call "doc" (txt "b" ∷ []))) (below (at "id") ∷ []))
    (intersect (path (primary (call "doc" (txt "b" ∷ []))) (below (bare_step (named "book") (num 1
    ∷ [])) ∷ slash (at "id") ∷ [])) ∷ [])) ≡ Ok (codes "attribute id {\"1\"}")
unfolding digits chars
operators_32 = refl

-- doc("b") | 1
operators_33 : answer (union (call "doc" (txt "b" ∷ []) ∷ num 1 ∷ [])) ≡ Err XPTY0004
unfolding digits chars
operators_33 = refl

-- 1 = 1 or 1 div 0, 1 = 2 and 1 div 0
operators_34 : answer (seq (any_of (compare (General Equal) (num 1) (num 1) ∷ product (num 1)
    (div_by (num 0) ∷ []) ∷ []) ∷ all_of (compare (General Equal) (num 1) (num 2) ∷ product (num 1)
    (div_by (num 0) ∷ []) ∷ []) ∷ [])) ≡ Ok (codes "true(), false()")
unfolding digits chars
operators_34 = refl

-- if (()) then 1 div 0 else 2
operators_35 : answer (iff none (product (num 1) (div_by (num 0) ∷ [])) (num 2)) ≡ Ok (codes "2")
unfolding digits chars
operators_35 = refl

-- if ((1, 2)) then 1 else 2
operators_36 : answer (iff (seq (num 1 ∷ num 2 ∷ [])) (num 1) (num 2)) ≡ Err FORG0006
unfolding digits chars
operators_36 = refl

-- doc("b")/lib/child::book/attribute::id
paths_1 : answer (path (primary (call "doc" (txt "b" ∷ []))) (slash (child "lib") ∷ slash (along
    axis.Child (named "book") []) ∷ slash (along axis.Attribute (named "id") []) ∷ [])) ≡ Ok (codes
    "attribute id {\"1\"}, attribute id {\"2\"}")
unfolding digits chars
paths_1 = refl

-- a
paths_2 : answer (path (child "a") []) ≡ Err XPDY0002
unfolding digits chars
paths_2 = refl

-- (1)[a]
paths_3 : answer (path (filtered (num 1) (path (child "a") [] ∷ [])) []) ≡ Err XPTY0020
unfolding digits chars
paths_3 = refl

-- doc("b")//@id[. = "2"]/../name()
paths_4 : answer (path (primary (call "doc" (txt "b" ∷ []))) (below (at_test (named "id") (compare
    (General Equal) dot (txt "2") ∷ [])) ∷ slash (up []) ∷ slash (primary (call "name" [])) ∷ []))
    ≡ Ok (codes "\"book\"")
unfolding digits chars
paths_4 = refl

-- doc("b")//book/string(@id)
paths_5 : answer (path (primary (call "doc" (txt "b" ∷ []))) (below (child "book") ∷ slash (primary
    (call "string" (path (at "id") [] ∷ []))) ∷ [])) ≡ Ok (codes "\"1\", \"2\"")
unfolding digits chars
paths_5 = refl

-- (1)/a
paths_6 : answer (path (primary (num 1)) (slash (child "a") ∷ [])) ≡ Err XPTY0019
unfolding digits chars
paths_6 = refl

-- doc("b")/lib/(book[1], 1)
paths_7 : answer (path (primary (call "doc" (txt "b" ∷ []))) (slash (child "lib") ∷ slash (primary
    (seq (path (bare_step (named "book") (num 1 ∷ [])) [] ∷ num 1 ∷ []))) ∷ [])) ≡ Err XPTY0018
unfolding digits chars
paths_7 = refl

-- doc("b")//text()[1]
paths_8 : answer (path (primary (call "doc" (txt "b" ∷ []))) (below (bare_step written.Text (num 1
    ∷ [])) ∷ [])) ≡ Ok (codes "text {\"A\"}, text {\"B\"}")
unfolding digits chars
paths_8 = refl

-- doc("b")//book[1]/(/lib/book[2]/@id)
paths_9 : answer (path (primary (call "doc" (txt "b" ∷ []))) (below (bare_step (named "book") (num
    1 ∷ [])) ∷ slash (primary (path_from_root (child "lib") (slash (bare_step (named "book") (num 2
    ∷ [])) ∷ slash (at "id") ∷ []))) ∷ [])) ≡ Ok (codes "attribute id {\"2\"}")
unfolding digits chars
paths_9 = refl

-- (doc("b")//text())[1]/(//@id)
paths_10 : answer (path (filtered (path (primary (call "doc" (txt "b" ∷ []))) (below (bare_step
    written.Text []) ∷ [])) (num 1 ∷ [])) (slash (primary (path_below_root (at "id") [])) ∷ [])) ≡
    Ok (codes "attribute id {\"1\"}, attribute id {\"2\"}")
unfolding digits chars
paths_10 = refl

-- /
paths_11 : answer root ≡ Err XPDY0002
unfolding digits chars
paths_11 = refl

-- element a {}/(/)
paths_12 : answer (path (primary (element "a" none)) (slash (primary root) ∷ [])) ≡ Err XPDY0050
unfolding digits chars is_name_start is_name_char
paths_12 = refl

-- (5, 6, 7)[2], (5, 6)["a"], (5, 6)[last()]
paths_13 : answer (seq (path (filtered (seq (num 5 ∷ num 6 ∷ num 7 ∷ [])) (num 2 ∷ [])) [] ∷ path
    (filtered (seq (num 5 ∷ num 6 ∷ [])) (txt "a" ∷ [])) [] ∷ path (filtered (seq (num 5 ∷ num 6 ∷
    [])) (call "last" [] ∷ [])) [] ∷ [])) ≡ Ok (codes "6, 5, 6, 6")
unfolding digits chars
paths_13 = refl

-- (doc("b")//text())[2], doc("b")//book/text()[2]
paths_14 : answer (seq (path (filtered (path (primary (call "doc" (txt "b" ∷ []))) (below
    (bare_step written.Text []) ∷ [])) (num 2 ∷ [])) [] ∷ path (primary (call "doc" (txt "b" ∷
    []))) (below (child "book") ∷ slash (bare_step written.Text (num 2 ∷ [])) ∷ []) ∷ [])) ≡ Ok
    (codes "text {\"B\"}")
unfolding digits chars
paths_14 = refl

-- doc("b")/lib/child::*/@id
axes_1 : answer (path (primary (call "doc" (txt "b" ∷ []))) (slash (child "lib") ∷ slash (along
    axis.Child written.AnyName []) ∷ slash (at "id") ∷ [])) ≡ Ok (codes
    "attribute id {\"1\"}, attribute id {\"2\"}")
unfolding digits chars
axes_1 = refl

-- doc("b")/descendant::text()
axes_2 : answer (path (primary (call "doc" (txt "b" ∷ []))) (slash (along axis.Descendant
    written.Text []) ∷ [])) ≡ Ok (codes "text {\"A\"}, text {\"B\"}")
unfolding digits chars
axes_2 = refl

-- count(doc("b")/descendant-or-self::node())
axes_3 : answer (call "count" (path (primary (call "doc" (txt "b" ∷ []))) (slash (along
    axis.DescendantOrSelf written.Node []) ∷ []) ∷ [])) ≡ Ok (codes "6")
unfolding digits chars
axes_3 = refl

-- doc("b")//node()/self::lib/name()
axes_4 : answer (path (primary (call "doc" (txt "b" ∷ []))) (below (bare_step written.Node []) ∷
    slash (along axis.SelfNode (named "lib") []) ∷ slash (primary (call "name" [])) ∷ [])) ≡ Ok
    (codes "\"lib\"")
unfolding digits chars
axes_4 = refl

-- doc("b")//book[2]/attribute::*
axes_5 : answer (path (primary (call "doc" (txt "b" ∷ []))) (below (bare_step (named "book") (num 2
    ∷ [])) ∷ slash (along axis.Attribute written.AnyName []) ∷ [])) ≡ Ok (codes
    "attribute id {\"2\"}")
unfolding digits chars
axes_5 = refl

-- doc("b")//text()/parent::node()/name()
axes_6 : answer (path (primary (call "doc" (txt "b" ∷ []))) (below (bare_step written.Text []) ∷
    slash (along axis.Parent written.Node []) ∷ slash (primary (call "name" [])) ∷ [])) ≡ Ok (codes
    "\"book\", \"book\"")
unfolding digits chars
axes_6 = refl

-- doc("b")//text()/ancestor::*[1]/@id
axes_7 : answer (path (primary (call "doc" (txt "b" ∷ []))) (below (bare_step written.Text []) ∷
    slash (along axis.Ancestor written.AnyName (num 1 ∷ [])) ∷ slash (at "id") ∷ [])) ≡ Ok (codes
    "attribute id {\"1\"}, attribute id {\"2\"}")
unfolding digits chars
axes_7 = refl

-- doc("b")//lib/ancestor-or-self::*/name()
axes_8 : answer (path (primary (call "doc" (txt "b" ∷ []))) (below (child "lib") ∷ slash (along
    axis.AncestorOrSelf written.AnyName []) ∷ slash (primary (call "name" [])) ∷ [])) ≡ Ok (codes
    "\"lib\"")
unfolding digits chars
axes_8 = refl

-- doc("b")//book[1]/@id/following::text()
axes_9 : answer (path (primary (call "doc" (txt "b" ∷ []))) (below (bare_step (named "book") (num 1
    ∷ [])) ∷ slash (at "id") ∷ slash (along axis.Following written.Text []) ∷ [])) ≡ Ok (codes
    "text {\"A\"}, text {\"B\"}")
unfolding digits chars
axes_9 = refl

-- doc("b")//book/following-sibling::*/@id
axes_10 : answer (path (primary (call "doc" (txt "b" ∷ []))) (below (child "book") ∷ slash (along
    axis.FollowingSibling written.AnyName []) ∷ slash (at "id") ∷ [])) ≡ Ok (codes
    "attribute id {\"2\"}")
unfolding digits chars
axes_10 = refl

-- doc("b")//book[2]/preceding::node()[1]
axes_11 : answer (path (primary (call "doc" (txt "b" ∷ []))) (below (bare_step (named "book") (num
    2 ∷ [])) ∷ slash (along axis.Preceding written.Node (num 1 ∷ [])) ∷ [])) ≡ Ok (codes
    "text {\"A\"}")
unfolding digits chars
axes_11 = refl

-- doc("b")//book[2]/preceding-sibling::*[1]/@id
axes_12 : answer (path (primary (call "doc" (txt "b" ∷ []))) (below (bare_step (named "book") (num
    2 ∷ [])) ∷ slash (along axis.PrecedingSibling written.AnyName (num 1 ∷ [])) ∷ slash (at "id") ∷
    [])) ≡ Ok (codes "attribute id {\"1\"}")
unfolding digits chars
axes_12 = refl

-- count(doc("b")/self::document-node())
tests_1 : answer (call "count" (path (primary (call "doc" (txt "b" ∷ []))) (slash (along
    axis.SelfNode written.Document []) ∷ []) ∷ [])) ≡ Ok (codes "1")
unfolding digits chars
tests_1 = refl

-- element e {processing-instruction p {"q"}}/processing-instruction(p)
tests_2 : answer (path (primary (element "e" (instruction "p" (txt "q")))) (slash (bare_step
    (written.ProcessingInstruction (Some (codes "p"))) []) ∷ [])) ≡ Ok (codes
    "processing-instruction p {\"q\"}")
unfolding digits chars is_name_start is_name_char
tests_2 = refl

-- doc("b")//element(book)/attribute(id)
tests_3 : answer (path (primary (call "doc" (txt "b" ∷ []))) (below (bare_step (written.Element
    (Some (bare "book"))) []) ∷ slash (bare_step (written.Attribute (Some (bare "id"))) []) ∷ []))
    ≡ Ok (codes "attribute id {\"1\"}, attribute id {\"2\"}")
unfolding digits chars
tests_3 = refl

-- element a {}, element {" a "} {}
constructors_1 : answer (seq (element "a" none ∷ element_by (txt " a ") none ∷ [])) ≡ Ok (codes
    "element a {}, element a {}")
unfolding digits chars is_name_start is_name_char
constructors_1 = refl

-- element {()} {}
constructors_2 : answer (element_by none none) ≡ Err XPTY0004
unfolding digits chars is_name_start is_name_char
constructors_2 = refl

-- element {"1a"} {}
constructors_3 : answer (element_by (txt "1a") none) ≡ Err XQDY0074
unfolding digits chars is_name_start is_name_char
constructors_3 = refl

-- element {"p:a"} {}
constructors_4 : answer (element_by (txt "p:a") none) ≡ Err ProfPrefix
unfolding digits chars is_name_start is_name_char
constructors_4 = refl

-- attribute xmlns {"x"}
constructors_5 : answer (attribute "xmlns" (txt "x")) ≡ Err XQDY0044
unfolding digits chars is_name_start is_name_char
constructors_5 = refl

-- processing-instruction {"1"} {""}
constructors_6 : answer (instruction_by (txt "1") (txt "")) ≡ Err XQDY0041
unfolding digits chars is_name_start is_name_char
constructors_6 = refl

-- processing-instruction XML {"a"}
constructors_7 : answer (instruction "XML" (txt "a")) ≡ Err XQDY0064
unfolding digits chars is_name_start is_name_char
constructors_7 = refl

-- element a {1, 2, text {""}, 3, "x"}
constructors_8 : answer (element "a" (seq (num 1 ∷ num 2 ∷ text (txt "") ∷ num 3 ∷ txt "x" ∷ [])))
    ≡ Ok (codes "element a {text {\"1 23 x\"}}")
unfolding digits chars is_name_start is_name_char
constructors_8 = refl

-- document {element x {"y"}, document {"z"}}
constructors_9 : answer (document (seq (element "x" (txt "y") ∷ document (txt "z") ∷ []))) ≡ Ok
    (codes "document {element x {text {\"y\"}}, text {\"z\"}}")
unfolding digits chars is_name_start is_name_char
constructors_9 = refl

-- let $x := element x {} return element y {$x}/x is $x
constructors_10 : answer (flwor (let_be "x" (element "x" none) ∷ []) (compare (Node Is) (path
    (primary (element "y" (var "x"))) (slash (child "x") ∷ [])) (var "x"))) ≡ Ok (codes "false()")
unfolding digits chars is_name_start is_name_char
constructors_10 = refl

-- element a {"", attribute b {"1"}}
constructors_11 : answer (element "a" (seq (txt "" ∷ attribute "b" (txt "1") ∷ []))) ≡ Ok (codes
    "element a {attribute b {\"1\"}}")
unfolding digits chars is_name_start is_name_char
constructors_11 = refl

-- element a {"x", attribute b {"1"}}
constructors_12 : answer (element "a" (seq (txt "x" ∷ attribute "b" (txt "1") ∷ []))) ≡ Err
    XQTY0024
unfolding digits chars is_name_start is_name_char
constructors_12 = refl

-- element a {attribute b {"1"}, attribute b {"2"}}
constructors_13 : answer (element "a" (seq (attribute "b" (txt "1") ∷ attribute "b" (txt "2") ∷
    []))) ≡ Err XQDY0025
unfolding digits chars is_name_start is_name_char
constructors_13 = refl

-- document {attribute b {"1"}}
constructors_14 : answer (document (attribute "b" (txt "1"))) ≡ Err XPTY0004
unfolding digits chars is_name_start is_name_char
constructors_14 = refl

-- attribute a {1, 2.0}, text {"x", "y"}, comment {}
constructors_15 : answer (seq (attribute "a" (seq (num 1 ∷ dec 2000000 ∷ [])) ∷ text (seq (txt "x"
    ∷ txt "y" ∷ [])) ∷ comment none ∷ [])) ≡ Ok (codes
    "attribute a {\"1 2\"}, text {\"x y\"}, comment {\"\"}")
unfolding digits chars is_name_start is_name_char
constructors_15 = refl

-- text {()}, text {""}
constructors_16 : answer (seq (text none ∷ text (txt "") ∷ [])) ≡ Ok (codes "text {\"\"}")
unfolding digits chars
constructors_16 = refl

-- comment {"a--b"}
constructors_17 : answer (comment (txt "a--b")) ≡ Err XQDY0072
unfolding digits chars
constructors_17 = refl

-- processing-instruction t {"  x"}
constructors_18 : answer (instruction "t" (txt "  x")) ≡ Ok (codes
    "processing-instruction t {\"x\"}")
unfolding digits chars is_name_start is_name_char
constructors_18 = refl

-- processing-instruction t {"a?>"}
constructors_19 : answer (instruction "t" (txt "a?>")) ≡ Err XQDY0026
unfolding digits chars is_name_start is_name_char
constructors_19 = refl
