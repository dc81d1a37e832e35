-- Rows of functions on sequences, truths and numbers, and of casts.
use Rattle.std.specs.Prelude.{◌≡◌, refl, [], ◌∷◌, Ok, Err, codes}
use Rattle.std.specs.Fmt.{digits}
use Rattle.std.specs.Str.{chars}
use Rattle.std.specs.Char.{encode_utf8}
use Rattle.xq_atoms.specs.declared.refusals.Code.TheVariants.{FOAR0001, FOAR0002, FOCA0003, FOCA0006, FORG0001, FORG0005, FORG0006, ProfDouble, XPDY0002, XPST0017, XPTY0004}
use Rattle.xq_expressions.specs.declared.operators.Sign.TheVariants.{Minus}
use Rattle.xq_expressions.specs.declared.operators.Relation.TheVariants.{Equal}
use Rattle.xq_expressions.specs.declared.operators.ComparisonOperator.TheVariants.{General, Node}
use Rattle.xq_expressions.specs.declared.operators.NodeComparison.TheVariants.{Is}
use Rattle.xq_expressions.specs.declared.operators.NodeTest.TheVariants as written
use Rattle.xq_meaning.proofs.Writing.{num, dec, txt, seq, none, call, call_by, prefixed, sum, product, unary, compare, path, primary, filtered, named, bare_step, child, at, plus, minus, times, div_by, slash, below}
use Rattle.xq_meaning.proofs.Library.{answer}

-- count(()), count((1, "a")), count(doc("b")//node())
count : answer (seq (call "count" (none ∷ []) ∷ call "count" (seq (num 1 ∷ txt "a" ∷ []) ∷ []) ∷
    call "count" (path (primary (call "doc" (txt "b" ∷ []))) (below (bare_step written.Node []) ∷
    []) ∷ []) ∷ [])) ≡ Ok (codes "0, 2, 5")
unfolding digits chars
count = refl

-- empty(()), empty(0), empty((1, 2))
empty : answer (seq (call "empty" (none ∷ []) ∷ call "empty" (num 0 ∷ []) ∷ call "empty" (seq (num
    1 ∷ num 2 ∷ []) ∷ []) ∷ [])) ≡ Ok (codes "true(), false(), false()")
unfolding digits chars
empty = refl

-- exists(()), exists(()), exists(""), exists((1, 2))
exists : answer (seq (call "exists" (none ∷ []) ∷ call "exists" (none ∷ []) ∷ call "exists" (txt ""
    ∷ []) ∷ call "exists" (seq (num 1 ∷ num 2 ∷ []) ∷ []) ∷ [])) ≡ Ok (codes
    "false(), false(), true(), true()")
unfolding digits chars
exists = refl

-- head(()), head((1, 2)), head("a")
head : answer (seq (call "head" (none ∷ []) ∷ call "head" (seq (num 1 ∷ num 2 ∷ []) ∷ []) ∷ call
    "head" (txt "a" ∷ []) ∷ [])) ≡ Ok (codes "1, \"a\"")
unfolding digits chars
head = refl

-- tail(()), tail(1), tail((1, 2, 3))
tail : answer (seq (call "tail" (none ∷ []) ∷ call "tail" (num 1 ∷ []) ∷ call "tail" (seq (num 1 ∷
    num 2 ∷ num 3 ∷ []) ∷ []) ∷ [])) ≡ Ok (codes "2, 3")
unfolding digits chars
tail = refl

-- reverse(()), reverse(1), reverse((1, "a", 2)), reverse(doc("b")//@id)
reverse : answer (seq (call "reverse" (none ∷ []) ∷ call "reverse" (num 1 ∷ []) ∷ call "reverse"
    (seq (num 1 ∷ txt "a" ∷ num 2 ∷ []) ∷ []) ∷ call "reverse" (path (primary (call "doc" (txt "b"
    ∷ []))) (below (at "id") ∷ []) ∷ []) ∷ [])) ≡ Ok (codes
    "1, 2, \"a\", 1, attribute id {\"2\"}, attribute id {\"1\"}")
unfolding digits chars
reverse = refl

-- distinct-values(()), distinct-values((1, 2, 1.0, 2)), distinct-values(("a", "A", "a")),
-- distinct-values((true(), 1, "true")), distinct-values(doc("b")//@id)
distinct : answer (seq (call "distinct-values" (none ∷ []) ∷ call "distinct-values" (seq (num 1 ∷
    num 2 ∷ dec 1000000 ∷ num 2 ∷ []) ∷ []) ∷ call "distinct-values" (seq (txt "a" ∷ txt "A" ∷ txt
    "a" ∷ []) ∷ []) ∷ call "distinct-values" (seq (call "true" [] ∷ num 1 ∷ txt "true" ∷ []) ∷ [])
    ∷ call "distinct-values" (path (primary (call "doc" (txt "b" ∷ []))) (below (at "id") ∷ []) ∷
    []) ∷ [])) ≡ Ok (codes
    "1, 2, \"a\", \"A\", true(), 1, \"true\", xs:untypedAtomic(\"1\"), xs:untypedAtomic(\"2\")")
unfolding digits chars
distinct = refl

-- distinct-values((xs:untypedAtomic("a"), "a")), distinct-values((1.0, 1))
distinct_as_they_are : answer (seq (call "distinct-values" (seq (call_by (prefixed "xs"
    "untypedAtomic") (txt "a" ∷ []) ∷ txt "a" ∷ []) ∷ []) ∷ call "distinct-values" (seq (dec
    1000000 ∷ num 1 ∷ []) ∷ []) ∷ [])) ≡ Ok (codes "xs:untypedAtomic(\"a\"), 1.0")
unfolding digits chars
distinct_as_they_are = refl

-- zero-or-one(()), zero-or-one(1)
zero_or_one : answer (seq (call "zero-or-one" (none ∷ []) ∷ call "zero-or-one" (num 1 ∷ []) ∷ []))
    ≡ Ok (codes "1")
unfolding digits chars
zero_or_one = refl

-- one-or-more(1), one-or-more((1, 2))
one_or_more : answer (seq (call "one-or-more" (num 1 ∷ []) ∷ call "one-or-more" (seq (num 1 ∷ num 2
    ∷ []) ∷ []) ∷ [])) ≡ Ok (codes "1, 1, 2")
unfolding digits chars
one_or_more = refl

-- exactly-one("a"), exactly-one(doc("b")) is doc("b")
exactly_one : answer (seq (call "exactly-one" (txt "a" ∷ []) ∷ compare (Node Is) (call
    "exactly-one" (call "doc" (txt "b" ∷ []) ∷ [])) (call "doc" (txt "b" ∷ [])) ∷ [])) ≡ Ok (codes
    "\"a\", true()")
unfolding digits chars
exactly_one = refl

-- exactly-one((1, 2))
exactly_one_of_two : answer (call "exactly-one" (seq (num 1 ∷ num 2 ∷ []) ∷ [])) ≡ Err FORG0005
unfolding digits chars
exactly_one_of_two = refl

-- not(()), not(0), not("a"), not(doc("b")), not((doc("b"), 1))
not : answer (seq (call "not" (none ∷ []) ∷ call "not" (num 0 ∷ []) ∷ call "not" (txt "a" ∷ []) ∷
    call "not" (call "doc" (txt "b" ∷ []) ∷ []) ∷ call "not" (seq (call "doc" (txt "b" ∷ []) ∷ num
    1 ∷ []) ∷ []) ∷ [])) ≡ Ok (codes "true(), true(), false(), false(), false()")
unfolding digits chars
not = refl

-- boolean(()), boolean(0), boolean(0.5), boolean(""), boolean("0"),
-- boolean(xs:untypedAtomic("")), boolean(false()), boolean(doc("b"))
boolean : answer (seq (call "boolean" (none ∷ []) ∷ call "boolean" (num 0 ∷ []) ∷ call "boolean"
    (dec 500000 ∷ []) ∷ call "boolean" (txt "" ∷ []) ∷ call "boolean" (txt "0" ∷ []) ∷ call
    "boolean" (call_by (prefixed "xs" "untypedAtomic") (txt "" ∷ []) ∷ []) ∷ call "boolean" (call
    "false" [] ∷ []) ∷ call "boolean" (call "doc" (txt "b" ∷ []) ∷ []) ∷ [])) ≡ Ok (codes
    "false(), false(), true(), false(), true(), false(), false(), true()")
unfolding digits chars
boolean = refl

-- not((1, 2))
not_of_two : answer (call "not" (seq (num 1 ∷ num 2 ∷ []) ∷ [])) ≡ Err FORG0006
unfolding digits chars
not_of_two = refl

-- boolean(("a", doc("b")))
boolean_of_two : answer (call "boolean" (seq (txt "a" ∷ call "doc" (txt "b" ∷ []) ∷ []) ∷ [])) ≡
    Err FORG0006
unfolding digits chars
boolean_of_two = refl

-- true(), false()
true_and_false : answer (seq (call "true" [] ∷ call "false" [] ∷ [])) ≡ Ok (codes
    "true(), false()")
unfolding digits chars
true_and_false = refl

-- (7, 8, 9)[position() = 2], (7, 8, 9)[last()], doc("b")//book/(position() * 10 + last())
position_and_last : answer (seq (path (filtered (seq (num 7 ∷ num 8 ∷ num 9 ∷ [])) (compare
    (General Equal) (call "position" []) (num 2) ∷ [])) [] ∷ path (filtered (seq (num 7 ∷ num 8 ∷
    num 9 ∷ [])) (call "last" [] ∷ [])) [] ∷ path (primary (call "doc" (txt "b" ∷ []))) (below
    (child "book") ∷ slash (primary (sum (product (call "position" []) (times (num 10) ∷ [])) (plus
    (call "last" []) ∷ []))) ∷ []) ∷ [])) ≡ Ok (codes "8, 9, 12, 22")
unfolding digits chars
position_and_last = refl

-- position()
position_of_no_context : answer (call "position" []) ≡ Err XPDY0002
unfolding digits chars
position_of_no_context = refl

-- last()
last_of_no_context : answer (call "last" []) ≡ Err XPDY0002
unfolding digits chars
last_of_no_context = refl

-- sum(()), sum(1), sum((1, 2)), sum((1.5, 1.5)), sum((1, 0.5, -2))
sums_of_numbers : answer (seq (call "sum" (none ∷ []) ∷ call "sum" (num 1 ∷ []) ∷ call "sum" (seq
    (num 1 ∷ num 2 ∷ []) ∷ []) ∷ call "sum" (seq (dec 1500000 ∷ dec 1500000 ∷ []) ∷ []) ∷ call
    "sum" (seq (num 1 ∷ dec 500000 ∷ unary (Minus ∷ []) (num 2) ∷ []) ∷ []) ∷ [])) ≡ Ok (codes
    "0, 1, 3, 3.0, -0.5")
unfolding digits chars
sums_of_numbers = refl

-- sum((1, doc("b")//@id))
sum_of_untyped : answer (call "sum" (seq (num 1 ∷ path (primary (call "doc" (txt "b" ∷ []))) (below
    (at "id") ∷ []) ∷ []) ∷ [])) ≡ Err ProfDouble
unfolding digits chars
sum_of_untyped = refl

-- sum((1, true()))
sum_of_a_boolean : answer (call "sum" (seq (num 1 ∷ call "true" [] ∷ []) ∷ [])) ≡ Err FORG0006
unfolding digits chars
sum_of_a_boolean = refl

-- sum(("a", doc("b")//@id))
sum_judges_in_order : answer (call "sum" (seq (txt "a" ∷ path (primary (call "doc" (txt "b" ∷ [])))
    (below (at "id") ∷ []) ∷ []) ∷ [])) ≡ Err FORG0006
unfolding digits chars
sum_judges_in_order = refl

-- sum((9223372036854775807, 1, "a"))
sum_judges_before_it_adds : answer (call "sum" (seq (num 9223372036854775807 ∷ num 1 ∷ txt "a" ∷
    []) ∷ [])) ≡ Err FORG0006
unfolding digits chars
sum_judges_before_it_adds = refl

-- sum((9223372036854775807, 1))
sum_too_large : answer (call "sum" (seq (num 9223372036854775807 ∷ num 1 ∷ []) ∷ [])) ≡ Err
    FOAR0002
unfolding digits chars
sum_too_large = refl

-- min(()), min(3), min((2, 1.0, 1)), min(("b", "a")), min((true(), false()))
minima : answer (seq (call "min" (none ∷ []) ∷ call "min" (num 3 ∷ []) ∷ call "min" (seq (num 2 ∷
    dec 1000000 ∷ num 1 ∷ []) ∷ []) ∷ call "min" (seq (txt "b" ∷ txt "a" ∷ []) ∷ []) ∷ call "min"
    (seq (call "true" [] ∷ call "false" [] ∷ []) ∷ []) ∷ [])) ≡ Ok (codes "3, 1.0, \"a\", false()")
unfolding digits chars
minima = refl

-- max(()), max(3), max((1, 2.0, 2)), max(("b", "a")), max((true(), false()))
maxima : answer (seq (call "max" (none ∷ []) ∷ call "max" (num 3 ∷ []) ∷ call "max" (seq (num 1 ∷
    dec 2000000 ∷ num 2 ∷ []) ∷ []) ∷ call "max" (seq (txt "b" ∷ txt "a" ∷ []) ∷ []) ∷ call "max"
    (seq (call "true" [] ∷ call "false" [] ∷ []) ∷ []) ∷ [])) ≡ Ok (codes "3, 2.0, \"b\", true()")
unfolding digits chars
maxima = refl

-- min(doc("b")//@id)
min_of_untyped : answer (call "min" (path (primary (call "doc" (txt "b" ∷ []))) (below (at "id") ∷
    []) ∷ [])) ≡ Err ProfDouble
unfolding digits chars
min_of_untyped = refl

-- min(doc("b")//book[1]/@id)
min_of_one_untyped : answer (call "min" (path (primary (call "doc" (txt "b" ∷ []))) (below
    (bare_step (named "book") (num 1 ∷ [])) ∷ slash (at "id") ∷ []) ∷ [])) ≡ Err ProfDouble
unfolding digits chars
min_of_one_untyped = refl

-- max(xs:untypedAtomic("1"))
max_of_one_untyped : answer (call "max" (call_by (prefixed "xs" "untypedAtomic") (txt "1" ∷ []) ∷
    [])) ≡ Err ProfDouble
unfolding digits chars
max_of_one_untyped = refl

-- max((1, doc("b")//@id))
max_of_untyped : answer (call "max" (seq (num 1 ∷ path (primary (call "doc" (txt "b" ∷ []))) (below
    (at "id") ∷ []) ∷ []) ∷ [])) ≡ Err ProfDouble
unfolding digits chars
max_of_untyped = refl

-- min((1, "a"))
min_of_two_kinds : answer (call "min" (seq (num 1 ∷ txt "a" ∷ []) ∷ [])) ≡ Err FORG0006
unfolding digits chars
min_of_two_kinds = refl

-- max(("a", true()))
max_of_two_kinds : answer (call "max" (seq (txt "a" ∷ call "true" [] ∷ []) ∷ [])) ≡ Err FORG0006
unfolding digits chars
max_of_two_kinds = refl

-- max((1, "a", xs:untypedAtomic("1")))
max_judges_in_order : answer (call "max" (seq (num 1 ∷ txt "a" ∷ call_by (prefixed "xs"
    "untypedAtomic") (txt "1" ∷ []) ∷ []) ∷ [])) ≡ Err FORG0006
unfolding digits chars
max_judges_in_order = refl

-- abs(()), abs(-3), abs(3), abs(-0.5)
abs : answer (seq (call "abs" (none ∷ []) ∷ call "abs" (unary (Minus ∷ []) (num 3) ∷ []) ∷ call
    "abs" (num 3 ∷ []) ∷ call "abs" (unary (Minus ∷ []) (dec 500000) ∷ []) ∷ [])) ≡ Ok (codes
    "3, 3, 0.5")
unfolding digits chars
abs = refl

-- abs(-9223372036854775807 - 1)
abs_of_the_least : answer (call "abs" (sum (unary (Minus ∷ []) (num 9223372036854775807)) (minus
    (num 1) ∷ []) ∷ [])) ≡ Err FOAR0002
unfolding digits chars
abs_of_the_least = refl

-- floor(()), floor(3), floor(1.5), floor(-1.5), floor(-2.0)
floor : answer (seq (call "floor" (none ∷ []) ∷ call "floor" (num 3 ∷ []) ∷ call "floor" (dec
    1500000 ∷ []) ∷ call "floor" (unary (Minus ∷ []) (dec 1500000) ∷ []) ∷ call "floor" (unary
    (Minus ∷ []) (dec 2000000) ∷ []) ∷ [])) ≡ Ok (codes "3, 1.0, -2.0, -2.0")
unfolding digits chars
floor = refl

-- ceiling(()), ceiling(3), ceiling(1.5), ceiling(-1.5), ceiling(0.000001)
ceiling : answer (seq (call "ceiling" (none ∷ []) ∷ call "ceiling" (num 3 ∷ []) ∷ call "ceiling"
    (dec 1500000 ∷ []) ∷ call "ceiling" (unary (Minus ∷ []) (dec 1500000) ∷ []) ∷ call "ceiling"
    (dec 1 ∷ []) ∷ [])) ≡ Ok (codes "3, 2.0, -1.0, 1.0")
unfolding digits chars
ceiling = refl

-- round(()), round(3), round(1.5), round(-1.5), round(1.499999), round(-2.500001)
round : answer (seq (call "round" (none ∷ []) ∷ call "round" (num 3 ∷ []) ∷ call "round" (dec
    1500000 ∷ []) ∷ call "round" (unary (Minus ∷ []) (dec 1500000) ∷ []) ∷ call "round" (dec
    1499999 ∷ []) ∷ call "round" (unary (Minus ∷ []) (dec 2500001) ∷ []) ∷ [])) ≡ Ok (codes
    "3, 2.0, -1.0, 1.0, -3.0")
unfolding digits chars
round = refl

-- ceiling(9999999999999999999.5)
ceiling_too_large : answer (call "ceiling" (dec 9999999999999999999500000 ∷ [])) ≡ Err FOAR0002
unfolding digits chars
ceiling_too_large = refl

-- round(9999999999999999999.5)
round_too_large : answer (call "round" (dec 9999999999999999999500000 ∷ [])) ≡ Err FOAR0002
unfolding digits chars
round_too_large = refl

-- abs(xs:untypedAtomic("1"))
abs_of_untyped : answer (call "abs" (call_by (prefixed "xs" "untypedAtomic") (txt "1" ∷ []) ∷ []))
    ≡ Err ProfDouble
unfolding digits chars
abs_of_untyped = refl

-- floor("1")
floor_of_a_string : answer (call "floor" (txt "1" ∷ [])) ≡ Err XPTY0004
unfolding digits chars
floor_of_a_string = refl

-- ceiling(true())
ceiling_of_a_truth : answer (call "ceiling" (call "true" [] ∷ [])) ≡ Err XPTY0004
unfolding digits chars
ceiling_of_a_truth = refl

-- round((1, 2))
round_of_two : answer (call "round" (seq (num 1 ∷ num 2 ∷ []) ∷ [])) ≡ Err XPTY0004
unfolding digits chars
round_of_two = refl

-- round(doc("b")//book[1]/@id)
round_of_untyped : answer (call "round" (path (primary (call "doc" (txt "b" ∷ []))) (below
    (bare_step (named "book") (num 1 ∷ [])) ∷ slash (at "id") ∷ []) ∷ [])) ≡ Err ProfDouble
unfolding digits chars
round_of_untyped = refl

-- xs:integer(()), xs:integer("+12"), xs:integer(" -3 "), xs:integer(2.9), xs:integer(-2.9),
-- xs:integer(true()), xs:integer(doc("b")//book[2]/@id), xs:integer("-9223372036854775808")
to_integer : answer (seq (call_by (prefixed "xs" "integer") (none ∷ []) ∷ call_by (prefixed "xs"
    "integer") (txt "+12" ∷ []) ∷ call_by (prefixed "xs" "integer") (txt " -3 " ∷ []) ∷ call_by
    (prefixed "xs" "integer") (dec 2900000 ∷ []) ∷ call_by (prefixed "xs" "integer") (unary (Minus
    ∷ []) (dec 2900000) ∷ []) ∷ call_by (prefixed "xs" "integer") (call "true" [] ∷ []) ∷ call_by
    (prefixed "xs" "integer") (path (primary (call "doc" (txt "b" ∷ []))) (below (bare_step (named
    "book") (num 2 ∷ [])) ∷ slash (at "id") ∷ []) ∷ []) ∷ call_by (prefixed "xs" "integer") (txt
    "-9223372036854775808" ∷ []) ∷ [])) ≡ Ok (codes
    "12, -3, 2, -2, 1, 2, xs:integer(\"-9223372036854775808\")")
unfolding digits chars
to_integer = refl

-- xs:integer("9223372036854775808")
to_integer_too_large : answer (call_by (prefixed "xs" "integer") (txt "9223372036854775808" ∷ []))
    ≡ Err FOCA0003
unfolding digits chars
to_integer_too_large = refl

-- xs:integer("")
to_integer_of_no_digits : answer (call_by (prefixed "xs" "integer") (txt "" ∷ [])) ≡ Err FORG0001
unfolding digits chars
to_integer_of_no_digits = refl

-- xs:integer((1, 2))
to_integer_of_two : answer (call_by (prefixed "xs" "integer") (seq (num 1 ∷ num 2 ∷ []) ∷ [])) ≡
    Err XPTY0004
unfolding digits chars
to_integer_of_two = refl

-- xs:decimal(()), xs:decimal("1"), xs:decimal("1."), xs:decimal("-.50"), xs:decimal(" +2.5 "),
-- xs:decimal(7), xs:decimal(false()), xs:decimal("0.1000000")
to_decimal : answer (seq (call_by (prefixed "xs" "decimal") (none ∷ []) ∷ call_by (prefixed "xs"
    "decimal") (txt "1" ∷ []) ∷ call_by (prefixed "xs" "decimal") (txt "1." ∷ []) ∷ call_by
    (prefixed "xs" "decimal") (txt "-.50" ∷ []) ∷ call_by (prefixed "xs" "decimal") (txt " +2.5 " ∷
    []) ∷ call_by (prefixed "xs" "decimal") (num 7 ∷ []) ∷ call_by (prefixed "xs" "decimal") (call
    "false" [] ∷ []) ∷ call_by (prefixed "xs" "decimal") (txt "0.1000000" ∷ []) ∷ [])) ≡ Ok (codes
    "1.0, 1.0, -0.5, 2.5, 7.0, 0.0, 0.1")
unfolding digits chars
to_decimal = refl

-- xs:decimal(".")
to_decimal_of_a_point : answer (call_by (prefixed "xs" "decimal") (txt "." ∷ [])) ≡ Err FORG0001
unfolding digits chars
to_decimal_of_a_point = refl

-- xs:decimal("10000000000000000000.0000001")
to_decimal_digits_before_range : answer (call_by (prefixed "xs" "decimal") (txt
    "10000000000000000000.0000001" ∷ [])) ≡ Err FOCA0006
unfolding digits chars
to_decimal_digits_before_range = refl

-- xs:boolean(()), xs:boolean("true"), xs:boolean(" false "), xs:boolean("0"), xs:boolean(2),
-- xs:boolean(0.0), xs:boolean(true())
to_boolean : answer (seq (call_by (prefixed "xs" "boolean") (none ∷ []) ∷ call_by (prefixed "xs"
    "boolean") (txt "true" ∷ []) ∷ call_by (prefixed "xs" "boolean") (txt " false " ∷ []) ∷ call_by
    (prefixed "xs" "boolean") (txt "0" ∷ []) ∷ call_by (prefixed "xs" "boolean") (num 2 ∷ []) ∷
    call_by (prefixed "xs" "boolean") (dec 0 ∷ []) ∷ call_by (prefixed "xs" "boolean") (call "true"
    [] ∷ []) ∷ [])) ≡ Ok (codes "true(), false(), false(), true(), false(), true()")
unfolding digits chars
to_boolean = refl

-- xs:boolean("TRUE")
to_boolean_of_a_word : answer (call_by (prefixed "xs" "boolean") (txt "TRUE" ∷ [])) ≡ Err FORG0001
unfolding digits chars
to_boolean_of_a_word = refl

-- xs:boolean((true(), false()))
to_boolean_of_two : answer (call_by (prefixed "xs" "boolean") (seq (call "true" [] ∷ call "false"
    [] ∷ []) ∷ [])) ≡ Err XPTY0004
unfolding digits chars
to_boolean_of_two = refl

-- xs:string(()), xs:string(1), xs:string(2.0), xs:string(-0.5), xs:string(false()),
-- xs:string(doc("b"))
to_string : answer (seq (call_by (prefixed "xs" "string") (none ∷ []) ∷ call_by (prefixed "xs"
    "string") (num 1 ∷ []) ∷ call_by (prefixed "xs" "string") (dec 2000000 ∷ []) ∷ call_by
    (prefixed "xs" "string") (unary (Minus ∷ []) (dec 500000) ∷ []) ∷ call_by (prefixed "xs"
    "string") (call "false" [] ∷ []) ∷ call_by (prefixed "xs" "string") (call "doc" (txt "b" ∷ [])
    ∷ []) ∷ [])) ≡ Ok (codes "\"1\", \"2\", \"-0.5\", \"false\", \"AB\"")
unfolding digits chars
to_string = refl

-- xs:string(("a", "b"))
to_string_of_two : answer (call_by (prefixed "xs" "string") (seq (txt "a" ∷ txt "b" ∷ []) ∷ [])) ≡
    Err XPTY0004
unfolding digits chars
to_string_of_two = refl

-- xs:untypedAtomic(()), xs:untypedAtomic(1), xs:untypedAtomic(2.50), xs:untypedAtomic("a"),
-- xs:untypedAtomic(true())
to_untyped : answer (seq (call_by (prefixed "xs" "untypedAtomic") (none ∷ []) ∷ call_by (prefixed
    "xs" "untypedAtomic") (num 1 ∷ []) ∷ call_by (prefixed "xs" "untypedAtomic") (dec 2500000 ∷ [])
    ∷ call_by (prefixed "xs" "untypedAtomic") (txt "a" ∷ []) ∷ call_by (prefixed "xs"
    "untypedAtomic") (call "true" [] ∷ []) ∷ [])) ≡ Ok (codes
    "xs:untypedAtomic(\"1\"), xs:untypedAtomic(\"2.5\"), xs:untypedAtomic(\"a\"), xs:untypedAtomic(\"true\")")
unfolding digits chars
to_untyped = refl

-- xs:untypedAtomic(("a", "b"))
to_untyped_of_two : answer (call_by (prefixed "xs" "untypedAtomic") (seq (txt "a" ∷ txt "b" ∷ []) ∷
    [])) ≡ Err XPTY0004
unfolding digits chars
to_untyped_of_two = refl

-- fn:count((1, 2)), fn:true()
fn_prefix : answer (seq (call_by (prefixed "fn" "count") (seq (num 1 ∷ num 2 ∷ []) ∷ []) ∷ call_by
    (prefixed "fn" "true") [] ∷ [])) ≡ Ok (codes "2, true()")
unfolding digits chars
fn_prefix = refl

-- contains(1, 1 div 0)
arguments_before_conversion : answer (call "contains" (num 1 ∷ product (num 1) (div_by (num 0) ∷
    []) ∷ [])) ≡ Err FOAR0001
unfolding digits chars
arguments_before_conversion = refl

-- substring(1, xs:untypedAtomic("1"))
converted_left_to_right : answer (call "substring" (num 1 ∷ call_by (prefixed "xs" "untypedAtomic")
    (txt "1" ∷ []) ∷ [])) ≡ Err XPTY0004
unfolding digits chars encode_utf8
converted_left_to_right = refl

-- unknown(1)
unknown_function : answer (call "unknown" (num 1 ∷ [])) ≡ Err XPST0017
unfolding digits chars
unknown_function = refl

-- xs:double(1)
unknown_type : answer (call_by (prefixed "xs" "double") (num 1 ∷ [])) ≡ Err XPST0017
unfolding digits chars
unknown_type = refl

-- count(1, 2)
too_many_arguments : answer (call "count" (num 1 ∷ num 2 ∷ [])) ≡ Err XPST0017
unfolding digits chars
too_many_arguments = refl

-- concat("a")
too_few_arguments : answer (call "concat" (txt "a" ∷ [])) ≡ Err XPST0017
unfolding digits chars
too_few_arguments = refl

-- head(collection()) is doc("b"), tail(collection()), empty(tail((1, 2))), empty(head(()))
collection_and_heads : answer (seq (compare (Node Is) (call "head" (call "collection" [] ∷ []))
    (call "doc" (txt "b" ∷ [])) ∷ call "tail" (call "collection" [] ∷ []) ∷ call "empty" (call
    "tail" (seq (num 1 ∷ num 2 ∷ []) ∷ []) ∷ []) ∷ call "empty" (call "head" (none ∷ []) ∷ []) ∷
    [])) ≡ Ok (codes "true(), false(), true()")
unfolding digits chars
collection_and_heads = refl

-- zero-or-one("a"), one-or-more(("a", "b", "c")), exactly-one((), ())
bounds_of_counts : answer (seq (call "zero-or-one" (txt "a" ∷ []) ∷ call "one-or-more" (seq (txt
    "a" ∷ txt "b" ∷ txt "c" ∷ []) ∷ []) ∷ call "exactly-one" (none ∷ none ∷ []) ∷ [])) ≡ Err
    XPST0017
unfolding digits chars
bounds_of_counts = refl

-- zero-or-one("a"), one-or-more("b"), exactly-one(doc("b")//book[1]/@id)
one_of_each : answer (seq (call "zero-or-one" (txt "a" ∷ []) ∷ call "one-or-more" (txt "b" ∷ []) ∷
    call "exactly-one" (path (primary (call "doc" (txt "b" ∷ []))) (below (bare_step (named "book")
    (num 1 ∷ [])) ∷ slash (at "id") ∷ []) ∷ []) ∷ [])) ≡ Ok (codes
    "\"a\", \"b\", attribute id {\"1\"}")
unfolding digits chars
one_of_each = refl

-- min((1.0, 1)), max((1, 1.0)), min((2, 1, 1.0)), max(("a", "b", "a"))
extremes_keep_the_first : answer (seq (call "min" (seq (dec 1000000 ∷ num 1 ∷ []) ∷ []) ∷ call
    "max" (seq (num 1 ∷ dec 1000000 ∷ []) ∷ []) ∷ call "min" (seq (num 2 ∷ num 1 ∷ dec 1000000 ∷
    []) ∷ []) ∷ call "max" (seq (txt "a" ∷ txt "b" ∷ txt "a" ∷ []) ∷ []) ∷ [])) ≡ Ok (codes
    "1.0, 1, 1, \"b\"")
unfolding digits chars
extremes_keep_the_first = refl
