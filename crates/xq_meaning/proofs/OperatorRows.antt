-- Rows of literals, sequences, operators, comparisons and conditions.
use Rattle.std.specs.Prelude.{◌≡◌, refl, [], ◌∷◌, Ok, Err, codes}
use Rattle.std.specs.Fmt.{digits}
use Rattle.std.specs.Str.{chars}
use Rattle.xq_atoms.specs.Characters.{is_name_start, is_name_char}
use Rattle.xq_atoms.specs.declared.refusals.Code.TheVariants.{FOAR0001, FOAR0002, FORG0001, FORG0006, ProfDouble, ProfRange, XPTY0004}
use Rattle.xq_expressions.specs.declared.operators.Sign.TheVariants.{Plus, Minus}
use Rattle.xq_expressions.specs.declared.operators.Relation.TheVariants.{Equal, NotEqual, Less, LessEqual, Greater, GreaterEqual}
use Rattle.xq_expressions.specs.declared.operators.ComparisonOperator.TheVariants.{Value, General, Node}
use Rattle.xq_expressions.specs.declared.operators.NodeComparison.TheVariants.{Is, Precedes, Follows}
use Rattle.xq_expressions.specs.declared.operators.NodeTest.TheVariants as written
use Rattle.xq_meaning.proofs.Writing.{num, dec, txt, var, seq, none, call, call_by, prefixed, sum, product, unary, to, concat, compare, union, sets, any_of, all_of, iff, path, primary, filtered, named, bare_step, child, at_test, at, element, flwor, let_be, plus, minus, times, div_by, idiv_by, mod_by, intersect, without, slash, below}
use Rattle.xq_meaning.proofs.Library.{answer}

-- 1, 1.5, "a", ()
literals : answer (seq (num 1 ∷ dec 1500000 ∷ txt "a" ∷ none ∷ [])) ≡ Ok (codes "1, 1.5, \"a\"")
unfolding digits chars
literals = refl

-- 9223372036854775807, 9999999999999999999.999999
greatest_literals : answer (seq (num 9223372036854775807 ∷ dec 9999999999999999999999999 ∷ [])) ≡
    Ok (codes "9223372036854775807, 9999999999999999999.999999")
unfolding digits chars
greatest_literals = refl

-- (1, (2, ()), 3)
sequence_is_flat : answer (seq (num 1 ∷ seq (num 2 ∷ none ∷ []) ∷ num 3 ∷ [])) ≡ Ok (codes
    "1, 2, 3")
unfolding digits chars
sequence_is_flat = refl

-- let $x := 1 let $x := $x + 1 return $x
variable_hides : answer (flwor (let_be "x" (num 1) ∷ let_be "x" (sum (var "x") (plus (num 1) ∷ []))
    ∷ []) (var "x")) ≡ Ok (codes "2")
unfolding digits chars
variable_hides = refl

-- 1 + 2, 1 - 2, 1 + 0.5, 0.5 - 1, 0.25 + 0.25
sums : answer (seq (sum (num 1) (plus (num 2) ∷ []) ∷ sum (num 1) (minus (num 2) ∷ []) ∷ sum (num
    1) (plus (dec 500000) ∷ []) ∷ sum (dec 500000) (minus (num 1) ∷ []) ∷ sum (dec 250000) (plus
    (dec 250000) ∷ []) ∷ [])) ≡ Ok (codes "3, -1, 1.5, -0.5, 0.5")
unfolding digits chars
sums = refl

-- 5 - 2 - 1, 2 * 3 + 4, 2 + 3 * 4
sums_to_the_left : answer (seq (sum (num 5) (minus (num 2) ∷ minus (num 1) ∷ []) ∷ sum (product
    (num 2) (times (num 3) ∷ [])) (plus (num 4) ∷ []) ∷ sum (num 2) (plus (product (num 3) (times
    (num 4) ∷ [])) ∷ []) ∷ [])) ≡ Ok (codes "2, 10, 14")
unfolding digits chars
sums_to_the_left = refl

-- 3 * 4, 1.5 * 2, 0.001 * 0.0001, -0.001 * 0.0009
products : answer (seq (product (num 3) (times (num 4) ∷ []) ∷ product (dec 1500000) (times (num 2)
    ∷ []) ∷ product (dec 1000) (times (dec 100) ∷ []) ∷ product (unary (Minus ∷ []) (dec 1000))
    (times (dec 900) ∷ []) ∷ [])) ≡ Ok (codes "12, 3.0, 0.0, 0.0")
unfolding digits chars
products = refl

-- 1 div 4, -1 div 3, 1.5 div 0.5
divisions : answer (seq (product (num 1) (div_by (num 4) ∷ []) ∷ product (unary (Minus ∷ []) (num
    1)) (div_by (num 3) ∷ []) ∷ product (dec 1500000) (div_by (dec 500000) ∷ []) ∷ [])) ≡ Ok (codes
    "0.25, -0.333333, 3.0")
unfolding digits chars
divisions = refl

-- 7.5 idiv 2, -7.5 idiv 2, 1 idiv 3
whole_divisions : answer (seq (product (dec 7500000) (idiv_by (num 2) ∷ []) ∷ product (unary (Minus
    ∷ []) (dec 7500000)) (idiv_by (num 2) ∷ []) ∷ product (num 1) (idiv_by (num 3) ∷ []) ∷ [])) ≡
    Ok (codes "3, -3, 0")
unfolding digits chars
whole_divisions = refl

-- 7 mod -2, -7 mod 2, -7.5 mod 2, 1 mod 0.3
remainders : answer (seq (product (num 7) (mod_by (unary (Minus ∷ []) (num 2)) ∷ []) ∷ product
    (unary (Minus ∷ []) (num 7)) (mod_by (num 2) ∷ []) ∷ product (unary (Minus ∷ []) (dec 7500000))
    (mod_by (num 2) ∷ []) ∷ product (num 1) (mod_by (dec 300000) ∷ []) ∷ [])) ≡ Ok (codes
    "1, -1, -1.5, 0.1")
unfolding digits chars
remainders = refl

-- 1 div 0.0
division_by_zero : answer (product (num 1) (div_by (dec 0) ∷ [])) ≡ Err FOAR0001
unfolding digits chars
division_by_zero = refl

-- 1 idiv 0
whole_division_by_zero : answer (product (num 1) (idiv_by (num 0) ∷ [])) ≡ Err FOAR0001
unfolding digits chars
whole_division_by_zero = refl

-- 1.5 mod 0
remainder_by_zero : answer (product (dec 1500000) (mod_by (num 0) ∷ [])) ≡ Err FOAR0001
unfolding digits chars
remainder_by_zero = refl

-- (-9223372036854775807 - 1) idiv -1
least_by_minus_one : answer (product (sum (unary (Minus ∷ []) (num 9223372036854775807)) (minus
    (num 1) ∷ [])) (idiv_by (unary (Minus ∷ []) (num 1)) ∷ [])) ≡ Err FOAR0002
unfolding digits chars
least_by_minus_one = refl

-- 9223372036854775807 * 2
product_too_large : answer (product (num 9223372036854775807) (times (num 2) ∷ [])) ≡ Err FOAR0002
unfolding digits chars
product_too_large = refl

-- 9999999999999999999.0 + 1
decimal_too_large : answer (sum (dec 9999999999999999999000000) (plus (num 1) ∷ [])) ≡ Err FOAR0002
unfolding digits chars
decimal_too_large = refl

-- () + "a", "a" * (), (1, 2) + ()
empty_operand_goes_first : answer (seq (sum none (plus (txt "a") ∷ []) ∷ product (txt "a") (times
    none ∷ []) ∷ sum (seq (num 1 ∷ num 2 ∷ [])) (plus none ∷ []) ∷ [])) ≡ Ok (codes "()")
unfolding digits chars
empty_operand_goes_first = refl

-- (1, 2) + 1
two_items_in_a_sum : answer (sum (seq (num 1 ∷ num 2 ∷ [])) (plus (num 1) ∷ [])) ≡ Err XPTY0004
unfolding digits chars
two_items_in_a_sum = refl

-- true() + 1
truth_in_a_sum : answer (sum (call "true" []) (plus (num 1) ∷ [])) ≡ Err XPTY0004
unfolding digits chars
truth_in_a_sum = refl

-- 2 * xs:untypedAtomic("1")
untyped_in_a_product : answer (product (num 2) (times (call_by (prefixed "xs" "untypedAtomic") (txt
    "1" ∷ [])) ∷ [])) ≡ Err ProfDouble
unfolding digits chars
untyped_in_a_product = refl

-- (1, 2) + xs:untypedAtomic("1")
left_count_before_right_type : answer (sum (seq (num 1 ∷ num 2 ∷ [])) (plus (call_by (prefixed "xs"
    "untypedAtomic") (txt "1" ∷ [])) ∷ [])) ≡ Err XPTY0004
unfolding digits chars
left_count_before_right_type = refl

-- -1, +1, --1, -+-2.5, -()
signs : answer (seq (unary (Minus ∷ []) (num 1) ∷ unary (Plus ∷ []) (num 1) ∷ unary (Minus ∷ Minus
    ∷ []) (num 1) ∷ unary (Minus ∷ Plus ∷ Minus ∷ []) (dec 2500000) ∷ unary (Minus ∷ []) none ∷
    [])) ≡ Ok (codes "-1, 1, 1, 2.5")
unfolding digits chars
signs = refl

-- -(-9223372036854775807 - 1)
sign_of_the_least : answer (unary (Minus ∷ []) (sum (unary (Minus ∷ []) (num 9223372036854775807))
    (minus (num 1) ∷ []))) ≡ Err FOAR0002
unfolding digits chars
sign_of_the_least = refl

-- +"1"
sign_of_a_string : answer (unary (Plus ∷ []) (txt "1")) ≡ Err XPTY0004
unfolding digits chars
sign_of_a_string = refl

-- -xs:untypedAtomic("1")
sign_of_untyped : answer (unary (Minus ∷ []) (call_by (prefixed "xs" "untypedAtomic") (txt "1" ∷
    []))) ≡ Err ProfDouble
unfolding digits chars
sign_of_untyped = refl

-- -(1, 2)
sign_of_two : answer (unary (Minus ∷ []) (seq (num 1 ∷ num 2 ∷ []))) ≡ Err XPTY0004
unfolding digits chars
sign_of_two = refl

-- -1 to 1, 5 to 5, 2 to 1, () to 3, 3 to ()
ranges : answer (seq (to (unary (Minus ∷ []) (num 1)) (num 1) ∷ to (num 5) (num 5) ∷ to (num 2)
    (num 1) ∷ to none (num 3) ∷ to (num 3) none ∷ [])) ≡ Ok (codes "-1, 0, 1, 5")
unfolding digits chars
ranges = refl

-- xs:untypedAtomic(" 2") to 3
range_of_untyped : answer (to (call_by (prefixed "xs" "untypedAtomic") (txt " 2" ∷ [])) (num 3)) ≡
    Ok (codes "2, 3")
unfolding digits chars
range_of_untyped = refl

-- 1 to "3"
range_of_a_string : answer (to (num 1) (txt "3")) ≡ Err XPTY0004
unfolding digits chars
range_of_a_string = refl

-- (1, 2) to 3
range_of_two : answer (to (seq (num 1 ∷ num 2 ∷ [])) (num 3)) ≡ Err XPTY0004
unfolding digits chars
range_of_two = refl

-- xs:untypedAtomic("x") to 3
range_of_bad_untyped : answer (to (call_by (prefixed "xs" "untypedAtomic") (txt "x" ∷ [])) (num 3))
    ≡ Err FORG0001
unfolding digits chars
range_of_bad_untyped = refl

-- xs:untypedAtomic("x") to (1, 2)
range_left_goes_first : answer (to (call_by (prefixed "xs" "untypedAtomic") (txt "x" ∷ [])) (seq
    (num 1 ∷ num 2 ∷ []))) ≡ Err FORG0001
unfolding digits chars
range_left_goes_first = refl

-- -9223372036854775807 to 9223372036854775807
range_of_all : answer (to (unary (Minus ∷ []) (num 9223372036854775807)) (num 9223372036854775807))
    ≡ Err ProfRange
unfolding digits chars
range_of_all = refl

-- "a" || "b", 1 || 2.0, () || "x", true() || (), doc("b")//@id[1] || "!"
concatenations : answer (seq (concat (txt "a" ∷ txt "b" ∷ []) ∷ concat (num 1 ∷ dec 2000000 ∷ []) ∷
    concat (none ∷ txt "x" ∷ []) ∷ concat (call "true" [] ∷ none ∷ []) ∷ concat (path (primary
    (call "doc" (txt "b" ∷ []))) (below (at_test (named "id") (num 1 ∷ [])) ∷ []) ∷ txt "!" ∷ []) ∷
    [])) ≡ Err XPTY0004
unfolding digits chars
concatenations = refl

-- "a" || "b" || 1, () || "x", 2.0 || true(), () || ()
concatenated : answer (seq (concat (txt "a" ∷ txt "b" ∷ num 1 ∷ []) ∷ concat (none ∷ txt "x" ∷ [])
    ∷ concat (dec 2000000 ∷ call "true" [] ∷ []) ∷ concat (none ∷ none ∷ []) ∷ [])) ≡ Ok (codes
    "\"ab1\", \"x\", \"2true\", \"\"")
unfolding digits chars
concatenated = refl

-- doc("b")//book[2]/@id || "!"
concatenated_untyped : answer (concat (path (primary (call "doc" (txt "b" ∷ []))) (below (bare_step
    (named "book") (num 2 ∷ [])) ∷ slash (at "id") ∷ []) ∷ txt "!" ∷ [])) ≡ Ok (codes "\"2!\"")
unfolding digits chars
concatenated_untyped = refl

-- ("a", "b") || "c"
concatenation_of_two : answer (concat (seq (txt "a" ∷ txt "b" ∷ []) ∷ txt "c" ∷ [])) ≡ Err XPTY0004
unfolding digits chars
concatenation_of_two = refl

-- 1 eq 1.0, 1 ne 2, 1 lt 2, "a" le "b", true() gt false(), 2.5 ge 3
value_comparisons : answer (seq (compare (Value Equal) (num 1) (dec 1000000) ∷ compare (Value
    NotEqual) (num 1) (num 2) ∷ compare (Value Less) (num 1) (num 2) ∷ compare (Value LessEqual)
    (txt "a") (txt "b") ∷ compare (Value Greater) (call "true" []) (call "false" []) ∷ compare
    (Value GreaterEqual) (dec 2500000) (num 3) ∷ [])) ≡ Ok (codes
    "true(), true(), true(), true(), true(), false()")
unfolding digits chars
value_comparisons = refl

-- "a" lt "B", "" lt "a", "a" lt "ab"
compared_by_code_points : answer (seq (compare (Value Less) (txt "a") (txt "B") ∷ compare (Value
    Less) (txt "") (txt "a") ∷ compare (Value Less) (txt "a") (txt "ab") ∷ [])) ≡ Ok (codes
    "false(), true(), true()")
unfolding digits chars
compared_by_code_points = refl

-- doc("b")//book[1]/@id eq "1", xs:untypedAtomic("10") lt xs:untypedAtomic("9")
untyped_as_string : answer (seq (compare (Value Equal) (path (primary (call "doc" (txt "b" ∷ [])))
    (below (bare_step (named "book") (num 1 ∷ [])) ∷ slash (at "id") ∷ [])) (txt "1") ∷ compare
    (Value Less) (call_by (prefixed "xs" "untypedAtomic") (txt "10" ∷ [])) (call_by (prefixed "xs"
    "untypedAtomic") (txt "9" ∷ [])) ∷ [])) ≡ Ok (codes "true(), true()")
unfolding digits chars
untyped_as_string = refl

-- () eq 1, 1 eq (), (1, 2) eq ()
value_comparison_with_nothing : answer (seq (compare (Value Equal) none (num 1) ∷ compare (Value
    Equal) (num 1) none ∷ compare (Value Equal) (seq (num 1 ∷ num 2 ∷ [])) none ∷ [])) ≡ Ok (codes
    "()")
unfolding digits chars
value_comparison_with_nothing = refl

-- (1, 2) eq 1
value_comparison_of_two : answer (compare (Value Equal) (seq (num 1 ∷ num 2 ∷ [])) (num 1)) ≡ Err
    XPTY0004
unfolding digits chars
value_comparison_of_two = refl

-- 1 eq "1"
value_comparison_of_kinds : answer (compare (Value Equal) (num 1) (txt "1")) ≡ Err XPTY0004
unfolding digits chars
value_comparison_of_kinds = refl

-- xs:untypedAtomic("1") eq 1
untyped_eq_number : answer (compare (Value Equal) (call_by (prefixed "xs" "untypedAtomic") (txt "1"
    ∷ [])) (num 1)) ≡ Err XPTY0004
unfolding digits chars
untyped_eq_number = refl

-- true() eq 1
truth_and_number : answer (compare (Value Equal) (call "true" []) (num 1)) ≡ Err XPTY0004
unfolding digits chars
truth_and_number = refl

-- (1, 2) = (2, 3), (1, 2) != (1, 2), (1, 2) < 1, () = (), 3 >= (4, 3)
general_comparisons : answer (seq (compare (General Equal) (seq (num 1 ∷ num 2 ∷ [])) (seq (num 2 ∷
    num 3 ∷ [])) ∷ compare (General NotEqual) (seq (num 1 ∷ num 2 ∷ [])) (seq (num 1 ∷ num 2 ∷ []))
    ∷ compare (General Less) (seq (num 1 ∷ num 2 ∷ [])) (num 1) ∷ compare (General Equal) none none
    ∷ compare (General GreaterEqual) (num 3) (seq (num 4 ∷ num 3 ∷ [])) ∷ [])) ≡ Ok (codes
    "true(), true(), false(), false(), true()")
unfolding digits chars
general_comparisons = refl

-- xs:untypedAtomic("1") = true(), xs:untypedAtomic(" false ") = false()
untyped_and_boolean : answer (seq (compare (General Equal) (call_by (prefixed "xs" "untypedAtomic")
    (txt "1" ∷ [])) (call "true" []) ∷ compare (General Equal) (call_by (prefixed "xs"
    "untypedAtomic") (txt " false " ∷ [])) (call "false" []) ∷ [])) ≡ Ok (codes "true(), true()")
unfolding digits chars
untyped_and_boolean = refl

-- xs:untypedAtomic("01") = "1", doc("b")//@id = "2", "10" < xs:untypedAtomic("9")
untyped_as_a_string : answer (seq (compare (General Equal) (call_by (prefixed "xs" "untypedAtomic")
    (txt "01" ∷ [])) (txt "1") ∷ compare (General Equal) (path (primary (call "doc" (txt "b" ∷
    []))) (below (at "id") ∷ [])) (txt "2") ∷ compare (General Less) (txt "10") (call_by (prefixed
    "xs" "untypedAtomic") (txt "9" ∷ [])) ∷ [])) ≡ Ok (codes "false(), true(), true()")
unfolding digits chars
untyped_as_a_string = refl

-- xs:untypedAtomic("x") = true()
bad_untyped_and_boolean : answer (compare (General Equal) (call_by (prefixed "xs" "untypedAtomic")
    (txt "x" ∷ [])) (call "true" [])) ≡ Err FORG0001
unfolding digits chars
bad_untyped_and_boolean = refl

-- 10 > xs:untypedAtomic("9")
number_and_untyped : answer (compare (General Greater) (num 10) (call_by (prefixed "xs"
    "untypedAtomic") (txt "9" ∷ []))) ≡ Err ProfDouble
unfolding digits chars
number_and_untyped = refl

-- (2, 1) = (2, "x"), ("a", 1) != ("b", 1)
pairs_stop_at_the_first : answer (seq (compare (General Equal) (seq (num 2 ∷ num 1 ∷ [])) (seq (num
    2 ∷ txt "x" ∷ [])) ∷ compare (General NotEqual) (seq (txt "a" ∷ num 1 ∷ [])) (seq (txt "b" ∷
    num 1 ∷ [])) ∷ [])) ≡ Ok (codes "true(), true()")
unfolding digits chars
pairs_stop_at_the_first = refl

-- (1, 2) = (3, "x")
pairs_run_left_major : answer (compare (General Equal) (seq (num 1 ∷ num 2 ∷ [])) (seq (num 3 ∷ txt
    "x" ∷ []))) ≡ Err XPTY0004
unfolding digits chars
pairs_run_left_major = refl

-- let $b := doc("b")//book return ($b[1] is $b[1], $b[1] is $b[2], $b[2] >> $b[1], $b[1] <<
-- $b[1]/@id, $b[1]/@id << $b[1]/text())
node_comparisons : answer (flwor (let_be "b" (path (primary (call "doc" (txt "b" ∷ []))) (below
    (child "book") ∷ [])) ∷ []) (seq (compare (Node Is) (path (filtered (var "b") (num 1 ∷ [])) [])
    (path (filtered (var "b") (num 1 ∷ [])) []) ∷ compare (Node Is) (path (filtered (var "b") (num
    1 ∷ [])) []) (path (filtered (var "b") (num 2 ∷ [])) []) ∷ compare (Node Follows) (path
    (filtered (var "b") (num 2 ∷ [])) []) (path (filtered (var "b") (num 1 ∷ [])) []) ∷ compare
    (Node Precedes) (path (filtered (var "b") (num 1 ∷ [])) []) (path (filtered (var "b") (num 1 ∷
    [])) (slash (at "id") ∷ [])) ∷ compare (Node Precedes) (path (filtered (var "b") (num 1 ∷ []))
    (slash (at "id") ∷ [])) (path (filtered (var "b") (num 1 ∷ [])) (slash (bare_step written.Text
    []) ∷ [])) ∷ []))) ≡ Ok (codes "true(), false(), true(), true(), true()")
unfolding digits chars
node_comparisons = refl

-- element a {} is element a {}
equal_nodes_are_not_one : answer (compare (Node Is) (element "a" none) (element "a" none)) ≡ Ok
    (codes "false()")
unfolding digits chars is_name_start is_name_char
equal_nodes_are_not_one = refl

-- doc("b") << element a {}, element a {} << doc("b"), element a {} << element b {}
stored_before_new : answer (seq (compare (Node Precedes) (call "doc" (txt "b" ∷ [])) (element "a"
    none) ∷ compare (Node Precedes) (element "a" none) (call "doc" (txt "b" ∷ [])) ∷ compare (Node
    Precedes) (element "a" none) (element "b" none) ∷ [])) ≡ Ok (codes "true(), false(), true()")
unfolding digits chars is_name_start is_name_char
stored_before_new = refl

-- () is 1, 1 << ()
node_comparison_with_nothing : answer (seq (compare (Node Is) none (num 1) ∷ compare (Node
    Precedes) (num 1) none ∷ [])) ≡ Ok (codes "()")
unfolding digits chars
node_comparison_with_nothing = refl

-- 1 is doc("b")
atom_is_no_node : answer (compare (Node Is) (num 1) (call "doc" (txt "b" ∷ []))) ≡ Err XPTY0004
unfolding digits chars
atom_is_no_node = refl

-- doc("b")//book is doc("b")
two_are_not_one_node : answer (compare (Node Is) (path (primary (call "doc" (txt "b" ∷ []))) (below
    (child "book") ∷ [])) (call "doc" (txt "b" ∷ []))) ≡ Err XPTY0004
unfolding digits chars
two_are_not_one_node = refl

-- count(doc("b")//book | doc("b")//node()), doc("b")//book[2] union doc("b")//book[1] union ()
unions : answer (seq (call "count" (union (path (primary (call "doc" (txt "b" ∷ []))) (below (child
    "book") ∷ []) ∷ path (primary (call "doc" (txt "b" ∷ []))) (below (bare_step written.Node []) ∷
    []) ∷ []) ∷ []) ∷ union (path (primary (call "doc" (txt "b" ∷ []))) (below (bare_step (named
    "book") (num 2 ∷ [])) ∷ []) ∷ path (primary (call "doc" (txt "b" ∷ []))) (below (bare_step
    (named "book") (num 1 ∷ [])) ∷ []) ∷ none ∷ []) ∷ [])) ≡ Ok (codes
    "5, element book {attribute id {\"1\"}, text {\"A\"}}, element book {attribute id {\"2\"}, text {\"B\"}}")
unfolding digits chars
unions = refl

-- doc("b")//* intersect doc("b")//book[1], () intersect doc("b")
intersections : answer (seq (sets (path (primary (call "doc" (txt "b" ∷ []))) (below (bare_step
    written.AnyName []) ∷ [])) (intersect (path (primary (call "doc" (txt "b" ∷ []))) (below
    (bare_step (named "book") (num 1 ∷ [])) ∷ [])) ∷ []) ∷ sets none (intersect (call "doc" (txt
    "b" ∷ [])) ∷ []) ∷ [])) ≡ Ok (codes "element book {attribute id {\"1\"}, text {\"A\"}}")
unfolding digits chars
intersections = refl

-- doc("b")//book except doc("b")//book[1], count(doc("b")//node() except doc("b")//text())
exceptions : answer (seq (sets (path (primary (call "doc" (txt "b" ∷ []))) (below (child "book") ∷
    [])) (without (path (primary (call "doc" (txt "b" ∷ []))) (below (bare_step (named "book") (num
    1 ∷ [])) ∷ [])) ∷ []) ∷ call "count" (sets (path (primary (call "doc" (txt "b" ∷ []))) (below
    (bare_step written.Node []) ∷ [])) (without (path (primary (call "doc" (txt "b" ∷ []))) (below
    (bare_step written.Text []) ∷ [])) ∷ []) ∷ []) ∷ [])) ≡ Ok (codes
    "element book {attribute id {\"2\"}, text {\"B\"}}, 3")
unfolding digits chars
exceptions = refl

-- doc("b")//book except doc("b")//book[1] intersect doc("b")//book
sets_to_the_left : answer (sets (path (primary (call "doc" (txt "b" ∷ []))) (below (child "book") ∷
    [])) (without (path (primary (call "doc" (txt "b" ∷ []))) (below (bare_step (named "book") (num
    1 ∷ [])) ∷ [])) ∷ intersect (path (primary (call "doc" (txt "b" ∷ []))) (below (child "book") ∷
    [])) ∷ [])) ≡ Ok (codes "element book {attribute id {\"2\"}, text {\"B\"}}")
unfolding digits chars
sets_to_the_left = refl

-- doc("b") | 1
union_with_an_atom : answer (union (call "doc" (txt "b" ∷ []) ∷ num 1 ∷ [])) ≡ Err XPTY0004
unfolding digits chars
union_with_an_atom = refl

-- 1 intersect ()
intersection_with_an_atom : answer (sets (num 1) (intersect none ∷ [])) ≡ Err XPTY0004
unfolding digits chars
intersection_with_an_atom = refl

-- doc("b") except "a"
exception_of_an_atom : answer (sets (call "doc" (txt "b" ∷ [])) (without (txt "a") ∷ [])) ≡ Err
    XPTY0004
unfolding digits chars
exception_of_an_atom = refl

-- 1 = 1 or 1 div 0
or_stops : answer (any_of (compare (General Equal) (num 1) (num 1) ∷ product (num 1) (div_by (num
    0) ∷ []) ∷ [])) ≡ Ok (codes "true()")
unfolding digits chars
or_stops = refl

-- 1 = 2 and 1 div 0
and_stops : answer (all_of (compare (General Equal) (num 1) (num 2) ∷ product (num 1) (div_by (num
    0) ∷ []) ∷ [])) ≡ Ok (codes "false()")
unfolding digits chars
and_stops = refl

-- 0 or "" or () or false() or 1
or_goes_on : answer (any_of (num 0 ∷ txt "" ∷ none ∷ call "false" [] ∷ num 1 ∷ [])) ≡ Ok (codes
    "true()")
unfolding digits chars
or_goes_on = refl

-- 1 and "a" and doc("b") and true() and 0.0
and_goes_on : answer (all_of (num 1 ∷ txt "a" ∷ call "doc" (txt "b" ∷ []) ∷ call "true" [] ∷ dec 0
    ∷ [])) ≡ Ok (codes "false()")
unfolding digits chars
and_goes_on = refl

-- (1, 2) or 1
or_judges : answer (any_of (seq (num 1 ∷ num 2 ∷ []) ∷ num 1 ∷ [])) ≡ Err FORG0006
unfolding digits chars
or_judges = refl

-- (doc("b"), 1) and true()
and_of_a_node_and_more : answer (all_of (seq (call "doc" (txt "b" ∷ []) ∷ num 1 ∷ []) ∷ call "true"
    [] ∷ [])) ≡ Ok (codes "true()")
unfolding digits chars
and_of_a_node_and_more = refl

-- if (()) then 1 else 2, if ("a") then 1 else 1 div 0, if (0.0) then 1 div 0 else 2
conditions : answer (seq (iff none (num 1) (num 2) ∷ iff (txt "a") (num 1) (product (num 1) (div_by
    (num 0) ∷ [])) ∷ iff (dec 0) (product (num 1) (div_by (num 0) ∷ [])) (num 2) ∷ [])) ≡ Ok (codes
    "2, 1, 2")
unfolding digits chars
conditions = refl
