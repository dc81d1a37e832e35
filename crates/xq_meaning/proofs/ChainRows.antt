-- Rows of arrows, simple maps, numbered tuples and bindings that allow the empty sequence.
use Rattle.std.specs.Prelude.{◌≡◌, refl, [], ◌∷◌, Ok, Err, codes}
use Rattle.std.specs.Fmt.{digits}
use Rattle.std.specs.Str.{chars}
use Rattle.xq_atoms.specs.Characters.{is_name_start, is_name_char}
use Rattle.xq_atoms.specs.declared.refusals.Code.TheVariants.{FOAR0001, XPDY0002, XPST0017, XPTY0004}
use Rattle.xq_expressions.specs.declared.operators.Sign.TheVariants.{Minus}
use Rattle.xq_expressions.specs.declared.operators.Relation.TheVariants.{Equal, Greater}
use Rattle.xq_expressions.specs.declared.operators.ComparisonOperator.TheVariants.{General}
use Rattle.xq_meaning.proofs.Writing.{prefixed, num, txt, var, dot, seq, none, call, call_by, onto, onto_by, arrow, mapped, plus, times, div_by, mod_by, intersect, sum, product, unary, compare, sets, slash, below, path, primary, filtered, named, bare_step, child, at, element, flwor, each, each_at, each_or_none, each_or_none_at, for_all, for_in, let_be, count_as, where_is, grouping, assigned, group_by, by, order_by, ascending, descending}
use Rattle.xq_meaning.proofs.Library.{answer}

-- (3, 1, 2) ! (. * 10)
map_atoms : answer (mapped (seq (num 3 ∷ num 1 ∷ num 2 ∷ [])) (product dot (times (num 10) ∷ []) ∷
    [])) ≡ Ok (codes "30, 10, 20")
unfolding digits chars
map_atoms = refl

-- (doc("b")//book[2], doc("b")//book[1]) ! @id ! string()
map_keeps_its_order : answer (mapped (seq (path (primary (call "doc" (txt "b" ∷ []))) (below
    (bare_step (named "book") (num 2 ∷ [])) ∷ []) ∷ path (primary (call "doc" (txt "b" ∷ [])))
    (below (bare_step (named "book") (num 1 ∷ [])) ∷ []) ∷ [])) (path (at "id") [] ∷ call "string"
    [] ∷ [])) ≡ Ok (codes "\"2\", \"1\"")
unfolding digits chars
map_keeps_its_order = refl

-- (doc("b")//book[1], doc("b")//book[1]) ! @id
map_keeps_doubles : answer (mapped (seq (path (primary (call "doc" (txt "b" ∷ []))) (below
    (bare_step (named "book") (num 1 ∷ [])) ∷ []) ∷ path (primary (call "doc" (txt "b" ∷ [])))
    (below (bare_step (named "book") (num 1 ∷ [])) ∷ []) ∷ [])) (path (at "id") [] ∷ [])) ≡ Ok
    (codes "attribute id {\"1\"}, attribute id {\"1\"}")
unfolding digits chars
map_keeps_doubles = refl

-- doc("b")//book[1] ! (@id, 1, "a")
map_mixes : answer (mapped (path (primary (call "doc" (txt "b" ∷ []))) (below (bare_step (named
    "book") (num 1 ∷ [])) ∷ [])) (seq (path (at "id") [] ∷ num 1 ∷ txt "a" ∷ []) ∷ [])) ≡ Ok (codes
    "attribute id {\"1\"}, 1, \"a\"")
unfolding digits chars
map_mixes = refl

-- () ! (1 div 0)
map_of_nothing : answer (mapped none (product (num 1) (div_by (num 0) ∷ []) ∷ [])) ≡ Ok (codes
    "()")
unfolding digits chars
map_of_nothing = refl

-- (1, 2) ! ()
map_to_nothing : answer (mapped (seq (num 1 ∷ num 2 ∷ [])) (none ∷ [])) ≡ Ok (codes "()")
unfolding digits chars
map_to_nothing = refl

-- ("a", "b", "c") ! (position() * 10 + last())
map_positions : answer (mapped (seq (txt "a" ∷ txt "b" ∷ txt "c" ∷ [])) (sum (product (call
    "position" []) (times (num 10) ∷ [])) (plus (call "last" []) ∷ []) ∷ [])) ≡ Ok (codes
    "13, 23, 33")
unfolding digits chars
map_positions = refl

-- "a" ! position() ! last()
map_positions_in_a_chain : answer (mapped (txt "a") (call "position" [] ∷ call "last" [] ∷ [])) ≡
    Ok (codes "1")
unfolding digits chars
map_positions_in_a_chain = refl

-- (1, 2) ! (., .) ! last()
map_groups_to_the_left : answer (mapped (seq (num 1 ∷ num 2 ∷ [])) (seq (dot ∷ dot ∷ []) ∷ call
    "last" [] ∷ [])) ≡ Ok (codes "4, 4, 4, 4")
unfolding digits chars
map_groups_to_the_left = refl

-- (1, 2) ! ((5, 6) ! position())
map_in_a_map : answer (mapped (seq (num 1 ∷ num 2 ∷ [])) (mapped (seq (num 5 ∷ num 6 ∷ [])) (call
    "position" [] ∷ []) ∷ [])) ≡ Ok (codes "1, 2, 1, 2")
unfolding digits chars
map_in_a_map = refl

-- doc("b")/lib/book ! string(@id)
map_after_a_path : answer (mapped (path (primary (call "doc" (txt "b" ∷ []))) (slash (child "lib")
    ∷ slash (child "book") ∷ [])) (call "string" (path (at "id") [] ∷ []) ∷ [])) ≡ Ok (codes
    "\"1\", \"2\"")
unfolding digits chars
map_after_a_path = refl

-- doc("b")/lib/(book ! @id)
map_in_a_path : answer (path (primary (call "doc" (txt "b" ∷ []))) (slash (child "lib") ∷ slash
    (primary (mapped (path (child "book") []) (path (at "id") [] ∷ []))) ∷ [])) ≡ Ok (codes
    "attribute id {\"1\"}, attribute id {\"2\"}")
unfolding digits chars
map_in_a_path = refl

-- -1 ! (. + 1)
map_below_a_sign : answer (unary (Minus ∷ []) (mapped (num 1) (sum dot (plus (num 1) ∷ []) ∷ [])))
    ≡ Ok (codes "-2")
unfolding digits chars
map_below_a_sign = refl

-- (1, 2) ! element a {.}
map_builds_trees : answer (mapped (seq (num 1 ∷ num 2 ∷ [])) (element "a" dot ∷ [])) ≡ Ok (codes
    "element a {text {\"1\"}}, element a {text {\"2\"}}")
unfolding digits chars is_name_start is_name_char
map_builds_trees = refl

-- (1, 0, "a") ! (1 div .)
map_stops_at_a_refusal : answer (mapped (seq (num 1 ∷ num 0 ∷ txt "a" ∷ [])) (product (num 1)
    (div_by dot ∷ []) ∷ [])) ≡ Err FOAR0001
unfolding digits chars
map_stops_at_a_refusal = refl

-- . ! 1
map_without_a_context : answer (mapped dot (num 1 ∷ [])) ≡ Err XPDY0002
unfolding digits chars
map_without_a_context = refl

-- "a" => concat("b") => string-length()
arrow_chain : answer (arrow (txt "a") (onto "concat" (txt "b" ∷ []) ∷ onto "string-length" [] ∷
    [])) ≡ Ok (codes "2")
unfolding digits chars
arrow_chain = refl

-- -3 => abs()
arrow_after_a_sign : answer (arrow (unary (Minus ∷ []) (num 3)) (onto "abs" [] ∷ [])) ≡ Ok (codes
    "3")
unfolding digits chars
arrow_after_a_sign = refl

-- 1 + -3 => abs()
arrow_in_a_sum : answer (sum (num 1) (plus (arrow (unary (Minus ∷ []) (num 3)) (onto "abs" [] ∷
    [])) ∷ [])) ≡ Ok (codes "4")
unfolding digits chars
arrow_in_a_sum = refl

-- (1, 2) ! (. * 2) => sum()
arrow_after_a_map : answer (arrow (mapped (seq (num 1 ∷ num 2 ∷ [])) (product dot (times (num 2) ∷
    []) ∷ [])) (onto "sum" [] ∷ [])) ≡ Ok (codes "6")
unfolding digits chars
arrow_after_a_map = refl

-- let $b := doc("b")//book return ($b => reverse() intersect $b[1])/string(@id)
arrow_before_intersect : answer (flwor (let_be "b" (path (primary (call "doc" (txt "b" ∷ [])))
    (below (child "book") ∷ [])) ∷ []) (path (primary (sets (arrow (var "b") (onto "reverse" [] ∷
    [])) (intersect (path (filtered (var "b") (num 1 ∷ [])) []) ∷ []))) (slash (primary (call
    "string" (path (at "id") [] ∷ []))) ∷ []))) ≡ Ok (codes "\"1\"")
unfolding digits chars
arrow_before_intersect = refl

-- concat("a", "b" => concat("c"))
arrow_in_an_argument : answer (call "concat" (txt "a" ∷ arrow (txt "b") (onto "concat" (txt "c" ∷
    []) ∷ []) ∷ [])) ≡ Ok (codes "\"abc\"")
unfolding digits chars
arrow_in_an_argument = refl

-- "7" => xs:integer() => fn:abs()
arrow_with_prefixes : answer (arrow (txt "7") (onto_by (prefixed "xs" "integer") [] ∷ onto_by
    (prefixed "fn" "abs") [] ∷ [])) ≡ Ok (codes "7")
unfolding digits chars
arrow_with_prefixes = refl

-- (5, 6)[. => string() => starts-with("6")]
arrow_in_a_predicate : answer (path (filtered (seq (num 5 ∷ num 6 ∷ [])) (arrow dot (onto "string"
    [] ∷ onto "starts-with" (txt "6" ∷ []) ∷ []) ∷ [])) []) ≡ Ok (codes "6")
unfolding digits chars
arrow_in_a_predicate = refl

-- (1, 2, 3) => count()
arrow_of_a_sequence : answer (arrow (seq (num 1 ∷ num 2 ∷ num 3 ∷ [])) (onto "count" [] ∷ [])) ≡ Ok
    (codes "3")
unfolding digits chars
arrow_of_a_sequence = refl

-- () => empty()
arrow_of_nothing : answer (arrow none (onto "empty" [] ∷ [])) ≡ Ok (codes "true()")
unfolding digits chars
arrow_of_nothing = refl

-- "b" => doc() => count()
arrow_to_a_document : answer (arrow (txt "b") (onto "doc" [] ∷ onto "count" [] ∷ [])) ≡ Ok (codes
    "1")
unfolding digits chars
arrow_to_a_document = refl

-- let $x := "b" return "a" => concat($x, $x)
arrow_sees_variables : answer (flwor (let_be "x" (txt "b") ∷ []) (arrow (txt "a") (onto "concat"
    (var "x" ∷ var "x" ∷ []) ∷ []))) ≡ Ok (codes "\"abb\"")
unfolding digits chars
arrow_sees_variables = refl

-- element a {1} => concat(element b {2})
arrow_of_new_trees : answer (arrow (element "a" (num 1)) (onto "concat" (element "b" (num 2) ∷ [])
    ∷ [])) ≡ Ok (codes "\"12\"")
unfolding digits chars is_name_start is_name_char
arrow_of_new_trees = refl

-- (1 div 0) => concat(xs:integer("x"))
arrow_evaluates_the_first_first : answer (arrow (product (num 1) (div_by (num 0) ∷ [])) (onto
    "concat" (call_by (prefixed "xs" "integer") (txt "x" ∷ []) ∷ []) ∷ [])) ≡ Err FOAR0001
unfolding digits chars
arrow_evaluates_the_first_first = refl

-- (1, 2) => contains(1 div 0)
arrow_evaluates_before_it_converts : answer (arrow (seq (num 1 ∷ num 2 ∷ [])) (onto "contains"
    (product (num 1) (div_by (num 0) ∷ []) ∷ []) ∷ [])) ≡ Err FOAR0001
unfolding digits chars
arrow_evaluates_before_it_converts = refl

-- (1, 2) => contains(("a", "b"))
arrow_converts_the_first_first : answer (arrow (seq (num 1 ∷ num 2 ∷ [])) (onto "contains" (seq
    (txt "a" ∷ txt "b" ∷ []) ∷ []) ∷ [])) ≡ Err XPTY0004
unfolding digits chars
arrow_converts_the_first_first = refl

-- 1 => nothing()
arrow_to_no_function : answer (arrow (num 1) (onto "nothing" [] ∷ [])) ≡ Err XPST0017
unfolding digits chars
arrow_to_no_function = refl

-- 1 => position()
arrow_to_a_function_of_none : answer (arrow (num 1) (onto "position" [] ∷ [])) ≡ Err XPST0017
unfolding digits chars
arrow_to_a_function_of_none = refl

-- 1 => abs(2)
arrow_to_a_function_of_one : answer (arrow (num 1) (onto "abs" (num 2 ∷ []) ∷ [])) ≡ Err XPST0017
unfolding digits chars
arrow_to_a_function_of_one = refl

-- (1 div 0) => abs() => nothing()
arrow_knows_its_calls_first : answer (arrow (product (num 1) (div_by (num 0) ∷ [])) (onto "abs" []
    ∷ onto "nothing" [] ∷ [])) ≡ Err XPST0017
unfolding digits chars
arrow_knows_its_calls_first = refl

-- (1 div 0) => nothing() => abs()
arrow_goes_on_from_no_function : answer (arrow (product (num 1) (div_by (num 0) ∷ [])) (onto
    "nothing" [] ∷ onto "abs" [] ∷ [])) ≡ Err XPST0017
unfolding digits chars
arrow_goes_on_from_no_function = refl

-- for $x in (5, 7, 9) order by $x descending count $c return $c * 100 + $x
count_after_order_by : answer (flwor (for_in "x" (seq (num 5 ∷ num 7 ∷ num 9 ∷ [])) ∷ order_by (by
    (var "x") descending ∷ []) ∷ count_as "c" ∷ []) (sum (product (var "c") (times (num 100) ∷ []))
    (plus (var "x") ∷ []))) ≡ Ok (codes "109, 207, 305")
unfolding digits chars
count_after_order_by = refl

-- for $x in (5, 7, 9) count $c order by $x descending return $c * 100 + $x
count_before_order_by : answer (flwor (for_in "x" (seq (num 5 ∷ num 7 ∷ num 9 ∷ [])) ∷ count_as "c"
    ∷ order_by (by (var "x") descending ∷ []) ∷ []) (sum (product (var "c") (times (num 100) ∷ []))
    (plus (var "x") ∷ []))) ≡ Ok (codes "309, 207, 105")
unfolding digits chars
count_before_order_by = refl

-- for $x in (5, 7, 9) count $c where $x > 5 return $c
count_before_where : answer (flwor (for_in "x" (seq (num 5 ∷ num 7 ∷ num 9 ∷ [])) ∷ count_as "c" ∷
    where_is (compare (General Greater) (var "x") (num 5)) ∷ []) (var "c")) ≡ Ok (codes "2, 3")
unfolding digits chars
count_before_where = refl

-- for $x in (5, 7, 9) where $x > 5 count $c return $c
count_after_where : answer (flwor (for_in "x" (seq (num 5 ∷ num 7 ∷ num 9 ∷ [])) ∷ where_is
    (compare (General Greater) (var "x") (num 5)) ∷ count_as "c" ∷ []) (var "c")) ≡ Ok (codes
    "1, 2")
unfolding digits chars
count_after_where = refl

-- for $x in (1, 2) count $c group by $g := $c mod 2 return $g
count_in_a_key : answer (flwor (for_in "x" (seq (num 1 ∷ num 2 ∷ [])) ∷ count_as "c" ∷ group_by
    (assigned "g" (product (var "c") (mod_by (num 2) ∷ [])) ∷ []) ∷ []) (var "g")) ≡ Ok (codes
    "1, 0")
unfolding digits chars
count_in_a_key = refl

-- for $x in (1, 2, 3) count $c group by $g := $x mod 2 return ($g, $c)
count_in_groups : answer (flwor (for_in "x" (seq (num 1 ∷ num 2 ∷ num 3 ∷ [])) ∷ count_as "c" ∷
    group_by (assigned "g" (product (var "x") (mod_by (num 2) ∷ [])) ∷ []) ∷ []) (seq (var "g" ∷
    var "c" ∷ []))) ≡ Ok (codes "1, 1, 3, 0, 2")
unfolding digits chars
count_in_groups = refl

-- for $x in (1, 2) count $c group by $c return $c + 10
count_as_a_key : answer (flwor (for_in "x" (seq (num 1 ∷ num 2 ∷ [])) ∷ count_as "c" ∷ group_by
    (grouping "c" ∷ []) ∷ []) (sum (var "c") (plus (num 10) ∷ []))) ≡ Ok (codes "11, 12")
unfolding digits chars
count_as_a_key = refl

-- for $x in (1, 1, 2) group by $x count $c return ($x, $c)
count_of_groups : answer (flwor (for_in "x" (seq (num 1 ∷ num 1 ∷ num 2 ∷ [])) ∷ group_by (grouping
    "x" ∷ []) ∷ count_as "c" ∷ []) (seq (var "x" ∷ var "c" ∷ []))) ≡ Ok (codes "1, 1, 2, 2")
unfolding digits chars
count_of_groups = refl

-- for $x in (7, 8, 9) count $c where $c > 1 count $d return ($c, $d)
count_twice : answer (flwor (for_in "x" (seq (num 7 ∷ num 8 ∷ num 9 ∷ [])) ∷ count_as "c" ∷
    where_is (compare (General Greater) (var "c") (num 1)) ∷ count_as "d" ∷ []) (seq (var "c" ∷ var
    "d" ∷ []))) ≡ Ok (codes "2, 1, 3, 2")
unfolding digits chars
count_twice = refl

-- for $x in (7, 8) count $c where $c = 2 count $c return $c
count_hides_count : answer (flwor (for_in "x" (seq (num 7 ∷ num 8 ∷ [])) ∷ count_as "c" ∷ where_is
    (compare (General Equal) (var "c") (num 2)) ∷ count_as "c" ∷ []) (var "c")) ≡ Ok (codes "1")
unfolding digits chars
count_hides_count = refl

-- for $x in (7, 8) count $x return $x
count_hides_for : answer (flwor (for_in "x" (seq (num 7 ∷ num 8 ∷ [])) ∷ count_as "x" ∷ []) (var
    "x")) ≡ Ok (codes "1, 2")
unfolding digits chars
count_hides_for = refl

-- let $c := 5 return (for $x in (1, 2) count $c return $c, $c)
count_is_gone_after_return : answer (flwor (let_be "c" (num 5) ∷ []) (seq (flwor (for_in "x" (seq
    (num 1 ∷ num 2 ∷ [])) ∷ count_as "c" ∷ []) (var "c") ∷ var "c" ∷ []))) ≡ Ok (codes "1, 2, 5")
unfolding digits chars
count_is_gone_after_return = refl

-- for $x in (1, 2) for $y in (1, 2) count $c return $c
count_after_two : answer (flwor (for_in "x" (seq (num 1 ∷ num 2 ∷ [])) ∷ for_in "y" (seq (num 1 ∷
    num 2 ∷ [])) ∷ count_as "c" ∷ []) (var "c")) ≡ Ok (codes "1, 2, 3, 4")
unfolding digits chars
count_after_two = refl

-- for $x in (5, 6) count $c let $d := $c * 2 return $d
count_before_let : answer (flwor (for_in "x" (seq (num 5 ∷ num 6 ∷ [])) ∷ count_as "c" ∷ let_be "d"
    (product (var "c") (times (num 2) ∷ [])) ∷ []) (var "d")) ≡ Ok (codes "2, 4")
unfolding digits chars
count_before_let = refl

-- let $x := (1, 2) count $c return $c
count_after_let : answer (flwor (let_be "x" (seq (num 1 ∷ num 2 ∷ [])) ∷ count_as "c" ∷ []) (var
    "c")) ≡ Ok (codes "1")
unfolding digits chars
count_after_let = refl

-- for $x in () count $c return 1 div 0
count_of_no_tuple : answer (flwor (for_in "x" none ∷ count_as "c" ∷ []) (product (num 1) (div_by
    (num 0) ∷ []))) ≡ Ok (codes "()")
unfolding digits chars
count_of_no_tuple = refl

-- for $x allowing empty in () return count($x)
allowing_empty : answer (flwor (for_all (each_or_none "x" none ∷ []) ∷ []) (call "count" (var "x" ∷
    []))) ≡ Ok (codes "0")
unfolding digits chars
allowing_empty = refl

-- for $x allowing empty at $p in () return ($p, count($x))
allowing_empty_at : answer (flwor (for_all (each_or_none_at "x" "p" none ∷ []) ∷ []) (seq (var "p"
    ∷ call "count" (var "x" ∷ []) ∷ []))) ≡ Ok (codes "0, 0")
unfolding digits chars
allowing_empty_at = refl

-- for $x allowing empty at $p in ("a", "b") return ($p, $x)
allowing_empty_of_items : answer (flwor (for_all (each_or_none_at "x" "p" (seq (txt "a" ∷ txt "b" ∷
    [])) ∷ []) ∷ []) (seq (var "p" ∷ var "x" ∷ []))) ≡ Ok (codes "1, \"a\", 2, \"b\"")
unfolding digits chars
allowing_empty_of_items = refl

-- for $x in (1, 2) for $y allowing empty at $p in (5, 6)[$x = 2] return ($x, $p, count($y))
allowing_empty_in_the_second : answer (flwor (for_in "x" (seq (num 1 ∷ num 2 ∷ [])) ∷ for_all
    (each_or_none_at "y" "p" (path (filtered (seq (num 5 ∷ num 6 ∷ [])) (compare (General Equal)
    (var "x") (num 2) ∷ [])) []) ∷ []) ∷ []) (seq (var "x" ∷ var "p" ∷ call "count" (var "y" ∷ [])
    ∷ []))) ≡ Ok (codes "1, 0, 0, 2, 1, 1, 2, 2, 1")
unfolding digits chars
allowing_empty_in_the_second = refl

-- for $x in (1, 2) for $y at $p in (5, 6)[$x = 2] return ($x, $p, count($y))
no_empty_in_the_second : answer (flwor (for_in "x" (seq (num 1 ∷ num 2 ∷ [])) ∷ for_all (each_at
    "y" "p" (path (filtered (seq (num 5 ∷ num 6 ∷ [])) (compare (General Equal) (var "x") (num 2) ∷
    [])) []) ∷ []) ∷ []) (seq (var "x" ∷ var "p" ∷ call "count" (var "y" ∷ []) ∷ []))) ≡ Ok (codes
    "2, 1, 1, 2, 2, 1")
unfolding digits chars
no_empty_in_the_second = refl

-- for $x in (1, 2), $y allowing empty in () return ($x, count($y))
allowing_empty_in_one_clause : answer (flwor (for_all (each "x" (seq (num 1 ∷ num 2 ∷ [])) ∷
    each_or_none "y" none ∷ []) ∷ []) (seq (var "x" ∷ call "count" (var "y" ∷ []) ∷ []))) ≡ Ok
    (codes "1, 0, 2, 0")
unfolding digits chars
allowing_empty_in_one_clause = refl

-- for $x in (1, 2) for $y allowing empty at $p in () group by $p return ($p, count($x),
-- count($y))
allowing_empty_in_groups : answer (flwor (for_in "x" (seq (num 1 ∷ num 2 ∷ [])) ∷ for_all
    (each_or_none_at "y" "p" none ∷ []) ∷ group_by (grouping "p" ∷ []) ∷ []) (seq (var "p" ∷ call
    "count" (var "x" ∷ []) ∷ call "count" (var "y" ∷ []) ∷ []))) ≡ Ok (codes "0, 2, 0")
unfolding digits chars
allowing_empty_in_groups = refl

-- for $x in (1, 2) for $y allowing empty in () count $c return $c
allowing_empty_and_count : answer (flwor (for_in "x" (seq (num 1 ∷ num 2 ∷ [])) ∷ for_all
    (each_or_none "y" none ∷ []) ∷ count_as "c" ∷ []) (var "c")) ≡ Ok (codes "1, 2")
unfolding digits chars
allowing_empty_and_count = refl

-- for $x allowing empty in () order by $x return "a"
allowing_empty_in_order : answer (flwor (for_all (each_or_none "x" none ∷ []) ∷ order_by (by (var
    "x") ascending ∷ []) ∷ []) (txt "a")) ≡ Ok (codes "\"a\"")
unfolding digits chars
allowing_empty_in_order = refl

-- for $x allowing empty in (1 div 0) return 1
allowing_empty_judges : answer (flwor (for_all (each_or_none "x" (product (num 1) (div_by (num 0) ∷
    [])) ∷ []) ∷ []) (num 1)) ≡ Err FOAR0001
unfolding digits chars
allowing_empty_judges = refl

-- for $count in (1, 2) count $empty let $allowing := $count return ($empty, $allowing)
words_of_variables : answer (flwor (for_in "count" (seq (num 1 ∷ num 2 ∷ [])) ∷ count_as "empty" ∷
    let_be "allowing" (var "count") ∷ []) (seq (var "empty" ∷ var "allowing" ∷ []))) ≡ Ok (codes
    "1, 1, 2, 2")
unfolding digits chars
words_of_variables = refl

-- element count {element allowing {}, element empty {}}/allowing/name()
words_of_elements : answer (path (primary (element "count" (seq (element "allowing" none ∷ element
    "empty" none ∷ [])))) (slash (child "allowing") ∷ slash (primary (call "name" [])) ∷ [])) ≡ Ok
    (codes "\"allowing\"")
unfolding digits chars is_name_start is_name_char
words_of_elements = refl

-- for $allowing allowing empty in () return count($allowing)
words_of_both : answer (flwor (for_all (each_or_none "allowing" none ∷ []) ∷ []) (call "count" (var
    "allowing" ∷ []))) ≡ Ok (codes "0")
unfolding digits chars
words_of_both = refl
