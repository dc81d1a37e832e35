-- Rows of FLWOR and quantified expressions.
use Rattle.std.specs.Prelude.{◌≡◌, refl, [], ◌∷◌, Ok, Err, codes}
use Rattle.std.specs.Fmt.{digits}
use Rattle.std.specs.Str.{chars}
use Rattle.xq_atoms.specs.Characters.{is_name_start, is_name_char}
use Rattle.xq_atoms.specs.declared.refusals.Code.TheVariants.{FOAR0001, FORG0006, XPTY0004}
use Rattle.xq_expressions.specs.declared.operators.Relation.TheVariants.{Equal, NotEqual, LessEqual, Greater}
use Rattle.xq_expressions.specs.declared.operators.ComparisonOperator.TheVariants.{Value, General, Node}
use Rattle.xq_expressions.specs.declared.operators.NodeComparison.TheVariants.{Precedes}
use Rattle.xq_expressions.specs.declared.operators.Quantifier.TheVariants as quantifier
use Rattle.xq_meaning.proofs.Writing.{num, dec, txt, var, dot, seq, none, call, call_by, prefixed, sum, product, to, compare, union, iff, quantified, path, primary, filtered, named, bare_step, child, at, element, attribute, flwor, for_all, for_in, let_all, let_be, where_is, grouping, assigned, group_by, order_by, ascending, descending, empty_greatest, descending_greatest, plus, times, div_by, idiv_by, mod_by, slash, below, be, each, each_at, by}
use Rattle.xq_meaning.proofs.Library.{answer}

-- for $x in (1, 2) return $x * 10
for_each : answer (flwor (for_in "x" (seq (num 1 ∷ num 2 ∷ [])) ∷ []) (product (var "x") (times
    (num 10) ∷ []))) ≡ Ok (codes "10, 20")
unfolding digits chars
for_each = refl

-- for $x in () return 1 div 0
for_nothing : answer (flwor (for_in "x" none ∷ []) (product (num 1) (div_by (num 0) ∷ []))) ≡ Ok
    (codes "()")
unfolding digits chars
for_nothing = refl

-- for $x in (1, 2), $y in ($x, $x + 1) return $x * $y
for_in_for : answer (flwor (for_all (each "x" (seq (num 1 ∷ num 2 ∷ [])) ∷ each "y" (seq (var "x" ∷
    sum (var "x") (plus (num 1) ∷ []) ∷ [])) ∷ []) ∷ []) (product (var "x") (times (var "y") ∷
    []))) ≡ Ok (codes "1, 2, 4, 6")
unfolding digits chars
for_in_for = refl

-- for $x at $p in ("a", "b") return ($p, $x)
for_at : answer (flwor (for_all (each_at "x" "p" (seq (txt "a" ∷ txt "b" ∷ [])) ∷ []) ∷ []) (seq
    (var "p" ∷ var "x" ∷ []))) ≡ Ok (codes "1, \"a\", 2, \"b\"")
unfolding digits chars
for_at = refl

-- for $x in (1, 2) for $y at $p in (5, 6) return $p
for_at_in_each_tuple : answer (flwor (for_in "x" (seq (num 1 ∷ num 2 ∷ [])) ∷ for_all (each_at "y"
    "p" (seq (num 5 ∷ num 6 ∷ [])) ∷ []) ∷ []) (var "p")) ≡ Ok (codes "1, 2, 1, 2")
unfolding digits chars
for_at_in_each_tuple = refl

-- let $x := (1, 2), $y := count($x) return ($y, $x)
let_a_sequence : answer (flwor (let_all (be "x" (seq (num 1 ∷ num 2 ∷ [])) ∷ be "y" (call "count"
    (var "x" ∷ [])) ∷ []) ∷ []) (seq (var "y" ∷ var "x" ∷ []))) ≡ Ok (codes "2, 1, 2")
unfolding digits chars
let_a_sequence = refl

-- let $x := () return count($x)
let_nothing : answer (flwor (let_be "x" none ∷ []) (call "count" (var "x" ∷ []))) ≡ Ok (codes "0")
unfolding digits chars
let_nothing = refl

-- for $x in 1 to 4 where $x mod 2 = 0 let $y := $x where $y > 2 return $y
where_between : answer (flwor (for_in "x" (to (num 1) (num 4)) ∷ where_is (compare (General Equal)
    (product (var "x") (mod_by (num 2) ∷ [])) (num 0)) ∷ let_be "y" (var "x") ∷ where_is (compare
    (General Greater) (var "y") (num 2)) ∷ []) (var "y")) ≡ Ok (codes "4")
unfolding digits chars
where_between = refl

-- for $x in 1 where (1, 2) return 1
where_judges : answer (flwor (for_in "x" (num 1) ∷ where_is (seq (num 1 ∷ num 2 ∷ [])) ∷ []) (num
    1)) ≡ Err FORG0006
unfolding digits chars
where_judges = refl

-- for $x in (1, 0) let $y := 1 div $x return 1 idiv 0
clause_by_clause : answer (flwor (for_in "x" (seq (num 1 ∷ num 0 ∷ [])) ∷ let_be "y" (product (num
    1) (div_by (var "x") ∷ [])) ∷ []) (product (num 1) (idiv_by (num 0) ∷ []))) ≡ Err FOAR0001
unfolding digits chars
clause_by_clause = refl

-- for $x in (0, "a") let $y := 1 + $x let $z := 1 div $x return 1
all_of_a_clause_first : answer (flwor (for_in "x" (seq (num 0 ∷ txt "a" ∷ [])) ∷ let_be "y" (sum
    (num 1) (plus (var "x") ∷ [])) ∷ let_be "z" (product (num 1) (div_by (var "x") ∷ [])) ∷ [])
    (num 1)) ≡ Err XPTY0004
unfolding digits chars
all_of_a_clause_first = refl

-- for $x in (1, 2) let $a := element a {} let $b := element b {} return $b << $a
trees_by_clauses : answer (flwor (for_in "x" (seq (num 1 ∷ num 2 ∷ [])) ∷ let_be "a" (element "a"
    none) ∷ let_be "b" (element "b" none) ∷ []) (compare (Node Precedes) (var "b") (var "a"))) ≡ Ok
    (codes "false(), false()")
unfolding digits chars is_name_start is_name_char
trees_by_clauses = refl

-- let $s := (for $x in (1, 2) let $a := element a {attribute n {$x}} let $b := element b
-- {attribute n {$x}} return ($a, $b)) return ($s | ())/@n/string()
trees_of_the_next_tuple : answer (flwor (let_be "s" (flwor (for_in "x" (seq (num 1 ∷ num 2 ∷ [])) ∷
    let_be "a" (element "a" (attribute "n" (var "x"))) ∷ let_be "b" (element "b" (attribute "n"
    (var "x"))) ∷ []) (seq (var "a" ∷ var "b" ∷ []))) ∷ []) (path (primary (union (var "s" ∷ none ∷
    []))) (slash (at "n") ∷ slash (primary (call "string" [])) ∷ []))) ≡ Ok (codes
    "\"1\", \"2\", \"1\", \"2\"")
unfolding digits chars is_name_start is_name_char
trees_of_the_next_tuple = refl

-- for $x in (1, 2, 1.0, 2) group by $k := $x return ($k, count($x))
group_numbers : answer (flwor (for_in "x" (seq (num 1 ∷ num 2 ∷ dec 1000000 ∷ num 2 ∷ [])) ∷
    group_by (assigned "k" (var "x") ∷ []) ∷ []) (seq (var "k" ∷ call "count" (var "x" ∷ []) ∷
    []))) ≡ Ok (codes "1, 2, 2, 2")
unfolding digits chars
group_numbers = refl

-- for $x in ("a", xs:untypedAtomic("a"), "b") group by $k := $x return ($k, count($x))
group_strings_and_untyped : answer (flwor (for_in "x" (seq (txt "a" ∷ call_by (prefixed "xs"
    "untypedAtomic") (txt "a" ∷ []) ∷ txt "b" ∷ [])) ∷ group_by (assigned "k" (var "x") ∷ []) ∷ [])
    (seq (var "k" ∷ call "count" (var "x" ∷ []) ∷ []))) ≡ Ok (codes "\"a\", 2, \"b\", 1")
unfolding digits chars
group_strings_and_untyped = refl

-- for $x in xs:untypedAtomic("a") group by $x return $x
group_key_of_untyped : answer (flwor (for_in "x" (call_by (prefixed "xs" "untypedAtomic") (txt "a"
    ∷ [])) ∷ group_by (grouping "x" ∷ []) ∷ []) (var "x")) ≡ Ok (codes "\"a\"")
unfolding digits chars
group_key_of_untyped = refl

-- for $x in (1, 2, 3) group by $k := (if ($x = 2) then 2 else ()) return (count($k), count($x))
group_empty_keys : answer (flwor (for_in "x" (seq (num 1 ∷ num 2 ∷ num 3 ∷ [])) ∷ group_by
    (assigned "k" (iff (compare (General Equal) (var "x") (num 2)) (num 2) none) ∷ []) ∷ []) (seq
    (call "count" (var "k" ∷ []) ∷ call "count" (var "x" ∷ []) ∷ []))) ≡ Ok (codes "0, 2, 1, 1")
unfolding digits chars
group_empty_keys = refl

-- for $x in (1, 2, 3) group by $odd := $x mod 2 = 1 return ($odd, $x)
group_booleans : answer (flwor (for_in "x" (seq (num 1 ∷ num 2 ∷ num 3 ∷ [])) ∷ group_by (assigned
    "odd" (compare (General Equal) (product (var "x") (mod_by (num 2) ∷ [])) (num 1)) ∷ []) ∷ [])
    (seq (var "odd" ∷ var "x" ∷ []))) ≡ Ok (codes "true(), 1, 3, false(), 2")
unfolding digits chars
group_booleans = refl

-- for $x in (1, 1, 2), $y in (1, 2) group by $x, $y return count(($x, $y))
group_by_two : answer (flwor (for_all (each "x" (seq (num 1 ∷ num 1 ∷ num 2 ∷ [])) ∷ each "y" (seq
    (num 1 ∷ num 2 ∷ [])) ∷ []) ∷ group_by (grouping "x" ∷ grouping "y" ∷ []) ∷ []) (call "count"
    (seq (var "x" ∷ var "y" ∷ []) ∷ []))) ≡ Ok (codes "2, 2, 2, 2")
unfolding digits chars
group_by_two = refl

-- for $x in (1, 2, 1) let $y := ($x, $x + 10) group by $x return count($y)
group_joins_the_others : answer (flwor (for_in "x" (seq (num 1 ∷ num 2 ∷ num 1 ∷ [])) ∷ let_be "y"
    (seq (var "x" ∷ sum (var "x") (plus (num 10) ∷ []) ∷ [])) ∷ group_by (grouping "x" ∷ []) ∷ [])
    (call "count" (var "y" ∷ []))) ≡ Ok (codes "4, 2")
unfolding digits chars
group_joins_the_others = refl

-- let $o := (7, 8) return for $x in (1, 2, 1) let $y := $x group by $x, $x return (count($y),
-- count($o))
group_leaves_outer_variables : answer (flwor (let_be "o" (seq (num 7 ∷ num 8 ∷ [])) ∷ []) (flwor
    (for_in "x" (seq (num 1 ∷ num 2 ∷ num 1 ∷ [])) ∷ let_be "y" (var "x") ∷ group_by (grouping "x"
    ∷ grouping "x" ∷ []) ∷ []) (seq (call "count" (var "y" ∷ []) ∷ call "count" (var "o" ∷ []) ∷
    [])))) ≡ Ok (codes "2, 2, 1, 2")
unfolding digits chars
group_leaves_outer_variables = refl

-- let $o := (7, 8) for $x in (1, 2, 1) group by $x return count($o)
group_outer_in_the_same_flwor : answer (flwor (let_be "o" (seq (num 7 ∷ num 8 ∷ [])) ∷ for_in "x"
    (seq (num 1 ∷ num 2 ∷ num 1 ∷ [])) ∷ group_by (grouping "x" ∷ []) ∷ []) (call "count" (var "o"
    ∷ []))) ≡ Ok (codes "4, 2")
unfolding digits chars
group_outer_in_the_same_flwor = refl

-- for $x in (1, 1) group by $x := 5, $x return ($x, count($x))
group_twice_the_same : answer (flwor (for_in "x" (seq (num 1 ∷ num 1 ∷ [])) ∷ group_by (assigned
    "x" (num 5) ∷ grouping "x" ∷ []) ∷ []) (seq (var "x" ∷ call "count" (var "x" ∷ []) ∷ []))) ≡ Ok
    (codes "5, 1")
unfolding digits chars
group_twice_the_same = refl

-- for $x in 1 group by $k := (1, 2) return 1
group_of_two_items : answer (flwor (for_in "x" (num 1) ∷ group_by (assigned "k" (seq (num 1 ∷ num 2
    ∷ [])) ∷ []) ∷ []) (num 1)) ≡ Err XPTY0004
unfolding digits chars
group_of_two_items = refl

-- for $x in (1, 0) group by $k := (1 div $x, 2) return 1
group_value_before_count : answer (flwor (for_in "x" (seq (num 1 ∷ num 0 ∷ [])) ∷ group_by
    (assigned "k" (seq (product (num 1) (div_by (var "x") ∷ []) ∷ num 2 ∷ [])) ∷ []) ∷ []) (num 1))
    ≡ Err FOAR0001
unfolding digits chars
group_value_before_count = refl

-- for $x in (1, 2, 1) let $x := $x mod 2 group by $x return $x
group_hidden_binding : answer (flwor (for_in "x" (seq (num 1 ∷ num 2 ∷ num 1 ∷ [])) ∷ let_be "x"
    (product (var "x") (mod_by (num 2) ∷ [])) ∷ group_by (grouping "x" ∷ []) ∷ []) (var "x")) ≡ Ok
    (codes "1, 0")
unfolding digits chars
group_hidden_binding = refl

-- for $x in () group by $x return 1
group_of_nothing : answer (flwor (for_in "x" none ∷ group_by (grouping "x" ∷ []) ∷ []) (num 1)) ≡
    Ok (codes "()")
unfolding digits chars
group_of_nothing = refl

-- for $x in (3, 1.5, 2) order by $x return $x
order_numbers : answer (flwor (for_in "x" (seq (num 3 ∷ dec 1500000 ∷ num 2 ∷ [])) ∷ order_by (by
    (var "x") ascending ∷ []) ∷ []) (var "x")) ≡ Ok (codes "1.5, 2, 3")
unfolding digits chars
order_numbers = refl

-- for $x in (3, 1, 2) order by $x descending return $x
order_descending : answer (flwor (for_in "x" (seq (num 3 ∷ num 1 ∷ num 2 ∷ [])) ∷ order_by (by (var
    "x") descending ∷ []) ∷ []) (var "x")) ≡ Ok (codes "3, 2, 1")
unfolding digits chars
order_descending = refl

-- for $x in ("b", "B", xs:untypedAtomic("a")) order by $x return string($x)
order_strings : answer (flwor (for_in "x" (seq (txt "b" ∷ txt "B" ∷ call_by (prefixed "xs"
    "untypedAtomic") (txt "a" ∷ []) ∷ [])) ∷ order_by (by (var "x") ascending ∷ []) ∷ []) (call
    "string" (var "x" ∷ []))) ≡ Ok (codes "\"B\", \"a\", \"b\"")
unfolding digits chars
order_strings = refl

-- for $x in (1, 2) order by $x = 1 return $x
order_booleans : answer (flwor (for_in "x" (seq (num 1 ∷ num 2 ∷ [])) ∷ order_by (by (compare
    (General Equal) (var "x") (num 1)) ascending ∷ []) ∷ []) (var "x")) ≡ Ok (codes "2, 1")
unfolding digits chars
order_booleans = refl

-- for $x at $p in (2, 1, 2, 1) order by $x return $p
order_keeps_ties : answer (flwor (for_all (each_at "x" "p" (seq (num 2 ∷ num 1 ∷ num 2 ∷ num 1 ∷
    [])) ∷ []) ∷ order_by (by (var "x") ascending ∷ []) ∷ []) (var "p")) ≡ Ok (codes "2, 4, 1, 3")
unfolding digits chars
order_keeps_ties = refl

-- for $x at $p in (2, 1, 2, 1) order by $x descending return $p
order_descending_keeps_ties : answer (flwor (for_all (each_at "x" "p" (seq (num 2 ∷ num 1 ∷ num 2 ∷
    num 1 ∷ [])) ∷ []) ∷ order_by (by (var "x") descending ∷ []) ∷ []) (var "p")) ≡ Ok (codes
    "1, 3, 2, 4")
unfolding digits chars
order_descending_keeps_ties = refl

-- for $x at $p in (2, 1, 2, 1) stable order by $x return $p
stable_order : answer (flwor (for_all (each_at "x" "p" (seq (num 2 ∷ num 1 ∷ num 2 ∷ num 1 ∷ [])) ∷
    []) ∷ order_by (by (var "x") ascending ∷ []) ∷ []) (var "p")) ≡ Ok (codes "2, 4, 1, 3")
unfolding digits chars
stable_order = refl

-- for $x in (1, 2), $y in (1, 2) order by $y descending, $x return 10 * $x + $y
order_by_two : answer (flwor (for_all (each "x" (seq (num 1 ∷ num 2 ∷ [])) ∷ each "y" (seq (num 1 ∷
    num 2 ∷ [])) ∷ []) ∷ order_by (by (var "y") descending ∷ by (var "x") ascending ∷ []) ∷ [])
    (sum (product (num 10) (times (var "x") ∷ [])) (plus (var "y") ∷ []))) ≡ Ok (codes
    "12, 22, 11, 21")
unfolding digits chars
order_by_two = refl

-- for $x in (3, 1, 2) order by (if ($x = 1) then () else $x) return $x
order_empty_least : answer (flwor (for_in "x" (seq (num 3 ∷ num 1 ∷ num 2 ∷ [])) ∷ order_by (by
    (iff (compare (General Equal) (var "x") (num 1)) none (var "x")) ascending ∷ []) ∷ []) (var
    "x")) ≡ Ok (codes "1, 2, 3")
unfolding digits chars
order_empty_least = refl

-- for $x in (3, 1, 2) order by (if ($x = 1) then () else $x) empty greatest return $x
order_empty_greatest : answer (flwor (for_in "x" (seq (num 3 ∷ num 1 ∷ num 2 ∷ [])) ∷ order_by (by
    (iff (compare (General Equal) (var "x") (num 1)) none (var "x")) empty_greatest ∷ []) ∷ [])
    (var "x")) ≡ Ok (codes "2, 3, 1")
unfolding digits chars
order_empty_greatest = refl

-- for $x in (3, 1, 2) order by (if ($x = 1) then () else $x) descending return $x
order_descending_empty_least : answer (flwor (for_in "x" (seq (num 3 ∷ num 1 ∷ num 2 ∷ [])) ∷
    order_by (by (iff (compare (General Equal) (var "x") (num 1)) none (var "x")) descending ∷ [])
    ∷ []) (var "x")) ≡ Ok (codes "3, 2, 1")
unfolding digits chars
order_descending_empty_least = refl

-- for $x in (3, 1, 2) order by (if ($x = 1) then () else $x) descending empty greatest return $x
order_descending_empty_greatest : answer (flwor (for_in "x" (seq (num 3 ∷ num 1 ∷ num 2 ∷ [])) ∷
    order_by (by (iff (compare (General Equal) (var "x") (num 1)) none (var "x"))
    descending_greatest ∷ []) ∷ []) (var "x")) ≡ Ok (codes "1, 3, 2")
unfolding digits chars
order_descending_empty_greatest = refl

-- for $x in (2, "a") order by $x return $x
order_of_two_kinds : answer (flwor (for_in "x" (seq (num 2 ∷ txt "a" ∷ [])) ∷ order_by (by (var
    "x") ascending ∷ []) ∷ []) (var "x")) ≡ Err XPTY0004
unfolding digits chars
order_of_two_kinds = refl

-- for $x in (1, 2) order by ($x, $x) return $x
order_key_of_two : answer (flwor (for_in "x" (seq (num 1 ∷ num 2 ∷ [])) ∷ order_by (by (seq (var
    "x" ∷ var "x" ∷ [])) ascending ∷ []) ∷ []) (var "x")) ≡ Err XPTY0004
unfolding digits chars
order_key_of_two = refl

-- for $x in (1, "a", 0) order by (if ($x = 0) then 1 div 0 else $x) return $x
order_keys_before_kinds : answer (flwor (for_in "x" (seq (num 1 ∷ txt "a" ∷ num 0 ∷ [])) ∷ order_by
    (by (iff (compare (General Equal) (var "x") (num 0)) (product (num 1) (div_by (num 0) ∷ []))
    (var "x")) ascending ∷ []) ∷ []) (var "x")) ≡ Err XPTY0004
unfolding digits chars
order_keys_before_kinds = refl

-- for $x in (1, 0) order by ($x, $x), 1 div $x return $x
order_evaluates_all_keys : answer (flwor (for_in "x" (seq (num 1 ∷ num 0 ∷ [])) ∷ order_by (by (seq
    (var "x" ∷ var "x" ∷ [])) ascending ∷ by (product (num 1) (div_by (var "x") ∷ [])) ascending ∷
    []) ∷ []) (var "x")) ≡ Err FOAR0001
unfolding digits chars
order_evaluates_all_keys = refl

-- for $x in (1, 2) order by $x, string($x) return $x
order_by_two_kinds_apart : answer (flwor (for_in "x" (seq (num 1 ∷ num 2 ∷ [])) ∷ order_by (by (var
    "x") ascending ∷ by (call "string" (var "x" ∷ [])) ascending ∷ []) ∷ []) (var "x")) ≡ Ok (codes
    "1, 2")
unfolding digits chars
order_by_two_kinds_apart = refl

-- for $x in (3, 1, 2) order by $x where $x > 1 return $x
order_then_where : answer (flwor (for_in "x" (seq (num 3 ∷ num 1 ∷ num 2 ∷ [])) ∷ order_by (by (var
    "x") ascending ∷ []) ∷ where_is (compare (General Greater) (var "x") (num 1)) ∷ []) (var "x"))
    ≡ Ok (codes "2, 3")
unfolding digits chars
order_then_where = refl

-- for $x in (2, 1) order by $x for $y in (1, 2) return 10 * $x + $y
order_then_for : answer (flwor (for_in "x" (seq (num 2 ∷ num 1 ∷ [])) ∷ order_by (by (var "x")
    ascending ∷ []) ∷ for_in "y" (seq (num 1 ∷ num 2 ∷ [])) ∷ []) (sum (product (num 10) (times
    (var "x") ∷ [])) (plus (var "y") ∷ []))) ≡ Ok (codes "11, 12, 21, 22")
unfolding digits chars
order_then_for = refl

-- for $x in (1, 2, 3, 4) group by $k := $x mod 2 order by $k return sum($x)
group_then_order : answer (flwor (for_in "x" (seq (num 1 ∷ num 2 ∷ num 3 ∷ num 4 ∷ [])) ∷ group_by
    (assigned "k" (product (var "x") (mod_by (num 2) ∷ [])) ∷ []) ∷ order_by (by (var "k")
    ascending ∷ []) ∷ []) (call "sum" (var "x" ∷ []))) ≡ Ok (codes "6, 4")
unfolding digits chars
group_then_order = refl

-- (5, 6)[(for $x in . return $x) = 6]
focus_stays_in_flwor : answer (path (filtered (seq (num 5 ∷ num 6 ∷ [])) (compare (General Equal)
    (flwor (for_in "x" dot ∷ []) (var "x")) (num 6) ∷ [])) []) ≡ Ok (codes "6")
unfolding digits chars
focus_stays_in_flwor = refl

-- some $x in (1, 2), $y in (2, 3) satisfies $x = $y
some_of_two : answer (quantified quantifier.Some (be "x" (seq (num 1 ∷ num 2 ∷ [])) ∷ be "y" (seq
    (num 2 ∷ num 3 ∷ [])) ∷ []) (compare (General Equal) (var "x") (var "y"))) ≡ Ok (codes
    "true()")
unfolding digits chars
some_of_two = refl

-- some $x in () satisfies 1 div 0
some_of_none : answer (quantified quantifier.Some (be "x" none ∷ []) (product (num 1) (div_by (num
    0) ∷ []))) ≡ Ok (codes "false()")
unfolding digits chars
some_of_none = refl

-- every $x in () satisfies 1 div 0
every_of_none : answer (quantified quantifier.Every (be "x" none ∷ []) (product (num 1) (div_by
    (num 0) ∷ []))) ≡ Ok (codes "true()")
unfolding digits chars
every_of_none = refl

-- every $x in (1, 2), $y in ($x, 3) satisfies $x le $y
every_of_two : answer (quantified quantifier.Every (be "x" (seq (num 1 ∷ num 2 ∷ [])) ∷ be "y" (seq
    (var "x" ∷ num 3 ∷ [])) ∷ []) (compare (Value LessEqual) (var "x") (var "y"))) ≡ Ok (codes
    "true()")
unfolding digits chars
every_of_two = refl

-- every $x in (1, 2) satisfies $x = 2
every_fails : answer (quantified quantifier.Every (be "x" (seq (num 1 ∷ num 2 ∷ [])) ∷ []) (compare
    (General Equal) (var "x") (num 2))) ≡ Ok (codes "false()")
unfolding digits chars
every_fails = refl

-- some $x in (1, 0) satisfies 1 div $x = 1
some_stops : answer (quantified quantifier.Some (be "x" (seq (num 1 ∷ num 0 ∷ [])) ∷ []) (compare
    (General Equal) (product (num 1) (div_by (var "x") ∷ [])) (num 1))) ≡ Ok (codes "true()")
unfolding digits chars
some_stops = refl

-- every $x in (2, 0) satisfies 1 div $x = 1
every_stops : answer (quantified quantifier.Every (be "x" (seq (num 2 ∷ num 0 ∷ [])) ∷ []) (compare
    (General Equal) (product (num 1) (div_by (var "x") ∷ [])) (num 1))) ≡ Ok (codes "false()")
unfolding digits chars
every_stops = refl

-- some $x in (1, 0), $y in (1, 1 div $x) satisfies $y = 1
some_goes_depth_first : answer (quantified quantifier.Some (be "x" (seq (num 1 ∷ num 0 ∷ [])) ∷ be
    "y" (seq (num 1 ∷ product (num 1) (div_by (var "x") ∷ []) ∷ [])) ∷ []) (compare (General Equal)
    (var "y") (num 1))) ≡ Ok (codes "true()")
unfolding digits chars
some_goes_depth_first = refl

-- some $x in (2, 0) satisfies 1 div $x = 1
some_does_not_stop : answer (quantified quantifier.Some (be "x" (seq (num 2 ∷ num 0 ∷ [])) ∷ [])
    (compare (General Equal) (product (num 1) (div_by (var "x") ∷ [])) (num 1))) ≡ Err FOAR0001
unfolding digits chars
some_does_not_stop = refl

-- some $x in 1 satisfies (1, 2)
quantifier_judges : answer (quantified quantifier.Some (be "x" (num 1) ∷ []) (seq (num 1 ∷ num 2 ∷
    []))) ≡ Err FORG0006
unfolding digits chars
quantifier_judges = refl

-- some $x in (1, 2), $x in (3, 4) satisfies $x = 4
quantifier_hides : answer (quantified quantifier.Some (be "x" (seq (num 1 ∷ num 2 ∷ [])) ∷ be "x"
    (seq (num 3 ∷ num 4 ∷ [])) ∷ []) (compare (General Equal) (var "x") (num 4))) ≡ Ok (codes
    "true()")
unfolding digits chars
quantifier_hides = refl

-- for $b in (doc("b")//book, doc("b")//book[1]) group by $b return $b
group_by_nodes : answer (flwor (for_in "b" (seq (path (primary (call "doc" (txt "b" ∷ []))) (below
    (child "book") ∷ []) ∷ path (primary (call "doc" (txt "b" ∷ []))) (below (bare_step (named
    "book") (num 1 ∷ [])) ∷ []) ∷ [])) ∷ group_by (grouping "b" ∷ []) ∷ []) (var "b")) ≡ Ok (codes
    "\"A\", \"B\"")
unfolding digits chars
group_by_nodes = refl

-- for $b in doc("b")//book order by $b descending return string($b/@id)
order_by_nodes : answer (flwor (for_in "b" (path (primary (call "doc" (txt "b" ∷ []))) (below
    (child "book") ∷ [])) ∷ order_by (by (var "b") descending ∷ []) ∷ []) (call "string" (path
    (primary (var "b")) (slash (at "id") ∷ []) ∷ []))) ≡ Ok (codes "\"2\", \"1\"")
unfolding digits chars
order_by_nodes = refl

-- doc("b")//book/(for $x in (1, 2) where $x = 2 return @id)
focus_inside_flwor : answer (path (primary (call "doc" (txt "b" ∷ []))) (below (child "book") ∷
    slash (primary (flwor (for_in "x" (seq (num 1 ∷ num 2 ∷ [])) ∷ where_is (compare (General
    Equal) (var "x") (num 2)) ∷ []) (path (at "id") []))) ∷ [])) ≡ Ok (codes
    "attribute id {\"1\"}, attribute id {\"2\"}")
unfolding digits chars
focus_inside_flwor = refl

-- (1, 2)[some $x in . satisfies $x = 2]
focus_inside_a_quantifier : answer (path (filtered (seq (num 1 ∷ num 2 ∷ [])) (quantified
    quantifier.Some (be "x" dot ∷ []) (compare (General Equal) (var "x") (num 2)) ∷ [])) []) ≡ Ok
    (codes "2")
unfolding digits chars
focus_inside_a_quantifier = refl

-- for $x in ("", "a") group by $k := $x[. != ""] return (count($k), $x)
group_key_of_nothing_and_string : answer (flwor (for_in "x" (seq (txt "" ∷ txt "a" ∷ [])) ∷
    group_by (assigned "k" (path (filtered (var "x") (compare (General NotEqual) dot (txt "") ∷
    [])) []) ∷ []) ∷ []) (seq (call "count" (var "k" ∷ []) ∷ var "x" ∷ []))) ≡ Ok (codes
    "0, \"\", 1, \"a\"")
unfolding digits chars
group_key_of_nothing_and_string = refl

-- for $x in (2, 1) order by $x[. = 2] descending empty greatest return $x
order_empty_and_greatest_first : answer (flwor (for_in "x" (seq (num 2 ∷ num 1 ∷ [])) ∷ order_by
    (by (path (filtered (var "x") (compare (General Equal) dot (num 2) ∷ [])) [])
    descending_greatest ∷ []) ∷ []) (var "x")) ≡ Ok (codes "1, 2")
unfolding digits chars
order_empty_and_greatest_first = refl

-- for $x in (1, 2, 1) group by $x let $y := $x + 1 return $y
let_after_group : answer (flwor (for_in "x" (seq (num 1 ∷ num 2 ∷ num 1 ∷ [])) ∷ group_by (grouping
    "x" ∷ []) ∷ let_be "y" (sum (var "x") (plus (num 1) ∷ [])) ∷ []) (var "y")) ≡ Ok (codes "2, 3")
unfolding digits chars
let_after_group = refl

-- for $x in (1, 2, 3, 4) group by $k := $x mod 2 group by $j := count($x) return ($j, count($k),
-- count($x))
two_groups : answer (flwor (for_in "x" (seq (num 1 ∷ num 2 ∷ num 3 ∷ num 4 ∷ [])) ∷ group_by
    (assigned "k" (product (var "x") (mod_by (num 2) ∷ [])) ∷ []) ∷ group_by (assigned "j" (call
    "count" (var "x" ∷ [])) ∷ []) ∷ []) (seq (var "j" ∷ call "count" (var "k" ∷ []) ∷ call "count"
    (var "x" ∷ []) ∷ []))) ≡ Ok (codes "2, 2, 4")
unfolding digits chars
two_groups = refl
