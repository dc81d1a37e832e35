-- The examples of docs/LANGUAGE.md, by its headings, from FLWOR on.
use Rattle.std.specs.Prelude.{◌≡◌, refl, [], ◌∷◌, Ok, Err, codes}
use Rattle.std.specs.Fmt.{digits}
use Rattle.std.specs.Str.{chars}
use Rattle.std.specs.Char.{encode_utf8}
use Rattle.xq_atoms.specs.declared.refusals.Code.TheVariants.{FOAR0001, FOCA0001, FOCA0003, FOCA0006, FODC0002, FODC0005, FORG0001, FORG0003, FORG0004, FORG0005, FORG0006, ProfDouble, XPDY0002, XPTY0004}
use Rattle.xq_expressions.specs.declared.operators.Sign.TheVariants.{Minus}
use Rattle.xq_expressions.specs.declared.operators.Relation.TheVariants.{Equal}
use Rattle.xq_expressions.specs.declared.operators.ComparisonOperator.TheVariants.{General, Node}
use Rattle.xq_expressions.specs.declared.operators.NodeComparison.TheVariants.{Is}
use Rattle.xq_expressions.specs.declared.operators.Quantifier.TheVariants as quantifier
use Rattle.xq_meaning.proofs.Writing.{prefixed, num, dec, txt, txt8, var, seq, none, call, call_by, plus, minus, times, div_by, mod_by, sum, product, unary, to, compare, quantified, slash, below, path, primary, filtered, named, bare_step, child, at, flwor, be, each, each_at, each_or_none_at, for_all, for_in, let_all, let_be, count_as, where_is, grouping, assigned, group_by, by, order_by, ascending, descending}
use Rattle.xq_meaning.proofs.Library.{answer}

-- for $x at $p in ("a", "b") return ($p, $x)
flwor_and_quantified_expressions_1 : answer (flwor (for_all (each_at "x" "p" (seq (txt "a" ∷ txt
    "b" ∷ [])) ∷ []) ∷ []) (seq (var "p" ∷ var "x" ∷ []))) ≡ Ok (codes "1, \"a\", 2, \"b\"")
unfolding digits chars
flwor_and_quantified_expressions_1 = refl

-- for $x allowing empty at $p in () return ($p, count($x))
flwor_and_quantified_expressions_2 : answer (flwor (for_all (each_or_none_at "x" "p" none ∷ []) ∷
    []) (seq (var "p" ∷ call "count" (var "x" ∷ []) ∷ []))) ≡ Ok (codes "0, 0")
unfolding digits chars
flwor_and_quantified_expressions_2 = refl

-- let $x := (1, 2), $y := count($x) return ($y, $x)
flwor_and_quantified_expressions_3 : answer (flwor (let_all (be "x" (seq (num 1 ∷ num 2 ∷ [])) ∷ be
    "y" (call "count" (var "x" ∷ [])) ∷ []) ∷ []) (seq (var "y" ∷ var "x" ∷ []))) ≡ Ok (codes
    "2, 1, 2")
unfolding digits chars
flwor_and_quantified_expressions_3 = refl

-- let $x := 1 div 0 return 1
flwor_and_quantified_expressions_4 : answer (flwor (let_be "x" (product (num 1) (div_by (num 0) ∷
    [])) ∷ []) (num 1)) ≡ Err FOAR0001
unfolding digits chars
flwor_and_quantified_expressions_4 = refl

-- for $x in 1 to 4 where $x mod 2 = 0 return $x
flwor_and_quantified_expressions_5 : answer (flwor (for_in "x" (to (num 1) (num 4)) ∷ where_is
    (compare (General Equal) (product (var "x") (mod_by (num 2) ∷ [])) (num 0)) ∷ []) (var "x")) ≡
    Ok (codes "2, 4")
unfolding digits chars
flwor_and_quantified_expressions_5 = refl

-- for $x in (5, 7, 9) order by $x descending count $c return $c * 100 + $x
flwor_and_quantified_expressions_6 : answer (flwor (for_in "x" (seq (num 5 ∷ num 7 ∷ num 9 ∷ [])) ∷
    order_by (by (var "x") descending ∷ []) ∷ count_as "c" ∷ []) (sum (product (var "c") (times
    (num 100) ∷ [])) (plus (var "x") ∷ []))) ≡ Ok (codes "109, 207, 305")
unfolding digits chars
flwor_and_quantified_expressions_6 = refl

-- for $x in (1, 2) count $c group by $g := $c mod 2 return $g
flwor_and_quantified_expressions_7 : answer (flwor (for_in "x" (seq (num 1 ∷ num 2 ∷ [])) ∷
    count_as "c" ∷ group_by (assigned "g" (product (var "c") (mod_by (num 2) ∷ [])) ∷ []) ∷ [])
    (var "g")) ≡ Ok (codes "1, 0")
unfolding digits chars
flwor_and_quantified_expressions_7 = refl

-- for $x in (1, 2, 1.0) let $y := $x group by $x return ($x, count($y))
flwor_and_quantified_expressions_8 : answer (flwor (for_in "x" (seq (num 1 ∷ num 2 ∷ dec 1000000 ∷
    [])) ∷ let_be "y" (var "x") ∷ group_by (grouping "x" ∷ []) ∷ []) (seq (var "x" ∷ call "count"
    (var "y" ∷ []) ∷ []))) ≡ Ok (codes "1, 2, 2, 1")
unfolding digits chars
flwor_and_quantified_expressions_8 = refl

-- for $x in 1 group by $k := (1, 2) return 1
flwor_and_quantified_expressions_9 : answer (flwor (for_in "x" (num 1) ∷ group_by (assigned "k"
    (seq (num 1 ∷ num 2 ∷ [])) ∷ []) ∷ []) (num 1)) ≡ Err XPTY0004
unfolding digits chars
flwor_and_quantified_expressions_9 = refl

-- for $x in (3, 1, 2) order by $x descending return $x
flwor_and_quantified_expressions_10 : answer (flwor (for_in "x" (seq (num 3 ∷ num 1 ∷ num 2 ∷ []))
    ∷ order_by (by (var "x") descending ∷ []) ∷ []) (var "x")) ≡ Ok (codes "3, 2, 1")
unfolding digits chars
flwor_and_quantified_expressions_10 = refl

-- for $x in (2, "a") order by $x return $x
flwor_and_quantified_expressions_11 : answer (flwor (for_in "x" (seq (num 2 ∷ txt "a" ∷ [])) ∷
    order_by (by (var "x") ascending ∷ []) ∷ []) (var "x")) ≡ Err XPTY0004
unfolding digits chars
flwor_and_quantified_expressions_11 = refl

-- for $x in (1, 2), $y in ($x, 3) return $x * $y
flwor_and_quantified_expressions_12 : answer (flwor (for_all (each "x" (seq (num 1 ∷ num 2 ∷ [])) ∷
    each "y" (seq (var "x" ∷ num 3 ∷ [])) ∷ []) ∷ []) (product (var "x") (times (var "y") ∷ []))) ≡
    Ok (codes "1, 3, 4, 6")
unfolding digits chars
flwor_and_quantified_expressions_12 = refl

-- some $x in (1, 2), $y in (2, 3) satisfies $x = $y
flwor_and_quantified_expressions_13 : answer (quantified quantifier.Some (be "x" (seq (num 1 ∷ num
    2 ∷ [])) ∷ be "y" (seq (num 2 ∷ num 3 ∷ [])) ∷ []) (compare (General Equal) (var "x") (var
    "y"))) ≡ Ok (codes "true()")
unfolding digits chars
flwor_and_quantified_expressions_13 = refl

-- every $x in () satisfies 1 div 0
flwor_and_quantified_expressions_14 : answer (quantified quantifier.Every (be "x" none ∷ [])
    (product (num 1) (div_by (num 0) ∷ []))) ≡ Ok (codes "true()")
unfolding digits chars
flwor_and_quantified_expressions_14 = refl

-- doc("b")/lib/book[1]/@id
documents_and_nodes_1 : answer (path (primary (call "doc" (txt "b" ∷ []))) (slash (child "lib") ∷
    slash (bare_step (named "book") (num 1 ∷ [])) ∷ slash (at "id") ∷ [])) ≡ Ok (codes
    "attribute id {\"1\"}")
unfolding digits chars
documents_and_nodes_1 = refl

-- doc("c")
documents_and_nodes_2 : answer (call "doc" (txt "c" ∷ [])) ≡ Err FODC0002
unfolding digits chars
documents_and_nodes_2 = refl

-- doc("a b")
documents_and_nodes_3 : answer (call "doc" (txt "a b" ∷ [])) ≡ Err FODC0005
unfolding digits chars
documents_and_nodes_3 = refl

-- doc-available("b"), doc-available("c"), doc-available("a b")
documents_and_nodes_4 : answer (seq (call "doc-available" (txt "b" ∷ []) ∷ call "doc-available"
    (txt "c" ∷ []) ∷ call "doc-available" (txt "a b" ∷ []) ∷ [])) ≡ Ok (codes
    "true(), false(), false()")
unfolding digits chars
documents_and_nodes_4 = refl

-- count(collection())
documents_and_nodes_5 : answer (call "count" (call "collection" [] ∷ [])) ≡ Ok (codes "1")
unfolding digits chars
documents_and_nodes_5 = refl

-- root(doc("b")//book[1]) is doc("b"), root(())
documents_and_nodes_6 : answer (seq (compare (Node Is) (call "root" (path (primary (call "doc" (txt
    "b" ∷ []))) (below (bare_step (named "book") (num 1 ∷ [])) ∷ []) ∷ [])) (call "doc" (txt "b" ∷
    [])) ∷ call "root" (none ∷ []) ∷ [])) ≡ Ok (codes "true()")
unfolding digits chars
documents_and_nodes_6 = refl

-- root(1)
documents_and_nodes_7 : answer (call "root" (num 1 ∷ [])) ≡ Err XPTY0004
unfolding digits chars
documents_and_nodes_7 = refl

-- name(doc("b")/lib), local-name(doc("b")//book[1]/@id), name(())
documents_and_nodes_8 : answer (seq (call "name" (path (primary (call "doc" (txt "b" ∷ []))) (slash
    (child "lib") ∷ []) ∷ []) ∷ call "local-name" (path (primary (call "doc" (txt "b" ∷ [])))
    (below (bare_step (named "book") (num 1 ∷ [])) ∷ slash (at "id") ∷ []) ∷ []) ∷ call "name"
    (none ∷ []) ∷ [])) ≡ Ok (codes "\"lib\", \"id\", \"\"")
unfolding digits chars
documents_and_nodes_8 = refl

-- string(doc("b")), string(2.50), string(())
strings_1 : answer (seq (call "string" (call "doc" (txt "b" ∷ []) ∷ []) ∷ call "string" (dec
    2500000 ∷ []) ∷ call "string" (none ∷ []) ∷ [])) ≡ Ok (codes "\"AB\", \"2.5\", \"\"")
unfolding digits chars
strings_1 = refl

-- data((1, doc("b")//book[1]))
strings_2 : answer (call "data" (seq (num 1 ∷ path (primary (call "doc" (txt "b" ∷ []))) (below
    (bare_step (named "book") (num 1 ∷ [])) ∷ []) ∷ []) ∷ [])) ≡ Ok (codes
    "1, xs:untypedAtomic(\"A\")")
unfolding digits chars
strings_2 = refl

-- string-length("日本"), string-length(())
strings_3 : answer (seq (call "string-length" (txt8 "日本" ∷ []) ∷ call "string-length" (none ∷ []) ∷
    [])) ≡ Ok (codes "2, 0")
unfolding digits chars encode_utf8
strings_3 = refl

-- string-length(1)
strings_4 : answer (call "string-length" (num 1 ∷ [])) ≡ Err XPTY0004
unfolding digits chars
strings_4 = refl

-- normalize-space("  a  b ")
strings_5 : answer (call "normalize-space" (txt "  a  b " ∷ [])) ≡ Ok (codes "\"a b\"")
unfolding digits chars
strings_5 = refl

-- concat("a", 1, ())
strings_6 : answer (call "concat" (txt "a" ∷ num 1 ∷ none ∷ [])) ≡ Ok (codes "\"a1\"")
unfolding digits chars
strings_6 = refl

-- concat("a", ("b", "c"))
strings_7 : answer (call "concat" (txt "a" ∷ seq (txt "b" ∷ txt "c" ∷ []) ∷ [])) ≡ Err XPTY0004
unfolding digits chars
strings_7 = refl

-- string-join(("a", 1, true()), "-"), string-join(())
strings_8 : answer (seq (call "string-join" (seq (txt "a" ∷ num 1 ∷ call "true" [] ∷ []) ∷ txt "-"
    ∷ []) ∷ call "string-join" (none ∷ []) ∷ [])) ≡ Ok (codes "\"a-1-true\", \"\"")
unfolding digits chars
strings_8 = refl

-- contains("abc", "b"), starts-with("abc", "ab"), ends-with("abc", "ab"), contains("a", ())
strings_9 : answer (seq (call "contains" (txt "abc" ∷ txt "b" ∷ []) ∷ call "starts-with" (txt "abc"
    ∷ txt "ab" ∷ []) ∷ call "ends-with" (txt "abc" ∷ txt "ab" ∷ []) ∷ call "contains" (txt "a" ∷
    none ∷ []) ∷ [])) ≡ Ok (codes "true(), true(), false(), true()")
unfolding digits chars
strings_9 = refl

-- substring("12345", 2, 3), substring("12345", 0, 3), substring("abc", 2)
strings_10 : answer (seq (call "substring" (txt "12345" ∷ num 2 ∷ num 3 ∷ []) ∷ call "substring"
    (txt "12345" ∷ num 0 ∷ num 3 ∷ []) ∷ call "substring" (txt "abc" ∷ num 2 ∷ []) ∷ [])) ≡ Ok
    (codes "\"234\", \"12\", \"bc\"")
unfolding digits chars encode_utf8
strings_10 = refl

-- substring("a", 1.0)
strings_11 : answer (call "substring" (txt "a" ∷ dec 1000000 ∷ [])) ≡ Err ProfDouble
unfolding digits chars encode_utf8
strings_11 = refl

-- substring-before("a-b-c", "-"), substring-after("a-b-c", "-"), substring-after("a", "x")
strings_12 : answer (seq (call "substring-before" (txt "a-b-c" ∷ txt "-" ∷ []) ∷ call
    "substring-after" (txt "a-b-c" ∷ txt "-" ∷ []) ∷ call "substring-after" (txt "a" ∷ txt "x" ∷
    []) ∷ [])) ≡ Ok (codes "\"a\", \"b-c\", \"\"")
unfolding digits chars encode_utf8
strings_12 = refl

-- substring-before("abc", ""), substring-after("abc", "")
strings_13 : answer (seq (call "substring-before" (txt "abc" ∷ txt "" ∷ []) ∷ call
    "substring-after" (txt "abc" ∷ txt "" ∷ []) ∷ [])) ≡ Ok (codes "\"\", \"abc\"")
unfolding digits chars encode_utf8
strings_13 = refl

-- count((1, "a")), empty(()), exists(())
sequences_1 : answer (seq (call "count" (seq (num 1 ∷ txt "a" ∷ []) ∷ []) ∷ call "empty" (none ∷
    []) ∷ call "exists" (none ∷ []) ∷ [])) ≡ Ok (codes "2, true(), false()")
unfolding digits chars
sequences_1 = refl

-- head((1, 2, 3)), tail((1, 2, 3)), reverse((1, 2, 3))
sequences_2 : answer (seq (call "head" (seq (num 1 ∷ num 2 ∷ num 3 ∷ []) ∷ []) ∷ call "tail" (seq
    (num 1 ∷ num 2 ∷ num 3 ∷ []) ∷ []) ∷ call "reverse" (seq (num 1 ∷ num 2 ∷ num 3 ∷ []) ∷ []) ∷
    [])) ≡ Ok (codes "1, 2, 3, 3, 2, 1")
unfolding digits chars
sequences_2 = refl

-- distinct-values((1, 1.0, "1", xs:untypedAtomic("1")))
sequences_3 : answer (call "distinct-values" (seq (num 1 ∷ dec 1000000 ∷ txt "1" ∷ call_by
    (prefixed "xs" "untypedAtomic") (txt "1" ∷ []) ∷ []) ∷ [])) ≡ Ok (codes "1, \"1\"")
unfolding digits chars
sequences_3 = refl

-- zero-or-one(()), one-or-more((1, 2)), exactly-one(3)
sequences_4 : answer (seq (call "zero-or-one" (none ∷ []) ∷ call "one-or-more" (seq (num 1 ∷ num 2
    ∷ []) ∷ []) ∷ call "exactly-one" (num 3 ∷ []) ∷ [])) ≡ Ok (codes "1, 2, 3")
unfolding digits chars
sequences_4 = refl

-- zero-or-one((1, 2))
sequences_5 : answer (call "zero-or-one" (seq (num 1 ∷ num 2 ∷ []) ∷ [])) ≡ Err FORG0003
unfolding digits chars
sequences_5 = refl

-- one-or-more(())
sequences_6 : answer (call "one-or-more" (none ∷ [])) ≡ Err FORG0004
unfolding digits chars
sequences_6 = refl

-- exactly-one(())
sequences_7 : answer (call "exactly-one" (none ∷ [])) ≡ Err FORG0005
unfolding digits chars
sequences_7 = refl

-- not(()), boolean("a")
truth_and_focus_1 : answer (seq (call "not" (none ∷ []) ∷ call "boolean" (txt "a" ∷ []) ∷ [])) ≡ Ok
    (codes "true(), true()")
unfolding digits chars
truth_and_focus_1 = refl

-- not((1, 2))
truth_and_focus_2 : answer (call "not" (seq (num 1 ∷ num 2 ∷ []) ∷ [])) ≡ Err FORG0006
unfolding digits chars
truth_and_focus_2 = refl

-- true(), false()
truth_and_focus_3 : answer (seq (call "true" [] ∷ call "false" [] ∷ [])) ≡ Ok (codes
    "true(), false()")
unfolding digits chars
truth_and_focus_3 = refl

-- (7, 8, 9)[position() = 2], (7, 8, 9)[last()]
truth_and_focus_4 : answer (seq (path (filtered (seq (num 7 ∷ num 8 ∷ num 9 ∷ [])) (compare
    (General Equal) (call "position" []) (num 2) ∷ [])) [] ∷ path (filtered (seq (num 7 ∷ num 8 ∷
    num 9 ∷ [])) (call "last" [] ∷ [])) [] ∷ [])) ≡ Ok (codes "8, 9")
unfolding digits chars
truth_and_focus_4 = refl

-- position()
truth_and_focus_5 : answer (call "position" []) ≡ Err XPDY0002
unfolding digits chars
truth_and_focus_5 = refl

-- sum((1, 2.5)), sum(())
numbers_1 : answer (seq (call "sum" (seq (num 1 ∷ dec 2500000 ∷ []) ∷ []) ∷ call "sum" (none ∷ [])
    ∷ [])) ≡ Ok (codes "3.5, 0")
unfolding digits chars
numbers_1 = refl

-- sum("a")
numbers_2 : answer (call "sum" (txt "a" ∷ [])) ≡ Err FORG0006
unfolding digits chars
numbers_2 = refl

-- sum(doc("b")//@id)
numbers_3 : answer (call "sum" (path (primary (call "doc" (txt "b" ∷ []))) (below (at "id") ∷ []) ∷
    [])) ≡ Err ProfDouble
unfolding digits chars
numbers_3 = refl

-- min((2, 1.0, 1)), max(("a", "B")), min(())
numbers_4 : answer (seq (call "min" (seq (num 2 ∷ dec 1000000 ∷ num 1 ∷ []) ∷ []) ∷ call "max" (seq
    (txt "a" ∷ txt "B" ∷ []) ∷ []) ∷ call "min" (none ∷ []) ∷ [])) ≡ Ok (codes "1.0, \"a\"")
unfolding digits chars
numbers_4 = refl

-- min((1, "a"))
numbers_5 : answer (call "min" (seq (num 1 ∷ txt "a" ∷ []) ∷ [])) ≡ Err FORG0006
unfolding digits chars
numbers_5 = refl

-- abs(-0.5), floor(-0.5), ceiling(1.2), round(2.5), round(-2.5), abs(())
numbers_6 : answer (seq (call "abs" (unary (Minus ∷ []) (dec 500000) ∷ []) ∷ call "floor" (unary
    (Minus ∷ []) (dec 500000) ∷ []) ∷ call "ceiling" (dec 1200000 ∷ []) ∷ call "round" (dec 2500000
    ∷ []) ∷ call "round" (unary (Minus ∷ []) (dec 2500000) ∷ []) ∷ call "abs" (none ∷ []) ∷ [])) ≡
    Ok (codes "0.5, -1.0, 2.0, 3.0, -2.0")
unfolding digits chars
numbers_6 = refl

-- xs:integer(" 7 "), xs:integer(-1.9), xs:integer(true())
casts_1 : answer (seq (call_by (prefixed "xs" "integer") (txt " 7 " ∷ []) ∷ call_by (prefixed "xs"
    "integer") (unary (Minus ∷ []) (dec 1900000) ∷ []) ∷ call_by (prefixed "xs" "integer") (call
    "true" [] ∷ []) ∷ [])) ≡ Ok (codes "7, -1, 1")
unfolding digits chars
casts_1 = refl

-- xs:integer("1.0")
casts_2 : answer (call_by (prefixed "xs" "integer") (txt "1.0" ∷ [])) ≡ Err FORG0001
unfolding digits chars
casts_2 = refl

-- xs:integer("9223372036854775808")
casts_3 : answer (call_by (prefixed "xs" "integer") (txt "9223372036854775808" ∷ [])) ≡ Err
    FOCA0003
unfolding digits chars
casts_3 = refl

-- xs:decimal(".5"), xs:decimal(7), xs:decimal("0.1000000")
casts_4 : answer (seq (call_by (prefixed "xs" "decimal") (txt ".5" ∷ []) ∷ call_by (prefixed "xs"
    "decimal") (num 7 ∷ []) ∷ call_by (prefixed "xs" "decimal") (txt "0.1000000" ∷ []) ∷ [])) ≡ Ok
    (codes "0.5, 7.0, 0.1")
unfolding digits chars
casts_4 = refl

-- xs:decimal("0.0000001")
casts_5 : answer (call_by (prefixed "xs" "decimal") (txt "0.0000001" ∷ [])) ≡ Err FOCA0006
unfolding digits chars
casts_5 = refl

-- xs:decimal("10000000000000000000")
casts_6 : answer (call_by (prefixed "xs" "decimal") (txt "10000000000000000000" ∷ [])) ≡ Err
    FOCA0001
unfolding digits chars
casts_6 = refl

-- xs:boolean("1"), xs:boolean(0.0)
casts_7 : answer (seq (call_by (prefixed "xs" "boolean") (txt "1" ∷ []) ∷ call_by (prefixed "xs"
    "boolean") (dec 0 ∷ []) ∷ [])) ≡ Ok (codes "true(), false()")
unfolding digits chars
casts_7 = refl

-- xs:boolean("TRUE")
casts_8 : answer (call_by (prefixed "xs" "boolean") (txt "TRUE" ∷ [])) ≡ Err FORG0001
unfolding digits chars
casts_8 = refl

-- xs:string(2.0), xs:string(-0.5), xs:string(doc("b"))
casts_9 : answer (seq (call_by (prefixed "xs" "string") (dec 2000000 ∷ []) ∷ call_by (prefixed "xs"
    "string") (unary (Minus ∷ []) (dec 500000) ∷ []) ∷ call_by (prefixed "xs" "string") (call "doc"
    (txt "b" ∷ []) ∷ []) ∷ [])) ≡ Ok (codes "\"2\", \"-0.5\", \"AB\"")
unfolding digits chars
casts_9 = refl

-- xs:untypedAtomic(2.50)
casts_10 : answer (call_by (prefixed "xs" "untypedAtomic") (dec 2500000 ∷ [])) ≡ Ok (codes
    "xs:untypedAtomic(\"2.5\")")
unfolding digits chars
casts_10 = refl

-- -1, -0.5, 2.0, -9223372036854775807 - 1
printing_1 : answer (seq (unary (Minus ∷ []) (num 1) ∷ unary (Minus ∷ []) (dec 500000) ∷ dec
    2000000 ∷ sum (unary (Minus ∷ []) (num 9223372036854775807)) (minus (num 1) ∷ []) ∷ [])) ≡ Ok
    (codes "-1, -0.5, 2.0, xs:integer(\"-9223372036854775808\")")
unfolding digits chars
printing_1 = refl

-- "a""&amp;&#xD;"
printing_2 : answer (txt "a\"&\r") ≡ Ok (codes "\"a\"\"&amp;&#xD;\"")
unfolding digits chars
printing_2 = refl

-- 1 = 1, xs:untypedAtomic("u")
printing_3 : answer (seq (compare (General Equal) (num 1) (num 1) ∷ call_by (prefixed "xs"
    "untypedAtomic") (txt "u" ∷ []) ∷ [])) ≡ Ok (codes "true(), xs:untypedAtomic(\"u\")")
unfolding digits chars
printing_3 = refl

-- doc("b")//book[1]
printing_4 : answer (path (primary (call "doc" (txt "b" ∷ []))) (below (bare_step (named "book")
    (num 1 ∷ [])) ∷ [])) ≡ Ok (codes "element book {attribute id {\"1\"}, text {\"A\"}}")
unfolding digits chars
printing_4 = refl
