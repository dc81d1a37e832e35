-- Rows that are refused, and why.
use Rattle.std.specs.Prelude.{◌≡◌, refl, [], ◌∷◌, Ok, Err, codes}
use Rattle.std.specs.Fmt.{digits}
use Rattle.std.specs.Str.{chars}
use Rattle.std.specs.Char.{encode_utf8}
use Rattle.xq_atoms.specs.Characters.{is_name_start, is_name_char}
use Rattle.xq_atoms.specs.declared.refusals.Code.TheVariants.{FOAR0001, FOCA0001, FOCA0003, FOCA0006, FODC0005, FORG0001, FORG0003, FORG0004, FORG0005, FORG0006, ProfDouble, ProfPrefix, XPDY0002, XPDY0050, XPTY0004, XPTY0018, XPTY0019, XPTY0020, XQDY0025, XQDY0026, XQDY0041, XQDY0044, XQDY0064, XQDY0072, XQDY0074}
use Rattle.xq_meaning.proofs.Writing.{num, dec, txt, dot, seq, none, call, call_by, prefixed, sum, product, to, iff, root, path, primary, filtered, named, bare_step, child, at, element, element_by, attribute, instruction, instruction_by, document, comment, plus, div_by, slash, below}
use Rattle.xq_meaning.proofs.Library.{answer}

-- .
no_focus : answer dot ≡ Err XPDY0002
unfolding digits chars
no_focus = refl

-- (1)[a]
step_from_an_atom : answer (path (filtered (num 1) (path (child "a") [] ∷ [])) []) ≡ Err XPTY0020
unfolding digits chars
step_from_an_atom = refl

-- (1)[/]
root_of_an_atom : answer (path (filtered (num 1) (root ∷ [])) []) ≡ Err XPTY0020
unfolding digits chars
root_of_an_atom = refl

-- element a {}/(/)
root_of_an_element : answer (path (primary (element "a" none)) (slash (primary root) ∷ [])) ≡ Err
    XPDY0050
unfolding digits chars is_name_start is_name_char
root_of_an_element = refl

-- (1)/a
slash_after_an_atom : answer (path (primary (num 1)) (slash (child "a") ∷ [])) ≡ Err XPTY0019
unfolding digits chars
slash_after_an_atom = refl

-- doc("b")/lib/(book[1], 1)
nodes_and_atoms : answer (path (primary (call "doc" (txt "b" ∷ []))) (slash (child "lib") ∷ slash
    (primary (seq (path (bare_step (named "book") (num 1 ∷ [])) [] ∷ num 1 ∷ []))) ∷ [])) ≡ Err
    XPTY0018
unfolding digits chars
nodes_and_atoms = refl

-- 0.1000000
zeros_of_a_fraction : answer (dec 100000) ≡ Ok (codes "0.1")
unfolding digits chars
zeros_of_a_fraction = refl

-- "1" + 1
string_and_number : answer (sum (txt "1") (plus (num 1) ∷ [])) ≡ Err XPTY0004
unfolding digits chars
string_and_number = refl

-- doc("b")//@id + 1
two_operands : answer (sum (path (primary (call "doc" (txt "b" ∷ []))) (below (at "id") ∷ []))
    (plus (num 1) ∷ [])) ≡ Err XPTY0004
unfolding digits chars
two_operands = refl

-- 1.0 to 3
range_from_a_decimal : answer (to (dec 1000000) (num 3)) ≡ Err XPTY0004
unfolding digits chars
range_from_a_decimal = refl

-- contains(1, "1")
contains_a_number : answer (call "contains" (num 1 ∷ txt "1" ∷ [])) ≡ Err XPTY0004
unfolding digits chars
contains_a_number = refl

-- document {attribute b {"1"}}
attribute_in_a_document : answer (document (attribute "b" (txt "1"))) ≡ Err XPTY0004
unfolding digits chars is_name_start is_name_char
attribute_in_a_document = refl

-- doc("b")//book[1]/@id + 1
untyped_operand : answer (sum (path (primary (call "doc" (txt "b" ∷ []))) (below (bare_step (named
    "book") (num 1 ∷ [])) ∷ slash (at "id") ∷ [])) (plus (num 1) ∷ [])) ≡ Err ProfDouble
unfolding digits chars
untyped_operand = refl

-- substring("a", 1.0)
decimal_position : answer (call "substring" (txt "a" ∷ dec 1000000 ∷ [])) ≡ Err ProfDouble
unfolding digits chars encode_utf8
decimal_position = refl

-- 1 div 0
zero_divisor : answer (product (num 1) (div_by (num 0) ∷ [])) ≡ Err FOAR0001
unfolding digits chars
zero_divisor = refl

-- if ((1, 2)) then 1 else 2
two_numbers_as_truth : answer (iff (seq (num 1 ∷ num 2 ∷ [])) (num 1) (num 2)) ≡ Err FORG0006
unfolding digits chars
two_numbers_as_truth = refl

-- sum("a")
sum_of_a_string : answer (call "sum" (txt "a" ∷ [])) ≡ Err FORG0006
unfolding digits chars
sum_of_a_string = refl

-- xs:integer("1.0")
text_of_a_decimal : answer (call_by (prefixed "xs" "integer") (txt "1.0" ∷ [])) ≡ Err FORG0001
unfolding digits chars
text_of_a_decimal = refl

-- xs:integer(9999999999999999999.0)
too_large_integer : answer (call_by (prefixed "xs" "integer") (dec 9999999999999999999000000 ∷ []))
    ≡ Err FOCA0003
unfolding digits chars
too_large_integer = refl

-- xs:decimal("0.0000001")
seven_digits : answer (call_by (prefixed "xs" "decimal") (txt "0.0000001" ∷ [])) ≡ Err FOCA0006
unfolding digits chars
seven_digits = refl

-- xs:decimal("10000000000000000000")
too_large_decimal : answer (call_by (prefixed "xs" "decimal") (txt "10000000000000000000" ∷ [])) ≡
    Err FOCA0001
unfolding digits chars
too_large_decimal = refl

-- zero-or-one((1, 2))
two_for_one : answer (call "zero-or-one" (seq (num 1 ∷ num 2 ∷ []) ∷ [])) ≡ Err FORG0003
unfolding digits chars
two_for_one = refl

-- one-or-more(())
none_for_more : answer (call "one-or-more" (none ∷ [])) ≡ Err FORG0004
unfolding digits chars
none_for_more = refl

-- exactly-one(())
none_for_one : answer (call "exactly-one" (none ∷ [])) ≡ Err FORG0005
unfolding digits chars
none_for_one = refl

-- doc("a b")
bad_address : answer (call "doc" (txt "a b" ∷ [])) ≡ Err FODC0005
unfolding digits chars
bad_address = refl

-- element a {attribute b {"1"}, attribute b {"2"}}
doubled_attribute : answer (element "a" (seq (attribute "b" (txt "1") ∷ attribute "b" (txt "2") ∷
    []))) ≡ Err XQDY0025
unfolding digits chars is_name_start is_name_char
doubled_attribute = refl

-- processing-instruction t {"a?>"}
end_of_an_instruction : answer (instruction "t" (txt "a?>")) ≡ Err XQDY0026
unfolding digits chars is_name_start is_name_char
end_of_an_instruction = refl

-- processing-instruction {"1"} {""}
no_target : answer (instruction_by (txt "1") (txt "")) ≡ Err XQDY0041
unfolding digits chars is_name_start is_name_char
no_target = refl

-- attribute xmlns {"x"}
attribute_xmlns : answer (attribute "xmlns" (txt "x")) ≡ Err XQDY0044
unfolding digits chars is_name_start is_name_char
attribute_xmlns = refl

-- processing-instruction XML {"a"}
target_xml : answer (instruction "XML" (txt "a")) ≡ Err XQDY0064
unfolding digits chars is_name_start is_name_char
target_xml = refl

-- comment {"a--b"}
dashes : answer (comment (txt "a--b")) ≡ Err XQDY0072
unfolding digits chars
dashes = refl

-- element {"1a"} {}
no_name : answer (element_by (txt "1a") none) ≡ Err XQDY0074
unfolding digits chars is_name_start is_name_char
no_name = refl

-- element {"p:a"} {}
computed_prefix : answer (element_by (txt "p:a") none) ≡ Err ProfPrefix
unfolding digits chars is_name_start is_name_char
computed_prefix = refl
