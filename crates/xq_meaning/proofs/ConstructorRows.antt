-- Rows of constructors and their content.
use Rattle.std.specs.Prelude.{◌≡◌, refl, [], ◌∷◌, Ok, Err, codes}
use Rattle.std.specs.Fmt.{digits}
use Rattle.std.specs.Str.{chars}
use Rattle.std.specs.Char.{encode_utf8}
use Rattle.xq_atoms.specs.Characters.{is_name_start, is_name_char}
use Rattle.xq_atoms.specs.declared.refusals.Code.TheVariants.{FOAR0001, ProfPrefix, XPTY0004, XQDY0025, XQDY0026, XQDY0041, XQDY0044, XQDY0064, XQDY0072, XQDY0074, XQTY0024}
use Rattle.xq_expressions.specs.declared.operators.ComparisonOperator.TheVariants.{Node}
use Rattle.xq_expressions.specs.declared.operators.NodeComparison.TheVariants.{Precedes}
use Rattle.xq_expressions.specs.declared.operators.NodeTest.TheVariants as written
use Rattle.xq_meaning.proofs.Writing.{num, dec, txt, txt8, var, seq, none, call, call_by, prefixed, product, compare, path, primary, named, bare_step, child, at_test, at, element, element_by, attribute, attribute_by, instruction, instruction_by, document, text, comment, flwor, let_be, utf8, div_by, idiv_by, slash, below}
use Rattle.xq_meaning.proofs.Library.{answer}

-- document {}, document {element a {}}, document {"a", comment {"b"}}
documents : answer (seq (document none ∷ document (element "a" none) ∷ document (seq (txt "a" ∷
    comment (txt "b") ∷ [])) ∷ [])) ≡ Ok (codes
    "document {}, document {element a {}}, document {text {\"a\"}, comment {\"b\"}}")
unfolding digits chars is_name_start is_name_char
documents = refl

-- element a {}, element a {1, "b"}, element {"a"} {element b {}}
elements : answer (seq (element "a" none ∷ element "a" (seq (num 1 ∷ txt "b" ∷ [])) ∷ element_by
    (txt "a") (element "b" none) ∷ [])) ≡ Ok (codes
    "element a {}, element a {text {\"1 b\"}}, element a {element b {}}")
unfolding digits chars is_name_start is_name_char
elements = refl

-- attribute a {}, attribute a {1, 2.0}, attribute {"a"} {"x", element b {"y"}}
attributes : answer (seq (attribute "a" none ∷ attribute "a" (seq (num 1 ∷ dec 2000000 ∷ [])) ∷
    attribute_by (txt "a") (seq (txt "x" ∷ element "b" (txt "y") ∷ [])) ∷ [])) ≡ Ok (codes
    "attribute a {\"\"}, attribute a {\"1 2\"}, attribute a {\"x y\"}")
unfolding digits chars is_name_start is_name_char
attributes = refl

-- text {()}, text {""}, text {1, "a"}
text_nodes : answer (seq (text none ∷ text (txt "") ∷ text (seq (num 1 ∷ txt "a" ∷ [])) ∷ [])) ≡ Ok
    (codes "text {\"\"}, text {\"1 a\"}")
unfolding digits chars
text_nodes = refl

-- comment {}, comment {"a", 1}, comment {"-a"}
comments : answer (seq (comment none ∷ comment (seq (txt "a" ∷ num 1 ∷ [])) ∷ comment (txt "-a") ∷
    [])) ≡ Ok (codes "comment {\"\"}, comment {\"a 1\"}, comment {\"-a\"}")
unfolding digits chars
comments = refl

-- processing-instruction a {}, processing-instruction {"a"} {" b ", "c"}
instructions : answer (seq (instruction "a" none ∷ instruction_by (txt "a") (seq (txt " b " ∷ txt
    "c" ∷ [])) ∷ [])) ≡ Ok (codes
    "processing-instruction a {\"\"}, processing-instruction a {\"b  c\"}")
unfolding digits chars is_name_start is_name_char
instructions = refl

-- element {" a "} {}, attribute {xs:untypedAtomic("b")} {}, processing-instruction {" c"} {}
names_are_trimmed : answer (seq (element_by (txt " a ") none ∷ attribute_by (call_by (prefixed "xs"
    "untypedAtomic") (txt "b" ∷ [])) none ∷ instruction_by (txt " c") none ∷ [])) ≡ Ok (codes
    "element a {}, attribute b {\"\"}, processing-instruction c {\"\"}")
unfolding digits chars is_name_start is_name_char
names_are_trimmed = refl

-- element {doc("b")//book[1]/@id} {}
name_of_an_attribute_node : answer (element_by (path (primary (call "doc" (txt "b" ∷ []))) (below
    (bare_step (named "book") (num 1 ∷ [])) ∷ slash (at "id") ∷ [])) none) ≡ Err XQDY0074
unfolding digits chars is_name_start is_name_char
name_of_an_attribute_node = refl

-- element {()} {}
name_is_nothing : answer (element_by none none) ≡ Err XPTY0004
unfolding digits chars is_name_start is_name_char
name_is_nothing = refl

-- attribute {"a", "b"} {}
name_is_two : answer (attribute_by (seq (txt "a" ∷ txt "b" ∷ [])) none) ≡ Err XPTY0004
unfolding digits chars is_name_start is_name_char
name_is_two = refl

-- element {1} {}
name_is_a_number : answer (element_by (num 1) none) ≡ Err XPTY0004
unfolding digits chars is_name_start is_name_char
name_is_a_number = refl

-- element {""} {}
name_is_empty : answer (element_by (txt "") none) ≡ Err XQDY0074
unfolding digits chars is_name_start is_name_char
name_is_empty = refl

-- element {"a:b:c"} {}
name_with_two_colons : answer (element_by (txt "a:b:c") none) ≡ Err XQDY0074
unfolding digits chars is_name_start is_name_char
name_with_two_colons = refl

-- attribute {":a"} {}
name_begins_with_a_colon : answer (attribute_by (txt ":a") none) ≡ Err XQDY0074
unfolding digits chars is_name_start is_name_char
name_begins_with_a_colon = refl

-- attribute {"p:a"} {}
attribute_prefix : answer (attribute_by (txt "p:a") none) ≡ Err ProfPrefix
unfolding digits chars is_name_start is_name_char
attribute_prefix = refl

-- attribute {" xmlns "} {}
computed_xmlns : answer (attribute_by (txt " xmlns ") none) ≡ Err XQDY0044
unfolding digits chars is_name_start is_name_char
computed_xmlns = refl

-- element xmlns {}
element_xmlns : answer (element "xmlns" none) ≡ Ok (codes "element xmlns {}")
unfolding digits chars is_name_start is_name_char
element_xmlns = refl

-- processing-instruction {"p:a"} {}
target_with_a_colon : answer (instruction_by (txt "p:a") none) ≡ Err XQDY0041
unfolding digits chars is_name_start is_name_char
target_with_a_colon = refl

-- processing-instruction {"xMl"} {}
computed_target_xml : answer (instruction_by (txt "xMl") none) ≡ Err XQDY0064
unfolding digits chars is_name_start is_name_char
computed_target_xml = refl

-- element {"1a"} {1 div 0}
name_before_content : answer (element_by (txt "1a") (product (num 1) (div_by (num 0) ∷ []))) ≡ Err
    XQDY0074
unfolding digits chars is_name_start is_name_char
name_before_content = refl

-- attribute {1 div 0} {1 idiv 0}
code_before_number_of_names : answer (attribute_by (product (num 1) (div_by (num 0) ∷ [])) (product
    (num 1) (idiv_by (num 0) ∷ []))) ≡ Err FOAR0001
unfolding digits chars is_name_start is_name_char
code_before_number_of_names = refl

-- let $x := element x {"a"} return element y {$x, $x}
content_is_copied : answer (flwor (let_be "x" (element "x" (txt "a")) ∷ []) (element "y" (seq (var
    "x" ∷ var "x" ∷ [])))) ≡ Ok (codes
    "element y {element x {text {\"a\"}}, element x {text {\"a\"}}}")
unfolding digits chars is_name_start is_name_char
content_is_copied = refl

-- element a {doc("b"), 1}
document_in_content : answer (element "a" (seq (call "doc" (txt "b" ∷ []) ∷ num 1 ∷ []))) ≡ Ok
    (codes
    "element a {element lib {element book {attribute id {\"1\"}, text {\"A\"}}, element book {attribute id {\"2\"}, text {\"B\"}}}, text {\"1\"}}")
unfolding digits chars is_name_start is_name_char
document_in_content = refl

-- document {document {"a"}, document {"b"}}
document_in_a_document : answer (document (seq (document (txt "a") ∷ document (txt "b") ∷ []))) ≡
    Ok (codes "document {text {\"ab\"}}")
unfolding digits chars
document_in_a_document = refl

-- element a {text {"x"}, text {""}, "y", text {"z"}}
texts_merge : answer (element "a" (seq (text (txt "x") ∷ text (txt "") ∷ txt "y" ∷ text (txt "z") ∷
    []))) ≡ Ok (codes "element a {text {\"xyz\"}}")
unfolding digits chars is_name_start is_name_char
texts_merge = refl

-- element a {1, 2, element b {}, 3, 4}
atoms_on_both_sides_of_a_node : answer (element "a" (seq (num 1 ∷ num 2 ∷ element "b" none ∷ num 3
    ∷ num 4 ∷ []))) ≡ Ok (codes "element a {text {\"1 2\"}, element b {}, text {\"3 4\"}}")
unfolding digits chars is_name_start is_name_char
atoms_on_both_sides_of_a_node = refl

-- element a {"", ""}, element a {text {""}}
empty_strings_make_spaces : answer (seq (element "a" (seq (txt "" ∷ txt "" ∷ [])) ∷ element "a"
    (text (txt "")) ∷ [])) ≡ Ok (codes "element a {text {\" \"}}, element a {}")
unfolding digits chars is_name_start is_name_char
empty_strings_make_spaces = refl

-- element a {doc("b")//book[2]/@id, doc("b")//book[1]/node()}
attribute_from_elsewhere : answer (element "a" (seq (path (primary (call "doc" (txt "b" ∷ [])))
    (below (bare_step (named "book") (num 2 ∷ [])) ∷ slash (at "id") ∷ []) ∷ path (primary (call
    "doc" (txt "b" ∷ []))) (below (bare_step (named "book") (num 1 ∷ [])) ∷ slash (bare_step
    written.Node []) ∷ []) ∷ []))) ≡ Ok (codes "element a {attribute id {\"2\"}, text {\"A\"}}")
unfolding digits chars is_name_start is_name_char
attribute_from_elsewhere = refl

-- element a {text {""}, attribute b {1}}
attribute_after_an_empty_text : answer (element "a" (seq (text (txt "") ∷ attribute "b" (num 1) ∷
    []))) ≡ Ok (codes "element a {attribute b {\"1\"}}")
unfolding digits chars is_name_start is_name_char
attribute_after_an_empty_text = refl

-- element a {element b {}, attribute c {1}}
attribute_after_an_element : answer (element "a" (seq (element "b" none ∷ attribute "c" (num 1) ∷
    []))) ≡ Err XQTY0024
unfolding digits chars is_name_start is_name_char
attribute_after_an_element = refl

-- element a {comment {""}, attribute c {1}}
attribute_after_a_comment : answer (element "a" (seq (comment (txt "") ∷ attribute "c" (num 1) ∷
    []))) ≡ Err XQTY0024
unfolding digits chars is_name_start is_name_char
attribute_after_a_comment = refl

-- element a {attribute b {1}, "x", attribute b {2}}
late_goes_before_doubled : answer (element "a" (seq (attribute "b" (num 1) ∷ txt "x" ∷ attribute
    "b" (num 2) ∷ []))) ≡ Err XQTY0024
unfolding digits chars is_name_start is_name_char
late_goes_before_doubled = refl

-- element a {attribute b {1}, attribute b {2}, "x", attribute c {2}}
doubled_goes_in_order : answer (element "a" (seq (attribute "b" (num 1) ∷ attribute "b" (num 2) ∷
    txt "x" ∷ attribute "c" (num 2) ∷ []))) ≡ Err XQDY0025
unfolding digits chars is_name_start is_name_char
doubled_goes_in_order = refl

-- document {attribute b {1}, attribute b {2}}
attribute_in_a_document_is_first : answer (document (seq (attribute "b" (num 1) ∷ attribute "b"
    (num 2) ∷ []))) ≡ Err XPTY0004
unfolding digits chars is_name_start is_name_char
attribute_in_a_document_is_first = refl

-- comment {"a-"}
comment_ends_with_a_dash : answer (comment (txt "a-")) ≡ Err XQDY0072
unfolding digits chars
comment_ends_with_a_dash = refl

-- comment {"-", "-"}
comment_of_dashes : answer (comment (seq (txt "-" ∷ txt "-" ∷ []))) ≡ Err XQDY0072
unfolding digits chars
comment_of_dashes = refl

-- processing-instruction a {"  ?>"}
instruction_end_after_space : answer (instruction "a" (txt "  ?>")) ≡ Err XQDY0026
unfolding digits chars is_name_start is_name_char
instruction_end_after_space = refl

-- string(comment {"a"}), string(processing-instruction p {"b"}), data(attribute a {1}),
-- data(comment {"c"}), data(element a {"x", element b {"y"}})
values_of_nodes : answer (seq (call "string" (comment (txt "a") ∷ []) ∷ call "string" (instruction
    "p" (txt "b") ∷ []) ∷ call "data" (attribute "a" (num 1) ∷ []) ∷ call "data" (comment (txt "c")
    ∷ []) ∷ call "data" (element "a" (seq (txt "x" ∷ element "b" (txt "y") ∷ [])) ∷ []) ∷ [])) ≡ Ok
    (codes "\"a\", \"b\", xs:untypedAtomic(\"1\"), \"c\", xs:untypedAtomic(\"xy\")")
unfolding digits chars is_name_start is_name_char
values_of_nodes = refl

-- data(processing-instruction p {"b"}), data(text {"t"}), data(document {element a {"d"}})
value_of_an_instruction : answer (seq (call "data" (instruction "p" (txt "b") ∷ []) ∷ call "data"
    (text (txt "t") ∷ []) ∷ call "data" (document (element "a" (txt "d")) ∷ []) ∷ [])) ≡ Ok (codes
    "\"b\", xs:untypedAtomic(\"t\"), xs:untypedAtomic(\"d\")")
unfolding digits chars is_name_start is_name_char
value_of_an_instruction = refl

-- element {xs:untypedAtomic(" b ")} {}
untyped_name_is_trimmed : answer (element_by (call_by (prefixed "xs" "untypedAtomic") (txt " b " ∷
    [])) none) ≡ Ok (codes "element b {}")
unfolding digits chars is_name_start is_name_char
untyped_name_is_trimmed = refl

-- element {"é"} {}, attribute {"日本"} {}, name(element {"é"} {})
names_have_characters : answer (seq (element_by (txt8 "é") none ∷ attribute_by (txt8 "日本") none ∷
    call "name" (element_by (txt8 "é") none ∷ []) ∷ [])) ≡ Ok (utf8
    "element é {}, attribute 日本 {\"\"}, \"é\"")
unfolding digits chars encode_utf8 is_name_start is_name_char
names_have_characters = refl

-- comment {doc("b")//book}, attribute a {doc("b")//@id}, text {doc("b")//book},
-- processing-instruction p {doc("b")//@id}
values_of_nodes_in_content : answer (seq (comment (path (primary (call "doc" (txt "b" ∷ [])))
    (below (child "book") ∷ [])) ∷ attribute "a" (path (primary (call "doc" (txt "b" ∷ []))) (below
    (at "id") ∷ [])) ∷ text (path (primary (call "doc" (txt "b" ∷ []))) (below (child "book") ∷
    [])) ∷ instruction "p" (path (primary (call "doc" (txt "b" ∷ []))) (below (at "id") ∷ [])) ∷
    [])) ≡ Ok (codes
    "comment {\"A B\"}, attribute a {\"1 2\"}, text {\"A B\"}, processing-instruction p {\"1 2\"}")
unfolding digits chars is_name_start is_name_char
values_of_nodes_in_content = refl

-- let $e := element e {attribute b {1}, attribute a {2}} return ($e/@*, $e/@b << $e/@a)
attributes_stand_as_built : answer (flwor (let_be "e" (element "e" (seq (attribute "b" (num 1) ∷
    attribute "a" (num 2) ∷ []))) ∷ []) (seq (path (primary (var "e")) (slash (at_test
    written.AnyName []) ∷ []) ∷ compare (Node Precedes) (path (primary (var "e")) (slash (at "b") ∷
    [])) (path (primary (var "e")) (slash (at "a") ∷ [])) ∷ []))) ≡ Ok (codes
    "attribute b {\"1\"}, attribute a {\"2\"}, true()")
unfolding digits chars is_name_start is_name_char
attributes_stand_as_built = refl

-- let $e := element e {attribute a {1}, comment {"c"}, processing-instruction p {"q"}, text
-- {"t"}} return element f {$e/@a, $e/node()}
all_kinds_are_copied : answer (flwor (let_be "e" (element "e" (seq (attribute "a" (num 1) ∷ comment
    (txt "c") ∷ instruction "p" (txt "q") ∷ text (txt "t") ∷ []))) ∷ []) (element "f" (seq (path
    (primary (var "e")) (slash (at "a") ∷ []) ∷ path (primary (var "e")) (slash (bare_step
    written.Node []) ∷ []) ∷ [])))) ≡ Ok (codes
    "element f {attribute a {\"1\"}, comment {\"c\"}, processing-instruction p {\"q\"}, text {\"t\"}}")
unfolding digits chars is_name_start is_name_char
all_kinds_are_copied = refl

-- root(attribute a {1}), root(text {"t"}), count(element a {element b {}}/b/root())
root_of_a_lone_node : answer (seq (call "root" (attribute "a" (num 1) ∷ []) ∷ call "root" (text
    (txt "t") ∷ []) ∷ call "count" (path (primary (element "a" (element "b" none))) (slash (child
    "b") ∷ slash (primary (call "root" [])) ∷ []) ∷ []) ∷ [])) ≡ Ok (codes
    "attribute a {\"1\"}, text {\"t\"}, 1")
unfolding digits chars is_name_start is_name_char
root_of_a_lone_node = refl
