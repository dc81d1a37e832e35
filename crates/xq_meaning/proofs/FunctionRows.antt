-- Rows of functions on documents, nodes and strings.
use Rattle.std.specs.Prelude.{◌≡◌, refl, [], ◌∷◌, Ok, Err, codes}
use Rattle.std.specs.Fmt.{digits}
use Rattle.std.specs.Str.{chars}
use Rattle.std.specs.Char.{encode_utf8}
use Rattle.xq_atoms.specs.Characters.{is_name_start, is_name_char}
use Rattle.xq_atoms.specs.declared.refusals.Code.TheVariants.{FODC0002, FODC0005, ProfDouble, XPDY0002, XPTY0004}
use Rattle.xq_expressions.specs.declared.operators.Sign.TheVariants.{Minus}
use Rattle.xq_expressions.specs.declared.operators.Relation.TheVariants.{Equal}
use Rattle.xq_expressions.specs.declared.operators.ComparisonOperator.TheVariants.{General, Node}
use Rattle.xq_expressions.specs.declared.operators.NodeComparison.TheVariants.{Is}
use Rattle.xq_expressions.specs.declared.operators.NodeTest.TheVariants as written
use Rattle.xq_meaning.proofs.Writing.{num, dec, txt, txt8, seq, none, call, call_by, prefixed, unary, compare, path, primary, filtered, named, bare_step, child, at_test, at, element, instruction, text, comment, utf8, slash, below}
use Rattle.xq_meaning.proofs.Library.{answer}

-- doc(())
doc_of_nothing : answer (call "doc" (none ∷ [])) ≡ Ok (codes "()")
unfolding digits chars
doc_of_nothing = refl

-- doc(xs:untypedAtomic("b"))/lib/book[1]/@id
doc_of_untyped : answer (path (primary (call "doc" (call_by (prefixed "xs" "untypedAtomic") (txt
    "b" ∷ []) ∷ []))) (slash (child "lib") ∷ slash (bare_step (named "book") (num 1 ∷ [])) ∷ slash
    (at "id") ∷ [])) ≡ Ok (codes "attribute id {\"1\"}")
unfolding digits chars
doc_of_untyped = refl

-- doc("b") is doc("b")
doc_twice : answer (compare (Node Is) (call "doc" (txt "b" ∷ [])) (call "doc" (txt "b" ∷ []))) ≡ Ok
    (codes "true()")
unfolding digits chars
doc_twice = refl

-- doc(1)
doc_of_a_number : answer (call "doc" (num 1 ∷ [])) ≡ Err XPTY0004
unfolding digits chars
doc_of_a_number = refl

-- doc(("b", "b"))
doc_of_two : answer (call "doc" (seq (txt "b" ∷ txt "b" ∷ []) ∷ [])) ≡ Err XPTY0004
unfolding digits chars
doc_of_two = refl

-- doc("")
doc_of_an_empty_address : answer (call "doc" (txt "" ∷ [])) ≡ Err FODC0005
unfolding digits chars
doc_of_an_empty_address = refl

-- doc-available("b"), doc-available("c"), doc-available("a b"), doc-available(()),
-- doc-available("")
doc_available : answer (seq (call "doc-available" (txt "b" ∷ []) ∷ call "doc-available" (txt "c" ∷
    []) ∷ call "doc-available" (txt "a b" ∷ []) ∷ call "doc-available" (none ∷ []) ∷ call
    "doc-available" (txt "" ∷ []) ∷ [])) ≡ Ok (codes "true(), false(), false(), false(), false()")
unfolding digits chars
doc_available = refl

-- doc-available(1)
doc_available_of_a_number : answer (call "doc-available" (num 1 ∷ [])) ≡ Err XPTY0004
unfolding digits chars
doc_available_of_a_number = refl

-- doc-available(("b", "c"))
doc_available_of_two : answer (call "doc-available" (seq (txt "b" ∷ txt "c" ∷ []) ∷ [])) ≡ Err
    XPTY0004
unfolding digits chars
doc_available_of_two = refl

-- collection() is doc("b"), count(collection())
collection : answer (seq (compare (Node Is) (call "collection" []) (call "doc" (txt "b" ∷ [])) ∷
    call "count" (call "collection" [] ∷ []) ∷ [])) ≡ Ok (codes "true(), 1")
unfolding digits chars
collection = refl

-- root(doc("b")//book[1]) is doc("b"), root(()), root(element a {}), doc("b")//book[1]/root() is
-- doc("b")
root : answer (seq (compare (Node Is) (call "root" (path (primary (call "doc" (txt "b" ∷ [])))
    (below (bare_step (named "book") (num 1 ∷ [])) ∷ []) ∷ [])) (call "doc" (txt "b" ∷ [])) ∷ call
    "root" (none ∷ []) ∷ call "root" (element "a" none ∷ []) ∷ compare (Node Is) (path (primary
    (call "doc" (txt "b" ∷ []))) (below (bare_step (named "book") (num 1 ∷ [])) ∷ slash (primary
    (call "root" [])) ∷ [])) (call "doc" (txt "b" ∷ [])) ∷ [])) ≡ Ok (codes
    "true(), element a {}, true()")
unfolding digits chars is_name_start is_name_char
root = refl

-- root(1)
root_of_an_argument : answer (call "root" (num 1 ∷ [])) ≡ Err XPTY0004
unfolding digits chars
root_of_an_argument = refl

-- root((doc("b"), doc("b")))
root_of_two : answer (call "root" (seq (call "doc" (txt "b" ∷ []) ∷ call "doc" (txt "b" ∷ []) ∷ [])
    ∷ [])) ≡ Err XPTY0004
unfolding digits chars
root_of_two = refl

-- 1[root()]
root_of_a_context_atom : answer (path (filtered (num 1) (call "root" [] ∷ [])) []) ≡ Err XPTY0004
unfolding digits chars
root_of_a_context_atom = refl

-- root()
root_of_no_context : answer (call "root" []) ≡ Err XPDY0002
unfolding digits chars
root_of_no_context = refl

-- name(doc("b")//@id[1]), name(doc("b")//book[1]/@id), name(())
name : answer (seq (call "name" (path (primary (call "doc" (txt "b" ∷ []))) (below (at_test (named
    "id") (num 1 ∷ [])) ∷ []) ∷ []) ∷ call "name" (path (primary (call "doc" (txt "b" ∷ [])))
    (below (bare_step (named "book") (num 1 ∷ [])) ∷ slash (at "id") ∷ []) ∷ []) ∷ call "name"
    (none ∷ []) ∷ [])) ≡ Err XPTY0004
unfolding digits chars
name = refl

-- name(doc("b")//book[1]/@id), name(processing-instruction p {}), name(doc("b")), name(text
-- {"a"}), name(comment {}), name(())
names : answer (seq (call "name" (path (primary (call "doc" (txt "b" ∷ []))) (below (bare_step
    (named "book") (num 1 ∷ [])) ∷ slash (at "id") ∷ []) ∷ []) ∷ call "name" (instruction "p" none
    ∷ []) ∷ call "name" (call "doc" (txt "b" ∷ []) ∷ []) ∷ call "name" (text (txt "a") ∷ []) ∷ call
    "name" (comment none ∷ []) ∷ call "name" (none ∷ []) ∷ [])) ≡ Ok (codes
    "\"id\", \"p\", \"\", \"\", \"\", \"\"")
unfolding digits chars is_name_start is_name_char
names = refl

-- doc("b")//*/name(), doc("b")//book[1]/@*/local-name()
names_in_context : answer (seq (path (primary (call "doc" (txt "b" ∷ []))) (below (bare_step
    written.AnyName []) ∷ slash (primary (call "name" [])) ∷ []) ∷ path (primary (call "doc" (txt
    "b" ∷ []))) (below (bare_step (named "book") (num 1 ∷ [])) ∷ slash (at_test written.AnyName [])
    ∷ slash (primary (call "local-name" [])) ∷ []) ∷ [])) ≡ Ok (codes
    "\"lib\", \"book\", \"book\", \"id\"")
unfolding digits chars
names_in_context = refl

-- local-name(doc("b")/lib), local-name(()), local-name(doc("b"))
local_name : answer (seq (call "local-name" (path (primary (call "doc" (txt "b" ∷ []))) (slash
    (child "lib") ∷ []) ∷ []) ∷ call "local-name" (none ∷ []) ∷ call "local-name" (call "doc" (txt
    "b" ∷ []) ∷ []) ∷ [])) ≡ Ok (codes "\"lib\", \"\", \"\"")
unfolding digits chars
local_name = refl

-- name(1)
name_of_an_atom : answer (call "name" (num 1 ∷ [])) ≡ Err XPTY0004
unfolding digits chars
name_of_an_atom = refl

-- (1)[name()]
name_of_a_context_atom : answer (path (filtered (num 1) (call "name" [] ∷ [])) []) ≡ Err XPTY0004
unfolding digits chars
name_of_a_context_atom = refl

-- name()
name_of_no_context : answer (call "name" []) ≡ Err XPDY0002
unfolding digits chars
name_of_no_context = refl

-- local-name("a")
local_name_of_an_atom : answer (call "local-name" (txt "a" ∷ [])) ≡ Err XPTY0004
unfolding digits chars
local_name_of_an_atom = refl

-- local-name()
local_name_of_no_context : answer (call "local-name" []) ≡ Err XPDY0002
unfolding digits chars
local_name_of_no_context = refl

-- string(1), string(2.50), string(true()), string("a"), string(xs:untypedAtomic("u")),
-- string(()), string(doc("b")), string(doc("b")//book[2]/@id)
string : answer (seq (call "string" (num 1 ∷ []) ∷ call "string" (dec 2500000 ∷ []) ∷ call "string"
    (call "true" [] ∷ []) ∷ call "string" (txt "a" ∷ []) ∷ call "string" (call_by (prefixed "xs"
    "untypedAtomic") (txt "u" ∷ []) ∷ []) ∷ call "string" (none ∷ []) ∷ call "string" (call "doc"
    (txt "b" ∷ []) ∷ []) ∷ call "string" (path (primary (call "doc" (txt "b" ∷ []))) (below
    (bare_step (named "book") (num 2 ∷ [])) ∷ slash (at "id") ∷ []) ∷ []) ∷ [])) ≡ Ok (codes
    "\"1\", \"2.5\", \"true\", \"a\", \"u\", \"\", \"AB\", \"2\"")
unfolding digits chars
string = refl

-- (1, 2.0)[string() = "2"], doc("b")//book/string()
string_of_the_context : answer (seq (path (filtered (seq (num 1 ∷ dec 2000000 ∷ [])) (compare
    (General Equal) (call "string" []) (txt "2") ∷ [])) [] ∷ path (primary (call "doc" (txt "b" ∷
    []))) (below (child "book") ∷ slash (primary (call "string" [])) ∷ []) ∷ [])) ≡ Ok (codes
    "2.0, \"A\", \"B\"")
unfolding digits chars
string_of_the_context = refl

-- string((1, 2))
string_of_two : answer (call "string" (seq (num 1 ∷ num 2 ∷ []) ∷ [])) ≡ Err XPTY0004
unfolding digits chars
string_of_two = refl

-- string()
string_of_no_context : answer (call "string" []) ≡ Err XPDY0002
unfolding digits chars
string_of_no_context = refl

-- data(()), data((1, "a")), data(doc("b")//book), doc("b")//@id/data()
data_of_items : answer (seq (call "data" (none ∷ []) ∷ call "data" (seq (num 1 ∷ txt "a" ∷ []) ∷
    []) ∷ call "data" (path (primary (call "doc" (txt "b" ∷ []))) (below (child "book") ∷ []) ∷ [])
    ∷ path (primary (call "doc" (txt "b" ∷ []))) (below (at "id") ∷ slash (primary (call "data"
    [])) ∷ []) ∷ [])) ≡ Ok (codes
    "1, \"a\", xs:untypedAtomic(\"A\"), xs:untypedAtomic(\"B\"), xs:untypedAtomic(\"1\"), xs:untypedAtomic(\"2\")")
unfolding digits chars
data_of_items = refl

-- data()
data_of_no_context : answer (call "data" []) ≡ Err XPDY0002
unfolding digits chars
data_of_no_context = refl

-- string-length(""), string-length("abc"), string-length(()), string-length(doc("b")),
-- "ab"[string-length() = 2], (10)[string-length() = 2]
string_length : answer (seq (call "string-length" (txt "" ∷ []) ∷ call "string-length" (txt "abc" ∷
    []) ∷ call "string-length" (none ∷ []) ∷ call "string-length" (call "doc" (txt "b" ∷ []) ∷ [])
    ∷ path (filtered (txt "ab") (compare (General Equal) (call "string-length" []) (num 2) ∷ []))
    [] ∷ path (filtered (num 10) (compare (General Equal) (call "string-length" []) (num 2) ∷ []))
    [] ∷ [])) ≡ Ok (codes "0, 3, 0, 2, \"ab\", 10")
unfolding digits chars
string_length = refl

-- string-length("日本é😀")
string_length_in_characters : answer (call "string-length" (txt8 "日本é😀" ∷ [])) ≡ Ok (codes "4")
unfolding digits chars encode_utf8
string_length_in_characters = refl

-- string-length(1)
string_length_of_a_number : answer (call "string-length" (num 1 ∷ [])) ≡ Err XPTY0004
unfolding digits chars
string_length_of_a_number = refl

-- string-length(("a", "b"))
string_length_of_two : answer (call "string-length" (seq (txt "a" ∷ txt "b" ∷ []) ∷ [])) ≡ Err
    XPTY0004
unfolding digits chars
string_length_of_two = refl

-- string-length()
string_length_of_no_context : answer (call "string-length" []) ≡ Err XPDY0002
unfolding digits chars
string_length_of_no_context = refl

-- normalize-space(" a  b&#9;&#10;c&#xD; "), normalize-space(""), normalize-space("   "),
-- normalize-space(()), " x "[normalize-space() = "x"], (1.50)[normalize-space() = "1.5"]
normalize_space : answer (seq (call "normalize-space" (txt " a  b\t\nc\r " ∷ []) ∷ call
    "normalize-space" (txt "" ∷ []) ∷ call "normalize-space" (txt "   " ∷ []) ∷ call
    "normalize-space" (none ∷ []) ∷ path (filtered (txt " x ") (compare (General Equal) (call
    "normalize-space" []) (txt "x") ∷ [])) [] ∷ path (filtered (dec 1500000) (compare (General
    Equal) (call "normalize-space" []) (txt "1.5") ∷ [])) [] ∷ [])) ≡ Ok (codes
    "\"a b c\", \"\", \"\", \"\", \" x \", 1.5")
unfolding digits chars
normalize_space = refl

-- normalize-space(1)
normalize_space_of_a_number : answer (call "normalize-space" (num 1 ∷ [])) ≡ Err XPTY0004
unfolding digits chars
normalize_space_of_a_number = refl

-- normalize-space()
normalize_space_of_no_context : answer (call "normalize-space" []) ≡ Err XPDY0002
unfolding digits chars
normalize_space_of_no_context = refl

-- concat("a", "b"), concat(1, 2.0, true()), concat((), "x", (), "y"), concat(doc("b")//book[1],
-- "!")
concat : answer (seq (call "concat" (txt "a" ∷ txt "b" ∷ []) ∷ call "concat" (num 1 ∷ dec 2000000 ∷
    call "true" [] ∷ []) ∷ call "concat" (none ∷ txt "x" ∷ none ∷ txt "y" ∷ []) ∷ call "concat"
    (path (primary (call "doc" (txt "b" ∷ []))) (below (bare_step (named "book") (num 1 ∷ [])) ∷
    []) ∷ txt "!" ∷ []) ∷ [])) ≡ Ok (codes "\"ab\", \"12true\", \"xy\", \"A!\"")
unfolding digits chars
concat = refl

-- concat("a", ("b", "c"))
concat_of_two_items : answer (call "concat" (txt "a" ∷ seq (txt "b" ∷ txt "c" ∷ []) ∷ [])) ≡ Err
    XPTY0004
unfolding digits chars
concat_of_two_items = refl

-- string-join(("a", 1, true())), string-join((1, 2.0), ", "), string-join((), "-"),
-- string-join("a", "-"), string-join(("a", "", "b"), ""), string-join(doc("b")//@id, "/")
string_join : answer (seq (call "string-join" (seq (txt "a" ∷ num 1 ∷ call "true" [] ∷ []) ∷ []) ∷
    call "string-join" (seq (num 1 ∷ dec 2000000 ∷ []) ∷ txt ", " ∷ []) ∷ call "string-join" (none
    ∷ txt "-" ∷ []) ∷ call "string-join" (txt "a" ∷ txt "-" ∷ []) ∷ call "string-join" (seq (txt
    "a" ∷ txt "" ∷ txt "b" ∷ []) ∷ txt "" ∷ []) ∷ call "string-join" (path (primary (call "doc"
    (txt "b" ∷ []))) (below (at "id") ∷ []) ∷ txt "/" ∷ []) ∷ [])) ≡ Ok (codes
    "\"a1true\", \"1, 2\", \"\", \"a\", \"ab\", \"1/2\"")
unfolding digits chars
string_join = refl

-- string-join(("a", "b"), ())
string_join_by_nothing : answer (call "string-join" (seq (txt "a" ∷ txt "b" ∷ []) ∷ none ∷ [])) ≡
    Err XPTY0004
unfolding digits chars
string_join_by_nothing = refl

-- string-join("a", 1)
string_join_by_a_number : answer (call "string-join" (txt "a" ∷ num 1 ∷ [])) ≡ Err XPTY0004
unfolding digits chars
string_join_by_a_number = refl

-- contains("abc", "b"), contains("abc", ""), contains("", ""), contains((), ()), contains("abc",
-- "ac"), contains((), "a")
contains : answer (seq (call "contains" (txt "abc" ∷ txt "b" ∷ []) ∷ call "contains" (txt "abc" ∷
    txt "" ∷ []) ∷ call "contains" (txt "" ∷ txt "" ∷ []) ∷ call "contains" (none ∷ none ∷ []) ∷
    call "contains" (txt "abc" ∷ txt "ac" ∷ []) ∷ call "contains" (none ∷ txt "a" ∷ []) ∷ [])) ≡ Ok
    (codes "true(), true(), true(), true(), false(), false()")
unfolding digits chars
contains = refl

-- starts-with("abc", "ab"), starts-with("abc", ""), starts-with("ab", "abc"), starts-with("abc",
-- "bc"), starts-with((), ())
starts_with : answer (seq (call "starts-with" (txt "abc" ∷ txt "ab" ∷ []) ∷ call "starts-with" (txt
    "abc" ∷ txt "" ∷ []) ∷ call "starts-with" (txt "ab" ∷ txt "abc" ∷ []) ∷ call "starts-with" (txt
    "abc" ∷ txt "bc" ∷ []) ∷ call "starts-with" (none ∷ none ∷ []) ∷ [])) ≡ Ok (codes
    "true(), true(), false(), false(), true()")
unfolding digits chars
starts_with = refl

-- ends-with("abc", "bc"), ends-with("abc", ""), ends-with("bc", "abc"), ends-with("abc", "ab"),
-- ends-with((), ())
ends_with : answer (seq (call "ends-with" (txt "abc" ∷ txt "bc" ∷ []) ∷ call "ends-with" (txt "abc"
    ∷ txt "" ∷ []) ∷ call "ends-with" (txt "bc" ∷ txt "abc" ∷ []) ∷ call "ends-with" (txt "abc" ∷
    txt "ab" ∷ []) ∷ call "ends-with" (none ∷ none ∷ []) ∷ [])) ≡ Ok (codes
    "true(), true(), false(), false(), true()")
unfolding digits chars
ends_with = refl

-- contains(doc("b"), "AB"), starts-with(doc("b"), xs:untypedAtomic("A")),
-- ends-with(doc("b")//book[1]/@id, "1")
contains_untyped : answer (seq (call "contains" (call "doc" (txt "b" ∷ []) ∷ txt "AB" ∷ []) ∷ call
    "starts-with" (call "doc" (txt "b" ∷ []) ∷ call_by (prefixed "xs" "untypedAtomic") (txt "A" ∷
    []) ∷ []) ∷ call "ends-with" (path (primary (call "doc" (txt "b" ∷ []))) (below (bare_step
    (named "book") (num 1 ∷ [])) ∷ slash (at "id") ∷ []) ∷ txt "1" ∷ []) ∷ [])) ≡ Ok (codes
    "true(), true(), true()")
unfolding digits chars
contains_untyped = refl

-- contains("a", ("a", "b"))
contains_two : answer (call "contains" (txt "a" ∷ seq (txt "a" ∷ txt "b" ∷ []) ∷ [])) ≡ Err
    XPTY0004
unfolding digits chars
contains_two = refl

-- starts-with("true", true())
starts_with_a_truth : answer (call "starts-with" (txt "true" ∷ call "true" [] ∷ [])) ≡ Err XPTY0004
unfolding digits chars
starts_with_a_truth = refl

-- ends-with("1", 1)
ends_with_a_number : answer (call "ends-with" (txt "1" ∷ num 1 ∷ [])) ≡ Err XPTY0004
unfolding digits chars
ends_with_a_number = refl

-- substring("abc", 2), substring("abc", 0), substring("abc", -5), substring("abc", 4),
-- substring((), 1), substring("", 1)
substring_from : answer (seq (call "substring" (txt "abc" ∷ num 2 ∷ []) ∷ call "substring" (txt
    "abc" ∷ num 0 ∷ []) ∷ call "substring" (txt "abc" ∷ unary (Minus ∷ []) (num 5) ∷ []) ∷ call
    "substring" (txt "abc" ∷ num 4 ∷ []) ∷ call "substring" (none ∷ num 1 ∷ []) ∷ call "substring"
    (txt "" ∷ num 1 ∷ []) ∷ [])) ≡ Ok (codes "\"bc\", \"abc\", \"abc\", \"\", \"\", \"\"")
unfolding digits chars encode_utf8
substring_from = refl

-- substring("abcde", 2, 2), substring("abcde", 0, 2), substring("abcde", -1, 3),
-- substring("abcde", 4, 9), substring("abc", 1, 0), substring("abc", 2, -1), substring("abc", -2,
-- 1000000000)
substring_of_length : answer (seq (call "substring" (txt "abcde" ∷ num 2 ∷ num 2 ∷ []) ∷ call
    "substring" (txt "abcde" ∷ num 0 ∷ num 2 ∷ []) ∷ call "substring" (txt "abcde" ∷ unary (Minus ∷
    []) (num 1) ∷ num 3 ∷ []) ∷ call "substring" (txt "abcde" ∷ num 4 ∷ num 9 ∷ []) ∷ call
    "substring" (txt "abc" ∷ num 1 ∷ num 0 ∷ []) ∷ call "substring" (txt "abc" ∷ num 2 ∷ unary
    (Minus ∷ []) (num 1) ∷ []) ∷ call "substring" (txt "abc" ∷ unary (Minus ∷ []) (num 2) ∷ num
    1000000000 ∷ []) ∷ [])) ≡ Ok (codes "\"bc\", \"a\", \"a\", \"de\", \"\", \"\", \"abc\"")
unfolding digits chars encode_utf8
substring_of_length = refl

-- substring("日本é😀", 2, 2), substring("é😀", 2)
substring_in_characters : answer (seq (call "substring" (txt8 "日本é😀" ∷ num 2 ∷ num 2 ∷ []) ∷ call
    "substring" (txt8 "é😀" ∷ num 2 ∷ []) ∷ [])) ≡ Ok (utf8 "\"本é\", \"😀\"")
unfolding digits chars encode_utf8
substring_in_characters = refl

-- substring("abc", -1000000000), substring("abc", 1000000000)
substring_at_the_limit : answer (seq (call "substring" (txt "abc" ∷ unary (Minus ∷ []) (num
    1000000000) ∷ []) ∷ call "substring" (txt "abc" ∷ num 1000000000 ∷ []) ∷ [])) ≡ Ok (codes
    "\"abc\", \"\"")
unfolding digits chars encode_utf8
substring_at_the_limit = refl

-- substring("abc", 1000000001)
substring_over_the_limit : answer (call "substring" (txt "abc" ∷ num 1000000001 ∷ [])) ≡ Err
    ProfDouble
unfolding digits chars encode_utf8
substring_over_the_limit = refl

-- substring("abc", 1, -1000000001)
substring_length_over_the_limit : answer (call "substring" (txt "abc" ∷ num 1 ∷ unary (Minus ∷ [])
    (num 1000000001) ∷ [])) ≡ Err ProfDouble
unfolding digits chars encode_utf8
substring_length_over_the_limit = refl

-- substring("abc", xs:untypedAtomic("1"))
substring_from_untyped : answer (call "substring" (txt "abc" ∷ call_by (prefixed "xs"
    "untypedAtomic") (txt "1" ∷ []) ∷ [])) ≡ Err ProfDouble
unfolding digits chars encode_utf8
substring_from_untyped = refl

-- substring("abc", "1")
substring_from_a_string : answer (call "substring" (txt "abc" ∷ txt "1" ∷ [])) ≡ Err XPTY0004
unfolding digits chars encode_utf8
substring_from_a_string = refl

-- substring("abc", ())
substring_from_nothing : answer (call "substring" (txt "abc" ∷ none ∷ [])) ≡ Err XPTY0004
unfolding digits chars encode_utf8
substring_from_nothing = refl

-- substring("abc", 1, (1, 2))
substring_of_two_lengths : answer (call "substring" (txt "abc" ∷ num 1 ∷ seq (num 1 ∷ num 2 ∷ []) ∷
    [])) ≡ Err XPTY0004
unfolding digits chars encode_utf8
substring_of_two_lengths = refl

-- substring(1, 1)
substring_of_a_number : answer (call "substring" (num 1 ∷ num 1 ∷ [])) ≡ Err XPTY0004
unfolding digits chars encode_utf8
substring_of_a_number = refl

-- substring-before("a-b-c", "-"), substring-before("abc", ""), substring-before("abc", "a"),
-- substring-before("abc", "d"), substring-before((), "a"), substring-before("日本", "本")
substring_before : answer (seq (call "substring-before" (txt "a-b-c" ∷ txt "-" ∷ []) ∷ call
    "substring-before" (txt "abc" ∷ txt "" ∷ []) ∷ call "substring-before" (txt "abc" ∷ txt "a" ∷
    []) ∷ call "substring-before" (txt "abc" ∷ txt "d" ∷ []) ∷ call "substring-before" (none ∷ txt
    "a" ∷ []) ∷ call "substring-before" (txt8 "日本" ∷ txt8 "本" ∷ []) ∷ [])) ≡ Ok (utf8
    "\"a\", \"\", \"\", \"\", \"\", \"日\"")
unfolding digits chars encode_utf8
substring_before = refl

-- substring-after("a-b-c", "-"), substring-after("abc", ""), substring-after("abc", "c"),
-- substring-after("abc", "d"), substring-after("", ()), substring-after("日本", "日")
substring_after : answer (seq (call "substring-after" (txt "a-b-c" ∷ txt "-" ∷ []) ∷ call
    "substring-after" (txt "abc" ∷ txt "" ∷ []) ∷ call "substring-after" (txt "abc" ∷ txt "c" ∷ [])
    ∷ call "substring-after" (txt "abc" ∷ txt "d" ∷ []) ∷ call "substring-after" (txt "" ∷ none ∷
    []) ∷ call "substring-after" (txt8 "日本" ∷ txt8 "日" ∷ []) ∷ [])) ≡ Ok (utf8
    "\"b-c\", \"abc\", \"\", \"\", \"\", \"本\"")
unfolding digits chars encode_utf8
substring_after = refl

-- substring-before("1", 1)
substring_before_a_number : answer (call "substring-before" (txt "1" ∷ num 1 ∷ [])) ≡ Err XPTY0004
unfolding digits chars encode_utf8
substring_before_a_number = refl

-- substring-after(("a", "b"), "a")
substring_after_two : answer (call "substring-after" (seq (txt "a" ∷ txt "b" ∷ []) ∷ txt "a" ∷ []))
    ≡ Err XPTY0004
unfolding digits chars encode_utf8
substring_after_two = refl

-- doc("aaaaaaaaaaaaaaaaaaaaaaaaaaaaaaaaaaaaaaaaaaaaaaaaaaaaaaaaaaaaaaaaaaaaaaaaaaaaaaaaaaaaaaaaaaaaaaaaaaaaaaaaaaaaaaaaaaaaaaaaaaaaaaaaaaaaaaaaaaaaaaaaaaaaaaaaaaaaaaaaaaaaaaaaaaaaaaaaaaaaaaaaaaaaaaaaaaaaaaaa")
address_of_200_bytes : answer (call "doc" (txt
    "aaaaaaaaaaaaaaaaaaaaaaaaaaaaaaaaaaaaaaaaaaaaaaaaaaaaaaaaaaaaaaaaaaaaaaaaaaaaaaaaaaaaaaaaaaaaaaaaaaaaaaaaaaaaaaaaaaaaaaaaaaaaaaaaaaaaaaaaaaaaaaaaaaaaaaaaaaaaaaaaaaaaaaaaaaaaaaaaaaaaaaaaaaaaaaaaaaaaaaaa"
    ∷ [])) ≡ Err FODC0002
unfolding digits chars
address_of_200_bytes = refl

-- doc("aaaaaaaaaaaaaaaaaaaaaaaaaaaaaaaaaaaaaaaaaaaaaaaaaaaaaaaaaaaaaaaaaaaaaaaaaaaaaaaaaaaaaaaaaaaaaaaaaaaaaaaaaaaaaaaaaaaaaaaaaaaaaaaaaaaaaaaaaaaaaaaaaaaaaaaaaaaaaaaaaaaaaaaaaaaaaaaaaaaaaaaaaaaaaaaaaaaaaaaaa")
address_of_201_bytes : answer (call "doc" (txt
    "aaaaaaaaaaaaaaaaaaaaaaaaaaaaaaaaaaaaaaaaaaaaaaaaaaaaaaaaaaaaaaaaaaaaaaaaaaaaaaaaaaaaaaaaaaaaaaaaaaaaaaaaaaaaaaaaaaaaaaaaaaaaaaaaaaaaaaaaaaaaaaaaaaaaaaaaaaaaaaaaaaaaaaaaaaaaaaaaaaaaaaaaaaaaaaaaaaaaaaaaa"
    ∷ [])) ≡ Err FODC0005
unfolding digits chars
address_of_201_bytes = refl

-- doc-available("aZ09._/-"), doc("é")
address_characters : answer (seq (call "doc-available" (txt "aZ09._/-" ∷ []) ∷ call "doc" (txt8 "é"
    ∷ []) ∷ [])) ≡ Err FODC0005
unfolding digits chars encode_utf8
address_characters = refl

-- doc-available(xs:untypedAtomic("b"))
doc_available_of_untyped : answer (call "doc-available" (call_by (prefixed "xs" "untypedAtomic")
    (txt "b" ∷ []) ∷ [])) ≡ Ok (codes "true()")
unfolding digits chars
doc_available_of_untyped = refl
