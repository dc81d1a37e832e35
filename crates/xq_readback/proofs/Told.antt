-- The marks of a printed result: their tokens are those of its quoted expression, and their text is the print.
use Rattle.std.proofs.Common.{◌≡◌, ℕ, suc, ◌/◌, ◌<◌, ◌^◌, Bool, true, false, List, [], ◌∷◌, ◌++◌, length, map, Ok, Err, refl, sym, ap, ap₂, ◌∙◌, subst, arith, append_assoc, ℤ, pos, negsuc}
use Rattle.std.specs.Prelude.{IsUtf8, codes, encode_utf8_all, decimal as decimal_digits, if◌then◌else◌, nat_abs, nat_lt, int_lt}
use Rattle.std.specs.Fmt.{signed_decimal}
use Rattle.std.specs.Ordering.{int_eq}
use Rattle.std.specs.List.{list_all}
use Rattle.std.specs.Str.{chars}
use Rattle.std.proofs.lemmas.Bool.{false≢true}
use Rattle.std.proofs.lemmas.Fmt.{digits_value-decimal}
use Rattle.std.proofs.lemmas.List.{append-nil}
use Rattle.std.proofs.lemmas.Str.{encodes-append, chars_from_encodes}
use Rattle.xq_atoms.specs.declared.refusals.Code.{Code}
use Rattle.xq_atoms.specs.declared.refusals.Code.TheVariants.{FOAR0002, ProfDigits}
use Rattle.xq_atoms.specs.Judged.{Judged, only_if}
use Rattle.xq_atoms.specs.Text.{Text}
use Rattle.xq_atoms.specs.Atom.{Atomic, Integer, Decimal, String, Boolean, Untyped, is_integer}
use Rattle.xq_atoms.specs.Decimal.{is_decimal}
use Rattle.xq_atoms.specs.Literal.{millionths, fraction}
use Rattle.xq_atoms.specs.Cast.{fraction_text}
use Rattle.xq_atoms.specs.Print.{quoted, at_least_zero, print_decimal, print_atomic}
use Rattle.xq_atoms.proofs.TextLemmas.{digits_model}
use Rattle.xq_atoms.proofs.ReadBack.{is_whole-decimal}
use Rattle.xq_readback.proofs.Decimals.{printed, decimal_literal-printed, print-pos, print-minus}
use Rattle.xq_atoms.specs.Characters.{is_digit}
use Rattle.xq_lexer.specs.Lexeme as l
use Rattle.xq_lexer.specs.Lexeme.{Lex}
use Rattle.xq_lexer.specs.declared.tokens.Symbol.TheVariants as s
use Rattle.xq_lexer.specs.Literals.{integer, decimal, IsNumber}
use Rattle.xq_lexer.specs.Spelling.{symbol, form_text, form_lex, Spells}
use Rattle.xq_lexer.proofs.NumberLemmas.{number_encoded}
use Rattle.xq_trees.specs.Tree.{Tree, nodes}
use Rattle.xq_meaning.specs.Items.{Item, Node, Atom, tree_below}
use Rattle.xq_meaning.specs.Texts.{joined}
use Rattle.xq_meaning.specs.Print.{print_item, print_items}
use Rattle.xq_readback.specs.Quoted.{least, cast_tokens, sign_tokens, atomic_tokens, item_tokens, more_tokens, items_tokens}
use Rattle.xq_meaning.specs.Printable.{IsValue, ArePrintable}
use Rattle.xq_readback.specs.Readback.{PrintSpells}
use Rattle.xq_readback.proofs.Strings.{literal}
use Rattle.xq_readback.proofs.Marks.{Mark, marks_text, marks_lexes, marks_spell}
use Rattle.xq_readback.proofs.Printing.{literal_lex, literal_bytes, valued_bytes, node_lexes, node_bytes, marks_bytes, bytes-append}
use Rattle.xq_readback.proofs.Atoms.{cast_marks, integer_mark, decimal_mark, integer_marks, atomic_marks, below_63, below_least, below_decimal, above_decimal, fraction_is, whole_digits, first_digit}
use Rattle.xq_readback.proofs.Values.{is_below, is_not_below}
use Rattle.xq_readback.proofs.Spelled.{item_marks, more_marks, items_marks, items_there}

-- ---- the tokens of atomic values

cast_lexes : (n : Text) (cs : List ℕ) (v : Text) (ms : List Mark) → encode_utf8_all n ≡ n → form_lex (literal cs) ≡ l.str v → marks_lexes (cast_marks n cs ++ ms) ≡ cast_tokens n v ++ marks_lexes ms
unfolding lib.Utf8.encode
cast_lexes n cs v ms e f = ap₂ (λ (x : Text) (y : Lex). l.prefixed (codes "xs") x ∷ l.symbol s.OpenParenthesis ∷ y ∷ l.symbol s.CloseParenthesis ∷ marks_lexes ms) e f

untyped_word : encode_utf8_all (codes "untypedAtomic") ≡ codes "untypedAtomic"
unfolding lib.Utf8.encode
untyped_word = refl

integer_word : encode_utf8_all (codes "integer") ≡ codes "integer"
unfolding lib.Utf8.encode
integer_word = refl

least_lex : form_lex (literal (codes "-9223372036854775808")) ≡ l.str (codes "-9223372036854775808")
unfolding lib.Utf8.encode
least_lex = refl

int_lex : (k : ℕ) → k < 2 ^ 63 → form_lex (integer_mark k).0 ≡ l.int (pos k)
int_lex k small = ap (λ v. l.int (pos v)) (digits_value-decimal digits_model k (omega (arith, small)))

only_value : (b : Bool) (c : Code) (m k : ℤ) → only_if b c m ≡ Ok k → m ≡ k
only_value true c m k h = cc
only_value false c m k h = absurd cc

literal_value : (t : Text) (m : ℤ) (b : Bool) → ◌≡◌ {A = Judged ℤ} (if b then Err ProfDigits else only_if (is_decimal (pos (millionths t))) FOAR0002 (pos (millionths t))) (Ok m) → pos (millionths t) ≡ m
literal_value t m true h = absurd cc
literal_value t m false h = only_value (is_decimal (pos (millionths t))) FOAR0002 (pos (millionths t)) m h

dec_lex : (n : ℕ) → n < 10000000000000000000000000 → form_lex (decimal_mark n).0 ≡ l.dec (pos n)
dec_lex n small =
    let t : Text = decimal_digits (n / 1000000) ++ 46 ∷ at_least_zero (fraction_text n) in
    ap l.dec (literal_value t (pos n) (nat_lt 6 (length (fraction t))) (decimal_literal-printed n small))

integers_lexes : (n : ℤ) (b c : Bool) (ms : List Mark) → int_eq n least ≡ b → int_lt n (pos 0) ≡ c → is_integer n ≡ true
    → marks_lexes (integer_marks n b ++ ms) ≡ (if b then cast_tokens (codes "integer") (codes "-9223372036854775808") else sign_tokens c (l.int (pos (nat_abs n)))) ++ marks_lexes ms
integers_lexes n true c ms e i h = cast_lexes (codes "integer") (codes "-9223372036854775808") (codes "-9223372036854775808") ms integer_word least_lex
integers_lexes (pos k) false false ms e i h = ap (λ (x : Lex). x ∷ marks_lexes ms) (int_lex k (below_63 k h))
integers_lexes (pos k) false true ms e i h = absurd (false≢true (sym (is_not_below k) ∙ i))
integers_lexes (negsuc k) false true ms e i h = ap (λ (x : Lex). l.symbol s.Minus ∷ x ∷ marks_lexes ms) (int_lex (suc k) (below_least k h e))
integers_lexes (negsuc k) false false ms e i h = absurd (false≢true (sym i ∙ is_below k))

decimals_lexes : (m : ℤ) (c : Bool) (ms : List Mark) → int_lt m (pos 0) ≡ c → is_decimal m ≡ true → marks_lexes (atomic_marks (Decimal m) ++ ms) ≡ sign_tokens c (l.dec (pos (nat_abs m))) ++ marks_lexes ms
decimals_lexes (pos k) false ms i h = ap (λ (x : Lex). x ∷ marks_lexes ms) (dec_lex k (below_decimal k h))
decimals_lexes (pos k) true ms i h = absurd (false≢true (sym (is_not_below k) ∙ i))
decimals_lexes (negsuc k) true ms i h = ap (λ (x : Lex). l.symbol s.Minus ∷ x ∷ marks_lexes ms) (dec_lex (suc k) (above_decimal k h))
decimals_lexes (negsuc k) false ms i h = absurd (false≢true (sym i ∙ is_below k))

truth_lexes : (b : Bool) (ms : List Mark) → marks_lexes (atomic_marks (Boolean b) ++ ms) ≡ atomic_tokens (Boolean b) ++ marks_lexes ms
unfolding lib.Utf8.encode
truth_lexes true ms = refl
truth_lexes false ms = refl

-- each atomic value has its tokens
atom_lexes : (a : Atomic) (ms : List Mark) → IsValue a → marks_lexes (atomic_marks a ++ ms) ≡ atomic_tokens a ++ marks_lexes ms
atom_lexes (Integer n) ms h = integers_lexes n (int_eq n least) (int_lt n (pos 0)) ms refl refl h
atom_lexes (Decimal m) ms h = decimals_lexes m (int_lt m (pos 0)) ms refl h
atom_lexes (String t) ms h = ap (λ (x : Lex). x ∷ marks_lexes ms) (literal_lex t h.0)
atom_lexes (Boolean b) ms h = truth_lexes b ms
atom_lexes (Untyped t) ms h = cast_lexes (codes "untypedAtomic") (chars t) t ms untyped_word (literal_lex t h.0)

-- ---- the text of atomic values

is_number : (w : Text) → list_all is_digit w ≡ true → 0 < length w → IsNumber (integer w)
is_number w h some = (h, some)

some_digits : (w c' : Text) (c : ℕ) → w ≡ c ∷ c' → 0 < length w
some_digits w c' c e = let n = ap length e in omega (arith, n)

digits_bytes : (k : ℕ) → k < 2 ^ 63 → encode_utf8_all (decimal_digits k) ≡ decimal_digits k
digits_bytes k small =
    let is = is_whole-decimal k (omega (arith, small)) in
    let d = first_digit (decimal_digits k) is in
    number_encoded (integer (decimal_digits k)) (whole_digits (decimal_digits k) is, some_digits (decimal_digits k) d.1 d.0 d.2)

integers_bytes : (n : ℤ) (b : Bool) → int_eq n least ≡ b → is_integer n ≡ true → marks_bytes (integer_marks n b) ≡ (if b then codes "xs:integer(\"-9223372036854775808\")" else signed_decimal n)
unfolding lib.Utf8.encode
integers_bytes n true e h = refl
integers_bytes (pos k) false e h = ap encode_utf8_all (append-nil (decimal_digits k)) ∙ digits_bytes k (below_63 k h)
integers_bytes (negsuc k) false e h = ap (λ (x : Text). 45 ∷ x) (ap encode_utf8_all (append-nil (decimal_digits (suc k))) ∙ digits_bytes (suc k) (below_least k h e))

printed_bytes : (n : ℕ) → n < 10000000000000000000000000 → encode_utf8_all (printed n ++ []) ≡ printed n
printed_bytes n small =
    let w : Text = decimal_digits (n / 1000000) in
    let f : Text = at_least_zero (fraction_text n) in
    let is = is_whole-decimal (n / 1000000) (omega (arith, small)) in
    let d = first_digit w is in
    ap encode_utf8_all (append-nil (printed n))
    ∙ number_encoded (decimal w f) (whole_digits w is, fraction_is n, (let some = some_digits w d.1 d.0 d.2 in omega (arith, some)))

decimals_bytes : (m : ℤ) → is_decimal m ≡ true → marks_bytes (atomic_marks (Decimal m)) ≡ print_decimal m
unfolding lib.Utf8.encode
decimals_bytes (pos k) h = printed_bytes k (below_decimal k h) ∙ sym (print-pos k)
decimals_bytes (negsuc k) h = ap (λ (x : Text). 45 ∷ x) (printed_bytes (suc k) (above_decimal k h)) ∙ sym (print-minus k)

closed_bytes : (v : Text) → IsUtf8 v → encode_utf8_all (form_text (literal (chars v)) ++ 41 ∷ []) ≡ quoted v ++ codes ")"
unfolding lib.Utf8.encode
closed_bytes v text = encodes-append (form_text (literal (chars v))) (41 ∷ []) ∙ ap (λ (x : Text). x ++ codes ")") (literal_bytes v text)

untyped_bytes : (t : Text) → IsUtf8 t → marks_bytes (atomic_marks (Untyped t)) ≡ print_atomic (Untyped t)
unfolding lib.Utf8.encode
untyped_bytes t text = ap (λ (x : Text). codes "xs:untypedAtomic(" ++ x) (closed_bytes t text)

truth_bytes : (b : Bool) → marks_bytes (atomic_marks (Boolean b)) ≡ print_atomic (Boolean b)
unfolding lib.Utf8.encode
truth_bytes true = refl
truth_bytes false = refl

-- each atomic value has its print
atom_bytes : (a : Atomic) → IsValue a → marks_bytes (atomic_marks a) ≡ print_atomic a
atom_bytes (Integer n) h = integers_bytes n (int_eq n least) refl h
atom_bytes (Decimal m) h = decimals_bytes m h
atom_bytes (String t) h = valued_bytes t h.0
atom_bytes (Boolean b) h = truth_bytes b
atom_bytes (Untyped t) h = untyped_bytes t h.0

-- ---- items

item_lexes : (trees : List Tree) (x : Item) (xs : List Item) → ArePrintable trees (x ∷ xs) → (rest : List Mark) → marks_lexes (item_marks trees x rest) ≡ item_tokens trees x (marks_lexes rest)
item_lexes trees (Atom a) xs are rest = atom_lexes a rest are.0
item_lexes trees (Node p) xs are rest = node_lexes [] (nodes (tree_below trees p)) rest are.0.texts

more_lexes : (trees : List Tree) (xs : List Item) → ArePrintable trees xs → marks_lexes (more_marks trees xs) ≡ more_tokens trees xs
more_lexes trees [] are = refl
more_lexes trees (x ∷ xs) are =
    ap (λ (ls : List Lex). l.symbol s.Comma ∷ ls) (item_lexes trees x xs are (more_marks trees xs) ∙ ap (item_tokens trees x) (more_lexes trees xs are.1))

items_lexes : (trees : List Tree) (xs : List Item) → ArePrintable trees xs → marks_lexes (items_marks trees xs) ≡ items_tokens trees xs
items_lexes trees [] are = refl
items_lexes trees (x ∷ xs) are = item_lexes trees x xs are (more_marks trees xs) ∙ ap (item_tokens trees x) (more_lexes trees xs are.1)

item_bytes : (trees : List Tree) (x : Item) (xs : List Item) → ArePrintable trees (x ∷ xs) → (rest : List Mark) → marks_bytes (item_marks trees x rest) ≡ print_item trees x ++ marks_bytes rest
item_bytes trees (Atom a) xs are rest = bytes-append (atomic_marks a) rest ∙ ap (λ (t : Text). t ++ marks_bytes rest) (atom_bytes a are.0)
item_bytes trees (Node p) xs are rest = node_bytes [] [] refl (nodes (tree_below trees p)) rest are.0.texts

comma_bytes : (ms : List Mark) → marks_bytes ((symbol s.Comma, true) ∷ ms) ≡ codes ", " ++ marks_bytes ms
unfolding lib.Utf8.encode
comma_bytes ms = refl

tail_bytes : (trees : List Tree) (x : Item) (xs : List Item) → ArePrintable trees (x ∷ xs) → marks_bytes (item_marks trees x (more_marks trees xs)) ≡ joined (codes ", ") (map (print_item trees) (x ∷ xs))
tail_bytes trees x [] are = item_bytes trees x [] are [] ∙ append-nil (print_item trees x)
tail_bytes trees x (y ∷ ys) are =
    item_bytes trees x (y ∷ ys) are (more_marks trees (y ∷ ys))
    ∙ ap (λ (t : Text). print_item trees x ++ t) (comma_bytes (item_marks trees y (more_marks trees ys)) ∙ ap (λ (t : Text). codes ", " ++ t) (tail_bytes trees y ys are.1))
    ∙ sym (append_assoc (print_item trees x) (codes ", ") (joined (codes ", ") (map (print_item trees) (y ∷ ys))))

items_bytes : (trees : List Tree) (xs : List Item) → ArePrintable trees xs → marks_bytes (items_marks trees xs) ≡ print_items trees xs
unfolding lib.Utf8.encode
items_bytes trees [] are = refl
items_bytes trees (x ∷ xs) are = tail_bytes trees x xs are

-- ---- the law

spelled_as : (text print : List ℕ) (ls ms : List Lex) → text ≡ print → ls ≡ ms → Spells text ls → Spells print ms
spelled_as text print ls ms same are found = subst (λ (t : List ℕ). Spells t ms) same (subst (λ (l : List Lex). Spells text l) are found)

-- the law
pub print_spells : PrintSpells
print_spells = λ trees xs are text.
    spelled_as (marks_text (items_marks trees xs)) (chars (print_items trees xs)) (marks_lexes (items_marks trees xs)) (items_tokens trees xs)
    (chars_from_encodes (marks_text (items_marks trees xs)) (print_items trees xs) text (items_bytes trees xs are))
    (items_lexes trees xs are) (marks_spell (items_marks trees xs) (items_there trees xs are))
