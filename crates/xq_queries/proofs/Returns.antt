-- A printed result has no carriage return, so its line ends are read as they are.
use Rattle.std.proofs.Common.{◌≡◌, ℕ, suc, ◌/◌, ◌<◌, ◌^◌, Bool, true, false, not, IsTrue, List, [], ◌∷◌, ◌++◌, map, refl, ap, ◌∙◌, arith, ℤ, pos, negsuc}
use Rattle.std.specs.Prelude.{IsUtf8, codes, ◌==◌, if◌then◌else◌, decimal as decimal_digits}
use Rattle.std.specs.Fmt.{signed_decimal}
use Rattle.std.specs.Ordering.{int_eq}
use Rattle.std.specs.List.{list_all}
use Rattle.std.specs.Str.{chars}
use Rattle.std.proofs.lemmas.Bool.{and_parts}
use Rattle.std.proofs.lemmas.Bool.Decides.{nat_tests}
use Rattle.std.proofs.lemmas.List.Folds.{list_all-append}
use Rattle.xq_atoms.specs.Text.{Text}
use Rattle.xq_atoms.specs.Atom.{Atomic, Integer, Decimal, String, Boolean, Untyped, is_integer}
use Rattle.xq_atoms.specs.Cast.{fraction_text}
use Rattle.xq_atoms.specs.Print.{quoted_character, escaped, quoted, at_least_zero, print_atomic}
use Rattle.xq_atoms.proofs.ReadBack.{is_whole-decimal}
use Rattle.xq_atoms.specs.Characters.{is_digit, is_name}
use Rattle.xq_readback.proofs.Visible.{visible}
use Rattle.xq_trees.specs.declared.Kind.{Kind}
use Rattle.xq_trees.specs.declared.Kind.TheVariants as kind
use Rattle.xq_trees.specs.Names.{are_characters, is_empty, is_attribute_name, is_target, is_instruction}
use Rattle.xq_trees.specs.Forest.{Forest, end, node, EachNode}
use Rattle.xq_trees.specs.Tree.{Label, Tree, nodes, is_legal, IsText}
use Rattle.xq_trees.specs.Print.{opening, listed, comma}
use Rattle.xq_meaning.specs.Items.{Item, Node, Atom, tree_below}
use Rattle.xq_meaning.specs.Texts.{joined}
use Rattle.xq_meaning.specs.Print.{print_item, print_items}
use Rattle.xq_meaning.specs.Content.{label}
use Rattle.xq_queries.specs.Texts.{line_ends_after, with_line_feeds}
use Rattle.xq_readback.specs.Quoted.{least}
use Rattle.xq_meaning.specs.Printable.{IsValue, ArePrintable}
use Rattle.xq_readback.proofs.Names.{all_visible, not-false}
use Rattle.xq_readback.proofs.Atoms.{below_63, below_least, below_decimal, above_decimal, fraction_is, whole_digits}
use Rattle.xq_readback.proofs.Decimals.{print-pos, print-minus}

abbrev plain : ℕ → Bool
plain b = not (b == 13)

abbrev pub IsPlain : Text → Type 0
IsPlain t = list_all plain t ≡ true

both : (s t : Text) → IsPlain s → IsPlain t → IsPlain (s ++ t)
both s t p q = list_all-append plain s t ∙ rw (p, q) refl

pub plain_lines : (t : Text) → IsPlain t → with_line_feeds t ≡ t
plain_lines [] h = refl
plain_lines (b ∷ t) h =
    let p = and_parts (plain b) (list_all plain t) h in
    ap (λ c. if c then 10 ∷ line_ends_after true t else b ∷ with_line_feeds t) (not-false (b == 13) p.0) ∙ ap (λ (u : Text). b ∷ u) (plain_lines t p.1)

character_plain : (b : ℕ) (quote amp return : Bool) → (b == 13) ≡ return → IsPlain (if quote then codes "\"\"" else if amp then codes "&amp;" else if return then codes "&#xD;" else b ∷ [])
character_plain b true amp return e = refl
character_plain b false true return e = refl
character_plain b false false true e = refl
character_plain b false false false e = rw e refl

escaped_plain : (v : Text) → IsPlain (escaped v)
escaped_plain [] = refl
escaped_plain (b ∷ v) = both (quoted_character b) (escaped v) (character_plain b (b == 34) (b == 38) (b == 13) refl) (escaped_plain v)

quoted_plain : (v : Text) → IsPlain (quoted v)
quoted_plain v = both (codes "\"" ++ escaped v) (codes "\"") (both (codes "\"") (escaped v) refl (escaped_plain v)) refl

visible_plain : (b : ℕ) → visible b ≡ true → plain b ≡ true
visible_plain b h = grind (arith, nat_tests)

digit_plain : (b : ℕ) → is_digit b ≡ true → plain b ≡ true
digit_plain b h = grind (arith, nat_tests)

weaker : (p : ℕ → Bool) → ((b : ℕ) → p b ≡ true → plain b ≡ true) → (t : Text) → list_all p t ≡ true → IsPlain t
weaker p f [] h = refl
weaker p f (b ∷ t) h = let q = and_parts (p b) (list_all p t) h in rw (f b q.0, weaker p f t q.1) refl

name_plain : (n : Text) → IsUtf8 n → is_name (chars n) ≡ true → IsPlain n
name_plain n text h = weaker visible visible_plain n (all_visible n text h)

-- ---- nodes

headed : (word n c : Text) → IsPlain word → IsPlain n → IsPlain c → IsPlain (word ++ ((n ++ codes " {") ++ c))
headed word n c p q r = both word ((n ++ codes " {") ++ c) p (both (n ++ codes " {") c (both n (codes " {") q refl) r)

opening_plain : (k : Kind) (n v : Text) → IsUtf8 n → is_legal k n v ≡ true → IsPlain (opening (label k n v))
opening_plain kind.Document n v text h = refl
opening_plain kind.Element n v text h = headed (codes "element ") n [] refl (name_plain n text (and_parts (is_name (chars n)) (is_empty v) h).0) refl
opening_plain kind.Attribute n v text h =
    headed (codes "attribute ") n (quoted v) refl (name_plain n text (and_parts (is_name (chars n)) _ (and_parts (is_attribute_name n) (are_characters v) h).0).0) (quoted_plain v)
opening_plain kind.Text n v text h = both (codes "text {") (quoted v) refl (quoted_plain v)
opening_plain kind.Comment n v text h = both (codes "comment {") (quoted v) refl (quoted_plain v)
opening_plain kind.ProcessingInstruction n v text h =
    headed (codes "processing-instruction ") n (quoted v) refl (name_plain n text (and_parts (is_name (chars n)) _ (and_parts (is_target n) (is_instruction v) h).0).0) (quoted_plain v)

nodes_plain : (before : Text) → IsPlain before → (f : Forest Label) → EachNode (λ a below. IsText a) f → EachNode (λ a below. IsTrue (is_legal a.kind a.name a.value)) f → IsPlain (listed before f)
nodes_plain before p end texts legal = refl
nodes_plain before p (node a below beside) texts legal =
    both before (opening a ++ (listed [] below ++ 125 ∷ listed comma beside)) p
    (both (opening a) (listed [] below ++ 125 ∷ listed comma beside) (opening_plain a.kind a.name a.value texts.0.0 legal.0)
    (both (listed [] below) (125 ∷ listed comma beside) (nodes_plain [] refl below texts.1.0 legal.1.0) (nodes_plain comma refl beside texts.1.1 legal.1.1)))

-- ---- atomic values

digits_plain : (k : ℕ) → k < 2 ^ 64 → IsPlain (decimal_digits k)
digits_plain k small = weaker is_digit digit_plain (decimal_digits k) (whole_digits (decimal_digits k) (is_whole-decimal k small))

integer_plain : (n : ℤ) (b : Bool) → int_eq n least ≡ b → is_integer n ≡ true → IsPlain (if b then codes "xs:integer(\"-9223372036854775808\")" else signed_decimal n)
integer_plain n true e h = refl
integer_plain (pos k) false e h = digits_plain k (let small = below_63 k h in omega (arith, small))
integer_plain (negsuc k) false e h = digits_plain (suc k) (let small = below_least k h e in omega (arith, small))

printed_plain : (n : ℕ) → n < 10000000000000000000000000 → IsPlain (decimal_digits (n / 1000000) ++ 46 ∷ at_least_zero (fraction_text n))
printed_plain n small =
    both (decimal_digits (n / 1000000)) (46 ∷ at_least_zero (fraction_text n)) (digits_plain (n / 1000000) (omega (arith, small))) (weaker is_digit digit_plain (at_least_zero (fraction_text n)) (fraction_is n))

atom_plain : (a : Atomic) → IsValue a → IsPlain (print_atomic a)
atom_plain (Integer n) h = integer_plain n (int_eq n least) refl h
atom_plain (Decimal (pos k)) h = ap (list_all plain) (print-pos k) ∙ printed_plain k (below_decimal k h)
atom_plain (Decimal (negsuc k)) h = ap (list_all plain) (print-minus k) ∙ printed_plain (suc k) (above_decimal k h)
atom_plain (String t) h = quoted_plain t
atom_plain (Boolean true) h = refl
atom_plain (Boolean false) h = refl
atom_plain (Untyped t) h = both (codes "xs:untypedAtomic(" ++ quoted t) (codes ")") (both (codes "xs:untypedAtomic(") (quoted t) refl (quoted_plain t)) refl

-- ---- items

item_plain : (trees : List Tree) (x : Item) (xs : List Item) → ArePrintable trees (x ∷ xs) → IsPlain (print_item trees x)
item_plain trees (Atom a) xs are = atom_plain a are.0
item_plain trees (Node p) xs are = nodes_plain [] refl (nodes (tree_below trees p)) are.0.texts are.0.legal

joined_plain : (trees : List Tree) (x : Item) (xs : List Item) → ArePrintable trees (x ∷ xs) → IsPlain (joined (codes ", ") (map (print_item trees) (x ∷ xs)))
joined_plain trees x [] are = item_plain trees x [] are
joined_plain trees x (y ∷ ys) are =
    both (print_item trees x ++ codes ", ") (joined (codes ", ") (map (print_item trees) (y ∷ ys)))
    (both (print_item trees x) (codes ", ") (item_plain trees x (y ∷ ys) are) refl) (joined_plain trees y ys are.1)

pub items_plain : (trees : List Tree) (xs : List Item) → ArePrintable trees xs → IsPlain (print_items trees xs)
items_plain trees [] are = refl
items_plain trees (x ∷ xs) are = joined_plain trees x xs are
