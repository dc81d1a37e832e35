-- A printed result as marks: tokens, and where a space stands after one.
use Rattle.std.proofs.Common.{◌≡◌, ℕ, true, false, List, [], ◌∷◌, ◌++◌, refl, sym, ap, ap₂, ◌∙◌, append_assoc}
use Rattle.std.specs.Prelude.{IsUtf8, codes, encode_utf8_all, encode_utf8}
use Rattle.std.specs.Str.{chars}
use Rattle.std.proofs.lemmas.List.{append-nil}
use Rattle.std.proofs.lemmas.Str.{encodes-append, encodes-chars}
use Rattle.xq_atoms.specs.Print.{quoted}
use Rattle.xq_atoms.specs.Text.{Text}
use Rattle.xq_lexer.specs.Lexeme as l
use Rattle.xq_lexer.specs.Lexeme.{Lex}
use Rattle.xq_lexer.specs.declared.tokens.Symbol.TheVariants as s
use Rattle.xq_lexer.specs.Spelling.{name, symbol, form_text, form_lex}
use Rattle.xq_parser.specs.Look.{word}
use Rattle.xq_trees.specs.declared.Kind.{Kind}
use Rattle.xq_trees.specs.declared.Kind.TheVariants as kind
use Rattle.xq_trees.specs.Forest.{Forest, end, node, EachNode}
use Rattle.xq_trees.specs.Tree.{Label, IsText}
use Rattle.xq_trees.specs.Print.{opening, listed, comma}
use Rattle.xq_meaning.specs.Content.{label}
use Rattle.xq_readback.specs.Quoted.{opening_tokens, node_tokens}
use Rattle.xq_readback.proofs.Strings.{literal, literal-bytes, content_chars-pieces}
use Rattle.xq_readback.proofs.Marks.{Mark, gap, marks_text, marks_lexes}

-- the marks of what stands at a node before its attributes and children
abbrev pub opening_marks : Kind → Text → Text → List Mark
opening_marks kind.Document n v = (name (codes "document"), true) ∷ (symbol s.OpenBrace, false) ∷ []
opening_marks kind.Element n v = (name (codes "element"), true) ∷ (name (chars n), true) ∷ (symbol s.OpenBrace, false) ∷ []
opening_marks kind.Attribute n v =
    (name (codes "attribute"), true) ∷ (name (chars n), true) ∷ (symbol s.OpenBrace, false) ∷ (literal (chars v), false) ∷ []
opening_marks kind.Text n v = (name (codes "text"), true) ∷ (symbol s.OpenBrace, false) ∷ (literal (chars v), false) ∷ []
opening_marks kind.Comment n v = (name (codes "comment"), true) ∷ (symbol s.OpenBrace, false) ∷ (literal (chars v), false) ∷ []
opening_marks kind.ProcessingInstruction n v =
    (name (codes "processing-instruction"), true) ∷ (name (chars n), true) ∷ (symbol s.OpenBrace, false) ∷ (literal (chars v), false) ∷ []

abbrev pub comma_marks : List Mark
comma_marks = (symbol s.Comma, true) ∷ []

-- nodes side by side, and more marks after them
abbrev pub node_marks : List Mark → Forest Label → List Mark → List Mark
node_marks before end after = after
node_marks before (node a below beside) after = before
    ++ (opening_marks a.kind a.name a.value ++ node_marks [] below ((symbol s.CloseBrace, false) ∷ node_marks comma_marks beside after))

-- ---- the tokens

lexes-append : (xs ys : List Mark) → marks_lexes (xs ++ ys) ≡ marks_lexes xs ++ marks_lexes ys
lexes-append [] ys = refl
lexes-append (x ∷ xs) ys = ap (λ (ls : List Lex). form_lex x.0 ∷ ls) (lexes-append xs ys)

pub literal_lex : (v : Text) → IsUtf8 v → form_lex (literal (chars v)) ≡ l.str v
literal_lex v text = ap l.str (ap encode_utf8_all (content_chars-pieces (chars v)) ∙ encodes-chars v text)

name_lex : (n : Text) → IsUtf8 n → form_lex (name (chars n)) ≡ l.name n
name_lex n text = ap l.name (encodes-chars n text)

-- the tokens of the opening marks
opening_lexes : (k : Kind) (n v : Text) → IsUtf8 n → IsUtf8 v → marks_lexes (opening_marks k n v) ≡ opening_tokens k n v
unfolding lib.Utf8.encode
opening_lexes kind.Document n v p q = refl
opening_lexes kind.Element n v p q = ap (λ x. word "element" ∷ x ∷ l.symbol s.OpenBrace ∷ []) (name_lex n p)
opening_lexes kind.Attribute n v p q = ap₂ (λ x y. word "attribute" ∷ x ∷ l.symbol s.OpenBrace ∷ y ∷ []) (name_lex n p) (literal_lex v q)
opening_lexes kind.Text n v p q = ap (λ y. word "text" ∷ l.symbol s.OpenBrace ∷ y ∷ []) (literal_lex v q)
opening_lexes kind.Comment n v p q = ap (λ y. word "comment" ∷ l.symbol s.OpenBrace ∷ y ∷ []) (literal_lex v q)
opening_lexes kind.ProcessingInstruction n v p q = ap₂ (λ x y. word "processing-instruction" ∷ x ∷ l.symbol s.OpenBrace ∷ y ∷ []) (name_lex n p) (literal_lex v q)

abbrev AreTexts : Forest Label → Type 0
AreTexts f = EachNode (λ a below. IsText a) f

-- the tokens of the marks of nodes are those of their expression
pub node_lexes : (before : List Mark) (f : Forest Label) (after : List Mark) → AreTexts f → marks_lexes (node_marks before f after) ≡ node_tokens (marks_lexes before) f (marks_lexes after)
node_lexes before end after t = refl
node_lexes before (node a below beside) after t =
    lexes-append before (opening_marks a.kind a.name a.value ++ node_marks [] below ((symbol s.CloseBrace, false) ∷ node_marks comma_marks beside after))
    ∙ ap (λ (ls : List Lex). marks_lexes before ++ ls)
    (lexes-append (opening_marks a.kind a.name a.value) (node_marks [] below ((symbol s.CloseBrace, false) ∷ node_marks comma_marks beside after))
    ∙ ap₂ (λ (x y : List Lex). x ++ y) (opening_lexes a.kind a.name a.value t.0.0 t.0.1)
    (node_lexes [] below ((symbol s.CloseBrace, false) ∷ node_marks comma_marks beside after) t.1.0
    ∙ ap (λ (ls : List Lex). node_tokens [] below (l.symbol s.CloseBrace ∷ ls)) (node_lexes comma_marks beside after t.1.1)))

-- ---- the bytes

abbrev pub marks_bytes : List Mark → Text
marks_bytes ms = encode_utf8_all (marks_text ms)

text-append : (xs ys : List Mark) → marks_text (xs ++ ys) ≡ marks_text xs ++ marks_text ys
text-append [] ys = refl
text-append (x ∷ xs) ys =
    ap (λ (t : List ℕ). form_text x.0 ++ (gap x.1 ++ t)) (text-append xs ys)
    ∙ ap (λ (t : List ℕ). form_text x.0 ++ t) (sym (append_assoc (gap x.1) (marks_text xs) (marks_text ys)))
    ∙ sym (append_assoc (form_text x.0) (gap x.1 ++ marks_text xs) (marks_text ys))

pub bytes-append : (xs ys : List Mark) → marks_bytes (xs ++ ys) ≡ marks_bytes xs ++ marks_bytes ys
bytes-append xs ys = ap encode_utf8_all (text-append xs ys) ∙ encodes-append (marks_text xs) (marks_text ys)

pub literal_bytes : (v : Text) → IsUtf8 v → encode_utf8_all (form_text (literal (chars v))) ≡ quoted v
literal_bytes v text = sym (literal-bytes (chars v)) ∙ ap quoted (encodes-chars v text)

-- a name, and what stands after it
named_bytes : (n : Text) (rest : List ℕ) → IsUtf8 n → encode_utf8_all (chars n ++ rest) ≡ n ++ encode_utf8_all rest
named_bytes n rest text = encodes-append (chars n) rest ∙ ap (λ (x : Text). x ++ encode_utf8_all rest) (encodes-chars n text)

pub valued_bytes : (v : Text) → IsUtf8 v → encode_utf8_all (form_text (literal (chars v)) ++ []) ≡ quoted v
valued_bytes v text = ap encode_utf8_all (append-nil (form_text (literal (chars v)))) ∙ literal_bytes v text

-- the text of the opening marks
opening_bytes : (k : Kind) (n v : Text) → IsUtf8 n → IsUtf8 v → marks_bytes (opening_marks k n v) ≡ opening (label k n v)
unfolding lib.Utf8.encode
opening_bytes kind.Document n v p q = refl
opening_bytes kind.Element n v p q = ap (λ (x : Text). codes "element " ++ x) (named_bytes n (codes " {") p ∙ sym (append-nil (n ++ codes " {")))
opening_bytes kind.Attribute n v p q =
    ap (λ (x : Text). codes "attribute " ++ x)
    (named_bytes n (32 ∷ 123 ∷ (form_text (literal (chars v)) ++ [])) p ∙ ap (λ (x : Text). n ++ (32 ∷ 123 ∷ x)) (valued_bytes v q) ∙ sym (append_assoc n (codes " {") (quoted v)))
opening_bytes kind.Text n v p q = ap (λ (x : Text). codes "text {" ++ x) (valued_bytes v q)
opening_bytes kind.Comment n v p q = ap (λ (x : Text). codes "comment {" ++ x) (valued_bytes v q)
opening_bytes kind.ProcessingInstruction n v p q =
    ap (λ (x : Text). codes "processing-instruction " ++ x)
    (named_bytes n (32 ∷ 123 ∷ (form_text (literal (chars v)) ++ [])) p ∙ ap (λ (x : Text). n ++ (32 ∷ 123 ∷ x)) (valued_bytes v q) ∙ sym (append_assoc n (codes " {") (quoted v)))

-- what is printed of nodes, with more after them
abbrev Before : List Mark → Text → Type 0
Before ms t = marks_bytes ms ≡ t

-- the text of the marks of nodes is their print
pub node_bytes : (before : List Mark) (text : Text) → Before before text → (f : Forest Label) (after : List Mark) → AreTexts f → marks_bytes (node_marks before f after) ≡ listed text f ++ marks_bytes after
unfolding lib.Utf8.encode
node_bytes before text is end after t = refl
node_bytes before text is (node a below beside) after t =
    let closed : List Mark = (symbol s.CloseBrace, false) ∷ node_marks comma_marks beside after in
    let inner : List Mark = node_marks [] below closed in
    let front : List Mark = opening_marks a.kind a.name a.value in
    let tail : marks_bytes closed ≡ 125 ∷ (listed comma beside ++ marks_bytes after) = ap (λ (x : Text). 125 ∷ x) (node_bytes comma_marks comma refl beside after t.1.1) in
    let middle : marks_bytes inner ≡ listed [] below ++ (125 ∷ (listed comma beside ++ marks_bytes after)) = node_bytes [] [] refl below closed t.1.0 ∙ ap (λ (x : Text). listed [] below ++ x) tail in
    bytes-append before (front ++ inner)
    ∙ ap₂ (λ (x y : Text). x ++ y) is (bytes-append front inner ∙ ap₂ (λ (x y : Text). x ++ y) (opening_bytes a.kind a.name a.value t.0.0 t.0.1) middle)
    ∙ ap (λ (x : Text). text ++ x) (ap (λ (x : Text). opening a ++ x) (sym (append_assoc (listed [] below) (125 ∷ listed comma beside) (marks_bytes after)))
    ∙ sym (append_assoc (opening a) (listed [] below ++ 125 ∷ listed comma beside) (marks_bytes after)))
    ∙ sym (append_assoc text (opening a ++ (listed [] below ++ 125 ∷ listed comma beside)) (marks_bytes after))
