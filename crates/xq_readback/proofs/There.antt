-- The marks of a printed result are there: each token is read where it stands.
use Rattle.std.proofs.Common.{◌≡◌, ℕ, true, false, IsTrue, List, [], ◌∷◌, ◌++◌, map, refl}
use Rattle.std.specs.Prelude.{codes}
use Rattle.std.specs.List.{list_all}
use Rattle.std.specs.Str.{chars}
use Rattle.std.proofs.lemmas.Bool.{and_parts, false≢true}
use Rattle.xq_atoms.specs.Text.{Text}
use Rattle.xq_atoms.specs.Characters.{is_char, is_name, is_name_start, is_name_char}
use Rattle.xq_lexer.specs.declared.tokens.Symbol.TheVariants as s
use Rattle.xq_lexer.specs.Spelling.{symbol, IsName}
use Rattle.xq_trees.specs.declared.Kind.{Kind}
use Rattle.xq_trees.specs.declared.Kind.TheVariants as kind
use Rattle.xq_trees.specs.Names.{are_characters, is_empty, is_attribute_name, is_comment, is_target, is_instruction}
use Rattle.xq_trees.specs.Forest.{Forest, end, node, tops, EachNode}
use Rattle.xq_trees.specs.Tree.{Label, is_content, is_legal}
use Rattle.xq_meaning.specs.Content.{label}
use Rattle.xq_readback.proofs.Contents.{parts_of}
use Rattle.xq_readback.proofs.Strings.{literal, piece, are_pieces}
use Rattle.xq_readback.proofs.Marks.{Mark, marks_text, IsThere, AreThere, spaced_name, brace_there, close_there, comma_there, string_there}
use Rattle.xq_readback.proofs.Printing.{opening_marks, comma_marks, node_marks}

-- the words are names
element_is : IsName (codes "element")
unfolding is_name_start is_name_char
element_is = refl

attribute_is : IsName (codes "attribute")
unfolding is_name_start is_name_char
attribute_is = refl

document_is : IsName (codes "document")
unfolding is_name_start is_name_char
document_is = refl

text_is : IsName (codes "text")
unfolding is_name_start is_name_char
text_is = refl

comment_is : IsName (codes "comment")
unfolding is_name_start is_name_char
comment_is = refl

instruction_is : IsName (codes "processing-instruction")
unfolding is_name_start is_name_char
instruction_is = refl

-- a literal before a closing brace
closed_literal : (v : Text) (t : List ℕ) → list_all is_char (chars v) ≡ true → IsThere (literal (chars v)) (125 ∷ t)
closed_literal v t h = string_there (map piece (chars v)) (125 ∷ t) (are_pieces (chars v) h) refl

abbrev closing : List Mark → List Mark
closing rest = (symbol s.CloseBrace, false) ∷ rest

-- what opens a node is there before what is below it
opening_there : (k : Kind) (n v : Text) (below : Forest Label) (rest : List Mark) → is_legal k n v ≡ true → is_content (label k n v) (tops below) ≡ true
    → AreThere (node_marks [] below (closing rest)) → AreThere (opening_marks k n v ++ node_marks [] below (closing rest))
opening_there kind.Document n v below rest legal c inner = (spaced_name (codes "document") _ document_is, (brace_there _, inner))
opening_there kind.Element n v below rest legal c inner =
    (spaced_name (codes "element") _ element_is, (spaced_name (chars n) _ (and_parts (is_name (chars n)) (is_empty v) legal).0, (brace_there _, inner)))
opening_there kind.Attribute n v end rest legal c inner =
    let p = and_parts (is_attribute_name n) (are_characters v) legal in
    (spaced_name (codes "attribute") _ attribute_is, (spaced_name (chars n) _ (and_parts (is_name (chars n)) _ p.0).0, (brace_there _, (closed_literal v (marks_text rest) p.1, inner))))
opening_there kind.Attribute n v (node b k r) rest legal c inner = absurd (false≢true (parts_of (label kind.Attribute n v) b (tops r) c).stands)
opening_there kind.Text n v end rest legal c inner =
    (spaced_name (codes "text") _ text_is, (brace_there _, (closed_literal v (marks_text rest) (and_parts (is_empty n) (are_characters v) legal).1, inner)))
opening_there kind.Text n v (node b k r) rest legal c inner = absurd (false≢true (parts_of (label kind.Text n v) b (tops r) c).stands)
opening_there kind.Comment n v end rest legal c inner =
    (spaced_name (codes "comment") _ comment_is, (brace_there _, (closed_literal v (marks_text rest) (and_parts (are_characters v) _ (and_parts (is_empty n) (is_comment v) legal).1).0, inner)))
opening_there kind.Comment n v (node b k r) rest legal c inner = absurd (false≢true (parts_of (label kind.Comment n v) b (tops r) c).stands)
opening_there kind.ProcessingInstruction n v end rest legal c inner =
    let p = and_parts (is_target n) (is_instruction v) legal in
    (spaced_name (codes "processing-instruction") _ instruction_is, (spaced_name (chars n) _ (and_parts (is_name (chars n)) _ p.0).0, (brace_there _, (closed_literal v (marks_text rest) (and_parts (are_characters v) _ p.1).0, inner))))
opening_there kind.ProcessingInstruction n v (node b k r) rest legal c inner = absurd (false≢true (parts_of (label kind.ProcessingInstruction n v) b (tops r) c).stands)

abbrev AreLegal : Forest Label → Type 0
AreLegal f = EachNode (λ a below. IsTrue (is_legal a.kind a.name a.value)) f

abbrev AreShaped : Forest Label → Type 0
AreShaped f = EachNode (λ a below. IsTrue (is_content a below)) f

-- nodes side by side, the first with nothing or with a comma in front of it
pub record NodesThere (f : Forest Label) (after : List Mark) : Type 0 where
  pub first : AreThere (node_marks [] f after)
  pub others : AreThere (node_marks comma_marks f after)

-- the marks of nodes are there
pub nodes_there : (f : Forest Label) → AreLegal f → AreShaped f → (after : List Mark) → AreThere after → NodesThere f after
nodes_there end legal shaped after are = record { first = are; others = are }
nodes_there (node a below beside) legal shaped after are =
    let more = nodes_there beside legal.1.1 shaped.1.1 after are in
    let rest : List Mark = node_marks comma_marks beside after in
    let inner = nodes_there below legal.1.0 shaped.1.0 (closing rest) (close_there _, more.others) in
    let one = opening_there a.kind a.name a.value below rest legal.0 shaped.0 inner.first in
    record { first = one; others = (comma_there _, one) }
