-- The tokens of a printed result derive its quoted expression.
use Rattle.std.proofs.Common.{◌≡◌, ℕ, zero, suc, Bool, true, false, List, [], ◌∷◌, ◌++◌, map, Some, None, refl, inl, inr, ℤ, pos}
use Rattle.std.specs.Prelude.{IsTrue, codes, int_lt, nat_abs, if◌then◌else◌}
use Rattle.std.specs.Ordering.{int_eq}
use Rattle.std.proofs.lemmas.Bool.{false≢true}
use Rattle.xq_atoms.specs.Text.{Text}
use Rattle.xq_atoms.specs.Atom.{Atomic, Integer, Decimal, String, Boolean, Untyped}
use Rattle.xq_lexer.specs.Lexeme.{Lex, int, dec, str, symbol}
use Rattle.xq_lexer.specs.declared.tokens.Symbol.TheVariants as s
use Rattle.xq_expressions.specs.declared.names.QName.{QName}
use Rattle.xq_expressions.specs.declared.expressions.Expr.{Expr}
use Rattle.xq_expressions.specs.declared.expressions.Expr.TheVariants as e
use Rattle.xq_expressions.specs.declared.expressions.Step.TheVariants as step
use Rattle.xq_expressions.specs.declared.operators.Sign.{Sign}
use Rattle.xq_expressions.specs.declared.operators.Sign.TheVariants as sign
use Rattle.xq_expressions.specs.declared.operators.NamedNode.TheVariants as named
use Rattle.xq_expressions.specs.declared.operators.UnnamedNode.TheVariants as unnamed
use Rattle.xq_parser.specs.Look.{Tokens, word, lookup, same, same_symbol}
use Rattle.xq_parser.specs.Rel.{Rel, Many, OneOf, ◌▹◌, ◌∣◌, empty}
use Rattle.xq_parser.specs.Grammar as g
use Rattle.xq_trees.specs.declared.Kind.{Kind}
use Rattle.xq_trees.specs.declared.Kind.TheVariants as kind
use Rattle.xq_trees.specs.Forest.{Forest, end, node, tops, EachNode, IsWithinHeight}
use Rattle.xq_trees.specs.Tree.{Label, Tree, is_content}
use Rattle.xq_meaning.specs.Items.{Item, Node, Atom, tree_below}
use Rattle.xq_meaning.specs.Content.{label}
use Rattle.xq_readback.specs.Quoted.{cast, least, with_sign, quoted_atomic, whole, written, made, quoted_nodes, quoted_item, quoted_items, in_parentheses, cast_tokens, sign_tokens, atomic_tokens, opening_tokens, node_tokens, item_tokens, more_tokens, items_tokens}
use Rattle.xq_meaning.specs.Printable.{ArePrintable}
use Rattle.xq_readback.proofs.Contents.{parts_of}

-- ---- from a primary expression up to a single one

-- a primary expression alone is a relative path
alone : (x : Expr) → g.relative (g.primary_step (x, []), []) ≡ x
alone x = rw (step.outs-Primary x []) refl

module _ (S : Rel Expr) where
  path : (ts us : Tokens) (x : Expr) → g.Primary S ts x us → g.Path S ts x us
  path ts us x p = inr (inr (inr ((g.primary_step (x, []), []), (us, inr ((x, []), (us, p, refl), refl), refl), alone x)))

  map_of : (ts us : Tokens) (x : Expr) → g.Primary S ts x us → g.Map S ts x us
  map_of ts us x p = ((x, []), (us, path ts us x p, refl), refl)

  unary : (signs : List Sign) (ts mid us : Tokens) (x : Expr) → Many (OneOf g.signs) ts signs mid → g.Primary S mid x us → g.Unary S ts (g.signed (signs, x)) us
  unary signs ts mid us x m p = ((signs, x), (mid, m, map_of mid us x p), refl)

  arrow : (ts us : Tokens) (y : Expr) → g.Unary S ts y us → g.Arrow S ts y us
  arrow ts us y u = ((y, []), (us, u, refl), refl)

  sum : (ts us : Tokens) (y : Expr) → g.Unary S ts y us → g.Sum S ts y us
  sum ts us y u = ((y, []), (us, ((y, []), (us, ((y, []), (us, ((y, []), (us, arrow ts us y u, refl), refl), refl), refl), refl), refl), refl), refl)

  any_of : (ts us : Tokens) (y : Expr) → g.Sum S ts y us → g.Any S ts y us
  any_of ts us y u = inr (inr (inr ((y, []), (us, ((y, []), (us, ((y, None), (us, ((y, []), (us, ((y, None), (us, u, refl), refl), refl), refl), refl), refl), refl), refl), refl), refl)))

  -- from a primary expression with signs up to a single one
  pub signed : (signs : List Sign) (ts mid us : Tokens) (x : Expr) → Many (OneOf g.signs) ts signs mid → g.Primary S mid x us → g.Any S ts (g.signed (signs, x)) us
  signed signs ts mid us x m p = any_of ts us (g.signed (signs, x)) (sum ts us (g.signed (signs, x)) (unary signs ts mid us x m p))

  pub primary : (ts us : Tokens) (x : Expr) → g.Primary S ts x us → g.Any S ts x us
  primary ts us x p = signed [] ts ts us x refl p

  -- ---- primary expressions

  pub text_primary : (v : Text) (us : Tokens) → g.Primary S (str v ∷ us) (e.Str v) us
  text_primary v us = inr (inr (inl (v, refl, refl)))

  pub int_primary : (n : ℤ) (us : Tokens) → g.Primary S (int n ∷ us) (e.Int n) us
  int_primary n us = inl (n, refl, refl)

  pub dec_primary : (m : ℤ) (us : Tokens) → g.Primary S (dec m ∷ us) (e.Dec m) us
  dec_primary m us = inr (inl (m, refl, refl))

  pub none_primary : (us : Tokens) → g.Primary S (symbol s.OpenParenthesis ∷ symbol s.CloseParenthesis ∷ us) (e.Sequence []) us
  none_primary us = inr (inr (inr (inr (inl (symbol s.CloseParenthesis ∷ us, refl, inl (refl, refl))))))

  pub call_primary : (ts mid us : Tokens) (q : QName) (xs : List Expr) → g.CallName ts q mid → g.Arguments S mid xs us → g.Primary S ts (e.Call q xs) us
  call_primary ts mid us q xs name_is arguments_are = inr (inr (inr (inr (inr (inr (inl ((q, xs), (mid, name_is, arguments_are), refl)))))))

  pub make_primary : (ts us : Tokens) (x : Expr) → g.Make S ts x us → g.Primary S ts x us
  make_primary ts us x m = inr (inr (inr (inr (inr (inr (inr m))))))

  -- ---- wholes

  -- an expression and others are several, or it alone
  pub several : (x : Expr) (xs : List Expr) → g.several e.Sequence (x, xs) ≡ whole (x ∷ xs)
  several x [] = refl
  several x (y ∷ more) = refl

  pub one_whole : (ts us : Tokens) (x : Expr) → S ts x us → g.Whole S ts x us
  one_whole ts us x p = ((x, []), (us, p, refl), refl)

-- ---- words

is_element : lookup g.named_nodes (word "element") ≡ Some named.Element
unfolding lookup same
is_element = refl

is_attribute_word : lookup g.named_nodes (word "attribute") ≡ Some named.Attribute
unfolding lookup same
is_attribute_word = refl

is_document_word : lookup g.unnamed_nodes (word "document") ≡ Some unnamed.Document
unfolding lookup same
is_document_word = refl

is_text_word : lookup g.unnamed_nodes (word "text") ≡ Some unnamed.Text
unfolding lookup same
is_text_word = refl

is_comment_word : lookup g.unnamed_nodes (word "comment") ≡ Some unnamed.Comment
unfolding lookup same
is_comment_word = refl

is_minus : lookup g.signs (symbol s.Minus) ≡ Some sign.Minus
unfolding lookup same same_symbol
is_minus = refl

true_calls : lookup g.no_calls (word "true") ≡ None
unfolding lookup same
true_calls = refl

false_calls : lookup g.no_calls (word "false") ≡ None
unfolding lookup same
false_calls = refl

-- ---- constructors

-- what may stand between braces
abbrev Inner : ℕ → Rel Expr
Inner h = empty (e.Sequence []) ∣ g.Whole (g.Single h)

-- a string literal between braces
literal_inner : (h : ℕ) (v : Text) (us : Tokens) → Inner (suc h) (str v ∷ us) (e.Str v) us
literal_inner h v us = inr (one_whole (g.Single (suc h)) (str v ∷ us) us (e.Str v) (primary (g.Single h) (str v ∷ us) us (e.Str v) (text_primary (g.Single h) v us)))

-- the tokens of a node, by what its parts derive
node_single : (h : ℕ) (k : Kind) (n v : Text) (below : Forest Label) (us : Tokens) → is_content (label k n v) (tops below) ≡ true
    → Inner (suc h) (node_tokens [] below (symbol s.CloseBrace ∷ us)) (whole (quoted_nodes below)) (symbol s.CloseBrace ∷ us)
    → g.Single (suc (suc h)) (opening_tokens k n v ++ node_tokens [] below (symbol s.CloseBrace ∷ us)) (made k n v (quoted_nodes below)) us
node_single h kind.Document n v below us c inner =
    primary (g.Single (suc h)) _ us _ (make_primary (g.Single (suc h)) _ us _
    (inr (inr ((unnamed.Document, whole (quoted_nodes below)), (_, (word "document", refl, is_document_word), (_, refl, inner)), refl))))
node_single h kind.Element n v below us c inner =
    primary (g.Single (suc h)) _ us _ (make_primary (g.Single (suc h)) _ us _
    (inl ((named.Element, (written n, whole (quoted_nodes below))), (_, (word "element", refl, is_element), (_, inl (g.unprefixed n, inl (n, refl, refl), refl), (_, refl, inner))), refl)))
node_single h kind.Attribute n v end us c inner =
    primary (g.Single (suc h)) _ us _ (make_primary (g.Single (suc h)) _ us _
    (inl ((named.Attribute, (written n, e.Str v)), (_, (word "attribute", refl, is_attribute_word), (_, inl (g.unprefixed n, inl (n, refl, refl), refl), (_, refl, literal_inner h v (symbol s.CloseBrace ∷ us)))), refl)))
node_single h kind.Attribute n v (node b k r) us c inner = absurd (false≢true (parts_of (label kind.Attribute n v) b (tops r) c).stands)
node_single h kind.Text n v end us c inner =
    primary (g.Single (suc h)) _ us _ (make_primary (g.Single (suc h)) _ us _
    (inr (inr ((unnamed.Text, e.Str v), (_, (word "text", refl, is_text_word), (_, refl, literal_inner h v (symbol s.CloseBrace ∷ us))), refl))))
node_single h kind.Text n v (node b k r) us c inner = absurd (false≢true (parts_of (label kind.Text n v) b (tops r) c).stands)
node_single h kind.Comment n v end us c inner =
    primary (g.Single (suc h)) _ us _ (make_primary (g.Single (suc h)) _ us _
    (inr (inr ((unnamed.Comment, e.Str v), (_, (word "comment", refl, is_comment_word), (_, refl, literal_inner h v (symbol s.CloseBrace ∷ us))), refl))))
node_single h kind.Comment n v (node b k r) us c inner = absurd (false≢true (parts_of (label kind.Comment n v) b (tops r) c).stands)
node_single h kind.ProcessingInstruction n v end us c inner =
    primary (g.Single (suc h)) _ us _ (make_primary (g.Single (suc h)) _ us _
    (inr (inl ((written n, e.Str v), (_, refl, (_, inl (g.unprefixed n, (n, refl, refl), refl), (_, refl, literal_inner h v (symbol s.CloseBrace ∷ us)))), refl))))
node_single h kind.ProcessingInstruction n v (node b k r) us c inner = absurd (false≢true (parts_of (label kind.ProcessingInstruction n v) b (tops r) c).stands)

-- ---- nodes side by side

abbrev AreShaped : Forest Label → Type 0
AreShaped f = EachNode (λ a below. IsTrue (is_content a below)) f

abbrev comma : Tokens
comma = symbol s.Comma ∷ []

-- nodes after an opening brace, and after other nodes
pub record NodesDerive (h : ℕ) (f : Forest Label) (us : Tokens) : Type 0 where
  pub first : Inner (suc h) (node_tokens [] f us) (whole (quoted_nodes f)) us
  pub others : Many (symbol s.Comma ▹ g.Single (suc h)) (node_tokens comma f us) (quoted_nodes f) us

-- nodes within a height derive at the depth above it
nodes_derive : (h : ℕ) (f : Forest Label) → IsWithinHeight h f → AreShaped f → (us : Tokens) → NodesDerive h f us
nodes_derive h end high shaped us = record { first = inl (refl, refl); others = refl }
nodes_derive zero (node a below beside) high shaped us = absurd high
nodes_derive (suc h) (node a below beside) high shaped us =
    let more = nodes_derive (suc h) beside high.1 shaped.1.1 us in
    let rest : Tokens = node_tokens comma beside us in
    let inner = nodes_derive h below high.0 shaped.1.0 (symbol s.CloseBrace ∷ rest) in
    let one = node_single h a.kind a.name a.value below rest shaped.0 inner.first in
    let x : Expr = made a.kind a.name a.value (quoted_nodes below) in
    record {
      first = inr ((x, quoted_nodes beside), (rest, one, more.others), several (g.Single (suc (suc h))) x (quoted_nodes beside));
      others = (rest, (_, refl, one), more.others);
    }

-- ---- atomic values

pub text_single : (h : ℕ) (v : Text) (us : Tokens) → g.Single (suc h) (str v ∷ us) (e.Str v) us
text_single h v us = primary (g.Single h) (str v ∷ us) us (e.Str v) (text_primary (g.Single h) v us)

cast_single : (h : ℕ) (n v : Text) (us : Tokens) → g.Single (suc (suc h)) (cast_tokens n v ++ us) (cast n v) us
cast_single h n v us =
    primary (g.Single (suc h)) _ us _ (call_primary (g.Single (suc h)) _ (in_parentheses (str v ∷ []) ++ us) us (g.with_prefix (codes "xs") n) (e.Str v ∷ [])
    (inr (codes "xs", n, refl, refl)) (_, refl, inr ((e.Str v, []), (symbol s.CloseParenthesis ∷ us, text_single h v (symbol s.CloseParenthesis ∷ us), refl), refl)))

truth_single : (h : ℕ) (b : Bool) (us : Tokens) → g.Single (suc h) (atomic_tokens (Boolean b) ++ us) (quoted_atomic (Boolean b)) us
truth_single h true us =
    primary (g.Single h) _ us _ (call_primary (g.Single h) _ (in_parentheses [] ++ us) us (g.unprefixed (codes "true")) []
    (inl (codes "true", (refl, true_calls), refl)) (_, refl, inl (refl, refl)))
truth_single h false us =
    primary (g.Single h) _ us _ (call_primary (g.Single h) _ (in_parentheses [] ++ us) us (g.unprefixed (codes "false")) []
    (inl (codes "false", (refl, false_calls), refl)) (_, refl, inl (refl, refl)))

-- a literal, with a minus or without
signed_single : (h : ℕ) (b : Bool) (t : Lex) (x : Expr) (us : Tokens) → g.Primary (g.Single h) (t ∷ us) x us → g.Single (suc h) (sign_tokens b t ++ us) (with_sign b x) us
signed_single h false t x us p = primary (g.Single h) (t ∷ us) us x p
signed_single h true t x us p = signed (g.Single h) (sign.Minus ∷ []) (symbol s.Minus ∷ t ∷ us) (t ∷ us) us x (t ∷ us, (symbol s.Minus, refl, is_minus), refl) p

integer_single : (h : ℕ) (n : ℤ) (b : Bool) (us : Tokens)
    → g.Single (suc (suc h)) ((if b then cast_tokens (codes "integer") (codes "-9223372036854775808") else sign_tokens (int_lt n (pos 0)) (int (pos (nat_abs n)))) ++ us)
    (if b then cast (codes "integer") (codes "-9223372036854775808") else with_sign (int_lt n (pos 0)) (e.Int (pos (nat_abs n)))) us
integer_single h n true us = cast_single h (codes "integer") (codes "-9223372036854775808") us
integer_single h n false us = signed_single (suc h) (int_lt n (pos 0)) (int (pos (nat_abs n))) (e.Int (pos (nat_abs n))) us (int_primary (g.Single (suc h)) (pos (nat_abs n)) us)

-- atomic values, each at the depth of a cast
value_single : (h : ℕ) (a : Atomic) (us : Tokens) → g.Single (suc (suc h)) (atomic_tokens a ++ us) (quoted_atomic a) us
value_single h (Integer n) us = integer_single h n (int_eq n least) us
value_single h (Decimal m) us = signed_single (suc h) (int_lt m (pos 0)) (dec (pos (nat_abs m))) (e.Dec (pos (nat_abs m))) us (dec_primary (g.Single (suc h)) (pos (nat_abs m)) us)
value_single h (String t) us = text_single (suc h) t us
value_single h (Boolean b) us = truth_single (suc h) b us
value_single h (Untyped t) us = cast_single h (codes "untypedAtomic") t us

-- ---- items

-- singles nested so deep hold each item
abbrev Deep : Rel Expr
Deep = g.Single (suc (suc 100))

item_single : (trees : List Tree) (x : Item) (xs : List Item) → ArePrintable trees (x ∷ xs) → (us : Tokens) → Deep (item_tokens trees x us) (quoted_item trees x) us
item_single trees (Atom a) xs are us = value_single 100 a us
item_single trees (Node p) xs are us =
    let t : Tree = tree_below trees p in
    let inner = nodes_derive 100 t.below are.0.height.0 are.0.content.1.0 (symbol s.CloseBrace ∷ us) in
    node_single 100 t.root.kind t.root.name t.root.value t.below us are.0.content.0 inner.first

more_derive : (trees : List Tree) (xs : List Item) → ArePrintable trees xs → Many (symbol s.Comma ▹ Deep) (more_tokens trees xs) (map (quoted_item trees) xs) []
more_derive trees [] are = refl
more_derive trees (x ∷ xs) are = (more_tokens trees xs, (_, refl, item_single trees x xs are (more_tokens trees xs)), more_derive trees xs are.1)

-- the tokens of a result derive it
pub items_derive : (trees : List Tree) (xs : List Item) → ArePrintable trees xs → g.Derives (items_tokens trees xs) (quoted_items trees xs)
items_derive trees [] are = (suc (suc 100), one_whole Deep _ [] _ (primary (g.Single (suc 100)) _ [] _ (none_primary (g.Single (suc 100)) [])))
items_derive trees (x ∷ xs) are =
    (suc (suc 100), ((quoted_item trees x, map (quoted_item trees) xs), (more_tokens trees xs, item_single trees x xs are (more_tokens trees xs), more_derive trees xs are.1), several Deep (quoted_item trees x) (map (quoted_item trees) xs)))
