-- The quoted expression of a result: what its printed form says, as an expression and as tokens
-- (XQuery 3.1, sections 3.1.1, 3.1.5, 3.5 and 3.9.3).
use Rattle.std.specs.Prelude.{◌^◌, ℤ, pos, neg_ℤ, nat_abs, int_lt, List, [], ◌∷◌, ◌++◌, map, Bool, codes, if◌then◌else◌}
use Rattle.std.specs.Ordering.{int_eq}
use Rattle.xq_atoms.specs.Text.{Text}
use Rattle.xq_atoms.specs.Atom.{Atomic, Integer, Decimal, String, Boolean, Untyped}
use Rattle.xq_lexer.specs.Lexeme.{Lex, name, prefixed, int, dec, str, symbol}
use Rattle.xq_lexer.specs.declared.tokens.Symbol.TheVariants as s
use Rattle.xq_expressions.specs.declared.expressions.Expr.{Expr}
use Rattle.xq_expressions.specs.declared.expressions.Expr.TheVariants as e
use Rattle.xq_expressions.specs.declared.expressions.ConstructorName.{ConstructorName}
use Rattle.xq_expressions.specs.declared.expressions.ConstructorName.TheVariants as constructor_name
use Rattle.xq_expressions.specs.declared.operators.NamedNode.TheVariants as named
use Rattle.xq_expressions.specs.declared.operators.UnnamedNode.TheVariants as unnamed
use Rattle.xq_expressions.specs.declared.operators.Sign.TheVariants.{Minus}
use Rattle.xq_parser.specs.Look.{Tokens, word}
use Rattle.xq_parser.specs.Grammar.{unprefixed, with_prefix}
use Rattle.xq_trees.specs.declared.Kind.{Kind}
use Rattle.xq_trees.specs.declared.Kind.TheVariants as kind
use Rattle.xq_trees.specs.Forest.{Forest, end, node}
use Rattle.xq_trees.specs.Tree.{Label, Tree, nodes}
use Rattle.xq_meaning.specs.Items.{Item, Node, Atom, tree_below}

-- # Expressions

-- the cast of a string literal
abbrev pub cast : Text → Text → Expr
cast type_name t = e.Call (with_prefix (codes "xs") type_name) (e.Str t ∷ [])

-- the integer whose literal, without its sign, would be out of range
abbrev pub least : ℤ
least = neg_ℤ (pos (2 ^ 63))

-- a literal with a minus before it where the number is below zero
abbrev pub with_sign : Bool → Expr → Expr
with_sign below_zero literal = if below_zero then e.Unary (Minus ∷ []) literal else literal

-- an integer
abbrev pub quoted_integer : ℤ → Expr
quoted_integer n = if int_eq n least then cast (codes "integer") (codes "-9223372036854775808")
    else with_sign (int_lt n (pos 0)) (e.Int (pos (nat_abs n)))

-- an atomic value
abbrev pub quoted_atomic : Atomic → Expr
quoted_atomic (Integer n) = quoted_integer n
quoted_atomic (Decimal m) = with_sign (int_lt m (pos 0)) (e.Dec (pos (nat_abs m)))
quoted_atomic (String t) = e.Str t
quoted_atomic (Boolean b) = e.Call (unprefixed (if b then codes "true" else codes "false")) []
quoted_atomic (Untyped t) = cast (codes "untypedAtomic") t

-- several expressions as one: `()` for none, one alone, and a sequence of two and more
abbrev pub whole : List Expr → Expr
whole [] = e.Sequence []
whole (x ∷ []) = x
whole (x ∷ y ∷ more) = e.Sequence (x ∷ y ∷ more)

-- a name that is written out
abbrev pub written : Text → ConstructorName
written n = constructor_name.Literal (unprefixed n)

-- the constructor of a node, with those of what is below it
abbrev pub made : Kind → Text → Text → List Expr → Expr
made kind.Document n value parts = e.Unnamed unnamed.Document (whole parts)
made kind.Element n value parts = e.Named named.Element (written n) (whole parts)
made kind.Attribute n value parts = e.Named named.Attribute (written n) (e.Str value)
made kind.Text n value parts = e.Unnamed unnamed.Text (e.Str value)
made kind.Comment n value parts = e.Unnamed unnamed.Comment (e.Str value)
made kind.ProcessingInstruction n value parts =
    e.Named named.ProcessingInstruction (written n) (e.Str value)

-- the constructors of nodes side by side
abbrev pub quoted_nodes : Forest Label → List Expr
quoted_nodes end = []
quoted_nodes (node a below beside) =
    made a.kind a.name a.value (quoted_nodes below) ∷ quoted_nodes beside

-- a tree
abbrev pub quoted_tree : Tree → Expr
quoted_tree t = made t.root.kind t.root.name t.root.value (quoted_nodes t.below)

-- an item
abbrev pub quoted_item : List Tree → Item → Expr
quoted_item trees (Node p) = quoted_tree (tree_below trees p)
quoted_item trees (Atom a) = quoted_atomic a

-- a result
abbrev pub quoted_items : List Tree → List Item → Expr
quoted_items trees xs = whole (map (quoted_item trees) xs)

-- # Tokens (appendix A.2)

-- what stands between parentheses
abbrev pub in_parentheses : Tokens → Tokens
in_parentheses ts = symbol s.OpenParenthesis ∷ ts ++ symbol s.CloseParenthesis ∷ []

-- the tokens of the cast of a string literal
abbrev pub cast_tokens : Text → Text → Tokens
cast_tokens type_name t = prefixed (codes "xs") type_name ∷ in_parentheses (str t ∷ [])

-- a literal with a minus before it where the number is below zero
abbrev pub sign_tokens : Bool → Lex → Tokens
sign_tokens below_zero literal =
    if below_zero then symbol s.Minus ∷ literal ∷ [] else literal ∷ []

-- an integer
abbrev pub integer_tokens : ℤ → Tokens
integer_tokens n = if int_eq n least
    then cast_tokens (codes "integer") (codes "-9223372036854775808")
    else sign_tokens (int_lt n (pos 0)) (int (pos (nat_abs n)))

-- an atomic value
abbrev pub atomic_tokens : Atomic → Tokens
atomic_tokens (Integer n) = integer_tokens n
atomic_tokens (Decimal m) = sign_tokens (int_lt m (pos 0)) (dec (pos (nat_abs m)))
atomic_tokens (String t) = str t ∷ []
atomic_tokens (Boolean b) = (if b then word "true" else word "false") ∷ in_parentheses []
atomic_tokens (Untyped t) = cast_tokens (codes "untypedAtomic") t

-- what stands at a node before its attributes and children
abbrev pub opening_tokens : Kind → Text → Text → Tokens
opening_tokens kind.Document n value = word "document" ∷ symbol s.OpenBrace ∷ []
opening_tokens kind.Element n value = word "element" ∷ name n ∷ symbol s.OpenBrace ∷ []
opening_tokens kind.Attribute n value =
    word "attribute" ∷ name n ∷ symbol s.OpenBrace ∷ str value ∷ []
opening_tokens kind.Text n value = word "text" ∷ symbol s.OpenBrace ∷ str value ∷ []
opening_tokens kind.Comment n value = word "comment" ∷ symbol s.OpenBrace ∷ str value ∷ []
opening_tokens kind.ProcessingInstruction n value =
    word "processing-instruction" ∷ name n ∷ symbol s.OpenBrace ∷ str value ∷ []

-- nodes side by side, with `before` in front of the first and a comma in front of each other, and
-- more tokens after them
abbrev pub node_tokens : Tokens → Forest Label → Tokens → Tokens
node_tokens before end after = after
node_tokens before (node a below beside) after = before
    ++ (opening_tokens a.kind a.name a.value ++ node_tokens [] below (symbol s.CloseBrace
    ∷ node_tokens (symbol s.Comma ∷ []) beside after))

-- an item, and more tokens after it
abbrev pub item_tokens : List Tree → Item → Tokens → Tokens
item_tokens trees (Node p) after = node_tokens [] (nodes (tree_below trees p)) after
item_tokens trees (Atom a) after = atomic_tokens a ++ after

-- items, each with a comma in front
abbrev pub more_tokens : List Tree → List Item → Tokens
more_tokens trees [] = []
more_tokens trees (x ∷ xs) = symbol s.Comma ∷ item_tokens trees x (more_tokens trees xs)

-- a result
abbrev pub items_tokens : List Tree → List Item → Tokens
items_tokens trees [] = in_parentheses []
items_tokens trees (x ∷ xs) = item_tokens trees x (more_tokens trees xs)
