-- A printed result nests no deeper than a query may.
use Rattle.std.proofs.Common.{ℕ, zero, suc, ◌+◌, ◌≤◌, max, Bool, true, false, List, [], ◌∷◌, ◌++◌, arith, ⊎_elim, ℤ, pos}
use Rattle.std.specs.Prelude.{codes, int_lt, nat_abs, if◌then◌else◌}
use Rattle.std.specs.Ordering.{int_eq}
use Rattle.std.proofs.Math.Nat.{max-eq_left, max-eq_right}
use Rattle.std.proofs.lemmas.Bool.{cases_lt}
use Rattle.xq_atoms.specs.Text.{Text}
use Rattle.xq_atoms.specs.Atom.{Atomic, Integer, Decimal, String, Boolean, Untyped}
use Rattle.xq_lexer.specs.Lexeme.{Lex, int, dec, symbol}
use Rattle.xq_lexer.specs.declared.tokens.Symbol.TheVariants as s
use Rattle.xq_lexer.specs.Nesting.{nesting, greatest, deepest_nesting}
use Rattle.xq_lexer.proofs.NestingLemmas.{at_most_greatest}
use Rattle.xq_parser.specs.Look.{Tokens}
use Rattle.xq_trees.specs.declared.Kind.{Kind}
use Rattle.xq_trees.specs.declared.Kind.TheVariants as kind
use Rattle.xq_trees.specs.Forest.{Forest, end, node, IsWithinHeight}
use Rattle.xq_trees.specs.Tree.{Label, Tree, nodes, most_levels}
use Rattle.xq_meaning.specs.Items.{Item, Node, Atom, tree_below}
use Rattle.xq_readback.specs.Quoted.{least, cast_tokens, sign_tokens, atomic_tokens, opening_tokens, node_tokens, item_tokens, more_tokens, items_tokens}
use Rattle.xq_meaning.specs.Printable.{ArePrintable}

-- the number and all later ones are within the bound
both : (a b bound : ℕ) → a ≤ bound → b ≤ bound → max a b ≤ bound
both a b bound p q =
    ⊎_elim
    (λ low. let e = max-eq_right {n = a} {m = b} (omega (arith, low)) in omega (arith, e, q))
    (λ high. let e = max-eq_left {n = a} {m = b} high in omega (arith, e, p))
    (cases_lt a b)

-- the number is one of those that the greatest is of
above : (ts : Tokens) (k : ℕ) (saved : List ℕ) (bound : ℕ) → greatest k saved ts ≤ bound → k ≤ bound
above ts k saved bound h = let m = at_most_greatest k saved ts in omega (arith, m, h)

-- after the opening tokens one brace is open
opening_nests : (k : Kind) (n v : Text) (rest : Tokens) (at : ℕ) (saved : List ℕ) (bound : ℕ) → at ≤ bound → greatest (at + 1) (at ∷ saved) rest ≤ bound → greatest at saved (opening_tokens k n v ++ rest) ≤ bound
opening_nests kind.Document n v rest at saved bound low h = both at _ bound low (both at _ bound low h)
opening_nests kind.Element n v rest at saved bound low h = both at _ bound low (both at _ bound low (both at _ bound low h))
opening_nests kind.Attribute n v rest at saved bound low h =
    both at _ bound low (both at _ bound low (both at _ bound low (both (at + 1) _ bound (above rest (at + 1) (at ∷ saved) bound h) h)))
opening_nests kind.Text n v rest at saved bound low h = both at _ bound low (both at _ bound low (both (at + 1) _ bound (above rest (at + 1) (at ∷ saved) bound h) h))
opening_nests kind.Comment n v rest at saved bound low h = both at _ bound low (both at _ bound low (both (at + 1) _ bound (above rest (at + 1) (at ∷ saved) bound h) h))
opening_nests kind.ProcessingInstruction n v rest at saved bound low h =
    both at _ bound low (both at _ bound low (both at _ bound low (both (at + 1) _ bound (above rest (at + 1) (at ∷ saved) bound h) h)))

-- what stands before nodes keeps the number
pub record NodesNest (f : Forest Label) (rest : Tokens) (at : ℕ) (saved : List ℕ) (bound : ℕ) : Type 0 where
  pub first : greatest at saved (node_tokens [] f rest) ≤ bound
  pub others : greatest at saved (node_tokens (symbol s.Comma ∷ []) f rest) ≤ bound

-- nodes nest as deep as they are high
nodes_nest : (height : ℕ) (f : Forest Label) → IsWithinHeight height f → (rest : Tokens) (at : ℕ) (saved : List ℕ) (bound : ℕ) → at + height ≤ bound → greatest at saved rest ≤ bound → NodesNest f rest at saved bound
nodes_nest height end high rest at saved bound room h = record { first = h; others = h }
nodes_nest zero (node a below beside) high rest at saved bound room h = absurd high
nodes_nest (suc height) (node a below beside) high rest at saved bound room h =
    let more = nodes_nest (suc height) beside high.1 rest at saved bound room h in
    let low : at ≤ bound = omega (arith, room) in
    let tail : Tokens = node_tokens (symbol s.Comma ∷ []) beside rest in
    let closed : greatest (at + 1) (at ∷ saved) (symbol s.CloseBrace ∷ tail) ≤ bound = both (at + 1) _ bound (omega (arith, room)) more.others in
    let inner = nodes_nest height below high.0 (symbol s.CloseBrace ∷ tail) (at + 1) (at ∷ saved) bound (omega (arith, room)) closed in
    let one = opening_nests a.kind a.name a.value (node_tokens [] below (symbol s.CloseBrace ∷ tail)) at saved bound low inner.first in
    record { first = one; others = both at _ bound low one }

-- ---- atomic values

cast_nests : (n v : Text) (rest : Tokens) (at : ℕ) (saved : List ℕ) (bound : ℕ) → at + 1 ≤ bound → greatest at saved rest ≤ bound → greatest at saved (cast_tokens n v ++ rest) ≤ bound
cast_nests n v rest at saved bound room h =
    let low : at ≤ bound = omega (arith, room) in
    both at _ bound low (both at _ bound low (both (at + 1) _ bound room (both (at + 1) _ bound room h)))

sign_nests : (b : Bool) (t : Lex) (rest : Tokens) (at : ℕ) (saved : List ℕ) (bound : ℕ) → at ≤ bound → greatest at saved (t ∷ rest) ≤ bound → greatest at saved (sign_tokens b t ++ rest) ≤ bound
sign_nests false t rest at saved bound low h = h
sign_nests true t rest at saved bound low h = both at _ bound low h

truth_nests : (b : Bool) (rest : Tokens) (at : ℕ) (saved : List ℕ) (bound : ℕ) → at + 1 ≤ bound → greatest at saved rest ≤ bound → greatest at saved (atomic_tokens (Boolean b) ++ rest) ≤ bound
truth_nests true rest at saved bound room h = let low : at ≤ bound = omega (arith, room) in both at _ bound low (both at _ bound low (both (at + 1) _ bound room h))
truth_nests false rest at saved bound room h = let low : at ≤ bound = omega (arith, room) in both at _ bound low (both at _ bound low (both (at + 1) _ bound room h))

integer_nests : (n : ℤ) (b : Bool) (rest : Tokens) (at : ℕ) (saved : List ℕ) (bound : ℕ) → at + 1 ≤ bound → greatest at saved rest ≤ bound
    → greatest at saved ((if b then cast_tokens (codes "integer") (codes "-9223372036854775808") else sign_tokens (int_lt n (pos 0)) (int (pos (nat_abs n)))) ++ rest) ≤ bound
integer_nests n true rest at saved bound room h = cast_nests (codes "integer") (codes "-9223372036854775808") rest at saved bound room h
integer_nests n false rest at saved bound room h = let low : at ≤ bound = omega (arith, room) in sign_nests (int_lt n (pos 0)) (int (pos (nat_abs n))) rest at saved bound low (both at _ bound low h)

-- an atomic value nests one level at most
value_nests : (a : Atomic) (rest : Tokens) (at : ℕ) (saved : List ℕ) (bound : ℕ) → at + 1 ≤ bound → greatest at saved rest ≤ bound → greatest at saved (atomic_tokens a ++ rest) ≤ bound
value_nests (Integer n) rest at saved bound room h = integer_nests n (int_eq n least) rest at saved bound room h
value_nests (Decimal m) rest at saved bound room h = let low : at ≤ bound = omega (arith, room) in sign_nests (int_lt m (pos 0)) (dec (pos (nat_abs m))) rest at saved bound low (both at _ bound low h)
value_nests (String t) rest at saved bound room h = both at _ bound (omega (arith, room)) h
value_nests (Boolean b) rest at saved bound room h = truth_nests b rest at saved bound room h
value_nests (Untyped t) rest at saved bound room h = cast_nests (codes "untypedAtomic") t rest at saved bound room h

-- ---- items

item_nests : (trees : List Tree) (x : Item) (xs : List Item) → ArePrintable trees (x ∷ xs) → (rest : Tokens) → greatest 0 [] rest ≤ deepest_nesting → greatest 0 [] (item_tokens trees x rest) ≤ deepest_nesting
item_nests trees (Atom a) xs are rest h = value_nests a rest 0 [] deepest_nesting (omega arith) h
item_nests trees (Node p) xs are rest h = (nodes_nest most_levels (nodes (tree_below trees p)) are.0.height rest 0 [] deepest_nesting (omega arith) h).first

more_nest : (trees : List Tree) (xs : List Item) → ArePrintable trees xs → greatest 0 [] (more_tokens trees xs) ≤ deepest_nesting
more_nest trees [] are = omega arith
more_nest trees (x ∷ xs) are = both 0 _ deepest_nesting (omega arith) (item_nests trees x xs are (more_tokens trees xs) (more_nest trees xs are.1))

-- a result nests within the limit
pub items_nest : (trees : List Tree) (xs : List Item) → ArePrintable trees xs → nesting (items_tokens trees xs) ≤ deepest_nesting
items_nest trees [] are = omega arith
items_nest trees (x ∷ xs) are = item_nests trees x xs are (more_tokens trees xs) (more_nest trees xs are.1)
