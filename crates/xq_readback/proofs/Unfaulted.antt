-- A quoted expression has no static fault.
use Rattle.std.proofs.Common.{◌≡◌, Bool, true, false, List, [], ◌∷◌, ◌++◌, map, Some, None, refl, ap, ◌∙◌, ℤ, pos}
use Rattle.std.specs.Prelude.{codes, int_lt, nat_abs, if◌then◌else◌}
use Rattle.std.specs.Ordering.{int_eq}
use Rattle.xq_atoms.specs.Text.{Text}
use Rattle.xq_atoms.specs.Atom.{Atomic, Integer, Decimal, String, Boolean, Untyped}
use Rattle.xq_expressions.specs.declared.expressions.Expr.{Expr}
use Rattle.xq_expressions.specs.declared.expressions.Expr.TheVariants as e
use Rattle.xq_expressions.specs.declared.expressions.Clause.TheOpen.{Expr-F}
use Rattle.xq_expressions.specs.declared.operators.NamedNode.{NamedNode}
use Rattle.xq_expressions.specs.declared.operators.NamedNode.TheVariants as named
use Rattle.xq_expressions.specs.declared.operators.UnnamedNode.{UnnamedNode}
use Rattle.xq_expressions.specs.declared.operators.UnnamedNode.TheVariants as unnamed
use Rattle.xq_expressions.specs.declared.operators.Sign.TheVariants.{Minus}
use Rattle.xq_parser.specs.Grammar.{unprefixed, with_prefix}
use Rattle.xq_statics.specs.Places.{Place}
use Rattle.std.specs.Option.{option_or}
use Rattle.xq_statics.specs.Faults.{first_fault, call_fault}
use Rattle.xq_statics.specs.Statics.{Places, places, form_places, static_fault, each}
use Rattle.xq_statics.proofs.Equations as at
use Rattle.xq_statics.proofs.Judging.{first-append}
use Rattle.xq_trees.specs.declared.Kind.{Kind}
use Rattle.xq_trees.specs.declared.Kind.TheVariants as kind
use Rattle.xq_trees.specs.Forest.{Forest, end, node}
use Rattle.xq_trees.specs.Tree.{Label, Tree}
use Rattle.xq_meaning.specs.Items.{Item, Node, Atom, tree_below}
use Rattle.xq_readback.specs.Quoted.{cast, least, with_sign, quoted_atomic, whole, written, made, quoted_nodes, quoted_item, quoted_items}

-- no place of it has a fault, whatever variables are in scope
abbrev IsUnfaulted : Expr → Type 0
IsUnfaulted x = (names : List Text) → first_fault (places x names) ≡ None

abbrev AreUnfaulted : List Expr → Type 0
AreUnfaulted [] = Unit {0}
AreUnfaulted (x ∷ xs) = IsUnfaulted x × AreUnfaulted xs

-- two parts without a fault
both : (xs ys : List Place) → first_fault xs ≡ None → first_fault ys ≡ None → first_fault (xs ++ ys) ≡ None
both xs ys h k = first-append xs ys ∙ ap (λ o. option_or o (first_fault ys)) h ∙ k

each_none : (xs : List Expr) → AreUnfaulted xs → (names : List Text) → first_fault (each (map places xs) names) ≡ None
each_none [] h names = refl
each_none (x ∷ xs) h names = both (places x names) (each (map places xs) names) (h.0 names) (each_none xs h.1 names)

whole_none : (xs : List Expr) → AreUnfaulted xs → IsUnfaulted (whole xs)
whole_none [] h names = ap (λ (f : Places). first_fault (f names)) (at.places-Sequence [])
whole_none (x ∷ []) h names = h.0 names
whole_none (x ∷ y ∷ more) h names = ap (λ (f : Places). first_fault (f names)) (at.places-Sequence (x ∷ y ∷ more)) ∙ each_none (x ∷ y ∷ more) h names

text_none : (v : Text) → IsUnfaulted (e.Str v)
text_none v names = ap (λ (f : Places). first_fault (f names)) (at.places-Str v)

named_none : (k : NamedNode) (n : Text) (x : Expr) → IsUnfaulted x → IsUnfaulted (e.Named k (written n) x)
named_none k n x h names =
    ap (λ (f : Places). first_fault (f names)) (at.places-Named k (written n) x ∙ ap (λ (f : Places). form_places (Expr-F.Named k f (places x))) (at.name-Literal (unprefixed n)))
    ∙ h names

unnamed_none : (k : UnnamedNode) (x : Expr) → IsUnfaulted x → IsUnfaulted (e.Unnamed k x)
unnamed_none k x h names = ap (λ (f : Places). first_fault (f names)) (at.places-Unnamed k x) ∙ h names

-- a constructor of parts without a fault
made_none : (k : Kind) (n v : Text) (xs : List Expr) → AreUnfaulted xs → IsUnfaulted (made k n v xs)
made_none kind.Document n v xs h = unnamed_none unnamed.Document (whole xs) (whole_none xs h)
made_none kind.Element n v xs h = named_none named.Element n (whole xs) (whole_none xs h)
made_none kind.Attribute n v xs h = named_none named.Attribute n (e.Str v) (text_none v)
made_none kind.Text n v xs h = unnamed_none unnamed.Text (e.Str v) (text_none v)
made_none kind.Comment n v xs h = unnamed_none unnamed.Comment (e.Str v) (text_none v)
made_none kind.ProcessingInstruction n v xs h = named_none named.ProcessingInstruction n (e.Str v) (text_none v)

nodes_none : (f : Forest Label) → AreUnfaulted (quoted_nodes f)
nodes_none end = tt
nodes_none (node a below beside) = (made_none a.kind a.name a.value (quoted_nodes below) (nodes_none below), nodes_none beside)

-- ---- atomic values

-- a cast whose name is known
cast_none : (n v : Text) → call_fault (Some (codes "xs")) n 1 ≡ None → IsUnfaulted (cast n v)
cast_none n v h names =
    ap (λ (f : Places). first_fault (f names)) (at.places-Call (with_prefix (codes "xs") n) (e.Str v ∷ []) ∙ ap (λ (f : Places). form_places (Expr-F.Call (with_prefix (codes "xs") n) (f ∷ []))) (at.places-Str v))
    ∙ ap (λ o. option_or o None) h

sign_none : (b : Bool) (x : Expr) → IsUnfaulted x → IsUnfaulted (with_sign b x)
sign_none false x h = h
sign_none true x h = λ names. ap (λ (f : Places). first_fault (f names)) (at.places-Unary (Minus ∷ []) x) ∙ h names

int_none : (n : ℤ) → IsUnfaulted (e.Int n)
int_none n names = ap (λ (f : Places). first_fault (f names)) (at.places-Int n)

dec_none : (m : ℤ) → IsUnfaulted (e.Dec m)
dec_none m names = ap (λ (f : Places). first_fault (f names)) (at.places-Dec m)

truth_none : (b : Bool) → IsUnfaulted (quoted_atomic (Boolean b))
truth_none true names = ap (λ (f : Places). first_fault (f names)) (at.places-Call (unprefixed (codes "true")) [])
truth_none false names = ap (λ (f : Places). first_fault (f names)) (at.places-Call (unprefixed (codes "false")) [])

integer_none : (n : ℤ) (b : Bool) → IsUnfaulted (if b then cast (codes "integer") (codes "-9223372036854775808") else with_sign (int_lt n (pos 0)) (e.Int (pos (nat_abs n))))
integer_none n true = cast_none (codes "integer") (codes "-9223372036854775808") refl
integer_none n false = sign_none (int_lt n (pos 0)) (e.Int (pos (nat_abs n))) (int_none (pos (nat_abs n)))

value_none : (a : Atomic) → IsUnfaulted (quoted_atomic a)
value_none (Integer n) = integer_none n (int_eq n least)
value_none (Decimal m) = sign_none (int_lt m (pos 0)) (e.Dec (pos (nat_abs m))) (dec_none (pos (nat_abs m)))
value_none (String t) = text_none t
value_none (Boolean b) = truth_none b
value_none (Untyped t) = cast_none (codes "untypedAtomic") t refl

-- ---- items

item_none : (trees : List Tree) (x : Item) → IsUnfaulted (quoted_item trees x)
item_none trees (Atom a) = value_none a
item_none trees (Node p) =
    let t : Tree = tree_below trees p in
    made_none t.root.kind t.root.name t.root.value (quoted_nodes t.below) (nodes_none t.below)

all_none : (trees : List Tree) (xs : List Item) → AreUnfaulted (map (quoted_item trees) xs)
all_none trees [] = tt
all_none trees (x ∷ xs) = (item_none trees x, all_none trees xs)

-- no result has a fault
pub items_unfaulted : (trees : List Tree) (xs : List Item) → static_fault (quoted_items trees xs) ≡ None
items_unfaulted trees xs = whole_none (map (quoted_item trees) xs) (all_none trees xs) []
