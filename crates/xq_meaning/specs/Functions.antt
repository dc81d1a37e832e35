-- What the functions give, from the values of their arguments: F&O 3.1. They know no evaluation.
-- The tables by numbers of arguments stand at the end, and before them each function that is more
-- than a word.
use Rattle.std.proofs.Common.{suc}
use Rattle.std.specs.Prelude.{ℕ, pos, List, [], ◌∷◌, map, length, reverse, Bool, true, false, not, ◌&&◌, ◌==◌, nat_lt, nat_le, Option, Some, None, Ok, Err, flat_map}
use Rattle.std.specs.List.{list_all, range_with_len}
use Rattle.std.specs.Ordering.{is_lt, is_gt}
use Rattle.xq_atoms.specs.declared.refusals.Code.TheVariants.{XPST0017, XPDY0002, FODC0002, FODC0005, FORG0003, FORG0004, FORG0005, FORG0006, ProfDouble}
use Rattle.xq_atoms.specs.Address.{is_address_byte, longest_address}
use Rattle.xq_atoms.specs.Judged.{Judged, ◌>>=◌, only_if}
use Rattle.xq_atoms.specs.Text.{Text, text_eq}
use Rattle.xq_atoms.specs.Atom.{Atomic, Integer, Decimal, Untyped}
use Rattle.xq_atoms.specs.Arithmetic.{add, abs, floor, ceiling, round}
use Rattle.xq_atoms.specs.Cast.{cast_integer, cast_decimal, cast_boolean, text_of}
use Rattle.xq_atoms.specs.Compare.{key, key_eq, key_cmp, of_one_kind}
use Rattle.xq_trees.specs.Names.{holds}
use Rattle.xq_trees.specs.Tree.{Tree}
use Rattle.xq_trees.specs.Tuples.{firsts}
use Rattle.xq_trees.specs.Value.{string_value}
use Rattle.xq_expressions.specs.declared.signatures.Function.{Function}
use Rattle.xq_expressions.specs.declared.signatures.Function.TheVariants as f
use Rattle.xq_meaning.specs.Texts.{joined, begins, ends, normalized, character_count, from_position, between_positions, substring_before, substring_after}
use Rattle.xq_meaning.specs.Items.{Item, Node, Atom, root_of, label_at, tree_below, atomized}
use Rattle.xq_meaning.specs.Arguments.{each, atomic, whole, boolean, text, as_items, as_boolean, optional, if_given, on_optional, text_argument, one_text, optional_text, node_argument, one_count, effective}

-- XQuery 3.1, 2.1.2: the context item with its position, and how many items there are
pub record Focus : Type 0 where
  pub item : Item
  pub position : ℕ
  pub last : ℕ

-- # 14.6: documents, which are the first trees, in the order of their addresses

-- a text that may be an address: its length, and each of its bytes
abbrev pub is_address : Text → Bool
is_address t = nat_lt 0 (length t)
    && (nat_le (length t) longest_address && list_all is_address_byte t)

-- the root of the tree at that address, among those from number n on
abbrev pub document_from : ℕ → List Text → Text → Judged (List Item)
document_from n [] address = Err FODC0002
document_from n (a ∷ as') address = if_at (text_eq a address) n (document_from (suc n) as' address)
  where
    if_at : Bool → ℕ → Judged (List Item) → Judged (List Item)
    if_at true number other = Ok (Node (root_of number) ∷ [])
    if_at false number other = other

-- the root of the document at that address; what can't be an address is refused
abbrev pub document : List Text → Text → Judged (List Item)
document addresses address = do
  good ← only_if (is_address address) FODC0005 address
  document_from 0 addresses good

-- F&O 3.1, 14.6.1: fn:doc, and () for ()
abbrev pub doc : List Text → List Atomic → Judged (List Item)
doc addresses = on_optional (λ a. do t ← text_argument a; document addresses t)

-- a result, and no refusal
abbrev pub is_found : Judged (List Item) → Bool
is_found (Ok xs) = true
is_found (Err code) = false

-- there is a document at that address
abbrev pub is_there : List Text → Text → Bool
is_there addresses address = is_found (document addresses address)

-- a bad address is no refusal
abbrev pub doc_available : List Text → List Atomic → Judged (List Item)
doc_available addresses as' = do
  a ← optional as'
  if_given (boolean false) (λ b. do t ← text_argument b; Ok (boolean (is_there addresses t))) a

-- F&O 3.1, 14.6.3: fn:collection without an argument, the roots of all documents
abbrev pub collection : List Text → List Item
collection addresses = map (λ n. Node (root_of n)) (range_with_len 0 (length addresses))

-- # 13 and 2: nodes

-- F&O 3.1, 13.5: fn:root, the root of the node's tree, and () for ()
abbrev pub root : List Item → Judged (List Item)
root = on_optional (λ x. do p ← node_argument x; Ok (Node (root_of p.tree) ∷ []))

-- the name, which has no prefix; none for () and for nodes without one
abbrev pub name : List Tree → List Item → Judged (List Item)
name trees xs = do
  x ← optional xs
  if_given (text []) (λ y. do p ← node_argument y; Ok (text (label_at trees p).name)) x

-- a node's string value, or an atomic value cast to a string
abbrev pub item_text : List Tree → Item → Text
item_text trees (Node p) = string_value (tree_below trees p)
item_text trees (Atom a) = text_of a

-- F&O 3.1, 2.3: fn:string, and the empty string for ()
abbrev pub string : List Tree → List Item → Judged (List Item)
string trees xs = do
  x ← optional xs
  if_given (text []) (λ y. Ok (text (item_text trees y))) x

-- # 5.4: strings

-- the text of at most one value
abbrev pub piece : List Atomic → Judged Text
piece as' = do a ← optional as'; if_given [] (λ b. Ok (text_of b)) a

-- F&O 3.1, 5.4.1: fn:concat, where () counts as the empty string
abbrev pub concat : List (List Atomic) → Judged (List Item)
concat lists = do pieces ← each piece lists; Ok (text (joined [] pieces))

-- both texts are converted, the first one first
abbrev pub of_texts : (Text → Text → List Item) → List Atomic → List Atomic → Judged (List Item)
of_texts result as' bs = do
  s ← optional_text as'
  t ← optional_text bs
  Ok (result s t)

-- # 14.1 and 14.2: sequences

-- F&O 3.1, 14.1.3: fn:head, the first item
abbrev pub head : List Item → List Item
head [] = []
head (x ∷ xs) = x ∷ []

-- F&O 3.1, 14.1.4: fn:tail, all items but the first
abbrev pub tail : List Item → List Item
tail [] = []
tail (x ∷ xs) = xs

-- those that equal no earlier one, as they are
abbrev pub distinct_values : List Atomic → List Atomic
distinct_values = firsts (λ a b. key_eq (key a) (key b))

-- F&O 3.1, 14.3.1: fn:zero-or-one, the items if there is at most one
abbrev pub zero_or_one : List Item → Judged (List Item)
zero_or_one (x ∷ y ∷ xs) = Err FORG0003
zero_or_one xs = Ok xs

-- F&O 3.1, 14.3.2: fn:one-or-more, the items if there are any
abbrev pub one_or_more : List Item → Judged (List Item)
one_or_more [] = Err FORG0004
one_or_more xs = Ok xs

-- F&O 3.1, 14.3.3: fn:exactly-one, the item if it is the only one
abbrev pub exactly_one : List Item → Judged (List Item)
exactly_one (x ∷ []) = Ok (x ∷ [])
exactly_one xs = Err FORG0005

-- # 14.4: aggregates

-- a number; the standard casts an untyped value to a double
abbrev pub summand : Atomic → Judged Atomic
summand (Integer n) = Ok (Integer n)
summand (Decimal m) = Ok (Decimal m)
summand (Untyped t) = Err ProfDouble
summand a = Err FORG0006

-- the total with these values added, from the first to the last
abbrev pub added : Atomic → List Atomic → Judged Atomic
added total [] = Ok total
added total (a ∷ as') = do next ← add total a; added next as'

-- all are judged before the first is added
abbrev pub sum : List Atomic → Judged (List Item)
sum as' = do
  numbers ← each summand as'
  as_items (added (Integer (pos 0)) numbers)

-- a value of the first one's kind: numbers, strings or booleans
abbrev pub comparable : Atomic → Atomic → Judged Atomic
comparable first (Untyped t) = Err ProfDouble
comparable first a = only_if (of_one_kind (key first) (key a)) FORG0006 a

-- the first value where the test holds, else the second one
abbrev pub chosen : Bool → Atomic → Atomic → Atomic
chosen true a b = a
chosen false a b = b

-- the first one that none of the others is better than
abbrev pub best : (Atomic → Atomic → Bool) → Atomic → List Atomic → Atomic
best better a [] = a
best better a (b ∷ bs) = best better (chosen (better b a) b a) bs

-- all are judged before two are compared
abbrev pub extreme : (Atomic → Atomic → Bool) → List Atomic → Judged (List Item)
extreme better [] = Ok []
extreme better (a ∷ as') = do
  values ← each (comparable a) (a ∷ as')
  Ok (atomic (best better a as'))

-- the first value is less, in the order of numbers, then strings, then false and true
abbrev pub is_less : Atomic → Atomic → Bool
is_less a b = is_lt (key_cmp (key a) (key b))

-- the first value is greater, in that order
abbrev pub is_greater : Atomic → Atomic → Bool
is_greater a b = is_gt (key_cmp (key a) (key b))

-- # All functions, by the number of their arguments; a call with another number is XPST0017

-- a call with one argument
abbrev pub of_one : Function → List Tree → List Text → List Item → Judged (List Item)
of_one f.Doc trees addresses xs = doc addresses (atomized trees xs)
of_one f.DocAvailable trees addresses xs = doc_available addresses (atomized trees xs)
of_one f.Root trees addresses xs = root xs
of_one f.Name trees addresses xs = name trees xs
of_one f.LocalName trees addresses xs = name trees xs
of_one f.String trees addresses xs = string trees xs
of_one f.Data trees addresses xs = Ok (map Atom (atomized trees xs))
of_one f.StringLength trees addresses xs =
    do t ← optional_text (atomized trees xs); Ok (whole (character_count t))
of_one f.NormalizeSpace trees addresses xs =
    do t ← optional_text (atomized trees xs); Ok (text (normalized t))
of_one f.StringJoin trees addresses xs = Ok (text (flat_map text_of (atomized trees xs)))
of_one f.Count trees addresses xs = Ok (whole (length xs))
of_one f.Empty trees addresses xs = Ok (boolean (length xs == 0))
of_one f.Exists trees addresses xs = Ok (boolean (not (length xs == 0)))
of_one f.Head trees addresses xs = Ok (head xs)
of_one f.Tail trees addresses xs = Ok (tail xs)
of_one f.Reverse trees addresses xs = Ok (reverse xs)
of_one f.DistinctValues trees addresses xs = Ok (map Atom (distinct_values (atomized trees xs)))
of_one f.ZeroOrOne trees addresses xs = zero_or_one xs
of_one f.OneOrMore trees addresses xs = one_or_more xs
of_one f.ExactlyOne trees addresses xs = exactly_one xs
of_one f.Not trees addresses xs = do b ← effective xs; Ok (boolean (not b))
of_one f.Boolean trees addresses xs = as_boolean (effective xs)
of_one f.Sum trees addresses xs = sum (atomized trees xs)
of_one f.Min trees addresses xs = extreme is_less (atomized trees xs)
of_one f.Max trees addresses xs = extreme is_greater (atomized trees xs)
of_one f.Abs trees addresses xs = on_optional (λ a. as_items (abs a)) (atomized trees xs)
of_one f.Floor trees addresses xs = on_optional (λ a. as_items (floor a)) (atomized trees xs)
of_one f.Ceiling trees addresses xs = on_optional (λ a. as_items (ceiling a)) (atomized trees xs)
of_one f.Round trees addresses xs = on_optional (λ a. as_items (round a)) (atomized trees xs)
of_one f.ToInteger trees addresses xs =
    on_optional (λ a. as_items (cast_integer a)) (atomized trees xs)
of_one f.ToDecimal trees addresses xs =
    on_optional (λ a. as_items (cast_decimal a)) (atomized trees xs)
of_one f.ToBoolean trees addresses xs =
    on_optional (λ a. as_items (cast_boolean a)) (atomized trees xs)
of_one f.ToString trees addresses xs = on_optional (λ a. Ok (text (text_of a))) (atomized trees xs)
of_one f.ToUntyped trees addresses xs =
    on_optional (λ a. Ok (atomic (Untyped (text_of a)))) (atomized trees xs)
of_one function trees addresses xs = Err XPST0017

-- the argument that the context item stands for: of functions on strings, its text
abbrev pub context_argument : Function → List Tree → Item → Judged (List Item)
context_argument f.Root trees x = Ok (x ∷ [])
context_argument f.Name trees x = Ok (x ∷ [])
context_argument f.LocalName trees x = Ok (x ∷ [])
context_argument f.String trees x = Ok (x ∷ [])
context_argument f.Data trees x = Ok (x ∷ [])
context_argument f.StringLength trees x = Ok (text (item_text trees x))
context_argument f.NormalizeSpace trees x = Ok (text (item_text trees x))
context_argument function trees x = Err XPST0017

-- what the focus gives; without one, XPDY0002
abbrev pub of_focus : Option Focus → (Focus → Judged (List Item)) → Judged (List Item)
of_focus None result = Err XPDY0002
of_focus (Some focus) result = result focus

-- a call without an argument that takes the context item as its argument
abbrev pub of_context : Function → List Tree → List Text → Focus → Judged (List Item)
of_context function trees addresses focus = do
  xs ← context_argument function trees focus.item
  of_one function trees addresses xs

-- a call without an argument
abbrev pub of_none : Function → List Tree → List Text → Option Focus → Judged (List Item)
of_none f.Collection trees addresses focus = Ok (collection addresses)
of_none f.True trees addresses focus = Ok (boolean true)
of_none f.False trees addresses focus = Ok (boolean false)
of_none f.Position trees addresses focus = of_focus focus (λ here. Ok (whole here.position))
of_none f.Last trees addresses focus = of_focus focus (λ here. Ok (whole here.last))
of_none function trees addresses focus = of_focus focus (of_context function trees addresses)

-- a call with two arguments, which are atomized
abbrev pub of_two : Function → List Atomic → List Atomic → Judged (List Item)
of_two f.Concat as' bs = concat (as' ∷ bs ∷ [])
of_two f.StringJoin as' bs = do t ← one_text bs; Ok (text (joined t (map text_of as')))
of_two f.Contains as' bs = of_texts (λ s t. boolean (holds t s)) as' bs
of_two f.StartsWith as' bs = of_texts (λ s t. boolean (begins t s)) as' bs
of_two f.EndsWith as' bs = of_texts (λ s t. boolean (ends t s)) as' bs
of_two f.SubstringBefore as' bs = of_texts (λ s t. text (substring_before s t)) as' bs
of_two f.SubstringAfter as' bs = of_texts (λ s t. text (substring_after s t)) as' bs
of_two f.Substring as' bs =
    do t ← optional_text as'; n ← one_count bs; Ok (text (from_position n t))
of_two function as' bs = Err XPST0017

-- a call with three arguments, which are atomized
abbrev pub of_three : Function → List Atomic → List Atomic → List Atomic → Judged (List Item)
of_three f.Concat as' bs cs = concat (as' ∷ bs ∷ cs ∷ [])
of_three f.Substring as' bs cs = do
  t ← optional_text as'
  n ← one_count bs
  l ← one_count cs
  Ok (text (between_positions n l t))
of_three function as' bs cs = Err XPST0017

-- a call with more arguments, which are atomized: fn:concat alone
abbrev pub of_many : Function → List (List Atomic) → Judged (List Item)
of_many f.Concat lists = concat lists
of_many function lists = Err XPST0017

-- what a call gives from the values of its arguments, over these trees, which begin with the
-- documents
abbrev pub called : Function → List Tree → List Text → Option Focus → List (List Item) →
    Judged (List Item)
called function trees addresses focus [] = of_none function trees addresses focus
called function trees addresses focus (xs ∷ []) = of_one function trees addresses xs
called function trees addresses focus (xs ∷ ys ∷ []) =
    of_two function (atomized trees xs) (atomized trees ys)
called function trees addresses focus (xs ∷ ys ∷ zs ∷ []) =
    of_three function (atomized trees xs) (atomized trees ys) (atomized trees zs)
called function trees addresses focus (w ∷ xs ∷ ys ∷ zs ∷ more) =
    of_many function (map (atomized trees) (w ∷ xs ∷ ys ∷ zs ∷ more))
