-- What functions and operators give of legible values is legible.
use Rattle.std.proofs.Common.{◌≡◌, ℕ, zero, suc, List, [], ◌∷◌, map, length, Bool, true, false, not, Option, Some, None, Ok, Err, ℤ, pos, codes, neg_ℤ, refl}
use Rattle.std.specs.Prelude.{IfOk, ◌+ℤ◌, ◌-ℤ◌, ◌*ℤ◌, int_div, int_rem, ◌&&◌, ◌||◌, int_le, int_lt, nat_lt, nat_abs, if◌then◌else◌}
use Rattle.std.specs.List.{AllByRecursion, range_with_len}
use Rattle.xq_atoms.specs.declared.refusals.Code.TheVariants.{FOAR0001, FOAR0002, FOCA0001, FOCA0003, FOCA0006, FORG0001}
use Rattle.xq_atoms.specs.Judged.{Judged, only_if}
use Rattle.xq_atoms.specs.Text.{Text, text_eq, is_whole, value}
use Rattle.xq_atoms.specs.Literal.{is_number, fraction, millionths}
use Rattle.xq_atoms.specs.Spaces.{trimmed}
use Rattle.xq_atoms.specs.Cast as casts
use Rattle.xq_atoms.specs.Decimal.{one, in_millionths, is_decimal, floored, raised, rounded}
use Rattle.xq_atoms.specs.Compare.{key, key_eq}
use Rattle.xq_atoms.specs.Atom.{Atomic, Integer, Decimal, String, Boolean, Untyped, integer, decimal, numeric, is_integer}
use Rattle.xq_atoms.specs.Arithmetic.{Operands, Integers, Decimals, operands, on_operands, arithmetic, is_zero, unless_zero, quotient, whole_quotient, on_one, add, sub, mul, div, idiv, modulo, abs, floor, ceiling, round}
use Rattle.xq_atoms.specs.Cast.{integer_of_text, decimal_of_text, boolean_of_text, cast_integer, cast_decimal, cast_boolean, text_of}
use Rattle.xq_trees.specs.Tree.{Tree}
use Rattle.xq_trees.specs.Tuples.{firsts}
use Rattle.xq_trees.proofs.Lists.{all_filter, all_reverse, all_weaker}
use Rattle.xq_expressions.specs.declared.signatures.Function.{Function}
use Rattle.xq_expressions.specs.declared.signatures.Function.TheVariants as f
use Rattle.xq_expressions.specs.declared.operators.Sign.{Sign}
use Rattle.xq_expressions.specs.declared.operators.Sign.TheVariants.{Plus, Minus}
use Rattle.xq_expressions.specs.declared.operators.ProductOperator.{ProductOperator}
use Rattle.xq_expressions.specs.declared.operators.ProductOperator.TheVariants.{Times, Div, Idiv, Mod}
use Rattle.xq_expressions.specs.declared.operators.ComparisonOperator.{ComparisonOperator}
use Rattle.xq_expressions.specs.declared.operators.ComparisonOperator.TheVariants as comparing
use Rattle.xq_meaning.specs.declared.operators.Operator.{Operator}
use Rattle.xq_meaning.specs.declared.operators.Operator.TheVariants as operator
use Rattle.xq_meaning.specs.Items.{Place, Item, Node, Atom, root_of, atomized}
use Rattle.xq_meaning.specs.Printable.{IsCharacters}
use Rattle.xq_meaning.specs.Arguments.{each, as_items, as_boolean, boolean, text, single, on_optional, text_argument, one_text, optional_text, one_count, whole, effective, all_nodes}
use Rattle.xq_meaning.specs.Functions.{Focus, document_from, document, doc, collection, name, string, item_text, piece, concat, of_texts, head, tail, distinct_values, zero_or_one, one_or_more, exactly_one, summand, added, sum, comparable, chosen, best, extreme, is_less, is_greater, of_one, context_argument, of_focus, of_context, of_none, of_two, of_three, of_many, called}
use Rattle.xq_meaning.specs.Functions as functions
use Rattle.xq_meaning.specs.Operators.{of_both, number_operand, calculated, sum_of, product_of, with_signs, sign_of, signed, one_bound, one_node, integers_from, integers_within, integers, range, concatenated, compared, in_order, from_nodes, set_of, operated, are_atoms, all_atoms, nodes_or_atoms, gathered}
use Rattle.xq_readback.specs.Legible.{IsLegible, IsLegibleItem, AreLegible, AreTrees}
use Rattle.xq_readback.proofs.Holding.{next_holds, always_holds, only_if_holds, either_holds, each_holds, all_of, all_map}
use Rattle.xq_readback.proofs.Characters.{none, both, cast_text, cast_texts, flat_text, joined_text, normalized_text, part_text, before_text, after_text}
use Rattle.xq_readback.proofs.Trees.{name_at, atoms_legible, item_characters}

-- what a function answers
abbrev pub IsAnswer : Judged (List Item) → Type 0
IsAnswer r = IfOk r AreLegible

-- # Results

pub boolean_answer : (b : Bool) → AreLegible (boolean b)
boolean_answer b = (tt, tt)

text_answer : (t : Text) → IsCharacters t → AreLegible (text t)
text_answer t h = (h, tt)

as_items_answer : (r : Judged Atomic) → IfOk r IsLegible → IsAnswer (as_items r)
as_items_answer r h = next_holds IsLegible AreLegible r _ h (λ a p. (p, tt))

as_boolean_answer : (r : Judged Bool) → IsAnswer (as_boolean r)
as_boolean_answer r = always_holds AreLegible r _ (λ b. (tt, tt))

nodes_answer : (places : List Place) → AreLegible (map Node places)
nodes_answer places = all_map IsLegibleItem Node places (all_of (λ p. Unit {0}) (λ p. tt) places)

atoms_answer : (as' : List Atomic) → AllByRecursion IsLegible as' → AreLegible (map Atom as')
atoms_answer as' h = all_map IsLegibleItem Atom as' h

-- # Arguments

-- one value, or none
on_optional_answer : (result : Atomic → Judged (List Item)) → ((a : Atomic) → IsLegible a → IsAnswer (result a)) → (as' : List Atomic) → AllByRecursion IsLegible as' → IsAnswer (on_optional result as')
on_optional_answer result k [] h = tt
on_optional_answer result k (a ∷ []) h = k a h.0
on_optional_answer result k (a ∷ b ∷ more) h = tt

text_argument_is : (a : Atomic) → IsLegible a → IfOk (text_argument a) IsCharacters
text_argument_is (Integer n) h = tt
text_argument_is (Decimal m) h = tt
text_argument_is (String t) h = h
text_argument_is (Boolean b) h = tt
text_argument_is (Untyped t) h = h

optional_text_is : (as' : List Atomic) → AllByRecursion IsLegible as' → IfOk (optional_text as') IsCharacters
optional_text_is [] h = none
optional_text_is (a ∷ []) h = text_argument_is a h.0
optional_text_is (a ∷ b ∷ more) h = tt

one_text_is : (as' : List Atomic) → AllByRecursion IsLegible as' → IfOk (one_text as') IsCharacters
one_text_is [] h = tt
one_text_is (a ∷ []) h = text_argument_is a h.0
one_text_is (a ∷ b ∷ more) h = tt

pub piece_is : (as' : List Atomic) → AllByRecursion IsLegible as' → IfOk (piece as') IsCharacters
piece_is [] h = none
piece_is (a ∷ []) h = cast_text a h.0
piece_is (a ∷ b ∷ more) h = tt

pieces_are : (lists : List (List Atomic)) → AllByRecursion (AllByRecursion IsLegible) lists → AllByRecursion (λ as'. IfOk (piece as') IsCharacters) lists
pieces_are lists h = all_weaker (AllByRecursion IsLegible) _ piece_is lists h

-- # Numbers: no text is among them

integer_is : (n : ℤ) → IfOk (integer n) IsLegible
integer_is n = only_if_holds IsLegible (is_integer n) FOAR0002 (Integer n) tt

decimal_is : (m : ℤ) → IfOk (decimal m) IsLegible
decimal_is m = only_if_holds IsLegible (is_decimal m) FOAR0002 (Decimal m) tt

unless_zero_is : (n : ℤ) (r : Judged Atomic) → IfOk r IsLegible → IfOk (unless_zero n r) IsLegible
unless_zero_is n r h = either_holds IsLegible (is_zero n) (Err FOAR0001) r tt h

on_operands_is : (whole parts : ℤ → ℤ → Judged Atomic) → ((m n : ℤ) → IfOk (whole m n) IsLegible) → ((m n : ℤ) → IfOk (parts m n) IsLegible) → (o : Operands) → IfOk (on_operands whole parts o) IsLegible
on_operands_is whole parts h k (Integers m n) = h m n
on_operands_is whole parts h k (Decimals m n) = k m n

arithmetic_is : (whole parts : ℤ → ℤ → Judged Atomic) → ((m n : ℤ) → IfOk (whole m n) IsLegible) → ((m n : ℤ) → IfOk (parts m n) IsLegible) → (a b : Atomic) → IfOk (arithmetic whole parts a b) IsLegible
arithmetic_is whole parts h k a b = always_holds IsLegible (operands a b) _ (on_operands_is whole parts h k)

add_is : (a b : Atomic) → IfOk (add a b) IsLegible
add_is = arithmetic_is (λ m n. integer (m +ℤ n)) (λ m n. decimal (m +ℤ n)) (λ m n. integer_is (m +ℤ n)) (λ m n. decimal_is (m +ℤ n))

sub_is : (a b : Atomic) → IfOk (sub a b) IsLegible
sub_is = arithmetic_is (λ m n. integer (m -ℤ n)) (λ m n. decimal (m -ℤ n)) (λ m n. integer_is (m -ℤ n)) (λ m n. decimal_is (m -ℤ n))

mul_is : (a b : Atomic) → IfOk (mul a b) IsLegible
mul_is =
    arithmetic_is (λ m n. integer (m *ℤ n)) (λ m n. decimal (int_div (m *ℤ n) one)) (λ m n. integer_is (m *ℤ n)) (λ m n. decimal_is (int_div (m *ℤ n) one))

quotient_is : (m n : ℤ) → IfOk (quotient m n) IsLegible
quotient_is m n = unless_zero_is n (decimal (int_div (in_millionths m) n)) (decimal_is (int_div (in_millionths m) n))

div_is : (a b : Atomic) → IfOk (div a b) IsLegible
div_is = arithmetic_is quotient quotient quotient_is quotient_is

whole_quotient_is : (m n : ℤ) → IfOk (whole_quotient m n) IsLegible
whole_quotient_is m n = unless_zero_is n (integer (int_div m n)) (integer_is (int_div m n))

idiv_is : (a b : Atomic) → IfOk (idiv a b) IsLegible
idiv_is = arithmetic_is whole_quotient whole_quotient whole_quotient_is whole_quotient_is

modulo_is : (a b : Atomic) → IfOk (modulo a b) IsLegible
modulo_is =
    arithmetic_is (λ m n. unless_zero n (integer (int_rem m n))) (λ m n. unless_zero n (decimal (int_rem m n)))
    (λ m n. unless_zero_is n (integer (int_rem m n)) (integer_is (int_rem m n))) (λ m n. unless_zero_is n (decimal (int_rem m n)) (decimal_is (int_rem m n)))

on_one_is : (whole parts : ℤ → ℤ) (a : Atomic) → IfOk (on_one whole parts a) IsLegible
on_one_is whole parts (Integer n) = integer_is (whole n)
on_one_is whole parts (Decimal m) = decimal_is (parts m)
on_one_is whole parts (String t) = tt
on_one_is whole parts (Boolean b) = tt
on_one_is whole parts (Untyped t) = tt

numeric_is : (a : Atomic) → IfOk (numeric a) IsLegible
numeric_is (Integer n) = tt
numeric_is (Decimal m) = tt
numeric_is (String t) = tt
numeric_is (Boolean b) = tt
numeric_is (Untyped t) = tt

integer_of_text_is : (t : Text) → IfOk (integer_of_text t) IsLegible
integer_of_text_is t =
    let n : ℤ = casts.signed t (value (casts.after_sign t)) in
    either_holds IsLegible (is_whole (casts.after_sign t)) (only_if (is_integer n) FOCA0003 (Integer n)) (Err FORG0001)
    (only_if_holds IsLegible (is_integer n) FOCA0003 (Integer n) tt) tt

decimal_of_text_is : (t : Text) → IfOk (decimal_of_text t) IsLegible
decimal_of_text_is t =
    let m : ℤ = casts.signed t (millionths (casts.after_sign t)) in
    let within : Judged Atomic = only_if (is_decimal m) FOCA0001 (Decimal m) in
    let is_long = nat_lt 6 (length (fraction (casts.after_sign t))) in
    either_holds IsLegible (not (is_number (casts.after_sign t))) (Err FORG0001) (if is_long then Err FOCA0006 else within) tt
    (either_holds IsLegible is_long (Err FOCA0006) within tt (only_if_holds IsLegible (is_decimal m) FOCA0001 (Decimal m) tt))

boolean_of_text_is : (t : Text) → IfOk (boolean_of_text t) IsLegible
boolean_of_text_is t =
    let is_false = text_eq t (codes "false") || text_eq t (codes "0") in
    let other : Judged Atomic = if is_false then Ok (Boolean false) else Err FORG0001 in
    either_holds IsLegible (text_eq t (codes "true") || text_eq t (codes "1")) (Ok (Boolean true)) other tt
    (either_holds IsLegible is_false (Ok (Boolean false)) (Err FORG0001) tt tt)

cast_integer_is : (a : Atomic) → IfOk (cast_integer a) IsLegible
cast_integer_is (Integer n) = tt
cast_integer_is (Decimal m) = only_if_holds IsLegible (is_integer (int_div m one)) FOCA0003 (Integer (int_div m one)) tt
cast_integer_is (String t) = integer_of_text_is (trimmed t)
cast_integer_is (Boolean b) = tt
cast_integer_is (Untyped t) = integer_of_text_is (trimmed t)

cast_decimal_is : (a : Atomic) → IfOk (cast_decimal a) IsLegible
cast_decimal_is (Integer n) = tt
cast_decimal_is (Decimal m) = tt
cast_decimal_is (String t) = decimal_of_text_is (trimmed t)
cast_decimal_is (Boolean b) = tt
cast_decimal_is (Untyped t) = decimal_of_text_is (trimmed t)

cast_boolean_is : (a : Atomic) → IfOk (cast_boolean a) IsLegible
cast_boolean_is (Integer n) = tt
cast_boolean_is (Decimal m) = tt
cast_boolean_is (String t) = boolean_of_text_is (trimmed t)
cast_boolean_is (Boolean b) = tt
cast_boolean_is (Untyped t) = boolean_of_text_is (trimmed t)

-- # Aggregates

added_is : (total : Atomic) (as' : List Atomic) → IsLegible total → IfOk (added total as') IsLegible
added_is total [] h = h
added_is total (a ∷ as') h = next_holds IsLegible IsLegible (add total a) _ (add_is total a) (λ next p. added_is next as' p)

sum_answer : (as' : List Atomic) → IsAnswer (sum as')
sum_answer as' = always_holds AreLegible (each summand as') _ (λ numbers. as_items_answer (added (Integer (pos 0)) numbers) (added_is (Integer (pos 0)) numbers tt))

chosen_is : (b : Bool) (x y : Atomic) → IsLegible x → IsLegible y → IsLegible (chosen b x y)
chosen_is true x y h k = h
chosen_is false x y h k = k

best_is : (better : Atomic → Atomic → Bool) (a : Atomic) (bs : List Atomic) → IsLegible a → AllByRecursion IsLegible bs → IsLegible (best better a bs)
best_is better a [] h k = h
best_is better a (b ∷ bs) h k = best_is better (chosen (better b a) b a) bs (chosen_is (better b a) b a k.0 h) k.1

extreme_answer : (better : Atomic → Atomic → Bool) (as' : List Atomic) → AllByRecursion IsLegible as' → IsAnswer (extreme better as')
extreme_answer better [] h = tt
extreme_answer better (a ∷ as') h =
    always_holds AreLegible (each (comparable a) (a ∷ as')) _ (λ values. (best_is better a as' h.0 h.1, tt))

-- # Sequences

pub firsts_are : {A : Type 0} (P : A → Type 0) (same : A → A → Bool) (xs : List A) → AllByRecursion P xs → AllByRecursion P (firsts same xs)
firsts_are P same [] h = tt
firsts_are P same (x ∷ xs) h = (h.0, all_filter P (λ y. not (same x y)) (firsts same xs) (firsts_are P same xs h.1))

distinct_are : (as' : List Atomic) → AllByRecursion IsLegible as' → AllByRecursion IsLegible (distinct_values as')
distinct_are as' h = firsts_are IsLegible (λ a b. key_eq (key a) (key b)) as' h

head_answer : (xs : List Item) → AreLegible xs → AreLegible (head xs)
head_answer [] h = tt
head_answer (x ∷ xs) h = (h.0, tt)

tail_answer : (xs : List Item) → AreLegible xs → AreLegible (tail xs)
tail_answer [] h = tt
tail_answer (x ∷ xs) h = h.1

zero_or_one_answer : (xs : List Item) → AreLegible xs → IsAnswer (zero_or_one xs)
zero_or_one_answer [] h = tt
zero_or_one_answer (x ∷ []) h = h
zero_or_one_answer (x ∷ y ∷ xs) h = tt

one_or_more_answer : (xs : List Item) → AreLegible xs → IsAnswer (one_or_more xs)
one_or_more_answer [] h = tt
one_or_more_answer (x ∷ xs) h = h

exactly_one_answer : (xs : List Item) → AreLegible xs → IsAnswer (exactly_one xs)
exactly_one_answer [] h = tt
exactly_one_answer (x ∷ []) h = h
exactly_one_answer (x ∷ y ∷ xs) h = tt

-- # Documents and nodes: a root is a node

document_from_answer : (n : ℕ) (addresses : List Text) (address : Text) → IsAnswer (document_from n addresses address)
document_from_answer n [] address = tt
document_from_answer n (a ∷ as') address = by_test (text_eq a address) refl (document_from_answer (suc n) as' address)
  where
    by_test : (b : Bool) → text_eq a address ≡ b → IsAnswer (document_from (suc n) as' address) → IsAnswer (document_from n (a ∷ as') address)
    by_test true e rest = rw e (tt, tt)
    by_test false e rest = rw e rest

document_answer : (addresses : List Text) (address : Text) → IsAnswer (document addresses address)
document_answer addresses address = always_holds AreLegible (only_if _ _ address) _ (λ good. document_from_answer 0 addresses good)

doc_answer : (addresses : List Text) (as' : List Atomic) → AllByRecursion IsLegible as' → IsAnswer (doc addresses as')
doc_answer addresses = on_optional_answer _ (λ a h. always_holds AreLegible (text_argument a) _ (λ t. document_answer addresses t))

available_answer : (addresses : List Text) (as' : List Atomic) → IsAnswer (functions.doc_available addresses as')
available_answer addresses [] = (tt, tt)
available_answer addresses (a ∷ []) = always_holds AreLegible (text_argument a) _ (λ t. (tt, tt))
available_answer addresses (a ∷ b ∷ more) = tt

root_answer : (xs : List Item) → IsAnswer (functions.root xs)
root_answer [] = tt
root_answer (Node p ∷ []) = (tt, tt)
root_answer (Atom a ∷ []) = tt
root_answer (x ∷ y ∷ more) = tt

collection_answer : (addresses : List Text) → AreLegible (collection addresses)
collection_answer addresses =
    all_map IsLegibleItem (λ n. Node (root_of n)) (range_with_len 0 (length addresses)) (all_of (λ n. Unit {0}) (λ n. tt) (range_with_len 0 (length addresses)))

-- # Texts

of_texts_answer : (result : Text → Text → List Item) → ((s t : Text) → IsCharacters s → IsCharacters t → AreLegible (result s t)) → (as' bs : List Atomic) → AllByRecursion IsLegible as' → AllByRecursion IsLegible bs
    → IsAnswer (of_texts result as' bs)
of_texts_answer result k as' bs h g =
    next_holds IsCharacters AreLegible (optional_text as') _ (optional_text_is as' h) (λ s p.
    next_holds IsCharacters AreLegible (optional_text bs) _ (optional_text_is bs g) (λ t q. k s t p q))

concat_answer : (lists : List (List Atomic)) → AllByRecursion (AllByRecursion IsLegible) lists → IsAnswer (concat lists)
concat_answer lists h =
    next_holds (AllByRecursion IsCharacters) AreLegible (each piece lists) _ (each_holds IsCharacters piece lists (pieces_are lists h)) (λ pieces p. (joined_text [] none pieces p, tt))

from_answer : (as' bs : List Atomic) → AllByRecursion IsLegible as' → IsAnswer (of_two f.Substring as' bs)
from_answer as' bs h =
    next_holds IsCharacters AreLegible (optional_text as') _ (optional_text_is as' h) (λ t p.
    always_holds AreLegible (one_count bs) _ (λ n. (part_text (λ p. int_le n p) t p, tt)))

between_answer : (as' bs cs : List Atomic) → AllByRecursion IsLegible as' → IsAnswer (of_three f.Substring as' bs cs)
between_answer as' bs cs h =
    next_holds IsCharacters AreLegible (optional_text as') _ (optional_text_is as' h) (λ t p.
    always_holds AreLegible (one_count bs) _ (λ n. always_holds AreLegible (one_count cs) _ (λ l.
    (part_text (λ p. int_le n p && int_lt p (n +ℤ l)) t p, tt))))

-- # All functions

-- the context item is legible, where there is one
abbrev pub HasLegibleItem : Option Focus → Type 0
HasLegibleItem None = Unit {0}
HasLegibleItem (Some focus) = IsLegibleItem focus.item

module _ (trees : List Tree) (are : AreTrees trees) where
  name_answer : (xs : List Item) → IsAnswer (name trees xs)
  name_answer [] = (none, tt)
  name_answer (Node p ∷ []) = (name_at trees are p, tt)
  name_answer (Atom a ∷ []) = tt
  name_answer (x ∷ y ∷ more) = tt

  string_answer : (xs : List Item) → AreLegible xs → IsAnswer (string trees xs)
  string_answer [] h = (none, tt)
  string_answer (x ∷ []) h = (item_characters trees are x h.0, tt)
  string_answer (x ∷ y ∷ more) h = tt

  -- what gives no text of a value
  numbers_answer : (op : Atomic → Judged Atomic) → ((a : Atomic) → IfOk (op a) IsLegible) → (xs : List Item) → AreLegible xs → IsAnswer (on_optional (λ a. as_items (op a)) (atomized trees xs))
  numbers_answer op k xs h = on_optional_answer _ (λ a p. as_items_answer (op a) (k a)) (atomized trees xs) (atoms_legible trees are xs h)

  pub one_answer : (function : Function) (addresses : List Text) (xs : List Item) → AreLegible xs → IsAnswer (of_one function trees addresses xs)
  one_answer f.Doc addresses xs h = doc_answer addresses (atomized trees xs) (atoms_legible trees are xs h)
  one_answer f.DocAvailable addresses xs h = available_answer addresses (atomized trees xs)
  one_answer f.Root addresses xs h = root_answer xs
  one_answer f.Name addresses xs h = name_answer xs
  one_answer f.LocalName addresses xs h = name_answer xs
  one_answer f.String addresses xs h = string_answer xs h
  one_answer f.Data addresses xs h = atoms_answer (atomized trees xs) (atoms_legible trees are xs h)
  one_answer f.StringLength addresses xs h = always_holds AreLegible (optional_text (atomized trees xs)) _ (λ t. (tt, tt))
  one_answer f.NormalizeSpace addresses xs h =
      next_holds IsCharacters AreLegible (optional_text (atomized trees xs)) _ (optional_text_is (atomized trees xs) (atoms_legible trees are xs h))
      (λ t p. (normalized_text t p, tt))
  one_answer f.StringJoin addresses xs h = (flat_text (atomized trees xs) (atoms_legible trees are xs h), tt)
  one_answer f.Count addresses xs h = (tt, tt)
  one_answer f.Empty addresses xs h = (tt, tt)
  one_answer f.Exists addresses xs h = (tt, tt)
  one_answer f.Head addresses xs h = head_answer xs h
  one_answer f.Tail addresses xs h = tail_answer xs h
  one_answer f.Reverse addresses xs h = all_reverse IsLegibleItem xs h
  one_answer f.DistinctValues addresses xs h =
      atoms_answer (distinct_values (atomized trees xs)) (distinct_are (atomized trees xs) (atoms_legible trees are xs h))
  one_answer f.ZeroOrOne addresses xs h = zero_or_one_answer xs h
  one_answer f.OneOrMore addresses xs h = one_or_more_answer xs h
  one_answer f.ExactlyOne addresses xs h = exactly_one_answer xs h
  one_answer f.Not addresses xs h = always_holds AreLegible (effective xs) _ (λ b. (tt, tt))
  one_answer f.Boolean addresses xs h = as_boolean_answer (effective xs)
  one_answer f.Sum addresses xs h = sum_answer (atomized trees xs)
  one_answer f.Min addresses xs h = extreme_answer is_less (atomized trees xs) (atoms_legible trees are xs h)
  one_answer f.Max addresses xs h = extreme_answer is_greater (atomized trees xs) (atoms_legible trees are xs h)
  one_answer f.Abs addresses xs h = numbers_answer abs (on_one_is (λ n. pos (nat_abs n)) (λ m. pos (nat_abs m))) xs h
  one_answer f.Floor addresses xs h = numbers_answer floor (on_one_is (λ n. n) floored) xs h
  one_answer f.Ceiling addresses xs h = numbers_answer ceiling (on_one_is (λ n. n) raised) xs h
  one_answer f.Round addresses xs h = numbers_answer round (on_one_is (λ n. n) rounded) xs h
  one_answer f.ToInteger addresses xs h = numbers_answer cast_integer cast_integer_is xs h
  one_answer f.ToDecimal addresses xs h = numbers_answer cast_decimal cast_decimal_is xs h
  one_answer f.ToBoolean addresses xs h = numbers_answer cast_boolean cast_boolean_is xs h
  one_answer f.ToString addresses xs h = on_optional_answer _ (λ a p. (cast_text a p, tt)) (atomized trees xs) (atoms_legible trees are xs h)
  one_answer f.ToUntyped addresses xs h = on_optional_answer _ (λ a p. (cast_text a p, tt)) (atomized trees xs) (atoms_legible trees are xs h)
  one_answer _ addresses xs h = tt

  -- the argument that the context item stands for
  argument_is : (function : Function) (x : Item) → IsLegibleItem x → IsAnswer (context_argument function trees x)
  argument_is f.Root x h = (h, tt)
  argument_is f.Name x h = (h, tt)
  argument_is f.LocalName x h = (h, tt)
  argument_is f.String x h = (h, tt)
  argument_is f.Data x h = (h, tt)
  argument_is f.StringLength x h = (item_characters trees are x h, tt)
  argument_is f.NormalizeSpace x h = (item_characters trees are x h, tt)
  argument_is _ x h = tt

  context_answer : (function : Function) (addresses : List Text) (focus : Option Focus) → HasLegibleItem focus → IsAnswer (of_focus focus (of_context function trees addresses))
  context_answer function addresses None h = tt
  context_answer function addresses (Some focus) h =
      next_holds AreLegible AreLegible (context_argument function trees focus.item) _ (argument_is function focus.item h) (one_answer function addresses)

  count_answer : (focus : Option Focus) (count : Focus → ℕ) → IsAnswer (of_focus focus (λ here. Ok (whole (count here))))
  count_answer None count = tt
  count_answer (Some focus) count = (tt, tt)

  none_answer : (function : Function) (addresses : List Text) (focus : Option Focus) → HasLegibleItem focus → IsAnswer (of_none function trees addresses focus)
  none_answer f.Collection addresses focus h = collection_answer addresses
  none_answer f.True addresses focus h = (tt, tt)
  none_answer f.False addresses focus h = (tt, tt)
  none_answer f.Position addresses focus h = count_answer focus (λ here. here.position)
  none_answer f.Last addresses focus h = count_answer focus (λ here. here.last)
  none_answer function addresses focus h = context_answer function addresses focus h

  -- lists of items, atomized
  lists_legible : (lists : List (List Item)) → AllByRecursion AreLegible lists → AllByRecursion (AllByRecursion IsLegible) (map (atomized trees) lists)
  lists_legible lists h = all_map (AllByRecursion IsLegible) (atomized trees) lists (all_weaker AreLegible _ (atoms_legible trees are) lists h)

two_answer : (function : Function) (as' bs : List Atomic) → AllByRecursion IsLegible as' → AllByRecursion IsLegible bs → IsAnswer (of_two function as' bs)
two_answer f.Concat as' bs h g = concat_answer (as' ∷ bs ∷ []) (h, (g, tt))
two_answer f.StringJoin as' bs h g =
    next_holds IsCharacters AreLegible (one_text bs) _ (one_text_is bs g) (λ t p. (joined_text t p (map text_of as') (cast_texts as' h), tt))
two_answer f.Contains as' bs h g = of_texts_answer _ (λ s t p q. (tt, tt)) as' bs h g
two_answer f.StartsWith as' bs h g = of_texts_answer _ (λ s t p q. (tt, tt)) as' bs h g
two_answer f.EndsWith as' bs h g = of_texts_answer _ (λ s t p q. (tt, tt)) as' bs h g
two_answer f.SubstringBefore as' bs h g = of_texts_answer _ (λ s t p q. (before_text s t p q, tt)) as' bs h g
two_answer f.SubstringAfter as' bs h g = of_texts_answer _ (λ s t p q. (after_text s t p q, tt)) as' bs h g
two_answer f.Substring as' bs h g = from_answer as' bs h
two_answer _ as' bs h g = tt

three_answer : (function : Function) (as' bs cs : List Atomic) → AllByRecursion IsLegible as' → AllByRecursion IsLegible bs → AllByRecursion IsLegible cs → IsAnswer (of_three function as' bs cs)
three_answer f.Concat as' bs cs h g k = concat_answer (as' ∷ bs ∷ cs ∷ []) (h, (g, (k, tt)))
three_answer f.Substring as' bs cs h g k = between_answer as' bs cs h
three_answer _ as' bs cs h g k = tt

many_answer : (function : Function) (lists : List (List Atomic)) → AllByRecursion (AllByRecursion IsLegible) lists → IsAnswer (of_many function lists)
many_answer f.Concat lists h = concat_answer lists h
many_answer _ lists h = tt

pub call_answer : (trees : List Tree) → AreTrees trees → (function : Function) (addresses : List Text) (focus : Option Focus) → HasLegibleItem focus → (values : List (List Item)) → AllByRecursion AreLegible values
    → IsAnswer (called function trees addresses focus values)
call_answer trees are function addresses focus g [] h = none_answer trees are function addresses focus g
call_answer trees are function addresses focus g (xs ∷ []) h = one_answer trees are function addresses xs h.0
call_answer trees are function addresses focus g (xs ∷ ys ∷ []) h =
    two_answer function (atomized trees xs) (atomized trees ys) (atoms_legible trees are xs h.0) (atoms_legible trees are ys h.1.0)
call_answer trees are function addresses focus g (xs ∷ ys ∷ zs ∷ []) h =
    three_answer function (atomized trees xs) (atomized trees ys) (atomized trees zs) (atoms_legible trees are xs h.0) (atoms_legible trees are ys h.1.0) (atoms_legible trees are zs h.1.1.0)
call_answer trees are function addresses focus g (w ∷ xs ∷ ys ∷ zs ∷ more) h =
    many_answer function (map (atomized trees) (w ∷ xs ∷ ys ∷ zs ∷ more)) (lists_legible trees are (w ∷ xs ∷ ys ∷ zs ∷ more) h)

-- # Operators

both_answer : {B : Type 0} (judge : List Atomic → Judged B) (result : B → B → Judged (List Item)) → ((a b : B) → IsAnswer (result a b)) → (as' bs : List Atomic) → IsAnswer (of_both judge result as' bs)
both_answer judge result k [] bs = tt
both_answer judge result k (a ∷ as') [] = tt
both_answer judge result k (a ∷ as') (b ∷ bs) =
    always_holds AreLegible (judge (a ∷ as')) _ (λ x. always_holds AreLegible (judge (b ∷ bs)) _ (λ y. k x y))

both_nodes_answer : {B : Type 0} (judge : List Item → Judged B) (result : B → B → Judged (List Item)) → ((a b : B) → IsAnswer (result a b)) → (xs ys : List Item) → IsAnswer (of_both judge result xs ys)
both_nodes_answer judge result k [] ys = tt
both_nodes_answer judge result k (x ∷ xs) [] = tt
both_nodes_answer judge result k (x ∷ xs) (y ∷ ys) =
    always_holds AreLegible (judge (x ∷ xs)) _ (λ p. always_holds AreLegible (judge (y ∷ ys)) _ (λ q. k p q))

sum_of_is : (s : Sign) (a b : Atomic) → IfOk (sum_of s a b) IsLegible
sum_of_is Plus = add_is
sum_of_is Minus = sub_is

product_of_is : (o : ProductOperator) (a b : Atomic) → IfOk (product_of o a b) IsLegible
product_of_is Times = mul_is
product_of_is Div = div_is
product_of_is Idiv = idiv_is
product_of_is Mod = modulo_is

calculated_answer : (op : Atomic → Atomic → Judged Atomic) → ((a b : Atomic) → IfOk (op a b) IsLegible) → (trees : List Tree) (xs ys : List Item) → IsAnswer (calculated op trees xs ys)
calculated_answer op k trees xs ys = both_answer number_operand _ (λ a b. as_items_answer (op a b) (k a b)) (atomized trees xs) (atomized trees ys)

sign_is : (s : Sign) (a : Atomic) → IfOk (sign_of s a) IsLegible
sign_is Plus a = numeric_is a
sign_is Minus a = on_one_is neg_ℤ neg_ℤ a

signs_are : (signs : List Sign) (a : Atomic) → IfOk (with_signs signs a) IsLegible
signs_are [] a = numeric_is a
signs_are (s ∷ ss) a = always_holds IsLegible (with_signs ss a) _ (λ b. sign_is s b)

pub signed_answer : (signs : List Sign) (as' : List Atomic) → IsAnswer (signed signs as')
signed_answer signs [] = tt
signed_answer signs (a ∷ as') = always_holds AreLegible (number_operand (a ∷ as')) _ (λ b. as_items_answer (with_signs signs b) (signs_are signs b))

integers_legible : (m : ℤ) (n : ℕ) → AreLegible (integers_from m n)
integers_legible m zero = tt
integers_legible m (suc n) = (tt, integers_legible (m +ℤ pos 1) n)

within_answer : (b : Bool) (m : ℤ) (n : ℕ) → IsAnswer (integers_within b m n)
within_answer true m n = integers_legible m n
within_answer false m n = tt

range_answer : (trees : List Tree) (xs ys : List Item) → IsAnswer (range trees xs ys)
range_answer trees xs ys = both_answer one_bound integers (λ m n. within_answer _ m _) (atomized trees xs) (atomized trees ys)

concatenated_answer : (trees : List Tree) → AreTrees trees → (xs ys : List Item) → AreLegible xs → AreLegible ys → IsAnswer (concatenated trees xs ys)
concatenated_answer trees are xs ys h g =
    next_holds IsCharacters AreLegible (piece (atomized trees xs)) _ (piece_is (atomized trees xs) (atoms_legible trees are xs h)) (λ s p.
    next_holds IsCharacters AreLegible (piece (atomized trees ys)) _ (piece_is (atomized trees ys) (atoms_legible trees are ys g)) (λ t q.
    (both s t p q, tt)))

compared_answer : (op : ComparisonOperator) (trees : List Tree) (xs ys : List Item) → IsAnswer (compared op trees xs ys)
compared_answer (comparing.Value op) trees xs ys = both_answer single _ (λ a b. as_boolean_answer _) (atomized trees xs) (atomized trees ys)
compared_answer (comparing.General op) trees xs ys = as_boolean_answer _
compared_answer (comparing.Node op) trees xs ys = both_nodes_answer one_node _ (λ p q. (tt, tt)) xs ys

pub order_answer : (trees : List Tree) (places : List Place) → AreLegible (in_order trees places)
order_answer trees places = nodes_answer _

from_nodes_answer : (result : List Place → List Place → List Place) (trees : List Tree) (xs ys : List Item) → IsAnswer (from_nodes result trees xs ys)
from_nodes_answer result trees xs ys =
    always_holds AreLegible (all_nodes _ xs) _ (λ ps. always_holds AreLegible (all_nodes _ ys) _ (λ qs. order_answer trees (result ps qs)))

pub operated_answer : (op : Operator) (trees : List Tree) → AreTrees trees → (xs ys : List Item) → AreLegible xs → AreLegible ys → IsAnswer (operated op trees xs ys)
operated_answer (operator.Sum op) trees are xs ys h g = calculated_answer (sum_of op) (sum_of_is op) trees xs ys
operated_answer (operator.Product op) trees are xs ys h g = calculated_answer (product_of op) (product_of_is op) trees xs ys
operated_answer operator.Range trees are xs ys h g = range_answer trees xs ys
operated_answer operator.Concat trees are xs ys h g = concatenated_answer trees are xs ys h g
operated_answer (operator.Comparison op) trees are xs ys h g = compared_answer op trees xs ys
operated_answer operator.Union trees are xs ys h g = from_nodes_answer _ trees xs ys
operated_answer (operator.SetOperation op) trees are xs ys h g = from_nodes_answer (set_of op) trees xs ys

-- # Paths

atoms_or_none : (b : Bool) (xs : List Item) → AreLegible xs → IsAnswer (all_atoms b xs)
atoms_or_none true xs h = h
atoms_or_none false xs h = tt

nodes_or_atoms_answer : (trees : List Tree) (xs : List Item) (r : Judged (List Place)) → AreLegible xs → IsAnswer (nodes_or_atoms trees xs r)
nodes_or_atoms_answer trees xs (Ok places) h = order_answer trees places
nodes_or_atoms_answer trees xs (Err code) h = atoms_or_none (are_atoms xs) xs h

pub gathered_answer : (trees : List Tree) (xs : List Item) → AreLegible xs → IsAnswer (gathered trees xs)
gathered_answer trees xs h = nodes_or_atoms_answer trees xs _ h
