-- How arguments of functions are converted, and results made: XQuery 3.1, 3.1.5.2 and 2.4.3.
use Rattle.std.specs.Prelude.{ℕ, ◌^◌, ℤ, pos, nat_abs, List, [], ◌∷◌, Bool, true, false, not, nat_le, Option, Some, None, Ok, Err}
use Rattle.xq_atoms.specs.declared.refusals.Code.{Code}
use Rattle.xq_atoms.specs.declared.refusals.Code.TheVariants.{XPTY0004, FORG0006, ProfDouble}
use Rattle.xq_atoms.specs.Judged.{Judged, ◌>>=◌, only_if}
use Rattle.xq_atoms.specs.Text.{Text, is_empty}
use Rattle.xq_atoms.specs.Atom.{Atomic, Integer, Decimal, String, Boolean, Untyped}
use Rattle.xq_atoms.specs.Arithmetic.{is_zero}
use Rattle.xq_meaning.specs.Items.{Place, Item, Node, Atom}

-- a judgement on each, from the first to the last
abbrev pub each : {A B : Type 0} → (A → Judged B) → List A → Judged (List B)
each judge [] = Ok []
each judge (x ∷ xs) = do y ← judge x; ys ← each judge xs; Ok (y ∷ ys)

-- # Results

-- one atomic value as a result
abbrev pub atomic : Atomic → List Item
atomic a = Atom a ∷ []

-- a whole number from 0 on, as one integer
abbrev pub whole : ℕ → List Item
whole n = atomic (Integer (pos n))

-- one boolean as a result
abbrev pub boolean : Bool → List Item
boolean b = atomic (Boolean b)

-- one string as a result
abbrev pub text : Text → List Item
text t = atomic (String t)

-- the atomic value as a result, or its refusal
abbrev pub as_items : Judged Atomic → Judged (List Item)
as_items result = do a ← result; Ok (atomic a)

-- the boolean as a result, or its refusal
abbrev pub as_boolean : Judged Bool → Judged (List Item)
as_boolean result = do b ← result; Ok (boolean b)

-- # How many items an argument may have

-- none or one; more are refused
abbrev pub optional : {A : Type 0} → List A → Judged (Option A)
optional [] = Ok None
optional (a ∷ []) = Ok (Some a)
optional (a ∷ b ∷ more) = Err XPTY0004

-- exactly one; none, and more, are refused
abbrev pub single : {A : Type 0} → List A → Judged A
single (a ∷ []) = Ok a
single as' = Err XPTY0004

-- the result for an argument, or another one where there is none
abbrev pub if_given : {A B : Type 0} → B → (A → Judged B) → Option A → Judged B
if_given other result None = Ok other
if_given other result (Some a) = result a

-- what is done with one value, and () for ()
abbrev pub on_optional : {A : Type 0} → (A → Judged (List Item)) → List A → Judged (List Item)
on_optional result as' = do a ← optional as'; if_given [] result a

-- # Which items an argument may have

-- a string, or an untyped value as a string
abbrev pub text_argument : Atomic → Judged Text
text_argument (String t) = Ok t
text_argument (Untyped t) = Ok t
text_argument a = Err XPTY0004

-- exactly one value, which is a string or an untyped one
abbrev pub one_text : List Atomic → Judged Text
one_text as' = do a ← single as'; text_argument a

-- one string, or none, which is taken as the empty one
abbrev pub optional_text : List Atomic → Judged Text
optional_text as' = do a ← optional as'; if_given [] text_argument a

-- a node; an atomic value is refused
abbrev pub node_argument : Item → Judged Place
node_argument (Node p) = Ok p
node_argument (Atom a) = Err XPTY0004

-- a position or a length: an integer of at most 10^9 to either side; the standard takes doubles
abbrev pub count_argument : Atomic → Judged ℤ
count_argument (Integer n) = only_if (nat_le (nat_abs n) (10 ^ 9)) ProfDouble n
count_argument (Decimal m) = Err ProfDouble
count_argument (Untyped t) = Err ProfDouble
count_argument a = Err XPTY0004

-- exactly one value, which is a position or a length
abbrev pub one_count : List Atomic → Judged ℤ
one_count as' = do a ← single as'; count_argument a

-- # 2.4.3: the effective boolean value

-- of one atomic value: a number is not zero, a text not empty, a boolean is itself
abbrev pub truth : Atomic → Bool
truth (Integer n) = not (is_zero n)
truth (Decimal m) = not (is_zero m)
truth (String t) = not (is_empty t)
truth (Boolean b) = b
truth (Untyped t) = not (is_empty t)

-- () is false; a first item that is a node is true; else one atomic value by itself
abbrev pub effective : List Item → Judged Bool
effective [] = Ok false
effective (Node p ∷ xs) = Ok true
effective (Atom a ∷ []) = Ok (truth a)
effective (Atom a ∷ x ∷ xs) = Err FORG0006

-- # Items that have to be nodes

-- a node; an atomic value is refused with that code
abbrev pub node_or : Code → Item → Judged Place
node_or code (Node p) = Ok p
node_or code (Atom a) = Err code

-- items that all are nodes; else they are refused with that code
abbrev pub all_nodes : Code → List Item → Judged (List Place)
all_nodes code xs = each (node_or code) xs
