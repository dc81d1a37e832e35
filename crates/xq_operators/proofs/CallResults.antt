-- A call of a function gives atoms, or nodes of the trees.
use Rattle.std.proofs.Common.{◌≡◌, ℕ, zero, suc, ◌+◌, ◌≤◌, List, [], ◌∷◌, ◌++◌, length, map, reverse, Bool, true, false, Option, Some, None, Ok, Err, refl, sym, subst, arith}
use Rattle.std.specs.List.{AllByRecursion, range_with_len}
use Rattle.std.proofs.lemmas.Grind.{reverse_onto}
use Rattle.xq_atoms.specs.Judged.{Judged, ◌>>=◌}
use Rattle.xq_atoms.specs.Text.{Text, text_eq}
use Rattle.xq_atoms.specs.Atom.{Atomic}
use Rattle.xq_trees.specs.Tree.{Tree}
use Rattle.xq_expressions.specs.declared.signatures.Function.{Function}
use Rattle.xq_expressions.specs.declared.signatures.Function.TheVariants as f
use Rattle.xq_meaning.specs.Items.{Item, Node, Atom, root_of, atomized}
use Rattle.xq_meaning.specs.Arguments.{optional, if_given, on_optional, text_argument, node_argument, effective, boolean, each, one_text, one_count, optional_text, whole, text}
use Rattle.xq_meaning.specs.Functions as fn
use Rattle.xq_operators.proofs.AtomResults.{IsAtom, OnlyAtoms, then_atoms, as_items_atoms, as_boolean_atoms}
use Rattle.xq_operators.proofs.Existing.{Exists, Exist}

abbrev pub ExistIn : List Tree → Judged (List Item) → Type 0
ExistIn trees (Ok xs) = Exist trees xs
ExistIn trees (Err code) = Unit {0}

-- # Atoms

of_atoms : (trees : List Tree) (xs : List Item) → AllByRecursion IsAtom xs → Exist trees xs
of_atoms trees [] h = tt
of_atoms trees (Node p ∷ xs) h = absurd h.0
of_atoms trees (Atom a ∷ xs) h = (tt, of_atoms trees xs h.1)

pub atoms_exist : (trees : List Tree) (r : Judged (List Item)) → OnlyAtoms r → ExistIn trees r
atoms_exist trees (Ok xs) h = of_atoms trees xs h
atoms_exist trees (Err code) h = tt

given_atoms : {A : Type 0} (other : List Item) (result : A → Judged (List Item)) (x : Option A) → AllByRecursion IsAtom other → ((a : A) → OnlyAtoms (result a)) → OnlyAtoms (if_given other result x)
given_atoms other result None h k = h
given_atoms other result (Some a) h k = k a

optional_atoms : {A : Type 0} (result : A → Judged (List Item)) (xs : List A) → ((a : A) → OnlyAtoms (result a)) → OnlyAtoms (on_optional result xs)
optional_atoms result xs k = then_atoms (optional xs) (if_given [] result) (λ x. given_atoms [] result x tt k)

mapped_atoms : (as' : List Atomic) → AllByRecursion IsAtom (map Atom as')
mapped_atoms [] = tt
mapped_atoms (a ∷ as') = (tt, mapped_atoms as')

texts_atoms : (result : Text → Text → List Item) (as' bs : List Atomic) → ((s t : Text) → AllByRecursion IsAtom (result s t)) → OnlyAtoms (fn.of_texts result as' bs)
texts_atoms result as' bs h = then_atoms (optional_text as') (λ s. optional_text bs >>= (λ t. Ok (result s t))) (λ s. then_atoms (optional_text bs) (λ t. Ok (result s t)) (λ t. h s t))

concat_atoms : (lists : List (List Atomic)) → OnlyAtoms (fn.concat lists)
concat_atoms lists = then_atoms (each fn.piece lists) _ (λ ps. (tt, tt))

extreme_atoms : (better : Atomic → Atomic → Bool) (as' : List Atomic) → OnlyAtoms (fn.extreme better as')
extreme_atoms better [] = tt
extreme_atoms better (a ∷ as') = then_atoms (each (fn.comparable a) (a ∷ as')) _ (λ vs. (tt, tt))

available_atoms : (addresses : List Text) (as' : List Atomic) → OnlyAtoms (fn.doc_available addresses as')
available_atoms addresses as' =
    then_atoms (optional as') _ (λ x. given_atoms (boolean false) (λ b. text_argument b >>= (λ t. Ok (boolean (fn.is_there addresses t)))) x (tt, tt)
    (λ b. then_atoms (text_argument b) (λ t. Ok (boolean (fn.is_there addresses t))) (λ t. (tt, tt))))

name_atoms : (trees : List Tree) (xs : List Item) → OnlyAtoms (fn.name trees xs)
name_atoms trees xs = then_atoms (optional xs) _ (λ x. given_atoms (text []) _ x (tt, tt) (λ y. then_atoms (node_argument y) _ (λ p. (tt, tt))))

string_atoms : (trees : List Tree) (xs : List Item) → OnlyAtoms (fn.string trees xs)
string_atoms trees xs = then_atoms (optional xs) _ (λ x. given_atoms (text []) _ x (tt, tt) (λ y. (tt, tt)))

two_atoms : (function : Function) (as' bs : List Atomic) → OnlyAtoms (fn.of_two function as' bs)
two_atoms f.Concat as' bs = concat_atoms (as' ∷ bs ∷ [])
two_atoms f.StringJoin as' bs = then_atoms (one_text bs) _ (λ t. (tt, tt))
two_atoms f.Contains as' bs = texts_atoms _ as' bs (λ s t. (tt, tt))
two_atoms f.StartsWith as' bs = texts_atoms _ as' bs (λ s t. (tt, tt))
two_atoms f.EndsWith as' bs = texts_atoms _ as' bs (λ s t. (tt, tt))
two_atoms f.SubstringBefore as' bs = texts_atoms _ as' bs (λ s t. (tt, tt))
two_atoms f.SubstringAfter as' bs = texts_atoms _ as' bs (λ s t. (tt, tt))
two_atoms f.Substring as' bs = then_atoms (optional_text as') _ (λ t. then_atoms (one_count bs) _ (λ n. (tt, tt)))
two_atoms function as' bs = tt

three_atoms : (function : Function) (as' bs cs : List Atomic) → OnlyAtoms (fn.of_three function as' bs cs)
three_atoms f.Concat as' bs cs = concat_atoms (as' ∷ bs ∷ cs ∷ [])
three_atoms f.Substring as' bs cs = then_atoms (optional_text as') _ (λ t. then_atoms (one_count bs) _ (λ n. then_atoms (one_count cs) _ (λ l. (tt, tt))))
three_atoms function as' bs cs = tt

many_atoms : (function : Function) (lists : List (List Atomic)) → OnlyAtoms (fn.of_many function lists)
many_atoms f.Concat lists = concat_atoms lists
many_atoms function lists = tt

-- # Nodes

pub then_exist : {A : Type 0} (trees : List Tree) (r : Judged A) (next : A → Judged (List Item)) → ((a : A) → ExistIn trees (next a)) → ExistIn trees (r >>= next)
then_exist trees (Ok a) next h = h a
then_exist trees (Err code) next h = tt

on_exist : (trees : List Tree) (r : Judged (List Item)) (next : List Item → Judged (List Item)) → ExistIn trees r → ((xs : List Item) → Exist trees xs → ExistIn trees (next xs)) → ExistIn trees (r >>= next)
on_exist trees (Ok xs) next h k = k xs h
on_exist trees (Err code) next h k = tt

document_exists : (trees : List Tree) (n : ℕ) (addresses : List Text) (address : Text) → n + length addresses ≤ length trees → ExistIn trees (fn.document_from n addresses address)
document_exists trees n [] address h = tt
document_exists trees n (a ∷ as') address h = by (text_eq a address) refl (document_exists trees (suc n) as' address (omega arith))
  where
    by : (b : Bool) → text_eq a address ≡ b → ExistIn trees (fn.document_from (suc n) as' address) → ExistIn trees (fn.document_from n (a ∷ as') address)
    by true e rest = rw e ((omega arith, tt), tt)
    by false e rest = rw e rest

doc_exists : (trees : List Tree) (addresses : List Text) (as' : List Atomic) → length addresses ≤ length trees → ExistIn trees (fn.doc addresses as')
doc_exists trees addresses [] h = tt
doc_exists trees addresses (a ∷ []) h =
    then_exist trees (text_argument a) _ (λ t. then_exist trees _ _ (λ good. document_exists trees 0 addresses good (omega (arith, h))))
doc_exists trees addresses (a ∷ b ∷ more) h = tt

root_exists : (trees : List Tree) (xs : List Item) → Exist trees xs → ExistIn trees (fn.root xs)
root_exists trees [] h = tt
root_exists trees (Node p ∷ []) h = ((h.0.0, tt), tt)
root_exists trees (Atom a ∷ []) h = tt
root_exists trees (x ∷ y ∷ more) h = tt

collection_exists : (trees : List Tree) (a n : ℕ) → a + n ≤ length trees → Exist trees (map (λ k. Node (root_of k)) (range_with_len a n))
collection_exists trees a zero h = tt
collection_exists trees a (suc n) h = ((omega arith, tt), collection_exists trees (a + 1) n (omega arith))

append_exist : (trees : List Tree) (xs ys : List Item) → Exist trees xs → Exist trees ys → Exist trees (xs ++ ys)
append_exist trees [] ys h k = k
append_exist trees (x ∷ xs) ys h k = (h.0, append_exist trees xs ys h.1 k)

reverse_exists : (trees : List Tree) (xs : List Item) → Exist trees xs → Exist trees (reverse xs)
reverse_exists trees [] h = tt
reverse_exists trees (x ∷ xs) h = subst (Exist trees) (sym (reverse_onto xs x [])) (append_exist trees (reverse xs) (x ∷ []) (reverse_exists trees xs h.1) (h.0, tt))

-- # Sequences

head_exists : (trees : List Tree) (xs : List Item) → Exist trees xs → Exist trees (fn.head xs)
head_exists trees [] h = tt
head_exists trees (x ∷ xs) h = (h.0, tt)

tail_exists : (trees : List Tree) (xs : List Item) → Exist trees xs → Exist trees (fn.tail xs)
tail_exists trees [] h = tt
tail_exists trees (x ∷ xs) h = h.1

zero_or_one_exists : (trees : List Tree) (xs : List Item) → Exist trees xs → ExistIn trees (fn.zero_or_one xs)
zero_or_one_exists trees [] h = tt
zero_or_one_exists trees (x ∷ []) h = h
zero_or_one_exists trees (x ∷ y ∷ xs) h = tt

one_or_more_exists : (trees : List Tree) (xs : List Item) → Exist trees xs → ExistIn trees (fn.one_or_more xs)
one_or_more_exists trees [] h = tt
one_or_more_exists trees (x ∷ xs) h = h

exactly_one_exists : (trees : List Tree) (xs : List Item) → Exist trees xs → ExistIn trees (fn.exactly_one xs)
exactly_one_exists trees [] h = tt
exactly_one_exists trees (x ∷ []) h = h
exactly_one_exists trees (x ∷ y ∷ xs) h = tt

-- # Calls

module _ (trees : List Tree) (addresses : List Text) (room : length addresses ≤ length trees) where
  one_exists : (function : Function) (xs : List Item) → Exist trees xs → ExistIn trees (fn.of_one function trees addresses xs)
  one_exists f.Doc xs h = doc_exists trees addresses (atomized trees xs) room
  one_exists f.DocAvailable xs h = atoms_exist trees _ (available_atoms addresses (atomized trees xs))
  one_exists f.Root xs h = root_exists trees xs h
  one_exists f.Name xs h = atoms_exist trees _ (name_atoms trees xs)
  one_exists f.LocalName xs h = atoms_exist trees _ (name_atoms trees xs)
  one_exists f.String xs h = atoms_exist trees _ (string_atoms trees xs)
  one_exists f.Data xs h = of_atoms trees _ (mapped_atoms (atomized trees xs))
  one_exists f.StringLength xs h = then_exist trees (optional_text (atomized trees xs)) _ (λ t. (tt, tt))
  one_exists f.NormalizeSpace xs h = then_exist trees (optional_text (atomized trees xs)) _ (λ t. (tt, tt))
  one_exists f.StringJoin xs h = (tt, tt)
  one_exists f.Count xs h = (tt, tt)
  one_exists f.Empty xs h = (tt, tt)
  one_exists f.Exists xs h = (tt, tt)
  one_exists f.Head xs h = head_exists trees xs h
  one_exists f.Tail xs h = tail_exists trees xs h
  one_exists f.Reverse xs h = reverse_exists trees xs h
  one_exists f.DistinctValues xs h = of_atoms trees _ (mapped_atoms (fn.distinct_values (atomized trees xs)))
  one_exists f.ZeroOrOne xs h = zero_or_one_exists trees xs h
  one_exists f.OneOrMore xs h = one_or_more_exists trees xs h
  one_exists f.ExactlyOne xs h = exactly_one_exists trees xs h
  one_exists f.Not xs h = then_exist trees (effective xs) _ (λ b. (tt, tt))
  one_exists f.Boolean xs h = atoms_exist trees _ (as_boolean_atoms (effective xs))
  one_exists f.Sum xs h = then_exist trees (each fn.summand (atomized trees xs)) _ (λ ns. atoms_exist trees _ (as_items_atoms _))
  one_exists f.Min xs h = atoms_exist trees _ (extreme_atoms fn.is_less (atomized trees xs))
  one_exists f.Max xs h = atoms_exist trees _ (extreme_atoms fn.is_greater (atomized trees xs))
  one_exists f.Abs xs h = atoms_exist trees _ (optional_atoms _ (atomized trees xs) (λ a. as_items_atoms _))
  one_exists f.Floor xs h = atoms_exist trees _ (optional_atoms _ (atomized trees xs) (λ a. as_items_atoms _))
  one_exists f.Ceiling xs h = atoms_exist trees _ (optional_atoms _ (atomized trees xs) (λ a. as_items_atoms _))
  one_exists f.Round xs h = atoms_exist trees _ (optional_atoms _ (atomized trees xs) (λ a. as_items_atoms _))
  one_exists f.ToInteger xs h = atoms_exist trees _ (optional_atoms _ (atomized trees xs) (λ a. as_items_atoms _))
  one_exists f.ToDecimal xs h = atoms_exist trees _ (optional_atoms _ (atomized trees xs) (λ a. as_items_atoms _))
  one_exists f.ToBoolean xs h = atoms_exist trees _ (optional_atoms _ (atomized trees xs) (λ a. as_items_atoms _))
  one_exists f.ToString xs h = atoms_exist trees _ (optional_atoms _ (atomized trees xs) (λ a. (tt, tt)))
  one_exists f.ToUntyped xs h = atoms_exist trees _ (optional_atoms _ (atomized trees xs) (λ a. (tt, tt)))
  one_exists function xs h = tt

  argument_exists : (function : Function) (x : Item) → Exists trees x → ExistIn trees (fn.context_argument function trees x)
  argument_exists f.Root x h = (h, tt)
  argument_exists f.Name x h = (h, tt)
  argument_exists f.LocalName x h = (h, tt)
  argument_exists f.String x h = (h, tt)
  argument_exists f.Data x h = (h, tt)
  argument_exists f.StringLength x h = (tt, tt)
  argument_exists f.NormalizeSpace x h = (tt, tt)
  argument_exists function x h = tt

  abbrev pub SpotExists : Option fn.Focus → Type 0
  SpotExists None = Unit {0}
  SpotExists (Some here) = Exists trees here.item

  context_exists : (function : Function) (here : fn.Focus) → Exists trees here.item → ExistIn trees (fn.of_context function trees addresses here)
  context_exists function here h = on_exist trees (fn.context_argument function trees here.item) (λ xs. fn.of_one function trees addresses xs) (argument_exists function here.item h) (λ xs k. one_exists function xs k)

  focus_exists : (function : Function) (focus : Option fn.Focus) → SpotExists focus → ExistIn trees (fn.of_focus focus (fn.of_context function trees addresses))
  focus_exists function None h = tt
  focus_exists function (Some here) h = context_exists function here h

  number_exists : (number : fn.Focus → ℕ) (focus : Option fn.Focus) → ExistIn trees (fn.of_focus focus (λ here. Ok (whole (number here))))
  number_exists number None = tt
  number_exists number (Some here) = (tt, tt)

  none_exists : (function : Function) (focus : Option fn.Focus) → SpotExists focus → ExistIn trees (fn.of_none function trees addresses focus)
  none_exists f.Collection focus h = collection_exists trees 0 (length addresses) (omega (arith, room))
  none_exists f.True focus h = (tt, tt)
  none_exists f.False focus h = (tt, tt)
  none_exists f.Position focus h = number_exists (λ here. here.position) focus
  none_exists f.Last focus h = number_exists (λ here. here.last) focus
  none_exists function focus h = focus_exists function focus h

  pub called_exists : (function : Function) (focus : Option fn.Focus) (values : List (List Item)) → SpotExists focus → AllByRecursion (Exist trees) values → ExistIn trees (fn.called function trees addresses focus values)
  called_exists function focus [] h k = none_exists function focus h
  called_exists function focus (xs ∷ []) h k = one_exists function xs k.0
  called_exists function focus (xs ∷ ys ∷ []) h k = atoms_exist trees _ (two_atoms function (atomized trees xs) (atomized trees ys))
  called_exists function focus (xs ∷ ys ∷ zs ∷ []) h k = atoms_exist trees _ (three_atoms function (atomized trees xs) (atomized trees ys) (atomized trees zs))
  called_exists function focus (w ∷ xs ∷ ys ∷ zs ∷ more) h k = atoms_exist trees _ (many_atoms function (map (atomized trees) (w ∷ xs ∷ ys ∷ zs ∷ more)))
