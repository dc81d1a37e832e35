-- Texts of two keys that meet, and general comparison of nodes.
use Rattle.std.proofs.Common.{◌≡◌, List, [], ◌∷◌, map, Bool, true, false, ◌||◌, Ok, refl, sym, ◌∙◌, ap}
use Rattle.std.specs.List.{list_any}
use Rattle.std.proofs.lemmas.Map.Text.{is_eq-slice_cmp}
use Rattle.std.proofs.lemmas.Slice.Eq.{bytes_eq-Decides}
use Rattle.xq_atoms.specs.declared.comparisons.CompOp.TheVariants as comp
use Rattle.xq_atoms.specs.Atom.{Atomic, Integer, Decimal, String, Boolean, Untyped}
use Rattle.xq_atoms.specs.Compare.{compare_general}
use Rattle.xq_atoms.specs.Judged.{◌>>=◌}
use Rattle.xq_atoms.specs.Text.{Text, text_eq}
use Rattle.xq_trees.specs.declared.Kind.{Kind}
use Rattle.xq_trees.specs.declared.Kind.TheVariants as kind
use Rattle.xq_trees.specs.Tree.{Tree}
use Rattle.xq_trees.specs.Value.{typed_by}
use Rattle.xq_trees.proofs.Lists.{same_test}
use Rattle.xq_meaning.specs.Items.{Place, Node, atomic_value, atom_of, atomized, tree_below}
use Rattle.xq_meaning.specs.Operators.{or_rest, some_with, some_pair}
use Rattle.xq_joins.specs.Equalities.{have_text}
use Rattle.xq_joins.specs.Keys.{text_at, meet}
use Rattle.xq_joins.specs.private.Texts.{IsText}

-- # Some of a list

or_swap : (a b c d : Bool) → ((a || b) || (c || d)) ≡ ((a || c) || (b || d))
or_swap true b c d = refl
or_swap false true true d = refl
or_swap false true false d = refl
or_swap false false c d = refl

module _ {A B : Type 0} (r : A → B → Bool) where
  none_of : (ys : List B) → list_any (λ y. list_any (λ x. r x y) []) ys ≡ false
  none_of [] = refl
  none_of (y ∷ ys) = none_of ys

  either_of : (x : A) (xs : List A) (ys : List B) → list_any (λ y. list_any (λ z. r z y) (x ∷ xs)) ys ≡ (list_any (r x) ys || list_any (λ y. list_any (λ z. r z y) xs) ys)
  either_of x xs [] = refl
  either_of x xs (y ∷ ys) =
      ap (λ b. (r x y || list_any (λ z. r z y) xs) || b) (either_of x xs ys)
      ∙ or_swap (r x y) (list_any (λ z. r z y) xs) (list_any (r x) ys) (list_any (λ w. list_any (λ z. r z w) xs) ys)

  -- some of both, in either order
  pub any_swap : (xs : List A) (ys : List B) → list_any (λ x. list_any (r x) ys) xs ≡ list_any (λ y. list_any (λ x. r x y) xs) ys
  any_swap [] ys = sym (none_of ys)
  any_swap (x ∷ xs) ys = ap (λ b. list_any (r x) ys || b) (any_swap xs ys) ∙ sym (either_of x xs ys)

pub any_same : {A : Type 0} (p q : A → Bool) (xs : List A) → ((x : A) → p x ≡ q x) → list_any p xs ≡ list_any q xs
any_same p q [] same = refl
any_same p q (x ∷ xs) same = (λ i. same x i || any_same p q xs same i)

pub text_eq_swap : (s t : Text) → text_eq s t ≡ text_eq t s
text_eq_swap s t = same_test (text_eq s t) (text_eq t s) (λ e. (bytes_eq-Decides t s).1 (sym ((bytes_eq-Decides s t).0 e))) (λ e. (bytes_eq-Decides s t).1 (sym ((bytes_eq-Decides t s).0 e)))

-- it is the same whose texts are looked up
pub meet_swap : (as' bs : List Text) → meet as' bs ≡ meet bs as'
meet_swap as' bs = any_swap text_eq as' bs ∙ any_same (λ b. list_any (λ a. text_eq a b) as') (λ b. list_any (text_eq b) as') bs (λ b. any_same (λ a. text_eq a b) (text_eq b) as' (λ a. text_eq_swap a b))

-- # Comparison of nodes: XQuery 3.1, 3.7.2

pub typed_is_text : (k : Kind) (t : Text) → IsText (atomic_value (typed_by k t)) t
typed_is_text kind.Document t = refl
typed_is_text kind.Element t = refl
typed_is_text kind.Attribute t = refl
typed_is_text kind.Text t = refl
typed_is_text kind.Comment t = refl
typed_is_text kind.ProcessingInstruction t = refl

pub plain : (s t : Text) → compare_general comp.Eq (String s) (String t) ≡ Ok (text_eq s t)
plain s t = ap Ok (is_eq-slice_cmp s t)

pub compared : (a b : Atomic) (s t : Text) → IsText a s → IsText b t → compare_general comp.Eq a b ≡ Ok (text_eq s t)
compared (String x) (String y) s t h k = plain x y ∙ (λ i. Ok (text_eq (h i) (k i)))
compared (String x) (Untyped y) s t h k = plain x y ∙ (λ i. Ok (text_eq (h i) (k i)))
compared (Untyped x) (String y) s t h k = plain x y ∙ (λ i. Ok (text_eq (h i) (k i)))
compared (Untyped x) (Untyped y) s t h k = plain x y ∙ (λ i. Ok (text_eq (h i) (k i)))
compared (Integer n) b s t h k = absurd h
compared (Decimal n) b s t h k = absurd h
compared (Boolean c) b s t h k = absurd h
compared (String x) (Integer n) s t h k = absurd k
compared (String x) (Decimal n) s t h k = absurd k
compared (String x) (Boolean c) s t h k = absurd k
compared (Untyped x) (Integer n) s t h k = absurd k
compared (Untyped x) (Decimal n) s t h k = absurd k
compared (Untyped x) (Boolean c) s t h k = absurd k

pub or_none : (b : Bool) → (b || false) ≡ b
or_none true = refl
or_none false = refl

pub or_is : (b c : Bool) → or_rest b (Ok c) ≡ Ok (b || c)
or_is true c = refl
or_is false c = refl

module _ (trees : List Tree) where
  pub node_text : (p : Place) → IsText (atom_of trees (Node p)) (text_at trees p)
  node_text p = typed_is_text (tree_below trees p).root.kind (text_at trees p)

  some_with_texts : (a : Atomic) (s : Text) → IsText a s → (qs : List Place) → some_with comp.Eq a (atomized trees (map Node qs)) ≡ Ok (list_any (text_eq s) (map (text_at trees) qs))
  some_with_texts a s h [] = refl
  some_with_texts a s h (q ∷ qs) =
      ap (λ r. r >>= (λ answer. or_rest answer (some_with comp.Eq a (atomized trees (map Node qs))))) (compared a (atom_of trees (Node q)) s (text_at trees q) h (node_text q))
      ∙ ap (or_rest (text_eq s (text_at trees q))) (some_with_texts a s h qs)
      ∙ or_is (text_eq s (text_at trees q)) (list_any (text_eq s) (map (text_at trees) qs))

  -- a comparison of nodes says whether their texts meet
  pub pairs_meet : (ps qs : List Place) → some_pair comp.Eq (atomized trees (map Node ps)) (atomized trees (map Node qs)) ≡ Ok (meet (map (text_at trees) ps) (map (text_at trees) qs))
  pairs_meet [] qs = refl
  pairs_meet (p ∷ ps) qs =
      ap (λ r. r >>= (λ answer. or_rest answer (some_pair comp.Eq (atomized trees (map Node ps)) (atomized trees (map Node qs))))) (some_with_texts (atom_of trees (Node p)) (text_at trees p) (node_text p) qs)
      ∙ ap (or_rest (list_any (text_eq (text_at trees p)) (map (text_at trees) qs))) (pairs_meet ps qs)
      ∙ or_is (list_any (text_eq (text_at trees p)) (map (text_at trees) qs)) (meet (map (text_at trees) ps) (map (text_at trees) qs))

  -- a comparison of nodes with one text, in either order
  pub texts_after : (a : Atomic) (t : Text) → IsText a t → (ps : List Place) → some_pair comp.Eq (atomized trees (map Node ps)) (a ∷ []) ≡ Ok (have_text trees t ps)
  texts_after a t h [] = refl
  texts_after a t h (p ∷ ps) =
      let s = text_at trees p in
      let rest = some_pair comp.Eq (atomized trees (map Node ps)) (a ∷ []) in
      ap (λ r. (r >>= (λ answer. or_rest answer (Ok false))) >>= (λ answer. or_rest answer rest)) (compared (atom_of trees (Node p)) a s t (node_text p) h)
      ∙ ap (λ r. r >>= (λ answer. or_rest answer rest)) (or_is (text_eq s t) false)
      ∙ ap (or_rest (text_eq s t || false)) (texts_after a t h ps)
      ∙ or_is (text_eq s t || false) (have_text trees t ps)
      ∙ ap (λ b. Ok (b || have_text trees t ps)) (or_none (text_eq s t) ∙ text_eq_swap s t)

  pub texts_before : (a : Atomic) (t : Text) → IsText a t → (ps : List Place) → some_pair comp.Eq (a ∷ []) (atomized trees (map Node ps)) ≡ Ok (have_text trees t ps)
  texts_before a t h ps =
      ap (λ r. r >>= (λ answer. or_rest answer (Ok false))) (some_with_texts a t h ps)
      ∙ or_is (have_text trees t ps) false
      ∙ ap Ok (or_none (have_text trees t ps))
