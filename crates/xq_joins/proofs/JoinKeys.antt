-- Keys of a join whose atoms are texts: what they give, and whether two of them are equal.
use Rattle.std.proofs.Common.{◌≡◌, ◌≤◌, List, [], ◌∷◌, ◌++◌, map, length, Bool, false, ◌||◌, Ok, Err, inl, inr, refl, sym, ◌∙◌, ap, subst, arith}
use Rattle.std.specs.List.{AllByRecursion, list_any}
use Rattle.xq_atoms.specs.declared.comparisons.CompOp.TheVariants as comp
use Rattle.xq_atoms.specs.Atom.{Atomic, Integer, Decimal, String, Boolean, Untyped}
use Rattle.xq_atoms.specs.Cast.{text_of}
use Rattle.xq_atoms.specs.Compare.{compare_value}
use Rattle.xq_atoms.specs.Judged.{◌>>=◌}
use Rattle.xq_atoms.specs.Text.{Text, text_eq}
use Rattle.xq_trees.specs.declared.Axis.{Axis}
use Rattle.xq_trees.specs.Items.{ItemView, Place as NodeAt, Value}
use Rattle.xq_trees.specs.Tree.{Tree}
use Rattle.xq_trees.specs.Tuples.{value_at}
use Rattle.std.proofs.lemmas.Map.Text.{is_eq-slice_cmp}
use Rattle.xq_meaning.specs.declared.joins.Equality.{Equality}
use Rattle.xq_meaning.specs.declared.joins.Equality.TheVariants as comparing_by
use Rattle.xq_meaning.specs.declared.joins.Join.{Join}
use Rattle.xq_meaning.specs.declared.joins.JoinKey.{JoinKey}
use Rattle.xq_meaning.specs.declared.joins.KeyForm.{KeyForm}
use Rattle.xq_meaning.specs.declared.joins.KeyForm.TheVariants as key_form
use Rattle.xq_meaning.specs.declared.node_tests.Test.{Test}
use Rattle.xq_meaning.specs.Arguments.{as_boolean, effective}
use Rattle.xq_meaning.specs.Doing.{Outcome, go_on, give, judged, on_trees, in_turn}
use Rattle.xq_meaning.specs.Forms as Forms
use Rattle.xq_meaning.specs.Functions as Functions
use Rattle.xq_meaning.specs.Items.{Place, Item, Node, Atom, atom_of, atomized}
use Rattle.xq_meaning.specs.Operators.{or_rest, some_with, some_pair, operated, by_value}
use Rattle.xq_meaning.specs.PlanMeaning.{Frame, comparison, formed, key_from, key_mean, keys_equal}
use Rattle.xq_meaning.specs.Readings.{node_at, items_at}
use Rattle.xq_joins.specs.Keys.{IsNode, text_at, meet}
use Rattle.xq_joins.specs.private.Keys.{nodes_after, places_among}
use Rattle.xq_joins.specs.private.JoinKeys.{AreTexts, LeadsTo, FormsAs, IsKeyOf, IsTold, texts_given, join_texts, AreSides}
use Rattle.xq_joins.specs.private.Texts.{IsText, IsTextItem}
use Rattle.xq_joins.proofs.Meeting.{compared, node_text, or_none, or_is, meet_swap}
use Rattle.xq_joins.proofs.Walks.{scan_from}

-- # Texts of atoms

pub text_is : (a : Atomic) (t : Text) → IsText a t → text_of a ≡ t
text_is (Integer n) t h = absurd h
text_is (Decimal m) t h = absurd h
text_is (String s) t h = h
text_is (Boolean b) t h = absurd h
text_is (Untyped s) t h = h

pub texts_are : (as' : List Atomic) (ts : List Text) → AreTexts as' ts → map text_of as' ≡ ts
texts_are [] [] h = refl
texts_are [] (t ∷ ts) h = absurd h
texts_are (a ∷ as') [] h = absurd h
texts_are (a ∷ as') (t ∷ ts) h = (λ i. text_is a t h.0 i ∷ texts_are as' ts h.1 i)

module _ (f : List Tree) where
  pub nodes_texts : (ps : List Place) → AreTexts (atomized f (map Node ps)) (map (text_at f) ps)
  nodes_texts [] = tt
  nodes_texts (p ∷ ps) = (node_text f p, nodes_texts ps)

  item_is : (x : Item) (t : Text) → IsText (atom_of f x) t → Functions.item_text f x ≡ t
  item_is (Node p) t h = sym (text_is (atom_of f (Node p)) (text_at f p) (node_text f p)) ∙ text_is (atom_of f (Node p)) t h
  item_is (Atom a) t h = text_is a t h

  atoms_again : (as' : List Atomic) → atomized f (map Atom as') ≡ as'
  atoms_again [] = refl
  atoms_again (a ∷ as') = ap (λ l. a ∷ l) (atoms_again as')

  -- # What a key gives

  pub scans_lead : (scans : List (Axis × Test)) (ps : List Place)
      → in_turn (λ zs (s : Axis × Test). Forms.scan s.0 s.1 zs) (map Node ps) scans f ≡ (Ok (map Node (nodes_after f scans ps)), f)
  scans_lead [] ps = refl
  scans_lead (s ∷ ss) ps =
      ap (λ o. go_on o (λ next. in_turn (λ zs (s : Axis × Test). Forms.scan s.0 s.1 zs) next ss)) (scan_from s.0 s.1 ps f)
      ∙ scans_lead ss _

  pub string_is : (value : List Item) (texts made : List Text) → AreTexts (atomized f value) texts → FormsAs key_form.String texts made
      → (made_value : List Item) × (Functions.string f value ≡ Ok made_value) × AreTexts (atomized f made_value) made
  string_is [] [] made h is = (Atom (String []) ∷ [], refl, subst (AreTexts (String [] ∷ [])) (sym is) (refl, tt))
  string_is [] (t ∷ texts) made h is = absurd h
  string_is (x ∷ []) [] made h is = absurd h
  string_is (x ∷ []) (t ∷ []) made h is =
      (Atom (String (Functions.item_text f x)) ∷ [], refl, subst (AreTexts (String (Functions.item_text f x) ∷ [])) (sym is) (item_is x t h.0, tt))
  string_is (x ∷ []) (t ∷ u ∷ texts) made h is = absurd is
  string_is (x ∷ y ∷ value) [] made h is = absurd h
  string_is (x ∷ y ∷ value) (t ∷ []) made h is = absurd h.1
  string_is (x ∷ y ∷ value) (t ∷ u ∷ texts) made h is = absurd is

  formed_is : (form : KeyForm) (value : List Item) (texts made : List Text) → AreTexts (atomized f value) texts → FormsAs form texts made
      → (made_value : List Item) × (formed form value f ≡ (Ok made_value, f)) × AreTexts (atomized f made_value) made
  formed_is key_form.Value value texts made h is = (value, refl, subst (AreTexts (atomized f value)) (sym is) h)
  formed_is key_form.Data value texts made h is =
      (map Atom (atomized f value), refl, subst (λ l. AreTexts l made) (sym (atoms_again (atomized f value))) (subst (AreTexts (atomized f value)) (sym is) h))
  formed_is key_form.String value texts made h is =
      let s = string_is value texts made h is in
      (s.0, ap (λ r. (r, f)) s.1, s.2)

  pub key_is : (equality : Equality) (key : JoinKey) (xs : List ItemView) (texts made : List Text) → LeadsTo f key.scans xs texts → FormsAs key.form texts made
      → (equality ≡ comparing_by.Value → length made ≤ 1) → IsKeyOf equality f key xs made
  key_is equality key xs texts made led is few =
      let s = formed_is key.form led.value texts made led.are is in
      record {
        value = s.0;
        gives = ap (λ o. go_on o (formed key.form)) led.gives ∙ s.1;
        are = s.2;
        few = few;
      }

  -- the string of one atom, whatever its type
  pub atom_key : (equality : Equality) (key : JoinKey) (xs : List ItemView) (a : Atomic) (texts : List Text) → key.form ≡ key_form.String → key.scans ≡ []
      → xs ≡ Value a ∷ [] → texts ≡ text_of a ∷ [] → IsKeyOf equality f key xs texts
  atom_key equality key xs a texts form none is made = subst (λ ys. IsKeyOf equality f key ys texts) (sym is) (record {
    value = Atom (String (text_of a)) ∷ [];
    gives =
        ap (λ ss. go_on (in_turn (λ zs (s : Axis × Test). Forms.scan s.0 s.1 zs) (Atom a ∷ []) ss f) (formed key.form)) none
        ∙ ap (λ k. formed k (Atom a ∷ []) f) form;
    are = subst (AreTexts (String (text_of a) ∷ [])) (sym made) (refl, tt);
    few = λ e. let one = ap length made in omega (arith, one);
  })

  pub texts_told : (equality : Equality) (key : JoinKey) (xs : List ItemView) (texts : List Text) → IsKeyOf equality f key xs texts → join_texts f key xs ≡ texts
  texts_told equality key xs texts is = ap texts_given is.gives ∙ texts_are (atomized f is.value) texts is.are

  pub is_told : (equality : Equality) (key : JoinKey) (xs : List ItemView) (texts : List Text) → IsKeyOf equality f key xs texts → IsTold equality f key xs
  is_told equality key xs texts is = subst (IsKeyOf equality f key xs) (sym (texts_told equality key xs texts is)) is

-- # Comparison: XQuery 3.1, 3.7

some_text : (a : Atomic) (s : Text) → IsText a s → (bs : List Atomic) (ts : List Text) → AreTexts bs ts → some_with comp.Eq a bs ≡ Ok (list_any (text_eq s) ts)
some_text a s h [] [] k = refl
some_text a s h [] (t ∷ ts) k = absurd k
some_text a s h (b ∷ bs) [] k = absurd k
some_text a s h (b ∷ bs) (t ∷ ts) k =
    ap (λ r. r >>= (λ answer. or_rest answer (some_with comp.Eq a bs))) (compared a b s t h k.0)
    ∙ ap (or_rest (text_eq s t)) (some_text a s h bs ts k.1)
    ∙ or_is (text_eq s t) (list_any (text_eq s) ts)

pub texts_meet : (as' bs : List Atomic) (ss ts : List Text) → AreTexts as' ss → AreTexts bs ts → some_pair comp.Eq as' bs ≡ Ok (meet ss ts)
texts_meet [] bs [] ts h k = refl
texts_meet [] bs (s ∷ ss) ts h k = absurd h
texts_meet (a ∷ as') bs [] ts h k = absurd h
texts_meet (a ∷ as') bs (s ∷ ss) ts h k =
    ap (λ r. r >>= (λ answer. or_rest answer (some_pair comp.Eq as' bs))) (some_text a s h.0 bs ts k)
    ∙ ap (or_rest (list_any (text_eq s) ts)) (texts_meet as' bs ss ts h.1 k)
    ∙ or_is (list_any (text_eq s) ts) (meet ss ts)

value_compared : (a b : Atomic) (s t : Text) → IsText a s → IsText b t → compare_value comp.Eq a b ≡ Ok (text_eq s t)
value_compared (String x) (String y) s t h k = ap Ok (is_eq-slice_cmp x y) ∙ (λ i. Ok (text_eq (h i) (k i)))
value_compared (String x) (Untyped y) s t h k = ap Ok (is_eq-slice_cmp x y) ∙ (λ i. Ok (text_eq (h i) (k i)))
value_compared (Untyped x) (String y) s t h k = ap Ok (is_eq-slice_cmp x y) ∙ (λ i. Ok (text_eq (h i) (k i)))
value_compared (Untyped x) (Untyped y) s t h k = ap Ok (is_eq-slice_cmp x y) ∙ (λ i. Ok (text_eq (h i) (k i)))
value_compared (Integer n) b s t h k = absurd h
value_compared (Decimal n) b s t h k = absurd h
value_compared (Boolean c) b s t h k = absurd h
value_compared (String x) (Integer n) s t h k = absurd k
value_compared (String x) (Decimal n) s t h k = absurd k
value_compared (String x) (Boolean c) s t h k = absurd k
value_compared (Untyped x) (Integer n) s t h k = absurd k
value_compared (Untyped x) (Decimal n) s t h k = absurd k
value_compared (Untyped x) (Boolean c) s t h k = absurd k

none_meets : (ss : List Text) → meet ss [] ≡ false
none_meets [] = refl
none_meets (s ∷ ss) = none_meets ss

-- the truth of a comparison of values
values_meet : (as' bs : List Atomic) (ss ts : List Text) → AreTexts as' ss → AreTexts bs ts → length ss ≤ 1 → length ts ≤ 1
    → (by_value comp.Eq as' bs >>= effective) ≡ Ok (meet ss ts)
values_meet [] bs [] ts h k m n = refl
values_meet [] bs (s ∷ ss) ts h k m n = absurd h
values_meet (a ∷ as') bs [] ts h k m n = absurd h
values_meet (a ∷ as') [] (s ∷ ss) [] h k m n = ap Ok (sym (none_meets ss))
values_meet (a ∷ as') [] (s ∷ ss) (t ∷ ts) h k m n = absurd k
values_meet (a ∷ as') (b ∷ bs) (s ∷ ss) [] h k m n = absurd k
values_meet (a ∷ []) (b ∷ []) (s ∷ []) (t ∷ []) h k m n =
    ap (λ r. as_boolean r >>= effective) (value_compared a b s t h.0 k.0)
    ∙ ap Ok (sym (or_none (text_eq s t)) ∙ sym (or_none (text_eq s t || false)))
values_meet (a ∷ a' ∷ as') (b ∷ bs) (s ∷ []) (t ∷ ts) h k m n = absurd h.1
values_meet (a ∷ []) (b ∷ bs) (s ∷ s' ∷ ss) (t ∷ ts) h k m n = absurd h.1
values_meet (a ∷ []) (b ∷ b' ∷ bs) (s ∷ []) (t ∷ []) h k m n = absurd k.1
values_meet (a ∷ []) (b ∷ []) (s ∷ []) (t ∷ t' ∷ ts) h k m n = absurd k.1
values_meet (a ∷ []) (b ∷ b' ∷ bs) (s ∷ []) (t ∷ t' ∷ ts) h k m n = absurd (omega (arith, n))
values_meet (a ∷ a' ∷ as') (b ∷ bs) (s ∷ s' ∷ ss) (t ∷ ts) h k m n = absurd (omega (arith, m))

abbrev truth_of : Outcome (List Item) → Outcome Bool
truth_of o = go_on o (λ xs. judged (effective xs))

module _ (f : List Tree) where
  compared_is : (equality : Equality) (xs ys : List Item) (ss ts : List Text) → AreTexts (atomized f xs) ss → AreTexts (atomized f ys) ts
      → (equality ≡ comparing_by.Value → length ss ≤ 1) → (equality ≡ comparing_by.Value → length ts ≤ 1)
      → truth_of (on_trees (λ trees. operated (comparison equality) trees xs ys) f) ≡ (Ok (meet ss ts), f)
  compared_is comparing_by.General xs ys ss ts h k m n =
      ap (λ r. truth_of (judged (as_boolean r) f)) (texts_meet (atomized f xs) (atomized f ys) ss ts h k)
  compared_is comparing_by.Value xs ys ss ts h k m n =
      by (by_value comp.Eq (atomized f xs) (atomized f ys)) ∙ ap (λ r. (r, f)) (values_meet (atomized f xs) (atomized f ys) ss ts h k (m refl) (n refl))
    where
      by : (r : _) → truth_of (judged r f) ≡ ((r >>= effective), f)
      by (Ok v) = refl
      by (Err code) = refl

  chained : (o p : Outcome (List Item)) (equality : Equality) (xs ys : List Item) → o ≡ (Ok xs, f) → p ≡ (Ok ys, f)
      → (join : Join) (frame : Frame) → join.equality ≡ equality → key_mean join.left frame f ≡ o → key_mean join.right frame f ≡ p
      → Forms.tested (keys_equal join) frame f ≡ truth_of (on_trees (λ trees. operated (comparison equality) trees xs ys) f)
  chained o p equality xs ys a b join frame e l r =
      ap (λ z. truth_of (go_on z (λ zs. in_turn (Forms.next_operand frame) zs ((comparison join.equality, key_mean join.right) ∷ [])))) (l ∙ a)
      ∙ ap (λ z. truth_of (go_on (go_on z (λ zs. on_trees (λ trees. operated (comparison join.equality) trees xs zs))) (λ next. give next))) (r ∙ b)
      ∙ ap (λ q. truth_of (go_on (on_trees (λ trees. operated (comparison q) trees xs ys) f) (λ next. give next))) e
      ∙ by (on_trees (λ trees. operated (comparison equality) trees xs ys) f)
    where
      by : (z : Outcome (List Item)) → truth_of (go_on z (λ next. give next)) ≡ truth_of z
      by (Ok v, g) = refl
      by (Err code, g) = refl

  -- whether both keys are equal, by their texts
  pub keys_meet : (equality : Equality) (join : Join) (frame : Frame) (xs ys : List ItemView) → join.equality ≡ equality
      → value_at join.left.slot frame.env ≡ items_at f xs → value_at join.right.slot frame.env ≡ items_at f ys
      → (l : IsTold equality f join.left xs) (r : IsTold equality f join.right ys)
      → Forms.tested (keys_equal join) frame f ≡ (Ok (meet (join_texts f join.left xs) (join_texts f join.right ys)), f)
  keys_meet equality join frame xs ys e a b l r =
      chained (key_mean join.left frame f) (key_mean join.right frame f) equality l.value r.value
      (ap (λ zs. key_from join.left zs f) a ∙ l.gives) (ap (λ zs. key_from join.right zs f) b ∙ r.gives) join frame e refl refl
      ∙ compared_is equality l.value r.value (join_texts f join.left xs) (join_texts f join.right ys) l.are r.are l.few r.few

-- the same of the item's key and that of the tuple
pub sides_meet : (equality : Equality) (f : List Tree) (join : Join) (item tuple : JoinKey) (sides : AreSides join item tuple) → join.equality ≡ equality
    → (frame : Frame) (xs ys : List ItemView) → value_at item.slot frame.env ≡ items_at f xs → value_at tuple.slot frame.env ≡ items_at f ys
    → IsTold equality f item xs → IsTold equality f tuple ys
    → Forms.tested (keys_equal join) frame f ≡ (Ok (meet (join_texts f item xs) (join_texts f tuple ys)), f)
sides_meet equality f join item tuple sides e frame xs ys a b l r = elim (sides.either) [
  | inl is ↦ (
      keys_meet f equality join frame xs ys e
      (ap (λ (k : JoinKey). value_at k.slot frame.env) is.0 ∙ a) (ap (λ (k : JoinKey). value_at k.slot frame.env) is.1 ∙ b)
      (subst (λ k. IsTold equality f k xs) (sym is.0) l) (subst (λ k. IsTold equality f k ys) (sym is.1) r)
      ∙ (λ i. (Ok (meet (join_texts f (is.0 i) xs) (join_texts f (is.1 i) ys)), f)))
  | inr is ↦ (
      keys_meet f equality join frame ys xs e
      (ap (λ (k : JoinKey). value_at k.slot frame.env) is.0 ∙ b) (ap (λ (k : JoinKey). value_at k.slot frame.env) is.1 ∙ a)
      (subst (λ k. IsTold equality f k ys) (sym is.0) r) (subst (λ k. IsTold equality f k xs) (sym is.1) l)
      ∙ (λ i. (Ok (meet (join_texts f (is.0 i) ys) (join_texts f (is.1 i) xs)), f))
      ∙ ap (λ c. (Ok c, f)) (meet_swap (join_texts f tuple ys) (join_texts f item xs)))
]

-- # Lists of texts

pub nodes_read : (f : List Tree) (xs : List ItemView) → AllByRecursion IsNode xs → items_at f xs ≡ map Node (places_among f xs)
nodes_read f [] h = refl
nodes_read f (NodeAt n ∷ xs) h = ap (λ l. Node (node_at f n) ∷ l) (nodes_read f xs h.1)
nodes_read f (Value a ∷ xs) h = absurd h.0

pub texts_more : (f : List Tree) (xs : List ItemView) (x : ItemView) (ts : List Text) (t : Text) → AreTexts (atomized f (items_at f xs)) ts → IsTextItem x t
    → AreTexts (atomized f (items_at f (xs ++ x ∷ []))) (ts ++ t ∷ [])
texts_more f [] (Value a) [] t h k = (k, tt)
texts_more f [] (NodeAt n) [] t h k = absurd k
texts_more f [] x (s ∷ ts) t h k = absurd h
texts_more f (y ∷ xs) x [] t h k = absurd h
texts_more f (y ∷ xs) x (s ∷ ts) t h k = (h.0, texts_more f xs x ts t h.1 k)

-- scans from nodes
pub nodes_lead : (f : List Tree) (scans : List (Axis × Test)) (xs : List ItemView) (texts : List Text) → AllByRecursion IsNode xs
    → texts ≡ map (text_at f) (nodes_after f scans (places_among f xs)) → LeadsTo f scans xs texts
nodes_lead f scans xs texts nodes is = record {
  value = map Node (nodes_after f scans (places_among f xs));
  gives =
      ap (λ zs. in_turn (λ ws (s : Axis × Test). Forms.scan s.0 s.1 ws) zs scans f) (nodes_read f xs nodes)
      ∙ scans_lead f scans (places_among f xs);
  are = subst (AreTexts (atomized f (map Node (nodes_after f scans (places_among f xs))))) (sym is) (nodes_texts f (nodes_after f scans (places_among f xs)));
}

-- and no scans
pub atoms_lead : (f : List Tree) (scans : List (Axis × Test)) (xs : List ItemView) (texts : List Text) → scans ≡ [] → AreTexts (atomized f (items_at f xs)) texts
    → LeadsTo f scans xs texts
atoms_lead f scans xs texts none are = record {
  value = items_at f xs;
  gives = ap (λ ss. in_turn (λ ws (s : Axis × Test). Forms.scan s.0 s.1 ws) (items_at f xs) ss f) none;
  are = are;
}
