-- Tests of a node in a form that the values that are kept serve keep the same nodes.
use Rattle.std.proofs.Common.{◌≡◌, ℕ, suc, List, [], ◌∷◌, map, length, Bool, true, false, Ok, Err, refl, sym, ap, ◌∙◌, ◌⊎◌, inl, inr}
use Rattle.xq_atoms.specs.Atom.{Atomic, String}
use Rattle.xq_atoms.specs.Compare.{compare_value}
use Rattle.xq_atoms.specs.Judged.{Judged, ◌>>=◌}
use Rattle.xq_atoms.specs.Text.{Text}
use Rattle.xq_atoms.specs.declared.comparisons.CompOp.TheVariants.{Eq}
use Rattle.xq_expressions.specs.declared.operators.ComparisonOperator.TheVariants as comparing
use Rattle.xq_expressions.specs.declared.operators.Relation.TheVariants as relation
use Rattle.xq_expressions.specs.declared.signatures.Function.TheVariants as function
use Rattle.xq_trees.specs.declared.Kind.{Kind}
use Rattle.xq_trees.specs.Tree.{Tree}
use Rattle.xq_trees.specs.Value.{string_value, typed_by}
use Rattle.xq_meaning.specs.declared.operators.Operator.{Operator}
use Rattle.xq_meaning.specs.declared.operators.Operator.TheVariants as operator
use Rattle.xq_meaning.specs.declared.plans.Plan.{Plan}
use Rattle.xq_meaning.specs.declared.plans.Plan.TheVariants as plan
use Rattle.xq_meaning.specs.Arguments.{as_boolean}
use Rattle.xq_meaning.specs.Doing.{Doing, Outcome, go_on, give, judged, on_trees, in_turn}
use Rattle.xq_meaning.specs.Forms
use Rattle.xq_meaning.specs.Functions.{called, string}
use Rattle.xq_meaning.specs.Items.{Item, Place, Node, Atom, atomic_value, atomized, tree_below}
use Rattle.xq_meaning.specs.Operators.{by_pairs, by_value, keeps, operated, or_rest, related_by}
use Rattle.xq_meaning.specs.PlanMeaning.{Frame, plan_mean}
use Rattle.xq_meaning.specs.Same.{frame_of}
use Rattle.xq_meaning.specs.Steps.{focuses, focuses_from}
use Rattle.xq_meaning.proofs.PlanEquations as plan_eq
use Rattle.xq_meaning.proofs.SameForms.{AreRelated, collected_same, go_on_same}
use Rattle.xq_meaning.proofs.Turns.{go_on_give, go_on_go_on}
use Rattle.xq_optimise.specs.declared.held.Held.{Held}
use Rattle.xq_optimise.specs.Sure.{SamePredicates, SurelyFinds}
use Rattle.xq_optimise.specs.private.Filters.{at_node}
use Rattle.xq_optimise.specs.private.FirstTests.{ComparesValues}
use Rattle.xq_optimise.specs.private.Joins.{LeavesTrees, scan_step}
use Rattle.xq_optimise.specs.private.PlainTests.{AtomizesAlike, IsSomeText, KeepsAsOther, LeadsAlike}
use Rattle.xq_optimise.proofs.JoinLaws.{scans_are}
use Rattle.xq_optimise.proofs.NarrowRanges.{all_scans}
use Rattle.xq_optimise.proofs.Scans.{scans_from}

abbrev pair_of : Plan → Operator → Plan → Plan
pair_of a op b = plan.Chain a ((op, b) ∷ [])

-- # Sides that atomize alike

pub alike_itself : (p q : Plan) → q ≡ p → AtomizesAlike p q
alike_itself p q is frame place position last f = inl (ap (λ r. plan_mean r (at_node frame place position last) f) is)

pub led_alike : (p q : Plan) → LeadsAlike p q → AtomizesAlike p q
led_alike p q (scans, first, second) frame place position last f =
    inl (second frame place position last f ∙ sym (first frame place position last f))

atoms_again : (f : List Tree) (as' : List Atomic) → atomized f (map Atom as') ≡ as'
atoms_again f [] = refl
atoms_again f (a ∷ as') = ap (λ l. a ∷ l) (atoms_again f as')

pub data_alike : (p part q : Plan) → p ≡ plan.Call function.Data (part ∷ []) → LeadsAlike part q → AtomizesAlike p q
data_alike p part q is (scans, first, second) frame place position last f =
    let here = at_node frame place position last in
    let found = scans_from frame (map scan_step scans) (all_scans scans) (place ∷ []) f in
    let led = scans_are frame scans (Node place ∷ []) f ∙ found.1 in
    inr (
      map Atom (atomized f (map Node found.0)),
      map Node found.0,
      ap (λ m. m here f) (ap plan_mean is ∙ plan_eq.plan-Call function.Data (part ∷ []))
          ∙ ap (λ o. go_on (go_on (go_on o (λ y. give (y ∷ []))) (λ n. give n)) (λ values. on_trees (λ trees. called function.Data trees here.addresses here.focus values)))
          (first frame place position last f ∙ led),
      second frame place position last f ∙ led,
      sym (atoms_again f (atomized f (map Node found.0))),
    )

-- # A comparison of such sides

by_atoms : (op : Operator) → ComparesValues op → (f : List Tree) (xs ys zs ws : List Item) → atomized f ys ≡ atomized f xs → atomized f ws ≡ atomized f zs → operated op f ys ws ≡ operated op f xs zs
by_atoms op (rel, inl is) f xs ys zs ws left right =
    ap (λ o. operated o f ys ws) is
    ∙ ap (λ as'. by_value (related_by rel) as' (atomized f ws)) left ∙ ap (λ bs. by_value (related_by rel) (atomized f xs) bs) right
    ∙ sym (ap (λ o. operated o f xs zs) is)
by_atoms op (rel, inr is) f xs ys zs ws left right =
    ap (λ o. operated o f ys ws) is
    ∙ ap (λ as'. by_pairs (related_by rel) as' (atomized f ws)) left ∙ ap (λ bs. by_pairs (related_by rel) (atomized f xs) bs) right
    ∙ sym (ap (λ o. operated o f xs zs) is)

module _ (op : Operator) (compares : ComparesValues op) (a b c d : Plan) (leaves : LeavesTrees b) (left : AtomizesAlike a c) (right : AtomizesAlike b d)
    (frame : Frame) (place : Place) (position last : ℕ) where
  abbrev here : Frame
  here = at_node frame place position last

  abbrev then_right : Plan → List Item → Doing (List Item)
  then_right r xs = λ g. go_on (plan_mean r here g) (λ ys. on_trees (λ trees. operated op trees xs ys))

  -- over the same atoms on the left
  right_alike : (g : List Tree) (xs ys : List Item) → atomized g ys ≡ atomized g xs → then_right d ys g ≡ then_right b xs g
  right_alike g xs ys same = by (right frame place position last g) (leaves here g)
    where
      by : ((plan_mean d here g ≡ plan_mean b here g)
          ⊎ ((zs : List Item) × (ws : List Item) × (plan_mean b here g ≡ (Ok zs, g)) × (plan_mean d here g ≡ (Ok ws, g)) × (atomized g ws ≡ atomized g zs))) →
          ((given : Judged (List Item)) × (plan_mean b here g ≡ (given, g))) → then_right d ys g ≡ then_right b xs g
      by (inr (zs, ws, p, q, at)) own =
          ap (λ o. go_on o (λ vs. on_trees (λ trees. operated op trees ys vs))) q
          ∙ ap (λ r. (r, g)) (by_atoms op compares g xs ys zs ws same at)
          ∙ sym (ap (λ o. go_on o (λ vs. on_trees (λ trees. operated op trees xs vs))) p)
      by (inl e) (Ok zs, own) =
          ap (λ o. go_on o (λ vs. on_trees (λ trees. operated op trees ys vs))) (e ∙ own)
          ∙ ap (λ r. (r, g)) (by_atoms op compares g xs ys zs zs same refl)
          ∙ sym (ap (λ o. go_on o (λ vs. on_trees (λ trees. operated op trees xs vs))) own)
      by (inl e) (Err code, own) =
          ap (λ o. go_on o (λ vs. on_trees (λ trees. operated op trees ys vs))) (e ∙ own)
          ∙ sym (ap (λ o. go_on o (λ vs. on_trees (λ trees. operated op trees xs vs))) own)

  pub sides_alike : (f : List Tree) → plan_mean (pair_of c op d) here f ≡ plan_mean (pair_of a op b) here f
  sides_alike f =
      ap (λ m. m here f) (plan_eq.plan-Chain c ((op, d) ∷ []))
      ∙ by (left frame place position last f)
      ∙ sym (ap (λ m. m here f) (plan_eq.plan-Chain a ((op, b) ∷ [])))
    where
      next : (g : List Tree) (xs ys : List Item) → atomized g ys ≡ atomized g xs →
          in_turn (Forms.next_operand here) ys ((op, plan_mean d) ∷ []) g ≡ in_turn (Forms.next_operand here) xs ((op, plan_mean b) ∷ []) g
      next g xs ys same = ap (λ o. go_on o (λ n. give n)) (right_alike g xs ys same)

      by : ((plan_mean c here f ≡ plan_mean a here f)
          ⊎ ((xs : List Item) × (ys : List Item) × (plan_mean a here f ≡ (Ok xs, f)) × (plan_mean c here f ≡ (Ok ys, f)) × (atomized f ys ≡ atomized f xs))) →
          go_on (plan_mean c here f) (λ xs. in_turn (Forms.next_operand here) xs ((op, plan_mean d) ∷ []))
          ≡ go_on (plan_mean a here f) (λ xs. in_turn (Forms.next_operand here) xs ((op, plan_mean b) ∷ []))
      by (inl e) =
          ap (λ o. go_on o (λ xs. in_turn (Forms.next_operand here) xs ((op, plan_mean d) ∷ []))) e
          ∙ go_on_same (plan_mean a here f) (λ xs. in_turn (Forms.next_operand here) xs ((op, plan_mean d) ∷ [])) (λ xs. in_turn (Forms.next_operand here) xs ((op, plan_mean b) ∷ []))
          (λ xs g. next g xs xs refl)
      by (inr (xs, ys, p, q, at)) =
          ap (λ o. go_on o (λ xs. in_turn (Forms.next_operand here) xs ((op, plan_mean d) ∷ []))) q
          ∙ next f xs ys at
          ∙ sym (ap (λ o. go_on o (λ xs. in_turn (Forms.next_operand here) xs ((op, plan_mean b) ∷ []))) p)

pub pair_keeps : (op : Operator) → ComparesValues op → (a b c d : Plan) → LeavesTrees b → AtomizesAlike a c → AtomizesAlike b d → KeepsAsOther (pair_of a op b) (pair_of c op d)
pair_keeps op compares a b c d leaves left right frame place position last f =
    ap (λ o. go_on o (λ value. judged (keeps position value))) (sides_alike op compares a b c d leaves left right frame place position last f)

pub keeps_itself : (p q : Plan) → q ≡ p → KeepsAsOther p q
keeps_itself p q is frame place position last f = ap (λ r. go_on (plan_mean r (at_node frame place position last) f) (λ value. judged (keeps position value))) is

pub then_keeps : (p q r : Plan) → KeepsAsOther p q → KeepsAsOther q r → KeepsAsOther p r
then_keeps p q r h k frame place position last f = k frame place position last f ∙ h frame place position last f

-- # `string(..)` and a text that isn't empty

abbrev equals : Operator
equals = operator.Comparison (comparing.General relation.Equal)

abbrev value_equals : Operator
value_equals = operator.Comparison (comparing.Value relation.Equal)

abbrev kept_by : ℕ → List Tree → Judged (List Item) → Outcome Bool
kept_by position f r = go_on (r, f) (λ value. judged (keeps position value))

alone : (b : Bool) → or_rest b (Ok false) ≡ Ok b
alone true = refl
alone false = refl

-- the atom of a node compares as its string value does
node_text : (k : Kind) (s t : Text) → compare_value Eq (atomic_value (typed_by k s)) (String t) ≡ compare_value Eq (String s) (String t)
node_text Kind.Document s t = refl
node_text Kind.Element s t = refl
node_text Kind.Attribute s t = refl
node_text Kind.Text s t = refl
node_text Kind.Comment s t = refl
node_text Kind.ProcessingInstruction s t = refl

text_node : (k : Kind) (s t : Text) → compare_value Eq (String t) (atomic_value (typed_by k s)) ≡ compare_value Eq (String t) (String s)
text_node Kind.Document s t = refl
text_node Kind.Element s t = refl
text_node Kind.Attribute s t = refl
text_node Kind.Text s t = refl
text_node Kind.Comment s t = refl
text_node Kind.ProcessingInstruction s t = refl

module _ (c : ℕ) (t : Text) (position : ℕ) (f : List Tree) where
  abbrev texts : List Item
  texts = Atom (String (c ∷ t)) ∷ []

  -- what the general comparison gives of one pair
  pair_told : (b : Bool) → kept_by position f (as_boolean ((Ok b >>= (λ answer. or_rest answer (Ok false))) >>= (λ answer. or_rest answer (Ok false)))) ≡ kept_by position f (as_boolean (Ok b))
  pair_told true = refl
  pair_told false = refl

  left_told : (ns : List Place) → go_on (string f (map Node ns), f) (λ xs. λ g. kept_by position g (operated equals g xs texts)) ≡ kept_by position f (operated value_equals f (map Node ns) texts)
  left_told [] = refl
  left_told (p ∷ []) =
      let tree = tree_below f p in
      pair_told _
      ∙ sym (ap (λ r. kept_by position f (as_boolean r)) (node_text tree.root.kind (string_value tree) (c ∷ t)))
  left_told (p ∷ q ∷ ns) = refl

  right_told : (ns : List Place) → go_on (string f (map Node ns), f) (λ ys. λ g. kept_by position g (operated equals g texts ys)) ≡ kept_by position f (operated value_equals f texts (map Node ns))
  right_told [] = refl
  right_told (p ∷ []) =
      let tree = tree_below f p in
      pair_told _
      ∙ sym (ap (λ r. kept_by position f (as_boolean r)) (text_node tree.root.kind (string_value tree) (c ∷ t)))
  right_told (p ∷ q ∷ ns) = refl

string_given : (part : Plan) (here : Frame) (f : List Tree) (ns : List Place) → plan_mean part here f ≡ (Ok (map Node ns), f) →
    plan_mean (plan.Call function.String (part ∷ [])) here f ≡ (string f (map Node ns), f)
string_given part here f ns gives =
    ap (λ m. m here f) (plan_eq.plan-Call function.String (part ∷ []))
    ∙ ap (λ o. go_on (go_on (go_on o (λ y. give (y ∷ []))) (λ n. give n)) (λ values. on_trees (λ trees. called function.String trees here.addresses here.focus values))) gives

str_given : (t : Text) (here : Frame) (f : List Tree) → plan_mean (plan.Str t) here f ≡ (Ok (Atom (String t) ∷ []), f)
str_given t here f = ap (λ m. m here f) (plan_eq.plan-Str t)

pub left_text : (p a part b q : Plan) → p ≡ pair_of a equals b → a ≡ plan.Call function.String (part ∷ []) → SurelyFinds part → IsSomeText b → q ≡ pair_of part value_equals b → KeepsAsOther p q
left_text p a part b q is side finds (c, t, text) at frame place position last f =
    let here = at_node frame place position last in
    let found = finds frame.env frame.addresses f place in
    let gives = found.1 position last in
    let keep = λ (o : Outcome (List Item)). go_on o (λ value. judged (keeps position value)) in
    ap (λ r. keep (plan_mean r here f)) (at ∙ ap (λ s. pair_of part value_equals s) text)
    ∙ ap (λ m. keep (m here f)) (plan_eq.plan-Chain part ((value_equals, plan.Str (c ∷ t)) ∷ []))
    ∙ ap (λ o. keep (go_on o (λ xs. in_turn (Forms.next_operand here) xs ((value_equals, plan_mean (plan.Str (c ∷ t))) ∷ [])))) gives
    ∙ ap (λ o. keep (go_on (go_on o (λ ys. on_trees (λ trees. operated value_equals trees (map Node found.0) ys))) (λ n. give n))) (str_given (c ∷ t) here f)
    ∙ ap keep (go_on_give (operated value_equals f (map Node found.0) (texts c t position f), f))
    ∙ sym (left_told c t position f found.0)
    ∙ sym (ap (λ r. keep (plan_mean r here f)) (is ∙ ap (λ s. pair_of s equals b) side ∙ ap (λ s. pair_of (plan.Call function.String (part ∷ [])) equals s) text)
    ∙ ap (λ m. keep (m here f)) (plan_eq.plan-Chain (plan.Call function.String (part ∷ [])) ((equals, plan.Str (c ∷ t)) ∷ []))
    ∙ ap (λ o. keep (go_on o (λ xs. in_turn (Forms.next_operand here) xs ((equals, plan_mean (plan.Str (c ∷ t))) ∷ [])))) (string_given part here f found.0 gives)
    ∙ each (string f (map Node found.0)))
  where
    each : (r : Judged (List Item)) →
        go_on (go_on (r, f) (λ xs. in_turn (Forms.next_operand (at_node frame place position last)) xs ((equals, plan_mean (plan.Str (c ∷ t))) ∷ []))) (λ value. judged (keeps position value))
        ≡ go_on (r, f) (λ xs. λ g. kept_by position g (operated equals g xs (texts c t position f)))
    each (Ok xs) =
        let here = at_node frame place position last in
        ap (λ o. go_on (go_on (go_on o (λ ys. on_trees (λ trees. operated equals trees xs ys))) (λ n. give n)) (λ value. judged (keeps position value))) (str_given (c ∷ t) here f)
        ∙ ap (λ o. go_on o (λ value. judged (keeps position value))) (go_on_give (operated equals f xs (texts c t position f), f))
    each (Err code) = refl

pub right_text : (p a part b q : Plan) → p ≡ pair_of b equals a → a ≡ plan.Call function.String (part ∷ []) → SurelyFinds part → IsSomeText b → q ≡ pair_of b value_equals part → KeepsAsOther p q
right_text p a part b q is side finds (c, t, text) at frame place position last f =
    let here = at_node frame place position last in
    let found = finds frame.env frame.addresses f place in
    let gives = found.1 position last in
    let keep = λ (o : Outcome (List Item)). go_on o (λ value. judged (keeps position value)) in
    ap (λ r. keep (plan_mean r here f)) (at ∙ ap (λ s. pair_of s value_equals part) text)
    ∙ ap (λ m. keep (m here f)) (plan_eq.plan-Chain (plan.Str (c ∷ t)) ((value_equals, part) ∷ []))
    ∙ ap (λ o. keep (go_on o (λ xs. in_turn (Forms.next_operand here) xs ((value_equals, plan_mean part) ∷ [])))) (str_given (c ∷ t) here f)
    ∙ ap (λ o. keep (go_on (go_on o (λ ys. on_trees (λ trees. operated value_equals trees (texts c t position f) ys))) (λ n. give n))) gives
    ∙ ap keep (go_on_give (operated value_equals f (texts c t position f) (map Node found.0), f))
    ∙ sym (right_told c t position f found.0)
    ∙ sym (ap (λ r. keep (plan_mean r here f)) (is ∙ ap (λ s. pair_of b equals s) side ∙ ap (λ s. pair_of s equals (plan.Call function.String (part ∷ []))) text)
    ∙ ap (λ m. keep (m here f)) (plan_eq.plan-Chain (plan.Str (c ∷ t)) ((equals, plan.Call function.String (part ∷ [])) ∷ []))
    ∙ ap (λ o. keep (go_on o (λ xs. in_turn (Forms.next_operand here) xs ((equals, plan_mean (plan.Call function.String (part ∷ []))) ∷ [])))) (str_given (c ∷ t) here f)
    ∙ ap (λ o. keep (go_on (go_on o (λ ys. on_trees (λ trees. operated equals trees (texts c t position f) ys))) (λ n. give n))) (string_given part here f found.0 gives)
    ∙ each (string f (map Node found.0)))
  where
    each : (r : Judged (List Item)) →
        go_on (go_on (go_on (r, f) (λ ys. on_trees (λ trees. operated equals trees (texts c t position f) ys))) (λ n. give n)) (λ value. judged (keeps position value))
        ≡ go_on (r, f) (λ ys. λ g. kept_by position g (operated equals g (texts c t position f) ys))
    each (Ok ys) = ap (λ o. go_on o (λ value. judged (keeps position value))) (go_on_give (operated equals f (texts c t position f) ys, f))
    each (Err code) = refl

-- # Predicates

pub same_kept : (known : List Held) (p q : Plan) → KeepsAsOther p q → SamePredicates known (p ∷ []) (q ∷ [])
same_kept known p q h slots focus addresses fits places f =
    ap (λ o. go_on o (λ n. give n))
    (collected_same (Forms.passed (plan_mean q) frame) (Forms.passed (plan_mean p) frame) (focuses (map Node places)) (focuses (map Node places)) (each 1 (length (map Node places)) places) f)
  where
    frame : Frame
    frame = frame_of slots focus addresses

    each : (i last : ℕ) (ps : List Place) →
        AreRelated (λ x y. (g : List Tree) → Forms.passed (plan_mean q) (frame_of slots focus addresses) x g ≡ Forms.passed (plan_mean p) (frame_of slots focus addresses) y g)
        (focuses_from i last (map Node ps)) (focuses_from i last (map Node ps))
    each i last [] = tt
    each i last (r ∷ ps) = (
      (λ g.
          let here = at_node (frame_of slots focus addresses) r i last in
          sym (go_on_go_on (plan_mean q here g) (λ v. judged (keeps i v)) (λ keep. give (Forms.kept_if (Node r) keep)))
          ∙ ap (λ o. go_on o (λ keep. give (Forms.kept_if (Node r) keep))) (h (frame_of slots focus addresses) r i last g)
          ∙ go_on_go_on (plan_mean p here g) (λ v. judged (keeps i v)) (λ keep. give (Forms.kept_if (Node r) keep))),
      each (suc i) last ps,
    )

pub some_text : (p : Plan) (t : Text) → p ≡ plan.Str t → ((t ≡ []) → ⊥) → IsSomeText p
some_text p [] is some = absurd (some refl)
some_text p (c ∷ t) is some = (c, t, is)
