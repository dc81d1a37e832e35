-- What keys that are atoms in a slot give, and what predicates mean that compare one step with them.
use Rattle.std.proofs.Common.{◌≡◌, ℕ, List, [], ◌∷◌, map, false, Ok, refl, sym, ◌∙◌, ap, subst}
use Rattle.std.specs.Prelude.{string_bytes}
use Rattle.xq_atoms.specs.Atom.{String}
use Rattle.xq_atoms.specs.Cast.{text_of}
use Rattle.xq_atoms.specs.Text.{Text}
use Rattle.xq_expressions.specs.declared.signatures.Function.TheVariants as function
use Rattle.xq_trees.specs.Items.{ItemView}
use Rattle.xq_trees.specs.Tree.{Tree}
use Rattle.xq_trees.specs.Tuples.{Tuple, value_at}
use Rattle.xq_meaning.specs.declared.plans.Plan.{Plan}
use Rattle.xq_meaning.specs.declared.plans.Plan.TheVariants as plan
use Rattle.xq_meaning.specs.Arguments.{atomic, boolean}
use Rattle.xq_meaning.specs.Items.{Place, Item, Node, Atom, atomized}
use Rattle.xq_meaning.specs.Forms as Forms
use Rattle.xq_meaning.specs.PlanMeaning.{Frame, plan_mean}
use Rattle.xq_meaning.specs.Readings.{items_at}
use Rattle.xq_meaning.specs.Steps.{axis_nodes}
use Rattle.xq_meaning.proofs.PlanEquations.{plan-Call, plan-Slot}
use Rattle.xq_operators.proofs.Streams.{value_read}
use Rattle.xq_operators.specs.Views.{tuple_at}
use Rattle.xq_joins.specs.declared.equalities.TextTest.{TextTest}
use Rattle.xq_joins.specs.declared.keyed.KeyedTest.{KeyedTest}
use Rattle.xq_joins.specs.Equalities.{at_node, leads_to_text, IsValueTest}
use Rattle.xq_joins.specs.Keyed.{leads_to_key, IsKeyedTest, IsValueKeyTest}
use Rattle.xq_joins.specs.Keys.{text_at, meet}
use Rattle.xq_joins.specs.private.AtomKeys.{IsAtomText, GivesTexts, IsAtomsTest, IsAttributeKey}
use Rattle.xq_joins.specs.private.JoinKeys.{AreTexts}
use Rattle.xq_joins.specs.private.Shapes.{equality}
use Rattle.xq_joins.specs.private.Texts.{GivesText}
use Rattle.xq_joins.proofs.JoinKeys.{nodes_texts, texts_meet}
use Rattle.xq_joins.proofs.Meeting.{meet_swap, or_none}
use Rattle.xq_joins.proofs.TextTests.{equality_gives, near_is}
use Rattle.xq_joins.proofs.Told.{call_gives}

-- # What a key gives

slot_gives : (f : List Tree) (slots : Tuple ItemView) (n : ℕ) (frame : Frame) → frame.env ≡ tuple_at f slots → plan_mean (plan.Slot n) frame f ≡ (Ok (items_at f (value_at n slots)), f)
slot_gives f slots n frame env = ap (λ m. m frame f) (plan-Slot n) ∙ ap (λ xs. (Ok xs, f)) (ap (value_at n) env ∙ value_read f n slots)

-- a slot that holds texts
pub slot_texts : (slots : Tuple ItemView) (n : ℕ) (p : Plan) (ts : List Text) → p ≡ plan.Slot n → ((f : List Tree) → AreTexts (atomized f (items_at f (value_at n slots))) ts) → GivesTexts slots ts p
slot_texts slots n p ts is are frame f env = record {
  value = items_at f (value_at n slots);
  gives = ap (λ q. plan_mean q frame f) is ∙ slot_gives f slots n frame env;
  are = are f;
}

-- the string of a slot that holds one atom: F&O 3.1, 2.3
pub slot_string : (slots : Tuple ItemView) (n : ℕ) (p : Plan) (parts : List Plan) (t : Text) → p ≡ plan.Call function.String parts → parts ≡ plan.Slot n ∷ [] → IsAtomText (value_at n slots) t → GivesText slots t p
slot_string slots n p parts t is one held = record {
  atom = String (text_of held.atom);
  is_text = sym held.is;
  gives = λ frame f env.
      ap (λ q. plan_mean q frame f) is ∙ ap (λ m. m frame f) (plan-Call function.String parts)
      ∙ call_gives function.String (plan.Slot n) parts frame f (Atom held.atom ∷ []) one
      (slot_gives f slots n frame env ∙ ap (λ xs. (Ok (items_at f xs), f)) held.are);
}

-- one text
pub one_text : (slots : Tuple ItemView) (t : Text) (ts : List Text) (p : Plan) → ts ≡ t ∷ [] → GivesText slots t p → GivesTexts slots ts p
one_text slots t ts p one is frame f env = record {
  value = atomic is.atom;
  gives = is.gives frame f env;
  are = subst (AreTexts (is.atom ∷ [])) (sym one) (is.is_text, tt);
}

-- # Predicates

module _ (slots : Tuple ItemView) (found : KeyedTest) (near other : Plan) (is : IsAtomsTest slots found near other) where
  abbrev led : List Tree → Place → List Place
  led f q = axis_nodes f found.axis found.test.now q

  abbrev texts : List Text
  texts = map string_bytes found.texts.items

  step_gives : (frame : Frame) (f : List Tree) (q : Place) (position last : ℕ) → plan_mean near (at_node frame q position last) f ≡ (Ok (map Node (led f q)), f)
  step_gives frame f q position last =
      ap (λ n. plan_mean n (at_node frame q position last) f) is.step ∙ near_is found.axis found.test.now is.forward frame f q position last

  -- the step is the first operand, or the second
  pub atoms_second : (p : Plan) → p ≡ equality near other → (f : List Tree) → IsKeyedTest f slots found p
  atoms_second p e f = record {
    says = λ frame q position last env.
        let at = at_node frame q position last in
        let key = is.key at f env in
        let nodes = map (text_at f) (led f q) in
        ap (λ n. plan_mean n at f) e
        ∙ equality_gives near other at f (map Node (led f q)) key.value (meet nodes texts) (step_gives frame f q position last) key.gives
        (texts_meet (atomized f (map Node (led f q))) (atomized f key.value) nodes texts (nodes_texts f (led f q)) key.are)
        ∙ ap (λ b. (Ok (boolean b), f)) (meet_swap nodes texts);
  }

  pub atoms_first : (p : Plan) → p ≡ equality other near → (f : List Tree) → IsKeyedTest f slots found p
  atoms_first p e f = record {
    says = λ frame q position last env.
        let at = at_node frame q position last in
        let key = is.key at f env in
        let nodes = map (text_at f) (led f q) in
        ap (λ n. plan_mean n at f) e
        ∙ equality_gives other near at f key.value (map Node (led f q)) (meet texts nodes) key.gives (step_gives frame f q position last)
        (texts_meet (atomized f key.value) (atomized f (map Node (led f q))) texts nodes key.are (nodes_texts f (led f q)));
  }

-- a test for one text, and the same with it as the only one
pub one_key : (text : TextTest) (found : KeyedTest) → found.axis ≡ text.axis → found.test.now ≡ text.test.now → map string_bytes found.texts.items ≡ text.text.now ∷ []
    → (f : List Tree) (q : Place) → leads_to_text f text q ≡ leads_to_key f found q
one_key text found axis test texts f q =
    sym (or_none (leads_to_text f text q))
    ∙ (λ i. meet (sym texts i) (map (text_at f) (axis_nodes f (sym axis i) (sym test i) q)))

-- a comparison of an attribute with it as values
pub keeps_by_key : (slots : Tuple ItemView) (found : KeyedTest) (near other p : Plan) (is : IsAttributeKey slots found near other) → IsValueTest slots is.test p → IsValueKeyTest slots found p
keeps_by_key slots found near other p is keeps = λ f. record {
  says = λ frame q position last env tree.
      (keeps f).says frame q position last env tree ∙ ap (λ b. (Ok (Forms.kept_if (Node q) b), f)) (is.same f q);
}
