-- Keys that are atoms in a slot.
use Rattle.std.specs.Prelude.{◌≡◌, List, [], ◌∷◌, map, false, Ok, string_bytes}
use Rattle.xq_atoms.specs.Atom.{Atomic}
use Rattle.xq_atoms.specs.Cast.{text_of}
use Rattle.xq_atoms.specs.Text.{Text}
use Rattle.xq_trees.specs.Items.{ItemView, Value}
use Rattle.xq_trees.specs.Tree.{Tree}
use Rattle.xq_trees.specs.Tuples.{Tuple}
use Rattle.xq_meaning.specs.declared.plans.Plan.{Plan}
use Rattle.xq_meaning.specs.declared.plans.Plan.TheVariants as plan
use Rattle.xq_meaning.specs.Items.{Place, Item, atomized}
use Rattle.xq_meaning.specs.PlanMeaning.{Frame, plan_mean}
use Rattle.xq_meaning.specs.Steps.{is_reverse}
use Rattle.xq_operators.specs.Views.{tuple_at}
use Rattle.xq_joins.specs.declared.equalities.TextTest.{TextTest}
use Rattle.xq_joins.specs.declared.keyed.KeyedTest.{KeyedTest}
use Rattle.xq_joins.specs.Equalities.{leads_to_text}
use Rattle.xq_joins.specs.Keyed.{leads_to_key}
use Rattle.xq_joins.specs.private.JoinKeys.{AreTexts}
use Rattle.xq_joins.specs.private.Texts.{IsAttributeTest}

-- the items are one atom, and its text is this one
pub record IsAtomText (xs : List ItemView) (t : Text) : Type 0 where
  pub atom : Atomic
  pub are : xs ≡ Value atom ∷ []
  pub is : t ≡ text_of atom

-- in the frame, over these trees, the plan gives items whose atoms are these texts
pub record GivesTextsIn (ts : List Text) (p : Plan) (frame : Frame) (trees : List Tree) : Type 0
  where
    pub value : List Item
    pub gives : plan_mean p frame trees ≡ (Ok value, trees)
    pub are : AreTexts (atomized trees value) ts

-- where the slots hold these values, the plan gives such items, and does nothing else
abbrev pub GivesTexts : Tuple ItemView → List Text → Plan → Type 0
GivesTexts slots ts p = (frame : Frame) (trees : List Tree) → frame.env ≡ tuple_at trees slots
    → GivesTextsIn ts p frame trees

-- a step to children or attributes, and texts: those of the test
pub record IsAtomsTest (slots : Tuple ItemView) (found : KeyedTest) (near other : Plan) : Type 0
  where
    pub step : near ≡ plan.Step found.axis found.test.now []
    pub forward : is_reverse found.axis ≡ false
    pub key : GivesTexts slots (map string_bytes found.texts.items) other

-- a step to the attributes with a name, and one text: the test asks for them
pub record IsAttributeKey (slots : Tuple ItemView) (found : KeyedTest) (near other : Plan) : Type 0
  where
    pub test : TextTest
    pub is : IsAttributeTest slots test near other
    pub same : (trees : List Tree) (p : Place)
        → leads_to_text trees test p ≡ leads_to_key trees found p
