-- Keys of a join whose atoms all are texts.
use Rattle.std.specs.Prelude.{◌≡◌, ◌≤◌, ◌<◌, ◌⊎◌, List, [], ◌∷◌, map, length, Ok, Err}
use Rattle.xq_atoms.specs.Atom.{Atomic}
use Rattle.xq_atoms.specs.Cast.{text_of}
use Rattle.xq_atoms.specs.Text.{Text}
use Rattle.xq_trees.specs.declared.Axis.{Axis}
use Rattle.xq_trees.specs.Items.{ItemView}
use Rattle.xq_trees.specs.Tree.{Tree}
use Rattle.xq_meaning.specs.declared.joins.Equality.{Equality}
use Rattle.xq_meaning.specs.declared.joins.Equality.TheVariants as comparing_by
use Rattle.xq_meaning.specs.declared.joins.Join.{Join}
use Rattle.xq_meaning.specs.declared.joins.JoinKey.{JoinKey}
use Rattle.xq_meaning.specs.declared.joins.KeyForm.{KeyForm}
use Rattle.xq_meaning.specs.declared.joins.KeyForm.TheVariants as key_form
use Rattle.xq_meaning.specs.declared.node_tests.Test.{Test}
use Rattle.xq_meaning.specs.Doing.{Outcome, in_turn}
use Rattle.xq_meaning.specs.Forms as Forms
use Rattle.xq_meaning.specs.Items.{Item, atomized}
use Rattle.xq_meaning.specs.PlanMeaning.{key_from}
use Rattle.xq_meaning.specs.Readings.{items_at}
use Rattle.xq_joins.specs.private.Texts.{IsText}

-- strings or untyped values with these texts
abbrev pub AreTexts : List Atomic → List Text → Type 0
AreTexts [] [] = Unit {0}
AreTexts (a ∷ as') (t ∷ ts) = IsText a t × AreTexts as' ts
AreTexts as' ts = ⊥

-- the scans lead to items whose atoms are these texts
pub record LeadsTo (trees : List Tree) (scans : List (Axis × Test)) (xs : List ItemView)
    (texts : List Text) : Type 0 where
  pub value : List Item
  pub gives : in_turn (λ zs (s : Axis × Test). Forms.scan s.0 s.1 zs) (items_at trees xs) scans
      trees ≡ (Ok value, trees)
  pub are : AreTexts (atomized trees value) texts

-- what is taken of them has these texts
abbrev pub FormsAs : KeyForm → List Text → List Text → Type 0
FormsAs key_form.Value texts made = made ≡ texts
FormsAs key_form.Data texts made = made ≡ texts
FormsAs key_form.String [] made = made ≡ [] ∷ []
FormsAs key_form.String (t ∷ []) made = made ≡ t ∷ []
FormsAs key_form.String (t ∷ u ∷ ts) made = ⊥

-- the key gives items whose atoms are these texts, one at most where values are compared
pub record IsKeyOf (equality : Equality) (trees : List Tree) (key : JoinKey) (xs : List ItemView)
    (texts : List Text) : Type 0 where
  pub value : List Item
  pub gives : key_from key (items_at trees xs) trees ≡ (Ok value, trees)
  pub are : AreTexts (atomized trees value) texts
  pub few : equality ≡ comparing_by.Value → length texts ≤ 1

-- the texts of a key, where it gives a value
abbrev pub texts_given : Outcome (List Item) → List Text
texts_given (Ok xs, trees) = map text_of (atomized trees xs)
texts_given (Err code, trees) = []

abbrev pub join_texts : List Tree → JoinKey → List ItemView → List Text
join_texts trees key xs = texts_given (key_from key (items_at trees xs) trees)

-- it has texts alone
abbrev pub IsTold : Equality → List Tree → JoinKey → List ItemView → Type 0
IsTold equality trees key xs = IsKeyOf equality trees key xs (join_texts trees key xs)

-- the keys of the join, that of the item in the last slot
pub record AreSides (join : Join) (item tuple : JoinKey) : Type 0 where
  pub either : ((join.left ≡ item) × (join.right ≡ tuple))
      ⊎ ((join.left ≡ tuple) × (join.right ≡ item))
  pub below : tuple.slot < item.slot
