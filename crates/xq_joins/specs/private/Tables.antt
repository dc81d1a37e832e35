-- A table from texts to nodes.
use Rattle.std.specs.Prelude.{◌≡◌, ◌&&◌, List, [], ◌∷◌, filter, Bool, String}
use Rattle.std.specs.Global.{Global, Vec}
use Rattle.std.specs.HashMap.{HashMap, get_by_text}
use Rattle.std.specs.List.{AllByRecursion, list_any}
use Rattle.std.specs.Option.{option_map_or}
use Rattle.xq_atoms.specs.Text.{Text, text_eq}
use Rattle.xq_trees.specs.declared.items.Node.{Node}
use Rattle.xq_trees.specs.Items.{ItemView, Place}
use Rattle.xq_trees.specs.Tree.{Tree}
use Rattle.xq_meaning.specs.declared.joins.Equality.{Equality}
use Rattle.xq_meaning.specs.declared.joins.JoinKey.{JoinKey}
use Rattle.xq_joins.specs.Keys.{meet}
use Rattle.xq_joins.specs.private.JoinKeys.{join_texts, IsTold}

-- the nodes that the table has for a text
abbrev pub nodes_with : {S : Type 0} → HashMap (String Global) (Vec Node) S → Text → List Node
nodes_with table text = option_map_or (λ nodes. nodes.items) (get_by_text table text) []

-- a text of the key of the node is this one
abbrev pub has_key : List Tree → JoinKey → Text → Node → Bool
has_key trees key text node = list_any (text_eq text) (join_texts trees key (Place node ∷ []))

-- the table has for each text the nodes with this text as a key; their keys are texts
pub record IsTable {S : Type 0} (equality : Equality) (trees : List Tree) (key : JoinKey)
    (nodes : List Node) (table : HashMap (String Global) (Vec Node) S) : Type 0 where
  pub found : (text : Text) (p : Node → Bool) → list_any p (nodes_with table text)
      ≡ list_any (λ node. p node && has_key trees key text node) nodes
  pub told : AllByRecursion (λ node. IsTold equality trees key (Place node ∷ [])) nodes

-- those items whose key shares a text with the other key
abbrev pub matched : List Tree → JoinKey → JoinKey → List ItemView → List ItemView → List ItemView
matched trees item key ys xs =
    filter (λ x. meet (join_texts trees item (x ∷ [])) (join_texts trees key ys)) xs
