-- Keys that a test compares.
use Rattle.std.specs.Prelude.{◌≡◌, List, map, Ok}
use Rattle.xq_trees.specs.Tree.{Tree}
use Rattle.xq_trees.specs.Tuples.{value_at}
use Rattle.xq_meaning.specs.declared.plans.Plan.{Plan}
use Rattle.xq_meaning.specs.Forms as Forms
use Rattle.xq_meaning.specs.Items.{Place, Node}
use Rattle.xq_meaning.specs.PlanMeaning.{Frame, plan_mean}
use Rattle.xq_joins.specs.declared.pairs.KeyPair.{KeyPair}
use Rattle.xq_joins.specs.Keys.{meet}
use Rattle.xq_joins.specs.private.Keys.{scans, key_texts}

-- where the slots of both keys hold nodes, the test says whether a text of the one key is a text of
-- the other, and refuses and constructs nothing
pub record IsTest (pair : KeyPair) (test : Plan) : Type 0 where
  pub holds : (frame : Frame) (trees : List Tree) (ps qs : List Place)
      → value_at pair.item.slot frame.env ≡ map Node ps
      → value_at pair.tuple.slot frame.env ≡ map Node qs
      → Forms.tested (plan_mean test) frame trees
      ≡ (
        Ok (meet (key_texts trees (scans pair.item.steps.now) ps)
            (key_texts trees (scans pair.tuple.steps.now) qs)),
        trees,
      )
