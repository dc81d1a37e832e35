-- When one plan gives what another gives: value or code, and trees.
use Rattle.std.specs.Prelude.{◌≡◌, List, Option}
use Rattle.xq_atoms.specs.Text.{Text}
use Rattle.xq_trees.specs.Tree.{Tree}
use Rattle.xq_meaning.specs.declared.plans.Plan.{Plan}
use Rattle.xq_meaning.specs.Functions.{Focus}
use Rattle.xq_meaning.specs.PlanMeaning.{Slots, plan_mean}
use Rattle.xq_meaning.specs.Same.{frame_of}
use Rattle.xq_optimise.specs.declared.held.Held.{Held}
use Rattle.xq_optimise.specs.Known.{Fits}

-- in every frame whose slots are as described, over any trees
abbrev pub GivesSame : List Held → Plan → Plan → Type 0
GivesSame known p q =
    (slots : Slots) (focus : Option Focus) (addresses : List Text) (trees : List Tree) →
    Fits known slots →
    plan_mean q (frame_of slots focus addresses) trees
    ≡ plan_mean p (frame_of slots focus addresses) trees
