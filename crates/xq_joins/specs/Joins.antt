-- What a join keeps of tuples with items.
use Rattle.std.specs.Prelude.{◌≡◌, List, map, false, Ok}
use Rattle.std.specs.List.{AllByRecursion, zip}
use Rattle.xq_trees.specs.Items.{ItemView, Value}
use Rattle.xq_trees.specs.Tree.{Tree}
use Rattle.xq_trees.specs.Tuples.{Tuple, expanded}
use Rattle.xq_meaning.specs.declared.joins.Join.{Join}
use Rattle.xq_meaning.specs.Doing.{collected}
use Rattle.xq_meaning.specs.Forms as Forms
use Rattle.xq_meaning.specs.PlanMeaning.{Frame, at_tuple, keys_equal, if_equal}
use Rattle.xq_meaning.specs.Readings.{items_at}
use Rattle.xq_operators.specs.Views.{tuple_at, tuples_at, TupleIn}

-- each tuple with each of the items
abbrev pub all_pairs : List (Tuple ItemView) → List ItemView → List (Tuple ItemView)
all_pairs tuples xs = expanded Value false false tuples (map (λ t. xs) tuples)

-- of these pairs, those whose keys are equal are each tuple with each item of its list, and nothing
-- is refused or constructed
pub record Matches (trees : List Tree) (join : Join) (outside : Tuple ItemView)
    (tuples : List (Tuple ItemView)) (xs : List ItemView) (lists : List (List ItemView)) : Type 0
  where
    pub inside : TupleIn trees lists
    pub gives : (frame : Frame) → frame.env ≡ tuple_at trees outside
        → Forms.where_tuples (keys_equal join) (at_tuple frame)
        (tuples_at trees (all_pairs tuples xs)) trees
        ≡ (Ok (tuples_at trees (expanded Value false false tuples lists)), trees)
    -- and at each tuple alone, the items with which the keys are equal are those of its list
    pub apart : (frame : Frame) → frame.env ≡ tuple_at trees outside
        → AllByRecursion (λ (t, list).
        collected (if_equal join frame (tuple_at trees t)) (items_at trees xs) trees
        ≡ (Ok (items_at trees list), trees)) (zip tuples lists)
