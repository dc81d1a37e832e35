-- The leading scans of a path from one node, and the steps after them.
use Rattle.std.proofs.Common.{◌≡◌, ℕ, zero, suc, ◌-◌, ◌*◌, ◌≤◌, List, [], ◌∷◌, map, take, drop, length, sym, ◌∙◌, ap, subst, arith}
use Rattle.std.specs.List.{AllByRecursion}
use Rattle.std.proofs.lemmas.List.{length-drop, take_all}
use denote.Param.Weighed.{most}
use Rattle.xq_trees.specs.declared.items.Node.{Node as Spot}
use Rattle.xq_trees.specs.Items.{ItemView, Place as NodeAt}
use Rattle.xq_trees.specs.Tree.{Tree}
use Rattle.xq_sources.specs.Meters.{Readings}
use Rattle.xq_sources.specs.Sources.{HasNode}
use Rattle.xq_meaning.specs.declared.plans.PlanStep.{PlanStep}
use Rattle.xq_meaning.specs.Doing.{in_turn}
use Rattle.xq_meaning.specs.PlanMeaning.{Frame, plan_step_mean, next_step}
use Rattle.xq_meaning.specs.Readings.{items_at, AreIn}
use Rattle.xq_operators.specs.Reads.{rows_of, AreOf, HasGrown}
use Rattle.xq_operators.specs.Runs.{ScansGive}
use Rattle.xq_operators.proofs.OneTree.{of_in}
use Rattle.xq_operators.proofs.Scanning.{go_on_scans, scans_read}

-- # What is left of a list

pub all_drop : {X : Type 0} (P : X → Type 0) (n : ℕ) (xs : List X) → AllByRecursion P xs → AllByRecursion P (drop n xs)
all_drop P zero xs all = all
all_drop P (suc n) [] all = all
all_drop P (suc n) (x ∷ xs) all = all_drop P n xs all.1

pub most_drop : {X : Type 0} (size : X → ℕ) (n : ℕ) (xs : List X) → most size (drop n xs) ≤ most size xs
most_drop size zero xs = omega arith
most_drop size (suc n) [] = omega arith
most_drop size (suc n) (x ∷ xs) = (let left = most_drop size n xs in omega (arith, left))

-- `&xs[n..]`
pub slice_left : {X : Type 0} (n : ℕ) (xs : List X) → take (length xs - n) (drop n xs) ≡ drop n xs
slice_left n xs = (let many = length-drop n xs in take_all (length xs - n) (drop n xs) (omega (arith, many)))

-- # Items that are one node

module _ (f : List Tree) (n : Spot) (items : List ItemView) (is : items ≡ NodeAt n ∷ []) where
  pub node_there : AreIn f items → HasNode f n.tree n.pre
  node_there inside = (subst (AreIn f) is inside).0

  module _ (tree : ℕ) (h : AreOf f tree items) where
    pub node_tree : n.tree ≡ tree
    node_tree = (subst (AreOf f tree) is h).of_tree.0.0

    pub node_of : HasNode f n.tree n.pre
    node_of = node_there (of_in f tree items h.has_tree h.of_tree)

    -- what was read for the node's tree was for that of the items
    pub read_of : (before after : Readings) (k : ℕ) → HasGrown before after (k * rows_of f n.tree) → HasGrown before after (k * rows_of f tree)
    read_of before after k read = subst (λ t. HasGrown before after (k * rows_of f t)) node_tree read

  module _ (steps : List PlanStep) (k : ℕ) (views : List ItemView) (given : ScansGive f n (take k steps) views) where
    pub after_scans : (frame : Frame) → in_turn (next_step frame) (items_at f items) (map plan_step_mean steps) f ≡ in_turn (next_step frame) (items_at f views) (map plan_step_mean (take (length steps - k) (drop k steps))) f
    after_scans frame =
        ap (λ xs. in_turn (next_step frame) (items_at f xs) (map plan_step_mean steps) f) is
        ∙ go_on_scans f n steps k views given frame
        ∙ ap (λ ss. in_turn (next_step frame) (items_at f views) (map plan_step_mean ss) f) (sym (slice_left k steps))

    pub read_after : (start now after : Readings) → k ≤ length steps → HasGrown start now (k * rows_of f n.tree)
        → HasGrown now after (length (take (length steps - k) (drop k steps)) * rows_of f n.tree)
        → HasGrown start after (length steps * rows_of f n.tree)
    read_after start now after within first rest =
        scans_read f n steps k views given start now after within first
        (subst (λ ss. HasGrown now after (length ss * rows_of f n.tree)) (slice_left k steps) rest)
