use Rattle.std.proofs.Common.{◌++◌, ◌∷◌, [], ℕ, List, ap, ◌∙◌, refl}
use Rattle.xq_trees.specs.Rows.{rows}
use Rattle.xq_sources.proofs.Planting.{IsMore, is_more}
use Rattle.xq_sources.proofs.planted.TreeArena.push.Goals as goal
use Rattle.xq_sources.proofs.planted.TreeArena.push.Goals.{After-push_reserved}

one : (c : After-push_reserved) → IsMore c.append_whole.new.list.rows c.push_reserved.new.self.items c.args.self.now c.args.tree
one c =
    let rs = c.self.inside.rows.rows in
    let end = c.push_reserved.ensures.items
    ∙ ap (λ (ends : List ℕ). ends ++ c.len.result ∷ []) c.reserve.ensures.items
    ∙ ap (λ (n : ℕ). c.self.inside.ends.items ++ n ∷ []) c.len.ensures.rows in
    is_more rs c.append_whole.new.list.rows (rows c.args.tree) c.self.inside.ends.items c.push_reserved.new.self.items c.args.self.now c.args.tree c.self.view_is c.self.invariant
    (record { is_tree = c.append_whole.ensures.is_tree; rows = refl }) c.in_ok-append_whole.ensures.added end

pub invariant_of-self-2 : goal.invariant_of-self-2
invariant_of-self-2 c = let is = one c in is.planted

pub returns-clause-ok : goal.returns-clause-ok
returns-clause-ok c = let is = one c in is.seen
