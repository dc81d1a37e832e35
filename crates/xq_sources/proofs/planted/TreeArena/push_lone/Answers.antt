use Rattle.std.proofs.Common.{◌≡◌, ◌++◌, ◌∷◌, [], ℕ, List, true, ap, ◌∙◌, rules}
use Rattle.xq_trees.specs.Tree.{is_legal}
use Rattle.xq_packed.specs.Packed.{row}
use Rattle.xq_sources.specs.Grafts.{lone}
use Rattle.xq_sources.proofs.Few.{lone_rows}
use Rattle.xq_sources.proofs.Planting.{IsMore, is_more}
use Rattle.xq_sources.proofs.planted.TreeArena.push_lone.Goals as goal
use Rattle.xq_sources.proofs.planted.TreeArena.push_lone.Goals.{After-push_reserved}

one : (c : After-push_reserved) → IsMore c.push_parts.new.self.rows c.push_reserved.new.self.items c.args.self.now (lone c.args.kind c.args.name.now c.args.value.now)
one c =
    let legal : is_legal c.args.kind c.args.name.now c.args.value.now ≡ true = search rules in
    let end = c.push_reserved.ensures.items
    ∙ ap (λ (ends : List ℕ). ends ++ c.len.result ∷ []) c.reserve.ensures.items
    ∙ ap (λ (n : ℕ). c.self.inside.ends.items ++ n ∷ []) c.len.ensures.rows in
    is_more c.self.inside.rows.rows c.push_parts.new.self.rows (row 0 0 c.args.kind c.args.name.now c.args.value.now ∷ []) c.self.inside.ends.items c.push_reserved.new.self.items c.args.self.now (lone c.args.kind c.args.name.now c.args.value.now) c.self.view_is c.self.invariant
    (lone_rows c.args.kind c.args.name.now c.args.value.now c.utf8.name c.utf8.value legal) c.in_ok-push_parts.ensures.rows end

pub invariant_of-self-2 : goal.invariant_of-self-2
invariant_of-self-2 c = let is = one c in is.planted

pub returns-clause-grown : goal.returns-clause-grown
returns-clause-grown c = λ _. let is = one c in is.seen
