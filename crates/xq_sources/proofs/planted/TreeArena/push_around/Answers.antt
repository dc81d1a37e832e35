use Rattle.std.proofs.Common.{◌≡◌, ◌++◌, ◌∷◌, [], ℕ, List, ap, ◌∙◌, append_assoc, rules}
use Rattle.std.specs.Prelude.{IsTrue}
use Rattle.xq_trees.specs.Rows.{Row}
use Rattle.xq_trees.specs.declared.Kind.TheVariants.{Element, Text}
use Rattle.xq_packed.specs.Packed.{row}
use Rattle.xq_sources.specs.Grafts.{around_text}
use Rattle.xq_sources.proofs.Few.{around_rows}
use Rattle.xq_sources.proofs.Planting.{IsMore, is_more}
use Rattle.xq_sources.proofs.planted.TreeArena.push_around.Goals as goal
use Rattle.xq_sources.proofs.planted.TreeArena.push_around.Goals.{After-push_reserved}

one : (c : After-push_reserved) → IsMore c.push_parts-2.new.self.rows c.push_reserved.new.self.items c.args.self.now (around_text c.args.name.now c.args.value.now)
one c =
    let rs = c.self.inside.rows.rows in
    let root = row 1 0 Element c.args.name.now [] in
    let text = row 0 1 Text [] c.args.value.now in
    let may : IsTrue c.may_go_around.result = search rules in
    let pushed : c.push_parts-2.new.self.rows ≡ rs ++ root ∷ text ∷ [] = c.in_default.ensures.rows
    ∙ ap (λ (qs : List Row). qs ++ text ∷ []) c.in_ok-push_parts.ensures.rows
    ∙ append_assoc rs (root ∷ []) (text ∷ []) in
    let end = c.push_reserved.ensures.items
    ∙ ap (λ (ends : List ℕ). ends ++ c.len.result ∷ []) c.reserve.ensures.items
    ∙ ap (λ (n : ℕ). c.self.inside.ends.items ++ n ∷ []) c.len.ensures.rows in
    is_more rs c.push_parts-2.new.self.rows (root ∷ text ∷ []) c.self.inside.ends.items c.push_reserved.new.self.items c.args.self.now (around_text c.args.name.now c.args.value.now) c.self.view_is c.self.invariant
    (around_rows c.args.name.now c.args.value.now c.utf8.name c.utf8.value (c.may_go_around.ensures.element may) (c.may_go_around.ensures.text may) (c.may_go_around.ensures.some may)) pushed end

pub invariant_of-self-2 : goal.invariant_of-self-2
invariant_of-self-2 c = let is = one c in is.planted

pub returns-clause-grown : goal.returns-clause-grown
returns-clause-grown c = λ _. let is = one c in is.seen
