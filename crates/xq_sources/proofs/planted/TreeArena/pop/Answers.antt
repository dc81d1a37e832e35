use Rattle.std.proofs.Common.{◌≡◌, ◌++◌, ◌∷◌, [], ℕ, List, length, map, sym, ap, ◌∙◌, subst, arith}
use Rattle.std.specs.Prelude.{slice_range}
use Rattle.xq_trees.specs.Tree.{Tree}
use Rattle.xq_trees.specs.Rows.{Row, tree_of, AreRowsOf}
use Rattle.xq_packed.specs.Changes.{moved}
use Rattle.xq_sources.specs.private.Planted.{start_of, trees_after, ArePlanted}
use Rattle.xq_sources.proofs.Planting.{IsCut, is_cut, stays}
use Rattle.xq_sources.proofs.planted.TreeArena.pop.Goals as goal
use Rattle.xq_sources.proofs.planted.TreeArena.pop.Goals.{After-truncate}

copied : (c : After-truncate) → c.append_run.new.self.rows ≡ slice_range c.self.inside.rows.rows c.start_of-start.result c.in_ok-end.end
copied c =
    let part = slice_range c.self.inside.rows.rows c.start_of-start.result c.in_ok-end.end in
    c.in-Ok.ensures.rows
    ∙ ap (λ (rs : List Row). rs ++ map (moved 0 0) part) c.new-rows.ensures.rows
    ∙ stays part

cut : (c : After-truncate) → IsCut c.self.inside.rows.rows c.self.inside.ends.items c.pop.new.self.items c.start_of-start.result c.in_ok-end.end
cut c =
    let front = c.pop.new.self.items in
    let many : c.len.result ≡ length front = omega (arith, c.len.ensures) in
    let begins = c.start_of-start.ensures
    ∙ ap (λ (ends : List ℕ). start_of 0 ends c.len.result) c.deref.ensures.value
    ∙ ap (start_of 0 front) many in
    is_cut c.self.inside.rows.rows c.self.inside.ends.items front c.start_of-start.result c.in_ok-end.end c.in_ok-end.ensures.items begins c.self.invariant

pub of_rows-requires : goal.of_rows-requires
of_rows-requires c =
    let last = cut c in
    let are = subst (λ (rs : List Row). AreRowsOf rs (tree_of rs)) (sym (copied c)) last.are in
    record { is_tree = are.is_tree; rows = are.rows }

pub invariant_of-self-2 : goal.invariant_of-self-2
invariant_of-self-2 c =
    let last = cut c.before in
    subst (λ (rs : List Row). ArePlanted rs 0 c.pop.new.self.items) (sym c.truncate.ensures.rows) last.others

pub returns-clause-taken : goal.returns-clause-taken
returns-clause-taken c =
    let last = cut c.before in
    let front = c.pop.new.self.items in
    sym c.self.view_is ∙ last.trees
    ∙ ap (λ (rs : List Row). trees_after rs 0 front ++ tree_of (slice_range c.self.inside.rows.rows c.start_of-start.result c.in_ok-end.end) ∷ []) (sym c.truncate.ensures.rows)
    ∙ ap (λ (t : Tree). trees_after c.truncate.new.self.rows 0 front ++ t ∷ []) (sym (c.of_rows.ensures ∙ ap tree_of (copied c.before)))
