use Rattle.std.proofs.Common.{◌≡◌, ◌-◌, ℕ, List, get_or, drop, sym, ap, ◌∙◌, subst, arith}
use Rattle.std.specs.List.{enumerate_from}
use Rattle.std.proofs.lemmas.Grind.{get_or_default_zero}
use Rattle.std.proofs.lemmas.Option.{slice_get_past, slice_get-get_or}
use Rattle.xq_trees.specs.Tree.{IsTree}
use Rattle.xq_trees.specs.Rows.{rows}
use Rattle.xq_sources.specs.Lent.{placed_between}
use Rattle.xq_sources.specs.Sources.{no_tree}
use Rattle.xq_sources.specs.private.Planted.{start_of}
use Rattle.xq_sources.proofs.Planting.{IsAt, as_many, at, read_part}
use Rattle.xq_sources.proofs.planted.TreeArena.rows_of.Goals as goal
use Rattle.xq_sources.proofs.planted.TreeArena.rows_of.Goals.{After-row_known-1, After-packed_after}

pub returns-then-tree-len-clause-absent : goal.returns-then-tree-len-clause-absent
returns-then-tree-len-clause-absent c =
    let many = as_many c.self.inside.rows.rows c.self.inside.ends.items c.args.self.now c.self.view_is in
    slice_get_past c.args.self.now c.args.tree (omega (arith, many, c.len.ensures, c.if-tree-len.true))

here : (c : After-row_known-1) → IsAt c.self.inside.rows.rows c.self.inside.ends.items c.args.self.now c.args.tree
here c =
    at c.self.inside.rows.rows c.self.inside.ends.items c.args.self.now c.args.tree c.self.view_is c.self.invariant (omega (arith, c.len.ensures, c.if-tree-len.false))

start : (c : After-row_known-1) → c.start_of-start.result ≡ start_of 0 c.self.inside.ends.items c.args.tree
start c = c.start_of-start.ensures ∙ ap (λ (ends : List ℕ). start_of 0 ends c.args.tree) c.deref.ensures.value

end : (c : After-row_known-1) → c.index-end.result.now ≡ get_or c.self.inside.ends.items c.args.tree 0
end c =
    c.index-end.ensures
    ∙ get_or_default_zero c.self.inside.ends.items c.args.tree c.index-end.result.now (omega (arith, c.len.ensures, c.if-tree-len.false))

pub overflow_sub-end : goal.overflow_sub-end
overflow_sub-end c =
    let is = here c in
    let rises = is.there.rises in
    omega (arith, rises, start c, end c)

pub packed_after-requires : goal.packed_after-requires
packed_after-requires c =
    let is = here c in
    let rises = is.there.rises in
    let within = is.there.within in
    omega (arith, rises, within, start c)

found : (c : After-packed_after) → IsAt c.self.inside.rows.rows c.self.inside.ends.items c.args.self.now c.args.tree
found c =
    at c.self.inside.rows.rows c.self.inside.ends.items c.args.self.now c.args.tree c.self.view_is c.self.invariant (omega (arith, c.len.ensures, c.if-tree-len.false))

pub returns-clause-exists : goal.returns-clause-exists
returns-clause-exists c = let is = found c in is.within

pub returns-clause-held : goal.returns-clause-held
returns-clause-held c = let is = found c in slice_get-get_or c.args.self.now c.args.tree no_tree is.within

pub returns-clause-is_tree : goal.returns-clause-is_tree
returns-clause-is_tree c = let is = found c in subst IsTree (sym is.is) is.there.are.is_tree

pub returns-clause-rows : goal.returns-clause-rows
returns-clause-rows c =
    let rs = c.self.inside.rows.rows in
    let ends = c.self.inside.ends.items in
    let low = start_of 0 ends c.args.tree in
    let first : c.start_of-start.result ≡ low = c.start_of-start.ensures ∙ ap (λ (es : List ℕ). start_of 0 es c.args.tree) c.deref.ensures.value in
    let last : c.index-end.result.now ≡ get_or ends c.args.tree 0 = c.index-end.ensures ∙ get_or_default_zero ends c.args.tree c.index-end.result.now (omega (arith, c.len.ensures, c.if-tree-len.false)) in
    let is = found c in
    c.packed_after.ensures
    ∙ ap (λ (n : ℕ). placed_between (drop n rs) 0 (c.index-end.result.now - n)) first
    ∙ ap (λ (n : ℕ). placed_between (drop low rs) 0 (n - low)) last
    ∙ read_part rs low (get_or ends c.args.tree 0)
    ∙ ap (enumerate_from 0) (is.there.are.rows ∙ ap rows (sym is.is))
