use Rattle.std.proofs.Common.{◌≡◌, ◌<◌, [], ◌∷◌, length, ap, subst, ◌∙◌, rc_value, arith}
use Rattle.xq_trees.specs.Rows.{row_at, rows}
use Rattle.xq_trees.specs.Tree.{IsTree}
use Rattle.xq_sources.specs.Sources.{HasNode, tree_at as nth_tree}
use Rattle.xq_store.specs.Views.{Viewed, trees_under}
use Rattle.xq_store.specs.private.Shelves.{front_at, run_of}
use Rattle.xq_store.proofs.FrontLaws.{one-alone}
use Rattle.xq_store.proofs.Lends.{shelved, has_it, is_one, is_a_tree}
use Rattle.xq_store.proofs.lending.ViewRowLender.fetch_row.Goals as goal

pub invariant_of-self : goal.invariant_of-self
invariant_of-self g c = shelved g.S.Store g.O.Origin.beginning _ _ _ c.self.invariant c.read_on.new.store c.read_on.new.shelf.fronts.items c.read_on.ensures.was_clean c.read_on.ensures.fronts _ _ _
    (ap rc_value c.read_on.ensures.addresses) c.read_on.ensures.same _ c.read_on.ensures.stays c.read_on.ensures.alone

pub invariant_of-self-then-node-len : goal.invariant_of-self-then-node-len
invariant_of-self-then-node-len g c = shelved g.S.Store g.O.Origin.beginning _ _ _ c.self.invariant c.read_on.new.store c.read_on.new.shelf.fronts.items c.read_on.ensures.was_clean c.read_on.ensures.fronts _ _ _
    (ap rc_value c.read_on.ensures.addresses) c.read_on.ensures.same _ c.read_on.ensures.stays c.read_on.ensures.alone

pub invariant_of-self-2 : goal.invariant_of-self-2
invariant_of-self-2 g c = shelved g.S.Store g.O.Origin.beginning _ _ _ c.self.invariant c.read_on.new.store c.read_on.new.shelf.fronts.items c.read_on.ensures.was_clean c.read_on.ensures.fronts _ _ _
    (ap rc_value c.read_on.ensures.addresses) c.read_on.ensures.same _ c.read_on.ensures.stays c.read_on.ensures.alone

pub returns-clause-exists : goal.returns-clause-exists
returns-clause-exists g c = λ clean.
    let b = g.O.Origin.beginning in
    let h : c.args.node < length (front_at c.read_on.new.shelf.fronts.items c.args.tree) = subst (λ xs. c.args.node < length xs) (c.cached_rows.ensures ∙ ap (λ fronts. front_at fronts c.args.tree) c.deref.ensures.value) (omega (arith, c.if-node-len.false, c.len.ensures)) in
    subst (λ (w : Viewed _). HasNode (trees_under b w.addresses) c.args.tree c.args.node) c.self.view_is (has_it g.S.Store b _ _ _ c.self.invariant c.read_on.new.store c.read_on.new.shelf.fronts.items c.read_on.ensures.was_clean c.read_on.ensures.fronts c.args.tree c.args.node c.in_ok-read_on.ensures.reached clean.0 clean.1 h)

pub returns-clause-found : goal.returns-clause-found
returns-clause-found g c = λ clean.
    let b = g.O.Origin.beginning in
    let h : c.args.node < length (front_at c.read_on.new.shelf.fronts.items c.args.tree) = subst (λ xs. c.args.node < length xs) (c.cached_rows.ensures ∙ ap (λ fronts. front_at fronts c.args.tree) c.deref.ensures.value) (omega (arith, c.if-node-len.false, c.len.ensures)) in
    let lent = run_of (front_at c.read_on.new.shelf.fronts.items c.args.tree) c.args.node c.args.node in
    subst (λ (w : Viewed _). lent ≡ (c.args.node, row_at (rows (nth_tree (trees_under b w.addresses) c.args.tree)) c.args.node) ∷ []) c.self.view_is
    (is_one g.S.Store b _ _ _ c.self.invariant c.read_on.new.store c.read_on.new.shelf.fronts.items c.read_on.ensures.was_clean c.read_on.ensures.fronts c.args.tree c.args.node c.in_ok-read_on.ensures.reached clean.0 clean.1 h)

pub returns-clause-is_tree : goal.returns-clause-is_tree
returns-clause-is_tree g c = λ clean.
    let b = g.O.Origin.beginning in
    subst (λ (w : Viewed _). IsTree (nth_tree (trees_under b w.addresses) c.args.tree)) c.self.view_is (is_a_tree g.S.Store b _ _ _ c.self.invariant c.read_on.new.store c.read_on.new.shelf.fronts.items c.read_on.ensures.was_clean c.read_on.ensures.fronts c.args.tree c.args.node c.in_ok-read_on.ensures.reached clean.0 clean.1)

pub returns-clause-one : goal.returns-clause-one
returns-clause-one g c =
    let h : c.args.node < length (front_at c.read_on.new.shelf.fronts.items c.args.tree) = subst (λ xs. c.args.node < length xs) (c.cached_rows.ensures ∙ ap (λ fronts. front_at fronts c.args.tree) c.deref.ensures.value) (omega (arith, c.if-node-len.false, c.len.ensures)) in
    one-alone c.args.node (front_at c.read_on.new.shelf.fronts.items c.args.tree) h
