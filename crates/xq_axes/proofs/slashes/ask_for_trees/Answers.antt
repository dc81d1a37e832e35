use Rattle.std.proofs.Common.{◌≡◌, ℕ, true, eqb, get_or, Option, Some, None, inl, inr, sym, ap, subst, ◌∙◌, arith}
use Rattle.std.specs.Option.{option_eq}
use Rattle.std.proofs.lemmas.Bool.{cases_lt, eqb-true}
use Rattle.xq_trees.specs.Tree.{IsTree}
use Rattle.xq_trees.specs.declared.items.Node.{Node}
use Rattle.xq_sources.specs.Meters.{Readings}
use Rattle.xq_sources.specs.Sources.{tree_at}
use Rattle.xq_axes.proofs.Many.{default_at}
use Rattle.xq_trees.proofs.Rising.{from_contains}
use Rattle.xq_axes.proofs.slashes.ask_for_trees.Goals as goal

asked_is : (asked : Option ℕ) (n : ℕ) → option_eq eqb asked (Some n) ≡ true → asked ≡ Some n
asked_is None n e = absurd (cc)
asked_is (Some m) n e = ap Some (eqb-true m n e)

pub loop-node-preserved-then-eq : goal.loop-node-preserved-then-eq
loop-node-preserved-then-eq g c =
    let inv = c.loop-node.invariant in
    let trees = g.L.TreeSource.forest c.args.source.now in
    let ns = c.args.nodes.now in
    let index = c.loop-node.node-index in
    let x : Node = get_or ns index (record { tree = 0; pre = 0 }) in
    let is = asked_is c.loop-node.asked x.tree (sym c.if-eq.ensures) in
    record {
      forest = inv.forest;
      clean = inv.clean;
      rows = inv.rows;
      singles = (let s = inv.singles in omega (arith, s));
      looks = inv.looks;
      so_far = λ k i d l. elim (cases_lt i index) [
        | inl m ↦ inv.so_far k i d m
        | inr m ↦ (
            let same : index ≡ i = omega (arith, l, m) in
            subst (λ j. IsTree (tree_at trees (get_or ns j d).tree)) same
            (subst (λ (n : Node). IsTree (tree_at trees n.tree)) (default_at ns index (record { tree = 0; pre = 0 }) d (omega arith)) (inv.asked k x.tree is)))
      ];
      asked = inv.asked;
    }

pub loop-node-preserved : goal.loop-node-preserved
loop-node-preserved g c =
    let inv = c.loop-node.invariant in
    let trees = g.L.TreeSource.forest c.args.source.now in
    let ns = c.args.nodes.now in
    let index = c.loop-node.node-index in
    let x : Node = get_or ns index (record { tree = 0; pre = 0 }) in
    let counts = c.in_ok-fetch_row.ensures.counts in
    let was = c.in_ok-fetch_row.ensures.was_clean in
    let tree : g.L.TreeSource.is_clean c.fetch_row.new.self → IsTree (tree_at trees x.tree) = λ k. subst (λ f. IsTree (tree_at f x.tree)) inv.forest (c.in_ok-fetch_row.ensures.is_tree k) in
    record {
      forest = c.in_ok-fetch_row.ensures.keeps ∙ inv.forest;
      clean = λ k. inv.clean (was k);
      rows = ap (λ (m : Readings). m.rows) counts ∙ inv.rows;
      singles = (let s = inv.singles in let n = ap (λ (m : Readings). m.singles) counts in omega (arith, s, n));
      looks = ap (λ (m : Readings). m.looks) counts ∙ inv.looks;
      so_far = λ k i d l. elim (cases_lt i index) [
        | inl m ↦ inv.so_far (was k) i d m
        | inr m ↦ (
            let same : index ≡ i = omega (arith, l, m) in
            subst (λ j. IsTree (tree_at trees (get_or ns j d).tree)) same
            (subst (λ (n : Node). IsTree (tree_at trees n.tree)) (default_at ns index (record { tree = 0; pre = 0 }) d (omega arith)) (tree k)))
      ];
      asked = λ k n e. (let same : x.tree ≡ n = cc in subst (λ m. IsTree (tree_at trees m)) same (tree k));
    }

pub returns-clause-trees : goal.returns-clause-trees
returns-clause-trees g c = λ k. from_contains _ _ (λ n m. (
    let trees = g.L.TreeSource.forest c.args.source.now in
    subst (λ (n : Node). IsTree (tree_at trees n.tree)) m.2 (c.loop-node.invariant.so_far k m.0 n (omega (arith, m.1)))))
