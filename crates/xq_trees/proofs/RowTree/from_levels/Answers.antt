use Rattle.std.proofs.Common.{arith, sym, ◌∙◌}
use Rattle.xq_trees.proofs.SizedRows.{encodes_levels, levels_encoded, few_levels}
use Rattle.xq_trees.proofs.RowTree.from_levels.Goals as goal

pub returns-then-len-gt-MAX_NODES-clause-none : goal.returns-then-len-gt-MAX_NODES-clause-none
returns-then-len-gt-MAX_NODES-clause-none c = λ _ t is e. omega (arith, few_levels c.args.rows.items t is e)

pub returns-in-Ok-clause-some : goal.returns-in-Ok-clause-some
returns-in-Ok-clause-some c =
    sym c.with_places.ensures.same ∙ sym c.with_sizes.ensures.same ∙ levels_encoded c.with_sizes.result.items c.in-Ok.tree c.in-Ok.ensures.ok

pub returns-clause-none : goal.returns-clause-none
returns-clause-none c =
    λ _ t is e. c.in-Err.ensures.err (
      t,
      encodes_levels c.with_sizes.result.items t is c.with_sizes.ensures.sized (c.with_sizes.ensures.numbered c.with_places.ensures.numbered)
          (c.with_sizes.ensures.same ∙ c.with_places.ensures.same ∙ e),
    )
