use Rattle.std.proofs.Common.{◌∙◌, ap}
use Rattle.std.specs.Prelude.{filter}
use Rattle.xq_sources.specs.Sources.{encloses}
use Rattle.xq_sources.proofs.fragments.ConstructedTreesRowSource.enclosing.Goals as goal

pub returns-clause-found : goal.returns-clause-found
returns-clause-found c =
    λ _. c.in_ok-found.ensures ∙ ap (filter (encloses c.args.node)) c.in_ok-rows.ensures.rows
