use Rattle.xq_trees.specs.Tree.{nodes}
use Rattle.xq_trees.proofs.Injective.{rows-injective}
use Rattle.xq_trees.proofs.Paths.{place_lt, path_at-place_of, at_place}
use Rattle.xq_trees.proofs.Regions.{before_by_place}
use Rattle.xq_trees.proofs.AxisRegions.{axis_region}
use Rattle.xq_trees.proofs.laws.trees_are_their_rows.Goals as goal

pub returns-clause-equal : goal.returns-clause-equal
returns-clause-equal c = rows-injective

pub returns-clause-places : goal.returns-clause-places
returns-clause-places c = λ t p h. (place_lt (nodes t) p h, path_at-place_of (nodes t) p h)

pub returns-clause-paths : goal.returns-clause-paths
returns-clause-paths c = λ t n l. (let w = at_place (nodes t) n l in (w.exists, w.place))

pub returns-clause-order : goal.returns-clause-order
returns-clause-order c = λ t. before_by_place (nodes t)

pub returns-clause-axes : goal.returns-clause-axes
returns-clause-axes c = axis_region
