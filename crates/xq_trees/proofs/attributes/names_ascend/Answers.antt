use Rattle.std.proofs.Common.{rules}
use Rattle.std.specs.Cmp.Lexicographic.{slice_cmp}
use Rattle.std.specs.Ordering.{is_lt, nat_cmp}
use Rattle.std.proofs.lemmas.Fn.{always_returns_same}
use Rattle.xq_trees.specs.private.Checks.{rank_of}
use Rattle.xq_trees.proofs.attributes.names_ascend.Goals as goal

pub returns : goal.returns
returns c = c.is_sorted_by.ensures.cases (λ x y. is_lt (slice_cmp nat_cmp (rank_of x) (rank_of y))) (always_returns_same _ _ _ (λ a r f k. search rules))
