use Rattle.std.proofs.Common.{rules}
use Rattle.std.specs.Ordering.{is_lt}
use Rattle.std.proofs.lemmas.Fn.{always_returns_same}
use Rattle.xq_trees.specs.Rising.{document_order}
use Rattle.xq_trees.proofs.merges.rises.Goals as goal

pub returns : goal.returns
returns c = c.is_sorted_by.ensures.cases (λ x y. is_lt (document_order x y)) (always_returns_same _ _ _ (λ a r f k. search rules))
