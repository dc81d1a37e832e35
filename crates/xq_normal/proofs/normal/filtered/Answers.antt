use Rattle.std.proofs.Common.{refl, sym, ◌∙◌}
use Rattle.std.proofs.lemmas.Bool.{false≢true}
use Rattle.xq_normal.proofs.normal.filtered.Goals as goal

pub returns-then-is_empty-clause-alone : goal.returns-then-is_empty-clause-alone
returns-then-is_empty-clause-alone c = λ none. refl

pub returns-clause-alone : goal.returns-clause-alone
returns-clause-alone c = λ none. absurd (false≢true (sym c.if-is_empty.false ∙ c.is_empty.ensures.1 none))
