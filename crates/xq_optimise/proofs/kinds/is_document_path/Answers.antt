use Rattle.std.proofs.Common.{sym, subst}
use Rattle.std.specs.List.{AllByRecursion}
use Rattle.xq_optimise.specs.private.Parts.{IsScan}
use Rattle.xq_optimise.proofs.Documents.{no_path_of_scans}
use Rattle.xq_optimise.proofs.kinds.is_document_path.Goals as goal

pub returns-then-is_document : goal.returns-then-is_document
returns-then-is_document c = λ e.
    no_path_of_scans c.args.plan.now c.in-Path.start c.in-Path.steps c.in-Path.is
    (λ all. c.are_scans.ensures.none e (subst (AllByRecursion IsScan) (sym c.as_slice.ensures) all))
