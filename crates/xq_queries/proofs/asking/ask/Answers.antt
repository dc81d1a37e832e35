use Rattle.xq_queries.proofs.Asked.{only_scanned, then_printed}
use Rattle.xq_queries.proofs.Ranges.{if_given, numbers_of}
use Rattle.xq_queries.proofs.asking.ask.Goals as goal

pub returns-clause-in_range : goal.returns-clause-in_range
returns-clause-in_range g c = λ clean fits.
    (let gives = c.in_ok-items.ensures.gives (c.print_items.ensures.was_clean clean) fits in
    if_given c.print_items.result _ (numbers_of _ _ c.in_ok-items.items.items c.deref.result.now c.deref.ensures.value gives.1 c.are_in_range.ensures))

pub returns-in_err-items-clause-reads : goal.returns-in_err-items-clause-reads
returns-in_err-items-clause-reads g c = λ clean fits. only_scanned _ _ _ _ _ (c.eval.ensures.reads clean fits)

pub returns-clause-reads : goal.returns-clause-reads
returns-clause-reads g c = λ clean fits.
    (let early = c.print_items.ensures.was_clean clean in
    then_printed c.args.plan.now c.args.addresses.now (g.W.TreeSource.forest c.args.world.now) (g.W.TreeSource.forest c.eval.new.world) c.in_ok-items.items.items c.deref-2.result.now
    _ (g.W.TreeSource.meter c.eval.new.world) _ c.deref-2.ensures.value (c.in_ok-items.ensures.gives early fits).1 (c.in_ok-items.ensures.reads early fits) (c.print_items.ensures.reads clean))
