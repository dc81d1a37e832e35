use Rattle.std.proofs.Common.{◌+◌, ◌∙◌, refl, arith}
use Rattle.std.proofs.lemmas.Grind.{common_steps}
use Rattle.xq_build.proofs.Counted.{within_from, within_next, within_read}
use Rattle.xq_build.proofs.printer.append_others.Goals as goal

pub loop-item-init : goal.loop-item-init
loop-item-init g c = record {
  keeps = refl;
  was_clean = λ h. h;
  within = c.requires;
  written = λ h. refl;
  reads = λ h. within_from _ _ _;
}

pub loop-item-preserved : goal.loop-item-preserved
loop-item-preserved g c = record {
  keeps = c.append_item.ensures.keeps ∙ c.loop-item.invariant.keeps;
  was_clean = λ h. c.loop-item.invariant.was_clean (c.append_item.ensures.was_clean h);
  within = c.in_ok-append_item.ensures.within;
  written = λ h. grind (arith, common_steps);
  reads = λ h.
      within_next (g.L.TreeSource.forest c.args.source.now) (g.L.TreeSource.forest c.loop-item.source) c.args.items.now c.loop-item.item-index c.item-item.result _ _ _ _
      c.loop-item.invariant.keeps (omega arith) c.item-item.is (c.loop-item.invariant.reads (c.append_item.ensures.was_clean h)) (c.append_item.ensures.reads h);
}

pub returns-in_err-append-clause-reads : goal.returns-in_err-append-clause-reads
returns-in_err-append-clause-reads g c = λ h. within_read _ _ _ _ _ (c.loop-item.invariant.reads h)

pub returns-in_err-append_item-clause-reads : goal.returns-in_err-append_item-clause-reads
returns-in_err-append_item-clause-reads g c = λ h.
    within_read (g.L.TreeSource.forest c.args.source.now) c.args.items.now (c.loop-item.item-index + 1) _ _ (
    within_next (g.L.TreeSource.forest c.args.source.now) (g.L.TreeSource.forest c.loop-item.source) c.args.items.now c.loop-item.item-index c.item-item.result _ _ _ _
    c.loop-item.invariant.keeps (omega arith) c.item-item.is (c.loop-item.invariant.reads (c.append_item.ensures.was_clean h)) (c.append_item.ensures.reads h))

pub returns-clause-reads : goal.returns-clause-reads
returns-clause-reads g c = λ h. within_read _ _ _ _ _ (c.loop-item.invariant.reads h)
