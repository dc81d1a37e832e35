use Rattle.std.proofs.Common.{rules, sym, subst}
use Rattle.xq_trees.specs.Rows.{rows}
use Rattle.xq_store.specs.private.Shelves.{IsFront}
use Rattle.xq_store.proofs.Parents.{more_kept, none_kept}
use Rattle.xq_store.proofs.shelves.CachedDocument.of_rows.Goals as goal

pub returns : goal.returns
returns c = λ t front.
    record {
      rows = front;
      parents = more_kept t c.all_of.result c.new-guide.result c.read_on.new.self (subst (IsFront t) (sym c.all_of.ensures) front) c.read_on.ensures (none_kept (rows t) c.new-guide.result c.new-guide.ensures);
      names = search rules;
      values = search rules;
    }
