use Rattle.std.proofs.Common.{rules, take, sym, ap, subst, ◌∙◌}
use Rattle.xq_trees.specs.Rows.{rows}
use Rattle.xq_store.specs.private.Shelves.{IsFront, kept_rows}
use Rattle.xq_store.proofs.FrontLaws.{copied_first, fewer_first}
use Rattle.xq_store.proofs.Parents.{more_kept, none_kept}
use Rattle.xq_store.proofs.shelves.CachedDocument.forget_rows.Goals as goal

pub returns : goal.returns
returns c = λ t is.
    let count = c.guided_rows.result in
    let few = c.first-few.ensures ∙ ap (take count) c.all_of.ensures in
    record {
      rows = copied_first t c.new-rows.result.rows c.args.self.now.rows.rows c.append_run.new.self.rows 1 c.append_run.result c.new-rows.ensures.rows is.rows c.append_run.ensures.rows c.append_run.ensures.err;
      parents = more_kept t c.first-few.result c.new-guide.result c.read_on.new.self (subst (IsFront t) (sym few) (fewer_first t count (kept_rows c.args.self.now) is.rows)) c.read_on.ensures (none_kept (rows t) c.new-guide.result c.new-guide.ensures);
      names = is.names;
      values = search rules;
    }
