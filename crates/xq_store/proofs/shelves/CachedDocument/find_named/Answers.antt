use Rattle.std.proofs.Common.{◌≡◌, length, sym, ap, subst, ◌∙◌}
use Rattle.std.specs.List.{enumerate_from}
use Rattle.std.specs.Prelude.{IfOk, IfSome}
use Rattle.xq_trees.specs.Forest.{count}
use Rattle.xq_trees.specs.Rows.{placed_rows}
use Rattle.xq_trees.specs.Tree.{nodes}
use Rattle.xq_sources.specs.Lenders.{after_search}
use Rattle.xq_sources.specs.Names.{named, AreNames}
use Rattle.xq_store.specs.private.Shelves.{IsFront}
use Rattle.xq_store.proofs.Values.{all_many}
use Rattle.xq_store.proofs.shelves.CachedDocument.find_named.Goals as goal

pub returns-clause-kept : goal.returns-clause-kept
returns-clause-kept c = λ t is.
    let whole = c.are_whole.ensures c.if-not-are_whole.false t (subst (IsFront t) (sym c.all_of-rows.ensures) is.rows) in
    record {
      rows = is.rows;
      parents = is.parents;
      names = subst (λ l. AreNames l c.find_named-looked.new.names) whole (c.find_named-looked.ensures.kept (subst (λ l. AreNames l c.args.self.now.names) (sym whole) is.names));
      values = is.values;
    }

pub returns-clause-found : goal.returns-clause-found
returns-clause-found c = λ t is.
    let whole = c.are_whole.ensures c.if-not-are_whole.false t (subst (IsFront t) (sym c.all_of-rows.ensures) is.rows) in
    subst (λ l. IfOk c.find_named-looked.result (λ looked. IfSome looked (λ places. places.items ≡ named l c.args.name.now))) whole c.find_named-looked.ensures.found

pub returns-clause-counts : goal.returns-clause-counts
returns-clause-counts c = λ t is.
    let rs = c.args.self.now.rows.rows in
    let whole = c.are_whole.ensures c.if-not-are_whole.false t (subst (IsFront t) (sym c.all_of-rows.ensures) is.rows) in
    let many = c.len.ensures ∙ ap length c.all_of-rows.ensures ∙ all_many t rs (sym c.all_of-rows.ensures ∙ whole) in
    c.after_search.ensures ∙ ap (λ n. after_search c.args.meter.now n c.find_named-looked.result) many
