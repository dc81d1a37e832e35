use Rattle.std.proofs.Common.{◌≡◌, length, sym, ap, subst, ◌∙◌, arith}
use Rattle.std.specs.List.{enumerate_from}
use Rattle.xq_trees.specs.Rows.{placed_rows, rows}
use Rattle.xq_sources.specs.Meters.{Readings}
use Rattle.xq_sources.specs.Values.{AreValues}
use Rattle.xq_store.specs.private.Shelves.{IsFront}
use Rattle.xq_store.proofs.Values.{all_rows, all_many}
use Rattle.xq_store.proofs.shelves.CachedDocument.find_values.Goals as goal

pub returns-clause-kept : goal.returns-clause-kept
returns-clause-kept c = λ t is.
    let rs = c.args.self.now.rows.rows in
    let whole : enumerate_from 0 rs ≡ placed_rows t = subst (λ l. IsFront t l → l ≡ placed_rows t) c.all_of-rows.ensures (c.are_whole.ensures c.if-not-are_whole.false t) is.rows in
    let all = all_rows t rs whole in
    record {
      rows = is.rows;
      parents = is.parents;
      names = is.names;
      values = subst (λ l. AreValues l c.find_values-looked.new.values) all (c.find_values-looked.ensures (subst (λ l. AreValues l c.args.self.now.values) (sym all) is.values));
    }

pub returns-in_err-_is_looked-clause-kept : goal.returns-in_err-_is_looked-clause-kept
returns-in_err-_is_looked-clause-kept c = λ t is.
    let rs = c.args.self.now.rows.rows in
    let whole : enumerate_from 0 rs ≡ placed_rows t = subst (λ l. IsFront t l → l ≡ placed_rows t) c.all_of-rows.ensures (c.are_whole.ensures c.if-not-are_whole.false t) is.rows in
    let all = all_rows t rs whole in
    record {
      rows = is.rows;
      parents = is.parents;
      names = is.names;
      values = subst (λ l. AreValues l c.find_values-looked.new.values) all (c.find_values-looked.ensures (subst (λ l. AreValues l c.args.self.now.values) (sym all) is.values));
    }

pub returns-clause-counts : goal.returns-clause-counts
returns-clause-counts c = λ t is.
    let rs = c.args.self.now.rows.rows in
    let whole : enumerate_from 0 rs ≡ placed_rows t = subst (λ l. IsFront t l → l ≡ placed_rows t) c.all_of-rows.ensures (c.are_whole.ensures c.if-not-are_whole.false t) is.rows in
    let many = c.len-count.ensures ∙ ap length c.all_of-rows.ensures ∙ all_many t rs whole in
    let looks = ap (λ (m : Readings). m.looks) c.with_looks.ensures in
    let few = c.twice_each.ensures in
    omega (arith, looks, few, many)

pub returns-in_err-_is_looked-clause-counts : goal.returns-in_err-_is_looked-clause-counts
returns-in_err-_is_looked-clause-counts c = λ t is.
    let rs = c.args.self.now.rows.rows in
    let whole : enumerate_from 0 rs ≡ placed_rows t = subst (λ l. IsFront t l → l ≡ placed_rows t) c.all_of-rows.ensures (c.are_whole.ensures c.if-not-are_whole.false t) is.rows in
    let many = c.len-count.ensures ∙ ap length c.all_of-rows.ensures ∙ all_many t rs whole in
    let looks = ap (λ (m : Readings). m.looks) c.with_looks.ensures in
    let few = c.twice_each.ensures in
    omega (arith, looks, few, many)
