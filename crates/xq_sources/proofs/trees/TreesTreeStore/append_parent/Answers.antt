use Rattle.std.proofs.Common.{◌≡◌, ◌++◌, [], true, length, map, rules}
use Rattle.std.proofs.lemmas.Result.{IfOk-weaker}
use Rattle.xq_trees.specs.Items.{item_view}
use Rattle.xq_sources.specs.Grafts.{lone, Grafts}
use Rattle.xq_sources.specs.private.Meeting.{IsGrafted}
use Rattle.xq_sources.proofs.Meets.{grafts}
use Rattle.xq_sources.proofs.trees.TreesTreeStore.append_parent.Goals as goal

pub returns-clause-grown : goal.returns-clause-grown
returns-clause-grown g c =
    let front = g.S.TreeSource.forest c.args.self.now.source in
    let old = c.args.self.now.constructed.trees in
    let new = c.append_parent.new.self.trees in
    let items = map item_view c.args.items.now in
    let first = c.args.self.now.stored in
    let from : first ≡ length front = search rules in
    IfOk-weaker c.append_parent.result (λ did. did ≡ true → IsGrafted first (lone c.args.kind c.args.name.now []).root items old new) (λ did. did ≡ true → Grafts c.args.kind c.args.name.now items (front ++ old) (front ++ new)) (λ did h is. grafts front old new first c.args.kind c.args.name.now items from (h is)) c.append_parent.ensures.grown
