use Rattle.std.proofs.Common.{◌≡◌, ◌++◌, ◌∷◌, [], ℕ, List, true, map, sym, ap, ◌∙◌, subst, rules}
use Rattle.std.proofs.lemmas.Str.{IsUtf8-nil}
use Rattle.xq_trees.specs.Items.{item_view}
use Rattle.xq_trees.specs.Beside.{rooted}
use Rattle.xq_trees.specs.Tree.{is_legal}
use Rattle.xq_sources.specs.Grafts.{lone}
use Rattle.xq_sources.specs.private.Meeting.{all_picked, AreRooted, IsGrafted}
use Rattle.xq_sources.specs.private.Planted.{trees_after, ArePlanted}
use Rattle.xq_sources.proofs.Meets.{is_grafted}
use Rattle.xq_sources.proofs.Planting.{IsMore}
use Rattle.xq_sources.proofs.planted.TreeArena.append_parent.Goals as goal
use Rattle.xq_sources.proofs.planted.TreeArena.append_parent.Goals.{After-push_reserved}

both : (c : After-push_reserved) → IsMore c.append_rooted-done.new.rows.rows c.push_reserved.new.self.items c.args.self.now (rooted (lone c.args.kind c.args.name.now []).root (all_picked c.args.first c.args.self.now (map item_view c.args.items.now))) × IsGrafted c.args.first (lone c.args.kind c.args.name.now []).root (map item_view c.args.items.now) c.args.self.now (trees_after c.append_rooted-done.new.rows.rows 0 c.push_reserved.new.self.items)
both c =
    let rs = c.self.inside.rows.rows in
    let rs' = c.append_rooted-done.new.rows.rows in
    let root = (lone c.args.kind c.args.name.now []).root in
    let items = map item_view c.args.items.now in
    let ends = c.self.inside.ends.items in
    let legal : is_legal c.args.kind c.args.name.now [] ≡ true = search rules in
    let same : c.deref.result.now ≡ ends = c.deref.ensures.value ∙ c.reserve.ensures.items in
    let did : c.in-Ok-true.field-0 ≡ true = search rules in
    let planted = subst (λ (es : List ℕ). ArePlanted rs 0 es) (sym same) c.self.invariant in
    let are = subst (λ (es : List ℕ). AreRooted c.args.first root items (trees_after rs 0 es) rs rs') same (c.in-Ok-true.ensures.rooted planted did) in
    let end = c.push_reserved.ensures.items
    ∙ ap (λ (es : List ℕ). es ++ c.len.result ∷ []) c.reserve.ensures.items
    ∙ ap (λ (n : ℕ). ends ++ n ∷ []) c.len.ensures.rows in
    is_grafted c.args.first root items rs rs' ends c.push_reserved.new.self.items c.args.self.now c.self.view_is c.self.invariant (c.utf8.name, IsUtf8-nil) legal are end

pub invariant_of-self-2 : goal.invariant_of-self-2
invariant_of-self-2 c = let is = both c in is.0.planted

pub returns-clause-grown : goal.returns-clause-grown
returns-clause-grown c = λ _. let is = both c in is.1
