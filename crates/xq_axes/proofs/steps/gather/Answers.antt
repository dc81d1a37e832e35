use Rattle.std.proofs.Common.{[], ◌∷◌, ◌++◌, refl, ap, ◌∙◌}
use Rattle.xq_axes.proofs.Many.{gathered_more, gathered_empty}
use Rattle.xq_sources.specs.Sources.{tree_at}
use Rattle.xq_axes.proofs.Scans.{kept_more, kept_first, none_kept, none_read, none_rises}
use Rattle.xq_axes.proofs.Seen.{none_seen}
use Rattle.xq_axes.proofs.steps.gather.Goals as goal

pub returns-then-context-gathered-clause-gathered : goal.returns-then-context-gathered-clause-gathered
returns-then-context-gathered-clause-gathered g c = λ k contexts index next old. (
    let trees = g.L.TreeSource.forest c.args.source.now in
    let was = c.args.gathered.now in
    gathered_more trees c.args.axis c.args.test.now contexts index c.args.context was.tree was.places.items _ c.args.found.now.items next c.if-context-gathered.true c.in_ok-push.ensures.items old)

pub returns-clause-gathered : goal.returns-clause-gathered
returns-clause-gathered g c = λ k contexts index next old. (
    let trees = g.L.TreeSource.forest c.args.source.now in
    let was = c.args.gathered.now in
    let x = c.args.context in
    gathered_more trees c.args.axis c.args.test.now contexts index x x.tree [] _ c.add_step.new.found.items next refl (c.in_ok-push-2.ensures.items ∙ ap (λ xs. xs ++ x.pre ∷ []) c.clear.ensures.items)
    (gathered_empty trees c.args.axis c.args.test.now contexts index was.tree x.tree was.places.items c.args.found.now.items c.add_step.new.found.items (c.in_ok-add_step.ensures.found k old.rising old.there) old))

pub returns-then-context-gathered-clause-kept : goal.returns-then-context-gathered-clause-kept
returns-then-context-gathered-clause-kept g c = λ contexts index one all at are. (
    let was = c.args.gathered.now in
    kept_more contexts index was.tree was.places.items are c.args.context _ at c.if-context-gathered.true c.in_ok-push.ensures.items)

pub returns-clause-kept : goal.returns-clause-kept
returns-clause-kept g c = λ contexts index one all at are. (
    let was = c.args.gathered.now in
    let x = c.args.context in
    let empty = none_kept contexts index was.tree was.places.items are one x all at c.if-context-gathered.false in
    kept_first contexts index x was.tree was.places.items _ are empty at (c.in_ok-push-2.ensures.items ∙ ap (λ xs. xs ++ x.pre ∷ []) c.clear.ensures.items))

pub returns-clause-rows : goal.returns-clause-rows
returns-clause-rows g c = λ k contexts index one all at are. (
    let was = c.args.gathered.now in
    let t = tree_at (g.L.TreeSource.forest c.args.source.now) was.tree in
    let empty = none_kept contexts index was.tree was.places.items are one c.args.context all at c.if-context-gathered.false in
    none_read c.args.axis t was.places.items _ _ empty (c.in_ok-add_step.ensures.rows k (none_rises was.places.items empty)))

pub returns-in_err-add_step-clause-rows : goal.returns-in_err-add_step-clause-rows
returns-in_err-add_step-clause-rows g c = λ k contexts index one all at are. (
    let was = c.args.gathered.now in
    let t = tree_at (g.L.TreeSource.forest c.args.source.now) was.tree in
    let empty = none_kept contexts index was.tree was.places.items are one c.args.context all at c.if-context-gathered.false in
    none_read c.args.axis t was.places.items _ _ empty (c.in_err-add_step.ensures.rows k (none_rises was.places.items empty)))

pub returns-in_err-push-2-clause-rows : goal.returns-in_err-push-2-clause-rows
returns-in_err-push-2-clause-rows g c = λ k contexts index one all at are. (
    let was = c.args.gathered.now in
    let t = tree_at (g.L.TreeSource.forest c.args.source.now) was.tree in
    let empty = none_kept contexts index was.tree was.places.items are one c.args.context all at c.if-context-gathered.false in
    none_read c.args.axis t was.places.items _ _ empty (c.in_ok-add_step.ensures.rows k (none_rises was.places.items empty)))

pub returns-clause-sees : goal.returns-clause-sees
returns-clause-sees g c = λ k contexts index one all at are. (
    let was = c.args.gathered.now in
    let t = tree_at (g.L.TreeSource.forest c.args.source.now) was.tree in
    let empty = none_kept contexts index was.tree was.places.items are one c.args.context all at c.if-context-gathered.false in
    none_seen t was.places.items (g.L.TreeSource.meter c.args.source.now) (g.L.TreeSource.meter c.add_step.new.source) empty (c.in_ok-add_step.ensures.sees k (none_rises was.places.items empty)))

pub returns-in_err-add_step-clause-sees : goal.returns-in_err-add_step-clause-sees
returns-in_err-add_step-clause-sees g c = λ k contexts index one all at are. (
    let was = c.args.gathered.now in
    let t = tree_at (g.L.TreeSource.forest c.args.source.now) was.tree in
    let empty = none_kept contexts index was.tree was.places.items are one c.args.context all at c.if-context-gathered.false in
    none_seen t was.places.items (g.L.TreeSource.meter c.args.source.now) (g.L.TreeSource.meter c.add_step.new.source) empty (c.in_err-add_step.ensures.sees k (none_rises was.places.items empty)))

pub returns-in_err-push-2-clause-sees : goal.returns-in_err-push-2-clause-sees
returns-in_err-push-2-clause-sees g c = λ k contexts index one all at are. (
    let was = c.args.gathered.now in
    let t = tree_at (g.L.TreeSource.forest c.args.source.now) was.tree in
    let empty = none_kept contexts index was.tree was.places.items are one c.args.context all at c.if-context-gathered.false in
    none_seen t was.places.items (g.L.TreeSource.meter c.args.source.now) (g.L.TreeSource.meter c.add_step.new.source) empty (c.in_ok-add_step.ensures.sees k (none_rises was.places.items empty)))
