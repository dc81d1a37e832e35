use Rattle.std.proofs.Common.{sym, subst, refl, Ok}
use Rattle.xq_trees.specs.Items.{item_views}
use Rattle.xq_meaning.specs.PlanMeaning.{formed}
use Rattle.xq_meaning.specs.Readings.{items_at}
use Rattle.xq_operators.specs.Views.{GivesSequence}
use Rattle.xq_operators.proofs.Growth.{stays}
use Rattle.xq_eval.proofs.pairs.formed.Goals as goal

pub returns-in-Value-clause-goes : goal.returns-in-Value-clause-goes
returns-in-Value-clause-goes g c = stays _ _

pub returns-in-Value-clause-gives : goal.returns-in-Value-clause-gives
returns-in-Value-clause-gives g c = λ clean inside is_in.
    let f = g.W.TreeSource.forest c.args.world.now in
    subst (λ form. GivesSequence (formed form (items_at f (item_views c.args.items)) f) f (Ok c.args.items)) (sym c.in-Value.is) (is_in, refl)

pub returns-in-Data-clause-goes : goal.returns-in-Data-clause-goes
returns-in-Data-clause-goes g c = c.call_on_one.ensures.goes

pub returns-in-Data-clause-gives : goal.returns-in-Data-clause-gives
returns-in-Data-clause-gives g c = λ clean inside is_in.
    let f = g.W.TreeSource.forest c.args.world.now in
    subst (λ form. GivesSequence (formed form (items_at f (item_views c.args.items)) f) (g.W.TreeSource.forest c.call_on_one.new.world) c.call_on_one.result) (sym c.in-Data.is)
    (c.call_on_one.ensures.gives clean inside is_in)

pub returns-in-String-clause-goes : goal.returns-in-String-clause-goes
returns-in-String-clause-goes g c = c.call_on_one-in-String.ensures.goes

pub returns-in-String-clause-gives : goal.returns-in-String-clause-gives
returns-in-String-clause-gives g c = λ clean inside is_in.
    let f = g.W.TreeSource.forest c.args.world.now in
    subst (λ form. GivesSequence (formed form (items_at f (item_views c.args.items)) f) (g.W.TreeSource.forest c.call_on_one-in-String.new.world) c.call_on_one-in-String.result) (sym c.in-String.is)
    (c.call_on_one-in-String.ensures.gives clean inside is_in)
