use Rattle.std.proofs.Common.{◌≡◌, refl, sym, subst}
use Rattle.xq_trees.specs.declared.Axis.TheVariants.{Child}
use Rattle.xq_operators.specs.Views.{frame_at, on_axis, first_on_axis, last_on_axis}
use Rattle.xq_meaning.specs.Doing.{go_on}
use Rattle.xq_eval.specs.private.Choosing.{chosen}
use Rattle.xq_eval.proofs.Choosing.{keeps_first, keeps_last}
use Rattle.xq_eval.proofs.chosen.nodes_of_step.Goals as goal

pub returns-clause-gives : goal.returns-clause-gives
returns-clause-gives g c = λ clean inside.
    let f = g.W.TreeSource.forest c.args.world.now in
    record {
      outcome = on_axis c.args.axis c.args.test.now (frame_at f c.args.frame).focus f;
      gives = c.axis_items.ensures.gives clean inside;
      keeps = refl;
    }

pub returns-in-Some-clause-gives : goal.returns-in-Some-clause-gives
returns-in-Some-clause-gives g c = λ clean inside.
    let f = g.W.TreeSource.forest c.args.world.now in
    let frame = frame_at f c.args.frame in
    let test = c.args.test.now in
    let predicates = c.args.predicates.now in
    let first = first_on_axis c.in-Some.most Child test frame.focus f in
    record {
      outcome = first;
      gives = c.first_children.ensures.gives clean inside;
      keeps = subst (λ axis. go_on first (chosen predicates frame) ≡ go_on (on_axis axis test frame.focus f) (chosen predicates frame)) (sym c.in-Child.is)
          (keeps_first predicates c.in-Some.most frame (on_axis Child test frame.focus f) c.in-Some.ensures);
    }

pub returns-then-is_last-clause-gives : goal.returns-then-is_last-clause-gives
returns-then-is_last-clause-gives g c = λ clean inside.
    let f = g.W.TreeSource.forest c.args.world.now in
    let frame = frame_at f c.args.frame in
    let test = c.args.test.now in
    let predicates = c.args.predicates.now in
    let last = last_on_axis Child test frame.focus f in
    record {
      outcome = last;
      gives = c.last_child.ensures.gives clean inside;
      keeps = subst (λ axis. go_on last (chosen predicates frame) ≡ go_on (on_axis axis test frame.focus f) (chosen predicates frame)) (sym c.in-Child.is)
          (keeps_last predicates frame (on_axis Child test frame.focus f) (c.is_last.ensures c.if-is_last.true));
    }
