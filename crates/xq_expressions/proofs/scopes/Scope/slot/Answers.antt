use Rattle.std.proofs.Common.{◌∙◌, ap}
use Rattle.xq_expressions.specs.Scopes.{last_place}
use Rattle.xq_expressions.specs.private.Kept.{in_scope}
use Rattle.xq_expressions.proofs.scopes.Scope.slot.Goals as goal

pub returns-in-Some : goal.returns-in-Some
returns-in-Some c =
    c.get-in-Some.ensures ∙ ap in_scope c.in-Some.ensures.value ∙ c.self.invariant.0 c.args.name.now ∙ ap (last_place c.args.name.now 0) c.self.view_is

pub returns-in-None : goal.returns-in-None
returns-in-None c =
    ap in_scope c.in-None.ensures.value ∙ c.self.invariant.0 c.args.name.now ∙ ap (last_place c.args.name.now 0) c.self.view_is
