use Rattle.std.proofs.Common.{◌∙◌, ap}
use Rattle.std.specs.Option.{is_some}
use Rattle.xq_expressions.proofs.LastPlaces.{seen}
use Rattle.xq_expressions.proofs.scopes.Scope.sees.Goals as goal

pub returns : goal.returns
returns c = c.is_some.ensures ∙ ap is_some c.slot.ensures ∙ seen c.args.name.now 0 c.args.self.now
