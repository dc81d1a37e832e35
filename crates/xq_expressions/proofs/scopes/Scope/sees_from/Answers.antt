use Rattle.std.proofs.Common.{sym, ◌∙◌, ap}
use Rattle.xq_expressions.proofs.LastPlaces.{reaches, seen_from}
use Rattle.xq_expressions.proofs.scopes.Scope.sees_from.Goals as goal

pub returns-in-Some : goal.returns-in-Some
returns-in-Some c =
    ap (reaches c.args.place) (sym c.in-Some.is ∙ c.slot.ensures) ∙ seen_from c.args.place c.args.name.now c.args.self.now

pub returns-in-None : goal.returns-in-None
returns-in-None c =
    ap (reaches c.args.place) (sym c.in-None.is ∙ c.slot.ensures) ∙ seen_from c.args.place c.args.name.now c.args.self.now
