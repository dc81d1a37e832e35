use Rattle.std.proofs.Common.{refl, sym, ◌∙◌}
use Rattle.xq_axes.specs.declared.picks.Picker.{Picker}
use Rattle.xq_axes.proofs.Picking.{same_places}
use Rattle.xq_axes.proofs.passing.search_rows.Goals as goal

pub returns-clause-found : goal.returns-clause-found
returns-clause-found g c = λ k h e. (
    let start : Picker g.row.J.Denot = record { judge = c.args.judge; test = c.args.test; found = c.new.result } in
    let w = c.in_ok-walk.ensures.read k start (h, refl, c.new.ensures.items ∙ sym e) in
    same_places c.into_places.result _ _ c.into_places.ensures w.2)
