use Rattle.std.proofs.Common.{◌∙◌, ap, sym, Ok}
use Rattle.xq_meaning.specs.Functions as Functions
use Rattle.xq_operators.specs.Views.{focus_at}
use Rattle.xq_operators.proofs.calls.on_none.Goals as goal

pub returns-in_ok-collection-in-Collection-clause-gives : goal.returns-in_ok-collection-in-Collection-clause-gives
returns-in_ok-collection-in-Collection-clause-gives g c = λ k.
    let old = g.L.TreeSource.forest c.args.source.now in
    ap (λ f. Functions.of_none f old c.args.frame.addresses.now (focus_at old c.args.frame.focus)) c.in-Collection.is ∙ ap Ok (sym (c.in_ok-collection-in-Collection.ensures.nodes old))
