use Rattle.std.specs.Prelude.{Option, IfSome}
use Rattle.std.proofs.lemmas.Option.{IfSome_then}
use Rattle.xq_joins.proofs.Lists.{if_ok}
use Rattle.xq_tuples.specs.Views.{values_of}
use Rattle.xq_joins.specs.declared.keyed.KeyedTest.{KeyedTest}
use Rattle.xq_joins.specs.Keyed.{IsKeyedTest}
use Rattle.xq_joins.specs.private.Keyed.{HasTexts}
use Rattle.xq_joins.proofs.Keying.{keyed_is}
use Rattle.xq_joins.proofs.keyed.nodes_test.Goals as goal

pub returns-clause-test : goal.returns-clause-test
returns-clause-test g c = λ k inside.
    let f = g.L.TreeSource.forest c.args.source.now in
    let slots = values_of c.args.slots.now in
    let found = c.in-Some.found in
    let p = c.args.predicate.now in
    if_ok (λ (made : Option KeyedTest). IfSome made (λ test. HasTexts f slots found test)) (λ (made : Option KeyedTest). IfSome made (λ test. IsKeyedTest f slots test p)) c.with_texts.result
    (λ made has. IfSome_then made has (λ test h. keyed_is f slots found test p c.in-Some.ensures h)) (c.with_texts.ensures.texts k inside)
