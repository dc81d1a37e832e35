use Rattle.std.proofs.Common.{subst}
use Rattle.xq_optimise.specs.private.Conjuncts.{DoesAsk}
use Rattle.xq_optimise.proofs.Splitting.{first_parted, position_parted, test_parted}
use Rattle.xq_optimise.proofs.predicates.with_conjunct.Goals as goal

pub returns-in_ok-push-in-First : goal.returns-in_ok-push-in-First
returns-in_ok-push-in-First c = λ taken h.
    first_parted c.args.known.now taken c.args.found.first c.args.found.position c.args.found.tests c.push.new.self c.args.part
    (subst (λ a. DoesAsk c.args.known.now a c.args.part) c.in-First.is c.position_asked.ensures) c.in_ok-push-in-First.ensures.ok h

pub returns-in_ok-push-in-Position : goal.returns-in_ok-push-in-Position
returns-in_ok-push-in-Position c = λ taken h.
    position_parted c.args.known.now taken c.args.found.first c.args.found.position c.args.found.tests c.push-in-Position.new.self c.args.part
    c.requires c.in_ok-push-in-Position.ensures.ok h

pub returns-in_ok-push-in-Nothing : goal.returns-in_ok-push-in-Nothing
returns-in_ok-push-in-Nothing c = λ taken h.
    test_parted c.args.known.now taken c.args.found.first c.args.found.position c.args.found.tests c.push-in-Nothing.new.self c.args.part
    (subst (λ a. DoesAsk c.args.known.now a c.args.part) c.in-Nothing.is c.position_asked.ensures) c.in_ok-push-in-Nothing.ensures.ok h
