use Rattle.std.proofs.Common.{◌∙◌, subst, refl}
use Rattle.std.proofs.lemmas.Result.{IfOk-weaker}
use Rattle.xq_optimise.specs.private.SomePairs.{ComparesOne}
use Rattle.xq_optimise.proofs.OnePair.{one_pair_stands}
use Rattle.xq_optimise.proofs.some_pairs.quantified.Goals as goal

pub returns : goal.returns
returns c =
    let known = c.args.known.now in
    let compares = subst (λ rs. ComparesOne known rs c.args.part) c.as_slice.ensures (subst (λ p. ComparesOne known c.as_slice.result.now p) c.get.ensures (c.if-not-compares_one.ensures refl)) in
    IfOk-weaker c.begun_with.result _ _
    (λ found h. one_pair_stands known c.args.which c.args.ranges c.pop.new.self c.in-Some-pop.range c.args.part found c.in-Some.is compares c.in-Some-pop.ensures
    (λ first more is. h first more (c.into_inner.ensures ∙ is)))
    c.begun_with.ensures
