use Rattle.std.proofs.Common.{◌≡◌, ◌∷◌, [], List, arith, sym, subst}
use Rattle.xq_expressions.specs.declared.signatures.Function.TheVariants as f
use Rattle.xq_meaning.specs.declared.plans.Plan.{Plan}
use Rattle.xq_meaning.specs.declared.plans.Plan.TheVariants as plan
use Rattle.xq_optimise.specs.declared.held.Held.TheVariants as has
use Rattle.xq_optimise.specs.private.Parts.{IsHeld}
use Rattle.xq_optimise.proofs.JoinLaws.{only_one}
use Rattle.xq_optimise.proofs.KindLaws.{data_held, distinct_held}
use Rattle.xq_optimise.proofs.kinds.held_by_atoms.Goals as goal

pub returns-then-gives_nodes-clause-data : goal.returns-then-gives_nodes-clause-data
returns-then-gives_nodes-clause-data c =
    let part = c.part-item.result in
    let one : c.args.parts.now ≡ part ∷ [] = only_one c.args.parts.now part (omega arith) (omega arith) c.part-item.is in
    subst (λ (l : List Plan). IsHeld c.args.known.now has.Texts (plan.Call f.Data l)) (sym one)
    (data_held c.args.known.now part (c.gives_nodes.ensures c.if-gives_nodes.true))

pub returns-then-gives_nodes-clause-distinct : goal.returns-then-gives_nodes-clause-distinct
returns-then-gives_nodes-clause-distinct c =
    let part = c.part-item.result in
    let one : c.args.parts.now ≡ part ∷ [] = only_one c.args.parts.now part (omega arith) (omega arith) c.part-item.is in
    subst (λ (l : List Plan). IsHeld c.args.known.now has.Texts (plan.Call f.DistinctValues l)) (sym one)
    (distinct_held c.args.known.now part (c.gives_nodes.ensures c.if-gives_nodes.true))
