-- The meaning of a plan at each form, from the meanings of its parts.
use Rattle.std.specs.Prelude.{◌≡◌, ℕ, ℤ, List, map, Bool}
use Rattle.std.proofs.Common.{sym, ◌∙◌, ap}
use Rattle.xq_atoms.specs.declared.refusals.Code.{Code}
use Rattle.xq_expressions.specs.declared.operators.AllowingEmpty.{AllowingEmpty}
use Rattle.xq_expressions.specs.declared.operators.Sign.{Sign}
use Rattle.xq_expressions.specs.declared.operators.Quantifier.{Quantifier}
use Rattle.xq_expressions.specs.declared.operators.NamedNode.{NamedNode}
use Rattle.xq_expressions.specs.declared.operators.UnnamedNode.{UnnamedNode}
use Rattle.xq_expressions.specs.declared.operators.OrderModifier.{OrderModifier}
use Rattle.xq_trees.specs.declared.Axis.{Axis}
use Rattle.xq_expressions.specs.declared.signatures.Function.{Function}
use Rattle.xq_meaning.specs.declared.joins.Join.{Join}
use Rattle.xq_meaning.specs.declared.node_tests.Test.{Test}
use Rattle.xq_meaning.specs.declared.operators.Operator.{Operator}
use Rattle.xq_meaning.specs.declared.plans.Plan.{Plan, fold-roll-Plan}
use Rattle.xq_meaning.specs.declared.plans.PlanClause.{PlanClause, fold-roll-PlanClause}
use Rattle.xq_meaning.specs.declared.plans.PlanStep.{PlanStep, fold-roll-PlanStep}
use Rattle.xq_meaning.specs.declared.plans.Plan.TheVariants as plan
use Rattle.xq_meaning.specs.declared.plans.PlanClause.TheVariants as clause
use Rattle.xq_meaning.specs.declared.plans.PlanStep.TheVariants as step
use Rattle.xq_meaning.specs.declared.plans.Plan.TheOpen.{Plan-F, PlanClause-F, PlanStep-F}
use Rattle.xq_meaning.specs.PlanMeaning.{Meaning, ClauseMeaning, StepMeaning, plan_form, plan_clause, plan_step, plan_mean, plan_clause_mean, plan_step_mean}

pub plan-Int : (a : ℤ) → plan_mean (plan.Int a) ≡ plan_form (Plan-F.Int a)
plan-Int a =
    ap plan_mean (sym (plan.rolls-Int a))
    ∙ fold-roll-Plan Meaning ClauseMeaning StepMeaning plan_form plan_clause plan_step
    (Plan-F.Int a)

pub plan-Dec : (a : ℤ) → plan_mean (plan.Dec a) ≡ plan_form (Plan-F.Dec a)
plan-Dec a =
    ap plan_mean (sym (plan.rolls-Dec a))
    ∙ fold-roll-Plan Meaning ClauseMeaning StepMeaning plan_form plan_clause plan_step
    (Plan-F.Dec a)

pub plan-Str : (a : (List ℕ)) → plan_mean (plan.Str a) ≡ plan_form (Plan-F.Str a)
plan-Str a =
    ap plan_mean (sym (plan.rolls-Str a))
    ∙ fold-roll-Plan Meaning ClauseMeaning StepMeaning plan_form plan_clause plan_step
    (Plan-F.Str a)

pub plan-ContextItem : plan_mean plan.ContextItem ≡ plan_form Plan-F.ContextItem
plan-ContextItem =
    ap plan_mean (sym plan.rolls-ContextItem)
    ∙ fold-roll-Plan Meaning ClauseMeaning StepMeaning plan_form plan_clause plan_step
    Plan-F.ContextItem

pub plan-Root : plan_mean plan.Root ≡ plan_form Plan-F.Root
plan-Root =
    ap plan_mean (sym plan.rolls-Root)
    ∙ fold-roll-Plan Meaning ClauseMeaning StepMeaning plan_form plan_clause plan_step
    Plan-F.Root

pub plan-Sequence : (a : List Plan) → plan_mean (plan.Sequence a)
    ≡ plan_form (Plan-F.Sequence (map plan_mean a))
plan-Sequence a =
    ap plan_mean (sym (plan.rolls-Sequence a))
    ∙ fold-roll-Plan Meaning ClauseMeaning StepMeaning plan_form plan_clause plan_step
    (Plan-F.Sequence a)

pub plan-If : (a : Plan) (b : Plan) (c : Plan) → plan_mean (plan.If a b c)
    ≡ plan_form (Plan-F.If (plan_mean a) (plan_mean b) (plan_mean c))
plan-If a b c =
    ap plan_mean (sym (plan.rolls-If a b c))
    ∙ fold-roll-Plan Meaning ClauseMeaning StepMeaning plan_form plan_clause plan_step
    (Plan-F.If a b c)

pub plan-Or : (a : List Plan) → plan_mean (plan.Or a) ≡ plan_form (Plan-F.Or (map plan_mean a))
plan-Or a =
    ap plan_mean (sym (plan.rolls-Or a))
    ∙ fold-roll-Plan Meaning ClauseMeaning StepMeaning plan_form plan_clause plan_step
    (Plan-F.Or a)

pub plan-And : (a : List Plan) → plan_mean (plan.And a) ≡ plan_form (Plan-F.And (map plan_mean a))
plan-And a =
    ap plan_mean (sym (plan.rolls-And a))
    ∙ fold-roll-Plan Meaning ClauseMeaning StepMeaning plan_form plan_clause plan_step
    (Plan-F.And a)

pub plan-Chain : (a : Plan) (b : List (Operator × Plan)) → plan_mean (plan.Chain a b)
    ≡ plan_form (Plan-F.Chain (plan_mean a) (map (λ (x, y). (x, plan_mean y)) b))
plan-Chain a b =
    ap plan_mean (sym (plan.rolls-Chain a b))
    ∙ fold-roll-Plan Meaning ClauseMeaning StepMeaning plan_form plan_clause plan_step
    (Plan-F.Chain a b)

pub plan-Unary : (a : List Sign) (b : Plan) → plan_mean (plan.Unary a b)
    ≡ plan_form (Plan-F.Unary a (plan_mean b))
plan-Unary a b =
    ap plan_mean (sym (plan.rolls-Unary a b))
    ∙ fold-roll-Plan Meaning ClauseMeaning StepMeaning plan_form plan_clause plan_step
    (Plan-F.Unary a b)

pub plan-Step : (a : Axis) (b : Test) (c : List Plan) → plan_mean (plan.Step a b c)
    ≡ plan_form (Plan-F.Step a b (map plan_mean c))
plan-Step a b c =
    ap plan_mean (sym (plan.rolls-Step a b c))
    ∙ fold-roll-Plan Meaning ClauseMeaning StepMeaning plan_form plan_clause plan_step
    (Plan-F.Step a b c)

pub plan-Filter : (a : Plan) (b : List Plan) → plan_mean (plan.Filter a b)
    ≡ plan_form (Plan-F.Filter (plan_mean a) (map plan_mean b))
plan-Filter a b =
    ap plan_mean (sym (plan.rolls-Filter a b))
    ∙ fold-roll-Plan Meaning ClauseMeaning StepMeaning plan_form plan_clause plan_step
    (Plan-F.Filter a b)

pub plan-Call : (a : Function) (b : List Plan) → plan_mean (plan.Call a b)
    ≡ plan_form (Plan-F.Call a (map plan_mean b))
plan-Call a b =
    ap plan_mean (sym (plan.rolls-Call a b))
    ∙ fold-roll-Plan Meaning ClauseMeaning StepMeaning plan_form plan_clause plan_step
    (Plan-F.Call a b)

pub plan-Arrow : (a : Plan) (b : List (Function × List Plan)) → plan_mean (plan.Arrow a b)
    ≡ plan_form (Plan-F.Arrow (plan_mean a) (map (λ (x, y). (x, map plan_mean y)) b))
plan-Arrow a b =
    ap plan_mean (sym (plan.rolls-Arrow a b))
    ∙ fold-roll-Plan Meaning ClauseMeaning StepMeaning plan_form plan_clause plan_step
    (Plan-F.Arrow a b)

pub plan-Map : (a : Plan) (b : List Plan) → plan_mean (plan.Map a b)
    ≡ plan_form (Plan-F.Map (plan_mean a) (map plan_mean b))
plan-Map a b =
    ap plan_mean (sym (plan.rolls-Map a b))
    ∙ fold-roll-Plan Meaning ClauseMeaning StepMeaning plan_form plan_clause plan_step
    (Plan-F.Map a b)

pub plan-Named : (a : NamedNode) (b : Plan) (c : Plan) → plan_mean (plan.Named a b c)
    ≡ plan_form (Plan-F.Named a (plan_mean b) (plan_mean c))
plan-Named a b c =
    ap plan_mean (sym (plan.rolls-Named a b c))
    ∙ fold-roll-Plan Meaning ClauseMeaning StepMeaning plan_form plan_clause plan_step
    (Plan-F.Named a b c)

pub plan-Unnamed : (a : UnnamedNode) (b : Plan) → plan_mean (plan.Unnamed a b)
    ≡ plan_form (Plan-F.Unnamed a (plan_mean b))
plan-Unnamed a b =
    ap plan_mean (sym (plan.rolls-Unnamed a b))
    ∙ fold-roll-Plan Meaning ClauseMeaning StepMeaning plan_form plan_clause plan_step
    (Plan-F.Unnamed a b)

pub plan-Slot : (a : ℕ) → plan_mean (plan.Slot a) ≡ plan_form (Plan-F.Slot a)
plan-Slot a =
    ap plan_mean (sym (plan.rolls-Slot a))
    ∙ fold-roll-Plan Meaning ClauseMeaning StepMeaning plan_form plan_clause plan_step
    (Plan-F.Slot a)

pub plan-Flwor : (a : List PlanClause) (b : Plan) → plan_mean (plan.Flwor a b)
    ≡ plan_form (Plan-F.Flwor (map plan_clause_mean a) (plan_mean b))
plan-Flwor a b =
    ap plan_mean (sym (plan.rolls-Flwor a b))
    ∙ fold-roll-Plan Meaning ClauseMeaning StepMeaning plan_form plan_clause plan_step
    (Plan-F.Flwor a b)

pub plan-Quantified : (a : Quantifier) (b : List Plan) (c : Plan) →
    plan_mean (plan.Quantified a b c)
    ≡ plan_form (Plan-F.Quantified a (map plan_mean b) (plan_mean c))
plan-Quantified a b c =
    ap plan_mean (sym (plan.rolls-Quantified a b c))
    ∙ fold-roll-Plan Meaning ClauseMeaning StepMeaning plan_form plan_clause plan_step
    (Plan-F.Quantified a b c)

pub plan-Path : (a : Plan) (b : List PlanStep) → plan_mean (plan.Path a b)
    ≡ plan_form (Plan-F.Path (plan_mean a) (map plan_step_mean b))
plan-Path a b =
    ap plan_mean (sym (plan.rolls-Path a b))
    ∙ fold-roll-Plan Meaning ClauseMeaning StepMeaning plan_form plan_clause plan_step
    (Plan-F.Path a b)

pub clause-For : (a : AllowingEmpty) (b : Bool) (c : Plan) → plan_clause_mean (clause.For a b c)
    ≡ plan_clause (PlanClause-F.For a b (plan_mean c))
clause-For a b c =
    ap plan_clause_mean (sym (clause.rolls-For a b c))
    ∙ fold-roll-PlanClause Meaning ClauseMeaning StepMeaning plan_form plan_clause plan_step
    (PlanClause-F.For a b c)

pub clause-Join : (a : Plan) (b : Join) → plan_clause_mean (clause.Join a b)
    ≡ plan_clause (PlanClause-F.Join (plan_mean a) b)
clause-Join a b =
    ap plan_clause_mean (sym (clause.rolls-Join a b))
    ∙ fold-roll-PlanClause Meaning ClauseMeaning StepMeaning plan_form plan_clause plan_step
    (PlanClause-F.Join a b)

pub clause-GroupJoin : (a : Plan) (b : Join) → plan_clause_mean (clause.GroupJoin a b)
    ≡ plan_clause (PlanClause-F.GroupJoin (plan_mean a) b)
clause-GroupJoin a b =
    ap plan_clause_mean (sym (clause.rolls-GroupJoin a b))
    ∙ fold-roll-PlanClause Meaning ClauseMeaning StepMeaning plan_form plan_clause plan_step
    (PlanClause-F.GroupJoin a b)

pub clause-Let : (a : Plan) → plan_clause_mean (clause.Let a)
    ≡ plan_clause (PlanClause-F.Let (plan_mean a))
clause-Let a =
    ap plan_clause_mean (sym (clause.rolls-Let a))
    ∙ fold-roll-PlanClause Meaning ClauseMeaning StepMeaning plan_form plan_clause plan_step
    (PlanClause-F.Let a)

pub clause-Where : (a : Plan) → plan_clause_mean (clause.Where a)
    ≡ plan_clause (PlanClause-F.Where (plan_mean a))
clause-Where a =
    ap plan_clause_mean (sym (clause.rolls-Where a))
    ∙ fold-roll-PlanClause Meaning ClauseMeaning StepMeaning plan_form plan_clause plan_step
    (PlanClause-F.Where a)

pub clause-Group : (a : List ℕ) → plan_clause_mean (clause.Group a)
    ≡ plan_clause (PlanClause-F.Group a)
clause-Group a =
    ap plan_clause_mean (sym (clause.rolls-Group a))
    ∙ fold-roll-PlanClause Meaning ClauseMeaning StepMeaning plan_form plan_clause plan_step
    (PlanClause-F.Group a)

pub clause-Order : (a : List (Plan × OrderModifier)) → plan_clause_mean (clause.Order a)
    ≡ plan_clause (PlanClause-F.Order (map (λ (x, y). (plan_mean x, y)) a))
clause-Order a =
    ap plan_clause_mean (sym (clause.rolls-Order a))
    ∙ fold-roll-PlanClause Meaning ClauseMeaning StepMeaning plan_form plan_clause plan_step
    (PlanClause-F.Order a)

pub clause-Count : plan_clause_mean clause.Count ≡ plan_clause PlanClause-F.Count
clause-Count =
    ap plan_clause_mean (sym clause.rolls-Count)
    ∙ fold-roll-PlanClause Meaning ClauseMeaning StepMeaning plan_form plan_clause plan_step
    PlanClause-F.Count

pub step-Each : (a : Plan) → plan_step_mean (step.Each a)
    ≡ plan_step (PlanStep-F.Each (plan_mean a))
step-Each a =
    ap plan_step_mean (sym (step.rolls-Each a))
    ∙ fold-roll-PlanStep Meaning ClauseMeaning StepMeaning plan_form plan_clause plan_step
    (PlanStep-F.Each a)

pub step-Scan : (a : Axis) (b : Test) → plan_step_mean (step.Scan a b)
    ≡ plan_step (PlanStep-F.Scan a b)
step-Scan a b =
    ap plan_step_mean (sym (step.rolls-Scan a b))
    ∙ fold-roll-PlanStep Meaning ClauseMeaning StepMeaning plan_form plan_clause plan_step
    (PlanStep-F.Scan a b)

pub clause-Refused : (a : Code) → plan_clause_mean (clause.Refused a)
    ≡ plan_clause (PlanClause-F.Refused a)
clause-Refused a =
    ap plan_clause_mean (sym (clause.rolls-Refused a))
    ∙ fold-roll-PlanClause Meaning ClauseMeaning StepMeaning plan_form plan_clause plan_step
    (PlanClause-F.Refused a)
