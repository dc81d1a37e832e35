-- The meaning of a normal form at each form, from the meanings of its parts.
use Rattle.std.specs.Prelude.{◌≡◌, ℕ, ℤ, List, map, Option}
use Rattle.std.proofs.Common.{sym, ◌∙◌, ap}
use Rattle.xq_expressions.specs.declared.operators.AllowingEmpty.{AllowingEmpty}
use Rattle.xq_expressions.specs.declared.operators.Sign.{Sign}
use Rattle.xq_expressions.specs.declared.operators.Quantifier.{Quantifier}
use Rattle.xq_expressions.specs.declared.operators.NamedNode.{NamedNode}
use Rattle.xq_expressions.specs.declared.operators.UnnamedNode.{UnnamedNode}
use Rattle.xq_expressions.specs.declared.operators.OrderModifier.{OrderModifier}
use Rattle.xq_trees.specs.declared.Axis.{Axis}
use Rattle.xq_expressions.specs.declared.signatures.Function.{Function}
use Rattle.xq_meaning.specs.declared.node_tests.Test.{Test}
use Rattle.xq_meaning.specs.declared.operators.Operator.{Operator}
use Rattle.xq_meaning.specs.declared.normal_forms.Core.{Core, fold-roll-Core}
use Rattle.xq_meaning.specs.declared.normal_forms.CoreClause.{CoreClause, fold-roll-CoreClause}
use Rattle.xq_meaning.specs.declared.normal_forms.Core.TheVariants as normal
use Rattle.xq_meaning.specs.declared.normal_forms.CoreClause.TheVariants as clause
use Rattle.xq_meaning.specs.declared.normal_forms.Core.TheOpen.{Core-F, CoreClause-F}
use Rattle.xq_meaning.specs.Meaning.{Meaning, ClauseMeaning}
use Rattle.xq_meaning.specs.CoreMeaning.{core_form, core_clause, core_mean, core_clause_mean}

pub core-Int : (a : ℤ) → core_mean (normal.Int a) ≡ core_form (Core-F.Int a)
core-Int a =
    ap core_mean (sym (normal.rolls-Int a))
    ∙ fold-roll-Core Meaning ClauseMeaning core_form core_clause (Core-F.Int a)

pub core-Dec : (a : ℤ) → core_mean (normal.Dec a) ≡ core_form (Core-F.Dec a)
core-Dec a =
    ap core_mean (sym (normal.rolls-Dec a))
    ∙ fold-roll-Core Meaning ClauseMeaning core_form core_clause (Core-F.Dec a)

pub core-Str : (a : (List ℕ)) → core_mean (normal.Str a) ≡ core_form (Core-F.Str a)
core-Str a =
    ap core_mean (sym (normal.rolls-Str a))
    ∙ fold-roll-Core Meaning ClauseMeaning core_form core_clause (Core-F.Str a)

pub core-ContextItem : core_mean normal.ContextItem ≡ core_form Core-F.ContextItem
core-ContextItem =
    ap core_mean (sym normal.rolls-ContextItem)
    ∙ fold-roll-Core Meaning ClauseMeaning core_form core_clause Core-F.ContextItem

pub core-Root : core_mean normal.Root ≡ core_form Core-F.Root
core-Root =
    ap core_mean (sym normal.rolls-Root)
    ∙ fold-roll-Core Meaning ClauseMeaning core_form core_clause Core-F.Root

pub core-Sequence : (a : List Core) → core_mean (normal.Sequence a)
    ≡ core_form (Core-F.Sequence (map core_mean a))
core-Sequence a =
    ap core_mean (sym (normal.rolls-Sequence a))
    ∙ fold-roll-Core Meaning ClauseMeaning core_form core_clause (Core-F.Sequence a)

pub core-If : (a : Core) (b : Core) (c : Core) → core_mean (normal.If a b c)
    ≡ core_form (Core-F.If (core_mean a) (core_mean b) (core_mean c))
core-If a b c =
    ap core_mean (sym (normal.rolls-If a b c))
    ∙ fold-roll-Core Meaning ClauseMeaning core_form core_clause (Core-F.If a b c)

pub core-Or : (a : List Core) → core_mean (normal.Or a) ≡ core_form (Core-F.Or (map core_mean a))
core-Or a =
    ap core_mean (sym (normal.rolls-Or a))
    ∙ fold-roll-Core Meaning ClauseMeaning core_form core_clause (Core-F.Or a)

pub core-And : (a : List Core) → core_mean (normal.And a)
    ≡ core_form (Core-F.And (map core_mean a))
core-And a =
    ap core_mean (sym (normal.rolls-And a))
    ∙ fold-roll-Core Meaning ClauseMeaning core_form core_clause (Core-F.And a)

pub core-Chain : (a : Core) (b : List (Operator × Core)) → core_mean (normal.Chain a b)
    ≡ core_form (Core-F.Chain (core_mean a) (map (λ (x, y). (x, core_mean y)) b))
core-Chain a b =
    ap core_mean (sym (normal.rolls-Chain a b))
    ∙ fold-roll-Core Meaning ClauseMeaning core_form core_clause (Core-F.Chain a b)

pub core-Unary : (a : List Sign) (b : Core) → core_mean (normal.Unary a b)
    ≡ core_form (Core-F.Unary a (core_mean b))
core-Unary a b =
    ap core_mean (sym (normal.rolls-Unary a b))
    ∙ fold-roll-Core Meaning ClauseMeaning core_form core_clause (Core-F.Unary a b)

pub core-Step : (a : Axis) (b : Test) (c : List Core) → core_mean (normal.Step a b c)
    ≡ core_form (Core-F.Step a b (map core_mean c))
core-Step a b c =
    ap core_mean (sym (normal.rolls-Step a b c))
    ∙ fold-roll-Core Meaning ClauseMeaning core_form core_clause (Core-F.Step a b c)

pub core-Filter : (a : Core) (b : List Core) → core_mean (normal.Filter a b)
    ≡ core_form (Core-F.Filter (core_mean a) (map core_mean b))
core-Filter a b =
    ap core_mean (sym (normal.rolls-Filter a b))
    ∙ fold-roll-Core Meaning ClauseMeaning core_form core_clause (Core-F.Filter a b)

pub core-Call : (a : Function) (b : List Core) → core_mean (normal.Call a b)
    ≡ core_form (Core-F.Call a (map core_mean b))
core-Call a b =
    ap core_mean (sym (normal.rolls-Call a b))
    ∙ fold-roll-Core Meaning ClauseMeaning core_form core_clause (Core-F.Call a b)

pub core-Arrow : (a : Core) (b : List (Function × List Core)) → core_mean (normal.Arrow a b)
    ≡ core_form (Core-F.Arrow (core_mean a) (map (λ (x, y). (x, map core_mean y)) b))
core-Arrow a b =
    ap core_mean (sym (normal.rolls-Arrow a b))
    ∙ fold-roll-Core Meaning ClauseMeaning core_form core_clause (Core-F.Arrow a b)

pub core-Map : (a : Core) (b : List Core) → core_mean (normal.Map a b)
    ≡ core_form (Core-F.Map (core_mean a) (map core_mean b))
core-Map a b =
    ap core_mean (sym (normal.rolls-Map a b))
    ∙ fold-roll-Core Meaning ClauseMeaning core_form core_clause (Core-F.Map a b)

pub core-Named : (a : NamedNode) (b : Core) (c : Core) → core_mean (normal.Named a b c)
    ≡ core_form (Core-F.Named a (core_mean b) (core_mean c))
core-Named a b c =
    ap core_mean (sym (normal.rolls-Named a b c))
    ∙ fold-roll-Core Meaning ClauseMeaning core_form core_clause (Core-F.Named a b c)

pub core-Unnamed : (a : UnnamedNode) (b : Core) → core_mean (normal.Unnamed a b)
    ≡ core_form (Core-F.Unnamed a (core_mean b))
core-Unnamed a b =
    ap core_mean (sym (normal.rolls-Unnamed a b))
    ∙ fold-roll-Core Meaning ClauseMeaning core_form core_clause (Core-F.Unnamed a b)

pub core-Variable : (a : (List ℕ)) → core_mean (normal.Variable a) ≡ core_form (Core-F.Variable a)
core-Variable a =
    ap core_mean (sym (normal.rolls-Variable a))
    ∙ fold-roll-Core Meaning ClauseMeaning core_form core_clause (Core-F.Variable a)

pub core-Flwor : (a : List CoreClause) (b : Core) → core_mean (normal.Flwor a b)
    ≡ core_form (Core-F.Flwor (map core_clause_mean a) (core_mean b))
core-Flwor a b =
    ap core_mean (sym (normal.rolls-Flwor a b))
    ∙ fold-roll-Core Meaning ClauseMeaning core_form core_clause (Core-F.Flwor a b)

pub core-Quantified : (a : Quantifier) (b : List (List ℕ × Core)) (c : Core) →
    core_mean (normal.Quantified a b c)
    ≡ core_form (Core-F.Quantified a (map (λ (x, y). (x, core_mean y)) b) (core_mean c))
core-Quantified a b c =
    ap core_mean (sym (normal.rolls-Quantified a b c))
    ∙ fold-roll-Core Meaning ClauseMeaning core_form core_clause (Core-F.Quantified a b c)

pub core-Path : (a : Core) (b : List Core) → core_mean (normal.Path a b)
    ≡ core_form (Core-F.Path (core_mean a) (map core_mean b))
core-Path a b =
    ap core_mean (sym (normal.rolls-Path a b))
    ∙ fold-roll-Core Meaning ClauseMeaning core_form core_clause (Core-F.Path a b)

pub clause-For : (a : (List ℕ)) (b : AllowingEmpty) (c : (Option (List ℕ))) (d : Core) →
    core_clause_mean (clause.For a b c d)
    ≡ core_clause (CoreClause-F.For a b c (core_mean d))
clause-For a b c d =
    ap core_clause_mean (sym (clause.rolls-For a b c d))
    ∙ fold-roll-CoreClause Meaning ClauseMeaning core_form core_clause (CoreClause-F.For a b
    c d)

pub clause-Let : (a : (List ℕ)) (b : Core) → core_clause_mean (clause.Let a b)
    ≡ core_clause (CoreClause-F.Let a (core_mean b))
clause-Let a b =
    ap core_clause_mean (sym (clause.rolls-Let a b))
    ∙ fold-roll-CoreClause Meaning ClauseMeaning core_form core_clause (CoreClause-F.Let a b)

pub clause-Where : (a : Core) → core_clause_mean (clause.Where a)
    ≡ core_clause (CoreClause-F.Where (core_mean a))
clause-Where a =
    ap core_clause_mean (sym (clause.rolls-Where a))
    ∙ fold-roll-CoreClause Meaning ClauseMeaning core_form core_clause (CoreClause-F.Where a)

pub clause-Group : (a : List (List ℕ)) → core_clause_mean (clause.Group a)
    ≡ core_clause (CoreClause-F.Group a)
clause-Group a =
    ap core_clause_mean (sym (clause.rolls-Group a))
    ∙ fold-roll-CoreClause Meaning ClauseMeaning core_form core_clause (CoreClause-F.Group a)

pub clause-Order : (a : List (Core × OrderModifier)) → core_clause_mean (clause.Order a)
    ≡ core_clause (CoreClause-F.Order (map (λ (x, y). (core_mean x, y)) a))
clause-Order a =
    ap core_clause_mean (sym (clause.rolls-Order a))
    ∙ fold-roll-CoreClause Meaning ClauseMeaning core_form core_clause (CoreClause-F.Order a)

pub clause-Count : (a : (List ℕ)) → core_clause_mean (clause.Count a)
    ≡ core_clause (CoreClause-F.Count a)
clause-Count a =
    ap core_clause_mean (sym (clause.rolls-Count a))
    ∙ fold-roll-CoreClause Meaning ClauseMeaning core_form core_clause (CoreClause-F.Count a)
