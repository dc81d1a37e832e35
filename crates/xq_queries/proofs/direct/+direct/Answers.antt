use Rattle.std.proofs.Common.{◌≡◌, sym, ap, ◌∙◌, subst, arith, rules, to_z, of_z, w64}
use Rattle.std.proofs.lemmas.Result.{IfOk-weaker}
use Rattle.xq_expressions.specs.declared.expressions.Clause.TheOpen.{Expr-F}
use Rattle.xq_expressions.specs.declared.expressions.Expr.{out-Expr}
use Rattle.xq_expressions.specs.declared.expressions.Expr.TheVariants as expr
use Rattle.xq_meaning.specs.declared.plans.Plan.TheVariants as plan
use Rattle.xq_queries.specs.private.Direct.{IsDirect}
use Rattle.xq_queries.proofs.DirectPlans.{int_at, dec_at, str_at, sequence_at, if_at, named_at, unnamed_at, literal_names, computed_names, no_path, left_none, left_next, left_done, left_size}
use Rattle.xq_queries.proofs.direct.+direct.Goals as goal

pub direct-returns-in-Int-clause-same : goal.direct-returns-in-Int-clause-same
direct-returns-in-Int-clause-same t c =
    let e : to_z w64 (of_z w64 c.in-Int.value) ≡ c.in-Int.value = search rules in
    subst (λ n. IsDirect c.args.expr (plan.Int n)) (sym e)
    (int_at c.args.expr c.in-Int.value c.in-Int.is)

pub direct-returns-in-Dec-clause-same : goal.direct-returns-in-Dec-clause-same
direct-returns-in-Dec-clause-same t c =
    dec_at c.args.expr c.in-Dec.value c.in-Dec.is

pub direct-returns-in-Str-clause-same : goal.direct-returns-in-Str-clause-same
direct-returns-in-Str-clause-same t c =
    str_at c.args.expr c.in-Str.value c.in-Str.is

pub direct-returns-in_ok-each-in-Sequence-clause-same :
    goal.direct-returns-in_ok-each-in-Sequence-clause-same
direct-returns-in_ok-each-in-Sequence-clause-same t c =
    sequence_at c.args.expr c.in-Sequence.parts c.in_ok-each-in-Sequence.field-0 c.in-Sequence.is
    c.in_ok-each-in-Sequence.ensures.same

pub direct-returns-in_ok-negative-in-If-clause-same :
    goal.direct-returns-in_ok-negative-in-If-clause-same
direct-returns-in_ok-negative-in-If-clause-same t c =
    subst (λ p. IsDirect c.args.expr p) (sym c.conditional.ensures)
    (if_at c.args.expr c.in-If.test c.in-If.positive c.in-If.negative _ _ _ c.in-If.is
    c.in_ok-test-in-If.ensures.same c.in_ok-positive-in-If.ensures.same
    c.in_ok-negative-in-If.ensures.same)

pub direct-returns-in_ok-boxed-in-Named-clause-same :
    goal.direct-returns-in_ok-boxed-in-Named-clause-same
direct-returns-in_ok-boxed-in-Named-clause-same t c =
    named_at c.args.expr c.in-Named.node c.in-Named.name c.in-Named.content _ _ c.in-Named.is
    c.in_ok-name-in-Named.ensures.same c.in_ok-boxed-in-Named.ensures.same

pub direct-returns-in_ok-boxed-in-Unnamed-clause-same :
    goal.direct-returns-in_ok-boxed-in-Unnamed-clause-same
direct-returns-in_ok-boxed-in-Unnamed-clause-same t c =
    unnamed_at c.args.expr c.in-Unnamed.node c.in-Unnamed.content _ c.in-Unnamed.is
    c.in_ok-boxed-in-Unnamed.ensures.same

-- # No paths

pub direct-returns-in-Int-clause-scans : goal.direct-returns-in-Int-clause-scans
direct-returns-in-Int-clause-scans t c =
    no_path c.args.expr (Expr-F.Int c.in-Int.value) _
    (ap out-Expr c.in-Int.is ∙ expr.outs-Int c.in-Int.value) tt

pub direct-returns-in-Dec-clause-scans : goal.direct-returns-in-Dec-clause-scans
direct-returns-in-Dec-clause-scans t c =
    no_path c.args.expr (Expr-F.Dec c.in-Dec.value) _
    (ap out-Expr c.in-Dec.is ∙ expr.outs-Dec c.in-Dec.value) tt

pub direct-returns-in-Str-clause-scans : goal.direct-returns-in-Str-clause-scans
direct-returns-in-Str-clause-scans t c =
    no_path c.args.expr (Expr-F.Str c.in-Str.value) _
    (ap out-Expr c.in-Str.is ∙ expr.outs-Str c.in-Str.value) tt

pub direct-returns-in_ok-each-in-Sequence-clause-scans :
    goal.direct-returns-in_ok-each-in-Sequence-clause-scans
direct-returns-in_ok-each-in-Sequence-clause-scans t c =
    no_path c.args.expr (Expr-F.Sequence c.in-Sequence.parts) _
    (ap out-Expr c.in-Sequence.is ∙ expr.outs-Sequence c.in-Sequence.parts) tt

pub direct-returns-in_ok-negative-in-If-clause-scans :
    goal.direct-returns-in_ok-negative-in-If-clause-scans
direct-returns-in_ok-negative-in-If-clause-scans t c =
    no_path c.args.expr (Expr-F.If c.in-If.test c.in-If.positive c.in-If.negative) _
    (ap out-Expr c.in-If.is ∙ expr.outs-If c.in-If.test c.in-If.positive c.in-If.negative) tt

pub direct-returns-in_ok-boxed-in-Named-clause-scans :
    goal.direct-returns-in_ok-boxed-in-Named-clause-scans
direct-returns-in_ok-boxed-in-Named-clause-scans t c =
    no_path c.args.expr (Expr-F.Named c.in-Named.node c.in-Named.name c.in-Named.content) _
    (ap out-Expr c.in-Named.is ∙ expr.outs-Named c.in-Named.node c.in-Named.name
    c.in-Named.content) tt

pub direct-returns-in_ok-boxed-in-Unnamed-clause-scans :
    goal.direct-returns-in_ok-boxed-in-Unnamed-clause-scans
direct-returns-in_ok-boxed-in-Unnamed-clause-scans t c =
    no_path c.args.expr (Expr-F.Unnamed c.in-Unnamed.node c.in-Unnamed.content) _
    (ap out-Expr c.in-Unnamed.is ∙ expr.outs-Unnamed c.in-Unnamed.node c.in-Unnamed.content) tt

-- # Names and lists

pub constructor_name-returns-in_ok-new-in-Literal-clause-same :
    goal.constructor_name-returns-in_ok-new-in-Literal-clause-same
constructor_name-returns-in_ok-new-in-Literal-clause-same t c =
    literal_names c.args.name c.in-Literal.name _ c.in-Literal.is c.in_ok-new-in-Literal.ensures

pub constructor_name-returns-in-Computed-clause-same :
    goal.constructor_name-returns-in-Computed-clause-same
constructor_name-returns-in-Computed-clause-same t c =
    IfOk-weaker c.boxed.result _ _
    (λ p h. computed_names c.args.name c.in-Computed.expr p c.in-Computed.is h) c.boxed.ensures.same
