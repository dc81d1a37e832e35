-- Each form in its normal form means what it means: one lemma a form that is not the same in both.
use Rattle.std.proofs.Common.{◌≡◌, ℕ, ◌+◌, ◌<◌, List, [], ◌∷◌, ◌++◌, map, take, length, get_or, Option, refl, sym, ap, ◌∙◌}
use Rattle.std.proofs.lemmas.Simd.{map-map}
use Rattle.std.specs.List.{flat_map}
use Rattle.std.proofs.lemmas.List.{map-append, append-nil}
use Rattle.std.proofs.lemmas.Grind.{flat_map-append}
use Rattle.std.proofs.lemmas.List.Folds.{flat_map-map}
use Rattle.xq_expressions.specs.declared.expressions.Expr.{Expr}
use Rattle.xq_expressions.specs.declared.expressions.Expr.TheVariants as e
use Rattle.xq_expressions.specs.declared.expressions.Clause.{Clause}
use Rattle.xq_expressions.specs.declared.expressions.Clause.TheVariants as c
use Rattle.xq_expressions.specs.declared.expressions.GroupSpec.{GroupSpec}
use Rattle.xq_expressions.specs.declared.expressions.Step.{Step}
use Rattle.xq_expressions.specs.declared.operators.AllowingEmpty.{AllowingEmpty}
use Rattle.xq_expressions.specs.declared.operators.OrderModifier.{OrderModifier}
use Rattle.xq_expressions.specs.declared.names.QName.{QName}
use Rattle.xq_expressions.specs.declared.operators.Quantifier.{Quantifier}
use Rattle.xq_expressions.specs.declared.operators.PathStart.{PathStart}
use Rattle.xq_expressions.specs.declared.operators.PathStart.TheVariants.{Relative, Root, RootAndBelow}
use Rattle.xq_expressions.specs.declared.operators.Separator.{Separator}
use Rattle.xq_atoms.specs.Text.{Text}
use Rattle.xq_meaning.specs.declared.operators.Operator.{Operator}
use Rattle.xq_meaning.specs.declared.normal_forms.Core.{Core}
use Rattle.xq_meaning.specs.declared.normal_forms.Core.TheVariants as n
use Rattle.xq_meaning.specs.declared.normal_forms.CoreClause.{CoreClause}
use Rattle.xq_meaning.specs.declared.normal_forms.CoreClause.TheVariants as k
use Rattle.xq_meaning.specs.Doing.{go_on}
use Rattle.xq_meaning.specs.Forms
use Rattle.xq_meaning.specs.Meaning.{Meaning, ClauseMeaning, bind, after, first_stream, at_tuple, arrow, clauses, for_clause, let_clause, order_clause, group_clause, group_by, local_name, later_parts, path_from, joined_by, mean, clause_mean, group_mean, step_mean}
use Rattle.xq_meaning.specs.CoreMeaning.{core_mean, core_clause_mean}
use Rattle.xq_meaning.proofs.Equations as mean
use Rattle.xq_meaning.proofs.CoreEquations as core
use Rattle.xq_normal.specs.private.Parts as parts
use Rattle.xq_normal.proofs.Lists.{take_next}

-- # Chains

pub chain_is : {O : Type 0} (operator : O → Operator) (first : Expr) (more : List (O × Expr))
    (first' : Core) (more' : List (Operator × Core)) → core_mean first' ≡ mean first →
    parts.core_operands more' ≡ parts.operands operator more →
    core_mean (n.Chain first' more')
    ≡ Forms.chain (mean first) (map (λ (o : O × Meaning). (operator o.0, o.1)) (map (λ (o : O × Expr). (o.0, mean o.1)) more))
chain_is operator first more first' more' h k =
    core.core-Chain first' more' ∙ ap (λ m. Forms.chain m (parts.core_operands more')) h
    ∙ ap (Forms.chain (mean first)) (k ∙ sym (map-map (λ o. (operator o.0, o.1)) (λ o. (o.0, mean o.1)) more))

pub joined_is : (op : Operator) (first : Expr) (more : List Expr) (first' : Core) (more' : List (Operator × Core)) →
    core_mean first' ≡ mean first → parts.core_operands more' ≡ parts.following op more →
    core_mean (n.Chain first' more') ≡ joined_by op (map mean (first ∷ more))
joined_is op first more first' more' h k =
    core.core-Chain first' more' ∙ ap (λ m. Forms.chain m (parts.core_operands more')) h
    ∙ ap (Forms.chain (mean first)) (k ∙ sym (map-map (λ part. (op, part)) mean more))

-- # Arrows and maps

pub arrow_is : (expr first : Expr) (calls : List (QName × List Expr)) (value : Meaning) →
    expr ≡ e.Arrow first calls → value ≡ mean first → arrow value (parts.calls calls) ≡ mean expr
arrow_is expr first calls value is h =
    ap (λ m. arrow m (parts.calls calls)) h ∙ sym (ap mean is ∙ mean.mean-Arrow first calls)

pub map_is : (expr first : Expr) (more : List Expr) (found first' : Core) (more' : List Core) →
    expr ≡ e.Map first more → core_mean found ≡ Forms.simple_map (core_mean first') (map core_mean more') →
    core_mean first' ≡ mean first → map core_mean more' ≡ map mean more → core_mean found ≡ mean expr
map_is expr first more found first' more' is made h k =
    made ∙ (λ i. Forms.simple_map (h i) (k i)) ∙ sym (ap mean is ∙ mean.mean-Map first more)

-- # Clauses

abbrev flwor_of : ClauseMeaning → Meaning → Meaning
flwor_of found part frame f =
    go_on (found frame first_stream f) (λ s. Forms.return_of part (at_tuple frame s.names) s.tuples)

pub flwor_is : (expr : Expr) (list : List Clause) (part : Expr) (list' : List CoreClause) (part' : Core) →
    expr ≡ e.Flwor list part → clauses (map core_clause_mean list') ≡ clauses (map clause_mean list) →
    core_mean part' ≡ mean part → core_mean (n.Flwor list' part') ≡ mean expr
flwor_is expr list part list' part' is h k =
    core.core-Flwor list' part' ∙ (λ i. flwor_of (h i) (k i)) ∙ sym (ap mean is ∙ mean.mean-Flwor list part)

pub quantified_is : (expr : Expr) (which : Quantifier) (list : List (QName × Expr)) (part : Expr)
    (list' : List (Text × Core)) (part' : Core) → expr ≡ e.Quantified which list part →
    parts.core_bindings list' ≡ parts.bindings list → core_mean part' ≡ mean part →
    core_mean (n.Quantified which list' part') ≡ mean expr
quantified_is expr which list part list' part' is h k =
    core.core-Quantified which list' part'
    ∙ ap (λ bs. Forms.quantified which bs (core_mean part')) (map-map (λ (b : Text × Meaning). (bind b.0, b.1)) (λ (b : Text × Core). (b.0, core_mean b.1)) list' ∙ h)
    ∙ ap (λ m. Forms.quantified which (parts.bindings list) m) k
    ∙ ap (λ bs. Forms.quantified which bs (mean part)) (sym (map-map (λ (b : QName × Meaning). (bind b.0.local, b.1)) (λ (b : QName × Expr). (b.0, mean b.1)) list))
    ∙ sym (ap mean is ∙ mean.mean-Quantified which list part)

pub for_is : (clause : Clause) (list taken : List (QName × AllowingEmpty × Option QName × Expr)) (found : List CoreClause) →
    clause ≡ c.For list → taken ≡ list → map core_clause_mean found ≡ parts.ranges taken →
    clauses (map core_clause_mean found) ≡ clause_mean clause
for_is clause list taken found is same h =
    ap clauses (h ∙ ap parts.ranges same ∙ sym (map-map (λ (b : QName × AllowingEmpty × Option QName × Meaning). for_clause b.0.local b.1 (local_name b.2) b.3) (λ (b : QName × AllowingEmpty × Option QName × Expr). (b.0, b.1, b.2, mean b.3)) list))
    ∙ sym (ap clause_mean is ∙ mean.clause-For list)

pub let_is : (clause : Clause) (list taken : List (QName × Expr)) (found : List CoreClause) →
    clause ≡ c.Let list → taken ≡ list → map core_clause_mean found ≡ parts.assignments taken →
    clauses (map core_clause_mean found) ≡ clause_mean clause
let_is clause list taken found is same h =
    ap clauses (h ∙ ap parts.assignments same ∙ sym (map-map (λ (b : QName × Meaning). let_clause b.0.local b.1) (λ (b : QName × Expr). (b.0, mean b.1)) list))
    ∙ sym (ap clause_mean is ∙ mean.clause-Let list)

pub order_is : (clause : Clause) (list : List (Expr × OrderModifier)) (list' : List (Core × OrderModifier)) →
    clause ≡ c.Order list → parts.core_keys list' ≡ parts.keys list →
    core_clause_mean (k.Order list') ≡ clause_mean clause
order_is clause list list' is h =
    core.clause-Order list' ∙ ap order_clause h ∙ sym (ap clause_mean is ∙ mean.clause-Order list)

-- the values that grouping variables are given, and then the groups
pub group_is : (specs : List GroupSpec) (lets : List CoreClause) (names : List Text) →
    map core_clause_mean lets ≡ flat_map (λ spec. parts.lets (group_mean spec)) specs →
    names ≡ parts.variables specs →
    clauses (map core_clause_mean (lets ++ k.Group names ∷ [])) ≡ group_by (map group_mean specs)
group_is specs lets names h same =
    ap clauses (map-append core_clause_mean lets (k.Group names ∷ [])
    ∙ ap (λ ms. ms ++ core_clause_mean (k.Group names) ∷ []) (h ∙ sym (flat_map-map parts.lets group_mean specs))
    ∙ ap (λ m. flat_map parts.lets (map group_mean specs) ++ m ∷ []) (core.clause-Group names ∙ ap group_clause (same ∙ sym (map-map parts.variable group_mean specs))))

-- # Paths

path_from_is : (start : PathStart) (first : Meaning) (steps : List (Separator × Meaning)) →
    parts.path_from start first (later_parts steps) ≡ path_from start first steps
path_from_is Relative first steps = refl
path_from_is Root first steps = refl
path_from_is RootAndBelow first steps = refl

pub path_is : (expr : Expr) (start : PathStart) (first : Step) (more : List (Separator × Step))
    (first' : Core) (later : List Core) → expr ≡ e.Path start first more →
    core_mean first' ≡ step_mean first → map core_mean later ≡ later_parts (parts.steps more) →
    parts.path_from start (core_mean first') (map core_mean later) ≡ mean expr
path_is expr start first more first' later is same h =
    (λ i. parts.path_from start (same i) (h i)) ∙ path_from_is start (step_mean first) (parts.steps more)
    ∙ sym (ap mean is ∙ mean.mean-Path start first more)

-- one step more after a separator
pub steps_next : (all : List (Separator × Step)) (i : ℕ) (done done' : List Core) (x : Core) (y : Separator × Step) →
    map core_mean done ≡ later_parts (parts.steps (take i all)) → i < length all → y ≡ get_or all i y →
    map core_mean done' ≡ map core_mean done ++ after y.0 (core_mean x) → core_mean x ≡ step_mean y.1 →
    map core_mean done' ≡ later_parts (parts.steps (take (i + 1) all))
steps_next all i done done' x y so_far h is made same =
    let to : Separator × Step → Separator × Meaning = λ s. (s.0, step_mean s.1) in
    made ∙ (λ j. so_far j ++ after y.0 (same j))
    ∙ ap (λ l. later_parts (parts.steps (take i all)) ++ l) (sym (append-nil (after y.0 (step_mean y.1))))
    ∙ sym (flat_map-append (λ (s : Separator × Meaning). after s.0 s.1) (parts.steps (take i all)) (to y ∷ []))
    ∙ ap later_parts (sym (map-append to (take i all) (y ∷ [])))
    ∙ ap (λ l. later_parts (parts.steps l)) (sym (take_next all i y h is))
