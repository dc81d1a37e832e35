-- The plan of each form gives what the form gives where no variable is bound.
use Rattle.std.proofs.Common.{◌≡◌, ℕ, ℤ, ◌≤◌, List, [], ◌∷◌, ◌++◌, map, reverse, None, refl, sym, ap, ◌∙◌, subst, arith}
use Rattle.std.proofs.lemmas.List.{append-nil, append_assoc, reverse-append}
use denote.Param.Weighed.{most, most-append}
use Rattle.xq_atoms.specs.Text.{Text}
use Rattle.xq_expressions.specs.declared.names.QName.{QName}
use Rattle.xq_expressions.specs.declared.operators.NamedNode.{NamedNode}
use Rattle.xq_expressions.specs.declared.operators.UnnamedNode.{UnnamedNode}
use Rattle.xq_expressions.specs.declared.operators.PathStart.TheVariants.{Relative}
use Rattle.xq_expressions.specs.declared.expressions.Clause.{Clause}
use Rattle.xq_expressions.specs.declared.expressions.Clause.TheOpen.{Expr-F}
use Rattle.xq_expressions.specs.declared.expressions.ConstructorName.{ConstructorName}
use Rattle.xq_expressions.specs.declared.expressions.ConstructorName.TheVariants as written
use Rattle.xq_expressions.specs.declared.expressions.Expr.{Expr, out-Expr, size-Expr}
use Rattle.xq_expressions.specs.declared.expressions.Expr.TheVariants as expr
use Rattle.xq_expressions.specs.declared.expressions.GroupSpec.{GroupSpec}
use Rattle.xq_expressions.specs.declared.expressions.Step.{Step}
use Rattle.xq_meaning.specs.declared.normal_forms.Core.{Core}
use Rattle.xq_meaning.specs.declared.plans.Plan.{Plan}
use Rattle.xq_meaning.specs.declared.plans.Plan.TheVariants as plan
use Rattle.xq_meaning.specs.Forms
use Rattle.xq_meaning.specs.Meaning.{Environment, no_variable, mean, name_mean}
use Rattle.xq_meaning.specs.PlanMeaning.{Slots, plan_mean}
use Rattle.xq_meaning.specs.Same.{IsNormalForm, IsPlan, frame_of}
use Rattle.xq_meaning.proofs.Equations as mean_eq
use Rattle.xq_meaning.proofs.PlanEquations as plan_eq
use Rattle.xq_meaning.proofs.SameForms.{Same, AllSame, sequence_same, conditional_same, named_node_same, unnamed_node_same}
use Rattle.xq_normal.specs.DocumentPaths.{after_slash, call_of_literal}
use Rattle.xq_queries.specs.Scans.{ScansItsDocument}
use Rattle.xq_queries.specs.Values.{IsPlanOf, value_of}
use Rattle.xq_queries.specs.private.Direct.{AreDirect, IsDirect, NamesDirectly}

-- in the frames of a query without variables
abbrev IsSame : Forms.Meaning Slots → Forms.Meaning Environment → Type 0
IsSame q m = (addresses : List Text) → Same addresses [] no_variable q m

same_of : (e : Expr) (p : Plan) → IsDirect e p → IsSame (plan_mean p) (mean e)
same_of e p is addresses focus f = is focus addresses f

by_form : (e : Expr) (p : Plan) (m : Forms.Meaning Environment) (q : Forms.Meaning Slots) →
    mean e ≡ m → plan_mean p ≡ q → IsSame q m → IsDirect e p
by_form e p m q ee ep same focus addresses trees =
    ap (λ k. k (frame_of [] focus addresses) trees) ep ∙ same addresses focus trees
    ∙ sym (ap (λ k. k (frame_of no_variable focus addresses) trees) ee)

alls : (es : List Expr) (ps : List Plan) → AreDirect es ps → (addresses : List Text) →
    AllSame addresses [] no_variable (map plan_mean ps) (map mean es)
alls [] [] h addresses = tt
alls [] (p ∷ ps) h addresses = absurd h
alls (e ∷ es) [] h addresses = absurd h
alls (e ∷ es) (p ∷ ps) h addresses = (same_of e p h.0 addresses, alls es ps h.1 addresses)

-- # Forms

int_direct : (n : ℤ) → IsDirect (expr.Int n) (plan.Int n)
int_direct n =
    by_form (expr.Int n) (plan.Int n) _ _ (mean_eq.mean-Int n) (plan_eq.plan-Int n)
    (λ addresses focus f. refl)

dec_direct : (n : ℤ) → IsDirect (expr.Dec n) (plan.Dec n)
dec_direct n =
    by_form (expr.Dec n) (plan.Dec n) _ _ (mean_eq.mean-Dec n) (plan_eq.plan-Dec n)
    (λ addresses focus f. refl)

str_direct : (t : Text) → IsDirect (expr.Str t) (plan.Str t)
str_direct t =
    by_form (expr.Str t) (plan.Str t) _ _ (mean_eq.mean-Str t) (plan_eq.plan-Str t)
    (λ addresses focus f. refl)

sequence_direct : (es : List Expr) (ps : List Plan) → AreDirect es ps →
    IsDirect (expr.Sequence es) (plan.Sequence ps)
sequence_direct es ps all =
    by_form (expr.Sequence es) (plan.Sequence ps) _ _ (mean_eq.mean-Sequence es)
    (plan_eq.plan-Sequence ps)
    (λ addresses. sequence_same addresses [] no_variable (map plan_mean ps) (map mean es)
    (alls es ps all addresses))

if_direct : (a b c : Expr) (p q r : Plan) → IsDirect a p → IsDirect b q → IsDirect c r →
    IsDirect (expr.If a b c) (plan.If p q r)
if_direct a b c p q r h k l =
    by_form (expr.If a b c) (plan.If p q r) _ _ (mean_eq.mean-If a b c) (plan_eq.plan-If p q r)
    (λ addresses. conditional_same addresses [] no_variable (plan_mean p) (plan_mean q)
    (plan_mean r) (mean a) (mean b) (mean c)
    (same_of a p h addresses) (same_of b q k addresses) (same_of c r l addresses))

named_direct : (kind : NamedNode) (n : ConstructorName) (e : Expr) (q p : Plan) →
    NamesDirectly n q → IsDirect e p → IsDirect (expr.Named kind n e) (plan.Named kind q p)
named_direct kind n e q p h k =
    by_form (expr.Named kind n e) (plan.Named kind q p) _ _ (mean_eq.mean-Named kind n e)
    (plan_eq.plan-Named kind q p)
    (λ addresses. named_node_same addresses [] no_variable kind (plan_mean q) (plan_mean p)
    (name_mean n) (mean e)
    (λ focus f. h focus addresses f) (same_of e p k addresses))

unnamed_direct : (kind : UnnamedNode) (e : Expr) (p : Plan) → IsDirect e p →
    IsDirect (expr.Unnamed kind e) (plan.Unnamed kind p)
unnamed_direct kind e p h =
    by_form (expr.Unnamed kind e) (plan.Unnamed kind p) _ _ (mean_eq.mean-Unnamed kind e)
    (plan_eq.plan-Unnamed kind p)
    (λ addresses. unnamed_node_same addresses [] no_variable kind (plan_mean p) (mean e)
    (same_of e p h addresses))

pub normal_direct : (e : Expr) (core : Core) (p : Plan) → IsNormalForm e core → IsPlan [] core p →
    IsDirect e p
normal_direct e core p normal is focus addresses trees =
    is [] focus addresses trees refl ∙ normal (frame_of no_variable focus addresses) trees

-- # Names

pub literal_names : (n : ConstructorName) (q : QName) (p : Plan) → n ≡ written.Literal q →
    p ≡ plan.Str q.local → NamesDirectly n p
literal_names n q p is named focus addresses trees =
    ap (λ (r : Plan). plan_mean r (frame_of [] focus addresses) trees) named
    ∙ ap (λ k. k (frame_of [] focus addresses) trees) (plan_eq.plan-Str q.local)
    ∙ sym (ap (λ k. k (frame_of no_variable focus addresses) trees)
    (ap name_mean is ∙ mean_eq.name-Literal q))

pub computed_names : (n : ConstructorName) (e : Expr) (p : Plan) → n ≡ written.Computed e →
    IsDirect e p → NamesDirectly n p
computed_names n e p is h focus addresses trees =
    h focus addresses trees
    ∙ sym (ap (λ k. k (frame_of no_variable focus addresses) trees) (ap name_mean is ∙
    mean_eq.name-Computed e))

-- # An expression of a known form, whose parts were handed on

direct_at : (e x : Expr) (p : Plan) → e ≡ x → IsDirect x p → IsDirect e p
direct_at e x p is h = subst (λ (y : Expr). IsDirect y p) (sym is) h

pub int_at : (e : Expr) (n : ℤ) → e ≡ expr.Int n → IsDirect e (plan.Int n)
int_at e n is = direct_at e (expr.Int n) (plan.Int n) is (int_direct n)

pub dec_at : (e : Expr) (n : ℤ) → e ≡ expr.Dec n → IsDirect e (plan.Dec n)
dec_at e n is = direct_at e (expr.Dec n) (plan.Dec n) is (dec_direct n)

pub str_at : (e : Expr) (t : Text) → e ≡ expr.Str t → IsDirect e (plan.Str t)
str_at e t is = direct_at e (expr.Str t) (plan.Str t) is (str_direct t)

pub sequence_at : (e : Expr) (es : List Expr) (ps : List Plan) → e ≡ expr.Sequence es →
    AreDirect es ps → IsDirect e (plan.Sequence ps)
sequence_at e es ps is all =
    direct_at e (expr.Sequence es) (plan.Sequence ps) is (sequence_direct es ps all)

pub if_at : (e a b c : Expr) (p q r : Plan) → e ≡ expr.If a b c → IsDirect a p → IsDirect b q →
    IsDirect c r → IsDirect e (plan.If p q r)
if_at e a b c p q r is h k l =
    direct_at e (expr.If a b c) (plan.If p q r) is (if_direct a b c p q r h k l)

pub named_at : (e : Expr) (kind : NamedNode) (n : ConstructorName) (d : Expr) (q p : Plan) →
    e ≡ expr.Named kind n d → NamesDirectly n q → IsDirect d p → IsDirect e (plan.Named kind q p)
named_at e kind n d q p is h k =
    direct_at e (expr.Named kind n d) (plan.Named kind q p) is (named_direct kind n d q p h k)

pub unnamed_at : (e : Expr) (kind : UnnamedNode) (d : Expr) (p : Plan) → e ≡ expr.Unnamed kind d →
    IsDirect d p → IsDirect e (plan.Unnamed kind p)
unnamed_at e kind d p is h =
    direct_at e (expr.Unnamed kind d) (plan.Unnamed kind p) is (unnamed_direct kind d p h)

-- # A form that is no path

abbrev Form : Type 0
Form = Expr-F Clause ConstructorName Expr GroupSpec Step

abbrev IsNoPath : Form → Type 0
IsNoPath (Expr-F.Path start first more) = ⊥
IsNoPath form = Unit {0}

pub no_path : (e : Expr) (form : Form) (p : Plan) → out-Expr e ≡ form → IsNoPath form →
    ScansItsDocument e p
no_path e form p outs is name address first more named path =
    let start = call_of_literal name address in
    let later = map after_slash (first ∷ more) in
    absurd (subst IsNoPath (sym outs ∙ ap out-Expr path ∙ expr.outs-Path Relative start later) is)

-- # Lists, from their end

-- what is left of a list, and the plans of those behind, the last first
pub record EachLeft (all left : List Expr) (plans : List Plan) : Type 0 where
  pub taken : List Expr
  pub whole : left ++ taken ≡ all
  pub planned : AreDirect taken (reverse plans)

pub left_none : (all : List Expr) (plans : List Plan) → plans ≡ [] → EachLeft all all plans
left_none all plans none = record {
  taken = [];
  whole = append-nil all;
  planned = subst (λ (l : List Plan). AreDirect [] (reverse l)) (sym none) tt;
}

pub left_next : (all left rest : List Expr) (plans plans' : List Plan) (e : Expr) (p : Plan) →
    EachLeft all left plans → left ≡ rest ++ e ∷ [] → IsDirect e p → plans' ≡ plans ++ p ∷ [] →
    EachLeft all rest plans'
left_next all left rest plans plans' e p h cut is pushed =
    let turned : reverse plans' ≡ p ∷ reverse plans =
    ap reverse pushed ∙ reverse-append plans (p ∷ []) in
    record {
      taken = e ∷ h.taken;
      whole = sym (append_assoc rest (e ∷ []) h.taken) ∙ ap (λ l. l ++ h.taken) (sym cut) ∙ h.whole;
      planned = subst (λ (l : List Plan). AreDirect (e ∷ h.taken) l) (sym turned) (is, h.planned);
    }

pub left_done : (all left : List Expr) (plans : List Plan) → EachLeft all left plans → left ≡ [] →
    AreDirect all (reverse plans)
left_done all left plans h none =
    let whole : h.taken ≡ all = ap (λ l. l ++ h.taken) (sym none) ∙ h.whole in
    subst (λ (l : List Expr). AreDirect l (reverse plans)) whole h.planned

pub left_size : (all left rest : List Expr) (plans : List Plan) (e : Expr) → EachLeft all left
    plans →
    left ≡ rest ++ e ∷ [] → size-Expr e ≤ most size-Expr all
left_size all left rest plans e h cut =
    let whole = ap (most size-Expr) h.whole in
    let both = most-append size-Expr left h.taken in
    let same = ap (most size-Expr) cut in
    let last = most-append size-Expr rest (e ∷ []) in
    omega (arith, whole, both, same, last)

-- # A query's plan

pub direct_plan : (e : Expr) (p : Plan) → IsDirect e p → IsPlanOf e p
direct_plan e p is addresses trees = ap value_of (is None addresses trees)
