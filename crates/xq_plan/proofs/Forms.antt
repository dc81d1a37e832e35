-- The plan of each form means what the form means: one lemma a form.
use Rattle.std.proofs.Common.{◌≡◌, ℕ, ℤ, List, [], ◌∷◌, ◌++◌, map, length, Some, None, Ok, refl, sym, ap, ◌∙◌, subst}
use Rattle.std.proofs.lemmas.List.{append-nil, append_assoc}
use Rattle.std.proofs.lemmas.Simd.{map-map}
use Rattle.xq_atoms.specs.Text.{Text}
use Rattle.xq_expressions.specs.declared.operators.Sign.{Sign}
use Rattle.xq_expressions.specs.declared.operators.Quantifier.{Quantifier}
use Rattle.xq_expressions.specs.declared.operators.NamedNode.{NamedNode}
use Rattle.xq_expressions.specs.declared.operators.UnnamedNode.{UnnamedNode}
use Rattle.xq_trees.specs.declared.Axis.{Axis}
use Rattle.xq_expressions.specs.declared.signatures.Function.{Function}
use Rattle.xq_meaning.specs.declared.node_tests.Test.{Test}
use Rattle.xq_meaning.specs.declared.operators.Operator.{Operator}
use Rattle.xq_meaning.specs.declared.normal_forms.Core.{Core}
use Rattle.xq_meaning.specs.declared.normal_forms.Core.TheVariants as core
use Rattle.xq_meaning.specs.declared.plans.Plan.{Plan}
use Rattle.xq_meaning.specs.declared.plans.Plan.TheVariants as plan
use Rattle.xq_meaning.specs.declared.plans.PlanStep.{PlanStep}
use Rattle.xq_meaning.specs.declared.plans.PlanStep.TheVariants as step
use Rattle.xq_meaning.specs.Forms
use Rattle.xq_meaning.specs.Meaning.{Environment, bind}
use Rattle.xq_meaning.specs.CoreMeaning.{core_mean}
use Rattle.xq_meaning.specs.PlanMeaning.{Slots, next_step, opened, plan_mean, plan_step_mean}
use Rattle.xq_meaning.specs.Same.{IsPlan, frame_of, environment}
use Rattle.xq_meaning.proofs.CoreEquations as core_eq
use Rattle.xq_meaning.proofs.PlanEquations as plan_eq
use Rattle.xq_meaning.proofs.SameForms.{AreRelated, then_same, in_turn_same, Same, AllSame, SameOperand, SameBindings, call_same, sequence_same, chain_same, unary_same, arrow_same, SameCall, map_same, or_same, and_same, conditional_same, filter_same, slash_same, step_same, named_node_same, unnamed_node_same, quantified_same}
use Rattle.xq_expressions.specs.Scopes.{last_place}
use Rattle.xq_plan.specs.private.Plans.{AreAll, IsNextCall, IsOperand, IsStep, IsScanOrPart, AreRanges}
use Rattle.xq_plan.proofs.Environments.{slot_is, no_slot_is, open_more, as_long}
use Rattle.xq_plan.proofs.Scans.{slash_scan}

pub related_map : {A B M N : Type 0} (R : A → B → Type 0) (S : N → M → Type 0) (f : A → M) (g : B → N) →
    ((x : A) (y : B) → R x y → S (g y) (f x)) → (xs : List A) (ys : List B) → AreAll R xs ys →
    AreRelated S (map g ys) (map f xs)
related_map R S f g up [] [] h = tt
related_map R S f g up [] (y ∷ ys) h = absurd h
related_map R S f g up (x ∷ xs) [] h = absurd h
related_map R S f g up (x ∷ xs) (y ∷ ys) h = (up x y h.0, related_map R S f g up xs ys h.1)

module _ (names : List Text) where
  -- at so many slots
  abbrev IsSame : Forms.Meaning Slots → Forms.Meaning Environment → Type 0
  IsSame q m =
      (slots : Slots) (addresses : List Text) → length slots ≡ length names →
      Same addresses slots (environment names slots) q m

  pub same_of : (c : Core) (p : Plan) → IsPlan names c p → IsSame (plan_mean p) (core_mean c)
  same_of c p is slots addresses h focus f = is slots focus addresses f h

  pub by_form : (c : Core) (p : Plan) (m : Forms.Meaning Environment) (q : Forms.Meaning Slots) →
      core_mean c ≡ m → plan_mean p ≡ q → IsSame q m → IsPlan names c p
  by_form c p m q ec ep same slots focus addresses trees h =
      ap (λ k. k (frame_of slots focus addresses) trees) ep ∙ same slots addresses h focus trees
      ∙ sym (ap (λ k. k (frame_of (environment names slots) focus addresses) trees) ec)

  alls : (cs : List Core) (ps : List Plan) → AreAll (IsPlan names) cs ps → (slots : Slots)
      (addresses : List Text) → length slots ≡ length names →
      AllSame addresses slots (environment names slots) (map plan_mean ps) (map core_mean cs)
  alls cs ps all slots addresses h =
      related_map (IsPlan names) (Same addresses slots (environment names slots)) core_mean plan_mean
      (λ c p is. same_of c p is slots addresses h) cs ps all

  -- # Primary expressions

  pub int_plan : (n : ℤ) → IsPlan names (core.Int n) (plan.Int n)
  int_plan n = by_form (core.Int n) (plan.Int n) _ _ (core_eq.core-Int n) (plan_eq.plan-Int n) (λ slots addresses h focus f. refl)

  pub dec_plan : (n : ℤ) → IsPlan names (core.Dec n) (plan.Dec n)
  dec_plan n = by_form (core.Dec n) (plan.Dec n) _ _ (core_eq.core-Dec n) (plan_eq.plan-Dec n) (λ slots addresses h focus f. refl)

  pub str_plan : (t : Text) → IsPlan names (core.Str t) (plan.Str t)
  str_plan t = by_form (core.Str t) (plan.Str t) _ _ (core_eq.core-Str t) (plan_eq.plan-Str t) (λ slots addresses h focus f. refl)

  pub context_plan : IsPlan names core.ContextItem plan.ContextItem
  context_plan = by_form core.ContextItem plan.ContextItem _ _ core_eq.core-ContextItem plan_eq.plan-ContextItem (λ slots addresses h focus f. refl)

  pub root_plan : IsPlan names core.Root plan.Root
  root_plan = by_form core.Root plan.Root _ _ core_eq.core-Root plan_eq.plan-Root (λ slots addresses h focus f. refl)

  pub slot_plan : (v : Text) (n : ℕ) → last_place v 0 names ≡ Some n → IsPlan names (core.Variable v) (plan.Slot n)
  slot_plan v n is =
      by_form (core.Variable v) (plan.Slot n) _ _ (core_eq.core-Variable v) (plan_eq.plan-Slot n)
      (λ slots addresses h focus f. ap (λ xs. (Ok xs, f)) (slot_is v names slots n h is))

  pub no_slot_plan : (v : Text) → last_place v 0 names ≡ None → IsPlan names (core.Variable v) (plan.Sequence [])
  no_slot_plan v is =
      by_form (core.Variable v) (plan.Sequence []) _ _ (core_eq.core-Variable v) (plan_eq.plan-Sequence [])
      (λ slots addresses h focus f. ap (λ xs. (Ok xs, f)) (no_slot_is v names slots h is))

  pub call_plan : (function : Function) (cs : List Core) (ps : List Plan) → AreAll (IsPlan names) cs ps →
      IsPlan names (core.Call function cs) (plan.Call function ps)
  call_plan function cs ps all =
      by_form (core.Call function cs) (plan.Call function ps) _ _ (core_eq.core-Call function cs) (plan_eq.plan-Call function ps)
      (λ slots addresses h. call_same addresses slots (environment names slots) function (map plan_mean ps) (map core_mean cs) (alls cs ps all slots addresses h))

  pub arrow_plan : (c : Core) (cs : List (Function × List Core)) (p : Plan) (ps : List (Function × List Plan)) →
      IsPlan names c p → AreAll (IsNextCall names) cs ps → IsPlan names (core.Arrow c cs) (plan.Arrow p ps)
  arrow_plan c cs p ps first all =
      by_form (core.Arrow c cs) (plan.Arrow p ps) _ _ (core_eq.core-Arrow c cs) (plan_eq.plan-Arrow p ps)
      (λ slots addresses h. arrow_same addresses slots (environment names slots) (plan_mean p) (core_mean c)
      (map (λ (o : Function × List Plan). (o.0, map plan_mean o.1)) ps) (map (λ (o : Function × List Core). (o.0, map core_mean o.1)) cs)
      (same_of c p first slots addresses h)
      (related_map (IsNextCall names) (SameCall addresses slots (environment names slots)) (λ (o : Function × List Core). (o.0, map core_mean o.1)) (λ (o : Function × List Plan). (o.0, map plan_mean o.1))
      (λ x y is. (is.0, alls x.1 y.1 is.1 slots addresses h)) cs ps all))

  pub map_plan : (c : Core) (cs : List Core) (p : Plan) (ps : List Plan) → IsPlan names c p →
      AreAll (IsPlan names) cs ps → IsPlan names (core.Map c cs) (plan.Map p ps)
  map_plan c cs p ps first all =
      by_form (core.Map c cs) (plan.Map p ps) _ _ (core_eq.core-Map c cs) (plan_eq.plan-Map p ps)
      (λ slots addresses h. map_same addresses slots (environment names slots) (plan_mean p) (core_mean c) (map plan_mean ps) (map core_mean cs)
      (same_of c p first slots addresses h) (alls cs ps all slots addresses h))

  -- # Operators

  pub sequence_plan : (cs : List Core) (ps : List Plan) → AreAll (IsPlan names) cs ps →
      IsPlan names (core.Sequence cs) (plan.Sequence ps)
  sequence_plan cs ps all =
      by_form (core.Sequence cs) (plan.Sequence ps) _ _ (core_eq.core-Sequence cs) (plan_eq.plan-Sequence ps)
      (λ slots addresses h. sequence_same addresses slots (environment names slots) (map plan_mean ps) (map core_mean cs) (alls cs ps all slots addresses h))

  pub or_plan : (cs : List Core) (ps : List Plan) → AreAll (IsPlan names) cs ps →
      IsPlan names (core.Or cs) (plan.Or ps)
  or_plan cs ps all =
      by_form (core.Or cs) (plan.Or ps) _ _ (core_eq.core-Or cs) (plan_eq.plan-Or ps)
      (λ slots addresses h. or_same addresses slots (environment names slots) (map plan_mean ps) (map core_mean cs) (alls cs ps all slots addresses h))

  pub and_plan : (cs : List Core) (ps : List Plan) → AreAll (IsPlan names) cs ps →
      IsPlan names (core.And cs) (plan.And ps)
  and_plan cs ps all =
      by_form (core.And cs) (plan.And ps) _ _ (core_eq.core-And cs) (plan_eq.plan-And ps)
      (λ slots addresses h. and_same addresses slots (environment names slots) (map plan_mean ps) (map core_mean cs) (alls cs ps all slots addresses h))

  pub chain_plan : (c : Core) (cs : List (Operator × Core)) (p : Plan) (ps : List (Operator × Plan)) →
      IsPlan names c p → AreAll (IsOperand names) cs ps → IsPlan names (core.Chain c cs) (plan.Chain p ps)
  chain_plan c cs p ps first all =
      by_form (core.Chain c cs) (plan.Chain p ps) _ _ (core_eq.core-Chain c cs) (plan_eq.plan-Chain p ps)
      (λ slots addresses h. chain_same addresses slots (environment names slots) (plan_mean p) (core_mean c)
      (map (λ (o : Operator × Plan). (o.0, plan_mean o.1)) ps) (map (λ (o : Operator × Core). (o.0, core_mean o.1)) cs)
      (same_of c p first slots addresses h)
      (related_map (IsOperand names) (SameOperand addresses slots (environment names slots)) (λ (o : Operator × Core). (o.0, core_mean o.1)) (λ (o : Operator × Plan). (o.0, plan_mean o.1))
      (λ x y is. (is.0, same_of x.1 y.1 is.1 slots addresses h)) cs ps all))

  pub unary_plan : (signs : List Sign) (c : Core) (p : Plan) → IsPlan names c p →
      IsPlan names (core.Unary signs c) (plan.Unary signs p)
  unary_plan signs c p is =
      by_form (core.Unary signs c) (plan.Unary signs p) _ _ (core_eq.core-Unary signs c) (plan_eq.plan-Unary signs p)
      (λ slots addresses h. unary_same addresses slots (environment names slots) signs (plan_mean p) (core_mean c) (same_of c p is slots addresses h))

  pub if_plan : (a b c : Core) (p q r : Plan) → IsPlan names a p → IsPlan names b q → IsPlan names c r →
      IsPlan names (core.If a b c) (plan.If p q r)
  if_plan a b c p q r i j k =
      by_form (core.If a b c) (plan.If p q r) _ _ (core_eq.core-If a b c) (plan_eq.plan-If p q r)
      (λ slots addresses h. conditional_same addresses slots (environment names slots) (plan_mean p) (plan_mean q) (plan_mean r) (core_mean a) (core_mean b) (core_mean c)
      (same_of a p i slots addresses h) (same_of b q j slots addresses h) (same_of c r k slots addresses h))

  -- # Constructors

  pub named_plan : (node : NamedNode) (a b : Core) (p q : Plan) → IsPlan names a p → IsPlan names b q →
      IsPlan names (core.Named node a b) (plan.Named node p q)
  named_plan node a b p q i j =
      by_form (core.Named node a b) (plan.Named node p q) _ _ (core_eq.core-Named node a b) (plan_eq.plan-Named node p q)
      (λ slots addresses h. named_node_same addresses slots (environment names slots) node (plan_mean p) (plan_mean q) (core_mean a) (core_mean b)
      (same_of a p i slots addresses h) (same_of b q j slots addresses h))

  pub unnamed_plan : (node : UnnamedNode) (c : Core) (p : Plan) → IsPlan names c p →
      IsPlan names (core.Unnamed node c) (plan.Unnamed node p)
  unnamed_plan node c p is =
      by_form (core.Unnamed node c) (plan.Unnamed node p) _ _ (core_eq.core-Unnamed node c) (plan_eq.plan-Unnamed node p)
      (λ slots addresses h. unnamed_node_same addresses slots (environment names slots) node (plan_mean p) (core_mean c) (same_of c p is slots addresses h))

  -- # Paths

  pub step_plan : (axis : Axis) (test : Test) (cs : List Core) (ps : List Plan) → AreAll (IsPlan names) cs ps →
      IsPlan names (core.Step axis test cs) (plan.Step axis test ps)
  step_plan axis test cs ps all =
      by_form (core.Step axis test cs) (plan.Step axis test ps) _ _ (core_eq.core-Step axis test cs) (plan_eq.plan-Step axis test ps)
      (λ slots addresses h. step_same addresses slots (environment names slots) axis test (map plan_mean ps) (map core_mean cs) (alls cs ps all slots addresses h))

  pub filter_plan : (c : Core) (cs : List Core) (p : Plan) (ps : List Plan) → IsPlan names c p →
      AreAll (IsPlan names) cs ps → IsPlan names (core.Filter c cs) (plan.Filter p ps)
  filter_plan c cs p ps first all =
      by_form (core.Filter c cs) (plan.Filter p ps) _ _ (core_eq.core-Filter c cs) (plan_eq.plan-Filter p ps)
      (λ slots addresses h. filter_same addresses slots (environment names slots) (plan_mean p) (core_mean c) (map plan_mean ps) (map core_mean cs)
      (same_of c p first slots addresses h) (alls cs ps all slots addresses h))

  pub part_step : (c : Core) (p : Plan) (s : PlanStep) → IsPlan names c p → IsScanOrPart p s → IsStep names c s
  part_step c p s is gives slots focus addresses h xs trees =
      ap (λ k. k (frame_of slots focus addresses) xs trees) gives
      ∙ slash_same addresses slots (environment names slots) focus (plan_mean p) (core_mean c) (same_of c p is slots addresses h) xs trees

  pub path_plan : (c : Core) (cs : List Core) (p : Plan) (ss : List PlanStep) → IsPlan names c p →
      AreAll (IsStep names) cs ss → IsPlan names (core.Path c cs) (plan.Path p ss)
  path_plan c cs p ss first all =
      by_form (core.Path c cs) (plan.Path p ss) _ _ (core_eq.core-Path c cs) (plan_eq.plan-Path p ss)
      (λ slots addresses h focus f.
      then_same _ _ _ _ (same_of c p first slots addresses h focus f)
      (λ xs g. in_turn_same (next_step (frame_of slots focus addresses)) (Forms.slash (frame_of (environment names slots) focus addresses)) (map plan_step_mean ss) (map core_mean cs)
      (related_map (IsStep names) _ core_mean plan_step_mean (λ x y is b g'. is slots focus addresses h b g') cs ss all) xs g))

-- after a slash: a part, or a scan

pub part_gives : (p : Plan) → IsScanOrPart p (step.Each p)
part_gives p = plan_eq.step-Each p

pub scan_gives : (axis : Axis) (test : Test) → IsScanOrPart (plan.Step axis test []) (step.Scan axis test)
scan_gives axis test =
    plan_eq.step-Scan axis test
    ∙ sym (λ i frame xs f. slash_scan axis test frame xs f i)
    ∙ sym (ap (λ m frame xs. Forms.slash frame xs m) (plan_eq.plan-Step axis test []))

-- # Quantified expressions

abbrev core_binding : Text × Core → Forms.Binding Environment
core_binding b = (bind b.0, core_mean b.1)

abbrev plan_binding : Plan → Forms.Binding Slots
plan_binding p = (opened, plan_mean p)

ranges_same : (m : Core) (q : Plan) (bs : List (Text × Core)) (ps : List Plan) (names : List Text)
    (slots : Slots) (addresses : List Text) (env : Environment) → env ≡ environment names slots →
    length slots ≡ length names → AreRanges names bs ps →
    IsPlan (names ++ map (λ b. b.0) bs) m q →
    SameBindings addresses (plan_mean q) (core_mean m) (map plan_binding ps) (map core_binding bs) slots env
ranges_same m q [] [] names slots addresses env is h all last = λ focus f.
    same_of names m q (subst (λ ns. IsPlan ns m q) (append-nil names) last) slots addresses h focus f
    ∙ ap (λ e. core_mean m (frame_of e focus addresses) f) (sym is)
ranges_same m q [] (p ∷ ps) names slots addresses env is h all last = absurd all
ranges_same m q (b ∷ bs) [] names slots addresses env is h all last = absurd all
ranges_same m q (b ∷ bs) (p ∷ ps) names slots addresses env is h all last = (
  (λ focus f. same_of names b.1 p all.0 slots addresses h focus f ∙ ap (λ e. core_mean b.1 (frame_of e focus addresses) f) (sym is)),
  (λ xs. ranges_same m q bs ps (names ++ b.0 ∷ []) (slots ++ xs ∷ []) addresses (bind b.0 env xs)
      (ap (λ e. bind b.0 e xs) is ∙ sym (open_more names slots (b.0 ∷ []) (xs ∷ []) h))
      (as_long names (b.0 ∷ []) slots (xs ∷ []) h refl) all.1
      (subst (λ ns. IsPlan ns m q) (sym (append_assoc names (b.0 ∷ []) (map (λ c. c.0) bs))) last)),
)

pub quantified_plan : (names : List Text) (which : Quantifier) (bs : List (Text × Core)) (m : Core)
    (ps : List Plan) (q : Plan) → AreRanges names bs ps → IsPlan (names ++ map (λ b. b.0) bs) m q →
    IsPlan names (core.Quantified which bs m) (plan.Quantified which ps q)
quantified_plan names which bs m ps q all last =
    by_form names (core.Quantified which bs m) (plan.Quantified which ps q) _ _
    (core_eq.core-Quantified which bs m ∙ ap (λ cs. Forms.quantified which cs (core_mean m)) (map-map (λ (b : Text × Forms.Meaning Environment). (bind b.0, b.1)) (λ (b : Text × Core). (b.0, core_mean b.1)) bs))
    (plan_eq.plan-Quantified which ps q ∙ ap (λ cs. Forms.quantified which cs (plan_mean q)) (map-map (λ (range : Forms.Meaning Slots). (opened, range)) plan_mean ps))
    (λ slots addresses h. quantified_same addresses (plan_mean q) (core_mean m) which (map plan_binding ps) (map core_binding bs) slots (environment names slots)
    (ranges_same m q bs ps names slots addresses (environment names slots) refl h all last))
