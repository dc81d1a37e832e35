-- Each form gives the same where its parts do: one lemma a form.
use Rattle.std.proofs.Common.{◌≡◌, List, [], ◌∷◌, map, sym, ap, ◌∙◌, subst}
use Rattle.xq_atoms.specs.Text.{Text}
use Rattle.xq_expressions.specs.declared.operators.Sign.{Sign}
use Rattle.xq_expressions.specs.declared.operators.NamedNode.{NamedNode}
use Rattle.xq_expressions.specs.declared.operators.UnnamedNode.{UnnamedNode}
use Rattle.xq_trees.specs.declared.Axis.{Axis}
use Rattle.xq_expressions.specs.declared.signatures.Function.{Function}
use Rattle.xq_meaning.specs.declared.node_tests.Test.{Test}
use Rattle.xq_meaning.specs.declared.operators.Operator.{Operator}
use Rattle.xq_meaning.specs.declared.plans.Plan.{Plan}
use Rattle.xq_meaning.specs.declared.plans.Plan.TheVariants as plan
use Rattle.xq_meaning.specs.declared.plans.PlanStep.{PlanStep}
use Rattle.xq_meaning.specs.declared.plans.PlanStep.TheVariants as step
use Rattle.xq_meaning.specs.PlanMeaning.{Slots, Meaning, next_step, plan_mean, plan_step_mean}
use Rattle.xq_meaning.specs.Same.{frame_of}
use Rattle.xq_meaning.proofs.PlanEquations as plan_eq
use Rattle.xq_meaning.proofs.SameForms.{AreRelated, then_same, in_turn_same, Same, AllSame, SameOperand as OperandSame, SameCall as CallSame, call_same, sequence_same, chain_same, unary_same, arrow_same, map_same, or_same, and_same, conditional_same, filter_same, slash_same, step_same, named_node_same, unnamed_node_same}
use Rattle.xq_optimise.specs.declared.held.Held.{Held}
use Rattle.xq_optimise.specs.Known.{Fits}
use Rattle.xq_optimise.specs.Same.{GivesSame}
use Rattle.xq_optimise.specs.private.Parts.{AreAll, SameOperand, SameCall, SameStep}

pub related_map : {A B M N : Type 0} (R : A → B → Type 0) (S : N → M → Type 0) (f : A → M) (g : B → N) →
    ((x : A) (y : B) → R x y → S (g y) (f x)) → (xs : List A) (ys : List B) → AreAll R xs ys →
    AreRelated S (map g ys) (map f xs)
related_map R S f g up [] [] h = tt
related_map R S f g up [] (y ∷ ys) h = absurd h
related_map R S f g up (x ∷ xs) [] h = absurd h
related_map R S f g up (x ∷ xs) (y ∷ ys) h = (up x y h.0, related_map R S f g up xs ys h.1)

module _ (known : List Held) where
  -- at slots as known
  abbrev IsSame : Meaning → Meaning → Type 0
  IsSame n m =
      (slots : Slots) (addresses : List Text) → Fits known slots → Same addresses slots slots n m

  pub same_of : (p q : Plan) → GivesSame known p q → IsSame (plan_mean q) (plan_mean p)
  same_of p q is slots addresses h focus f = is slots focus addresses f h

  pub by_form : (p q : Plan) (m n : Meaning) → plan_mean p ≡ m → plan_mean q ≡ n → IsSame n m →
      GivesSame known p q
  by_form p q m n ep eq same slots focus addresses trees h =
      ap (λ k. k (frame_of slots focus addresses) trees) eq ∙ same slots addresses h focus trees
      ∙ sym (ap (λ k. k (frame_of slots focus addresses) trees) ep)

  -- a part that is left
  pub itself : (p q : Plan) → q ≡ p → GivesSame known p q
  itself p q is slots focus addresses trees h =
      ap (λ r. plan_mean r (frame_of slots focus addresses) trees) is

  -- one change after another
  pub then_gives : (p q r : Plan) → GivesSame known p q → GivesSame known q r → GivesSame known p r
  then_gives p q r h k slots focus addresses trees fits =
      k slots focus addresses trees fits ∙ h slots focus addresses trees fits

  alls : (ps qs : List Plan) → AreAll (GivesSame known) ps qs → (slots : Slots)
      (addresses : List Text) → Fits known slots →
      AllSame addresses slots slots (map plan_mean qs) (map plan_mean ps)
  alls ps qs all slots addresses h =
      related_map (GivesSame known) (Same addresses slots slots) plan_mean plan_mean
      (λ p q is. same_of p q is slots addresses h) ps qs all

  pub call_gives : (function : Function) (ps qs : List Plan) → AreAll (GivesSame known) ps qs →
      GivesSame known (plan.Call function ps) (plan.Call function qs)
  call_gives function ps qs all =
      by_form (plan.Call function ps) (plan.Call function qs) _ _ (plan_eq.plan-Call function ps) (plan_eq.plan-Call function qs)
      (λ slots addresses h. call_same addresses slots slots function (map plan_mean qs) (map plan_mean ps) (alls ps qs all slots addresses h))

  pub arrow_gives : (p q : Plan) (cs ds : List (Function × List Plan)) → GivesSame known p q →
      AreAll (SameCall known) cs ds → GivesSame known (plan.Arrow p cs) (plan.Arrow q ds)
  arrow_gives p q cs ds first all =
      by_form (plan.Arrow p cs) (plan.Arrow q ds) _ _ (plan_eq.plan-Arrow p cs) (plan_eq.plan-Arrow q ds)
      (λ slots addresses h. arrow_same addresses slots slots (plan_mean q) (plan_mean p)
      (map (λ (o : Function × List Plan). (o.0, map plan_mean o.1)) ds) (map (λ (o : Function × List Plan). (o.0, map plan_mean o.1)) cs)
      (same_of p q first slots addresses h)
      (related_map (SameCall known) (CallSame addresses slots slots) (λ (o : Function × List Plan). (o.0, map plan_mean o.1)) (λ (o : Function × List Plan). (o.0, map plan_mean o.1))
      (λ x y is. (is.0, alls x.1 y.1 is.1 slots addresses h)) cs ds all))

  pub map_gives : (p q : Plan) (ps qs : List Plan) → GivesSame known p q →
      AreAll (GivesSame known) ps qs → GivesSame known (plan.Map p ps) (plan.Map q qs)
  map_gives p q ps qs first all =
      by_form (plan.Map p ps) (plan.Map q qs) _ _ (plan_eq.plan-Map p ps) (plan_eq.plan-Map q qs)
      (λ slots addresses h. map_same addresses slots slots (plan_mean q) (plan_mean p) (map plan_mean qs) (map plan_mean ps)
      (same_of p q first slots addresses h) (alls ps qs all slots addresses h))

  -- # Operators

  pub sequence_gives : (ps qs : List Plan) → AreAll (GivesSame known) ps qs →
      GivesSame known (plan.Sequence ps) (plan.Sequence qs)
  sequence_gives ps qs all =
      by_form (plan.Sequence ps) (plan.Sequence qs) _ _ (plan_eq.plan-Sequence ps) (plan_eq.plan-Sequence qs)
      (λ slots addresses h. sequence_same addresses slots slots (map plan_mean qs) (map plan_mean ps) (alls ps qs all slots addresses h))

  pub or_gives : (ps qs : List Plan) → AreAll (GivesSame known) ps qs →
      GivesSame known (plan.Or ps) (plan.Or qs)
  or_gives ps qs all =
      by_form (plan.Or ps) (plan.Or qs) _ _ (plan_eq.plan-Or ps) (plan_eq.plan-Or qs)
      (λ slots addresses h. or_same addresses slots slots (map plan_mean qs) (map plan_mean ps) (alls ps qs all slots addresses h))

  pub and_gives : (ps qs : List Plan) → AreAll (GivesSame known) ps qs →
      GivesSame known (plan.And ps) (plan.And qs)
  and_gives ps qs all =
      by_form (plan.And ps) (plan.And qs) _ _ (plan_eq.plan-And ps) (plan_eq.plan-And qs)
      (λ slots addresses h. and_same addresses slots slots (map plan_mean qs) (map plan_mean ps) (alls ps qs all slots addresses h))

  pub chain_gives : (p q : Plan) (os rs : List (Operator × Plan)) → GivesSame known p q →
      AreAll (SameOperand known) os rs → GivesSame known (plan.Chain p os) (plan.Chain q rs)
  chain_gives p q os rs first all =
      by_form (plan.Chain p os) (plan.Chain q rs) _ _ (plan_eq.plan-Chain p os) (plan_eq.plan-Chain q rs)
      (λ slots addresses h. chain_same addresses slots slots (plan_mean q) (plan_mean p)
      (map (λ (o : Operator × Plan). (o.0, plan_mean o.1)) rs) (map (λ (o : Operator × Plan). (o.0, plan_mean o.1)) os)
      (same_of p q first slots addresses h)
      (related_map (SameOperand known) (OperandSame addresses slots slots) (λ (o : Operator × Plan). (o.0, plan_mean o.1)) (λ (o : Operator × Plan). (o.0, plan_mean o.1))
      (λ x y is. (is.0, same_of x.1 y.1 is.1 slots addresses h)) os rs all))

  pub unary_gives : (signs : List Sign) (p q : Plan) → GivesSame known p q →
      GivesSame known (plan.Unary signs p) (plan.Unary signs q)
  unary_gives signs p q is =
      by_form (plan.Unary signs p) (plan.Unary signs q) _ _ (plan_eq.plan-Unary signs p) (plan_eq.plan-Unary signs q)
      (λ slots addresses h. unary_same addresses slots slots signs (plan_mean q) (plan_mean p) (same_of p q is slots addresses h))

  pub if_gives : (a b c d e g : Plan) → GivesSame known a d → GivesSame known b e → GivesSame known c g →
      GivesSame known (plan.If a b c) (plan.If d e g)
  if_gives a b c d e g i j k =
      by_form (plan.If a b c) (plan.If d e g) _ _ (plan_eq.plan-If a b c) (plan_eq.plan-If d e g)
      (λ slots addresses h. conditional_same addresses slots slots (plan_mean d) (plan_mean e) (plan_mean g) (plan_mean a) (plan_mean b) (plan_mean c)
      (same_of a d i slots addresses h) (same_of b e j slots addresses h) (same_of c g k slots addresses h))

  -- # Constructors

  pub named_gives : (node : NamedNode) (a b p q : Plan) → GivesSame known a p → GivesSame known b q →
      GivesSame known (plan.Named node a b) (plan.Named node p q)
  named_gives node a b p q i j =
      by_form (plan.Named node a b) (plan.Named node p q) _ _ (plan_eq.plan-Named node a b) (plan_eq.plan-Named node p q)
      (λ slots addresses h. named_node_same addresses slots slots node (plan_mean p) (plan_mean q) (plan_mean a) (plan_mean b)
      (same_of a p i slots addresses h) (same_of b q j slots addresses h))

  pub unnamed_gives : (node : UnnamedNode) (p q : Plan) → GivesSame known p q →
      GivesSame known (plan.Unnamed node p) (plan.Unnamed node q)
  unnamed_gives node p q is =
      by_form (plan.Unnamed node p) (plan.Unnamed node q) _ _ (plan_eq.plan-Unnamed node p) (plan_eq.plan-Unnamed node q)
      (λ slots addresses h. unnamed_node_same addresses slots slots node (plan_mean q) (plan_mean p) (same_of p q is slots addresses h))

  -- # Paths

  pub step_gives : (axis : Axis) (test : Test) (ps qs : List Plan) → AreAll (GivesSame known) ps qs →
      GivesSame known (plan.Step axis test ps) (plan.Step axis test qs)
  step_gives axis test ps qs all =
      by_form (plan.Step axis test ps) (plan.Step axis test qs) _ _ (plan_eq.plan-Step axis test ps) (plan_eq.plan-Step axis test qs)
      (λ slots addresses h. step_same addresses slots slots axis test (map plan_mean qs) (map plan_mean ps) (alls ps qs all slots addresses h))

  pub filter_gives : (p q : Plan) (ps qs : List Plan) → GivesSame known p q →
      AreAll (GivesSame known) ps qs → GivesSame known (plan.Filter p ps) (plan.Filter q qs)
  filter_gives p q ps qs first all =
      by_form (plan.Filter p ps) (plan.Filter q qs) _ _ (plan_eq.plan-Filter p ps) (plan_eq.plan-Filter q qs)
      (λ slots addresses h. filter_same addresses slots slots (plan_mean q) (plan_mean p) (map plan_mean qs) (map plan_mean ps)
      (same_of p q first slots addresses h) (alls ps qs all slots addresses h))

  pub each_gives : (p q : Plan) → GivesSame known p q → SameStep known (step.Each p) (step.Each q)
  each_gives p q is slots focus addresses h xs trees =
      ap (λ k. k (frame_of slots focus addresses) xs trees) (plan_eq.step-Each q)
      ∙ slash_same addresses slots slots focus (plan_mean q) (plan_mean p) (same_of p q is slots addresses h) xs trees
      ∙ sym (ap (λ k. k (frame_of slots focus addresses) xs trees) (plan_eq.step-Each p))

  pub step_itself : (s t : PlanStep) → t ≡ s → SameStep known s t
  step_itself s t is slots focus addresses h xs trees =
      ap (λ r. plan_step_mean r (frame_of slots focus addresses) xs trees) is

  pub path_gives : (p q : Plan) (ss ts : List PlanStep) → GivesSame known p q →
      AreAll (SameStep known) ss ts → GivesSame known (plan.Path p ss) (plan.Path q ts)
  path_gives p q ss ts first all =
      by_form (plan.Path p ss) (plan.Path q ts) _ _ (plan_eq.plan-Path p ss) (plan_eq.plan-Path q ts)
      (λ slots addresses h focus f.
      then_same _ _ _ _ (same_of p q first slots addresses h focus f)
      (λ xs g. in_turn_same (next_step (frame_of slots focus addresses)) (next_step (frame_of slots focus addresses)) (map plan_step_mean ts) (map plan_step_mean ss)
      (related_map (SameStep known) _ plan_step_mean plan_step_mean (λ x y is b g'. is slots focus addresses h b g') ss ts all) xs g))

-- # A part whose form is known

pub gives_at : (known : List Held) (p x q : Plan) → p ≡ x → GivesSame known x q → GivesSame known p q
gives_at known p x q is h = subst (λ y. GivesSame known y q) (sym is) h

pub known_at : (old now : List Held) (p q : Plan) → now ≡ old → GivesSame now p q → GivesSame old p q
known_at old now p q is h = subst (λ k. GivesSame k p q) is h

pub all_known_at : {A B : Type 0} (R : List Held → A → B → Type 0) (old now : List Held) (xs : List A) (ys : List B) →
    now ≡ old → AreAll (R now) xs ys → AreAll (R old) xs ys
all_known_at R old now xs ys is h = subst (λ k. AreAll (R k) xs ys) is h
