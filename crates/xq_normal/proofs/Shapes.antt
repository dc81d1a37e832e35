-- The forms of normal forms, and what a path comes to that starts at a document.
use Rattle.std.proofs.Common.{◌≡◌, ℕ, ◌+◌, ◌<◌, ◌≤◌, zero, suc, List, [], ◌∷◌, ◌++◌, map, length, get_or, take, Some, None, refl, sym, ap, ◌∙◌, subst, add-one, arith}
use Rattle.std.proofs.lemmas.List.{map-append, length-map, take_all}
use Rattle.std.proofs.lemmas.Simd.{map-map}
use Rattle.xq_atoms.specs.Text.{Text}
use Rattle.xq_expressions.specs.declared.names.QName.{QName}
use Rattle.xq_expressions.specs.declared.operators.AxisStep.{AxisStep}
use Rattle.xq_expressions.specs.declared.operators.PathStart.{PathStart}
use Rattle.xq_expressions.specs.declared.operators.PathStart.TheVariants.{Relative}
use Rattle.xq_expressions.specs.declared.operators.Separator.{Separator}
use Rattle.xq_expressions.specs.declared.expressions.Expr.{Expr, out-Expr}
use Rattle.xq_expressions.specs.declared.expressions.Expr.TheVariants as expr
use Rattle.xq_expressions.specs.declared.expressions.Step.{Step, out-Step}
use Rattle.xq_expressions.specs.declared.expressions.Step.TheVariants as step
use Rattle.xq_expressions.specs.declared.signatures.Function.TheVariants.{Doc}
use Rattle.xq_expressions.specs.Signatures.{function_named}
use Rattle.xq_meaning.specs.declared.normal_forms.Core.{Core}
use Rattle.xq_meaning.specs.declared.normal_forms.Core.TheVariants as core
use Rattle.xq_normal.specs.DocumentPaths.{written_out, after_slash, call_of_literal, StaysDocumentPath}
use Rattle.xq_normal.specs.private.Parts.{admitted}
use Rattle.xq_normal.specs.private.Shapes.{Form, StepForm, StaysCall, StaySteps, StaysPath, GoesOn, HasShapeOf, HasShape, StaysStepOf, StaysStep, plain_step}

pub shape_at : (e : Expr) (x : Form) (c : Core) → out-Expr e ≡ x → HasShapeOf x c → HasShape e c
shape_at e x c is shape = subst (λ y. HasShapeOf y c) (sym is) shape

pub step_at : (s : Step) (x : StepForm) (c : Core) → out-Step s ≡ x → StaysStepOf x c → StaysStep s c
step_at s x c is shape = subst (λ y. StaysStepOf y c) (sym is) shape

pub same_some : {A : Type 0} (x y : A) → Some x ≡ Some y → x ≡ y
same_some x y h = cc

pub none_some : {A : Type 0} (x : A) → None ≡ Some x → ⊥
none_some x h = cc

-- # What an expression or a step comes to, where its form is known

pub literal_stays : (e : Expr) (value : Text) (c : Core) → HasShape e c → e ≡ expr.Str value → c ≡ core.Str value
literal_stays e value c shape is = subst (λ y. HasShapeOf y c) (ap out-Expr is ∙ expr.outs-Str value) shape

pub plain_stays : (s : Step) (along : AxisStep) (c : Core) → StaysStep s c → s ≡ step.Axis along [] → c ≡ plain_step along
plain_stays s along c shape is = subst (λ y. StaysStepOf y c) (ap out-Step is ∙ step.outs-Axis along []) shape refl

pub document_stays : (s : Step) (name : QName) (address : Text) (c : Core) → StaysStep s c →
    function_named name.prefix name.local ≡ Some Doc → s ≡ call_of_literal name address →
    c ≡ core.Call Doc (core.Str address ∷ [])
document_stays s name address c shape named is =
    let arguments = expr.Str address ∷ [] in
    let primary : HasShape (expr.Call name arguments) c =
    subst (λ y. StaysStepOf y c) (ap out-Step is ∙ step.outs-Primary (expr.Call name arguments) []) shape refl in
    let call : StaysCall name arguments c = subst (λ y. HasShapeOf y c) (expr.outs-Call name arguments) primary in
    call Doc (address ∷ []) (ap (λ o. admitted o 1) named) refl

-- # Loops over elements that are made from others, one after another

-- the element at a place, and what it is made from
place_of : {Z B : Type 0} (f : Z → B) (zs : List Z) (i : ℕ) (y : B) → i < length zs → y ≡ get_or (map f zs) i y →
    (z : Z) × (y ≡ f z) × (take (suc i) zs ≡ take i zs ++ z ∷ [])
place_of f [] i y h is = absurd (omega (arith, h))
place_of f (z ∷ zs) zero y h is = (z, is, refl)
place_of f (z ∷ zs) (suc i) y h is =
    let found = place_of f zs i y (omega (arith, h)) is in
    (found.0, found.1, ap (λ l. z ∷ l) found.2)

module _ {Z A B : Type 0} (f : Z → B) (g : Z → A) where
  -- where all are made from others, so are the first of them
  abbrev pub Left : List B → ℕ → List A → Type 0
  Left all i done = (zs : List Z) → all ≡ map f zs → done ≡ map g (take i zs)

  module _ (all : List B) (i : ℕ) (done : List A) (left : Left all i done) where
    pub left_next : (done' : List A) (x : A) (y : B) → i < length all → y ≡ get_or all i y →
        ((z : Z) → y ≡ f z → done' ≡ done ++ g z ∷ []) → Left all (i + 1) done'
    left_next done' x y h is made = λ zs e.
        let long : length all ≡ length zs = ap length e ∙ length-map zs f in
        let found = place_of f zs i y (omega (arith, h, long)) (is ∙ ap (λ l. get_or l i y) e) in
        made found.0 found.1 ∙ ap (λ l. l ++ g found.0 ∷ []) (left zs e)
        ∙ sym (map-append g (take i zs) (found.0 ∷ []))
        ∙ ap (map g) (sym found.2 ∙ ap (λ k. take k zs) (sym (add-one i)))

    pub left_done : length all ≤ i → (zs : List Z) → all ≡ map f zs → done ≡ map g zs
    left_done h zs e =
        let long : length all ≡ length zs = ap length e ∙ length-map zs f in
        left zs e ∙ ap (map g) (take_all i zs (omega (arith, h, long)))

abbrev pub LiteralsLeft : List Expr → ℕ → List Core → Type 0
LiteralsLeft = Left expr.Str core.Str

abbrev pub StepsLeft : List (Separator × Step) → ℕ → List Core → Type 0
StepsLeft = Left after_slash plain_step

-- # Paths

pub path_stays : (start : PathStart) (first : Step) (more : List (Separator × Step)) (first' : Core) (later : List Core) (c : Core) →
    StaysStep first first' → StaySteps more later → (start ≡ Relative → GoesOn first' later c) → StaysPath start first more c
path_stays start first more first' later c begins goes along name address s steps named relative is are =
    let steps' = s ∷ steps in
    let plain : later ≡ map plain_step steps' = goes steps' are in
    along relative (plain_step s) (map plain_step steps) plain
    ∙ ap (λ d. core.Path d later) (document_stays first name address first' begins named is)
    ∙ ap (core.Path (core.Call Doc (core.Str address ∷ []))) (plain ∙ sym (map-map (λ a. core.Step a.0 a.1 []) written_out steps'))

pub stays_document_path : (e : Expr) (c : Core) → HasShape e c → StaysDocumentPath e c
stays_document_path e c shape name address first more named is =
    let start = call_of_literal name address in
    let later = map after_slash (first ∷ more) in
    let path : StaysPath Relative start later c =
    subst (λ y. HasShapeOf y c) (ap out-Expr is ∙ expr.outs-Path Relative start later) shape in
    path name address first more named refl refl refl
