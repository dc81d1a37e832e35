-- Quantified expressions give the same where their parts do.
use Rattle.std.proofs.Common.{◌≡◌, List, [], ◌∷◌, ◌++◌, map, Bool, Ok, Err, refl, sym, ap, ◌∙◌, subst}
use Rattle.std.specs.Prelude.{Option}
use Rattle.std.specs.List.{AllByRecursion}
use Rattle.std.proofs.lemmas.Simd.{map-map}
use Rattle.xq_atoms.specs.Text.{Text}
use Rattle.xq_expressions.specs.declared.operators.Quantifier.{Quantifier}
use Rattle.xq_trees.specs.Tree.{Tree}
use Rattle.xq_meaning.specs.Functions.{Focus}
use Rattle.xq_meaning.specs.Arguments.{boolean}
use Rattle.xq_meaning.specs.Items.{Item}
use Rattle.xq_meaning.specs.declared.plans.Plan.{Plan}
use Rattle.xq_meaning.specs.declared.plans.Plan.TheVariants as plan
use Rattle.xq_meaning.specs.Doing.{Doing, Outcome, go_on, give, first_that}
use Rattle.xq_meaning.specs.Forms
use Rattle.xq_meaning.specs.PlanMeaning.{Slots, Meaning, opened, plan_mean}
use Rattle.xq_meaning.specs.Same.{frame_of}
use Rattle.xq_meaning.proofs.PlanEquations as plan_eq
use Rattle.xq_meaning.proofs.SameForms.{AreRelated, first_that_same, tested_same}
use Rattle.xq_optimise.specs.declared.held.Held.{Held}
use Rattle.xq_optimise.specs.Known.{Holds, Fits}
use Rattle.xq_optimise.specs.Same.{GivesSame}
use Rattle.xq_optimise.specs.private.Parts.{IsHeld, GivesHeld, SameRanges, each_of}
use Rattle.xq_optimise.proofs.Forms.{same_of}
use Rattle.xq_optimise.proofs.Fitting.{fits_more, items_hold}

abbrev binding : Plan → Forms.Binding Slots
binding p = (opened, plan_mean p)

-- the same for each item that is as described
related_items : (held : Held) (k l : Item → Doing Bool) →
    ((x : Item) → Holds held (x ∷ []) → (f : List Tree) → l x f ≡ k x f) → (xs : List Item) →
    AllByRecursion (λ x. Holds held (x ∷ [])) xs →
    AreRelated (λ (x y : Item). (f : List Tree) → l x f ≡ k y f) xs xs
related_items held k l h [] all = tt
related_items held k l h (x ∷ xs) all = (h x all.0, related_items held k l h xs all.1)

ranged : (wanted : Bool) (held : Held) (k l : Item → Doing Bool) →
    ((x : Item) → Holds (each_of held) (x ∷ []) → (f : List Tree) → l x f ≡ k x f) →
    (o : Outcome (List Item)) → GivesHeld held o →
    go_on o (λ xs. first_that wanted l xs) ≡ go_on o (λ xs. first_that wanted k xs)
ranged wanted held k l h (Ok xs, f) holds =
    first_that_same wanted l k xs xs (related_items (each_of held) k l h xs (items_hold held xs holds)) f
ranged wanted held k l h (Err code, f) holds = refl

satisfied_gives : (wanted : Bool) (m n : Plan) (last : List Held) → GivesSame last m n →
    (known : List Held) (ps qs : List Plan) → SameRanges known ps qs last →
    (slots : Slots) (focus : Option Focus) (addresses : List Text) (f : List Tree) → Fits known slots →
    Forms.satisfied wanted (map binding qs) (plan_mean n) (frame_of slots focus addresses) f
    ≡ Forms.satisfied wanted (map binding ps) (plan_mean m) (frame_of slots focus addresses) f
satisfied_gives wanted m n last is known [] [] h slots focus addresses f fits =
    tested_same addresses slots slots (plan_mean n) (plan_mean m)
    (same_of last m n is slots addresses (subst (λ k. Fits k slots) (sym h) fits)) focus f
satisfied_gives wanted m n last is known [] (q ∷ qs) h slots focus addresses f fits = absurd h
satisfied_gives wanted m n last is known (p ∷ ps) [] h slots focus addresses f fits = absurd h
satisfied_gives wanted m n last is known (p ∷ ps) (q ∷ qs) (held, same, holds, more) slots focus addresses f fits =
    let at : List Plan → Plan → Item → Doing Bool = λ rs r x. Forms.satisfied wanted (map binding rs) (plan_mean r) (frame_of (opened slots (x ∷ [])) focus addresses) in
    ap (λ o. go_on o (λ xs. first_that wanted (at qs n) xs)) (same slots focus addresses f fits)
    ∙ ranged wanted held (at ps m) (at qs n)
    (λ x is-held g. satisfied_gives wanted m n last is (known ++ each_of held ∷ []) ps qs more (opened slots (x ∷ [])) focus addresses g (fits_more known (each_of held ∷ []) slots ((x ∷ []) ∷ []) fits (is-held, tt)))
    (plan_mean p (frame_of slots focus addresses) f) (holds slots focus addresses f fits)

pub quantified_gives : (known last : List Held) (which : Quantifier) (ps qs : List Plan) (m n : Plan) →
    SameRanges known ps qs last → GivesSame last m n →
    GivesSame known (plan.Quantified which ps m) (plan.Quantified which qs n)
quantified_gives known last which ps qs m n all is slots focus addresses trees fits =
    let frame = frame_of slots focus addresses in
    let written : (rs : List Plan) (r : Plan) → plan_mean (plan.Quantified which rs r) ≡ Forms.quantified which (map binding rs) (plan_mean r) =
    λ rs r. plan_eq.plan-Quantified which rs r ∙ ap (λ bs. Forms.quantified which bs (plan_mean r)) (map-map (λ (range : Meaning). (opened, range)) plan_mean rs) in
    ap (λ k. k frame trees) (written qs n)
    ∙ ap (λ o. go_on o (λ answer. give (boolean answer))) (satisfied_gives (Forms.deciding which) m n last is known ps qs all slots focus addresses trees fits)
    ∙ sym (ap (λ k. k frame trees) (written ps m))

-- what holds of the value of the one holds of that of the other
pub held_of_same : (known : List Held) (held : Held) (p q : Plan) → GivesSame known p q → IsHeld known held q →
    IsHeld known held p
held_of_same known held p q is h slots focus addresses trees fits =
    subst (GivesHeld held) (is slots focus addresses trees fits) (h slots focus addresses trees fits)

pub ranges_push : (known mid : List Held) (held : Held) (ps qs : List Plan) (p q : Plan) →
    SameRanges known ps qs mid → GivesSame mid p q → IsHeld mid held p →
    SameRanges known (ps ++ p ∷ []) (qs ++ q ∷ []) (mid ++ each_of held ∷ [])
ranges_push known mid held [] [] p q h is as' =
    subst (λ k. SameRanges k (p ∷ []) (q ∷ []) (mid ++ each_of held ∷ [])) h (held, is, as', refl)
ranges_push known mid held [] (y ∷ ys) p q h is as' = absurd h
ranges_push known mid held (x ∷ xs) [] p q h is as' = absurd h
ranges_push known mid held (x ∷ xs) (y ∷ ys) p q (a, same, holds, more) is as' =
    (a, same, holds, ranges_push (known ++ each_of a ∷ []) mid held xs ys p q more is as')
