-- A quantified expression that asks for one pair of texts is a general comparison.
use Rattle.std.proofs.Common.{◌≡◌, List, [], ◌∷◌, ◌++◌, length, Bool, true, false, Ok, refl, sym, ap, ◌∙◌, subst}
use Rattle.std.specs.Prelude.{Option}
use Rattle.std.specs.List.{AllByRecursion}
use Rattle.xq_atoms.specs.Atom.{Atomic}
use Rattle.xq_atoms.specs.Judged.{◌>>=◌}
use Rattle.xq_atoms.specs.Text.{Text}
use Rattle.xq_atoms.specs.declared.comparisons.CompOp.{CompOp}
use Rattle.xq_expressions.specs.declared.operators.Relation.{Relation}
use Rattle.xq_expressions.specs.declared.operators.ComparisonOperator.TheVariants as comparing
use Rattle.xq_expressions.specs.declared.operators.Quantifier.{Quantifier}
use Rattle.xq_expressions.specs.declared.operators.Quantifier.TheVariants as quantifier
use Rattle.xq_trees.specs.Tree.{Tree}
use Rattle.xq_trees.specs.Tuples.{value_at}
use Rattle.xq_meaning.specs.declared.operators.Operator.{Operator}
use Rattle.xq_meaning.specs.declared.operators.Operator.TheVariants as operator
use Rattle.xq_meaning.specs.declared.plans.Plan.{Plan, out-Plan}
use Rattle.xq_meaning.specs.declared.plans.Plan.TheOpen.{Plan-F}
use Rattle.xq_meaning.specs.declared.plans.Plan.TheVariants as plan
use Rattle.xq_meaning.specs.declared.plans.PlanClause.{PlanClause}
use Rattle.xq_meaning.specs.declared.plans.PlanStep.{PlanStep}
use Rattle.xq_meaning.specs.Arguments.{effective, boolean, as_boolean}
use Rattle.xq_meaning.specs.Doing.{Doing, go_on, give, judged, on_trees, in_turn, first_that, unless_found}
use Rattle.xq_meaning.specs.Forms
use Rattle.xq_meaning.specs.Functions.{Focus}
use Rattle.xq_meaning.specs.Items.{Item, atomized, atom_of}
use Rattle.xq_meaning.specs.Operators.{operated, related_by, some_with, some_pair, or_rest}
use Rattle.xq_meaning.specs.PlanMeaning.{Slots, plan_mean}
use Rattle.xq_meaning.specs.Same.{frame_of}
use Rattle.xq_meaning.proofs.PlanEquations as plan_eq
use Rattle.xq_optimise.specs.declared.held.Held.{Held}
use Rattle.xq_optimise.specs.Known.{IsText, Fits}
use Rattle.xq_optimise.specs.Same.{GivesSame}
use Rattle.xq_optimise.specs.Sure.{SurelyTexts, ReadsBelow}
use Rattle.xq_optimise.specs.private.Parts.{general_comparison}
use Rattle.xq_optimise.specs.private.SomePairs.{ComparesOne}
use Rattle.xq_optimise.proofs.Fitting.{fits_length}
use Rattle.xq_optimise.proofs.Tests.{one_or_more}

-- the value of a slot that was opened last
value_last : (slots : Slots) (xs : List Item) → value_at (length slots) (slots ++ xs ∷ []) ≡ xs
value_last [] xs = refl
value_last (y ∷ slots) xs = value_last slots xs

alone : (t : Bool) → or_rest t (Ok false) ≡ Ok t
alone true = refl
alone false = refl

-- one item after another, or all pairs
some_told : (op : CompOp) (trees : List Tree) (bs : List Atomic) (act : Item → Doing Bool) → AllByRecursion IsText bs →
    ((x : Item) (t : Bool) → some_with op (atom_of trees x) bs ≡ Ok t → act x trees ≡ (Ok t, trees)) → (xs : List Item) →
    AllByRecursion IsText (atomized trees xs) →
    (t : Bool) × (first_that true act xs trees ≡ (Ok t, trees)) × (some_pair op (atomized trees xs) bs ≡ Ok t)
some_told op trees bs act texts h [] all = (false, refl, refl)
some_told op trees bs act texts h (x ∷ xs) all =
    let one = one_or_more op (atom_of trees x) bs all.0 texts in
    decided one.0 (h x one.0 one.1) one.1 (some_told op trees bs act texts h xs all.1)
  where
    decided : (t : Bool) → act x trees ≡ (Ok t, trees) → some_with op (atom_of trees x) bs ≡ Ok t →
        ((u : Bool) × (first_that true act xs trees ≡ (Ok u, trees)) × (some_pair op (atomized trees xs) bs ≡ Ok u)) →
        (u : Bool) × (first_that true act (x ∷ xs) trees ≡ (Ok u, trees)) × (some_pair op (atomized trees (x ∷ xs)) bs ≡ Ok u)
    decided true told is rest = (
      true,
      ap (λ o. go_on o (λ answer. unless_found true answer (first_that true act xs))) told,
      ap (λ r. r >>= (λ answer. or_rest answer (some_pair op (atomized trees xs) bs))) is,
    )
    decided false told is rest = (
      rest.0,
      ap (λ o. go_on o (λ answer. unless_found true answer (first_that true act xs))) told ∙ rest.1,
      ap (λ r. r >>= (λ answer. or_rest answer (some_pair op (atomized trees xs) bs))) is ∙ rest.2,
    )

-- the test, with one item for the variable
module _ (known : List Held) (by : Relation) (q : Plan) (slots : Slots) (focus : Option Focus) (addresses : List Text) (trees : List Tree) (fits : Fits known slots)
    (below : ReadsBelow known q) (ys : List Item) (given : plan_mean q (frame_of slots focus addresses) trees ≡ (Ok ys, trees)) where
  abbrev op : Operator
  op = operator.Comparison (comparing.General by)

  abbrev act : Item → Doing Bool
  act x = Forms.tested (plan_mean (general_comparison by (plan.Slot (length known)) q)) (frame_of (slots ++ (x ∷ []) ∷ []) focus addresses)

  act_told : (x : Item) (t : Bool) → some_with (related_by by) (atom_of trees x) (atomized trees ys) ≡ Ok t → act x trees ≡ (Ok t, trees)
  act_told x t is =
      let frame = frame_of (slots ++ (x ∷ []) ∷ []) focus addresses in
      ap (λ m. Forms.tested m frame trees) (plan_eq.plan-Chain (plan.Slot (length known)) ((op, q) ∷ []))
      ∙ ap (λ o. go_on (go_on o (λ xs. in_turn (Forms.next_operand frame) xs ((op, plan_mean q) ∷ []))) (λ xs. judged (effective xs)))
      (ap (λ m. m frame trees) (plan_eq.plan-Slot (length known))
      ∙ ap (λ xs. (Ok xs, trees)) (ap (λ n. value_at n (slots ++ (x ∷ []) ∷ [])) (sym (fits_length known slots fits)) ∙ value_last slots (x ∷ [])))
      ∙ ap (λ o. go_on (go_on (go_on o (λ zs. on_trees (λ ts. operated op ts (x ∷ []) zs))) (λ xs. give xs)) (λ xs. judged (effective xs)))
      (below slots ((x ∷ []) ∷ []) focus addresses trees fits ∙ given)
      ∙ ap (λ r. go_on (go_on (as_boolean (r >>= (λ answer. or_rest answer (Ok false))), trees) (λ xs. give xs)) (λ xs. judged (effective xs))) is
      ∙ ap (λ r. go_on (go_on (as_boolean r, trees) (λ xs. give xs)) (λ xs. judged (effective xs))) (alone t)

pub one_pair_gives : (known : List Held) (by : Relation) (p q : Plan) → SurelyTexts known p → SurelyTexts known q → ReadsBelow known q →
    GivesSame known (plan.Quantified quantifier.Some (p ∷ []) (general_comparison by (plan.Slot (length known)) q)) (general_comparison by p q)
one_pair_gives known by p q h k below slots focus addresses trees fits =
    let frame = frame_of slots focus addresses in
    let first = h slots focus addresses trees fits in
    let second = k slots focus addresses trees fits in
    let test = general_comparison by (plan.Slot (length known)) q in
    let comparison : Operator = operator.Comparison (comparing.General by) in
    let one : Item → Doing Bool = act known by q slots focus addresses trees fits below second.0 second.2 in
    let told = some_told (related_by by) trees (atomized trees second.0) one second.1 (act_told known by q slots focus addresses trees fits below second.0 second.2) first.0 first.1 in
    ap (λ m. m frame trees) (plan_eq.plan-Chain p ((comparison, q) ∷ []))
    ∙ ap (λ o. go_on o (λ xs. in_turn (Forms.next_operand frame) xs ((comparison, plan_mean q) ∷ []))) first.2
    ∙ ap (λ o. go_on (go_on o (λ ys. on_trees (λ ts. operated comparison ts first.0 ys))) (λ xs. give xs)) second.2
    ∙ ap (λ r. go_on (as_boolean r, trees) (λ xs. give xs)) told.2
    ∙ sym (ap (λ m. m frame trees) (plan_eq.plan-Quantified quantifier.Some (p ∷ []) test)
    ∙ ap (λ o. go_on (go_on o (λ xs. first_that true one xs)) (λ answer. give (boolean answer))) first.2
    ∙ ap (λ o. go_on o (λ answer. give (boolean answer))) told.1)

-- # Parts whose form is known

abbrev rest_in : Plan-F Plan PlanClause PlanStep → List (Operator × Plan)
rest_in (Plan-F.Chain first rest) = rest
rest_in form = []

pub same_rest_of : (a c : Plan) (b d : List (Operator × Plan)) → plan.Chain a b ≡ plan.Chain c d → b ≡ d
same_rest_of a c b d e =
    sym (ap rest_in (plan.outs-Chain a b)) ∙ ap (λ p. rest_in (out-Plan p)) e ∙ ap rest_in (plan.outs-Chain c d)

-- the range that is taken off a list of one
alone_in : (rest : List Plan) (x p : Plan) → rest ++ x ∷ [] ≡ p ∷ [] → x ≡ p
alone_in [] x p e = cc
alone_in (y ∷ []) x p e = cc
alone_in (y ∷ z ∷ rest) x p e = cc

pub one_pair_stands : (known : List Held) (which : Quantifier) (ranges rest : List Plan) (range part found : Plan) → which ≡ quantifier.Some →
    ComparesOne known ranges part → ranges ≡ rest ++ range ∷ [] →
    ((first : Plan) (more : List (Operator × Plan)) → part ≡ plan.Chain first more → found ≡ plan.Chain range more) →
    GivesSame known (plan.Quantified which ranges part) found
one_pair_stands known which ranges rest range part found some (by, p, q, one, is, sure, other, below) cut begun =
    let op : Operator = operator.Comparison (comparing.General by) in
    let range_is : range ≡ p = alone_in rest range p (sym cut ∙ one) in
    subst (GivesSame known (plan.Quantified which ranges part)) (sym (begun (plan.Slot (length known)) ((op, q) ∷ []) is ∙ ap (λ r. plan.Chain r ((op, q) ∷ [])) range_is))
    (subst (λ w. GivesSame known (plan.Quantified w ranges part) (general_comparison by p q)) (sym some)
    (subst (λ rs. GivesSame known (plan.Quantified quantifier.Some rs part) (general_comparison by p q)) (sym one)
    (subst (λ r. GivesSame known (plan.Quantified quantifier.Some (p ∷ []) r) (general_comparison by p q)) (sym is)
    (one_pair_gives known by p q sure other below))))
