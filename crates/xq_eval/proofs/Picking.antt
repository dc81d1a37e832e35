-- The one of several literals that a position keeps.
use Rattle.std.proofs.Common.{◌≡◌, ℕ, zero, suc, ◌+◌, ◌-◌, ◌<◌, ◌++◌, List, [], ◌∷◌, length, map, get_or, false, Ok, refl, sym, ◌∙◌, ap, arith, append_assoc, inl, inr}
use Rattle.std.specs.Prelude.{ℤ, pos, negsuc, int_lt, nat_abs, ◌⊎◌}
use Rattle.std.specs.List.{AllByRecursion}
use Rattle.std.proofs.lemmas.List.{append-nil}
use Rattle.xq_atoms.specs.Atom.{Atomic, Integer, Decimal, String}
use Rattle.xq_atoms.specs.Text.{Text}
use Rattle.xq_trees.specs.Tree.{Tree}
use Rattle.xq_meaning.specs.declared.plans.Plan.{Plan}
use Rattle.xq_meaning.specs.declared.plans.Plan.TheVariants as plan
use Rattle.xq_meaning.specs.Arguments.{atomic}
use Rattle.xq_meaning.specs.Doing.{Outcome, go_on, give, in_turn, more}
use Rattle.xq_meaning.specs.Forms as Forms
use Rattle.xq_meaning.specs.Functions.{Focus}
use Rattle.xq_meaning.specs.Items.{Item, Atom}
use Rattle.xq_meaning.specs.PlanMeaning.{Frame, Meaning, plan_mean}
use Rattle.xq_meaning.proofs.PlanEquations.{plan-Int, plan-Dec, plan-Str, plan-Sequence}
use Rattle.xq_eval.specs.private.AtHand.{Gives, IsConstant}
use Rattle.xq_eval.proofs.Choosing.{only_kept}

-- # Positions

pub from_one : (z : ℤ) → int_lt z (pos 1) ≡ false → z ≡ pos (nat_abs z - 1 + 1)
from_one (pos zero) h = absurd (cc)
from_one (pos (suc n)) h = ap pos (let e : suc n ≡ suc n - 1 + 1 = omega arith in e)
from_one (negsuc n) h = absurd (cc)

-- # Literals

pub constant : (p : Plan) → ((n : ℤ) × (p ≡ plan.Int n)) ⊎ (((n : ℤ) × (p ≡ plan.Dec n)) ⊎ ((t : Text) × (p ≡ plan.Str t))) → IsConstant p
constant p (inl h) = (Integer h.0, λ frame trees. ap (λ q. plan_mean q frame trees) h.1 ∙ ap (λ (m : Meaning). m frame trees) (plan-Int h.0))
constant p (inr (inl h)) = (Decimal h.0, λ frame trees. ap (λ q. plan_mean q frame trees) h.1 ∙ ap (λ (m : Meaning). m frame trees) (plan-Dec h.0))
constant p (inr (inr h)) = (String h.0, λ frame trees. ap (λ q. plan_mean q frame trees) h.1 ∙ ap (λ (m : Meaning). m frame trees) (plan-Str h.0))

-- the values of several

values : (ps : List Plan) → AllByRecursion IsConstant ps → List Item
values [] all = []
values (p ∷ ps) all = Atom all.0.0 ∷ values ps all.1

as_many : (ps : List Plan) (all : AllByRecursion IsConstant ps) → length (values ps all) ≡ length ps
unfolding values
as_many [] all = refl
as_many (p ∷ ps) all = ap suc (as_many ps all.1)

module _ (frame : Frame) (trees : List Tree) where
  same_value : (a b : Atomic) (o : Outcome (List Item)) → o ≡ (Ok (atomic a), trees) → o ≡ (Ok (atomic b), trees) → Atom a ≡ Atom b
  same_value a b o left right = (let e : Ok (Atom a ∷ []) ≡ Ok (Atom b ∷ []) = ap (λ (o : Outcome (List Item)). o.0) (sym left ∙ right) in cc)

  there : (ps : List Plan) (all : AllByRecursion IsConstant ps) (i : ℕ) (p : Plan) (a : Atomic) → i < length ps → p ≡ get_or ps i p → Gives p a → Atom a ≡ get_or (values ps all) i (Atom a)
  unfolding values
  there [] all i p a within at gives = absurd (omega (arith, within))
  there (q ∷ ps) all zero p a within at gives = same_value a all.0.0 (plan_mean q frame trees) (ap (λ r. plan_mean r frame trees) (sym at) ∙ gives frame trees) (all.0.1 frame trees)
  there (q ∷ ps) all (suc i) p a within at gives = there ps all.1 i p a (omega (arith, within)) at gives

  made : (ps : List Plan) (all : AllByRecursion IsConstant ps) (done : List Item) → in_turn (more (λ (part : Meaning). part frame)) done (map plan_mean ps) trees ≡ (Ok (done ++ values ps all), trees)
  unfolding values
  made [] all done = ap (λ xs. (Ok xs, trees)) (sym (append-nil done))
  made (p ∷ ps) all done =
      ap (λ o. go_on (go_on o (λ ys. give (done ++ ys))) (λ next. in_turn (more (λ (part : Meaning). part frame)) next (map plan_mean ps))) (all.0.1 frame trees)
      ∙ made ps all.1 (done ++ Atom all.0.0 ∷ [])
      ∙ ap (λ xs. (Ok xs, trees)) (append_assoc done (Atom all.0.0 ∷ []) (values ps all.1))

  -- the one at the index, where the predicate is its position, in any focus
  pub picked_alone : (start predicate p : Plan) (parts predicates : List Plan) (i : ℕ) (a : Atomic) → start ≡ plan.Sequence parts → predicates ≡ predicate ∷ []
      → AllByRecursion IsConstant parts → i < length parts → p ≡ get_or parts i p → Gives p a
      → ((spot : Focus) → plan_mean predicate (Forms.in_focus frame spot) trees ≡ (Ok (atomic (Integer (pos (i + 1)))), trees))
      → Forms.filter_of (plan_mean start) (map plan_mean predicates) frame trees ≡ (Ok (atomic a), trees)
  picked_alone start predicate p parts predicates i a is one all within at gives position =
      let xs = values parts all in
      let inside : i < length xs = omega (arith, within, as_many parts all) in
      ap (λ (m : Meaning). Forms.filter_of m (map plan_mean predicates) frame trees) (ap plan_mean is ∙ plan-Sequence parts)
      ∙ ap (λ ps. go_on (Forms.sequence (map plan_mean parts) frame trees) (λ ys. in_turn (Forms.filtered frame) ys (map plan_mean ps))) one
      ∙ ap (λ o. go_on o (λ ys. in_turn (Forms.filtered frame) ys (plan_mean predicate ∷ []))) (made parts all [])
      ∙ ap (λ o. go_on o (λ ys. give ys)) (only_kept predicate (pos (i + 1)) frame trees (λ last. Unit {0}) (λ spot known. position spot) (i + 1) refl i 1 (length xs) [] xs (Atom a) tt (omega arith) inside (there parts all i p a within at gives))
