-- A group join that is there.
use Rattle.std.proofs.Common.{◌≡◌, ℕ, List, [], ◌∷◌, ◌++◌, None, Ok, Err, refl, sym, subst}
use Rattle.std.specs.List.{AllByRecursion}
use Rattle.xq_trees.specs.Tree.{Tree}
use Rattle.xq_trees.specs.Tuples.{Tuple}
use Rattle.xq_meaning.specs.declared.joins.Join.{Join}
use Rattle.xq_meaning.specs.declared.plans.Plan.{Plan}
use Rattle.xq_meaning.specs.declared.plans.PlanClause.{PlanClause}
use Rattle.xq_meaning.specs.declared.plans.PlanClause.TheVariants as clause
use Rattle.xq_meaning.specs.Doing.{Outcome}
use Rattle.xq_meaning.specs.Items.{Item}
use Rattle.xq_meaning.specs.PlanMeaning.{Frame, Meaning, equal_items, plan_mean}
use Rattle.xq_meaning.specs.Same.{frame_of}
use Rattle.xq_meaning.proofs.PlanEquations as plan_eq
use Rattle.xq_optimise.specs.declared.held.Held.{Held}
use Rattle.xq_optimise.specs.declared.held.Held.TheVariants.{Anything}
use Rattle.xq_optimise.specs.private.Parts.{GivesHeld, GivesFitting, SameClause, SameMany, AddsClauses}
use Rattle.xq_optimise.proofs.Fitting.{let_fits}
use Rattle.xq_optimise.proofs.Flwor.{one_follows}

pub group_join_follows : (start : ℕ) (known : List Held) (range : Plan) (join : Join) → SameClause start known (clause.GroupJoin range join) (clause.GroupJoin range join) (known ++ Anything ∷ [])
group_join_follows start known range join slots focus addresses l tuples trees w = record {
  same = refl;
  fits =
      subst (λ m. GivesFitting (known ++ Anything ∷ []) slots (m (frame_of slots focus addresses) tuples trees)) (sym (plan_eq.clause-GroupJoin range join))
      (let_fits known slots alone tuples w Anything equal trees (any_held tuples));
}
  where
    -- a tuple as all that is open
    alone : Tuple Item → Frame
    alone t = record { env = t; focus = None; addresses = [] }

    equal : Meaning
    equal fr = equal_items (plan_mean range) join (frame_of slots focus addresses) fr.env

    any_value : (o : Outcome (List Item)) → GivesHeld Anything o
    any_value (Ok xs, f) = tt
    any_value (Err code, f) = tt

    any_held : (ts : List (Tuple Item)) → AllByRecursion (λ (t : Tuple Item). (f : List Tree) → GivesHeld Anything (equal (alone t) f)) ts
    any_held [] = tt
    any_held (t ∷ ts) = ((λ f. any_value (equal (alone t) f)), any_held ts)

pub group_join_adds : (start : ℕ) (old new : List Held) (range : Plan) (join : Join) (before after : List PlanClause) → new ≡ old ++ Anything ∷ [] →
    after ≡ before ++ clause.GroupJoin range join ∷ [] → AddsClauses start old (clause.GroupJoin range join) before after new
group_join_adds start old new range join before after bound pushed =
    subst (λ k. AddsClauses start old (clause.GroupJoin range join) before after k) (sym bound)
    (clause.GroupJoin range join ∷ [], pushed, one_follows start old (old ++ Anything ∷ []) (clause.GroupJoin range join) (clause.GroupJoin range join) (group_join_follows start old range join))

pub group_join_itself : (start : ℕ) (old new : List Held) (c : PlanClause) (range : Plan) (join : Join) → c ≡ clause.GroupJoin range join → new ≡ old ++ Anything ∷ [] → SameMany start old c (c ∷ []) new
group_join_itself start old new c range join is bound =
    subst (λ x. SameMany start old x (x ∷ []) new) (sym is)
    (subst (SameMany start old (clause.GroupJoin range join) (clause.GroupJoin range join ∷ [])) (sym bound)
    (one_follows start old (old ++ Anything ∷ []) (clause.GroupJoin range join) (clause.GroupJoin range join) (group_join_follows start old range join)))
