-- Loops over parts, and forms where variables come into scope.
use Rattle.std.proofs.Common.{◌≡◌, ℕ, ◌+◌, ◌<◌, ◌≤◌, List, [], ◌∷◌, ◌++◌, map, length, get_or, take, drop, Option, Some, None, refl, sym, ap, ◌∙◌, subst, add-one, arith}
use Rattle.std.proofs.Math.Seq.{take-suc}
use Rattle.std.proofs.lemmas.List.{map-append, append-nil, append_assoc, length-append, take-append-drop, take_all, drop_all, drop-append-le, take-append-le}
use Rattle.std.specs.Option.{is_some}
use Rattle.xq_atoms.specs.Text.{Text}
use Rattle.xq_expressions.specs.declared.operators.AllowingEmpty.{AllowingEmpty}
use Rattle.xq_expressions.specs.declared.operators.OrderModifier.{OrderModifier}
use Rattle.xq_expressions.specs.declared.operators.Quantifier.{Quantifier}
use Rattle.xq_meaning.specs.declared.normal_forms.Core.{Core}
use Rattle.xq_meaning.specs.declared.normal_forms.Core.TheVariants as core
use Rattle.xq_meaning.specs.declared.normal_forms.CoreClause.{CoreClause}
use Rattle.xq_meaning.specs.declared.normal_forms.CoreClause.TheVariants as clause
use Rattle.xq_meaning.specs.declared.plans.Plan.{Plan}
use Rattle.xq_meaning.specs.declared.plans.Plan.TheVariants as plan
use Rattle.xq_meaning.specs.declared.plans.PlanClause.{PlanClause}
use Rattle.xq_meaning.specs.declared.plans.PlanClause.TheVariants as plan_clause
use Rattle.xq_meaning.specs.Meaning.{position_name, is_asked}
use Rattle.xq_meaning.specs.Same.{IsPlan}
use Rattle.xq_plan.specs.private.Plans.{AreAll, AreRanges, IsKey, ClauseLeads, ClausesLead, IsClause, AreClauses, Extends}
use Rattle.xq_plan.proofs.Forms.{quantified_plan}
use Rattle.xq_plan.proofs.Flwor.{for_leads, let_leads, where_leads, order_leads, count_leads, none_lead, one_leads_more, flwor_plan}

pub take_next : {A : Type 0} (all : List A) (i : ℕ) (y : A) → i < length all → y ≡ get_or all i y →
    take (i + 1) all ≡ take i all ++ y ∷ []
take_next all i y h is =
    rw add-one (take-suc all i y h ∙ ap (λ z. take i all ++ z ∷ []) (sym is))

-- # Parts that leave the scope as it is

all_push : {A B : Type 0} (R : A → B → Type 0) (xs : List A) (ys : List B) (x : A) (y : B) → AreAll R xs ys →
    R x y → AreAll R (xs ++ x ∷ []) (ys ++ y ∷ [])
all_push R [] [] x y h k = (k, tt)
all_push R [] (z ∷ zs) x y h k = absurd h
all_push R (w ∷ ws) [] x y h k = absurd h
all_push R (w ∷ ws) (z ∷ zs) x y h k = (h.0, all_push R ws zs x y h.1 k)

pub record AllLeft {A B : Type 0} (R : List Text → A → B → Type 0) (all : List A) (i : ℕ) (old now : List Text) (done : List B) : Type 0 where
  pub kept : now ≡ old
  pub planned : AreAll (R old) (take i all) done

module _ {A B : Type 0} (R : List Text → A → B → Type 0) (all : List A) (i : ℕ) (old now : List Text) (done : List B) (left : AllLeft R all i old now done) where
  pub left_next : (now' : List Text) (y : A) (x : B) (done' : List B) → i < length all → y ≡ get_or all i y →
      R now y x → now' ≡ now → done' ≡ done ++ x ∷ [] → AllLeft R all (i + 1) old now' done'
  left_next now' y x done' h is planned kept pushed = record {
    kept = kept ∙ left.kept;
    planned =
        subst (λ l. AreAll (R old) l done') (sym (take_next all i y h is))
        (subst (AreAll (R old) (take i all ++ y ∷ [])) (sym pushed)
        (all_push (R old) (take i all) done y x left.planned (subst (λ ns. R ns y x) left.kept planned)));
  }

  pub left_done : length all ≤ i → AreAll (R old) all done
  left_done h = subst (λ l. AreAll (R old) l done) (take_all i all h) left.planned

-- # Variables of a quantified expression

ranges_push : (names : List Text) (bs : List (Text × Core)) (ps : List Plan) (b : Text × Core) (p : Plan) →
    AreRanges names bs ps → IsPlan (names ++ map (λ c. c.0) bs) b.1 p → AreRanges names (bs ++ b ∷ []) (ps ++ p ∷ [])
ranges_push names [] [] b p h k = (subst (λ ns. IsPlan ns b.1 p) (append-nil names) k, tt)
ranges_push names [] (q ∷ qs) b p h k = absurd h
ranges_push names (c ∷ cs) [] b p h k = absurd h
ranges_push names (c ∷ cs) (q ∷ qs) b p h k =
    (h.0, ranges_push (names ++ c.0 ∷ []) cs qs b p h.1 (subst (λ ns. IsPlan ns b.1 p) (sym (append_assoc names (c.0 ∷ []) (map (λ d. d.0) cs))) k))

pub record RangesLeft (all : List (Text × Core)) (i : ℕ) (old now : List Text) (done : List Plan) : Type 0 where
  pub bound : now ≡ old ++ map (λ b. b.0) (take i all)
  pub planned : AreRanges old (take i all) done

module _ (all : List (Text × Core)) (i : ℕ) (old now : List Text) (done : List Plan) (left : RangesLeft all i old now done) where
  pub range_next : (mid now' : List Text) (y : Text × Core) (x : Plan) (done' : List Plan) → i < length all →
      y ≡ get_or all i y → IsPlan now y.1 x → mid ≡ now → now' ≡ mid ++ y.0 ∷ [] → done' ≡ done ++ x ∷ [] →
      RangesLeft all (i + 1) old now' done'
  range_next mid now' y x done' h is planned kept bind pushed = record {
    bound =
        bind ∙ ap (λ ns. ns ++ y.0 ∷ []) (kept ∙ left.bound)
        ∙ append_assoc old (map (λ b. b.0) (take i all)) (y.0 ∷ [])
        ∙ ap (λ ns. old ++ ns) (sym (map-append (λ (b : Text × Core). b.0) (take i all) (y ∷ [])))
        ∙ ap (λ l. old ++ map (λ b. b.0) l) (sym (take_next all i y h is));
    planned =
        subst (λ l. AreRanges old l done') (sym (take_next all i y h is))
        (subst (AreRanges old (take i all ++ y ∷ [])) (sym pushed)
        (ranges_push old (take i all) done y x left.planned (subst (λ ns. IsPlan ns y.1 x) left.bound planned)));
  }

  pub ranges_done : length all ≤ i → AreRanges old all done
  ranges_done h = subst (λ l. AreRanges old l done) (take_all i all h) left.planned

  pub ranges_bound : length all ≤ i → now ≡ old ++ map (λ b. b.0) all
  ranges_bound h = left.bound ∙ ap (λ l. old ++ map (λ b. b.0) l) (take_all i all h)

-- # Clauses

pub extends_itself : (start : ℕ) (old : List Text) → start ≤ length old → Extends start old old
extends_itself start old h = record { outer = refl; within = h }

pub extends_more : (start : ℕ) (old new more : List Text) → start ≤ length old → new ≡ old ++ more →
    Extends start old new
extends_more start old new more h is =
    let long : length new ≡ length old + length more = ap length is ∙ length-append old more in
    record {
      outer = ap (take start) is ∙ take-append-le start old more h;
      within = omega (arith, long, h);
    }

pub extends_then : (start : ℕ) (old mid new : List Text) → Extends start old mid → Extends start mid new →
    Extends start old new
extends_then start old mid new h k = record { outer = k.outer ∙ h.outer; within = k.within }

module _ (start : ℕ) (old : List Text) (h : start ≤ length old) where
  in_both : (c : Core) (p : Plan) → IsPlan old c p → IsPlan (take start old ++ drop start old) c p
  in_both c p is = subst (λ ns. IsPlan ns c p) (sym (take-append-drop start old)) is

  pub for_clause : (v : Text) (empties : AllowingEmpty) (at : Option Text) (c : Core) (p : Plan) (new : List Text) → IsPlan old c p →
      new ≡ old ++ v ∷ position_name at → IsClause start old (clause.For v empties at c) (plan_clause.For empties (is_asked at) p) new
  for_clause v empties at c p new is e =
      subst (λ ns. ClauseLeads (take start old) (drop start old) ns (clause.For v empties at c) (plan_clause.For empties (is_asked at) p))
      (sym (ap (drop start) e ∙ drop-append-le start old (v ∷ position_name at) h))
      (for_leads (take start old) (drop start old) v empties at c p (in_both c p is))

  pub count_clause : (v : Text) (new : List Text) → new ≡ old ++ v ∷ [] →
      IsClause start old (clause.Count v) plan_clause.Count new
  count_clause v new e =
      subst (λ ns. ClauseLeads (take start old) (drop start old) ns (clause.Count v) plan_clause.Count)
      (sym (ap (drop start) e ∙ drop-append-le start old (v ∷ []) h))
      (count_leads (take start old) (drop start old) v)

  pub let_clause : (v : Text) (c : Core) (p : Plan) (new : List Text) → IsPlan old c p →
      new ≡ old ++ v ∷ [] → IsClause start old (clause.Let v c) (plan_clause.Let p) new
  let_clause v c p new is e =
      subst (λ ns. ClauseLeads (take start old) (drop start old) ns (clause.Let v c) (plan_clause.Let p))
      (sym (ap (drop start) e ∙ drop-append-le start old (v ∷ []) h))
      (let_leads (take start old) (drop start old) v c p (in_both c p is))

  pub where_clause : (c : Core) (p : Plan) (new : List Text) → IsPlan old c p → new ≡ old →
      IsClause start old (clause.Where c) (plan_clause.Where p) new
  where_clause c p new is e =
      subst (λ ns. ClauseLeads (take start old) (drop start old) ns (clause.Where c) (plan_clause.Where p))
      (sym (ap (drop start) e)) (where_leads (take start old) (drop start old) c p (in_both c p is))

  pub order_clause : (cs : List (Core × OrderModifier)) (ps : List (Plan × OrderModifier)) (new : List Text) →
      AreAll (IsKey old) cs ps → new ≡ old → IsClause start old (clause.Order cs) (plan_clause.Order ps) new
  order_clause cs ps new all e =
      subst (λ ns. ClauseLeads (take start old) (drop start old) ns (clause.Order cs) (plan_clause.Order ps))
      (sym (ap (drop start) e))
      (order_leads (take start old) (drop start old) cs ps (subst (λ ns. AreAll (IsKey ns) cs ps) (sym (take-append-drop start old)) all))

pub record ClausesLeft (all : List CoreClause) (start i : ℕ) (old now : List Text) (done : List PlanClause) : Type 0 where
  pub outer : Extends start old now
  pub planned : AreClauses start old (take i all) done now

pub no_clauses : (all : List CoreClause) (start : ℕ) (old : List Text) → start ≤ length old →
    ClausesLeft all start 0 old old []
no_clauses all start old h =
    record { outer = extends_itself start old h; planned = none_lead (take start old) (drop start old) }

module _ (all : List CoreClause) (start i : ℕ) (old now : List Text) (done : List PlanClause) (left : ClausesLeft all start i old now done) where
  pub clause_next : (now' : List Text) (y : CoreClause) (x : PlanClause) (done' : List PlanClause) → i < length all →
      y ≡ get_or all i y → IsClause start now y x now' → Extends start now now' → done' ≡ done ++ x ∷ [] →
      ClausesLeft all start (i + 1) old now' done'
  clause_next now' y x done' h is planned more pushed = record {
    outer = extends_then start old now now' left.outer more;
    planned =
        subst (λ l. AreClauses start old l done' now') (sym (take_next all i y h is))
        (subst (λ d. AreClauses start old (take i all ++ y ∷ []) d now') (sym pushed)
        (one_leads_more (take start old) (drop start old) (drop start now) (drop start now') (take i all) done y x left.planned
        (subst (λ o. ClauseLeads o (drop start now) (drop start now') y x) left.outer.outer planned)));
  }

  pub clauses_done : length all ≤ i → AreClauses start old all done now
  clauses_done h = subst (λ l. AreClauses start old l done now) (take_all i all h) left.planned

-- # FLWOR and quantified expressions, with their scopes

pub flwor_is : (start : ℕ) (old now : List Text) (cs : List CoreClause) (ps : List PlanClause) (c : Core) (p : Plan) →
    start ≡ length old → AreClauses start old cs ps now → Extends start old now → IsPlan now c p →
    IsPlan old (core.Flwor cs c) (plan.Flwor ps p)
flwor_is start old now cs ps c p is lead more part =
    let all : take start old ≡ old = take_all start old (omega (arith, is)) in
    let none : drop start old ≡ [] = drop_all start old (omega (arith, is)) in
    flwor_plan old (drop start now) cs ps c p
    (subst (λ o. ClausesLead o [] (drop start now) cs ps) all
    (subst (λ o. ClausesLead (take start old) o (drop start now) cs ps) none lead))
    (subst (λ ns. IsPlan ns c p) (sym (take-append-drop start now) ∙ ap (λ ns. ns ++ drop start now) (more.outer ∙ all)) part)

pub flwor_left : (start : ℕ) (old now last new : List Text) → start ≡ length old → Extends start old now →
    last ≡ now → new ≡ take start last → new ≡ old
flwor_left start old now last new is more kept left =
    left ∙ ap (take start) kept ∙ more.outer ∙ take_all start old (omega (arith, is))

pub quantified_is : (old now : List Text) (which : Quantifier) (bs : List (Text × Core)) (m : Core) (ps : List Plan) (q : Plan) →
    AreRanges old bs ps → now ≡ old ++ map (λ b. b.0) bs → IsPlan now m q →
    IsPlan old (core.Quantified which bs m) (plan.Quantified which ps q)
quantified_is old now which bs m ps q all is part =
    quantified_plan old which bs m ps q all (subst (λ ns. IsPlan ns m q) is part)

pub ranges_left : (start : ℕ) (old more now last new : List Text) → start ≡ length old → now ≡ old ++ more →
    last ≡ now → new ≡ take start last → new ≡ old
ranges_left start old more now last new is bound kept left =
    left ∙ ap (take start) (kept ∙ bound) ∙ take-append-le start old more (omega (arith, is)) ∙ take_all start old (omega (arith, is))

-- # What is known of a part, where the scope and the part have other names

pub as_is : (names : List Text) (c d : Core) (p : Plan) → c ≡ d → IsPlan names d p → IsPlan names c p
as_is names c d p is h = subst (λ k. IsPlan names k p) (sym is) h

pub part_at : (names old : List Text) (c d : Core) (p : Plan) → names ≡ old → c ≡ d → IsPlan names c p →
    IsPlan old d p
part_at names old c d p same is h =
    subst (λ k. IsPlan old k p) is (subst (λ ns. IsPlan ns c p) same h)

pub list_at : {A B : Type 0} (R : List Text → A → B → Type 0) (names old : List Text) (xs ys : List A) (zs : List B) →
    names ≡ old → xs ≡ ys → AreAll (R names) xs zs → AreAll (R old) ys zs
list_at R names old xs ys zs same is h =
    subst (λ l. AreAll (R old) l zs) is (subst (λ ns. AreAll (R ns) xs zs) same h)

pub asked : (at : Option Text) → is_some at ≡ is_asked at
asked None = refl
asked (Some v) = refl
