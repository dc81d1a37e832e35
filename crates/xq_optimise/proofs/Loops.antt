-- Loops over parts that are handed on: from the last to the first, and in order.
use Rattle.std.proofs.Common.{◌≡◌, ℕ, ◌+◌, ◌≤◌, List, [], ◌∷◌, ◌++◌, map, reverse, length, take, Bool, Option, Ok, Err, refl, sym, ap, ◌∙◌, subst, arith}
use Rattle.std.proofs.lemmas.List.{append-nil, append_assoc, reverse-append, reverse-reverse, length-append, take_all, take-append-le, map-append}
use denote.Param.Weighed.{most, most-append}
use Rattle.xq_atoms.specs.Text.{Text}
use Rattle.xq_atoms.specs.declared.refusals.Code.{Code}
use Rattle.xq_expressions.specs.declared.operators.AllowingEmpty.{AllowingEmpty}
use Rattle.xq_expressions.specs.declared.operators.OrderModifier.{OrderModifier}
use Rattle.xq_trees.specs.Tree.{Tree}
use Rattle.xq_trees.specs.Tuples.{Tuple}
use Rattle.xq_meaning.specs.declared.plans.Plan.{Plan}
use Rattle.xq_meaning.specs.declared.plans.PlanClause.{PlanClause}
use Rattle.xq_meaning.specs.declared.plans.PlanClause.TheVariants as clause
use Rattle.xq_meaning.specs.Doing.{Doing, Outcome, go_on, in_turn}
use Rattle.xq_meaning.specs.Functions.{Focus}
use Rattle.xq_meaning.specs.Items.{Item}
use Rattle.xq_meaning.specs.PlanMeaning.{Slots, Frame, next_clause, plan_clause_mean}
use Rattle.xq_meaning.specs.Same.{frame_of}
use Rattle.xq_meaning.proofs.Turns.{go_on_give, go_on_go_on, in_turn-append}
use Rattle.xq_optimise.specs.declared.held.Held.{Held}
use Rattle.xq_optimise.specs.declared.held.Held.TheVariants.{Anything}
use Rattle.xq_optimise.specs.Same.{GivesSame}
use Rattle.xq_optimise.specs.private.Parts.{AreAll, SameKey, IsHeld, with_position, AllFit, GivesFitting, Follows, SameRanges, SameClause, SameMany, AddsClauses, AddsTests, SameClauses, Extends, forgotten, each_of}
use Rattle.xq_optimise.proofs.Ranges.{ranges_push, held_of_same}
use Rattle.xq_optimise.proofs.Flwor.{one_follows, tests_follow, for_follows, let_follows, order_follows, count_follows, group_follows, refused_follows}

-- # From the last to the first

-- what is left of a list, and what became of those behind, the last first
pub record EachLeft {A B : Type 0} (R : List Held → A → B → Type 0) (all left : List A) (old now : List Held) (done : List B) : Type 0 where
  pub kept : now ≡ old
  pub taken : List A
  pub whole : left ++ taken ≡ all
  pub same : AreAll (R old) taken (reverse done)

pub left_none : {A B : Type 0} (R : List Held → A → B → Type 0) (all : List A) (old : List Held) (done : List B) →
    done ≡ [] → EachLeft R all all old old done
left_none {A} {B} R all old done none = record {
  kept = refl;
  taken = [];
  whole = append-nil all;
  same = subst (λ (l : List B). AreAll (R old) [] (reverse l)) (sym none) tt;
}

pub left_next : {A B : Type 0} (R : List Held → A → B → Type 0) (all left rest : List A) (old now now' : List Held) (done done' : List B) (x : A) (y : B) →
    EachLeft R all left old now done → left ≡ rest ++ x ∷ [] → R now x y → now' ≡ now → done' ≡ done ++ y ∷ [] →
    EachLeft R all rest old now' done'
left_next {A} {B} R all left rest old now now' done done' x y h cut is kept pushed =
    let turned : reverse done' ≡ y ∷ reverse done =
    ap reverse pushed ∙ reverse-append done (y ∷ []) in
    record {
      kept = kept ∙ h.kept;
      taken = x ∷ h.taken;
      whole = sym (append_assoc rest (x ∷ []) h.taken) ∙ ap (λ l. l ++ h.taken) (sym cut) ∙ h.whole;
      same = subst (λ (l : List B). AreAll (R old) (x ∷ h.taken) l) (sym turned) (subst (λ k. R k x y) h.kept is, h.same);
    }

pub left_done : {A B : Type 0} (R : List Held → A → B → Type 0) (all left : List A) (old now : List Held) (done : List B) →
    EachLeft R all left old now done → left ≡ [] → AreAll (R old) all (reverse done)
left_done {A} {B} R all left old now done h none =
    let whole : h.taken ≡ all = ap (λ l. l ++ h.taken) (sym none) ∙ h.whole in
    subst (λ (l : List A). AreAll (R old) l (reverse done)) whole h.same

-- one that is left is no deeper than the whole
pub left_size : {A : Type 0} (size : A → ℕ) (all left taken rest : List A) (x : A) → left ++ taken ≡ all →
    left ≡ rest ++ x ∷ [] → size x ≤ most size all
left_size size all left taken rest x whole cut =
    let e = ap (most size) whole in
    let both = most-append size left taken in
    let same = ap (most size) cut in
    let last = most-append size rest (x ∷ []) in
    omega (arith, e, both, same, last)

-- # In order, over the list turned round

-- one that is left is no deeper than the whole
pub turned_size : {A : Type 0} (size : A → ℕ) (all left taken rest : List A) (x : A) → taken ++ reverse left ≡ all →
    left ≡ rest ++ x ∷ [] → size x ≤ most size all
turned_size size all left taken rest x whole cut =
    let e = ap (most size) (sym whole ∙ ap (λ l. taken ++ reverse l) cut ∙ ap (λ l. taken ++ l) (reverse-append rest (x ∷ []))) in
    let both = most-append size taken (x ∷ reverse rest) in
    let first = most-append size (x ∷ []) (reverse rest) in
    omega (arith, e, both, first)

turned : {A : Type 0} (taken rest : List A) (x : A) → taken ++ reverse (rest ++ x ∷ []) ≡ (taken ++ x ∷ []) ++ reverse rest
turned taken rest x = ap (λ l. taken ++ l) (reverse-append rest (x ∷ [])) ∙ sym (append_assoc taken (x ∷ []) (reverse rest))

pub record RangesLeft (all left : List Plan) (old now : List Held) (done : List Plan) : Type 0 where
  pub taken : List Plan
  pub whole : taken ++ reverse left ≡ all
  pub same : SameRanges old taken done now

pub no_ranges : (all left : List Plan) (old : List Held) → left ≡ reverse all → RangesLeft all left old old []
no_ranges all left old is = record {
  taken = [];
  whole = ap reverse is ∙ reverse-reverse all;
  same = refl;
}

pub range_next : (all left rest : List Plan) (old mid now now' : List Held) (done done' : List Plan) (p q : Plan) →
    RangesLeft all left old now done → left ≡ rest ++ p ∷ [] → GivesSame now p q → mid ≡ now →
    (held : Held) → IsHeld mid held q → now' ≡ mid ++ each_of held ∷ [] → done' ≡ done ++ q ∷ [] → RangesLeft all rest old now' done'
range_next all left rest old mid now now' done done' p q h cut is kept held as' bound pushed = record {
  taken = h.taken ++ p ∷ [];
  whole = sym (turned h.taken rest p) ∙ ap (λ l. h.taken ++ reverse l) (sym cut) ∙ h.whole;
  same =
      subst (λ (l : List Plan). SameRanges old (h.taken ++ p ∷ []) l now') (sym pushed)
      (subst (SameRanges old (h.taken ++ p ∷ []) (done ++ q ∷ [])) (sym (bound ∙ ap (λ k. k ++ each_of held ∷ []) kept))
      (ranges_push old now held h.taken done p q h.same is (held_of_same now held p q is (subst (λ k. IsHeld k held q) kept as'))));
}

pub ranges_done : (all left : List Plan) (old now : List Held) (done : List Plan) → RangesLeft all left old now done →
    left ≡ [] → SameRanges old all done now
ranges_done all left old now done h none =
    subst (λ (l : List Plan). SameRanges old l done now) (sym (append-nil h.taken) ∙ ap (λ l. h.taken ++ reverse l) (sym none) ∙ h.whole) h.same

-- # What is bound

pub extends_itself : (start : ℕ) (old : List Held) → start ≤ length old → Extends start old old
extends_itself start old h = record { outer = refl; within = h }

pub extends_more : (start : ℕ) (old new more : List Held) → start ≤ length old → new ≡ old ++ more →
    Extends start old new
extends_more start old new more h is =
    let long : length new ≡ length old + length more = ap length is ∙ length-append old more in
    record {
      outer = ap (take start) is ∙ take-append-le start old more h;
      within = omega (arith, long, h);
    }

pub extends_then : (start : ℕ) (old mid new : List Held) → Extends start old mid → Extends start mid new →
    Extends start old new
extends_then start old mid new h k = record { outer = k.outer ∙ h.outer; within = k.within }

pub extends_bound : (start : ℕ) (old mid new : List Held) (held : Held) (at : Bool) → start ≤ length old → mid ≡ old →
    new ≡ mid ++ with_position held at → Extends start old new
extends_bound start old mid new held at h kept bound =
    extends_more start old new (with_position held at) h (bound ∙ ap (λ k. k ++ with_position held at) kept)

pub for_adds : (start : ℕ) (old mid new : List Held) (empties : AllowingEmpty) (at : Bool) (p q : Plan) (before after : List PlanClause) →
    GivesSame old p q → mid ≡ old → (held : Held) → IsHeld mid held q → new ≡ mid ++ with_position (each_of held) at → after ≡ before ++ clause.For empties at q ∷ [] →
    AddsClauses start old (clause.For empties at p) before after new
for_adds start old mid new empties at p q before after is kept held as' bound pushed = (
  clause.For empties at q ∷ [],
  pushed,
  one_follows start old new (clause.For empties at p) (clause.For empties at q)
      (subst (SameClause start old (clause.For empties at p) (clause.For empties at q)) (sym (bound ∙ ap (λ k. k ++ with_position (each_of held) at) kept))
      (for_follows start old empties at held p q is (held_of_same old held p q is (subst (λ k. IsHeld k held q) kept as')))),
)

pub let_adds : (start : ℕ) (old mid new : List Held) (p q : Plan) (before after : List PlanClause) →
    GivesSame old p q → mid ≡ old → (held : Held) → IsHeld mid held q → new ≡ mid ++ held ∷ [] → after ≡ before ++ clause.Let q ∷ [] →
    AddsClauses start old (clause.Let p) before after new
let_adds start old mid new p q before after is kept held as' bound pushed = (
  clause.Let q ∷ [],
  pushed,
  one_follows start old new (clause.Let p) (clause.Let q)
      (subst (SameClause start old (clause.Let p) (clause.Let q)) (sym (bound ∙ ap (λ k. k ++ held ∷ []) kept))
      (let_follows start old held p q is (held_of_same old held p q is (subst (λ k. IsHeld k held q) kept as')))),
)

pub tests_add : (start : ℕ) (old mid : List Held) (p q : Plan) (before after : List PlanClause) →
    GivesSame old p q → mid ≡ old → AddsTests mid q before after → AddsClauses start old (clause.Where p) before after mid
tests_add start old mid p q before after is kept (ds, added, many) =
    subst (λ k. AddsClauses start old (clause.Where p) before after k) (sym kept)
    (ds, added, tests_follow start old p q ds is (subst (λ k. SameMany start k (clause.Where q) ds k) kept (many start)))

pub order_adds : (start : ℕ) (old mid : List Held) (xs ys : List (Plan × OrderModifier)) (before after : List PlanClause) →
    AreAll (SameKey old) xs ys → mid ≡ old → after ≡ before ++ clause.Order ys ∷ [] →
    AddsClauses start old (clause.Order xs) before after mid
order_adds start old mid xs ys before after all kept pushed =
    subst (λ k. AddsClauses start old (clause.Order xs) before after k) (sym kept)
    (clause.Order ys ∷ [], pushed, one_follows start old old (clause.Order xs) (clause.Order ys) (order_follows start old xs ys all))

pub count_adds : (start : ℕ) (old new : List Held) (before after : List PlanClause) → new ≡ old ++ Anything ∷ [] →
    after ≡ before ++ clause.Count ∷ [] → AddsClauses start old clause.Count before after new
count_adds start old new before after bound pushed =
    subst (λ k. AddsClauses start old clause.Count before after k) (sym bound)
    (clause.Count ∷ [], pushed, one_follows start old (old ++ Anything ∷ []) clause.Count clause.Count (count_follows start old))

pub group_adds : (start : ℕ) (old new : List Held) (numbers : List ℕ) (before after : List PlanClause) → new ≡ forgotten start old →
    after ≡ before ++ clause.Group numbers ∷ [] → AddsClauses start old (clause.Group numbers) before after new
group_adds start old new numbers before after bound pushed =
    subst (λ k. AddsClauses start old (clause.Group numbers) before after k) (sym bound)
    (clause.Group numbers ∷ [], pushed, one_follows start old (forgotten start old) (clause.Group numbers) (clause.Group numbers) (group_follows start old numbers))

pub refused_adds : (start : ℕ) (old : List Held) (code : Code) (before after : List PlanClause) →
    after ≡ before ++ clause.Refused code ∷ [] → AddsClauses start old (clause.Refused code) before after old
refused_adds start old code before after pushed =
    (clause.Refused code ∷ [], pushed, one_follows start old old (clause.Refused code) (clause.Refused code) (refused_follows start old code))

-- a clause whose form is known
pub adds_at : (start : ℕ) (old : List Held) (c d : PlanClause) (before after : List PlanClause) (new : List Held) → c ≡ d →
    AddsClauses start old d before after new → AddsClauses start old c before after new
adds_at start old c d before after new is h = subst (λ x. AddsClauses start old x before after new) (sym is) h

-- # Clauses

-- what the clauses so far and those that are left give is what all give
pub record Leads (all left : List PlanClause) (now : List Held) (slots : Slots) (frame : Frame)
    (tuples : List (Tuple Item)) (trees : List Tree) (done : List PlanClause) : Type 0 where
  pub same : in_turn (next_clause frame) tuples (map plan_clause_mean all) trees
      ≡ go_on (in_turn (next_clause frame) tuples (map plan_clause_mean done) trees)
      (λ n. in_turn (next_clause frame) n (map plan_clause_mean (reverse left)))
  pub fits : GivesFitting now slots (in_turn (next_clause frame) tuples (map plan_clause_mean done) trees)

pub record ClausesLeft (all left : List PlanClause) (start : ℕ) (old now : List Held) (done : List PlanClause) : Type 0 where
  pub taken : List PlanClause
  pub whole : taken ++ reverse left ≡ all
  pub outer : Extends start old now
  pub leads : (slots : Slots) (focus : Option Focus) (addresses : List Text) → length slots ≡ start →
      (tuples : List (Tuple Item)) (trees : List Tree) → AllFit old slots tuples →
      Leads all left now slots (frame_of slots focus addresses) tuples trees done

pub no_clauses : (all left : List PlanClause) (start : ℕ) (old : List Held) (done : List PlanClause) → start ≤ length old → left ≡ reverse all →
    done ≡ [] → ClausesLeft all left start old old done
no_clauses all left start old done h is none = record {
  taken = [];
  whole = ap reverse is ∙ reverse-reverse all;
  outer = extends_itself start old h;
  leads = λ slots focus addresses l tuples trees w.
      let frame = frame_of slots focus addresses in
      subst (Leads all left old slots frame tuples trees) (sym none)
      (record {
        same = ap (λ cs. in_turn (next_clause frame) tuples (map plan_clause_mean cs) trees) (sym (ap reverse is ∙ reverse-reverse all));
        fits = w;
      });
}

module _ (now last : List Held) (slots : Slots) (k l : List (Tuple Item) → Doing (List (Tuple Item)))
    (h : (tuples : List (Tuple Item)) (f : List Tree) → AllFit now slots tuples → Follows last slots (k tuples f) (l tuples f)) where
  step_same : (o : Outcome (List (Tuple Item))) → GivesFitting now slots o → go_on o k ≡ go_on o l
  step_same (Ok tuples, f) w = sym (h tuples f w).same
  step_same (Err code, f) w = refl

  step_fits : (o : Outcome (List (Tuple Item))) → GivesFitting now slots o → GivesFitting last slots (go_on o l)
  step_fits (Ok tuples, f) w =
      let next = h tuples f w in subst (GivesFitting last slots) (sym next.same) next.fits
  step_fits (Err code, f) w = tt

-- the next one, and what it becomes
pub leads_next : (all left rest : List PlanClause) (start : ℕ) (now now' : List Held) (done done' ds : List PlanClause) (c : PlanClause)
    (slots : Slots) (focus : Option Focus) (addresses : List Text) → length slots ≡ start → (tuples : List (Tuple Item)) (trees : List Tree) →
    Leads all left now slots (frame_of slots focus addresses) tuples trees done → left ≡ rest ++ c ∷ [] → SameMany start now c ds now' →
    done' ≡ done ++ ds → Leads all rest now' slots (frame_of slots focus addresses) tuples trees done'
leads_next all left rest start now now' done done' ds c slots focus addresses l tuples trees before cut is pushed =
    let frame = frame_of slots focus addresses in
    let act = next_clause frame in
    let o = in_turn act tuples (map plan_clause_mean done) trees in
    let next = is slots focus addresses l in
    let others = map plan_clause_mean (reverse rest) in
    let front : map plan_clause_mean (reverse left) ≡ plan_clause_mean c ∷ others = ap (λ cs. map plan_clause_mean (reverse cs)) cut ∙ ap (map plan_clause_mean) (reverse-append rest (c ∷ [])) in
    let grown : in_turn act tuples (map plan_clause_mean (done ++ ds)) trees ≡ go_on o (λ n. in_turn act n (map plan_clause_mean ds)) =
    ap (λ ms. in_turn act tuples ms trees) (map-append plan_clause_mean done ds) ∙ in_turn-append act tuples (map plan_clause_mean done) (map plan_clause_mean ds) trees in
    subst (Leads all rest now' slots frame tuples trees) (sym pushed)
    (record {
      same =
          before.same
          ∙ ap (λ ms. go_on o (λ n. in_turn act n ms)) front
          ∙ sym (go_on_go_on o (λ n. plan_clause_mean c frame n) (λ m. in_turn act m others))
          ∙ ap (λ p. go_on p (λ m. in_turn act m others))
          (step_same now now' slots (plan_clause_mean c frame) (λ n. in_turn act n (map plan_clause_mean ds)) next o before.fits ∙ sym grown);
      fits = subst (GivesFitting now' slots) (sym grown) (step_fits now now' slots (plan_clause_mean c frame) (λ n. in_turn act n (map plan_clause_mean ds)) next o before.fits);
    })

pub clause_next : (all left rest : List PlanClause) (start : ℕ) (old now now' : List Held) (done done' ds : List PlanClause) (c : PlanClause) →
    ClausesLeft all left start old now done → left ≡ rest ++ c ∷ [] → SameMany start now c ds now' → Extends start now now' →
    done' ≡ done ++ ds → ClausesLeft all rest start old now' done'
clause_next all left rest start old now now' done done' ds c h cut is more pushed = record {
  taken = h.taken ++ c ∷ [];
  whole = sym (turned h.taken rest c) ∙ ap (λ l. h.taken ++ reverse l) (sym cut) ∙ h.whole;
  outer = extends_then start old now now' h.outer more;
  leads = λ slots focus addresses l tuples trees w.
      leads_next all left rest start now now' done done' ds c slots focus addresses l tuples trees (h.leads slots focus addresses l tuples trees w) cut is pushed;
}

-- the same of what a clause becomes
pub clause_added : (all left rest : List PlanClause) (start : ℕ) (old now now' : List Held) (done done' : List PlanClause) (c : PlanClause) →
    ClausesLeft all left start old now done → left ≡ rest ++ c ∷ [] → AddsClauses start now c done done' now' → Extends start now now' →
    ClausesLeft all rest start old now' done'
clause_added all left rest start old now now' done done' c h cut (ds, pushed, is) more =
    clause_next all left rest start old now now' done done' ds c h cut is more pushed

pub clauses_done : (all left : List PlanClause) (start : ℕ) (old now : List Held) (done : List PlanClause) →
    ClausesLeft all left start old now done → left ≡ [] → SameClauses start old all done now
clauses_done all left start old now done h none slots focus addresses l tuples trees w =
    let frame = frame_of slots focus addresses in
    let act = next_clause frame in
    let o = in_turn act tuples (map plan_clause_mean done) trees in
    let before = h.leads slots focus addresses l tuples trees w in
    let same : in_turn act tuples (map plan_clause_mean all) trees ≡ o =
    before.same ∙ ap (λ (cs : List PlanClause). go_on o (λ n. in_turn act n (map plan_clause_mean (reverse cs)))) none ∙ go_on_give o in
    record { same = sym same; fits = subst (GivesFitting now slots) (sym same) before.fits }

-- # Scopes

-- what was known stays before what the ranges add
pub ranges_more : (known : List Held) (ps qs : List Plan) (last : List Held) → SameRanges known ps qs last →
    (more : List Held) × (last ≡ known ++ more)
ranges_more known [] [] last h = ([], h ∙ sym (append-nil known))
ranges_more known [] (q ∷ qs) last h = absurd h
ranges_more known (p ∷ ps) [] last h = absurd h
ranges_more known (p ∷ ps) (q ∷ qs) last (held, same, as', more) =
    let rest = ranges_more (known ++ each_of held ∷ []) ps qs last more in
    (each_of held ∷ rest.0, rest.1 ∙ append_assoc known (each_of held ∷ []) rest.0)

-- a scope that is left
pub scope_left : (start : ℕ) (old now last new : List Held) → start ≡ length old → take start now ≡ take start old →
    last ≡ now → new ≡ take start last → new ≡ old
scope_left start old now last new is more kept left =
    left ∙ ap (take start) kept ∙ more ∙ take_all start old (omega (arith, is))

-- the slots of a FLWOR are forgotten behind its return
pub scope_kept : (start : ℕ) (old now last new : List Held) → start ≡ length old → take start now ≡ take start old →
    take start last ≡ take start now → new ≡ take start last → new ≡ old
scope_kept start old now last new is more kept left =
    left ∙ kept ∙ more ∙ take_all start old (omega (arith, is))

pub ranges_left : (start : ℕ) (old now last new : List Held) (ps qs : List Plan) → start ≡ length old →
    SameRanges old ps qs now → last ≡ now → new ≡ take start last → new ≡ old
ranges_left start old now last new ps qs is all kept left =
    let more = ranges_more old ps qs now all in
    scope_left start old now last new is
    (ap (take start) more.1 ∙ take-append-le start old more.0 (omega (arith, is))) kept left
