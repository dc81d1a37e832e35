-- A conjunction in a predicate on nodes is as many predicates.
use Rattle.std.proofs.Common.{◌≡◌, ℕ, suc, ◌*◌, ◌<◌, List, [], ◌∷◌, ◌++◌, map, reverse, length, Bool, true, false, Ok, Err, refl, sym, ap, ◌∙◌, subst, arith}
use Rattle.std.specs.Prelude.{ℤ, pos, Option, Some, ◌&&◌, ◌<ℤ◌}
use Rattle.std.specs.declared.cmp.Ordering.{Ordering}
use Rattle.std.specs.declared.cmp.Ordering.TheVariants.{Less, Equal, Greater}
use Rattle.std.specs.Ordering.{MatchOrdering, int_cmp}
use Rattle.std.specs.Cmp.{int_ranks, int_cmp_is}
use Rattle.std.specs.Int.Signed.{lt_z_yes}
use Rattle.std.specs.List.{AllByRecursion}
use Rattle.std.proofs.lemmas.Bool.{false≢true}
use Rattle.std.proofs.lemmas.Cmp.{int_cmp_total}
use Rattle.std.proofs.Math.Facts.{yes_ltb}
use Rattle.std.proofs.lemmas.List.{append_assoc, append-nil, map-append, reverse-append, reverse-reverse}
use Rattle.xq_atoms.specs.Compare.{holds}
use Rattle.xq_atoms.specs.Decimal.{in_millionths}
use Rattle.xq_atoms.specs.Judged.{Judged}
use Rattle.xq_atoms.specs.Text.{Text}
use Rattle.xq_expressions.specs.declared.operators.Relation.{Relation}
use Rattle.xq_expressions.specs.declared.operators.Relation.TheVariants as relation
use Rattle.xq_trees.specs.declared.Axis.{Axis}
use Rattle.xq_trees.specs.Tree.{Tree}
use Rattle.xq_trees.proofs.Lists.{all_append}
use Rattle.xq_meaning.specs.declared.node_tests.Test.{Test}
use Rattle.xq_meaning.specs.declared.plans.Plan.{Plan}
use Rattle.xq_meaning.specs.declared.plans.Plan.TheVariants as plan
use Rattle.xq_meaning.specs.Arguments.{effective}
use Rattle.xq_meaning.specs.Doing.{Doing, Outcome, go_on, give, judged, in_turn, more}
use Rattle.xq_meaning.specs.Forms
use Rattle.xq_meaning.specs.Functions.{Focus}
use Rattle.xq_meaning.specs.Items.{Item, Node, Place}
use Rattle.xq_meaning.specs.Operators.{keeps, related_by}
use Rattle.xq_meaning.specs.PlanMeaning.{Slots, Frame, Meaning, plan_mean}
use Rattle.xq_meaning.specs.Same.{frame_of}
use Rattle.xq_meaning.specs.Steps.{focuses_from, context_node, axis_nodes, in_axis_order}
use Rattle.xq_meaning.proofs.PlanEquations as plan_eq
use Rattle.xq_meaning.proofs.SameForms.{go_on_same}
use Rattle.xq_meaning.proofs.Turns.{in_turn-append}
use Rattle.xq_optimise.specs.declared.held.Held.{Held}
use Rattle.xq_optimise.specs.declared.held.Held.TheVariants.{Nodes}
use Rattle.xq_optimise.specs.Known.{Fits}
use Rattle.xq_optimise.specs.Same.{GivesSame}
use Rattle.xq_optimise.specs.Sure.{on_node, KeepsBy, SurelyDecides, SurelyKeeps, KeepsFirst, SamePredicates}
use Rattle.xq_optimise.specs.private.Conjuncts.{as_one, kept_from, AllHold, KeepTrue, Stands, Parted}
use Rattle.xq_optimise.specs.private.Parts.{GivesHeld, IsHeld, AddsPredicates}
use Rattle.xq_optimise.specs.private.Positions.{TestsPosition}
use Rattle.xq_optimise.proofs.Forms.{by_form}
use Rattle.xq_optimise.proofs.Keeping.{true_alike, nothing_told, one_told, free_behind, first_ahead, none_hold, and_keeps, one_holds, free_after}
use Rattle.xq_optimise.proofs.PositionTests.{answer, position_gives}

-- # Comparisons of the position

position_decides : (by : Relation) (n : ℤ) (p : Plan) → TestsPosition by n p → (slots : Slots) (addresses : List Text) (trees : List Tree) →
    KeepsBy slots addresses trees (plan_mean p) (λ q i. answer by (pos i) n)
position_decides by n p h slots addresses trees q position last =
    let given = sym (h slots (Some (on_node q position last)) addresses trees) ∙ position_gives by n slots addresses trees q position last in (
      ap (λ o. go_on o (λ xs. judged (effective xs))) given,
      ap (λ o. go_on o (λ xs. judged (keeps position xs))) given,
    )

pub position_sure : (known : List Held) (by : Relation) (n : ℤ) (p : Plan) → TestsPosition by n p → SurelyDecides known p
position_sure known by n p h slots addresses trees fits =
    ((λ q i. answer by (pos i) n), position_decides by n p h slots addresses trees)

-- a number below one that is below another, or no greater
below_both : (a b c : ℤ) (o : Ordering) → int_cmp a b ≡ Less → int_cmp b c ≡ o → MatchOrdering o (b <ℤ c) (b ≡ c) (c <ℤ b) → (o ≡ Greater → ⊥) →
    int_cmp a c ≡ Less
below_both a b c Less below is h never = int_cmp_total.trans a b c below is
below_both a b c Equal below is h never = subst (λ d. int_cmp a d ≡ Less) h below
below_both a b c Greater below is h never = absurd (never refl)

next_below : (i : ℕ) → int_cmp (in_millionths (pos i)) (in_millionths (pos (suc i))) ≡ Less
next_below i =
    let counted : i * 1000000 < suc i * 1000000 = omega arith in
    sym (int_cmp_is (in_millionths (pos i)) (in_millionths (pos (suc i))) Less (lt_z_yes {a = pos (i * 1000000)} {b = pos (suc i * 1000000)} (yes_ltb counted)))

-- what holds at a position holds at the one before it
pub less_falls : (n : ℤ) (i : ℕ) → answer relation.Less (pos (suc i)) n ≡ true → answer relation.Less (pos i) n ≡ true
less_falls n i on' =
    let b = in_millionths (pos (suc i)) in
    let c = in_millionths n in
    ap (holds (related_by relation.Less)) (below_both (in_millionths (pos i)) b c (int_cmp b c) (next_below i) refl (int_ranks b c) (λ e. false≢true (sym (ap (holds (related_by relation.Less)) e) ∙ on')))

pub less_equal_falls : (n : ℤ) (i : ℕ) → answer relation.LessEqual (pos (suc i)) n ≡ true → answer relation.LessEqual (pos i) n ≡ true
less_equal_falls n i on' =
    let b = in_millionths (pos (suc i)) in
    let c = in_millionths n in
    ap (holds (related_by relation.LessEqual)) (below_both (in_millionths (pos i)) b c (int_cmp b c) (next_below i) refl (int_ranks b c) (λ e. false≢true (sym (ap (holds (related_by relation.LessEqual)) e) ∙ on')))

pub less_first : (known : List Held) (n : ℤ) (p : Plan) → TestsPosition relation.Less n p → KeepsFirst known p
less_first known n p h slots addresses trees fits =
    ((λ i. answer relation.Less (pos i) n), less_falls n, position_decides relation.Less n p h slots addresses trees)

pub less_equal_first : (known : List Held) (n : ℤ) (p : Plan) → TestsPosition relation.LessEqual n p → KeepsFirst known p
less_equal_first known n p h slots addresses trees fits =
    ((λ i. answer relation.LessEqual (pos i) n), less_equal_falls n, position_decides relation.LessEqual n p h slots addresses trees)

pub keeps_decides : (known : List Held) (p : Plan) → SurelyKeeps known p → SurelyDecides known p
keeps_decides known p h slots addresses trees fits =
    let told = h slots addresses trees fits in ((λ q i. told.0 q), told.1)

-- # Truths

and_same : (a b c : Bool) → ((a && b) && c) ≡ (a && (b && c))
and_same true b c = refl
and_same false b c = refl

and_turned : (a b : Bool) → (a && b) ≡ (b && a)
and_turned true true = refl
and_turned true false = refl
and_turned false true = refl
and_turned false false = refl

early_more : (a x e : Bool) → ((a && x) && e) ≡ ((a && e) && x)
early_more a x e = and_same a x e ∙ ap (λ y. a && y) (and_turned x e) ∙ sym (and_same a e x)

placed_more : (a b c e : Bool) → ((a && (b && c)) && e) ≡ (a && ((b && e) && c))
placed_more a b c e = and_same a (b && c) e ∙ ap (λ y. a && y) (early_more b c e)

free_more : (a b c e : Bool) → ((a && (b && c)) && e) ≡ (a && (b && (c && e)))
free_more a b c e = and_same a (b && c) e ∙ ap (λ y. a && y) (and_same b c e)

ok_same : (a b : Bool) → (let first : Judged Bool = Ok a in first) ≡ Ok b → a ≡ b
ok_same a b e = cc

-- # One conjunct after another

module _ (slots : Slots) (addresses : List Text) (f : List Tree) where
  hold_alike : (ps : List Plan) (t u : Place → ℕ → Bool) → ((q : Place) (i : ℕ) → t q i ≡ u q i) → AllHold slots addresses f ps t → AllHold slots addresses f ps u
  hold_alike ps t u h k q position last = k q position last ∙ ap (λ b. (Ok b, f)) (h q position)

  pub none_stand : Stands slots addresses f [] [] [] []
  none_stand = record {
    early = λ q i. true;
    placed = λ q i. true;
    free = λ q. true;
    whole = none_hold slots addresses f;
    firsts = λ more truth h. h;
    places = none_hold slots addresses f;
    frees = nothing_told slots addresses f;
  }

  pub first_stands : (taken first position tests : List Plan) (p : Plan) (e : ℕ → Bool) → ((i : ℕ) → e (suc i) ≡ true → e i ≡ true) →
      KeepsBy slots addresses f (plan_mean p) (λ q i. e i) → Stands slots addresses f taken first position tests →
      Stands slots addresses f (taken ++ p ∷ []) (first ++ p ∷ []) position tests
  first_stands taken first position tests p e closed h s = record {
    early = λ q i. s.early q i && e i;
    placed = s.placed;
    free = s.free;
    whole = hold_alike (taken ++ p ∷ []) (λ q i. (s.early q i && (s.placed q i && s.free q)) && e i) (λ q i. (s.early q i && e i) && (s.placed q i && s.free q))
        (λ q i. early_more (s.early q i) (s.placed q i && s.free q) (e i))
        (one_holds slots addresses f taken p (λ q i. s.early q i && (s.placed q i && s.free q)) (λ q i. e i) s.whole h);
    firsts = λ more truth k.
        subst (λ ps. KeepTrue slots addresses f ps (λ q i. (s.early q i && e i) && truth q i)) (sym (append_assoc first (p ∷ []) more))
        (true_alike slots addresses f (first ++ p ∷ more) (λ q i. s.early q i && (e i && truth q i)) (λ q i. (s.early q i && e i) && truth q i)
        (λ q i. sym (and_same (s.early q i) (e i) (truth q i)))
        (s.firsts (p ∷ more) (λ q i. e i && truth q i) (first_ahead slots addresses f p e closed h more truth k)));
    places = s.places;
    frees = s.frees;
  }

  pub position_stands : (taken first position tests : List Plan) (p : Plan) (t : Place → ℕ → Bool) →
      KeepsBy slots addresses f (plan_mean p) t → Stands slots addresses f taken first position tests →
      Stands slots addresses f (taken ++ p ∷ []) first (position ++ p ∷ []) tests
  position_stands taken first position tests p t h s = record {
    early = s.early;
    placed = λ q i. s.placed q i && t q i;
    free = s.free;
    whole = hold_alike (taken ++ p ∷ []) (λ q i. (s.early q i && (s.placed q i && s.free q)) && t q i) (λ q i. s.early q i && ((s.placed q i && t q i) && s.free q))
        (λ q i. placed_more (s.early q i) (s.placed q i) (s.free q) (t q i))
        (one_holds slots addresses f taken p (λ q i. s.early q i && (s.placed q i && s.free q)) t s.whole h);
    firsts = s.firsts;
    places = one_holds slots addresses f position p s.placed t s.places h;
    frees = s.frees;
  }

  pub test_stands : (taken first position tests : List Plan) (p : Plan) (t : Place → Bool) →
      KeepsBy slots addresses f (plan_mean p) (λ q i. t q) → Stands slots addresses f taken first position tests →
      Stands slots addresses f (taken ++ p ∷ []) first position (tests ++ p ∷ [])
  test_stands taken first position tests p t h s = record {
    early = s.early;
    placed = s.placed;
    free = λ q. s.free q && t q;
    whole = hold_alike (taken ++ p ∷ []) (λ q i. (s.early q i && (s.placed q i && s.free q)) && t q) (λ q i. s.early q i && (s.placed q i && (s.free q && t q)))
        (λ q i. free_more (s.early q i) (s.placed q i) (s.free q) (t q))
        (one_holds slots addresses f taken p (λ q i. s.early q i && (s.placed q i && s.free q)) (λ q i. t q) s.whole h);
    firsts = s.firsts;
    places = s.places;
    frees = λ focus places.
        let act = Forms.filtered (frame_of slots focus addresses) in
        ap (λ ms. in_turn act (map Node places) ms f) (map-append plan_mean tests (p ∷ []))
        ∙ in_turn-append act (map Node places) (map plan_mean tests) (plan_mean p ∷ []) f
        ∙ ap (λ o. go_on o (λ xs. in_turn act xs (plan_mean p ∷ []))) (s.frees focus places)
        ∙ one_told slots addresses f p (λ q i. t q) h focus (kept_from (λ q i. s.free q) 1 places)
        ∙ ap (λ l. (Ok (map Node l), f)) (sym (free_after (λ q i. s.free q) t 1 places 1));
  }

  -- # All of them

  truths_same : (a b : Bool) → (let first : Outcome Bool = (Ok a, f) in first) ≡ (Ok b, f) → a ≡ b
  truths_same a b e = ok_same a b (ap (λ o. o.0) e)

  one_behind : (position tests : List Plan) (placed : Place → ℕ → Bool) (free : Place → Bool) → AllByRecursion (λ p. (t : Place → ℕ → Bool) × KeepsBy slots addresses f (plan_mean p) t) position →
      AllHold slots addresses f position placed → KeepTrue slots addresses f tests (λ q i. free q) →
      KeepTrue slots addresses f (as_one position ++ tests) (λ q i. placed q i && free q)
  one_behind [] tests placed free all h k =
      true_alike slots addresses f tests (λ q i. free q) (λ q i. placed q i && free q)
      (λ q i. ap (λ b. b && free q) (truths_same true (placed q i) (h q i 1))) k
  one_behind (p ∷ []) tests placed free all h k =
      true_alike slots addresses f (p ∷ tests) (λ q i. all.0.0 q i && free q) (λ q i. placed q i && free q)
      (λ q i. ap (λ b. b && free q) (truths_same (all.0.0 q i) (placed q i)
      (sym (one_holds slots addresses f [] p (λ r j. true) all.0.0 (none_hold slots addresses f) all.0.1 q i 1) ∙ h q i 1)))
      (free_behind slots addresses f p all.0.0 all.0.1 tests free k)
  one_behind (p ∷ r ∷ ps) tests placed free all h k =
      free_behind slots addresses f (plan.And (p ∷ r ∷ ps)) placed (and_keeps slots addresses f (p ∷ r ∷ ps) placed h) tests free k

  pub stand_together : (taken first position tests : List Plan) → AllByRecursion (λ p. (t : Place → ℕ → Bool) × KeepsBy slots addresses f (plan_mean p) t) position →
      (s : Stands slots addresses f taken first position tests) (focus : Option Focus) (places : List Place) →
      in_turn (Forms.filtered (frame_of slots focus addresses)) (map Node places) (map plan_mean (first ++ (as_one position ++ tests))) f
      ≡ in_turn (Forms.filtered (frame_of slots focus addresses)) (map Node places) (map plan_mean (plan.And taken ∷ [])) f
  stand_together taken first position tests all s focus places =
      s.firsts (as_one position ++ tests) (λ q i. s.placed q i && s.free q) (one_behind position tests s.placed s.free all s.places s.frees) focus places
      ∙ sym (one_told slots addresses f (plan.And taken) (λ q i. s.early q i && (s.placed q i && s.free q))
      (and_keeps slots addresses f taken (λ q i. s.early q i && (s.placed q i && s.free q)) s.whole) focus places)

-- # Whatever the slots hold

sure_here : (known : List Held) (slots : Slots) (addresses : List Text) (f : List Tree) → Fits known slots → (ps : List Plan) →
    AllByRecursion (SurelyDecides known) ps → AllByRecursion (λ p. (t : Place → ℕ → Bool) × KeepsBy slots addresses f (plan_mean p) t) ps
sure_here known slots addresses f fits [] all = tt
sure_here known slots addresses f fits (p ∷ ps) all = (all.0 slots addresses f fits, sure_here known slots addresses f fits ps all.1)

pub none_parted : (known : List Held) (first position tests : List Plan) → first ≡ [] → position ≡ [] → tests ≡ [] →
    Parted known [] first position tests
none_parted known first position tests a b c =
    subst (λ l. Parted known [] l position tests) (sym a)
    (subst (λ l. Parted known [] [] l tests) (sym b)
    (subst (λ l. Parted known [] [] [] l) (sym c)
    (record { sure = tt; stand = λ slots addresses trees fits. none_stand slots addresses trees })))

pub first_parted : (known : List Held) (taken first position tests first' : List Plan) (p : Plan) → KeepsFirst known p → first' ≡ first ++ p ∷ [] →
    Parted known taken first position tests → Parted known (taken ++ p ∷ []) first' position tests
first_parted known taken first position tests first' p h pushed parted =
    subst (λ l. Parted known (taken ++ p ∷ []) l position tests) (sym pushed)
    (record {
      sure = parted.sure;
      stand = λ slots addresses trees fits.
          let told = h slots addresses trees fits in
          first_stands slots addresses trees taken first position tests p told.0 told.1 told.2 (parted.stand slots addresses trees fits);
    })

pub position_parted : (known : List Held) (taken first position tests position' : List Plan) (p : Plan) → SurelyDecides known p → position' ≡ position ++ p ∷ [] →
    Parted known taken first position tests → Parted known (taken ++ p ∷ []) first position' tests
position_parted known taken first position tests position' p h pushed parted =
    subst (λ l. Parted known (taken ++ p ∷ []) first l tests) (sym pushed)
    (record {
      sure = all_append (SurelyDecides known) position (p ∷ []) parted.sure (h, tt);
      stand = λ slots addresses trees fits.
          let told = h slots addresses trees fits in
          position_stands slots addresses trees taken first position tests p told.0 told.1 (parted.stand slots addresses trees fits);
    })

pub test_parted : (known : List Held) (taken first position tests tests' : List Plan) (p : Plan) → SurelyKeeps known p → tests' ≡ tests ++ p ∷ [] →
    Parted known taken first position tests → Parted known (taken ++ p ∷ []) first position tests'
test_parted known taken first position tests tests' p h pushed parted =
    subst (λ l. Parted known (taken ++ p ∷ []) first position l) (sym pushed)
    (record {
      sure = parted.sure;
      stand = λ slots addresses trees fits.
          let told = h slots addresses trees fits in
          test_stands slots addresses trees taken first position tests p told.0 told.1 (parted.stand slots addresses trees fits);
    })

pub parts_splice : (known : List Held) (taken first position tests before mid next after : List Plan) → Parted known taken first position tests →
    mid ≡ before ++ first → next ≡ mid ++ as_one position → after ≡ next ++ tests → AddsPredicates known (plan.And taken) before after
parts_splice known taken first position tests before mid next after parted a b c = (
  first ++ (as_one position ++ tests),
  c ∙ ap (λ l. l ++ tests) (b ∙ ap (λ l. l ++ as_one position) a)
      ∙ append_assoc (before ++ first) (as_one position) tests ∙ append_assoc before first (as_one position ++ tests),
  λ slots focus addresses fits places trees.
      stand_together slots addresses trees taken first position tests (sure_here known slots addresses trees fits position parted.sure) (parted.stand slots addresses trees fits) focus places,
)

-- # Lists of predicates

pub same_itself : (known : List Held) (ps : List Plan) → SamePredicates known ps ps
same_itself known ps slots focus addresses fits places trees = refl

pub one_stays : (known : List Held) (p : Plan) (before after : List Plan) → after ≡ before ++ p ∷ [] → AddsPredicates known p before after
one_stays known p before after added = (p ∷ [], added, same_itself known (p ∷ []))

-- what predicates keep of nodes are nodes

kept_nodes : (p : Place) (b : Bool) → (ps : List Place) × (Forms.kept_if (Node p) b ≡ map Node ps)
kept_nodes p true = (p ∷ [], refl)
kept_nodes p false = ([], refl)

abbrev HasNodes : Outcome (List Item) → Type 0
HasNodes o = GivesHeld Nodes o

passed_more : (p : Place) (ps : List Place) (k : List Item → Doing (List Item)) (position : ℕ) →
    ((qs : List Place) (g : List Tree) → HasNodes (k (map Node qs) g)) → (o : Outcome (List Item)) →
    HasNodes (go_on (go_on (go_on o (λ value. λ g. go_on (judged (keeps position value) g) (λ keep. give (Forms.kept_if (Node p) keep)))) (λ ys. give (map Node ps ++ ys))) k)
passed_more p ps k position next (Ok value, g) = by_answer (keeps position value)
  where
    by_answer : (r : Judged Bool) → HasNodes (go_on (go_on (go_on (judged r g) (λ keep. give (Forms.kept_if (Node p) keep))) (λ ys. give (map Node ps ++ ys))) k)
    by_answer (Ok keep) =
        let kept = kept_nodes p keep in
        subst (λ ys. HasNodes (k ys g)) (map-append Node ps kept.0 ∙ ap (λ ys. map Node ps ++ ys) (sym kept.1)) (next (ps ++ kept.0) g)
    by_answer (Err code) = tt
passed_more p ps k position next (Err code, g) = tt

module _ (slots : Slots) (focus : Option Focus) (addresses : List Text) where
  abbrev frame : Frame
  frame = frame_of slots focus addresses

  filtered_nodes : (m : Meaning) (done ps : List Place) (position last : ℕ) (f : List Tree) →
      HasNodes (in_turn (more (Forms.passed m frame)) (map Node done) (focuses_from position last (map Node ps)) f)
  filtered_nodes m done [] position last f = (done, refl)
  filtered_nodes m done (p ∷ ps) position last f =
      passed_more p done (λ n. in_turn (more (Forms.passed m frame)) n (focuses_from (suc position) last (map Node ps))) position
      (λ qs g. filtered_nodes m qs ps (suc position) last g)
      (m (frame_of slots (Some (on_node p position last)) addresses) f)

  then_held : (o : Outcome (List Item)) (k : List Item → Doing (List Item)) → HasNodes o →
      ((ps : List Place) (f : List Tree) → HasNodes (k (map Node ps) f)) → HasNodes (go_on o k)
  then_held (Ok xs, f) k (ps, is) h = subst (λ ys. HasNodes (k ys f)) (sym is) (h ps f)
  then_held (Err code, f) k next h = tt

  pub nodes_after : (ms : List Meaning) (ps : List Place) (f : List Tree) →
      HasNodes (in_turn (Forms.filtered frame) (map Node ps) ms f)
  nodes_after [] ps f = (ps, refl)
  nodes_after (m ∷ ms) ps f =
      then_held (Forms.filtered frame (map Node ps) m f) (λ xs. in_turn (Forms.filtered frame) xs ms)
      (filtered_nodes m [] ps 1 (length (map Node ps)) f) (λ qs g. nodes_after ms qs g)

-- what comes of nodes
then_nodes : (o : Outcome (List Item)) (k l : List Item → Doing (List Item)) → HasNodes o →
    ((ps : List Place) (f : List Tree) → k (map Node ps) f ≡ l (map Node ps) f) → go_on o k ≡ go_on o l
then_nodes (Ok xs, f) k l (ps, is) h = ap (λ ys. k ys f) is ∙ h ps f ∙ sym (ap (λ ys. l ys f) is)
then_nodes (Err code, f) k l h next = refl

same_after : (known : List Held) (ps qs later news : List Plan) → SamePredicates known ps qs → SamePredicates known later news →
    SamePredicates known (ps ++ later) (qs ++ news)
same_after known ps qs later news h k slots focus addresses fits places trees =
    let act = Forms.filtered (frame_of slots focus addresses) in
    let apart : (as' bs : List Plan) → in_turn act (map Node places) (map plan_mean (as' ++ bs)) trees
    ≡ go_on (in_turn act (map Node places) (map plan_mean as') trees) (λ xs. in_turn act xs (map plan_mean bs)) =
    λ as' bs. ap (λ ms. in_turn act (map Node places) ms trees) (map-append plan_mean as' bs)
    ∙ in_turn-append act (map Node places) (map plan_mean as') (map plan_mean bs) trees in
    apart qs news
    ∙ ap (λ o. go_on o (λ xs. in_turn act xs (map plan_mean news))) (h slots focus addresses fits places trees)
    ∙ then_nodes (in_turn act (map Node places) (map plan_mean ps) trees) (λ xs. in_turn act xs (map plan_mean news)) (λ xs. in_turn act xs (map plan_mean later))
    (nodes_after slots focus addresses (map plan_mean ps) places trees) (λ qs' f. k slots focus addresses fits qs' f)
    ∙ sym (apart ps later)

-- # Steps, and what is filtered

pub step_same_on : (known : List Held) (axis : Axis) (test : Test) (ps qs : List Plan) → SamePredicates known ps qs →
    GivesSame known (plan.Step axis test ps) (plan.Step axis test qs)
step_same_on known axis test ps qs same =
    by_form known (plan.Step axis test ps) (plan.Step axis test qs) _ _ (plan_eq.plan-Step axis test ps) (plan_eq.plan-Step axis test qs)
    (λ slots addresses fits focus f. go_on_same (judged (context_node focus) f) _ _ (λ p g.
    ap (λ o. go_on o (λ ys. give (in_axis_order axis ys))) (same slots focus addresses fits (in_axis_order axis (axis_nodes g axis test p)) g)))

pub filter_same_on : (known : List Held) (p : Plan) (ps qs : List Plan) → IsHeld known Nodes p → SamePredicates known ps qs →
    GivesSame known (plan.Filter p ps) (plan.Filter p qs)
filter_same_on known p ps qs held same slots focus addresses trees fits =
    let frame = frame_of slots focus addresses in
    ap (λ m. m frame trees) (plan_eq.plan-Filter p qs)
    ∙ then_nodes (plan_mean p frame trees) (λ xs. in_turn (Forms.filtered frame) xs (map plan_mean qs)) (λ xs. in_turn (Forms.filtered frame) xs (map plan_mean ps))
    (held slots focus addresses trees fits) (λ places f. same slots focus addresses fits places f)
    ∙ sym (ap (λ m. m frame trees) (plan_eq.plan-Filter p ps))

-- # Loops over the list turned round

turned : {A : Type 0} (taken rest : List A) (x : A) → taken ++ reverse (rest ++ x ∷ []) ≡ (taken ++ x ∷ []) ++ reverse rest
turned taken rest x = ap (λ l. taken ++ l) (reverse-append rest (x ∷ [])) ∙ sym (append_assoc taken (x ∷ []) (reverse rest))

pub record PredicatesLeft (known : List Held) (all left done : List Plan) : Type 0 where
  pub taken : List Plan
  pub whole : taken ++ reverse left ≡ all
  pub same : SamePredicates known taken done

pub no_predicates : (known : List Held) (all left done : List Plan) → left ≡ reverse all → done ≡ [] → PredicatesLeft known all left done
no_predicates known all left done is none = record {
  taken = [];
  whole = ap reverse is ∙ reverse-reverse all;
  same = subst (SamePredicates known []) (sym none) (same_itself known []);
}

pub predicate_next : (known : List Held) (all left rest done done' : List Plan) (p : Plan) → PredicatesLeft known all left done → left ≡ rest ++ p ∷ [] →
    AddsPredicates known p done done' → PredicatesLeft known all rest done'
predicate_next known all left rest done done' p h cut (later, added, same) = record {
  taken = h.taken ++ p ∷ [];
  whole = sym (turned h.taken rest p) ∙ ap (λ l. h.taken ++ reverse l) (sym cut) ∙ h.whole;
  same = subst (SamePredicates known (h.taken ++ p ∷ [])) (sym added) (same_after known h.taken done (p ∷ []) later h.same same);
}

pub predicates_done : (known : List Held) (all left done : List Plan) → PredicatesLeft known all left done → left ≡ [] → SamePredicates known all done
predicates_done known all left done h none =
    subst (λ l. SamePredicates known l done) (sym (append-nil h.taken) ∙ ap (λ l. h.taken ++ reverse l) (sym none) ∙ h.whole) h.same

pub record ConjunctsLeft (known : List Held) (all left first position tests : List Plan) : Type 0 where
  pub taken : List Plan
  pub whole : taken ++ reverse left ≡ all
  pub sure : AllByRecursion (SurelyDecides known) (reverse left)
  pub parted : Parted known taken first position tests

pub no_conjuncts : (known : List Held) (all left first position tests : List Plan) → left ≡ reverse all → AllByRecursion (SurelyDecides known) all →
    first ≡ [] → position ≡ [] → tests ≡ [] → ConjunctsLeft known all left first position tests
no_conjuncts known all left first position tests is sure a b c = record {
  taken = [];
  whole = ap reverse is ∙ reverse-reverse all;
  sure = subst (AllByRecursion (SurelyDecides known)) (sym (ap reverse is ∙ reverse-reverse all)) sure;
  parted = none_parted known first position tests a b c;
}

pub conjunct_sure : (known : List Held) (left rest : List Plan) (p : Plan) → AllByRecursion (SurelyDecides known) (reverse left) → left ≡ rest ++ p ∷ [] →
    AllByRecursion (SurelyDecides known) (p ∷ reverse rest)
conjunct_sure known left rest p sure cut =
    subst (AllByRecursion (SurelyDecides known)) (ap reverse cut ∙ reverse-append rest (p ∷ [])) sure

pub conjunct_next : (known : List Held) (all left rest first position tests first' position' tests' : List Plan) (p : Plan) →
    (h : ConjunctsLeft known all left first position tests) → left ≡ rest ++ p ∷ [] →
    ((taken : List Plan) → Parted known taken first position tests → Parted known (taken ++ p ∷ []) first' position' tests') →
    ConjunctsLeft known all rest first' position' tests'
conjunct_next known all left rest first position tests first' position' tests' p h cut grown = record {
  taken = h.taken ++ p ∷ [];
  whole = sym (turned h.taken rest p) ∙ ap (λ l. h.taken ++ reverse l) (sym cut) ∙ h.whole;
  sure = let both = conjunct_sure known left rest p h.sure cut in both.1;
  parted = grown h.taken h.parted;
}

pub conjuncts_done : (known : List Held) (all left first position tests : List Plan) → ConjunctsLeft known all left first position tests → left ≡ [] →
    Parted known all first position tests
conjuncts_done known all left first position tests h none =
    subst (λ l. Parted known l first position tests) (sym (append-nil h.taken) ∙ ap (λ l. h.taken ++ reverse l) (sym none) ∙ h.whole) h.parted
