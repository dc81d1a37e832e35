-- A `where` right after the first `for` is a predicate of what the variable ranges over.
use Rattle.std.proofs.Common.{◌≡◌, ℕ, suc, List, [], ◌∷◌, ◌++◌, map, length, reverse, Bool, true, false, Ok, Err, refl, sym, ap, ◌∙◌, subst, inl, inr}
use Rattle.std.specs.Prelude.{Option}
use Rattle.std.proofs.lemmas.List.{append-nil, map-append, reverse-append}
use Rattle.xq_atoms.specs.Text.{Text}
use Rattle.xq_atoms.specs.Compare.{compare_value}
use Rattle.xq_expressions.specs.declared.operators.AllowingEmpty.TheVariants as allowing
use Rattle.xq_trees.specs.Tree.{Tree}
use Rattle.xq_trees.specs.Tuples.{Tuple, expanded}
use Rattle.xq_meaning.specs.declared.operators.Operator.{Operator}
use Rattle.xq_meaning.specs.declared.plans.Plan.{Plan}
use Rattle.xq_meaning.specs.declared.plans.Plan.TheVariants as plan
use Rattle.xq_meaning.specs.declared.plans.PlanClause.{PlanClause}
use Rattle.xq_meaning.specs.declared.plans.PlanClause.TheVariants as clause
use Rattle.xq_meaning.specs.Arguments.{effective, single}
use Rattle.xq_meaning.specs.Doing.{Doing, Outcome, go_on, give, judged, on_trees, in_turn, more, collected}
use Rattle.xq_meaning.specs.Forms
use Rattle.xq_meaning.specs.Functions.{Focus}
use Rattle.xq_meaning.specs.Items.{Item, Place, Node, Atom, atomized}
use Rattle.xq_meaning.specs.Operators.{keeps, operated, related_by, some_pair}
use Rattle.xq_meaning.specs.PlanMeaning.{Slots, Frame, Meaning, ClauseMeaning, at_tuple, next_clause, opened, plan_mean, plan_clause_mean}
use Rattle.xq_meaning.specs.Same.{frame_of}
use Rattle.xq_meaning.specs.Steps.{focuses_from}
use Rattle.xq_meaning.proofs.PlanEquations as plan_eq
use Rattle.xq_meaning.proofs.Turns.{go_on_give, go_on_go_on}
use Rattle.xq_optimise.specs.declared.held.Held.{Held}
use Rattle.xq_optimise.specs.declared.held.Held.TheVariants as has
use Rattle.xq_optimise.specs.Same.{GivesSame}
use Rattle.xq_optimise.specs.Sure.{on_node}
use Rattle.xq_optimise.specs.private.FirstTests.{ComparesValues, DecidesAtNode, SameAtNode, SameClausesOf}
use Rattle.xq_optimise.specs.private.Parts.{GivesHeld, IsHeld}
use Rattle.xq_optimise.proofs.AtNodes.{pair_at_node}
use Rattle.xq_optimise.proofs.FilterLaws.{boolean_alike, both_alike, KeepsAlike}
use Rattle.xq_optimise.proofs.Fitting.{fits_length}
use Rattle.xq_optimise.proofs.GroupLets.{expanded_one, kept, passed_is, row}

-- # What a comparison gives keeps as a predicate what it keeps as a test

values_alike : (op : Operator) → ComparesValues op → (f : List Tree) (xs ys : List Item) → KeepsAlike (operated op f xs ys)
values_alike op (relation, inl is) f xs ys =
    subst (λ o. KeepsAlike (operated o f xs ys)) (sym is) (both_alike single (compare_value (related_by relation)) (atomized f xs) (atomized f ys))
values_alike op (relation, inr is) f xs ys =
    subst (λ o. KeepsAlike (operated o f xs ys)) (sym is) (boolean_alike (some_pair (related_by relation) (atomized f xs) (atomized f ys)))

pair_alike : (op : Operator) → ComparesValues op → (a b : Plan) (frame : Frame) (f : List Tree) (position : ℕ) →
    go_on (plan_mean (plan.Chain a ((op, b) ∷ [])) frame f) (λ v. judged (keeps position v)) ≡ Forms.tested (plan_mean (plan.Chain a ((op, b) ∷ []))) frame f
pair_alike op compares a b frame f position =
    ap (λ (m : Meaning). go_on (m frame f) (λ v. judged (keeps position v))) of
    ∙ first (plan_mean a frame f)
    ∙ sym (ap (λ (m : Meaning). go_on (m frame f) (λ v. judged (effective v))) of)
  where
    of : plan_mean (plan.Chain a ((op, b) ∷ [])) ≡ Forms.chain (plan_mean a) ((op, plan_mean b) ∷ [])
    of = plan_eq.plan-Chain a ((op, b) ∷ [])

    second : (xs : List Item) (o : Outcome (List Item)) →
        go_on (go_on (go_on o (λ ys. on_trees (λ trees. operated op trees xs ys))) (λ n. give n)) (λ v. judged (keeps position v))
        ≡ go_on (go_on (go_on o (λ ys. on_trees (λ trees. operated op trees xs ys))) (λ n. give n)) (λ v. judged (effective v))
    second xs (Ok ys, g) =
        let r = operated op g xs ys in
        ap (λ o. go_on o (λ v. judged (keeps position v))) (go_on_give (r, g))
        ∙ values_alike op compares g xs ys position g
        ∙ sym (ap (λ o. go_on o (λ v. judged (effective v))) (go_on_give (r, g)))
    second xs (Err code, g) = refl

    first : (o : Outcome (List Item)) →
        go_on (go_on o (λ xs. in_turn (Forms.next_operand frame) xs ((op, plan_mean b) ∷ []))) (λ v. judged (keeps position v))
        ≡ go_on (go_on o (λ xs. in_turn (Forms.next_operand frame) xs ((op, plan_mean b) ∷ []))) (λ v. judged (effective v))
    first (Ok xs, g) = second xs (plan_mean b frame g)
    first (Err code, g) = refl

-- a comparison of sides that are the same at a node decides there
pub pair_decides : (n : ℕ) (op : Operator) (a b c d test p : Plan) → ComparesValues op → test ≡ plan.Chain a ((op, b) ∷ []) → p ≡ plan.Chain c ((op, d) ∷ []) → SameAtNode n a c → SameAtNode n b d →
    DecidesAtNode n test p
pair_decides n op a b c d test p compares is at left right slots focus addresses f long place position last =
    let there = frame_of (opened slots (Node place ∷ [])) focus addresses in
    ap (λ o. go_on o (λ v. judged (keeps position v))) (pair_at_node n op a b c d test p is at left right slots focus addresses f long place position last)
    ∙ ap (λ r. go_on (plan_mean r there f) (λ v. judged (keeps position v))) is
    ∙ pair_alike op compares a b there f position
    ∙ ap (λ r. Forms.tested (plan_mean r) there f) (sym is)

-- # The clauses

-- a `for` at one tuple without slots
for_one : (frame : Frame) (q : Plan) (f : List Tree) → plan_clause_mean (clause.For allowing.No false q) frame ([] ∷ []) f ≡ go_on (plan_mean q (at_tuple frame []) f) (λ xs. give (map row xs))
for_one frame q f =
    ap (λ (m : ClauseMeaning). m frame ([] ∷ []) f) (plan_eq.clause-For allowing.No false q)
    ∙ by (plan_mean q (at_tuple frame []) f)
  where
    by : (o : Outcome (List Item)) →
        go_on (go_on (go_on o (λ y. give (y ∷ []))) (λ n. give n)) (λ lists. give (expanded Atom false false ([] ∷ []) lists)) ≡ go_on o (λ xs. give (map row xs))
    by (Ok xs, g) = ap (λ l. (Ok l, g)) (expanded_one xs)
    by (Err code, g) = refl

module _ (n : ℕ) (t p : Plan) (decides : DecidesAtNode n t p) (slots : Slots) (long : length slots ≡ n) (focus : Option Focus) (addresses : List Text) where
  abbrev frame : Frame
  frame = frame_of slots focus addresses

  abbrev base : Frame
  base = at_tuple frame []

  abbrev holds : Tuple Item → Doing Bool
  holds u = Forms.tested (plan_mean t) (at_tuple frame u)

  -- at one node
  node_decides : (q : Place) (position last : ℕ) (g : List Tree) →
      go_on (plan_mean p (Forms.in_focus base (on_node q position last)) g) (λ v. judged (keeps position v)) ≡ holds (row (Node q)) g
  node_decides q position last g =
      decides (slots ++ []) focus addresses g (ap length (append-nil slots) ∙ long) q position last
      ∙ ap (λ (env : Slots). Forms.tested (plan_mean t) (frame_of (env ++ (Node q ∷ []) ∷ []) focus addresses) g) (append-nil slots)

  rows_with : (done : List Item) (x : Item) (b : Bool) → map row (done ++ Forms.kept_if x b) ≡ map row done ++ Forms.kept_if (row x) b
  rows_with done x true = map-append row done (x ∷ [])
  rows_with done x false = map-append row done []

  each_node : (ps : List Place) (done : List Item) (i last : ℕ) (g : List Tree) →
      go_on (in_turn (more (Forms.passed (plan_mean p) base)) done (focuses_from i last (map Node ps)) g) (λ ys. give (map row ys))
      ≡ in_turn (more (kept holds)) (map row done) (map row (map Node ps)) g
  each_node [] done i last g = refl
  each_node (q ∷ ps) done i last g =
      ap (λ o. go_on (go_on (go_on o (λ ys. give (done ++ ys))) (λ n. in_turn (more (Forms.passed (plan_mean p) base)) n (focuses_from (suc i) last (map Node ps)))) (λ ys. give (map row ys)))
      (sym (go_on_go_on (plan_mean p (Forms.in_focus base (on_node q i last)) g) (λ v. judged (keeps i v)) (λ keep. give (Forms.kept_if (Node q) keep)))
      ∙ ap (λ o. go_on o (λ keep. give (Forms.kept_if (Node q) keep))) (node_decides q i last g))
      ∙ by (λ l h. each_node ps l (suc i) last h) (holds (row (Node q)) g)
    where
      by : ((l : List Item) (h : List Tree) → go_on (in_turn (more (Forms.passed (plan_mean p) base)) l (focuses_from (suc i) last (map Node ps)) h) (λ ys. give (map row ys))
          ≡ in_turn (more (kept holds)) (map row l) (map row (map Node ps)) h) → (o : Outcome Bool) →
          go_on (go_on (go_on (go_on o (λ keep. give (Forms.kept_if (Node q) keep))) (λ ys. give (done ++ ys))) (λ n. in_turn (more (Forms.passed (plan_mean p) base)) n (focuses_from (suc i) last (map Node ps)))) (λ ys. give (map row ys))
          ≡ go_on (go_on (go_on o (λ keep. give (Forms.kept_if (row (Node q)) keep))) (λ ys. give (map row done ++ ys))) (λ n. in_turn (more (kept holds)) n (map row (map Node ps)))
      by rest (Ok b, h) = rest (done ++ Forms.kept_if (Node q) b) h ∙ ap (λ l. in_turn (more (kept holds)) l (map row (map Node ps)) h) (rows_with done (Node q) b)
      by rest (Err code, h) = refl

  where_is : (ts : List (Tuple Item)) (g : List Tree) → plan_clause_mean (clause.Where t) frame ts g ≡ collected (kept holds) ts g
  where_is ts g = ap (λ (m : ClauseMeaning). m frame ts g) (plan_eq.clause-Where t) ∙ passed_is holds ts g

  -- a `for` over what the predicate keeps gives what both clauses give
  module _ (range : Plan) (nodes : (f : List Tree) → GivesHeld has.Nodes (plan_mean range base f)) where
    both : (f : List Tree) →
        plan_clause_mean (clause.For allowing.No false (plan.Filter range (p ∷ []))) frame ([] ∷ []) f
        ≡ go_on (plan_clause_mean (clause.For allowing.No false range) frame ([] ∷ []) f) (λ ts. plan_clause_mean (clause.Where t) frame ts)
    both f =
        for_one frame (plan.Filter range (p ∷ [])) f
        ∙ ap (λ (m : Meaning). go_on (m base f) (λ xs. give (map row xs))) (plan_eq.plan-Filter range (p ∷ []))
        ∙ by (plan_mean range base f) (nodes f)
        ∙ sym (ap (λ o. go_on o (λ ts. plan_clause_mean (clause.Where t) frame ts)) (for_one frame range f))
      where
        each : (ps : List Place) (g : List Tree) →
            go_on (go_on (Forms.filtered base (map Node ps) (plan_mean p) g) (λ n. give n)) (λ xs. give (map row xs))
            ≡ plan_clause_mean (clause.Where t) frame (map row (map Node ps)) g
        each ps g =
            ap (λ o. go_on o (λ xs. give (map row xs))) (go_on_give (Forms.filtered base (map Node ps) (plan_mean p) g))
            ∙ each_node ps [] 1 (length (map Node ps)) g
            ∙ sym (where_is (map row (map Node ps)) g)

        by : (o : Outcome (List Item)) → GivesHeld has.Nodes o →
            go_on (go_on o (λ xs. in_turn (Forms.filtered base) xs (plan_mean p ∷ []))) (λ xs. give (map row xs))
            ≡ go_on (go_on o (λ xs. give (map row xs))) (λ ts. plan_clause_mean (clause.Where t) frame ts)
        by (Ok xs, g) (ps, is) =
            ap (λ l. go_on (go_on (Forms.filtered base l (plan_mean p) g) (λ n. give n)) (λ xs. give (map row xs))) is
            ∙ each ps g
            ∙ sym (ap (λ l. plan_clause_mean (clause.Where t) frame (map row l) g) is)
        by (Err code, g) held = refl

pub first_test : (known : List Held) (range t p : Plan) (cs ds rest : List PlanClause) → IsHeld known has.Nodes range → DecidesAtNode (length known) t p →
    cs ≡ clause.For allowing.No false range ∷ clause.Where t ∷ rest → ds ≡ clause.For allowing.No false (plan.Filter range (p ∷ [])) ∷ rest → SameClausesOf known cs ds
first_test known range t p cs ds rest nodes decides is at part slots focus addresses f fits =
    ap (λ l. plan_mean (plan.Flwor l part) frame f) at
    ∙ ap (λ m. m frame f) (plan_eq.plan-Flwor (clause.For allowing.No false (plan.Filter range (p ∷ [])) ∷ rest) part)
    ∙ ap (λ o. go_on o (λ tuples. Forms.return_of (plan_mean part) (at_tuple frame) tuples)) turns
    ∙ sym (ap (λ m. m frame f) (plan_eq.plan-Flwor (clause.For allowing.No false range ∷ clause.Where t ∷ rest) part))
    ∙ ap (λ l. plan_mean (plan.Flwor l part) frame f) (sym is)
  where
    frame : Frame
    frame = frame_of slots focus addresses

    long : length slots ≡ length known
    long = fits_length known slots fits

    given : (g : List Tree) → GivesHeld has.Nodes (plan_mean range (at_tuple (frame_of slots focus addresses) []) g)
    given g = subst (λ (env : Slots). GivesHeld has.Nodes (plan_mean range (frame_of env focus addresses) g)) (sym (append-nil slots)) (nodes slots focus addresses g fits)

    turns : in_turn (next_clause frame) ([] ∷ []) (map plan_clause_mean (clause.For allowing.No false (plan.Filter range (p ∷ [])) ∷ rest)) f
        ≡ in_turn (next_clause frame) ([] ∷ []) (map plan_clause_mean (clause.For allowing.No false range ∷ clause.Where t ∷ rest)) f
    turns =
        ap (λ o. go_on o (λ us. in_turn (next_clause frame) us (map plan_clause_mean rest))) (both (length known) t p decides slots long focus addresses range given f)
        ∙ go_on_go_on (plan_clause_mean (clause.For allowing.No false range) frame ([] ∷ []) f) (λ ts. plan_clause_mean (clause.Where t) frame ts) (λ us. in_turn (next_clause frame) us (map plan_clause_mean rest))

-- the same range
pub first_range : (known : List Held) (q r : Plan) (rest : List PlanClause) → GivesSame known q r → SameClausesOf known (clause.For allowing.No false q ∷ rest) (clause.For allowing.No false r ∷ rest)
first_range known q r rest same part slots focus addresses f fits =
    ap (λ m. m frame f) (plan_eq.plan-Flwor (clause.For allowing.No false r ∷ rest) part)
    ∙ ap (λ o. go_on (go_on o (λ us. in_turn (next_clause frame) us (map plan_clause_mean rest))) (λ tuples. Forms.return_of (plan_mean part) (at_tuple frame) tuples))
    (for_one frame r f
    ∙ ap (λ o. go_on o (λ xs. give (map row xs)))
    (ap (λ (env : Slots). plan_mean r (frame_of env focus addresses) f) (append-nil slots)
    ∙ same slots focus addresses f fits
    ∙ sym (ap (λ (env : Slots). plan_mean q (frame_of env focus addresses) f) (append-nil slots)))
    ∙ sym (for_one frame q f))
    ∙ sym (ap (λ m. m frame f) (plan_eq.plan-Flwor (clause.For allowing.No false q ∷ rest) part))
  where
    frame : Frame
    frame = frame_of slots focus addresses

-- clauses as they are
pub clauses_as : (known : List Held) (cs ds : List PlanClause) → ds ≡ cs → SameClausesOf known cs ds
clauses_as known cs ds is part slots focus addresses f fits = ap (λ l. plan_mean (plan.Flwor l part) (frame_of slots focus addresses) f) is

pub then_clauses : (known : List Held) (cs ds es : List PlanClause) → SameClausesOf known cs ds → SameClausesOf known ds es → SameClausesOf known cs es
then_clauses known cs ds es h k part slots focus addresses f fits = k part slots focus addresses f fits ∙ h part slots focus addresses f fits

-- lists that are turned round
pub with_one : (left after : List PlanClause) (x : PlanClause) → after ≡ left ++ x ∷ [] → reverse after ≡ x ∷ reverse left
with_one left after x is = ap reverse is ∙ reverse-append left (x ∷ [])
