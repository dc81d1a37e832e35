-- A `where` after a `for` that compares a key of the node is a predicate of what it ranges over.
use Rattle.std.proofs.Common.{◌≡◌, ℕ, List, [], ◌∷◌, ◌++◌, map, length, reverse, arith, Bool, true, false, Ok, Err, refl, sym, ap, ◌∙◌, subst, ◌⊎◌, inl, inr, if◌then◌else◌}
use Rattle.std.specs.Prelude.{Option, Some, filter, ◌&&◌}
use Rattle.std.specs.List.{AllByRecursion}
use Rattle.std.proofs.lemmas.List.{append_assoc, append-nil, length-append, reverse-append}
use Rattle.xq_atoms.specs.Judged.{Judged}
use Rattle.xq_atoms.specs.Text.{Text}
use Rattle.xq_atoms.specs.declared.refusals.Code.{Code}
use Rattle.xq_expressions.specs.declared.operators.AllowingEmpty.TheVariants as allowing
use Rattle.xq_expressions.specs.declared.operators.ComparisonOperator.TheVariants as comparing
use Rattle.xq_expressions.specs.declared.operators.Relation.{Relation}
use Rattle.xq_trees.specs.declared.Axis.{Axis}
use Rattle.xq_trees.specs.Tree.{Tree}
use Rattle.xq_trees.specs.Tuples.{Tuple, expanded}
use Rattle.xq_meaning.specs.declared.joins.JoinKey.{JoinKey}
use Rattle.xq_meaning.specs.declared.joins.KeyForm.TheVariants as key_form
use Rattle.xq_meaning.specs.declared.node_tests.Test.{Test}
use Rattle.xq_meaning.specs.declared.operators.Operator.TheVariants as operator
use Rattle.xq_meaning.specs.declared.plans.Plan.{Plan}
use Rattle.xq_meaning.specs.declared.plans.Plan.TheVariants as plan
use Rattle.xq_meaning.specs.declared.plans.PlanClause.{PlanClause}
use Rattle.xq_meaning.specs.declared.plans.PlanClause.TheVariants as clause
use Rattle.xq_meaning.specs.Arguments.{as_boolean, boolean, effective}
use Rattle.xq_meaning.specs.Doing.{Doing, Outcome, ◌>>=◌, go_on, give, judged, on_trees, in_turn, one_more, more, for_each}
use Rattle.xq_meaning.specs.Forms
use Rattle.xq_meaning.specs.Functions.{Focus}
use Rattle.xq_meaning.specs.Items.{Place, Item, Node, Atom, atomized}
use Rattle.xq_meaning.specs.Operators.{keeps, operated, related_by, some_pair}
use Rattle.xq_meaning.specs.PlanMeaning.{Slots, Frame, at_tuple, next_clause, opened, plan_mean, plan_clause_mean}
use Rattle.xq_meaning.specs.Same.{frame_of}
use Rattle.xq_meaning.proofs.PlanEquations as plan_eq
use Rattle.xq_meaning.proofs.Turns.{begun_then, go_on_give, in_turn-append}
use Rattle.xq_optimise.specs.declared.held.Held.{Held}
use Rattle.xq_optimise.specs.declared.held.Held.TheVariants as has
use Rattle.xq_optimise.specs.Known.{Fits}
use Rattle.xq_optimise.specs.Sure.{on_node}
use Rattle.xq_optimise.specs.private.Filters.{LeadsTo, at_node, with_node}
use Rattle.xq_optimise.specs.private.Joins.{LeavesTrees, StartsAt, scan_step}
use Rattle.xq_optimise.specs.private.Order.{SameRest}
use Rattle.xq_optimise.specs.private.Parts.{AllFit, GivesHeld, IsHeld, IsScan, general_comparison}
use Rattle.xq_optimise.specs.private.Ranges.{IsNarrower, IsNodeSide, Narrows, TellsOfNode}
use Rattle.xq_optimise.proofs.FilterLaws.{scans_side}
use Rattle.xq_optimise.proofs.Fitting.{fits_length}
use Rattle.xq_optimise.proofs.GroupLets.{passed_is}
use Rattle.xq_optimise.proofs.JoinLaws.{plain_key, scans_are}
use Rattle.xq_optimise.proofs.NodesAtOnce.{all_kept}
use Rattle.xq_optimise.proofs.Rising.{same_rest}
use Rattle.xq_optimise.proofs.Rows.{expanded_next, row}
use Rattle.xq_optimise.proofs.Scans.{scans_from}
use Rattle.xq_optimise.proofs.Tests.{nodes_have_texts, pairs_compare}

-- # Sides of a comparison

pub text_side : (known : List Held) (side part : Plan) (t : Text) → side ≡ plan.Str t → part ≡ plan.Str t → IsNodeSide known side part
text_side known side part t is at slots focus addresses trees fits place = (
  _,
  (tt, tt),
  ap (λ m. m (frame_of (opened slots (Node place ∷ [])) focus addresses) trees) (ap plan_mean is ∙ plan_eq.plan-Str t),
  λ position last. ap (λ m. m (frame_of slots (Some (on_node place position last)) addresses) trees) (ap plan_mean at ∙ plan_eq.plan-Str t),
)

pub all_scans : (scans : List (Axis × Test)) → AllByRecursion IsScan (map scan_step scans)
all_scans [] = tt
all_scans (s ∷ ss) = ((s.0, s.1, refl), all_scans ss)

pub key_side : (known : List Held) (side part : Plan) (key : JoinKey) → key.slot ≡ length known → key.form ≡ key_form.Value → StartsAt key.slot key.scans side → LeadsTo key.scans part →
    IsNodeSide known side part
key_side known side part key slot form at leads slots focus addresses trees fits place =
    let frame = frame_of slots focus addresses in
    let found = scans_from frame (map scan_step key.scans) (all_scans key.scans) (place ∷ []) trees in
    let given : (position last : ℕ) → plan_mean part (at_node frame place position last) trees ≡ (Ok (map Node found.0), trees) =
    λ position last. leads frame place position last trees ∙ scans_are frame key.scans (Node place ∷ []) trees ∙ found.1 in (
      map Node found.0,
      nodes_have_texts trees found.0,
      sym (plain_key key side form at (with_node frame place) trees)
          ∙ sym (scans_side (length known) key part slot form leads frame (fits_length known slots fits) place 1 1 trees)
          ∙ given 1 1,
      given,
    )

-- # The comparison

compared : (relation : Relation) (p q : Plan) (frame : Frame) (f : List Tree) (xs ys : List Item) (truth : Bool) → plan_mean p frame f ≡ (Ok xs, f) → plan_mean q frame f ≡ (Ok ys, f) →
    some_pair (related_by relation) (atomized f xs) (atomized f ys) ≡ Ok truth → plan_mean (general_comparison relation p q) frame f ≡ (Ok (boolean truth), f)
compared relation p q frame f xs ys truth left right tells =
    let op = operator.Comparison (comparing.General relation) in
    ap (λ m. m frame f) (plan_eq.plan-Chain p ((op, q) ∷ []))
    ∙ ap (λ o. go_on o (λ zs. in_turn (Forms.next_operand frame) zs ((op, plan_mean q) ∷ []))) left
    ∙ ap (λ o. go_on (go_on o (λ zs. on_trees (λ ts. operated op ts xs zs))) (λ zs. give zs)) right
    ∙ ap (λ r. go_on (as_boolean r, f) (λ zs. give zs)) tells

pub sides_tell : (known : List Held) (relation : Relation) (test p a b c d : Plan) → test ≡ general_comparison relation a b → p ≡ general_comparison relation c d →
    IsNodeSide known a c → IsNodeSide known b d → TellsOfNode known test p
sides_tell known relation test p a b c d is at left right =
    subst (λ r. TellsOfNode known r p) (sym is) (subst (TellsOfNode known (general_comparison relation a b)) (sym at) both)
  where
    both : TellsOfNode known (general_comparison relation a b) (general_comparison relation c d)
    both slots focus addresses f fits =
        let tells : (place : Place) → (truth : Bool) × (some_pair (related_by relation) (atomized f (left slots focus addresses f fits place).0) (atomized f (right slots focus addresses f fits place).0) ≡ Ok truth) =
        λ place.
        let first = left slots focus addresses f fits place in
        let second = right slots focus addresses f fits place in
        pairs_compare (related_by relation) (atomized f first.0) (atomized f second.0) first.1 second.1 in
        let value : (place : Place) (position last : ℕ) → plan_mean (general_comparison relation c d) (frame_of slots (Some (on_node place position last)) addresses) f ≡ (Ok (boolean (tells place).0), f) =
        λ place position last.
        let first = left slots focus addresses f fits place in
        let second = right slots focus addresses f fits place in
        compared relation c d (frame_of slots (Some (on_node place position last)) addresses) f first.0 second.0 (tells place).0 (first.3 position last) (second.3 position last) (tells place).1 in (
          λ place. (tells place).0,
          λ place position last. (
            ap (λ o. go_on o (λ xs. judged (effective xs))) (value place position last),
            ap (λ o. go_on o (λ xs. judged (keeps position xs))) (value place position last),
          ),
          λ place.
              let first = left slots focus addresses f fits place in
              let second = right slots focus addresses f fits place in
              ap (λ o. go_on o (λ xs. judged (effective xs)))
              (compared relation a b (frame_of (opened slots (Node place ∷ [])) focus addresses) f first.0 second.0 (tells place).0 first.2 second.2 (tells place).1),
        )

-- # The clauses

module _ (known : List Held) (range test p : Plan) (holds : IsHeld known has.Nodes range) (leaves : LeavesTrees range) (tells : TellsOfNode known test p)
    (slots : Slots) (focus : Option Focus) (addresses : List Text) (f : List Tree) where
  abbrev frame : Frame
  frame = frame_of slots focus addresses

  abbrev ranged : Tuple Item → Doing (List Item)
  ranged t = plan_mean range (at_tuple frame t)

  abbrev narrow : Tuple Item → Doing (List Item)
  narrow t = plan_mean (plan.Filter range (p ∷ [])) (at_tuple frame t)

  abbrev passing : Tuple Item → Doing (List (Tuple Item))
  passing u = Forms.tested (plan_mean test) (at_tuple frame u) >>= (λ keep. give (Forms.kept_if u keep))

  -- what both ranges give at a tuple, and what the test keeps of it
  record AtTuple (t : Tuple Item) (xs ys : List Item) : Type 0 where
    all : ranged t f ≡ (Ok xs, f)
    some : narrow t f ≡ (Ok ys, f)
    kept : (done : List (Tuple Item)) → in_turn (more passing) done (map (row t) xs) f ≡ (Ok (done ++ map (row t) ys), f)

  filter_is : (t : Tuple Item) → narrow t f ≡ go_on (ranged t f) (λ xs. in_turn (Forms.filtered (at_tuple frame t)) xs (plan_mean p ∷ []))
  filter_is t = ap (λ m. m (at_tuple frame t) f) (plan_eq.plan-Filter range (p ∷ []))

  rows_kept : (t : Tuple Item) (k : Place → Bool) →
      ((place : Place) → Forms.tested (plan_mean test) (at_tuple frame (row t (Node place))) f ≡ (Ok (k place), f)) →
      (ps : List Place) (done : List (Tuple Item)) →
      in_turn (more passing) done (map (row t) (map Node ps)) f ≡ (Ok (done ++ map (row t) (map Node (filter k ps))), f)
  rows_kept t k told [] done = ap (λ l. (Ok l, f)) (sym (append-nil done))
  rows_kept t k told (q ∷ ps) done =
      ap (λ o. go_on (go_on (go_on o (λ keep. give (Forms.kept_if (row t (Node q)) keep))) (λ ys. give (done ++ ys))) (λ n. in_turn (more passing) n (map (row t) (map Node ps)))) (told q)
      ∙ by (λ l. rows_kept t k told ps l) (k q)
    where
      by : ((l : List (Tuple Item)) → in_turn (more passing) l (map (row t) (map Node ps)) f ≡ (Ok (l ++ map (row t) (map Node (filter k ps))), f)) → (b : Bool) →
          in_turn (more passing) (done ++ Forms.kept_if (row t (Node q)) b) (map (row t) (map Node ps)) f
          ≡ (Ok (done ++ map (row t) (map Node (if b then q ∷ filter k ps else filter k ps))), f)
      by rest true =
          rest (done ++ row t (Node q) ∷ [])
          ∙ ap (λ l. (Ok l, f)) (append_assoc done (row t (Node q) ∷ []) (map (row t) (map Node (filter k ps))))
      by rest false =
          ap (λ l. in_turn (more passing) l (map (row t) (map Node ps)) f) (append-nil done) ∙ rest done

  -- nodes or a refusal, and the trees as they are
  given : (t : Tuple Item) → Fits known (slots ++ t) →
      ((ps : List Place) × (ranged t f ≡ (Ok (map Node ps), f))) ⊎ ((code : Code) × (ranged t f ≡ (Err code, f)))
  given t fits =
      let own = leaves (at_tuple frame t) f in by own.0 own.1 (subst (GivesHeld has.Nodes) own.1 (holds (slots ++ t) focus addresses f fits))
    where
      by : (r : Judged (List Item)) → ranged t f ≡ (r, f) → GivesHeld has.Nodes (r, f) →
          ((ps : List Place) × (ranged t f ≡ (Ok (map Node ps), f))) ⊎ ((code : Code) × (ranged t f ≡ (Err code, f)))
      by (Ok xs) e (ps, is) = inl (ps, e ∙ ap (λ ys. (Ok ys, f)) is)
      by (Err code) e h = inr (code, e)

  and_true : (b : Bool) → b ≡ (b && true)
  and_true true = refl
  and_true false = refl

  at_nodes : (t : Tuple Item) → Fits known (slots ++ t) → (ps : List Place) → ranged t f ≡ (Ok (map Node ps), f) →
      (ys : List Item) × AtTuple t (map Node ps) ys
  at_nodes t fits ps e =
      let told = tells (slots ++ t) focus addresses f fits in
      let k : Place → Bool = λ q. told.0 q && true in (
        map Node (filter k ps),
        record {
          all = e;
          some =
              filter_is t ∙ ap (λ o. go_on o (λ xs. in_turn (Forms.filtered (at_tuple frame t)) xs (plan_mean p ∷ []))) e
              ∙ all_kept (slots ++ t) addresses f focus (plan_mean p ∷ []) k (told.0, (λ q. true), told.1, (λ q. refl), λ q. refl) ps;
          kept = rows_kept t k
              (λ place.
              ap (λ (env : Slots). Forms.tested (plan_mean test) (frame_of env focus addresses) f) (sym (append_assoc slots t ((Node place ∷ []) ∷ [])))
              ∙ told.2 place ∙ ap (λ b. (Ok b, f)) (and_true (told.0 place))) ps;
        },
      )

  -- what both give at all tuples
  record AtAll (ts : List (Tuple Item)) (lists others : List (List Item)) : Type 0 where
    all : for_each ranged ts f ≡ (Ok lists, f)
    some : for_each narrow ts f ≡ (Ok others, f)
    kept : (done : List (Tuple Item)) →
        in_turn (more passing) done (expanded Atom false false ts lists) f ≡ (Ok (done ++ expanded Atom false false ts others), f)

  abbrev IsAtAll : List (Tuple Item) → Type 0
  IsAtAll ts =
      ((lists : List (List Item)) × (others : List (List Item)) × AtAll ts lists others)
      ⊎ ((code : Code) × (for_each ranged ts f ≡ (Err code, f)) × (for_each narrow ts f ≡ (Err code, f)))

  next_of : (act : Tuple Item → Doing (List Item)) (t : Tuple Item) (ts : List (Tuple Item)) (xs : List Item) → act t f ≡ (Ok xs, f) →
      for_each act (t ∷ ts) f ≡ go_on (for_each act ts f) (λ ys. give (xs ∷ ys))
  next_of act t ts xs e =
      ap (λ o. go_on (go_on o (λ y. give ([] ++ y ∷ []))) (λ n. in_turn (one_more act) n ts)) e
      ∙ sym (go_on_give (in_turn (one_more act) (xs ∷ []) ts f))
      ∙ begun_then act xs ts (λ ys. give ys) f

  refused_of : (act : Tuple Item → Doing (List Item)) (t : Tuple Item) (ts : List (Tuple Item)) (code : Code) → act t f ≡ (Err code, f) →
      for_each act (t ∷ ts) f ≡ (Err code, f)
  refused_of act t ts code e = ap (λ o. go_on (go_on o (λ y. give ([] ++ y ∷ []))) (λ n. in_turn (one_more act) n ts)) e

  at_all : (ts : List (Tuple Item)) → AllFit known slots ts → IsAtAll ts
  at_all [] w = inl ([], [], record { all = refl; some = refl; kept = λ done. ap (λ l. (Ok l, f)) (sym (append-nil done)) })
  at_all (t ∷ ts) w = first (at_all ts w.1) (given t w.0)
    where
      later : (xs ys : List Item) → AtTuple t xs ys → IsAtAll ts → IsAtAll (t ∷ ts)
      later xs ys here (inl (lists, others, rest)) = inl (
        xs ∷ lists,
        ys ∷ others,
        record {
          all = next_of ranged t ts xs here.all ∙ ap (λ o. go_on o (λ zs. give (xs ∷ zs))) rest.all;
          some = next_of narrow t ts ys here.some ∙ ap (λ o. go_on o (λ zs. give (ys ∷ zs))) rest.some;
          kept = λ done.
              ap (λ us. in_turn (more passing) done us f) (expanded_next t ts xs lists)
              ∙ in_turn-append (more passing) done (map (row t) xs) (expanded Atom false false ts lists) f
              ∙ ap (λ o. go_on o (λ n. in_turn (more passing) n (expanded Atom false false ts lists))) (here.kept done)
              ∙ rest.kept (done ++ map (row t) ys)
              ∙ ap (λ l. (Ok l, f)) (append_assoc done (map (row t) ys) (expanded Atom false false ts others)
              ∙ ap (λ l. done ++ l) (sym (expanded_next t ts ys others)));
        },
      )
      later xs ys here (inr (code, all, some)) = inr (
        code,
        next_of ranged t ts xs here.all ∙ ap (λ o. go_on o (λ zs. give (xs ∷ zs))) all,
        next_of narrow t ts ys here.some ∙ ap (λ o. go_on o (λ zs. give (ys ∷ zs))) some,
      )

      first : IsAtAll ts → ((ps : List Place) × (ranged t f ≡ (Ok (map Node ps), f))) ⊎ ((code : Code) × (ranged t f ≡ (Err code, f))) → IsAtAll (t ∷ ts)
      first rest (inl (ps, e)) = let here = at_nodes t w.0 ps e in later (map Node ps) here.0 here.1 rest
      first rest (inr (code, e)) = inr (
        code,
        refused_of ranged t ts code e,
        refused_of narrow t ts code (filter_is t ∙ ap (λ o. go_on o (λ xs. in_turn (Forms.filtered (at_tuple frame t)) xs (plan_mean p ∷ []))) e),
      )

  -- a `for` and a `where` give what a `for` over the filter gives
  both_are : (ts : List (Tuple Item)) → AllFit known slots ts →
      Forms.for_tuples allowing.No false (plan_mean (plan.Filter range (p ∷ []))) (at_tuple frame) ts f
      ≡ go_on (Forms.for_tuples allowing.No false (plan_mean range) (at_tuple frame) ts f) (λ us. Forms.where_tuples (plan_mean test) (at_tuple frame) us)
  both_are ts w = by (at_all ts w)
    where
      by : IsAtAll ts →
          Forms.for_tuples allowing.No false (plan_mean (plan.Filter range (p ∷ []))) (at_tuple frame) ts f
          ≡ go_on (Forms.for_tuples allowing.No false (plan_mean range) (at_tuple frame) ts f) (λ us. Forms.where_tuples (plan_mean test) (at_tuple frame) us)
      by (inl (lists, others, h)) =
          ap (λ o. go_on o (λ ls. give (expanded Atom false false ts ls))) h.some
          ∙ sym (ap (λ o. go_on (go_on o (λ ls. give (expanded Atom false false ts ls))) (λ us. Forms.where_tuples (plan_mean test) (at_tuple frame) us)) h.all
          ∙ passed_is (λ u. Forms.tested (plan_mean test) (at_tuple frame u)) (expanded Atom false false ts lists) f
          ∙ h.kept [])
      by (inr (code, all, some)) =
          ap (λ o. go_on o (λ ls. give (expanded Atom false false ts ls))) some
          ∙ sym (ap (λ o. go_on (go_on o (λ ls. give (expanded Atom false false ts ls))) (λ us. Forms.where_tuples (plan_mean test) (at_tuple frame) us)) all)

-- # In a list of clauses that are left, the last first

pub range_narrows : (known : List Held) (range test p : Plan) → IsHeld known has.Nodes range → LeavesTrees range → TellsOfNode known test p →
    (rest old new : List PlanClause) → old ≡ (rest ++ clause.Where test ∷ []) ++ clause.For allowing.No false range ∷ [] →
    new ≡ rest ++ clause.For allowing.No false (plan.Filter range (p ∷ [])) ∷ [] → (start : ℕ) → SameRest start known old new
range_narrows known range test p holds leaves tells rest old new was now start slots focus addresses l ts f w =
    let frame = frame_of slots focus addresses in
    let act = next_clause frame in
    let others = map plan_clause_mean (reverse rest) in
    let narrow = clause.For allowing.No false (plan.Filter range (p ∷ [])) in
    let before : reverse old ≡ clause.For allowing.No false range ∷ clause.Where test ∷ reverse rest =
    ap reverse was ∙ reverse-append (rest ++ clause.Where test ∷ []) (clause.For allowing.No false range ∷ [])
    ∙ ap (λ cs. clause.For allowing.No false range ∷ cs) (reverse-append rest (clause.Where test ∷ [])) in
    let after : reverse new ≡ narrow ∷ reverse rest = ap reverse now ∙ reverse-append rest (narrow ∷ []) in
    ap (λ cs. in_turn act ts (map plan_clause_mean cs) f) after
    ∙ ap (λ (m : Frame → List (Tuple Item) → Doing (List (Tuple Item))). go_on (m frame ts f) (λ n. in_turn act n others)) (plan_eq.clause-For allowing.No false (plan.Filter range (p ∷ [])))
    ∙ ap (λ o. go_on o (λ n. in_turn act n others)) (both_are known range test p holds leaves tells slots focus addresses f ts w)
    ∙ turned frame (Forms.for_tuples allowing.No false (plan_mean range) (at_tuple frame) ts f)
    ∙ sym (ap (λ (m : Frame → List (Tuple Item) → Doing (List (Tuple Item))). go_on (m frame ts f) (λ n. in_turn act n (plan_clause_mean (clause.Where test) ∷ others))) (plan_eq.clause-For allowing.No false range))
    ∙ sym (ap (λ cs. in_turn act ts (map plan_clause_mean cs) f) before)
  where
    turned : (frame : Frame) (o : Outcome (List (Tuple Item))) →
        go_on (go_on o (λ us. Forms.where_tuples (plan_mean test) (at_tuple frame) us)) (λ n. in_turn (next_clause frame) n (map plan_clause_mean (reverse rest)))
        ≡ go_on o (λ n. in_turn (next_clause frame) n (plan_clause_mean (clause.Where test) ∷ map plan_clause_mean (reverse rest)))
    turned frame (Ok us, g) =
        ap (λ (m : Frame → List (Tuple Item) → Doing (List (Tuple Item))). go_on (m frame us g) (λ n. in_turn (next_clause frame) n (map plan_clause_mean (reverse rest)))) (sym (plan_eq.clause-Where test))
    turned frame (Err code, g) = refl

-- # Clauses that are left

pub narrows : (known : List Held) (range test p : Plan) → TellsOfNode known test p → (rest new : List PlanClause) →
    new ≡ rest ++ clause.For allowing.No false (plan.Filter range (p ∷ [])) ∷ [] →
    Narrows known range ((rest ++ clause.Where test ∷ []) ++ clause.For allowing.No false range ∷ []) new
narrows known range test p tells rest new now holds leaves = record {
  same = range_narrows known range test p holds leaves tells rest _ new refl now;
  long =
      let a = ap length now in
      let b = length-append rest (clause.For allowing.No false (plan.Filter range (p ∷ [])) ∷ []) in
      let c = length-append (rest ++ clause.Where test ∷ []) (clause.For allowing.No false range ∷ []) in
      let d = length-append rest (clause.Where test ∷ []) in
      omega (arith, a, b, c, d);
}

pub not_narrowed : (known : List Held) (old new : List PlanClause) → new ≡ old → IsNarrower known old new
not_narrowed known old new is = record {
  same = λ start. same_rest start known old new is;
  long = let long = ap length is in omega (arith, long);
}

pub rest_then : (start : ℕ) (known : List Held) (a b c : List PlanClause) → SameRest start known a b → SameRest start known b c → SameRest start known a c
rest_then start known a b c h k slots focus addresses l ts f w =
    k slots focus addresses l ts f w ∙ h slots focus addresses l ts f w
