-- A step with tests from many nodes is the scan from all of them, and the tests on what it finds.
use Rattle.std.proofs.Common.{◌≡◌, ℕ, suc, List, [], ◌∷◌, ◌++◌, map, filter, reverse, length, Bool, true, false, Ok, Err, refl, sym, ap, ◌∙◌, subst, eqb-true, ◌⊎◌, inl, inr}
use Rattle.std.specs.Prelude.{Option, Some, ◌&&◌, if◌then◌else◌}
use Rattle.std.specs.List.{flat_map, list_any}
use Rattle.std.proofs.lemmas.List.{append_assoc, append-nil, map-append, reverse-append, reverse-reverse}
use Rattle.std.proofs.lemmas.List.Concat.{flat_map-cons}
use Rattle.std.proofs.lemmas.List.Elements.{filter-append}
use Rattle.std.proofs.lemmas.Bool.{and_parts}
use Rattle.std.proofs.lemmas.Map.Views.{any-filter_same}
use Rattle.xq_atoms.specs.Text.{Text}
use Rattle.xq_atoms.specs.declared.refusals.Code.{Code}
use Rattle.xq_atoms.specs.declared.refusals.Code.TheVariants.{XPTY0018, XPTY0019}
use Rattle.xq_trees.specs.declared.Axis.{Axis}
use Rattle.xq_trees.specs.declared.Axis.TheVariants as axes
use Rattle.xq_trees.specs.Forest.{end}
use Rattle.xq_trees.specs.Tree.{Tree}
use Rattle.xq_trees.proofs.AxisTable.{on_axis_is}
use Rattle.xq_trees.proofs.Lists.{map_reverse}
use Rattle.xq_meaning.specs.declared.node_tests.Test.{Test}
use Rattle.xq_meaning.specs.Arguments.{all_nodes}
use Rattle.xq_meaning.specs.Doing.{go_on, give, judged, on_trees, in_turn, more, collected}
use Rattle.xq_meaning.specs.Forms
use Rattle.xq_meaning.specs.Functions.{Focus}
use Rattle.xq_meaning.specs.Items.{Item, Node, Place, same_node, is_among, places_from, in_document_order}
use Rattle.xq_meaning.specs.Operators.{keeps, in_order, gathered, nodes_or_atoms}
use Rattle.xq_meaning.specs.PlanMeaning.{Slots, Frame, Meaning}
use Rattle.xq_meaning.specs.Same.{frame_of}
use Rattle.xq_meaning.specs.Steps.{focuses, focuses_from, is_reverse, in_axis_order, axis_nodes}
use Rattle.xq_meaning.proofs.Turns.{go_on_go_on}
use Rattle.xq_optimise.specs.Sure.{on_node, KeepsBy}
use Rattle.xq_optimise.proofs.Scans.{nodes_all, nodes_or_refused, scan_from}

-- # Lists

filter_reverse : {A : Type 0} (k : A → Bool) (xs : List A) → filter k (reverse xs) ≡ reverse (filter k xs)
filter_reverse k [] = refl
filter_reverse k (x ∷ xs) =
    ap (filter k) (reverse-append (x ∷ []) xs)
    ∙ filter-append k (reverse xs) (x ∷ [])
    ∙ ap (λ l. l ++ filter k (x ∷ [])) (filter_reverse k xs)
    ∙ by (k x)
  where
    by : (b : Bool) → reverse (filter k xs) ++ (if b then x ∷ [] else []) ≡ reverse (if b then x ∷ filter k xs else filter k xs)
    by true = sym (reverse-append (x ∷ []) (filter k xs))
    by false = append-nil (reverse (filter k xs))

filter_twice : {A : Type 0} (k l : A → Bool) (xs : List A) → filter l (filter k xs) ≡ filter (λ x. k x && l x) xs
filter_twice k l [] = refl
filter_twice k l (x ∷ xs) = by (k x) (filter_twice k l xs)
  where
    by : (b : Bool) → filter l (filter k xs) ≡ filter (λ y. k y && l y) xs →
        filter l (if b then x ∷ filter k xs else filter k xs) ≡ (if b && l x then x ∷ filter (λ y. k y && l y) xs else filter (λ y. k y && l y) xs)
    by true e = ap (λ ys. if l x then x ∷ ys else ys) e
    by false e = e

filter_all : {A : Type 0} (xs : List A) → filter (λ x. true) xs ≡ xs
filter_all [] = refl
filter_all (x ∷ xs) = ap (λ ys. x ∷ ys) (filter_all xs)

pub filter_like : {A : Type 0} (k l : A → Bool) → ((x : A) → k x ≡ l x) → (xs : List A) → filter k xs ≡ filter l xs
filter_like k l same [] = refl
filter_like k l same (x ∷ xs) = (λ i. if same x i then x ∷ filter_like k l same xs i else filter_like k l same xs i)

-- # Nodes in document order

same_place : (p q : Place) → same_node p q ≡ true → p ≡ q
same_place p q e =
    let parts = and_parts _ _ e in
    let t = eqb-true p.tree q.tree parts.0 in
    let s = (on_axis_is axes.SelfNode end p.path q.path).0 parts.1 in
    (λ i. record { tree = t i; path = s i })

among_kept : (k : Place → Bool) (qs : List Place) (p : Place) → is_among (filter k qs) p ≡ (is_among qs p && k p)
among_kept k qs p =
    any-filter_same (same_node p) k (k p) (λ q e. sym (ap k (same_place p q e))) qs
    ∙ turned (k p) (list_any (same_node p) qs)
  where
    turned : (a b : Bool) → (a && b) ≡ (b && a)
    turned true true = refl
    turned true false = refl
    turned false true = refl
    turned false false = refl

-- those that are kept in document order are kept of those in document order
pub kept_in_order : (k : Place → Bool) (f : List Tree) (qs : List Place) →
    in_document_order f (filter k qs) ≡ filter k (in_document_order f qs)
kept_in_order k f qs =
    filter_like (is_among (filter k qs)) (λ p. is_among qs p && k p) (among_kept k qs) (places_from 0 f)
    ∙ sym (filter_twice (is_among qs) k (places_from 0 f))

-- # Tests at each of some nodes

module _ (slots : Slots) (addresses : List Text) (f : List Tree) where
  abbrev frame : Option Focus → Frame
  frame focus = frame_of slots focus addresses

  -- the part has this truth with each node in focus, whatever its position is
  abbrev pub Told : Meaning → (Place → Bool) → Type 0
  Told m k = KeepsBy slots addresses f m (λ p position. k p)

  -- each of the parts has
  abbrev pub AllTold : List Meaning → (Place → Bool) → Type 0
  AllTold [] k = (p : Place) → k p ≡ true
  AllTold (m ∷ ms) k =
      (first : Place → Bool) × (rest : Place → Bool) × Told m first × AllTold ms rest
      × ((p : Place) → k p ≡ (first p && rest p))

  passed_told : (focus : Option Focus) (m : Meaning) (k : Place → Bool) → Told m k → (p : Place) (position last : ℕ) →
      Forms.passed m (frame focus) (on_node p position last) f ≡ (Ok (Forms.kept_if (Node p) (k p)), f)
  passed_told focus m k told p position last =
      sym (go_on_go_on (m (frame (Some (on_node p position last))) f) (λ value. judged (keeps position value)) (λ keep. give (Forms.kept_if (Node p) keep)))
      ∙ ap (λ o. go_on o (λ keep. give (Forms.kept_if (Node p) keep))) (told p position last).1

  kept_next : (p : Place) (rest : List Place) (b : Bool) (done : List Item) →
      (done ++ Forms.kept_if (Node p) b) ++ map Node rest ≡ done ++ map Node (if b then p ∷ rest else rest)
  kept_next p rest true done = append_assoc done (Node p ∷ []) (map Node rest)
  kept_next p rest false done = ap (λ l. l ++ map Node rest) (append-nil done)

  filtered_from : (focus : Option Focus) (m : Meaning) (k : Place → Bool) → Told m k → (ps : List Place) (done : List Item) (position last : ℕ) →
      in_turn (more (Forms.passed m (frame focus))) done (focuses_from position last (map Node ps)) f
      ≡ (Ok (done ++ map Node (filter k ps)), f)
  filtered_from focus m k told [] done position last = ap (λ l. (Ok l, f)) (sym (append-nil done))
  filtered_from focus m k told (p ∷ ps) done position last =
      ap (λ o. go_on (go_on o (λ ys. give (done ++ ys))) (λ n. in_turn (more (Forms.passed m (frame focus))) n (focuses_from (suc position) last (map Node ps)))) (passed_told focus m k told p position last)
      ∙ filtered_from focus m k told ps (done ++ Forms.kept_if (Node p) (k p)) (suc position) last
      ∙ ap (λ l. (Ok l, f)) (kept_next p (filter k ps) (k p) done)

  -- what all of them keep of nodes
  pub all_kept : (focus : Option Focus) (ms : List Meaning) (k : Place → Bool) → AllTold ms k → (ps : List Place) →
      in_turn (Forms.filtered (frame focus)) (map Node ps) ms f ≡ (Ok (map Node (filter k ps)), f)
  all_kept focus [] k told ps =
      ap (λ qs. (Ok (map Node qs), f)) (sym (filter_like k (λ p. true) told ps ∙ filter_all ps))
  all_kept focus (m ∷ ms) k (first, rest, this, those, both) ps =
      ap (λ o. go_on o (λ xs. in_turn (Forms.filtered (frame focus)) xs ms)) (filtered_from focus m first this ps [] 1 (length (map Node ps)))
      ∙ all_kept focus ms rest those (filter first ps)
      ∙ ap (λ qs. (Ok (map Node qs), f)) (filter_twice first rest ps ∙ sym (filter_like k (λ p. first p && rest p) both ps))

  -- # A step

  ordered_twice : (b : Bool) (k : Place → Bool) (ps : List Place) →
      (if b then reverse (map Node (filter k (if b then reverse ps else ps))) else map Node (filter k (if b then reverse ps else ps)))
      ≡ map Node (filter k ps)
  ordered_twice true k ps =
      sym (map_reverse Node (filter k (reverse ps)))
      ∙ ap (map Node) (sym (filter_reverse k (reverse ps)) ∙ ap (filter k) (reverse-reverse ps))
  ordered_twice false k ps = refl

  step_from : (axis : Axis) (test : Test) (ms : List Meaning) (k : Place → Bool) → AllTold ms k → (p : Place) (position last : ℕ) →
      Forms.step axis test ms (frame (Some (on_node p position last))) f ≡ (Ok (map Node (filter k (axis_nodes f axis test p))), f)
  step_from axis test ms k told p position last =
      ap (λ o. go_on o (λ ys. give (in_axis_order axis ys))) (all_kept (Some (on_node p position last)) ms k told (in_axis_order axis (axis_nodes f axis test p)))
      ∙ ap (λ xs. (Ok xs, f)) (ordered_twice (is_reverse axis) k (axis_nodes f axis test p))

  -- from one node after another
  steps_from : (axis : Axis) (wanted : Test) (ms : List Meaning) (k : Place → Bool) → AllTold ms k → (focus : Option Focus) (ps : List Place) (done : List Item) (position last : ℕ) →
      in_turn (more (λ spot. Forms.step axis wanted ms (Forms.in_focus (frame focus) spot))) done (focuses_from position last (map Node ps)) f
      ≡ (Ok (done ++ map Node (filter k (flat_map (axis_nodes f axis wanted) ps))), f)
  steps_from axis wanted ms k told focus [] done position last = ap (λ l. (Ok l, f)) (sym (append-nil done))
  steps_from axis wanted ms k told focus (p ∷ ps) done position last =
      let here = axis_nodes f axis wanted p in
      let later = flat_map (axis_nodes f axis wanted) ps in
      ap (λ o. go_on (go_on o (λ ys. give (done ++ ys))) (λ n. in_turn (more (λ spot. Forms.step axis wanted ms (Forms.in_focus (frame focus) spot))) n (focuses_from (suc position) last (map Node ps)))) (step_from axis wanted ms k told p position last)
      ∙ steps_from axis wanted ms k told focus ps (done ++ map Node (filter k here)) (suc position) last
      ∙ ap (λ l. (Ok l, f)) (append_assoc done (map Node (filter k here)) (map Node (filter k later))
      ∙ ap (λ l. done ++ l) (sym (map-append Node (filter k here) (filter k later))
      ∙ ap (map Node) (sym (filter-append k here later) ∙ ap (filter k) (sym (flat_map-cons (axis_nodes f axis wanted) p ps)))))

  gathered_nodes : (qs : List Place) → gathered f (map Node qs) ≡ Ok (in_order f qs)
  gathered_nodes qs = ap (nodes_or_atoms f (map Node qs)) (nodes_all XPTY0018 qs)

  from_nodes : (axis : Axis) (test : Test) (ms : List Meaning) (k : Place → Bool) → AllTold ms k → (focus : Option Focus) (ps : List Place) →
      Forms.slash (frame focus) (map Node ps) (Forms.step axis test ms) f
      ≡ go_on (Forms.scan axis test (map Node ps) f) (λ xs. in_turn (Forms.filtered (frame focus)) xs ms)
  from_nodes axis test ms k told focus ps =
      let all = flat_map (axis_nodes f axis test) ps in
      ap (λ r. go_on (judged r f) (λ places g. go_on (collected (λ spot. Forms.step axis test ms (Forms.in_focus (frame focus) spot)) (focuses (map Node ps)) g) (λ ys. on_trees (λ trees. gathered trees ys)))) (nodes_all XPTY0019 ps)
      ∙ ap (λ o. go_on o (λ ys. on_trees (λ trees. gathered trees ys))) (steps_from axis test ms k told focus ps [] 1 (length (map Node ps)))
      ∙ ap (λ r. (r, f)) (gathered_nodes (filter k all))
      ∙ ap (λ qs. (Ok (map Node qs), f)) (kept_in_order k f all)
      ∙ sym (ap (λ o. go_on o (λ xs. in_turn (Forms.filtered (frame focus)) xs ms)) (scan_from axis test ps f)
      ∙ all_kept focus ms k told (in_document_order f all))

  -- from any items: those that are no nodes are refused alike
  pub step_scans : (axis : Axis) (test : Test) (ms : List Meaning) (k : Place → Bool) → AllTold ms k → (focus : Option Focus) (xs : List Item) →
      Forms.slash (frame focus) xs (Forms.step axis test ms) f
      ≡ go_on (Forms.scan axis test xs f) (λ ys. in_turn (Forms.filtered (frame focus)) ys ms)
  step_scans axis test ms k told focus xs = by (nodes_or_refused xs)
    where
      by : ((ps : List Place) × (xs ≡ map Node ps)) ⊎ ((code : Code) → all_nodes code xs ≡ Err code) →
          Forms.slash (frame focus) xs (Forms.step axis test ms) f
          ≡ go_on (Forms.scan axis test xs f) (λ ys. in_turn (Forms.filtered (frame focus)) ys ms)
      by (inl (ps, is)) =
          subst (λ ys. Forms.slash (frame focus) ys (Forms.step axis test ms) f ≡ go_on (Forms.scan axis test ys f) (λ zs. in_turn (Forms.filtered (frame focus)) zs ms))
          (sym is) (from_nodes axis test ms k told focus ps)
      by (inr refused) =
          ap (λ r. go_on (judged r f) (λ places g. go_on (collected (λ spot. Forms.step axis test ms (Forms.in_focus (frame focus) spot)) (focuses xs) g) (λ ys. on_trees (λ trees. gathered trees ys)))) (refused XPTY0019)
          ∙ sym (ap (λ r. go_on (go_on (judged r f) (λ places. on_trees (λ trees. Ok (in_order trees (flat_map (axis_nodes trees axis test) places))))) (λ ys. in_turn (Forms.filtered (frame focus)) ys ms)) (refused XPTY0019))
