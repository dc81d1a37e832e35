-- Scans one after another, from places to places in one tree.
use Rattle.std.proofs.Common.{◌≡◌, ℕ, suc, ◌+◌, ◌*◌, ◌<◌, ◌≤◌, List, [], ◌∷◌, map, take, length, get_or, Ok, refl, sym, ◌∙◌, ap, subst, arith, ◌-◌, ◌++◌, inr, drop}
use Rattle.std.specs.List.{flat_map}
use Rattle.std.proofs.Math.Nat.{add-mul, mul-le-mul_right}
use Rattle.std.proofs.lemmas.List.{map-append, take_more, length-map, get_or-map, length-drop, take-append-drop}
use Rattle.xq_axes.specs.Many.{spot, AreReached}
use Rattle.xq_axes.specs.Nodes.{HaveAll}
use Rattle.xq_axes.specs.Scans.{region, rows_from, places_of}
use Rattle.xq_trees.specs.declared.Axis.{Axis}
use Rattle.xq_trees.specs.declared.items.Node.{Node as Spot}
use Rattle.xq_trees.specs.Items.{Place as NodeAt, ItemView}
use Rattle.xq_trees.specs.Rising.{AreRising, document_order}
use Rattle.xq_trees.specs.Tree.{Tree}
use Rattle.xq_trees.proofs.Rising.{rising_none, rising_more, order_less}
use Rattle.xq_sources.specs.Meters.{Readings, SeesAtMost}
use Rattle.xq_sources.specs.Sources.{tree_at, HasNode}
use Rattle.xq_meaning.specs.declared.node_tests.Test.{Test}
use Rattle.xq_meaning.specs.declared.plans.PlanStep.{PlanStep}
use Rattle.xq_meaning.specs.declared.plans.PlanStep.TheVariants as step
use Rattle.xq_atoms.specs.declared.refusals.Code.TheVariants.{XPTY0019}
use Rattle.xq_meaning.specs.Arguments.{all_nodes}
use Rattle.xq_meaning.specs.Doing.{in_turn, go_on}
use Rattle.xq_meaning.specs.Forms as Forms
use Rattle.xq_meaning.specs.Items.{Item, Node, in_document_order}
use Rattle.xq_meaning.specs.PlanMeaning.{Frame, plan_step_mean, next_step}
use Rattle.xq_meaning.specs.Readings.{node_at, items_at, item_at, AreIn}
use Rattle.xq_meaning.specs.Steps.{axis_nodes}
use Rattle.xq_meaning.proofs.PlanEquations.{step-Scan}
use Rattle.xq_meaning.proofs.PathLemmas.{map-map}
use Rattle.xq_meaning.proofs.Turns.{last_turn, in_turn-append}
use Rattle.std.specs.declared.cmp.Ordering.TheVariants.{Less}
use Rattle.xq_trees.specs.declared.Axis.TheVariants.{Child, Descendant, DescendantOrSelf}
use Rattle.xq_meaning.specs.declared.node_tests.Test.TheVariants.{Any}
use Rattle.xq_axes.specs.DoubleSlash.{after_double_slash as after_places, AreAfterDoubleSlash}
use Rattle.xq_operators.specs.private.InTree.{AreInTree}
use Rattle.xq_operators.specs.Nodes.{nodes_among}
use Rattle.xq_operators.specs.Reads.{rows_of, AreOf, HasGrown}
use Rattle.xq_operators.specs.Runs.{views_of, ScansGive}
use Rattle.xq_operators.specs.Views.{forget, nodes_in}
use Rattle.xq_operators.proofs.NodeLemmas.{among_places, all_places, scan_gives, among_in, double_slash_gives}
use Rattle.xq_operators.proofs.OneTree.{step_grown, step_found, of_in, double_slash_grown, double_slash_found}

-- the nodes of a tree at these places
abbrev pub spots : ℕ → List ℕ → List Spot
spots tree places = map (spot tree) places

places_back : (tree : ℕ) (places : List ℕ) → places_of (spots tree places) ≡ places
places_back tree [] = refl
places_back tree (p ∷ ps) = ap (λ l. p ∷ l) (places_back tree ps)

pub views_are : (tree : ℕ) (places : List ℕ) → views_of tree places ≡ map NodeAt (spots tree places)
views_are tree places = sym (map-map NodeAt (spot tree) places)

pub among_views : (tree : ℕ) (places : List ℕ) → spots tree places ≡ nodes_among (views_of tree places)
among_views tree places = sym (ap nodes_among (views_are tree places) ∙ among_places (spots tree places))

-- one node rises
pub one_rises : (n : Spot) → AreRising (n ∷ [])
one_rises n = rising_more [] n n rising_none (λ i k. absurd (omega (arith, k)))

pub one_of_tree : (trees : List Tree) (n : Spot) → HasNode trees n.tree n.pre → AreOf trees n.tree (NodeAt n ∷ [])
one_of_tree trees n h = record {
  has_tree = h.tree_in;
  of_tree = ((refl, h.node_in), tt);
  few = (let l = h.node_in in omega (arith, l));
}

-- where scans lead, and that the next one may start there
pub record IsReached (trees : List Tree) (n : Spot) (steps : List PlanStep) (places : List ℕ) : Type 0 where
  pub there : HaveAll trees (spots n.tree places)
  pub rising : AreRising (spots n.tree places)
  pub gives : ScansGive trees n steps (views_of n.tree places)

-- # No step, and one step more

pub no_step : (trees : List Tree) (n : Spot) (steps : List PlanStep) (places : List ℕ) → HasNode trees n.tree n.pre → places ≡ n.pre ∷ [] → IsReached trees n (take 0 steps) places
no_step trees n steps places h e = subst (IsReached trees n []) (sym e) (record {
  there = (h, tt);
  rising = one_rises n;
  gives = record {
    there = (h, tt);
    of_tree = one_of_tree trees n h;
    value = λ frame. refl;
  };
})

module _ (trees : List Tree) (n : Spot) (steps : List PlanStep) (i : ℕ) (places : List ℕ) (before : IsReached trees n (take i steps) places) where
  all_nodes_there : forget (all_nodes XPTY0019 (items_at trees (views_of n.tree places))) ≡ Ok tt
  all_nodes_there = ap (λ vs. forget (all_nodes XPTY0019 (items_at trees vs))) (views_are n.tree places) ∙ all_places trees (spots n.tree places)

  -- the step after those taken
  next_taken : (d : PlanStep) → i < length steps → (frame : Frame) → in_turn (next_step frame) (Node (node_at trees n) ∷ []) (map plan_step_mean (take (i + 1) steps)) trees ≡ next_step frame (items_at trees (views_of n.tree places)) (plan_step_mean (get_or steps i d)) trees
  next_taken d within frame =
      let from : List Item = Node (node_at trees n) ∷ [] in
      let s = get_or steps i d in
      ap (λ ss. in_turn (next_step frame) from (map plan_step_mean ss) trees) (take_more steps i d within)
      ∙ ap (λ ms. in_turn (next_step frame) from ms trees) (map-append plan_step_mean (take i steps) (s ∷ []))
      ∙ last_turn (next_step frame) from (map plan_step_mean (take i steps)) (plan_step_mean s) trees
      ∙ ap (λ o. go_on o (λ xs. next_step frame xs (plan_step_mean s))) (before.gives.value frame)

  pub one_step : (x : PlanStep) (axis : Axis) (test : Test) (found : List ℕ) → i < length steps → x ≡ get_or steps i x → x ≡ step.Scan axis test → AreReached trees axis test n.tree places found → IsReached trees n (take (i + 1) steps) found
  one_step x axis test found within is scan reached =
      let views = views_of n.tree places in
      let new = views_of n.tree found in
      let ms = spots n.tree found in
      let among = among_views n.tree places in
      let are = views_are n.tree found in
      let in_order = reached.in_order ∙ ap (λ ks. in_document_order trees (flat_map (axis_nodes trees axis test) (map (node_at trees) ks))) among in
      let given = scan_gives trees axis test views ms new all_nodes_there in_order reached.there are in
      record {
        there = reached.there;
        rising = reached.rising;
        gives = record {
          there = given.0;
          of_tree = step_found trees n.tree views (spots n.tree places) among before.gives.of_tree axis test ms new reached.in_order reached.there reached.rising are;
          value = λ frame.
              next_taken x within frame
              ∙ ap (λ s. next_step frame (items_at trees views) (plan_step_mean s) trees) (sym is ∙ scan)
              ∙ ap (λ m. next_step frame (items_at trees views) m trees) (step-Scan axis test)
              ∙ given.1;
        };
      }

  -- `//` and a step to children
  pub two_steps : (d : PlanStep) (test : Test) (found : List ℕ) → i + 1 < length steps → get_or steps i d ≡ step.Scan DescendantOrSelf Any → get_or steps (i + 1) d ≡ step.Scan Child test → AreAfterDoubleSlash trees test n.tree places found → IsReached trees n (take (i + 2) steps) found
  two_steps d test found within slashes children reached =
      let views = views_of n.tree places in
      let new = views_of n.tree found in
      let ms = spots n.tree found in
      let among = among_views n.tree places in
      let are = views_are n.tree found in
      let from : List Item = Node (node_at trees n) ∷ [] in
      let s = get_or steps (i + 1) d in
      let two : i + 2 ≡ i + 1 + 1 = omega arith in
      let in_order = reached.in_order ∙ ap (λ ks. after_places trees test (map (node_at trees) ks)) among in
      let given = double_slash_gives trees test views ms new all_nodes_there in_order reached.there are in
      record {
        there = reached.there;
        rising = reached.rising;
        gives = record {
          there = given.0;
          of_tree = double_slash_found trees n.tree views (spots n.tree places) among before.gives.of_tree test ms new reached.in_order reached.there reached.rising are;
          value = λ frame.
              ap (λ k. in_turn (next_step frame) from (map plan_step_mean (take k steps)) trees) two
              ∙ ap (λ ss. in_turn (next_step frame) from (map plan_step_mean ss) trees) (take_more steps (i + 1) d within)
              ∙ ap (λ ms. in_turn (next_step frame) from ms trees) (map-append plan_step_mean (take (i + 1) steps) (s ∷ []))
              ∙ last_turn (next_step frame) from (map plan_step_mean (take (i + 1) steps)) (plan_step_mean s) trees
              ∙ ap (λ o. go_on o (λ xs. next_step frame xs (plan_step_mean s))) (next_taken d (omega (arith, within)) frame
              ∙ ap (λ t. next_step frame (items_at trees views) (plan_step_mean t) trees) slashes
              ∙ ap (λ m. next_step frame (items_at trees views) m trees) (step-Scan DescendantOrSelf Any))
              ∙ ap (λ t. go_on (Forms.scan DescendantOrSelf Any (items_at trees views) trees) (λ xs. next_step frame xs (plan_step_mean t))) children
              ∙ ap (λ m. go_on (Forms.scan DescendantOrSelf Any (items_at trees views) trees) (λ xs. next_step frame xs m)) (step-Scan Child test)
              ∙ given.1;
        };
      }

  -- # What they read

  pub step_reads : (axis : Axis) (start now after : Readings) → HasGrown start now (i * rows_of trees n.tree)
      → after.rows ≤ now.rows + length (region axis (tree_at trees n.tree) places) → after.singles ≤ now.singles + length places
      → SeesAtMost now after (rows_from (tree_at trees n.tree) places) → HasGrown start after ((i + 1) * rows_of trees n.tree)
  step_reads axis start now after so_far rows singles sees =
      let ns = spots n.tree places in
      let views = views_of n.tree places in
      let r = rows_of trees n.tree in
      let back = places_back n.tree places in
      let many = ap length back in
      let rows_here : after.rows ≤ now.rows + length (region axis (tree_at trees n.tree) (places_of ns)) = subst (λ ps. after.rows ≤ now.rows + length (region axis (tree_at trees n.tree) ps)) (sym back) rows in
      let singles_here : after.singles ≤ now.singles + length ns = omega (arith, singles, length_spots n.tree places) in
      let more = step_grown trees n.tree views ns (among_views n.tree places) before.gives.of_tree axis now after rows_here singles_here (subst (λ ps. SeesAtMost now after (rows_from (tree_at trees n.tree) ps)) (sym back) sees) in
      let sum = add-mul i 1 r in
      record { rows = omega (arith, so_far.rows, more.rows, sum); singles = omega (arith, so_far.singles, more.singles, sum); sees = omega (arith, so_far.sees, more.sees, sum) }
    where
      length_spots : (tree : ℕ) (ps : List ℕ) → length (spots tree ps) ≡ length ps
      length_spots tree [] = refl
      length_spots tree (p ∷ ps) = ap suc (length_spots tree ps)

  pub two_steps_read : (start now after : Readings) → HasGrown start now (i * rows_of trees n.tree)
      → after.rows ≤ now.rows + length (region Descendant (tree_at trees n.tree) places) → after.singles ≤ now.singles + 2 * length places
      → SeesAtMost now after (rows_from (tree_at trees n.tree) places) → HasGrown start after ((i + 2) * rows_of trees n.tree)
  two_steps_read start now after so_far rows singles sees =
      let ns = spots n.tree places in
      let r = rows_of trees n.tree in
      let many = length-map places (spot n.tree) in
      let rows_here : after.rows ≤ now.rows + length (region Descendant (tree_at trees n.tree) (places_of ns)) = subst (λ ps. after.rows ≤ now.rows + length (region Descendant (tree_at trees n.tree) ps)) (sym (places_back n.tree places)) rows in
      let more = double_slash_grown trees n.tree (views_of n.tree places) ns (among_views n.tree places) before.gives.of_tree now after rows_here (omega (arith, singles, many)) (subst (λ ps. SeesAtMost now after (rows_from (tree_at trees n.tree) ps)) (sym (places_back n.tree places)) sees) in
      let sum = add-mul i 2 r in
      record { rows = omega (arith, so_far.rows, more.rows, sum); singles = omega (arith, so_far.singles, more.singles, sum); sees = omega (arith, so_far.sees, more.sees, sum) }

-- a bound on fewer steps is one on all
pub reads_within : (before after : Readings) (i k r : ℕ) → i ≤ k → HasGrown before after (i * r) → HasGrown before after (k * r)
reads_within before after i k r le h =
    let most = mul-le-mul_right r le in
    record { rows = omega (arith, h.rows, most); singles = omega (arith, h.singles, most); sees = omega (arith, h.sees, most) }

-- # From items that are nodes of one tree

-- one place more, after the others
pub next_rises : (tree : ℕ) (places : List ℕ) (place : ℕ) → (0 < length places → get_or places (length places - 1) 0 < place) → AreRising (spots tree places) → AreRising (spots tree (places ++ place ∷ []))
next_rises tree places place last up =
    subst AreRising (sym (map-append (spot tree) places (place ∷ [])))
    (rising_more (spots tree places) (spot tree place) (spot tree place) up (λ i e.
    let many = length-map places (spot tree) in
    let less = last (omega (arith, e, many)) in
    let at : i ≡ length places - 1 = omega (arith, e, many) in
    let is : get_or (spots tree places) i (spot tree place) ≡ spot tree (get_or places i 0) = get_or-map (spot tree) places i 0 (spot tree place) (omega (arith, e, many)) in
    subst (λ n. document_order n (spot tree place) ≡ Less) (sym is)
    (order_less (spot tree (get_or places i 0)) (spot tree place) (inr (refl, subst (λ j. get_or places j 0 < place) (sym at) less)))))

same_tree : (f : List Tree) (tree t : ℕ) (places : List ℕ) → 0 < length places → AreOf f tree (views_of t places) → t ≡ tree
same_tree f tree t [] some h = absurd (omega (arith, some))
same_tree f tree t (p ∷ ps) some h = h.of_tree.0.0

module _ (f : List Tree) (t : ℕ) (places : List ℕ) (views : List ItemView) (in_tree : AreInTree t places views) where
  pub contexts_are : spots t places ≡ nodes_among views
  contexts_are = among_views t places ∙ ap nodes_among (sym in_tree.are)

  pub contexts_in : AreIn f views → HaveAll f (spots t places)
  contexts_in inside = subst (HaveAll f) (sym contexts_are) (among_in f views inside)

  pub in_tree_gives : (axis : Axis) (test : Test) (found : List ℕ) (items : List ItemView) → AreReached f axis test t places found → items ≡ views_of t found
      → AreIn f items × (Forms.scan axis test (items_at f views) f ≡ (Ok (items_at f items), f))
  in_tree_gives axis test found items reached is =
      let all = ap (λ vs. forget (all_nodes XPTY0019 (items_at f vs))) (in_tree.are ∙ views_are t places) ∙ all_places f (spots t places) in
      let step = reached.in_order ∙ ap (λ ks. in_document_order f (flat_map (axis_nodes f axis test) (map (node_at f) ks))) contexts_are in
      scan_gives f axis test views (spots t found) items all step reached.there (is ∙ views_are t found)

  module _ (tree : ℕ) (h : AreOf f tree views) where
    pub is_tree : t ≡ tree
    is_tree = same_tree f tree t places in_tree.some (subst (AreOf f tree) in_tree.are h)

    pub in_tree_inside : AreIn f views
    in_tree_inside = of_in f tree views h.has_tree h.of_tree

    pub in_tree_reads : (axis : Axis) (before after : Readings) → after.rows ≤ before.rows + length (region axis (tree_at f t) places) → after.singles ≤ before.singles + length places
        → SeesAtMost before after (rows_from (tree_at f t) places) → HasGrown before after (rows_of f tree)
    in_tree_reads axis before after rows singles sees =
        let back = places_back t places in
        let many = length-map places (spot t) in
        step_grown f tree views (spots t places) contexts_are h axis before after
        (subst (λ ps. after.rows ≤ before.rows + length (region axis (tree_at f tree) ps)) (sym back) (subst (λ n. after.rows ≤ before.rows + length (region axis (tree_at f n) places)) is_tree rows))
        (omega (arith, singles, many))
        (subst (λ ps. SeesAtMost before after (rows_from (tree_at f tree) ps)) (sym back) (subst (λ n. SeesAtMost before after (rows_from (tree_at f n) places)) is_tree sees))

    pub in_tree_found : (axis : Axis) (test : Test) (found : List ℕ) (items : List ItemView) → AreReached f axis test t places found → items ≡ views_of t found → AreOf f tree items
    in_tree_found axis test found items reached is =
        step_found f tree views (spots t places) contexts_are h axis test (spots t found) items reached.in_order reached.there reached.rising (is ∙ views_are t found)

-- nodes at places, as items
pub views_read : (trees : List Tree) (tree : ℕ) (places : List ℕ) → items_at trees (views_of tree places) ≡ nodes_in trees tree places
views_read trees tree places = map-map (item_at trees) (λ p. NodeAt (spot tree p)) places

-- # For the steps that come after these

module _ (f : List Tree) (n : Spot) (steps : List PlanStep) (k : ℕ) (views : List ItemView) (gives : ScansGive f n (take k steps) views) where
  pub go_on_scans : (frame : Frame) → in_turn (next_step frame) (Node (node_at f n) ∷ []) (map plan_step_mean steps) f ≡ in_turn (next_step frame) (items_at f views) (map plan_step_mean (drop k steps)) f
  go_on_scans frame =
      let from : List Item = Node (node_at f n) ∷ [] in
      let rest = map plan_step_mean (drop k steps) in
      ap (λ ss. in_turn (next_step frame) from (map plan_step_mean ss) f) (sym (take-append-drop k steps))
      ∙ ap (λ ms. in_turn (next_step frame) from ms f) (map-append plan_step_mean (take k steps) (drop k steps))
      ∙ in_turn-append (next_step frame) from (map plan_step_mean (take k steps)) rest f
      ∙ ap (λ o. go_on o (λ xs. in_turn (next_step frame) xs rest)) (gives.value frame)

  pub scans_read : (start now after : Readings) → k ≤ length steps → HasGrown start now (k * rows_of f n.tree) → HasGrown now after (length (drop k steps) * rows_of f n.tree)
      → HasGrown start after (length steps * rows_of f n.tree)
  scans_read start now after within first rest =
      let r = rows_of f n.tree in
      let m = length (drop k steps) in
      let all : length steps ≡ k + m = (let d = length-drop k steps in omega (arith, d, within)) in
      let sum = add-mul k m r in
      let whole = ap (λ l. l * r) all in
      record { rows = omega (arith, first.rows, rest.rows, sum, whole); singles = omega (arith, first.singles, rest.singles, sum, whole); sees = omega (arith, first.sees, rest.sees, sum, whole) }
