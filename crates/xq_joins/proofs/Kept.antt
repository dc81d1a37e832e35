-- What a predicate keeps that says of the nodes of some trees whether they pass: of items, and after `//`.
use Rattle.std.proofs.Common.{◌≡◌, ℕ, suc, List, [], ◌∷◌, ◌++◌, length, map, Bool, true, false, cond, ◌&&◌, ◌||◌, Ok, Err, refl, sym, ◌∙◌, ap, subst, append_assoc}
use Rattle.std.specs.Prelude.{filter, IfOk}
use Rattle.std.specs.List.{AllByRecursion, flat_map, list_any}
use Rattle.std.proofs.lemmas.Bool.{and_parts, eqb-true}
use Rattle.std.proofs.lemmas.List.{append-nil, map-append}
use Rattle.std.proofs.lemmas.List.Elements.{filter-append}
use Rattle.xq_atoms.specs.Judged.{Judged}
use Rattle.xq_atoms.specs.declared.refusals.Code.TheVariants.{XPTY0018, XPTY0019}
use Rattle.xq_trees.specs.Forest.{end}
use Rattle.xq_trees.specs.Items.{ItemView, Place as NodeAt, Value}
use Rattle.xq_trees.specs.Tree.{Tree}
use Rattle.xq_trees.specs.Tuples.{Tuple}
use Rattle.xq_trees.specs.declared.Axis.{Axis}
use Rattle.xq_trees.specs.declared.Axis.TheVariants as axis
use Rattle.xq_trees.specs.declared.items.Node.{Node as Spot}
use Rattle.xq_trees.proofs.AxisTable.{on_axis_is}
use Rattle.xq_trees.proofs.Lists.{all_append, all_filter}
use Rattle.xq_meaning.specs.declared.node_tests.Test.{Test}
use Rattle.xq_meaning.specs.declared.node_tests.Test.TheVariants as test
use Rattle.xq_meaning.specs.declared.plans.Plan.{Plan}
use Rattle.xq_meaning.specs.Arguments.{all_nodes}
use Rattle.xq_meaning.specs.Doing.{Doing, Outcome, ◌>>=◌, go_on, give, judged, on_trees, in_turn, more, collected}
use Rattle.xq_meaning.specs.Forms as Forms
use Rattle.xq_meaning.specs.Functions.{Focus}
use Rattle.xq_meaning.specs.Items.{Place, Item, Node, place, same_node, is_among, places_from, in_document_order}
use Rattle.xq_meaning.specs.Operators.{in_order, gathered, nodes_or_atoms, keeps}
use Rattle.xq_meaning.specs.PlanMeaning.{Frame, Meaning, plan_mean}
use Rattle.xq_meaning.specs.Readings.{node_at, items_at}
use Rattle.xq_meaning.specs.Steps.{axis_nodes, focuses, focuses_from, in_axis_order, passes_at}
use Rattle.xq_meaning.proofs.PathLemmas.{filter-map}
use Rattle.xq_axes.proofs.AxisNodes.{filter_agree, some_of}
use Rattle.xq_axes.proofs.Merging.{any_filter}
use Rattle.xq_axes.specs.DoubleSlash.{selves_and_below}
use Rattle.xq_operators.proofs.NodeLemmas.{are_nodes, items_read}
use Rattle.xq_operators.specs.Views.{tuple_at, after_double_slash}
use Rattle.xq_operators.specs.Nodes.{nodes_among}
use Rattle.xq_joins.specs.Equalities.{on_nodes, at_node, Asks, Keeps, IsNodeOf}
use Rattle.xq_joins.specs.Keys.{IsNode}
use Rattle.xq_joins.proofs.Found.{are_places}

pub kept_more : {A : Type 0} (done : List A) (x : A) (xs : List A) (b : Bool) → (done ++ Forms.kept_if x b) ++ xs ≡ done ++ cond b (x ∷ xs) xs
kept_more done x xs true = append_assoc done (x ∷ []) xs
kept_more done x xs false = ap (λ l. l ++ xs) (append-nil done)

filter-flat : {A B : Type 0} (h : B → Bool) (g : A → List B) (xs : List A) → flat_map (λ x. filter h (g x)) xs ≡ filter h (flat_map g xs)
filter-flat h g [] = refl
filter-flat h g (x ∷ xs) = ap (λ l. filter h (g x) ++ l) (filter-flat h g xs) ∙ sym (filter-append h (g x) (flat_map g xs))

-- # The trees of nodes

same_is : (x y : Place) → same_node x y ≡ true → x ≡ y
same_is x y e =
    let two = and_parts _ _ e in
    let tree = eqb-true x.tree y.tree two.0 in
    let path = (on_axis_is axis.SelfNode end x.path y.path).0 two.1 in
    λ i. record { tree = tree i; path = path i }

module _ (among : ℕ → Type 0) where
  -- the tree of the node has one of the numbers
  abbrev pub In : Place → Type 0
  In q = among q.tree

  pub all_placed : (n : ℕ) (ws : List (List ℕ)) → among n → AllByRecursion In (map (place n) ws)
  all_placed n [] h = tt
  all_placed n (w ∷ ws) h = (h, all_placed n ws h)

  pub axis_in : (f : List Tree) (a : Axis) (of : Test) (q : Place) → In q → AllByRecursion In (axis_nodes f a of q)
  axis_in f a of q h = all_filter In (passes_at f of) (map (place q.tree) _) (all_placed q.tree _ h)

  pub each_in : (f : List Tree) (a : Axis) (of : Test) (qs : List Place) → AllByRecursion In qs → AllByRecursion In (flat_map (axis_nodes f a of) qs)
  each_in f a of [] h = tt
  each_in f a of (q ∷ qs) h = all_append In (axis_nodes f a of q) (flat_map (axis_nodes f a of) qs) (axis_in f a of q h.0) (each_in f a of qs h.1)

  among_in : (ys : List Place) → AllByRecursion In ys → (x : Place) → is_among ys x ≡ true → In x
  among_in ys all x e =
      let w = some_of In (same_node x) ys all e in
      subst In (sym (same_is x w.item w.passes)) w.has

  those_in : (ys : List Place) → AllByRecursion In ys → (xs : List Place) → AllByRecursion In (filter (is_among ys) xs)
  those_in ys all [] = tt
  those_in ys all (x ∷ xs) = by (is_among ys x) refl (those_in ys all xs)
    where
      by : (b : Bool) → is_among ys x ≡ b → AllByRecursion In (filter (is_among ys) xs) → AllByRecursion In (cond b (x ∷ filter (is_among ys) xs) (filter (is_among ys) xs))
      by true e rest = (among_in ys all x e, rest)
      by false e rest = rest

  pub ordered_in : (f : List Tree) (ys : List Place) → AllByRecursion In ys → AllByRecursion In (in_document_order f ys)
  ordered_in f ys all = those_in ys all (places_from 0 f)

  pub nodes_in : (f : List Tree) (xs : List ItemView) → AllByRecursion (IsNodeOf among) xs → AllByRecursion In (map (node_at f) (nodes_among xs))
  nodes_in f [] h = tt
  nodes_in f (NodeAt n ∷ xs) h = (h.0, nodes_in f xs h.1)
  nodes_in f (Value a ∷ xs) h = absurd h.0

  pub of_nodes : (xs : List ItemView) → AllByRecursion (IsNodeOf among) xs → AllByRecursion IsNode xs
  of_nodes [] h = tt
  of_nodes (NodeAt n ∷ xs) h = (tt, of_nodes xs h.1)
  of_nodes (Value a ∷ xs) h = absurd h.0

-- # What is kept

module _ (f : List Tree) (slots : Tuple ItemView) (among : ℕ → Type 0) (passing : Place → Bool) (p : Plan) (is : Keeps f slots among passing p) (frame : Frame) (env : frame.env ≡ tuple_at f slots) where
  node_kept : (q : Place) (b : Bool) → Forms.kept_if (Node q) b ≡ map Node (Forms.kept_if q b)
  node_kept q true = refl
  node_kept q false = refl

  passed_from : (done : List Item) (i n : ℕ) (ps : List Place) → AllByRecursion (In among) ps
      → in_turn (more (Forms.passed (plan_mean p) frame)) done (focuses_from i n (map Node ps)) f ≡ (Ok (done ++ map Node (filter passing ps)), f)
  passed_from done i n [] h = ap (λ l. (Ok l, f)) (sym (append-nil done))
  passed_from done i n (q ∷ ps) h =
      let rest = focuses_from (suc i) n (map Node ps) in
      ap (λ o. go_on (go_on o (λ ys. give (done ++ ys))) (λ next. in_turn (more (Forms.passed (plan_mean p) frame)) next rest)) (is.says frame q i n env h.0)
      ∙ passed_from (done ++ Forms.kept_if (Node q) (passing q)) (suc i) n ps h.1
      ∙ ap (λ l. (Ok l, f)) (kept_more done (Node q) (map Node (filter passing ps)) (passing q) ∙ ap (λ l. done ++ l) (by (passing q)))
    where
      by : (b : Bool) → cond b (Node q ∷ map Node (filter passing ps)) (map Node (filter passing ps)) ≡ map Node (cond b (q ∷ filter passing ps) (filter passing ps))
      by true = refl
      by false = refl

  -- of nodes those that pass
  pub places_filtered : (ps : List Place) → AllByRecursion (In among) ps → Forms.filtered frame (map Node ps) (plan_mean p) f ≡ (Ok (map Node (filter passing ps)), f)
  places_filtered ps h = passed_from [] 1 _ ps h

  -- of items of code that are nodes of those trees
  pub items_filtered : (xs : List ItemView) → AllByRecursion (IsNodeOf among) xs → Forms.filtered frame (items_at f xs) (plan_mean p) f ≡ (Ok (items_at f (filter (on_nodes f passing) xs)), f)
  items_filtered xs h =
      let ns = nodes_among xs in
      let are = are_places xs (of_nodes among xs h) in
      ap (λ l. Forms.filtered frame l (plan_mean p) f) (ap (items_at f) are ∙ items_read f ns)
      ∙ places_filtered (map (node_at f) ns) (nodes_in among f xs h)
      ∙ ap (λ l. (Ok l, f))
      (ap (map Node) (filter-map passing (node_at f) ns)
      ∙ sym (items_read f (filter (λ n. passing (node_at f n)) ns))
      ∙ ap (items_at f) (sym (filter-map (on_nodes f passing) NodeAt ns) ∙ ap (filter (on_nodes f passing)) (sym are)))

  -- # After `//`

  one_passes : (x y : Place) (s b c : Bool) → same_node x y ≡ s → (same_node x y ≡ true → b ≡ c) → (b && s) ≡ (s && c)
  one_passes x y true true c e same = same e
  one_passes x y true false c e same = same e
  one_passes x y false true c e same = refl
  one_passes x y false false c e same = refl

  some_passes : (x : Place) (ys : List Place) → list_any (λ y. passing y && same_node x y) ys ≡ (is_among ys x && passing x)
  some_passes x [] = refl
  some_passes x (y ∷ ys) =
      ap (λ b. b || list_any (λ z. passing z && same_node x z) ys) (one_passes x y (same_node x y) (passing y) (passing x) refl (λ e. ap passing (sym (same_is x y e))))
      ∙ ap (λ b. (same_node x y && passing x) || b) (some_passes x ys)
      ∙ apart (same_node x y) (is_among ys x) (passing x)
    where
      apart : (s t c : Bool) → ((s && c) || (t && c)) ≡ ((s || t) && c)
      apart true true true = refl
      apart true true false = refl
      apart true false true = refl
      apart true false false = refl
      apart false t c = refl

  among_passing : (ys : List Place) (x : Place) → is_among (filter passing ys) x ≡ (is_among ys x && passing x)
  among_passing ys x = any_filter (same_node x) passing ys ∙ some_passes x ys

  filter_twice : (h : Place → Bool) (xs : List Place) → filter passing (filter h xs) ≡ filter (λ x. h x && passing x) xs
  filter_twice h [] = refl
  filter_twice h (x ∷ xs) = by (h x) (filter_twice h xs)
    where
      by : (b : Bool) → filter passing (filter h xs) ≡ filter (λ y. h y && passing y) xs → filter passing (cond b (x ∷ filter h xs) (filter h xs)) ≡ cond (b && passing x) (x ∷ filter (λ y. h y && passing y) xs) (filter (λ y. h y && passing y) xs)
      by true e = ap (λ l. cond (passing x) (x ∷ l) l) e
      by false e = e

  ordered_passing : (ys : List Place) → in_document_order f (filter passing ys) ≡ filter passing (in_document_order f ys)
  ordered_passing ys =
      filter_agree (is_among (filter passing ys)) (λ x. is_among ys x && passing x) (places_from 0 f) (among_passing ys)
      ∙ sym (filter_twice (is_among ys) (places_from 0 f))

module _ (f : List Tree) (slots : Tuple ItemView) (among : ℕ → Type 0) (passing : Place → Bool) (p : Plan) (is : Keeps f slots among passing p) (frame : Frame) (env : frame.env ≡ tuple_at f slots) (of : Test) where
  abbrev part : Meaning
  part = Forms.step axis.Child of (plan_mean p ∷ [])

  abbrev act : Focus → Doing (List Item)
  act focus = part (Forms.in_focus frame focus)

  abbrev children : Place → List Place
  children q = axis_nodes f axis.Child of q

  abbrev chosen : Place → List Place
  chosen q = filter passing (children q)

  chosen_at : (q : Place) (i n : ℕ) → In among q → act (record { item = Node q; position = i; last = n }) f ≡ (Ok (map Node (chosen q)), f)
  chosen_at q i n h =
      ap (λ o. go_on (go_on o (λ next. give next)) (λ ys. give (in_axis_order axis.Child ys))) (places_filtered f slots among passing p is (at_node frame q i n) env (children q) (axis_in among f axis.Child of q h))

  collected_from : (done : List Item) (i n : ℕ) (qs : List Place) → AllByRecursion (In among) qs → in_turn (more act) done (focuses_from i n (map Node qs)) f ≡ (Ok (done ++ map Node (flat_map chosen qs)), f)
  collected_from done i n [] h = ap (λ l. (Ok l, f)) (sym (append-nil done))
  collected_from done i n (q ∷ qs) h =
      ap (λ o. go_on (go_on o (λ ys. give (done ++ ys))) (λ next. in_turn (more act) next (focuses_from (suc i) n (map Node qs)))) (chosen_at q i n h.0)
      ∙ collected_from (done ++ map Node (chosen q)) (suc i) n qs h.1
      ∙ ap (λ l. (Ok l, f)) (append_assoc done (map Node (chosen q)) (map Node (flat_map chosen qs)) ∙ ap (λ l. done ++ l) (sym (map-append Node (chosen q) (flat_map chosen qs))))

  abbrev gather : List Item → Doing (List Item)
  gather ys = on_trees (λ trees. gathered trees ys)

  abbrev slash_of : List Item → Judged (List Place) → Outcome (List Item)
  slash_of xs r = go_on (judged r f) (λ (qs : List Place). λ g. go_on (collected act (focuses xs) g) gather)

  slash_is : (qs : List Place) → AllByRecursion (In among) qs → Forms.slash frame (map Node qs) part f ≡ (Ok (map Node (filter passing (in_document_order f (flat_map children qs)))), f)
  slash_is qs h =
      ap (slash_of (map Node qs)) (are_nodes XPTY0019 qs)
      ∙ ap (λ o. go_on o gather) (collected_from [] 1 (length (map Node qs)) qs h)
      ∙ ap (λ r. (nodes_or_atoms f (map Node (flat_map chosen qs)) r, f)) (are_nodes XPTY0018 (flat_map chosen qs))
      ∙ ap (λ l. (Ok (map Node l), f)) (ap (in_document_order f) (filter-flat passing children qs) ∙ ordered_passing f slots among passing p is frame env (flat_map children qs))

  abbrev scanned : Axis → Test → Judged (List Place) → Outcome (List Item)
  scanned a t r = go_on (judged r f) (λ places. on_trees (λ trees. Ok (in_order trees (flat_map (axis_nodes trees a t) places))))

  abbrev then_test : Outcome (List Item) → Outcome (List Item)
  then_test o = go_on o (λ ys. Forms.filtered frame ys (plan_mean p))

  from_nodes : (r : Judged (List Place)) → IfOk r (AllByRecursion (In among)) → go_on (scanned axis.DescendantOrSelf test.Any r) (λ ys. Forms.slash frame ys part) ≡ then_test (go_on (scanned axis.DescendantOrSelf test.Any r) (Forms.scan axis.Child of))
  from_nodes (Err code) h = refl
  from_nodes (Ok ps) h =
      let below = selves_and_below f ps in
      let below_in : AllByRecursion (In among) below = ordered_in among f _ (each_in among f axis.DescendantOrSelf test.Any ps h) in
      slash_is below below_in
      ∙ sym (ap (λ r. then_test (scanned axis.Child of r)) (are_nodes XPTY0019 below)
      ∙ places_filtered f slots among passing p is frame env (in_document_order f (flat_map children below)) (ordered_in among f (flat_map children below) (each_in among f axis.Child of below below_in)))

  -- a step to children with such a predicate, after `//`, is a scan, and then the test
  pub scan_by_test : (xs : List Item) → IfOk (all_nodes XPTY0019 xs) (AllByRecursion (In among)) → go_on (Forms.scan axis.DescendantOrSelf test.Any xs f) (λ ys. Forms.slash frame ys part) ≡ go_on (after_double_slash of xs f) (λ ys. Forms.filtered frame ys (plan_mean p))
  scan_by_test xs h = from_nodes (all_nodes XPTY0019 xs) h

-- # Of the nodes of any trees

any_in : (ps : List Place) → AllByRecursion (In (λ n. Unit {0})) ps
any_in [] = tt
any_in (p ∷ ps) = (tt, any_in ps)

pub any_nodes : (r : Judged (List Place)) → IfOk r (AllByRecursion (In (λ n. Unit {0})))
any_nodes (Ok ps) = any_in ps
any_nodes (Err code) = tt

pub any_items : (xs : List ItemView) → AllByRecursion IsNode xs → AllByRecursion (IsNodeOf (λ n. Unit {0})) xs
any_items [] h = tt
any_items (NodeAt n ∷ xs) h = (tt, any_items xs h.1)
any_items (Value a ∷ xs) h = absurd h.0

-- a predicate that asks keeps
pub asking_keeps : (f : List Tree) (slots : Tuple ItemView) (passing : Place → Bool) (p : Plan) → Asks f slots passing p → Keeps f slots (λ n. Unit {0}) passing p
asking_keeps f slots passing p is = record {
  says = λ frame q position last env any.
      ap (λ o. go_on o (λ v. judged (keeps position v) >>= (λ k. give (Forms.kept_if (Node q) k)))) (is.says frame q position last env);
}

-- nodes of some trees, as items
pub items_in_trees : (among : ℕ → Type 0) (f : List Tree) (xs : List ItemView) → AllByRecursion (IsNodeOf among) xs → IfOk (all_nodes XPTY0019 (items_at f xs)) (AllByRecursion (In among))
items_in_trees among f xs h =
    let ns = nodes_among xs in
    let are = ap (all_nodes XPTY0019) (ap (items_at f) (are_places xs (of_nodes among xs h)) ∙ items_read f ns) ∙ are_nodes XPTY0019 (map (node_at f) ns) in
    subst (λ (r : Judged (List Place)). IfOk r (AllByRecursion (In among))) (sym are) (nodes_in among f xs h)
