-- A step to the children of several nodes with a predicate that says of the nodes of some trees whether they pass: one scan, and then the predicate.
use Rattle.std.proofs.Common.{◌≡◌, ℕ, suc, List, [], ◌∷◌, ◌++◌, length, map, Bool, true, false, cond, ◌&&◌, ◌||◌, Ok, refl, sym, ◌∙◌, ap, subst, append_assoc}
use Rattle.std.specs.Prelude.{filter}
use Rattle.std.specs.List.{AllByRecursion, flat_map, list_any}
use Rattle.std.proofs.lemmas.Bool.{and_parts, eqb-true}
use Rattle.std.proofs.lemmas.List.{append-nil, map-append}
use Rattle.std.proofs.lemmas.List.Elements.{filter-append}
use Rattle.xq_atoms.specs.Judged.{Judged}
use Rattle.xq_atoms.specs.declared.refusals.Code.TheVariants.{XPTY0018, XPTY0019}
use Rattle.xq_trees.specs.Forest.{end}
use Rattle.xq_trees.specs.Items.{ItemView}
use Rattle.xq_trees.specs.Tree.{Tree}
use Rattle.xq_trees.specs.Tuples.{Tuple}
use Rattle.xq_trees.specs.declared.Axis.TheVariants as axis
use Rattle.xq_trees.proofs.AxisTable.{on_axis_is}
use Rattle.xq_meaning.specs.declared.node_tests.Test.{Test}
use Rattle.xq_meaning.specs.declared.plans.Plan.{Plan}
use Rattle.xq_meaning.specs.Doing.{Doing, Outcome, go_on, give, judged, on_trees, in_turn, more, collected}
use Rattle.xq_meaning.specs.Forms as Forms
use Rattle.xq_meaning.specs.Functions.{Focus}
use Rattle.xq_meaning.specs.Items.{Place, Item, Node, same_node, is_among, places_from, in_document_order}
use Rattle.xq_meaning.specs.Operators.{gathered, nodes_or_atoms}
use Rattle.xq_meaning.specs.PlanMeaning.{Frame, Meaning, plan_mean}
use Rattle.xq_meaning.specs.Readings.{node_at, items_at}
use Rattle.xq_meaning.specs.Steps.{axis_nodes, focuses, focuses_from, in_axis_order}
use Rattle.xq_axes.proofs.AxisNodes.{filter_agree}
use Rattle.xq_axes.proofs.Merging.{any_filter}
use Rattle.xq_operators.proofs.NodeLemmas.{are_nodes, items_read}
use Rattle.xq_operators.specs.Views.{tuple_at}
use Rattle.xq_operators.specs.Nodes.{nodes_among}
use Rattle.xq_joins.specs.Equalities.{at_node, Keeps, IsNodeOf}
use Rattle.xq_joins.proofs.Found.{are_places}
use Rattle.xq_joins.proofs.Kept.{In, axis_in, each_in, ordered_in, nodes_in, of_nodes, places_filtered}
use Rattle.xq_joins.proofs.Walks.{scan_from}

filter-flat : {A B : Type 0} (h : B → Bool) (g : A → List B) (xs : List A) → flat_map (λ x. filter h (g x)) xs ≡ filter h (flat_map g xs)
filter-flat h g [] = refl
filter-flat h g (x ∷ xs) = ap (λ l. filter h (g x) ++ l) (filter-flat h g xs) ∙ sym (filter-append h (g x) (flat_map g xs))

-- # Nodes in document order that pass

same_is : (x y : Place) → same_node x y ≡ true → x ≡ y
same_is x y e =
    let two = and_parts _ _ e in
    let tree = eqb-true x.tree y.tree two.0 in
    let path = (on_axis_is axis.SelfNode end x.path y.path).0 two.1 in
    λ i. record { tree = tree i; path = path i }

module _ (passing : Place → Bool) where
  one_passes : (x y : Place) (s b c : Bool) → same_node x y ≡ s → (same_node x y ≡ true → b ≡ c) → (b && s) ≡ (s && c)
  one_passes x y true true c e same = same e
  one_passes x y true false c e same = same e
  one_passes x y false true c e same = refl
  one_passes x y false false c e same = refl

  some_passes : (x : Place) (ys : List Place) → list_any (λ y. passing y && same_node x y) ys ≡ (is_among ys x && passing x)
  some_passes x [] = refl
  some_passes x (y ∷ ys) =
      ap (λ b. b || list_any (λ z. passing z && same_node x z) ys) (one_passes x y (same_node x y) (passing y) (passing x) refl (λ e. ap passing (sym (same_is x y e))))
      ∙ ap (λ b. (same_node x y && passing x) || b) (some_passes x ys)
      ∙ apart (same_node x y) (is_among ys x) (passing x)
    where
      apart : (s t c : Bool) → ((s && c) || (t && c)) ≡ ((s || t) && c)
      apart true true true = refl
      apart true true false = refl
      apart true false true = refl
      apart true false false = refl
      apart false t c = refl

  among_passing : (ys : List Place) (x : Place) → is_among (filter passing ys) x ≡ (is_among ys x && passing x)
  among_passing ys x = any_filter (same_node x) passing ys ∙ some_passes x ys

  filter_twice : (h : Place → Bool) (xs : List Place) → filter passing (filter h xs) ≡ filter (λ x. h x && passing x) xs
  filter_twice h [] = refl
  filter_twice h (x ∷ xs) = by (h x) (filter_twice h xs)
    where
      by : (b : Bool) → filter passing (filter h xs) ≡ filter (λ y. h y && passing y) xs → filter passing (cond b (x ∷ filter h xs) (filter h xs)) ≡ cond (b && passing x) (x ∷ filter (λ y. h y && passing y) xs) (filter (λ y. h y && passing y) xs)
      by true e = ap (λ l. cond (passing x) (x ∷ l) l) e
      by false e = e

  ordered_passing : (f : List Tree) (ys : List Place) → in_document_order f (filter passing ys) ≡ filter passing (in_document_order f ys)
  ordered_passing f ys =
      filter_agree (is_among (filter passing ys)) (λ x. is_among ys x && passing x) (places_from 0 f) (among_passing ys)
      ∙ sym (filter_twice (is_among ys) (places_from 0 f))

-- # The step

module _ (f : List Tree) (slots : Tuple ItemView) (among : ℕ → Type 0) (passing : Place → Bool) (p : Plan) (is : Keeps f slots among passing p) (frame : Frame) (env : frame.env ≡ tuple_at f slots) (of : Test) where
  abbrev part : Meaning
  part = Forms.step axis.Child of (plan_mean p ∷ [])

  abbrev act : Focus → Doing (List Item)
  act focus = part (Forms.in_focus frame focus)

  abbrev children : Place → List Place
  children q = axis_nodes f axis.Child of q

  abbrev chosen : Place → List Place
  chosen q = filter passing (children q)

  chosen_at : (q : Place) (i n : ℕ) → In among q → act (record { item = Node q; position = i; last = n }) f ≡ (Ok (map Node (chosen q)), f)
  chosen_at q i n h =
      ap (λ o. go_on (go_on o (λ next. give next)) (λ ys. give (in_axis_order axis.Child ys))) (places_filtered f slots among passing p is (at_node frame q i n) env (children q) (axis_in among f axis.Child of q h))

  collected_from : (done : List Item) (i n : ℕ) (qs : List Place) → AllByRecursion (In among) qs → in_turn (more act) done (focuses_from i n (map Node qs)) f ≡ (Ok (done ++ map Node (flat_map chosen qs)), f)
  collected_from done i n [] h = ap (λ l. (Ok l, f)) (sym (append-nil done))
  collected_from done i n (q ∷ qs) h =
      ap (λ o. go_on (go_on o (λ ys. give (done ++ ys))) (λ next. in_turn (more act) next (focuses_from (suc i) n (map Node qs)))) (chosen_at q i n h.0)
      ∙ collected_from (done ++ map Node (chosen q)) (suc i) n qs h.1
      ∙ ap (λ l. (Ok l, f)) (append_assoc done (map Node (chosen q)) (map Node (flat_map chosen qs)) ∙ ap (λ l. done ++ l) (sym (map-append Node (chosen q) (flat_map chosen qs))))

  abbrev gather : List Item → Doing (List Item)
  gather ys = on_trees (λ trees. gathered trees ys)

  abbrev slash_of : List Item → Judged (List Place) → Outcome (List Item)
  slash_of xs r = go_on (judged r f) (λ (qs : List Place). λ g. go_on (collected act (focuses xs) g) gather)

  places_step : (qs : List Place) → AllByRecursion (In among) qs → Forms.slash frame (map Node qs) part f ≡ go_on (Forms.scan axis.Child of (map Node qs) f) (λ ys. Forms.filtered frame ys (plan_mean p))
  places_step qs h =
      let found = flat_map children qs in
      ap (slash_of (map Node qs)) (are_nodes XPTY0019 qs)
      ∙ ap (λ o. go_on o gather) (collected_from [] 1 (length (map Node qs)) qs h)
      ∙ ap (λ r. (nodes_or_atoms f (map Node (flat_map chosen qs)) r, f)) (are_nodes XPTY0018 (flat_map chosen qs))
      ∙ ap (λ l. (Ok (map Node l), f)) (ap (in_document_order f) (filter-flat passing children qs) ∙ ordered_passing passing f found)
      ∙ sym (ap (λ o. go_on o (λ ys. Forms.filtered frame ys (plan_mean p))) (scan_from axis.Child of qs f)
      ∙ places_filtered f slots among passing p is frame env (in_document_order f found) (ordered_in among f found (each_in among f axis.Child of qs h)))

  -- from items of code that are nodes of those trees
  pub child_step_is : (views : List ItemView) → AllByRecursion (IsNodeOf among) views → Forms.slash frame (items_at f views) part f ≡ go_on (Forms.scan axis.Child of (items_at f views) f) (λ ys. Forms.filtered frame ys (plan_mean p))
  child_step_is views h =
      let ns = nodes_among views in
      let same : items_at f views ≡ map Node (map (node_at f) ns) = ap (items_at f) (are_places views (of_nodes among views h)) ∙ items_read f ns in
      subst (λ (xs : List Item). Forms.slash frame xs part f ≡ go_on (Forms.scan axis.Child of xs f) (λ ys. Forms.filtered frame ys (plan_mean p))) (sym same) (places_step (map (node_at f) ns) (nodes_in among f views h))
