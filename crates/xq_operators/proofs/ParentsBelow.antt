-- A step to children with predicates after `//` gives nothing at a node without a child that passes
-- the test: so it is evaluated at the others alone.
use Rattle.std.proofs.Common.{◌≡◌, ℕ, suc, ◌+◌, ◌<◌, List, [], ◌∷◌, ◌++◌, length, map, cond, Bool, true, false, ◌&&◌, Ok, Err, refl, sym, ◌∙◌, ap, subst, arith}
use Rattle.std.specs.Prelude.{filter}
use Rattle.std.specs.List.{list_any, flat_map, AllByRecursion}
use Rattle.std.proofs.lemmas.Bool.{or_left, and_from, and_parts}
use Rattle.std.proofs.lemmas.List.{append-nil}
use Rattle.std.proofs.lemmas.List.Folds.{Any-from_list_any}
use Rattle.xq_atoms.specs.Judged.{Judged}
use Rattle.xq_atoms.specs.declared.refusals.Code.TheVariants.{XPTY0019}
use Rattle.xq_trees.specs.declared.Axis.{Axis}
use Rattle.xq_trees.specs.declared.Axis.TheVariants as axis
use Rattle.xq_trees.specs.AxisTests.{on_axis}
use Rattle.xq_trees.specs.Node.{label_at as label_in}
use Rattle.xq_trees.specs.Order.{IsAbove}
use Rattle.xq_trees.specs.Tree.{Tree, nodes, no_label}
use Rattle.xq_sources.specs.Sources.{tree_at}
use Rattle.xq_meaning.specs.declared.node_tests.Test.{Test}
use Rattle.xq_meaning.specs.declared.node_tests.Test.TheVariants as test
use Rattle.xq_meaning.specs.Arguments.{all_nodes}
use Rattle.xq_meaning.specs.Functions.{Focus}
use Rattle.xq_meaning.specs.Items.{Place, place, Item, Node, paths, places_from, same_node, is_among, in_document_order}
use Rattle.xq_meaning.specs.Readings.{Extends}
use Rattle.xq_meaning.specs.Operators.{in_order, gathered}
use Rattle.xq_meaning.specs.Steps.{passes, passes_at, axis_nodes, focuses, focuses_from, in_axis_order}
use Rattle.xq_meaning.proofs.PathLemmas.{filter-map}
use Rattle.xq_axes.specs.DoubleSlash.{selves_and_below, after_double_slash as places_after}
use Rattle.xq_axes.proofs.AxisNodes.{from_axis, to_axis, has_place, same_place}
use Rattle.xq_trees.proofs.Lists.{same_test, all_filter}
use Rattle.xq_axes.proofs.Many.{any_flat}
use Rattle.xq_axes.proofs.Merging.{any_filter, same_itself}
use Rattle.xq_meaning.specs.Doing.{Doing, Outcome, go_on, give, judged, on_trees, in_turn, more, collected}
use Rattle.xq_meaning.specs.Forms as Forms
use Rattle.xq_meaning.proofs.Growth.{AllGrowing, step_grows}
use Rattle.xq_operators.specs.Views.{parents_below}
use Rattle.xq_operators.proofs.Existing.{IsPlace, all_exist}
use Rattle.xq_operators.proofs.Growth.{tree_grown, extends_more, extends_itself}
use Rattle.xq_operators.proofs.NodeLemmas.{are_nodes}

-- # Lists

abbrev has_some : {A : Type 0} → List A → Bool
has_some [] = false
has_some (x ∷ xs) = true

none_left : {A : Type 0} (xs : List A) → has_some xs ≡ false → xs ≡ []
none_left [] e = refl
none_left (x ∷ xs) e = absurd (cc)

some_among : (ps : List Place) (q : Place) → is_among ps q ≡ true → has_some ps ≡ true
some_among [] q e = absurd (cc)
some_among (p ∷ ps) q e = refl

first_among : (ps : List Place) → has_some ps ≡ true → (q : Place) × (is_among ps q ≡ true)
first_among [] e = absurd (cc)
first_among (p ∷ ps) e = (p, or_left (same_node p p) (list_any (same_node p) ps) (same_itself p))

filter_agree_in : {X : Type 0} (P : X → Type 0) (f g : X → Bool) (xs : List X) → AllByRecursion P xs → ((x : X) → P x → f x ≡ g x) → filter f xs ≡ filter g xs
filter_agree_in P f g [] h e = refl
filter_agree_in P f g (x ∷ xs) h e = let u = e x h.0 in let v = filter_agree_in P f g xs h.1 e in rw (u, v)

filter_twice : {X : Type 0} (f g : X → Bool) (xs : List X) → filter g (filter f xs) ≡ filter (λ x. f x && g x) xs
filter_twice f g [] = refl
filter_twice f g (x ∷ xs) = by (f x) (filter_twice f g xs)
  where
    by : (b : Bool) → filter g (filter f xs) ≡ filter (λ x. f x && g x) xs → filter g (cond b (x ∷ filter f xs) (filter f xs)) ≡ cond (b && g x) (x ∷ filter (λ x. f x && g x) xs) (filter (λ x. f x && g x) xs)
    by true e = ap (λ ys. cond (g x) (x ∷ ys) ys) e
    by false e = e

-- # The parents of what is found

same_front : (u v w : List ℕ) → IsAbove u w → IsAbove v w → length u ≡ length v → u ≡ v
same_front u v [] h g e = absurd h
same_front [] [] (k ∷ w) h g e = refl
same_front [] (j ∷ v) (k ∷ w) h g e = absurd (omega (arith, e))
same_front (i ∷ u) [] (k ∷ w) h g e = absurd (omega (arith, e))
same_front (i ∷ u) (j ∷ v) (k ∷ w) h g e =
    let first : i ≡ j = h.0 ∙ sym g.0 in
    let rest = same_front u v w h.1 g.1 (omega (arith, e)) in
    λ n. first n ∷ rest n

-- whether a step to children that pass the test leads anywhere
abbrev pub is_parent : List Tree → Test → Place → Bool
is_parent trees of p = has_some (axis_nodes trees axis.Child of p)

module _ (trees : List Tree) (of : Test) (ps : List Place) where
  up : Place → List Place
  up = axis_nodes trees axis.Parent test.Any

  children : Place → List Place
  children = axis_nodes trees axis.Child of

  selves : Place → List Place
  selves = axis_nodes trees axis.DescendantOrSelf test.Any

  module _ (p : Place) (there : IsPlace trees p) where
    forth : is_among (flat_map (axis_nodes trees axis.Parent test.Any) (places_after trees of ps)) p ≡ true → (is_among (flat_map (axis_nodes trees axis.DescendantOrSelf test.Any) ps) p && is_parent trees of p) ≡ true
    unfolding up children selves
    forth e =
        let below = selves_and_below trees ps in
        let found : Place → Bool = is_among (flat_map children below) in
        let some = Any-from_list_any (λ c. found c && is_among (up c) p) (places_from 0 trees) (sym (any_filter (λ c. is_among (up c) p) found (places_from 0 trees)) ∙ sym (any_flat (same_node p) up (places_after trees of ps)) ∙ e) in
        let c = some.1 in
        let two = and_parts _ _ some.4 in
        let all : Place → Bool = is_among (flat_map selves ps) in
        let some' = Any-from_list_any (λ d. all d && is_among (children d) c) (places_from 0 trees) (sym (any_filter (λ d. is_among (children d) c) all (places_from 0 trees)) ∙ sym (any_flat (same_node c) children below) ∙ two.0) in
        let d = some'.1 in
        let two' = and_parts _ _ some'.4 in
        let b = from_axis trees axis.Parent test.Any c p two.1 in
        let a = from_axis trees axis.Child of d c two'.1 in
        let long : length p.path ≡ length d.path = omega (arith, b.on.1, a.on.1) in
        let is : p ≡ d = same_place p d.tree d.path (b.tree ∙ a.tree) (same_front p.path d.path c.path b.on.0 a.on.0 long) in
        and_from _ _ (ap all is ∙ two'.0) (ap (is_parent trees of) is ∙ some_among (children d) c two'.1)

    back : (is_among (flat_map (axis_nodes trees axis.DescendantOrSelf test.Any) ps) p && is_parent trees of p) ≡ true → is_among (flat_map (axis_nodes trees axis.Parent test.Any) (places_after trees of ps)) p ≡ true
    unfolding up children selves
    back e =
        let two = and_parts _ _ e in
        let below = selves_and_below trees ps in
        let first = first_among (children p) two.1 in
        let on = from_axis trees axis.Child of p first.0 first.1 in
        let c = place p.tree first.0.path in
        let is : first.0 ≡ c = same_place first.0 p.tree first.0.path on.tree refl in
        let child : is_among (children p) c ≡ true = ap (is_among (children p)) (sym is) ∙ first.1 in
        let all : Place → Bool = is_among (flat_map selves ps) in
        let found : Place → Bool = is_among (flat_map children below) in
        let z : 0 + p.tree ≡ p.tree = omega arith in
        let among : found c ≡ true =
        any_flat (same_node c) children below
        ∙ any_filter (λ d. is_among (children d) c) all (places_from 0 trees)
        ∙ has_place (λ d. all d && is_among (children d) c) 0 trees p.tree p.path there.0 there.1
        (subst (λ n. (all (place n p.path) && is_among (children (place n p.path)) c) ≡ true) (sym z) (and_from _ _ two.0 child)) in
        let parent : is_among (up c) p ≡ true = to_axis trees axis.Parent test.Any c p (record { tree = refl; path = there.1; on = (on.on.0, on.on.1); passes = refl }) in
        any_flat (same_node p) up (places_after trees of ps)
        ∙ any_filter (λ c. is_among (up c) p) found (places_from 0 trees)
        ∙ has_place (λ c. found c && is_among (up c) p) 0 trees p.tree first.0.path there.0 on.path
        (subst (λ n. (found (place n first.0.path) && is_among (up (place n first.0.path)) p) ≡ true) (sym z) (and_from _ _ among parent))

  pub parents_are : in_document_order trees (flat_map (axis_nodes trees axis.Parent test.Any) (places_after trees of ps)) ≡ filter (is_parent trees of) (selves_and_below trees ps)
  parents_are =
      let all : Place → Bool = is_among (flat_map (axis_nodes trees axis.DescendantOrSelf test.Any) ps) in
      filter_agree_in (IsPlace trees) (is_among (flat_map (axis_nodes trees axis.Parent test.Any) (places_after trees of ps))) (λ p. all p && is_parent trees of p) (places_from 0 trees) (all_exist trees)
      (λ p there. same_test _ _ (forth p there) (back p there))
      ∙ sym (filter_twice all (is_parent trees of) (places_from 0 trees))

-- # Trees that are added

module _ {f g : List Tree} (grows : Extends f g) (p : Place) (inside : p.tree < length f) (a : Axis) (of : Test) where
  abbrev chosen : Tree → List ℕ → Bool
  chosen t w = passes of (label_in no_label (nodes t) w).kind (label_in no_label (nodes t) w).name

  abbrev reached : Tree → List (List ℕ)
  reached t = filter (on_axis a (nodes t) p.path) (paths (nodes t))

  axis_grown : axis_nodes g a of p ≡ axis_nodes f a of p
  axis_grown =
      filter-map (passes_at g of) (place p.tree) (reached (tree_at g p.tree))
      ∙ ap (λ t. map (place p.tree) (filter (chosen t) (reached t))) (tree_grown grows p.tree inside)
      ∙ sym (filter-map (passes_at f of) (place p.tree) (reached (tree_at f p.tree)))

-- # Nodes that are passed over

module _ {E : Type 0} (of : Test) (ms : List (Forms.Meaning E)) (frame : Forms.Frame E) where
  abbrev part : Forms.Meaning E
  part = Forms.step axis.Child of ms

  abbrev act : Focus → Doing (List Item)
  act focus = part (Forms.in_focus frame focus)

  abbrev spot : Place → ℕ → ℕ → Focus
  spot p position last = record { item = Node p; position = position; last = last }

  none_filtered : (inner : Forms.Frame E) (ms : List (Forms.Meaning E)) (g : List Tree) → in_turn (Forms.filtered inner) [] ms g ≡ (Ok [], g)
  none_filtered inner [] g = refl
  none_filtered inner (m ∷ ms) g = none_filtered inner ms g

  abbrev ordered : List Item → Doing (List Item)
  ordered ys = give (in_axis_order axis.Child ys)

  nothing_at : (p : Place) (i n : ℕ) (g : List Tree) → axis_nodes g axis.Child of p ≡ [] → act (spot p i n) g ≡ (Ok [], g)
  nothing_at p i n g e =
      let inner = Forms.in_focus frame (spot p i n) in
      ap (λ ps. go_on (in_turn (Forms.filtered inner) (map Node ps) ms g) ordered) e
      ∙ ap (λ o. go_on o ordered) (none_filtered inner ms g)

  module _ (f : List Tree) where
    -- from these nodes comes what comes from those with children, wherever both are counted from
    abbrev Skips : List Place → Type 0
    Skips ps = (g : List Tree) → Extends f g → (done : List Item) (i n j m : ℕ)
        → in_turn (more act) done (focuses_from i n (map Node ps)) g ≡ in_turn (more act) done (focuses_from j m (map Node (filter (is_parent f of) ps))) g

    abbrev from : List Focus → List Item → Doing (List Item)
    from rest next = in_turn (more act) next rest

    after : (ps : List Place) → Skips ps → (done : List Item) (i n j m : ℕ) (o : Outcome (List Item)) → Extends f o.1
        → go_on (go_on o (λ ys. give (done ++ ys))) (from (focuses_from i n (map Node ps))) ≡ go_on (go_on o (λ ys. give (done ++ ys))) (from (focuses_from j m (map Node (filter (is_parent f of) ps))))
    after ps rest done i n j m (Ok ys, g) e = rest g e (done ++ ys) i n j m
    after ps rest done i n j m (Err code, g) e = refl

    skips : AllGrowing ms → (ps : List Place) → AllByRecursion (IsPlace f) ps → Skips ps
    skips grow [] there g e done i n j m = refl
    skips grow (p ∷ ps) there g e done i n j m = by (is_parent f of p) refl (skips grow ps there.1)
      where
        by : (b : Bool) → is_parent f of p ≡ b → Skips ps
            → in_turn (more act) done (focuses_from i n (map Node (p ∷ ps))) g ≡ in_turn (more act) done (focuses_from j m (map Node (cond b (p ∷ filter (is_parent f of) ps) (filter (is_parent f of) ps)))) g
        by true t rest =
            let grown = step_grows axis.Child of ms grow (Forms.in_focus frame (spot p i n)) g in
            after ps rest done (suc i) n (suc j) m (act (spot p i n) g) (extends_more e (record { added = grown.0; is = grown.1 }))
        by false t rest =
            let none = nothing_at p i n g (axis_grown e p there.0.0 axis.Child of ∙ none_left (axis_nodes f axis.Child of p) t) in
            ap (λ o. go_on (go_on o (λ ys. give (done ++ ys))) (from (focuses_from (suc i) n (map Node ps)))) none
            ∙ ap (λ xs. from (focuses_from (suc i) n (map Node ps)) xs g) (append-nil done)
            ∙ rest g e done (suc i) n j m

    abbrev gather : List Item → Doing (List Item)
    gather ys = on_trees (λ trees. gathered trees ys)

    abbrev slash_of : List Item → Judged (List Place) → Outcome (List Item)
    slash_of xs r = go_on (judged r f) (λ (qs : List Place). λ g. go_on (collected act (focuses xs) g) gather)

    slash_skips : AllGrowing ms → (ps : List Place) → AllByRecursion (IsPlace f) ps → Forms.slash frame (map Node ps) part f ≡ Forms.slash frame (map Node (filter (is_parent f of) ps)) part f
    slash_skips grow ps there =
        let left = filter (is_parent f of) ps in
        ap (slash_of (map Node ps)) (are_nodes XPTY0019 ps)
        ∙ ap (λ o. go_on o gather) (skips grow ps there f (extends_itself f) [] 1 (length (map Node ps)) 1 (length (map Node left)))
        ∙ sym (ap (slash_of (map Node left)) (are_nodes XPTY0019 left))

    abbrev scanned : Axis → Test → Judged (List Place) → Outcome (List Item)
    scanned a t r = go_on (judged r f) (λ places. on_trees (λ trees. Ok (in_order trees (flat_map (axis_nodes trees a t) places))))

    abbrev then_part : List Item → Doing (List Item)
    then_part ys = Forms.slash frame ys part

    abbrev all_then : Outcome (List Item) → Outcome (List Item)
    all_then o = go_on o then_part

    abbrev parents_then : Outcome (List Item) → Outcome (List Item)
    parents_then o = go_on (go_on (go_on o (Forms.scan axis.Child of)) (Forms.scan axis.Parent test.Any)) then_part

    from_nodes : AllGrowing ms → (r : Judged (List Place)) → all_then (scanned axis.DescendantOrSelf test.Any r) ≡ parents_then (scanned axis.DescendantOrSelf test.Any r)
    from_nodes grow (Err code) = refl
    from_nodes grow (Ok ps) =
        let below = selves_and_below f ps in
        let found = places_after f of ps in
        slash_skips grow below (all_filter (IsPlace f) (is_among (flat_map (axis_nodes f axis.DescendantOrSelf test.Any) ps)) (places_from 0 f) (all_exist f))
        ∙ ap (λ qs. Forms.slash frame (map Node qs) part f) (sym (parents_are f of ps))
        ∙ sym (ap (λ r. go_on (go_on (scanned axis.Child of r) (Forms.scan axis.Parent test.Any)) then_part) (are_nodes XPTY0019 below)
        ∙ ap (λ r. go_on (scanned axis.Parent test.Any r) then_part) (are_nodes XPTY0019 found))

    pub parents_suffice : AllGrowing ms → (xs : List Item) → go_on (Forms.scan axis.DescendantOrSelf test.Any xs f) then_part ≡ go_on (parents_below of xs f) then_part
    parents_suffice grow xs = from_nodes grow (all_nodes XPTY0019 xs)
