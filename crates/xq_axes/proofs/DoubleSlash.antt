-- A step to children after `//` leads to what is below: nothing is below an attribute.
use Rattle.std.proofs.Common.{◌≡◌, ◌≢◌, ℕ, zero, suc, ◌+◌, List, [], ◌∷◌, length, map, Bool, true, ◌&&◌, ◌⊎◌, inl, inr, refl, sym, ◌∙◌, ap, subst, arith}
use Rattle.std.specs.Prelude.{IsTrue}
use Rattle.std.specs.List.{flat_map, AllByRecursion}
use Rattle.std.proofs.lemmas.Bool.{and_from, and_parts}
use Rattle.std.proofs.lemmas.List.Folds.{Any-from_list_any}
use Rattle.xq_trees.specs.declared.Axis.TheVariants as axis
use Rattle.xq_trees.specs.declared.Kind.{Kind}
use Rattle.xq_trees.specs.declared.Kind.TheVariants.{Attribute}
use Rattle.xq_trees.specs.Axis.{IsOnAxis}
use Rattle.xq_trees.specs.Forest.{Forest, end, node, tops, EachNode}
use Rattle.xq_trees.specs.Node.{HasPath, kind_at}
use Rattle.xq_trees.specs.Order.{IsAbove}
use Rattle.xq_trees.specs.Tree.{Label, Tree, IsTree, is_content, may_stand}
use Rattle.xq_trees.specs.declared.items.Node.{Node}
use Rattle.xq_trees.proofs.Paths.{at_place}
use Rattle.xq_meaning.specs.declared.node_tests.Test.{Test}
use Rattle.xq_meaning.specs.declared.node_tests.Test.TheVariants as test
use Rattle.xq_meaning.specs.Items.{Place, place, nodes_at, places_from, same_node, is_among, in_document_order}
use Rattle.xq_meaning.specs.Steps.{axis_nodes}
use Rattle.xq_meaning.specs.Readings.{node_at}
use Rattle.xq_sources.specs.Sources.{tree_at}
use Rattle.xq_axes.specs.Many.{spot, AreReached}
use Rattle.xq_axes.specs.Nodes.{HaveAll}
use Rattle.xq_axes.specs.DoubleSlash.{selves_and_below, after_double_slash, AreAfterDoubleSlash}
use Rattle.xq_axes.specs.private.Standing.{Stands, AreOfTrees}
use Rattle.xq_trees.proofs.Lists.{same_test}
use Rattle.xq_axes.proofs.Many.{any_flat}
use Rattle.xq_axes.proofs.Merging.{any_filter}
use Rattle.xq_axes.proofs.AxisNodes.{some_of, filter_agree, has_place, from_axis, to_axis}

-- # The parent of a path

parent : List ℕ → List ℕ
parent [] = []
parent (i ∷ []) = []
parent (i ∷ j ∷ q) = i ∷ parent (j ∷ q)

parent_length : (i : ℕ) (q : List ℕ) → length (i ∷ q) ≡ suc (length (parent (i ∷ q)))
unfolding parent
parent_length i [] = refl
parent_length i (j ∷ q) = ap suc (parent_length j q)

parent_above : (i : ℕ) (q : List ℕ) → IsAbove (parent (i ∷ q)) (i ∷ q)
unfolding parent
parent_above i [] = tt
parent_above i (j ∷ q) = (refl, parent_above j q)

parent_from : (v q : List ℕ) → IsAbove v q → (v ≡ parent q) ⊎ IsAbove v (parent q)
unfolding parent
parent_from v [] h = absurd h
parent_from [] (j ∷ []) h = inl refl
parent_from [] (j ∷ k ∷ q) h = inr tt
parent_from (i ∷ v) (j ∷ []) h = absurd h.1
parent_from (i ∷ v) (j ∷ k ∷ q) h = elim (parent_from v (k ∷ q) h.1) [
  | inl e ↦ inl (ap (λ n. n ∷ v) h.0 ∙ ap (λ p. j ∷ p) e)
  | inr e ↦ inr (h.0, e)
]

parent_there : {A : Type 0} (f : Forest A) (i j : ℕ) (q : List ℕ) → HasPath f (i ∷ j ∷ q) → HasPath f (parent (i ∷ j ∷ q))
unfolding parent
parent_there end i j q h = absurd h
parent_there (node a b r) zero j [] h = tt
parent_there (node a b r) zero j (k ∷ q) h = parent_there b j k q h
parent_there (node a b r) (suc i) j q h = parent_there r i j q h

abbrev EachContent : Forest Label → Type 0
EachContent f = EachNode (λ (a : Label) (below : List Label). IsTrue (is_content a below)) f

no_child : (k child : Kind) → k ≡ Attribute → may_stand k child ≡ true → ⊥
no_child k child e h = let g : may_stand Attribute child ≡ true = subst (λ x. may_stand x child ≡ true) e h in cc

child_stands : (a : Label) (b : Forest Label) (j : ℕ) → is_content a (tops b) ≡ true → HasPath b (j ∷ []) → a.kind ≢ Attribute
child_stands a end j c h e = absurd h
child_stands a (node x y z) j c h e = no_child a.kind x.kind e (and_parts _ _ c).0

parent_plain : (f : Forest Label) (i j : ℕ) (q : List ℕ) → EachContent f → HasPath f (i ∷ j ∷ q) → kind_at f (parent (i ∷ j ∷ q)) ≢ Attribute
unfolding parent
parent_plain end i j q c h = absurd h
parent_plain (node a b r) zero j [] c h = child_stands a b j c.0 h
parent_plain (node a b r) zero j (k ∷ q) c h = parent_plain b j k q c.1.0 h
parent_plain (node a b r) (suc i) j q c h = parent_plain r i j q c.1.1 h

no_path : {A : Type 0} (f : Forest A) → HasPath f [] → ⊥
no_path end h = h
no_path (node a b r) h = h

-- the node between: the parent of q, which is v or below it
record Between (f : Forest Label) (v q : List ℕ) : Type 0 where
  path : List ℕ
  there : HasPath f path
  from : IsOnAxis axis.DescendantOrSelf f v path
  above : IsAbove path q
  longer : length q ≡ suc (length path)

between : (f : Forest Label) (v q : List ℕ) → EachContent f → HasPath f v → HasPath f q → IsAbove v q → Between f v q
between f [] q c hv hq h = absurd (no_path f hv)
between f (i ∷ v) [] c hv hq h = absurd h
between f (i ∷ v) (j ∷ []) c hv hq h = absurd h.1
between f (i ∷ v) (j ∷ k ∷ q) c hv hq h = record {
  path = parent (j ∷ k ∷ q);
  there = parent_there f j k q hq;
  from = elim (parent_from (i ∷ v) (j ∷ k ∷ q) h) [ inl e ↦ inl e | inr e ↦ inr (e, parent_plain f j k q c hq) ];
  above = parent_above j (k ∷ q);
  longer = parent_length j (k ∷ q);
}

above_above : (u v w : List ℕ) → IsAbove u v → IsAbove v w → IsAbove u w
above_above u v [] h g = absurd g
above_above u [] (k ∷ w) h g = absurd h
above_above [] (j ∷ v) (k ∷ w) h g = tt
above_above (i ∷ u) (j ∷ v) (k ∷ w) h g = (h.0 ∙ g.0, above_above u v w h.1 g.1)

below_self : (f : Forest Label) (u v w : List ℕ) → IsOnAxis axis.DescendantOrSelf f u v → IsAbove v w → IsAbove u w
below_self f u v w (inl e) h = subst (λ x. IsAbove x w) (sym e) h
below_self f u v w (inr g) h = above_above u v w g.0 h

-- # The law

module _ (trees : List Tree) (of : Test) (ps : List Place) (stand : AllByRecursion (Stands trees) ps) (q : Place) where
  selves : Place → List Place
  selves = axis_nodes trees axis.DescendantOrSelf test.Any

  children : Place → List Place
  children = axis_nodes trees axis.Child of

  below : Place → List Place
  below = axis_nodes trees axis.Descendant of

  forth : is_among (flat_map (axis_nodes trees axis.Child of) (selves_and_below trees ps)) q ≡ true → is_among (flat_map (axis_nodes trees axis.Descendant of) ps) q ≡ true
  unfolding selves children below
  forth e =
      let all = is_among (flat_map selves ps) in
      let h : Place → Bool = λ u. is_among (children u) q in
      let some = Any-from_list_any (λ u. all u && h u) (places_from 0 trees) (sym (any_filter h all (places_from 0 trees)) ∙ sym (any_flat (same_node q) children (selves_and_below trees ps)) ∙ e) in
      let u = some.1 in
      let two = and_parts _ _ some.4 in
      let w = some_of (Stands trees) (λ p. is_among (selves p) u) ps stand (sym (any_flat (same_node u) selves ps) ∙ two.0) in
      let p = w.item in
      let a = from_axis trees axis.DescendantOrSelf test.Any p u w.passes in
      let b = from_axis trees axis.Child of u q two.1 in
      let f = nodes_at trees p.tree in
      any_flat (same_node q) below ps ∙ w.counts (λ p. is_among (below p) q) (to_axis trees axis.Descendant of p q (record {
        tree = b.tree ∙ a.tree;
        path = subst (λ n. HasPath (nodes_at trees n) q.path) a.tree b.path;
        on = (below_self f p.path u.path q.path a.on b.on.0, subst (λ n. kind_at (nodes_at trees n) q.path ≢ Attribute) a.tree b.on.2);
        passes = b.passes;
      }))

  back : is_among (flat_map (axis_nodes trees axis.Descendant of) ps) q ≡ true → is_among (flat_map (axis_nodes trees axis.Child of) (selves_and_below trees ps)) q ≡ true
  unfolding selves children below
  back e =
      let w = some_of (Stands trees) (λ p. is_among (below p) q) ps stand (sym (any_flat (same_node q) below ps) ∙ e) in
      let p = w.item in
      let d = from_axis trees axis.Descendant of p q w.passes in
      let m = between (nodes_at trees p.tree) p.path q.path w.has.content w.has.path d.path d.on.0 in
      let u = place p.tree m.path in
      let all = is_among (flat_map selves ps) in
      let h : Place → Bool = λ u. is_among (children u) q in
      let among : all u ≡ true = any_flat (same_node u) selves ps ∙ w.counts (λ p. is_among (selves p) u) (to_axis trees axis.DescendantOrSelf test.Any p u (record { tree = refl; path = m.there; on = m.from; passes = refl })) in
      let child : h u ≡ true = to_axis trees axis.Child of u q (record { tree = d.tree; path = d.path; on = (m.above, m.longer, d.on.1); passes = d.passes }) in
      let z : 0 + p.tree ≡ p.tree = omega arith in
      any_flat (same_node q) children (selves_and_below trees ps)
      ∙ any_filter h all (places_from 0 trees)
      ∙ has_place (λ u. all u && h u) 0 trees p.tree m.path w.has.tree m.there (subst (λ n. (all (place n m.path) && h (place n m.path)) ≡ true) (sym z) (and_from _ _ among child))

pub double_slash_is_descendant : (trees : List Tree) (of : Test) (ps : List Place) → AllByRecursion (Stands trees) ps → in_document_order trees (flat_map (axis_nodes trees axis.Descendant of) ps) ≡ after_double_slash trees of ps
double_slash_is_descendant trees of ps stand =
    filter_agree (is_among (flat_map (axis_nodes trees axis.Descendant of) ps)) (is_among (flat_map (axis_nodes trees axis.Child of) (selves_and_below trees ps))) (places_from 0 trees)
    (λ q. same_test _ _ (back trees of ps stand q) (forth trees of ps stand q))

pub stand_all : (trees : List Tree) (ns : List Node) → HaveAll trees ns → AreOfTrees trees ns → AllByRecursion (Stands trees) (map (node_at trees) ns)
stand_all trees [] h t = tt
stand_all trees (n ∷ ns) h t =
    (record { tree = h.0.tree_in; path = (at_place (nodes_at trees n.tree) n.pre h.0.node_in).exists; content = t.0.content }, stand_all trees ns h.1 t.1)

-- the nodes of one tree
pub all_of_tree : (trees : List Tree) (tree : ℕ) (vs : List ℕ) → IsTree (tree_at trees tree) → AreOfTrees trees (map (spot tree) vs)
all_of_tree trees tree [] h = tt
all_of_tree trees tree (v ∷ vs) h = (h, all_of_tree trees tree vs h)

pub after_slashes : (trees : List Tree) (of : Test) (tree : ℕ) (vs ps : List ℕ) → HaveAll trees (map (spot tree) vs) → AreOfTrees trees (map (spot tree) vs) → AreReached trees axis.Descendant of tree vs ps → AreAfterDoubleSlash trees of tree vs ps
after_slashes trees of tree vs ps have stand r = record {
  in_order = r.in_order ∙ double_slash_is_descendant trees of (map (node_at trees) (map (spot tree) vs)) (stand_all trees (map (spot tree) vs) have stand);
  there = r.there;
  rising = r.rising;
}
