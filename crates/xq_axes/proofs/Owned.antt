-- A step to the attributes of a name leads to one with a text from the parents of all such
-- attributes, and from no other node.
use Rattle.std.proofs.Common.{◌≡◌, ℕ, zero, suc, ◌<◌, List, [], ◌∷◌, length, map, Bool, true, false, ◌&&◌, ◌||◌, not, cond, refl, sym, ◌∙◌, ap, arith}
use Rattle.std.specs.Prelude.{filter, Some}
use Rattle.std.specs.List.{list_any}
use Rattle.std.proofs.lemmas.List.{take_all}
use Rattle.std.proofs.lemmas.List.Folds.{list_any-append}
use Rattle.std.proofs.lemmas.List.FromFn.{length-enumerate_from}
use Rattle.xq_atoms.specs.Text.{Text, text_eq}
use Rattle.xq_trees.specs.Forest.{count}
use Rattle.xq_trees.specs.Order.{path_at}
use Rattle.xq_trees.specs.RegionTests.{inside, one_below, in_region}
use Rattle.xq_trees.specs.Rows.{Row, row_at, rows, placed_rows}
use Rattle.xq_trees.specs.Tree.{Label, Tree, nodes, is_attribute}
use Rattle.xq_trees.specs.Value.{string_value, texts}
use Rattle.xq_trees.specs.declared.Axis.TheVariants as axis
use Rattle.xq_trees.specs.declared.Kind.{Kind}
use Rattle.xq_trees.specs.declared.Kind.TheVariants as kind
use Rattle.xq_trees.specs.declared.items.Node.{Node as Spot}
use Rattle.xq_trees.proofs.Encoding.{length-rows}
use Rattle.xq_packed.specs.Values.{is_attribute as is_found, is_valued, valued}
use Rattle.xq_sources.specs.Sources.{tree_at, HasNode}
use Rattle.xq_meaning.specs.declared.node_tests.Test.{Test}
use Rattle.xq_meaning.specs.declared.node_tests.Test.TheVariants as tests
use Rattle.xq_meaning.specs.Items.{Place, place, nodes_at, tree_below}
use Rattle.xq_meaning.specs.Readings.{node_at}
use Rattle.xq_meaning.specs.Steps.{axis_nodes, passes}
use Rattle.xq_axes.specs.Owners.{owns_valued}
use Rattle.xq_axes.specs.Reads.{is_parent}
use Rattle.xq_axes.specs.private.Hits.{is_wanted, below_where}
use Rattle.xq_axes.proofs.Merging.{any_map}
use Rattle.xq_axes.proofs.Named.{front_places}
use Rattle.xq_axes.proofs.OnPaths.{axis_nodes_of}
use Rattle.xq_axes.proofs.Sizes.{node_of, value_by_leaf}

-- # The places of the attributes

-- the row at this place is that of an attribute with the name and the value
abbrev is_valued_at : Tree → Text → Text → ℕ → Bool
is_valued_at t name value p = is_valued name value (row_at (rows t) p)

valued_below : (t : Tree) (name value : Text) → valued (rows t) name value ≡ below_where (is_valued_at t name value) (count (nodes t))
valued_below t name value =
    let ps = placed_rows t in
    let many = length-enumerate_from 0 (rows t) in
    let length : length (rows t) ≡ count (nodes t) = length-rows t in
    let test : ℕ × Row → Bool = λ p. is_valued name value p.1 in
    ap (λ xs. map (λ (p : ℕ × Row). p.0) (filter test xs)) (sym (take_all (count (nodes t)) ps (omega (arith, many, length))))
    ∙ front_places test (rows t) (count (nodes t)) (omega (arith, length))

-- # Two tests, one after the other

single : (g : ℕ → Bool) (n : ℕ) (b : Bool) → list_any g (cond b (n ∷ []) []) ≡ (b && g n)
single g n true = or_false (g n)
  where
    or_false : (b : Bool) → (b || false) ≡ b
    or_false true = refl
    or_false false = refl
single g n false = refl

any_below : (f g f' g' : ℕ → Bool) (n : ℕ) → ((p : ℕ) → p < n → (f p && g p) ≡ (f' p && g' p)) → list_any g (below_where f n) ≡ list_any g' (below_where f' n)
any_below f g f' g' zero h = refl
any_below f g f' g' (suc n) h =
    let before = any_below f g f' g' n (λ p l. h p (omega (arith, l))) in
    list_any-append g (below_where f n) (cond (f n) (n ∷ []) [])
    ∙ ap (λ b. b || list_any g (cond (f n) (n ∷ []) [])) before
    ∙ ap (λ b. list_any g' (below_where f' n) || b) (single g n (f n) ∙ h n (omega arith) ∙ sym (single g' n (f' n)))
    ∙ sym (list_any-append g' (below_where f' n) (cond (f' n) (n ∷ []) []))

turned : (i o a b : Bool) → ((((i && (o && true)) || false) && a) && b) ≡ ((a && b) && (i && o))
turned true true true true = refl
turned true true true false = refl
turned true true false b = refl
turned true false true true = refl
turned true false true false = refl
turned true false false b = refl
turned false o true true = refl
turned false o true false = refl
turned false o false b = refl

none : (x s : Bool) → ((x && false) && s) ≡ false
none true s = refl
none false s = refl

-- # The step

module _ (trees : List Tree) (n : Spot) (there : HasNode trees n.tree n.pre) (name text : Text) where
  abbrev t : Tree
  t = tree_at trees n.tree

  abbrev at : ℕ → Place
  at p = place n.tree (path_at (nodes_at trees n.tree) p)

  abbrev value : Place → Text
  value q = string_value (tree_below trees q)

  abbrev node_test : Test
  node_test = tests.Attribute (Some name)

  -- an attribute's value is that of its row
  value_of : (p : ℕ) → p < count (nodes t) → (row_at (rows t) p).label.kind ≡ kind.Attribute → value (at p) ≡ (row_at (rows t) p).label.value
  value_of p h k =
      let q = tree_below trees (at p) in
      let label = (node_of t p h).label in
      let is : q.root.kind ≡ kind.Attribute = sym (ap (λ (l : Label). l.kind) label) ∙ k in
      value_by_leaf q.root.kind q.root.value (texts q.below) (ap is_parent is) ∙ sym (ap (λ (l : Label). l.value) label)

  module _ (p : ℕ) (h : p < count (nodes t)) where
    abbrev r : Row
    r = row_at (rows t) p

    abbrev i : Bool
    i = inside (rows t) n.pre p

    abbrev o : Bool
    o = one_below (rows t) n.pre p

    abbrev stepped : Kind → Text → Bool
    stepped k v = (((i && (o && not (not (is_attribute k)))) || false) && passes node_test k r.label.name) && text_eq text v

    abbrev owned : Kind → Bool
    owned k = ((is_found k && text_eq name r.label.name) && text_eq text r.label.value) && (i && o)

    other : (k : Kind) → r.label.kind ≡ k → stepped k (value (at p)) ≡ false → owned k ≡ false → stepped r.label.kind (value (at p)) ≡ owned r.label.kind
    other k e a b = ap (λ x. stepped x (value (at p))) e ∙ a ∙ sym b ∙ sym (ap owned e)

    by_kind : (k : Kind) → r.label.kind ≡ k → stepped r.label.kind (value (at p)) ≡ owned r.label.kind
    by_kind kind.Attribute e =
        ap (λ x. stepped x (value (at p))) e ∙ ap (stepped kind.Attribute) (value_of p h e)
        ∙ turned i o (text_eq name r.label.name) (text_eq text r.label.value)
        ∙ sym (ap owned e)
    by_kind kind.Document e = other kind.Document e (none _ _) refl
    by_kind kind.Element e = other kind.Element e (none _ _) refl
    by_kind kind.Text e = other kind.Text e (none _ _) refl
    by_kind kind.Comment e = other kind.Comment e (none _ _) refl
    by_kind kind.ProcessingInstruction e = other kind.ProcessingInstruction e (none _ _) refl

    at_each : (is_wanted axis.Attributes node_test t (n.pre ∷ []) p && text_eq text (value (at p))) ≡ (is_valued_at t name text p && in_region axis.Parent (rows t) p n.pre)
    at_each = by_kind r.label.kind refl

  pub step_owned : list_any (text_eq text) (map value (axis_nodes trees axis.Attributes node_test (node_at trees n))) ≡ owns_valued t name text n.pre
  step_owned =
      let wanted = is_wanted axis.Attributes node_test t (n.pre ∷ []) in
      let ws = below_where wanted (count (nodes t)) in
      ap (λ ps. list_any (text_eq text) (map value ps)) (axis_nodes_of trees axis.Attributes node_test n there)
      ∙ any_map (text_eq text) value (map at ws)
      ∙ any_map (λ q. text_eq text (value q)) at ws
      ∙ any_below wanted (λ p. text_eq text (value (at p))) (is_valued_at t name text) (λ p. in_region axis.Parent (rows t) p n.pre) (count (nodes t)) at_each
      ∙ ap (list_any (λ p. in_region axis.Parent (rows t) p n.pre)) (sym (valued_below t name text))
