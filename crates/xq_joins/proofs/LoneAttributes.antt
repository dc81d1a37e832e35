-- A node of a tree has at most one attribute with a given name.
use Rattle.std.proofs.Common.{◌≡◌, ℕ, zero, suc, ◌+◌, ◌≤◌, List, [], ◌∷◌, ◌++◌, length, map, cond, Bool, true, false, ◌&&◌, refl, sym, ◌∙◌, ap, subst, arith}
use Rattle.std.specs.Prelude.{filter, nat_eq, Some}
use Rattle.std.specs.List.{AllByRecursion, IsDistinct}
use Rattle.std.specs.Str.{bytes_eq}
use Rattle.std.proofs.lemmas.List.{length-append, length-map}
use Rattle.std.proofs.lemmas.List.Elements.{filter-append}
use Rattle.std.proofs.lemmas.Map.Keys.{IsDistinct-head, IsDistinct-tail}
use Rattle.std.proofs.lemmas.Slice.Eq.{bytes_eq-Decides}
use Rattle.xq_atoms.specs.Text.{Text, text_eq}
use Rattle.xq_trees.specs.AxisTests.{is_above, on_axis}
use Rattle.xq_trees.specs.Forest.{Forest, end, node, tops, EachNode}
use Rattle.xq_trees.specs.Node.{label_at as label_in}
use Rattle.xq_trees.specs.Order.{step_down, step_right}
use Rattle.xq_trees.specs.Tree.{Label, Tree, IsTree, nodes, no_label, is_attribute, attribute_names}
use Rattle.xq_trees.specs.declared.Axis.TheVariants as axis
use Rattle.xq_trees.specs.declared.Kind.{Kind}
use Rattle.xq_trees.specs.declared.Kind.TheVariants as kind
use Rattle.xq_trees.proofs.Lists.{all_append}
use Rattle.xq_sources.specs.Sources.{tree_at}
use Rattle.xq_meaning.specs.declared.node_tests.Test.TheVariants as test
use Rattle.xq_meaning.specs.Items.{Place, place, paths, nodes_at, label_at}
use Rattle.xq_meaning.specs.Steps.{axis_nodes, passes, passes_at}
use Rattle.xq_meaning.proofs.PathLemmas.{filter-map}

-- # Lists

filter_twice : {A : Type 0} (g h : A → Bool) (xs : List A) → filter g (filter h xs) ≡ filter (λ x. h x && g x) xs
filter_twice g h [] = refl
filter_twice g h (x ∷ xs) = by (h x) (filter_twice g h xs)
  where
    by : (b : Bool) → filter g (filter h xs) ≡ filter (λ y. h y && g y) xs → filter g (cond b (x ∷ filter h xs) (filter h xs)) ≡ cond (b && g x) (x ∷ filter (λ y. h y && g y) xs) (filter (λ y. h y && g y) xs)
    by true e = ap (λ l. cond (g x) (x ∷ l) l) e
    by false e = e

filter_same : {A : Type 0} (P : A → Type 0) (g h : A → Bool) (xs : List A) → AllByRecursion P xs → ((x : A) → P x → g x ≡ h x) → filter g xs ≡ filter h xs
filter_same P g h [] all same = refl
filter_same P g h (x ∷ xs) all same =
    ap (λ b. cond b (x ∷ filter g xs) (filter g xs)) (same x all.0) ∙ ap (λ l. cond (h x) (x ∷ l) l) (filter_same P g h xs all.1 same)

none_kept : {A : Type 0} (xs : List A) → filter (λ x. false) xs ≡ []
none_kept [] = refl
none_kept (x ∷ xs) = none_kept xs

-- # Paths

-- the path has a step
abbrev Steps : List ℕ → Type 0
Steps [] = ⊥
Steps (i ∷ p) = Unit {0}

all_down : (ps : List (List ℕ)) → AllByRecursion Steps (map step_down ps)
all_down [] = tt
all_down (p ∷ ps) = (tt, all_down ps)

all_right : (ps : List (List ℕ)) → AllByRecursion Steps ps → AllByRecursion Steps (map step_right ps)
all_right [] h = tt
all_right ([] ∷ ps) h = absurd h.0
all_right ((i ∷ p) ∷ ps) h = (tt, all_right ps h.1)

paths_step : {A : Type 0} (f : Forest A) → AllByRecursion Steps (paths f)
paths_step end = tt
paths_step (node a k r) = (tt, all_append Steps (map step_down (paths k)) (map step_right (paths r)) (all_down (paths k)) (all_right (paths r) (paths_step r)))

module _ (k r : Forest Label) (h in_k in_r : List ℕ → Bool) (down : (w : List ℕ) → Steps w → h (step_down w) ≡ in_k w) (right : (w : List ℕ) → Steps w → h (step_right w) ≡ in_r w) where
  kept_below : filter h (map step_down (paths k)) ≡ map step_down (filter in_k (paths k))
  kept_below = filter-map h step_down (paths k) ∙ ap (map step_down) (filter_same Steps (λ w. h (step_down w)) in_k (paths k) (paths_step k) down)

  kept_beside : filter h (map step_right (paths r)) ≡ map step_right (filter in_r (paths r))
  kept_beside = filter-map h step_right (paths r) ∙ ap (map step_right) (filter_same Steps (λ w. h (step_right w)) in_r (paths r) (paths_step r) right)

  -- of the paths below and beside a node as many pass as pass there
  kept_parts : length (filter h (map step_down (paths k) ++ map step_right (paths r))) ≡ length (filter in_k (paths k)) + length (filter in_r (paths r))
  kept_parts =
      ap length (filter-append h (map step_down (paths k)) (map step_right (paths r)))
      ∙ length-append (filter h (map step_down (paths k))) (filter h (map step_right (paths r)))
      ∙ (λ i. length (kept_below i) + length (kept_beside i))
      ∙ (λ i. length-map (filter in_k (paths k)) step_down i + length-map (filter in_r (paths r)) step_right i)

-- # Numbers

next_equal : (m n : ℕ) → nat_eq (suc m) (suc n) ≡ nat_eq m n
next_equal m n = grind arith

zero_not_next : (n : ℕ) → nat_eq zero (suc n) ≡ false
zero_not_next n = grind arith

next_not_zero : (n : ℕ) → nat_eq (suc n) zero ≡ false
next_not_zero n = grind arith

not_one : (n : ℕ) → nat_eq (suc (suc n)) 1 ≡ false
not_one n = grind arith

-- # Children

module _ (g : Label → Bool) where
  -- the path is that of a node at the top, whose label passes
  abbrev is_top : Forest Label → List ℕ → Bool
  is_top f w = nat_eq (length w) 1 && g (label_in no_label f w)

  -- the path is that of a node right below the one at v, and its label passes
  abbrev is_below : Forest Label → List ℕ → List ℕ → Bool
  is_below f v w = is_above v w && (nat_eq (length w) (suc (length v)) && g (label_in no_label f w))

  never : List ℕ → Bool
  never w = false

  no_paths : (f : Forest Label) → length (filter (λ w. false) (paths f)) ≡ 0
  no_paths f = ap length (none_kept (paths f))

  top_down : (a : Label) (k r : Forest Label) (w : List ℕ) → Steps w → is_top (node a k r) (step_down w) ≡ false
  top_down a k r [] h = absurd h
  top_down a k r (i ∷ w) h = ap (λ b. b && g (label_in no_label k (i ∷ w))) (not_one (length w))

  top_right : (a : Label) (k r : Forest Label) (w : List ℕ) → Steps w → is_top (node a k r) (step_right w) ≡ is_top r w
  top_right a k r [] h = absurd h
  top_right a k r (i ∷ w) h = refl

  one_more : {A B : Type 0} (b : Bool) (x : A) (xs : List A) (y : B) (ys : List B) → length xs ≡ length ys → length (cond b (x ∷ xs) xs) ≡ length (cond b (y ∷ ys) ys)
  one_more true x xs y ys e = ap suc e
  one_more false x xs y ys e = e

  tops_kept : (f : Forest Label) → length (filter (is_top f) (paths f)) ≡ length (filter g (tops f))
  tops_kept end = refl
  tops_kept (node a k r) =
      let rest = map step_down (paths k) ++ map step_right (paths r) in
      let parts = kept_parts k r (is_top (node a k r)) (λ w. false) (is_top r) (top_down a k r) (top_right a k r) in
      one_more (g a) (zero ∷ []) (filter (is_top (node a k r)) rest) a (filter g (tops r)) (omega (arith, parts, no_paths k, tops_kept r))

  -- below a first node
  first_down : (a : Label) (k r : Forest Label) (w : List ℕ) → Steps w → is_below (node a k r) (zero ∷ []) (step_down w) ≡ is_top k w
  first_down a k r [] h = absurd h
  first_down a k r (i ∷ w) h = ap (λ b. b && g (label_in no_label k (i ∷ w))) (next_equal (suc (length w)) 1)

  first_right : (a : Label) (k r : Forest Label) (v : List ℕ) (w : List ℕ) → Steps w → is_below (node a k r) (zero ∷ v) (step_right w) ≡ false
  first_right a k r v [] h = absurd h
  first_right a k r v (i ∷ w) h =
      ap (λ b. (b && is_above v w) && (nat_eq (suc (length w)) (suc (suc (length v))) && g (label_in no_label r (i ∷ w)))) (zero_not_next i)

  -- further down
  later_down : (a : Label) (k r : Forest Label) (i : ℕ) (v w : List ℕ) → Steps w → is_below (node a k r) (zero ∷ i ∷ v) (step_down w) ≡ is_below k (i ∷ v) w
  later_down a k r i v [] h = absurd h
  later_down a k r i v (j ∷ w) h =
      ap (λ b. (nat_eq i j && is_above v w) && (b && g (label_in no_label k (j ∷ w)))) (next_equal (suc (length w)) (suc (suc (length v))))

  -- further to the right
  later_right : (a : Label) (k r : Forest Label) (i : ℕ) (v w : List ℕ) → Steps w → is_below (node a k r) (suc i ∷ v) (step_right w) ≡ is_below r (i ∷ v) w
  later_right a k r i v [] h = absurd h
  later_right a k r i v (j ∷ w) h =
      ap (λ b. (b && is_above v w) && (nat_eq (suc (length w)) (suc (suc (length v))) && g (label_in no_label r (j ∷ w)))) (next_equal i j)

  right_down : (a : Label) (k r : Forest Label) (i : ℕ) (v w : List ℕ) → Steps w → is_below (node a k r) (suc i ∷ v) (step_down w) ≡ false
  right_down a k r i v w h =
      ap (λ b. (b && is_above v w) && (nat_eq (suc (length w)) (suc (suc (length v))) && g (label_in no_label (node a k r) (zero ∷ w)))) (next_not_zero i)

  unhit : (a : Label) (k r : Forest Label) (i : ℕ) (v : List ℕ) → is_below (node a k r) (suc i ∷ v) (zero ∷ []) ≡ false
  unhit a k r i v = ap (λ b. (b && false) && (nat_eq 1 (suc (suc (length v))) && g a)) (next_not_zero i)

  -- at most one child of each node passes, where at most one label does of those below each node
  below_kept : (P : Label → List Label → Type 0) → ((a : Label) (labels : List Label) → P a labels → length (filter g labels) ≤ 1) → (f : Forest Label) → EachNode P f → (i : ℕ) (v : List ℕ) → length (filter (is_below f (i ∷ v)) (paths f)) ≤ 1
  below_kept P one end each i v = omega arith
  below_kept P one (node a k r) each zero [] =
      let parts = kept_parts k r (is_below (node a k r) (zero ∷ [])) (is_top k) (λ w. false) (first_down a k r) (first_right a k r []) in
      omega (arith, parts, tops_kept k, no_paths r, one a (tops k) each.0)
  below_kept P one (node a k r) each zero (i ∷ v) =
      let parts = kept_parts k r (is_below (node a k r) (zero ∷ i ∷ v)) (is_below k (i ∷ v)) (λ w. false) (later_down a k r i v) (first_right a k r (i ∷ v)) in
      omega (arith, parts, no_paths r, below_kept P one k each.1.0 i v)
  below_kept P one (node a k r) each (suc i) v =
      let parts = kept_parts k r (is_below (node a k r) (suc i ∷ v)) (λ w. false) (is_below r (i ∷ v)) (right_down a k r i v) (later_right a k r i v) in
      let rest = map step_down (paths k) ++ map step_right (paths r) in
      let first = ap (λ b. length (cond b ((zero ∷ []) ∷ filter (is_below (node a k r) (suc i ∷ v)) rest) (filter (is_below (node a k r) (suc i ∷ v)) rest))) (unhit a k r i v) in
      omega (arith, first, parts, no_paths k, below_kept P one r each.1.1 i v)

  top_below : (f : Forest Label) (w : List ℕ) → Steps w → is_below f [] w ≡ is_top f w
  top_below f [] h = absurd h
  top_below f (i ∷ w) h = refl

  lone_top : (b : Bool) (a : Label) → length (cond b (a ∷ []) []) ≤ 1
  lone_top true a = omega arith
  lone_top false a = omega arith

  tree_kept : (P : Label → List Label → Type 0) → ((a : Label) (labels : List Label) → P a labels → length (filter g labels) ≤ 1) → (t : Tree) → EachNode P (nodes t) → (v : List ℕ) → length (filter (is_below (nodes t) v) (paths (nodes t))) ≤ 1
  tree_kept P one t each [] =
      let same = ap length (filter_same Steps (is_below (nodes t) []) (is_top (nodes t)) (paths (nodes t)) (paths_step (nodes t)) (top_below (nodes t))) in
      omega (arith, same, tops_kept (nodes t), lone_top (g t.root) t.root)
  tree_kept P one t each (i ∷ v) = below_kept P one (nodes t) each i v

-- # Names

-- the label is that of an attribute with the name
abbrev is_named : Text → Label → Bool
is_named name a = is_attribute a.kind && text_eq name a.name

names_of : (a : Label) (labels : List Label) (b : Bool) → is_attribute a.kind ≡ b → attribute_names (a ∷ labels) ≡ cond b (a.name ∷ attribute_names labels) (attribute_names labels)
names_of a labels true e = ap (λ t. map (λ (x : Label). x.name) (cond t (a ∷ filter (λ (x : Label). is_attribute x.kind) labels) (filter (λ (x : Label). is_attribute x.kind) labels))) e
names_of a labels false e = ap (λ t. map (λ (x : Label). x.name) (cond t (a ∷ filter (λ (x : Label). is_attribute x.kind) labels) (filter (λ (x : Label). is_attribute x.kind) labels))) e

abbrev Differ : Text → List Text → Type 0
Differ name names = AllByRecursion (λ y. bytes_eq name y ≡ false) names

-- one more label, whose kind and name are known
step_named : (name : Text) (a : Label) (labels : List Label) (b c : Bool) → is_attribute a.kind ≡ b → text_eq name a.name ≡ c → filter (is_named name) (a ∷ labels) ≡ cond (b && c) (a ∷ filter (is_named name) labels) (filter (is_named name) labels)
step_named name a labels b c e s = (λ i. cond (e i && s i) (a ∷ filter (is_named name) labels) (filter (is_named name) labels))

none_named : (name : Text) (labels : List Label) → Differ name (attribute_names labels) → filter (is_named name) labels ≡ []
none_named name [] h = refl
none_named name (a ∷ labels) h = by (is_attribute a.kind) refl (λ d. none_named name labels d)
  where
    by : (b : Bool) → is_attribute a.kind ≡ b → (Differ name (attribute_names labels) → filter (is_named name) labels ≡ []) → filter (is_named name) (a ∷ labels) ≡ []
    by true e later =
        let d = subst (Differ name) (names_of a labels true e) h in
        step_named name a labels true false e d.0 ∙ later d.1
    by false e later = step_named name a labels false (text_eq name a.name) e refl ∙ later (subst (Differ name) (names_of a labels false e) h)

one_named : (name : Text) (labels : List Label) → IsDistinct bytes_eq (attribute_names labels) → length (filter (is_named name) labels) ≤ 1
one_named name [] h = omega arith
one_named name (a ∷ labels) h = by (is_attribute a.kind) refl (text_eq name a.name) refl (λ d. one_named name labels d)
  where
    by : (b : Bool) → is_attribute a.kind ≡ b → (c : Bool) → text_eq name a.name ≡ c → (IsDistinct bytes_eq (attribute_names labels) → length (filter (is_named name) labels) ≤ 1) → length (filter (is_named name) (a ∷ labels)) ≤ 1
    by true e true s later =
        let d = subst (IsDistinct bytes_eq) (names_of a labels true e) h in
        let same : a.name ≡ name = sym ((bytes_eq-Decides name a.name).0 s) in
        let none = none_named name labels (subst (λ n. Differ n (attribute_names labels)) same (IsDistinct-head bytes_eq a.name (attribute_names labels) d)) in
        let first = ap length (step_named name a labels true true e s ∙ ap (λ l. a ∷ l) none) in
        omega (arith, first)
    by true e false s later =
        let first = ap length (step_named name a labels true false e s) in
        let rest = later (IsDistinct-tail bytes_eq a.name (attribute_names labels) (subst (IsDistinct bytes_eq) (names_of a labels true e) h)) in
        omega (arith, first, rest)
    by false e c s later =
        let first = ap length (step_named name a labels false c e s) in
        let rest = later (subst (IsDistinct bytes_eq) (names_of a labels false e) h) in
        omega (arith, first, rest)

-- # The step

passes_named : (k : Kind) (name n : Text) (above level : Bool) → ((above && (level && is_attribute k)) && passes (test.Attribute (Some name)) k n) ≡ (above && (level && (is_attribute k && text_eq name n)))
passes_named k name n true true = by k
  where
    by : (k : Kind) → (is_attribute k && passes (test.Attribute (Some name)) k n) ≡ (is_attribute k && text_eq name n)
    by kind.Document = refl
    by kind.Element = refl
    by kind.Attribute = refl
    by kind.Text = refl
    by kind.Comment = refl
    by kind.ProcessingInstruction = refl
passes_named k name n true false = refl
passes_named k name n false level = refl

-- in a tree a step to the attributes with a name leads to one node at most
pub lone_attribute : (trees : List Tree) (name : Text) (p : Place) → IsTree (tree_at trees p.tree) → length (axis_nodes trees axis.Attributes (test.Attribute (Some name)) p) ≤ 1
lone_attribute trees name p is =
    let t = tree_at trees p.tree in
    let f = nodes t in
    let passing = passes_at trees (test.Attribute (Some name)) in
    let on = on_axis axis.Attributes f p.path in
    let at = λ (w : List ℕ). place p.tree w in
    let wanted = is_below (is_named name) f p.path in
    let first = ap length (filter-map passing at (filter on (paths f))) ∙ length-map (filter (λ w. passing (at w)) (filter on (paths f))) at ∙ ap length (filter_twice (λ w. passing (at w)) on (paths f)) in
    let second = ap length (filter_same Steps (λ w. on w && passing (at w)) wanted (paths f) (paths_step f) (λ w h. passes_named (label_in no_label f w).kind name (label_in no_label f w).name (is_above p.path w) (nat_eq (length w) (suc (length p.path))))) in
    omega (arith, first, second, tree_kept (is_named name) (λ a below. IsDistinct bytes_eq (attribute_names below)) (λ a labels d. one_named name labels d) t is.names p.path)
