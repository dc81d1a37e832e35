-- Items whose nodes are those of the trees: which items of code stand for one, and which of the
-- definitions give only such.
use Rattle.std.proofs.Common.{◌≡◌, ℕ, zero, suc, ◌+◌, ◌-◌, ◌<◌, ◌≤◌, List, [], ◌∷◌, length, map, cond, refl, sym, ◌∙◌, ap, subst, arith, ⊎_elim}
use Rattle.std.specs.List.{AllByRecursion}
use Rattle.std.proofs.lemmas.Bool.{lt-leb, cases_lt}
use Rattle.xq_trees.specs.Forest.{Forest, end, node, count}
use Rattle.xq_trees.specs.Node.{HasPath}
use Rattle.xq_trees.specs.Order.{path_at, step_down, step_right}
use Rattle.xq_trees.specs.Tree.{Tree, nodes}
use Rattle.xq_trees.specs.Items.{ItemView, Place as NodeAt, Value}
use Rattle.xq_trees.proofs.Paths.{at_place, down, right}
use Rattle.xq_sources.specs.Sources.{tree_at}
use Rattle.xq_meaning.specs.Items.{Place, place, Item, Node, Atom, paths, places_from, in_document_order, is_among}
use Rattle.xq_meaning.specs.Operators.{in_order}
use Rattle.xq_meaning.specs.Readings.{item_at, items_at, IsIn, AreIn}
use Rattle.xq_trees.proofs.Lists.{all_append, all_filter}

abbrev pub Exists : List Tree → Item → Type 0
Exists trees (Node p) = (p.tree < length trees) × HasPath (nodes (tree_at trees p.tree)) p.path
Exists trees (Atom a) = Unit {0}

abbrev pub Exist : List Tree → List Item → Type 0
Exist trees xs = AllByRecursion (Exists trees) xs

-- # Paths and places

beyond : {A : Type 0} (f : Forest A) (n : ℕ) → count f ≤ n → path_at f n ≡ []
beyond end n h = refl
beyond (node a k r) zero h = absurd (omega arith)
beyond (node a k r) (suc n) h =
    ap (λ b. cond b (step_down (path_at k n)) (step_right (path_at r (n - count k)))) (lt-leb (suc n) (count k) (omega arith))
    ∙ ap step_right (beyond r (n - count k) (omega arith))

nowhere : {A : Type 0} (f : Forest A) → HasPath f [] → ⊥
nowhere end h = h
nowhere (node a k r) h = h

within : {A : Type 0} (f : Forest A) (n : ℕ) → HasPath f (path_at f n) → n < count f
within f n h = ⊎_elim (λ l. l) (λ g. absurd (nowhere f (subst (HasPath f) (beyond f n g) h))) (cases_lt n (count f))

-- # What items of code stand for

pub exists_at : (trees : List Tree) (x : ItemView) → IsIn trees x → Exists trees (item_at trees x)
exists_at trees (NodeAt n) h = (h.tree_in, (at_place (nodes (tree_at trees n.tree)) n.pre h.node_in).exists)
exists_at trees (Value a) h = tt

pub is_in : (trees : List Tree) (x : ItemView) → Exists trees (item_at trees x) → IsIn trees x
is_in trees (NodeAt n) h = record { tree_in = h.0; node_in = within (nodes (tree_at trees n.tree)) n.pre h.1 }
is_in trees (Value a) h = tt

pub exist_at : (trees : List Tree) (xs : List ItemView) → AreIn trees xs → Exist trees (items_at trees xs)
exist_at trees [] h = tt
exist_at trees (x ∷ xs) h = (exists_at trees x h.0, exist_at trees xs h.1)

pub are_in : (trees : List Tree) (xs : List ItemView) → Exist trees (items_at trees xs) → AreIn trees xs
are_in trees [] h = tt
are_in trees (x ∷ xs) h = (is_in trees x h.0, are_in trees xs h.1)

-- # Lists

pub all_map : {A B : Type 0} (P : A → Type 0) (Q : B → Type 0) (f : A → B) → ((x : A) → P x → Q (f x)) → (xs : List A) → AllByRecursion P xs → AllByRecursion Q (map f xs)
all_map P Q f step [] h = tt
all_map P Q f step (x ∷ xs) h = (step x h.0, all_map P Q f step xs h.1)

-- # Document order

paths_lead : {A : Type 0} (f : Forest A) → AllByRecursion (HasPath f) (paths f)
paths_lead end = tt
paths_lead (node a k r) = (
  tt,
  all_append (HasPath (node a k r)) (map step_down (paths k)) (map step_right (paths r))
      (all_map (HasPath k) (HasPath (node a k r)) step_down (λ p h. (down a k r p h).0) (paths k) (paths_lead k))
      (all_map (HasPath r) (HasPath (node a k r)) step_right (λ p h. (right a k r p h).0) (paths r) (paths_lead r)),
)

-- the trees from n on are these
abbrev StandAt : List Tree → List Tree → ℕ → Type 0
StandAt trees ts n = (i : ℕ) → i < length ts → (n + i < length trees) × (tree_at trees (n + i) ≡ tree_at ts i)

abbrev pub IsPlace : List Tree → Place → Type 0
IsPlace trees p = Exists trees (Node p)

places_exist : (trees ts : List Tree) (n : ℕ) → StandAt trees ts n → AllByRecursion (IsPlace trees) (places_from n ts)
places_exist trees [] n stand = tt
places_exist trees (t ∷ ts) n stand =
    let first = stand 0 (omega arith) in
    let here : n + 0 ≡ n = omega arith in
    let there : n < length trees = omega (arith, first.0) in
    let same : t ≡ tree_at trees n = sym (ap (tree_at trees) (sym here) ∙ first.1) in
    let later : StandAt trees ts (suc n) = λ i h. (
    let w = stand (suc i) (omega (arith, h)) in
    let e : suc n + i ≡ n + suc i = omega arith in
    (omega (arith, w.0), ap (tree_at trees) e ∙ w.1)) in
    all_append (IsPlace trees) (map (place n) (paths (nodes t))) (places_from (suc n) ts)
    (all_map (HasPath (nodes t)) (IsPlace trees) (place n) (λ p h. (there, subst (λ u. HasPath (nodes u) p) same h)) (paths (nodes t)) (paths_lead (nodes t)))
    (places_exist trees ts (suc n) later)

-- each node in document order is one of the trees
pub all_exist : (trees : List Tree) → AllByRecursion (IsPlace trees) (places_from 0 trees)
all_exist trees =
    let all : StandAt trees trees 0 = λ i h. (let e : 0 + i ≡ i = omega arith in (omega (arith, h), ap (tree_at trees) e)) in
    places_exist trees trees 0 all

pub ordered_exist : (trees : List Tree) (ps : List Place) → Exist trees (in_order trees ps)
ordered_exist trees ps =
    all_map (IsPlace trees) (Exists trees) Node (λ p h. h) (in_document_order trees ps) (all_filter (IsPlace trees) (is_among ps) (places_from 0 trees) (all_exist trees))
