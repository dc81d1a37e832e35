-- Items that have to be nodes.
use Rattle.std.proofs.Common.{◌≡◌, ◌++◌, ◌-◌, ℕ, List, [], ◌∷◌, length, map, take, drop, reverse, true, false, Option, Some, None, Ok, Err, refl, sym, ◌∙◌, ap, subst}
use Rattle.std.specs.Prelude.{if◌then◌else◌}
use Rattle.std.specs.List.{AllByRecursion, flat_map}
use Rattle.std.proofs.lemmas.List.{drop-map, length-map, take-map}
use Rattle.xq_atoms.specs.declared.refusals.Code.{Code}
use Rattle.xq_atoms.specs.declared.refusals.Code.TheVariants.{XPTY0019, XPTY0020}
use Rattle.xq_atoms.specs.Judged.{Judged, ◌>>=◌}
use Rattle.xq_axes.specs.DoubleSlash.{selves_and_below, after_double_slash as after_places}
use Rattle.xq_axes.specs.Nodes.{HaveAll, last_of}
use Rattle.xq_trees.specs.declared.Axis.{Axis}
use Rattle.xq_trees.specs.declared.Axis.TheVariants.{Child, DescendantOrSelf, Parent}
use Rattle.xq_trees.specs.declared.items.Node.{Node as Spot}
use Rattle.xq_trees.specs.Items.{ItemView, Place as NodeAt, Value, item_view}
use Rattle.xq_trees.specs.Tree.{Tree}
use Rattle.xq_sources.specs.Sources.{HasNode}
use Rattle.xq_meaning.specs.declared.node_tests.Test.{Test}
use Rattle.xq_meaning.specs.declared.node_tests.Test.TheVariants.{Any}
use Rattle.xq_meaning.specs.Arguments.{all_nodes, node_or}
use Rattle.xq_meaning.specs.Functions.{Focus as Meant}
use Rattle.xq_meaning.specs.Items.{Place, Item, Node, in_document_order}
use Rattle.xq_meaning.specs.Operators.{in_order}
use Rattle.xq_meaning.specs.Readings.{node_at, item_at, items_at, IsIn, AreIn}
use Rattle.xq_meaning.specs.Steps.{context_node, axis_nodes, in_axis_order, is_reverse}
use Rattle.xq_meaning.specs.Doing.{Doing, Outcome, go_on, give, judged, on_trees}
use Rattle.xq_meaning.specs.Forms as Forms
use Rattle.xq_operators.specs.declared.contexts.Focus.{Focus}
use Rattle.xq_operators.specs.Views.{forget, focus_at, FocusIn, on_axis, first_on_axis, last_on_axis, after_double_slash, parents_below}
use Rattle.xq_operators.specs.Nodes.{nodes_among}
use Rattle.xq_operators.proofs.Existing.{Exists, exists_at, is_in}
use Rattle.xq_trees.proofs.Lists.{map_reverse, all_reverse}

after_node : (p : Place) (r : Judged (List Place)) → forget (r >>= (λ ps. Ok (p ∷ ps))) ≡ forget r
after_node p (Ok ps) = refl
after_node p (Err code) = refl

pub nodes_next : (trees : List Tree) (code : Code) (p : Place) (xs : List Item) → forget (all_nodes code (Node p ∷ xs)) ≡ forget (all_nodes code xs)
nodes_next trees code p xs = after_node p (all_nodes code xs)

abbrev Refused : {A : Type 0} → Judged A → Type 0
Refused (Ok x) = ⊥
Refused (Err code) = Unit {0}

-- where all are nodes, they are those among the items
pub all_among : (trees : List Tree) (code : Code) (views : List ItemView) → forget (all_nodes code (items_at trees views)) ≡ Ok tt → all_nodes code (items_at trees views) ≡ Ok (map (node_at trees) (nodes_among views))
all_among trees code [] h = refl
all_among trees code (NodeAt n ∷ views) h =
    ap (λ r. r >>= (λ ps. Ok (node_at trees n ∷ ps))) (all_among trees code views (sym (after_node (node_at trees n) (all_nodes code (items_at trees views))) ∙ h))
all_among trees code (Value a ∷ views) h = absurd (subst (λ (r : Judged (Unit {0})). Refused r) h tt)

pub among-append : (xs ys : List ItemView) → nodes_among (xs ++ ys) ≡ nodes_among xs ++ nodes_among ys
among-append [] ys = refl
among-append (NodeAt n ∷ xs) ys = ap (λ l. n ∷ l) (among-append xs ys)
among-append (Value a ∷ xs) ys = among-append xs ys

pub among_in : (trees : List Tree) (views : List ItemView) → AreIn trees views → HaveAll trees (nodes_among views)
among_in trees [] h = tt
among_in trees (NodeAt n ∷ views) h = (h.0, among_in trees views h.1)
among_in trees (Value a ∷ views) h = among_in trees views h.1

-- nodes as items

pub items_read : (trees : List Tree) (nodes : List Spot) → items_at trees (map NodeAt nodes) ≡ map Node (map (node_at trees) nodes)
items_read trees [] = refl
items_read trees (n ∷ ns) = ap (λ l. Node (node_at trees n) ∷ l) (items_read trees ns)

pub items_in : (trees : List Tree) (nodes : List Spot) → HaveAll trees nodes → AreIn trees (map NodeAt nodes)
items_in trees [] h = tt
items_in trees (n ∷ ns) h = (h.0, items_in trees ns h.1)

pub among_places : (nodes : List Spot) → nodes_among (map NodeAt nodes) ≡ nodes
among_places [] = refl
among_places (n ∷ ns) = ap (λ l. n ∷ l) (among_places ns)

pub are_nodes : (code : Code) (ps : List Place) → all_nodes code (map Node ps) ≡ Ok ps
are_nodes code [] = refl
are_nodes code (p ∷ ps) = ap (λ r. r >>= (λ qs. Ok (p ∷ qs))) (are_nodes code ps)

pub all_places : (trees : List Tree) (nodes : List Spot) → forget (all_nodes XPTY0019 (items_at trees (map NodeAt nodes))) ≡ Ok tt
all_places trees nodes =
    ap (λ xs. forget (all_nodes XPTY0019 xs)) (items_read trees nodes)
    ∙ ap (λ (r : Judged (List Place)). forget r) (are_nodes XPTY0019 (map (node_at trees) nodes))

-- # The context node

abbrev IsThere : List Tree → Judged Place → Type 0
IsThere trees (Ok p) = Exists trees (Node p)
IsThere trees (Err code) = Unit {0}

item_there : (trees : List Tree) (x : ItemView) → IsIn trees x → IsThere trees (node_or XPTY0020 (item_at trees x))
item_there trees (NodeAt n) h = exists_at trees (NodeAt n) h
item_there trees (Value a) h = tt

focus_there : (trees : List Tree) (focus : Option Focus) → FocusIn trees focus → IsThere trees (context_node (focus_at trees focus))
focus_there trees None h = tt
focus_there trees (Some f) h = item_there trees (item_view f.item.now) h

pub context_in : (trees : List Tree) (focus : Option Focus) (node : Spot) → FocusIn trees focus → Ok (node_at trees node) ≡ context_node (focus_at trees focus) → HasNode trees node.tree node.pre
context_in trees focus node h e = is_in trees (NodeAt node) (subst (IsThere trees) (sym e) (focus_there trees focus h))

-- # Axis order

turned_all : {A : Type 0} (P : A → Type 0) (axis : Axis) (xs : List A) → AllByRecursion P xs → AllByRecursion P (in_axis_order axis xs)
turned_all P axis xs h = elim (is_reverse axis) as (λ b. AllByRecursion P (if b then reverse xs else xs)) [ true ↦ all_reverse P xs h | false ↦ h ]

turned_map : {A B : Type 0} (f : A → B) (axis : Axis) (xs : List A) → map f (in_axis_order axis xs) ≡ in_axis_order axis (map f xs)
turned_map f axis xs = elim (is_reverse axis) as (λ b. map f (if b then reverse xs else xs) ≡ (if b then reverse (map f xs) else map f xs)) [ true ↦ map_reverse f xs | false ↦ refl ]

pub axis_gives : (f : List Tree) (axis : Axis) (test : Test) (focus : Option Meant) (node : Spot) (nodes : List Spot) (views : List ItemView)
    → Ok (node_at f node) ≡ context_node focus → map (node_at f) nodes ≡ axis_nodes f axis test (node_at f node) → HaveAll f nodes → views ≡ in_axis_order axis (map NodeAt nodes)
    → AreIn f views × (on_axis axis test focus f ≡ (Ok (items_at f views), f))
axis_gives f axis test focus node nodes views context found have is = (
  subst (AreIn f) (sym is) (turned_all (IsIn f) axis (map NodeAt nodes) (items_in f nodes have)),
  ap (λ r. go_on (judged r f) (λ p. on_trees (λ trees. Ok (map Node (in_axis_order axis (axis_nodes trees axis test p)))))) (sym context)
      ∙ ap (λ xs. (Ok xs, f))
      (ap (λ ps. map Node (in_axis_order axis ps)) (sym found) ∙ turned_map Node axis (map (node_at f) nodes) ∙ ap (in_axis_order axis) (sym (items_read f nodes))
      ∙ sym (turned_map (item_at f) axis (map NodeAt nodes)) ∙ ap (items_at f) (sym is)),
)

-- # Some of the children

-- a part of them, which is chosen by their places alone
part_gives : (part : List Place → List Place) (part_items : List Item → List Item) → ((ps : List Place) → part_items (map Node ps) ≡ map Node (part ps)) → (f : List Tree) (test : Test) (focus : Option Meant) (node : Spot) (nodes : List Spot) (views : List ItemView)
    → Ok (node_at f node) ≡ context_node focus → map (node_at f) nodes ≡ part (axis_nodes f Child test (node_at f node)) → HaveAll f nodes → views ≡ map NodeAt nodes
    → AreIn f views × (go_on (on_axis Child test focus f) (λ xs. give (part_items xs)) ≡ (Ok (items_at f views), f))
part_gives part part_items maps f test focus node nodes views context found have is = (
  subst (AreIn f) (sym is) (items_in f nodes have),
  ap (λ r. go_on (go_on (judged r f) (λ p. on_trees (λ trees. Ok (map Node (in_axis_order Child (axis_nodes trees Child test p)))))) (λ xs. give (part_items xs))) (sym context)
      ∙ ap (λ xs. (Ok xs, f)) (maps (axis_nodes f Child test (node_at f node)) ∙ ap (map Node) (sym found) ∙ sym (items_read f nodes) ∙ ap (items_at f) (sym is)),
)

-- the first children
pub first_gives : (f : List Tree) (test : Test) (most : ℕ) (focus : Option Meant) (node : Spot) (nodes : List Spot) (views : List ItemView)
    → Ok (node_at f node) ≡ context_node focus → map (node_at f) nodes ≡ take most (axis_nodes f Child test (node_at f node)) → HaveAll f nodes → views ≡ map NodeAt nodes
    → AreIn f views × (first_on_axis most Child test focus f ≡ (Ok (items_at f views), f))
first_gives f test most = part_gives (take most) (take most) (take-map Node most) f test

-- the last child
last-map : (ps : List Place) → last_of (map Node ps) ≡ map Node (last_of ps)
last-map ps = ap (λ n. drop (n - 1) (map Node ps)) (length-map ps Node) ∙ drop-map Node (length ps - 1) ps

pub last_gives : (f : List Tree) (test : Test) (focus : Option Meant) (node : Spot) (nodes : List Spot) (views : List ItemView)
    → Ok (node_at f node) ≡ context_node focus → map (node_at f) nodes ≡ last_of (axis_nodes f Child test (node_at f node)) → HaveAll f nodes → views ≡ map NodeAt nodes
    → AreIn f views × (last_on_axis Child test focus f ≡ (Ok (items_at f views), f))
last_gives f test = part_gives (λ ps. last_of ps) (λ xs. last_of xs) last-map f test

-- # Scans

pub scan_gives : (f : List Tree) (axis : Axis) (test : Test) (views : List ItemView) (nodes : List Spot) (found : List ItemView)
    → forget (all_nodes XPTY0019 (items_at f views)) ≡ Ok tt → map (node_at f) nodes ≡ in_document_order f (flat_map (axis_nodes f axis test) (map (node_at f) (nodes_among views))) → HaveAll f nodes → found ≡ map NodeAt nodes
    → AreIn f found × (Forms.scan axis test (items_at f views) f ≡ (Ok (items_at f found), f))
scan_gives f axis test views nodes found all step have is = (
  subst (AreIn f) (sym is) (items_in f nodes have),
  ap (λ r. go_on (judged r f) (λ places. on_trees (λ trees. Ok (in_order trees (flat_map (axis_nodes trees axis test) places))))) (all_among f XPTY0019 views all)
      ∙ ap (λ xs. (Ok xs, f)) (ap (map Node) (sym step) ∙ sym (items_read f nodes) ∙ ap (items_at f) (sym is)),
)

abbrev again : {B : Type 0} → Code → Judged (Unit {0}) → Judged B
again code (Ok x) = Err code
again code (Err other) = Err other

stops_at : {A B : Type 0} (r : Judged A) (next : A → Doing B) (f : List Tree) (code : Code) → forget r ≡ Err code → (go_on (judged r f) next).0 ≡ Err code
stops_at (Ok x) next f code h = absurd (subst (λ (o : Judged (Unit {0})). Refused o) (sym h) tt)
stops_at (Err other) next f code h = ap (again code) h

pub scan_stops : (f : List Tree) (axis : Axis) (test : Test) (xs : List Item) (code : Code) → forget (all_nodes XPTY0019 xs) ≡ Err code → (Forms.scan axis test xs f).0 ≡ Err code
scan_stops f axis test xs code h = stops_at (all_nodes XPTY0019 xs) (λ places. on_trees (λ trees. Ok (in_order trees (flat_map (axis_nodes trees axis test) places)))) f code h

-- # A step to children after `//`

-- a scan, once its contexts are known
abbrev scanned : List Tree → Axis → Test → Judged (List Place) → Outcome (List Item)
scanned f axis test r = go_on (judged r f) (λ places. on_trees (λ trees. Ok (in_order trees (flat_map (axis_nodes trees axis test) places))))

pub double_slash_gives : (f : List Tree) (test : Test) (views : List ItemView) (nodes : List Spot) (found : List ItemView)
    → forget (all_nodes XPTY0019 (items_at f views)) ≡ Ok tt → map (node_at f) nodes ≡ after_places f test (map (node_at f) (nodes_among views)) → HaveAll f nodes → found ≡ map NodeAt nodes
    → AreIn f found × (after_double_slash test (items_at f views) f ≡ (Ok (items_at f found), f))
double_slash_gives f test views nodes found all step have is =
    let next : Outcome (List Item) → Outcome (List Item) = λ o. go_on o (Forms.scan Child test) in
    let below = selves_and_below f (map (node_at f) (nodes_among views)) in (
      subst (AreIn f) (sym is) (items_in f nodes have),
      ap (λ r. next (scanned f DescendantOrSelf Any r)) (all_among f XPTY0019 views all)
          ∙ ap (scanned f Child test) (are_nodes XPTY0019 below)
          ∙ ap (λ xs. (Ok xs, f)) (ap (map Node) (sym step) ∙ sym (items_read f nodes) ∙ ap (items_at f) (sym is)),
    )

stops_before : {A B C : Type 0} (r : Judged A) (next : A → Doing B) (last : B → Doing C) (f : List Tree) (code : Code) → forget r ≡ Err code → (go_on (go_on (judged r f) next) last).0 ≡ Err code
stops_before (Ok x) next last f code h = absurd (subst (λ (o : Judged (Unit {0})). Refused o) (sym h) tt)
stops_before (Err other) next last f code h = ap (again code) h

pub double_slash_stops : (f : List Tree) (test : Test) (xs : List Item) (code : Code) → forget (all_nodes XPTY0019 xs) ≡ Err code → (after_double_slash test xs f).0 ≡ Err code
double_slash_stops f test xs code h =
    stops_before (all_nodes XPTY0019 xs) (λ places. on_trees (λ trees. Ok (in_order trees (flat_map (axis_nodes trees DescendantOrSelf Any) places)))) (Forms.scan Child test) f code h

-- # The parents of those

pub parents_give : (f : List Tree) (test : Test) (views : List ItemView) (found nodes : List Spot) (parents : List ItemView)
    → forget (all_nodes XPTY0019 (items_at f views)) ≡ Ok tt → map (node_at f) found ≡ after_places f test (map (node_at f) (nodes_among views)) → HaveAll f found
    → map (node_at f) nodes ≡ in_document_order f (flat_map (axis_nodes f Parent Any) (map (node_at f) found)) → HaveAll f nodes → parents ≡ map NodeAt nodes
    → AreIn f parents × (parents_below test (items_at f views) f ≡ (Ok (items_at f parents), f))
parents_give f test views found nodes parents all below have above have_all is =
    let held = map NodeAt found in
    let first = double_slash_gives f test views found held all below have refl in
    let last = scan_gives f Parent Any held nodes parents (all_places f found) (above ∙ ap (λ ns. in_document_order f (flat_map (axis_nodes f Parent Any) (map (node_at f) ns))) (sym (among_places found))) have_all is in
    (last.0, ap (λ o. go_on o (Forms.scan Parent Any)) first.1 ∙ last.1)
