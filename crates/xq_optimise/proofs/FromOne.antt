-- A scan from one node finds what a step from it finds, where no document passes the test.
use Rattle.std.proofs.Common.{◌≡◌, ℕ, zero, suc, ◌+◌, ◌<◌, List, [], ◌∷◌, ◌++◌, map, filter, length, Bool, true, false, refl, sym, ap, ◌∙◌, eqb-true, ◌⊎◌, inl, inr, arith}
use Rattle.std.specs.Prelude.{Ok, ◌&&◌, ◌||◌, ◌==◌, if◌then◌else◌}
use Rattle.std.specs.List.{list_any}
use Rattle.std.proofs.lemmas.List.{append_assoc, append-nil}
use Rattle.std.proofs.lemmas.List.Concat.{flat_map-cons}
use Rattle.std.proofs.lemmas.List.Elements.{filter-append}
use Rattle.std.proofs.lemmas.Bool.{eqb-false}
use Rattle.xq_atoms.specs.Text.{Text}
use Rattle.xq_trees.specs.declared.Axis.{Axis}
use Rattle.xq_trees.specs.declared.Axis.TheVariants as axes
use Rattle.xq_trees.specs.declared.Kind.TheVariants as kind
use Rattle.xq_trees.specs.AxisTests.{on_axis}
use Rattle.xq_trees.specs.Forest.{Forest, node, end}
use Rattle.xq_trees.specs.Node.{label_at as label_in}
use Rattle.xq_trees.specs.Tree.{Label, Tree, nodes, no_label}
use Rattle.xq_trees.proofs.AxisTable.{on_axis_is}
use Rattle.xq_meaning.specs.declared.node_tests.Test.{Test}
use Rattle.xq_meaning.specs.Forms
use Rattle.xq_meaning.specs.Items.{Place, place, Node, paths, nodes_at, places_from, same_node, is_among, in_document_order}
use Rattle.xq_meaning.specs.Steps.{passes, passes_at, axis_nodes}
use Rattle.xq_meaning.proofs.PathLemmas.{filter-map}
use Rattle.xq_optimise.proofs.NodesAtOnce.{kept_in_order}
use Rattle.xq_optimise.proofs.Scans.{scan_from}

-- # The nodes of one tree, among those of all

abbrev of_tree : ℕ → Forest Label → List Place
of_tree n ns = map (place n) (paths ns)

same_path : (path : List ℕ) → on_axis axes.SelfNode end path path ≡ true
same_path path = (on_axis_is axes.SelfNode end path path).1 refl

same_number : (n : ℕ) → (n == n) ≡ true
same_number n = by (n == n) refl
  where
    by : (b : Bool) → (n == n) ≡ b → (n == n) ≡ true
    by true e = e
    by false e = absurd (eqb-false n n e refl)

same_self : (p : Place) → same_node p p ≡ true
same_self p = (λ i. same_number p.tree i && same_path p.path i)

any_here : (k : Place → Bool) (before : List Place) (p : Place) (rest : List Place) → k p ≡ true → list_any k (before ++ p ∷ rest) ≡ true
any_here k [] p rest h = ap (λ b. b || list_any k rest) h
any_here k (q ∷ before) p rest h = by (k q) (any_here k before p rest h)
  where
    by : (b : Bool) → list_any k (before ++ p ∷ rest) ≡ true → (b || list_any k (before ++ p ∷ rest)) ≡ true
    by true e = refl
    by false e = e

all_among : (before ps : List Place) → filter (is_among (before ++ ps)) ps ≡ ps
all_among before [] = refl
all_among before (p ∷ ps) =
    ap (λ b. if b then p ∷ filter (is_among (before ++ p ∷ ps)) ps else filter (is_among (before ++ p ∷ ps)) ps) (any_here (same_node p) before p ps (same_self p))
    ∙ ap (λ l. p ∷ l)
    (ap (λ l. filter (is_among l) ps) (sym (append_assoc before (p ∷ []) ps)) ∙ all_among (before ++ p ∷ []) ps)

not_among : (n : ℕ) (ws : List (List ℕ)) (p : Place) → ((p.tree ≡ n) → ⊥) → is_among (map (place n) ws) p ≡ false
not_among n [] p h = refl
not_among n (w ∷ ws) p h = by (p.tree == n) refl (not_among n ws p h)
  where
    by : (b : Bool) → (p.tree == n) ≡ b → is_among (map (place n) ws) p ≡ false → is_among (map (place n) (w ∷ ws)) p ≡ false
    by true e rest = absurd (h (eqb-true p.tree n e))
    by false e rest = ap (λ b. (b && on_axis axes.SelfNode end p.path w) || is_among (map (place n) ws) p) e ∙ rest

none_kept : (k : Place → Bool) (m : ℕ) (ws : List (List ℕ)) → ((w : List ℕ) → k (place m w) ≡ false) → filter k (map (place m) ws) ≡ []
none_kept k m [] h = refl
none_kept k m (w ∷ ws) h = ap (λ b. if b then place m w ∷ filter k (map (place m) ws) else filter k (map (place m) ws)) (h w) ∙ none_kept k m ws h

-- no node of the trees after is one of this tree
later_out : (n m : ℕ) (ns : Forest Label) (f : List Tree) → n < m → filter (is_among (of_tree n ns)) (places_from m f) ≡ []
later_out n m ns [] h = refl
later_out n m ns (u ∷ us) h =
    filter-append (is_among (of_tree n ns)) (of_tree m (nodes u)) (places_from (suc m) us)
    ∙ (λ i. none_kept (is_among (of_tree n ns)) m (paths (nodes u)) (λ w. not_among n (paths ns) (place m w) (λ e. omega (arith, e, h))) i
    ++ later_out n (suc m) ns us (omega (arith, h)) i)

own_block : (n m i : ℕ) (f : List Tree) → n ≡ m + i → i < length f → filter (is_among (of_tree n (nodes_at f i))) (places_from m f) ≡ of_tree n (nodes_at f i)
own_block n m i [] e h = absurd (omega (arith, h))
own_block n m zero (t ∷ ts) e h =
    let same : m ≡ n = omega (arith, e) in
    let own = of_tree n (nodes t) in
    filter-append (is_among own) (of_tree m (nodes t)) (places_from (suc m) ts)
    ∙ (λ j. (ap (λ k. filter (is_among own) (of_tree k (nodes t))) same ∙ all_among [] own) j
    ++ later_out n (suc m) (nodes t) ts (omega (arith, e)) j)
    ∙ append-nil own
own_block n m (suc i) (t ∷ ts) e h =
    let own = of_tree n (nodes_at ts i) in
    filter-append (is_among own) (of_tree m (nodes t)) (places_from (suc m) ts)
    ∙ (λ j. none_kept (is_among own) m (paths (nodes t)) (λ w. not_among n (paths (nodes_at ts i)) (place m w) (λ k. omega (arith, e, k))) j
    ++ own_block n (suc m) i ts (omega (arith, e)) (omega (arith, h)) j)

there_or_none : (f : List Tree) (n : ℕ) → (n < length f) ⊎ (nodes_at f n ≡ node no_label end end)
there_or_none [] n = inr refl
there_or_none (t ∷ ts) zero = inl (omega arith)
there_or_none (t ∷ ts) (suc n) = elim (there_or_none ts n) [
  | inl h ↦ inl (omega (arith, h))
  | inr e ↦ inr e
]

-- # What a step finds

none_among : (ps : List Place) → filter (is_among []) ps ≡ []
none_among [] = refl
none_among (p ∷ ps) = none_among ps

module _ (f : List Tree) (a : Axis) (of : Test) (p : Place) where
  abbrev on : Place → Bool
  on q = on_axis a (nodes_at f p.tree) p.path q.path

  found_is : axis_nodes f a of p ≡ filter (passes_at f of) (filter on (of_tree p.tree (nodes_at f p.tree)))
  found_is = ap (filter (passes_at f of)) (sym (filter-map on (place p.tree) (paths (nodes_at f p.tree))))

  -- in a tree that is not there
  none_there : ((name : Text) → passes of kind.Document name ≡ false) → nodes_at f p.tree ≡ node no_label end end → axis_nodes f a of p ≡ []
  none_there excluded e =
      ap (filter (passes_at f of)) (ap (λ ns. map (place p.tree) (filter (on_axis a ns p.path) (paths ns))) e)
      ∙ by (on_axis a (node no_label end end) p.path (0 ∷ []))
    where
      by : (b : Bool) → filter (passes_at f of) (map (place p.tree) (if b then (0 ∷ []) ∷ [] else [])) ≡ []
      by true =
          ap (λ b. if b then place p.tree (0 ∷ []) ∷ [] else [])
          (ap (λ ns. passes of (label_in no_label ns (0 ∷ [])).kind (label_in no_label ns (0 ∷ [])).name) e ∙ excluded [])
      by false = refl

  pub one_in_order : ((name : Text) → passes of kind.Document name ≡ false) → in_document_order f (axis_nodes f a of p) ≡ axis_nodes f a of p
  one_in_order excluded = elim (there_or_none f p.tree) [
    | inl h ↦ (
        let own = of_tree p.tree (nodes_at f p.tree) in
        ap (in_document_order f) found_is
        ∙ kept_in_order (passes_at f of) f (filter on own)
        ∙ ap (filter (passes_at f of)) (kept_in_order on f own)
        ∙ ap (λ l. filter (passes_at f of) (filter on l)) (own_block p.tree 0 p.tree f (omega arith) h)
        ∙ sym found_is)
    | inr e ↦ (
        let none = none_there excluded e in
        ap (in_document_order f) none ∙ none_among (places_from 0 f) ∙ sym none)
  ]

  pub scan_of_one : ((name : Text) → passes of kind.Document name ≡ false) →
      Forms.scan a of (Node p ∷ []) f ≡ (Ok (map Node (axis_nodes f a of p)), f)
  scan_of_one excluded =
      scan_from a of (p ∷ []) f
      ∙ ap (λ ps. (Ok (map Node ps), f))
      (ap (in_document_order f) (flat_map-cons (axis_nodes f a of) p [] ∙ append-nil (axis_nodes f a of p)) ∙ one_in_order excluded)
