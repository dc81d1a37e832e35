-- After a slash a step without predicates is a scan.
use Rattle.std.proofs.Common.{◌≡◌, ℕ, suc, List, [], ◌∷◌, ◌++◌, map, length, Bool, true, false, Ok, Err, refl, sym, ap, ◌∙◌, append-nil, ◌⊎◌, inl, inr}
use Rattle.std.specs.Prelude.{reverse, if◌then◌else◌}
use Rattle.std.specs.List.{flat_map}
use Rattle.std.proofs.lemmas.List.{reverse-reverse, map-append, append_assoc}
use Rattle.std.proofs.lemmas.List.Concat.{flat_map-cons}
use Rattle.xq_atoms.specs.Judged.{◌>>=◌}
use Rattle.xq_atoms.specs.declared.refusals.Code.{Code}
use Rattle.xq_atoms.specs.declared.refusals.Code.TheVariants.{XPTY0018, XPTY0019}
use Rattle.xq_trees.specs.declared.Axis.{Axis}
use Rattle.xq_trees.specs.Tree.{Tree}
use Rattle.xq_meaning.specs.declared.node_tests.Test.{Test}
use Rattle.xq_meaning.specs.Items.{Place, Item, Node, Atom}
use Rattle.xq_meaning.specs.Arguments.{all_nodes}
use Rattle.xq_meaning.specs.Functions.{Focus}
use Rattle.xq_meaning.specs.Operators.{gathered, nodes_or_atoms, in_order}
use Rattle.xq_meaning.specs.Steps.{focuses, focuses_from, is_reverse, in_axis_order, axis_nodes}
use Rattle.xq_meaning.specs.Doing.{Doing, go_on, give, in_turn, more, collected, on_trees, judged}
use Rattle.xq_meaning.specs.Forms
use Rattle.xq_trees.proofs.Lists.{map_reverse}

order_twice : {A : Type 0} (b : Bool) (xs : List A) →
    (if b then reverse (if b then reverse xs else xs) else (if b then reverse xs else xs)) ≡ xs
order_twice true xs = reverse-reverse xs
order_twice false xs = refl

order-map : (b : Bool) (ps : List Place) → map Node (if b then reverse ps else ps) ≡ (if b then reverse (map Node ps) else map Node ps)
order-map true ps = map_reverse Node ps
order-map false ps = refl

-- nodes are all nodes
nodes_all : (code : Code) (ps : List Place) → all_nodes code (map Node ps) ≡ Ok ps
nodes_all code [] = refl
nodes_all code (p ∷ ps) = ap (λ r. r >>= (λ qs. Ok (p ∷ qs))) (nodes_all code ps)

-- items are nodes, or are refused
nodes_or_refused : (xs : List Item) →
    ((ps : List Place) × (xs ≡ map Node ps)) ⊎ ((code : Code) → all_nodes code xs ≡ Err code)
nodes_or_refused [] = inl ([], refl)
nodes_or_refused (Atom a ∷ xs) = inr (λ code. refl)
nodes_or_refused (Node p ∷ xs) =
    elim (nodes_or_refused xs) [
      | inl h ↦ inl (p ∷ h.0, ap (λ ys. Node p ∷ ys) h.1)
      | inr h ↦ inr (λ code. ap (λ r. r >>= (λ qs. Ok (p ∷ qs))) (h code))
    ]

module _ {E : Type 0} (axis : Axis) (test : Test) (frame : Forms.Frame E) (f : List Tree) where
  abbrev found : Place → List Place
  found p = axis_nodes f axis test p

  abbrev act : Focus → Doing (List Item)
  act focus = Forms.step axis test [] (Forms.in_focus frame focus)

  step_at : (p : Place) (position last : ℕ) →
      act (record { item = Node p; position = position; last = last }) f ≡ (Ok (map Node (found p)), f)
  step_at p position last =
      ap (λ xs. (Ok xs, f)) (ap (in_axis_order axis) (order-map (is_reverse axis) (found p)) ∙ order_twice (is_reverse axis) (map Node (found p)))

  nodes_found : (done : List Item) (p : Place) (ps : List Place) →
      (done ++ map Node (found p)) ++ map Node (flat_map found ps) ≡ done ++ map Node (flat_map found (p ∷ ps))
  nodes_found done p ps =
      append_assoc done (map Node (found p)) (map Node (flat_map found ps))
      ∙ ap (λ ys. done ++ ys) (sym (map-append Node (found p) (flat_map found ps)) ∙ ap (map Node) (sym (flat_map-cons found p ps)))

  steps_at : (done : List Item) (ps : List Place) (position last : ℕ) →
      in_turn (more act) done (focuses_from position last (map Node ps)) f ≡ (Ok (done ++ map Node (flat_map found ps)), f)
  steps_at done [] position last = ap (λ xs. (Ok xs, f)) (sym (append-nil done))
  steps_at done (p ∷ ps) position last =
      ap (λ o. go_on (go_on o (λ ys. give (done ++ ys))) (λ n. in_turn (more act) n (focuses_from (suc position) last (map Node ps)))) (step_at p position last)
      ∙ steps_at (done ++ map Node (found p)) ps (suc position) last
      ∙ ap (λ xs. (Ok xs, f)) (nodes_found done p ps)

  abbrev step_each : List Item → List Place → Doing (List Item)
  step_each xs places g =
      go_on (collected act (focuses xs) g) (λ ys. on_trees (λ trees. gathered trees ys))

  abbrev scan_all : List Place → Doing (List Item)
  scan_all places = on_trees (λ trees. Ok (in_order trees (flat_map (axis_nodes trees axis test) places)))

  of_nodes : (ps : List Place) →
      Forms.slash frame (map Node ps) (Forms.step axis test []) f ≡ Forms.scan axis test (map Node ps) f
  of_nodes ps =
      ap (λ r. go_on (judged r f) (step_each (map Node ps))) (nodes_all XPTY0019 ps)
      ∙ ap (λ o. go_on o (λ ys. on_trees (λ trees. gathered trees ys))) (steps_at [] ps 1 (length (map Node ps)))
      ∙ ap (λ r. (nodes_or_atoms f (map Node (flat_map found ps)) r, f)) (nodes_all XPTY0018 (flat_map found ps))
      ∙ sym (ap (λ r. go_on (judged r f) scan_all) (nodes_all XPTY0019 ps))

  by_nodes : (xs : List Item) →
      ((ps : List Place) × (xs ≡ map Node ps)) ⊎ ((code : Code) → all_nodes code xs ≡ Err code) →
      Forms.slash frame xs (Forms.step axis test []) f ≡ Forms.scan axis test xs f
  by_nodes xs (inl h) =
      ap (λ ys. Forms.slash frame ys (Forms.step axis test []) f) h.1 ∙ of_nodes h.0
      ∙ sym (ap (λ ys. Forms.scan axis test ys f) h.1)
  by_nodes xs (inr h) =
      ap (λ r. go_on (judged r f) (step_each xs)) (h XPTY0019)
      ∙ sym (ap (λ r. go_on (judged r f) scan_all) (h XPTY0019))

pub slash_scan : {E : Type 0} (axis : Axis) (test : Test) (frame : Forms.Frame E) (xs : List Item) (f : List Tree) →
    Forms.slash frame xs (Forms.step axis test []) f ≡ Forms.scan axis test xs f
slash_scan axis test frame xs f = by_nodes axis test frame f xs (nodes_or_refused xs)
