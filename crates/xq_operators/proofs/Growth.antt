-- What a value stands for stays the same while trees are added.
use Rattle.std.proofs.Common.{◌≡◌, ℕ, zero, suc, ◌<◌, ◌≤◌, ◌++◌, List, [], ◌∷◌, length, map, Option, Some, None, refl, sym, ◌∙◌, ap, subst, arith, length-append, append_assoc, slice_index_or}
use Rattle.std.specs.List.{AllByRecursion}
use Rattle.std.proofs.lemmas.List.{append-nil}
use Rattle.xq_trees.specs.Forest.{count}
use Rattle.xq_trees.specs.Tree.{Tree, nodes}
use Rattle.xq_trees.specs.Order.{path_at}
use Rattle.xq_trees.specs.Tuples.{Tuple, value_at}
use Rattle.xq_trees.specs.Items.{ItemView, Place as NodeAt, Value, item_view}
use Rattle.xq_tuples.specs.Views.{values_of}
use Rattle.xq_sources.specs.Sources.{tree_at, no_tree}
use Rattle.xq_meaning.specs.Items.{place, Node}
use Rattle.xq_meaning.specs.Readings.{item_at, items_at, IsIn, AreIn, Extends}
use Rattle.xq_operators.specs.declared.contexts.Focus.{Focus}
use Rattle.xq_operators.specs.declared.contexts.EvalContext.{EvalContext}
use Rattle.xq_operators.specs.Views.{tuple_at, tuples_at, focus_at, frame_at, TupleIn, TuplesIn, FocusIn, FrameIn, Goes}
use Rattle.xq_trees.proofs.Lists.{all_weaker}

pub map_same : {A B : Type 0} (f g : A → B) (P : A → Type 0) → ((x : A) → P x → f x ≡ g x) → (xs : List A) → AllByRecursion P xs → map f xs ≡ map g xs
map_same f g P same [] h = refl
map_same f g P same (x ∷ xs) h = let a = same x h.0 in let b = map_same f g P same xs h.1 in cc

index-front : {X : Type 0} (f g : List X) (k : ℕ) (d : X) → k < length f → slice_index_or (f ++ g) k d ≡ slice_index_or f k d
index-front [] g k d h = absurd (omega arith)
index-front (x ∷ f) g zero d h = refl
index-front (x ∷ f) g (suc k) d h = index-front f g k d (omega arith)

pub value_in : (f : List Tree) (n : ℕ) (values : Tuple ItemView) → TupleIn f values → AreIn f (value_at n values) × (value_at n (tuple_at f values) ≡ items_at f (value_at n values))
value_in f n [] h = (tt, refl)
value_in f zero (v ∷ vs) h = (h.0, refl)
value_in f (suc n) (v ∷ vs) h = value_in f n vs h.1

pub extends_itself : (f : List Tree) → Extends f f
extends_itself f = record { added = []; is = sym (append-nil f) }

pub extends_more : {a b c : List Tree} → Extends a b → Extends b c → Extends a c
extends_more {a} p q = record { added = p.added ++ q.added; is = q.is ∙ ap (λ x. x ++ q.added) p.is ∙ append_assoc a p.added q.added }

pub stays : (f : List Tree) (clean : Type 0) → Goes f f clean clean
stays f clean = record { grows = extends_itself f; was_clean = λ x. x }

pub goes_on_to : {a b c : List Tree} {p q r : Type 0} → Goes a b p q → Goes b c q r → Goes a c p r
goes_on_to s t = record { grows = extends_more s.grows t.grows; was_clean = λ x. s.was_clean (t.was_clean x) }

module _ {old new : List Tree} (grows : Extends old new) where
  pub tree_grown : (k : ℕ) → k < length old → tree_at new k ≡ tree_at old k
  tree_grown k h = ap (λ f. tree_at f k) grows.is ∙ index-front old grows.added k no_tree h

  longer : length old ≤ length new
  longer = omega (arith, ap length grows.is, length-append old grows.added)

  pub item_at_grown : (x : ItemView) → IsIn old x → item_at new x ≡ item_at old x
  item_at_grown (NodeAt n) h = ap (λ t. Node (place n.tree (path_at (nodes t) n.pre))) (tree_grown n.tree h.tree_in)
  item_at_grown (Value a) h = refl

  pub in_grown : (x : ItemView) → IsIn old x → IsIn new x
  in_grown (NodeAt n) h = record {
    tree_in = (let l = longer in let k = h.tree_in in omega arith);
    node_in = subst (λ t. n.pre < count (nodes t)) (sym (tree_grown n.tree h.tree_in)) h.node_in;
  }
  in_grown (Value a) h = tt

  pub items_grown : (xs : List ItemView) → AreIn old xs → items_at new xs ≡ items_at old xs
  items_grown = map_same (item_at new) (item_at old) (IsIn old) item_at_grown

  pub are_in_grown : (xs : List ItemView) → AreIn old xs → AreIn new xs
  are_in_grown = all_weaker (IsIn old) (IsIn new) in_grown

  pub tuple_grown : (xs : Tuple ItemView) → TupleIn old xs → tuple_at new xs ≡ tuple_at old xs
  tuple_grown = map_same (items_at new) (items_at old) (AreIn old) items_grown

  pub tuple_in_grown : (xs : Tuple ItemView) → TupleIn old xs → TupleIn new xs
  tuple_in_grown = all_weaker (AreIn old) (AreIn new) are_in_grown

  pub tuples_grown : (xs : List (Tuple ItemView)) → TuplesIn old xs → tuples_at new xs ≡ tuples_at old xs
  tuples_grown = map_same (tuple_at new) (tuple_at old) (TupleIn old) tuple_grown

  pub tuples_in_grown : (xs : List (Tuple ItemView)) → TuplesIn old xs → TuplesIn new xs
  tuples_in_grown = all_weaker (TupleIn old) (TupleIn new) tuple_in_grown

  pub focus_grown : (x : Option Focus) → FocusIn old x → focus_at new x ≡ focus_at old x
  focus_grown None h = refl
  focus_grown (Some f) h = ap (λ t. Some (record { item = t; position = f.position; last = f.last })) (item_at_grown (item_view f.item.now) h)

  pub focus_in_grown : (x : Option Focus) → FocusIn old x → FocusIn new x
  focus_in_grown None h = tt
  focus_in_grown (Some f) h = in_grown (item_view f.item.now) h

  pub frame_in_grown : (frame : EvalContext) → FrameIn old frame → FrameIn new frame
  frame_in_grown frame h = record {
    slots_in = tuple_in_grown (values_of frame.slots.now) h.slots_in;
    focus_in = focus_in_grown frame.focus h.focus_in;
    addresses_in = (let l = longer in let k = h.addresses_in in omega arith);
  }

  pub frame_grown : (frame : EvalContext) → FrameIn old frame → frame_at new frame ≡ frame_at old frame
  frame_grown frame h =
      let s = tuple_grown (values_of frame.slots.now) h.slots_in in
      let t = focus_grown frame.focus h.focus_in in
      λ i. record { env = s i; focus = t i; addresses = frame.addresses.now }
