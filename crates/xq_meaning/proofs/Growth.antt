-- The list of trees only grows: after each form it begins with the trees before it, where that is
-- so after its parts.
use Rattle.std.proofs.Common.{◌≡◌, List, [], ◌∷◌, ◌++◌, refl, ap, ◌∙◌, Ok, Err, Bool, true, false, Option, Some, None, map, ℕ}
use Rattle.std.specs.List.{AllByRecursion}
use Rattle.xq_atoms.specs.declared.refusals.Code.TheVariants.{XPTY0019}
use Rattle.xq_expressions.specs.declared.operators.AllowingEmpty.{AllowingEmpty}
use Rattle.xq_expressions.specs.declared.operators.Sign.{Sign}
use Rattle.xq_expressions.specs.declared.operators.NamedNode.{NamedNode}
use Rattle.xq_expressions.specs.declared.operators.UnnamedNode.{UnnamedNode}
use Rattle.xq_expressions.specs.declared.operators.Quantifier.{Quantifier}
use Rattle.xq_trees.specs.declared.Axis.{Axis}
use Rattle.xq_trees.specs.Tuples.{Tuple}
use Rattle.xq_meaning.specs.declared.node_tests.Test.{Test}
use Rattle.xq_expressions.specs.declared.signatures.Function.{Function}
use Rattle.xq_meaning.specs.declared.operators.Operator.{Operator}
use Rattle.xq_meaning.specs.Items.{Item, Node}
use Rattle.xq_meaning.specs.Arguments.{all_nodes}
use Rattle.xq_meaning.specs.Operators.{keeps}
use Rattle.xq_meaning.specs.Content.{name_of, named_tree, unnamed_tree}
use Rattle.xq_meaning.specs.Steps.{focuses, context_node, axis_nodes, in_axis_order}
use Rattle.xq_meaning.specs.Forms
use Rattle.xq_trees.specs.Tree.{Tree}
use Rattle.xq_meaning.specs.Doing.{Doing, Outcome, go_on, give, judged, on_trees, in_turn, more, one_more, for_each, collected, first_that, unless_found}
use Rattle.xq_trees.proofs.Lists.{all_weaker}

-- the first list, and then others
abbrev pub Extends : List Tree → List Tree → Type 0
Extends f g = (added : List Tree) × (g ≡ f ++ added)

none_after : (f : List Tree) → f ≡ f ++ []
none_after [] = refl
none_after (t ∷ ts) = ap (λ us. t ∷ us) (none_after ts)

joined_after : (f g h : List Tree) → (f ++ g) ++ h ≡ f ++ (g ++ h)
joined_after [] g h = refl
joined_after (t ∷ ts) g h = ap (λ us. t ∷ us) (joined_after ts g h)

pub extends_itself : (f : List Tree) → Extends f f
extends_itself f = ([], none_after f)

pub extends_further : (f g h : List Tree) → Extends f g → Extends g h → Extends f h
extends_further f g h p q = (p.0 ++ q.0, q.1 ∙ ap (λ us. us ++ q.0) p.1 ∙ joined_after f p.0 q.0)

abbrev pub Grows : {A : Type 0} → Doing A → Type 0
Grows act = (f : List Tree) → Extends f (act f).1

pub then_grows : {A B : Type 0} (o : Outcome A) (next : A → Doing B) (f : List Tree) →
    Extends f o.1 → ((x : A) → Grows (next x)) → Extends f (go_on o next).1
then_grows (Ok x, g) next f h k = extends_further f g (next x g).1 h (k x g)
then_grows (Err code, g) next f h k = h

pub in_turn_grows : {A B : Type 0} (act : B → A → Doing B) (xs : List A) →
    AllByRecursion (λ x. (b : B) → Grows (act b x)) xs → (b : B) → Grows (in_turn act b xs)
in_turn_grows act [] h b f = extends_itself f
in_turn_grows act (x ∷ xs) h b f =
    then_grows (act b x f) _ f (h.0 b f) (λ n. in_turn_grows act xs h.1 n)

pub for_each_grows : {A B : Type 0} (act : A → Doing B) (xs : List A) →
    AllByRecursion (λ x. Grows (act x)) xs → Grows (for_each act xs)
for_each_grows act xs h f =
    in_turn_grows (one_more act) xs (all_weaker (λ x. Grows (act x)) _ (λ x grows done g.
    then_grows (act x g) _ g (grows g) (λ y g'. extends_itself g')) xs h) [] f

pub collected_grows : {A B : Type 0} (act : A → Doing (List B)) (xs : List A) →
    AllByRecursion (λ x. Grows (act x)) xs → Grows (collected act xs)
collected_grows act xs h f =
    in_turn_grows (more act) xs (all_weaker (λ x. Grows (act x)) _ (λ x grows done g. then_grows
    (act x g) _ g (grows g) (λ y g'. extends_itself g')) xs h) [] f

unless_grows : (wanted answer : Bool) (rest : Doing Bool) → Grows rest →
    Grows (unless_found wanted answer rest)
unless_grows true true rest h f = extends_itself f
unless_grows true false rest h f = h f
unless_grows false true rest h f = h f
unless_grows false false rest h f = extends_itself f

pub first_that_grows : {A : Type 0} (wanted : Bool) (act : A → Doing Bool) (xs : List A) →
    AllByRecursion (λ x. Grows (act x)) xs → Grows (first_that wanted act xs)
first_that_grows wanted act [] h f = extends_itself f
first_that_grows wanted act (x ∷ xs) h f =
    then_grows (act x f) _ f (h.0 f) (λ answer. unless_grows wanted answer _ (first_that_grows
    wanted act xs h.1))

-- a new tree comes at the end
pub planted_grows : (tree : Tree) → Grows (Forms.planted tree)
planted_grows tree f = (tree ∷ [], refl)

planted_if_grows : (tree : Option Tree) → Grows (Forms.planted_if tree)
planted_if_grows None f = extends_itself f
planted_if_grows (Some tree) f = planted_grows tree f

-- the same of each
pub all_of : {A : Type 0} (P : A → Type 0) → ((x : A) → P x) → (xs : List A) → AllByRecursion P xs
all_of P each [] = tt
all_of P each (x ∷ xs) = (each x, all_of P each xs)

module _ {E : Type 0} where
  -- a part, in every frame
  abbrev pub TreeStore : Forms.Meaning E → Type 0
  TreeStore m = (frame : Forms.Frame E) → Grows (m frame)

  abbrev pub AllGrowing : List (Forms.Meaning E) → Type 0
  AllGrowing ms = AllByRecursion TreeStore ms

  in_frame : (ms : List (Forms.Meaning E)) (frame : Forms.Frame E) → AllGrowing ms →
      AllByRecursion (λ m. Grows (m frame)) ms
  in_frame ms frame h = all_weaker TreeStore _ (λ m grows. grows frame) ms h

  pub atoms_grow : (m : Forms.Meaning E) → TreeStore m → (frame : Forms.Frame E) →
      Grows (Forms.atoms_of m frame)
  atoms_grow m h frame f = then_grows (m frame f) _ f (h frame f) (λ xs g. extends_itself g)

  pub tested_grows : (m : Forms.Meaning E) → TreeStore m → (frame : Forms.Frame E) →
      Grows (Forms.tested m frame)
  tested_grows m h frame f = then_grows (m frame f) _ f (h frame f) (λ xs g. extends_itself g)

  pub call_grows : (function : Function) (ms : List (Forms.Meaning E)) → AllGrowing ms →
      TreeStore (Forms.call function ms)
  call_grows function ms h frame f =
      then_grows (for_each (λ (m : Forms.Meaning E). m frame) ms f) _ f (for_each_grows (λ (m :
      Forms.Meaning E). m frame) ms (in_frame ms frame h) f) (λ values g. extends_itself g)

  next_call_grows : (frame : Forms.Frame E) (c : Function × List (Forms.Meaning E)) →
      AllGrowing c.1 → (xs : List Item) → Grows (Forms.next_call frame xs c)
  next_call_grows frame c h xs f =
      then_grows (for_each (λ (m : Forms.Meaning E). m frame) c.1 f) _ f (for_each_grows (λ (m :
      Forms.Meaning E). m frame) c.1 (in_frame c.1 frame h) f) (λ values g. extends_itself g)

  pub arrow_grows : (m : Forms.Meaning E) (calls : List (Function × List (Forms.Meaning E))) →
      TreeStore m → AllByRecursion (λ c. AllGrowing c.1) calls → TreeStore (Forms.arrow m calls)
  arrow_grows m calls first h frame f =
      then_grows (m frame f) _ f (first frame f) (in_turn_grows (Forms.next_call frame) calls
      (all_weaker (λ c. AllGrowing c.1) _ (λ c grows xs. next_call_grows frame c grows xs) calls
      h))

  pub sequence_grows : (ms : List (Forms.Meaning E)) → AllGrowing ms → TreeStore (Forms.sequence ms)
  sequence_grows ms h frame f =
      collected_grows (λ (m : Forms.Meaning E). m frame) ms (in_frame ms frame h) f

  pub chain_grows : (m : Forms.Meaning E) (rest : List (Operator × Forms.Meaning E)) → TreeStore m →
      AllByRecursion (λ operand. TreeStore operand.1) rest → TreeStore (Forms.chain m rest)
  chain_grows m rest first h frame f =
      then_grows (m frame f) _ f (first frame f) (in_turn_grows (Forms.next_operand frame) rest
      (all_weaker (λ operand. TreeStore operand.1) _ (λ operand grows xs g. then_grows (operand.1
      frame g) _ g (grows frame g) (λ ys g'. extends_itself g')) rest h))

  pub unary_grows : (signs : List Sign) (m : Forms.Meaning E) → TreeStore m →
      TreeStore (Forms.unary signs m)
  unary_grows signs m h frame f =
      then_grows (Forms.atoms_of m frame f) _ f (atoms_grow m h frame f) (λ values g.
      extends_itself g)

  tests_grow : (wanted : Bool) (ms : List (Forms.Meaning E)) → AllGrowing ms →
      (frame : Forms.Frame E) → Grows (first_that wanted (λ m. Forms.tested m frame) ms)
  tests_grow wanted ms h frame f =
      first_that_grows wanted (λ m. Forms.tested m frame) ms (all_weaker TreeStore _ (λ m grows.
      tested_grows m grows frame) ms h) f

  pub or_grows : (ms : List (Forms.Meaning E)) → AllGrowing ms → TreeStore (Forms.or ms)
  or_grows ms h frame f =
      then_grows (first_that true (λ (m : Forms.Meaning E). Forms.tested m frame) ms f) _ f
      (tests_grow true ms h frame f) (λ answer g. extends_itself g)

  pub and_grows : (ms : List (Forms.Meaning E)) → AllGrowing ms → TreeStore (Forms.and ms)
  and_grows ms h frame f =
      then_grows (first_that false (λ (m : Forms.Meaning E). Forms.tested m frame) ms f) _ f
      (tests_grow false ms h frame f) (λ answer g. extends_itself g)

  chosen_grows : (b : Bool) (m n : Forms.Meaning E) → TreeStore m → TreeStore n →
      TreeStore (Forms.chosen b m n)
  chosen_grows true m n h k frame f = h frame f
  chosen_grows false m n h k frame f = k frame f

  pub conditional_grows : (t m n : Forms.Meaning E) → TreeStore t → TreeStore m → TreeStore n →
      TreeStore (Forms.conditional t m n)
  conditional_grows t m n g h k frame f =
      then_grows (Forms.tested t frame f) _ f (tested_grows t g frame f) (λ b. chosen_grows b m
      n h k frame)

  pub filtered_grows : (frame : Forms.Frame E) (m : Forms.Meaning E) → TreeStore m →
      (xs : List Item) → Grows (Forms.filtered frame xs m)
  filtered_grows frame m h xs f =
      collected_grows (Forms.passed m frame) (focuses xs)
      (all_of (λ item. Grows (Forms.passed m frame item)) (λ item g. then_grows (m
      (Forms.in_focus frame item) g) _ g (h (Forms.in_focus frame item) g) (λ value g'.
      then_grows (judged (keeps item.position value) g') _ g' (extends_itself g') (λ keep
      g''. extends_itself g''))) (focuses xs)) f

  predicates_grow : (frame : Forms.Frame E) (ms : List (Forms.Meaning E)) → AllGrowing ms →
      (xs : List Item) → Grows (in_turn (Forms.filtered frame) xs ms)
  predicates_grow frame ms h =
      in_turn_grows (Forms.filtered frame) ms (all_weaker TreeStore _ (λ m grows xs. filtered_grows
      frame m grows xs) ms h)

  pub filter_grows : (m : Forms.Meaning E) (ms : List (Forms.Meaning E)) → TreeStore m →
      AllGrowing ms → TreeStore (Forms.filter_of m ms)
  filter_grows m ms first h frame f =
      then_grows (m frame f) _ f (first frame f) (predicates_grow frame ms h)

  pub slash_grows : (frame : Forms.Frame E) (m : Forms.Meaning E) → TreeStore m → (xs : List Item) →
      Grows (Forms.slash frame xs m)
  slash_grows frame m h xs f =
      then_grows (judged (all_nodes XPTY0019 xs) f) _ f (extends_itself f) (λ places g.
      then_grows (collected (λ item. m (Forms.in_focus frame item)) (focuses xs) g) _ g
      (collected_grows (λ item. m (Forms.in_focus frame item)) (focuses xs) (all_of (λ item.
      Grows (m (Forms.in_focus frame item))) (λ item. h (Forms.in_focus frame item))
      (focuses xs)) g)
      (λ ys g'. extends_itself g'))

  pub path_grows : (m : Forms.Meaning E) (ms : List (Forms.Meaning E)) → TreeStore m → AllGrowing ms →
      TreeStore (Forms.path m ms)
  path_grows m ms first h frame f =
      then_grows (m frame f) _ f (first frame f) (in_turn_grows (Forms.slash frame) ms (all_weaker
      TreeStore _ (λ part grows xs. slash_grows frame part grows xs) ms h))

  bang_grows : (frame : Forms.Frame E) (m : Forms.Meaning E) → TreeStore m → (xs : List Item) →
      Grows (Forms.bang frame xs m)
  bang_grows frame m h xs =
      collected_grows (λ item. m (Forms.in_focus frame item)) (focuses xs) (all_of (λ item.
      Grows (m (Forms.in_focus frame item))) (λ item. h (Forms.in_focus frame item))
      (focuses xs))

  pub map_grows : (m : Forms.Meaning E) (ms : List (Forms.Meaning E)) → TreeStore m → AllGrowing ms →
      TreeStore (Forms.simple_map m ms)
  map_grows m ms first h frame f =
      then_grows (m frame f) _ f (first frame f) (in_turn_grows (Forms.bang frame) ms (all_weaker
      TreeStore _ (λ part grows xs. bang_grows frame part grows xs) ms h))

  pub named_node_grows : (kind : NamedNode) (m n : Forms.Meaning E) → TreeStore m → TreeStore n →
      TreeStore (Forms.named_node kind m n)
  named_node_grows kind m n h k frame f =
      then_grows (Forms.atoms_of m frame f) _ f (atoms_grow m h frame f) (λ values g.
      then_grows (judged (name_of kind values) g) _ g (extends_itself g) (λ good g'.
      then_grows (n frame g') _ g' (k frame g') (λ xs g''. then_grows (on_trees (λ trees.
      named_tree kind good trees xs) g'') _ g'' (extends_itself g'') (λ tree. planted_grows
      tree))))

  pub unnamed_node_grows : (kind : UnnamedNode) (m : Forms.Meaning E) → TreeStore m →
      TreeStore (Forms.unnamed_node kind m)
  unnamed_node_grows kind m h frame f =
      then_grows (m frame f) _ f (h frame f) (λ xs g. then_grows (on_trees (λ trees.
      unnamed_tree kind trees xs) g) _ g (extends_itself g) (λ tree. planted_if_grows tree))

  pub root_grows : TreeStore Forms.root
  root_grows frame f =
      then_grows (judged (context_node frame.focus) f) _ f (extends_itself f) (λ p g.
      extends_itself g)

  -- the predicates, and then document order again
  abbrev chosen_and_back : Axis → List (Forms.Meaning E) → Forms.Frame E → List Item →
      Doing (List Item)
  chosen_and_back axis ms frame xs g =
      go_on (in_turn (Forms.filtered frame) xs ms g) (λ ys. give (in_axis_order axis ys))

  pub step_grows : (axis : Axis) (node_test : Test) (ms : List (Forms.Meaning E)) → AllGrowing ms →
      TreeStore (Forms.step axis node_test ms)
  step_grows axis node_test ms h frame f =
      then_grows (judged (context_node frame.focus) f) _ f (extends_itself f) (λ p g.
      then_grows {B = List Item} (on_trees (λ trees. Ok (map Node (in_axis_order axis
      (axis_nodes trees axis node_test p)))) g) (chosen_and_back axis ms frame) g
      (extends_itself g) (λ xs g'.
      then_grows {B = List Item} (in_turn (Forms.filtered frame) xs ms g') (λ ys. give
      (in_axis_order axis ys)) g' (predicates_grow frame ms h xs g') (λ ys g''.
      extends_itself g'')))

  pub satisfied_grows : (wanted : Bool) (bindings : List (Forms.Binding E)) (m : Forms.Meaning E) →
      AllByRecursion (λ b. TreeStore b.1) bindings → TreeStore m → (frame : Forms.Frame E) → Grows
      (Forms.satisfied wanted bindings m frame)
  satisfied_grows wanted [] m h k frame f = tested_grows m k frame f
  satisfied_grows wanted (b ∷ bs) m h k frame f =
      then_grows (b.1 frame f) _ f (h.0 frame f) (λ xs. first_that_grows wanted _ xs
      (all_of (λ x. Grows (Forms.satisfied wanted bs m (Forms.in_env frame (b.0 frame.env (x ∷
      []))))) (λ x. satisfied_grows wanted bs m h.1 k (Forms.in_env frame (b.0 frame.env (x
      ∷ [])))) xs))

  pub quantified_grows : (which : Quantifier) (bindings : List (Forms.Binding E)) (m :
      Forms.Meaning E) →
      AllByRecursion (λ b. TreeStore b.1) bindings → TreeStore m → TreeStore (Forms.quantified which
      bindings m)
  quantified_grows which bindings m h k frame f =
      then_grows (Forms.satisfied (Forms.deciding which) bindings m frame f) _ f
      (satisfied_grows (Forms.deciding which) bindings m h k frame f) (λ answer g.
      extends_itself g)

  -- # Clauses

  values_grow : (m : Forms.Meaning E) → TreeStore m →
      (frame_at : Tuple Item → Forms.Frame E) (tuples : List (Tuple Item)) → Grows (for_each (λ
      t. m (frame_at t)) tuples)
  values_grow m h frame_at tuples =
      for_each_grows (λ t. m (frame_at t)) tuples (all_of (λ t. Grows (m (frame_at t))) (λ t. h
      (frame_at t)) tuples)

  pub for_tuples_grows : (empties : AllowingEmpty) (at : Bool) (m : Forms.Meaning E) → TreeStore m →
      (frame_at : Tuple Item → Forms.Frame E) (tuples : List (Tuple Item)) → Grows
      (Forms.for_tuples empties at m frame_at tuples)
  for_tuples_grows empties at m h frame_at tuples f =
      then_grows (for_each (λ t. m (frame_at t)) tuples f) _ f (values_grow m h frame_at tuples
      f) (λ lists g. extends_itself g)

  pub let_tuples_grows : (m : Forms.Meaning E) → TreeStore m →
      (frame_at : Tuple Item → Forms.Frame E) (tuples : List (Tuple Item)) → Grows
      (Forms.let_tuples m frame_at tuples)
  let_tuples_grows m h frame_at tuples f =
      then_grows (for_each (λ t. m (frame_at t)) tuples f) _ f (values_grow m h frame_at tuples
      f) (λ lists g. extends_itself g)

  pub where_tuples_grows : (m : Forms.Meaning E) → TreeStore m →
      (frame_at : Tuple Item → Forms.Frame E) (tuples : List (Tuple Item)) → Grows
      (Forms.where_tuples m frame_at tuples)
  where_tuples_grows m h frame_at tuples f =
      then_grows (for_each (λ t. Forms.tested m (frame_at t)) tuples f) _ f
      (for_each_grows (λ t. Forms.tested m (frame_at t)) tuples (all_of (λ t. Grows
      (Forms.tested m (frame_at t))) (λ t. tested_grows m h (frame_at t)) tuples) f) (λ
      tests g. extends_itself g)

  pub return_grows : (m : Forms.Meaning E) → TreeStore m →
      (frame_at : Tuple Item → Forms.Frame E) (tuples : List (Tuple Item)) → Grows
      (Forms.return_of m frame_at tuples)
  return_grows m h frame_at tuples =
      collected_grows (λ t. m (frame_at t)) tuples (all_of (λ t. Grows (m (frame_at t))) (λ t. h
      (frame_at t)) tuples)

-- neither numbering nor grouping makes a tree

pub count_tuples_grows : (tuples : List (Tuple Item)) → Grows (Forms.count_tuples tuples)
count_tuples_grows tuples f = extends_itself f

pub group_tuples_grows : (slots : List ℕ) (tuples : List (Tuple Item)) →
    Grows (Forms.group_tuples slots tuples)
group_tuples_grows slots tuples f = extends_itself f
