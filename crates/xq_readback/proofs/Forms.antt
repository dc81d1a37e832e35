-- What each form of expression gives of legible values is legible, where its parts do so.
use Rattle.std.proofs.Common.{ℕ, suc, List, [], ◌∷◌, map, length, reverse, Bool, true, false, Option, Some, None, Ok, Err}
use Rattle.std.specs.Prelude.{if◌then◌else◌}
use Rattle.std.specs.List.{AllByRecursion}
use Rattle.xq_atoms.specs.declared.refusals.Code.TheVariants.{XPDY0050, XPTY0019}
use Rattle.xq_atoms.specs.Text.{Text}
use Rattle.xq_atoms.specs.Atom.{Atomic}
use Rattle.xq_expressions.specs.declared.operators.Sign.{Sign}
use Rattle.xq_expressions.specs.declared.operators.NamedNode.{NamedNode}
use Rattle.xq_expressions.specs.declared.operators.UnnamedNode.{UnnamedNode}
use Rattle.xq_expressions.specs.declared.operators.Quantifier.{Quantifier}
use Rattle.xq_expressions.specs.declared.signatures.Function.{Function}
use Rattle.xq_trees.specs.declared.Axis.{Axis}
use Rattle.xq_trees.specs.Tree.{Tree, IsTree}
use Rattle.xq_trees.proofs.Lists.{all_append, all_reverse, all_weaker}
use Rattle.xq_meaning.specs.declared.node_tests.Test.{Test}
use Rattle.xq_meaning.specs.declared.operators.Operator.{Operator}
use Rattle.xq_meaning.specs.Items.{Place, Item, Node, root_of, label_at}
use Rattle.xq_meaning.specs.Arguments.{effective, all_nodes}
use Rattle.xq_meaning.specs.Functions.{Focus, called}
use Rattle.xq_meaning.specs.Operators.{operated, signed, gathered, keeps}
use Rattle.xq_meaning.specs.Content.{name_of, named_tree, unnamed_tree}
use Rattle.xq_meaning.specs.Steps.{focuses_from, focuses, context_item, context_node, axis_nodes, is_reverse, in_axis_order, is_document, document_root}
use Rattle.xq_meaning.specs.Doing.{Doing, go_on, give, in_turn, for_each, first_that}
use Rattle.xq_meaning.specs.Forms
use Rattle.xq_meaning.specs.Meaning.{Environment, Frame, Meaning}
use Rattle.xq_readback.specs.Legible.{IsLegible, IsLegibleItem, AreLegible}
use Rattle.xq_readback.proofs.Holding.{either_holds, Yields, IsAny, any, then_holds, judged_holds, in_turn_yields, for_each_yields, collected_yields, first_that_yields, all_of, all_map}
use Rattle.xq_readback.proofs.Trees.{atoms_legible}
use Rattle.xq_readback.proofs.Functions.{IsAnswer, boolean_answer, HasLegibleItem, call_answer, operated_answer, signed_answer, gathered_answer}
use Rattle.xq_readback.proofs.LegibleContents.{IsNameOf, name_is, named_is, MayBeTree, unnamed_is}

-- # Frames

-- the values of the variables are legible
abbrev pub IsLegibleEnvironment : Environment → Type 0
IsLegibleEnvironment env = (v : Text) → AreLegible (env v)

-- they are, and so is the context item
pub record IsLegibleFrame (frame : Frame) : Type 0 where
  pub env : IsLegibleEnvironment frame.env
  pub focus : HasLegibleItem frame.focus

-- over trees and in a legible frame the value is legible, and the trees then are trees
abbrev pub GivesLegible : Meaning → Type 0
GivesLegible m = (frame : Frame) → IsLegibleFrame frame → Yields AreLegible (m frame)

abbrev pub AllGiveLegible : List Meaning → Type 0
AllGiveLegible ms = AllByRecursion GivesLegible ms

-- the focus on a legible item
in_focus : (frame : Frame) (focus : Focus) → IsLegibleFrame frame → IsLegibleItem focus.item → IsLegibleFrame (Forms.in_focus frame focus)
in_focus frame focus h k = record { env = h.env; focus = k }

in_env : (frame : Frame) (env : Environment) → IsLegibleFrame frame → IsLegibleEnvironment env → IsLegibleFrame (Forms.in_env frame env)
in_env frame env h k = record { env = k; focus = h.focus }

-- each item in focus
abbrev AreFocused : List Focus → Type 0
AreFocused focuses = AllByRecursion (λ (focus : Focus). IsLegibleItem focus.item) focuses

focused_from : (position last : ℕ) (xs : List Item) → AreLegible xs → AreFocused (focuses_from position last xs)
focused_from position last [] h = tt
focused_from position last (x ∷ xs) h = (h.0, focused_from (suc position) last xs h.1)

focused : (xs : List Item) → AreLegible xs → AreFocused (focuses xs)
focused xs h = focused_from 1 (length xs) xs h

in_frame : (ms : List Meaning) (frame : Frame) → IsLegibleFrame frame → AllGiveLegible ms → AllByRecursion (λ (m : Meaning). Yields AreLegible (m frame)) ms
in_frame ms frame ok h = all_weaker GivesLegible _ (λ m gives. gives frame ok) ms h

-- # Values of parts

abbrev AreAtoms : List Atomic → Type 0
AreAtoms as' = AllByRecursion IsLegible as'

pub atoms_yield : (m : Meaning) → GivesLegible m → (frame : Frame) → IsLegibleFrame frame → Yields AreAtoms (Forms.atoms_of m frame)
atoms_yield m h frame ok f t = then_holds AreLegible AreAtoms (m frame f) _ (h frame ok f t) (λ xs p g u. (atoms_legible g u xs p, u))

pub tested_yields : (m : Meaning) → GivesLegible m → (frame : Frame) → IsLegibleFrame frame → Yields IsAny (Forms.tested m frame)
tested_yields m h frame ok f t = then_holds AreLegible IsAny (m frame f) _ (h frame ok f t) (λ xs p g u. judged_holds IsAny (effective xs) g (any (effective xs)) u)

-- # Primary expressions

pub literal_gives : (a : Atomic) → IsLegible a → GivesLegible (Forms.literal a)
literal_gives a h frame ok f t = ((h, tt), t)

context_is : (focus : Option Focus) → HasLegibleItem focus → IsAnswer (context_item focus)
context_is None h = tt
context_is (Some focus) h = (h, tt)

pub context_gives : GivesLegible Forms.context
context_gives frame ok f t = judged_holds AreLegible (context_item frame.focus) f (context_is frame.focus ok.focus) t

pub call_gives : (function : Function) (ms : List Meaning) → AllGiveLegible ms → GivesLegible (Forms.call function ms)
call_gives function ms h frame ok f t =
    then_holds (AllByRecursion AreLegible) AreLegible (for_each (λ (m : Meaning). m frame) ms f) _ (for_each_yields AreLegible (λ (m : Meaning). m frame) ms (in_frame ms frame ok h) f t)
    (λ values p g u. judged_holds AreLegible (called function g frame.addresses frame.focus values) g (call_answer g u function frame.addresses frame.focus ok.focus values p) u)

pub sequence_gives : (ms : List Meaning) → AllGiveLegible ms → GivesLegible (Forms.sequence ms)
sequence_gives ms h frame ok f t = collected_yields IsLegibleItem (λ (m : Meaning). m frame) ms (in_frame ms frame ok h) f t

-- # Operators

pub chain_gives : (m : Meaning) (rest : List (Operator × Meaning)) → GivesLegible m → AllByRecursion (λ (o : Operator × Meaning). GivesLegible o.1) rest → GivesLegible (Forms.chain m rest)
chain_gives m rest first h frame ok f t =
    then_holds AreLegible AreLegible (m frame f) _ (first frame ok f t) (in_turn_yields AreLegible (Forms.next_operand frame) rest
    (all_weaker (λ (o : Operator × Meaning). GivesLegible o.1) _ (λ o gives xs p g u.
    then_holds AreLegible AreLegible (o.1 frame g) _ (gives frame ok g u) (λ ys q h v.
    judged_holds AreLegible (operated o.0 h xs ys) h (operated_answer o.0 h v xs ys p q) v)) rest h))

pub unary_gives : (signs : List Sign) (m : Meaning) → GivesLegible m → GivesLegible (Forms.unary signs m)
unary_gives signs m h frame ok f t =
    then_holds AreAtoms AreLegible (Forms.atoms_of m frame f) _ (atoms_yield m h frame ok f t) (λ values p g u. judged_holds AreLegible (signed signs values) g (signed_answer signs values) u)

tests_yield : (wanted : Bool) (ms : List Meaning) → AllGiveLegible ms → (frame : Frame) → IsLegibleFrame frame → Yields IsAny (first_that wanted (λ (m : Meaning). Forms.tested m frame) ms)
tests_yield wanted ms h frame ok = first_that_yields wanted (λ (m : Meaning). Forms.tested m frame) ms (all_weaker GivesLegible _ (λ m gives. tested_yields m gives frame ok) ms h)

pub or_gives : (ms : List Meaning) → AllGiveLegible ms → GivesLegible (Forms.or ms)
or_gives ms h frame ok f t =
    then_holds IsAny AreLegible (first_that true (λ (m : Meaning). Forms.tested m frame) ms f) _ (tests_yield true ms h frame ok f t) (λ b p g u. (boolean_answer b, u))

pub and_gives : (ms : List Meaning) → AllGiveLegible ms → GivesLegible (Forms.and ms)
and_gives ms h frame ok f t =
    then_holds IsAny AreLegible (first_that false (λ (m : Meaning). Forms.tested m frame) ms f) _ (tests_yield false ms h frame ok f t) (λ b p g u. (boolean_answer b, u))

chosen_gives : (b : Bool) (m n : Meaning) → GivesLegible m → GivesLegible n → GivesLegible (Forms.chosen b m n)
chosen_gives true m n h k = h
chosen_gives false m n h k = k

pub conditional_gives : (test m n : Meaning) → GivesLegible test → GivesLegible m → GivesLegible n → GivesLegible (Forms.conditional test m n)
conditional_gives test m n g h k frame ok f t =
    then_holds IsAny AreLegible (Forms.tested test frame f) _ (tested_yields test g frame ok f t) (λ b p. chosen_gives b m n h k frame ok)

-- # Predicates

kept_legible : (x : Item) (b : Bool) → IsLegibleItem x → AreLegible (Forms.kept_if x b)
kept_legible x true h = (h, tt)
kept_legible x false h = tt

passed_yields : (m : Meaning) → GivesLegible m → (frame : Frame) → IsLegibleFrame frame → (focus : Focus) → IsLegibleItem focus.item → Yields AreLegible (Forms.passed m frame focus)
passed_yields m h frame ok focus k f t =
    then_holds AreLegible AreLegible (m (Forms.in_focus frame focus) f) _ (h (Forms.in_focus frame focus) (in_focus frame focus ok k) f t) (λ value p g u.
    then_holds IsAny AreLegible (keeps focus.position value, g) _ (judged_holds IsAny (keeps focus.position value) g (any (keeps focus.position value)) u) (λ keep q e v.
    (kept_legible focus.item keep k, v)))

filtered_yields : (frame : Frame) → IsLegibleFrame frame → (m : Meaning) → GivesLegible m → (xs : List Item) → AreLegible xs → Yields AreLegible (Forms.filtered frame xs m)
filtered_yields frame ok m h xs p =
    collected_yields IsLegibleItem (Forms.passed m frame) (focuses xs)
    (all_weaker (λ (focus : Focus). IsLegibleItem focus.item) _ (λ focus k. passed_yields m h frame ok focus k) (focuses xs) (focused xs p))

predicates_yield : (frame : Frame) → IsLegibleFrame frame → (ms : List Meaning) → AllGiveLegible ms → (xs : List Item) → AreLegible xs → Yields AreLegible (in_turn (Forms.filtered frame) xs ms)
predicates_yield frame ok ms h =
    in_turn_yields AreLegible (Forms.filtered frame) ms (all_weaker GivesLegible _ (λ m gives xs p. filtered_yields frame ok m gives xs p) ms h)

pub filter_gives : (m : Meaning) (ms : List Meaning) → GivesLegible m → AllGiveLegible ms → GivesLegible (Forms.filter_of m ms)
filter_gives m ms first h frame ok f t = then_holds AreLegible AreLegible (m frame f) _ (first frame ok f t) (predicates_yield frame ok ms h)

-- # Steps and paths

nodes_legible : (places : List Place) → AreLegible (map Node places)
nodes_legible places = all_map IsLegibleItem Node places (all_of (λ p. Unit {0}) (λ p. tt) places)

turned_legible : (direction : Axis) (xs : List Item) → AreLegible xs → AreLegible (in_axis_order direction xs)
turned_legible direction xs h = by_test (is_reverse direction)
  where
    by_test : (b : Bool) → AreLegible (if b then reverse xs else xs)
    by_test true = all_reverse IsLegibleItem xs h
    by_test false = h

-- the predicates, and then document order again
abbrev chosen_and_back : Axis → List Meaning → Frame → List Item → Doing (List Item)
chosen_and_back direction ms frame xs g = go_on (in_turn (Forms.filtered frame) xs ms g) (λ ys. give (in_axis_order direction ys))

pub step_gives : (direction : Axis) (node_test : Test) (ms : List Meaning) → AllGiveLegible ms → GivesLegible (Forms.step direction node_test ms)
step_gives direction node_test ms h frame ok f t =
    then_holds (λ (p : Place). Unit {0}) AreLegible (context_node frame.focus, f) _ (judged_holds (λ (p : Place). Unit {0}) (context_node frame.focus) f (any (context_node frame.focus)) t) (λ p q g u.
    then_holds AreLegible AreLegible (Ok (map Node (in_axis_order direction (axis_nodes g direction node_test p))), g) (chosen_and_back direction ms frame)
    (nodes_legible (in_axis_order direction (axis_nodes g direction node_test p)), u) (λ xs r e v.
    then_holds AreLegible AreLegible (in_turn (Forms.filtered frame) xs ms e) (λ ys. give (in_axis_order direction ys)) (predicates_yield frame ok ms h xs r e v) (λ ys s d w.
    (turned_legible direction ys s, w))))

-- a part, on each item
bang_yields : (frame : Frame) → IsLegibleFrame frame → (m : Meaning) → GivesLegible m → (xs : List Item) → AreLegible xs → Yields AreLegible (Forms.bang frame xs m)
bang_yields frame ok m h xs p =
    collected_yields IsLegibleItem (λ (focus : Focus). m (Forms.in_focus frame focus)) (focuses xs)
    (all_weaker (λ (focus : Focus). IsLegibleItem focus.item) _ (λ focus k. h (Forms.in_focus frame focus) (in_focus frame focus ok k)) (focuses xs) (focused xs p))

pub simple_map_gives : (m : Meaning) (ms : List Meaning) → GivesLegible m → AllGiveLegible ms → GivesLegible (Forms.simple_map m ms)
simple_map_gives m ms first h frame ok f t =
    then_holds AreLegible AreLegible (m frame f) _ (first frame ok f t) (in_turn_yields AreLegible (Forms.bang frame) ms
    (all_weaker GivesLegible _ (λ part gives xs p. bang_yields frame ok part gives xs p) ms h))

slash_yields : (frame : Frame) → IsLegibleFrame frame → (m : Meaning) → GivesLegible m → (xs : List Item) → AreLegible xs → Yields AreLegible (Forms.slash frame xs m)
slash_yields frame ok m h xs p f t =
    then_holds (λ (ps : List Place). Unit {0}) AreLegible (all_nodes XPTY0019 xs, f) _ (judged_holds (λ (ps : List Place). Unit {0}) (all_nodes XPTY0019 xs) f (any (all_nodes XPTY0019 xs)) t) (λ places q g u.
    then_holds AreLegible AreLegible (Forms.bang frame xs m g) _ (bang_yields frame ok m h xs p g u)
    (λ ys r e v. judged_holds AreLegible (gathered e ys) e (gathered_answer e ys r) v))

pub path_gives : (m : Meaning) (ms : List Meaning) → GivesLegible m → AllGiveLegible ms → GivesLegible (Forms.path m ms)
path_gives m ms first h frame ok f t =
    then_holds AreLegible AreLegible (m frame f) _ (first frame ok f t) (in_turn_yields AreLegible (Forms.slash frame) ms
    (all_weaker GivesLegible _ (λ part gives xs p. slash_yields frame ok part gives xs p) ms h))

root_is : (trees : List Tree) (p : Place) → IsAnswer (document_root trees p)
root_is trees p =
    either_holds AreLegible (is_document (label_at trees (root_of p.tree)).kind) (Ok (Node (root_of p.tree) ∷ [])) (Err XPDY0050) (tt, tt) tt

pub root_gives : GivesLegible Forms.root
root_gives frame ok f t =
    then_holds (λ (p : Place). Unit {0}) AreLegible (context_node frame.focus, f) _ (judged_holds (λ (p : Place). Unit {0}) (context_node frame.focus) f (any (context_node frame.focus)) t)
    (λ p q g u. judged_holds AreLegible (document_root g p) g (root_is g p) u)

-- # Constructors

planted_yields : (tree : Tree) → IsTree tree → Yields AreLegible (Forms.planted tree)
planted_yields tree is f t = ((tt, tt), all_append IsTree f (tree ∷ []) t (is, tt))

planted_if_yields : (tree : Option Tree) → MayBeTree tree → Yields AreLegible (Forms.planted_if tree)
planted_if_yields None is f t = (tt, t)
planted_if_yields (Some tree) is f t = planted_yields tree is f t

pub named_gives : (kind : NamedNode) (m n : Meaning) → GivesLegible m → GivesLegible n → GivesLegible (Forms.named_node kind m n)
named_gives kind m n h k frame ok f t =
    then_holds AreAtoms AreLegible (Forms.atoms_of m frame f) _ (atoms_yield m h frame ok f t) (λ values p g u.
    then_holds (IsNameOf kind) AreLegible (name_of kind values, g) _ (judged_holds (IsNameOf kind) (name_of kind values) g (name_is kind values p) u) (λ good q e v.
    then_holds AreLegible AreLegible (n frame e) _ (k frame ok e v) (λ xs r d w.
    then_holds IsTree AreLegible (named_tree kind good d xs, d) _ (judged_holds IsTree (named_tree kind good d xs) d (named_is d w xs r kind good q) w) planted_yields)))

pub unnamed_gives : (kind : UnnamedNode) (m : Meaning) → GivesLegible m → GivesLegible (Forms.unnamed_node kind m)
unnamed_gives kind m h frame ok f t =
    then_holds AreLegible AreLegible (m frame f) _ (h frame ok f t) (λ xs p g u.
    then_holds MayBeTree AreLegible (unnamed_tree kind g xs, g) _ (judged_holds MayBeTree (unnamed_tree kind g xs) g (unnamed_is g u xs p kind) u) planted_if_yields)

-- # Quantified expressions

-- a binding keeps an environment legible, and its range is
pub record IsLegibleBinding (b : Forms.Binding Environment) : Type 0 where
  pub binds : (env : Environment) (xs : List Item) → IsLegibleEnvironment env → AreLegible xs → IsLegibleEnvironment (b.0 env xs)
  pub range : GivesLegible b.1

satisfied_yields : (wanted : Bool) (bindings : List (Forms.Binding Environment)) (m : Meaning) → AllByRecursion IsLegibleBinding bindings → GivesLegible m → (frame : Frame) → IsLegibleFrame frame
    → Yields IsAny (Forms.satisfied wanted bindings m frame)
satisfied_yields wanted [] m h k frame ok f t = tested_yields m k frame ok f t
satisfied_yields wanted (b ∷ bs) m h k frame ok f t =
    then_holds AreLegible IsAny (b.1 frame f) _ (h.0.range frame ok f t) (λ xs p.
    first_that_yields wanted (λ (x : Item). Forms.satisfied wanted bs m (Forms.in_env frame (b.0 frame.env (x ∷ [])))) xs
    (all_weaker IsLegibleItem _ (λ x q. satisfied_yields wanted bs m h.1 k (Forms.in_env frame (b.0 frame.env (x ∷ []))) (in_env frame (b.0 frame.env (x ∷ [])) ok (h.0.binds frame.env (x ∷ []) ok.env (q, tt)))) xs p))

pub quantified_gives : (which : Quantifier) (bindings : List (Forms.Binding Environment)) (m : Meaning) → AllByRecursion IsLegibleBinding bindings → GivesLegible m → GivesLegible (Forms.quantified which bindings m)
quantified_gives which bindings m h k frame ok f t =
    then_holds IsAny AreLegible (Forms.satisfied (Forms.deciding which) bindings m frame f) _ (satisfied_yields (Forms.deciding which) bindings m h k frame ok f t) (λ b p g u. (boolean_answer b, u))
