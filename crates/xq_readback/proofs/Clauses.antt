-- What the clauses of a FLWOR expression, and the other forms over names, give of legible values.
use Rattle.std.proofs.Common.{ℕ, List, [], ◌∷◌, ◌++◌, map, length, Bool, true, false, Option, Some, None}
use Rattle.std.specs.Prelude.{if◌then◌else◌, nat_eq}
use Rattle.std.specs.List.{AllByRecursion, zip, flat_map}
use Rattle.xq_atoms.specs.Text.{Text, text_eq}
use Rattle.xq_atoms.specs.Atom.{Atomic}
use Rattle.xq_expressions.specs.declared.names.QName.{QName}
use Rattle.xq_expressions.specs.declared.signatures.Function.{Function}
use Rattle.xq_expressions.specs.declared.operators.AllowingEmpty.{AllowingEmpty}
use Rattle.xq_expressions.specs.declared.operators.OrderModifier.{OrderModifier}
use Rattle.xq_expressions.specs.declared.operators.PathStart.{PathStart}
use Rattle.xq_expressions.specs.declared.operators.PathStart.TheVariants.{Relative, Root, RootAndBelow}
use Rattle.xq_expressions.specs.declared.operators.Separator.{Separator}
use Rattle.xq_expressions.specs.declared.operators.Separator.TheVariants.{Slash, DoubleSlash}
use Rattle.xq_expressions.specs.declared.operators.AxisStep.{AxisStep}
use Rattle.xq_expressions.specs.declared.operators.AxisStep.TheVariants as written_step
use Rattle.xq_expressions.specs.Signatures.{admits, arity, function_named}
use Rattle.xq_trees.specs.declared.Axis.TheVariants as axis
use Rattle.xq_trees.specs.Tuples.{Tuple, ordered, firsts}
use Rattle.xq_trees.proofs.Lists.{all_append, all_weaker}
use Rattle.xq_meaning.specs.declared.node_tests.Test.TheVariants as test
use Rattle.xq_meaning.specs.declared.operators.Operator.{Operator}
use Rattle.xq_meaning.specs.Items.{Item}
use Rattle.xq_meaning.specs.Arguments.{each}
use Rattle.xq_meaning.specs.Doing.{Doing, for_each}
use Rattle.xq_meaning.specs.Forms
use Rattle.xq_meaning.specs.Meaning.{Environment, Frame, Meaning, bind, bind_all, variable, joined_by, axis_of, test_on, default_axis, axis_step, after, later_parts, path_from, call_if, call_of, call_named, arrow, Stream, first_stream, ClauseMeaning, at_tuple, named, is_asked, position_name, for_clause, let_clause, where_clause, count_clause, slot_of, group_clause, order_clause, next_clause, clauses, flwor, GroupMeaning, group_by}
use Rattle.xq_readback.specs.Legible.{IsLegible, IsLegibleItem, AreLegible}
use Rattle.xq_readback.proofs.Holding.{any, Yields, IsAny, then_holds, judged_holds, in_turn_yields, for_each_yields, collected_yields}
use Rattle.xq_readback.proofs.Tuples.{IsLegibleTuple, AreLegibleTuples, zip_seconds, bound_are, satisfying_are, expanded_are, numbered_are, grouped_are, columns_are, ordered_are}
use Rattle.xq_readback.proofs.Forms.{IsLegibleEnvironment, IsLegibleFrame, GivesLegible, AllGiveLegible, atoms_yield, tested_yields, call_gives, sequence_gives, chain_gives, step_gives, path_gives, root_gives}

-- # Names

pub bind_legible : (v : Text) (env : Environment) (xs : List Item) → IsLegibleEnvironment env → AreLegible xs → IsLegibleEnvironment (bind v env xs)
bind_legible v env xs h k w = by_test (text_eq w v)
  where
    by_test : (b : Bool) → AreLegible (if b then xs else env w)
    by_test true = k
    by_test false = h w

bind_all_legible : (env : Environment) (bs : List (Text × List Item)) → IsLegibleEnvironment env → AllByRecursion (λ (b : Text × List Item). AreLegible b.1) bs → IsLegibleEnvironment (bind_all env bs)
bind_all_legible env [] h k = h
bind_all_legible env (b ∷ bs) h k = bind_all_legible (bind b.0 env b.1) bs (bind_legible b.0 env b.1 h k.0) k.1

pub variable_gives : (v : Text) → GivesLegible (variable v)
variable_gives v frame ok f t = (ok.env v, t)

-- # Operators in lists, steps, paths and calls

same_operator : (op : Operator) (ms : List Meaning) → AllGiveLegible ms → AllByRecursion (λ (o : Operator × Meaning). GivesLegible o.1) (map (λ part. (op, part)) ms)
same_operator op [] h = tt
same_operator op (m ∷ ms) h = (h.0, same_operator op ms h.1)

pub joined_gives : (op : Operator) (ms : List Meaning) → AllGiveLegible ms → GivesLegible (joined_by op ms)
joined_gives op [] h = sequence_gives [] tt
joined_gives op (m ∷ ms) h = chain_gives m (map (λ part. (op, part)) ms) h.0 (same_operator op ms h.1)

pub axis_step_gives : (step : AxisStep) (ms : List Meaning) → AllGiveLegible ms → GivesLegible (axis_step step ms)
axis_step_gives (written_step.Along axis_name node_test) ms h = step_gives (axis_of axis_name) (test_on (axis_of axis_name) node_test) ms h
axis_step_gives (written_step.Attribute node_test) ms h = step_gives axis.Attributes (test_on axis.Attributes node_test) ms h
axis_step_gives written_step.Parent ms h = step_gives axis.Parent test.Any ms h
axis_step_gives (written_step.Abbreviated node_test) ms h = step_gives (default_axis node_test) (test_on (default_axis node_test) node_test) ms h

self_and_below_gives : GivesLegible Forms.self_and_below
self_and_below_gives = step_gives axis.DescendantOrSelf test.Any [] tt

after_gives : (separator : Separator) (m : Meaning) → GivesLegible m → AllGiveLegible (after separator m)
after_gives Slash m h = (h, tt)
after_gives DoubleSlash m h = (self_and_below_gives, (h, tt))

abbrev pub AllStepsGive : List (Separator × Meaning) → Type 0
AllStepsGive steps = AllByRecursion (λ (s : Separator × Meaning). GivesLegible s.1) steps

later_give : (steps : List (Separator × Meaning)) → AllStepsGive steps → AllGiveLegible (later_parts steps)
later_give [] h = tt
later_give (s ∷ steps) h = all_append GivesLegible (after s.0 s.1) (later_parts steps) (after_gives s.0 s.1 h.0) (later_give steps h.1)

pub path_from_gives : (start : PathStart) (first : Meaning) (steps : List (Separator × Meaning)) → GivesLegible first → AllStepsGive steps → GivesLegible (path_from start first steps)
path_from_gives Relative first steps h k = path_gives first (later_parts steps) h (later_give steps k)
path_from_gives Root first steps h k = path_gives Forms.root (first ∷ later_parts steps) root_gives (h, later_give steps k)
path_from_gives RootAndBelow first steps h k = path_gives Forms.root (Forms.self_and_below ∷ first ∷ later_parts steps) root_gives (self_and_below_gives, (h, later_give steps k))

call_if_gives : (b : Bool) (function : Function) (ms : List Meaning) → AllGiveLegible ms → GivesLegible (call_if b function ms)
call_if_gives true function ms h = call_gives function ms h
call_if_gives false function ms h = λ frame ok f t. tt

pub call_of_gives : (function : Option Function) (ms : List Meaning) → AllGiveLegible ms → GivesLegible (call_of function ms)
call_of_gives None ms h = λ frame ok f t. tt
call_of_gives (Some function) ms h = call_if_gives (admits (arity function) (length ms)) function ms h

-- calls, each with its other arguments
abbrev pub AllCallsGive : List (QName × List Meaning) → Type 0
AllCallsGive calls = AllByRecursion (λ (c : QName × List Meaning). AllGiveLegible c.1) calls

pub arrow_gives : (first : Meaning) (calls : List (QName × List Meaning)) → GivesLegible first → AllCallsGive calls → GivesLegible (arrow first calls)
arrow_gives first [] h k = h
arrow_gives first (c ∷ calls) h k =
    arrow_gives (call_named c.0 (first ∷ c.1)) calls (call_of_gives (function_named c.0.prefix c.0.local) (first ∷ c.1) (h, k.0)) k.1

-- # Clauses

abbrev IsLegibleStream : Stream → Type 0
IsLegibleStream s = AreLegibleTuples s.tuples

-- from a legible stream the clause leads to a legible one
abbrev pub KeepsLegible : ClauseMeaning → Type 0
KeepsLegible clause = (frame : Frame) → IsLegibleFrame frame → (s : Stream) → IsLegibleStream s → Yields IsLegibleStream (clause frame s)

tuple_frame : (frame : Frame) (names : List Text) (tuple : Tuple Item) → IsLegibleFrame frame → IsLegibleTuple tuple → IsLegibleFrame (at_tuple frame names tuple)
tuple_frame frame names tuple h k = record { env = bind_all_legible frame.env (zip names tuple) h.env (zip_seconds AreLegible names tuple k); focus = h.focus }

named_yields : (names : List Text) (act : Doing (List (Tuple Item))) → Yields AreLegibleTuples act → Yields IsLegibleStream (named names act)
named_yields names act h f t = then_holds AreLegibleTuples IsLegibleStream (act f) _ (h f t) (λ tuples p g u. (p, u))

-- a part, at each tuple
values_yield : (m : Meaning) → GivesLegible m → (frame : Frame) → IsLegibleFrame frame → (names : List Text) (tuples : List (Tuple Item)) → AreLegibleTuples tuples
    → Yields (AllByRecursion AreLegible) (for_each (λ (tuple : Tuple Item). m (at_tuple frame names tuple)) tuples)
values_yield m h frame ok names tuples k =
    for_each_yields AreLegible (λ (tuple : Tuple Item). m (at_tuple frame names tuple)) tuples
    (all_weaker IsLegibleTuple _ (λ tuple legible. h (at_tuple frame names tuple) (tuple_frame frame names tuple ok legible)) tuples k)

pub for_keeps : (v : Text) (empties : AllowingEmpty) (at : Option Text) (m : Meaning) → GivesLegible m → KeepsLegible (for_clause v empties at m)
for_keeps v empties at m h frame ok s k =
    named_yields (s.names ++ v ∷ position_name at) (Forms.for_tuples empties (is_asked at) m (at_tuple frame s.names) s.tuples) (λ f t.
    then_holds (AllByRecursion AreLegible) AreLegibleTuples (for_each (λ (tuple : Tuple Item). m (at_tuple frame s.names tuple)) s.tuples f) _ (values_yield m h frame ok s.names s.tuples k f t)
    (λ lists p g u. (expanded_are (Forms.allows empties) (is_asked at) s.tuples lists k p, u)))

pub let_keeps : (v : Text) (m : Meaning) → GivesLegible m → KeepsLegible (let_clause v m)
let_keeps v m h frame ok s k =
    named_yields (s.names ++ v ∷ []) (Forms.let_tuples m (at_tuple frame s.names) s.tuples) (λ f t.
    then_holds (AllByRecursion AreLegible) AreLegibleTuples (for_each (λ (tuple : Tuple Item). m (at_tuple frame s.names tuple)) s.tuples f) _ (values_yield m h frame ok s.names s.tuples k f t)
    (λ values p g u. (bound_are s.tuples values k p, u)))

pub where_keeps : (m : Meaning) → GivesLegible m → KeepsLegible (where_clause m)
where_keeps m h frame ok s k =
    named_yields s.names (Forms.where_tuples m (at_tuple frame s.names) s.tuples) (λ f t.
    then_holds (AllByRecursion IsAny) AreLegibleTuples (for_each (λ (tuple : Tuple Item). Forms.tested m (at_tuple frame s.names tuple)) s.tuples f) _
    (for_each_yields IsAny (λ (tuple : Tuple Item). Forms.tested m (at_tuple frame s.names tuple)) s.tuples
    (all_weaker IsLegibleTuple _ (λ tuple legible. tested_yields m h (at_tuple frame s.names tuple) (tuple_frame frame s.names tuple ok legible)) s.tuples k) f t)
    (λ tests p g u. (satisfying_are IsLegibleTuple s.tuples tests k, u)))

pub count_keeps : (v : Text) → KeepsLegible (count_clause v)
count_keeps v frame ok s k = named_yields (s.names ++ v ∷ []) (Forms.count_tuples s.tuples) (λ f t. (numbered_are s.tuples k, t))

group_yields : (slots : List ℕ) (tuples : List (Tuple Item)) → AreLegibleTuples tuples → Yields AreLegibleTuples (Forms.group_tuples slots tuples)
group_yields slots tuples k f t =
    judged_holds AreLegibleTuples (Forms.group_by_slots f (firsts nat_eq slots) tuples) f
    (grouped_are (firsts nat_eq slots) tuples (map (Forms.slot_values f tuples) (firsts nat_eq slots)) k (columns_are f t (firsts nat_eq slots) tuples k)) t

group_keeps : (vs : List Text) → KeepsLegible (group_clause vs)
group_keeps vs frame ok s k f t =
    then_holds (λ (slots : List ℕ). Unit {0}) IsLegibleStream (each (slot_of s.names) vs, f) _ (judged_holds (λ (slots : List ℕ). Unit {0}) (each (slot_of s.names) vs) f (any (each (slot_of s.names) vs)) t)
    (λ slots p. named_yields s.names (Forms.group_tuples slots s.tuples) (group_yields slots s.tuples k))

-- the keys of a tuple
abbrev AreRows : List (List Atomic) → Type 0
AreRows keys = AllByRecursion (AllByRecursion IsLegible) keys

-- a specification, and its part
abbrev pub AllKeysGive : List (Meaning × OrderModifier) → Type 0
AllKeysGive specs = AllByRecursion (λ (spec : Meaning × OrderModifier). GivesLegible spec.0) specs

pub order_keeps : (specs : List (Meaning × OrderModifier)) → AllKeysGive specs → KeepsLegible (order_clause specs)
order_keeps specs h frame ok s k =
    named_yields s.names (Forms.order_tuples specs (at_tuple frame s.names) s.tuples) (λ f t.
    (let keys : Tuple Item → Doing (List (List Atomic)) = λ tuple. for_each (λ (spec : Meaning × OrderModifier). Forms.atoms_of spec.0 (at_tuple frame s.names tuple)) specs in
    then_holds (AllByRecursion AreRows) AreLegibleTuples (for_each keys s.tuples f) _
    (for_each_yields AreRows keys s.tuples (all_weaker IsLegibleTuple _ (λ tuple legible.
    for_each_yields (AllByRecursion IsLegible) (λ (spec : Meaning × OrderModifier). Forms.atoms_of spec.0 (at_tuple frame s.names tuple)) specs
    (all_weaker (λ (spec : Meaning × OrderModifier). GivesLegible spec.0) _ (λ spec gives. atoms_yield spec.0 gives (at_tuple frame s.names tuple) (tuple_frame frame s.names tuple ok legible)) specs h)) s.tuples k) f t)
    (λ rows p g u.
    judged_holds AreLegibleTuples (ordered (Forms.rules_of specs) s.tuples (Forms.key_columns (length specs) rows)) g (ordered_are (Forms.rules_of specs) s.tuples (Forms.key_columns (length specs) rows) k) u)))

-- # One clause after another

pub clauses_keep : (parts : List ClauseMeaning) → AllByRecursion KeepsLegible parts → KeepsLegible (clauses parts)
clauses_keep parts h frame ok s k =
    in_turn_yields IsLegibleStream (next_clause frame) parts (all_weaker KeepsLegible _ (λ clause keeps s k. keeps frame ok s k) parts h) s k

pub flwor_gives : (parts : List ClauseMeaning) (m : Meaning) → AllByRecursion KeepsLegible parts → GivesLegible m → GivesLegible (flwor parts m)
flwor_gives parts m h k frame ok f t =
    then_holds IsLegibleStream AreLegible (clauses parts frame first_stream f) _ (clauses_keep parts h frame ok first_stream (tt, tt) f t) (λ s p.
    collected_yields IsLegibleItem (λ (tuple : Tuple Item). m (at_tuple frame s.names tuple)) s.tuples
    (all_weaker IsLegibleTuple _ (λ tuple legible. k (at_tuple frame s.names tuple) (tuple_frame frame s.names tuple ok legible)) s.tuples p))

-- a grouping variable's bindings keep a stream legible
abbrev pub SpecKeeps : GroupMeaning → Type 0
SpecKeeps spec = AllByRecursion KeepsLegible spec.1

bindings_keep : (specs : List GroupMeaning) → AllByRecursion SpecKeeps specs → AllByRecursion KeepsLegible (flat_map (λ (v, lets). lets) specs)
bindings_keep [] h = tt
bindings_keep (spec ∷ specs) h = all_append KeepsLegible spec.1 (flat_map (λ (v, lets). lets) specs) h.0 (bindings_keep specs h.1)

pub group_by_keeps : (specs : List GroupMeaning) → AllByRecursion SpecKeeps specs → KeepsLegible (group_by specs)
group_by_keeps specs h =
    clauses_keep (flat_map (λ (v, lets). lets) specs ++ group_clause (map (λ (v, lets). v) specs) ∷ [])
    (all_append KeepsLegible (flat_map (λ (v, lets). lets) specs) (group_clause (map (λ (v, lets). v) specs) ∷ []) (bindings_keep specs h) (group_keeps (map (λ (v, lets). v) specs), tt))
