use Rattle.std.proofs.Common.{◌≡◌, ℕ, ◌≤◌, ◌^◌, List, [], ◌∷◌, ◌++◌, map, take, drop, suc, length, ◌+◌, ◌*◌}
use Rattle.std.specs.Prelude.{if◌then◌else◌}
use Rattle.std.specs.List.{AllByRecursion}
use Rattle.xq_trees.specs.Items.{item_view, item_views}
use Rattle.xq_meaning.specs.Doing.{in_turn, more, one_more, for_each, collected, first_that}
use Rattle.xq_meaning.specs.Forms as Forms
use Rattle.xq_meaning.specs.PlanMeaning.{equal_items, Meaning, plan_mean, plan_clause_mean, plan_step_mean, at_carried, at_tuple as meant_at, next_clause, next_step}
use Rattle.xq_meaning.specs.Functions.{Focus as Spot}
use Rattle.xq_meaning.specs.Items.{Item}
use Rattle.xq_meaning.specs.declared.operators.Operator.{Operator}
use Rattle.xq_expressions.specs.declared.signatures.Function.{Function}
use Rattle.xq_meaning.specs.declared.plans.Plan.{Plan, size-Plan}
use Rattle.xq_meaning.specs.declared.plans.PlanClause.{size-PlanClause}
use Rattle.xq_meaning.specs.declared.plans.PlanStep.{size-PlanStep}
use denote.Param.Weighed.{most}
use Prim.Native.Nat.{max}
use Rattle.xq_meaning.specs.Steps.{focuses, focuses_from}
use Rattle.xq_meaning.specs.Readings.{items_at, AreIn}
use Rattle.xq_operators.specs.Views.{tuple_at, tuples_at, lists_of, order_specs, frame_at, FrameIn, TupleIn, TuplesIn, Goes}
use Rattle.xq_operators.specs.Reads.{rows_of, AreOf, HasGrown}
use Rattle.xq_tuples.specs.Keys.{row_of}
use Rattle.xq_tuples.specs.Views.{values_of}
use Rattle.xq_eval.specs.private.Bindings.{stack_of}
use Rattle.xq_eval.specs.private.Keys.{keys_at}
use Rattle.xq_eval.specs.private.Scanning.{IsLiteral, IsScan}
use Rattle.xq_eval.specs.private.Quantifying.{holds, resumed, weigh, all_weigh}
use Rattle.xq_eval.proofs.Loops.{Turns, Tries}
use Rattle.xq_eval.proofs.Steps.{same_tests, any_tests}
use Rattle.xq_eval.proofs.+eval.Given as goal

abbrev pub invariant-evaluation::sequence-loop-part : goal.invariant-evaluation::sequence-loop-part
invariant-evaluation::sequence-loop-part g l =
    let old = g.W.TreeSource.forest l.fn.world in
    let now = g.W.TreeSource.forest l.world in
    let frame = frame_at old l.frame in
    record {
      goes : Goes old now (g.W.TreeSource.is_clean l.fn.world) (g.W.TreeSource.is_clean l.world);
      turns : Turns items_at AreIn (more (λ (part : Meaning). part frame)) (FrameIn old l.frame) (g.W.TreeSource.is_clean l.world) (item_views l.items) (map plan_mean (drop l.part-index l.parts)) now (Forms.sequence (map plan_mean l.parts) frame old);
    }

abbrev pub invariant-evaluation::chain-loop-operator : goal.invariant-evaluation::chain-loop-operator
invariant-evaluation::chain-loop-operator g l =
    let old = g.W.TreeSource.forest l.fn.world in
    let now = g.W.TreeSource.forest l.world in
    let frame = frame_at old l.frame in
    let read = map (λ (op, p). (op, plan_mean p)) in
    record {
      goes : Goes old now (g.W.TreeSource.is_clean l.fn.world) (g.W.TreeSource.is_clean l.world);
      turns : Turns items_at AreIn (Forms.next_operand frame) (FrameIn old l.frame × AreIn old (item_views l.fn.first)) (g.W.TreeSource.is_clean l.world) (item_views l.total) (read (drop l.operator-index l.rest)) now (in_turn (Forms.next_operand frame) (items_at old (item_views l.fn.first)) (read l.rest) old);
    }

abbrev pub invariant-evaluation::call_list-loop-function : goal.invariant-evaluation::call_list-loop-function
invariant-evaluation::call_list-loop-function g l =
    let old = g.W.TreeSource.forest l.fn.world in
    let now = g.W.TreeSource.forest l.world in
    let frame = frame_at old l.frame in
    let read = map (λ (op, ps). (op, map plan_mean ps)) in
    record {
      goes : Goes old now (g.W.TreeSource.is_clean l.fn.world) (g.W.TreeSource.is_clean l.world);
      turns : Turns items_at AreIn (Forms.next_call frame) (FrameIn old l.frame × AreIn old (item_views l.fn.first)) (g.W.TreeSource.is_clean l.world) (item_views l.value) (read (drop l.function-index l.calls)) now (in_turn (Forms.next_call frame) (items_at old (item_views l.fn.first)) (read l.calls) old);
    }

abbrev pub invariant-paths::map_list-loop-part : goal.invariant-paths::map_list-loop-part
invariant-paths::map_list-loop-part g l =
    let old = g.W.TreeSource.forest l.fn.world in
    let now = g.W.TreeSource.forest l.world in
    let frame = frame_at old l.frame in
    let inside = FrameIn old l.frame in
    let clean = g.W.TreeSource.is_clean l.world in
    record {
      goes : Goes old now (g.W.TreeSource.is_clean l.fn.world) clean;
      turns : Turns items_at AreIn (Forms.bang frame) (inside × AreIn old (item_views l.fn.items)) clean (item_views l.left) (map plan_mean (drop l.part-index l.parts)) now (in_turn (Forms.bang frame) (items_at old (item_views l.fn.items)) (map plan_mean l.parts) old);
    }

abbrev pub invariant-evaluation::filter-loop-predicate : goal.invariant-evaluation::filter-loop-predicate
invariant-evaluation::filter-loop-predicate g l =
    let old = g.W.TreeSource.forest l.fn.world in
    let now = g.W.TreeSource.forest l.world in
    let frame = frame_at old l.frame in
    let inside = FrameIn old l.frame in
    let clean = g.W.TreeSource.is_clean l.world in
    record {
      goes : Goes old now (g.W.TreeSource.is_clean l.fn.world) clean;
      turns : Turns items_at AreIn (Forms.filtered frame) (inside × AreIn old (item_views l.fn.items)) clean (item_views l.left) (map plan_mean (drop l.predicate-index l.predicates)) now (in_turn (Forms.filtered frame) (items_at old (item_views l.fn.items)) (map plan_mean l.predicates) old);
    }

abbrev pub invariant-evaluation::keep-loop-index : goal.invariant-evaluation::keep-loop-index
invariant-evaluation::keep-loop-index g l =
    let old = g.W.TreeSource.forest l.fn.world in
    let now = g.W.TreeSource.forest l.world in
    let frame = frame_at old l.frame in
    let inside = FrameIn old l.frame in
    let clean = g.W.TreeSource.is_clean l.world in
    record {
      goes : Goes old now (g.W.TreeSource.is_clean l.fn.world) clean;
      turns : Turns items_at AreIn (more (Forms.passed (plan_mean l.predicate) frame)) (inside × AreIn old (map item_view l.items)) clean (item_views l.kept) (focuses_from (suc l.index) (length l.items) (items_at old (map item_view (drop l.index l.items)))) now (Forms.filtered frame (items_at old (map item_view l.items)) (plan_mean l.predicate) old);
    }

abbrev pub invariant-clauses::clause_list-loop-clause : goal.invariant-clauses::clause_list-loop-clause
invariant-clauses::clause_list-loop-clause g l =
    let old = g.W.TreeSource.forest l.fn.world in
    let now = g.W.TreeSource.forest l.world in
    let frame = frame_at old l.frame in
    let inside = FrameIn old l.frame in
    let clean = g.W.TreeSource.is_clean l.world in
    record {
      goes : Goes old now (g.W.TreeSource.is_clean l.fn.world) clean;
      turns : Turns tuples_at TuplesIn (next_clause frame) inside clean l.tuples (map plan_clause_mean (drop l.clause-index l.clauses)) now (in_turn (next_clause frame) ([] ∷ []) (map plan_clause_mean l.clauses) old);
    }

abbrev pub invariant-clauses::values-loop-index : goal.invariant-clauses::values-loop-index
invariant-clauses::values-loop-index g l =
    let old = g.W.TreeSource.forest l.fn.world in
    let now = g.W.TreeSource.forest l.world in
    let frame = frame_at old l.frame in
    let inside = FrameIn old l.frame in
    let clean = g.W.TreeSource.is_clean l.world in
    record {
      goes : Goes old now (g.W.TreeSource.is_clean l.fn.world) clean;
      turns : Turns tuple_at TupleIn (one_more (λ t. plan_mean l.part (meant_at frame t))) (inside × TuplesIn old l.tuples) clean (lists_of l.lists) (map (tuple_at old) (drop l.index l.tuples)) now (for_each (λ t. plan_mean l.part (meant_at frame t)) (tuples_at old l.tuples) old);
      long : length l.lists.items ≡ l.index;
      in_slots : take l.outer (values_of l.slots.items) ≡ values_of l.frame.slots.now;
    }

abbrev pub invariant-clauses::later_ranges-loop-index : goal.invariant-clauses::later_ranges-loop-index
invariant-clauses::later_ranges-loop-index g l =
    let old = g.W.TreeSource.forest l.fn.world in
    let now = g.W.TreeSource.forest l.world in
    let frame = frame_at old l.frame in
    let first = item_views l.fn.first in
    let clean = g.W.TreeSource.is_clean l.world in
    let act = one_more (λ t. plan_mean l.range (at_carried l.join frame t)) in
    record {
      goes : Goes old now (g.W.TreeSource.is_clean l.fn.world) clean;
      turns : Turns tuple_at TupleIn act (FrameIn old l.frame × TuplesIn old l.tuples × AreIn old first) clean (lists_of l.lists) (map (tuple_at old) (drop l.index l.tuples)) now (in_turn act (items_at old first ∷ []) (drop 1 (tuples_at old l.tuples)) old);
      long : length l.lists.items ≡ l.index;
    }

abbrev pub invariant-groups::later_groups-loop-index : goal.invariant-groups::later_groups-loop-index
invariant-groups::later_groups-loop-index g l =
    let old = g.W.TreeSource.forest l.fn.world in
    let now = g.W.TreeSource.forest l.world in
    let frame = frame_at old l.frame in
    let first = item_views l.fn.first in
    let clean = g.W.TreeSource.is_clean l.world in
    let act = one_more (equal_items (plan_mean l.range) l.join frame) in
    record {
      goes : Goes old now (g.W.TreeSource.is_clean l.fn.world) clean;
      turns : Turns tuple_at TupleIn act (FrameIn old l.frame × TuplesIn old l.tuples × AreIn old first) clean (lists_of l.lists) (map (tuple_at old) (drop l.index l.tuples)) now (in_turn act (items_at old first ∷ []) (drop 1 (tuples_at old l.tuples)) old);
      long : length l.lists.items ≡ l.index;
    }

abbrev pub invariant-clauses::returned-loop-index : goal.invariant-clauses::returned-loop-index
invariant-clauses::returned-loop-index g l =
    let old = g.W.TreeSource.forest l.fn.world in
    let now = g.W.TreeSource.forest l.world in
    let frame = frame_at old l.frame in
    let inside = FrameIn old l.frame in
    let clean = g.W.TreeSource.is_clean l.world in
    record {
      goes : Goes old now (g.W.TreeSource.is_clean l.fn.world) clean;
      turns : Turns items_at AreIn (more (λ t. plan_mean l.part (meant_at frame t))) (inside × TuplesIn old l.tuples) clean (item_views l.items) (map (tuple_at old) (drop l.index l.tuples)) now (Forms.return_of (plan_mean l.part) (meant_at frame) (tuples_at old l.tuples) old);
      in_slots : take l.outer (values_of l.slots.items) ≡ values_of l.frame.slots.now;
    }

abbrev pub invariant-clauses::tests-loop-index : goal.invariant-clauses::tests-loop-index
invariant-clauses::tests-loop-index g l =
    let old = g.W.TreeSource.forest l.fn.world in
    let now = g.W.TreeSource.forest l.world in
    let frame = frame_at old l.frame in
    let inside = FrameIn old l.frame in
    let clean = g.W.TreeSource.is_clean l.world in
    record {
      goes : Goes old now (g.W.TreeSource.is_clean l.fn.world) clean;
      turns : Turns same_tests any_tests (one_more (λ t. Forms.tested (plan_mean l.part) (meant_at frame t))) (inside × TuplesIn old l.tuples) clean l.tests.items (map (tuple_at old) (drop l.index l.tuples)) now (for_each (λ t. Forms.tested (plan_mean l.part) (meant_at frame t)) (tuples_at old l.tuples) old);
      long : length l.tests.items ≡ l.index;
      in_slots : take l.outer (values_of l.slots.items) ≡ values_of l.frame.slots.now;
    }

-- where the step was taken with the one before it, one fewer is left
abbrev pub invariant-paths::later_steps-loop-index : goal.invariant-paths::later_steps-loop-index
invariant-paths::later_steps-loop-index g l =
    let old = g.W.TreeSource.forest l.fn.world in
    let now = g.W.TreeSource.forest l.world in
    let frame = frame_at old l.frame in
    let inside = FrameIn old l.frame in
    let clean = g.W.TreeSource.is_clean l.world in
    record {
      goes : Goes old now (g.W.TreeSource.is_clean l.fn.world) clean;
      turns : Turns items_at AreIn (next_step frame) (inside × AreIn old (item_views l.fn.items)) clean (item_views l.left) (map plan_step_mean (drop (l.index + (if l.is_taken then 1 else 0)) l.steps)) now (in_turn (next_step frame) (items_at old (item_views l.fn.items)) (map plan_step_mean l.steps) old);
      within : l.index + (if l.is_taken then 1 else 0) ≤ length l.steps;
      reads : clean → AllByRecursion IsScan l.steps → (tree : ℕ) → AreOf old tree (item_views l.fn.items) → AreOf now tree (item_views l.left) × HasGrown (g.W.TreeSource.meter l.fn.world) (g.W.TreeSource.meter l.world) ((l.index + (if l.is_taken then 1 else 0)) * rows_of old tree);
    }

abbrev pub invariant-paths::each-loop-index : goal.invariant-paths::each-loop-index
invariant-paths::each-loop-index g l =
    let old = g.W.TreeSource.forest l.fn.world in
    let now = g.W.TreeSource.forest l.world in
    let frame = frame_at old l.frame in
    let inside = FrameIn old l.frame in
    let clean = g.W.TreeSource.is_clean l.world in
    record {
      goes : Goes old now (g.W.TreeSource.is_clean l.fn.world) clean;
      turns : Turns items_at AreIn (more (λ (spot : Spot). plan_mean l.part (Forms.in_focus frame spot))) (inside × AreIn old (map item_view l.items)) clean (item_views l.found) (focuses_from (suc l.index) (length l.items) (items_at old (map item_view (drop l.index l.items)))) now (collected (λ spot. plan_mean l.part (Forms.in_focus frame spot)) (focuses (items_at old (map item_view l.items))) old);
    }

abbrev pub invariant-evaluation::decided-loop-part : goal.invariant-evaluation::decided-loop-part
invariant-evaluation::decided-loop-part g l =
    let old = g.W.TreeSource.forest l.fn.world in
    let now = g.W.TreeSource.forest l.world in
    let frame = frame_at old l.frame in
    let clean = g.W.TreeSource.is_clean l.world in
    let act = λ (part : Meaning). Forms.tested part frame in
    record {
      goes : Goes old now (g.W.TreeSource.is_clean l.fn.world) clean;
      tries : Tries l.wanted act (FrameIn old l.frame) clean (map plan_mean (drop l.part-index l.parts)) now (first_that l.wanted act (map plan_mean l.parts) old);
    }

abbrev pub invariant-evaluation::arguments-loop-part : goal.invariant-evaluation::arguments-loop-part
invariant-evaluation::arguments-loop-part g l =
    let old = g.W.TreeSource.forest l.fn.world in
    let now = g.W.TreeSource.forest l.world in
    let frame = frame_at old l.frame in
    record {
      goes : Goes old now (g.W.TreeSource.is_clean l.fn.world) (g.W.TreeSource.is_clean l.world);
      turns : Turns tuple_at TupleIn (one_more (λ (part : Meaning). part frame)) (FrameIn old l.frame × TupleIn old (lists_of l.fn.done)) (g.W.TreeSource.is_clean l.world) (lists_of l.lists) (map plan_mean (drop l.part-index l.parts)) now (in_turn (one_more (λ (part : Meaning). part frame)) (tuple_at old (lists_of l.fn.done)) (map plan_mean l.parts) old);
      reads : g.W.TreeSource.is_clean l.world → FrameIn old l.frame → AllByRecursion IsLiteral l.parts → g.W.TreeSource.meter l.world ≡ g.W.TreeSource.meter l.fn.world;
    }

abbrev pub invariant-clauses::all_keys-loop-index : goal.invariant-clauses::all_keys-loop-index
invariant-clauses::all_keys-loop-index g l =
    let old = g.W.TreeSource.forest l.fn.world in
    let now = g.W.TreeSource.forest l.world in
    let frame = frame_at old l.frame in
    let inside = FrameIn old l.frame in
    let clean = g.W.TreeSource.is_clean l.world in
    let specs = order_specs l.specs in
    record {
      goes : Goes old now (g.W.TreeSource.is_clean l.fn.world) clean;
      turns : Turns same_tests any_tests (more (λ t. keys_at specs (meant_at frame t))) (inside × TuplesIn old l.tuples) clean (row_of l.done) (map (tuple_at old) (drop l.index l.tuples)) now (collected (λ t. keys_at specs (meant_at frame t)) (tuples_at old l.tuples) old);
      in_slots : take l.outer (values_of l.slots.items) ≡ values_of l.frame.slots.now;
    }

abbrev pub invariant-clauses::keys-loop-part : goal.invariant-clauses::keys-loop-part
invariant-clauses::keys-loop-part g l =
    let old = g.W.TreeSource.forest l.fn.world in
    let now = g.W.TreeSource.forest l.world in
    let frame = frame_at old l.frame in
    let clean = g.W.TreeSource.is_clean l.world in
    record {
      goes : Goes old now (g.W.TreeSource.is_clean l.fn.world) clean;
      turns : Turns same_tests any_tests (one_more (λ (part, modifier). Forms.atoms_of part frame)) (FrameIn old l.frame) clean (row_of l.keys) (order_specs (drop l.part-index l.specs)) now (in_turn (one_more (λ (part, modifier). Forms.atoms_of part frame)) (row_of l.fn.done) (order_specs l.specs) old);
    }

abbrev pub invariant-clauses::returned_each-loop-item : goal.invariant-clauses::returned_each-loop-item
invariant-clauses::returned_each-loop-item g l =
    let old = g.W.TreeSource.forest l.fn.world in
    let now = g.W.TreeSource.forest l.world in
    let frame = frame_at old l.frame in
    let inside = FrameIn old l.frame in
    let clean = g.W.TreeSource.is_clean l.world in
    let act = λ (x : Item). plan_mean l.part (meant_at frame ((x ∷ []) ∷ [])) in
    record {
      goes : Goes old now (g.W.TreeSource.is_clean l.fn.world) clean;
      turns : Turns items_at AreIn (more act) (inside × AreIn old (map item_view l.items)) clean (item_views l.found) (items_at old (map item_view (drop l.item-index l.items))) now (collected act (items_at old (map item_view l.items)) old);
      in_slots : take l.outer (values_of l.slots.items) ≡ values_of l.frame.slots.now;
    }

abbrev pub invariant-quantified::satisfied-turns : goal.invariant-quantified::satisfied-turns
invariant-quantified::satisfied-turns g l =
    let old = g.W.TreeSource.forest l.fn.world in
    let now = g.W.TreeSource.forest l.world in
    let frame = frame_at old l.frame in
    let clean = g.W.TreeSource.is_clean l.world in
    let stack = stack_of l.stack in
    let test = plan_mean l.test in
    let parts = map plan_mean l.ranges in
    record {
      goes : Goes old now (g.W.TreeSource.is_clean l.fn.world) clean;
      within : length l.stack.items ≤ length l.ranges;
      in_slots : values_of l.slots.items ≡ values_of l.frame.slots.now ++ map (take 1) stack;
      rest : clean → FrameIn old l.frame → TupleIn now stack × (resumed l.wanted test (holds l.wanted test) parts frame (tuple_at now stack) now ≡ holds l.wanted test parts frame old);
    }

abbrev pub decreases-quantified::satisfied-turns : goal.decreases-quantified::satisfied-turns
decreases-quantified::satisfied-turns g l = weigh (2 ^ 64) (all_weigh (2 ^ 64)) (length l.ranges) (stack_of l.stack)

-- # The recursion: a plan's depth, and at one depth who calls whom

abbrev pub decreases-evaluation::evaluate : goal.decreases-evaluation::evaluate
decreases-evaluation::evaluate g a = 8 * goal.size-evaluation::evaluate g a + 3

abbrev pub decreases-evaluation::sequence : goal.decreases-evaluation::sequence
decreases-evaluation::sequence g a = 8 * goal.size-evaluation::sequence g a + 5

abbrev pub decreases-evaluation::next_part : goal.decreases-evaluation::next_part
decreases-evaluation::next_part g a = 8 * goal.size-evaluation::next_part g a + 4

abbrev pub decreases-evaluation::next_called : goal.decreases-evaluation::next_called
decreases-evaluation::next_called g a = 8 * goal.size-evaluation::next_called g a + 7

abbrev pub decreases-evaluation::next_constructed : goal.decreases-evaluation::next_constructed
decreases-evaluation::next_constructed g a = 8 * max (size-Plan a.name.now) (size-Plan a.part.now) + 9

abbrev pub decreases-evaluation::chain : goal.decreases-evaluation::chain
decreases-evaluation::chain g a = 8 * goal.size-evaluation::chain g a + 5

abbrev pub decreases-evaluation::next_operand : goal.decreases-evaluation::next_operand
decreases-evaluation::next_operand g a = 8 * goal.size-evaluation::next_operand g a + 4

abbrev pub decreases-evaluation::decided : goal.decreases-evaluation::decided
decreases-evaluation::decided g a = 8 * goal.size-evaluation::decided g a + 5

abbrev pub decreases-evaluation::tested : goal.decreases-evaluation::tested
decreases-evaluation::tested g a = 8 * goal.size-evaluation::tested g a + 4

abbrev pub decreases-evaluation::filter : goal.decreases-evaluation::filter
decreases-evaluation::filter g a = 8 * goal.size-evaluation::filter g a + 6

abbrev pub decreases-evaluation::keep : goal.decreases-evaluation::keep
decreases-evaluation::keep g a = 8 * goal.size-evaluation::keep g a + 5

abbrev pub decreases-evaluation::pass : goal.decreases-evaluation::pass
decreases-evaluation::pass g a = 8 * goal.size-evaluation::pass g a + 4

abbrev pub decreases-evaluation::called : goal.decreases-evaluation::called
decreases-evaluation::called g a = 8 * goal.size-evaluation::called g a + 6

abbrev pub decreases-evaluation::call_value : goal.decreases-evaluation::call_value
decreases-evaluation::call_value g a = 8 * goal.size-evaluation::call_value g a + 7

abbrev pub decreases-evaluation::call_list : goal.decreases-evaluation::call_list
decreases-evaluation::call_list g a = 8 * goal.size-evaluation::call_list g a + 7

abbrev pub decreases-evaluation::next_call : goal.decreases-evaluation::next_call
decreases-evaluation::next_call g a = 8 * goal.size-evaluation::next_call g a + 6

abbrev pub decreases-evaluation::arguments : goal.decreases-evaluation::arguments
decreases-evaluation::arguments g a = 8 * goal.size-evaluation::arguments g a + 5

abbrev pub decreases-evaluation::next_argument : goal.decreases-evaluation::next_argument
decreases-evaluation::next_argument g a = 8 * goal.size-evaluation::next_argument g a + 4

abbrev pub decreases-paths::step_list : goal.decreases-paths::step_list
decreases-paths::step_list g a = 8 * goal.size-paths::step_list g a + 8

abbrev pub decreases-paths::later_steps : goal.decreases-paths::later_steps
decreases-paths::later_steps g a = 8 * goal.size-paths::later_steps g a + 7

abbrev pub decreases-paths::next_items : goal.decreases-paths::next_items
decreases-paths::next_items g a = 8 * goal.size-paths::next_items g a + 6

abbrev pub decreases-paths::after_slash : goal.decreases-paths::after_slash
decreases-paths::after_slash g a = 8 * goal.size-paths::after_slash g a + 7

abbrev pub decreases-paths::map_list : goal.decreases-paths::map_list
decreases-paths::map_list g a = 8 * goal.size-paths::map_list g a + 7

abbrev pub decreases-paths::each : goal.decreases-paths::each
decreases-paths::each g a = 8 * goal.size-paths::each g a + 6

abbrev pub decreases-paths::at_spot : goal.decreases-paths::at_spot
decreases-paths::at_spot g a = 8 * goal.size-paths::at_spot g a + 5

abbrev pub decreases-clauses::clause_list : goal.decreases-clauses::clause_list
decreases-clauses::clause_list g a = 8 * goal.size-clauses::clause_list g a + 8

abbrev pub decreases-clauses::join_tuples : goal.decreases-clauses::join_tuples
decreases-clauses::join_tuples g a = 8 * goal.size-clauses::join_tuples g a + 7

abbrev pub decreases-clauses::later_ranges : goal.decreases-clauses::later_ranges
decreases-clauses::later_ranges g a = 8 * goal.size-clauses::later_ranges g a + 6

abbrev pub decreases-groups::group_lists : goal.decreases-groups::group_lists
decreases-groups::group_lists g a = 8 * goal.size-groups::group_lists g a + 7

abbrev pub decreases-groups::later_groups : goal.decreases-groups::later_groups
decreases-groups::later_groups g a = 8 * goal.size-groups::later_groups g a + 6

abbrev pub decreases-groups::next_group : goal.decreases-groups::next_group
decreases-groups::next_group g a = 8 * goal.size-groups::next_group g a + 5

abbrev pub decreases-clauses::next_tuples : goal.decreases-clauses::next_tuples
decreases-clauses::next_tuples g a = 8 * goal.size-clauses::next_tuples g a + 7

abbrev pub decreases-clauses::values : goal.decreases-clauses::values
decreases-clauses::values g a = 8 * goal.size-clauses::values g a + 6

abbrev pub decreases-clauses::next_value : goal.decreases-clauses::next_value
decreases-clauses::next_value g a = 8 * goal.size-clauses::next_value g a + 5

abbrev pub decreases-clauses::returned : goal.decreases-clauses::returned
decreases-clauses::returned g a = 8 * goal.size-clauses::returned g a + 6

abbrev pub decreases-clauses::next_returned : goal.decreases-clauses::next_returned
decreases-clauses::next_returned g a = 8 * goal.size-clauses::next_returned g a + 5

abbrev pub decreases-clauses::tests : goal.decreases-clauses::tests
decreases-clauses::tests g a = 8 * goal.size-clauses::tests g a + 6

abbrev pub decreases-clauses::next_test : goal.decreases-clauses::next_test
decreases-clauses::next_test g a = 8 * goal.size-clauses::next_test g a + 5

abbrev pub decreases-clauses::at_tuple : goal.decreases-clauses::at_tuple
decreases-clauses::at_tuple g a = 8 * goal.size-clauses::at_tuple g a + 4

abbrev pub decreases-clauses::returned_each : goal.decreases-clauses::returned_each
decreases-clauses::returned_each g a = 8 * goal.size-clauses::returned_each g a + 6

abbrev pub decreases-clauses::all_keys : goal.decreases-clauses::all_keys
decreases-clauses::all_keys g a = 8 * goal.size-clauses::all_keys g a + 8

abbrev pub decreases-clauses::next_keys : goal.decreases-clauses::next_keys
decreases-clauses::next_keys g a = 8 * goal.size-clauses::next_keys g a + 7

abbrev pub decreases-clauses::keys : goal.decreases-clauses::keys
decreases-clauses::keys g a = 8 * goal.size-clauses::keys g a + 6

abbrev pub decreases-clauses::next_key : goal.decreases-clauses::next_key
decreases-clauses::next_key g a = 8 * goal.size-clauses::next_key g a + 5

abbrev pub decreases-clauses::key_of : goal.decreases-clauses::key_of
decreases-clauses::key_of g a = 8 * goal.size-clauses::key_of g a + 4

abbrev pub decreases-quantified::satisfied : goal.decreases-quantified::satisfied
decreases-quantified::satisfied g a = 8 * goal.size-quantified::satisfied g a + 1

abbrev pub decreases-quantified::turn : goal.decreases-quantified::turn
decreases-quantified::turn g a = 8 * goal.size-quantified::turn g a

-- the size of the greatest part, of a form that has several

abbrev pub decreases-expressions::operands : goal.decreases-expressions::operands
decreases-expressions::operands g a = 8 * max (size-Plan a.first.now) (most (λ (o : Operator × Plan). max 0 (max (size-Plan o.1) 0)) a.rest.now) + 9

abbrev pub decreases-expressions::signed : goal.decreases-expressions::signed
decreases-expressions::signed g a = 8 * goal.size-expressions::signed g a + 9

abbrev pub decreases-expressions::conditional : goal.decreases-expressions::conditional
decreases-expressions::conditional g a = 8 * max (size-Plan a.test.now) (max (size-Plan a.yes.now) (size-Plan a.no.now)) + 9

abbrev pub decreases-expressions::logical : goal.decreases-expressions::logical
decreases-expressions::logical g a = 8 * goal.size-expressions::logical g a + 9

abbrev pub decreases-expressions::filtered : goal.decreases-expressions::filtered
decreases-expressions::filtered g a = 8 * max (size-Plan a.start.now) (most size-Plan a.predicates.now) + 9

abbrev pub decreases-expressions::flwor : goal.decreases-expressions::flwor
decreases-expressions::flwor g a = 8 * max (most size-PlanClause a.clauses.now) (size-Plan a.part.now) + 9

abbrev pub decreases-expressions::path : goal.decreases-expressions::path
decreases-expressions::path g a = 8 * max (size-Plan a.start.now) (most size-PlanStep a.steps.now) + 9

abbrev pub decreases-expressions::axis_step : goal.decreases-expressions::axis_step
decreases-expressions::axis_step g a = 8 * goal.size-expressions::axis_step g a + 9

abbrev pub decreases-expressions::named_node : goal.decreases-expressions::named_node
decreases-expressions::named_node g a = 8 * max (size-Plan a.name.now) (size-Plan a.part.now) + 9

abbrev pub decreases-expressions::constructed : goal.decreases-expressions::constructed
decreases-expressions::constructed g a = 8 * max (size-Plan a.name.now) (size-Plan a.part.now) + 8

abbrev pub decreases-expressions::literally_named : goal.decreases-expressions::literally_named
decreases-expressions::literally_named g a = 8 * goal.size-expressions::literally_named g a + 5

abbrev pub decreases-expressions::with_content : goal.decreases-expressions::with_content
decreases-expressions::with_content g a = 8 * goal.size-expressions::with_content g a + 4

abbrev pub decreases-expressions::unnamed_node : goal.decreases-expressions::unnamed_node
decreases-expressions::unnamed_node g a = 8 * goal.size-expressions::unnamed_node g a + 9

abbrev pub decreases-expressions::arrow : goal.decreases-expressions::arrow
decreases-expressions::arrow g a = 8 * max (size-Plan a.first.now) (most (λ (o : Function × List Plan). max 0 (max (most size-Plan o.1) 0)) a.calls.now) + 9

abbrev pub decreases-expressions::simple_map : goal.decreases-expressions::simple_map
decreases-expressions::simple_map g a = 8 * max (size-Plan a.start.now) (most size-Plan a.parts.now) + 9

abbrev pub decreases-expressions::quantified : goal.decreases-expressions::quantified
decreases-expressions::quantified g a = 8 * goal.size-expressions::quantified g a + 2
