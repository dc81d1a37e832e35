use Rattle.std.proofs.Common.{◌≡◌, ◌*◌, [], Ok, Err, map, length, get_or, refl, ap, sym, ◌∙◌, arith}
use Rattle.std.specs.Prelude.{if◌then◌else◌}
use Rattle.std.specs.List.{flat_map, range_with_len, zip}
use Rattle.std.proofs.lemmas.List.{length-map}
use Rattle.std.proofs.lemmas.Result.{err_from_is_err_and}
use Rattle.xq_atoms.specs.declared.refusals.Code.TheVariants.{XPTY0004}
use Rattle.xq_atoms.specs.Compare.{Nothing}
use Rattle.xq_trees.specs.Tuples.{sorted, key_rows, comparison_key, key_value, sort_keys}
use Rattle.xq_tuples.specs.Keys.{by_tuple, rows_in}
use Rattle.xq_tuples.specs.Views.{slot_items, values_of}
use Rattle.xq_tuples.specs.private.Groups.{compared_of}
use Rattle.xq_tuples.specs.private.Ranks.{by_keys, by_keys_at, with_keys}
use Rattle.xq_tuples.proofs.Arranging.{arranged_stand}
use Rattle.xq_tuples.proofs.Columns.{keyed_rows, keys_as_long}
use Rattle.xq_tuples.proofs.Laid.{Stands, all_wide, counted}
use Rattle.xq_tuples.proofs.Refusals.{IsRefusal-judged}
use Rattle.xq_tuples.proofs.streams.Tuples.order_by_columns.Goals as goal
use Rattle.xq_tuples.proofs.streams.Tuples.order_by_columns.Goals.{In_ok-slots}

pub returns-in_err-columns-clause-refused : goal.returns-in_err-columns-clause-refused
returns-in_err-columns-clause-refused c =
    let p = err_from_is_err_and c.from_residual.result c.from_residual.ensures.1 in
    rw (p.1, p.2) (IsRefusal-judged _ _ _ c.in_err-columns.ensures.refused)

-- the slots are those of the sorted tuples
stood : (c : In_ok-slots) → Stands (length c.in_ok-numbers.numbers.items) c.self.inside.width (values_of c.in_ok-slots.slots.items) (map (λ p. p.0) (sorted (by_keys c.args.specs.now) (with_keys c.in_ok-columns.columns.items c.args.self)))
stood c =
    let i = c.self.inside in
    let slots = values_of i.slots.items in
    let long = length-map i.slots.items slot_items ∙ c.self.invariant.long in
    let numbers = c.in_ok-numbers.ensures.numbers ∙ ap (λ held. sorted (by_keys_at c.args.specs.now held) (range_with_len 0 i.count)) c.deref.ensures.value in
    let laid_as = c.in_ok-slots.ensures.slots ∙ ap (flat_map (λ n. get_or c.args.self n [])) c.deref-2.ensures.value in
    arranged_stand c.args.specs.now c.in_ok-columns.columns.items c.args.self i.width (length c.in_ok-numbers.numbers.items) i.count (values_of c.in_ok-slots.slots.items) c.in_ok-numbers.numbers.items
    (all_wide i.count i.width slots c.args.self c.self.view_is long) (sym (counted i.count i.width slots c.args.self c.self.view_is)) numbers laid_as refl

pub of_slots-requires : goal.of_slots-requires
of_slots-requires c =
    let made = (goal.at.of_slots-requires c).In_ok-slots in
    let numbers = c.in_ok-numbers.numbers in
    let count : c.len.result ≡ length numbers.items = c.len.ensures ∙ numbers.ok.0 in
    record {
      long = sym (length-map c.in_ok-slots.slots.items slot_items) ∙ (stood made).long ∙ ap (λ n. n * c.self.inside.width) (sym count);
      few = omega (arith, c.len.ensures, numbers.ok.1, numbers.small);
    }

pub returns-clause-stream : goal.returns-clause-stream
returns-clause-stream c =
    let self = c.args.self in
    let specs = c.args.specs.now in
    let keys = rows_in c.args.keys in
    let held = c.in_ok-columns.columns.items in
    let made = (goal.at.returns-clause-stream c).In_ok-slots in
    let numbers = c.in_ok-numbers.numbers in
    let count : c.len.result ≡ length numbers.items = c.len.ensures ∙ numbers.ok.0 in
    let long = keys_as_long (λ values. comparison_key (key_value values)) (length self) keys c.requires in
    let all = c.of_slots.ensures ∙ ap (λ n. by_tuple n c.self.inside.width (values_of c.in_ok-slots.slots.items)) count ∙ (stood made).are
    ∙ ap (λ rows. map (λ p. p.0) (sorted (by_keys specs) rows)) (keyed_rows Nothing compared_of self held (map sort_keys keys) c.in_ok-columns.ensures.keys long) in
    ap (λ b. if b then Ok (map (λ p. p.0) (sorted (by_keys specs) (zip self (key_rows self (map sort_keys keys))))) else Err XPTY0004) c.in_ok-columns.ensures.can_order ∙ ap Ok (sym all)
