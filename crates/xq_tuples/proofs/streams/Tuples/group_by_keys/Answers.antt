use Rattle.std.proofs.Common.{◌≡◌, ◌*◌, Ok, Err, None, map, length, refl, ap, sym, ◌∙◌, arith}
use Rattle.std.specs.Prelude.{if◌then◌else◌}
use Rattle.std.specs.List.{flat_map, zip}
use Rattle.std.proofs.lemmas.List.{length-map}
use Rattle.std.proofs.lemmas.Result.{err_from_is_err_and}
use Rattle.xq_atoms.specs.declared.refusals.Code.TheVariants.{XPTY0004}
use Rattle.xq_trees.specs.Tuples.{grouped_tuple, groups, same_keys, key_rows, key_value}
use Rattle.xq_trees.specs.Items.{Value}
use Rattle.xq_tuples.specs.Keys.{by_tuple, rows_in}
use Rattle.xq_tuples.specs.Views.{slot_items, values_of}
use Rattle.xq_tuples.specs.private.KeyRows.{keys_of}
use Rattle.xq_tuples.specs.private.Groups.{group_of, all_keyed}
use Rattle.xq_tuples.proofs.Arranging.{joined_stand}
use Rattle.xq_tuples.proofs.Columns.{keyed_rows, keys_as_long}
use Rattle.xq_tuples.proofs.Laid.{Stands, all_wide, counted}
use Rattle.xq_tuples.proofs.Refusals.{IsRefusal-judged}
use Rattle.xq_tuples.proofs.streams.Tuples.group_by_keys.Goals as goal
use Rattle.xq_tuples.proofs.streams.Tuples.group_by_keys.Goals.{In_ok-made}

pub returns-in_err-held-clause-refused : goal.returns-in_err-held-clause-refused
returns-in_err-held-clause-refused c =
    let p = err_from_is_err_and c.from_residual.result c.from_residual.ensures.1 in
    rw (p.1, p.2) (IsRefusal-judged _ _ _ c.in_err-held.ensures.refused)

-- the slots are those of the groups' tuples
stood : (c : In_ok-made) → Stands (length c.in_ok-groups.groups.items) c.self.inside.width (values_of c.in_ok-made.made.items) (map (grouped_tuple Value c.args.slots.now) (groups same_keys (zip c.args.self (key_rows c.args.self (map (map key_value) (rows_in c.args.keys))))))
stood c =
    let self = c.args.self in
    let i = c.self.inside in
    let slots = values_of i.slots.items in
    let judged = rows_in c.args.keys in
    let keys = map (map key_value) judged in
    let held = c.in_ok-held.held.items in
    let columns = c.as_slice-columns.result.now in
    let wide = all_wide i.count i.width slots self c.self.view_is (length-map i.slots.items slot_items ∙ c.self.invariant.long) in
    let of_groups = c.in_ok-groups.ensures.groups self (counted i.count i.width slots self c.self.view_is) ∙ (λ t. groups same_keys (all_keyed (c.as_slice-columns.ensures.value t) self))
    ∙ ap (groups same_keys) (keyed_rows None keys_of self held keys c.in_ok-held.ensures.keys (keys_as_long key_value (length self) judged c.requires.keys)) in
    let laid_as = c.in_ok-made.ensures.slots ∙ ap (flat_map (λ group. grouped_tuple Value c.args.slots.now (group_of columns self group))) c.deref.ensures.value in
    joined_stand c.args.slots.now columns self i.width (length c.in_ok-groups.groups.items) (values_of c.in_ok-made.made.items) c.in_ok-groups.groups.items (key_rows self keys) wide of_groups laid_as refl

pub of_slots-requires : goal.of_slots-requires
of_slots-requires c =
    let made = (goal.at.of_slots-requires c).In_ok-made in
    let groups = c.in_ok-groups.groups in
    let count : c.len.result ≡ length groups.items = c.len.ensures ∙ groups.ok.0 in
    record {
      long = sym (length-map c.in_ok-made.made.items slot_items) ∙ (stood made).long ∙ ap (λ n. n * c.self.inside.width) (sym count);
      few = omega (arith, c.len.ensures, groups.ok.1, groups.small);
    }

pub returns-clause-stream : goal.returns-clause-stream
returns-clause-stream c =
    let self = c.args.self in
    let made = (goal.at.returns-clause-stream c).In_ok-made in
    let gathered = c.in_ok-groups.groups in
    let count : c.len.result ≡ length gathered.items = c.len.ensures ∙ gathered.ok.0 in
    let all = c.of_slots.ensures ∙ ap (λ n. by_tuple n c.self.inside.width (values_of c.in_ok-made.made.items)) count ∙ (stood made).are in
    ap (λ b. if b then Ok (map (grouped_tuple Value c.args.slots.now) (groups same_keys (zip self (key_rows self (map (map key_value) (rows_in c.args.keys)))))) else Err XPTY0004) c.in_ok-held.ensures.are_keys ∙ ap Ok (sym all)
