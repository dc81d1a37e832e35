use Rattle.std.proofs.Common.{◌≡◌, ◌+◌, [], map, length, get_or, ap, sym, subst, ◌∙◌, arith, rules}
use Rattle.std.specs.List.{range_with_len}
use Rattle.std.proofs.lemmas.List.FromFn.{map-range_with_len_more}
use Rattle.xq_trees.specs.Tuples.{groups, same_keys}
use Rattle.xq_tuples.specs.private.KeyRows.{keys_at}
use Rattle.xq_tuples.specs.private.Groups.{Gathers, keyed_of}
use Rattle.xq_tuples.proofs.Lists.{by_number}
use Rattle.xq_tuples.proofs.groups.gather.Goals as goal

pub loop-number-init : goal.loop-number-init
loop-number-init c = record {
  gathers = λ stream. record { keys = search rules; groups = search rules };
  long = search rules;
}

pub loop-number-preserved : goal.loop-number-preserved
loop-number-preserved c =
    let columns = c.args.columns.now in
    let n = c.loop-number.number in
    record {
      gathers = λ stream. subst (λ rows. Gathers columns stream rows c.place.new.seen.keys c.place.new.groups.items) (sym (map-range_with_len_more (keyed_of columns stream) 0 n n (omega arith))) (c.in_ok-place.ensures.placed stream (map (keyed_of columns stream) (range_with_len 0 n)) (c.loop-number.invariant.gathers stream));
      long = c.in_ok-place.ensures.long;
    }

pub returns-clause-groups : goal.returns-clause-groups
returns-clause-groups c = λ stream long.
    let columns = c.args.columns.now in
    let ended : c.loop-number.number ≡ length stream = omega (arith, c.loop-number.auto.number-end, c.loop-number-test.false, long) in
    (c.loop-number.invariant.gathers stream).groups
    ∙ ap (groups same_keys) (ap (λ n. map (keyed_of columns stream) (range_with_len 0 n)) ended ∙ by_number (λ n. keys_at n columns) [] stream 0 stream (λ i l. (let z : 0 + i ≡ i = omega arith in ap (λ k. get_or stream k []) z)))
