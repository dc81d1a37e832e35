use Rattle.std.proofs.Common.{◌≤◌, inl, inr, eqb-true, map, take, ◌++◌, sym, ap, subst, ◌∙◌, arith}
use Rattle.std.specs.List.{enumerate_from}
use Rattle.xq_trees.specs.Rows.{row_of}
use Rattle.xq_store.specs.private.Shelves.{IsFront}
use Rattle.std.proofs.lemmas.List.FromFn.{length-enumerate_from}
use Rattle.xq_store.proofs.Keeping.{leaves_refl, leaves_then}
use Rattle.xq_store.proofs.FrontLaws.{packed_more, packed_some, packed_all, empty_items}
use Rattle.xq_store.proofs.fronts.read_rows.Goals as goal

pub loop-alloc-init : goal.loop-alloc-init
loop-alloc-init g c = record {
  was_clean = λ clean. clean;
  was_open = λ clean opened. opened;
  same = λ clean m stands. stands;
  front = λ clean m stands t has front. front;
  alone = leaves_refl g.S.Store c.args.store.now;
}

pub loop-alloc-preserved : goal.loop-alloc-preserved
loop-alloc-preserved g c =
    let so_far = c.loop-alloc.invariant in
    let read = c.read_between.ensures in
    record {
      alone = leaves_then g.S.Store c.args.store.now c.loop-alloc.store c.read_between.new.self so_far.alone read.alone;
      was_clean = λ clean. so_far.was_clean (read.was_clean clean);
      was_open = λ clean opened. so_far.was_open (read.was_clean clean) (read.was_open clean opened);
      same = λ clean m stands. read.same clean m (so_far.same (read.was_clean clean) m stands);
      front = λ clean m stands t has front. (
          let early = read.was_clean clean in
          let kept = so_far.front early m stands t has front in
          let are = c.in_ok-found.ensures.found clean m (so_far.same early m stands) t has in
          let past : c.len-low.result ≤ c.saturating_add-high.result = omega (arith, c.saturating_add-high.ensures, c.len-low.ensures.rows, c.loop-alloc-test.true, c.ranges.place.fits) in
          subst (λ rs. IsFront t (enumerate_from 0 rs)) (sym (c.in_ok-extend.ensures.all.rows ∙ ap (λ xs. c.loop-alloc.rows.rows ++ map row_of xs) c.deref.ensures.value)) (packed_more t c.loop-alloc.rows.rows kept c.len-low.result c.saturating_add-high.result c.in_ok-found.found.items c.len-low.ensures.rows past are));
    }

pub returns-then-is_empty-clause-reaches : goal.returns-then-is_empty-clause-reaches
returns-then-is_empty-clause-reaches g c = λ clean m stands t has front.
    let so_far = c.loop-alloc.invariant in
    let read = c.read_between.ensures in
    let early = read.was_clean clean in
    let kept = so_far.front early m stands t has front in
    let are = c.in_ok-found.ensures.found clean m (so_far.same early m stands) t has in
    let past : c.len-low.result ≤ c.saturating_add-high.result = omega (arith, c.saturating_add-high.ensures, c.len-low.ensures.rows, c.loop-alloc-test.true, c.ranges.place.fits) in
    inr (packed_all t c.loop-alloc.rows.rows kept c.len-low.result c.saturating_add-high.result c.in_ok-found.found.items c.len-low.ensures.rows past are (empty_items c.in_ok-found.found.items (eqb-true _ 0 (sym c.is_empty.ensures ∙ c.if-is_empty.true)) c.in_ok-found.found.ok.0))

pub returns-in_err-found-clause-alone : goal.returns-in_err-found-clause-alone
returns-in_err-found-clause-alone g c = leaves_then g.S.Store c.args.store.now c.loop-alloc.store c.read_between.new.self c.loop-alloc.invariant.alone c.read_between.ensures.alone

pub returns-then-is_empty-clause-alone : goal.returns-then-is_empty-clause-alone
returns-then-is_empty-clause-alone g c = leaves_then g.S.Store c.args.store.now c.loop-alloc.store c.read_between.new.self c.loop-alloc.invariant.alone c.read_between.ensures.alone

pub returns-in_err-extend-clause-alone : goal.returns-in_err-extend-clause-alone
returns-in_err-extend-clause-alone g c = leaves_then g.S.Store c.args.store.now c.loop-alloc.store c.read_between.new.self c.loop-alloc.invariant.alone c.read_between.ensures.alone

pub returns-clause-alone : goal.returns-clause-alone
returns-clause-alone g c = c.loop-alloc.invariant.alone

pub returns-in_err-extend-clause-front : goal.returns-in_err-extend-clause-front
returns-in_err-extend-clause-front g c = λ clean m stands t has front.
    let so_far = c.loop-alloc.invariant in
    let read = c.read_between.ensures in
    let early = read.was_clean clean in
    let kept = so_far.front early m stands t has front in
    let are = c.in_ok-found.ensures.found clean m (so_far.same early m stands) t has in
    let past : c.len-low.result ≤ c.saturating_add-high.result = omega (arith, c.saturating_add-high.ensures, c.len-low.ensures.rows, c.loop-alloc-test.true, c.ranges.place.fits) in
    let some = c.in_err-extend.ensures.some in
    subst (λ rs. IsFront t (enumerate_from 0 rs)) (sym (some.1.rows ∙ ap (λ xs. c.loop-alloc.rows.rows ++ map row_of (take some.0 xs)) c.deref.ensures.value))
    (packed_some t c.loop-alloc.rows.rows c.in_ok-found.found.items some.0 (packed_more t c.loop-alloc.rows.rows kept c.len-low.result c.saturating_add-high.result c.in_ok-found.found.items c.len-low.ensures.rows past are))

pub returns-clause-reaches : goal.returns-clause-reaches
returns-clause-reaches g c = λ clean m stands t has front.
    inl (omega (arith, c.loop-alloc-test.false, c.len.ensures.rows, length-enumerate_from 0 c.loop-alloc.rows.rows))
