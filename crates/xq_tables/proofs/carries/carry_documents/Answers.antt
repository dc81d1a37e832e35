use Rattle.std.proofs.Common.{◌≡◌, ◌∙◌, refl, sym, subst, map, take, string_bytes, arith}
use Rattle.std.proofs.lemmas.List.{length-map, take_all}
use Rattle.sqlite.specs.State.{HasCleanDisk}
use Rattle.sqlite.specs.Held.{state}
use Rattle.xq_tables.specs.private.Carries.{CarriesSome}
use Rattle.xq_tables.proofs.Carrying.{at_place, carries_none, carries_then, one_further}
use Rattle.xq_tables.proofs.Creates.{kept_same}
use Rattle.xq_tables.proofs.Inserts.{kept_then}
use Rattle.xq_tables.proofs.carries.carry_documents.Goals as goal

pub loop-address-init : goal.loop-address-init
loop-address-init g c =
    let here = state g.S.Store c.args.transaction.now.conn.now in
    record {
      same_reference = refl;
      clean = omega arith;
      kept = λ clean. kept_same here;
      carried = λ clean. carries_none (map string_bytes c.args.addresses.now) here;
    }

pub loop-address-preserved : goal.loop-address-preserved
loop-address-preserved g c =
    let first = state g.S.Store c.args.transaction.now.conn.now in
    let mid = state g.S.Store c.loop-address.transaction.conn.now in
    let last = state g.S.Store c.carry_document.new.transaction.conn.now in
    let held = c.loop-address.invariant in
    let step = c.carry_document.ensures.inside in
    let xs = c.args.addresses.now in
    let all = map string_bytes xs in
    let i = c.loop-address.address-index in
    let x = c.address-item.result in
    record {
      same_reference = step.same_reference ∙ held.same_reference;
      clean = omega (arith, held.clean, step.clean);
      kept = λ clean.
          let early : HasCleanDisk mid = omega (arith, step.clean) in
          kept_then first mid last (held.kept early) (step.kept clean);
      carried = λ clean.
          let early : HasCleanDisk mid = omega (arith, step.clean) in
          let one = rw c.as_str.ensures.value at (c.in_ok-carry_document.ensures.carried clean) in
          subst (λ l. CarriesSome all l first last) (sym (one_further xs i x c.loop-address-test.true (sym c.address-item.is))) (carries_then all i (string_bytes x) first mid last (at_place xs i x c.loop-address-test.true (sym c.address-item.is)) (held.carried early) one);
    }

pub returns-clause-carried : goal.returns-clause-carried
returns-clause-carried g c clean =
    let first = state g.S.Store c.args.transaction.now.conn.now in
    let last = state g.S.Store c.loop-address.transaction.conn.now in
    let all = map string_bytes c.args.addresses.now in
    let i = c.loop-address.address-index in
    let whole : take i all ≡ all = take_all i all (let n = length-map c.args.addresses.now string_bytes in omega (arith, n, c.loop-address-test.false)) in
    subst (λ l. CarriesSome all l first last) whole (c.loop-address.invariant.carried clean)
