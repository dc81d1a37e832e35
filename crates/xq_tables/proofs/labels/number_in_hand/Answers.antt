use Rattle.std.proofs.Common.{◌∙◌, string_bytes, string_eq, sym, ap}
use Rattle.std.specs.Option.{option_copied}
use Rattle.sqlite.specs.Held.{state}
use Rattle.xq_tables.proofs.Numbers.{in_hand, put_in_hand, same_texts}
use Rattle.xq_tables.proofs.labels.number_in_hand.Goals as goal

pub returns-in-Some-clause-numbered : goal.returns-in-Some-clause-numbered
returns-in-Some-clause-numbered g c clean =
    let here = state g.S.Store c.args.transaction.now.conn.now in
    let found = sym c.get.ensures.value ∙ ap option_copied c.in-Some.is in
    in_hand c.args.names.now.entries c.args.name.now c.in-Some.number.now here found

pub returns-clause-numbered : goal.returns-clause-numbered
returns-clause-numbered g c clean =
    let old = state g.S.Store c.args.transaction.now.conn.now in
    let new = state g.S.Store c.number_of_name.new.transaction.conn.now in
    let numbered = c.in_ok-number.ensures.numbered clean in
    rw c.in_ok-insert.ensures.entries (put_in_hand string_eq (λ a b. same_texts (string_bytes a) (string_bytes b)) c.args.names.now.entries c.in_ok-own.own c.args.name.now c.in_ok-number.number c.in_ok-own.ensures.ok old new numbered)
