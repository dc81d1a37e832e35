use Rattle.std.proofs.Common.{◌≡◌, length, sym, ap, subst, arith}
use Rattle.xq_packed.specs.Packed.{NoneNamed}
use Rattle.xq_packed.specs.Values.{named}
use Rattle.xq_packed.specs.Found.{AreByValue}
use Rattle.xq_packed.proofs.ValueRuns.{sorted-by-value, told-none, nothing-found}
use Rattle.xq_packed.proofs.value_places.ValuePlaces.find.Goals as goal
use Rattle.xq_packed.proofs.value_places.ValuePlaces.find.Goals.{In_ok-places}

pub returns-in_default-clause-found : goal.returns-in_default-clause-found
returns-in_default-clause-found c =
    let rows = c.args.rows.now.rows in
    let name = c.args.name.now in
    subst (AreByValue rows name) (sym c.new.ensures.items) (nothing-found rows name (told-none (NoneNamed rows name) c.number_of.result c.in_default.is c.number_of.ensures.none))

-- the places before they are sorted
named_places : (c : In_ok-places) → c.in_ok-places.places.items ≡ named c.args.rows.now.rows c.args.name.now
named_places c = c.in_ok-places.ensures.places c.args.name.now c.in-Some.ensures.number

pub returns-clause-found : goal.returns-clause-found
returns-clause-found c =
    sorted-by-value c.args.rows.now.rows c.args.name.now c.in_ok-places.places.items c.sort_by_value.new.places.items (named_places (goal.at.returns-clause-found c).In_ok-places) c.in_ok-sort_by_value.ensures.sorted c.sort_by_value.ensures.stable

pub returns-clause-within : goal.returns-clause-within
returns-clause-within c =
    omega (arith, c.sort_by_value.ensures.length, ap length (named_places (goal.at.returns-clause-within c).In_ok-places), c.count_named-count.ensures c.args.name.now c.in-Some.ensures.number, c.if-count-most.false)
