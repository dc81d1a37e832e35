use Rattle.std.proofs.Common.{◌≡◌, rules, IsTrue}
use Rattle.std.proofs.lemmas.Int.{to_z-of_z}
use mir.Val.{of_z, to_z}
use mir.Syntax.{w64}
use Rattle.std.specs.Int.Signed.{lt_z}
use Rattle.xq_tables.proofs.Adopts.{past_of}
use Rattle.xq_tables.proofs.adopt.is_past.Goals as goal

pub returns-in-Some : goal.returns-in-Some
returns-in-Some c less =
    let low : to_z w64 (of_z w64 c.in-Some.last) ≡ c.in-Some.last = search (rules, to_z-of_z) in
    let high : to_z w64 (of_z w64 c.args.id) ≡ c.args.id = to_z-of_z w64 c.args.id c.ranges.id in
    let both : IsTrue (lt_z c.in-Some.last c.args.id) = rw (low, high) at less in
    past_of c.args.last c.in-Some.last c.args.id c.in-Some.is both
