use Rattle.std.proofs.Common.{rules, ◌≡◌, ◌+◌, ◌-◌, ◌<◌, ap, ◌∙◌, sym, w64, to_z, of_z, Ok, arith}
use Rattle.std.specs.Prelude.{pos, nat_abs}
use Rattle.xq_atoms.specs.Atom.{Integer}
use Rattle.xq_meaning.specs.Arguments.{atomic}
use Rattle.xq_eval.proofs.Picking.{from_one}
use Rattle.xq_eval.proofs.at_hand.kept_index.Goals as goal

pub returns : goal.returns
returns c =
    let z = to_z w64 (of_z w64 c.in_ok-position.position) in
    let back : z ≡ c.in_ok-position.position = search rules in
    let whole : z ≡ pos (nat_abs z - 1 + 1) = from_one z c.if-position-lt1.false in
    let n : nat_abs z ≡ nat_abs z - 1 + 1 = ap nat_abs whole in
    let most = c.if-position-count.false in
    let within : nat_abs z - 1 < c.args.count = omega (arith, n, most) in (
      within,
      λ trees frame env. c.in_ok-position.ensures trees frame env ∙ ap (λ m. (Ok (atomic (Integer m)), trees)) (sym back ∙ whole),
    )
