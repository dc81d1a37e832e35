use Rattle.std.proofs.Common.{◌≡◌, ◌∙◌, ℕ, ◌+◌, pos, int_lt, ltb, rules}
use Rattle.xq_functions.proofs.PositionLemmas.{from_position-is}
use Rattle.xq_functions.proofs.positions.from_position.Goals as goal

pub returns : goal.returns
returns c =
    let below : (index : ℕ) → int_lt (pos (index + 1)) c.args.first ≡ ltb index c.positions_below.result = λ index. search (rules, c.positions_below.ensures index) in
    c.after_characters.ensures ∙ from_position-is c.args.first c.args.text.now c.positions_below.result below
