use Rattle.std.proofs.Common.{◌≡◌, ◌∙◌, ◌-◌, ◌+ℤ◌, ℕ, ◌+◌, pos, int_lt, ltb, rules, ap, take}
use Rattle.std.specs.Prelude.{encode_utf8_all}
use Rattle.std.specs.Str.{chars}
use Rattle.xq_functions.proofs.PositionLemmas.{between_positions-is, chars-drop}
use Rattle.xq_functions.proofs.positions.between_positions.Goals as goal

pub returns : goal.returns
returns c =
    let text = c.args.text.now in
    let start = c.positions_below-start.result in
    let end = c.positions_below-end.result in
    let below : (index : ℕ) → int_lt (pos (index + 1)) c.args.first ≡ ltb index start = λ index. search (rules, c.positions_below-start.ensures index) in
    let above : (index : ℕ) → int_lt (pos (index + 1)) (c.args.first +ℤ c.args.length) ≡ ltb index end = λ index. search (rules, c.positions_below-end.ensures index) in
    c.before_characters.ensures ∙ ap (λ n. encode_utf8_all (take n (chars c.after_characters.result.now))) c.saturating_sub.ensures
    ∙ ap (λ cs. encode_utf8_all (take (end - start) cs)) (ap chars c.after_characters.ensures ∙ chars-drop start text c.utf8.text)
    ∙ between_positions-is c.args.first c.args.length text start end below above
