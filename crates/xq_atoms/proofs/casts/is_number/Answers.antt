use Rattle.std.proofs.Common.{◌≡◌, not, ◌&&◌, false, sym, ◌∙◌, ap}
use Rattle.std.proofs.lemmas.Bool.{false≢true}
use Rattle.xq_atoms.specs.Text.{is_empty}
use Rattle.xq_atoms.proofs.TextLemmas.{is_number-from_parts, is_empty-length, and-false}
use Rattle.xq_atoms.proofs.casts.is_number.Goals as goal
use Rattle.xq_atoms.proofs.casts.is_number.Goals.{then-is_empty, else-is_empty, then-not-is_empty, else-not-is_empty}

pub returns-then-are_digits : goal.returns-then-are_digits
returns-then-are_digits c =
    let whole = c.split_at_point.result.0.now in
    let decimals = c.split_at_point.result.1.now in
    elim c.if-not-is_empty.branch [
      | then-not-is_empty w ↦
          let some : (is_empty whole && is_empty decimals) ≡ false = elim c.if-is_empty.branch [
            | then-is_empty v ↦ and-false (is_empty whole) (is_empty decimals) (sym (is_empty-length decimals) ∙ sym v.is_empty-then-is_empty.ensures ∙ sym v.value-is ∙ w.if-not-is_empty.true)
            | else-is_empty v ↦ ap (λ b. b && is_empty decimals) (sym (is_empty-length whole) ∙ sym c.is_empty.ensures ∙ v.if-is_empty.false)
          ] in
          c.are_digits-then-are_digits.ensures ∙ sym (is_number-from_parts c.args.text.now whole decimals c.split_at_point.ensures.whole c.split_at_point.ensures.decimals some (sym w.are_digits.ensures ∙ sym w.value-is ∙ c.if-are_digits.true))
      | else-not-is_empty w ↦ absurd (false≢true (sym (ap not w.if-not-is_empty.false) ∙ sym w.value-is ∙ c.if-are_digits.true))
    ]
