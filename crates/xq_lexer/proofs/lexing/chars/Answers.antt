use Rattle.std.proofs.Common.{ℕ, List, length, sym, ap, ◌∙◌, arith, IsAscii, encode_utf8_all}
use Rattle.std.proofs.lemmas.Str.{chars-IsAscii, encodes-chars}
use Rattle.xq_lexer.proofs.lexing.chars.Goals as goal
use Rattle.xq_lexer.proofs.lexing.chars.Goals.{then-is_ascii+in_ok-chars, else-is_ascii+in_ok-chars-2}

pub returns-clause-chars : goal.returns-clause-chars
returns-clause-chars c =
    let text = c.args.text.now in
    elim c.if-is_ascii.branch [
      | then-is_ascii+in_ok-chars w ↦
          let ascii : IsAscii text = rw w.if-is_ascii.true at c.is_ascii.ensures.cases in
          ap (λ v. v.items) w.chars-is ∙ w.in_ok-chars.ensures ∙ w.as_bytes.ensures.value ∙ sym (chars-IsAscii text ascii)
      | else-is_ascii+in_ok-chars-2 w ↦ ap (λ v. v.items) w.chars-is ∙ w.in_ok-chars-2.ensures
    ]

pub returns-clause-spelled : goal.returns-clause-spelled
returns-clause-spelled c = sym (ap encode_utf8_all (returns-clause-chars c) ∙ encodes-chars c.args.text.now c.utf8.text)

pub returns-clause-short : goal.returns-clause-short
returns-clause-short c =
    let e = ap (λ (bs : List ℕ). length bs) (returns-clause-spelled c) in
    omega (arith, e)
