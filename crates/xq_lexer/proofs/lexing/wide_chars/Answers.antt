use Rattle.std.proofs.Common.{◌≡◌, ℕ, List, ◌++◌, sym, ap, ◌∙◌, encode_utf8_all}
use Rattle.std.specs.Str.{chars as chars_of}
use Rattle.std.proofs.lemmas.Str.{Chars-Drains, encodes-chars}
use Rattle.xq_lexer.proofs.lexing.wide_chars.Goals as goal

pub returns : goal.returns
returns c =
    let text = c.args.text.now in
    let ran = c.in_ok-extend.ensures.ran in
    let spelled : encode_utf8_all (chars_of text) ≡ ran.0.rest.now = encodes-chars text c.utf8.text ∙ sym (ap (λ s. s.rest.now) ran.2 ∙ c.chars.ensures.rest) in
    ran.3.0 ∙ ap (λ (begun : List ℕ). begun ++ ran.1) c.in_ok-chars.ensures.items ∙ Chars-Drains (chars_of text) ran.1 ran.0 spelled ran.4
