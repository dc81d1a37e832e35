use Rattle.std.proofs.Common.{◌≡◌, sym, ap, ◌∙◌, ◌∷◌, [], ◌++◌, arith, false, string_bytes}
use Rattle.std.specs.Prelude.{encode_utf8}
use Rattle.std.proofs.lemmas.Str.{encode_ascii}
use Rattle.xq_functions.specs.private.Words.{continued}
use Rattle.xq_functions.proofs.WordLemmas.{continued-word, continued-gap}
use Rattle.xq_functions.proofs.words.push_character.Goals as goal
use Rattle.xq_functions.proofs.words.push_character.Goals.{then-is_apart-2+in_ok-push, else-is_apart-2}

pub returns-clause-words : goal.returns-clause-words
returns-clause-words c rest =
    let before = string_bytes c.args.words.now in
    let character = c.args.character in
    let word = sym c.is_space.ensures ∙ c.if-is_space.false in
    elim c.if-is_apart-2.branch [
      | then-is_apart-2+in_ok-push w ↦
          let space : string_bytes c.if-is_apart-2.words ≡ before ++ 32 ∷ [] = ap string_bytes w.words-is ∙ w.in_ok-push.ensures.bytes ∙ ap (λ t. before ++ t) (encode_ascii 32 (omega arith)) in
          let now : string_bytes c.push-2.new.self ≡ (before ++ 32 ∷ []) ++ encode_utf8 character = c.in_ok-push-2.ensures.bytes ∙ ap (λ t. t ++ encode_utf8 character) space in
          ap (λ t. t ++ continued false t rest) now ∙ continued-gap before character rest word ∙ ap (λ t. before ++ continued t before (encode_utf8 character ++ rest)) (sym w.if-is_apart-2.true)
      | else-is_apart-2 w ↦
          let now : string_bytes c.push-2.new.self ≡ before ++ encode_utf8 character = c.in_ok-push-2.ensures.bytes ∙ ap (λ t. string_bytes t ++ encode_utf8 character) w.words-is in
          ap (λ t. t ++ continued false t rest) now ∙ continued-word before character rest word ∙ ap (λ t. before ++ continued t before (encode_utf8 character ++ rest)) (sym w.if-is_apart-2.false)
    ]
