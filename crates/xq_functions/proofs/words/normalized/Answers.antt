use Rattle.std.proofs.Common.{◌≡◌, sym, ap, ◌∙◌, ◌∷◌, [], ◌++◌, string_bytes, append-nil, append_assoc, map-id}
use Rattle.std.specs.Prelude.{encode_utf8, encode_utf8_all}
use Rattle.std.proofs.lemmas.Str.{encodes-append, encodes-chars}
use Rattle.std.proofs.lemmas.Iterator.{YieldsList-from_chars}
use Rattle.std.proofs.lemmas.Iterator.Consumers.{YieldsList-end}
use Rattle.xq_meaning.specs.Texts.{normalized}
use Rattle.xq_functions.proofs.WordLemmas.{continued-nil}
use Rattle.xq_functions.proofs.words.normalized.Goals as goal

pub loop-character-preserved : goal.loop-character-preserved
loop-character-preserved c rest =
    let before = c.loop-character.yielded in
    let character = c.in-Some.character in
    c.in_ok-is_apart.ensures.words rest ∙ c.loop-character.invariant (encode_utf8 character ++ rest)
    ∙ ap normalized (sym (append_assoc (encode_utf8_all before) (encode_utf8 character) rest)
    ∙ ap (λ t. (encode_utf8_all before ++ t) ++ rest) (sym (append-nil (encode_utf8 character)))
    ∙ ap (λ t. t ++ rest) (sym (encodes-append before (character ∷ []))))

pub returns-clause-text : goal.returns-clause-text
returns-clause-text c =
    let text = c.args.text.now in
    let ended = YieldsList-end (YieldsList-from_chars text c.utf8.text cc) c.loop-character.yielded _ c.loop-character.yielded_by _ _ c.in-None.is c.next.ensures.steps in
    let read : encode_utf8_all c.loop-character.yielded ≡ text = ap encode_utf8_all (sym (map-id c.loop-character.yielded) ∙ ended.0) ∙ encodes-chars text c.utf8.text in
    let words = string_bytes c.loop-character.words in
    sym (append-nil words) ∙ ap (λ t. words ++ t) (sym (continued-nil c.loop-character.is_apart words)) ∙ c.loop-character.invariant []
    ∙ ap normalized (append-nil (encode_utf8_all c.loop-character.yielded) ∙ read)
