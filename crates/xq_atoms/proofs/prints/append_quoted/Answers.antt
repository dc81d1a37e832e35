use Rattle.std.proofs.Common.{ap, ◌∙◌, ◌++◌, flat_map, string_bytes}
use Rattle.std.specs.Prelude.{encode_utf8}
use Rattle.xq_atoms.specs.Print.{quoted_character}
use Rattle.xq_atoms.proofs.PrintLemmas.{flat_map-push, take-through, take-front}
use Rattle.xq_atoms.proofs.prints.append_quoted.Goals as goal

pub loop-character-preserved : goal.loop-character-preserved
loop-character-preserved c =
    c.in_ok-append_character.ensures.ok ∙ ap (λ x. x ++ flat_map quoted_character (encode_utf8 c.in-Some.character)) c.loop-character.invariant ∙ flat_map-push _ c.loop-character.yielded c.in-Some.character

pub returns-in_err-append_character-clause-kept : goal.returns-in_err-append_character-clause-kept
returns-in_err-append_character-clause-kept c =
    take-through (string_bytes c.args.out.now) (string_bytes c.loop-character.out) _ (rw c.loop-character.invariant (take-front (string_bytes c.args.out.now) _ _)) c.append_character.ensures.kept
