use Rattle.std.proofs.Common.{ap, ◌∙◌, ◌++◌, sym, string_bytes}
use Rattle.xq_atoms.proofs.PrintLemmas.{flat_map-encode}
use Rattle.xq_atoms.proofs.prints.append_character.Goals as goal

pub returns-in_ok-push-clause-ok : goal.returns-in_ok-push-clause-ok
returns-in_ok-push-clause-ok c =
    c.in_ok-push.ensures.bytes ∙ ap (λ x. string_bytes c.args.out.now ++ x) (sym (flat_map-encode c.args.character c.if-character-eq34.false c.if-character-eq38.false c.if-character-eq13.false))
