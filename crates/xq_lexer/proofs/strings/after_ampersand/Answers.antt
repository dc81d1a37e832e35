use Rattle.std.proofs.Common.{refl, ◌∙◌}
use Rattle.xq_lexer.specs.Reading.{read_reference}
use Rattle.xq_lexer.proofs.StringLemmas.{referred_is, no_scalar}
use Rattle.xq_lexer.proofs.strings.after_ampersand.Goals as goal

pub returns-in-None-from_u32 : goal.returns-in-None-from_u32
returns-in-None-from_u32 c =
    referred_is (read_reference c.args.chars.now) c.in-Some.number c.in-Some.rest.now c.in-Some.ensures ∙ rw (no_scalar c.in-Some.number c.in-None-from_u32.ensures.value) refl
