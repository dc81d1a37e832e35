use Rattle.std.proofs.Common.{ℕ, List, subst, ◌∙◌}
use Rattle.std.specs.Str.{chars as chars_of}
use Rattle.xq_lexer.specs.private.Lexes.{Lexes}
use Rattle.xq_lexer.proofs.StepLemmas.{lexes_only, lexes_sound, lexes_refused}
use Rattle.xq_lexer.proofs.lexing.lex.Goals as goal

pub returns-clause-only : goal.returns-clause-only
returns-clause-only c = lexes_only (chars_of c.args.text.now) c.tokens.result (subst (λ (t : List ℕ). Lexes t c.tokens.result) (c.deref.ensures.value ∙ c.in_ok-chars.ensures.chars) c.tokens.ensures)

pub returns-clause-sound : goal.returns-clause-sound
returns-clause-sound c = lexes_sound (chars_of c.args.text.now) c.tokens.result (subst (λ (t : List ℕ). Lexes t c.tokens.result) (c.deref.ensures.value ∙ c.in_ok-chars.ensures.chars) c.tokens.ensures)

pub returns-clause-refused : goal.returns-clause-refused
returns-clause-refused c = lexes_refused (chars_of c.args.text.now) c.tokens.result (subst (λ (t : List ℕ). Lexes t c.tokens.result) (c.deref.ensures.value ∙ c.in_ok-chars.ensures.chars) c.tokens.ensures)
