use Rattle.std.proofs.Common.{sym, ◌∙◌}
use Rattle.xq_lexer.specs.Lexeme.{lexemes}
use Rattle.xq_parser.specs.Look.{word}
use Rattle.xq_parser.specs.private.Reading as spec
use Rattle.xq_parser.proofs.Choice.{gives_first, gives_second}
use Rattle.xq_parser.proofs.primaries.Grammar.make_other.Goals as goal

pub returns-then-is_word : goal.returns-then-is_word
returns-then-is_word g c = gives_first (spec.is (word "processing-instruction")) (spec.make_instruction (spec.single c.args.self.now.depth)) (spec.make_unnamed (spec.single c.args.self.now.depth)) (lexemes c.args.tokens.now) c.make_instruction.result (sym c.is_word.ensures ∙ c.if-is_word.true) c.make_instruction.ensures

pub returns-else-is_word : goal.returns-else-is_word
returns-else-is_word g c = gives_second (spec.is (word "processing-instruction")) (spec.make_instruction (spec.single c.args.self.now.depth)) (spec.make_unnamed (spec.single c.args.self.now.depth)) (lexemes c.args.tokens.now) c.make_unnamed.result (sym c.is_word.ensures ∙ c.if-is_word.false) c.make_unnamed.ensures
