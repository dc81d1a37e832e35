use Rattle.std.proofs.Common.{◌≡◌, Bool, true, false, sym, subst, ◌∙◌}
use Rattle.xq_lexer.specs.Lexeme.{lexemes}
use Rattle.xq_expressions.specs.declared.operators.NodeTest.{NodeTest}
use Rattle.xq_parser.specs.Look.{Tokens, word}
use Rattle.xq_parser.specs.Grammar as g
use Rattle.xq_parser.specs.private.Reading as spec
use Rattle.xq_parser.specs.private.Parses.{Parses}
use Rattle.xq_parser.proofs.Steps.{chooses_second, chooses_third}
use Rattle.xq_parser.proofs.node_tests.kind_test.Goals as goal

abbrev named : Tokens → Bool
named = spec.is (word "processing-instruction")

abbrev named_kind : spec.Parser NodeTest
named_kind = spec.choose (spec.is (word "element")) spec.element_kind spec.attribute_kind

pub returns-then-is_word : goal.returns-then-is_word
unfolding spec.kind_test
returns-then-is_word c =
    let plain : spec.begins g.plain_kinds (lexemes c.args.tokens.now) ≡ false = sym c.begins.ensures ∙ c.if-begins.false in
    let it : named (lexemes c.args.tokens.now) ≡ true = sym c.is_word.ensures ∙ c.if-is_word.true in
    subst (λ (o : spec.Outcome NodeTest). Parses c.instruction_kind.result o) (sym (chooses_second (spec.begins g.plain_kinds) named spec.plain_kind spec.instruction_kind named_kind (lexemes c.args.tokens.now) plain it)) c.instruction_kind.ensures

pub returns-else-is_word : goal.returns-else-is_word
unfolding spec.kind_test
returns-else-is_word c =
    let plain : spec.begins g.plain_kinds (lexemes c.args.tokens.now) ≡ false = sym c.begins.ensures ∙ c.if-begins.false in
    let isnt : named (lexemes c.args.tokens.now) ≡ false = sym c.is_word.ensures ∙ c.if-is_word.false in
    subst (λ (o : spec.Outcome NodeTest). Parses c.named_kind.result o) (sym (chooses_third (spec.begins g.plain_kinds) named spec.plain_kind spec.instruction_kind named_kind (lexemes c.args.tokens.now) plain isnt)) c.named_kind.ensures
