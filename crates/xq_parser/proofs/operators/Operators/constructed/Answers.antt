use Rattle.std.proofs.Common.{sym}
use Rattle.std.proofs.lemmas.Result.{err_from_is_err_and}
use Rattle.xq_lexer.specs.Lexeme.{lexemes}
use Rattle.xq_parser.specs.private.Behind.{up_to, path_from, with_maps}
use Rattle.xq_parser.specs.private.Reading.{single, make, and_then}
use Rattle.xq_parser.proofs.Behind.{levels_behind, made, made_alone, not_first}
use Rattle.xq_parser.proofs.operators.Operators.constructed.Goals as goal

pub returns-then-ends_expression : goal.returns-then-ends_expression
returns-then-ends_expression g c =
    let s = single c.args.self.now.grammar.now.depth in
    made_alone s c.args.self.now.level c.requires.bound (lexemes c.args.tokens.now) c.in_ok-node.node (lexemes c.in_ok-node.rest.now) c.requires.begun c.in_ok-node.ensures (sym c.if-ends_expression.ensures)

pub returns : goal.returns
returns g c =
    let s = single c.args.self.now.grammar.now.depth in
    let ts = lexemes c.args.tokens.now in
    rw (levels_behind s ts c.args.self.now.level c.requires.bound, made s ts c.requires.begun, c.in_ok-node.ensures, c.in_ok-path.ensures, c.in_ok-operand.ensures) c.behind.ensures

pub returns-in_err-node : goal.returns-in_err-node
returns-in_err-node g c =
    let s = single c.args.self.now.grammar.now.depth in
    let ts = lexemes c.args.tokens.now in
    let n = c.args.self.now.level in
    let p = err_from_is_err_and c.from_residual.result c.from_residual.ensures.1 in
    rw (p.1, p.2, levels_behind s ts n c.requires.bound, made s ts c.requires.begun) (not_first _ (and_then (make s ts) (λ x vs. and_then (path_from s x vs) (with_maps s))) (up_to s n) (not_first _ (make s ts) (λ x vs. and_then (path_from s x vs) (with_maps s)) c.in_err-node.ensures))

pub returns-in_err-path : goal.returns-in_err-path
returns-in_err-path g c =
    let s = single c.args.self.now.grammar.now.depth in
    let ts = lexemes c.args.tokens.now in
    let n = c.args.self.now.level in
    let read = path_from s c.in_ok-node.node (lexemes c.in_ok-node.rest.now) in
    let p = err_from_is_err_and c.from_residual-in_err-path.result c.from_residual-in_err-path.ensures.1 in
    rw (p.1, p.2, levels_behind s ts n c.requires.bound, made s ts c.requires.begun, c.in_ok-node.ensures) (not_first _ (and_then read (with_maps s)) (up_to s n) (not_first _ read (with_maps s) c.in_err-path.ensures))

pub returns-in_err-operand : goal.returns-in_err-operand
returns-in_err-operand g c =
    let s = single c.args.self.now.grammar.now.depth in
    let ts = lexemes c.args.tokens.now in
    let n = c.args.self.now.level in
    let p = err_from_is_err_and c.from_residual-in_err-operand.result c.from_residual-in_err-operand.ensures.1 in
    rw (p.1, p.2, levels_behind s ts n c.requires.bound, made s ts c.requires.begun, c.in_ok-node.ensures, c.in_ok-path.ensures) (not_first _ (with_maps s c.in_ok-path.path (lexemes c.in_ok-path.rest.now)) (up_to s n) c.in_err-operand.ensures)
