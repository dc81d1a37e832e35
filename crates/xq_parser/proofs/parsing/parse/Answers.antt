use Rattle.std.proofs.Common.{◌≤◌, arith}
use Rattle.xq_lexer.specs.Lexeme.{lexemes}
use Rattle.xq_lexer.specs.Nesting.{nesting}
use Rattle.xq_parser.proofs.Answering.{found_by, only_by, shallow_by, refused_by}
use Rattle.xq_parser.proofs.parsing.parse.Goals as goal

pub returns : goal.returns
returns c =
    let ts = lexemes c.args.tokens.now in
    let low : nesting ts ≤ 128 = omega arith in
    record {
      found = found_by c.query.result ts c.query.ensures;
      only = only_by c.query.result ts c.query.ensures;
      shallow = shallow_by c.query.result ts low;
      refused = refused_by c.query.result ts low c.query.ensures;
    }
