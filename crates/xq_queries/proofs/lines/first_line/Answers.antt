use Rattle.std.proofs.Common.{refl, lit≤, Some, None}
use Rattle.std.proofs.lemmas.Str.Pattern.{split_parts, strip_prefix_char}
use Rattle.xq_queries.proofs.LineEnds.{line_ends-plain, first_line_of}
use Rattle.xq_queries.proofs.lines.first_line.Goals as goal

pub returns-in_err-line : goal.returns-in_err-line
returns-in_err-line c =
    rw c.from_residual.ensures (line_ends-plain c.args.text.now (split_parts 13 c.args.text.now None c.in_err-line.ensures.cases (lit≤ tt)))

pub returns : goal.returns
returns c =
    let parts = split_parts 13 c.args.text.now (Some (c.in_ok-line.line, c.in_ok-line.after)) c.in_ok-line.ensures.cases (lit≤ tt) in
    first_line_of c.args.text.now c.in_ok-line.line.now c.in_ok-line.after.now c.in_ok-line.after c.strip_prefix.result c.unwrap_or.result
    parts.0 parts.1 refl (strip_prefix_char 10 c.in_ok-line.after.now c.strip_prefix.result c.strip_prefix.ensures.cases (lit≤ tt)) c.unwrap_or.ensures
