use Rattle.std.proofs.Common.{◌≡◌, ◌++◌, string_bytes, length}
use denote.Text.{Utf8}
use denote.Shadow.{shadow}
use Rattle.xq_queries.specs.Texts.{with_line_feeds}
use Rattle.xq_queries.proofs.lines.with_line_feeds.Given as goal

-- what was read, and what is left, are the whole
abbrev pub invariant-loop-line : goal.invariant-loop-line
invariant-loop-line l = shadow (Utf8 l.rest) × (string_bytes l.read ++ with_line_feeds l.rest ≡ with_line_feeds l.text)

abbrev pub decreases-loop-line : goal.decreases-loop-line
decreases-loop-line l = length l.rest
