use Rattle.std.proofs.Common.{sym, subst}
use Rattle.std.specs.Str.{IsUtf8}
use Rattle.xq_atoms.specs.Characters.{is_space}
use Rattle.xq_atoms.specs.Spaces.{after_leading}
use Rattle.xq_build.proofs.Spelling.{leading_utf8, trailing_utf8}
use Rattle.xq_build.proofs.values.trimmed.Goals as goal

pub unreachable-requires : goal.unreachable-requires
unreachable-requires c = c.in-Err.ensures.cases.0
    (subst IsUtf8 (sym c.trimmed.ensures)
    (trailing_utf8 (after_leading is_space c.as_bytes.result.now) (leading_utf8 c.as_bytes.result.now (subst IsUtf8 (sym c.as_bytes.ensures.value) c.utf8.text))))
