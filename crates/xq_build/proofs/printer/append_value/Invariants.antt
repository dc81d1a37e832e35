use Rattle.std.proofs.Common.{◌≡◌, ◌≤◌, length, string_bytes, ◌++◌}
use Rattle.std.specs.Str.{encode_utf8_all}
use Rattle.xq_atoms.specs.Print.{escaped}
use Rattle.xq_build.proofs.printer.append_value.Given as goal

abbrev pub invariant-loop-character : goal.invariant-loop-character
invariant-loop-character l = (string_bytes l.text ≡ string_bytes l.fn.text ++ escaped (encode_utf8_all l.yielded)) × (length (string_bytes l.text) ≤ l.limit)
