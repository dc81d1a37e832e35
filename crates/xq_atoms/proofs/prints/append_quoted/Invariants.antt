use Rattle.std.proofs.Common.{◌≡◌, ◌++◌, string_bytes, codes, flat_map}
use Rattle.std.specs.Prelude.{encode_utf8_all}
use Rattle.xq_atoms.specs.Print as Print
use Rattle.xq_atoms.proofs.prints.append_quoted.Given as goal

abbrev pub invariant-loop-character : goal.invariant-loop-character
invariant-loop-character l = string_bytes l.out ≡ string_bytes l.fn.out ++ codes "\"" ++ flat_map Print.quoted_character (encode_utf8_all l.yielded)
