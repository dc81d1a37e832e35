use Rattle.std.proofs.Common.{◌≡◌, drop}
use Rattle.std.specs.Prelude.{encode_utf8_all}
use Rattle.std.specs.Str.{chars}
use Rattle.xq_functions.proofs.positions.after_characters.Given as goal

abbrev pub invariant-loop : goal.invariant-loop
invariant-loop l = encode_utf8_all (drop l.counter (chars l.text)) ≡ l.characters.rest.now
