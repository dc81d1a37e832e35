use Rattle.std.proofs.Common.{string_bytes}
use Rattle.std.proofs.lemmas.Str.{IsUtf8-string_bytes}
use Rattle.xq_atoms.proofs.PrintLemmas.{IsCharBoundary-kept}
use Rattle.xq_atoms.proofs.prints.print.Goals as goal

pub truncate-requires : goal.truncate-requires
truncate-requires c =
    let cut = IsCharBoundary-kept (string_bytes c.args.out.now) (string_bytes c.append_atom-outcome.new.out) c.as_str-length.result.now c.as_str-length.ensures.value (IsUtf8-string_bytes c.args.out.now) (IsUtf8-string_bytes c.append_atom-outcome.new.out) c.append_atom-outcome.ensures.kept in
    λ _. (cut.0, λ _. cut.1)
