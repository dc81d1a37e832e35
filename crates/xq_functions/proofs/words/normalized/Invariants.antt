use Rattle.std.proofs.Common.{◌≡◌, ℕ, List, ◌++◌, string_bytes}
use Rattle.std.specs.Prelude.{encode_utf8_all}
use Rattle.xq_meaning.specs.Texts.{normalized}
use Rattle.xq_functions.specs.private.Words.{continued}
use Rattle.xq_functions.proofs.words.normalized.Given as goal

abbrev pub invariant-loop-character : goal.invariant-loop-character
invariant-loop-character l = (rest : List ℕ) →
    string_bytes l.words ++ continued l.is_apart (string_bytes l.words) rest ≡ normalized (encode_utf8_all l.yielded ++ rest)
