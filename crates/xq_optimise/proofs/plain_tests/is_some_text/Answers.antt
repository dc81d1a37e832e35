use Rattle.std.proofs.Common.{◌≡◌, List, ℕ, ap, length, not, sym, true, ◌∙◌}
use Rattle.std.proofs.lemmas.Bool.{false≢true}
use Rattle.std.specs.Bool.{◌==◌}
use Rattle.xq_optimise.proofs.PlainTests.{some_text}
use Rattle.xq_optimise.proofs.plain_tests.is_some_text.Goals as goal

pub returns-in-Str : goal.returns-in-Str
returns-in-Str c = λ e.
    some_text c.args.part.now c.in-Str.text c.in-Str.is
    (λ none.
    let empty : c.is_empty.result ≡ true = c.is_empty.ensures ∙ ap (λ (l : List ℕ). length l == 0) (c.as_str.ensures ∙ none) in
    false≢true (sym (ap not empty) ∙ e))
