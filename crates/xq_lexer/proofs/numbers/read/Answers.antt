use Rattle.std.proofs.Common.{ℕ, List, sym, subst, IsTrue}
use Rattle.std.specs.Bool.{OnTrue, OnFalse}
use Rattle.xq_atoms.specs.Text.{is_whole}
use Rattle.xq_atoms.specs.Literal.{is_number}
use Rattle.xq_lexer.proofs.numbers.read.Goals as goal

pub valued-requires-clause-whole : goal.valued-requires-clause-whole
valued-requires-clause-whole c = subst (λ (t : List ℕ). OnFalse c.args.has_point (IsTrue (is_whole t))) (sym c.in-Some.ensures) c.requires.whole

pub valued-requires-clause-number : goal.valued-requires-clause-number
valued-requires-clause-number c = subst (λ (t : List ℕ). OnTrue c.args.has_point (IsTrue (is_number t))) (sym c.in-Some.ensures) c.requires.number
