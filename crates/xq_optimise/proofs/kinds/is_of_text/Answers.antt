use Rattle.std.proofs.Common.{sym, subst}
use Rattle.xq_optimise.specs.private.Kinds.{IsOfText}
use Rattle.xq_optimise.proofs.KindLaws.{concat_call, join_call, string_call}
use Rattle.xq_optimise.proofs.kinds.is_of_text.Goals as goal

pub returns-in-String : goal.returns-in-String
returns-in-String c = λ e. subst IsOfText (sym c.in-String.is) string_call

pub returns-in-Concat : goal.returns-in-Concat
returns-in-Concat c = λ e. subst IsOfText (sym c.in-Concat.is) concat_call

pub returns-in-StringJoin : goal.returns-in-StringJoin
returns-in-StringJoin c = λ e. subst IsOfText (sym c.in-StringJoin.is) join_call
