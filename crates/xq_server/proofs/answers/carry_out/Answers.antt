use Rattle.std.proofs.Common.{refl, inl}
use Rattle.xq_atoms.specs.declared.refusals.Code.TheVariants.{ProfFrame}
use Rattle.xq_server.proofs.answers.carry_out.Goals as goal

pub returns-in-Query-clause-tells : goal.returns-in-Query-clause-tells
returns-in-Query-clause-tells g c = λ clean m stood. (
  m,
  rw c.in-Query.is (c.answer_query.ensures.tells clean m stood),
  c.answer_query.ensures.same clean m stood,
)

pub returns-in-Put-clause-tells : goal.returns-in-Put-clause-tells
returns-in-Put-clause-tells g c = λ clean m stood. rw c.in-Put.is (c.answer_put.ensures.tells clean m stood)

pub returns-in-Remove-clause-tells : goal.returns-in-Remove-clause-tells
returns-in-Remove-clause-tells g c = λ clean m stood. rw c.in-Remove.is (c.answer_remove.ensures.tells clean m stood)

pub returns-in-List-clause-tells : goal.returns-in-List-clause-tells
returns-in-List-clause-tells g c = λ clean m stood. (
  m,
  rw c.in-List.is (c.answer_list.ensures.tells clean m stood),
  c.answer_list.ensures.same clean m stood,
)

pub returns-in-Bad-clause-tells : goal.returns-in-Bad-clause-tells
returns-in-Bad-clause-tells g c = λ clean m stood. (m, rw c.in-Bad.is (inl (ProfFrame, refl, refl)), stood)
