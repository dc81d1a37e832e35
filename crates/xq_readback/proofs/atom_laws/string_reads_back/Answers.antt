use Rattle.xq_readback.proofs.Strings.{printed-string}
use Rattle.xq_readback.proofs.atom_laws.string_reads_back.Goals as goal

pub returns-clause-literal : goal.returns-clause-literal
returns-clause-literal c = λ h. printed-string c.args.text.now c.utf8.text h
