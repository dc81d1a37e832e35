use Rattle.std.proofs.Common.{ap, ◌∙◌}
use Rattle.xq_meaning.specs.Functions.{is_found}
use Rattle.xq_functions.proofs.DocumentLemmas.{is_found-is}
use Rattle.xq_functions.proofs.documents.is_there.Goals as goal

pub returns : goal.returns
returns c = c.is_ok.ensures.value ∙ is_found-is c.document.result ∙ ap is_found c.document.ensures
