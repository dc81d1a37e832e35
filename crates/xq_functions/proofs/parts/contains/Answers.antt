use Rattle.std.proofs.lemmas.Str.Pattern.{contains_text}
use Rattle.xq_functions.proofs.TextPlaces.{holds_from_iff}
use Rattle.xq_functions.proofs.parts.contains.Goals as goal

pub returns : goal.returns
returns c = holds_from_iff _ _ _ (contains_text _ _ _ c.contains.ensures.cases)
