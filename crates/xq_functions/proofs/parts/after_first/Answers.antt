use Rattle.std.proofs.Common.{◌∙◌}
use Rattle.xq_functions.proofs.TextPlaces.{substring_after-found, substring_after-missing}
use Rattle.xq_functions.proofs.parts.after_first.Goals as goal

pub returns-in-Some : goal.returns-in-Some
returns-in-Some c =
    let x = c.in-Some.ensures.cases in
    let word = c.args.word.now in
    let text = c.args.text.now in
    x.4 ∙ substring_after-found word text x.0 x.1 x.2.0 _ x.2.1.split x.2.1.ends

pub returns-in-None : goal.returns-in-None
returns-in-None c =
    let word = c.args.word.now in
    let text = c.args.text.now in
    substring_after-missing word text c.in-None.ensures.cases
