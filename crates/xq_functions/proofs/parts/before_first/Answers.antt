use Rattle.std.proofs.Common.{ap, ◌∙◌, sym, cond, []}
use Rattle.xq_meaning.specs.Texts.{before_first}
use Rattle.xq_functions.proofs.TextPlaces.{found_at, missing}
use Rattle.xq_functions.proofs.parts.before_first.Goals as goal

pub returns-in-Some : goal.returns-in-Some
returns-in-Some c =
    let x = c.in-Some.ensures.cases in
    let word = c.args.word.now in
    let text = c.args.text.now in
    let found = found_at word text x.0 x.2.0 _ x.2.1.split in
    x.3 ∙ sym found.before ∙ sym (ap (λ b. cond b (before_first word text) []) found.holds)

pub returns-in-None : goal.returns-in-None
returns-in-None c =
    let word = c.args.word.now in
    let text = c.args.text.now in
    sym (ap (λ b. cond b (before_first word text) []) (missing word text c.in-None.ensures.cases).holds)
