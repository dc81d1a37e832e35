use Rattle.std.proofs.Common.{◌≡◌, not, ap, sym, ◌∙◌, Ok, Err, rules}
use Rattle.xq_atoms.specs.Judged.{◌>>=◌}
use Rattle.xq_meaning.specs.Arguments.{boolean, effective}
use Rattle.xq_meaning.specs.Readings.{items_at}
use Rattle.xq_meaning.specs.Functions as Functions
use Rattle.xq_functions.specs.Answers.{items_of, lent_items}
use Rattle.xq_functions.proofs.AnswerLemmas.{Gives-code}
use Rattle.xq_atoms.specs.declared.refusals.Fault.TheVariants.{Code as OfCode}
use Rattle.xq_functions.proofs.calls.call_on_items.Goals as goal

pub returns-in-Head : goal.returns-in-Head
returns-in-Head c on trees addresses = ap (λ f. Functions.of_one f trees addresses (items_of trees c.args.items)) c.in-Head.is ∙ ap Ok (sym (c.head.ensures trees))

pub returns-in-Tail : goal.returns-in-Tail
returns-in-Tail c on trees addresses = ap (λ f. Functions.of_one f trees addresses (items_of trees c.args.items)) c.in-Tail.is ∙ ap Ok (sym (c.tail.ensures trees))

pub returns-in-Reverse : goal.returns-in-Reverse
returns-in-Reverse c on trees addresses = ap (λ f. Functions.of_one f trees addresses (items_of trees c.args.items)) c.in-Reverse.is ∙ ap Ok (sym (c.reversed.ensures trees))

pub returns-in_ok-zero_or_one-in-ZeroOrOne : goal.returns-in_ok-zero_or_one-in-ZeroOrOne
returns-in_ok-zero_or_one-in-ZeroOrOne c on trees addresses = ap (λ f. Functions.of_one f trees addresses (items_of trees c.args.items)) c.in-ZeroOrOne.is ∙ sym (c.in_ok-zero_or_one-in-ZeroOrOne.ensures trees)

pub returns-in_err-zero_or_one-in-ZeroOrOne : goal.returns-in_err-zero_or_one-in-ZeroOrOne
returns-in_err-zero_or_one-in-ZeroOrOne c on trees addresses =
    let code = c.in_err-zero_or_one-in-ZeroOrOne.field-0.0 in
    let is : c.from_residual-in_err-zero_or_one-in-ZeroOrOne.result ≡ Err (OfCode code) = search rules in
    Gives-code (items_of trees) (Functions.of_one c.args.function trees addresses (items_of trees c.args.items)) code c.from_residual-in_err-zero_or_one-in-ZeroOrOne.result is (ap (λ f. Functions.of_one f trees addresses (items_of trees c.args.items)) c.in-ZeroOrOne.is ∙ sym (c.in_err-zero_or_one-in-ZeroOrOne.ensures trees))

pub returns-in_ok-one_or_more-in-OneOrMore : goal.returns-in_ok-one_or_more-in-OneOrMore
returns-in_ok-one_or_more-in-OneOrMore c on trees addresses = ap (λ f. Functions.of_one f trees addresses (items_of trees c.args.items)) c.in-OneOrMore.is ∙ sym (c.in_ok-one_or_more-in-OneOrMore.ensures trees)

pub returns-in_err-one_or_more-in-OneOrMore : goal.returns-in_err-one_or_more-in-OneOrMore
returns-in_err-one_or_more-in-OneOrMore c on trees addresses =
    let code = c.in_err-one_or_more-in-OneOrMore.field-0.0 in
    let is : c.from_residual-in_err-one_or_more-in-OneOrMore.result ≡ Err (OfCode code) = search rules in
    Gives-code (items_of trees) (Functions.of_one c.args.function trees addresses (items_of trees c.args.items)) code c.from_residual-in_err-one_or_more-in-OneOrMore.result is (ap (λ f. Functions.of_one f trees addresses (items_of trees c.args.items)) c.in-OneOrMore.is ∙ sym (c.in_err-one_or_more-in-OneOrMore.ensures trees))

pub returns-in_ok-exactly_one-in-ExactlyOne : goal.returns-in_ok-exactly_one-in-ExactlyOne
returns-in_ok-exactly_one-in-ExactlyOne c on trees addresses = ap (λ f. Functions.of_one f trees addresses (items_of trees c.args.items)) c.in-ExactlyOne.is ∙ sym (c.in_ok-exactly_one-in-ExactlyOne.ensures trees)

pub returns-in_err-exactly_one-in-ExactlyOne : goal.returns-in_err-exactly_one-in-ExactlyOne
returns-in_err-exactly_one-in-ExactlyOne c on trees addresses =
    let code = c.in_err-exactly_one-in-ExactlyOne.field-0.0 in
    let is : c.from_residual-in_err-exactly_one-in-ExactlyOne.result ≡ Err (OfCode code) = search rules in
    Gives-code (items_of trees) (Functions.of_one c.args.function trees addresses (items_of trees c.args.items)) code c.from_residual-in_err-exactly_one-in-ExactlyOne.result is (ap (λ f. Functions.of_one f trees addresses (items_of trees c.args.items)) c.in-ExactlyOne.is ∙ sym (c.in_err-exactly_one-in-ExactlyOne.ensures trees))

pub returns-in_err-effective-in-Not : goal.returns-in_err-effective-in-Not
returns-in_err-effective-in-Not c on trees addresses =
    let items = c.args.items in
    let code = c.in_err-effective-in-Not.field-0.0 in
    let is : c.from_residual-in_err-effective-in-Not.result ≡ Err (OfCode code) = search rules in
    Gives-code (items_of trees) (Functions.of_one c.args.function trees addresses (items_of trees items)) code c.from_residual-in_err-effective-in-Not.result is
    (ap (λ f. Functions.of_one f trees addresses (items_of trees items)) c.in-Not.is ∙ ap (λ j. j >>= (λ b. Ok (boolean (not b)))) (sym (c.in_err-effective-in-Not.ensures trees ∙ ap (λ xs. effective (lent_items trees xs)) c.deref.ensures.value)))

pub returns-in_ok-one-in-Not : goal.returns-in_ok-one-in-Not
returns-in_ok-one-in-Not c on trees addresses =
    let items = c.args.items in
    ap (λ f. Functions.of_one f trees addresses (items_of trees items)) c.in-Not.is ∙ ap (λ j. j >>= (λ b. Ok (boolean (not b)))) (sym (c.in_ok-effective-in-Not.ensures trees ∙ ap (λ xs. effective (lent_items trees xs)) c.deref.ensures.value))
    ∙ ap (λ views. Ok (items_at trees views)) (sym c.in_ok-one-in-Not.ensures.value)

pub returns-in_err-effective-in-Boolean : goal.returns-in_err-effective-in-Boolean
returns-in_err-effective-in-Boolean c on trees addresses =
    let items = c.args.items in
    let code = c.in_err-effective-in-Boolean.field-0.0 in
    let is : c.from_residual-in_err-effective-in-Boolean.result ≡ Err (OfCode code) = search rules in
    Gives-code (items_of trees) (Functions.of_one c.args.function trees addresses (items_of trees items)) code c.from_residual-in_err-effective-in-Boolean.result is
    (ap (λ f. Functions.of_one f trees addresses (items_of trees items)) c.in-Boolean.is ∙ ap (λ j. j >>= (λ b. Ok (boolean b))) (sym (c.in_err-effective-in-Boolean.ensures trees ∙ ap (λ xs. effective (lent_items trees xs)) c.deref-in-Boolean.ensures.value)))

pub returns-in_ok-one-in-Boolean : goal.returns-in_ok-one-in-Boolean
returns-in_ok-one-in-Boolean c on trees addresses =
    let items = c.args.items in
    ap (λ f. Functions.of_one f trees addresses (items_of trees items)) c.in-Boolean.is ∙ ap (λ j. j >>= (λ b. Ok (boolean b))) (sym (c.in_ok-effective-in-Boolean.ensures trees ∙ ap (λ xs. effective (lent_items trees xs)) c.deref-in-Boolean.ensures.value))
    ∙ ap (λ views. Ok (items_at trees views)) (sym c.in_ok-one-in-Boolean.ensures.value)
