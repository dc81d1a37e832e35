use Rattle.std.proofs.Common.{◌∙◌, ap, sym, subst}
use Rattle.xq_atoms.specs.Judged.{◌>>=◌}
use Rattle.xq_atoms.specs.Answers.{GivesUnlessWanting}
use Rattle.xq_functions.specs.Answers.{items_of}
use Rattle.xq_meaning.specs.Functions as Functions
use Rattle.xq_operators.specs.Views.{spot_at}
use Rattle.xq_operators.proofs.CallForms.{focus_other}
use Rattle.xq_operators.proofs.calls.on_focus.Goals as goal

pub returns-in_ok-items-in_default : goal.returns-in_ok-items-in_default
returns-in_ok-items-in_default g c =
    let old = g.L.TreeSource.forest c.args.source.now in
    let addresses = c.args.addresses.now in
    let function = c.args.function in
    let items = c.in_ok-items-in_default.items in
    record {
      gives = λ k.
          let given = c.in_ok-items-in_default.ensures.gives (c.on_one.ensures.was_clean k) in
          subst (λ j. GivesUnlessWanting (items_of old) j c.on_one.result)
          (sym (focus_other function old addresses (spot_at old c.args.focus) c.in_default.not-Position c.in_default.not-Last ∙ ap (λ r. r >>= (λ xs. Functions.of_one function old addresses xs)) given))
          (subst (λ f. GivesUnlessWanting (items_of f) (Functions.of_one function f addresses (items_of f items)) c.on_one.result) c.context_argument.ensures.keeps (c.on_one.ensures.gives k));
      keeps = c.on_one.ensures.keeps ∙ c.context_argument.ensures.keeps;
      was_clean = λ k. c.context_argument.ensures.was_clean (c.on_one.ensures.was_clean k);
    }
