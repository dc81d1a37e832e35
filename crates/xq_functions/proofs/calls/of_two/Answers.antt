use Rattle.std.proofs.Common.{ap, ◌∙◌}
use Rattle.xq_expressions.specs.declared.signatures.Function.TheVariants as f
use Rattle.xq_meaning.specs.Functions as Functions
use Rattle.xq_functions.specs.Answers.{atomics, items_of}
use Rattle.xq_functions.specs.private.Calls as Calls
use Rattle.xq_functions.proofs.AnswerLemmas.{Gives-same}
use Rattle.xq_functions.proofs.CallLemmas as lemmas
use Rattle.xq_functions.proofs.calls.of_two.Goals as goal

pub returns-in-StringJoin : goal.returns-in-StringJoin
returns-in-StringJoin c trees = Gives-same (items_of trees) (Functions.of_two c.args.function (atomics c.args.first.now) (atomics c.args.second.now)) (Functions.of_two f.StringJoin (atomics c.args.first.now) (atomics c.args.second.now)) c.string_join_by.result (ap (λ f. Functions.of_two f (atomics c.args.first.now) (atomics c.args.second.now)) c.in-StringJoin.is) (c.string_join_by.ensures trees)

pub returns-in-Contains : goal.returns-in-Contains
returns-in-Contains c trees = Gives-same (items_of trees) (Functions.of_two c.args.function (atomics c.args.first.now) (atomics c.args.second.now)) (Functions.of_two f.Contains (atomics c.args.first.now) (atomics c.args.second.now)) c.contains.result (ap (λ f. Functions.of_two f (atomics c.args.first.now) (atomics c.args.second.now)) c.in-Contains.is) (c.contains.ensures trees)

pub returns-in-StartsWith : goal.returns-in-StartsWith
returns-in-StartsWith c trees = Gives-same (items_of trees) (Functions.of_two c.args.function (atomics c.args.first.now) (atomics c.args.second.now)) (Functions.of_two f.StartsWith (atomics c.args.first.now) (atomics c.args.second.now)) c.starts_with.result (ap (λ f. Functions.of_two f (atomics c.args.first.now) (atomics c.args.second.now)) c.in-StartsWith.is) (c.starts_with.ensures trees)

pub returns-in-EndsWith : goal.returns-in-EndsWith
returns-in-EndsWith c trees = Gives-same (items_of trees) (Functions.of_two c.args.function (atomics c.args.first.now) (atomics c.args.second.now)) (Functions.of_two f.EndsWith (atomics c.args.first.now) (atomics c.args.second.now)) c.ends_with.result (ap (λ f. Functions.of_two f (atomics c.args.first.now) (atomics c.args.second.now)) c.in-EndsWith.is) (c.ends_with.ensures trees)

pub returns-in-SubstringBefore : goal.returns-in-SubstringBefore
returns-in-SubstringBefore c trees = Gives-same (items_of trees) (Functions.of_two c.args.function (atomics c.args.first.now) (atomics c.args.second.now)) (Functions.of_two f.SubstringBefore (atomics c.args.first.now) (atomics c.args.second.now)) c.substring_before.result (ap (λ f. Functions.of_two f (atomics c.args.first.now) (atomics c.args.second.now)) c.in-SubstringBefore.is) (c.substring_before.ensures trees)

pub returns-in-SubstringAfter : goal.returns-in-SubstringAfter
returns-in-SubstringAfter c trees = Gives-same (items_of trees) (Functions.of_two c.args.function (atomics c.args.first.now) (atomics c.args.second.now)) (Functions.of_two f.SubstringAfter (atomics c.args.first.now) (atomics c.args.second.now)) c.substring_after.result (ap (λ f. Functions.of_two f (atomics c.args.first.now) (atomics c.args.second.now)) c.in-SubstringAfter.is) (c.substring_after.ensures trees)

pub returns-in-Substring : goal.returns-in-Substring
returns-in-Substring c trees = Gives-same (items_of trees) (Functions.of_two c.args.function (atomics c.args.first.now) (atomics c.args.second.now)) (Functions.of_two f.Substring (atomics c.args.first.now) (atomics c.args.second.now)) c.substring_from.result (ap (λ f. Functions.of_two f (atomics c.args.first.now) (atomics c.args.second.now)) c.in-Substring.is) (c.substring_from.ensures trees)

pub returns-in-Concat : goal.returns-in-Concat
returns-in-Concat c trees = Gives-same (items_of trees) (Functions.of_two c.args.function (atomics c.args.first.now) (atomics c.args.second.now)) (Calls.texts_concatenated (atomics c.args.first.now) (atomics c.args.second.now)) c.concatenated.result (ap (λ f. Functions.of_two f (atomics c.args.first.now) (atomics c.args.second.now)) c.in-Concat.is ∙ lemmas.two-concatenated (atomics c.args.first.now) (atomics c.args.second.now)) (c.concatenated.ensures trees)
