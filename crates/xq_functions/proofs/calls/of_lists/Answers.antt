use Rattle.std.specs.Global.{Vec}
use Rattle.xq_atoms.specs.declared.atoms.Atom.{Atom}
use Rattle.std.proofs.Common.{map, ap, sym, ◌∙◌}
use Rattle.xq_meaning.specs.Functions as Functions
use Rattle.xq_functions.specs.Answers.{atomics, items_of}
use Rattle.xq_functions.specs.private.Calls as Calls
use Rattle.xq_functions.proofs.AnswerLemmas.{Gives-same}
use Rattle.xq_functions.proofs.CallLemmas as lemmas
use Rattle.xq_functions.proofs.calls.of_lists.Goals as goal

pub returns-then-lists-eq2 : goal.returns-then-lists-eq2
returns-then-lists-eq2 c trees =
    let lists = c.args.lists.now in
    let first = c.index-lists-0.result in
    let second = c.index-lists-1.result in
    let two = lemmas.two-lists (λ (list : Vec Atom). atomics list.items) lists first second c.if-lists-eq2.true c.index-lists-0.is c.index-lists-1.is in
    Gives-same (items_of trees) (Calls.of_lists c.args.function (map (λ list. atomics list.items) lists)) (Functions.of_two c.args.function (atomics c.deref.result.now) (atomics c.deref-then-lists-eq2.result.now)) c.of_two.result
    (ap (Calls.of_lists c.args.function) two ∙ sym (λ i. Functions.of_two c.args.function (atomics (c.deref.ensures.value i)) (atomics (c.deref-then-lists-eq2.ensures.value i)))) (c.of_two.ensures trees)

pub returns-then-lists-eq3 : goal.returns-then-lists-eq3
returns-then-lists-eq3 c trees =
    let lists = c.args.lists.now in
    let first = c.index-lists-0-then-lists-eq3.result in
    let second = c.index-lists-1-then-lists-eq3.result in
    let third = c.index-lists-2.result in
    let three = lemmas.three-lists (λ (list : Vec Atom). atomics list.items) lists first second third c.if-lists-eq3.true c.index-lists-0-then-lists-eq3.is c.index-lists-1-then-lists-eq3.is c.index-lists-2.is in
    Gives-same (items_of trees) (Calls.of_lists c.args.function (map (λ list. atomics list.items) lists)) (Functions.of_three c.args.function (atomics c.deref-then-lists-eq3.result.now) (atomics c.deref-then-lists-eq3-2.result.now) (atomics c.deref-then-lists-eq3-3.result.now)) c.of_three.result
    (ap (Calls.of_lists c.args.function) three ∙ sym (λ i. Functions.of_three c.args.function (atomics (c.deref-then-lists-eq3.ensures.value i)) (atomics (c.deref-then-lists-eq3-2.ensures.value i)) (atomics (c.deref-then-lists-eq3-3.ensures.value i)))) (c.of_three.ensures trees)

pub returns : goal.returns
returns c trees =
    let lists = c.args.lists.now in
    Gives-same (items_of trees) (Calls.of_lists c.args.function (map (λ list. atomics list.items) lists)) (Functions.of_many c.args.function (map (λ list. atomics list.items) lists)) c.of_many.result
    (lemmas.other-lists (λ (list : Vec Atom). atomics list.items) c.args.function lists c.if-lists-eq2.false c.if-lists-eq3.false) (c.of_many.ensures trees)
