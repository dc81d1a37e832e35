use Rattle.std.proofs.Common.{◌≡◌, ◌+◌, ◌++◌, ◌∷◌, List, map, drop, string_bytes, ap, sym, ◌∙◌, Ok, Err, arith, rules, append-nil}
use Rattle.std.specs.Global.{Vec, Global}
use Rattle.std.proofs.lemmas.List.{drop_more, drop_all}
use Rattle.xq_atoms.specs.declared.atoms.Atom.{Atom}
use Rattle.xq_atoms.specs.Atom.{Atomic}
use Rattle.xq_meaning.specs.Arguments.{text}
use Rattle.xq_meaning.specs.Functions as Functions
use Rattle.xq_meaning.specs.Readings.{items_at}
use Rattle.xq_functions.specs.Answers.{atomics, items_of}
use Rattle.xq_functions.specs.private.Running.{concatenating}
use Rattle.xq_functions.proofs.AnswerLemmas.{Gives-fault}
use Rattle.xq_functions.proofs.TextLemmas.{concatenating-more, concatenating-err}
use Rattle.xq_functions.proofs.texts.concat.Goals as goal

view : Vec Atom → List Atomic
view list = atomics list.items

pub loop-list-preserved : goal.loop-list-preserved
loop-list-preserved c =
    let i = c.loop-list.list-index in
    let lists = c.args.lists.now in
    let done = string_bytes c.loop-list.text in
    let item = c.list-item.result in
    let here = drop_more lists i item (omega arith) ∙ ap (λ x. x ∷ drop (i + 1) lists) (sym c.list-item.is) in
    let piece = ap (λ l. Functions.piece (atomics l)) (sym c.deref.ensures.value) ∙ c.in_ok-piece.ensures in
    let pushed = c.in_ok-push_str.ensures.bytes ∙ ap (λ t. done ++ t) c.as_str.ensures.value in
    ap (λ t. concatenating t (map (λ list. atomics list.items) (drop (i + 1) lists))) pushed
    ∙ sym (concatenating-more done (string_bytes c.in_ok-piece.field-0) (atomics item.items) (map (λ list. atomics list.items) (drop (i + 1) lists)) piece)
    ∙ ap (λ ls. concatenating done (map (λ list. atomics list.items) ls)) (sym here) ∙ c.loop-list.invariant

pub returns-in_err-piece : goal.returns-in_err-piece
returns-in_err-piece c trees =
    let i = c.loop-list.list-index in
    let lists = c.args.lists.now in
    let done = string_bytes c.loop-list.text in
    let item = c.list-item.result in
    let here = drop_more lists i item (omega arith) ∙ ap (λ x. x ∷ drop (i + 1) lists) (sym c.list-item.is) in
    let is : c.from_residual.result ≡ Err c.in_err-piece.field-0.0 = search rules in
    Gives-fault (items_of trees) (Functions.concat (map (λ list. atomics list.items) lists)) (string_bytes {Z = Global}) (Functions.piece (atomics c.deref.result.now)) c.in_err-piece.field-0.0 c.from_residual.result is c.in_err-piece.ensures
    (λ code e. sym c.loop-list.invariant ∙ ap (λ ls. concatenating done (map (λ list. atomics list.items) ls)) here ∙ concatenating-err done code (atomics item.items) (map (λ list. atomics list.items) (drop (i + 1) lists)) (ap (λ l. Functions.piece (atomics l)) (sym c.deref.ensures.value) ∙ e))

pub returns : goal.returns
returns c trees =
    let i = c.loop-list.list-index in
    let lists = c.args.lists.now in
    let done = string_bytes c.loop-list.text in
    sym c.loop-list.invariant ∙ ap (λ ls. concatenating done (map (λ list. atomics list.items) ls)) (drop_all i lists (omega arith)) ∙ ap (λ t. Ok (text t)) (append-nil done) ∙ ap (λ views. Ok (items_at trees views)) (sym c.in_ok-one.ensures.value)
