use Rattle.std.proofs.Common.{◌≡◌, ◌+◌, ◌++◌, ◌∷◌, [], take, get_or, nat_eq, Bool, true, false, cond, ap, sym, ◌∙◌, arith}
use Rattle.std.specs.Cmp.{nat_eq_equiv}
use Rattle.std.specs.List.{list_any}
use Rattle.std.proofs.lemmas.List.{take_more}
use Rattle.xq_trees.specs.Tuples.{firsts}
use Rattle.xq_trees.proofs.Grouping.{firsts-push}
use Rattle.xq_operators.proofs.clauses.distinct.Goals as goal
use Rattle.xq_operators.proofs.clauses.distinct.Goals.{then-not-contains+in_ok-push, else-not-contains}

pub loop-slot-preserved : goal.loop-slot-preserved
loop-slot-preserved c =
    let n = c.loop-slot.slot-index in
    let slots = c.args.slots.now in
    let x = get_or slots n 0 in
    let done = firsts nat_eq (take n slots) in
    let any : c.contains.result ≡ list_any (nat_eq x) done =
    c.contains.ensures.value ∙ ap (list_any (λ y. nat_eq y x)) (c.deref.ensures.value ∙ c.loop-slot.invariant) ∙ (λ i. list_any (λ y. nat_eq_equiv.symm y x i) done) in
    let next : (b : Bool) → c.contains.result ≡ b → firsts nat_eq (take (n + 1) slots) ≡ cond b done (done ++ x ∷ []) = λ b e. (
    ap (firsts nat_eq) (take_more slots n 0 (omega arith)) ∙ firsts-push nat_eq_equiv (take n slots) x ∙ ap (λ t. cond t done (done ++ x ∷ [])) (sym any ∙ e)) in
    elim c.if-not-contains.branch [
      | then-not-contains+in_ok-push w ↦
          ap (λ (v : _). v.items) w.distinct-is ∙ w.in_ok-push.ensures.items ∙ ap (λ l. l ++ x ∷ []) c.loop-slot.invariant ∙ sym (next false w.if-not-contains.true)
      | else-not-contains w ↦ ap (λ (v : _). v.items) w.distinct-is ∙ c.loop-slot.invariant ∙ sym (next true w.if-not-contains.false)
    ]
