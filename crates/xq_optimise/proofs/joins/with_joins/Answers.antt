use Rattle.std.proofs.Common.{rules, ◌≡◌, ◌++◌, ◌∷◌, [], ◌∙◌, reverse, sym, ap, subst}
use Rattle.std.proofs.lemmas.List.{append_assoc, reverse-append, reverse-reverse}
use Rattle.xq_optimise.specs.private.Joins.{SameList}
use Rattle.xq_optimise.proofs.JoinLaws.{list_itself, list_then, list_after, joins_done}
use Rattle.xq_optimise.proofs.joins.with_joins.Goals as goal

pub loop-next-init : goal.loop-next-init
loop-next-init c =
    let list = c.args.list in
    subst (SameList c.args.outer list) (sym (ap (λ l. l ++ reverse c.in_ok-left.left.items) c.new-found.ensures ∙ ap reverse c.in_ok-left.ensures ∙ reverse-reverse list)) (list_itself c.args.outer list)

pub loop-next-preserved : goal.loop-next-preserved
loop-next-preserved c =
    let list = c.args.list in
    let outer = c.args.outer in
    let found = c.loop-next.found in
    let rest = c.pop.new.self.items in
    let next = c.in-Some.next in
    let after = c.in_ok-found.found in
    let cut : found ++ reverse c.loop-next.left.items ≡ (found ++ next ∷ []) ++ reverse rest =
    ap (λ l. found ++ reverse l) c.in-Some.ensures.items ∙ ap (λ l. found ++ l) (reverse-append rest (next ∷ [])) ∙ sym (append_assoc found (next ∷ []) (reverse rest)) in
    list_then outer list ((found ++ next ∷ []) ++ reverse rest) (after ++ reverse rest)
    (subst (SameList outer list) cut c.loop-next.invariant)
    (list_after outer (found ++ next ∷ []) after (reverse rest) c.in_ok-found.ensures)

pub returns : goal.returns
returns c = joins_done c.args.outer c.args.list c.loop-next.found c.loop-next.left.items c.loop-next.invariant (search rules)
