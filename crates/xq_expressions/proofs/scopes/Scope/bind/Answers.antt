use Rattle.std.proofs.Common.{rules, ◌≡◌, [], ◌∷◌, ◌++◌, length, Some, sym, ◌∙◌, ap, subst}
use Rattle.indexmap.specs.IndexMap.{keys}
use Rattle.xq_expressions.specs.declared.scopes.Bound.{Bound}
use Rattle.xq_expressions.specs.Scopes.{last_place}
use Rattle.xq_expressions.specs.private.Kept.{names_of, in_scope, IsLast, AreHidden, AreNumbered}
use Rattle.xq_expressions.proofs.LastPlaces.{Writes, last-bind, hidden-stay, hidden-snoc, names-stay, at_number, bound-stays, bound-own, bound-names, numbered-stay, numbered-snoc}
use Rattle.xq_expressions.proofs.scopes.Scope.bind.Goals.{in-Some, in-None}
use Rattle.xq_expressions.proofs.scopes.Scope.bind.Goals as goal

pub invariant_of-self-2 : goal.invariant_of-self-2
invariant_of-self-2 c =
    let bound = c.self.inside.bound.items in
    let old = c.self.inside.last in
    let new = c.insert_full.new.self in
    let key = c.args.name in
    let b : Bound = record { number = c.in_ok-number.number; hidden = c.match-before.hidden } in
    let now : c.push_reserved.new.self.items ≡ bound ++ b ∷ [] = c.push_reserved.ensures.items ∙ ap (λ xs. xs ++ b ∷ []) c.reserve.ensures.items in
    let place : c.len-place.result ≡ length bound = search (rules, c.len-place.ensures) in
    let inserted = c.in_ok-number.ensures.entries in
    let index = c.in_ok-number.ensures.index in
    let written = subst (λ v. Writes old new bound b key.now v) c.at.ensures c.in_ok-number.ensures.updates in
    let stays = bound-stays old new bound b key c.at.result inserted index in
    let own = bound-own old new bound b key c.at.result inserted index in
    let name = at_number (keys new) b.number key.now own in
    let same = names-stay (keys old) (keys new) stays bound c.self.invariant.2 in
    let before : in_scope c.in_ok-number.before ≡ last_place key.now 0 (names_of (keys old) bound) =
    ap in_scope c.in_ok-number.ensures.old ∙ c.self.invariant.0 key.now in
    let hidden : c.match-before.hidden ≡ in_scope c.in_ok-number.before =
    elim c.match-before.branch [ in-Some w ↦ w.hidden-is ∙ ap in_scope (sym w.in-Some.is) | in-None w ↦ w.hidden-is ∙ w.none-hidden.ensures ∙ ap in_scope (sym w.in-None.is) ] in (
      subst (IsLast new) (sym now) (last-bind old new bound b key.now c.len-place.result place (bound-names old new bound b key c.at.result inserted index c.self.invariant.2) c.self.invariant.0 written),
      subst (AreHidden (keys new) []) (sym now) (hidden-snoc (keys new) [] bound b (hidden-stay (keys old) (keys new) stays [] bound c.self.invariant.2 c.self.invariant.1)
          (hidden ∙ before ∙ ap (last_place key.now 0) (sym same) ∙ ap (λ n. last_place n 0 (names_of (keys new) bound)) (sym name))),
      subst (AreNumbered (keys new)) (sym now) (numbered-snoc (keys new) bound b (numbered-stay (keys old) (keys new) stays bound c.self.invariant.2) (own ∙ ap Some (sym name))),
    )

pub returns-clause-bound : goal.returns-clause-bound
returns-clause-bound c =
    let bound = c.self.inside.bound.items in
    let new = c.insert_full.new.self in
    let b : Bound = record { number = c.in_ok-number.number; hidden = c.match-before.hidden } in
    let now : c.push_reserved.new.self.items ≡ bound ++ b ∷ [] = c.push_reserved.ensures.items ∙ ap (λ xs. xs ++ b ∷ []) c.reserve.ensures.items in
    ap (names_of (keys new)) now
    ∙ bound-names c.self.inside.last new bound b c.args.name c.at.result c.in_ok-number.ensures.entries c.in_ok-number.ensures.index c.self.invariant.2
    ∙ ap (λ names. names ++ c.args.name.now ∷ []) c.self.view_is
