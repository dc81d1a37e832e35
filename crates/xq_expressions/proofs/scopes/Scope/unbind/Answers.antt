use Rattle.std.proofs.Common.{◌≡◌, [], ◌∷◌, ◌++◌, sym, ◌∙◌, ap, subst}
use Rattle.std.specs.Option.{option_to_list, option_copied_mut}
use Rattle.std.proofs.lemmas.Option.{none-some}
use Rattle.indexmap.specs.IndexMap.{keys, with_value_at}
use Rattle.indexmap.proofs.CallerLemmas.{keys-with_value_at}
use Rattle.xq_expressions.specs.declared.scopes.Bound.{Bound}
use Rattle.xq_expressions.specs.Scopes.{last_place}
use Rattle.xq_expressions.specs.private.Kept.{names_of, name_at, IsLast, AreHidden, AreNumbered}
use Rattle.xq_expressions.proofs.LastPlaces.{names-snoc, before_last, last-unbind, hidden-init, numbered-init, value_at, written_by_number}
use Rattle.xq_expressions.proofs.scopes.Scope.unbind.Goals.{in-Some-get_index_mut, in_default-get_index_mut}
use Rattle.xq_expressions.proofs.scopes.Scope.unbind.Goals as goal

pub invariant_of-self-2 : goal.invariant_of-self-2
invariant_of-self-2 c =
    let bound = c.pop.new.self.items in
    let b : Bound = c.in-Some.variable in
    let old = c.self.inside.last in
    let new = with_value_at old b.number b.hidden in
    let own = name_at (keys old) b.number in
    let was : c.self.inside.bound.items ≡ bound ++ b ∷ [] = c.pop.ensures.items ∙ ap (λ o. bound ++ option_to_list o) c.in-Some.is in
    let same : keys new ≡ keys old = keys-with_value_at old b.number b.hidden in
    let hidden = hidden-init (keys old) [] bound b (subst (AreHidden (keys old) []) was c.self.invariant.1) in
    let number = numbered-init (keys old) bound b (subst (AreNumbered (keys old)) was c.self.invariant.2) in
    let last = subst (IsLast old) was c.self.invariant.0 in
    let names = names-snoc (keys old) bound b ∙ ap (λ ks. names_of ks bound ++ own ∷ []) (sym same) in
    elim c.match-get_index_mut.branch [
      | in-Some-get_index_mut w ↦
          rw w.self-inside-is (
            last-unbind old new bound b own names last (hidden.1 ∙ ap (λ ks. last_place own 0 (names_of ks bound)) (sym same)) (written_by_number old bound b own c.get_index_mut.ensures.unique number.1),
            subst (λ names. AreHidden names [] bound) (sym same) hidden.0,
            subst (λ names. AreNumbered names bound) (sym same) number.0,
          )
      | in_default-get_index_mut w ↦
          let v = value_at old.entries b.number own number.1 in
          absurd (none-some v.0 (sym (ap option_copied_mut w.in_default-get_index_mut.is) ∙ c.get_index_mut.ensures.value ∙ v.1))
    ]

pub returns : goal.returns
returns c =
    let bound = c.pop.new.self.items in
    let b : Bound = c.in-Some.variable in
    let old = c.self.inside.last in
    let was : c.self.inside.bound.items ≡ bound ++ b ∷ [] = c.pop.ensures.items ∙ ap (λ o. bound ++ option_to_list o) c.in-Some.is in
    let whole = sym (names-snoc (keys old) bound b) ∙ ap (names_of (keys old)) (sym was) ∙ c.self.view_is in
    let taken = before_last (names_of (keys old) bound) (name_at (keys old) b.number) c.args.self.now whole in
    elim c.match-get_index_mut.branch [
      | in-Some-get_index_mut w ↦ rw w.self-inside-is (ap (λ ks. names_of ks bound) (keys-with_value_at old b.number b.hidden) ∙ taken)
      | in_default-get_index_mut w ↦ rw w.self-inside-is taken
    ]
