use Rattle.std.proofs.Common.{◌≡◌, ℕ, IfSome, ap, sym, subst, ◌∙◌}
use Rattle.std.specs.Global.{Vec}
use Rattle.xq_sources.specs.Sources.{tree_at}
use Rattle.xq_axes.specs.Owners.{has_valued, owns_valued}
use Rattle.xq_axes.specs.private.Hits.{is_among, IsRising}
use Rattle.xq_axes.proofs.owners.with_value.Goals as goal

pub returns-clause-kept : goal.returns-clause-kept
returns-clause-kept g c = λ k.
    let trees = g.L.TreeSource.forest c.args.source.now in
    let later = g.L.TreeSource.forest c.find_values.new.self in
    let tree = c.in-Some-Node.node.tree in
    let name = c.args.name.now in
    let value = c.args.value.now in
    let own = subst (λ o. IfSome o (λ (v : Vec ℕ). (n : ℕ) → is_among v.items n ≡ owns_valued (tree_at later tree) name value n)) c.in-Some.is (c.in_ok-owners.ensures.owners k) in
    let rising = subst (λ o. IfSome o (λ (v : Vec ℕ). IsRising v.items)) c.in-Some.is c.in_ok-owners.ensures.rising in
    let there = c.deref.ensures.value in
    c.keep_at.ensures (subst (λ l. IsRising l) (sym there) rising) (has_valued trees name value)
    (λ n. ap (λ f. owns_valued (tree_at f tree) name value n) (sym c.find_values.ensures.keeps) ∙ sym (own n) ∙ ap (λ l. is_among l n) (sym there))
