use Rattle.std.proofs.Common.{◌≡◌, ◌%◌, Bool, true, false, not, refl, Some, length, sym, ◌∙◌, subst}
use Rattle.std.specs.Prelude.{bytes_eq}
use Rattle.std.proofs.lemmas.List.Elements.{All-set}
use Rattle.std.proofs.lemmas.Slice.Eq.{bytes_eq-Decides}
use Rattle.xq_packed.specs.Packed.{IsNumbered}
use Rattle.xq_packed.specs.private.Copies.{IsKnown}
use Rattle.xq_packed.specs.private.Shapes.{name_at}
use Rattle.xq_packed.proofs.Numbering.{name-numbered}
use Rattle.xq_packed.proofs.equal.is_same_name.Goals as goal
use Rattle.xq_packed.proofs.equal.is_same_name.Goals.{Else-ne}

turned : (b : Bool) → false ≡ not b → b ≡ true
turned true e = refl
turned false e = cc

-- the two names
both : (c : Else-ne) → c.get.result.now ≡ c.get-2.result.now
both c =
    (bytes_eq-Decides c.get.result.now c.get-2.result.now).0 (turned (bytes_eq c.get.result.now c.get-2.result.now) (sym c.if-ne.false ∙ c.ne.ensures))

mine : (c : Else-ne) → name_at c.args.names.now c.args.number ≡ c.get.result.now
mine c = (name-numbered c.args.names.now c.args.number c.get.result.now c.get.ensures).1

its : (c : Else-ne) → name_at c.args.others.now c.args.other ≡ c.get-2.result.now
its c = (name-numbered c.args.others.now c.args.other c.get-2.result.now c.get-2.ensures).1

pub returns-clause-same : goal.returns-clause-same
returns-clause-same c t = mine c ∙ both c ∙ sym (its c)

pub returns-clause-known : goal.returns-clause-known
returns-clause-known c =
    let names = c.args.names.now in
    let others = c.args.others.now in
    let here : IsNumbered names c.args.number (name_at others c.args.other) = subst (λ t. IsNumbered names c.args.number t) (both c ∙ sym (its c)) c.get.ensures in
    All-set (IsKnown others names) c.args.known.now (c.args.other % length c.args.known.now) (Some (c.args.other, c.args.number)) here c.requires.known
