use Rattle.std.proofs.Common.{Option, ◌∷◌, [], ◌∙◌, ap, map, subst}
use Rattle.std.specs.Prelude.{String, string_bytes, IfSome}
use Rattle.std.specs.Global.{Global}
use Rattle.xq_trees.specs.Items.{item_view}
use Rattle.xq_joins.specs.private.AtomKeys.{IsAtomText}
use Rattle.xq_joins.proofs.JoinKeys.{atom_key}
use Rattle.xq_joins.proofs.join_keys.atom_text.Goals as goal

pub returns : goal.returns
returns c = λ equality trees.
    let views = map item_view c.args.items.now in
    let held = subst (λ (o : Option (String Global)). IfSome o (λ t. IsAtomText views (string_bytes t))) c.in-Some.is c.in_ok-text.ensures in
    atom_key trees equality c.args.key.now views held.atom (map string_bytes c.in_ok-alone.field-0.items)
    c.in-String.is (c.is_empty.ensures.0 c.if-not-is_empty.false) held.are
    (c.in_ok-alone.ensures ∙ ap (λ t. t ∷ []) held.is)
