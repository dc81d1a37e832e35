use Rattle.std.proofs.Common.{sym, ◌∙◌}
use Rattle.std.proofs.lemmas.Str.{encodes-chars}
use Rattle.std.specs.Str.{chars}
use Rattle.xq_atoms.specs.Text.{text_cmp}
use Rattle.xq_readback.proofs.Orders.{order_of_bytes}
use Rattle.xq_readback.proofs.atom_laws.stands_by_characters.Goals as goal

pub returns : goal.returns
returns c =
    let left = c.args.left.now in
    let right = c.args.right.now in
    sym (λ i. text_cmp (encodes-chars left c.utf8.left i) (encodes-chars right c.utf8.right i)) ∙ order_of_bytes (chars left) (chars right)
