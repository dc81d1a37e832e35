use Rattle.std.proofs.Common.{◌≡◌, ◌-◌, ◌∙◌, get_or, length, sym, subst, arith}
use Rattle.std.specs.declared.cmp.Ordering.TheVariants.{Less}
use Rattle.std.proofs.lemmas.Option.{get_or_from_slice_get, slice_get-get_or}
use Rattle.xq_trees.specs.Rising.{document_order}
use Rattle.xq_trees.proofs.Rising.{less_of, rising_more}
use Rattle.xq_trees.proofs.merges.comes_after.Goals as goal

pub returns-in-Some : goal.returns-in-Some
returns-in-Some c = λ e up. (
    let xs = c.args.nodes.now in
    let y = c.args.node.now in
    let last = c.in-Some.last.now in
    let is = get_or_from_slice_get xs (length xs - 1) last y (sym c.in-Some.ensures.value) in
    rising_more xs y y up (λ i n. (
    let same : length xs - 1 ≡ i = omega (arith, n) in
    subst (λ k. document_order (get_or xs k y) y ≡ Less) same (subst (λ z. document_order z y ≡ Less) (sym is) (less_of _ (sym e ∙ c.comes_before.ensures))))))

pub returns-in-None : goal.returns-in-None
returns-in-None c = λ e up. (
    let xs = c.args.nodes.now in
    let y = c.args.node.now in
    rising_more xs y y up (λ i n. absurd (
    let at = slice_get-get_or xs (length xs - 1) y (omega (arith, n)) in
    let none = c.in-None.ensures.value in
    cc)))
