use Rattle.std.proofs.Common.{◌≡◌, ◌+◌, ◌++◌, ◌∷◌, [], ◌∙◌, take, length, get_or, sym, ap, ap₂, arith}
use Rattle.std.proofs.lemmas.List.{length-take-le, take_all, take_more}
use Rattle.sqlite_value.specs.declared.value.Value.TheVariants.{Text}
use Rattle.xq_trees.specs.Rows.{no_row}
use Rattle.xq_sources.specs.Lent.{placed_lent}
use Rattle.xq_tables.specs.private.Numbered.{columns_of, numbered_cells}
use Rattle.xq_tables.proofs.Numberings.{address_pushed, columns_more}
use Rattle.xq_tables.proofs.additions.columns_under.Goals as goal

pub loop-at-init : goal.loop-at-init
loop-at-init c = address_pushed c.in_ok-values.values.items c.push.new.self.items _ c.args.address.now c.in_ok-push.ensures.items c.in_ok-values.ensures.items (ap (λ t. Text t) c.as_bytes.ensures.value)

pub loop-at-preserved : goal.loop-at-preserved
loop-at-preserved c =
    let rows = c.args.rows.now in
    let numbers = c.args.numbers.now in
    let i = c.loop-at.at in
    let n = placed_lent c.row.result in
    let m = get_or numbers i 0 in
    let ns : take (i + 1) rows ≡ take i rows ++ n ∷ [] = take_more rows i (0, no_row) (omega arith) ∙ ap (λ y. take i rows ++ y ∷ []) (sym c.row.ensures) in
    let ms : take (i + 1) numbers ≡ take i numbers ++ m ∷ [] = take_more numbers i 0 (omega arith) in
    let same : length (take i rows) ≡ length (take i numbers) = length-take-le i rows (omega arith) ∙ sym (length-take-le i numbers (omega arith)) in
    let more : columns_of (take (i + 1) rows) (take (i + 1) numbers) ≡ columns_of (take i rows) (take i numbers) ++ numbered_cells n m = ap₂ columns_of ns ms ∙ columns_more (take i rows) (take i numbers) n m same in
    c.in_ok-push_columns.ensures ∙ ap (λ l. l ++ numbered_cells n m) c.loop-at.invariant ∙ ap (λ l. Text c.args.address.now ∷ l) (sym more)

pub returns : goal.returns
returns c =
    c.loop-at.invariant
    ∙ ap₂ (λ ns ms. Text c.args.address.now ∷ columns_of ns ms) (take_all c.loop-at.at c.args.rows.now (omega (arith, c.loop-at-test.false))) (take_all c.loop-at.at c.args.numbers.now (omega (arith, c.loop-at-test.false)))
