use Rattle.std.proofs.Common.{◌≡◌, ◌-◌, length, take, ap, ◌∙◌, arith}
use Rattle.std.specs.List.{enumerate_from}
use Rattle.std.proofs.lemmas.List.FromFn.{length-enumerate_from}
use Rattle.xq_sources.specs.Lent.{placed_between}
use Rattle.xq_store.proofs.FrontLaws.{all-first}
use Rattle.xq_store.proofs.shelves.all_of.Goals as goal

pub returns : goal.returns
returns c =
    let rows = c.args.rows.now.rows in
    let whole : length rows - 0 ≡ length rows = omega arith in
    c.packed.ensures ∙ ap (placed_between rows 0) c.len.ensures.rows ∙ ap (λ n. take n (enumerate_from 0 rows)) whole
    ∙ all-first (length rows) (enumerate_from 0 rows) (let many = length-enumerate_from 0 rows in omega (arith, many))
