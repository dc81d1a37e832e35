use Rattle.std.proofs.Common.{◌≡◌, ◌↔◌, true, sym, ◌∙◌}
use Rattle.std.specs.Prelude.{IsTrue}
use Rattle.std.proofs.lemmas.Bool.{true≢false}
use Rattle.xq_trees.specs.Tree.{Tree}
use Rattle.xq_trees.specs.Rows.{tree_of, AreRowsOf}
use Rattle.xq_trees.specs.private.Checks.{AreNamed}
use Rattle.xq_trees.proofs.AttributeRuns.{if_ok}
use Rattle.xq_trees.proofs.Encoding.{encodes, rows_pass_of, rows_are_named}
use Rattle.xq_trees.proofs.encodings.is_tree.Goals as goal

pub returns-then-not-is_nested-clause-tree : goal.returns-then-not-is_nested-clause-tree
returns-then-not-is_nested-clause-tree g c =
    let no : c.is_nested.result ≡ true → ⊥ = λ t. true≢false (sym t ∙ c.if-not-is_nested.true) in
    (λ t. absurd (true≢false (sym t)), λ e. absurd (no (c.is_nested.ensures.passes.1 (rows_pass_of _ e.0 e.1))))

pub returns-clause-tree : goal.returns-clause-tree
returns-clause-tree g c =
    let rs = g.R.TreeRows.listed c.args.rows.now in
    let passed = c.is_nested.ensures.passes.0 c.if-not-is_nested.false in
    let texts = c.is_nested.ensures.texts c.if-not-is_nested.false in
    if_ok (λ d. IsTrue d ↔ AreNamed rs) (λ d. IsTrue d ↔ ((t : Tree) × AreRowsOf rs t))
    (λ d h. (λ t. (tree_of rs, encodes rs texts passed (h.0 t)), λ e. h.1 (rows_are_named rs e.0 e.1)))
    c.are_names_distinct.result c.are_names_distinct.ensures.distinct
