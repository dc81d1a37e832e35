use Rattle.std.proofs.Common.{sym, ◌∙◌}
use Rattle.std.proofs.lemmas.Bool.{true≢false}
use Rattle.xq_trees.proofs.Encoding.{encoding, passes, names_of_rows}
use Rattle.xq_trees.proofs.listings.is_encoding.Goals as goal

pub returns-then-not-are_numbered-clause-encodes : goal.returns-then-not-are_numbered-clause-encodes
returns-then-not-are_numbered-clause-encodes c =
    (λ t. absurd (true≢false (sym t)), λ e. absurd (true≢false (sym (c.are_numbered.ensures.1 e.1.numbered) ∙ c.if-not-are_numbered.true)))

pub returns-then-not-is_nested_list-clause-encodes : goal.returns-then-not-is_nested_list-clause-encodes
returns-then-not-is_nested_list-clause-encodes c =
    (λ t. absurd (true≢false (sym t)), λ e. absurd (true≢false (sym (c.is_nested_list.ensures.1 (passes c.args.rows.now e.0 e.1)) ∙ c.if-not-is_nested_list.true)))

pub returns-clause-encodes : goal.returns-clause-encodes
returns-clause-encodes c =
    let numbered = c.are_numbered.ensures.0 c.if-not-are_numbered.false in
    let nested = c.is_nested_list.ensures.0 c.if-not-is_nested_list.false in
    (λ t. encoding c.args.rows.now numbered nested (c.are_names_distinct.ensures.distinct.0 t), λ e. c.are_names_distinct.ensures.distinct.1 (names_of_rows c.args.rows.now e.0 e.1))
