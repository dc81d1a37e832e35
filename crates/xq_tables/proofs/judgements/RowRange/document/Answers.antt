use Rattle.std.proofs.Common.{◌≡◌, inl, inr, length, map, ap, sym, ◌∙◌, arith}
use Rattle.xq_tables.specs.Nodes.{cells}
use Rattle.xq_tables.proofs.Calls.{encoded}
use Rattle.xq_tables.proofs.Runs.{no_tree, no_document}
use Rattle.xq_tables.proofs.judgements.RowRange.document.Goals as goal

pub returns-in_default-clause-err : goal.returns-in_default-clause-err
returns-in_default-clause-err c none whole =
    elim whole [
      | inl empty ↦
          let size : c.args.self.nodes.len ≡ 0 = omega (arith, ap length empty, c.args.self.nodes.ok.0) in
          absurd (let some = rw size at (sym c.is_empty.ensures ∙ c.if-is_empty.false) in cc)
      | inr good ↦ no_tree c.args.self.nodes.items c.in_default.ensures.err good.1
    ]

pub returns-in_ok-found-clause-ok : goal.returns-in_ok-found-clause-ok
returns-in_ok-found-clause-ok c = (
  c.in_ok-found.ensures.address,
  rw c.deref.ensures.value at (c.address_ok.ensures.0 c.if-not-address_ok.false),
  record {
    tree = c.in-Ok.document;
    is_document = record { is_tree = c.in-Ok.ensures.ok.is_tree; root = c.is_document.ensures.0 c.if-is_document.true };
    same = ap (map cells) (encoded c.args.self.nodes.items c.in-Ok.document c.in-Ok.ensures.ok);
    kept = c.in_ok-found.ensures.kept;
  },
)

pub returns-else-is_document-clause-err : goal.returns-else-is_document-clause-err
returns-else-is_document-clause-err c none whole =
    elim whole [
      | inl empty ↦
          let size : c.args.self.nodes.len ≡ 0 = omega (arith, ap length empty, c.args.self.nodes.ok.0) in
          absurd (let some = rw size at (sym c.is_empty.ensures ∙ c.if-is_empty.false) in cc)
      | inr good ↦ no_document c.args.self.nodes.items c.in-Ok.document c.in-Ok.ensures.ok (λ root. let f = sym c.if-is_document.false ∙ c.is_document.ensures.1 root in cc) good.1
    ]
