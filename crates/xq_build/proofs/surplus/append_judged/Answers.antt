use Rattle.std.proofs.Common.{◌∙◌, sym, map}
use Rattle.xq_trees.specs.Levels.{flat}
use Rattle.xq_build.proofs.Contents.{childless_node}
use Rattle.xq_build.proofs.Subtrees.{whole_copied}
use Rattle.xq_build.proofs.Surpluses.{no_document, short_along, short_attribute, short_document}
use Rattle.xq_build.proofs.surplus.append_judged.Goals as goal

pub returns-in_ok-append_whole-in-Attribute-clause-shortens :
    goal.returns-in_ok-append_whole-in-Attribute-clause-shortens
returns-in_ok-append_whole-in-Attribute-clause-shortens g c = λ h seen.
    short_attribute (g.L.TreeSource.forest c.args.source.now) c.args.node (map flat c.args.rows.now.rows) (map flat c.append_whole.new.copies.rows) c.args.seen.now.keys
    (whole_copied (g.L.TreeSource.forest c.args.source.now) (g.L.TreeSource.forest c.shape_of_node.new.source) c.args.node c.in_ok-shape.shape
    (map flat c.args.rows.now.rows) (map flat c.append_whole.new.copies.rows) (sym c.shape_of_node.ensures.keeps)
    (c.in_ok-shape.ensures.found (c.append_whole.ensures.was_clean h)) (no_document c.in_ok-shape.shape.kind c.in-Attribute.is) (c.in_ok-append_whole-in-Attribute.ensures.copied h)) seen

pub returns-in_ok-append_whole-in-Attribute-clause-childless :
    goal.returns-in_ok-append_whole-in-Attribute-clause-childless
returns-in_ok-append_whole-in-Attribute-clause-childless g c = λ h.
    childless_node (g.L.TreeSource.forest c.args.source.now) c.args.node c.in_ok-shape.shape (c.in_ok-shape.ensures.found (c.append_whole.ensures.was_clean h))

pub returns-in-Document-clause-shortens : goal.returns-in-Document-clause-shortens
returns-in-Document-clause-shortens g c = λ h seen.
    short_document (g.L.TreeSource.forest c.args.source.now) c.args.node c.in_ok-shape.shape (map flat c.args.rows.now.rows) c.args.seen.now.keys (c.in_ok-shape.ensures.found h) c.in-Document.is seen

pub returns-in-Document-clause-childless : goal.returns-in-Document-clause-childless
returns-in-Document-clause-childless g c = λ h.
    childless_node (g.L.TreeSource.forest c.args.source.now) c.args.node c.in_ok-shape.shape (c.in_ok-shape.ensures.found h)

pub returns-in_ok-append_if_high-in_default : goal.returns-in_ok-append_if_high-in_default
returns-in_ok-append_if_high-in_default g c = record {
  shortens = λ h seen.
      short_along (g.L.TreeSource.forest c.args.source.now) (g.L.TreeSource.forest c.shape_of_node.new.source) c.args.node c.in_ok-shape.shape (map flat c.args.rows.now.rows)
      (map flat c.append_if_high.new.rows.rows) c.args.seen.now.keys c.append_if_high.new.seen.keys c.shape_of_node.ensures.keeps
      (c.in_ok-shape.ensures.found (c.append_if_high.ensures.was_clean h)) seen (c.in_ok-append_if_high-in_default.ensures.shortens h);
  childless = λ h.
      childless_node (g.L.TreeSource.forest c.args.source.now) c.args.node c.in_ok-shape.shape (c.in_ok-shape.ensures.found (c.append_if_high.ensures.was_clean h));
  keeps = c.append_if_high.ensures.keeps ∙ c.shape_of_node.ensures.keeps;
  was_clean = λ h. c.shape_of_node.ensures.was_clean (c.append_if_high.ensures.was_clean h);
}
