use Rattle.std.proofs.Common.{◌≡◌, ◌<◌, ◌∷◌, ◌++◌, [], ◌∙◌, List, Option, map, length, take, slice_index_or, sym, ap, subst, arith}
use Rattle.std.specs.Prelude.{String, string_bytes, IfSome}
use Rattle.std.specs.Global.{Global, Vec}
use Rattle.std.proofs.lemmas.List.{take_more}
use Rattle.xq_sources.specs.Sources.{HasNode}
use Rattle.xq_trees.specs.declared.items.Node.{Node}
use Rattle.xq_trees.specs.Items.{Place}
use Rattle.xq_trees.specs.Tree.{Tree}
use Rattle.xq_joins.specs.private.JoinKeys.{IsKeyOf}
use Rattle.xq_joins.specs.private.Tables.{IsTable}
use Rattle.xq_joins.proofs.Found.{table_next}
use Rattle.xq_joins.proofs.Lists.{all_index}
use Rattle.xq_joins.proofs.keys.table_of.Goals as goal

pub loop-node-preserved : goal.loop-node-preserved
loop-node-preserved g c =
    let i = c.loop-node.invariant in
    let equality = c.args.equality in
    let old = g.L.TreeSource.forest c.args.source.now in
    let f = g.L.TreeSource.forest c.loop-node.source in
    let nodes = c.args.nodes.now in
    let n = c.loop-node.node-index in
    let none : Node = record { tree = 0; pre = 0 } in
    let node = slice_index_or nodes n none in
    let key = c.args.key.now in
    let texts = map string_bytes c.in-Some.texts.items in
    let within : n < length nodes = omega arith in
    record {
      keeps = c.node_texts.ensures.keeps ∙ i.keeps;
      was_clean = λ k. i.was_clean (c.node_texts.ensures.was_clean k);
      table = λ k have.
          let there = subst (λ (t : List Tree). HasNode t node.tree node.pre) (sym i.keeps) (all_index (λ (m : Node). HasNode old m.tree m.pre) nodes n none have within) in
          let told : IsKeyOf equality old key (Place node ∷ []) texts =
          subst (λ (t : List Tree). IsKeyOf equality t key (Place node ∷ []) texts) i.keeps
          (subst (λ (o : Option (Vec (String Global))). IfSome o (λ ts. IsKeyOf equality f key (Place node ∷ []) (map string_bytes ts.items))) c.in-Some.is (c.in_ok-texts.ensures.texts k there)) in
          subst (λ ns. IsTable equality old key ns c.add_each.new.table) (sym (take_more nodes n none within))
          (table_next equality old key (take n nodes) node texts c.loop-node.table c.add_each.new.table (i.table (c.node_texts.ensures.was_clean k) have) told c.in_ok-add_each.ensures);
    }
