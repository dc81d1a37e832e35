use Rattle.std.proofs.Common.{◌≡◌, ◌++◌, [], ◌∙◌, ap, sym, arith, map, take, List, Option}
use Rattle.std.specs.Prelude.{string_bytes}
use Rattle.std.specs.Global.{Vec}
use Rattle.std.specs.HashMap.{get_by_text}
use Rattle.std.specs.Option.{option_copied, option_map_or}
use Rattle.std.specs.List.{list_any}
use Rattle.std.proofs.lemmas.List.{append-nil}
use Rattle.xq_trees.specs.declared.items.Node.{Node}
use Rattle.xq_joins.specs.private.Tables.{nodes_with}
use Rattle.xq_joins.proofs.Lists.{seen_next}
use Rattle.xq_joins.proofs.Found.{more_gathered}
use Rattle.xq_joins.proofs.keys.gathered.Goals as goal
use Rattle.xq_joins.proofs.keys.gathered.Goals.{in-Some+in_ok-extend_from_slice, in_default}

pub loop-text-preserved : goal.loop-text-preserved
loop-text-preserved c = λ p.
    let table = c.args.table.now in
    let texts = c.args.texts.now in
    let n = c.loop-text.text-index in
    let text = string_bytes c.text-item.result in
    let done = map string_bytes (take n texts) in
    let nodes = c.loop-text.nodes.items in
    let looked : get_by_text table text ≡ option_copied c.get.result = ap (get_by_text table) (sym c.as_str.ensures.value) ∙ sym c.get.ensures.value in
    let all = λ (ts : List (List _)). list_any (λ t. list_any p (nodes_with table t)) ts in
    let same = sym (ap all (seen_next string_bytes texts n c.text-item.result (omega arith) c.text-item.is)) in
    let items = λ (o : Option (Vec Node)). option_map_or (λ (found : Vec Node). found.items) o [] in
    elim c.match-get.branch [
      | in-Some+in_ok-extend_from_slice w ↦
          let found : nodes_with table text ≡ w.in-Some.found.now.items = ap items (looked ∙ ap option_copied w.in-Some.is) in
          more_gathered table done text nodes c.match-get.nodes.items c.loop-text.invariant
          (ap (λ (v : Vec Node). v.items) w.nodes-is ∙ w.in_ok-extend_from_slice.ensures.items ∙ ap (λ l. nodes ++ l) (w.deref.ensures.value ∙ sym found)) p ∙ same
      | in_default w ↦
          let none : nodes_with table text ≡ [] = ap items (looked ∙ ap option_copied w.in_default.is) in
          more_gathered table done text nodes c.match-get.nodes.items c.loop-text.invariant
          (ap (λ (v : Vec Node). v.items) w.nodes-is ∙ sym (append-nil nodes) ∙ ap (λ l. nodes ++ l) (sym none)) p ∙ same
    ]
