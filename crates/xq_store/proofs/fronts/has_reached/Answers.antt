use Rattle.std.proofs.Common.{◌<◌, length, set, refl, sym, subst, arith}
use Rattle.std.proofs.lemmas.Bool.{ltb-true}
use Rattle.std.proofs.lemmas.List.FromFn.{length-enumerate_from}
use Rattle.xq_sources.specs.Sources.{tree_at}
use Rattle.xq_store.specs.private.Shelves.{kept_rows}
use Rattle.xq_store.proofs.FrontLaws.{fronts_set, front_set, its_front, reached_in}
use Rattle.xq_store.proofs.fronts.has_reached.Goals as goal

pub returns-clause-fronts : goal.returns-clause-fronts
returns-clause-fronts c = λ trees are.
    let at = c.args.tree in
    let fronts = c.args.shelf.now.fronts.items in
    let within : at < length fronts = omega (arith, c.in-Some.ensures.variant.0 refl, c.args.shelf.now.fronts.ok.0) in
    let before = its_front trees fronts at c.in-Some.front.now are within c.in-Some.ensures.value in
    let wanted = c.want.new.self in
    let is = c.want.ensures (tree_at trees at) before in
    fronts_set trees fronts at wanted are is

pub returns-clause-reached : goal.returns-clause-reached
returns-clause-reached c more = λ trees are.
    let at = c.args.tree in
    let fronts = c.args.shelf.now.fronts.items in
    let within : at < length fronts = omega (arith, c.in-Some.ensures.variant.0 refl, c.args.shelf.now.fronts.ok.0) in
    let before = its_front trees fronts at c.in-Some.front.now are within c.in-Some.ensures.value in
    let wanted = c.want.new.self in
    let is = c.want.ensures (tree_at trees at) before in
    let longer : c.args.place < length (kept_rows wanted) = let e = c.len.ensures in let l = length-enumerate_from 0 wanted.rows.rows in let m = ltb-true c.args.place c.len.result more in omega (arith, e, l, m) in
    reached_in trees (set fronts at wanted) at c.args.place (fronts_set trees fronts at wanted are is) (subst (λ rows. c.args.place < length rows) (sym (front_set fronts at wanted within)) longer)
