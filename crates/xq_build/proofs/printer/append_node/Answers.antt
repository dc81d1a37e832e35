use Rattle.std.proofs.Common.{◌≡◌, ◌+◌, string_bytes, arith}
use Rattle.std.proofs.lemmas.Result.{err_from_is_err_and}
use Rattle.xq_sources.specs.Lent.{placed_lent}
use Rattle.xq_build.proofs.Written.{appended, node_begun, node_refused}
use Rattle.xq_build.proofs.printer.append_node.Goals as goal

pub returns-in_err-depth-clause-appends : goal.returns-in_err-depth-clause-appends
returns-in_err-depth-clause-appends g c = λ h is.
    (let e : c.in-Some.last ≡ c.args.node.pre + c.args.root.now.size = omega (arith, c.in-Some.ensures) in
    let p = err_from_is_err_and c.from_residual.result c.from_residual.ensures.1 in
    rw (p.1, p.2)
    (node_refused c.args.limit c.in_err-depth.field-0.0 (g.L.TreeSource.forest c.args.source.now) c.args.node c.args.root.now (placed_lent c.new.result) c.in-Some.last (string_bytes c.args.text.now) is c.new.ensures e c.in_err-depth.ensures))

pub returns-clause-appends : goal.returns-clause-appends
returns-clause-appends g c = λ h is.
    (let e : c.in-Some.last ≡ c.args.node.pre + c.args.root.now.size = omega (arith, c.in-Some.ensures) in
    appended c.args.limit _ _ c.append_nodes.result c.args.text.now c.append_row.new.text c.append_nodes.new.text
    (node_begun (g.L.TreeSource.forest c.args.source.now) c.args.node c.args.root.now (placed_lent c.new.result) c.in-Some.last c.in_ok-depth.depth (string_bytes c.args.text.now) (string_bytes c.append_row.new.text) is c.new.ensures e c.in_ok-depth.ensures.0)
    (c.append_nodes.ensures.appends h))

pub returns-clause-rows : goal.returns-clause-rows
returns-clause-rows g c = λ h.
    (let e : c.in-Some.last ≡ c.args.node.pre + c.args.root.now.size = omega (arith, c.in-Some.ensures) in
    let r = c.append_nodes.ensures.rows h in
    omega (arith, e, r))
