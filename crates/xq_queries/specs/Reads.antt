-- How much of a document a query reads that is a path from it along axes, `doc("A")/S1/S2..`
-- (XQuery 3.1, section 3.3).
use Rattle.std.specs.Prelude.{◌≡◌, ℕ, ◌+◌, ◌*◌, List, length, sum_by, Ok, Err}
use Rattle.xq_atoms.specs.Judged.{Judged}
use Rattle.xq_atoms.specs.Text.{Text}
use Rattle.xq_trees.specs.Tree.{Tree}
use Rattle.xq_trees.specs.declared.Axis.{Axis}
use Rattle.xq_sources.specs.Meters.{Readings}
use Rattle.xq_meaning.specs.declared.node_tests.Test.{Test}
use Rattle.xq_meaning.specs.declared.plans.Plan.{Plan}
use Rattle.xq_build.specs.Reads.{ReadsAtMost, rows_below, own_rows}
use Rattle.xq_eval.specs.Reads.{path_of_scans, rows_at}
use Rattle.xq_queries.specs.Values.{Value, plan_value}

-- how many rows are below the items of a value, below each for itself; a code has no item
abbrev pub rows_below_value : Judged Value → ℕ
rows_below_value (Ok v) = sum_by (rows_below v.1) v.0
rows_below_value (Err code) = 0

-- how many rows the items of a value have themselves: as many as there are nodes among them
abbrev pub own_rows_of : Judged Value → ℕ
own_rows_of (Ok v) = sum_by own_rows v.0
own_rows_of (Err code) = 0

-- where the plan is a document and k scans, each of the two counts has grown by at most k times the
-- rows of that document, and then by what printing the value reads: by ranges the rows below each
-- item, and singly one row for each node
abbrev pub ReadsAndPrints : Plan → List Text → List Tree → Readings → Readings → Type 0
ReadsAndPrints p addresses trees before after =
    (address : Text) (steps : List (Axis × Test)) → p ≡ path_of_scans address steps →
    let scanned = length steps * rows_at address addresses trees in
    let v = plan_value p addresses trees in
    ReadsAtMost before after (scanned + rows_below_value v) (scanned + own_rows_of v)

-- the same where the items of the value are copied and not printed: the rows below each item and its
-- own by ranges, and its own singly
abbrev pub ReadsAndCopies : Plan → List Text → List Tree → Readings → Readings → Type 0
ReadsAndCopies p addresses trees before after =
    (address : Text) (steps : List (Axis × Test)) → p ≡ path_of_scans address steps →
    let scanned = length steps * rows_at address addresses trees in
    let v = plan_value p addresses trees in
    ReadsAtMost before after (scanned + (rows_below_value v + own_rows_of v))
    (scanned + own_rows_of v)
