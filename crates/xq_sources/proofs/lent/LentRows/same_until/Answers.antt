use Rattle.std.proofs.Common.{◌≡◌, ◌<◌, ◌+◌, ◌-◌, length, drop, sym, ap, ◌∙◌, arith}
use Rattle.std.proofs.lemmas.List.{get_or-drop}
use Rattle.std.proofs.lemmas.Option.{get_or_from_slice_get}
use Rattle.xq_trees.specs.Rows.{Row, row_at, no_row}
use Rattle.xq_sources.specs.Lent.{lent_at}
use Rattle.xq_sources.proofs.Forms.{as_many, is_got}
use Rattle.xq_sources.proofs.lent.LentRows.same_until.Goals as goal
use Rattle.xq_sources.proofs.lent.LentRows.same_until.Goals.{After-same_until}

mine : (c : After-same_until) → length c.args.self.now ≡ c.in-Packed.end - c.in-Packed.start
mine c =
    as_many c.self.inside.form c.in-Packed.rows c.in-Packed.base c.in-Packed.start c.in-Packed.end c.args.self.now c.in-Packed.is c.self.view_is c.self.invariant

its : (c : After-same_until) → length c.args.other.now ≡ c.in-Packed-form.last - c.in-Packed-form.first
its c =
    as_many c.other.inside.form c.in-Packed-form.others c.in-Packed-form.front c.in-Packed-form.first c.in-Packed-form.last c.args.other.now c.in-Packed-form.is c.other.view_is c.other.invariant

pub returns-clause-mine : goal.returns-clause-mine
returns-clause-mine c = omega (arith, mine c, c.same_until.ensures.before, c.min.ensures)

pub returns-clause-its : goal.returns-clause-its
returns-clause-its c =
    omega (arith, its c, c.same_until.ensures.before, c.min.ensures, c.if-base-front.false)

pub returns-clause-same : goal.returns-clause-same
returns-clause-same c k from to =
    let base = c.in-Packed.base in
    let start = c.in-Packed.start in
    let first = c.in-Packed-form.first in
    let rows = c.in-Packed.rows.now.rows in
    let others = c.in-Packed-form.others.now.rows in
    let front : c.in-Packed-form.front ≡ base = omega (arith, c.if-base-front.false) in
    let at : first + k ≡ start + k = omega (arith, c.if-base-front.false, c.if-start-first.false) in
    let in_mine : k < c.in-Packed.end - start = omega (arith, to, c.same_until.ensures.before, c.min.ensures) in
    let in_its : k < c.in-Packed-form.last - first = omega (arith, to, c.same_until.ensures.before, c.min.ensures, at) in
    let here : lent_at c.args.self.now k ≡ (start + k, row_at (drop base rows) (start + k)) =
    get_or_from_slice_get c.args.self.now k (start + k, row_at (drop base rows) (start + k)) (0, no_row)
    (is_got c.self.inside.form c.in-Packed.rows base start c.in-Packed.end c.args.self.now c.in-Packed.is c.self.view_is c.self.invariant k in_mine) in
    let there : lent_at c.args.other.now k ≡ (first + k, row_at (drop c.in-Packed-form.front others) (first + k)) =
    get_or_from_slice_get c.args.other.now k (first + k, row_at (drop c.in-Packed-form.front others) (first + k)) (0, no_row)
    (is_got c.other.inside.form c.in-Packed-form.others c.in-Packed-form.front first c.in-Packed-form.last c.args.other.now c.in-Packed-form.is c.other.view_is c.other.invariant k in_its) in
    let same : row_at rows (base + (start + k)) ≡ row_at others (base + (start + k)) = c.same_until.ensures.same (base + (start + k)) (omega (arith, from)) (omega (arith, to)) in
    here
    ∙ ap (λ (r : Row). (start + k, r)) (get_or-drop base rows (start + k) no_row ∙ same ∙ sym (get_or-drop base others (start + k) no_row))
    ∙ ap (λ n. (n, row_at (drop base others) n)) (sym at)
    ∙ ap (λ n. (first + k, row_at (drop n others) (first + k))) (sym front)
    ∙ sym there
