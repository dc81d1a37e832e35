use Rattle.std.proofs.Common.{◌∙◌, string_bytes}
use Rattle.std.specs.Global.{Global}
use Rattle.std.proofs.lemmas.Result.{err_from_is_err_and}
use Rattle.xq_build.proofs.Counted.{first_read, others_read}
use Rattle.xq_build.proofs.Written.{begun, reply_refused, reply_given}
use Rattle.xq_build.proofs.printer.print_items.Goals as goal

pub returns-in_err-append_others-clause-gives : goal.returns-in_err-append_others-clause-gives
returns-in_err-append_others-clause-gives g c = λ h.
    (let trees = g.L.TreeSource.forest c.args.source.now in
    let now = g.L.TreeSource.forest c.append_item.new.source in
    let w = (c.in_ok-append_item.ensures.appends (c.append_others.ensures.was_clean h)).0 in
    let e = begun trees now c.args.items.now c.in-Some.first.now c.in-Some.others.now (string_bytes c.new-text.result) (string_bytes c.append_item.new.text) c.new-text.ensures.bytes c.append_item.ensures.keeps c.in-Some.ensures.cases.0 w in
    let p = err_from_is_err_and c.from_residual-in_err-append_others.result c.from_residual-in_err-append_others.ensures.1 in
    rw (p.1, p.2) (reply_refused (string_bytes {Z = Global}) _ _ c.in_err-append_others.field-0.0 e (c.in_err-append_others.ensures.appends h)))

pub returns-clause-gives : goal.returns-clause-gives
returns-clause-gives g c = λ h.
    (let trees = g.L.TreeSource.forest c.args.source.now in
    let now = g.L.TreeSource.forest c.append_item.new.source in
    let w = (c.in_ok-append_item.ensures.appends (c.append_others.ensures.was_clean h)).0 in
    let e = begun trees now c.args.items.now c.in-Some.first.now c.in-Some.others.now (string_bytes c.new-text.result) (string_bytes c.append_item.new.text) c.new-text.ensures.bytes c.append_item.ensures.keeps c.in-Some.ensures.cases.0 w in
    let o = c.in_ok-append_others.ensures.appends h in
    reply_given _ (string_bytes c.append_others.new.text) (o.0 ∙ e) o.1)

pub returns-in_err-append_item-clause-reads : goal.returns-in_err-append_item-clause-reads
returns-in_err-append_item-clause-reads g c = λ h.
    first_read (g.L.TreeSource.forest c.args.source.now) c.args.items.now c.in-Some.others.now c.in-Some.first.now _ _ c.in-Some.ensures.cases.0 (c.append_item.ensures.reads h)

pub returns-in_err-append_others-clause-reads : goal.returns-in_err-append_others-clause-reads
returns-in_err-append_others-clause-reads g c = λ h.
    others_read (g.L.TreeSource.forest c.args.source.now) (g.L.TreeSource.forest c.append_item.new.source) c.args.items.now c.in-Some.others.now c.in-Some.first.now _ (g.L.TreeSource.meter c.append_item.new.source) _
    c.append_item.ensures.keeps c.in-Some.ensures.cases.0 (c.append_item.ensures.reads (c.append_others.ensures.was_clean h)) (c.append_others.ensures.reads h)

pub returns-clause-reads : goal.returns-clause-reads
returns-clause-reads g c = λ h.
    others_read (g.L.TreeSource.forest c.args.source.now) (g.L.TreeSource.forest c.append_item.new.source) c.args.items.now c.in-Some.others.now c.in-Some.first.now _ (g.L.TreeSource.meter c.append_item.new.source) _
    c.append_item.ensures.keeps c.in-Some.ensures.cases.0 (c.append_item.ensures.reads (c.append_others.ensures.was_clean h)) (c.append_others.ensures.reads h)
