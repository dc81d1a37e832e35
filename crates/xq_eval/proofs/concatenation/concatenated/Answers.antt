use Rattle.std.proofs.Common.{arith}
use Rattle.std.specs.Prelude.{string_bytes}
use Rattle.std.proofs.lemmas.List.{drop_all}
use Rattle.xq_meaning.specs.PlanMeaning.{plan_mean}
use Rattle.xq_eval.proofs.Pieces.{one_piece, call_told, was_added, piece_refused}
use Rattle.xq_eval.proofs.concatenation.concatenated.Goals as goal

pub returns-in_err-push_piece : goal.returns-in_err-push_piece
returns-in_err-push_piece c = λ trees frame env.
    piece_refused frame trees c.args.function c.args.parts.now c.loop-part.part-index c.part-item.result (string_bytes c.loop-part.text) (string_bytes c.push_piece.new.text) c.in_err-push_piece.field-0.0 c.from_residual.result c.from_residual.ensures.1 (omega arith) c.part-item.is
    (c.in_err-push_piece.ensures trees frame env) (c.loop-part.invariant trees frame env)

pub loop-part-preserved : goal.loop-part-preserved
loop-part-preserved c = λ trees frame env.
    (let part = c.part-item.result in
    let old = string_bytes c.loop-part.text in
    let new = string_bytes c.push_piece.new.text in
    let piece = was_added (plan_mean part frame trees) trees old new c.in_ok-push_piece.field-0 c.if-not-branch.false (c.in_ok-push_piece.ensures trees frame env) in
    one_piece frame trees c.args.parts.now c.loop-part.part-index part old new piece.0 (omega arith) c.part-item.is piece.1.0 piece.1.1 (c.loop-part.invariant trees frame env))

pub returns : goal.returns
returns c = λ trees frame env.
    call_told frame trees c.args.function c.args.parts.now c.loop-part.part-index (string_bytes c.loop-part.text) c.in-Concat.is (omega arith) (omega arith) (drop_all c.loop-part.part-index c.args.parts.now (omega arith)) (c.loop-part.invariant trees frame env)
