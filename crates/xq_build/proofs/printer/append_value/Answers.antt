use Rattle.std.proofs.Common.{string_bytes}
use Rattle.std.proofs.lemmas.Iterator.{YieldsList-from_chars}
use Rattle.std.proofs.lemmas.Iterator.Consumers.{YieldsList-turn, YieldsList-so_far}
use Rattle.std.proofs.lemmas.Result.{err_from_is_err_and}
use Rattle.std.proofs.lemmas.Str.{encodes-chars}
use Rattle.std.specs.Str.{chars}
use Rattle.xq_build.proofs.Written.{split_at_turn, value_next, value_refused}
use Rattle.xq_build.proofs.printer.append_value.Goals as goal

pub loop-character-preserved : goal.loop-character-preserved
loop-character-preserved c =
    let h = c.in_ok-append_escaped.ensures in
    (value_next (string_bytes c.args.text.now) (string_bytes c.loop-character.text) _ c.loop-character.yielded c.in-Some.character c.loop-character.invariant.0 h.0, h.1)

pub returns-in_err-append_escaped : goal.returns-in_err-append_escaped
returns-in_err-append_escaped c =
    let all = YieldsList-from_chars c.args.value.now c.utf8.value cc in
    let t = YieldsList-turn all c.loop-character.yielded _ c.loop-character.yielded_by _ _ c.in-Some.character c.in-Some.is c.next.ensures.steps in
    let s = YieldsList-so_far all c.loop-character.yielded _ c.loop-character.yielded_by in
    let split = split_at_turn (chars c.args.value.now) c.loop-character.yielded c.in-Some.character s t in
    let p = err_from_is_err_and c.from_residual.result c.from_residual.ensures.1 in
    rw (p.1, p.2)
    (value_refused c.args.limit (string_bytes c.args.text.now) (string_bytes c.loop-character.text) c.args.value.now (chars c.args.value.now) c.loop-character.yielded c.in-Some.character split.0 _ (encodes-chars _ c.utf8.value) split.1 c.loop-character.invariant.0 c.in_err-append_escaped.ensures)
