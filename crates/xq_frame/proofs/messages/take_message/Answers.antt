use Rattle.std.proofs.Common.{◌≡◌, ℕ, ◌++◌, List, length, take, sym, ap, ◌∙◌, rules, arith, inr, length-take-le}
use Rattle.std.proofs.KnownBytes.{Consumes-trans}
use Rattle.xq_frame.proofs.Taking.{full_frame, cut_frame, rewritten}
use Rattle.xq_frame.proofs.messages.take_message.Goals as goal

pub returns-in-Full-fill-clause-taken : goal.returns-in-Full-fill-clause-taken
returns-in-Full-fill-clause-taken g c =
    let size : ℕ = c.number_at_start-length.result in
    let new : List ℕ = c.fill-2.new.buf in
    let long : length new ≡ size = c.fill-2.auto.buf ∙ c.as_mut_slice.ensures.len ∙ c.in-Ok.ensures.len in
    let len : length new ≡ c.resize.new.self.len = c.fill-2.auto.buf ∙ ap length c.as_mut_slice.ensures.value ∙ sym c.resize.new.self.ok.0 in
    full_frame _ _ _ c.fill.new.buf new _ size c.fill.auto.buf c.number_at_start-length.ensures.bytes c.if-length-gt-MAX_MESSAGE.false c.in-Full.ensures.filled c.in-Full-fill.ensures.filled
    long (rewritten c.resize.new.self.len new c.resize.new.self.items len)

pub returns-in-Ended-fill-clause-taken : goal.returns-in-Ended-fill-clause-taken
returns-in-Ended-fill-clause-taken g c =
    let size : ℕ = c.number_at_start-length.result in
    let new : List ℕ = c.fill-2.new.buf in
    let long : length new ≡ size = c.fill-2.auto.buf ∙ c.as_mut_slice.ensures.len ∙ c.in-Ok.ensures.len in
    let part : List ℕ = take c.in-Ended-fill.field-0 new in
    let short = length-take-le c.in-Ended-fill.field-0 new (search rules) in (
      c.fill.new.buf ++ part,
      Consumes-trans _ _ _ c.fill.new.buf part c.in-Full.ensures.filled c.in-Ended-fill.ensures.filled.0,
      (
        cut_frame c.fill.new.buf part size c.fill.auto.buf c.number_at_start-length.ensures.value c.if-length-gt-MAX_MESSAGE.false (omega (arith, short, long, c.in-Ended-fill.ensures.filled.1)),
        c.in-Ended-fill.ensures.filled.2,
      ),
    )

pub returns-in-Fault-fill-clause-taken : goal.returns-in-Fault-fill-clause-taken
returns-in-Fault-fill-clause-taken g c =
    let size : ℕ = c.number_at_start-length.result in
    let new : List ℕ = c.fill-2.new.buf in
    let long : length new ≡ size = c.fill-2.auto.buf ∙ c.as_mut_slice.ensures.len ∙ c.in-Ok.ensures.len in
    let part : List ℕ = take c.in-Fault-fill.field-0 new in
    let short = length-take-le c.in-Fault-fill.field-0 new (search rules) in (
      c.fill.new.buf ++ part,
      Consumes-trans _ _ _ c.fill.new.buf part c.in-Full.ensures.filled c.in-Fault-fill.ensures.filled.0,
      inr (cut_frame c.fill.new.buf part size c.fill.auto.buf c.number_at_start-length.ensures.value c.if-length-gt-MAX_MESSAGE.false (omega (arith, short, long, c.in-Fault-fill.ensures.filled.1))),
    )
