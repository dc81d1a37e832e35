use Rattle.std.proofs.Common.{◌≡◌, ℕ, ◌+◌, ◌-◌, List, take, drop, arith, subst}
use Rattle.xq_frame.specs.Next.{IsFrameOf}
use Rattle.xq_frame.proofs.Splitting.{whole_frame}
use Rattle.xq_frame.proofs.frames.next_frame.Goals as goal

message_taken : (n : ℕ) → 4 + n - 4 ≡ n
message_taken n = omega arith

pub returns : goal.returns
returns c =
    let n : ℕ = c.number_at_start-length.result in
    let bytes : List ℕ = c.args.bytes.now in
    let same : IsFrameOf c.frame_of.result (take n (drop 4 bytes)) =
    subst (λ k. IsFrameOf c.frame_of.result (take k (drop 4 bytes))) (message_taken n) c.frame_of.ensures in
    let parts = whole_frame bytes n (λ i. let t = c.type_inv.bytes i in omega (arith, t)) c.if-bytes-lt4.false c.number_at_start-length.ensures.value c.if-bytes-length.false in (
      take n (drop 4 bytes),
      drop n (drop 4 bytes),
      record { whole = parts.0; limit = omega (arith, parts.1, c.if-length-gt-MAX_MESSAGE.false); same = same },
    )
