use Rattle.std.proofs.Common.{◌≡◌, ℕ, ◌-◌, List, ◌++◌, length, take, drop, sym, ap, ◌∙◌, append_assoc, arith, take-append-drop}
use Rattle.std.proofs.lemmas.List.{take_rest}
use Rattle.std.proofs.KnownBytes.{Appends-trans}
use Rattle.xq_frame.proofs.sending.send.Goals as goal

moves_front : (all done rest : List ℕ) (n : ℕ) → all ≡ done ++ rest → all ≡ (done ++ take n rest) ++ take (length rest - n) (drop n rest)
moves_front all done rest n e =
    e ∙ ap (λ l. done ++ l) (sym (take-append-drop n rest)) ∙ sym (append_assoc done (take n rest) (drop n rest)) ∙ ap (λ l. (done ++ take n rest) ++ l) (sym (take_rest rest n))

pub writes-preserved-in-Ok : goal.writes-preserved-in-Ok
writes-preserved-in-Ok g c =
    let given = c.writes.invariant.0 in
    let rest = c.writes.rest.now in
    let n = c.in-Ok.n in (
      (given.0 ++ take n rest, (moves_front _ given.0 rest n given.1.0, Appends-trans _ _ _ _ _ given.1.1 c.in-Ok.ensures.bytes)),
      c.writes.invariant.1,
      omega (arith, c.in-Ok.ensures.counted, c.writes.invariant.2),
    )
