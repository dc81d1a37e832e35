use Rattle.std.proofs.Common.{◌≡◌, take, not}
use Rattle.std.specs.Prelude.{filter}
use Rattle.xq_axes.specs.private.Hits.{is_among}
use Rattle.xq_axes.proofs.names.keep_others.Given as goal

-- those of the places so far that are none of the others were kept
abbrev pub invariant-loop-place : goal.invariant-loop-place
invariant-loop-place l = l.kept.items ≡ filter (λ p. not (is_among l.others p)) (take l.place-index l.places)
