-- What two fillings took is a frame, or a part of one.
use Rattle.std.proofs.Common.{◌≡◌, ℕ, ◌+◌, ◌<◌, ◌≤◌, List, ◌++◌, length, take, drop, sym, ap, ◌∙◌, arith, inr, Option}
use Rattle.std.proofs.lemmas.List.{take-append-le}
use Rattle.std.proofs.lemmas.Grind.{common_steps}
use Rattle.std.proofs.Math.Seq.{take-append_seam, take-length}
use Rattle.std.proofs.KnownBytes.{Consumes-trans}
use Rattle.std.specs.Io.KnownBytes.{Consumes}
use Rattle.std.specs.Int.{to_be_bytes, from_be_bytes, w32}
use Rattle.xq_frame.specs.Frame.{frame_bytes, IsMessage, IsCut, announced_length, longest_message}

pub full_frame : (a b c : Option (List ℕ)) (head new message : List ℕ) (size : ℕ) → length head ≡ 4 → to_be_bytes w32 size ≡ take 4 head
    → size ≤ longest_message → Consumes a b head → Consumes b c new → length new ≡ size → message ≡ new
    → (taken : List ℕ) × Consumes a c taken × (IsMessage message × (taken ≡ frame_bytes message))
full_frame a b c head new message size four said small first second long same =
    let long_message : length message ≡ size = ap length same ∙ long in
    let whole : take 4 head ≡ head = ap (λ n. take n head) (sym four) ∙ take-length head in
    let bytes : to_be_bytes w32 size ≡ head = said ∙ whole in (
      head ++ new,
      Consumes-trans a b c head new first second,
      (
        omega (arith, long_message, small),
        ap (λ h. h ++ new) (sym bytes ∙ ap (to_be_bytes w32) (sym long_message)) ∙ ap (λ t. to_be_bytes w32 (length message) ++ t) (sym same),
      ),
    )

pub cut_frame : (head part : List ℕ) (size : ℕ) → length head ≡ 4 → size ≡ announced_length head → size ≤ longest_message → length part < size → IsCut (head ++ part)
cut_frame head part size four said small short =
    let long : length (head ++ part) ≡ 4 + length part = grind (arith, common_steps) in
    let same : announced_length (head ++ part) ≡ size = ap (from_be_bytes w32) (take-append-le 4 head part (omega (arith, four))) ∙ sym said in
    (omega (arith, long), inr (omega (arith, same, small), omega (arith, same, long, short)))

-- what a vector holds once its slice was written whole
pub rewritten : (len : ℕ) (new items : List ℕ) → length new ≡ len → take len (new ++ drop (length new) items) ≡ new
rewritten len new items e = ap (λ n. take n (new ++ drop (length new) items)) (sym e) ∙ take-append_seam new (drop (length new) items)
