-- The bytes of a frame, and that a stream has one reading.
use Rattle.std.proofs.Common.{◌≡◌, ℕ, zero, suc, ◌+◌, ◌-◌, ◌<◌, ◌≤◌, List, [], ◌∷◌, ◌++◌, length, take, drop, get_or, refl, sym, ◌∙◌, ap, subst, arith, inl, inr, append_assoc, All}
use Rattle.std.proofs.lemmas.Bool.{cases_lt}
use Rattle.std.proofs.lemmas.List.{take-append-drop}
use Rattle.std.proofs.lemmas.List.Elements.{All-drop}
use Rattle.std.proofs.lemmas.Nat.{be_bytes_4, from_be_bytes-to_be_bytes_4}
use Rattle.std.proofs.Math.Seq.{take-append_seam, drop-append_seam}
use Rattle.std.proofs.lemmas.Grind.{common_steps}
use Rattle.std.specs.Int.{to_be_bytes, w32}
use Rattle.std.specs.List.{flat_map, AllByRecursion}
use Rattle.xq_frame.specs.Frame.{frame_bytes, IsMessage, longest_message, announced_length, Ending, finished, too_long, cut, EndsAs, Splits, SplitsInOneWay}

front_bytes : (n : ℕ) (bytes : List ℕ) → ((i : ℕ) → get_or bytes i 0 < 256) → (i : ℕ) → get_or (take n bytes) i 0 < 256
front_bytes zero bytes each i = omega arith
front_bytes (suc n) [] each i = omega arith
front_bytes (suc n) (b ∷ bytes) each zero = each 0
front_bytes (suc n) (b ∷ bytes) each (suc i) = front_bytes n bytes (λ k. each (suc k)) i

pub same_bytes : (bytes : List ℕ) (n : ℕ) → ((i : ℕ) → get_or bytes i 0 < 256) → 4 ≤ length bytes → n ≡ announced_length bytes → to_be_bytes w32 n ≡ take 4 bytes
same_bytes bytes n each four said =
    let four_taken : length (take 4 bytes) ≡ 4 = grind (arith, common_steps) in
    be_bytes_4 (take 4 bytes) n four_taken (front_bytes 4 bytes each) said

pub whole_frame : (bytes : List ℕ) (n : ℕ) → ((i : ℕ) → get_or bytes i 0 < 256) → 4 ≤ length bytes
    → n ≡ announced_length bytes → n ≤ length bytes - 4
    → (bytes ≡ frame_bytes (take n (drop 4 bytes)) ++ drop n (drop 4 bytes)) × (length (take n (drop 4 bytes)) ≡ n)
whole_frame bytes n each four said fits =
    let four_taken : length (take 4 bytes) ≡ 4 = grind (arith, common_steps) in
    let size : length (take n (drop 4 bytes)) ≡ n = grind (arith, common_steps) in
    let head : to_be_bytes w32 n ≡ take 4 bytes = be_bytes_4 (take 4 bytes) n four_taken (front_bytes 4 bytes each) said in (
      sym (ap (λ k. to_be_bytes w32 k ++ take n (drop 4 bytes) ++ drop n (drop 4 bytes)) size
          ∙ ap (λ h. h ++ take n (drop 4 bytes) ++ drop n (drop 4 bytes)) head
          ∙ append_assoc (take 4 bytes) (take n (drop 4 bytes)) (drop n (drop 4 bytes))
          ∙ ap (λ t. take 4 bytes ++ t) (take-append-drop n (drop 4 bytes))
          ∙ take-append-drop 4 bytes),
      size,
    )

-- what a frame announces, and what follows its length
pub announced_frame : (message more : List ℕ) → IsMessage message → announced_length (frame_bytes message ++ more) ≡ length message
announced_frame message more small = from_be_bytes-to_be_bytes_4 (length message) (omega arith)

pub after_length : (message more : List ℕ) → drop 4 (frame_bytes message ++ more) ≡ message ++ more
after_length message more = refl

frame_length : (message more : List ℕ) → length (frame_bytes message ++ more) ≡ 4 + length message + length more
frame_length message more = grind (arith, common_steps)

-- a rest that ends a stream begins with no frame
pub no_frame : (ending : Ending) (rest message more : List ℕ) → EndsAs ending rest → IsMessage message → rest ≡ frame_bytes message ++ more → ⊥
no_frame finished rest message more ends small e = let none = ap length (sym e ∙ ends) in omega (arith, frame_length message more, none)
no_frame too_long rest message more ends small e =
    let said = ap announced_length e ∙ announced_frame message more small in omega (arith, said, ends.1, small)
no_frame cut rest message more ends small e =
    let said = ap announced_length e ∙ announced_frame message more small in
    let size = ap length e ∙ frame_length message more in
    elim ends.1 [ inl short ↦ omega (arith, size, short) | inr short ↦ omega (arith, size, said, short.1) ]

pub ends_once : (a b : Ending) (rest : List ℕ) → EndsAs a rest → EndsAs b rest → a ≡ b
ends_once finished finished rest p q = refl
ends_once too_long too_long rest p q = refl
ends_once cut cut rest p q = refl
ends_once finished too_long rest p q = let none = ap length p in absurd (omega (arith, none, q.0))
ends_once finished cut rest p q = let none = ap length p in absurd (omega (arith, none, q.0))
ends_once too_long finished rest p q = let none = ap length q in absurd (omega (arith, none, p.0))
ends_once cut finished rest p q = let none = ap length q in absurd (omega (arith, none, p.0))
ends_once too_long cut rest p q = absurd (elim q.1 [ inl short ↦ omega (arith, p.0, short) | inr short ↦ omega (arith, p.1, short.0) ])
ends_once cut too_long rest p q = absurd (elim p.1 [ inl short ↦ omega (arith, q.0, short) | inr short ↦ omega (arith, q.1, short.0) ])

-- two frames with what follows them
pub frames_once : (a b xs ys : List ℕ) → IsMessage a → IsMessage b → frame_bytes a ++ xs ≡ frame_bytes b ++ ys → (a ≡ b) × (xs ≡ ys)
frames_once a b xs ys small_a small_b e =
    let sizes : length a ≡ length b = sym (announced_frame a xs small_a) ∙ ap announced_length e ∙ announced_frame b ys small_b in
    let tails : a ++ xs ≡ b ++ ys = ap (drop 4) e in (
      sym (take-append_seam a xs) ∙ ap (λ n. take n (a ++ xs)) sizes ∙ ap (take (length b)) tails ∙ take-append_seam b ys,
      sym (drop-append_seam a xs) ∙ ap (λ n. drop n (a ++ xs)) sizes ∙ ap (drop (length b)) tails ∙ drop-append_seam b ys,
    )

same_split : (xs ys : List (List ℕ)) (a b : Ending) (r s : List ℕ) → AllByRecursion IsMessage xs → AllByRecursion IsMessage ys
    → EndsAs a r → EndsAs b s → flat_map frame_bytes xs ++ r ≡ flat_map frame_bytes ys ++ s → (xs ≡ ys) × (a ≡ b) × (r ≡ s)
same_split [] [] a b r s small_a small_b ends_a ends_b e = (refl, ends_once a b s (subst (EndsAs a) e ends_a) ends_b, e)
same_split [] (y ∷ ys) a b r s small_a small_b ends_a ends_b e =
    absurd (no_frame a r y (flat_map frame_bytes ys ++ s) ends_a small_b.0 (e ∙ append_assoc (frame_bytes y) (flat_map frame_bytes ys) s))
same_split (x ∷ xs) [] a b r s small_a small_b ends_a ends_b e =
    absurd (no_frame b s x (flat_map frame_bytes xs ++ r) ends_b small_a.0 (sym e ∙ append_assoc (frame_bytes x) (flat_map frame_bytes xs) r))
same_split (x ∷ xs) (y ∷ ys) a b r s small_a small_b ends_a ends_b e =
    let parts = frames_once x y (flat_map frame_bytes xs ++ r) (flat_map frame_bytes ys ++ s) small_a.0 small_b.0
    (sym (append_assoc (frame_bytes x) (flat_map frame_bytes xs) r) ∙ e ∙ append_assoc (frame_bytes y) (flat_map frame_bytes ys) s) in
    let rest = same_split xs ys a b r s small_a.1 small_b.1 ends_a ends_b parts.1 in
    (ap (λ h. h ∷ xs) parts.0 ∙ ap (λ t. y ∷ t) rest.0, rest.1, rest.2)

-- a stream is split in one way
pub splits_once : (bytes : List ℕ) (xs ys : List (List ℕ)) (a b : Ending) (r s : List ℕ) → Splits bytes xs a r → Splits bytes ys b s
    → (xs ≡ ys) × (a ≡ b) × (r ≡ s)
splits_once bytes xs ys a b r s p q = same_split xs ys a b r s p.each q.each p.ends q.ends (sym p.whole ∙ q.whole)

byte_at : (bytes : List ℕ) → All (λ byte. byte < 256) bytes → (i : ℕ) → get_or bytes i 0 < 256
byte_at [] each i = omega arith
byte_at (b ∷ bytes) each zero = each 0 0 (omega arith)
byte_at (b ∷ bytes) each (suc i) = byte_at bytes (λ k d below. each (suc k) d (omega (arith, below))) i

-- what there is to show: the bytes are split in some way
abbrev IsSplit : List ℕ → Type 0
IsSplit bytes = (messages : List (List ℕ)) × (ending : Ending) × (rest : List ℕ) × Splits bytes messages ending rest

rest_alone : (ending : Ending) (rest : List ℕ) → EndsAs ending rest → IsSplit rest
rest_alone ending rest ends = ([], ending, rest, record { whole = refl; each = tt; ends = ends })

frame_first : (bytes message rest : List ℕ) → bytes ≡ frame_bytes message ++ rest → IsMessage message → IsSplit rest → IsSplit bytes
frame_first bytes message rest whole limit split = (
  message ∷ split.0,
  split.1,
  split.2,
  record {
    whole = whole ∙ ap (λ t. frame_bytes message ++ t) split.3.whole
        ∙ sym (append_assoc (frame_bytes message) (flat_map frame_bytes split.0) split.2);
    each = (limit, split.3.each);
    ends = split.3.ends;
  },
)

left_is_less : (n k : ℕ) (b : ℕ) (bytes : List ℕ) → length (b ∷ bytes) ≤ suc n → length (drop k (drop 4 (b ∷ bytes))) ≤ n
left_is_less n k b bytes few = grind (arith, common_steps)

-- by the number of bytes, which each frame makes less
some_split : (n : ℕ) (bytes : List ℕ) → length bytes ≤ n → All (λ byte. byte < 256) bytes → IsSplit bytes
some_split n [] few each = rest_alone finished [] refl
some_split zero (b ∷ bytes) few each = absurd (omega (arith, few))
some_split (suc n) (b ∷ bytes) few each =
    let all : List ℕ = b ∷ bytes in
    elim (cases_lt (length all) 4) [
      | inl short ↦ rest_alone cut all (omega arith, inl short)
      | inr four ↦ elim (cases_lt longest_message (announced_length all)) [
        | inl long ↦ rest_alone too_long all (four, long)
        | inr fits ↦ elim (cases_lt (length all) (4 + announced_length all)) [
          | inl short ↦ rest_alone cut all (omega arith, inr (fits, short))
          | inr enough ↦
              let parts = whole_frame all (announced_length all) (byte_at all each) four refl (omega (arith, enough)) in
              let left : List ℕ = drop (announced_length all) (drop 4 all) in
              frame_first all (take (announced_length all) (drop 4 all)) left parts.0 (omega (arith, parts.1, fits))
              (some_split n left (left_is_less n (announced_length all) b bytes few) (All-drop (λ x. x < 256) (announced_length all) (drop 4 all) (All-drop (λ x. x < 256) 4 all each)))
        ]
      ]
    ]

pub splits_in_one_way : SplitsInOneWay
splits_in_one_way = λ bytes each. (some_split (length bytes) bytes (omega arith) each, splits_once bytes)
