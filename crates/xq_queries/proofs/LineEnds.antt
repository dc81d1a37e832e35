-- Reading line ends, a line at a time.
use Rattle.std.proofs.Common.{◌≡◌, ◌≢◌, ℕ, suc, ◌<◌, List, [], ◌∷◌, ◌++◌, length, get_or, refl, sym, ◌∙◌, ap, subst, arith, true, false, if◌then◌else◌, ◌==◌, length-append, ne_eqb, Option, None, Some, MatchOption, unwrap_or, Bor}
use Rattle.xq_queries.specs.Texts.{line_ends_after, with_line_feeds}
use Rattle.xq_queries.specs.private.Lines.{IsFirstLine}

-- no byte is a carriage return
abbrev HasNoReturn : List ℕ → Type 0
HasNoReturn text = (i : ℕ) → i < length text → get_or text i 0 ≢ 13

tail_of : (byte : ℕ) (text : List ℕ) → HasNoReturn (byte ∷ text) → HasNoReturn text
tail_of byte text none i below = none (suc i) (omega (arith, below))

head_of : (byte : ℕ) (text : List ℕ) → HasNoReturn (byte ∷ text) → (byte == 13) ≡ false
head_of byte text none = ne_eqb byte 13 (none 0 (omega arith))

pub line_ends-plain : (text : List ℕ) → HasNoReturn text → with_line_feeds text ≡ text
line_ends-plain [] none = refl
line_ends-plain (byte ∷ text) none =
    ap (λ b. if b then 10 ∷ line_ends_after true text else byte ∷ with_line_feeds text) (head_of byte text none)
    ∙ ap (λ t. byte ∷ t) (line_ends-plain text (tail_of byte text none))

line_ends-line : (line after : List ℕ) → HasNoReturn line → with_line_feeds (line ++ 13 ∷ after) ≡ line ++ 10 ∷ line_ends_after true after
line_ends-line [] after none = refl
line_ends-line (byte ∷ line) after none =
    ap (λ b. if b then 10 ∷ line_ends_after true (line ++ 13 ∷ after) else byte ∷ with_line_feeds (line ++ 13 ∷ after)) (head_of byte line none)
    ∙ ap (λ t. byte ∷ t) (line_ends-line line after (tail_of byte line none))

-- after a carriage return a line feed is passed over
unfed : (text : List ℕ) → ((rest : List ℕ) → text ≢ 10 ∷ rest) → line_ends_after true text ≡ with_line_feeds text
unfed [] none = refl
unfed (byte ∷ text) none =
    ap (λ b. if byte == 13 then 10 ∷ line_ends_after true text else (if b then line_ends_after false text else byte ∷ line_ends_after false text))
    (ne_eqb byte 10 (λ e. none text (ap (λ b. b ∷ text) e)))

first_line : (text line after others : List ℕ) → text ≡ line ++ 13 ∷ after → HasNoReturn line
    → line_ends_after true after ≡ with_line_feeds others → length others < suc (length after) → IsFirstLine text line others
first_line text line after others split none same less = (
  ap with_line_feeds split ∙ line_ends-line line after none ∙ ap (λ t. line ++ 10 ∷ t) same,
  let size = ap length split ∙ length-append line (13 ∷ after) in omega (arith, size, less),
)

pub first_line_fed : (text line after others : List ℕ) → text ≡ line ++ 13 ∷ after → HasNoReturn line → after ≡ 10 ∷ others → IsFirstLine text line others
first_line_fed text line after others split none fed = first_line text line after others split none
    (ap (line_ends_after true) fed) (let size = ap length fed in omega (arith, size))

pub first_line_unfed : (text line after : List ℕ) → text ≡ line ++ 13 ∷ after → HasNoReturn line → ((rest : List ℕ) → after ≢ 10 ∷ rest) → IsFirstLine text line after
first_line_unfed text line after split none unfed_after = first_line text line after after split none (unfed after unfed_after) (omega arith)

-- what follows the carriage return, without a line feed at its front
pub first_line_of : (text line after : List ℕ) (whole : Bor (List ℕ)) (stripped : Option (Bor (List ℕ))) (others : Bor (List ℕ))
    → text ≡ line ++ 13 ∷ after → HasNoReturn line → whole.now ≡ after
    → MatchOption stripped ((rest : List ℕ) → after ≢ 10 ∷ rest) (λ rest. after ≡ 10 ∷ rest.now) → others ≡ unwrap_or stripped whole
    → IsFirstLine text line others.now
first_line_of text line after whole (Some rest) others split none is fed chosen =
    first_line_fed text line after others.now split none (fed ∙ ap (λ r. 10 ∷ r.now) (sym chosen))
first_line_of text line after whole None others split none is unfed_after chosen =
    let same : others.now ≡ after = ap (λ r. r.now) chosen ∙ is in
    subst (IsFirstLine text line) (sym same) (first_line_unfed text line after split none unfed_after)
