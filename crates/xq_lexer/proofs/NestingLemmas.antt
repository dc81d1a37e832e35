-- The saved numbers rise, so that few are saved, and what a change of the number keeps.
use Rattle.std.proofs.Common.{◌≡◌, ℕ, ◌+◌, ◌<◌, ◌≤◌, max, min, List, [], ◌∷◌, length, get_or, take, drop, set, reverse, zero, suc, refl, sym, ap, ◌∙◌, subst, add-one, arith}
use Rattle.std.proofs.lemmas.List.{take_more, take_more_set, length-set, reverse-append, length-reverse, length-take-le}
use Rattle.xq_lexer.specs.Lexeme.{Lex, lexemes}
use Rattle.xq_lexer.specs.declared.tokens.Token.{Token}
use Rattle.xq_lexer.specs.declared.depth.Change.{Change}
use Rattle.xq_lexer.specs.declared.depth.Change.TheVariants.{Opens, Closes, Deepens, Keeps}
use Rattle.xq_lexer.specs.Nesting.{changed, greatest, nesting}
use Rattle.xq_lexer.specs.private.Changes.{first_change}

-- each saved number is below the next one, and the last below k
abbrev pub Rises : ℕ → List ℕ → Type 0
Rises k [] = Unit {0}
Rises k (last ∷ saved) = (last < k) × Rises last saved

pub few_saved : (k : ℕ) (saved : List ℕ) → Rises k saved → length saved ≤ k
few_saved k [] r = omega arith
few_saved k (last ∷ saved) r = let more = few_saved last saved r.1 in omega (arith, more, r.0)

pub rises_more : (k j : ℕ) (saved : List ℕ) → k ≤ j → Rises k saved → Rises j saved
rises_more k j [] le r = tt
rises_more k j (last ∷ saved) le r = (omega (arith, r.0), r.1)

-- the numbers that an array holds, the last one first
abbrev pub held : ℕ → List ℕ → List ℕ
held n array = reverse (take n array)

pub held_more : (n k : ℕ) (array : List ℕ) → n < length array → held (n + 1) (set array n k) ≡ k ∷ held n array
held_more n k array lt = ap reverse (take_more_set array n k lt) ∙ reverse-append (take n array) (k ∷ [])

pub held_less : (n : ℕ) (array : List ℕ) → n < length array → held (n + 1) array ≡ get_or array n 0 ∷ held n array
held_less n array lt = ap reverse (take_more array n 0 lt) ∙ reverse-append (take n array) (get_or array n 0 ∷ [])

pub at_most_greatest : (k : ℕ) (saved : List ℕ) (ts : List Lex) → k ≤ greatest k saved ts
at_most_greatest k saved [] = omega arith
at_most_greatest k saved (t ∷ rest) = omega arith

-- one token on
pub greatest_at : (tokens : List Token) (i k : ℕ) (saved : List ℕ) → i < length tokens
    → greatest k saved (lexemes (drop i tokens)) ≡ (let next = changed (first_change (lexemes (drop i tokens))) k saved in max k (greatest next.0 next.1 (lexemes (drop (suc i) tokens))))
greatest_at [] i k saved lt = absurd (omega (arith, lt))
greatest_at (t ∷ rest) zero k saved lt = refl
greatest_at (t ∷ rest) (suc i) k saved lt = greatest_at rest i k saved (omega (arith, lt))

-- what the loop keeps: the array's room, the bounds, and the number at the end
pub record Counts (array : List ℕ) (count now greatest_so_far i : ℕ) (tokens : List Token) : Type 0 where
  pub room : length array ≡ 128
  pub within : count ≤ 128
  pub small : now ≤ 128
  pub low : greatest_so_far ≤ 128
  pub reached : now ≤ greatest_so_far
  pub rises : Rises now (held count array)
  pub same : max greatest_so_far (greatest now (held count array) (lexemes (drop i tokens))) ≡ nesting (lexemes tokens)

length-held : (n : ℕ) (array : List ℕ) → n ≤ length array → length (held n array) ≡ n
length-held n array le = length-reverse (take n array) ∙ length-take-le n array le

module _ (array : List ℕ) (count now so_far i : ℕ) (tokens : List Token) (c : Counts array count now so_far i tokens) where
  pub few : count ≤ now
  few = let n = length-held count array (omega (arith, c.room, c.within)) in let f = few_saved now (held count array) c.rises in omega (arith, n, f)

  module _ (lt : i < length tokens) (change : Change) (is : change ≡ first_change (lexemes (drop i tokens))) where
    -- the number at the end, by the change
    after : max so_far (let next = changed change now (held count array) in max now (greatest next.0 next.1 (lexemes (drop (i + 1) tokens)))) ≡ nesting (lexemes tokens)
    after = rw (is, add-one, ← greatest_at tokens i now (held count array) lt) c.same

    -- the change leads to another array with another front
    pub counts_more : (next_array : List ℕ) (next_open next : ℕ) → (length next_array ≡ 128) → next_open ≤ 128 → next ≤ 128
        → changed change now (held count array) ≡ (next, held next_open next_array) → Rises next (held next_open next_array)
        → Counts next_array next_open next (max so_far next) (i + 1) tokens
    counts_more next_array next_open next room within small e rises =
        let a = after in
        let g = at_most_greatest next (held next_open next_array) (lexemes (drop (i + 1) tokens)) in
        let b : max so_far (max now (greatest next (held next_open next_array) (lexemes (drop (i + 1) tokens)))) ≡ nesting (lexemes tokens) =
        subst (λ (p : ℕ × List ℕ). max so_far (max now (greatest p.0 p.1 (lexemes (drop (i + 1) tokens)))) ≡ nesting (lexemes tokens)) e a in
        record {
          room = room;
          within = within;
          small = small;
          low = omega (arith, c.low, small);
          reached = omega arith;
          rises = rises;
          same = omega (arith, b, g, c.reached);
        }

    -- past the limit
    pub counts_over : (saved : List ℕ) → changed change now (held count array) ≡ (now + 1, saved) → now ≡ 128 → 129 ≡ min 129 (nesting (lexemes tokens))
    counts_over saved e top =
        let b : max so_far (max now (greatest (now + 1) saved (lexemes (drop (i + 1) tokens)))) ≡ nesting (lexemes tokens) =
        subst (λ (p : ℕ × List ℕ). max so_far (max now (greatest p.0 p.1 (lexemes (drop (i + 1) tokens)))) ≡ nesting (lexemes tokens)) e after in
        let g = at_most_greatest (now + 1) saved (lexemes (drop (i + 1) tokens)) in
        omega (arith, b, g, top)

    pub counts_open : change ≡ Opens → now < 128 → Counts (set array count now) (count + 1) (now + 1) (max so_far (now + 1)) (i + 1) tokens
    counts_open o small =
        let f = few in
        let h = held_more count now array (omega (arith, c.room, f)) in
        counts_more (set array count now) (count + 1) (now + 1) (length-set array count now ∙ c.room) (omega (arith, f)) (omega arith)
        (rw (o, h) refl) (rw h (omega arith, c.rises))

    pub counts_deepen : change ≡ Deepens → now < 128 → Counts array count (now + 1) (max so_far (now + 1)) (i + 1) tokens
    counts_deepen o small = counts_more array count (now + 1) c.room c.within (omega arith) (rw o refl) (rises_more now (now + 1) (held count array) (omega arith) c.rises)

    pub counts_keep : change ≡ Keeps → Counts array count now (max so_far now) (i + 1) tokens
    counts_keep o = counts_more array count now c.room c.within c.small (rw o refl) c.rises

    pub counts_close_none : change ≡ Closes → count ≡ 0 → Counts array count now (max so_far now) (i + 1) tokens
    counts_close_none o none = counts_more array count now c.room c.within c.small (rw (o, none) refl) c.rises

    pub counts_close : (n last : ℕ) → change ≡ Closes → count ≡ n + 1 → last ≡ get_or array n 0 → Counts array n last (max so_far last) (i + 1) tokens
    counts_close n last o some is-last =
        let h : held count array ≡ last ∷ held n array = ap (λ j. held j array) some ∙ held_less n array (omega (arith, c.room, c.within, some)) ∙ ap (λ j. j ∷ held n array) (sym is-last) in
        let r : Rises now (last ∷ held n array) = subst (Rises now) h c.rises in
        counts_more array n last c.room (omega (arith, c.within, some)) (omega (arith, r.0, c.small)) (rw (o, h) refl) r.1
