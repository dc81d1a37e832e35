-- The order of texts by their bytes is that by their characters.
use Rattle.std.proofs.Common.{◌≡◌, ℕ, ◌+◌, ◌/◌, ◌%◌, ◌<◌, ◌≤◌, Bool, true, false, refl, sym, ap, ◌∙◌, List, [], ◌∷◌, ◌++◌, ◌⊎◌, inl, inr, arith}
use Rattle.std.proofs.lemmas.Bool.{cases_lt}
use Rattle.std.specs.Prelude.{nat_lt}
use Rattle.std.specs.Char.{encode_utf8}
use Rattle.std.specs.Str.{encode_utf8_all}
use Rattle.std.specs.declared.cmp.Ordering.TheVariants.{Less, Equal, Greater}
use Rattle.std.specs.Ordering.{nat_cmp, ordering_reverse}
use Rattle.std.specs.Cmp.Lexicographic.{slice_cmp, nat_list_cmp_total}
use Rattle.std.proofs.lemmas.Bool.Decides.{nat_tests}
use Rattle.xq_atoms.specs.Text.{text_cmp}

-- # Numbers

cmp_less : (x y : ℕ) → x < y → nat_cmp x y ≡ Less
cmp_less x y h = grind (arith, nat_tests)

cmp_more : (x y : ℕ) → y < x → nat_cmp x y ≡ Greater
cmp_more x y h = grind (arith, nat_tests)

cmp_same : (x : ℕ) → nat_cmp x x ≡ Equal
cmp_same x = grind (arith, nat_tests)

-- by the parts of a number above and below 64
abbrev Below : ℕ → ℕ → Type 0
Below c d = (c / 64 < d / 64) ⊎ ((c / 64 ≡ d / 64) × (c % 64 < d % 64))

below_64 : (c d : ℕ) → c < d → Below c d
below_64 c d h =
    elim (cases_lt (c / 64) (d / 64)) [
      | inl l ↦ inl l
      | inr m ↦ inr (omega (arith, h, m), omega (arith, h, m))
    ]

more_than : (c n : ℕ) → n ≤ c → nat_lt c n ≡ false
more_than c n h = grind (arith, nat_tests)

-- # Bytes

lead_less : (a b : ℕ) (xs ys : List ℕ) → a < b → text_cmp (a ∷ xs) (b ∷ ys) ≡ Less
lead_less a b xs ys h = rw (cmp_less a b h)

abbrev two_bytes : ℕ → ℕ → List ℕ → List ℕ
two_bytes k c xs = (k + c / 64) ∷ (128 + c % 64) ∷ xs

abbrev three_bytes : ℕ → ℕ → List ℕ → List ℕ
three_bytes k c xs = (k + c / 4096) ∷ (128 + c / 64 % 64) ∷ (128 + c % 64) ∷ xs

abbrev four_bytes : ℕ → ℕ → List ℕ → List ℕ
four_bytes k c xs =
    (k + c / 262144) ∷ (128 + c / 4096 % 64) ∷ (128 + c / 64 % 64) ∷ (128 + c % 64) ∷ xs

-- the number that the last bytes of a character stand for, with so many bits above it left out
tail_less : (x y : ℕ) → x % 64 < y % 64 → nat_cmp (128 + x % 64) (128 + y % 64) ≡ Less
tail_less x y h = cmp_less (128 + x % 64) (128 + y % 64) (omega (arith, h))

two_less : (k c d : ℕ) (xs ys : List ℕ) → c < d →
    text_cmp (two_bytes k c xs) (two_bytes k d ys) ≡ Less
two_less k c d xs ys h = by (below_64 c d h)
  where
    by : Below c d → text_cmp (two_bytes k c xs) (two_bytes k d ys) ≡ Less
    by (inl l) = rw (cmp_less (k + c / 64) (k + d / 64) (omega (arith, l)))
    by (inr e) = rw (e.0, cmp_same (k + d / 64), tail_less c d e.1)

three_less : (k c d : ℕ) (xs ys : List ℕ) → c < d →
    text_cmp (three_bytes k c xs) (three_bytes k d ys) ≡ Less
three_less k c d xs ys h = by (below_64 c d h)
  where
    goal : Type 0
    goal = text_cmp (three_bytes k c xs) (three_bytes k d ys) ≡ Less

    above : Below (c / 64) (d / 64) → goal
    above (inl l) = rw (cmp_less (k + c / 4096) (k + d / 4096) (omega (arith, l)))
    above (inr e) =
        let same : c / 4096 ≡ d / 4096 = omega (arith, e.0) in
        rw (same, cmp_same (k + d / 4096), tail_less (c / 64) (d / 64) e.1)

    by : Below c d → goal
    by (inl l) = above (below_64 (c / 64) (d / 64) l)
    by (inr e) =
        let same : c / 4096 ≡ d / 4096 = omega (arith, e.0) in
        rw (same, cmp_same (k + d / 4096), e.0, cmp_same (128 + d / 64 % 64), tail_less c d e.1)

four_less : (k c d : ℕ) (xs ys : List ℕ) → c < d →
    text_cmp (four_bytes k c xs) (four_bytes k d ys) ≡ Less
four_less k c d xs ys h = by (below_64 c d h)
  where
    goal : Type 0
    goal = text_cmp (four_bytes k c xs) (four_bytes k d ys) ≡ Less

    at_top : Below (c / 64 / 64) (d / 64 / 64) → goal
    at_top (inl l) = rw (cmp_less (k + c / 262144) (k + d / 262144) (omega (arith, l)))
    at_top (inr e) =
        let first : c / 262144 ≡ d / 262144 = omega (arith, e.0) in
        let next : nat_cmp (128 + c / 4096 % 64) (128 + d / 4096 % 64) ≡ Less =
        cmp_less (128 + c / 4096 % 64) (128 + d / 4096 % 64) (omega (arith, e.1)) in
        rw (first, cmp_same (k + d / 262144), next)

    above : Below (c / 64) (d / 64) → goal
    above (inl l) = at_top (below_64 (c / 64 / 64) (d / 64 / 64) l)
    above (inr e) =
        let first : c / 262144 ≡ d / 262144 = omega (arith, e.0) in
        let next : c / 4096 ≡ d / 4096 = omega (arith, e.0) in
        rw (
          first,
          cmp_same (k + d / 262144),
          next,
          cmp_same (128 + d / 4096 % 64),
          tail_less (c / 64) (d / 64) e.1,
        )

    by : Below c d → goal
    by (inl l) = above (below_64 (c / 64) (d / 64) l)
    by (inr e) =
        let first : c / 262144 ≡ d / 262144 = omega (arith, e.0) in
        let next : c / 4096 ≡ d / 4096 = omega (arith, e.0) in
        rw (
          first,
          cmp_same (k + d / 262144),
          next,
          cmp_same (128 + d / 4096 % 64),
          e.0,
          cmp_same (128 + d / 64 % 64),
          tail_less c d e.1,
        )

-- # Characters

data Form (c : ℕ) (bs : List ℕ) : Type 0 where
  one : c < 128 → bs ≡ c ∷ [] → Form c bs
  two : 128 ≤ c → c < 2048 → bs ≡ two_bytes 192 c [] → Form c bs
  three : 2048 ≤ c → c < 65536 → bs ≡ three_bytes 224 c [] → Form c bs
  four : 65536 ≤ c → bs ≡ four_bytes 240 c [] → Form c bs

form : (c : ℕ) → Form c (encode_utf8 c)
unfolding encode_utf8
form c = by_one (nat_lt c 128) refl
  where
    by_three : (t : Bool) → nat_lt c 65536 ≡ t → 2048 ≤ c → Form c (encode_utf8 c)
    by_three true e h =
        three h (grind (arith, nat_tests))
        (rw (more_than c 128 (omega (arith, h)), more_than c 2048 h, e))
    by_three false e h =
        four (grind (arith, nat_tests))
        (rw (more_than c 128 (omega (arith, h)), more_than c 2048 h, e))

    by_two : (t : Bool) → nat_lt c 2048 ≡ t → 128 ≤ c → Form c (encode_utf8 c)
    by_two true e h = two h (grind (arith, nat_tests)) (rw (more_than c 128 h, e))
    by_two false e h = by_three (nat_lt c 65536) refl (grind (arith, nat_tests))

    by_one : (t : Bool) → nat_lt c 128 ≡ t → Form c (encode_utf8 c)
    by_one true e = one (grind (arith, nat_tests)) (rw (e))
    by_one false e = by_two (nat_lt c 2048) refl (grind (arith, nat_tests))

less : (c d : ℕ) (bs es xs ys : List ℕ) → Form c bs → Form d es → c < d →
    text_cmp (bs ++ xs) (es ++ ys) ≡ Less
less c d bs es xs ys (one h e) (one k f) l =
    rw (e, f, cmp_less c d l)
less c d bs es xs ys (one h e) (two j k f) l =
    rw (e, f, cmp_less c (192 + d / 64) (omega (arith, h)))
less c d bs es xs ys (one h e) (three j k f) l =
    rw (e, f, cmp_less c (224 + d / 4096) (omega (arith, h)))
less c d bs es xs ys (one h e) (four j f) l =
    rw (e, f, cmp_less c (240 + d / 262144) (omega (arith, h)))
less c d bs es xs ys (two g h e) (one k f) l = absurd (omega (arith, g, k, l))
less c d bs es xs ys (two g h e) (two j k f) l = rw (e, f) (two_less 192 c d xs ys l)
less c d bs es xs ys (two g h e) (three j k f) l =
    rw (e, f, cmp_less (192 + c / 64) (224 + d / 4096) (omega (arith, h)))
less c d bs es xs ys (two g h e) (four j f) l =
    rw (e, f, cmp_less (192 + c / 64) (240 + d / 262144) (omega (arith, h)))
less c d bs es xs ys (three g h e) (one k f) l = absurd (omega (arith, g, k, l))
less c d bs es xs ys (three g h e) (two j k f) l = absurd (omega (arith, g, k, l))
less c d bs es xs ys (three g h e) (three j k f) l = rw (e, f) (three_less 224 c d xs ys l)
less c d bs es xs ys (three g h e) (four j f) l =
    rw (e, f, cmp_less (224 + c / 4096) (240 + d / 262144) (omega (arith, h)))
less c d bs es xs ys (four g e) (one k f) l = absurd (omega (arith, g, k, l))
less c d bs es xs ys (four g e) (two j k f) l = absurd (omega (arith, g, k, l))
less c d bs es xs ys (four g e) (three j k f) l = absurd (omega (arith, g, k, l))
less c d bs es xs ys (four g e) (four j f) l = rw (e, f) (four_less 240 c d xs ys l)

nothing_less : (d : ℕ) (es ys : List ℕ) → Form d es → text_cmp [] (es ++ ys) ≡ Less
nothing_less d es ys (one h e) = rw (e)
nothing_less d es ys (two g h e) = rw (e)
nothing_less d es ys (three g h e) = rw (e)
nothing_less d es ys (four g e) = rw (e)

turned : (xs ys : List ℕ) → text_cmp xs ys ≡ Less → text_cmp ys xs ≡ Greater
turned xs ys h = nat_list_cmp_total.antisymm ys xs ∙ ap ordering_reverse h

after_same : (bs xs ys : List ℕ) → text_cmp (bs ++ xs) (bs ++ ys) ≡ text_cmp xs ys
after_same [] xs ys = refl
after_same (b ∷ bs) xs ys = rw (cmp_same b, after_same bs xs ys)

-- two texts stand by their bytes as they do by their characters
pub order_of_bytes : (cs ds : List ℕ) →
    text_cmp (encode_utf8_all cs) (encode_utf8_all ds) ≡ slice_cmp nat_cmp cs ds
order_of_bytes [] [] = refl
order_of_bytes [] (d ∷ ds) = nothing_less d (encode_utf8 d) (encode_utf8_all ds) (form d)
order_of_bytes (c ∷ cs) [] =
    turned [] (encode_utf8_all (c ∷ cs))
    (nothing_less c (encode_utf8 c) (encode_utf8_all cs) (form c))
order_of_bytes (c ∷ cs) (d ∷ ds) = by (order_of_bytes cs ds) (cases_lt c d) (cases_lt d c)
  where
    xs : List ℕ
    xs = encode_utf8_all cs

    ys : List ℕ
    ys = encode_utf8_all ds

    by : text_cmp xs ys ≡ slice_cmp nat_cmp cs ds → (c < d) ⊎ (d ≤ c) → (d < c) ⊎ (c ≤ d) →
        text_cmp (encode_utf8_all (c ∷ cs)) (encode_utf8_all (d ∷ ds))
        ≡ slice_cmp nat_cmp (c ∷ cs) (d ∷ ds)
    by rest (inl l) k = less c d (encode_utf8 c) (encode_utf8 d) xs ys (form c) (form d) l
        ∙ sym (lead_less c d cs ds l)
    by rest (inr h) (inl l) =
        turned (encode_utf8_all (d ∷ ds)) (encode_utf8_all (c ∷ cs))
        (less d c (encode_utf8 d) (encode_utf8 c) ys xs (form d) (form c) l)
        ∙ sym (turned (d ∷ ds) (c ∷ cs) (lead_less d c ds cs l))
    by rest (inr h) (inr k) =
        let same : c ≡ d = omega (arith, h, k) in
        rw (same, cmp_same d, after_same (encode_utf8 d) xs ys, rest)
