-- What is written in a string literal, and what stays of a text that is appended to.
use Rattle.std.proofs.Common.{◌≡◌, ◌≢◌, ℕ, suc, ◌+◌, ◌-◌, ◌<◌, ◌≤◌, List, [], ◌∷◌, ◌++◌, length, get_or, take, drop, replicate, arith, refl, sym, ap, ◌∙◌, ⊎_elim, flat_map, subst}
use Rattle.std.specs.Prelude.{encode_utf8, encode_utf8_all, IsUtf8, IsCharBoundary}
use Rattle.std.proofs.lemmas.List.{take-append-le, take-append-drop, length-take, append-nil, append_assoc, take-replicate}
use Rattle.std.proofs.lemmas.Grind.{flat_map-append}
use Rattle.std.proofs.lemmas.Str.{encode_ascii, encodes-append, inside_one, IsCharBoundary-from_take}
use Rattle.std.proofs.lemmas.Bool.{cases_lt}
use Rattle.std.proofs.lemmas.Bool.Decides.{nat_tests}
use Rattle.std.proofs.Math.Seq.{take-append_seam}
use Rattle.xq_atoms.specs.Print.{quoted_character}

quoted_character-plain : (c : ℕ) → c ≢ 34 → c ≢ 38 → c ≢ 13 → quoted_character c ≡ c ∷ []
quoted_character-plain c quote ampersand return = grind (arith, nat_tests)

flat_map-high : (bs : List ℕ) → ((k : ℕ) → k < length bs → 128 ≤ get_or bs k 0) → flat_map quoted_character bs ≡ bs
flat_map-high [] high = refl
flat_map-high (b ∷ bs) high =
    let first : 128 ≤ b = high 0 (omega arith) in
    let rest = flat_map-high bs (λ k h. high (suc k) (omega arith)) in
    (λ i. quoted_character-plain b (omega arith) (omega arith) (omega arith) i ++ rest i)

pub high-encode : (c k : ℕ) → 128 ≤ c → k < length (encode_utf8 c) → 128 ≤ get_or (encode_utf8 c) k 0
high-encode c k high h =
    ⊎_elim
    (λ low. let e = inside_one c [] (encode_utf8 c) k (sym (append-nil (encode_utf8 c))) h low in absurd (omega arith))
    (λ least. least)
    (cases_lt (get_or (encode_utf8 c) k 0) 128)

-- of any other character than these three, all bytes are written as they are
pub flat_map-encode : (c : ℕ) → c ≢ 34 → c ≢ 38 → c ≢ 13 → flat_map quoted_character (encode_utf8 c) ≡ encode_utf8 c
flat_map-encode c quote ampersand return =
    ⊎_elim
    (λ low. ap (flat_map quoted_character) (encode_ascii c low) ∙ append-nil (quoted_character c) ∙ quoted_character-plain c quote ampersand return ∙ sym (encode_ascii c low))
    (λ high. flat_map-high (encode_utf8 c) (λ k h. high-encode c k high h))
    (cases_lt c 128)

-- one more character in a literal
pub flat_map-push : (front cs : List ℕ) (c : ℕ) → front ++ flat_map quoted_character (encode_utf8_all cs) ++ flat_map quoted_character (encode_utf8 c) ≡ front ++ flat_map quoted_character (encode_utf8_all (cs ++ c ∷ []))
flat_map-push front cs c =
    append_assoc front (flat_map quoted_character (encode_utf8_all cs)) (flat_map quoted_character (encode_utf8 c))
    ∙ ap (λ x. front ++ x) (sym (flat_map-append quoted_character (encode_utf8_all cs) (encode_utf8 c))
    ∙ ap (λ x. flat_map quoted_character (encode_utf8_all cs ++ x)) (sym (append-nil (encode_utf8 c)))
    ∙ ap (flat_map quoted_character) (sym (encodes-append cs (c ∷ []))))

length-le : (old new : List ℕ) → take (length old) new ≡ old → length old ≤ length new
length-le old new kept = omega (arith, ap length kept, length-take (length old) new)

-- a text may be cut where an append began
pub IsCharBoundary-kept : (old new s : List ℕ) → s ≡ old → IsUtf8 old → IsUtf8 new → take (length old) new ≡ old → IsCharBoundary new (length s)
IsCharBoundary-kept old new s same before after kept =
    rw same (IsCharBoundary-from_take new (length old) after (length-le old new kept) (subst IsUtf8 (sym kept) before))

-- what an earlier append left stays
pub take-through : (old between new : List ℕ) → take (length old) between ≡ old → take (length between) new ≡ between → take (length old) new ≡ old
take-through old between new p q =
    let le = length-le old between p in
    let there : length old ≤ length (take (length between) new) = rw q le in
    ap (take (length old)) (sym (take-append-drop (length between) new)) ∙ take-append-le (length old) (take (length between) new) (drop (length between) new) there ∙ ap (take (length old)) q ∙ p

pub take-front : (old more rest : List ℕ) → take (length old) (old ++ more ++ rest) ≡ old
take-front old more rest = ap (take (length old)) (append_assoc old more rest) ∙ take-append_seam old (more ++ rest)

pub append-three : (old a b d : List ℕ) → old ++ a ++ b ++ d ≡ old ++ (a ++ b ++ d)
append-three old a b d = ap (λ x. x ++ d) (append_assoc old a b) ∙ append_assoc old (a ++ b) d

-- zeros before the digits
pub padded-is : (old new digits rest : List ℕ) (start : ℕ) → old ≡ replicate 6 48 → start + length digits ≡ 6 → drop start new ≡ digits ++ drop 6 old → take start new ≡ take start old → new ≡ replicate (6 - length digits) 48 ++ digits
padded-is old new digits rest start zeros ends written before =
    let place : start ≡ 6 - length digits = omega arith in
    let front : take start new ≡ replicate (6 - length digits) 48 = before ∙ ap (take start) zeros ∙ take-replicate start 6 48 (omega arith) ∙ ap (λ n. replicate n 48) place in
    let back : drop start new ≡ digits = written ∙ ap (λ x. digits ++ drop 6 x) zeros ∙ append-nil digits in
    sym (take-append-drop start new) ∙ (λ i. front i ++ back i)
