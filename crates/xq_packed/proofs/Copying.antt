-- A run of rows copied after others, with their levels moved.
use Rattle.std.proofs.Common.{◌≡◌, ◌≤◌, ◌+◌, ◌-◌, ℕ, zero, suc, List, [], ◌∷◌, ◌++◌, take, drop, map, length, refl, sym, ap, ◌∙◌, subst, arith}
use Rattle.std.specs.Str.{IsUtf8}
use Rattle.std.proofs.Math.Seq.{drop-append-add}
use Rattle.std.proofs.lemmas.List.{take-take, drop-drop, drop-take, length-append, length-take, length-drop}
use Rattle.std.proofs.lemmas.Str.{IsUtf8-append, IsUtf8-between, IsCharBoundary-from_take}
use Rattle.xq_packed.specs.declared.shapes.Shape.{Shape}
use Rattle.xq_packed.specs.Packed.{row, with_name, with_names, IsNumbered}
use Rattle.xq_packed.specs.Changes.{moved}
use Rattle.xq_packed.specs.private.Shapes.{value_end, last_end, text_between, name_at, row_of_shape, rows_of_shapes, IsShape, AreShapes}
use Rattle.xq_packed.specs.private.Copies.{IsMovedTo, IsMoved, AreMoved, with_named}
use Rattle.xq_packed.proofs.Numbering.{name-numbered, grown, numbered-stays}

abbrev Text : Type 0
Text = List ℕ

-- a piece of a copied piece
between-shift : (text o : Text) (low k m rest : ℕ) → take m (drop (length text + k) (text ++ take (k + (m + rest)) (drop low o))) ≡ take m (drop (low + k) o)
between-shift text o low k m rest =
    ap (take m) (drop-append-add text (take (k + (m + rest)) (drop low o)) k)
    ∙ ap (take m) (drop-take k (m + rest) (drop low o))
    ∙ take-take m (m + rest) (drop k (drop low o)) (omega arith)
    ∙ ap (take m) (drop-drop k low o)

pub between-copied : (text o : Text) (low high i j i' j' : ℕ) → low ≤ i → i ≤ j → j ≤ high → i' + low ≡ i + length text → j' + low ≡ j + length text → text_between (text ++ text_between o low high) i' j' ≡ text_between o i j
between-copied text o low high i j i' j' a b c at to =
    let k = i - low in
    let m = j - i in
    let rest = high - j in
    let whole : high - low ≡ k + (m + rest) = omega arith in
    let from : i' ≡ length text + k = omega arith in
    let size : j' - i' ≡ m = omega arith in
    let start : low + k ≡ i = omega arith in
    ap (λ w. take (j' - i') (drop i' (text ++ take w (drop low o)))) whole
    ∙ ap (λ w. take w (drop i' (text ++ take (k + (m + rest)) (drop low o)))) size
    ∙ ap (λ w. take m (drop w (text ++ take (k + (m + rest)) (drop low o)))) from
    ∙ between-shift text o low k m rest
    ∙ ap (λ w. take m (drop w o)) start

-- values end after those before them
pub end-rises : (o : Text) (others : List Text) (start : ℕ) (shapes : List Shape) → AreShapes o others start shapes → start ≤ last_end start shapes
end-rises o others start [] h = omega arith
end-rises o others start (s ∷ ss) h = omega (arith, h.0.rises, end-rises o others (value_end s) ss h.1)

-- # The rows that moved shapes stand for

-- the rows of shapes that were moved are those of the shapes, with levels moved
pub rows-copied : (text o : Text) (others names : List Text) (low high from to start start' : ℕ) (shapes shapes' : List Shape) → low ≤ start → start' + low ≡ start + length text → last_end start shapes ≤ high → AreShapes o others start shapes → AreMoved others names low (length text) from to shapes shapes' → rows_of_shapes (text ++ text_between o low high) names start' shapes' ≡ map (moved from to) (rows_of_shapes o others start shapes)
rows-copied text o others names low high from to start start' [] [] a at end h m = refl
rows-copied text o others names low high from to start start' [] (t ∷ ts) a at end h m = absurd m
rows-copied text o others names low high from to start start' (s ∷ ss) [] a at end h m = absurd m
rows-copied text o others names low high from to start start' (s ∷ ss) (t ∷ ts) a at end h m =
    let ends : value_end s ≤ last_end (value_end s) ss = end-rises o others (value_end s) ss h.1 in
    let value : text_between (text ++ text_between o low high) start' (value_end t) ≡ text_between o start (value_end s) =
    between-copied text o low high start (value_end s) start' (value_end t) a h.0.rises (omega arith) at m.0.0.ends in
    let first : row_of_shape (text ++ text_between o low high) names start' t ≡ moved from to (row_of_shape o others start s) =
    ap (λ v. row t.size t.level t.kind (name_at names t.name) v) value
    ∙ ap (λ n. row t.size t.level t.kind n (text_between o start (value_end s))) (name-numbered names t.name (name_at others s.name) m.0.1).1
    ∙ ap (λ z. row z t.level t.kind (name_at others s.name) (text_between o start (value_end s))) m.0.0.size
    ∙ ap (λ z. row s.size z t.kind (name_at others s.name) (text_between o start (value_end s))) m.0.0.level
    ∙ ap (λ z. row s.size (s.level - from + to) z (name_at others s.name) (text_between o start (value_end s))) m.0.0.kind in
    ap (λ r. r ∷ rows_of_shapes (text ++ text_between o low high) names (value_end t) ts) first
    ∙ ap (λ rs. moved from to (row_of_shape o others start s) ∷ rs) (rows-copied text o others names low high from to (value_end s) (value_end t) ss ts (omega (arith, a, h.0.rises)) m.0.0.ends end h.1 m.1)

-- # What is kept of moved shapes

-- the front of a text with a copied piece after it is UTF-8 where the other text may be cut
cut-copied : (text o : Text) (low high i i' : ℕ) → IsUtf8 text → IsUtf8 o → low ≤ i → i ≤ high → high ≤ length o → IsUtf8 (take low o) → IsUtf8 (take i o) → i' + low ≡ i + length text → IsUtf8 (take i' (text ++ text_between o low high))
cut-copied text o low high i i' u v a b inside cut_low cut at =
    let piece : IsUtf8 (text_between o low i) = IsUtf8-between o low i v a (IsCharBoundary-from_take o low v (omega arith) cut_low) (IsCharBoundary-from_take o i v (omega arith) cut) in
    let here : text_between (text ++ text_between o low high) (length text) i' ≡ text_between o low i = between-copied text o low high low i (length text) i' (omega arith) a b (omega arith) at in
    subst IsUtf8 (sym (front-of text (text_between o low high) i' (omega arith) ∙ ap (λ p. text ++ p) here)) (IsUtf8-append text (text_between o low i) u piece)
  where
    front-of : (xs ys : Text) (n : ℕ) → length xs ≤ n → take n (xs ++ ys) ≡ xs ++ text_between (xs ++ ys) (length xs) n
    front-of [] ys n l = (let e : n - 0 ≡ n = omega arith in ap (λ m. take m ys) (sym e))
    front-of (x ∷ xs) ys zero l = absurd (omega arith)
    front-of (x ∷ xs) ys (suc n) l =
        let e : n - length xs ≡ suc n - suc (length xs) = omega arith in
        ap (λ zs. x ∷ zs) (front-of xs ys n (omega arith)) ∙ ap (λ m. x ∷ (xs ++ take m (drop (length xs) (xs ++ ys)))) e

length-between : (o : Text) (low high : ℕ) → low ≤ high → high ≤ length o → length (text_between o low high) ≡ high - low
length-between o low high a b = omega (arith, length-take (high - low) (drop low o), length-drop low o)

pub shapes-copied : (text o : Text) (others names : List Text) (low high from to start start' : ℕ) (shapes shapes' : List Shape) → IsUtf8 text → IsUtf8 o → IsUtf8 (take low o) → high ≤ length o → low ≤ start → start' + low ≡ start + length text → last_end start shapes ≤ high → AreShapes o others start shapes → AreMoved others names low (length text) from to shapes shapes' → AreShapes (text ++ text_between o low high) names start' shapes'
shapes-copied text o others names low high from to start start' [] [] u v cut inside a at end h m = tt
shapes-copied text o others names low high from to start start' [] (t ∷ ts) u v cut inside a at end h m = absurd m
shapes-copied text o others names low high from to start start' (s ∷ ss) [] u v cut inside a at end h m = absurd m
shapes-copied text o others names low high from to start start' (s ∷ ss) (t ∷ ts) u v cut inside a at end h m =
    let ends : value_end s ≤ last_end (value_end s) ss = end-rises o others (value_end s) ss h.1 in
    let there : value_end t + low ≡ value_end s + length text = m.0.0.ends in
    let first : IsShape (text ++ text_between o low high) names start' t = record {
      rises = omega (arith, h.0.rises, there);
      within = omega (arith, there, ends, h.0.rises, length-append text (text_between o low high), length-between o low high (omega (arith, ends, h.0.rises)) inside);
      cut = cut-copied text o low high (value_end s) (value_end t) u v (omega (arith, h.0.rises)) (omega (arith, ends)) inside cut h.0.cut there;
      named = (name-numbered names t.name (name_at others s.name) m.0.1).0;
    } in
    (first, shapes-copied text o others names low high from to (value_end s) (value_end t) ss ts u v cut inside (omega (arith, h.0.rises)) there end h.1 m.1)

-- where the last of them ends
pub end-copied : (others names : List Text) (low base from to start start' : ℕ) (shapes shapes' : List Shape) → start' + low ≡ start + base → AreMoved others names low base from to shapes shapes' → last_end start' shapes' + low ≡ last_end start shapes + base
end-copied others names low base from to start start' [] [] at m = at
end-copied others names low base from to start start' [] (t ∷ ts) at m = absurd m
end-copied others names low base from to start start' (s ∷ ss) [] at m = absurd m
end-copied others names low base from to start start' (s ∷ ss) (t ∷ ts) at m =
    end-copied others names low base from to (value_end s) (value_end t) ss ts m.0.0.ends m.1

pub length-copied : (others names : List Text) (low base from to : ℕ) (shapes shapes' : List Shape) → AreMoved others names low base from to shapes shapes' → length shapes' ≡ length shapes
length-copied others names low base from to [] [] m = refl
length-copied others names low base from to [] (t ∷ ts) m = absurd m
length-copied others names low base from to (s ∷ ss) [] m = absurd m
length-copied others names low base from to (s ∷ ss) (t ∷ ts) m = ap suc (length-copied others names low base from to ss ts m.1)

-- # One more of them

-- a name keeps its number where another is added
pub numbered-with : (names : List Text) (other : Text) (n : ℕ) (name : Text) → IsNumbered names n name → IsNumbered (with_name names other) n name
numbered-with names other n name h =
    let more = grown names other in
    subst (λ ns. IsNumbered ns n name) (sym more.1) (numbered-stays names more.0 n name h)

moved-with : (others names : List Text) (other : Text) (low base from to : ℕ) (shapes shapes' : List Shape) → AreMoved others names low base from to shapes shapes' → AreMoved others (with_name names other) low base from to shapes shapes'
moved-with others names other low base from to [] [] m = tt
moved-with others names other low base from to [] (t ∷ ts) m = absurd m
moved-with others names other low base from to (s ∷ ss) [] m = absurd m
moved-with others names other low base from to (s ∷ ss) (t ∷ ts) m =
    ((m.0.0, numbered-with names other t.name (name_at others s.name) m.0.1), moved-with others names other low base from to ss ts m.1)

moved_snoc : (others names : List Text) (low base from to : ℕ) (shapes shapes' : List Shape) (s t : Shape) → AreMoved others names low base from to shapes shapes' → IsMoved others names low base from to s t → AreMoved others names low base from to (shapes ++ s ∷ []) (shapes' ++ t ∷ [])
moved_snoc others names low base from to [] [] s t m k = (k, tt)
moved_snoc others names low base from to [] (t' ∷ ts) s t m k = absurd m
moved_snoc others names low base from to (s' ∷ ss) [] s t m k = absurd m
moved_snoc others names low base from to (s' ∷ ss) (t' ∷ ts) s t m k = (m.0, moved_snoc others names low base from to ss ts s t m.1 k)

pub moved-push : (others names : List Text) (low base from to : ℕ) (shapes shapes' : List Shape) (s t : Shape) (number : ℕ) → AreMoved others names low base from to shapes shapes' → IsMovedTo low base from to s number t → IsNumbered (with_name names (name_at others s.name)) number (name_at others s.name) → AreMoved others (with_name names (name_at others s.name)) low base from to (shapes ++ s ∷ []) (shapes' ++ t ∷ [])
moved-push others names low base from to shapes shapes' s t number m k numbered =
    let names' = with_name names (name_at others s.name) in
    let here : IsMoved others names' low base from to s t =
    (record { size = k.size; level = k.level; kind = k.kind; ends = k.ends; name = refl }, subst (λ n. IsNumbered names' n (name_at others s.name)) (sym k.name) numbered) in
    moved_snoc others names' low base from to shapes shapes' s t (moved-with others names (name_at others s.name) low base from to shapes shapes' m) here

pub with_named-push : (others names : List Text) (shapes : List Shape) (s : Shape) → with_named others names (shapes ++ s ∷ []) ≡ with_name (with_named others names shapes) (name_at others s.name)
with_named-push others names [] s = refl
with_named-push others names (q ∷ shapes) s = with_named-push others (with_name names (name_at others q.name)) shapes s

-- the names of shapes are those of their rows
pub with_named-rows : (o : Text) (others names : List Text) (start : ℕ) (shapes : List Shape) → with_named others names shapes ≡ with_names names (rows_of_shapes o others start shapes)
with_named-rows o others names start [] = refl
with_named-rows o others names start (s ∷ shapes) = with_named-rows o others (with_name names (name_at others s.name)) (value_end s) shapes
