-- Rows of a list that are copied after its last, and rows that are cut off.
use Rattle.std.proofs.Common.{◌≡◌, ◌<◌, ◌≤◌, ◌+◌, ◌-◌, ℕ, List, [], ◌∷◌, ◌++◌, take, drop, length, get_or, min, refl, sym, ap, ◌∙◌, subst, arith, append_assoc}
use Rattle.std.specs.Prelude.{All, slice_get, slice_range, IsCharBoundary}
use Rattle.std.specs.Str.{IsUtf8}
use Rattle.std.proofs.lemmas.Str.{IsCharBoundary-from_take}
use Rattle.std.proofs.lemmas.List.{append-nil, length-drop, length-take, take_more, take_min, take-take, take-append-drop, get_or-drop, get_or-take, get_or_append_left}
use Rattle.std.proofs.lemmas.List.Elements.{All-head, All-tail}
use Rattle.std.proofs.lemmas.Option.{slice_get-get_or}
use Rattle.xq_trees.specs.Rows.{Row}
use Rattle.xq_packed.specs.declared.shapes.Shape.{Shape}
use Rattle.xq_packed.specs.Packed.{Packed}
use Rattle.xq_packed.specs.private.Shapes.{value_end, last_end, value_start, rows_of_shapes, IsShape, AreShapes, IsKept}
use Rattle.xq_packed.specs.private.Copies.{IsReadable, IsMovedTo, AreMoved, AreShifted, AreShiftedAfter}
use Rattle.xq_packed.proofs.Standing.{rows-stay, rows-length}
use Rattle.xq_packed.proofs.Copying.{end-rises}
use Rattle.xq_packed.proofs.Appending.{IsCut, first-cut, start-cut, shapes-take, end-take, rows-take}

abbrev Text : Type 0
Text = List ℕ

-- # One more of a run

-- the elements from a place to before another, and the next
pub range_more : {A : Type 0} (xs : List A) (low at : ℕ) (d : A) → low ≤ at → at < length xs → slice_range xs low (at + 1) ≡ slice_range xs low at ++ get_or xs at d ∷ []
range_more xs low at d le lt =
    let next : at + 1 - low ≡ at - low + 1 = omega arith in
    let there : low + (at - low) ≡ at = omega arith in
    ap (λ n. take n (drop low xs)) next
    ∙ take_more (drop low xs) (at - low) d (omega (arith, length-drop low xs))
    ∙ ap (λ x. slice_range xs low at ++ x ∷ []) (get_or-drop low xs (at - low) d ∙ ap (λ n. get_or xs n d) there)

-- what holds of each of them holds at a place between
pub range_at : {A : Type 0} (P : A → Type 0) (xs : List A) (low high at : ℕ) (d : A) → low ≤ at → at < high → high ≤ length xs → All P (slice_range xs low high) → P (get_or xs at d)
range_at P xs low high at d le lt inside all =
    let there : low + (at - low) ≡ at = omega arith in
    let here : get_or (slice_range xs low high) (at - low) d ≡ get_or xs at d =
    get_or-take (high - low) (drop low xs) (at - low) d (omega arith) ∙ get_or-drop low xs (at - low) d ∙ ap (λ n. get_or xs n d) there in
    subst P here (all (at - low) d (omega (arith, length-take (high - low) (drop low xs), length-drop low xs)))

shifted_snoc : (low base from to : ℕ) (shapes shapes' : List Shape) (s t : Shape) → AreShifted low base from to shapes shapes' → IsMovedTo low base from to s s.name t → AreShifted low base from to (shapes ++ s ∷ []) (shapes' ++ t ∷ [])
shifted_snoc low base from to [] [] s t m k = (k, tt)
shifted_snoc low base from to [] (t' ∷ ts) s t m k = absurd m
shifted_snoc low base from to (s' ∷ ss) [] s t m k = absurd m
shifted_snoc low base from to (s' ∷ ss) (t' ∷ ts) s t m k = (m.0, shifted_snoc low base from to ss ts s t m.1 k)

pub shifted_more : (low base from to : ℕ) (old : List Shape) (first at : ℕ) (d t : Shape) (shapes shapes' : List Shape) → first ≤ at → at < length old → AreShiftedAfter low base from to old (slice_range old first at) shapes → IsMovedTo low base from to (get_or old at d) (get_or old at d).name t → shapes' ≡ shapes ++ t ∷ [] → AreShiftedAfter low base from to old (slice_range old first (at + 1)) shapes'
shifted_more low base from to old first at d t shapes shapes' le lt m k e = (
  m.0 ++ t ∷ [],
  e ∙ ap (λ ss. ss ++ t ∷ []) m.1 ∙ append_assoc old m.0 (t ∷ []),
  subst (λ ss. AreShifted low base from to ss (m.0 ++ t ∷ [])) (sym (range_more old first at d le lt)) (shifted_snoc low base from to (slice_range old first at) m.0 (get_or old at d) t m.2 k),
)

-- a shape stands where it stood
pub shape-before : (low base from to : ℕ) (old run new : List Shape) (at : ℕ) (d : Shape) → AreShiftedAfter low base from to old run new → at < length old → get_or new at d ≡ get_or old at d
shape-before low base from to old run new at d m lt = ap (λ ss. get_or ss at d) m.1 ∙ get_or_append_left old m.0 d at lt

-- # NameTable that are there

-- shapes with the same numbers have the same names
pub shifted-moved : (names : List Text) (low base from to : ℕ) (run ts : List Shape) → All (IsReadable names low) run → AreShifted low base from to run ts → AreMoved names names low base from to run ts
shifted-moved names low base from to [] [] r m = tt
shifted-moved names low base from to [] (t ∷ ts) r m = absurd m
shifted-moved names low base from to (s ∷ ss) [] r m = absurd m
shifted-moved names low base from to (s ∷ ss) (t ∷ ts) r m =
    let k = m.0 in
    let named : s.name < length names = (All-head (IsReadable names low) s ss r).1 in
    ((record { size = k.size; level = k.level; kind = k.kind; ends = k.ends; name = refl }, ap (λ n. slice_get names n) k.name ∙ slice_get-get_or names s.name [] named), shifted-moved names low base from to ss ts (All-tail (IsReadable names low) s ss r) m.1)

-- # Where the text may be cut

pub boundary : (text bytes : Text) (names : List Text) (shapes : List Shape) (count at : ℕ) → IsUtf8 text → AreShapes text names 0 shapes → bytes ≡ text → at ≡ value_start 0 shapes count → IsCharBoundary bytes at
boundary text bytes names shapes count at u h be ae =
    let n = value_start 0 shapes count in
    let cut : IsCut text n = start-cut text names 0 shapes count (first-cut text) h in
    subst (λ bs. IsCharBoundary bs at) (sym be) (subst (IsCharBoundary text) (sym ae) (IsCharBoundary-from_take text n u cut.within cut.cut))

-- # Fewer rows

-- shapes whose values end within the front of a text stand in it
shapes-front : (text : Text) (names : List Text) (n start : ℕ) (shapes : List Shape) → n ≤ length text → last_end start shapes ≤ n → AreShapes text names start shapes → AreShapes (take n text) names start shapes
shapes-front text names n start [] le end h = tt
shapes-front text names n start (s ∷ shapes) le end h =
    let ends : value_end s ≤ n = omega (arith, end, end-rises text names (value_end s) shapes h.1) in
    let here : IsShape (take n text) names start s = record {
      rises = h.0.rises;
      within = omega (arith, ends, length-take n text);
      cut = subst IsUtf8 (sym (take-take (value_end s) n text ends)) h.0.cut;
      named = h.0.named;
    } in
    (here, shapes-front text names n (value_end s) shapes le end h.1)

-- what is kept of the first rows, and the rows then
pub record IsShortened (text : Text) (names : List Text) (shapes : List Shape) (before : List Row) : Type 0 where
  pub kept : IsKept text names shapes
  pub rows : rows_of_shapes text names 0 shapes ≡ before

pub shortened : (text : Text) (names : List Text) (shapes : List Shape) (count : ℕ) → IsKept text names shapes → IsShortened (take (value_start 0 shapes count) text) names (take count shapes) (take count (rows_of_shapes text names 0 shapes))
shortened text names shapes count kept =
    let n = value_start 0 shapes count in
    let cut : IsCut text n = start-cut text names 0 shapes count (first-cut text) kept.shapes in
    let fewer = take count shapes in
    let end : last_end 0 fewer ≡ n = end-take 0 shapes count in
    let stand : AreShapes (take n text) names 0 fewer = shapes-front text names n 0 fewer cut.within (omega (arith, end)) (shapes-take text names 0 shapes count kept.shapes) in
    record {
      kept = record {
        shapes = stand;
        end = omega (arith, end, length-take n text, cut.within);
        room = omega (arith, kept.room, length-take count shapes);
      };
      rows =
          sym (rows-stay (take n text) (drop n text) names [] 0 fewer (omega arith) stand)
          ∙ ap (λ t. rows_of_shapes t (names ++ []) 0 fewer) (take-append-drop n text)
          ∙ ap (λ ns. rows_of_shapes text ns 0 fewer) (append-nil names)
          ∙ sym (rows-take text names 0 shapes count);
    }

-- as many as there are, or fewer
pub shortened-to : (text text' : Text) (names : List Text) (shapes shapes' : List Shape) (p : Packed) (count n at : ℕ) → IsKept text names shapes → record { rows = rows_of_shapes text names 0 shapes; names = names } ≡ p → n ≡ min count (length shapes) → at ≡ value_start 0 shapes n → text' ≡ take at text → shapes' ≡ take n shapes → IsShortened text' names shapes' (take count p.rows)
shortened-to text text' names shapes shapes' p count n at kept seen ne ae te se =
    let rows = rows_of_shapes text names 0 shapes in
    let long : n ≡ min count (length rows) = ne ∙ ap (min count) (sym (rows-length text names 0 shapes)) in
    let as_many : take n rows ≡ take count p.rows = ap (λ m. take m rows) long ∙ take_min count rows ∙ ap (λ (q : Packed). take count q.rows) seen in
    let whole : IsShortened (take (value_start 0 shapes n) text) names (take n shapes) (take n rows) = shortened text names shapes n kept in
    let one : IsShortened (take (value_start 0 shapes n) text) names (take n shapes) (take count p.rows) = subst (IsShortened (take (value_start 0 shapes n) text) names (take n shapes)) as_many whole in
    let two : IsShortened (take (value_start 0 shapes n) text) names shapes' (take count p.rows) = subst (λ ss. IsShortened (take (value_start 0 shapes n) text) names ss (take count p.rows)) (sym se) one in
    subst (λ t. IsShortened t names shapes' (take count p.rows)) (sym (te ∙ ap (λ i. take i text) ae)) two
