-- Runs of shapes, and the rows that they stand for.
use Rattle.std.proofs.Common.{◌≡◌, ◌<◌, ◌≤◌, ◌+◌, ◌-◌, ◌^◌, ℕ, zero, suc, List, [], ◌∷◌, ◌++◌, take, drop, map, length, get_or, min, refl, sym, ap, ◌∙◌, subst, arith, inl, inr, append_assoc}
use Rattle.std.specs.Prelude.{All, slice_range}
use Rattle.std.specs.Str.{IsUtf8}
use Rattle.std.proofs.lemmas.Bool.{cases_lt}
use Rattle.std.proofs.lemmas.Str.{IsUtf8-nil}
use Rattle.std.proofs.lemmas.List.{append-nil, length-append, length-take, length-drop, take_min, take_more}
use Rattle.std.proofs.lemmas.List.Elements.{All-nil, All-cons}
use Rattle.xq_trees.specs.Rows.{Row}
use Rattle.xq_packed.specs.declared.shapes.Shape.{Shape}
use Rattle.xq_packed.specs.Packed.{Packed, with_name, IsNumbered}
use Rattle.xq_packed.specs.Changes.{moved}
use Rattle.xq_packed.specs.private.Shapes.{value_end, last_end, value_start, text_between, name_at, row_of_shape, rows_of_shapes, AreShapes, IsKept}
use Rattle.xq_packed.specs.private.Copies.{IsReadable, IsMovedTo, AreMoved, AreMovedAfter, with_named}
use Rattle.xq_packed.proofs.Numbering.{grown}
use Rattle.xq_packed.proofs.Standing.{shapes-stay, rows-stay, shapes-append, rows-append, end-append, rows-length}
use Rattle.xq_packed.proofs.Copying.{end-rises, rows-copied, shapes-copied, end-copied, length-copied, moved-push, with_named-push}

abbrev Text : Type 0
Text = List ℕ

-- # From a place on, and up to one

rows-drop : (text : Text) (names : List Text) (start : ℕ) (shapes : List Shape) (n : ℕ) → drop n (rows_of_shapes text names start shapes) ≡ rows_of_shapes text names (value_start start shapes n) (drop n shapes)
rows-drop text names start [] zero = refl
rows-drop text names start [] (suc n) = refl
rows-drop text names start (s ∷ shapes) zero = refl
rows-drop text names start (s ∷ shapes) (suc n) = rows-drop text names (value_end s) shapes n

pub rows-take : (text : Text) (names : List Text) (start : ℕ) (shapes : List Shape) (n : ℕ) → take n (rows_of_shapes text names start shapes) ≡ rows_of_shapes text names start (take n shapes)
rows-take text names start [] zero = refl
rows-take text names start [] (suc n) = refl
rows-take text names start (s ∷ shapes) zero = refl
rows-take text names start (s ∷ shapes) (suc n) = ap (λ rs. row_of_shape text names start s ∷ rs) (rows-take text names (value_end s) shapes n)

shapes-drop : (text : Text) (names : List Text) (start : ℕ) (shapes : List Shape) (n : ℕ) → AreShapes text names start shapes → AreShapes text names (value_start start shapes n) (drop n shapes)
shapes-drop text names start [] zero h = tt
shapes-drop text names start [] (suc n) h = tt
shapes-drop text names start (s ∷ shapes) zero h = h
shapes-drop text names start (s ∷ shapes) (suc n) h = shapes-drop text names (value_end s) shapes n h.1

pub shapes-take : (text : Text) (names : List Text) (start : ℕ) (shapes : List Shape) (n : ℕ) → AreShapes text names start shapes → AreShapes text names start (take n shapes)
shapes-take text names start [] zero h = tt
shapes-take text names start [] (suc n) h = tt
shapes-take text names start (s ∷ shapes) zero h = tt
shapes-take text names start (s ∷ shapes) (suc n) h = (h.0, shapes-take text names (value_end s) shapes n h.1)

pub end-take : (start : ℕ) (shapes : List Shape) (n : ℕ) → last_end start (take n shapes) ≡ value_start start shapes n
end-take start [] zero = refl
end-take start [] (suc n) = refl
end-take start (s ∷ shapes) zero = refl
end-take start (s ∷ shapes) (suc n) = end-take (value_end s) shapes n

start-drop : (start : ℕ) (shapes : List Shape) (n k : ℕ) → value_start (value_start start shapes n) (drop n shapes) k ≡ value_start start shapes (n + k)
start-drop start [] zero k = ap (value_start start []) (let e : k ≡ 0 + k = omega arith in e)
start-drop start [] (suc n) zero = none-after start (suc n + 0)
  where
    none-after : (start n : ℕ) → start ≡ value_start start [] n
    none-after start zero = refl
    none-after start (suc n) = refl
start-drop start [] (suc n) (suc k) = none-after start (suc n + suc k)
  where
    none-after : (start n : ℕ) → start ≡ value_start start [] n
    none-after start zero = refl
    none-after start (suc n) = refl
start-drop start (s ∷ shapes) zero k = ap (value_start start (s ∷ shapes)) (let e : k ≡ 0 + k = omega arith in e)
start-drop start (s ∷ shapes) (suc n) k =
    start-drop (value_end s) shapes n k ∙ ap (value_start start (s ∷ shapes)) (let e : suc (n + k) ≡ suc n + k = omega arith in e)

-- where a value begins the text may be cut
pub record IsCut (text : Text) (at : ℕ) : Type 0 where
  pub within : at ≤ length text
  pub cut : IsUtf8 (take at text)

pub start-cut : (text : Text) (names : List Text) (start : ℕ) (shapes : List Shape) (n : ℕ) → IsCut text start → AreShapes text names start shapes → IsCut text (value_start start shapes n)
start-cut text names start [] zero c h = c
start-cut text names start [] (suc n) c h = c
start-cut text names start (s ∷ shapes) zero c h = c
start-cut text names start (s ∷ shapes) (suc n) c h =
    start-cut text names (value_end s) shapes n (record { within = h.0.within; cut = h.0.cut }) h.1

pub first-cut : (text : Text) → IsCut text 0
first-cut text = record { within = omega arith; cut = IsUtf8-nil }

-- # A run

-- what is known of a run of shapes
pub record IsRun (text : Text) (names : List Text) (shapes run : List Shape) (low high : ℕ) : Type 0 where
  pub stand : AreShapes text names (value_start 0 shapes low) run
  pub rows : slice_range (rows_of_shapes text names 0 shapes) low high ≡ rows_of_shapes text names (value_start 0 shapes low) run
  pub end : last_end (value_start 0 shapes low) run ≡ value_start 0 shapes high
  pub rises : value_start 0 shapes low ≤ value_start 0 shapes high

pub run-of : (text : Text) (names : List Text) (shapes : List Shape) (low high : ℕ) → low ≤ high → AreShapes text names 0 shapes → IsRun text names shapes (slice_range shapes low high) low high
run-of text names shapes low high le h =
    let from = value_start 0 shapes low in
    let stand : AreShapes text names from (slice_range shapes low high) = shapes-take text names from (drop low shapes) (high - low) (shapes-drop text names 0 shapes low h) in
    let to : low + (high - low) ≡ high = omega arith in
    let ends : last_end from (slice_range shapes low high) ≡ value_start 0 shapes high =
    end-take from (drop low shapes) (high - low) ∙ start-drop 0 shapes low (high - low) ∙ ap (value_start 0 shapes) to in
    record {
      stand = stand;
      rows = ap (take (high - low)) (rows-drop text names 0 shapes low) ∙ rows-take text names from (drop low shapes) (high - low);
      end = ends;
      rises = omega (arith, end-rises text names from (slice_range shapes low high) stand, ends);
    }

pub readable : (text : Text) (others : List Text) (low start : ℕ) (shapes : List Shape) → low ≤ start → AreShapes text others start shapes → All (IsReadable others low) shapes
readable text others low start [] le h = All-nil (IsReadable others low)
readable text others low start (s ∷ shapes) le h =
    All-cons (IsReadable others low) s shapes (omega (arith, h.0.rises), h.0.named) (readable text others low (value_end s) shapes (omega (arith, h.0.rises)) h.1)

-- places past the end are as good as the end
pub clamped : (rs : List Row) (low high : ℕ) → slice_range rs (min low (min high (length rs))) (min high (length rs)) ≡ slice_range rs low high
clamped rs low high = elim (cases_lt (min high (length rs)) low) [
  | inl past ↦
      (let there : min low (min high (length rs)) ≡ min high (length rs) = omega (arith, past) in
      let none : min (high - low) (length (drop low rs)) ≡ 0 = omega (arith, past, length-drop low rs) in
      let nothing : min high (length rs) - min low (min high (length rs)) ≡ 0 = omega (arith, there) in
      ap (λ n. take n (drop (min low (min high (length rs))) rs)) nothing
      ∙ sym (ap (λ n. take n (drop low rs)) none)
      ∙ take_min (high - low) (drop low rs))
  | inr inside ↦
      (let there : min low (min high (length rs)) ≡ low = omega (arith, inside) in
      let as_many : min high (length rs) - low ≡ min (high - low) (length (drop low rs)) = omega (arith, inside, length-drop low rs) in
      ap (λ n. slice_range rs n (min high (length rs))) there
      ∙ ap (λ n. take n (drop low rs)) as_many
      ∙ take_min (high - low) (drop low rs))
]

-- # A run after others

named-grown : (others names : List Text) (shapes : List Shape) → (more : List Text) × (with_named others names shapes ≡ names ++ more)
named-grown others names [] = ([], sym (append-nil names))
named-grown others names (s ∷ shapes) =
    let one = grown names (name_at others s.name) in
    let rest = named-grown others (with_name names (name_at others s.name)) shapes in
    (one.0 ++ rest.0, rest.1 ∙ ap (λ ns. ns ++ rest.0) one.1 ∙ append_assoc names one.0 rest.0)

-- what is kept after a run of others is appended, and the rows then
pub record IsAppended (text' : Text) (names' : List Text) (shapes' : List Shape) (before more : List Row) : Type 0 where
  pub kept : IsKept text' names' shapes'
  pub rows : rows_of_shapes text' names' 0 shapes' ≡ before ++ more

-- names may have been added alone
pub names-kept : (text : Text) (others names names' : List Text) (shapes added : List Shape) → IsKept text names shapes → names' ≡ with_named others names added → IsAppended text names' shapes (rows_of_shapes text names 0 shapes) []
names-kept text others names names' shapes added kept ne =
    let more = named-grown others names added in
    let e : names' ≡ names ++ more.0 = ne ∙ more.1 in
    let there : AreShapes text names' 0 shapes =
    subst (λ ns. AreShapes text ns 0 shapes) (sym e) (subst (λ t. AreShapes t (names ++ more.0) 0 shapes) (append-nil text) (shapes-stay text [] names more.0 0 shapes kept.shapes)) in
    record {
      kept = record {
        shapes = there;
        end = kept.end;
        room = kept.room;
      };
      rows =
          ap (λ ns. rows_of_shapes text ns 0 shapes) e
          ∙ ap (λ t. rows_of_shapes t (names ++ more.0) 0 shapes) (sym (append-nil text))
          ∙ rows-stay text [] names more.0 0 shapes (omega arith) kept.shapes
          ∙ sym (append-nil (rows_of_shapes text names 0 shapes));
    }

-- a run of others that lies between two places of their text, after all
module _ (text o : Text) (others names : List Text) (shapes run : List Shape) (low high from to : ℕ) (u : IsUtf8 text) (v : IsUtf8 o) (kept : IsKept text names shapes) (cut : IsCut o low) (end : IsCut o high) (stand : AreShapes o others low run) (ends : last_end low run ≡ high) where
  here : (more : List Text) (ts : List Shape) → AreMoved others (names ++ more) low (length text) from to run ts → length shapes + length run < 2 ^ 32 → IsAppended (text ++ text_between o low high) (names ++ more) (shapes ++ ts) (rows_of_shapes text names 0 shapes) (map (moved from to) (rows_of_shapes o others low run))
  here more ts m room =
      let ns = names ++ more in
      let all = text ++ text_between o low high in
      let at : length text + low ≡ low + length text = omega arith in
      let front : AreShapes all ns 0 shapes = shapes-stay text (text_between o low high) names more 0 shapes kept.shapes in
      let moved_ones : AreShapes all ns (length text) ts = shapes-copied text o others ns low high from to low (length text) run ts u v cut.cut end.within (omega arith) at (omega (arith, ends)) stand m in
      let last : last_end (length text) ts + low ≡ last_end low run + length text = end-copied others ns low (length text) from to low (length text) run ts at m in
      let piece : length (text_between o low high) ≡ high - low = omega (arith, length-take (high - low) (drop low o), length-drop low o, end.within) in
      let rises : low ≤ high = omega (arith, end-rises o others low run stand, ends) in
      record {
        kept = record {
          shapes = shapes-append all ns 0 shapes ts front (subst (λ i. AreShapes all ns i ts) (sym kept.end) moved_ones);
          end = end-append 0 shapes ts ∙ ap (λ i. last_end i ts) kept.end ∙ (let e : last_end (length text) ts ≡ length all = omega (arith, last, ends, piece, rises, length-append text (text_between o low high)) in e);
          room = omega (arith, room, length-append shapes ts, length-copied others ns low (length text) from to run ts m);
        };
        rows =
            rows-append all ns 0 shapes ts
            ∙ ap (λ rs. rs ++ rows_of_shapes all ns (last_end 0 shapes) ts) (rows-stay text (text_between o low high) names more 0 shapes (omega arith) kept.shapes)
            ∙ ap (λ i. rows_of_shapes text names 0 shapes ++ rows_of_shapes all ns i ts) kept.end
            ∙ ap (λ rs. rows_of_shapes text names 0 shapes ++ rs) (rows-copied text o others ns low high from to low (length text) run ts (omega arith) at (omega (arith, ends)) stand m);
      }

  pub run-appended : (text' : Text) (names' : List Text) (shapes' : List Shape) → text' ≡ text ++ text_between o low high → names' ≡ with_named others names run → AreMovedAfter others names' low (length text) from to shapes run shapes' → length shapes + length run < 2 ^ 32 → IsAppended text' names' shapes' (rows_of_shapes text names 0 shapes) (map (moved from to) (rows_of_shapes o others low run))
  run-appended text' names' shapes' te ne m room =
      let more = named-grown others names run in
      let e : names' ≡ names ++ more.0 = ne ∙ more.1 in
      let rows = rows_of_shapes text names 0 shapes in
      let added = map (moved from to) (rows_of_shapes o others low run) in
      let whole : IsAppended (text ++ text_between o low high) (names ++ more.0) (shapes ++ m.0) rows added =
      here more.0 m.0 (subst (λ ns. AreMoved others ns low (length text) from to run m.0) e m.2) room in
      let one : IsAppended (text ++ text_between o low high) (names ++ more.0) shapes' rows added = subst (λ ss. IsAppended (text ++ text_between o low high) (names ++ more.0) ss rows added) (sym m.1) whole in
      let two : IsAppended (text ++ text_between o low high) names' shapes' rows added = subst (λ ns. IsAppended (text ++ text_between o low high) ns shapes' rows added) (sym e) one in
      subst (λ t. IsAppended t names' shapes' rows added) (sym te) two

  -- where their names are among those that there are
  pub run-repeated : (text' : Text) (shapes' : List Shape) (ts : List Shape) → text' ≡ text ++ text_between o low high → shapes' ≡ shapes ++ ts → AreMoved others names low (length text) from to run ts → length shapes + length run < 2 ^ 32 → IsAppended text' names shapes' (rows_of_shapes text names 0 shapes) (map (moved from to) (rows_of_shapes o others low run))
  run-repeated text' shapes' ts te se m room =
      let rows = rows_of_shapes text names 0 shapes in
      let added = map (moved from to) (rows_of_shapes o others low run) in
      let all = text ++ text_between o low high in
      let none : names ++ [] ≡ names = append-nil names in
      let whole : IsAppended all (names ++ []) (shapes ++ ts) rows added = here [] ts (subst (λ ns. AreMoved others ns low (length text) from to run ts) (sym none) m) room in
      let one : IsAppended all names (shapes ++ ts) rows added = subst (λ ns. IsAppended all ns (shapes ++ ts) rows added) none whole in
      let two : IsAppended all names shapes' rows added = subst (λ ss. IsAppended all names ss rows added) (sym se) one in
      subst (λ t. IsAppended t names shapes' rows added) (sym te) two

-- # One more of a run

pub moved_more : (others names names' : List Text) (low base from to : ℕ) (old run : List Shape) (i : ℕ) (d t : Shape) (number : ℕ) (shapes shapes' : List Shape) → i < length run → AreMovedAfter others names low base from to old (take i run) shapes → names' ≡ with_name names (name_at others (get_or run i d).name) → IsMovedTo low base from to (get_or run i d) number t → IsNumbered names' number (name_at others (get_or run i d).name) → shapes' ≡ shapes ++ t ∷ [] → AreMovedAfter others names' low base from to old (take (i + 1) run) shapes'
moved_more others names names' low base from to old run i d t number shapes shapes' inside m ne k numbered se =
    let s = get_or run i d in
    let name = name_at others s.name in
    let here : IsNumbered (with_name names name) number name = subst (λ ns. IsNumbered ns number name) ne numbered in
    let all : AreMoved others (with_name names name) low base from to (take i run ++ s ∷ []) (m.0 ++ t ∷ []) = moved-push others names low base from to (take i run) m.0 s t number m.2 k here in
    let renamed : AreMoved others names' low base from to (take i run ++ s ∷ []) (m.0 ++ t ∷ []) = subst (λ ns. AreMoved others ns low base from to (take i run ++ s ∷ []) (m.0 ++ t ∷ [])) (sym ne) all in (
      m.0 ++ t ∷ [],
      se ∙ ap (λ ss. ss ++ t ∷ []) m.1 ∙ append_assoc old m.0 (t ∷ []),
      subst (λ ss. AreMoved others names' low base from to ss (m.0 ++ t ∷ [])) (sym (take_more run i d inside)) renamed,
    )

pub named_more : (others first names names' : List Text) (run : List Shape) (i : ℕ) (d : Shape) → i < length run → names ≡ with_named others first (take i run) → names' ≡ with_name names (name_at others (get_or run i d).name) → names' ≡ with_named others first (take (i + 1) run)
named_more others first names names' run i d inside so_far ne =
    let s = get_or run i d in
    ne ∙ ap (λ ns. with_name ns (name_at others s.name)) so_far
    ∙ sym (with_named-push others first (take i run) s)
    ∙ ap (with_named others first) (sym (take_more run i d inside))

-- # The rows that are asked for

pub run-found : (o : Text) (others : List Text) (shapes : List Shape) (p : Packed) (low0 high0 n low high : ℕ) → AreShapes o others 0 shapes → record { rows = rows_of_shapes o others 0 shapes; names = others } ≡ p → n ≡ length shapes → high ≡ min high0 n → low ≡ min low0 high → slice_range p.rows low0 high0 ≡ rows_of_shapes o others (value_start 0 shapes low) (slice_range shapes low high)
run-found o others shapes p low0 high0 n low high h seen count he le =
    let rs = rows_of_shapes o others 0 shapes in
    let long : n ≡ length rs = count ∙ sym (rows-length o others 0 shapes) in
    let top : high ≡ min high0 (length rs) = he ∙ ap (min high0) long in
    let bottom : low ≡ min low0 (min high0 (length rs)) = le ∙ ap (min low0) top in
    ap (λ (q : Packed). slice_range q.rows low0 high0) (sym seen)
    ∙ sym (clamped rs low0 high0)
    ∙ ap (λ i. slice_range rs i (min high0 (length rs))) (sym bottom)
    ∙ ap (slice_range rs low) (sym top)
    ∙ (run-of o others shapes low high (omega (arith, le)) h).rows
