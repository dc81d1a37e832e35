-- Shapes, and the rows that they stand for.
use Rattle.std.proofs.Common.{false, ◌≡◌, ◌<◌, ◌≤◌, ◌+◌, ◌-◌, ℕ, zero, suc, List, [], ◌∷◌, ◌++◌, take, drop, length, refl, sym, ap, ◌∙◌, subst, arith}
use Rattle.std.specs.Prelude.{slice_index_or}
use Rattle.std.specs.Prelude.{bytes_eq, ◌^◌}
use Rattle.std.specs.List.{list_any}
use Rattle.std.specs.Str.{IsUtf8}
use Rattle.std.proofs.lemmas.Str.{IsUtf8-append, IsUtf8-nil}
use Rattle.std.proofs.Math.Seq.{drop-append_seam}
use Rattle.std.proofs.lemmas.List.{take-append-le, drop-append-le, length-append, length-drop, take_all}
use Rattle.std.proofs.lemmas.Option.{slice_get-get_or}
use Rattle.xq_trees.specs.Rows.{Row, row_at}
use Rattle.xq_trees.specs.declared.Kind.TheVariants.{Document}
use Rattle.xq_packed.specs.declared.shapes.Shape.{Shape}
use Rattle.xq_packed.specs.private.Shapes.{value_end, last_end, value_start, text_between, name_at, row_of_shape, rows_of_shapes, IsShape, AreShapes, IsKept, Describes}
use Rattle.xq_packed.specs.Packed.{Packed, row, with_name, IsNumbered, NoneNamed}
use Rattle.xq_packed.proofs.Numbering.{name-stays, name-numbered, grown, unnumbered}

abbrev Text : Type 0
Text = List ℕ

-- # More text and more names

-- a piece of the text stays
pub between-stays : (text more : Text) (start end : ℕ) → start ≤ length text → end ≤ length text → text_between (text ++ more) start end ≡ text_between text start end
between-stays text more start end s e =
    ap (take (end - start)) (drop-append-le start text more s)
    ∙ take-append-le (end - start) (drop start text) more (omega (arith, length-drop start text))

pub shape-stays : (text more : Text) (names others : List Text) (start : ℕ) (s : Shape) → IsShape text names start s → IsShape (text ++ more) (names ++ others) start s
shape-stays text more names others start s h = record {
  rises = h.rises;
  within = omega (arith, h.within, length-append text more);
  cut = subst IsUtf8 (sym (take-append-le (value_end s) text more h.within)) h.cut;
  named = omega (arith, h.named, length-append names others);
}

pub row-stays : (text more : Text) (names others : List Text) (start : ℕ) (s : Shape) → start ≤ length text → IsShape text names start s → row_of_shape (text ++ more) (names ++ others) start s ≡ row_of_shape text names start s
row-stays text more names others start s low h =
    ap (λ n. row s.size s.level s.kind n (text_between (text ++ more) start (value_end s))) (name-stays names others s.name h.named)
    ∙ ap (λ v. row s.size s.level s.kind (name_at names s.name) v) (between-stays text more start (value_end s) low h.within)

pub shapes-stay : (text more : Text) (names others : List Text) (start : ℕ) (shapes : List Shape) → AreShapes text names start shapes → AreShapes (text ++ more) (names ++ others) start shapes
shapes-stay text more names others start [] h = tt
shapes-stay text more names others start (s ∷ shapes) h =
    (shape-stays text more names others start s h.0, shapes-stay text more names others (value_end s) shapes h.1)

pub rows-stay : (text more : Text) (names others : List Text) (start : ℕ) (shapes : List Shape) → start ≤ length text → AreShapes text names start shapes → rows_of_shapes (text ++ more) (names ++ others) start shapes ≡ rows_of_shapes text names start shapes
rows-stay text more names others start [] low h = refl
rows-stay text more names others start (s ∷ shapes) low h =
    ap (λ r. r ∷ rows_of_shapes (text ++ more) (names ++ others) (value_end s) shapes) (row-stays text more names others start s low h.0)
    ∙ ap (λ rs. row_of_shape text names start s ∷ rs) (rows-stay text more names others (value_end s) shapes h.0.within h.1)

-- # More shapes

pub end-append : (start : ℕ) (shapes others : List Shape) → last_end start (shapes ++ others) ≡ last_end (last_end start shapes) others
end-append start [] others = refl
end-append start (s ∷ shapes) others = end-append (value_end s) shapes others

pub shapes-append : (text : Text) (names : List Text) (start : ℕ) (shapes others : List Shape) → AreShapes text names start shapes → AreShapes text names (last_end start shapes) others → AreShapes text names start (shapes ++ others)
shapes-append text names start [] others h k = k
shapes-append text names start (s ∷ shapes) others h k = (h.0, shapes-append text names (value_end s) shapes others h.1 k)

pub rows-append : (text : Text) (names : List Text) (start : ℕ) (shapes others : List Shape) → rows_of_shapes text names start (shapes ++ others) ≡ rows_of_shapes text names start shapes ++ rows_of_shapes text names (last_end start shapes) others
rows-append text names start [] others = refl
rows-append text names start (s ∷ shapes) others =
    ap (λ rs. row_of_shape text names start s ∷ rs) (rows-append text names (value_end s) shapes others)

-- # The shape at a place

pub rows-length : (text : Text) (names : List Text) (start : ℕ) (shapes : List Shape) → length (rows_of_shapes text names start shapes) ≡ length shapes
rows-length text names start [] = refl
rows-length text names start (s ∷ shapes) = ap suc (rows-length text names (value_end s) shapes)

-- what is known of the shape at a place
pub record IsPlaced (text : Text) (names : List Text) (start : ℕ) (shapes : List Shape) (at : ℕ) (s : Shape) : Type 0 where
  pub shape : IsShape text names (value_start start shapes at) s
  pub start_within : value_start start shapes at ≤ length text
  pub start_cut : IsUtf8 (take (value_start start shapes at) text)
  pub stands : row_at (rows_of_shapes text names start shapes) at ≡ row_of_shape text names (value_start start shapes at) s

pub shape-placed : (text : Text) (names : List Text) (start : ℕ) (shapes : List Shape) (at : ℕ) (d : Shape) → start ≤ length text → IsUtf8 (take start text) → AreShapes text names start shapes → at < length shapes → IsPlaced text names start shapes at (slice_index_or shapes at d)
shape-placed text names start [] at d low u h inside = absurd (omega arith)
shape-placed text names start (s ∷ shapes) zero d low u h inside = record { shape = h.0; start_within = low; start_cut = u; stands = refl }
shape-placed text names start (s ∷ shapes) (suc at) d low u h inside =
    let p = shape-placed text names (value_end s) shapes at d h.0.within h.0.cut h.1 (omega arith) in
    record { shape = p.shape; start_within = p.start_within; start_cut = p.start_cut; stands = p.stands }

-- a value begins where the one before it ends
pub start-after : (start : ℕ) (shapes : List Shape) (at : ℕ) (d : Shape) → at < length shapes → value_start start shapes (suc at) ≡ value_end (slice_index_or shapes at d)
start-after start [] at d h = absurd (omega arith)
start-after start (s ∷ shapes) zero d h = refl
start-after start (s ∷ shapes) (suc at) d h = start-after (value_end s) shapes at d (omega arith)

-- the text at the end
pub between-end : (text more : Text) (end : ℕ) → end ≡ length text + length more → text_between (text ++ more) (length text) end ≡ more
between-end text more end e =
    ap (take (end - length text)) (drop-append_seam text more) ∙ take_all (end - length text) more (omega arith)

-- # A row more at the end

pub push-here : (text value : Text) (names more : List Text) (name : Text) (shapes : List Shape) (s : Shape) → IsUtf8 text → IsUtf8 value → IsKept text names shapes → value_end s ≡ length text + length value → IsNumbered (names ++ more) s.name name → length shapes + 1 < 2 ^ 32 → IsKept (text ++ value) (names ++ more) (shapes ++ s ∷ []) × (rows_of_shapes (text ++ value) (names ++ more) 0 (shapes ++ s ∷ []) ≡ rows_of_shapes text names 0 shapes ++ row s.size s.level s.kind name value ∷ [])
push-here text value names more name shapes s u v kept ends numbered room =
    let whole : value_end s ≡ length (text ++ value) = omega (arith, length-append text value, ends) in
    let last : IsShape (text ++ value) (names ++ more) (last_end 0 shapes) s = record {
      rises = omega (arith, kept.end, ends);
      within = omega (arith, whole);
      cut = subst IsUtf8 (sym (take_all (value_end s) (text ++ value) (omega (arith, whole)))) (IsUtf8-append text value u v);
      named = (name-numbered (names ++ more) s.name name numbered).0;
    } in
    let stands : row_of_shape (text ++ value) (names ++ more) (last_end 0 shapes) s ≡ row s.size s.level s.kind name value =
    ap (λ n. row s.size s.level s.kind n (text_between (text ++ value) (last_end 0 shapes) (value_end s))) (name-numbered (names ++ more) s.name name numbered).1
    ∙ ap (λ i. row s.size s.level s.kind name (text_between (text ++ value) i (value_end s))) kept.end
    ∙ ap (λ t. row s.size s.level s.kind name t) (between-end text value (value_end s) ends) in (
      record {
        shapes = shapes-append (text ++ value) (names ++ more) 0 shapes (s ∷ []) (shapes-stay text value names more 0 shapes kept.shapes) (last, tt);
        end = end-append 0 shapes (s ∷ []) ∙ whole;
        room = omega (arith, length-append shapes (s ∷ []));
      },
      rows-append (text ++ value) (names ++ more) 0 shapes (s ∷ [])
          ∙ ap (λ rs. rs ++ row_of_shape (text ++ value) (names ++ more) (last_end 0 shapes) s ∷ []) (rows-stay text value names more 0 shapes (omega arith) kept.shapes)
          ∙ ap (λ r. rows_of_shapes text names 0 shapes ++ r ∷ []) stands,
    )

-- what is kept after a row is added, and the rows then
abbrev pub IsPushed : Text → List Text → List Shape → Text → List Text → List Shape → Row → Type 0
IsPushed text names shapes text' names' shapes' new =
    IsKept text' names' shapes' × (rows_of_shapes text' names' 0 shapes' ≡ rows_of_shapes text names 0 shapes ++ new ∷ [])

pub push-keeps : (text value text' : Text) (names names' : List Text) (name : Text) (shapes shapes' : List Shape) (s : Shape) → IsUtf8 text → IsUtf8 value → IsKept text names shapes → text' ≡ text ++ value → names' ≡ with_name names name → shapes' ≡ shapes ++ s ∷ [] → value_end s ≡ length text + length value → IsNumbered names' s.name name → length shapes + 1 < 2 ^ 32 → IsPushed text names shapes text' names' shapes' (row s.size s.level s.kind name value)
push-keeps text value text' names names' name shapes shapes' s u v kept te ne se ends numbered room =
    let more = grown names name in
    let e : names' ≡ names ++ more.0 = ne ∙ more.1 in
    let new = row s.size s.level s.kind name value in
    let here = push-here text value names more.0 name shapes s u v kept ends (subst (λ ns. IsNumbered ns s.name name) e numbered) room in
    let one : IsPushed text names shapes (text ++ value) (names ++ more.0) shapes' new = subst (λ ss. IsPushed text names shapes (text ++ value) (names ++ more.0) ss new) (sym se) here in
    let two : IsPushed text names shapes (text ++ value) names' shapes' new = subst (λ ns. IsPushed text names shapes (text ++ value) ns shapes' new) (sym e) one in
    subst (λ t. IsPushed text names shapes t names' shapes' new) (sym te) two

-- # No row

nothing : IsKept [] [] []
nothing = record { shapes = tt; end = refl; room = omega arith }

pub nothing-kept : (text : Text) (names : List Text) (shapes : List Shape) → text ≡ [] → names ≡ [] → shapes ≡ [] → IsKept text names shapes
nothing-kept text names shapes te ne se = rw (te, ne, se) nothing

-- # What is told of the row at a place

at-inside : (text : Text) (names : List Text) (shapes : List Shape) (at : ℕ) → at < length (rows_of_shapes text names 0 shapes) → at < length shapes
at-inside text names shapes at h = omega (arith, rows-length text names 0 shapes)

-- a place among the rows that are seen is one among the shapes
pub inside : (text : Text) (names : List Text) (shapes : List Shape) (at : ℕ) (p : Packed) → record { rows = rows_of_shapes text names 0 shapes; names = names } ≡ p → at < length p.rows → at < length shapes
inside text names shapes at p seen h =
    at-inside text names shapes at (subst (λ (q : Packed). at < length q.rows) (sym seen) h)

-- what is known of the shape at a place and of the row that is seen there
pub record IsTold (text : Text) (names : List Text) (shapes : List Shape) (at : ℕ) (s : Shape) (r : Row) : Type 0 where
  pub placed : IsPlaced text names 0 shapes at s
  pub stands : r ≡ row_of_shape text names (value_start 0 shapes at) s

pub told : (text : Text) (names : List Text) (shapes : List Shape) (at : ℕ) (s : Shape) (p : Packed) → IsKept text names shapes → record { rows = rows_of_shapes text names 0 shapes; names = names } ≡ p → at < length p.rows → s ≡ slice_index_or shapes at s → IsTold text names shapes at s (row_at p.rows at)
told text names shapes at s p kept seen h e =
    let there = shape-placed text names 0 shapes at s (omega arith) IsUtf8-nil kept.shapes (inside text names shapes at p seen h) in
    let here : IsPlaced text names 0 shapes at s = subst (λ (z : Shape). IsPlaced text names 0 shapes at z) (sym e) there in
    record { placed = here; stands = subst (λ (q : Packed). row_at q.rows at ≡ row_of_shape text names (value_start 0 shapes at) s) seen here.stands }

-- the shape at a place describes the row there
pub describes : (text : Text) (names : List Text) (shapes : List Shape) (at : ℕ) (s : Shape) (p : Packed) → IsKept text names shapes → record { rows = rows_of_shapes text names 0 shapes; names = names } ≡ p → at < length p.rows → s ≡ slice_index_or shapes at s → Describes p.names s (row_at p.rows at)
describes text names shapes at s p kept seen h e =
    let t = told text names shapes at s p kept seen h e in
    let own : Describes names s (row_of_shape text names (value_start 0 shapes at) s) = record { size = refl; level = refl; kind = refl; name = slice_get-get_or names s.name [] t.placed.shape.named } in
    let there : Describes names s (row_at p.rows at) = subst (λ (r : Row). Describes names s r) (sym t.stands) own in
    subst (λ (q : Packed). Describes q.names s (row_at p.rows at)) seen there

no_shape : Shape
no_shape = record { size = 0; name = 0; end_low = 0; end_high = 0; level = 0; kind = Document }

-- a name that is not among them is no row's
pub none-named : (text : Text) (names : List Text) (shapes : List Shape) (name : Text) (p : Packed) → IsKept text names shapes → record { rows = rows_of_shapes text names 0 shapes; names = names } ≡ p → list_any (bytes_eq name) names ≡ false → NoneNamed p.rows name
none-named text names shapes name p kept seen absent at h same =
    let there = shape-placed text names 0 shapes at no_shape (omega arith) IsUtf8-nil kept.shapes (inside text names shapes at p seen h) in
    let stands : row_at p.rows at ≡ row_of_shape text names (value_start 0 shapes at) (slice_index_or shapes at no_shape) = subst (λ (q : Packed). row_at q.rows at ≡ row_of_shape text names (value_start 0 shapes at) (slice_index_or shapes at no_shape)) seen there.stands in
    unnumbered names name absent (slice_index_or shapes at no_shape).name there.shape.named (sym (ap (λ (r : Row). r.label.name) stands) ∙ same)
