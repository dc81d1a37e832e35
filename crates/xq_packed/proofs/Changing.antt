-- Rows that are changed where they stand, and a root that is put above them.
use Rattle.std.proofs.Common.{◌≡◌, ◌<◌, ◌≤◌, ◌+◌, ◌-◌, ◌^◌, ℕ, zero, suc, List, [], ◌∷◌, ◌++◌, take, drop, map, length, get_or, set, refl, sym, ap, ◌∙◌, subst, arith}
use Rattle.std.specs.Prelude.{All}
use Rattle.std.specs.Str.{IsUtf8}
use Rattle.std.proofs.lemmas.Str.{IsUtf8-append, IsUtf8-nil}
use Rattle.std.proofs.lemmas.List.{append-nil, drop-append-le, drop_more, drop-set-lt, take_more_set, map_more, length-append, length-drop, length-set, length-map, take_all}
use Rattle.std.proofs.lemmas.List.Elements.{All-nil, All-cons, All-head, All-tail, All-weaker}
use Rattle.xq_trees.specs.Tree.{most_levels}
use Rattle.xq_trees.specs.Rows.{Row}
use Rattle.xq_trees.specs.declared.Kind.TheVariants.{Document}
use Rattle.xq_packed.specs.declared.shapes.Shape.{Shape}
use Rattle.xq_packed.specs.Packed.{row, with_name, IsNumbered}
use Rattle.xq_packed.specs.Changes.{moved, AreMovable, longer, with_longer_last, with_size}
use Rattle.xq_packed.specs.private.Shapes.{value_end, last_end, text_between, name_at, row_of_shape, rows_of_shapes, IsShape, AreShapes, IsKept, sunk}
use Rattle.xq_packed.proofs.Numbering.{name-numbered, grown}
use Rattle.xq_packed.proofs.Standing.{shape-stays, row-stays, shapes-stay, rows-stay}

abbrev Text : Type 0
Text = List ℕ

-- # Another size

-- the second is the first with another size
abbrev pub sized_shape : ℕ → Shape → Shape
sized_shape size s = record { size = size; name = s.name; end_low = s.end_low; end_high = s.end_high; level = s.level; kind = s.kind }

pub rows-sized : (text : Text) (names : List Text) (start : ℕ) (shapes : List Shape) (at size : ℕ) (d : Shape) → rows_of_shapes text names start (set shapes at (sized_shape size (get_or shapes at d))) ≡ with_size at size (rows_of_shapes text names start shapes)
rows-sized text names start [] at size d = refl
rows-sized text names start (s ∷ shapes) zero size d = refl
rows-sized text names start (s ∷ shapes) (suc at) size d =
    ap (λ rs. row_of_shape text names start s ∷ rs) (rows-sized text names (value_end s) shapes at size d)

shapes-sized : (text : Text) (names : List Text) (start : ℕ) (shapes : List Shape) (at size : ℕ) (d : Shape) → AreShapes text names start shapes → AreShapes text names start (set shapes at (sized_shape size (get_or shapes at d)))
shapes-sized text names start [] at size d h = tt
shapes-sized text names start (s ∷ shapes) zero size d h =
    (record { rises = h.0.rises; within = h.0.within; cut = h.0.cut; named = h.0.named }, h.1)
shapes-sized text names start (s ∷ shapes) (suc at) size d h = (h.0, shapes-sized text names (value_end s) shapes at size d h.1)

end-sized : (start : ℕ) (shapes : List Shape) (at size : ℕ) (d : Shape) → last_end start (set shapes at (sized_shape size (get_or shapes at d))) ≡ last_end start shapes
end-sized start [] at size d = refl
end-sized start (s ∷ shapes) zero size d = refl
end-sized start (s ∷ shapes) (suc at) size d = end-sized (value_end s) shapes at size d

pub kept-sized : (text : Text) (names : List Text) (shapes : List Shape) (at size : ℕ) (d : Shape) → IsKept text names shapes → IsKept text names (set shapes at (sized_shape size (get_or shapes at d)))
kept-sized text names shapes at size d kept = record {
  shapes = shapes-sized text names 0 shapes at size d kept.shapes;
  end = end-sized 0 shapes at size d ∙ kept.end;
  room = omega (arith, kept.room, length-set shapes at (sized_shape size (get_or shapes at d)));
}

-- # A longer last value

-- the second is the first but for where the value ends
pub record IsAlike (s t : Shape) : Type 0 where
  pub size : t.size ≡ s.size
  pub name : t.name ≡ s.name
  pub level : t.level ≡ s.level
  pub kind : t.kind ≡ s.kind

-- the new shapes are in the longer text, and their rows are the old ones with a longer last value
pub record IsLonger (text value : Text) (names : List Text) (start : ℕ) (old new : List Shape) : Type 0 where
  pub shapes : AreShapes (text ++ value) names start new
  pub end : last_end start new ≡ length (text ++ value)
  pub rows : rows_of_shapes (text ++ value) names start new ≡ with_longer_last value (rows_of_shapes text names start old)

module _ (text value : Text) (names : List Text) (u : IsUtf8 text) (v : IsUtf8 value) where
  shape-wider : (start : ℕ) (s : Shape) → IsShape text names start s → IsShape (text ++ value) names start s
  shape-wider start s h = subst (λ ns. IsShape (text ++ value) ns start s) (append-nil names) (shape-stays text value names [] start s h)

  row-wider : (start : ℕ) (s : Shape) → start ≤ length text → IsShape text names start s → row_of_shape (text ++ value) names start s ≡ row_of_shape text names start s
  row-wider start s low h =
      ap (λ ns. row_of_shape (text ++ value) ns start s) (sym (append-nil names)) ∙ row-stays text value names [] start s low h

  -- a value that ends with the text, with more after it
  value-longer : (start end end' : ℕ) → start ≤ length text → end ≡ length text → end' ≡ length text + length value → text_between (text ++ value) start end' ≡ text_between text start end ++ value
  value-longer start end end' low at at' =
      ap (take (end' - start)) (drop-append-le start text value low)
      ∙ take_all (end' - start) (drop start text ++ value) (omega (arith, length-append (drop start text) value, length-drop start text))
      ∙ ap (λ t. t ++ value) (sym (take_all (end - start) (drop start text) (omega (arith, length-drop start text))))

  row-longer : (start : ℕ) (s t : Shape) → start ≤ length text → value_end s ≡ length text → IsAlike s t → value_end t ≡ length text + length value → row_of_shape (text ++ value) names start t ≡ longer value (row_of_shape text names start s)
  row-longer start s t low at like at' =
      ap (λ w. row t.size t.level t.kind (name_at names t.name) w) (value-longer start (value_end s) (value_end t) low at at')
      ∙ ap (λ n. row t.size t.level t.kind (name_at names n) (text_between text start (value_end s) ++ value)) like.name
      ∙ ap (λ z. row z t.level t.kind (name_at names s.name) (text_between text start (value_end s) ++ value)) like.size
      ∙ ap (λ z. row s.size z t.kind (name_at names s.name) (text_between text start (value_end s) ++ value)) like.level
      ∙ ap (λ z. row s.size s.level z (name_at names s.name) (text_between text start (value_end s) ++ value)) like.kind

  shape-longer : (start : ℕ) (s t : Shape) → start ≤ length text → IsShape text names start s → IsAlike s t → value_end t ≡ length text + length value → IsShape (text ++ value) names start t
  shape-longer start s t low h like at' = record {
    rises = omega arith;
    within = omega (arith, length-append text value);
    cut = subst IsUtf8 (sym (take_all (value_end t) (text ++ value) (omega (arith, length-append text value)))) (IsUtf8-append text value u v);
    named = omega (arith, h.named, like.name);
  }

  last-longer : (start : ℕ) (shapes : List Shape) (at : ℕ) (d t : Shape) → suc at ≡ length shapes → start ≤ length text → AreShapes text names start shapes → last_end start shapes ≡ length text → IsAlike (get_or shapes at d) t → value_end t ≡ length text + length value → IsLonger text value names start shapes (set shapes at t)
  last-longer start [] at d t count low h end like at' = absurd (omega arith)
  last-longer start (s ∷ []) zero d t count low h end like at' = record {
    shapes = (shape-longer start s t low h.0 like at', tt);
    end = omega (arith, at', length-append text value);
    rows = ap (λ r. r ∷ []) (row-longer start s t low end like at');
  }
  last-longer start (s ∷ []) (suc at) d t count low h end like at' = absurd (omega arith)
  last-longer start (s ∷ q ∷ shapes) zero d t count low h end like at' = absurd (omega arith)
  last-longer start (s ∷ q ∷ shapes) (suc at) d t count low h end like at' =
      let rest = last-longer (value_end s) (q ∷ shapes) at d t (omega arith) h.0.within h.1 end like at' in
      record {
        shapes = (shape-wider start s h.0, rest.shapes);
        end = rest.end;
        rows =
            ap (λ r. r ∷ rows_of_shapes (text ++ value) names (value_end s) (set (q ∷ shapes) at t)) (row-wider start s low h.0)
            ∙ ap (λ rs. row_of_shape text names start s ∷ rs) rest.rows;
      }

  pub kept-longer : (shapes : List Shape) (at : ℕ) (d t : Shape) → suc at ≡ length shapes → IsKept text names shapes → IsAlike (get_or shapes at d) t → value_end t ≡ length text + length value → IsKept (text ++ value) names (set shapes at t) × (rows_of_shapes (text ++ value) names 0 (set shapes at t) ≡ with_longer_last value (rows_of_shapes text names 0 shapes))
  kept-longer shapes at d t count kept like at' =
      let more = last-longer 0 shapes at d t count (omega arith) kept.shapes kept.end like at' in (
        record {
          shapes = more.shapes;
          end = more.end;
          room = omega (arith, kept.room, length-set shapes at t);
        },
        more.rows,
      )

-- what is kept with a longer last value, and the rows then
pub record IsLonger-kept (text' : Text) (names : List Text) (shapes' : List Shape) (more : List Row) : Type 0 where
  pub kept : IsKept text' names shapes'
  pub rows : rows_of_shapes text' names 0 shapes' ≡ more

-- the last row after others is that which becomes longer
pub last-of : (more : Text) (rows : List Row) (r : Row) → with_longer_last more (rows ++ r ∷ []) ≡ rows ++ longer more r ∷ []
last-of more [] r = refl
last-of more (q ∷ []) r = refl
last-of more (q ∷ p ∷ rows) r = ap (λ rs. q ∷ rs) (last-of more (p ∷ rows) r)

-- # A root above all rows

sunk_row : (text : Text) (names : List Text) (start : ℕ) (s : Shape) → row_of_shape text names start (sunk s) ≡ moved 0 1 (row_of_shape text names start s)
sunk_row text names start s =
    let e : s.level + 1 ≡ s.level - 0 + 1 = omega arith in
    ap (λ l. row s.size l s.kind (name_at names s.name) (text_between text start (value_end s))) e

rows-sunk : (text : Text) (names : List Text) (start : ℕ) (shapes : List Shape) → rows_of_shapes text names start (map sunk shapes) ≡ map (moved 0 1) (rows_of_shapes text names start shapes)
rows-sunk text names start [] = refl
rows-sunk text names start (s ∷ shapes) =
    ap (λ r. r ∷ rows_of_shapes text names (value_end s) (map sunk shapes)) (sunk_row text names start s)
    ∙ ap (λ rs. moved 0 1 (row_of_shape text names start s) ∷ rs) (rows-sunk text names (value_end s) shapes)

shapes-sunk : (text : Text) (names : List Text) (start : ℕ) (shapes : List Shape) → AreShapes text names start shapes → AreShapes text names start (map sunk shapes)
shapes-sunk text names start [] h = tt
shapes-sunk text names start (s ∷ shapes) h =
    (record { rises = h.0.rises; within = h.0.within; cut = h.0.cut; named = h.0.named }, shapes-sunk text names (value_end s) shapes h.1)

end-sunk : (start : ℕ) (shapes : List Shape) → last_end start (map sunk shapes) ≡ last_end start shapes
end-sunk start [] = refl
end-sunk start (s ∷ shapes) = end-sunk (value_end s) shapes

-- a shape of a root without a value
pub record IsRoot (s : Shape) : Type 0 where
  pub level : s.level ≡ 0
  pub end : value_end s ≡ 0

-- what is kept with a root in front, and the rows then
abbrev pub IsRooted : Text → List Text → List Shape → List Text → List Shape → Row → Type 0
IsRooted text names shapes names' shapes' root =
    IsKept text names' shapes' × (rows_of_shapes text names' 0 shapes' ≡ root ∷ map (moved 0 1) (rows_of_shapes text names 0 shapes))

module _ (text : Text) (names : List Text) (shapes : List Shape) (s : Shape) (name : Text) (kept : IsKept text names shapes) (root : IsRoot s) where
  private_rows : (more : List Text) → IsNumbered (names ++ more) s.name name → rows_of_shapes text (names ++ more) 0 (s ∷ map sunk shapes) ≡ row s.size 0 s.kind name [] ∷ map (moved 0 1) (rows_of_shapes text names 0 shapes)
  private_rows more numbered =
      let ns = names ++ more in
      let none : text_between text 0 (value_end s) ≡ [] = ap (text_between text 0) root.end in
      let wider : rows_of_shapes text ns 0 shapes ≡ rows_of_shapes text names 0 shapes = ap (λ t. rows_of_shapes t ns 0 shapes) (sym (append-nil text)) ∙ rows-stay text [] names more 0 shapes (omega arith) kept.shapes in
      ap (λ n. row s.size s.level s.kind n (text_between text 0 (value_end s)) ∷ rows_of_shapes text ns (value_end s) (map sunk shapes)) (name-numbered ns s.name name numbered).1
      ∙ ap (λ w. row s.size s.level s.kind name w ∷ rows_of_shapes text ns (value_end s) (map sunk shapes)) none
      ∙ ap (λ l. row s.size l s.kind name [] ∷ rows_of_shapes text ns (value_end s) (map sunk shapes)) root.level
      ∙ ap (λ i. row s.size 0 s.kind name [] ∷ rows_of_shapes text ns i (map sunk shapes)) root.end
      ∙ ap (λ rs. row s.size 0 s.kind name [] ∷ rs) (rows-sunk text ns 0 shapes)
      ∙ ap (λ rs. row s.size 0 s.kind name [] ∷ map (moved 0 1) rs) wider

  private_kept : (more : List Text) → IsNumbered (names ++ more) s.name name → length shapes + 1 < 2 ^ 32 → IsKept text (names ++ more) (s ∷ map sunk shapes)
  private_kept more numbered room =
      let ns = names ++ more in
      let there : AreShapes text ns 0 (map sunk shapes) = shapes-sunk text ns 0 shapes (subst (λ t. AreShapes t ns 0 shapes) (append-nil text) (shapes-stay text [] names more 0 shapes kept.shapes)) in
      record {
        shapes = (
          record {
            rises = omega arith;
            within = omega (arith, root.end);
            cut = subst (λ i. IsUtf8 (take i text)) (sym root.end) IsUtf8-nil;
            named = (name-numbered ns s.name name numbered).0;
          },
          subst (λ i. AreShapes text ns i (map sunk shapes)) (sym root.end) there,
        );
        end = ap (λ i. last_end i (map sunk shapes)) root.end ∙ end-sunk 0 shapes ∙ kept.end;
        room = omega (arith, room, length-map shapes sunk);
      }

  pub rooted : (names' : List Text) (shapes' : List Shape) → names' ≡ with_name names name → shapes' ≡ s ∷ map sunk shapes → IsNumbered names' s.name name → length shapes + 1 < 2 ^ 32 → IsRooted text names shapes names' shapes' (row s.size 0 s.kind name [])
  rooted names' shapes' ne se numbered room =
      let more = grown names name in
      let e : names' ≡ names ++ more.0 = ne ∙ more.1 in
      let here : IsNumbered (names ++ more.0) s.name name = subst (λ ns. IsNumbered ns s.name name) e numbered in
      let whole : IsRooted text names shapes (names ++ more.0) (s ∷ map sunk shapes) (row s.size 0 s.kind name []) =
      (private_kept more.0 here room, private_rows more.0 here) in
      let one : IsRooted text names shapes names' (s ∷ map sunk shapes) (row s.size 0 s.kind name []) = subst (λ ns. IsRooted text names shapes ns (s ∷ map sunk shapes) (row s.size 0 s.kind name [])) (sym e) whole in
      subst (λ ss. IsRooted text names shapes names' ss (row s.size 0 s.kind name [])) (sym se) one

-- # Which levels may be moved

pub movable-rows : (text : Text) (names : List Text) (from to start : ℕ) (shapes : List Shape) → All (λ (s : Shape). s.level - from + to < most_levels) shapes → AreMovable from to (rows_of_shapes text names start shapes)
movable-rows text names from to start [] h = All-nil (λ (r : Row). r.level - from + to < most_levels)
movable-rows text names from to start (s ∷ shapes) h =
    All-cons (λ (r : Row). r.level - from + to < most_levels) (row_of_shape text names start s) (rows_of_shapes text names (value_end s) shapes)
    (All-head (λ (q : Shape). q.level - from + to < most_levels) s shapes h)
    (movable-rows text names from to (value_end s) shapes (All-tail (λ (q : Shape). q.level - from + to < most_levels) s shapes h))

pub movable-shapes : (text : Text) (names : List Text) (from to start : ℕ) (shapes : List Shape) → AreMovable from to (rows_of_shapes text names start shapes) → All (λ (s : Shape). s.level - from + to < most_levels) shapes
movable-shapes text names from to start [] h = All-nil (λ (s : Shape). s.level - from + to < most_levels)
movable-shapes text names from to start (s ∷ shapes) h =
    All-cons (λ (q : Shape). q.level - from + to < most_levels) s shapes
    (All-head (λ (r : Row). r.level - from + to < most_levels) (row_of_shape text names start s) (rows_of_shapes text names (value_end s) shapes) h)
    (movable-shapes text names from to (value_end s) shapes (All-tail (λ (r : Row). r.level - from + to < most_levels) (row_of_shape text names start s) (rows_of_shapes text names (value_end s) shapes) h))

-- # Shapes one by one

-- the shapes up to a place are one level further down
pub record AreSunk (old new : List Shape) (at : ℕ) : Type 0 where
  pub front : take at new ≡ map sunk (take at old)
  pub rest : drop at new ≡ drop at old
  pub long : length new ≡ length old

pub sunk-here : (old new : List Shape) (at : ℕ) (d : Shape) → AreSunk old new at → at < length new → get_or new at d ≡ get_or old at d
sunk-here old new at d h lt =
    let mine : drop at new ≡ get_or new at d ∷ drop (at + 1) new = drop_more new at d lt in
    let theirs : drop at old ≡ get_or old at d ∷ drop (at + 1) old = drop_more old at d (omega (arith, lt, h.long)) in
    let both : get_or new at d ∷ drop (at + 1) new ≡ get_or old at d ∷ drop (at + 1) old = sym mine ∙ h.rest ∙ theirs in
    cc

pub sunk-more : (old new : List Shape) (at : ℕ) (s : Shape) → AreSunk old new at → at < length new → s ≡ get_or new at s → AreSunk old (set new at (sunk s)) (at + 1)
sunk-more old new at s h lt is =
    let here : s ≡ get_or old at s = is ∙ sunk-here old new at s h lt in
    let mine : drop at new ≡ get_or new at s ∷ drop (at + 1) new = drop_more new at s lt in
    let theirs : drop at old ≡ get_or old at s ∷ drop (at + 1) old = drop_more old at s (omega (arith, lt, h.long)) in
    let both : get_or new at s ∷ drop (at + 1) new ≡ get_or old at s ∷ drop (at + 1) old = sym mine ∙ h.rest ∙ theirs in
    let tails : drop (at + 1) new ≡ drop (at + 1) old = cc in
    record {
      front =
          take_more_set new at (sunk s) lt ∙ ap (λ ss. ss ++ sunk s ∷ []) h.front
          ∙ ap (λ (q : Shape). map sunk (take at old) ++ sunk q ∷ []) here
          ∙ sym (map_more sunk old at s (omega (arith, lt, h.long)));
      rest = drop-set-lt (at + 1) new at (sunk s) (omega arith) ∙ tails;
      long = length-set new at (sunk s) ∙ h.long;
    }

pub none-sunk : (old : List Shape) → AreSunk old old 0
none-sunk old = record { front = refl; rest = refl; long = refl }

pub all-sunk : (old new : List Shape) (at : ℕ) → AreSunk old new at → length new ≤ at → new ≡ map sunk old
all-sunk old new at h le =
    sym (take_all at new le) ∙ h.front ∙ ap (map sunk) (take_all at old (omega (arith, le, h.long)))

sink_as_move : (l : ℕ) → l + 1 < most_levels → l - 0 + 1 < most_levels
sink_as_move l h = omega arith

move_as_sink : (l : ℕ) → l - 0 + 1 < most_levels → l + 1 < most_levels
move_as_sink l h = omega arith

-- a level further down
pub sinkable-rows : (text : Text) (names : List Text) (start : ℕ) (shapes : List Shape) → All (λ (s : Shape). s.level + 1 < most_levels) shapes → AreMovable 0 1 (rows_of_shapes text names start shapes)
sinkable-rows text names start shapes h =
    movable-rows text names 0 1 start shapes (All-weaker (λ (s : Shape). s.level + 1 < most_levels) (λ (s : Shape). s.level - 0 + 1 < most_levels) (λ s l. sink_as_move s.level l) shapes h)

pub sinkable-shapes : (text : Text) (names : List Text) (start : ℕ) (shapes : List Shape) → AreMovable 0 1 (rows_of_shapes text names start shapes) → All (λ (s : Shape). s.level + 1 < most_levels) shapes
sinkable-shapes text names start shapes h =
    All-weaker (λ (s : Shape). s.level - 0 + 1 < most_levels) (λ (s : Shape). s.level + 1 < most_levels) (λ s l. move_as_sink s.level l) shapes (movable-shapes text names 0 1 start shapes h)

-- what stands for a shape where there is none
abbrev pub no_shape : Shape
no_shape = record { size = 0; name = 0; end_low = 0; end_high = 0; level = 0; kind = Document }
