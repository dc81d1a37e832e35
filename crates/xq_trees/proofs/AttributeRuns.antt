-- The attributes of a row are the rows that follow it at once.
use Rattle.std.proofs.Common.{◌≡◌, ℕ, zero, suc, ◌+◌, ◌-◌, ◌<◌, ◌≤◌, List, [], ◌∷◌, ◌++◌, length, drop, take, map, filter, cond, Bool, true, false, ◌&&◌, refl, sym, ◌∙◌, ap, subst, arith, ◌↔◌}
use Rattle.std.specs.Prelude.{slice_range, IsTrue, IfOk, Result, Ok, Err}
use Rattle.std.specs.List.{IsDistinct}
use Rattle.std.specs.Str.{bytes_eq}
use Rattle.std.specs.List.Sorted.{IsStrictlyIncreasing}
use Rattle.std.proofs.Math.Seq.{drop-cons}
use Rattle.std.proofs.lemmas.Bool.{eqb-true, true≢false}
use Rattle.std.proofs.lemmas.List.{take_more, append-nil, get_or-drop, length-drop, take-map, drop-map}
use Rattle.xq_trees.specs.Forest.{tops}
use Rattle.xq_trees.specs.Tree.{Label, is_attribute, may_stand, may_follow, is_content, attribute_names, are_attributes_first}
use Rattle.xq_trees.specs.Rows.{Row, no_row, row_at, row_name, row_of, AreNumbered, front, nest}
use Rattle.xq_trees.specs.private.Checks.{label_of, name_of, pre_of, IsChecked, RowOk, is_run, roots, AreNamed, IsNamedAt}
use Rattle.xq_trees.specs.declared.NodeRow.{NodeRow}
use Rattle.xq_trees.specs.declared.Kind.{Kind}
use Rattle.xq_trees.specs.declared.Kind.TheVariants.{Document, Element, Attribute, Text, Comment, ProcessingInstruction}
use Rattle.xq_trees.proofs.Checking.{both, child_is_ok, roots_stop, IsChecked-drop, checked_later}
use Rattle.xq_trees.proofs.Walks.{length-map, roots_next, run_within}
use Rattle.xq_trees.proofs.Encoding.{row_parts, run_content, numbered_at, checked_at, roots_of_row}

no_child_of_attribute : (a b : Kind) → is_attribute a ≡ true → may_stand a b ≡ true → ⊥
no_child_of_attribute Document b h g = absurd (cc)
no_child_of_attribute Element b h g = absurd (cc)
no_child_of_attribute Attribute b h g = absurd (cc)
no_child_of_attribute Text b h g = absurd (cc)
no_child_of_attribute Comment b h g = absurd (cc)
no_child_of_attribute ProcessingInstruction b h g = absurd (cc)

-- nothing is below an attribute
run_of_attribute : (r : Row) (n : ℕ) (below : List Row) → is_attribute r.label.kind ≡ true → is_run r n below ≡ true → n ≡ 0
run_of_attribute r n [] a h = eqb-true n 0 h
run_of_attribute r n (x ∷ below) a h =
    absurd (no_child_of_attribute r.label.kind x.label.kind a (child_is_ok r n x (map label_of below) (both _ _ h).0).kind)

pub attribute_size : (r : Row) (below : List Row) → is_attribute r.label.kind ≡ true → RowOk r below → r.size ≡ 0
attribute_size r below a h = run_of_attribute r r.size below a (row_parts r below h).run

-- content has its attributes in front
pub content_in_front : (parent : Label) (labels : List Label) → is_content parent labels ≡ true → are_attributes_first labels ≡ true
content_in_front parent [] h = refl
content_in_front parent (a ∷ labels) h =
    let b = both _ _ h in
    let c = both _ _ b.1 in
    let d = both _ _ c.1 in
    ap (λ t. t && are_attributes_first labels) d.0 ∙ content_in_front parent labels d.1

no_attribute_follows : (a b : Kind) → is_attribute a ≡ false → may_follow a b ≡ true → is_attribute b ≡ false
no_attribute_follows a Document h g = refl
no_attribute_follows a Element h g = refl
no_attribute_follows Document Attribute h g = absurd (cc)
no_attribute_follows Element Attribute h g = absurd (cc)
no_attribute_follows Attribute Attribute h g = absurd (cc)
no_attribute_follows Text Attribute h g = absurd (cc)
no_attribute_follows Comment Attribute h g = absurd (cc)
no_attribute_follows ProcessingInstruction Attribute h g = absurd (cc)
no_attribute_follows a Text h g = refl
no_attribute_follows a Comment h g = refl
no_attribute_follows a ProcessingInstruction h g = refl

names-cons : (a : Label) (labels : List Label) (b : Bool) → is_attribute a.kind ≡ b → attribute_names (a ∷ labels) ≡ cond b (a.name ∷ attribute_names labels) (attribute_names labels)
names-cons a labels true e = ap (λ t. map (λ (x : Label). x.name) (cond t (a ∷ filter (λ (x : Label). is_attribute x.kind) labels) (filter (λ (x : Label). is_attribute x.kind) labels))) e
names-cons a labels false e = ap (λ t. map (λ (x : Label). x.name) (cond t (a ∷ filter (λ (x : Label). is_attribute x.kind) labels) (filter (λ (x : Label). is_attribute x.kind) labels))) e

-- no attributes come after a node that is none
no_more_names : (a : Label) (labels : List Label) → are_attributes_first (a ∷ labels) ≡ true → is_attribute a.kind ≡ false → attribute_names (a ∷ labels) ≡ []
no_more_names a [] h e = names-cons a [] false e
no_more_names a (b ∷ labels) h e =
    let w = both (may_follow a.kind b.kind) (are_attributes_first (b ∷ labels)) h in
    names-cons a (b ∷ labels) false e ∙ no_more_names b labels w.1 (no_attribute_follows a.kind b.kind e w.0)

-- # A walk over the attributes

size_zero : (rs : List Row) (c : ℕ) → c < length rs → IsChecked (drop c rs) → is_attribute (row_at rs c).label.kind ≡ true → (row_at rs c).size ≡ 0
size_zero rs c b h a =
    let r = row_at rs c in
    let g : IsChecked (r ∷ drop (suc c) rs) = subst IsChecked (drop-cons rs c no_row b) h in
    attribute_size r (tops (front r.size (nest (drop (suc c) rs)))) a g.0

abbrev pub names_from : List Row → ℕ → ℕ → List (List ℕ)
names_from rs c stop = attribute_names (map label_of (roots rs c stop))

abbrev pub InFront : List Row → ℕ → ℕ → Type 0
InFront rs c stop = are_attributes_first (map label_of (roots rs c stop)) ≡ true

module _ (rs : List Row) (c stop : ℕ) (before : c < stop) (within : stop ≤ length rs) (checked : IsChecked (drop c rs)) (first : InFront rs c stop) where
  pub next_names : is_attribute (row_at rs c).label.kind ≡ true → InFront rs (c + 1) stop × (names_from rs c stop ≡ row_name (row_at rs c) ∷ names_from rs (c + 1) stop)
  next_names a =
      let r = row_at rs c in
      let z = size_zero rs c (omega arith) checked a in
      let step : roots rs c stop ≡ r ∷ roots rs (c + 1) stop = roots_next rs c stop before within checked (c + 1) (omega (arith, z)) in
      let later = map label_of (roots rs (c + 1) stop) in
      let front : are_attributes_first (label_of r ∷ later) ≡ true = sym (ap (λ rs. are_attributes_first (map label_of rs)) step) ∙ first in
      ((both _ _ front).1, ap (λ rs. attribute_names (map label_of rs)) step ∙ names-cons (label_of r) later true a)

  pub no_names : is_attribute (row_at rs c).label.kind ≡ false → names_from rs c stop ≡ []
  no_names a =
      let r = row_at rs c in
      let step : roots rs c stop ≡ r ∷ roots rs (suc c + r.size) stop = roots_next rs c stop before within checked (suc c + r.size) refl in
      let later = map label_of (roots rs (suc c + r.size) stop) in
      let front : are_attributes_first (label_of r ∷ later) ≡ true = sym (ap (λ rs. are_attributes_first (map label_of rs)) step) ∙ first in
      ap (λ rs. attribute_names (map label_of rs)) step ∙ no_more_names (label_of r) later front a

pub names_at_stop : (rs : List Row) (c stop : ℕ) → stop ≤ c → names_from rs c stop ≡ []
names_at_stop rs c stop h = ap (λ rs. attribute_names (map label_of rs)) (roots_stop rs c stop h)

pub checked_next : (rs : List Row) (c : ℕ) → IsChecked (drop c rs) → IsChecked (drop (c + 1) rs)
checked_next rs c h = checked_later rs c (c + 1) h (omega arith)

-- one more row in a slice
slice_more : (rs : List Row) (from at : ℕ) → from ≤ at → at < length rs → slice_range rs from (at + 1) ≡ slice_range rs from at ++ row_at rs at ∷ []
slice_more rs from at l b =
    let n : at + 1 - from ≡ at - from + 1 = omega arith in
    let i : from + (at - from) ≡ at = omega arith in
    let e : row_at (drop from rs) (at - from) ≡ row_at rs at = get_or-drop from rs (at - from) no_row ∙ ap (λ k. row_at rs k) i in
    ap (λ k. take k (drop from rs)) n
    ∙ take_more (drop from rs) (at - from) no_row (let d = length-drop from rs in omega arith)
    ∙ ap (λ (y : Row). take (at - from) (drop from rs) ++ y ∷ []) e

names_push : (zs : List Row) (x : Row) (rest : List (List ℕ)) → map row_name (zs ++ x ∷ []) ++ rest ≡ map row_name zs ++ (row_name x ∷ rest)
names_push [] x rest = refl
names_push (z ∷ zs) x rest = ap (λ l. row_name z ∷ l) (names_push zs x rest)

pub names_more : (rs : List Row) (from at : ℕ) (rest : List (List ℕ)) → from ≤ at → at < length rs → map row_name (slice_range rs from at) ++ (row_name (row_at rs at) ∷ rest) ≡ map row_name (slice_range rs from (at + 1)) ++ rest
names_more rs from at rest l b =
    sym (names_push (slice_range rs from at) (row_at rs at) rest) ∙ ap (λ ys. map row_name ys ++ rest) (sym (slice_more rs from at l b))

pub names_end : (all some rest : List (List ℕ)) → all ≡ some ++ rest → rest ≡ [] → all ≡ some
names_end all some rest e g = e ∙ ap (λ l. some ++ l) g ∙ append-nil some

-- # The attributes of one row

numbered_drop : (m a : ℕ) (xs : List NodeRow) → AreNumbered m xs → AreNumbered (m + a) (drop a xs)
numbered_drop m zero xs h = subst (λ n. AreNumbered n xs) (let e : m ≡ m + 0 = omega arith in e) h
numbered_drop m (suc a) [] h = tt
numbered_drop m (suc a) (x ∷ xs) h = subst (λ n. AreNumbered n (drop a xs)) (let e : suc m + a ≡ m + suc a = omega arith in e) (numbered_drop (suc m) a xs h.1)

numbered_take : (m n : ℕ) (xs : List NodeRow) → AreNumbered m xs → AreNumbered m (take n xs)
numbered_take m zero xs h = tt
numbered_take m (suc n) [] h = tt
numbered_take m (suc n) (x ∷ xs) h = (h.0, numbered_take (suc m) n xs h.1)

numbered_rise : (m : ℕ) (xs : List NodeRow) → AreNumbered m xs → IsStrictlyIncreasing (map pre_of xs)
numbered_rise m xs h k l =
    let n = length-map pre_of xs in
    omega (arith, numbered_at m xs k h (omega arith), numbered_at m xs (k + 1) h (omega arith))

pub places_rise : (xs : List NodeRow) (from to : ℕ) → AreNumbered 0 xs → IsStrictlyIncreasing (map pre_of (slice_range xs from to))
places_rise xs from to h = numbered_rise (0 + from) (slice_range xs from to) (numbered_take (0 + from) (to - from) (drop from xs) (numbered_drop 0 from xs h))

-- the rows below a row end within the rows, attributes first
pub record Below (rs : List Row) (i : ℕ) (stop : ℕ) : Type 0 where
  pub within : stop ≤ length rs
  pub checked : IsChecked (drop (i + 1) rs)
  pub in_front : InFront rs (i + 1) stop

pub below : (rs : List Row) (i stop : ℕ) → i < length rs → stop ≡ i + 1 + (row_at rs i).size → IsChecked rs → Below rs i stop
below rs i stop b e h =
    let r = row_at rs i in
    let n : suc i + r.size ≡ stop = omega (arith, e) in
    let m : suc i ≡ i + 1 = omega arith in
    let tail : IsChecked (drop (suc i) rs) = IsChecked-drop (suc i) rs h in
    let run = (row_parts r (roots rs (suc i) (suc i + r.size)) (checked_at rs i b h)).run in
    let room = run_within r rs (suc i) r.size (omega arith) tail run in
    record {
      within = omega (arith, room, n);
      checked = subst (λ k. IsChecked (drop k rs)) m tail;
      in_front =
          ap (λ k. are_attributes_first (map label_of (roots rs k stop))) (sym m)
          ∙ ap (λ k. are_attributes_first (map label_of (roots rs (suc i) k))) (sym n)
          ∙ content_in_front r.label (map label_of (roots rs (suc i) (suc i + r.size))) (run_content r r.size (roots rs (suc i) (suc i + r.size)) run);
    }

-- the names that the row's attributes have are these
pub names_at : (rs : List Row) (i stop : ℕ) (names : List (List ℕ)) (r : Bool) → stop ≡ i + 1 + (row_at rs i).size → names_from rs (i + 1) stop ≡ names
    → IsTrue r ↔ IsDistinct bytes_eq names → IsTrue r ↔ IsNamedAt rs i
names_at rs i stop names r s e h =
    let n : suc i + (row_at rs i).size ≡ stop = omega (arith, s) in
    let m : suc i ≡ i + 1 = omega arith in
    let of : List Row → List (List ℕ) = λ below. attribute_names (map label_of below) in
    let same : of (tops (front (row_at rs i).size (nest (drop (suc i) rs)))) ≡ names =
    ap of (sym (roots_of_row rs i (row_at rs i))) ∙ ap (λ k. names_from rs (suc i) k) n ∙ ap (λ k. names_from rs k stop) m ∙ e in
    (λ t. subst (IsDistinct bytes_eq) (sym same) (h.0 t), λ d. h.1 (subst (IsDistinct bytes_eq) same d))

-- names in a list of rows that code holds
pub names_listed : (xs : List NodeRow) (from to : ℕ) → map row_name (slice_range (map row_of xs) from to) ≡ map name_of (slice_range xs from to)
names_listed xs from to =
    ap (λ ys. map row_name (take (to - from) ys)) (drop-map row_of from xs)
    ∙ ap (map row_name) (take-map row_of (to - from) (drop from xs))
    ∙ names-map (slice_range xs from to)
  where
    names-map : (ys : List NodeRow) → map row_name (map row_of ys) ≡ map name_of ys
    names-map [] = refl
    names-map (y ∷ ys) = ap (λ l. name_of y ∷ l) (names-map ys)

-- # The attributes of all rows

pub named_rows : (rs : List Row) → ((i : ℕ) → i < length rs → IsNamedAt rs i) → AreNamed rs
named_rows [] h = tt
named_rows (r ∷ rs) h = (h 0 (omega arith), named_rows rs (λ i l. h (suc i) (omega arith)))

pub named_at : (rs : List Row) (i : ℕ) → i < length rs → AreNamed rs → IsNamedAt rs i
named_at [] i l h = absurd (omega arith)
named_at (r ∷ rs) zero l h = h.0
named_at (r ∷ rs) (suc i) l h = named_at rs i (omega arith) h.1

pub not_named : (rs : List Row) (i : ℕ) (r : Bool) → i < length rs → IsTrue r ↔ IsNamedAt rs i → r ≡ false → IsTrue false ↔ AreNamed rs
not_named rs i r l h e = (λ t. absurd (true≢false (sym t)), λ a. absurd (true≢false (sym (h.1 (named_at rs i l a)) ∙ e)))

-- what an answer says where it says more
pub if_ok : {A E : Type 0} (P Q : A → Type 0) → ((x : A) → P x → Q x) → (r : Result A E) → IfOk r P → IfOk r Q
if_ok P Q f (Ok x) h = f x h
if_ok P Q f (Err e) h = tt
