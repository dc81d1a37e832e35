-- Rows whose sizes come from their levels.
use Rattle.std.proofs.Common.{◌≡◌, ℕ, zero, suc, ◌+◌, ◌-◌, ◌<◌, ◌≤◌, List, [], ◌∷◌, ◌++◌, length, map, drop, get_or, set, refl, sym, ap, ◌∙◌, subst, arith, Bool, true, false, cond, nat_lt, slice_index}
use Rattle.std.proofs.lemmas.Bool.Decides.{nat_tests}
use Rattle.std.proofs.lemmas.List.{drop_more, drop_all, drop-drop, drop-map, length-drop, drop-set}
use Rattle.std.specs.List.{prefix_len}
use Rattle.xq_trees.specs.Tree.{Label, Tree, IsTree, nodes}
use Rattle.xq_trees.specs.Rows.{Row, no_row, row_at, AreNumbered, AreRowsOf, Encodes, row_of, rows, measured}
use Rattle.xq_trees.specs.declared.NodeRow.{NodeRow}
use Rattle.xq_trees.specs.Levels.{flat, flat_row, sized, count_deeper, AreSized}
use Rattle.xq_trees.specs.private.Sizes.{IsSized, deeper, level_of}
use Rattle.xq_trees.proofs.Printed.{flat-measured}
use Rattle.xq_trees.specs.Nesting.{count-measured}
use Rattle.xq_trees.proofs.Walks.{length-map}
use Rattle.xq_trees.proofs.Regions.{length-labels}
use Rattle.xq_trees.proofs.Sized.{sized-tree}

pub numbered_push : (n : ℕ) (rs : List NodeRow) (r : NodeRow) → AreNumbered n rs → r.pre ≡ n + length rs → AreNumbered n (rs ++ r ∷ [])
numbered_push n [] r h e = (omega arith, tt)
numbered_push n (x ∷ rs) r h e = (h.0, numbered_push (suc n) rs r h.1 (omega arith))

pub map-push : {A B : Type 0} (f : A → B) (xs : List A) (x : A) → map f (xs ++ x ∷ []) ≡ map f xs ++ f x ∷ []
map-push f [] x = refl
map-push f (y ∷ xs) x = ap (λ l. f y ∷ l) (map-push f xs x)

abbrev Leaf : Type 0
Leaf = ℕ × Label

-- past all that are deeper than a level, one goes on with those deeper than a lower one
pub prefix_jump : (low level : ℕ) (ps : List Leaf) → low ≤ level → prefix_len (λ (q : Leaf). nat_lt low q.0) ps
    ≡ prefix_len (λ (q : Leaf). nat_lt level q.0) ps + prefix_len (λ (q : Leaf). nat_lt low q.0) (drop (prefix_len (λ (q : Leaf). nat_lt level q.0) ps) ps)
prefix_jump low level [] le = refl
prefix_jump low level (p ∷ ps) le = by_test (nat_lt level p.0) refl (prefix_jump low level ps le)
  where
    by_test : (b : Bool) → nat_lt level p.0 ≡ b → prefix_len (λ (q : Leaf). nat_lt low q.0) ps
        ≡ prefix_len (λ (q : Leaf). nat_lt level q.0) ps + prefix_len (λ (q : Leaf). nat_lt low q.0) (drop (prefix_len (λ (q : Leaf). nat_lt level q.0) ps) ps)
        → prefix_len (λ (q : Leaf). nat_lt low q.0) (p ∷ ps)
        ≡ cond b (1 + prefix_len (λ (q : Leaf). nat_lt level q.0) ps) 0 + prefix_len (λ (q : Leaf). nat_lt low q.0) (drop (cond b (1 + prefix_len (λ (q : Leaf). nat_lt level q.0) ps) 0) (p ∷ ps))
    by_test true e more =
        let t : nat_lt low p.0 ≡ true = grind (arith, nat_tests) in
        let one : 1 + prefix_len (λ (q : Leaf). nat_lt level q.0) ps ≡ suc (prefix_len (λ (q : Leaf). nat_lt level q.0) ps) = omega arith in
        rw t (rw one (omega arith))
    by_test false e more = omega arith

pub sized_drop : (n : ℕ) (rs : List Row) → AreSized rs → AreSized (drop n rs)
sized_drop zero rs h = h
sized_drop (suc n) [] h = h
sized_drop (suc n) (r ∷ rs) h = sized_drop n rs h.1

-- rows with the right sizes
pub sized_listed : (rs : List Row) → AreSized rs → rs ≡ sized (map flat rs)
sized_listed [] h = refl
sized_listed (r ∷ rs) h =
    let size = h.0 in
    rw size (ap (λ l. record { size = prefix_len (λ (q : Leaf). nat_lt r.level q.0) (map flat rs); level = r.level; label = r.label } ∷ l) (sized_listed rs h.1))

pub flat_listed : (rs : List NodeRow) → map flat (map row_of rs) ≡ map flat_row rs
flat_listed [] = refl
flat_listed (r ∷ rs) = ap (λ l. flat_row r ∷ l) (flat_listed rs)

-- those that code holds, too
pub are_sized : (rs : List NodeRow) → IsSized rs → AreSized (map row_of rs)
are_sized [] h = tt
are_sized (r ∷ rs) h = (h.0 ∙ ap (λ l. prefix_len (λ (q : Leaf). nat_lt r.level q.0) l) (sym (flat_listed rs)), are_sized rs h.1)

level_listed : (rs : List NodeRow) (at : ℕ) → (row_at (map row_of rs) at).level ≡ slice_index (map level_of rs) at
level_listed [] at = refl
level_listed (r ∷ rs) zero = refl
level_listed (r ∷ rs) (suc at) = level_listed rs at

-- how many of the rows after one are deeper
pub deeper_listed : (rs : List NodeRow) (at : ℕ) → count_deeper (row_at (map row_of rs) at).level (drop (at + 1) (map row_of rs)) ≡ deeper (slice_index (map level_of rs) at) (drop (at + 1) rs)
deeper_listed rs at =
    ap (λ l. count_deeper l (drop (at + 1) (map row_of rs))) (level_listed rs at)
    ∙ ap (count_deeper (slice_index (map level_of rs) at)) (drop-map row_of (at + 1) rs)
    ∙ ap (prefix_len (λ (q : Leaf). nat_lt (slice_index (map level_of rs) at) q.0)) (flat_listed (drop (at + 1) rs))

pub sized_rows : (rs : List NodeRow) → IsSized rs → map row_of rs ≡ sized (map flat_row rs)
sized_rows rs h = sized_listed (map row_of rs) (are_sized rs h) ∙ ap sized (flat_listed rs)

deeper_le : (level : ℕ) (rs : List Row) → count_deeper level rs ≤ length rs
deeper_le level [] = omega arith
deeper_le level (r ∷ rs) = by_test (nat_lt level r.level) (deeper_le level rs)
  where
    by_test : (b : Bool) → count_deeper level rs ≤ length rs → cond b (1 + count_deeper level rs) 0 ≤ suc (length rs)
    by_test true h = omega arith
    by_test false h = omega arith

map-drop : (n : ℕ) (rs : List Row) → map flat (drop n rs) ≡ drop n (map flat rs)
map-drop zero rs = refl
map-drop (suc n) [] = refl
map-drop (suc n) (r ∷ rs) = map-drop n rs

-- past a row that is deeper, and those below it
jump_one : (low : ℕ) (r : Row) (rs : List Row) → AreSized (r ∷ rs) → low < r.level → (count_deeper low (r ∷ rs) ≡ 1 + r.size + count_deeper low (drop r.size rs)) × (r.size ≤ length rs)
jump_one low r rs h lt =
    let t : nat_lt low r.level ≡ true = grind (arith, nat_tests) in
    let j = prefix_jump low r.level (map flat rs) (omega arith) in
    let e : count_deeper low rs ≡ r.size + count_deeper low (drop r.size rs) = rw (h.0, map-drop) j in
    (rw t (omega arith), omega (arith, h.0, deeper_le r.level rs))

pub jump_next : (low next : ℕ) (rs : List Row) → next < length rs → AreSized (drop next rs) → low < (row_at rs next).level
    → (count_deeper low (drop next rs) ≡ 1 + (row_at rs next).size + count_deeper low (drop (next + (1 + (row_at rs next).size)) rs)) × (next + (1 + (row_at rs next).size) ≤ length rs)
jump_next low next rs lt h less =
    let r = row_at rs next in
    let d : drop next rs ≡ r ∷ drop (next + 1) rs = drop_more rs next no_row lt in
    let j = jump_one low r (drop (next + 1) rs) (subst AreSized d h) less in
    let q : next + 1 + r.size ≡ next + (1 + r.size) = omega arith in
    let s : drop r.size (drop (next + 1) rs) ≡ drop (next + (1 + r.size)) rs = drop-drop r.size (next + 1) rs ∙ ap (λ n. drop n rs) q in
    (ap (count_deeper low) d ∙ j.0 ∙ ap (λ x. 1 + r.size + count_deeper low x) s, omega (arith, j.1, length-drop (next + 1) rs))

-- the first that is no deeper ends those that are
pub jump_ends : (low next : ℕ) (rs : List Row) → next < length rs → (row_at rs next).level ≤ low → count_deeper low (drop next rs) ≡ 0
jump_ends low next rs lt le =
    let r = row_at rs next in
    let d : drop next rs ≡ r ∷ drop (next + 1) rs = drop_more rs next no_row lt in
    let t : nat_lt low r.level ≡ false = grind (arith, nat_tests) in
    ap (count_deeper low) d ∙ ap (λ b. cond b (1 + count_deeper low (drop (next + 1) rs)) 0) t

-- and so does the end
pub jump_past : (low next : ℕ) (rs : List Row) → length rs ≤ next → count_deeper low (drop next rs) ≡ 0
jump_past low next rs le = ap (count_deeper low) (drop_all next rs le)

-- the sizes are known also further on
pub sized_after : (from to : ℕ) (rs : List Row) → from ≤ to → AreSized (drop from rs) → AreSized (drop to rs)
sized_after from to rs le h =
    let q : from + (to - from) ≡ to = omega arith in
    subst AreSized (drop-drop (to - from) from rs ∙ ap (λ n. drop n rs) q) (sized_drop (to - from) (drop from rs) h)

-- a row in the place of another with the same level and label
pub flat_set : (rs : List NodeRow) (i : ℕ) (d n : NodeRow) → flat_row n ≡ flat_row (get_or rs i d) → map flat_row (set rs i n) ≡ map flat_row rs
flat_set [] i d n e = refl
flat_set (r ∷ rs) zero d n e = ap (λ x. x ∷ map flat_row rs) e
flat_set (r ∷ rs) (suc i) d n e = ap (λ l. flat_row r ∷ l) (flat_set rs i d n e)

pub numbered_set : (k : ℕ) (rs : List NodeRow) (i : ℕ) (d n : NodeRow) → n.pre ≡ (get_or rs i d).pre → AreNumbered k rs → AreNumbered k (set rs i n)
numbered_set k [] i d n e h = tt
numbered_set k (r ∷ rs) zero d n e h = (e ∙ h.0, h.1)
numbered_set k (r ∷ rs) (suc i) d n e h = (h.0, numbered_set (suc k) rs i d n e h.1)

pub sized_set : (rs : List NodeRow) (i : ℕ) (n : NodeRow) → i < length rs → n.size ≡ deeper n.level (drop (i + 1) rs) → IsSized (drop (i + 1) rs) → IsSized (drop i (set rs i n))
sized_set rs i n lt e h = subst IsSized (sym (drop-set rs i n lt)) (e, h)

pub level_at : (rs : List NodeRow) (i : ℕ) (d : NodeRow) → i < length rs → slice_index (map level_of rs) i ≡ (get_or rs i d).level
level_at [] i d lt = absurd (omega arith)
level_at (r ∷ rs) zero d lt = refl
level_at (r ∷ rs) (suc i) d lt = level_at rs i d (omega arith)

-- a row with its place, in front of rows with theirs
pub placed_set : (rs : List NodeRow) (i : ℕ) (n : NodeRow) → i < length rs → n.pre ≡ i → AreNumbered (i + 1) (drop (i + 1) rs) → AreNumbered i (drop i (set rs i n))
placed_set rs i n lt e h =
    let next : i + 1 ≡ suc i = omega arith in
    subst (AreNumbered i) (sym (drop-set rs i n lt)) (e, subst (λ k. AreNumbered k (drop (i + 1) rs)) next h)

-- rows with places and sizes are those of each tree that has their levels and labels
pub encodes_levels : (rs : List NodeRow) (t : Tree) → IsTree t → IsSized rs → AreNumbered 0 rs → map flat_row rs ≡ map flat (rows t) → Encodes rs t
encodes_levels rs t is s n e =
    record { is_tree = is; rows = sized_rows rs s ∙ ap sized (e ∙ flat-measured 0 (nodes t)) ∙ sized-tree t; numbered = n }

-- and a tree that they are of has them
pub levels_encoded : (rs : List NodeRow) (t : Tree) → Encodes rs t → map flat_row rs ≡ map flat (rows t)
levels_encoded rs t h = sym (flat_listed rs) ∙ ap (map flat) h.rows

-- there are as many rows as nodes
pub few_levels : (rs : List NodeRow) (t : Tree) → IsTree t → map flat_row rs ≡ map flat (rows t) → length rs ≤ 1000000
few_levels rs t is e =
    omega (arith, is.room, length-map flat_row rs, ap length e, length-map flat (rows t), length-labels (measured 0 (nodes t)), count-measured 0 (nodes t))

-- the same of rows without places
pub levels_are_rows : (rs : List Row) (t : Tree) → IsTree t → AreSized rs → map flat rs ≡ map flat (rows t) → AreRowsOf rs t
levels_are_rows rs t is s e =
    record { is_tree = is; rows = sized_listed rs s ∙ ap sized (e ∙ flat-measured 0 (nodes t)) ∙ sized-tree t }
