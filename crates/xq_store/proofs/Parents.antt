-- Parents, by the rows that are kept of a tree.
use Rattle.std.proofs.Common.{◌≡◌, ◌+◌, ◌<◌, ◌≤◌, ℕ, zero, suc, List, [], ◌∷◌, length, map, take, refl, sym, ap, subst, ◌∙◌, arith, Option, Some, None, IfSome}
use Rattle.std.specs.List.{enumerate_from}
use Rattle.std.proofs.lemmas.List.{take-map, length-map}
use Rattle.xq_trees.specs.Tree.{Tree}
use Rattle.xq_trees.specs.Rows.{Row, rows, row_at}
use Rattle.xq_sources.specs.Lent.{unplaced}
use Rattle.xq_sources.specs.Parents.{AreParents, IsParentRow}
use Rattle.xq_store.specs.declared.shelves.CachedDocument.{CachedDocument}
use Rattle.xq_store.specs.private.Shelves.{IsFront, front_at}
use Rattle.xq_store.proofs.FrontLaws.{has_front}

pub row-first : (n i : ℕ) (xs : List Row) → i < length (take n xs) → row_at (take n xs) i ≡ row_at xs i
row-first zero i xs h = absurd (omega (arith, h))
row-first (suc n) i [] h = absurd (omega (arith, h))
row-first (suc n) zero (x ∷ xs) h = refl
row-first (suc n) (suc i) (x ∷ xs) h = row-first n i xs (omega (arith, h))

pub length-first : (n : ℕ) (xs : List Row) → length (take n xs) ≤ length xs
length-first zero xs = omega arith
length-first (suc n) [] = omega arith
length-first (suc n) (x ∷ xs) = let more = length-first n xs in omega (arith, more)

pub without-places : (n : ℕ) (xs : List Row) → map (λ (p : ℕ × Row). p.1) (enumerate_from n xs) ≡ xs
without-places n [] = refl
without-places n (x ∷ xs) = ap (λ ys. x ∷ ys) (without-places (n + 1) xs)

-- what the first rows of a tree tell of a parent holds in the tree
parent-first : (n : ℕ) (xs : List Row) (u v : ℕ) → IsParentRow (take n xs) u v → IsParentRow xs u v
parent-first n xs u v q =
    let less = q.inside.0 in
    let there = q.there in
    let eu = row-first n u xs (omega (arith, less, there)) in
    let ev = row-first n v xs there in
    let most = length-first n xs in
    record {
      there = omega (arith, there, most);
      inside = (less, subst (λ (r : Row). v ≤ u + r.size) eu q.inside.1);
      level = sym (ap (λ (r : Row). r.level) ev) ∙ q.level ∙ ap (λ (r : Row). suc r.level) eu;
    }

-- the rows that are kept of a tree are its first
pub first-rows : (t : Tree) (rs : List (ℕ × Row)) → IsFront t rs → unplaced rs ≡ take (length rs) (rows t)
first-rows t rs front =
    ap (map (λ (p : ℕ × Row). p.1)) front ∙ sym (take-map (λ (p : ℕ × Row). p.1) (length rs) (enumerate_from 0 (rows t)))
    ∙ ap (take (length rs)) (without-places 0 (rows t))

parent-of-front : (t : Tree) (rs : List (ℕ × Row)) → IsFront t rs → (u v : ℕ) → IsParentRow (unplaced rs) u v → IsParentRow (rows t) u v
parent-of-front t rs front u v q = parent-first (length rs) (rows t) u v (subst (λ xs. IsParentRow xs u v) (first-rows t rs front) q)

pub some-front : (fronts : List CachedDocument) (tree v : ℕ) → v < length (unplaced (front_at fronts tree)) → tree < length fronts
some-front fronts tree v h = has_front fronts tree v (let same = length-map (front_at fronts tree) (λ (p : ℕ × Row). p.1) in omega (arith, h, same))

-- the parent that these rows tell, with an answer or without one
pub by_rows : (t : Tree) (rs : List (ℕ × Row)) → IsFront t rs → (node : ℕ) (answer : Option ℕ) → IfSome answer (λ place. IsParentRow (unplaced rs) place node) → IfSome answer (λ place. IsParentRow (rows t) place node)
by_rows t rs front node None h = h
by_rows t rs front node (Some place) h = parent-of-front t rs front place node h

-- # Parents that are kept

pub none_kept : (rs : List Row) (parents : List ℕ) → parents ≡ [] → AreParents rs parents
none_kept rs [] none = record { told = λ v within known. absurd (omega (arith, within)) }
none_kept rs (u ∷ parents) none = absurd cc

-- after a look at more of the first rows of a tree
pub more_kept : (t : Tree) (rs : List (ℕ × Row)) (old new : List ℕ) → IsFront t rs
    → ((qs : List Row) → ((u v : ℕ) → IsParentRow (unplaced rs) u v → IsParentRow qs u v) → AreParents qs old → AreParents qs new)
    → AreParents (rows t) old → AreParents (rows t) new
more_kept t rs old new front read = read (rows t) (parent-of-front t rs front)
