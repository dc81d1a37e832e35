-- Trees whose rows lie one after another in one list: one that is read, one more, and one less.
use Rattle.std.proofs.Common.{◌≡◌, ◌<◌, ◌≤◌, ◌+◌, ◌-◌, ℕ, zero, suc, List, [], ◌∷◌, ◌++◌, Some, length, get_or, map, take, drop, refl, sym, ap, ◌∙◌, subst, arith}
use Rattle.std.specs.Prelude.{slice_get, slice_range}
use Rattle.std.specs.List.{enumerate_from}
use Rattle.std.specs.List.{enumerate_from}
use Rattle.std.proofs.Math.Seq.{drop-append_seam, take-length}
use Rattle.std.proofs.lemmas.List.{length-append, length-take, take-append-le, take-take}
use Rattle.std.proofs.lemmas.Option.{get_or_from_slice_get}
use Rattle.xq_trees.specs.Tree.{Tree}
use Rattle.xq_trees.specs.Rows.{Row, tree_of, AreRowsOf}
use Rattle.xq_trees.specs.Nesting.{tree_of-rows}
use Rattle.xq_packed.specs.Changes.{moved}
use Rattle.xq_sources.specs.Lent.{placed_between}
use Rattle.xq_sources.specs.Sources.{no_tree, tree_at}
use Rattle.xq_sources.specs.private.Planted.{tree_between, trees_after, start_of, IsPlanted, ArePlanted}
use Rattle.xq_sources.proofs.Between.{part_left}

-- # Where trees lie

pub length-trees : (rs : List Row) (start : ℕ) (ends : List ℕ) → length (trees_after rs start ends) ≡ length ends
length-trees rs start [] = refl
length-trees rs start (end ∷ ends) = ap suc (length-trees rs end ends)

-- each begins where the one before it ends
pub start-after : (start : ℕ) (ends : List ℕ) (n : ℕ) → n < length ends → start_of start ends (suc n) ≡ get_or ends n 0
start-after start [] n less = absurd (omega arith)
start-after start (end ∷ ends) zero less = refl
start-after start (end ∷ ends) (suc n) less = start-after end ends n (omega arith)

pub planted_at : (rs : List Row) (start : ℕ) (ends : List ℕ) (n : ℕ) → ArePlanted rs start ends → n < length ends → IsPlanted rs (start_of start ends n) (get_or ends n 0)
planted_at rs start [] n planted less = absurd (omega arith)
planted_at rs start (end ∷ ends) zero planted less = planted.0
planted_at rs start (end ∷ ends) (suc n) planted less = planted_at rs end ends n planted.1 (omega arith)

pub tree_is : (rs : List Row) (start : ℕ) (ends : List ℕ) (n : ℕ) → n < length ends → slice_get (trees_after rs start ends) n ≡ Some (tree_between rs (start_of start ends n) (get_or ends n 0))
tree_is rs start [] n less = absurd (omega arith)
tree_is rs start (end ∷ ends) zero less = refl
tree_is rs start (end ∷ ends) (suc n) less = tree_is rs end ends n (omega arith)

-- # The same trees in other rows

pub same_part : (xs ys : List Row) (start end : ℕ) → start ≤ end → end ≤ length xs → end ≤ length ys → take end xs ≡ take end ys → slice_range xs start end ≡ slice_range ys start end
same_part xs ys start end rises in_xs in_ys same =
    sym (part_left xs start end start end (omega (arith, in_xs)) (omega (arith, rises)))
    ∙ ap (drop start) same
    ∙ part_left ys start end start end (omega (arith, in_ys)) (omega (arith, rises))

still_planted : (xs ys : List Row) (start end : ℕ) → IsPlanted xs start end → end ≤ length ys → take end xs ≡ take end ys → IsPlanted ys start end × (tree_between ys start end ≡ tree_between xs start end)
still_planted xs ys start end planted in_ys same =
    let part = same_part xs ys start end planted.rises planted.within in_ys same in (
      record { rises = planted.rises; within = in_ys; are = subst (λ (rs : List Row). AreRowsOf rs (tree_of rs)) part planted.are },
      ap tree_of (sym part),
    )

-- # One more

pub rows_after : (rs more : List Row) → slice_range (rs ++ more) (length rs) (length (rs ++ more)) ≡ more
rows_after rs more =
    let many : length (rs ++ more) - length rs ≡ length more = (let all = length-append rs more in omega (arith, all)) in
    ap (λ n. take n (drop (length rs) (rs ++ more))) many
    ∙ ap (take (length more)) (drop-append_seam rs more) ∙ take-length more

pub grown : (rs more : List Row) (t : Tree) (start : ℕ) (ends : List ℕ) → AreRowsOf more t → ArePlanted rs start ends → ArePlanted (rs ++ more) start (ends ++ length (rs ++ more) ∷ []) × (trees_after (rs ++ more) start (ends ++ length (rs ++ more) ∷ []) ≡ trees_after rs start ends ++ t ∷ [])
grown rs more t start [] are planted =
    let all = length-append rs more in
    let part : slice_range (rs ++ more) start (length (rs ++ more)) ≡ more = ap (λ n. slice_range (rs ++ more) n (length (rs ++ more))) planted ∙ rows_after rs more in
    let tree : tree_between (rs ++ more) start (length (rs ++ more)) ≡ t = ap tree_of (part ∙ are.rows) ∙ tree_of-rows t in (
      (
        record {
          rises = omega (arith, planted, all);
          within = omega arith;
          are = subst (AreRowsOf (slice_range (rs ++ more) start (length (rs ++ more)))) (sym tree) (subst (λ (qs : List Row). AreRowsOf qs t) (sym part) are);
        },
        refl,
      ),
      ap (λ u. u ∷ []) tree,
    )
grown rs more t start (end ∷ ends) are planted =
    let first = planted.0 in
    let all = length-append rs more in
    let here = still_planted rs (rs ++ more) start end first (let within = first.within in omega (arith, within, all)) (sym (take-append-le end rs more first.within)) in
    let rest = grown rs more t end ends are planted.1 in
    ((here.0, rest.0), ap (λ u. u ∷ trees_after (rs ++ more) end (ends ++ length (rs ++ more) ∷ [])) here.1 ∙ ap (λ us. tree_between rs start end ∷ us) rest.1)

-- the trees, and one more after them
pub record IsMore (rs : List Row) (ends : List ℕ) (trees : List Tree) (t : Tree) : Type 0 where
  pub planted : ArePlanted rs 0 ends
  pub seen : trees_after rs 0 ends ≡ trees ++ t ∷ []

pub is_more : (rs rs' more : List Row) (ends ends' : List ℕ) (trees : List Tree) (t : Tree) → trees_after rs 0 ends ≡ trees → ArePlanted rs 0 ends → AreRowsOf more t → rs' ≡ rs ++ more → ends' ≡ ends ++ length rs' ∷ [] → IsMore rs' ends' trees t
is_more rs rs' more ends ends' trees t view planted are same end =
    let one = grown rs more t 0 ends are planted in
    let both : IsMore (rs ++ more) (ends ++ length (rs ++ more) ∷ []) trees t = record { planted = one.0; seen = one.1 ∙ ap (λ (ts : List Tree). ts ++ t ∷ []) view } in
    subst (λ (es : List ℕ). IsMore rs' es trees t) (sym end)
    (subst (λ (qs : List Row). IsMore qs (ends ++ length qs ∷ []) trees t) (sym same) both)

-- # One less

-- the rows of the last tree
pub record IsLast (rs : List Row) (start : ℕ) (ends : List ℕ) (last : ℕ) : Type 0 where
  pub there : IsPlanted rs (start_of start ends (length ends)) last
  pub after : start ≤ start_of start ends (length ends)
  pub others : ArePlanted (take (start_of start ends (length ends)) rs) start ends
  pub trees : trees_after rs start (ends ++ last ∷ []) ≡ trees_after (take (start_of start ends (length ends)) rs) start ends ++ tree_between rs (start_of start ends (length ends)) last ∷ []

pub cut : (rs : List Row) (start : ℕ) (ends : List ℕ) (last : ℕ) → ArePlanted rs start (ends ++ last ∷ []) → IsLast rs start ends last
cut rs start [] last planted =
    record {
      there = planted.0;
      after = omega arith;
      others = (let within = planted.0.within in let rises = planted.0.rises in omega (arith, within, rises, length-take start rs));
      trees = refl;
    }
cut rs start (end ∷ ends) last planted =
    let rest = cut rs end ends last planted.1 in
    let first = planted.0 in
    let begin = start_of end ends (length ends) in
    let within = rest.there.within in
    let rises = rest.there.rises in
    let same : take end rs ≡ take end (take begin rs) = sym (take-take end begin rs rest.after) in
    let here = still_planted rs (take begin rs) start end first (omega (arith, within, rises, rest.after, length-take begin rs)) same in
    record {
      there = rest.there;
      after = (let on = first.rises in omega (arith, on, rest.after));
      others = (here.0, rest.others);
      trees = ap (λ us. tree_between rs start end ∷ us) rest.trees
          ∙ ap (λ u. u ∷ trees_after (take begin rs) end ends ++ tree_between rs begin last ∷ []) (sym here.1);
    }

-- the last tree, and those before it
pub record IsCut (rs : List Row) (ends front : List ℕ) (start last : ℕ) : Type 0 where
  pub are : AreRowsOf (slice_range rs start last) (tree_between rs start last)
  pub others : ArePlanted (take start rs) 0 front
  pub trees : trees_after rs 0 ends ≡ trees_after (take start rs) 0 front ++ tree_between rs start last ∷ []

pub is_cut : (rs : List Row) (ends front : List ℕ) (start last : ℕ) → ends ≡ front ++ last ∷ [] → start ≡ start_of 0 front (length front) → ArePlanted rs 0 ends → IsCut rs ends front start last
is_cut rs ends front start last are begins planted =
    let found = cut rs 0 front last (subst (ArePlanted rs 0) are planted) in
    subst (λ (n : ℕ). IsCut rs ends front n last) (sym begins)
    (record { are = found.there.are; others = found.others; trees = ap (trees_after rs 0) are ∙ found.trees })

-- # Rows that are copied

-- on the same level they are the same
pub stays : (rs : List Row) → map (moved 0 0) rs ≡ rs
stays [] = refl
stays (r ∷ rs) =
    let level : r.level - 0 + 0 ≡ r.level = omega arith in
    ap (λ l. record { size = r.size; level = l; label = r.label } ∷ map (moved 0 0) rs) level ∙ ap (λ qs. r ∷ qs) (stays rs)

-- # Rows that are read

enumerate-take : (k n : ℕ) (rs : List Row) → take n (enumerate_from k rs) ≡ enumerate_from k (take n rs)
enumerate-take k zero rs = refl
enumerate-take k (suc n) [] = refl
enumerate-take k (suc n) (r ∷ rs) = ap (λ qs. (k, r) ∷ qs) (enumerate-take (k + 1) n rs)

-- all rows from one place to before another, counted from there
pub read_part : (rs : List Row) (start end : ℕ) → placed_between (drop start rs) 0 (end - start) ≡ enumerate_from 0 (slice_range rs start end)
read_part rs start end =
    let whole : end - start - 0 ≡ end - start = omega arith in
    ap (λ n. take n (enumerate_from 0 (drop start rs))) whole ∙ enumerate-take 0 (end - start) (drop start rs)

-- all of a tree's rows, copied as they are
pub copied : (rs : List Row) (n : ℕ) → n ≡ length rs → map (moved 0 0) (slice_range rs 0 n) ≡ rs
copied rs n many =
    let all : n - 0 ≡ length rs = omega (arith, many) in
    stays (slice_range rs 0 n) ∙ ap (λ k. take k rs) all ∙ take-length rs

-- a tree that is looked up by its number
pub record IsAt (rs : List Row) (ends : List ℕ) (trees : List Tree) (n : ℕ) : Type 0 where
  pub within : n < length trees
  pub there : IsPlanted rs (start_of 0 ends n) (get_or ends n 0)
  pub is : tree_at trees n ≡ tree_between rs (start_of 0 ends n) (get_or ends n 0)

pub as_many : (rs : List Row) (ends : List ℕ) (trees : List Tree) → trees_after rs 0 ends ≡ trees → length trees ≡ length ends
as_many rs ends trees view = sym (ap length view) ∙ length-trees rs 0 ends

pub at : (rs : List Row) (ends : List ℕ) (trees : List Tree) (n : ℕ) → trees_after rs 0 ends ≡ trees → ArePlanted rs 0 ends → n < length ends → IsAt rs ends trees n
at rs ends trees n view planted less =
    record {
      within = omega (arith, less, as_many rs ends trees view);
      there = planted_at rs 0 ends n planted less;
      is = get_or_from_slice_get trees n (tree_between rs (start_of 0 ends n) (get_or ends n 0)) no_tree (ap (λ (ts : List Tree). slice_get ts n) (sym view) ∙ tree_is rs 0 ends n less);
    }
