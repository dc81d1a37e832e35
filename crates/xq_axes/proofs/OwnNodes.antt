-- The nodes themselves.
use Rattle.std.proofs.Common.{◌≡◌, ℕ, ◌+◌, ◌<◌, ◌≤◌, List, [], ◌∷◌, ◌++◌, length, get_or, ◌&&◌, cond, refl, sym, ◌∙◌, ap, arith}
use Rattle.std.proofs.lemmas.Bool.{and_left}
use Rattle.xq_sources.specs.declared.lent.LentRow.{LentRow}
use Rattle.xq_trees.specs.declared.Axis.TheVariants as axis
use Rattle.xq_trees.specs.Forest.{count}
use Rattle.xq_trees.specs.Tree.{Tree, nodes}
use Rattle.xq_trees.specs.Rows.{rows, row_at}
use Rattle.xq_meaning.specs.declared.node_tests.Test.{Test}
use Rattle.xq_sources.specs.Lent.{row_lent}
use Rattle.xq_axes.specs.private.Hits.{is_hit, is_wanted, row_passes, below_where, IsRising, IsReached}
use Rattle.xq_axes.proofs.Lists.{among_at, reached_none, reached_met, reached_over, reached_among, below_where-none}
use Rattle.xq_axes.proofs.Picking.{picked}

-- of the first places those that pass were found
pub record IsSoFar (test : Test) (t : Tree) (vs : List ℕ) (index : ℕ) (found : List ℕ) : Type 0 where
  pub bound : ℕ
  pub within : bound ≤ count (nodes t)
  pub reached : IsReached vs index bound
  pub is_found : found ≡ below_where (is_wanted axis.SelfNode test t vs) bound

pub none_yet : (test : Test) (t : Tree) (vs : List ℕ) → IsSoFar test t vs 0 []
none_yet test t vs = record { bound = 0; within = omega arith; reached = reached_none vs; is_found = refl }

-- none of the places from n to before the next one is there
gap : (test : Test) (t : Tree) (vs : List ℕ) (index n m : ℕ) → IsRising vs → IsReached vs index n → n ≤ m → (index < length vs → m ≤ get_or vs index 0) → below_where (is_wanted axis.SelfNode test t vs) m ≡ below_where (is_wanted axis.SelfNode test t vs) n
gap test t vs index n m up r h g = below_where-none (is_wanted axis.SelfNode test t vs) n m h (λ p a b.
    and_left (is_hit axis.SelfNode t vs p) (row_passes test (row_at (rows t) p))
    (reached_among vs index p up (reached_over vs index n p r a (λ l. (let x = g l in omega (arith, x, b))) up) (λ l e. (let x = g l in omega (arith, x, b, e)))))

pub one_more : (test : Test) (t : Tree) (vs : List ℕ) (index v : ℕ) (x : LentRow) (found new : List ℕ) → IsRising vs → index < length vs → get_or vs index 0 ≡ v → v < count (nodes t) → row_lent x ≡ row_at (rows t) v → IsSoFar test t vs index found → new ≡ found ++ cond (row_passes test (row_lent x)) (v ∷ []) [] → IsSoFar test t vs (index + 1) new
one_more test t vs index v x found new up h e hv r s n =
    let a : s.bound ≤ v = (let o = s.reached.others index (omega arith) h in omega (arith, o, e)) in
    let over : IsReached vs index v = reached_over vs index s.bound v s.reached a (λ l. omega (arith, e)) up in
    let w : row_passes test (row_lent x) ≡ is_wanted axis.SelfNode test t vs v =
    ap (row_passes test) r ∙ sym (ap (λ b. b && row_passes test (row_at (rows t) v)) (among_at vs index v h e)) in
    record {
      bound = v + 1;
      within = omega arith;
      reached = reached_met vs index v up over h e;
      is_found = n ∙ picked (is_wanted axis.SelfNode test t vs) v found (row_passes test (row_lent x)) (s.is_found ∙ sym (gap test t vs index s.bound v up s.reached a (λ l. omega (arith, e)))) w;
    }

pub all_so_far : (test : Test) (t : Tree) (vs : List ℕ) (index : ℕ) (found : List ℕ) → IsRising vs → length vs ≤ index → IsSoFar test t vs index found → found ≡ below_where (is_wanted axis.SelfNode test t vs) (count (nodes t))
all_so_far test t vs index found up h s = s.is_found ∙ sym (gap test t vs index s.bound (count (nodes t)) up s.reached s.within (λ l. absurd (omega (arith, l, h))))
