-- Levels give the sizes back.
use Rattle.std.proofs.Common.{◌≡◌, ℕ, suc, ◌+◌, ◌<◌, List, [], ◌∷◌, ◌++◌, refl, sym, ap, ◌∙◌, arith, true, false, nat_lt, append_assoc}
use Rattle.std.proofs.lemmas.Bool.Decides.{nat_tests}
use Rattle.std.proofs.lemmas.List.{append-nil}
use Rattle.std.specs.List.{prefix_len}
use Rattle.xq_trees.specs.Forest.{Forest, end, node, count, labels}
use Rattle.xq_trees.specs.Tree.{Label, Tree, nodes}
use Rattle.xq_trees.specs.Rows.{measured, rows}
use Rattle.xq_trees.specs.Levels.{sized}
use Rattle.xq_trees.proofs.Printed.{Leaf, leveled, Above, above_next}

-- all that stand deeper than the level, and then one that does not
deeper : (low level : ℕ) (f : Forest Label) (ps : List Leaf) → low < level → prefix_len (λ (q : Leaf). nat_lt low q.0) (leveled level f ++ ps) ≡ count f + prefix_len (λ (q : Leaf). nat_lt low q.0) ps
deeper low level end ps lt = omega arith
deeper low level (node a below beside) ps lt =
    let t : nat_lt low level ≡ true = grind (arith, nat_tests) in
    let b = deeper low (suc level) below (leveled level beside ++ ps) (omega arith) in
    let r = deeper low level beside ps lt in
    let e = ap (prefix_len (λ (q : Leaf). nat_lt low q.0)) (append_assoc (leveled (suc level) below) (leveled level beside) ps) in
    rw t (omega (arith, e, b, r))

stops : (level : ℕ) (f : Forest Label) (ps : List Leaf) → Above level ps → prefix_len (λ (q : Leaf). nat_lt level q.0) (leveled level f ++ ps) ≡ 0
stops level end [] h = refl
stops level end (p ∷ ps) h = let t : nat_lt level p.0 ≡ false = grind (arith, nat_tests) in rw t refl
stops level (node a below beside) ps h = let t : nat_lt level level ≡ false = grind (arith, nat_tests) in rw t refl

sized_leveled : (level : ℕ) (f : Forest Label) (ps : List Leaf) → Above level ps → sized (leveled level f ++ ps) ≡ labels (measured level f) ++ sized ps
sized_leveled level end ps h = refl
sized_leveled level (node a below beside) ps h =
    let e = append_assoc (leveled (suc level) below) (leveled level beside) ps in
    let n : prefix_len (λ (q : Leaf). nat_lt level q.0) (leveled (suc level) below ++ (leveled level beside ++ ps)) ≡ count below =
    omega (arith, deeper level (suc level) below (leveled level beside ++ ps) (omega arith), stops level beside ps h) in
    let b = sized_leveled (suc level) below (leveled level beside ++ ps) (above_next level beside ps h) in
    let r = sized_leveled level beside ps h in
    rw e (rw (n, b, r) (ap (λ l. record { size = count below; level = level; label = a } ∷ l) (sym (append_assoc (labels (measured (suc level) below)) (labels (measured level beside)) (sized ps)))))

pub sized-tree : (t : Tree) → sized (leveled 0 (nodes t)) ≡ rows t
sized-tree t = ap sized (sym (append-nil (leveled 0 (nodes t)))) ∙ sized_leveled 0 (nodes t) [] tt ∙ append-nil (rows t)
