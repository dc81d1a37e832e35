-- Trees that meet below a root make a tree, whose rows are theirs below the root's.
use Rattle.std.proofs.Common.{◌≡◌, ℕ, zero, suc, ◌+◌, ◌<◌, List, [], ◌∷◌, ◌++◌, length, map, filter, cond, Bool, true, false, refl, sym, ap, ◌∙◌, subst, arith, append_assoc}
use Rattle.std.specs.Prelude.{All, IsTrue}
use Rattle.std.specs.List.{AllByRecursion, IsDistinct}
use Rattle.std.specs.Str.{bytes_eq}
use Rattle.std.proofs.lemmas.Bool.{true≢false}
use Rattle.std.proofs.lemmas.List.{append-nil, map-append}
use Rattle.std.proofs.lemmas.List.Elements.{All-nil, All-cons, All-head, All-tail, All-weaker}
use Rattle.xq_trees.specs.Forest.{Forest, end, node, count, labels, tops, EachNode, IsWithinHeight}
use Rattle.xq_trees.specs.Tree.{Label, Tree, IsText, IsTree, nodes, may_stand, may_follow, may_precede, has_text, is_attribute, is_content, is_legal, attribute_names, most_levels}
use Rattle.xq_trees.specs.Rows.{Row, measured, rows, tree_of, AreRowsOf}
use Rattle.xq_trees.specs.Nesting.{count-measured, tree_of-rows}
use Rattle.xq_trees.specs.Beside.{beside, rooted, root_of, lowered, lowered_rows, root_row, IsLow, MayMeet}
use Rattle.xq_trees.specs.declared.Kind.{Kind}
use Rattle.xq_trees.specs.declared.Kind.TheVariants.{Document, Element, Attribute, Text, Comment, ProcessingInstruction}
use Rattle.xq_trees.proofs.Checking.{both, both_true}
use Rattle.xq_trees.proofs.Regions.{length-labels}

-- # The tree

pub tops-beside : (ts : List Tree) → tops (beside ts) ≡ map root_of ts
tops-beside [] = refl
tops-beside (t ∷ ts) = ap (λ ls. t.root ∷ ls) (tops-beside ts)

-- what holds at each node of each tree holds at each node of all
each-beside : (P : Label → List Label → Type 0) → ((t : Tree) → IsTree t → EachNode P (nodes t)) → (ts : List Tree) → AllByRecursion IsLow ts → EachNode P (beside ts)
each-beside P of [] h = tt
each-beside P of (t ∷ ts) h = let e = of t h.0.is_tree in (e.0, (e.1.0, each-beside P of ts h.1))

all_parts : {A : Type 0} (P : A → Type 0) (xs ys : List A) → All P (xs ++ ys) → All P xs × All P ys
all_parts P [] ys h = (All-nil P, h)
all_parts P (x ∷ xs) ys h =
    let rest = all_parts P xs ys (All-tail P x (xs ++ ys) h) in
    (All-cons P x xs (All-head P x (xs ++ ys) h) rest.0, rest.1)

-- a forest is as high as its rows are deep
pub height-levels : (l n m : ℕ) (f : Forest Label) → l + n ≡ m → All (λ (r : Row). r.level < m) (labels (measured l f)) → IsWithinHeight n f
height-levels l n m end e h = tt
height-levels l zero m (node a below beside) e h =
    let top : l < m = All-head (λ (r : Row). r.level < m) (record { size = count below; level = l; label = a }) (labels (measured (suc l) below) ++ labels (measured l beside)) h in
    absurd (omega (arith, e, top))
height-levels l (suc n) m (node a below beside) e h =
    let rest = all_parts (λ (r : Row). r.level < m) (labels (measured (suc l) below)) (labels (measured l beside)) (All-tail (λ (r : Row). r.level < m) (record { size = count below; level = l; label = a }) (labels (measured (suc l) below) ++ labels (measured l beside)) h) in
    (height-levels (suc l) n m below (omega (arith, e)) rest.0, height-levels l (suc n) m beside e rest.1)

-- a tree that may stand below a root is one level less high
low-height : (t : Tree) → IsLow t → IsWithinHeight 100 (nodes t)
low-height t h =
    height-levels 0 100 100 (nodes t) refl (All-weaker (λ (r : Row). r.level + 1 < most_levels) (λ (r : Row). r.level < 100) (λ r l. below_last r.level l) (rows t) h.levels)
  where
    below_last : (l : ℕ) → l + 1 < most_levels → l < 100
    below_last l h = omega arith

height-beside : (ts : List Tree) → AllByRecursion IsLow ts → IsWithinHeight 100 (beside ts)
height-beside [] h = tt
height-beside (t ∷ ts) h = ((low-height t h.0).0, height-beside ts h.1)

-- trees that may meet below a root make a tree
pub tree-rooted : (root : Label) (ts : List Tree) → MayMeet root ts → IsTree (rooted root ts)
tree-rooted root ts h = record {
  texts = (h.text, (each-beside (λ a below. IsText a) (λ t is. is.texts) ts h.trees, tt));
  legal = (h.legal, (each-beside (λ a below. IsTrue (is_legal a.kind a.name a.value)) (λ t is. is.legal) ts h.trees, tt));
  content = (
    subst (λ ls. IsTrue (is_content root ls)) (sym (tops-beside ts)) h.content,
    (each-beside (λ a below. IsTrue (is_content a below)) (λ t is. is.content) ts h.trees, tt),
  );
  names = (
    subst (λ ls. IsDistinct bytes_eq (attribute_names ls)) (sym (tops-beside ts)) h.names,
    (each-beside (λ a below. IsDistinct bytes_eq (attribute_names below)) (λ t is. is.names) ts h.trees, tt),
  );
  height = (height-beside ts h.trees, tt);
  room = omega (arith, h.room);
}

-- # Its rows

pub lowered-measured : (l : ℕ) (f : Forest Label) → labels (measured (suc l) f) ≡ map lowered (labels (measured l f))
lowered-measured l end = refl
lowered-measured l (node a below beside) =
    let next : suc l ≡ l + 1 = omega arith in
    let rest : labels (measured (suc (suc l)) below) ++ labels (measured (suc l) beside) ≡ map lowered (labels (measured (suc l) below) ++ labels (measured l beside)) =
    ap (λ rs. rs ++ labels (measured (suc l) beside)) (lowered-measured (suc l) below)
    ∙ ap (λ rs. map lowered (labels (measured (suc l) below)) ++ rs) (lowered-measured l beside)
    ∙ sym (map-append lowered (labels (measured (suc l) below)) (labels (measured l beside))) in
    ap (λ n. record { size = count below; level = n; label = a } ∷ labels (measured (suc (suc l)) below) ++ labels (measured (suc l) beside)) next
    ∙ ap (λ rs. record { size = count below; level = l + 1; label = a } ∷ rs) rest

-- trees side by side have the rows of each
pub rows-beside : (ts : List Tree) → labels (measured 1 (beside ts)) ≡ lowered_rows ts
rows-beside [] = refl
rows-beside (t ∷ ts) =
    let top : Row = record { size = count t.below; level = 1; label = t.root } in
    let rest = labels (measured 1 (beside ts)) in
    ap (λ rs. top ∷ (rs ++ rest)) (sym (append-nil (labels (measured 2 t.below))))
    ∙ ap (λ rs. rs ++ rest) (lowered-measured 0 (nodes t))
    ∙ ap (λ rs. map lowered (rows t) ++ rs) (rows-beside ts)

pub rows-rooted : (root : Label) (ts : List Tree) → rows (rooted root ts) ≡ root_row root ts ∷ lowered_rows ts
rows-rooted root ts =
    ap (λ rs. root_row root ts ∷ rs) (append-nil (labels (measured 1 (beside ts))) ∙ rows-beside ts)

-- as many as nodes
pub length-lowered_rows : (ts : List Tree) → length (lowered_rows ts) ≡ count (beside ts)
length-lowered_rows ts =
    ap length (sym (rows-beside ts)) ∙ length-labels (measured 1 (beside ts)) ∙ count-measured 1 (beside ts)

-- rows that are those of the trees below a root are those of one tree
pub are-rows-rooted : (root : Label) (ts : List Tree) (rs : List Row) → MayMeet root ts → rs ≡ root_row root ts ∷ lowered_rows ts → AreRowsOf rs (rooted root ts)
are-rows-rooted root ts rs h e = record { is_tree = tree-rooted root ts h; rows = e ∙ sym (rows-rooted root ts) }

-- which is the one that they give
pub tree_of-rooted : (root : Label) (ts : List Tree) (rs : List Row) → rs ≡ root_row root ts ∷ lowered_rows ts → tree_of rs ≡ rooted root ts
tree_of-rooted root ts rs e = ap tree_of (e ∙ sym (rows-rooted root ts)) ∙ tree_of-rows (rooted root ts)

-- # One tree more

pub lowered_rows-push : (ts : List Tree) (t : Tree) → lowered_rows (ts ++ t ∷ []) ≡ lowered_rows ts ++ map lowered (rows t)
lowered_rows-push [] t = append-nil (map lowered (rows t))
lowered_rows-push (u ∷ ts) t =
    ap (λ rs. map lowered (rows u) ++ rs) (lowered_rows-push ts t)
    ∙ sym (append_assoc (map lowered (rows u)) (lowered_rows ts) (map lowered (rows t)))

pub low-push : (ts : List Tree) (t : Tree) → AllByRecursion IsLow ts → IsLow t → AllByRecursion IsLow (ts ++ t ∷ [])
low-push [] t h l = (l, tt)
low-push (u ∷ ts) t h l = (h.0, low-push ts t h.1 l)

-- no row is on another level by another way to say one level further down
pub lowered_by : (f : Row → Row) → ((r : Row) → f r ≡ lowered r) → (rs : List Row) → map f rs ≡ map lowered rs
lowered_by f same [] = refl
lowered_by f same (r ∷ rs) = ap (λ q. q ∷ map f rs) (same r) ∙ ap (λ l. lowered r ∷ l) (lowered_by f same rs)

-- a node of the kind may stand right after these, where there are any
abbrev pub may_end : List Label → Kind → Bool
may_end [] kind = true
may_end (a ∷ []) kind = may_follow a.kind kind
may_end (a ∷ b ∷ ls) kind = may_end (b ∷ ls) kind

-- one more at the end of what stands below a node
pub content-push : (parent : Label) (ls : List Label) (a : Label) → IsTrue (is_content parent ls) → IsTrue (may_stand parent.kind a.kind) → IsTrue (has_text a.kind a.value) → IsTrue (may_end ls a.kind) → IsTrue (is_content parent (ls ++ a ∷ []))
content-push parent [] a h stands has ends = both_true _ _ stands (both_true _ _ has refl)
content-push parent (b ∷ []) a h stands has ends =
    let s = both (may_stand parent.kind b.kind) _ h in
    let v = both (has_text b.kind b.value) _ s.1 in
    both_true _ _ s.0 (both_true _ _ v.0 (both_true _ _ ends (content-push parent [] a refl stands has refl)))
content-push parent (b ∷ d ∷ ls) a h stands has ends =
    let s = both (may_stand parent.kind b.kind) _ h in
    let v = both (has_text b.kind b.value) _ s.1 in
    let w = both (may_precede b.kind (d ∷ ls)) _ v.1 in
    both_true _ _ s.0 (both_true _ _ v.0 (both_true _ _ w.0 (content-push parent (d ∷ ls) a w.1 stands has ends)))

-- and then what may stand after it is what may follow it
pub may_end-push : (ls : List Label) (a : Label) (kind : Kind) → may_end (ls ++ a ∷ []) kind ≡ may_follow a.kind kind
may_end-push [] a kind = refl
may_end-push (b ∷ []) a kind = refl
may_end-push (b ∷ d ∷ ls) a kind = may_end-push (d ∷ ls) a kind

-- # Attributes among them

pub names-attribute : (ls : List Label) (a : Label) → is_attribute a.kind ≡ true → attribute_names (ls ++ a ∷ []) ≡ attribute_names ls ++ a.name ∷ []
names-attribute [] a e = rw e refl
names-attribute (b ∷ ls) a e = by_test (is_attribute b.kind) (names-attribute ls a e)
  where
    by_test : (is : Bool) → attribute_names (ls ++ a ∷ []) ≡ attribute_names ls ++ a.name ∷ [] → map (λ (x : Label). x.name) (cond is (b ∷ filter (λ (x : Label). is_attribute x.kind) (ls ++ a ∷ [])) (filter (λ (x : Label). is_attribute x.kind) (ls ++ a ∷ []))) ≡ map (λ (x : Label). x.name) (cond is (b ∷ filter (λ (x : Label). is_attribute x.kind) ls) (filter (λ (x : Label). is_attribute x.kind) ls)) ++ a.name ∷ []
    by_test true so_far = ap (λ ns. b.name ∷ ns) so_far
    by_test false so_far = so_far

pub names-other : (ls : List Label) (a : Label) → is_attribute a.kind ≡ false → attribute_names (ls ++ a ∷ []) ≡ attribute_names ls
names-other [] a e = rw e refl
names-other (b ∷ ls) a e = by_test (is_attribute b.kind) (names-other ls a e)
  where
    by_test : (is : Bool) → attribute_names (ls ++ a ∷ []) ≡ attribute_names ls → map (λ (x : Label). x.name) (cond is (b ∷ filter (λ (x : Label). is_attribute x.kind) (ls ++ a ∷ [])) (filter (λ (x : Label). is_attribute x.kind) (ls ++ a ∷ []))) ≡ map (λ (x : Label). x.name) (cond is (b ∷ filter (λ (x : Label). is_attribute x.kind) ls) (filter (λ (x : Label). is_attribute x.kind) ls))
    by_test true so_far = ap (λ ns. b.name ∷ ns) so_far
    by_test false so_far = so_far

-- an attribute has one row
pub rows-attribute : (t : Tree) → IsTree t → is_attribute t.root.kind ≡ true → rows t ≡ record { size = 0; level = 0; label = t.root } ∷ []
rows-attribute t is e = ap (λ below. labels (measured 0 (node t.root below end))) (alone t.root t.below e is.content.0)
  where
    stands_nothing : (kind child : Kind) → is_attribute kind ≡ true → may_stand kind child ≡ false
    stands_nothing Attribute child e = refl
    stands_nothing Document child e = absurd (true≢false (sym e))
    stands_nothing Element child e = absurd (true≢false (sym e))
    stands_nothing Text child e = absurd (true≢false (sym e))
    stands_nothing Comment child e = absurd (true≢false (sym e))
    stands_nothing ProcessingInstruction child e = absurd (true≢false (sym e))

    alone : (root : Label) (below : Forest Label) → is_attribute root.kind ≡ true → IsTrue (is_content root (tops below)) → below ≡ end
    alone root end e h = refl
    alone root (node a below beside) e h =
        absurd (true≢false (sym (both (may_stand root.kind a.kind) _ h).0 ∙ stands_nothing root.kind a.kind e))

-- # No tree

none_apart : IsDistinct bytes_eq []
unfolding IsDistinct
none_apart = tt

pub meet-none : (root : Label) → IsText root → IsTrue (is_legal root.kind root.name root.value) → MayMeet root []
meet-none root text legal =
    record { text = text; legal = legal; content = refl; names = none_apart; trees = tt; room = omega arith }
