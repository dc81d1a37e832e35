-- Trees that are copied below a root, one after another.
use Rattle.std.proofs.Common.{suc, Bool, true, ◌||◌, ◌≡◌, ◌<◌, ◌+◌, ◌-◌, ℕ, List, [], ◌∷◌, ◌++◌, Some, false, length, get_or, map, drop, refl, sym, ap, ◌∙◌, subst, arith, append_assoc}
use Rattle.std.specs.Prelude.{IsTrue, slice_get, slice_range}
use Rattle.std.specs.List.{AllByRecursion, IsDistinct, list_any}
use Rattle.std.specs.Str.{bytes_eq}
use Rattle.std.proofs.lemmas.List.{append-nil, map-append, get_or-append_right, get_or-take, get_or-drop, length-append, length-take, take-append-le}
use Rattle.std.proofs.lemmas.Option.{get_or_from_slice_get}
use Rattle.std.proofs.Math.Seq.{drop-append_seam}
use Rattle.std.proofs.lemmas.Bool.{true≢false}
use Rattle.std.proofs.lemmas.Slice.Eq.{bytes_eq-Decides}
use Rattle.xq_trees.specs.Beside.{beside, root_of, root_row, rooted, lowered, lowered_rows, MayMeet}
use Rattle.xq_trees.specs.Forest.{Forest, count, join}
use Rattle.xq_trees.specs.Rows.{Row, no_row, row_at, row_name, rows}
use Rattle.xq_trees.specs.Tree.{Label, Tree, IsText, IsTree, nodes, is_attribute, is_content, is_legal, attribute_names, may_follow, most_nodes}
use Rattle.xq_trees.specs.Items.{ItemView, Place, Value}
use Rattle.xq_trees.specs.declared.Kind.{Kind}
use Rattle.xq_trees.specs.declared.Kind.TheVariants.{Document, Element, Attribute, Text, Comment, ProcessingInstruction}
use Rattle.xq_trees.proofs.Beside.{lowered_rows-push, length-lowered_rows, are-rows-rooted, low-push, names-attribute, rows-attribute, content-push, may_end, may_end-push, names-other}
use Rattle.xq_packed.specs.Packed.{NoneNamed}
use Rattle.xq_packed.proofs.Numbering.{distinct-more}
use Rattle.xq_packed.specs.Changes.{moved, resized, with_size, AreMovable}
use Rattle.xq_packed.proofs.Lowered.{rows-lowered, low-movable}
use Rattle.xq_sources.specs.Grafts.{lone, side_by_side, IsRoot, Grafts}
use Rattle.xq_sources.specs.Sources.{no_tree, tree_at}
use Rattle.xq_sources.specs.private.Meeting.{picked, all_picked, IsPicked, IsGrafted, HaveMet, AreMet, AreRooted, IsNext, MayCome}
use Rattle.xq_sources.specs.private.Planted.{start_of, trees_after, ArePlanted}
use Rattle.xq_sources.proofs.Planting.{IsMore, is_more, at, same_part}

-- # One tree

-- the rows of a planted tree, read where more rows come after all
planted_rows : (front more : List Row) (ends : List ℕ) (tree : ℕ) → ArePlanted front 0 ends → tree < length ends → slice_range (front ++ more) (start_of 0 ends tree) (get_or ends tree 0) ≡ rows (tree_at (trees_after front 0 ends) tree)
planted_rows front more ends tree planted less =
    let is = at front ends (trees_after front 0 ends) tree refl planted less in
    let within = is.there.within in
    same_part (front ++ more) front (start_of 0 ends tree) (get_or ends tree 0) is.there.rises (omega (arith, within, length-append front more)) within (take-append-le (get_or ends tree 0) front more within)
    ∙ is.there.are.rows ∙ ap rows (sym is.is)

-- the first of the rows of a tree is that of its root
first_row : (rs : List Row) (start end : ℕ) (t : Tree) (root : Row) → slice_range rs start end ≡ rows t → slice_get rs start ≡ Some root → root.label ≡ t.root
first_row rs start end t root part found =
    let some : 0 < end - start = (let many = ap length part in omega (arith, many, length-take (end - start) (drop start rs))) in
    let here : start + 0 ≡ start = omega arith in
    ap (λ (r : Row). r.label)
    (sym (get_or_from_slice_get rs start root no_row found)
    ∙ ap (λ n. row_at rs n) (sym here)
    ∙ sym (get_or-drop start rs 0 no_row)
    ∙ sym (get_or-take (end - start) (drop start rs) 0 no_row some)
    ∙ ap (λ (qs : List Row). row_at qs 0) part)

pub is_next : (front more : List Row) (ends : List ℕ) (tree under : ℕ) (parent last kind : Kind) (root : Row) (old new : List Row) (start end : ℕ) → old ≡ front ++ more → ArePlanted front 0 ends → tree < length ends → start ≡ start_of 0 ends tree → end ≡ get_or ends tree 0 → slice_get old start ≡ Some root → kind ≡ root.label.kind → MayCome parent last (drop under old) root.label → AreMovable 0 1 (slice_range old start end) → new ≡ old ++ map (moved 0 1) (slice_range old start end) → IsNext front ends tree under parent last kind old new
is_next front more ends tree under parent last kind root old new start end same planted less from to found of_kind may fit added =
    let t = tree_at (trees_after front 0 ends) tree in
    let is = at front ends (trees_after front 0 ends) tree refl planted less in
    let part : slice_range old start end ≡ rows t = ap (λ (qs : List Row). slice_range qs start end) same
    ∙ ap (λ n. slice_range (front ++ more) n end) from
    ∙ ap (λ n. slice_range (front ++ more) (start_of 0 ends tree) n) to
    ∙ planted_rows front more ends tree planted less in
    let label : root.label ≡ t.root = first_row old start end t root part found in
    record {
      there = is.within;
      of_root = of_kind ∙ ap (λ (a : Label). a.kind) label;
      may_come = subst (MayCome parent last (drop under old)) label may;
      low = low-movable t (slice_range old start end) (subst IsTree (sym is.is) is.there.are.is_tree) part fit;
      copied = added ∙ ap (λ (qs : List Row). old ++ qs) (rows-lowered (slice_range old start end) ∙ ap (map lowered) part);
    }

-- # NameIndex of attributes

none_apart : IsDistinct bytes_eq []
unfolding IsDistinct
none_apart = tt

none_listed : (rs : List Row) (name : List ℕ) → NoneNamed rs name → list_any (bytes_eq name) (map row_name rs) ≡ false
none_listed [] name none = refl
none_listed (r ∷ rs) name none = by (bytes_eq name r.label.name) refl (none_listed rs name (λ n less. none (suc n) (omega arith)))
  where
    by : (b : Bool) → bytes_eq name r.label.name ≡ b → list_any (bytes_eq name) (map row_name rs) ≡ false → (b || list_any (bytes_eq name) (map row_name rs)) ≡ false
    by false e rest = rest
    by true e rest = absurd (none 0 (omega arith) (sym ((bytes_eq-Decides name r.label.name).0 e)))

-- a name that rows before do not have, where these are those of attributes alone
names-push : (ls : List Label) (a : Label) (others : List Row) → IsDistinct bytes_eq (attribute_names ls) → (is_attribute a.kind ≡ true → attribute_names ls ≡ map row_name others) → (is_attribute a.kind ≡ true → NoneNamed others a.name) → (b : Bool) → is_attribute a.kind ≡ b → IsDistinct bytes_eq (attribute_names (ls ++ a ∷ []))
names-push ls a others so_far same none false e = subst (IsDistinct bytes_eq) (sym (names-other ls a e)) so_far
names-push ls a others so_far same none true e =
    subst (IsDistinct bytes_eq) (sym (names-attribute ls a e))
    (distinct-more (attribute_names ls) a.name so_far (ap (list_any (bytes_eq a.name)) (same e) ∙ none_listed others a.name (none e)))

-- an attribute comes after attributes alone
after_attribute : (last kind : Kind) → IsTrue (may_follow last kind) → is_attribute kind ≡ true → is_attribute last ≡ true
after_attribute Attribute kind follows is = refl
after_attribute Document Attribute follows is = absurd (true≢false (sym follows))
after_attribute Element Attribute follows is = absurd (true≢false (sym follows))
after_attribute Text Attribute follows is = absurd (true≢false (sym follows))
after_attribute Comment Attribute follows is = absurd (true≢false (sym follows))
after_attribute ProcessingInstruction Attribute follows is = absurd (true≢false (sym follows))
after_attribute last Document follows is = absurd (true≢false (sym is))
after_attribute last Element follows is = absurd (true≢false (sym is))
after_attribute last Text follows is = absurd (true≢false (sym is))
after_attribute last Comment follows is = absurd (true≢false (sym is))
after_attribute last ProcessingInstruction follows is = absurd (true≢false (sym is))

-- then their rows have their names
row_names-push : (ts : List Tree) (t : Tree) → IsTree t → is_attribute t.root.kind ≡ true → attribute_names (map root_of ts) ≡ map row_name (lowered_rows ts) → attribute_names (map root_of (ts ++ t ∷ [])) ≡ map row_name (lowered_rows (ts ++ t ∷ []))
row_names-push ts t is of_attribute so_far =
    let one : Row = record { size = 0; level = 1; label = t.root } in
    ap attribute_names (map-append root_of ts (t ∷ []))
    ∙ names-attribute (map root_of ts) t.root of_attribute
    ∙ ap (λ ns. ns ++ t.root.name ∷ []) so_far
    ∙ sym (ap (map row_name) (lowered_rows-push ts t ∙ ap (λ qs. lowered_rows ts ++ map lowered qs) (rows-attribute t is of_attribute)) ∙ map-append row_name (lowered_rows ts) (one ∷ []))

-- # One tree after another

-- the trees have met so far, and what may come after the last kind may end them; while that is an
-- attribute, their rows have the names of all
pub record MeetSoFar (first : ℕ) (root : Label) (items : List ItemView) (trees : List Tree) (old new : List Row) (last : Kind) : Type 0 where
  pub met : AreMet first root items trees old new
  pub ends : (kind : Kind) → IsTrue (may_follow last kind) → IsTrue (may_end (map root_of (all_picked first trees items)) kind)
  pub named : is_attribute last ≡ true → attribute_names (map root_of (all_picked first trees items)) ≡ map row_name (lowered_rows (all_picked first trees items))

pub none_met : (first : ℕ) (root : Label) (trees : List Tree) (old : List Row) → MeetSoFar first root [] trees old old Attribute
none_met first root trees old = record {
  met = record {
    picks = tt;
    met = record { content = refl; names = none_apart; low = tt };
    copied = sym (append-nil old);
  };
  ends = λ kind may. refl;
  named = λ is. refl;
}

picks-push : (first : ℕ) (trees : List Tree) (items : List ItemView) (item : ItemView) → AllByRecursion (IsPicked first trees) items → IsPicked first trees item → AllByRecursion (IsPicked first trees) (items ++ item ∷ [])
picks-push first trees [] item h is = (is, tt)
picks-push first trees (i ∷ items) item h is = (h.0, picks-push first trees items item h.1 is)

pub one_met : (first : ℕ) (root : Label) (items : List ItemView) (item : ItemView) (front : List Row) (ends : List ℕ) (old rs new : List Row) (last kind : Kind) (tree under : ℕ) → under ≡ length old → MeetSoFar first root items (trees_after front 0 ends) old rs last → IsPicked first (trees_after front 0 ends) item → picked first (trees_after front 0 ends) item ≡ tree_at (trees_after front 0 ends) tree → IsNext front ends tree under root.kind last kind rs new → MeetSoFar first root (items ++ item ∷ []) (trees_after front 0 ends) old new kind
one_met first root items item front ends old rs new last kind tree under from so_far picks is next =
    let trees = trees_after front 0 ends in
    let ts = all_picked first trees items in
    let t = tree_at trees tree in
    let may = next.may_come in
    let met = so_far.met.met in
    let all : all_picked first trees (items ++ item ∷ []) ≡ ts ++ t ∷ [] = map-append (picked first trees) items (item ∷ []) ∙ ap (λ u. ts ++ u ∷ []) is in
    let roots : map root_of (ts ++ t ∷ []) ≡ map root_of ts ++ t.root ∷ [] = map-append root_of ts (t ∷ []) in
    let copied : new ≡ old ++ lowered_rows (ts ++ t ∷ []) = next.copied
    ∙ ap (λ (qs : List Row). qs ++ map lowered (rows t)) so_far.met.copied
    ∙ append_assoc old (lowered_rows ts) (map lowered (rows t))
    ∙ ap (λ (qs : List Row). old ++ qs) (sym (lowered_rows-push ts t)) in
    let others : drop under rs ≡ lowered_rows ts = ap (λ n. drop n rs) from ∙ ap (drop (length old)) so_far.met.copied ∙ drop-append_seam old (lowered_rows ts) in
    let named = λ (of_attribute : is_attribute t.root.kind ≡ true). so_far.named (after_attribute last t.root.kind may.follows of_attribute) in
    let together : HaveMet root (ts ++ t ∷ []) = record {
      content = subst (λ (ls : List Label). IsTrue (is_content root ls)) (sym roots) (content-push root (map root_of ts) t.root met.content may.stands may.some (so_far.ends t.root.kind may.follows));
      names = subst (λ (ls : List Label). IsDistinct bytes_eq (attribute_names ls)) (sym roots) (names-push (map root_of ts) t.root (lowered_rows ts) met.names named (subst (λ (qs : List Row). is_attribute t.root.kind ≡ true → NoneNamed qs t.root.name) others may.apart) (is_attribute t.root.kind) refl);
      low = low-push ts t met.low next.low;
    } in
    record {
      met = record {
        picks = picks-push first trees items item so_far.met.picks picks;
        met = subst (HaveMet root) (sym all) together;
        copied = copied ∙ ap (λ (us : List Tree). old ++ lowered_rows us) (sym all);
      };
      ends = λ k follows. subst (λ (us : List Tree). IsTrue (may_end (map root_of us) k)) (sym all)
          (subst (λ (ls : List Label). IsTrue (may_end ls k)) (sym roots)
          (subst IsTrue (sym (may_end-push (map root_of ts) t.root k))
          (subst (λ (j : Kind). IsTrue (may_follow j k)) next.of_root follows)));
      named = λ of_attribute.
          (let of_root : is_attribute t.root.kind ≡ true = sym (ap is_attribute next.of_root) ∙ of_attribute in
          let low = next.low in
          subst (λ (us : List Tree). attribute_names (map root_of us) ≡ map row_name (lowered_rows us)) (sym all)
          (row_names-push ts t low.is_tree of_root (named of_root)));
    }

-- # The root

-- a row that gets another size after others
pub with_size-after : (front more : List Row) (r : Row) (size : ℕ) → with_size (length front) size (front ++ r ∷ more) ≡ front ++ resized size r ∷ more
with_size-after [] more r size = refl
with_size-after (f ∷ front) more r size = ap (λ (qs : List Row). f ∷ qs) (with_size-after front more r size)

-- rows after a root's row, which then gets as many below it as there are
pub are_rooted : (first at size : ℕ) (root : Label) (items : List ItemView) (trees : List Tree) (old rs new : List Row) → at ≡ length old → size ≡ length rs - length (old ++ root_row root [] ∷ []) → size < most_nodes → AreMet first root items trees (old ++ root_row root [] ∷ []) rs → new ≡ with_size at size rs → AreRooted first root items trees old new
are_rooted first at size root items trees old rs new here many less met set =
    let ts = all_picked first trees items in
    let all : rs ≡ old ++ root_row root [] ∷ lowered_rows ts = met.copied ∙ append_assoc old (root_row root [] ∷ []) (lowered_rows ts) in
    let each : size ≡ count (beside ts) = omega (arith, many, ap length met.copied, length-append (old ++ root_row root [] ∷ []) (lowered_rows ts), length-lowered_rows ts) in
    record {
      picks = met.picks;
      met = met.met;
      room = omega (arith, each, less);
      grown = set ∙ ap (λ n. with_size n size rs) here ∙ ap (with_size (length old) size) all
          ∙ with_size-after old (lowered_rows ts) (root_row root []) size
          ∙ ap (λ n. old ++ record { size = n; level = 0; label = root } ∷ lowered_rows ts) each;
    }

-- trees that have met below a root, where it is legal, may stand there
may_meet : (root : Label) (ts : List Tree) → IsText root → IsTrue (is_legal root.kind root.name root.value) → HaveMet root ts → count (beside ts) < most_nodes → MayMeet root ts
may_meet root ts text legal met room =
    record {
      text = text;
      legal = legal;
      content = met.content;
      names = met.names;
      trees = met.low;
      room = room;
    }

-- a tree more, whose rows were added after those of the others
pub is_grafted : (first : ℕ) (root : Label) (items : List ItemView) (rs rs' : List Row) (ends ends' : List ℕ) (trees : List Tree) → trees_after rs 0 ends ≡ trees → ArePlanted rs 0 ends → IsText root → IsTrue (is_legal root.kind root.name root.value) → AreRooted first root items (trees_after rs 0 ends) rs rs' → ends' ≡ ends ++ length rs' ∷ [] → IsMore rs' ends' trees (rooted root (all_picked first trees items)) × IsGrafted first root items trees (trees_after rs' 0 ends')
is_grafted first root items rs rs' ends ends' trees view planted text legal are end =
    let seen = trees_after rs 0 ends in
    let ts = all_picked first seen items in
    let of_tree = are-rows-rooted root ts (root_row root ts ∷ lowered_rows ts) (may_meet root ts text legal are.met are.room) refl in
    let more = is_more rs rs' (root_row root ts ∷ lowered_rows ts) ends ends' seen (rooted root ts) refl planted of_tree are.grown end in
    subst (λ (us : List Tree). IsMore rs' ends' us (rooted root (all_picked first us items)) × IsGrafted first root items us (trees_after rs' 0 ends')) view
    (more, record { picks = are.picks; is_tree = of_tree.is_tree; grown = more.seen })

-- # Among the trees of a source

-- the trees that are picked are those that the items' places tell
side_by_side-picked : (front old : List Tree) (first : ℕ) (items : List ItemView) → first ≡ length front → AllByRecursion (IsPicked first old) items → side_by_side (front ++ old) items ≡ beside (all_picked first old items)
side_by_side-picked front old first [] is h = refl
side_by_side-picked front old first (Value a ∷ items) is h = absurd h.0
side_by_side-picked front old first (Place n ∷ items) is h =
    let here : tree_at (front ++ old) n.tree ≡ tree_at old (n.tree - first) = get_or-append_right front old first n.tree no_tree (sym is) h.0.1.0 in
    ap (λ (t : Tree). join (nodes t) (side_by_side (front ++ old) items)) here
    ∙ ap (join (nodes (tree_at old (n.tree - first)))) (side_by_side-picked front old first items is h.1)

all-roots : (front old : List Tree) (first : ℕ) (items : List ItemView) → first ≡ length front → AllByRecursion (IsPicked first old) items → AllByRecursion (IsRoot (front ++ old)) items
all-roots front old first [] is h = tt
all-roots front old first (Value a ∷ items) is h = absurd h.0
all-roots front old first (Place n ∷ items) is h =
    let there = h.0.1.1 in
    let above = h.0.1.0 in
    ((omega (arith, is, there, above, length-append front old), h.0.0), all-roots front old first items is h.1)

pub grafts : (front old new : List Tree) (first : ℕ) (kind : Kind) (name : List ℕ) (items : List ItemView) → first ≡ length front → IsGrafted first (lone kind name []).root items old new → Grafts kind name items (front ++ old) (front ++ new)
grafts front old new first kind name items is grafted =
    let root = (lone kind name []).root in
    let same = side_by_side-picked front old first items is grafted.picks in
    record {
      roots = all-roots front old first items is grafted.picks;
      is_tree = subst (λ (below : Forest Label). IsTree (record { root = root; below = below })) (sym same) grafted.is_tree;
      grown = ap (λ (ts : List Tree). front ++ ts) grafted.grown
          ∙ sym (append_assoc front old (rooted root (all_picked first old items) ∷ []))
          ∙ ap (λ (below : Forest Label). (front ++ old) ++ record { root = root; below = below } ∷ []) (sym same);
    }
