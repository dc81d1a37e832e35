-- What the statements do to the map.
use Rattle.std.proofs.Common.{◌≡◌, ◌≢◌, ◌⊎◌, ◌||◌, ◌+◌, ◌<◌, inl, inr, ℕ, suc, pos, Bool, true, false, not, cond, List, [], ◌∷◌, map, filter, length, refl, sym, ap, subst, ◌∙◌, arith, Ordering, nat_lt, Some, None, is_some}
use Rattle.std.specs.Ordering.{is_eq, eq_by_cmp, nat_cmp}
use Rattle.std.specs.Cmp.{IsTotalOrder, eq_by_cmp_equiv}
use Rattle.std.specs.Cmp.Lexicographic.{slice_cmp, nat_list_cmp_total}
use Rattle.std.specs.FinMap.{IsAntisymmetric, nat_cmp-IsAntisymmetric, slice_cmp-IsAntisymmetric, get, insert, remove, contains_key, find, same_map, get-insert, get-remove, get-from_entries, empty, keys, len-empty, len-entries}
use Rattle.std.specs.List.{AllByRecursion, list_any, enumerate_from}
use Rattle.std.specs.List.Sorted.{IsPermutation}
use Rattle.std.proofs.lemmas.List.Sorted.{IsPermutation-sym, length_permutation, list_any-IsPermutation}
use Rattle.std.proofs.lemmas.List.{length-map}
use Rattle.std.proofs.lemmas.Cmp.{tied_itself}
use Rattle.std.proofs.lemmas.Bool.{lt-ltb}
use Rattle.sqlite_value.specs.Order.{Row, column, value_cmp}
use Rattle.sqlite_value.specs.declared.value.Value.{Value}
use Rattle.sqlite_value.specs.declared.value.Value.TheVariants.{Null, Int, Real, Text, Blob}
use Rattle.sqlite_value.proofs.OrderLemmas.{value_cmp_total, value_cmp-Null, value_cmp-Text, value_cmp-apart}
use Rattle.sqlite_trees.proofs.ListLemmas.{filter-filter, all-filter}
use Rattle.sqlite_keyed.specs.Lists.{delete_where, sort_by}
use Rattle.sqlite.specs.Effect.{Database}
use Rattle.xq_atoms.specs.Address.{IsAddress}
use Rattle.xq_trees.specs.Tree.{Tree, IsDocument}
use Rattle.xq_trees.specs.Rows.{Row as Node, rows, placed_rows, tree_of}
use Rattle.xq_trees.specs.Nesting.{tree_of-rows}
use Rattle.xq_trees.specs.declared.Kind.{Kind}
use Rattle.xq_trees.specs.declared.Kind.TheVariants.{Document, Element, Attribute, Text as TextNode, Comment, ProcessingInstruction}
use Rattle.xq_tables.specs.Nodes.{cells, node_in, bytes_in}
use Rattle.xq_trees.specs.Codes.{kind_number, kind_from}
use Rattle.xq_tables.specs.Documents.{is_at, is_first, node_columns, rows_at, by_first, tree_at, addresses_in, documents_in, documents_of, HasAddress, IsIntact, IsStore}
use Rattle.xq_tables.specs.Writes.{HasDropped, HasReplaced}
use Rattle.xq_tables.proofs.Inserts.{own_address}
use Rattle.xq_tables.proofs.Lists.{tied}
use Rattle.xq_tables.proofs.Orders.{sorted_nodes}
use Rattle.xq_tables.specs.Labels.{shown_rows}

-- # Addresses

pub text_is : (v : Value) (t : List ℕ) → is_eq (value_cmp v (Text t)) ≡ true → v ≡ Text t
text_is Null t h = absurd (let e = rw (value_cmp-Null (Text t)) at h in cc)
text_is (Int n) t h = absurd (let e = rw (value_cmp-apart (Int n) (Text t) (λ e. omega (arith, e))) at h in cc)
text_is (Real x) t h = absurd (let e = rw (value_cmp-apart (Real x) (Text t) (λ e. omega (arith, e))) at h in cc)
text_is (Text s) t h = ap Text (slice_cmp-IsAntisymmetric nat_cmp-IsAntisymmetric s t (sym (value_cmp-Text s t) ∙ tied _ h))
text_is (Blob b) t h = absurd (let e = rw (value_cmp-apart (Blob b) (Text t) (λ e. omega (arith, e))) at h in cc)

one_address : (a b : List ℕ) (r : Row) → is_at a r ≡ true → is_at b r ≡ true → b ≡ a
one_address a b r p q = let e = sym (text_is (column r 1) b q) ∙ text_is (column r 1) a p in ap bytes_in e

pub apart_rows : (a b : List ℕ) (r : Row) → b ≢ a → is_at b r ≡ true → not (is_at a r) ≡ true
apart_rows a b r apart here = go (is_at a r) refl
  where
    go : (t : Bool) → is_at a r ≡ t → not t ≡ true
    go true e = absurd (apart (one_address a b r e here))
    go false e = refl

none_left : (p : Row → Bool) (rows : List Row) → filter p (delete_where p rows) ≡ []
none_left p [] = refl
none_left p (r ∷ rs) = go (p r) refl (none_left p rs)
  where
    go : (t : Bool) → p r ≡ t → filter p (delete_where p rs) ≡ [] → filter p (cond (not t) (r ∷ delete_where p rs) (delete_where p rs)) ≡ []
    go true e h = h
    go false e h = rw e h

pub same_address : (a b : List ℕ) → (b ≡ a) ⊎ (b ≢ a)
same_address a b = go (is_eq (value_cmp (Text a) (Text b))) refl
  where
    go : (t : Bool) → is_eq (value_cmp (Text a) (Text b)) ≡ t → (b ≡ a) ⊎ (b ≢ a)
    go true e = inl (let f = text_is (Text a) b e in ap bytes_in (sym f))
    go false e = inr (λ f. absurd (let g = sym (own_address a) ∙ subst (λ x. is_eq (value_cmp (Text a) (Text x)) ≡ false) f e in cc))

-- # The rows of an address

pub rows_gone : (a : List ℕ) (old new : Database) → HasDropped (is_at a) old new → rows_at a (shown_rows new) ≡ []
rows_gone a old new h = ap (rows_at a) h.rows ∙ ap (map node_columns) (none_left (is_at a) (shown_rows old))

pub rows_stay : (a b : List ℕ) (old new : Database) → b ≢ a → HasDropped (is_at a) old new → rows_at b (shown_rows new) ≡ rows_at b (shown_rows old)
rows_stay a b old new apart h = ap (rows_at b) h.rows ∙ ap (map node_columns) (filter-filter (is_at b) (λ r. not (is_at a r)) (λ r here. apart_rows a b r apart here) (shown_rows old))

pub store_drops : (a : List ℕ) (old new : Database) → HasDropped (is_at a) old new → IsStore old → IsStore new
store_drops a old new h was = record {
  sound = h.sound;
  layout = ap (map (λ r. column r 1)) h.layout ∙ was.layout;
  named = subst (AllByRecursion HasAddress) (sym h.rows) (all-filter _ (λ r. not (is_at a r)) (shown_rows old) was.named);
  whole = λ b. elim (same_address a b) [
    | inl e ↦ inl (ap (λ x. rows_at x (shown_rows new)) e ∙ rows_gone a old new h)
    | inr apart ↦ subst (λ rows. (rows ≡ []) ⊎ IsIntact rows) (sym (rows_stay a b old new apart h)) (was.whole b)
  ];
}

module _ (a : List ℕ) (good : IsAddress a) (t : Tree) (is : IsDocument t) (old new : Database) (put : HasReplaced a (map cells (placed_rows t)) old new) where
  own_rows : IsPermutation (rows_at a (shown_rows new)) (map cells (placed_rows t))
  own_rows = IsPermutation-sym _ _ put.own

  pub store_puts : IsStore old → IsStore new
  store_puts was =
      let own : IsIntact (rows_at a (shown_rows new)) = record { tree = t; is_document = is; same = own_rows } in record {
        sound = put.sound;
        layout = ap (map (λ r. column r 1)) put.layout ∙ was.layout;
        named = put.named good;
        whole = λ b. elim (same_address a b) [
          | inl e ↦ inr (subst (λ x. IsIntact (rows_at x (shown_rows new))) (sym e) own)
          | inr apart ↦ subst (λ rows. (rows ≡ []) ⊎ IsIntact rows) (sym (put.others b apart)) (was.whole b)
        ];
      }

-- # The tree of an address

same_kind : (k : Kind) → kind_from (kind_number k) ≡ k
same_kind Document = refl
same_kind Element = refl
same_kind Attribute = refl
same_kind TextNode = refl
same_kind Comment = refl
same_kind ProcessingInstruction = refl

pub node_back : (p : ℕ × Node) → node_in (cells p) ≡ p.1
node_back p = ap (λ k. record { size = p.1.size; level = p.1.level; label = record { kind = k; name = p.1.label.name; value = p.1.label.value } }) (same_kind p.1.label.kind)

pub nodes_back : (k : ℕ) (nodes : List Node) → map node_in (map cells (enumerate_from k nodes)) ≡ nodes
nodes_back k [] = refl
nodes_back k (n ∷ ns) = rw (node_back (k, n), nodes_back (k + 1) ns) refl

pub tree_back : (t : Tree) (rows : List Row) → IsPermutation rows (map cells (placed_rows t)) → tree_of (map node_in (sort_by by_first rows)) ≡ t
tree_back t given same = ap (λ l. tree_of (map node_in l)) (sorted_nodes given (rows t) same) ∙ ap tree_of (nodes_back 0 (rows t)) ∙ tree_of-rows t

-- # The map, by its rows

abbrev pub order : List ℕ → List ℕ → Ordering
order = slice_cmp nat_cmp

pub order_total : IsTotalOrder order
order_total = nat_list_cmp_total

pub order_exact : IsAntisymmetric order
order_exact = slice_cmp-IsAntisymmetric nat_cmp-IsAntisymmetric

-- a row of number 0 is among them
abbrev pub has_root : List Row → Bool
has_root rows = list_any (λ r. is_eq (value_cmp (column r 0) (Int (pos 0)))) rows

pub find_by : {X : Type 0} (f : List ℕ → X) (q : List ℕ) (list : List (List ℕ)) → find order q (map (λ a. (a, f a)) list) ≡ cond (list_any (eq_by_cmp order q) list) (Some (f q)) None
find_by f q [] = refl
find_by f q (a ∷ more) = go (eq_by_cmp order q a) refl (find_by f q more)
  where
    go : (b : Bool) → eq_by_cmp order q a ≡ b → find order q (map (λ a. (a, f a)) more) ≡ cond (list_any (eq_by_cmp order q) more) (Some (f q)) None
        → cond b (Some (f a)) (find order q (map (λ a. (a, f a)) more)) ≡ cond (b || list_any (eq_by_cmp order q) more) (Some (f q)) None
    go true e h = ap (λ x. Some (f x)) (sym (order_exact q a (tied _ e)))
    go false e h = h

-- an address is listed where one of its rows has number 0
pub listed : (q : List ℕ) (table : List Row) → AllByRecursion HasAddress table → list_any (eq_by_cmp order q) (addresses_in table) ≡ has_root (rows_at q table)
listed q [] named = refl
listed q (r ∷ rs) named = go (is_first r) (is_at q r) refl refl (listed q rs named.1)
  where
    matches : is_at q r ≡ eq_by_cmp order q (bytes_in (column r 1))
    matches = ap (λ v. is_eq (value_cmp v (Text q))) named.0.2 ∙ ap is_eq (value_cmp-Text named.0.0 q) ∙ (eq_by_cmp_equiv order_total).symm named.0.0 q ∙ ap (λ v. eq_by_cmp order q (bytes_in v)) (sym named.0.2)

    go : (f t : Bool) → is_first r ≡ f → is_at q r ≡ t → list_any (eq_by_cmp order q) (addresses_in rs) ≡ has_root (rows_at q rs)
        → list_any (eq_by_cmp order q) (map (λ x. bytes_in (column x 1)) (cond f (r ∷ filter is_first rs) (filter is_first rs))) ≡ has_root (map node_columns (cond t (r ∷ filter (is_at q) rs) (filter (is_at q) rs)))
    go true true e h more = ap (λ b. b || list_any (eq_by_cmp order q) (addresses_in rs)) (sym matches ∙ h) ∙ sym (ap (λ b. b || has_root (rows_at q rs)) e)
    go true false e h more = ap (λ b. b || list_any (eq_by_cmp order q) (addresses_in rs)) (sym matches ∙ h) ∙ more
    go false true e h more = more ∙ sym (ap (λ b. b || has_root (rows_at q rs)) e)
    go false false e h more = more

-- what the map has under an address
pub get-documents : (table : List Row) (q : List ℕ) → AllByRecursion HasAddress table → get (documents_in table) q ≡ cond (has_root (rows_at q table)) (Some (tree_at table q)) None
unfolding documents_in
get-documents table q named =
    get-from_entries order_total _ q ∙ find_by (tree_at table) q (addresses_in table) ∙ ap (λ b. cond b (Some (tree_at table q)) None) (listed q table named)

tail_of : List Node → List Node
tail_of [] = []
tail_of (n ∷ ns) = ns

-- the rows of a tree have a root
rooted : (t : Tree) → has_root (map cells (placed_rows t)) ≡ true
unfolding tail_of
rooted t = ap (λ o. is_eq o || has_root (map cells (enumerate_from 1 (tail_of (rows t))))) (tied_itself value_cmp_total (Int (pos 0)))

-- under an address with the rows of a tree the map has this tree
pub get-whole : (table : List Row) (q : List ℕ) (t : Tree) → AllByRecursion HasAddress table → IsPermutation (rows_at q table) (map cells (placed_rows t)) → get (documents_in table) q ≡ Some t
get-whole table q t named same =
    get-documents table q named ∙ ap (λ b. cond b (Some (tree_at table q)) None) (list_any-IsPermutation _ _ _ same ∙ rooted t) ∙ ap Some (tree_back t (rows_at q table) same)

-- and under one without rows it has none
pub get-none : (table : List Row) (q : List ℕ) → AllByRecursion HasAddress table → rows_at q table ≡ [] → get (documents_in table) q ≡ None
get-none table q named none = get-documents table q named ∙ ap (λ rows. cond (has_root rows) (Some (tree_at table q)) None) none

-- what it has under an address depends on the rows of this address alone
get_same : (q : List ℕ) (old new : List Row) → AllByRecursion HasAddress old → AllByRecursion HasAddress new → rows_at q new ≡ rows_at q old → get (documents_in new) q ≡ get (documents_in old) q
get_same q old new was is same =
    get-documents new q is ∙ ap (λ rows. cond (has_root rows) (Some (tree_of (map node_in (sort_by by_first rows)))) None) same ∙ sym (get-documents old q was)

-- # The map, after each statement

pub no_documents : (table : List Row) → table ≡ [] → documents_in table ≡ empty
unfolding documents_in
no_documents table none = ap documents_in none

pub no_keys : (db : Database) → shown_rows db ≡ [] → [] ≡ keys (documents_of db)
no_keys db none = sym (ap keys (no_documents (shown_rows db) none) ∙ ap (map (λ (e : List ℕ × Tree). e.0)) (none_of _ (sym (len-entries (empty {R = order})) ∙ len-empty order Tree)))
  where
    none_of : {X : Type 0} (xs : List X) → length xs ≡ 0 → xs ≡ []
    none_of [] e = refl
    none_of (x ∷ xs) e = absurd (omega (arith, e))

pub apart_key : (a q : List ℕ) → q ≢ a → eq_by_cmp order q a ≡ false
apart_key a q apart = go (eq_by_cmp order q a) refl
  where
    go : (b : Bool) → eq_by_cmp order q a ≡ b → eq_by_cmp order q a ≡ false
    go true e = absurd (apart (order_exact q a (tied _ e)))
    go false e = e

own_key : (a q : List ℕ) → q ≡ a → eq_by_cmp order q a ≡ true
own_key a q e = ap (λ x. eq_by_cmp order x a) e ∙ ap is_eq (tied_itself order_total a)

pub dropped_map : (a : List ℕ) (old new : Database) → HasDropped (is_at a) old new → IsStore old → documents_in (shown_rows new) ≡ remove (documents_in (shown_rows old)) a
dropped_map a old new h was = same_map order_total order_exact _ _ each
  where
    now : IsStore new
    now = store_drops a old new h was

    each : (q : List ℕ) → get (documents_in (shown_rows new)) q ≡ get (remove (documents_in (shown_rows old)) a) q
    each q =
        elim (same_address a q) [
          | inl e ↦ get-none (shown_rows new) q now.named (ap (λ x. rows_at x (shown_rows new)) e ∙ rows_gone a old new h)
              ∙ sym (get-remove order_total (documents_in (shown_rows old)) a q ∙ ap (λ b. cond b None (get (documents_in (shown_rows old)) q)) (own_key a q e))
          | inr apart ↦ get_same q (shown_rows old) (shown_rows new) was.named now.named (rows_stay a q old new apart h)
              ∙ sym (get-remove order_total (documents_in (shown_rows old)) a q ∙ ap (λ b. cond b None (get (documents_in (shown_rows old)) q)) (apart_key a q apart))
        ]

pub put_map : (a : List ℕ) (good : IsAddress a) (t : Tree) (is : IsDocument t) (old new : Database) → HasReplaced a (map cells (placed_rows t)) old new
    → IsStore old → documents_in (shown_rows new) ≡ insert (documents_in (shown_rows old)) a t
put_map a good t is old new put was = same_map order_total order_exact _ _ each
  where
    now : IsStore new
    now = store_puts a good t is old new put was

    each : (q : List ℕ) → get (documents_in (shown_rows new)) q ≡ get (insert (documents_in (shown_rows old)) a t) q
    each q =
        elim (same_address a q) [
          | inl e ↦ get-whole (shown_rows new) q t now.named (subst (λ x. IsPermutation (rows_at x (shown_rows new)) (map cells (placed_rows t))) (sym e) (own_rows a good t is old new put))
              ∙ sym (get-insert order_total (documents_in (shown_rows old)) a t q ∙ ap (λ b. cond b (Some t) (get (documents_in (shown_rows old)) q)) (own_key a q e))
          | inr apart ↦ get_same q (shown_rows old) (shown_rows new) was.named now.named (put.others q apart)
              ∙ sym (get-insert order_total (documents_in (shown_rows old)) a t q ∙ ap (λ b. cond b (Some t) (get (documents_in (shown_rows old)) q)) (apart_key a q apart))
        ]

positive : (n : ℕ) → 0 < suc n
positive n = omega arith

-- the map has an address where it has rows
pub was_there : (a : List ℕ) (db : Database) (count : ℕ) → IsStore db → count ≡ length (filter (is_at a) (shown_rows db)) → nat_lt 0 count ≡ contains_key (documents_in (shown_rows db)) a
unfolding tail_of
was_there a db count it e = elim (it.whole a) [
  | inl none ↦
      let n : count ≡ 0 = size ∙ ap length none in
      ap (nat_lt 0) n ∙ sym (ap is_some (get-none (shown_rows db) a it.named none))
  | inr some ↦
      let n : count ≡ length (map cells (placed_rows some.tree)) = size ∙ sym (length_permutation _ _ some.same) in
      ap (nat_lt 0) n ∙ lt-ltb 0 _ (positive (length (map cells (enumerate_from 1 (tail_of (rows some.tree)))))) ∙ sym (ap is_some (get-whole (shown_rows db) a some.tree it.named some.same))
]
  where
    size : count ≡ length (rows_at a (shown_rows db))
    size = e ∙ sym (length-map (filter (is_at a) (shown_rows db)) node_columns)

-- # The trees of other addresses

pub tree_stays_dropped : (a : List ℕ) (old new : Database) → HasDropped (is_at a) old new → (b : List ℕ) → b ≢ a → tree_at (shown_rows new) b ≡ tree_at (shown_rows old) b
tree_stays_dropped a old new h b apart = ap (λ rows. tree_of (map node_in (sort_by by_first rows))) (rows_stay a b old new apart h)

module _ (a : List ℕ) (t : Tree) (old new : Database) (put : HasReplaced a (map cells (placed_rows t)) old new) where
  pub tree_stays_put : (b : List ℕ) → b ≢ a → tree_at (shown_rows new) b ≡ tree_at (shown_rows old) b
  tree_stays_put b apart = ap (λ rows. tree_of (map node_in (sort_by by_first rows))) (put.others b apart)

  pub own_tree : tree_at (shown_rows new) a ≡ t
  own_tree = tree_back t (rows_at a (shown_rows new)) (IsPermutation-sym _ _ put.own)
