-- Rows that are judged as they are read.
use Rattle.std.proofs.Common.{◌≡◌, ◌≢◌, ◌⊎◌, inl, inr, ℕ, suc, true, false, Option, None, Some, cond, List, [], ◌∷◌, ◌++◌, map, filter, length, take, drop, refl, sym, ap, ap₂, subst, subst₂, ◌∙◌, append-nil, append_assoc, Result, Ok, Err, IfOk}
use Rattle.std.specs.List.{AllByRecursion}
use Rattle.std.specs.List.Sorted.{IsSorted}
use Rattle.std.specs.Ordering.{is_eq}
use Rattle.std.proofs.lemmas.Cmp.{tied_itself}
use Rattle.std.proofs.lemmas.List.{map-append}
use Rattle.std.proofs.lemmas.List.Elements.{filter-append}
use Rattle.sqlite_value.specs.Order.{Row, column, value_cmp}
use Rattle.sqlite_value.specs.declared.value.Value.TheVariants.{Text}
use Rattle.sqlite_value.proofs.OrderLemmas.{value_cmp_total}
use Rattle.sqlite_keyed.proofs.ListLemmas.{all_unmap}
use Rattle.xq_atoms.specs.Address.{IsAddress}
use Rattle.xq_trees.specs.Rows.{placed, placed_rows}
use Rattle.xq_trees.specs.Tree.{Tree}
use Rattle.xq_trees.specs.declared.NodeRow.{NodeRow}
use Rattle.xq_trees.proofs.Lists.{all_append}
use Rattle.xq_tables.specs.Nodes.{cells}
use Rattle.xq_tables.specs.Found.{found_address}
use Rattle.xq_tables.specs.private.Adopt.{is_under, HasOwner, by_place, IsFound, IsFoundOf, IsRun, nodes_under, with_found, AreDocumentRuns, AreFoundIn, AreJudged, Closes, HasJudged, IsWhole, AreNoDocuments}
use Rattle.xq_tables.specs.declared.findings.FoundDocument.{FoundDocument}
use Rattle.xq_tables.specs.declared.judgements.Findings.{Findings}
use Rattle.xq_tables.specs.private.Columns.{IsReadable, node_of}
use Rattle.xq_tables.specs.declared.judgements.RowRange.{RowRange}
use Rattle.xq_tables.proofs.Adopts.{all_later, run_length, judged_none, judged_more, judged_bad, judged_all}
use Rattle.xq_tables.proofs.Maps.{text_is}
use Rattle.xq_tables.proofs.Runs.{run_readable}

cached_rows : (xs ys : List Row) → take (length xs) (xs ++ ys) ≡ xs
cached_rows [] ys = refl
cached_rows (x ∷ xs) ys = ap (λ l. x ∷ l) (cached_rows xs ys)

rest_of : (xs ys : List Row) → drop (length xs) (xs ++ ys) ≡ ys
rest_of [] ys = refl
rest_of (x ∷ xs) ys = rest_of xs ys

-- a run ends where no row of its address follows
run_over : (a : List ℕ) (here tail : List Row) → AllByRecursion (λ r. is_under a r ≡ true) here → run_length a tail ≡ 0 → run_length a (here ++ tail) ≡ length here
run_over a [] tail all other = other
run_over a (r ∷ rs) tail all other = subst (λ b. cond b (suc (run_length a (rs ++ tail))) 0 ≡ suc (length rs)) (sym all.0) (ap suc (run_over a rs tail all.1 other))

stops : (a : List ℕ) (row : Row) (tail : List Row) → false ≡ is_under a row → run_length a (row ∷ tail) ≡ 0
stops a row tail other = subst (λ b. cond b (suc (run_length a tail)) 0 ≡ 0) other refl

module _ (a : List ℕ) (all here tail : List Row) (under : AllByRecursion (λ r. is_under a r ≡ true) here) (other : run_length a tail ≡ 0) where
  front : take (run_length a (here ++ tail)) (here ++ tail) ≡ here
  front = ap (λ n. take n (here ++ tail)) (run_over a here tail under other) ∙ cached_rows here tail

  back : drop (run_length a (here ++ tail)) (here ++ tail) ≡ tail
  back = ap (λ n. drop n (here ++ tail)) (run_over a here tail under other) ∙ rest_of here tail

-- a run that was judged lies behind
run_behind : (a : List ℕ) (all here tail : List Row) (found : List FoundDocument) (d : FoundDocument) → AllByRecursion (λ r. is_under a r ≡ true) here → run_length a tail ≡ 0 → IsAddress a → found_address d ≡ a → IsFoundOf (map node_of here) d
    → AreJudged all (here ++ tail) found → AreJudged all tail (found ++ d ∷ [])
run_behind a all [] tail found d under other good address is judged = absurd (no_nodes_at_all is.tree is.same)
  where
    no_nodes_at_all : (t : Tree) → [] ≢ map cells (placed_rows t)
    no_nodes_at_all t none = absurd cc
run_behind a all (f ∷ fs) tail found d under other good address is judged =
    let own = text_is (column f 6) a under.0 in
    let run = subst (λ l. IsFoundOf (map node_of l) d) (sym (front a all (f ∷ fs) tail under other)) is in
    subst (λ l. AreJudged all l (found ++ d ∷ [])) (back a all (f ∷ fs) tail under other) (judged_more all (f ∷ fs ++ tail) found judged a f refl own d good address run)

-- a run that is bad
run_refuted : (a : List ℕ) (all here tail : List Row) (found : List FoundDocument) → AllByRecursion (λ r. is_under a r ≡ true) here → run_length a tail ≡ 0 → here ≢ [] → ¬ (IsAddress a × IsRun (map node_of here))
    → AreJudged all (here ++ tail) found → IsSorted by_place all → ¬ AreDocumentRuns all
run_refuted a all [] tail found under other some bad judged sorted = absurd (some refl)
run_refuted a all (f ∷ fs) tail found under other some bad judged sorted =
    let own = text_is (column f 6) a under.0 in
    judged_bad all (f ∷ fs ++ tail) found judged a f refl own (λ good. bad (good.0, subst (λ l. IsRun (map node_of l)) (front a all (f ∷ fs) tail under other) good.1)) sorted

no_rows : (nodes : List NodeRow) (here : List Row) → map cells (map placed nodes) ≡ map node_of here → nodes ≡ [] → here ≡ []
no_rows nodes [] read none = refl
no_rows nodes (r ∷ rs) read none = absurd (let e = sym (ap (λ l. map cells (map placed l)) none) ∙ read in cc)

no_nodes : (nodes : List NodeRow) (here : List Row) → map cells (map placed nodes) ≡ map node_of here → here ≡ [] → nodes ≡ []
no_nodes [] here read none = refl
no_nodes (n ∷ ns) here read none = absurd (let e = read ∙ ap (map node_of) none in cc)

-- # The rows in hand

module _ (given : List Row) (run : Findings) (it : HasJudged given run) (tail : List Row) (other : run_length run.run.address.items tail ≡ 0) where
  found_then : (found : Option FoundDocument) → IsFound run.run found → AreJudged (given ++ tail) tail (with_found run.documents.items found)
  found_then None none = subst (λ l. AreJudged (given ++ tail) (l ++ tail) run.documents.items) (no_rows run.run.nodes.items it.here it.read none) (it.judged tail)
  found_then (Some d) whole = run_behind run.run.address.items (given ++ tail) it.here tail run.documents.items d it.under other whole.1 whole.0 (subst (λ l. IsFoundOf l d) it.read whole.2) (it.judged tail)

  judged_then : (later : List FoundDocument) → Closes run later → AreJudged (given ++ tail) tail later
  judged_then later closes = subst (AreJudged (given ++ tail) tail) (sym closes.2) (found_then closes.0 closes.1)

  refuted_then : ¬ IsWhole run.run → IsSorted by_place (given ++ tail) → ¬ AreDocumentRuns (given ++ tail)
  refuted_then bad =
      run_refuted run.run.address.items (given ++ tail) it.here tail run.documents.items it.under other (λ none. bad (inl (no_nodes run.run.nodes.items it.here it.read none))) (λ good. bad (inr (good.0, subst IsRun (sym it.read) good.1))) (it.judged tail)

-- no row yet
pub judged_first : (run : Findings) → run.documents.items ≡ [] → run.run.nodes.items ≡ [] → HasJudged [] run
judged_first run nothing none = record { here = []; under = tt; read = ap (λ l. map cells (map placed l)) none; judged = λ tail. subst (AreJudged tail tail) (sym nothing) (judged_none tail) }

-- no row more
pub judged_last : (given : List Row) (run : Findings) → HasJudged given run → (later : List FoundDocument) → Closes run later → IsSorted by_place given → AreDocumentRuns given × AreFoundIn given later
judged_last given run it later closes = judged_all given [] later (subst (λ l. AreJudged l [] later) (append-nil given) (judged_then given run it [] refl later closes)) refl

pub refuted_last : (given : List Row) (run : Findings) → HasJudged given run → ¬ IsWhole run.run → IsSorted by_place given → ¬ AreDocumentRuns given
refuted_last given run it bad = subst (λ l. IsSorted by_place l → ¬ AreDocumentRuns l) (append-nil given) (refuted_then given run it [] refl bad)

-- # One row more

module _ (given : List Row) (row : Row) where
  onward : (tail : List Row) → (given ++ row ∷ []) ++ tail ≡ given ++ row ∷ tail
  onward tail = append_assoc given (row ∷ []) tail

  owned : (tail : List Row) → AreDocumentRuns ((given ++ row ∷ []) ++ tail) → HasOwner row
  owned tail told = (all_later HasOwner given (row ∷ tail) (subst (AllByRecursion HasOwner) (onward tail) told.owned)).0

  -- it has no address
  pub stray_row : ((a : List ℕ) → column row 6 ≢ Text a) → AreNoDocuments (given ++ row ∷ [])
  stray_row stray tail sorted told = let owner = owned tail told in stray owner.0 owner.2

  under_own : (a : List ℕ) → column row 6 ≡ Text a → is_under a row ≡ true
  under_own a own = ap (λ v. is_eq (value_cmp v (Text a))) own ∙ ap is_eq (tied_itself value_cmp_total (Text a))

  -- it is no node's
  pub unreadable_row : ¬ IsReadable (node_of row) → AreNoDocuments (given ++ row ∷ [])
  unreadable_row bad tail sorted told = go (told.whole a)
    where
      a : List ℕ
      a = (owned tail told).0

      before : List Row
      before = filter (is_under a) given

      after : List Row
      after = filter (is_under a) tail

      mine : nodes_under a ((given ++ row ∷ []) ++ tail) ≡ map node_of (before ++ row ∷ after)
      mine =
          let there : filter (is_under a) (row ∷ tail) ≡ row ∷ after = subst (λ b. cond b (row ∷ after) after ≡ row ∷ after) (sym (under_own a (owned tail told).2)) refl in
          ap (nodes_under a) (onward tail) ∙ ap (map node_of) (filter-append (is_under a) given (row ∷ tail) ∙ ap (λ l. before ++ l) there)

      some : (xs : List Row) → map node_of (xs ++ row ∷ after) ≢ []
      some [] none = absurd cc
      some (x ∷ xs) none = absurd cc

      go : (nodes_under a ((given ++ row ∷ []) ++ tail) ≡ []) ⊎ IsRun (nodes_under a ((given ++ row ∷ []) ++ tail)) → ⊥
      go (inl none) = some before (sym mine ∙ none)
      go (inr is) = bad (all_later (λ r. IsReadable (node_of r)) before (row ∷ after) (all_unmap IsReadable node_of (before ++ row ∷ after) (run_readable _ (subst IsRun mine is)))).0

  module _ (run : Findings) (it : HasJudged given run) where
    -- it is another address's, and the rows in hand are bad
    pub refuted_before : false ≡ is_under run.run.address.items row → ¬ IsWhole run.run → AreNoDocuments (given ++ row ∷ [])
    refuted_before other bad tail = subst (λ l. IsSorted by_place l → ¬ AreDocumentRuns l) (sym (onward tail)) (refuted_then given run it (row ∷ tail) (stops run.run.address.items row tail other) bad)

    module _ (later : Findings) (node : NodeRow) (same : cells (placed node) ≡ node_of row) where
      -- it is one of the address in hand
      pub judged_same : true ≡ is_under run.run.address.items row → later.documents.items ≡ run.documents.items → later.run.address.items ≡ run.run.address.items → later.run.nodes.items ≡ run.run.nodes.items ++ node ∷ [] → HasJudged (given ++ row ∷ []) later
      judged_same own documents address nodes = record {
        here = it.here ++ row ∷ [];
        under = subst (λ a. AllByRecursion (λ r. is_under a r ≡ true) (it.here ++ row ∷ [])) (sym address) (all_append (λ r. is_under run.run.address.items r ≡ true) it.here (row ∷ []) it.under (sym own, tt));
        read = ap (λ l. map cells (map placed l)) nodes ∙ ap (map cells) (map-append placed run.run.nodes.items (node ∷ [])) ∙ map-append cells (map placed run.run.nodes.items) (placed node ∷ []) ∙ ap₂ (λ l x. l ++ x ∷ []) it.read same
            ∙ sym (map-append node_of it.here (row ∷ []));
        judged = λ tail. subst (AreJudged ((given ++ row ∷ []) ++ tail) ((it.here ++ row ∷ []) ++ tail)) (sym documents) (subst₂ (λ l k. AreJudged l k run.documents.items) (sym (onward tail)) (sym (append_assoc it.here (row ∷ []) tail)) (it.judged (row ∷ tail)));
      }

      -- it is another address's, and the rows in hand are good
      pub judged_next : (closed : List FoundDocument) → false ≡ is_under run.run.address.items row → Closes run closed → later.documents.items ≡ closed → column row 6 ≡ Text later.run.address.items → later.run.nodes.items ≡ node ∷ [] → HasJudged (given ++ row ∷ []) later
      judged_next closed other closes documents own nodes = record {
        here = row ∷ [];
        under = (under_own later.run.address.items own, tt);
        read = ap (λ l. map cells (map placed l)) nodes ∙ ap (λ x. x ∷ []) same;
        judged = λ tail. subst (AreJudged ((given ++ row ∷ []) ++ tail) (row ∷ tail)) (sym documents) (subst (λ l. AreJudged l (row ∷ tail) closed) (sym (onward tail)) (judged_then given run it (row ∷ tail) (stops run.run.address.items row tail other) closed closes));
      }

-- # What a call answers

module _ {E : Type 0} (self : Findings) (row : Row) (node : NodeRow) (same : cells (placed node) ≡ node_of row) where
  pub same_answered : (r : Result Findings E) → true ≡ is_under self.run.address.items row → IfOk r (λ run. run.documents.items ≡ self.documents.items) → IfOk r (λ run. run.run.address.items ≡ self.run.address.items) → IfOk r (λ run. run.run.nodes.items ≡ self.run.nodes.items ++ node ∷ [])
      → IfOk r (λ run. (given : List Row) → HasJudged given self → HasJudged (given ++ row ∷ []) run)
  same_answered (Ok run) own documents address nodes = λ given it. judged_same given row self it run node same own documents address nodes
  same_answered (Err e) own documents address nodes = tt

  pub next_answered : (closed : List FoundDocument) (r : Result Findings E) → false ≡ is_under self.run.address.items row → Closes self closed → IfOk r (λ run. run.documents.items ≡ closed) → IfOk r (λ run. column row 6 ≡ Text run.run.address.items) → IfOk r (λ run. run.run.nodes.items ≡ node ∷ [])
      → IfOk r (λ run. (given : List Row) → HasJudged given self → HasJudged (given ++ row ∷ []) run)
  next_answered closed (Ok run) other closes documents own nodes = λ given it. judged_next given row self it run node same closed other closes documents own nodes
  next_answered closed (Err e) other closes documents own nodes = tt
