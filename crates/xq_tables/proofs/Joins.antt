-- What a join of the nodes and their labels gives: a SELECT over one list of rows, in which each row
-- has the name of its label.
use Rattle.std.proofs.Common.{◌≡◌, ◌&&◌, ◌++◌, All, ℕ, List, [], ◌∷◌, map, filter, flat_map, cond, Bool, true, false, refl, sym, ap, ap₂, subst, subst₂, ◌∙◌}
use Rattle.std.specs.List.{list_all}
use Rattle.std.specs.List.Sorted.{IsPermutation, IsSorted}
use Rattle.std.specs.Ordering.{on}
use Rattle.std.proofs.lemmas.List.Elements.{All-from_recursion}
use Rattle.std.proofs.lemmas.List.Sorted.{IsPermutation-map, All-permutation}
use Rattle.sqlite_value.specs.Order.{Row, column}
use Rattle.sqlite_value.specs.declared.keys.Key.{Key}
use Rattle.sqlite_value.specs.declared.value.Value.TheVariants.{Null}
use Rattle.sqlite_trees.specs.Tree.{Trees}
use Rattle.sqlite_trees.proofs.ListLemmas.{map-map, map-flat_map, filter-map, flat_map_same_on, all-map, all_of}
use Rattle.sqlite_keyed.proofs.ListLemmas.{map_same}
use Rattle.sqlite_sql.specs.Program.{overlay, IsProgramAnswer}
use Rattle.sqlite_sql.specs.Query.{Query, IsAnswer, Output, output, key_cmp}
use Rattle.sqlite_sql.specs.Term.{Term, holds, col}
use Rattle.std.proofs.lemmas.List.Elements.{filter-append}
use Rattle.xq_tables.specs.Documents.{by_first, node_columns}
use Rattle.xq_tables.specs.Labels.{is_label, named, named_rows}
use Rattle.xq_tables.specs.Reads.{IsPicked}
use Rattle.xq_tables.proofs.LabelTexts.{join_body, join_query, join_terms, on_term}
use Rattle.xq_tables.proofs.Lists.{both_filters, flat_map_picks, same_test}
use Rattle.xq_tables.proofs.Places.{not_given}
use Rattle.xq_tables.proofs.Selects.{sorted_shown}
use Rattle.xq_tables.proofs.Texts.{key}

filter-flat_map : {A B : Type 0} (p : B → Bool) (g : A → List B) (xs : List A) → filter p (flat_map g xs) ≡ flat_map (λ x. filter p (g x)) xs
filter-flat_map p g [] = refl
filter-flat_map p g (x ∷ xs) = filter-append p (g x) (flat_map g xs) ∙ ap (λ l. filter p (g x) ++ l) (filter-flat_map p g xs)

and_cond : (b c : Bool) → (b && c) ≡ cond b c false
and_cond true c = refl
and_cond false c = refl

-- The tests are that a row has a label, and `passes` of the row with the label's name; what is given
-- of it, with the keys of its order, is `outs` of that row.
module _ (nodes labels : ℕ) (tests project : List Term) (order : List (Term × Key)) (db : Trees) (params : Row) (passes : Row → Bool) (outs : Row → Output)
    (splits : (r l : Row) → list_all (holds (params ∷ r ∷ l ∷ [])) tests ≡ (is_label r l && passes (named r l)))
    (shows : (r l : Row) → output (join_body nodes labels tests project order) (params ∷ r ∷ l ∷ []) ≡ outs (named r l)) where
  abbrev query : Query
  query = join_body nodes labels tests project order

  abbrev test : Row → Row → Bool
  test r l = list_all (holds (params ∷ r ∷ l ∷ [])) tests

  abbrev env : Row → Row → List Row
  env r l = params ∷ r ∷ l ∷ []

  abbrev table : List Row
  table = named_rows (db labels) (db nodes)

  one_row : (r : Row) → map (output query) (map (env r) (filter (test r) (db labels))) ≡ map outs (filter passes (map (named r) (filter (is_label r) (db labels))))
  one_row r =
      map-map _ _ _ ∙ map_same (λ l. output query (env r l)) (λ l. outs (named r l)) (shows r) (filter (test r) (db labels))
      ∙ ap (map (λ l. outs (named r l))) (same_test (test r) (λ l. cond (is_label r l) (passes (named r l)) false) (λ l. splits r l ∙ and_cond (is_label r l) (passes (named r l))) (db labels) ∙ sym (both_filters (λ l. passes (named r l)) (is_label r) (db labels)))
      ∙ sym (ap (map outs) (filter-map passes (named r) (filter (is_label r) (db labels))) ∙ map-map _ _ _)

  picks : flat_map (λ r. map (output query) (map (env r) (filter (test r) (db labels)))) (db nodes) ≡ map outs (filter passes table)
  picks = flat_map_same_on _ _ one_row (db nodes) ∙ sym (ap (map outs) (filter-flat_map passes (λ r. map (named r) (filter (is_label r) (db labels))) (db nodes)) ∙ map-flat_map outs _ (db nodes))

  -- the rows that pass, in an order that ORDER BY allows
  pub record IsJoined (rows : List Row) : Type 0 where
    pub ordered : List Output
    pub same : IsPermutation (map outs (filter passes table)) ordered
    pub sorted : IsSorted (on (λ (o : Output). o.0) (key_cmp 0 (map (λ (k : Term × Key). k.1) order))) ordered
    pub shown : rows ≡ map (λ (o : Output). o.1) ordered

  pub joined : (rows : List Row) → IsProgramAnswer [] query db params rows → IsJoined rows
  joined rows got =
      let a : IsAnswer query (overlay db []) params rows = got Null in
      let whole = ap₂ (λ L N. flat_map (λ r. flat_map (λ l. cond (test r l) (env r l ∷ []) []) L) N) (not_given labels db) (not_given nodes db) in
      let staged : a.staged ≡ flat_map (λ r. map (env r) (filter (test r) (db labels))) (db nodes) =
      a.grouped ∙ whole ∙ flat_map_same_on _ _ (λ r. flat_map_picks (test r) (env r) (db labels)) (db nodes) in
      let kept : a.kept ≡ map outs (filter passes table) = a.distinct ∙ ap (map (output query)) staged ∙ map-flat_map (output query) _ (db nodes) ∙ picks in
      record { ordered = a.ordered; same = subst (λ k. IsPermutation k a.ordered) kept a.same; sorted = a.sorted; shown = a.shown }

-- what a SELECT of nodes gives whose tests read no column of the label, beside that of the join
pub joined_nodes : (nodes labels : ℕ) (tests : List Term) (db : Trees) (params : Row) → ((r l : Row) → list_all (holds (params ∷ r ∷ l ∷ [])) tests ≡ list_all (holds (params ∷ named r l ∷ [])) tests)
    → (rows : List Row) → IsProgramAnswer [] (join_query nodes labels tests) db params rows → IsPicked (λ r. list_all (holds (params ∷ r ∷ [])) tests) node_columns (named_rows (db labels) (db nodes)) rows
joined_nodes nodes labels tests db params reads rows got =
    let passes : Row → Bool = λ r. list_all (holds (params ∷ r ∷ [])) tests in
    let outs : Row → Output = λ r. (column r 2 ∷ [], node_columns r) in
    let it = joined nodes labels (on_term ∷ tests) join_terms ((col 1 2, key) ∷ []) db params passes outs (λ r l. ap (λ b. is_label r l && b) (reads r l)) (λ r l. refl) rows got in
    let table = named_rows (db labels) (db nodes) in
    let keyed : Output → Type 0 = λ o. o.0 ≡ column o.1 0 ∷ [] in
    let all : All keyed (map outs (filter passes table)) = All-from_recursion keyed _ (all-map keyed outs (filter passes table) (all_of (λ r. keyed (outs r)) (λ r. refl) (filter passes table))) in
    let moved = IsPermutation-map (λ (o : Output). o.1) _ _ it.same in
    record {
      same = subst₂ IsPermutation (map-map _ _ _) (sym it.shown) moved;
      sorted = subst (IsSorted by_first) (sym it.shown) (sorted_shown it.ordered (All-permutation keyed _ _ it.same all) it.sorted);
    }
