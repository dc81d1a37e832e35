-- What a SELECT over one table gives, and what a query leaves.
use Rattle.std.proofs.Common.{◌≡◌, ◌&&◌, ◌+◌, ◌<◌, zero, suc, get_or, length, All, arith, ℕ, List, [], ◌∷◌, map, filter, flat_map, cond, Bool, true, false, Some, ℤ, refl, sym, ap, subst, subst₂, ◌∙◌, pos, is_gt, is_lt, ap₂, inl, inr, IsTrue, Result, Ok, Err, IfOk, OnOk, IfErr, Option, None}
use Rattle.std.specs.List.{list_all}
use Rattle.std.specs.List.Sorted.{IsPermutation, IsSorted}
use Rattle.std.specs.Ordering.{on, is_eq, is_le, is_ge}
use Rattle.sqlite_value.specs.Order.{Row, column, value_cmp}
use Rattle.sqlite_value.specs.declared.value.Value.{Value}
use Rattle.sqlite_value.specs.declared.value.Value.TheVariants.{Null, Int, Real, Text, Blob}
use Rattle.sqlite_value.specs.declared.keys.Key.{Key}
use Rattle.sqlite_value.specs.declared.keys.Collation.TheVariants.{Binary}
use Rattle.sqlite_value.proofs.OrderLemmas.{value_cmp-Null, then-Equal}
use Rattle.sqlite_trees.specs.Tree.{Trees}
use Rattle.sqlite_trees.proofs.ListLemmas.{map-map, all-map, all_of}
use Rattle.sqlite_sql.specs.Term.{Term, eval_all, holds, col}
use Rattle.sqlite_sql.specs.Query.{Query, IsAnswer, Output, output, key_cmp}
use Rattle.sqlite_sql.specs.Program.{overlay, IsProgramAnswer}
use Rattle.sqlite_sql.specs.Ops.{binary, is_true, from_truth}
use Rattle.sqlite_sql.specs.declared.ops.BinaryOp.TheVariants.{Compare}
use Rattle.sqlite_sql.specs.declared.ops.CompareOp.TheVariants.{Eq, Ge, Gt, Le, Lt}
use Rattle.std.proofs.lemmas.List.Sorted.{IsPermutation-map, All-permutation}
use Rattle.xq_tables.proofs.Lists.{flat_map_picks, same_test}
use Rattle.std.proofs.lemmas.List.Elements.{All-from_recursion}
use Rattle.sqlite.specs.declared.error.Error.{Error}
use Rattle.sqlite.specs.Listing.{understood}
use Rattle.sqlite.specs.State.{State, Shown, Fails, FailsToQuery, IsNotRun, RunsCommand, ShowsRows, FailsToShow}
use Rattle.sqlite.specs.Clock.{timed}
use Rattle.sqlite_resolve.specs.declared.compiled.Compiled.{Compiled}
use Rattle.sqlite_schema.specs.declared.command.Returning.{Returning}
use Rattle.sqlite.proofs.Callers.{IsPlain}
use Rattle.sqlite.specs.Schema.{Schema}
use Rattle.xq_tables.proofs.LabelPlaces.{Made, schema_of, which}
use Rattle.xq_tables.proofs.Places.{not_given}
use Rattle.xq_tables.specs.Labels.{IsStoreSchema}
use Rattle.xq_tables.proofs.Texts.{body, key, range_tests, part_tests}
use Rattle.xq_tables.specs.Documents.{by_first, is_at}
use Rattle.xq_tables.specs.Reads.{is_within, IsPicked}
use Rattle.xq_tables.specs.private.Statements.{is_part}
use Rattle.std.proofs.lemmas.List.{length-map}

module _ (tree : ℕ) (tests : List Term) (project : List Term) (order : List (Term × Key)) (db : Trees) (params : Row) where
  abbrev table : List Row
  table = db tree

  abbrev query : Query
  query = body tree tests project order

  abbrev pub test : Row → Bool
  test r = list_all (holds (params ∷ r ∷ [])) tests

  abbrev pub out : Row → Output
  out r = output query (params ∷ r ∷ [])

  -- the rows that pass the tests, in an order that ORDER BY allows
  pub record IsSelected (rows : List Row) : Type 0 where
    pub ordered : List Output
    pub same : IsPermutation (map out (filter test table)) ordered
    pub sorted : IsSorted (on (λ o. o.0) (key_cmp 0 (map (λ k. k.1) order))) ordered
    pub shown : rows ≡ map (λ o. o.1) ordered

  pub selected : (rows : List Row) → IsProgramAnswer [] query db params rows → IsSelected rows
  selected rows got =
      let a : IsAnswer query (overlay db []) params rows = got Null in
      let staged : a.staged ≡ map (λ r. params ∷ r ∷ []) (filter test table) = a.grouped ∙ ap (flat_map (λ r. cond (test r) ((params ∷ r ∷ []) ∷ []) [])) (not_given tree db) ∙ flat_map_picks test (λ r. params ∷ r ∷ []) table in
      let kept : a.kept ≡ map out (filter test table) = a.distinct ∙ ap (map (output query)) staged ∙ map-map _ _ _ in
      record { ordered = a.ordered; same = subst (λ k. IsPermutation k a.ordered) kept a.same; sorted = a.sorted; shown = a.shown }

  pub selected_rows : (rows : List Row) → IsSelected rows → IsPermutation (map (λ r. eval_all project (params ∷ r ∷ [])) (filter test table)) rows
  selected_rows rows s =
      let moved = IsPermutation-map (λ (o : Output). o.1) _ _ s.same in
      let back : map (λ (o : Output). o.1) (map out (filter test table)) ≡ map (λ r. eval_all project (params ∷ r ∷ [])) (filter test table) = map-map _ _ _ in
      subst₂ IsPermutation back (sym s.shown) moved

-- a comparison with a value that is not NULL
truth_is : (b : Bool) → is_true (from_truth (Some b)) ≡ b
truth_is true = refl
truth_is false = refl

pub equals_text : (v : Value) (t : List ℕ) → is_true (binary (Compare Eq Binary) v (Text t)) ≡ is_eq (value_cmp v (Text t))
unfolding binary
equals_text Null t = rw (value_cmp-Null (Text t)) refl
equals_text (Int n) t = truth_is _
equals_text (Real x) t = truth_is _
equals_text (Text s) t = truth_is _
equals_text (Blob b) t = truth_is _

pub equals_int : (v : Value) (n : ℤ) → is_true (binary (Compare Eq Binary) v (Int n)) ≡ is_eq (value_cmp v (Int n))
unfolding binary
equals_int Null t = rw (value_cmp-Null (Int t)) refl
equals_int (Int n) t = truth_is _
equals_int (Real x) t = truth_is _
equals_int (Text s) t = truth_is _
equals_int (Blob b) t = truth_is _

pub at_least_int : (v : Value) (n : ℤ) → is_true (binary (Compare Ge Binary) v (Int n)) ≡ is_ge (value_cmp v (Int n))
unfolding binary
at_least_int Null t = rw (value_cmp-Null (Int t)) refl
at_least_int (Int n) t = truth_is _
at_least_int (Real x) t = truth_is _
at_least_int (Text s) t = truth_is _
at_least_int (Blob b) t = truth_is _

-- NULL, which is below each number, passes no test
pub at_most_int : (v : Value) (low high : ℤ) → is_ge (value_cmp v (Int low)) ≡ true → is_true (binary (Compare Le Binary) v (Int high)) ≡ is_le (value_cmp v (Int high))
unfolding binary
at_most_int Null low high h = absurd (let e = rw (value_cmp-Null (Int low)) at h in cc)
at_most_int (Int n) low high h = truth_is _
at_most_int (Real x) low high h = truth_is _
at_most_int (Text s) low high h = truth_is _
at_most_int (Blob b) low high h = truth_is _

pub below_int : (v : Value) (low high : ℤ) → is_ge (value_cmp v (Int low)) ≡ true → is_true (binary (Compare Lt Binary) v (Int high)) ≡ is_lt (value_cmp v (Int high))
unfolding binary
below_int Null low high h = absurd (let e = rw (value_cmp-Null (Int low)) at h in cc)
below_int (Int n) low high h = truth_is _
below_int (Real x) low high h = truth_is _
below_int (Text s) low high h = truth_is _
below_int (Blob b) low high h = truth_is _

pub less_int : (m n : ℤ) → is_true (binary (Compare Lt Binary) (Int m) (Int n)) ≡ is_lt (value_cmp (Int m) (Int n))
unfolding binary
less_int m n = truth_is _

pub greater_int : (m n : ℤ) → is_true (binary (Compare Gt Binary) (Int m) (Int n)) ≡ is_gt (value_cmp (Int m) (Int n))
unfolding binary
greater_int m n = truth_is _

pub and_true : (b : Bool) → (b && true) ≡ b
and_true true = refl
and_true false = refl

pub get_or-map : {A B : Type 0} (f : A → B) (xs : List A) (i : ℕ) (a : A) → get_or (map f xs) i (f a) ≡ f (get_or xs i a)
get_or-map f [] i a = refl
get_or-map f (x ∷ xs) zero a = refl
get_or-map f (x ∷ xs) (suc i) a = get_or-map f xs i a

lower_keys : (a b : Output) → a.0 ≡ column a.1 0 ∷ [] → b.0 ≡ column b.1 0 ∷ [] → is_lt (key_cmp 0 (key ∷ []) a.0 b.0) ≡ false → is_lt (by_first a.1 b.1) ≡ false
lower_keys a b ka kb h =
    let both = subst₂ (λ x y. is_lt (key_cmp 0 (key ∷ []) x y) ≡ false) ka kb h in
    ap is_lt (sym (then-Equal (value_cmp (column a.1 0) (column b.1 0)))) ∙ both

-- what is sorted by its keys is sorted by the first column, where that is the key
pub sorted_shown : (ordered : List Output) → All (λ (o : Output). o.0 ≡ column o.1 0 ∷ []) ordered → IsSorted (on (λ (o : Output). o.0) (key_cmp 0 (key ∷ []))) ordered → IsSorted by_first (map (λ (o : Output). o.1) ordered)
sorted_shown ordered keyed sorted k d low high =
    let D : Output = (column d 0 ∷ [], d) in
    let within : k + 1 < length ordered = subst (λ n. k + 1 < n) (length-map ordered (λ (o : Output). o.1)) high in
    let here = keyed k D (omega arith) in
    let next = keyed (k + 1) D within in
    let was = sorted k D low within in
    let lower = get_or-map (λ (o : Output). o.1) ordered k D in
    let upper = get_or-map (λ (o : Output). o.1) ordered (k + 1) D in
    subst₂ (λ x y. is_lt (by_first x y) ≡ false) (sym upper) (sym lower) (lower_keys (get_or ordered (k + 1) D) (get_or ordered k D) next here was)

module _ (tree : ℕ) (tests : List Term) (at : ℕ) (more : List Term) (db : Trees) (params : Row) where
  abbrev project : List Term
  project = col 1 at ∷ more

  abbrev order : List (Term × Key)
  order = (col 1 at, key) ∷ []

  abbrev keyed : Output → Type 0
  keyed o = o.0 ≡ column o.1 0 ∷ []

  pub picked : (rows : List Row) → IsProgramAnswer [] (body tree tests project order) db params rows
      → IsPicked (λ r. list_all (holds (params ∷ r ∷ [])) tests) (λ r. eval_all project (params ∷ r ∷ [])) (db tree) rows
  picked rows got =
      let s = selected tree tests project order db params rows got in
      let shown = filter (test tree tests project order db params) (db tree) in
      let all : All keyed (map (out tree tests project order db params) shown) = All-from_recursion keyed _ (all-map keyed (out tree tests project order db params) shown (all_of (λ r. keyed (out tree tests project order db params r)) (λ r. refl) shown)) in
      record {
        same = selected_rows tree tests project order db params rows s;
        sorted = subst (IsSorted by_first) (sym s.shown) (sorted_shown s.ordered (All-permutation keyed _ _ s.same all) s.sorted);
      }

pub same_passes : (p q : Row → Bool) (shows : Row → Row) (table rows : List Row) → ((r : Row) → p r ≡ q r) → IsPicked p shows table rows → IsPicked q shows table rows
same_passes p q shows table rows h it = record { same = subst (λ l. IsPermutation (map shows l) rows) (same_test p q h table) it.same; sorted = it.sorted }

tail_test : (v : Value) (low high : ℤ) (b : Bool) → is_ge (value_cmp v (Int low)) ≡ b → (b && (is_true (binary (Compare Le Binary) v (Int high)) && true)) ≡ (b && is_le (value_cmp v (Int high)))
tail_test v low high true e = and_true _ ∙ at_most_int v low high e
tail_test v low high false e = refl

pub range_test : (address : List ℕ) (low high : ℕ) (r : Row) → list_all (holds ((Text address ∷ Int (pos low) ∷ Int (pos high) ∷ []) ∷ r ∷ [])) range_tests ≡ is_at address r && is_within low high r
range_test address low high r =
    let v = column r 2 in
    let rest = ap (λ b. b && (is_true (binary (Compare Le Binary) v (Int (pos high))) && true)) (at_least_int v (pos low)) ∙ tail_test v (pos low) (pos high) _ refl in
    ap₂ ◌&&◌ (equals_text (column r 1) address) rest

pub part_test : (address : List ℕ) (low high : ℕ) (r : Row) → list_all (holds ((Text address ∷ Int (pos low) ∷ Int (pos high) ∷ []) ∷ r ∷ [])) part_tests ≡ is_part address low high r
part_test address low high r = ap₂ ◌&&◌ (equals_text (column r 1) address) (ap (λ b. b && (is_true (binary (Compare Lt Binary) v (Int (pos high))) && true)) (at_least_int v (pos low)) ∙ tail _ refl)
  where
    v : Value
    v = column r 2

    tail : (b : Bool) → is_ge (value_cmp v (Int (pos low))) ≡ b → (b && (is_true (binary (Compare Lt Binary) v (Int (pos high))) && true)) ≡ (b && is_lt (value_cmp v (Int (pos high))))
    tail true e = and_true _ ∙ below_int v (pos low) (pos high) e
    tail false e = refl

-- a query leaves the database
pub shown_keeps : (old new : State) (sql : List ℕ) (params : Row) (rows : List Row) → IsPlain (understood old.now.schema sql) → Shown sql params old new rows → new.now ≡ old.now
unfolding Shown
shown_keeps old new sql params rows plain h =
    let none = (subst IsPlain h.1.is plain).0 in
    let it = rw none at h.2 in
    it.3.0.now_is

pub failed_keeps : (old new : State) (too_big : Type 0) (e : Error) → (IsTrue old.is_open → old.now ≡ old.committed) → IsTrue new.is_open → Fails old new too_big e → new.now ≡ old.now
failed_keeps old new too_big e settled up h = (h.3.undone up).0 ∙ sym (settled (h.3.was_open up))

pub refused_keeps : (old new : State) (sql : List ℕ) (params : Row) (e : Error) → IsPlain (understood old.now.schema sql) → (IsTrue old.is_open → old.now ≡ old.committed) → IsTrue new.is_open
    → FailsToQuery sql params old new e → new.now ≡ old.now
unfolding FailsToQuery IsNotRun
refused_keeps old new sql params e plain settled up (inl (inl h)) = h.1.0.now_is
refused_keeps old new sql params e plain settled up (inl (inr h)) = failed_keeps old new ⊥ e settled up h
refused_keeps old new sql params e plain settled up (inr h) =
    let none = (subst IsPlain h.1.is plain).0 in
    let it = rw none at h.2 in
    it.3.0.now_is

pub plain_under : (schema : Schema) (sql : List ℕ) → ((made : Made) → IsPlain (understood (schema_of made) sql)) → IsStoreSchema schema → IsPlain (understood schema sql)
plain_under schema sql plain has = (let found = which schema has in subst (λ s. IsPlain (understood s sql)) (sym found.1) (plain found.0))

-- whatever it answers
pub query_keeps : {X : Type 0} (show : X → List Row) (old new : State) (sql : List ℕ) (params : Row) (r : Result X Error) → IsPlain (understood old.now.schema sql)
    → (IsTrue old.is_open → old.now ≡ old.committed) → IsTrue new.is_open → IfOk r (λ x. Shown sql params old new (show x)) → IfErr r (FailsToQuery sql params old new) → new.now ≡ old.now
query_keeps show old new sql params (Ok x) plain settled up ok err = shown_keeps old new sql params (show x) plain ok
query_keeps show old new sql params (Err e) plain settled up ok err = refused_keeps old new sql params e plain settled up err

-- a query that runs, or is refused, finds the connection open where it leaves it open
pub shown_opens : (old new : State) (sql : List ℕ) (params : Row) (rows : List Row) → Shown sql params old new rows → IsTrue old.is_open
unfolding Shown
shown_opens old new sql params rows (c, it, h) = go c.returning h
  where
    go : (what : Option Returning) → ShowsRows old new sql c (timed params c.formats it.now) rows what → IsTrue old.is_open
    go None h = h.3.0.was_open
    go (Some what) h = h.1.shown.was_open

command_opens : (old new : State) (sql : List ℕ) (c : Compiled) (params : Row) (e : Error) → IsTrue new.is_open → RunsCommand old new sql c params (Err e) → IsTrue old.is_open
command_opens old new sql c params e up (inl h) = h.1.0.was_open
command_opens old new sql c params e up (inr h) = h.3.was_open up

pub refused_opens : (old new : State) (sql : List ℕ) (params : Row) (e : Error) → IsTrue new.is_open → FailsToQuery sql params old new e → IsTrue old.is_open
unfolding FailsToQuery IsNotRun
refused_opens old new sql params e up (inl (inl h)) = h.1.0.was_open
refused_opens old new sql params e up (inl (inr h)) = h.3.was_open up
refused_opens old new sql params e up (inr (c, it, h)) = go c.returning h
  where
    go : (what : Option Returning) → FailsToShow old new sql c (timed params c.formats it.now) e what → IsTrue old.is_open
    go None h = h.3.0.was_open
    go (Some what) h = command_opens old new sql c (timed params c.formats it.now) e up h

pub query_opens : {X : Type 0} (show : X → List Row) (old new : State) (sql : List ℕ) (params : Row) (r : Result X Error) → IsTrue new.is_open
    → IfOk r (λ x. Shown sql params old new (show x)) → IfErr r (FailsToQuery sql params old new) → IsTrue old.is_open
query_opens show old new sql params (Ok x) up ok err = shown_opens old new sql params (show x) ok
query_opens show old new sql params (Err e) up ok err = refused_opens old new sql params e up err

-- a query that answers leaves the connection open
shown_ends : (old new : State) (sql : List ℕ) (params : Row) (rows : List Row) → Shown sql params old new rows → IsTrue new.is_open
unfolding Shown
shown_ends old new sql params rows (c, it, h) = go c.returning h
  where
    go : (what : Option Returning) → ShowsRows old new sql c (timed params c.formats it.now) rows what → IsTrue new.is_open
    go None h = h.3.0.is_open
    go (Some what) h = h.1.shown.is_open

pub query_ends : {X : Type 0} (show : X → List Row) (old new : State) (sql : List ℕ) (params : Row) (r : Result X Error) → IfOk r (λ x. Shown sql params old new (show x)) → OnOk r (IsTrue new.is_open)
query_ends show old new sql params (Ok x) ok = shown_ends old new sql params (show x) ok
query_ends show old new sql params (Err e) ok = tt
