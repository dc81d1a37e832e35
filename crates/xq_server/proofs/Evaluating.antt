-- From a view of a store to what is made of a query's value over its documents.
use Rattle.std.proofs.Common.{◌≡◌, ◌≤◌, ℕ, zero, suc, List, [], ◌∷◌, map, length, Some, Result, Ok, Err, String, Global, string_bytes, refl, sym, ◌∙◌, ap, subst, arith}
use Rattle.std.specs.Prelude.{IfOk, slice_get}
use Rattle.std.specs.List.{AllByRecursion}
use Rattle.std.specs.FinMap.{keys, values, entries}
use Rattle.sqlite_trees.specs.declared.store.Store.{Ghosts}
use Rattle.sqlite.specs.Held.{Held}
use Rattle.xq_atoms.specs.Judged.{Judged}
use Rattle.xq_atoms.specs.Answers.{GivesUnlessWanting}
use Rattle.xq_atoms.specs.declared.refusals.Fault.{Fault}
use Rattle.xq_atoms.specs.declared.refusals.Fault.TheVariants.{Code as OfCode, Want as OfWant}
use Rattle.xq_trees.specs.Tree.{Tree, IsTree}
use Rattle.xq_meaning.specs.declared.plans.Plan.{Plan}
use Rattle.xq_queries.specs.Values.{Value, plan_value, reply_text}
use Rattle.xq_queries.specs.ReadBack.{HaveNumbersInRange}
use Rattle.sqlite.specs.Effect.{Database}
use Rattle.xq_readback.specs.Legible.{AreTrees}
use Rattle.xq_tables.specs.Documents.{Map, IsStore, IsClean, IsOpen, StandsFor, tree_at, documents_in}
use Rattle.xq_tables.specs.Labels.{shown_rows}
use Rattle.xq_tables.proofs.Keys.{values_are, get_at}
use Rattle.xq_tables.proofs.Ranges.{own_document}
use Rattle.xq_store.specs.Views.{Beginning, HeldDocuments, StoodFor, WasClean, WasOpen, beginning}
use Rattle.xq_sources.specs.Meters.{Readings, no_readings}
use Rattle.xq_sources.specs.Sums.{sum}
use Rattle.xq_server.specs.private.Work.{Makes, MakesText}

same_lengths : {A B : Type 0} (es : List (A × B)) → length (map (λ e. e.0) es) ≡ length (map (λ e. e.1) es)
same_lengths [] = refl
same_lengths (e ∷ es) = let more = same_lengths es in omega (arith, more)

-- there are as many documents as addresses
as_many : (m : Map) (addresses : List (List ℕ)) (trees : List Tree) → addresses ≡ keys m → trees ≡ values m
    → length addresses ≤ length trees
as_many m addresses trees at are =
    let n = ap length at ∙ same_lengths (entries m) ∙ sym (ap length are) in omega (arith, n)

-- the text of a value whose numbers are in range
pub text_made : (v : Judged Value) (result : Result (String Global) Fault) → GivesUnlessWanting string_bytes (reply_text v) result → IfOk result (λ text. HaveNumbersInRange v)
    → Makes MakesText v result
text_made v (Ok text) gives in_range = (gives, in_range)
text_made v (Err (OfCode code)) gives in_range = gives
text_made v (Err (OfWant want)) gives in_range = tt

-- what a plan's value makes over the documents of a map
pub made_over : {P : Type 0} (makes : Judged Value → Judged P → Type 0) (plan : Plan) (m : Map) (addresses : List (List ℕ)) (trees : List Tree)
    (result : Result P Fault) → addresses ≡ keys m → trees ≡ values m
    → (length addresses ≤ length trees → Makes makes (plan_value plan addresses trees) result)
    → Makes makes (plan_value plan (keys m) (values m)) result
made_over makes plan m addresses trees result at are made =
    subst (λ ts. Makes makes (plan_value plan (keys m) ts) result) are
    (subst (λ names. Makes makes (plan_value plan names trees) result) at (made (as_many m addresses trees at are)))

-- Trees that are those of a view.

pub over_trees : (P : List Tree → Type 0) (n : ℕ) (trees same : List Tree) → same ≡ trees → (n ≤ length same → P same) → n ≤ length trees → P trees
over_trees P n trees same is holds = subst (λ ts. n ≤ length ts → P ts) is holds

-- the meter of a view that has read nothing, and that of no constructed tree, show nothing together
pub read_from_none : (P : List Tree → Readings → Readings → Type 0) (n : ℕ) (trees same : List Tree) (before view after : Readings) → same ≡ trees → before ≡ sum view no_readings → view ≡ no_readings
    → (n ≤ length same → P same before after) → n ≤ length trees → P trees no_readings after
read_from_none P n trees same before view after is summed none holds fits =
    subst (λ r. P trees r after) (summed ∙ ap (λ r. sum r no_readings) none) (over_trees (λ ts. P ts before after) n trees same is holds fits)

-- A store, as it was when a view of it began.
module _ {S : Type 0} (g : Ghosts S) (b : Beginning) (store : Held S) (same : beginning g store ≡ b) where
  pub was_clean : WasClean b → IsClean g store
  unfolding WasClean IsClean beginning
  was_clean clean = subst WasClean (sym same) clean

  pub was_open : WasOpen b → IsOpen g store
  unfolding WasOpen IsOpen beginning
  was_open opened = subst WasOpen (sym same) opened

  pub stood : WasOpen b → (m : Map) → StandsFor g store m → StoodFor b m
  unfolding WasOpen StandsFor StoodFor beginning
  stood opened m stands = subst (λ c. StoodFor c m) same (stands (subst WasOpen (sym same) opened))

-- each element that stands at a place
all_at : {A : Type 0} (P : A → Type 0) (xs : List A) → ((i : ℕ) (x : A) → slice_get xs i ≡ Some x → P x) → AllByRecursion P xs
all_at P [] each = tt
all_at P (x ∷ xs) each = (each zero x refl, all_at P xs (λ i y here. each (suc i) y here))

all_mapped : {A B : Type 0} (P : B → Type 0) (f : A → B) (xs : List A) → AllByRecursion (λ x. P (f x)) xs → AllByRecursion P (map f xs)
all_mapped P f [] h = tt
all_mapped P f (x ∷ xs) h = (h.0, all_mapped P f xs h.1)

-- the documents that tables hold are trees
held_trees : (db : Database) → IsStore db → AreTrees (values (documents_in (shown_rows db)))
held_trees db store =
    let table = shown_rows db in
    subst AreTrees (sym (values_are table store.named store.whole))
    (all_mapped IsTree (tree_at table) (keys (documents_in table)) (all_at (λ (a : List ℕ). IsTree (tree_at table a)) (keys (documents_in table)) (λ i a here.
    own_document db a (tree_at table a) store (get_at table store.named store.whole i a here))))

pub stood_trees : (b : Beginning) (m : Map) → StoodFor b m → AreTrees (values m)
unfolding StoodFor
stood_trees b m stood_for = subst (λ (d : Map). AreTrees (values d)) stood_for.1 (held_trees b.database stood_for.0)

-- a fact is one of each value
pub if_any : {T E : Type 0} (r : Result T E) (P : Type 0) → P → IfOk r (λ x. P)
if_any (Ok x) P h = h
if_any (Err e) P h = tt

pub held : (b : Beginning) (m : Map) → StoodFor b m → HeldDocuments b
unfolding StoodFor HeldDocuments
held b m stood_for = stood_for.0
