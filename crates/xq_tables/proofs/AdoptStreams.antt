-- What the queries of an adoption give whose rows are read one at a time.
use Rattle.std.proofs.Common.{◌≡◌, inl, inr, ℕ, List, [], ◌++◌, length, Result, Ok, Err, IsTrue, refl, sym, ap, subst, ◌∙◌}
use Rattle.std.specs.List.Sorted.{IsSorted}
use Rattle.sqlite_value.specs.Order.{Row}
use Rattle.sqlite_trees.specs.declared.store.Store.{Ghosts}
use Rattle.sqlite_schema.specs.Program.{let_in}
use Rattle.sqlite_resolve.specs.declared.compiled.Compiled.{Compiled}
use Rattle.sqlite_sql.specs.Program.{Ends}
use Rattle.sqlite.specs.Clock.{timed}
use Rattle.sqlite.specs.Command.{Command}
use Rattle.sqlite.specs.Command.TheVariants.{Select}
use Rattle.sqlite.specs.Effect.{Database}
use Rattle.sqlite.specs.Given.{HasBegun}
use Rattle.sqlite.specs.Held.{Held, state}
use Rattle.sqlite.specs.Listing.{understood, reads_listing, IsSourceOf}
use Rattle.sqlite.specs.State.{IsStatement}
use Rattle.sqlite.proofs.Callers.{IsPlain, EndsIn, begun_plain, given_begin, begins_shown, unchanged_then}
use Rattle.xq_tables.specs.Documents.{AreApart, HaveInts}
use Rattle.xq_tables.specs.declared.findings.FoundDocument.{FoundDocument}
use Rattle.xq_tables.specs.private.Adopt.{by_place, AreDocumentRuns, AreFoundIn, IsBare, IsSelect, ShowsDocuments, ShowsIds, ShowsNoDocuments, ShowsOthers}
use Rattle.xq_tables.specs.private.Streams.{GivesRows}
use Rattle.xq_tables.proofs.Streams.{gives_shown, shown_since, unchanged_itself}

-- a SELECT without WITH comes to an end
ends_bare : (command : Command) (db : Database) (params : Row) → IsBare command → EndsIn command db params
ends_bare (Select q names) db params bare = subst (λ lets. Ends db.trees params [] (Rattle.std.proofs.Common.map let_in lets)) (sym bare) tt
ends_bare _ db params bare = absurd bare

module _ {S : Type 0} (g : Ghosts S) (old begun new : Held S) (text : List ℕ) (it : HasBegun g text [] old begun) (plain : IsPlain (understood old.schema text)) where
  pub ids_streamed : (count : ℕ) → GivesRows g begun new (λ given. AreApart given × HaveInts given × (count ≡ length given)) → ShowsIds g text old count
  ids_streamed count gives =
      let all = gives_shown g text [] old begun it plain new (λ given. AreApart given × HaveInts given × (count ≡ length given)) gives in
      (new, all.0, all.1, all.2.0, all.2.1, all.2.2)

  pub documents_streamed : (found : List FoundDocument) (count : ℕ) → GivesRows g begun new (λ given. (IsSorted by_place given → AreDocumentRuns given × AreFoundIn given found) × (count ≡ length given)) → ShowsDocuments g text old found count
  documents_streamed found count gives =
      let all = gives_shown g text [] old begun it plain new (λ given. (IsSorted by_place given → AreDocumentRuns given × AreFoundIn given found) × (count ≡ length given)) gives in
      (new, all.0, all.1, all.2.0, all.2.1)

  -- rows that were given begin an answer
  pub others_streamed : IsSelect (understood old.schema text) → IsTrue (state g new).is_open → ShowsNoDocuments g begun new → ShowsOthers g text old
  others_streamed select up (inl begins) =
      let began = begun_plain g text [] old begun plain it in
      let given = begins.given text [] began.0 in
      let same = unchanged_then (state g old) (state g begun) (state g new) began.1 begins.same in
      let schema : new.schema ≡ old.schema = ap (λ (d : Database). d.schema) same.0.now_is in
      let ends : (c : Compiled) (db : Database) (st : IsStatement (state g new) text [] c) → IsSourceOf (reads_listing new.schema text) (state g new).now db → EndsIn c.command db (timed [] c.formats st.now) =
      λ c db st source. ends_bare c.command db _ (subst IsSelect (ap (λ s. understood s text) (sym schema) ∙ st.is) select) in
      let whole = begins_shown text [] (state g new) (state g new) given.0 (given_begin g text [] new given.0 given.1) (unchanged_itself (state g new) up) ends in
      (new, given.0 ++ whole.0, shown_since text [] (state g old) (state g new) (state g new) (given.0 ++ whole.0) plain same whole.1, given.2 whole.0)
  others_streamed select up (inr gives) =
      let all = gives_shown g text [] old begun it plain new (λ given. IsSorted by_place given → ¬ AreDocumentRuns given) gives in
      (new, all.0, all.1, all.2)
