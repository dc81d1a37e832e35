-- Queries write nothing, whatever tables there are.
use Rattle.std.proofs.Common.{◌≡◌, ℕ, List, Bool, true, false, Result, Ok, Err, Option, None, if◌then◌else◌, IfOk, IsSome, refl, subst}
use Rattle.sqlite_schema.specs.declared.schema.Schema.{Schema}
use Rattle.sqlite_schema.specs.declared.command.Command.{Command}
use Rattle.sqlite_schema.specs.declared.command.Returning.{Returning}
use Rattle.sqlite_resolve.specs.declared.compiled.Compiled.{Compiled}
use Rattle.sqlite_resolve.specs.declared.error.CompileError.{CompileError}
use Rattle.sqlite_resolve.specs.declared.error.CompileError.TheVariants.{NoSuchTable}
use Rattle.sqlite_resolve.specs.Lowering.{Checked, and_then}
use Rattle.sqlite_resolve.specs.Compile.{first, returning, meaning, planned, with_command, compiled}
use Rattle.sqlite_tied.specs.Compute.{everything}
use Rattle.sqlite.specs.Given.{Returns}
use Rattle.sqlite.specs.Listing.{understood, reads_listing, listing_schema, if_select, is_select}
use Rattle.xq_tables.proofs.LabelTexts.{number_text, part_rows_text}

-- # Texts

-- under no schema does the text show rows of a write
abbrev pub ShowsNoWrite : List ℕ → Type 0
ShowsNoWrite sql = IfOk (first sql) (λ p. (schema : Schema) (base : ℕ) → returning schema base p.statement ≡ Ok None)

pub number_reads : ShowsNoWrite number_text
unfolding first returning everything
number_reads schema base = refl

pub part_rows_reads : ShowsNoWrite part_rows_text
unfolding first returning everything
part_rows_reads schema base = refl

abbrev Plan : Type 0
Plan = List (List ℕ) × (Command × Option Returning)

steps_silent : (with_plan : Plan → Compiled) → ((plan : Plan) → (with_plan plan).returning ≡ plan.1.1) → (formats : List (List ℕ)) (shown : Checked (Option Returning)) (c : Checked Command) → shown ≡ Ok None
    → ¬ Returns (and_then (and_then (and_then shown (λ s. and_then c (λ k. Ok (k, s)))) (λ found. Ok (formats, found))) (λ plan. Ok (with_plan plan)))
steps_silent with_plan keeps formats shown (Ok k) is some = (let h = rw is at some in absurd (let e = subst IsSome (keeps (formats, (k, None))) h in cc))
steps_silent with_plan keeps formats shown (Err e) is some = (let h = rw is at some in h)

compiled_silent : (schema : Schema) (sql : List ℕ) → ShowsNoWrite sql → ¬ Returns (compiled schema sql)
unfolding compiled planned meaning
compiled_silent schema sql reads = elim (first sql) as (λ r. IfOk r (λ p. (schema : Schema) (base : ℕ) → returning schema base p.statement ≡ Ok None) → ¬ Returns (and_then r (λ p. and_then (planned schema p) (λ plan. Ok (with_command p plan))))) [
  | Ok p ↦ λ reads. steps_silent (with_command p) (λ plan. refl) _ _ _ (reads schema _)
  | Err e ↦ λ reads some. some
] reads

pub silent : (schema : Schema) (sql : List ℕ) → ShowsNoWrite sql → ¬ Returns (understood schema sql)
unfolding understood
silent schema sql reads = go (reads_listing schema sql)
  where
    alone : (c : Compiled) (b : Bool) → ¬ Returns (Ok c) → ¬ Returns (if b then Ok c else Err NoSuchTable)
    alone c true none some = none some
    alone c false none some = some

    chosen : (r : Result Compiled CompileError) → ¬ Returns r → ¬ Returns (if_select r)
    chosen (Ok c) none some = alone c (is_select c.command) none some
    chosen (Err e) none some = some

    go : (b : Bool) → ¬ Returns (if b then if_select (compiled listing_schema sql) else compiled schema sql)
    go true = chosen (compiled listing_schema sql) (compiled_silent listing_schema sql reads)
    go false = compiled_silent schema sql reads
