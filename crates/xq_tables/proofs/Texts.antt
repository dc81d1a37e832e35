-- What parts of the fixed texts mean, and the text that makes the first table.
use Rattle.std.proofs.Common.{◌≡◌, List, ℕ, [], ◌∷◌, codes, Ok, refl}
use Rattle.std.proofs.Common.{None, false, pos, negsuc}
use Rattle.sqlite.specs.Command.TheVariants.{CreateTable, Select}
use Rattle.sqlite.specs.Term.{Term, lit, col, op2}
use Rattle.sqlite.specs.Query.{Query, inner, end}
use Rattle.sqlite.specs.Collation.TheVariants.{Binary}
use Rattle.sqlite.specs.declared.types.Value.TheVariants.{Null, Int}
use Rattle.sqlite_value.specs.declared.keys.Key.{Key}
use Rattle.sqlite_schema.specs.declared.program.Program.{Program}
use Rattle.sqlite_sql.specs.declared.ops.BinaryOp.TheVariants.{Arith, Compare}
use Rattle.sqlite_sql.specs.declared.ops.ArithOp.TheVariants.{Add}
use Rattle.sqlite_sql.specs.declared.ops.CompareOp.TheVariants.{Eq, Lt, Ge, Le}
use Rattle.sqlite.specs.Compile.{table_defined_by}
use Rattle.sqlite_tied.specs.Compute.{everything}
use Rattle.sqlite.specs.Listing.{understood}
use Rattle.sqlite.specs.Command.{Command}
use Rattle.sqlite.proofs.Callers.{IsPlain, command_of, statement_of}
use Rattle.sqlite.specs.Change.{created}
use Rattle.xq_tables.specs.private.Schemas.{layout_schema}
use Rattle.xq_tables.specs.Tables.{no_schema, layout_table}

abbrev pub layout_text : List ℕ
layout_text = codes "CREATE TABLE layout (edition INTEGER NOT NULL) STRICT"

pub layout_is : (command_of (understood no_schema layout_text) ≡ CreateTable) × (statement_of layout_text (understood no_schema layout_text) ≡ layout_text) × (table_defined_by layout_text ≡ Ok layout_table)
unfolding understood everything
layout_is = (refl, refl, refl)

pub makes_layout : created no_schema layout_table ≡ layout_schema
makes_layout = refl

abbrev pub term1 : Term
term1 = op2 (Compare Eq Binary) (col 1 1) (col 0 0)

abbrev pub body : ℕ → List Term → List Term → List (Term × Key) → Query
body tree filter project order = record {
  from = inner tree end;
  filter = filter;
  group = None;
  project = project;
  distinct = false;
  collations = [];
  order = order;
  limit = lit (Int (negsuc 0));
  offset = lit (Int (pos 0));
}

abbrev pub key : Key
key = record { collation = Binary; descending = false }

abbrev pub delete_program : ℕ → List Term → Program
delete_program tree tests = record { lets = []; body = body tree tests (col 1 0 ∷ []) [] }

abbrev pub part_tests : List Term
part_tests = term1 ∷ op2 (Compare Ge Binary) (col 1 2) (col 0 1) ∷ op2 (Compare Lt Binary) (col 1 2) (col 0 2) ∷ []

abbrev pub addresses_tests : List Term
addresses_tests = op2 (Compare Eq Binary) (col 1 2) (lit (Int (pos 0))) ∷ []

abbrev pub addresses_command : ℕ → Command
addresses_command tree = Select (record { lets = []; body = body tree addresses_tests (col 1 1 ∷ []) ((col 1 1, key) ∷ []) }) (codes "address" ∷ [])

abbrev pub range_tests : List Term
range_tests = op2 (Compare Eq Binary) (col 1 1) (col 0 0) ∷ op2 (Compare Ge Binary) (col 1 2) (col 0 1) ∷ op2 (Compare Le Binary) (col 1 2) (col 0 2) ∷ []

abbrev pub kept_terms : List Term
kept_terms = col 1 2 ∷ col 1 3 ∷ col 1 4 ∷ col 1 5 ∷ col 1 6 ∷ col 1 7 ∷ []

abbrev pub kept_names : List (List ℕ)
kept_names = codes "pre" ∷ codes "size" ∷ codes "level" ∷ codes "kind" ∷ codes "name" ∷ codes "value" ∷ []

abbrev pub above_tests : List Term
above_tests = op2 (Compare Eq Binary) (col 1 1) (col 0 0) ∷ op2 (Compare Lt Binary) (col 1 2) (col 0 1) ∷ op2 (Compare Ge Binary) (op2 (Arith Add) (col 1 2) (col 1 3)) (col 0 1) ∷ []

abbrev pub insert_terms : List Term
insert_terms = lit Null ∷ col 0 0 ∷ col 0 1 ∷ col 0 2 ∷ col 0 3 ∷ col 0 4 ∷ col 0 5 ∷ col 0 6 ∷ []

pub layout_plain : IsPlain (understood no_schema layout_text)
unfolding understood everything
layout_plain = (refl, refl)
