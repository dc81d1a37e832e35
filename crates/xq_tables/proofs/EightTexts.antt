-- What the text means that inserts eight rows.
use Rattle.std.proofs.Common.{◌≡◌, List, ℕ, [], ◌∷◌, codes, refl}
use Rattle.sqlite.specs.Command.TheVariants.{Insert}
use Rattle.sqlite.specs.Source.TheVariants.{Values}
use Rattle.sqlite.specs.Term.{Term, lit, col}
use Rattle.sqlite.specs.declared.types.Value.TheVariants.{Null}
use Rattle.sqlite_tied.specs.Compute.{everything}
use Rattle.sqlite.specs.Listing.{understood}
use Rattle.sqlite.proofs.Callers.{IsPlain, command_of}
use Rattle.xq_tables.proofs.LabelPlaces.{Made, alone, layout_first, node_first, schema_of, node2_place}

-- eight rows of one address
abbrev pub eight_text : List ℕ
eight_text = codes "INSERT INTO node2 (address, pre, size, level, kind, label, value) VALUES (?1, ?2, ?3, ?4, ?5, ?6, ?7), (?1, ?8, ?9, ?10, ?11, ?12, ?13), (?1, ?14, ?15, ?16, ?17, ?18, ?19), (?1, ?20, ?21, ?22, ?23, ?24, ?25), (?1, ?26, ?27, ?28, ?29, ?30, ?31), (?1, ?32, ?33, ?34, ?35, ?36, ?37), (?1, ?38, ?39, ?40, ?41, ?42, ?43), (?1, ?44, ?45, ?46, ?47, ?48, ?49)"

abbrev pub eight_terms : List Term
eight_terms =
    lit Null ∷ col 0 0 ∷ col 0 1 ∷ col 0 2 ∷ col 0 3 ∷ col 0 4 ∷ col 0 5 ∷ col 0 6
    ∷ lit Null ∷ col 0 0 ∷ col 0 7 ∷ col 0 8 ∷ col 0 9 ∷ col 0 10 ∷ col 0 11 ∷ col 0 12
    ∷ lit Null ∷ col 0 0 ∷ col 0 13 ∷ col 0 14 ∷ col 0 15 ∷ col 0 16 ∷ col 0 17 ∷ col 0 18
    ∷ lit Null ∷ col 0 0 ∷ col 0 19 ∷ col 0 20 ∷ col 0 21 ∷ col 0 22 ∷ col 0 23 ∷ col 0 24
    ∷ lit Null ∷ col 0 0 ∷ col 0 25 ∷ col 0 26 ∷ col 0 27 ∷ col 0 28 ∷ col 0 29 ∷ col 0 30
    ∷ lit Null ∷ col 0 0 ∷ col 0 31 ∷ col 0 32 ∷ col 0 33 ∷ col 0 34 ∷ col 0 35 ∷ col 0 36
    ∷ lit Null ∷ col 0 0 ∷ col 0 37 ∷ col 0 38 ∷ col 0 39 ∷ col 0 40 ∷ col 0 41 ∷ col 0 42
    ∷ lit Null ∷ col 0 0 ∷ col 0 43 ∷ col 0 44 ∷ col 0 45 ∷ col 0 46 ∷ col 0 47 ∷ col 0 48
    ∷ []

pub eight_is : (made : Made) → command_of (understood (schema_of made) eight_text) ≡ Insert (node2_place made) (Values eight_terms 8)
unfolding understood everything
eight_is alone = refl
eight_is layout_first = refl
eight_is node_first = refl

pub eight_plain : (made : Made) → IsPlain (understood (schema_of made) eight_text)
unfolding understood everything
eight_plain alone = (refl, refl)
eight_plain layout_first = (refl, refl)
eight_plain node_first = (refl, refl)
