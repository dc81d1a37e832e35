-- The laws of printed results put together: a value is printable, and its text is read again.
use Rattle.std.proofs.Common.{◌≡◌, ℕ, List, ◌++◌, Ok, Err, sym, ap, subst}
use Rattle.std.specs.Str.{chars}
use Rattle.xq_lexer.specs.Spelling.{Spells}
use Rattle.xq_meaning.specs.Items.{Item}
use Rattle.xq_meaning.specs.Doing.{Outcome}
use Rattle.xq_meaning.specs.Meaning.{evaluated}
use Rattle.xq_readback.specs.Quoted.{quoted_items, items_tokens}
use Rattle.xq_readback.specs.Readback.{PrintSpells, TokensDerive, QuotedGives}
use Rattle.xq_readback.specs.Results.{ResultsAreLegible, LegibleIsPrintable}
use Rattle.xq_queries.specs.Texts.{characters}
use Rattle.xq_queries.specs.Values.{Value, value_of, printed}
use Rattle.xq_queries.specs.ReadBack.{ReadsBack, ValuesArePrintable}
use Rattle.xq_queries.proofs.Returns.{plain_lines, items_plain}

pub reads_back : PrintSpells → TokensDerive → QuotedGives → ReadsBack
reads_back print_spells tokens_derive quoted_gives = λ v are text addresses others.
    (let spelled = print_spells v.1 v.0 are text in
    let derived = tokens_derive v.1 v.0 are in
    let given = quoted_gives v.1 v.0 are addresses others in
    let lines = plain_lines (printed v) (items_plain v.1 v.0 are) in
    record {
      expression = quoted_items v.1 v.0;
      reads = (
        text,
        (
          items_tokens v.1 v.0,
          subst (λ (t : List ℕ). Spells (chars t) (items_tokens v.1 v.0)) (sym lines) spelled,
          derived,
        ),
      );
      again = (given.items, others ++ given.added);
      is = ap value_of given.is;
      same = given.same;
      text = given.printed;
    })

-- the outcome whose value this is
outcome_of : (o : Outcome (List Item)) (v : Value) → value_of o ≡ Ok v → o ≡ (Ok v.0, v.1)
outcome_of (Ok xs, trees) v e = let same : (xs, trees) ≡ v = cc in ap (λ (w : Value). (Ok w.0, w.1)) same
outcome_of (Err code, trees) v e = absurd cc

pub values_are_printable : ResultsAreLegible → LegibleIsPrintable → ValuesArePrintable
values_are_printable legible printable = λ text e read addresses trees are v is in_range.
    (let result = legible (characters text) read.1.0 e read.1.1 read.1.2.1 addresses trees are v.0 v.1 (outcome_of (evaluated e addresses trees) v is) in
    printable v.1 v.0 result.1 result.0 in_range)
