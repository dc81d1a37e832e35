-- What either of two readers gives is what the choice between them gives.
-- It stands here for the test of a word that is too long for a search to compare.
use Rattle.std.proofs.Common.{◌≡◌, Bool, true, false, List, Result}
use denote.Ref.{Bor}
use Rattle.xq_atoms.specs.declared.refusals.Fault.{Fault}
use Rattle.xq_lexer.specs.declared.tokens.Token.{Token}
use Rattle.xq_parser.specs.Look.{Tokens}
use Rattle.xq_parser.specs.private.Reading.{Parser, choose}
use Rattle.xq_parser.specs.private.Parses.{Parses}

module _ {A : Type 0} (test : Tokens → Bool) (p q : Parser A) (ts : Tokens) (r : Result (A × Bor (List Token)) Fault) where
  pub gives_first : test ts ≡ true → Parses r (p ts) → Parses r (choose test p q ts)
  gives_first is h = rw is h

  pub gives_second : test ts ≡ false → Parses r (q ts) → Parses r (choose test p q ts)
  gives_second isnt h = rw isnt h
