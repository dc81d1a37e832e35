-- Steps of a reader: what is read after a word, a fault that is handed on, a choice.
-- They stand here for the words that are too long for a search to compare.
use Rattle.std.proofs.Common.{◌≡◌, Bool, true, false, List, Some, Result, Ok, Err, refl}
use Rattle.std.specs.Result.{IsErrAnd}
use denote.Ref.{Bor}
use Rattle.xq_atoms.specs.declared.refusals.Fault.{Fault}
use Rattle.xq_atoms.specs.declared.refusals.Fault.TheVariants.{Code as OfCode, Want as OfWant}
use Rattle.xq_atoms.specs.declared.refusals.Code.TheVariants.{XPST0003}
use Rattle.xq_atoms.specs.declared.refusals.Want.TheVariants.{Memory, Store}
use Rattle.xq_lexer.specs.Lexeme.{Lex}
use Rattle.xq_lexer.specs.declared.tokens.Token.{Token}
use Rattle.xq_parser.specs.Look.{Tokens}
use Rattle.xq_parser.specs.private.Reading.{Outcome, Parser, expect, after, mapped, choose}
use Rattle.xq_parser.specs.private.Parses.{ParsesNot, Parses}

module _ {A : Type 0} (t : Lex) (p : Parser A) where
  pub goes_on : (ts mid : Tokens) (r : Result (A × Bor (List Token)) Fault) → expect t ts ≡ Some (tt, mid) → Parses r (p mid) → Parses r (after t p ts)
  goes_on ts mid r e h = rw e h

  pub stops : (ts : Tokens) (fault : Fault) → ParsesNot fault (expect t ts) → ParsesNot fault (after t p ts)
  stops ts (OfWant Memory) h = tt
  stops ts (OfWant Store) h = absurd h
  stops ts (OfCode XPST0003) h = rw h refl
  stops ts (OfCode _) h = absurd h

module _ {A B : Type 0} (f : A → B) where
  fails_mapped : (p : Parser A) (ts : Tokens) (fault : Fault) → ParsesNot fault (p ts) → ParsesNot fault (mapped f p ts)
  fails_mapped p ts (OfWant Memory) h = tt
  fails_mapped p ts (OfWant Store) h = absurd h
  fails_mapped p ts (OfCode XPST0003) h = rw h refl
  fails_mapped p ts (OfCode _) h = absurd h

  module _ (t : Lex) (p : Parser A) where
    pub reads_after : (ts mid us : Tokens) (a : A) → expect t ts ≡ Some (tt, mid) → p mid ≡ Some (a, us) → mapped f (after t p) ts ≡ Some (f a, us)
    reads_after ts mid us a e h = rw (e, h) refl

    pub fails_at_first : (ts : Tokens) (fault : Fault) → ParsesNot fault (expect t ts) → ParsesNot fault (mapped f (after t p) ts)
    fails_at_first ts fault h = fails_mapped (after t p) ts fault (stops t p ts fault h)

    pub fails_after : (ts mid : Tokens) (fault : Fault) → expect t ts ≡ Some (tt, mid) → ParsesNot fault (p mid) → ParsesNot fault (mapped f (after t p) ts)
    fails_after ts mid fault e h = fails_mapped (after t p) ts fault (rw e h)

-- what a `?` returns
pub handed_on : {A : Type 0} (result : Result (A × Bor (List Token)) Fault) (fault : Fault) (read : Outcome A) → IsErrAnd result (λ f. f ≡ fault) → ParsesNot fault read → Parses result read
handed_on (Ok x) fault read same h = absurd same
handed_on (Err f) fault read same h = rw same h

-- the second and the third of three readers
module _ {A : Type 0} (one two : Tokens → Bool) (p q r : Parser A) (ts : Tokens) where
  pub chooses_second : one ts ≡ false → two ts ≡ true → choose one p (choose two q r) ts ≡ q ts
  chooses_second isnt is = rw (isnt, is) refl

  pub chooses_third : one ts ≡ false → two ts ≡ false → choose one p (choose two q r) ts ≡ r ts
  chooses_third isnt neither = rw (isnt, neither) refl
