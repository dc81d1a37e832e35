-- What atomic values are quoted as gives them again.
use Rattle.std.proofs.Common.{◌≡◌, ℕ, suc, Bool, true, false, List, [], ◌∷◌, ℤ, pos, negsuc, Ok, arith, refl, sym, ap, ◌∙◌, subst}
use Rattle.std.specs.Prelude.{codes, if◌then◌else◌, int_lt, nat_abs}
use Rattle.std.specs.Ordering.{int_eq}
use Rattle.std.proofs.lemmas.Bool.Decides.{nat_tests}
use Rattle.std.proofs.lemmas.Bool.{false≢true}
use Rattle.xq_atoms.specs.Text.{Text}
use Rattle.xq_atoms.specs.Atom.{Atomic, Integer, Decimal, String, Boolean, Untyped, is_integer}
use Rattle.xq_atoms.specs.Decimal.{is_decimal}
use Rattle.xq_expressions.specs.declared.expressions.Expr.{Expr}
use Rattle.xq_expressions.specs.declared.expressions.Expr.TheVariants as e
use Rattle.xq_expressions.specs.declared.expressions.Clause.TheOpen.{Expr-F}
use Rattle.xq_expressions.specs.declared.operators.Sign.TheVariants.{Minus}
use Rattle.xq_parser.specs.Grammar.{unprefixed, with_prefix}
use Rattle.xq_trees.specs.Tree.{Tree}
use Rattle.xq_meaning.specs.Items.{Item, Atom}
use Rattle.xq_meaning.specs.Forms
use Rattle.xq_meaning.specs.Doing.{Outcome}
use Rattle.xq_meaning.specs.Meaning.{Frame, Meaning, form_meaning, mean}
use Rattle.xq_meaning.proofs.Equations as mean
use Rattle.xq_readback.specs.Quoted.{cast, least, with_sign, quoted_integer, quoted_atomic}
use Rattle.xq_meaning.specs.Printable.{IsValue}

-- the expression gives these items, and leaves the trees
abbrev pub GivesItems : Expr → Frame → List Tree → List Item → Type 0
GivesItems x frame trees xs = ◌≡◌ {A = Outcome (List Item)} (mean x frame trees) (Ok xs, trees)

pub is_below : (k : ℕ) → int_lt (negsuc k) (pos 0) ≡ true
is_below k = grind (arith, nat_tests)

pub is_not_below : (k : ℕ) → int_lt (pos k) (pos 0) ≡ false
is_not_below k = grind (arith, nat_tests)

no_least : (k : ℕ) → int_eq (pos k) least ≡ false
no_least k = grind (arith, nat_tests)

least_is : (n : ℤ) → int_eq n least ≡ true → n ≡ least
least_is n h = grind (arith, nat_tests)

module _ (frame : Frame) (trees : List Tree) where
  -- literals give their values
  pub text-gives : (t : Text) → GivesItems (e.Str t) frame trees (Atom (String t) ∷ [])
  text-gives t = ap (λ (m : Meaning). m frame trees) (mean.mean-Str t)

  int-gives : (n : ℤ) → GivesItems (e.Int n) frame trees (Atom (Integer n) ∷ [])
  int-gives n = ap (λ (m : Meaning). m frame trees) (mean.mean-Int n)

  dec-gives : (m : ℤ) → GivesItems (e.Dec m) frame trees (Atom (Decimal m) ∷ [])
  dec-gives m = ap (λ (x : Meaning). x frame trees) (mean.mean-Dec m)

  -- casts of literals give theirs; that of a concrete text computes
  untyped-gives : (t : Text) → GivesItems (cast (codes "untypedAtomic") t) frame trees (Atom (Untyped t) ∷ [])
  untyped-gives t =
      ap (λ (m : Meaning). m frame trees)
      (mean.mean-Call (with_prefix (codes "xs") (codes "untypedAtomic")) (e.Str t ∷ [])
      ∙ ap (λ (m : Meaning). form_meaning (Expr-F.Call (with_prefix (codes "xs") (codes "untypedAtomic")) (m ∷ []))) (mean.mean-Str t))

  least-gives : GivesItems (cast (codes "integer") (codes "-9223372036854775808")) frame trees (Atom (Integer least) ∷ [])
  least-gives =
      ap (λ (m : Meaning). m frame trees)
      (mean.mean-Call (with_prefix (codes "xs") (codes "integer")) (e.Str (codes "-9223372036854775808") ∷ [])
      ∙ ap (λ (m : Meaning). form_meaning (Expr-F.Call (with_prefix (codes "xs") (codes "integer")) (m ∷ []))) (mean.mean-Str (codes "-9223372036854775808")))

  true-gives : (b : Bool) → GivesItems (quoted_atomic (Boolean b)) frame trees (Atom (Boolean b) ∷ [])
  true-gives true = ap (λ (m : Meaning). m frame trees) (mean.mean-Call (unprefixed (codes "true")) [])
  true-gives false = ap (λ (m : Meaning). m frame trees) (mean.mean-Call (unprefixed (codes "false")) [])

  -- a minus before a literal
  minus : (x : Expr) (m : Meaning) → mean x ≡ m → mean (e.Unary (Minus ∷ []) x) frame trees ≡ Forms.unary (Minus ∷ []) m frame trees
  minus x m is = ap (λ (f : Meaning). f frame trees) (mean.mean-Unary (Minus ∷ []) x ∙ ap (λ (f : Meaning). form_meaning (Expr-F.Unary (Minus ∷ []) f)) is)

  minus-int : (k : ℕ) → is_integer (negsuc k) ≡ true → GivesItems (e.Unary (Minus ∷ []) (e.Int (pos (suc k)))) frame trees (Atom (Integer (negsuc k)) ∷ [])
  minus-int k h = minus (e.Int (pos (suc k))) (form_meaning (Expr-F.Int (pos (suc k)))) (mean.mean-Int (pos (suc k))) ∙ rw h refl

  minus-dec : (k : ℕ) → is_decimal (negsuc k) ≡ true → GivesItems (e.Unary (Minus ∷ []) (e.Dec (pos (suc k)))) frame trees (Atom (Decimal (negsuc k)) ∷ [])
  minus-dec k h = minus (e.Dec (pos (suc k))) (form_meaning (Expr-F.Dec (pos (suc k)))) (mean.mean-Dec (pos (suc k))) ∙ rw h refl

  -- an integer by whether it is the least, and below zero
  integer_at : (n : ℤ) (b c : Bool) → int_eq n least ≡ b → int_lt n (pos 0) ≡ c → is_integer n ≡ true
      → GivesItems (if b then cast (codes "integer") (codes "-9223372036854775808") else with_sign c (e.Int (pos (nat_abs n)))) frame trees (Atom (Integer n) ∷ [])
  integer_at n true c same l h = subst (λ n. GivesItems (cast (codes "integer") (codes "-9223372036854775808")) frame trees (Atom (Integer n) ∷ [])) (sym (least_is n same)) least-gives
  integer_at (pos k) false false same l h = int-gives (pos k)
  integer_at (pos k) false true same l h = absurd (false≢true (sym (is_not_below k) ∙ l))
  integer_at (negsuc k) false true same l h = minus-int k h
  integer_at (negsuc k) false false same l h = absurd (false≢true (sym l ∙ is_below k))

  integer-gives : (n : ℤ) → is_integer n ≡ true → GivesItems (quoted_integer n) frame trees (Atom (Integer n) ∷ [])
  integer-gives n h = integer_at n (int_eq n least) (int_lt n (pos 0)) refl refl h

  decimal_at : (m : ℤ) (c : Bool) → int_lt m (pos 0) ≡ c → is_decimal m ≡ true → GivesItems (with_sign c (e.Dec (pos (nat_abs m)))) frame trees (Atom (Decimal m) ∷ [])
  decimal_at (pos k) false l h = dec-gives (pos k)
  decimal_at (pos k) true l h = absurd (false≢true (sym (is_not_below k) ∙ l))
  decimal_at (negsuc k) true l h = minus-dec k h
  decimal_at (negsuc k) false l h = absurd (false≢true (sym l ∙ is_below k))

  decimal-gives : (m : ℤ) → is_decimal m ≡ true → GivesItems (quoted_atomic (Decimal m)) frame trees (Atom (Decimal m) ∷ [])
  decimal-gives m h = decimal_at m (int_lt m (pos 0)) refl h

  -- each atomic value is given again
  pub value-gives : (a : Atomic) → IsValue a → GivesItems (quoted_atomic a) frame trees (Atom a ∷ [])
  value-gives (Integer n) h = integer-gives n h
  value-gives (Decimal m) h = decimal-gives m h
  value-gives (String t) h = text-gives t
  value-gives (Boolean b) h = true-gives b
  value-gives (Untyped t) h = untyped-gives t
