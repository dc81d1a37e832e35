-- An operation on atoms is its calculation on their numbers.
use Rattle.std.proofs.Common.{◌≡◌, ℤ, Ok, ap, sym, ◌∙◌}
use Rattle.xq_atoms.specs.declared.arithmetic.Number.{Number}
use Rattle.xq_atoms.specs.declared.arithmetic.Number.TheVariants.{Integer as AnInteger, Decimal as ADecimal}
use Rattle.xq_atoms.specs.declared.arithmetic.Operands.{Operands as Pair}
use Rattle.xq_atoms.specs.declared.arithmetic.Operands.TheVariants.{Integers as TwoIntegers, Decimals as TwoDecimals}
use Rattle.xq_atoms.specs.Judged.{Judged, ◌>>=◌}
use Rattle.xq_atoms.specs.Atom.{Atomic, numeric, integer, decimal}
use Rattle.xq_atoms.specs.Arithmetic.{operands, on_operands, arithmetic, on_number, on_one}
use Rattle.xq_atoms.specs.private.Numbers.{number_of, operands_of}

pub arithmetic-Integers : (f g : ℤ → ℤ → Judged Atomic) (a b : Atomic) (o : Pair) (m n : ℤ) → operands_of (Ok o) ≡ operands a b → o ≡ TwoIntegers m n → arithmetic f g a b ≡ f m n
arithmetic-Integers f g a b o m n known is = ap (λ x. x >>= on_operands f g) (sym known ∙ ap (λ x. operands_of (Ok x)) is)

pub arithmetic-Decimals : (f g : ℤ → ℤ → Judged Atomic) (a b : Atomic) (o : Pair) (m n : ℤ) → operands_of (Ok o) ≡ operands a b → o ≡ TwoDecimals m n → arithmetic f g a b ≡ g m n
arithmetic-Decimals f g a b o m n known is = ap (λ x. x >>= on_operands f g) (sym known ∙ ap (λ x. operands_of (Ok x)) is)

pub on_one-Integer : (f g : ℤ → ℤ) (a : Atomic) (x : Number) (n : ℤ) → number_of (Ok x) ≡ numeric a → x ≡ AnInteger n → on_one f g a ≡ integer (f n)
on_one-Integer f g a x n known is = ap (λ y. y >>= on_number f g) (sym known ∙ ap (λ y. number_of (Ok y)) is)

pub on_one-Decimal : (f g : ℤ → ℤ) (a : Atomic) (x : Number) (m : ℤ) → number_of (Ok x) ≡ numeric a → x ≡ ADecimal m → on_one f g a ≡ decimal (g m)
on_one-Decimal f g a x m known is = ap (λ y. y >>= on_number f g) (sym known ∙ ap (λ y. number_of (Ok y)) is)
