-- Floor, ceiling and round are what their names say.
use Rattle.std.proofs.Common.{◌≡◌, ℤ, pos, negsuc, neg_ℤ, arith}
use Rattle.std.specs.Prelude.{◌+ℤ◌, ◌≤ℤ◌, ◌<ℤ◌}
use Rattle.std.specs.Int.{int_div_euclid}
use Rattle.std.proofs.lemmas.Int.{ints}
use Rattle.xq_atoms.specs.Decimal.{one, in_millionths, floored, raised, rounded}
use Rattle.xq_readback.specs.Rounding.{IsFloor, IsCeiling, IsNearest}

-- the quotient that rounds down, in millionths
whole_part : (m : ℤ) → floored m ≡ in_millionths (int_div_euclid m one)
whole_part (pos n) = omega (arith, ints)
whole_part (negsuc n) = omega (arith, ints)

floor_not_greater : (m : ℤ) → floored m ≤ℤ m
floor_not_greater (pos n) = omega (arith, ints)
floor_not_greater (negsuc n) = omega (arith, ints)

next_is_greater : (m : ℤ) → m <ℤ (floored m +ℤ pos 1000000)
next_is_greater (pos n) = omega (arith, ints)
next_is_greater (negsuc n) = omega (arith, ints)

pub floor_is : (m : ℤ) → IsFloor m (floored m)
floor_is m = record {
  whole = (int_div_euclid m one, whole_part m);
  not_greater = floor_not_greater m;
  greatest = λ k below. omega (arith, ints, below, whole_part m, next_is_greater m);
}

pub ceiling_is : (m : ℤ) → IsCeiling m (raised m)
ceiling_is m =
    let f = floor_is (neg_ℤ m) in
    record {
      whole = (neg_ℤ f.whole.0, omega (arith, ints, f.whole.1));
      not_less = omega (arith, ints, f.not_greater);
      least = λ k above. omega (arith, ints, f.greatest (neg_ℤ k) (omega (arith, ints, above)));
    }

pub round_is : (m : ℤ) → IsNearest m (rounded m)
round_is m =
    let f = floor_is (m +ℤ pos 500000) in
    record {
      whole = f.whole;
      not_far_below = omega (arith, ints, next_is_greater (m +ℤ pos 500000));
      not_far_above = f.not_greater;
    }
