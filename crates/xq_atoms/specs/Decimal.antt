-- Decimals, as whole numbers of millionths.
use Rattle.std.specs.Prelude.{ℤ, pos, neg_ℤ, ◌<ℤ◌, ◌+ℤ◌, ◌-ℤ◌, ◌*ℤ◌, int_lt, Bool, ◌&&◌}
use Rattle.std.specs.Int.{int_rem_euclid}

-- of a magnitude below 10^25
abbrev pub IsDecimal : ℤ → Type 0
IsDecimal m = ((pos 0 -ℤ pos 10000000000000000000000000) <ℤ m)
    × (m <ℤ pos 10000000000000000000000000)

-- the same, as a test
abbrev pub is_decimal : ℤ → Bool
is_decimal m = int_lt (neg_ℤ (pos 10000000000000000000000000)) m
    && int_lt m (pos 10000000000000000000000000)

-- as many millionths make one
abbrev pub one : ℤ
one = pos 1000000

-- the millionths of a whole number
abbrev pub in_millionths : ℤ → ℤ
in_millionths n = n *ℤ one

-- F&O 3.1, 4.4.3: the greatest whole number that is not greater; the remainder is from 0 to 999,999
abbrev pub floored : ℤ → ℤ
floored m = m -ℤ int_rem_euclid m one

-- F&O 3.1, 4.4.2: the least whole number that is not less
abbrev pub raised : ℤ → ℤ
raised m = neg_ℤ (floored (neg_ℤ m))

-- F&O 3.1, 4.4.4: the nearest whole number, and of two the greater
abbrev pub rounded : ℤ → ℤ
rounded m = floored (m +ℤ pos 500000)
