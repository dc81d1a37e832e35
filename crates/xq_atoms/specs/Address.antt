-- The addresses that documents are stored under: 1 to 200 bytes of A-Z a-z 0-9 . _ / -
use Rattle.std.specs.Prelude.{ℕ, ◌<◌, ◌≤◌, List, length, Bool, All, IsTrue, ◌==◌, ◌||◌}
use Rattle.xq_atoms.specs.Characters.{within, is_digit}

-- the greatest length of an address, in bytes
abbrev pub longest_address : ℕ
longest_address = 200

-- A-Z
abbrev pub is_upper : ℕ → Bool
is_upper byte = within 65 90 byte

-- a-z
abbrev pub is_lower : ℕ → Bool
is_lower byte = within 97 122 byte

-- a letter, a digit, or one of  .  _  /  -
abbrev pub is_address_byte : ℕ → Bool
is_address_byte byte =
    is_upper byte || is_lower byte || is_digit byte || byte == 46 || byte == 95 || byte == 47
    || byte == 45

-- an address: 1 to 200 bytes, each of them one that may stand in it
abbrev pub IsAddress : List ℕ → Type 0
IsAddress bytes = (0 < length bytes) × (length bytes ≤ longest_address)
    × All (λ byte. IsTrue (is_address_byte byte)) bytes
