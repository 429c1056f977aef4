-- How numbers and bytes are written: what the clauses on writing cite. Assumes nothing.
use Rattle.std.specs.Prelude.{ℕ, ◌+◌, ◌/◌, ◌%◌, cond, List, [], ◌∷◌, map, ◌==◌, nat_lt}
use Rattle.std.specs.List.{concat}
use Rattle.std.specs.Int.Digits.{digits_of}

-- the figure or lower-case letter of a digit below 16
abbrev pub figure : ℕ → ℕ
figure d = cond (nat_lt d 10) (48 + d) (87 + d)

-- the hexadecimal digits of n with no leading zero, and one zero for 0
abbrev pub figures : ℕ → List ℕ
figures n = cond (n == 0) (48 ∷ []) (map figure (digits_of 16 n))

-- `0x` and the digits
abbrev pub hex : ℕ → List ℕ
hex n = 48 ∷ 120 ∷ figures n

-- the two digits of a byte
abbrev pub pair : ℕ → List ℕ
pair b = figure (b / 16) ∷ figure (b % 16) ∷ []

-- two digits for each byte
abbrev pub pairs : List ℕ → List ℕ
pairs bs = concat (map pair bs)

-- the pairs, and `-` where there is no byte
abbrev pub bytes : List ℕ → List ℕ
bytes [] = 45 ∷ []
bytes (b ∷ bs) = pairs (b ∷ bs)
