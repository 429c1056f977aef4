-- Which words are numbers, and what they stand for: what the clauses of `parse_number` cite. Assumes nothing.
use Rattle.std.specs.Prelude.{ℕ, ◌^◌, ◌<◌, Bool, cond, ◌&&◌, List, drop, ◌==◌, slice_index}
use Rattle.std.specs.Str.Parse.{IsNumeral, digits_value}

-- the word begins with `0x`
abbrev pub marked : List ℕ → Bool
marked w = slice_index w 0 == 48 && slice_index w 1 == 120

-- hexadecimal after `0x`, decimal else
abbrev pub radix : List ℕ → ℕ
radix w = cond (marked w) 16 10

-- what stands after `0x`, or the whole word
abbrev pub digits : List ℕ → List ℕ
digits w = cond (marked w) (drop 2 w) w

-- one digit or more of the radix, and a value of 64 bits
abbrev pub IsNumber : List ℕ → Type 0
IsNumber w = IsNumeral (radix w) (digits w) × (digits_value (radix w) (digits w) < 2 ^ 64)

-- the number that the word stands for
abbrev pub number : List ℕ → ℕ
number w = digits_value (radix w) (digits w)
