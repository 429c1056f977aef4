-- Sums and differences of addresses, cited by the contracts of src/address.rt. Assumes nothing.
use Rattle.std.specs.Prelude.{ℕ, ◌+◌, ◌-◌, ◌%◌, ◌^◌, Bool, cond, Some, None, Option, nat_le, nat_lt}

-- a + b; absent from 2^64 on
abbrev pub sum : ℕ → ℕ → Option ℕ
sum a b = cond (nat_lt (a + b) (2 ^ 64)) (Some (a + b)) None

-- a - b; absent below 0
abbrev pub difference : ℕ → ℕ → Option ℕ
difference a b = cond (nat_le b a) (Some (a - b)) None

-- a + b, from 2^64 on counted from 0 again
abbrev pub wrapped_sum : ℕ → ℕ → ℕ
wrapped_sum a b = (a + b) % 2 ^ 64

abbrev pub passes_top : ℕ → ℕ → Bool
passes_top a b = nat_le (2 ^ 64) (a + b)

-- a - b, below 0 counted from 2^64 down
abbrev pub wrapped_difference : ℕ → ℕ → ℕ
wrapped_difference a b = (a + (2 ^ 64 - b)) % 2 ^ 64

abbrev pub passes_bottom : ℕ → ℕ → Bool
passes_bottom a b = nat_lt a b
