-- Ranges of addresses, cited by the contracts of src/region.rt. Assumes nothing.
use Rattle.std.specs.Prelude.{ℕ, ◌+◌, ◌-◌, ◌^◌, min, Bool, cond, ◌&&◌, Some, None, Option, nat_le, nat_lt}

-- `len` addresses from `start` on
pub record Range : Type 0 where
  pub start : ℕ
  pub len : ℕ

-- the range holds the address
abbrev pub covers : Range → ℕ → Bool
covers r a = nat_le r.start a && nat_lt a (r.start + r.len)

-- the last address of the range; no address lies above 2^64 - 1
abbrev pub last_address : Range → ℕ
last_address r = min (r.start + (r.len - 1)) (2 ^ 64 - 1)

-- the offset lies within the range
abbrev pub within : Range → ℕ → Bool
within r n = nat_lt n r.len

-- an offset, absent where it does not lie within the range
abbrev pub offset_within : Range → ℕ → Option ℕ
offset_within r n = cond (within r n) (Some n) None

-- an offset plus n, absent where that passes 2^64 - 1 or does not lie within the range
abbrev pub offset_plus : Range → ℕ → ℕ → Option ℕ
offset_plus r k n = cond (nat_lt (k + n) (2 ^ 64)) (offset_within r (k + n)) None

-- how far the address lies above the start; absent where the range does not hold it
abbrev pub offset_of : Range → ℕ → Option ℕ
offset_of r a = cond (covers r a) (Some (a - r.start)) None
