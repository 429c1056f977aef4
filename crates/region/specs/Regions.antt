-- What a region means and when it is sound, cited by src/region.rt and src/slot.rt. Assumes nothing.
use Rattle.std.specs.Prelude.{ℕ, ◌+◌, ◌^◌, Bool, true, ◌&&◌, Some, None, Option, nat_le, nat_lt}
use Rattle.region.specs.Ranges.{Range}

-- a region: its addresses, and the place of its first byte in the host buffer, or none
pub record Region : Type 0 where
  pub start : ℕ
  pub len : ℕ
  pub place : Option ℕ

-- the addresses of a region
abbrev pub range_of : Region → Range
range_of r = record { start = r.start; len = r.len }

-- what a value of a region type means, by its ghost members
abbrev pub shown : {R : Type 0} → (R → Range) → (R → Option ℕ) → R → Region
shown range place x = record { start = (range x).start; len = (range x).len; place = place x }

-- any host place leaves room for the whole region
abbrev pub placed : ℕ → ℕ → Option ℕ → Bool
placed host len None = true
placed host len (Some p) = nat_le (p + len) host

-- a region is sound when it is not empty, ends at 2^64 at most, and ends within the host buffer if
-- it has a place there
abbrev pub sound : ℕ → Region → Bool
sound host r = nat_lt 0 r.len && (nat_le (r.start + r.len) (2 ^ 64) && placed host r.len r.place)
