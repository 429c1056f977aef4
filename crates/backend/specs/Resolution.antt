-- An address resolved to its region and its place, cited by src/backend.rt. Assumes nothing.
use Rattle.std.specs.Prelude.{ℕ, ◌+◌, ◌-◌, ◌^◌, cond, List, is_some, Some, None, Option, nat_lt, option_map}
use Rattle.region.specs.Regions.{Region}
use Rattle.region.specs.Grounds.{holding}

-- the region that holds an address, and the distance from the region's start
abbrev pub located : List Region → ℕ → Option (Region × ℕ)
located rs a = option_map (λ r. (r, a - r.start)) (holding rs a)

-- the host place of an address that a region holds: the region's place plus that distance
abbrev pub place_in : Region → ℕ → Option ℕ
place_in r a = option_map (λ p. p + (a - r.start)) r.place

abbrev pub resolved : List Region → ℕ → Option (Region × Option ℕ)
resolved rs a = option_map (λ r. (r, place_in r a)) (holding rs a)

-- an address, absent where no region holds it
abbrev pub present : List Region → ℕ → Option ℕ
present rs a = cond (is_some (holding rs a)) (Some a) None

-- an address plus n, absent where that passes 2^64 - 1 or no region holds it
abbrev pub present_plus : List Region → ℕ → ℕ → Option ℕ
present_plus rs a n = cond (nat_lt (a + n) (2 ^ 64)) (present rs (a + n)) None
