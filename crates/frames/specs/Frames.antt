-- Frame memory: what its entries mean and when they are refused. Assumes nothing.
use Rattle.std.specs.Prelude.{ℕ, ◌+◌, ◌-◌, ◌*◌, ◌%◌, ◌^◌, Bool, cond, not, ◌&&◌, List, [], ◌∷◌, length, Some, Option, ◌==◌, nat_le, position}
use Rattle.region.specs.Regions.{Region}
use Rattle.table.specs.Questions.{bad_region}
use Rattle.table.specs.declared.error.GuestRegionCollectionError.{GuestRegionCollectionError}
use Rattle.table.specs.declared.error.GuestRegionCollectionError.TheVariants.{BadRegion}

-- the frame of an entry v above 0: 4,096 addresses from `start`, at host place 4,096 × (v - 1)
abbrev pub frame : ℕ → ℕ → Region
frame start v = record { start = start; len = 4096; place = Some (4096 * (v - 1)) }

-- the present frames of entries, the first of which covers 4,096 addresses from `start`; 0 is absent
abbrev pub frames : ℕ → List ℕ → List Region
frames start [] = []
frames start (v ∷ vs) = cond (v == 0) (frames (start + 4096) vs) (frame start v ∷ frames (start + 4096) vs)

-- is the base a multiple of 4,096, are there 1 to 1,024 entries, do they end at 2^64 at most?
abbrev pub well_shaped : ℕ → List ℕ → Bool
well_shaped base vs = base % 4096 == 0 && (nat_le 1 (length vs) && (nat_le (length vs) 1024 && nat_le (base + 4096 * length vs) (2 ^ 64)))

-- the frame of an entry, if present, ends within the host length
abbrev pub frame_fits : ℕ → ℕ → Bool
frame_fits host v = nat_le (4096 * v) host

-- the index of the first entry whose frame does not
abbrev pub first_outside : ℕ → List ℕ → Option ℕ
first_outside host vs = position (λ v. not (frame_fits host v)) vs

-- what making frame memory is refused for
abbrev pub frames_fault : ℕ → ℕ → List ℕ → Option GuestRegionCollectionError
frames_fault host base vs = cond (well_shaped base vs) (bad_region (first_outside host vs)) (Some (BadRegion 0))
