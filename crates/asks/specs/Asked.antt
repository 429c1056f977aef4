-- What each question is answered, by the meaning of the memory. Assumes nothing.
use Rattle.std.specs.Prelude.{◌≡◌, ℕ, ◌+◌, ◌-◌, ◌*◌, ◌%◌, ◌^◌, ◌<◌, List, [], ◌∷◌, Some, None, Ok, Err, vec_items, Option, Result, bit_xor, fold}
use Rattle.std.specs.Option.{option_map_or}
use Rattle.region.specs.Regions.{Region}
use Rattle.region.specs.Grounds.{Ground, holding}
use Rattle.pieces.specs.Pieces.{drawn}
use Rattle.pieces.specs.Refused.{memory_refusal}
use Rattle.pieces.specs.declared.error.GuestMemoryError.{GuestMemoryError}
use Rattle.refusal.specs.declared.Refusal.{Refusal}
use Rattle.refusal.specs.declared.Refusal.TheVariants as refused
use Rattle.answers.specs.declared.Span.{Span}
use Rattle.answers.specs.declared.Answer.{Answer}
use Rattle.answers.specs.declared.Answer.TheVariants.{Number, Absent, Region as Found, Pieces, Bytes, Refused, Error, Done, Checked, Removed}

abbrev pub number_or_none : Option ℕ → Answer
number_or_none o = option_map_or Number o Absent

-- a region by its addresses and its place
abbrev pub region_or_none : Option Region → Answer
region_or_none o = option_map_or (λ r. Found (record { start = r.start; len = r.len }) r.place) o Absent

-- the region that holds an address
abbrev pub found : Ground → ℕ → Answer
found g a = region_or_none (holding g.regions a)

-- all pieces that a range draws, one draw after another, and what ends them: nothing is left of the
-- range, or a draw is refused
abbrev pub Draws : Ground → ℕ → ℕ → List Span → Option Refusal → Type 0
Draws g a n [] None = drawn g a n ≡ Ok None
Draws g a n [] (Some r) = (e : GuestMemoryError) × (drawn g a n ≡ Err e) × (r ≡ memory_refusal e)
Draws g a n (s ∷ ss) end = (drawn g a n ≡ Ok (Some (record { place = s.start; len = s.len }))) × Draws g ((a + s.len) % 2 ^ 64) (n - s.len) ss end

-- the answer to a range: is the access a raw value of permissions? then its pieces
abbrev pub Sliced : Ground → ℕ → ℕ → ℕ → Answer → Type 0
Sliced g a n access (Pieces ps end) = (access < 4) × Draws g a n (vec_items ps) end
Sliced g a n access (Refused r) = (3 < access) × (r ≡ refused.BadPermissions)
Sliced g a n access Done = ⊥
Sliced g a n access (Number m) = ⊥
Sliced g a n access Absent = ⊥
Sliced g a n access (Found s p) = ⊥
Sliced g a n access (Removed m s p) = ⊥
Sliced g a n access (Checked r m b) = ⊥
Sliced g a n access (Bytes bs) = ⊥
Sliced g a n access Error = ⊥

-- the answer to a piece of the host bytes
abbrev pub Shown : Result (List ℕ) GuestMemoryError → Answer → Type 0
Shown (Ok xs) (Bytes bs) = vec_items bs ≡ xs
Shown (Err e) (Refused r) = r ≡ memory_refusal e
Shown x Done = ⊥
Shown x (Number m) = ⊥
Shown x Absent = ⊥
Shown x (Found s p) = ⊥
Shown x (Removed m s p) = ⊥
Shown x (Checked r m b) = ⊥
Shown x (Pieces ps end) = ⊥
Shown x Error = ⊥
Shown (Ok xs) (Refused r) = ⊥
Shown (Err e) (Bytes bs) = ⊥

-- the byte that a new host buffer has at a place
abbrev pub filler : ℕ → ℕ
filler p = (7 * p + 3) % 256

-- the FNV-1a hash of 64 bits, from the left
abbrev pub fnv : ℕ → List ℕ → ℕ
fnv h bs = fold (λ h b. (bit_xor h b * 0x100000001b3) % 2 ^ 64) h bs
