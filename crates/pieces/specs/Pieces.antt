-- Drawing the pieces of a range, and the bytes of a piece. Assumes nothing.
use Rattle.std.specs.Prelude.{◌≡◌, ℕ, ◌+◌, ◌-◌, ◌%◌, ◌^◌, ◌<◌, ◌≤◌, min, cond, List, length, take, drop, Some, None, Ok, Err, Option, Result, ◌==◌, ◌≢◌, nat_le, option_and_then}
use Rattle.std.specs.Borrow.{Bor}
use Rattle.address.specs.declared.address.GuestAddress.{GuestAddress}
use Rattle.region.specs.Regions.{Region}
use Rattle.region.specs.Grounds.{Ground, holding}
use Rattle.backend.specs.Resolution.{place_in}
use Rattle.pieces.specs.declared.error.GuestMemoryError.{GuestMemoryError}
use Rattle.pieces.specs.declared.error.GuestMemoryError.TheVariants.{BadHost, InvalidGuestAddress, GuestAddressOverflow, HostAddressNotAvailable, InvalidBackendAddress}
use Rattle.pieces.specs.declared.piece.Piece.{Piece}
use Rattle.pieces.specs.declared.piece.PhysicalCursor.{PhysicalCursor}

abbrev pub guest : ℕ → GuestAddress
guest a = record { 0 = a }

-- the piece of a step: has the region host memory?
abbrev pub placed_piece : Option ℕ → ℕ → Result (Option Piece) GuestMemoryError
placed_piece None len = Err HostAddressNotAvailable
placed_piece (Some p) len = Ok (Some (record { place = p; len = len }))

-- a draw of n bytes at address a: is the address in a region? does the step, as far as the region
-- goes, stay at or below 2^64? has the region host memory?
abbrev pub drawn_in : ℕ → ℕ → Option Region → Result (Option Piece) GuestMemoryError
drawn_in a n None = Err (InvalidGuestAddress (guest a))
drawn_in a n (Some r) =
    cond (nat_le (a + min n (r.start + r.len - a)) (2 ^ 64)) (placed_piece (place_in r a) (min n (r.start + r.len - a))) (Err GuestAddressOverflow)

-- after the end of the range a draw answers nothing
abbrev pub drawn : Ground → ℕ → ℕ → Result (Option Piece) GuestMemoryError
drawn g a n = cond (n == 0) (Ok None) (drawn_in a n (holding g.regions a))

-- what a draw leaves of the range: a refused one ends it, and 2^64 goes on as 0
abbrev pub left_after : PhysicalCursor → Result (Option Piece) GuestMemoryError → PhysicalCursor
left_after c (Err e) = record { addr = c.addr; count = 0 }
left_after c (Ok None) = c
left_after c (Ok (Some p)) = record { addr = guest ((c.addr.0 + p.len) % 2 ^ 64); count = c.count - p.len }

-- the answer of a draw that is not at the end
abbrev pub some_piece : Result Piece GuestMemoryError → Result (Option Piece) GuestMemoryError
some_piece (Ok p) = Ok (Some p)
some_piece (Err e) = Err e

-- a piece of one byte or more, no longer than asked, within the host buffer
abbrev pub Within : ℕ → ℕ → Piece → Type 0
Within host n p = (1 ≤ p.len) × (p.len ≤ n) × (p.place + p.len ≤ host)

-- the host place of an address, where it has one
abbrev pub spot : Ground → ℕ → Option ℕ
spot g a = option_and_then (λ r. place_in r a) (holding g.regions a)

-- the longest piece from an address that stays in the range and in one region: each of its bytes is
-- the host byte of its address, all addresses lie in one region, and a further one would not
pub record Longest (g : Ground) (a n : ℕ) (p : Piece) : Type 0 where
  pub bytes : (i : ℕ) → i < p.len → spot g (a + i) ≡ Some (p.place + i)
  pub region : (i : ℕ) → i < p.len → holding g.regions (a + i) ≡ holding g.regions a
  pub longest : p.len < n → holding g.regions (a + p.len) ≢ holding g.regions a

-- the bytes of a piece: has the host buffer the stated length? does the piece end within it?
abbrev pub piece_bytes : ℕ → List ℕ → Piece → Result (List ℕ) GuestMemoryError
piece_bytes host bytes p =
    cond (length bytes == host) (cond (nat_le (p.place + p.len) (length bytes)) (Ok (take p.len (drop p.place bytes))) (Err InvalidBackendAddress)) (Err BadHost)

-- what a part that is lent holds
abbrev pub seen : Result (Bor (List ℕ)) GuestMemoryError → Result (List ℕ) GuestMemoryError
seen (Ok s) = Ok s.now
seen (Err e) = Err e
