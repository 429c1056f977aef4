-- A draw from a backend that keeps its meaning: the region that is found holds the address and is
-- sound, so none of the guards refuses, and the piece is the longest.
use Rattle.std.proofs.Common.{◌≡◌, ℕ, ◌+◌, ◌-◌, ◌^◌, ◌<◌, ◌≤◌, min, Bool, true, false, cond, eqb, leb, map, length, Some, None, Ok, Err, Option, sym, refl, ap, ◌∙◌, arith, slice_get, option_map, option_and_then}
use Rattle.std.proofs.lemmas.List.{length-map}
use Rattle.std.proofs.lemmas.Option.{slice_get-get_or}
use Rattle.region.specs.Ranges.{Range, covers}
use Rattle.region.specs.Regions.{Region, range_of, sound}
use Rattle.region.specs.Grounds.{Ground, KeepsMeaning, holding}
use Rattle.table.proofs.Tables.{covers_here, covers_parts, found_at}
use Rattle.table.proofs.Made.{at_range}
use Rattle.table.proofs.Found.{find_place, held_at}
use Rattle.backend.specs.Resolution.{place_in}
use Rattle.backend.proofs.Held.{held, held_placed}
use Rattle.pieces.specs.declared.piece.Piece.{Piece}
use Rattle.pieces.specs.declared.error.GuestMemoryError.TheVariants.{GuestAddressOverflow}
use Rattle.pieces.specs.Pieces.{drawn, drawn_in, placed_piece, Longest}

-- what is known of a region that was found
pub record Holder (g : Ground) (a : ℕ) (r : Region) : Type 0 where
  pub low : r.start ≤ a
  pub high : a < r.start + r.len
  pub sure : sound g.host r ≡ true
  pub cover : covers (range_of r) a ≡ true

pub found : (g : Ground) → KeepsMeaning g → (a : ℕ) (r : Region) → Some r ≡ holding g.regions a → Holder g a r
found g k a r e =
    let h = held g.host g.regions a r k.1 (sym e) in
    let q = covers_parts (range_of r) a h.1 in
    record { low = q.0; high = q.1; sure = h.0; cover = h.1 }

-- the bytes of a held region end within the host buffer
pub ends : (g : Ground) (a : ℕ) (r : Region) → Holder g a r → (p : ℕ) → r.place ≡ Some p → p + r.len ≤ g.host
ends g a r h p e = held_placed g.host r p h.sure e

-- a region holds each of its own addresses
pub same_region : (g : Ground) → KeepsMeaning g → (a b : ℕ) (r : Region) → Some r ≡ holding g.regions a → r.start ≤ b → b < r.start + r.len → holding g.regions b ≡ Some r
same_region g k a b r e lo hi =
    let rs = g.regions in
    let i = held_at rs a r (sym e) in
    let here = ap (λ (x : Range). covers x b) (at_range rs i.0 ∙ ap range_of i.2) ∙ covers_here (range_of r) b lo hi in
    find_place range_of (λ (x : Range). covers x b) rs
    ∙ ap (option_and_then (slice_get rs)) (found_at (map range_of rs) (length rs) (length-map rs range_of) k.2 i.0 b i.1 here)
    ∙ slice_get-get_or rs i.0 (record { start = 0; len = 0; place = None }) i.1
    ∙ ap (λ (x : Region). Some x) i.2

-- the piece is the longest

module _ (g : Ground) (k : KeepsMeaning g) (a n : ℕ) (p : Piece) where
  longest_in : (r : Region) → Some r ≡ holding g.regions a → (q : ℕ) → r.place ≡ Some q → p.place ≡ q + (a - r.start) → p.len ≡ min n (r.start + r.len - a) → Longest g a n p
  longest_in r e q w pl ln =
      let h = found g k a r e in
      let in_r : (i : ℕ) → i < p.len → holding g.regions (a + i) ≡ Some r = λ i l. same_region g k a (a + i) r e (omega (arith, h.low)) (omega (arith, h.high)) in
      record {
        bytes = λ i l.
            let s : q + (a + i - r.start) ≡ p.place + i = omega (arith, h.low) in
            rw (in_r i l, w, s) refl;
        region = λ i l. in_r i l ∙ e;
        longest = λ l same.
            let b = covers_parts (range_of r) (a + p.len) (held g.host g.regions (a + p.len) r k.1 (same ∙ sym e)).1 in
            omega (arith, b.1, h.low, h.high);
      }

  pub pieced : Ok (Some p) ≡ drawn g a n → Longest g a n p
  pieced e = at_end (eqb n 0) refl e
    where
      in_place : (r : Region) → Some r ≡ holding g.regions a → (o : Option ℕ) → r.place ≡ o → Ok (Some p) ≡ placed_piece (option_map (λ (m : ℕ). m + (a - r.start)) o) (min n (r.start + r.len - a)) → Longest g a n p
      in_place r h None w q = absurd (cc)
      in_place r h (Some m) w q =
          let same : p ≡ record { place = m + (a - r.start); len = min n (r.start + r.len - a) } = cc in
          longest_in r h m w (ap (λ (x : Piece). x.place) same) (ap (λ (x : Piece). x.len) same)

      in_step : (r : Region) → Some r ≡ holding g.regions a → (b : Bool) → Ok (Some p) ≡ cond b (placed_piece (place_in r a) (min n (r.start + r.len - a))) (Err GuestAddressOverflow) → Longest g a n p
      in_step r h true q = in_place r h r.place refl q
      in_step r h false q = absurd (cc)

      in_region : (o : Option Region) → o ≡ holding g.regions a → Ok (Some p) ≡ drawn_in a n o → Longest g a n p
      in_region None h q = absurd (cc)
      in_region (Some r) h q = in_step r h (leb (a + min n (r.start + r.len - a)) (2 ^ 64)) q

      at_end : (b : Bool) → eqb n 0 ≡ b → Ok (Some p) ≡ cond b (Ok None) (drawn_in a n (holding g.regions a)) → Longest g a n p
      at_end true h q = absurd (cc)
      at_end false h q = in_region (holding g.regions a) refl q
