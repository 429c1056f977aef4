-- A table that no question refuses keeps its meaning as a backend.
use Rattle.std.proofs.Common.{◌≡◌, ℕ, zero, suc, ◌^◌, ◌<◌, true, List, [], ◌∷◌, map, Some, None, Option, sym, refl, ap, ◌∙◌, subst, arith}
use Rattle.std.proofs.lemmas.List.{length-map}
use Rattle.std.proofs.lemmas.Bool.{and_parts}
use Rattle.std.proofs.lemmas.Bool.Decides.{nat_tests}
use Rattle.std.specs.Option.{option_or}
use Rattle.std.proofs.lemmas.Option.{none-some}
use Rattle.region.specs.Ranges.{Range}
use Rattle.region.specs.Regions.{Region, range_of, shown, sound}
use Rattle.region.specs.Grounds.{KeepsMeaning, Ascending, range_at, region_at}
use Rattle.table.specs.Questions.{first_unsound, neighbours, bad_region, table_fault}
use Rattle.table.specs.declared.error.GuestRegionCollectionError.{GuestRegionCollectionError}
use Rattle.table.proofs.Tables.{all_sound, ascends, first_no_none}

-- the ranges of regions are those that their type shows
pub ranges : {R : Type 0} (range : R → Range) (place : R → Option ℕ) (xs : List R) → map range_of (map (shown range place) xs) ≡ map range xs
ranges range place [] = refl
ranges range place (x ∷ xs) = λ i. range x ∷ ranges range place xs i

pub at_range : (rs : List Region) (k : ℕ) → range_at (map range_of rs) k ≡ range_of (region_at rs k)
at_range [] k = refl
at_range (r ∷ rs) zero = refl
at_range (r ∷ rs) (suc k) = at_range rs k

pub fault_none : (host : ℕ) (rs : List Region) (o : Option GuestRegionCollectionError) → None ≡ first_unsound host rs → o ≡ neighbours (map range_of rs) → o ≡ table_fault host rs
fault_none host rs o u n = n ∙ ap (λ (p : Option ℕ). option_or (bad_region p) (neighbours (map range_of rs))) u

none_bad : (o : Option ℕ) → bad_region o ≡ None → o ≡ None
none_bad None e = refl
none_bad (Some i) e = absurd (none-some _ (sym e))

pub lawful_made : (host : ℕ) (rs : List Region) → host < 2 ^ 64 → table_fault host rs ≡ None → KeepsMeaning (record { host = host; regions = rs })
lawful_made host rs b e =
    let p = first_no_none (bad_region (first_unsound host rs)) (neighbours (map range_of rs)) e in (
      b,
      all_sound host rs (none_bad (first_unsound host rs) p.0),
      subst (Ascending (map range_of rs)) (length-map rs range_of) (ascends (map range_of rs) p.1),
    )

pub not_empty : (host : ℕ) (r : Region) → sound host r ≡ true → 0 < r.len
not_empty host r e = grind (arith, nat_tests, and_parts)
