-- The region that holds an address is one of the regions, so it is sound.
use Rattle.std.proofs.Common.{◌≡◌, ℕ, ◌+◌, ◌-◌, ◌^◌, ◌<◌, ◌≤◌, true, List, length, Some, None, Option, sym, refl, ap, ◌∙◌, subst, arith, option_map}
use Rattle.std.proofs.lemmas.Bool.Decides.{nat_tests}
use Rattle.std.proofs.lemmas.Bool.{and_parts}
use Rattle.std.proofs.lemmas.Option.{none-some, same_Some, some_pair_parts}
use Rattle.region.specs.Ranges.{covers, offset_of}
use Rattle.region.specs.Regions.{Region, range_of, sound, placed}
use Rattle.region.specs.Grounds.{Ground, KeepsMeaning, AllSound, holding}
use Rattle.std.specs.Option.{MatchOption, SomeIff}
use Rattle.table.proofs.Found.{held_at}
use Rattle.table.proofs.Tables.{covers_parts}
use Rattle.backend.specs.Resolution.{located, resolved}

pub held : (host : ℕ) (rs : List Region) (a : ℕ) (r : Region) → AllSound host rs (length rs) → holding rs a ≡ Some r → (sound host r ≡ true) × (covers (range_of r) a ≡ true)
held host rs a r s e = let i = held_at rs a r e in (ap (sound host) (sym i.2) ∙ s i.0 i.1, i.3)

-- the bytes of a region lie within the host buffer
pub held_placed : (host : ℕ) (r : Region) (p : ℕ) → sound host r ≡ true → r.place ≡ Some p → p + r.len ≤ host
held_placed host r p e q =
    let h : placed host r.len (Some p) ≡ true = subst (λ (o : Option ℕ). placed host r.len o ≡ true) q (and_parts _ _ (and_parts _ _ e).1).1 in
    grind (arith, nat_tests)

-- a region that holds an address has an offset for it

pub inside : (r : Region) (a : ℕ) → covers (range_of r) a ≡ true → None ≡ offset_of (range_of r) a → ⊥
inside r a e q = none-some (a - r.start) (rw e at q)

pub offset_is : (r : Region) (a off : ℕ) → covers (range_of r) a ≡ true → Some off ≡ offset_of (range_of r) a → off ≡ a - r.start
offset_is r a off e q = same_Some off (a - r.start) (rw e at q)

located_some : (a off : ℕ) (r : Region) (o : Option Region) → ◌≡◌ {A = Option (Region × ℕ)} (Some (r, off)) (option_map (λ (x : Region). (x, a - x.start)) o) → (o ≡ Some r) × (off ≡ a - r.start)
located_some a off r None e = absurd (none-some (r, off) (sym e))
located_some a off r (Some x) e =
    let p = some_pair_parts r x off (a - x.start) e in
    (ap (λ (y : Region). Some y) (sym p.0), p.1 ∙ ap (λ (y : Region). a - y.start) (sym p.0))

-- a place that is found by adding with a check: in a backend that keeps its meaning nothing overflows
pub resolved_at : (g : Ground) → KeepsMeaning g → (a off : ℕ) (r : Region) (s : Option ℕ) {Sum : ℕ → Type 0} → Some (r, off) ≡ located g.regions a → MatchOption r.place (s ≡ None) Sum → ((p : ℕ) → Sum p → SomeIff s (p + off < 2 ^ 64) (p + off)) → Some (r, s) ≡ resolved g.regions a
resolved_at g k a off r s {Sum} e m sum =
    let l = located_some a off r (holding g.regions a) e in
    let t = held g.host g.regions a r k.1 l.0 in
    let w = covers_parts (range_of r) a t.1 in
    let fits : (p : ℕ) → r.place ≡ Some p → p + off < 2 ^ 64 = λ p q. let b = held_placed g.host r p t.0 q in omega (arith, k.0) in
    rw l.0 (ap (λ (v : Option ℕ). Some (r, v)) (added fits r.place refl m ∙ ap (λ (d : ℕ). option_map (λ n. n + d) r.place) l.1))
  where
    sum_is : (t : Option ℕ) (n : ℕ) → n < 2 ^ 64 → SomeIff t (n < 2 ^ 64) n → t ≡ Some n
    sum_is None n l d = absurd (d l)
    sum_is (Some v) n l d = ap (λ (m : ℕ). Some m) d.1

    added : ((p : ℕ) → r.place ≡ Some p → p + off < 2 ^ 64) → (o : Option ℕ) → r.place ≡ o → MatchOption o (s ≡ None) Sum → s ≡ option_map (λ n. n + off) o
    added fits None q n = n
    added fits (Some p) q n = sum_is s (p + off) (fits p q) (sum p n)
