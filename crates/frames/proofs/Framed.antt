-- The list of present frames: what holds an address, how many, how high, and that it keeps its meaning.
use Rattle.std.proofs.Common.{◌≡◌, ℕ, zero, suc, ◌+◌, ◌-◌, ◌*◌, ◌/◌, ◌%◌, ◌^◌, ◌<◌, ◌≤◌, Bool, true, false, cond, not, eqb, leb, List, [], ◌∷◌, map, length, get_or, Some, None, sym, refl, ap, ◌∙◌, subst, arith, eq-eqb, ne_eqb}
use Rattle.std.proofs.lemmas.Bool.Decides.{nat_tests}
use Rattle.std.proofs.lemmas.Bool.{both_ways, not-false}
use Rattle.std.proofs.lemmas.Option.{cond_some}
use Rattle.std.proofs.lemmas.List.Sums.{sum_by-cons}
use Rattle.region.specs.Ranges.{covers}
use Rattle.region.specs.Regions.{Region, range_of, sound}
use Rattle.region.specs.Grounds.{KeepsMeaning, Apart, Ascending, AllSound, holding, range_at}
use Rattle.std.specs.List.{count_by}
use Rattle.address.specs.Addresses.{difference}
use Rattle.table.proofs.Tables.{none_first, next, second}
use Rattle.collection.specs.Collections.{highest}
use Rattle.frames.specs.Frames.{frame, frames, frame_fits, first_outside, well_shaped}

-- what holds an address

skip : (b : Bool) (x : Region) (xs : List Region) (a : ℕ) → covers (range_of x) a ≡ false → holding (cond b xs (x ∷ xs)) a ≡ holding xs a
skip true x xs a e = refl
skip false x xs a e = ap (λ (c : Bool). cond c (Some x) (holding xs a)) e

not_here : (start v a : ℕ) → a < start → covers (range_of (frame start v)) a ≡ false
not_here start v a h = grind (arith, nat_tests)

not_there : (start v a : ℕ) → start + 4096 ≤ a → covers (range_of (frame start v)) a ≡ false
not_there start v a h = grind (arith, nat_tests)

here : (start v a : ℕ) → start ≤ a → a < start + 4096 → covers (range_of (frame start v)) a ≡ true
here start v a h l = grind (arith, nat_tests)

-- where an address stands to the base

pub offset_is : (a base off : ℕ) → Some off ≡ difference a base → (base ≤ a) × (base + off ≡ a)
offset_is a base off e =
    let q = cond_some (leb base a) (a - base) off (sym e) in
    let l : base ≤ a = grind (arith, nat_tests, q.0) in (l, omega (arith, q.1))

pub below_base : (a base : ℕ) → None ≡ difference a base → a < base
below_base a base e = grind (arith, nat_tests)

pub below_frames : (start : ℕ) (vs : List ℕ) (a : ℕ) → a < start → holding (frames start vs) a ≡ None
below_frames start [] a h = refl
below_frames start (v ∷ vs) a h = skip (eqb v 0) (frame start v) (frames (start + 4096) vs) a (not_here start v a h) ∙ below_frames (start + 4096) vs a (omega arith)

pub past_frames : (start : ℕ) (vs : List ℕ) (a : ℕ) → start + 4096 * length vs ≤ a → holding (frames start vs) a ≡ None
past_frames start [] a h = refl
past_frames start (v ∷ vs) a h = skip (eqb v 0) (frame start v) (frames (start + 4096) vs) a (not_there start v a (omega arith)) ∙ past_frames (start + 4096) vs a (omega arith)

pub in_frames : (start : ℕ) (vs : List ℕ) (n a : ℕ) → n < length vs → start + 4096 * n ≤ a → a < start + 4096 * n + 4096 →
    holding (frames start vs) a ≡ cond (eqb (get_or vs n 0) 0) None (Some (frame (start + 4096 * n) (get_or vs n 0)))
in_frames start [] n a h l u = absurd (omega arith)
in_frames start (v ∷ vs) zero a h l u =
    let z : start + 4096 * 0 ≡ start = omega arith in
    go (eqb v 0) ∙ ap (λ (s : ℕ). cond (eqb v 0) None (Some (frame s v))) (sym z)
  where
    go : (b : Bool) → holding (cond b (frames (start + 4096) vs) (frame start v ∷ frames (start + 4096) vs)) a ≡ cond b None (Some (frame start v))
    go true = below_frames (start + 4096) vs a (omega arith)
    go false = ap (λ (c : Bool). cond c (Some (frame start v)) (holding (frames (start + 4096) vs) a)) (here start v a (omega arith) (omega arith))
in_frames start (v ∷ vs) (suc n) a h l u =
    let z : start + 4096 + 4096 * n ≡ start + 4096 * suc n = omega arith in
    skip (eqb v 0) (frame start v) (frames (start + 4096) vs) a (not_there start v a (omega arith))
    ∙ in_frames (start + 4096) vs n a (omega arith) (omega arith) (omega arith)
    ∙ ap (λ (s : ℕ). cond (eqb (get_or vs n 0) 0) None (Some (frame s (get_or vs n 0)))) z

-- past the entries there is no frame
pub past_entries : (base : ℕ) (vs : List ℕ) (a off : ℕ) → Some off ≡ difference a base → length vs ≤ off / 4096 → holding (frames base vs) a ≡ None
past_entries base vs a off e h = let d = offset_is a base off e in past_frames base vs a (omega arith)

-- the entry at the offset's index tells whether there is a frame
pub at_entry : (base : ℕ) (vs : List ℕ) (a off v : ℕ) → Some off ≡ difference a base → off / 4096 < length vs → get_or vs (off / 4096) 0 ≡ v → holding (frames base vs) a ≡ cond (eqb v 0) None (Some (frame (a - off % 4096) v))
at_entry base vs a off v e h g =
    let d = offset_is a base off e in
    let s : base + 4096 * (off / 4096) ≡ a - off % 4096 = omega arith in
    in_frames base vs (off / 4096) a h (omega arith) (omega arith) ∙ (λ i. cond (eqb (g i) 0) None (Some (frame (s i) (g i))))

-- how many are present

pub length_frames : (start : ℕ) (vs : List ℕ) → count_by (λ v. not (eqb v 0)) vs ≡ length (frames start vs)
length_frames start [] = refl
length_frames start (v ∷ vs) = sum_by-cons (λ x. cond (not (eqb x 0)) 1 0) v vs ∙ go (eqb v 0) (length_frames (start + 4096) vs)
  where
    go : (b : Bool) → count_by (λ v. not (eqb v 0)) vs ≡ length (frames (start + 4096) vs) → cond (not b) 1 0 + count_by (λ v. not (eqb v 0)) vs ≡ length (cond b (frames (start + 4096) vs) (frame start v ∷ frames (start + 4096) vs))
    go true e = omega arith
    go false e = omega arith

-- how high the last one ends

pub highest_none : (start : ℕ) (vs : List ℕ) → ((k : ℕ) → k < length vs → get_or vs k 0 ≡ 0) → highest (frames start vs) ≡ 0
highest_none start [] a = refl
highest_none start (v ∷ vs) a = rw (eq-eqb v 0 (a 0 (omega arith))) (highest_none (start + 4096) vs (λ k h. a (suc k) (omega arith)))

pub highest_frame : (start : ℕ) (vs : List ℕ) (n : ℕ) → start + 4096 * length vs ≤ 2 ^ 64 → n < length vs → (get_or vs n 0 ≡ 0 → ⊥) → ((k : ℕ) → n < k → k < length vs → get_or vs k 0 ≡ 0) → highest (frames start vs) ≡ start + 4096 * n + 4095
highest_frame start [] n t h p a = absurd (omega arith)
highest_frame start (v ∷ vs) zero t h p a = rw (ne_eqb v 0 p, highest_none (start + 4096) vs (λ k l. a (suc k) (omega arith) (omega arith))) (omega arith)
highest_frame start (v ∷ vs) (suc n) t h p a =
    let r = highest_frame (start + 4096) vs n (omega arith) (omega arith) p (λ k l u. a (suc k) (omega arith) (omega arith)) in
    go (eqb v 0) r
  where
    go : (b : Bool) → highest (frames (start + 4096) vs) ≡ start + 4096 + 4096 * n + 4095 → highest (cond b (frames (start + 4096) vs) (frame start v ∷ frames (start + 4096) vs)) ≡ start + 4096 * suc n + 4095
    go true r = r ∙ omega arith
    go false r = omega arith

-- the frames keep their meaning

abbrev Rises : ℕ → List Region → Type 0
Rises low [] = Unit {0}
Rises low (r ∷ rs) = (low ≤ r.start) × Rises (r.start + r.len) rs

rises_less : (low low' : ℕ) (rs : List Region) → low' ≤ low → Rises low rs → Rises low' rs
rises_less low low' [] h r = tt
rises_less low low' (x ∷ xs) h r = (omega (arith, r.0), r.1)

rises_frames : (start : ℕ) (vs : List ℕ) → Rises start (frames start vs)
rises_frames start [] = tt
rises_frames start (v ∷ vs) = go (eqb v 0) (rises_frames (start + 4096) vs)
  where
    go : (b : Bool) → Rises (start + 4096) (frames (start + 4096) vs) → Rises start (cond b (frames (start + 4096) vs) (frame start v ∷ frames (start + 4096) vs))
    go true r = rises_less (start + 4096) start (frames (start + 4096) vs) (omega arith) r
    go false r = (omega arith, r)

rises_ascends : (low : ℕ) (rs : List Region) → Rises low rs → Ascending (map range_of rs) (length rs)
rises_ascends low [] r k h = absurd (omega arith)
rises_ascends low (x ∷ []) r k h = absurd (omega arith)
rises_ascends low (x ∷ y ∷ rest) r zero h = subst (Apart (range_of x)) (sym (second (range_of x) (range_of y) (map range_of rest))) r.1.0
rises_ascends low (x ∷ y ∷ rest) r (suc k) h = subst (Apart (range_at (map range_of (y ∷ rest)) k)) (sym (next (range_of x) (map range_of (y ∷ rest)) k)) (rises_ascends (x.start + x.len) (y ∷ rest) r.1 k (omega arith))

frame_sound : (host start v : ℕ) → start + 4096 ≤ 2 ^ 64 → frame_fits host v ≡ true → (v ≡ 0 → ⊥) → sound host (frame start v) ≡ true
frame_sound host start v t f p = grind (arith, nat_tests)

sound_frames : (host start : ℕ) (vs : List ℕ) → start + 4096 * length vs ≤ 2 ^ 64 → ((k : ℕ) → k < length vs → frame_fits host (get_or vs k 0) ≡ true) → AllSound host (frames start vs) (length (frames start vs))
sound_frames host start [] t f = λ k h. absurd (omega arith)
sound_frames host start (v ∷ vs) t f = go (eqb v 0) refl (sound_frames host (start + 4096) vs (omega arith) (λ k h. f (suc k) (omega arith)))
  where
    go : (b : Bool) → eqb v 0 ≡ b → AllSound host (frames (start + 4096) vs) (length (frames (start + 4096) vs)) → AllSound host (cond b (frames (start + 4096) vs) (frame start v ∷ frames (start + 4096) vs)) (length (cond b (frames (start + 4096) vs) (frame start v ∷ frames (start + 4096) vs)))
    go true e r k h = r k h
    go false e r zero h = frame_sound host start v (omega arith) (f 0 (omega arith)) (λ q. both_ways (eqb v 0) e (eq-eqb v 0 q))
    go false e r (suc k) h = r k (omega arith)

pub ends_by_top : (base : ℕ) (vs : List ℕ) → well_shaped base vs ≡ true → base + 4096 * length vs ≤ 2 ^ 64
ends_by_top base vs e = grind (arith, nat_tests)

pub frames_kept : (host base : ℕ) (vs : List ℕ) → host < 2 ^ 64 → well_shaped base vs ≡ true → first_outside host vs ≡ None → KeepsMeaning (record { host = host; regions = frames base vs })
frames_kept host base vs b w o = (
  b,
  sound_frames host base vs (ends_by_top base vs w) (λ k h. not-false (frame_fits host (get_or vs k 0)) (none_first (λ v. not (frame_fits host v)) 0 vs o k h)),
  rises_ascends base (frames base vs) (rises_frames base vs),
)
