-- What may stand at each place of a line: what the clauses on commands and entries cite. Assumes nothing.
use Rattle.std.specs.Prelude.{◌≡◌, ℕ, ◌≤◌, List, [], ◌∷◌, map}
use Rattle.numerals.specs.Numbers.{IsNumber, number}

-- what stands at one place of a command: a word as it is, a number, or a number up to a bound
pub data Part : Type 0 where
  word : List ℕ → Part
  num : ℕ → Part
  num≤ : ℕ → ℕ → Part

-- w may stand for the part
abbrev pub Fills : Part → List ℕ → Type 0
Fills (word t) w = w ≡ t
Fills (num n) w = IsNumber w × (n ≡ number w)
Fills (num≤ most n) w = IsNumber w × (n ≡ number w) × (n ≤ most)

-- each word may stand for the part at its place, and there are as many
abbrev pub Fill : List Part → List (List ℕ) → Type 0
Fill [] [] = Unit {0}
Fill [] (w ∷ ws) = ⊥
Fill (p ∷ ps) [] = ⊥
Fill (p ∷ ps) (w ∷ ws) = Fills p w × Fill ps ws

-- any number of entries, each of 32 bits
abbrev pub listed : List ℕ → List Part
listed es = map (num≤ 0xffff_ffff) es
