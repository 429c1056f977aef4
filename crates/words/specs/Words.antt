-- A line and its words: what the clauses of src/lib.rt cite. Assumes nothing.
use Rattle.std.specs.Prelude.{◌≡◌, ℕ, Bool, true, false, cond, ◌&&◌, ◌||◌, List, [], ◌∷◌, ◌==◌, ◌≢◌}
use Rattle.std.specs.List.{join_with_byte, AllByRecursion}

-- the byte c before the first word
abbrev pub onto : ℕ → List (List ℕ) → List (List ℕ)
onto c [] = (c ∷ []) ∷ []
onto c (w ∷ ws) = (c ∷ w) ∷ ws

-- the words of a line, which is cut at each blank: between two blanks in a row is an empty word
abbrev pub words : List ℕ → List (List ℕ)
words [] = [] ∷ []
words (c ∷ cs) = cond (c == 32) ([] ∷ words cs) (onto c (words cs))

-- no byte is a blank
abbrev pub Unbroken : List ℕ → Type 0
Unbroken [] = Unit {0}
Unbroken (c ∷ cs) = (c ≢ 32) × Unbroken cs

-- the line has these words, one blank between each two, and none has a blank in it
abbrev pub Spaced : List ℕ → List (List ℕ) → Type 0
Spaced line ws = (join_with_byte 32 ws ≡ line) × AllByRecursion Unbroken ws

-- nothing but blanks
abbrev pub blank : List ℕ → Bool
blank [] = true
blank (c ∷ cs) = c == 32 && blank cs

-- begins with `#`
abbrev pub comment : List ℕ → Bool
comment [] = false
comment (c ∷ cs) = c == 35

-- a line that asks for nothing
abbrev pub idle : List ℕ → Bool
idle line = blank line || comment line
