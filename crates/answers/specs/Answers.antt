-- The line that is written for an answer: what each `ghost output` of src/lib.rt cites. Assumes nothing.
use Rattle.std.specs.Prelude.{ℕ, Bool, cond, List, [], ◌∷◌, ◌++◌, map, Some, None, vec_items, codes, decimal, Option}
use Rattle.std.specs.List.{concat}
use Rattle.numerals.specs.Hexes.{hex, bytes}
use Rattle.refusal.specs.Refusals.{number, name, details}
use Rattle.refusal.specs.declared.Refusal.{Refusal}
use Rattle.answers.specs.declared.Span.{Span}
use Rattle.answers.specs.declared.Answer.{Answer}
use Rattle.answers.specs.declared.Answer.TheVariants.{Done, Number, Absent, Region, Removed, Checked, Pieces, Bytes, Refused, Error}

-- the texts of the items in a row, each after a blank
abbrev pub each : {X : Type 0} → (X → List ℕ) → List X → List ℕ
each text xs = concat (map (λ x. 32 ∷ text x) xs)

-- start and length, as `0x1000+0x800`
abbrev pub piece : Span → List ℕ
piece s = hex s.start ++ (codes "+" ++ hex s.len)

-- a number, or `none`
abbrev pub place : Option ℕ → List ℕ
place None = codes "none"
place (Some n) = hex n

-- whether it is so, in a word
abbrev pub flag : Bool → List ℕ
flag b = cond b (codes "true") (codes "false")

-- the number in decimal, the name, and each detail
abbrev pub refused : Refusal → List ℕ
refused r = codes "refused " ++ (decimal (number r) ++ (codes " " ++ (name r ++ each hex (details r))))

-- what follows the pieces where a draw was refused
abbrev pub stop : Option Refusal → List ℕ
stop None = []
stop (Some r) = codes " " ++ refused r

-- the line of an answer
abbrev pub line : Answer → List ℕ
line Done = codes "ok"
line (Number n) = codes "ok " ++ hex n
line Absent = codes "none"
line (Region s p) = codes "ok " ++ (piece s ++ (codes " " ++ place p))
line (Removed n s p) = codes "ok " ++ (hex n ++ (codes " " ++ (piece s ++ (codes " " ++ place p))))
line (Checked r n over) = codes "ok " ++ (place r ++ (codes " " ++ (hex n ++ (codes " " ++ flag over))))
line (Pieces ps r) = codes "ok" ++ (each piece (vec_items ps) ++ stop r)
line (Bytes bs) = codes "ok " ++ bytes (vec_items bs)
line (Refused r) = refused r
line Error = codes "error"
