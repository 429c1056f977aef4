-- Which words write a command: what the clauses of src/ on commands cite. Assumes nothing.
use Rattle.std.specs.Prelude.{◌≡◌, ℕ, true, false, List, [], ◌∷◌, Some, None, vec_items, codes, IsUtf8, Option, Ok, Err, Result}
use Rattle.commands.specs.declared.Command.{Command}
use Rattle.commands.specs.declared.Command.TheVariants.{Host, Ram, Window, Collect, Frames, InsertRam, InsertWindow, Remove, Count, Find, Last, Add, Sub, Offset, Mask, Slices, Bytes, Digest}
use Rattle.words.specs.declared.LineError.{LineError}
use Rattle.words.specs.declared.LineError.TheVariants.{Malformed, Alloc}
use Rattle.words.specs.Parts.{Part, word, num, num≤, Fill, listed}
use Rattle.words.specs.Words.{words, idle}

-- the parts of each command
abbrev pub parts : Command → List Part
parts (Host len) = word (codes "host") ∷ num≤ 0x100_0000 len ∷ []
parts (Ram start len place) = word (codes "ram") ∷ num start ∷ num len ∷ num place ∷ []
parts (Window start len) = word (codes "window") ∷ num start ∷ num len ∷ []
parts Collect = word (codes "collect") ∷ []
parts (Frames base es) = word (codes "frames") ∷ num base ∷ listed (vec_items es)
parts (InsertRam room start len place) = word (codes "insert") ∷ num room ∷ word (codes "ram") ∷ num start ∷ num len ∷ num place ∷ []
parts (InsertWindow room start len) = word (codes "insert") ∷ num room ∷ word (codes "window") ∷ num start ∷ num len ∷ []
parts (Remove room start len) = word (codes "remove") ∷ num room ∷ num start ∷ num len ∷ []
parts Count = word (codes "count") ∷ []
parts (Find address) = word (codes "find") ∷ num address ∷ []
parts Last = word (codes "last") ∷ []
parts (Add address by) = word (codes "add") ∷ num address ∷ num by ∷ []
parts (Sub address by) = word (codes "sub") ∷ num address ∷ num by ∷ []
parts (Offset address base) = word (codes "offset") ∷ num address ∷ num base ∷ []
parts (Mask address mask) = word (codes "mask") ∷ num address ∷ num mask ∷ []
parts (Slices address count access) = word (codes "slices") ∷ num address ∷ num count ∷ num access ∷ []
parts (Bytes place count) = word (codes "bytes") ∷ num place ∷ num≤ 0x100_0000 count ∷ []
parts Digest = word (codes "digest") ∷ []

-- the words write the command
abbrev pub Writes : Command → List (List ℕ) → Type 0
Writes c ws = Fill (parts c) ws

-- o is the command that the words write, and None where they write none
abbrev pub Reads : Option Command → List (List ℕ) → Type 0
Reads None ws = (c : Command) → Writes c ws → ⊥
Reads (Some c) ws = Writes c ws

-- what a line is read as: one that is text and asks for nothing, one that is text and writes a command, and any other;
-- where memory ran out it says nothing
abbrev pub Tells : Result (Option Command) LineError → List ℕ → Type 0
Tells (Ok None) line = IsUtf8 line × (idle line ≡ true)
Tells (Ok (Some c)) line = IsUtf8 line × (idle line ≡ false) × Writes c (words line)
Tells (Err Malformed) line = IsUtf8 line → (idle line ≡ false) × ((c : Command) → Writes c (words line) → ⊥)
Tells (Err (Alloc e)) line = Unit {0}
