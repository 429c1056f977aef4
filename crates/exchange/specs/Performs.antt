-- What each command is answered, and the box that it leaves. Assumes nothing.
use Rattle.std.specs.Prelude.{◌≡◌, ℕ, ◌<◌, [], ◌∷◌, ◌++◌, length, Some, None, vec_items, Option, bit_and, slice_index}
use Rattle.address.specs.Addresses.{sum, difference, wrapped_sum, passes_top, wrapped_difference, passes_bottom}
use Rattle.region.specs.declared.slot.SlotRegion.{SlotRegion}
use Rattle.region.specs.declared.slot.SlotRegion.TheVariants as slot
use Rattle.frames.specs.Frames.{frames, frames_fault}
use Rattle.pieces.specs.Pieces.{piece_bytes}
use Rattle.answers.specs.declared.Answer.{Answer}
use Rattle.answers.specs.declared.Answer.TheVariants as answer
use Rattle.commands.specs.declared.Command.{Command}
use Rattle.commands.specs.declared.Command.TheVariants.{Host, Ram, Window, Collect, Frames, InsertRam, InsertWindow, Remove, Count, Find, Last, Add, Sub, Offset, Mask, Slices, Bytes, Digest}
use Rattle.asks.specs.Asked.{number_or_none, filler, fnv, Shown}
use Rattle.survey.specs.declared.question.Question.TheVariants as question
use Rattle.guest_box.specs.Memories.{BoxState, with_memory, collect_fault, absent, over, framed, ground_held, held_if, counted_or_refused}
use Rattle.survey.specs.Questions.{AnswersTo}
use Rattle.guest_box.specs.Changes.{insert_answer, insert_held, remove_answer, remove_held}

-- a region by its numbers
abbrev pub ram_slot : ℕ → ℕ → ℕ → SlotRegion
ram_slot start len place = slot.Ram (record { start = record { 0 = start }; len = len; place = place })

abbrev pub window_slot : ℕ → ℕ → SlotRegion
window_slot start len = slot.Window (record { 0 = start }) len

-- adding a region to those to collect
abbrev pub Adds : BoxState → SlotRegion → Answer → BoxState → Type 0
Adds b region x after = (x ≡ answer.Done) × (after ≡ record { host = b.host; pending = b.pending ++ (region ∷ []); memory = b.memory })

-- inserting a region into its collection
abbrev pub InsertsInto : BoxState → ℕ → SlotRegion → Answer → BoxState → Type 0
InsertsInto b room region x after =
    (x ≡ insert_answer (length b.host) room b.memory region) × (after ≡ with_memory b (insert_held (length b.host) room b.memory region))

-- a command that needs a box, given to one
abbrev pub Performed : BoxState → Command → Answer → BoxState → Type 0
Performed b (Ram start len place) x after = Adds b (ram_slot start len place) x after
Performed b (Window start len) x after = Adds b (window_slot start len) x after
Performed b Collect x after =
    (x ≡ counted_or_refused (length b.pending) (collect_fault b))
    × (after ≡ record { host = b.host; pending = []; memory = held_if (collect_fault b) (over b.pending) b.memory })
Performed b (Frames base vs) x after =
    (x ≡ counted_or_refused (length (frames base (vec_items vs))) (frames_fault (length b.host) base (vec_items vs)))
    × (after ≡ with_memory b (held_if (frames_fault (length b.host) base (vec_items vs)) (framed base (vec_items vs)) b.memory))
Performed b (InsertRam room start len place) x after = InsertsInto b room (ram_slot start len place) x after
Performed b (InsertWindow room start len) x after = InsertsInto b room (window_slot start len) x after
Performed b (Remove room start len) x after =
    (x ≡ remove_answer room b.memory start len) × (after ≡ with_memory b (remove_held room b.memory start len))
Performed b Count x after = AnswersTo (ground_held (length b.host) b.memory) question.Count x × (after ≡ b)
Performed b (Find a) x after = AnswersTo (ground_held (length b.host) b.memory) (question.Find a) x × (after ≡ b)
Performed b Last x after = AnswersTo (ground_held (length b.host) b.memory) question.Last x × (after ≡ b)
Performed b (Slices a n access) x after = AnswersTo (ground_held (length b.host) b.memory) (question.Slices a n access) x × (after ≡ b)
Performed b (Bytes place n) x after = Shown (piece_bytes (length b.host) b.host (record { place = place; len = n })) x × (after ≡ b)
Performed b Digest x after = (x ≡ answer.Number (fnv 0xcbf29ce484222325 b.host)) × (after ≡ b)
Performed b (Host len) x after = (x ≡ answer.Error) × (after ≡ b)
Performed b (Add a n) x after = (x ≡ answer.Error) × (after ≡ b)
Performed b (Sub a n) x after = (x ≡ answer.Error) × (after ≡ b)
Performed b (Offset a base) x after = (x ≡ answer.Error) × (after ≡ b)
Performed b (Mask a mask) x after = (x ≡ answer.Error) × (after ≡ b)

-- before the first host bytes, a command that needs a box is an error
abbrev pub PerformedBy : Option BoxState → Command → Answer → Option BoxState → Type 0
PerformedBy (Some b) c x (Some after) = Performed b c x after
PerformedBy (Some b) c x None = ⊥
PerformedBy None c x None = x ≡ answer.Error
PerformedBy None c x (Some after) = ⊥

-- a new box: each host byte tells its place, and nothing is collected
abbrev pub New : ℕ → Option BoxState → Type 0
New len None = ⊥
New len (Some b) = (length b.host ≡ len) × ((p : ℕ) → p < len → slice_index b.host p ≡ filler p) × (b.pending ≡ []) × (b.memory ≡ absent)

-- what a command is answered by the exchange, and the box that there is then
abbrev pub Performs : Option BoxState → Command → Answer → Option BoxState → Type 0
Performs o (Add a n) x after = (x ≡ answer.Checked (sum a n) (wrapped_sum a n) (passes_top a n)) × (after ≡ o)
Performs o (Sub a n) x after = (x ≡ answer.Checked (difference a n) (wrapped_difference a n) (passes_bottom a n)) × (after ≡ o)
Performs o (Offset a base) x after = (x ≡ number_or_none (difference a base)) × (after ≡ o)
Performs o (Mask a mask) x after = (x ≡ answer.Number (bit_and a mask)) × (after ≡ o)
Performs o (Host len) x after = (x ≡ answer.Done) × New len after
Performs o (Ram start len place) x after = PerformedBy o (Ram start len place) x after
Performs o (Window start len) x after = PerformedBy o (Window start len) x after
Performs o Collect x after = PerformedBy o Collect x after
Performs o (Frames base vs) x after = PerformedBy o (Frames base vs) x after
Performs o (InsertRam room start len place) x after = PerformedBy o (InsertRam room start len place) x after
Performs o (InsertWindow room start len) x after = PerformedBy o (InsertWindow room start len) x after
Performs o (Remove room start len) x after = PerformedBy o (Remove room start len) x after
Performs o Count x after = PerformedBy o Count x after
Performs o (Find a) x after = PerformedBy o (Find a) x after
Performs o Last x after = PerformedBy o Last x after
Performs o (Slices a n access) x after = PerformedBy o (Slices a n access) x after
Performs o (Bytes place n) x after = PerformedBy o (Bytes place n) x after
Performs o Digest x after = PerformedBy o Digest x after
