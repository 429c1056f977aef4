-- The refusal that each error of a table is: its number and values are those of the refusal. Assumes nothing.
use Rattle.refusal.specs.declared.Refusal.{Refusal}
use Rattle.refusal.specs.declared.Refusal.TheVariants as refused
use Rattle.table.specs.declared.error.GuestRegionCollectionError.{GuestRegionCollectionError}
use Rattle.table.specs.declared.error.GuestRegionCollectionError.TheVariants.{NoMemoryRegion, UnsortedMemoryRegions, MemoryRegionOverlap, BadRegion, NoRoom}

abbrev pub table_refusal : GuestRegionCollectionError → Refusal
table_refusal NoMemoryRegion = refused.NoMemoryRegion
table_refusal UnsortedMemoryRegions = refused.UnsortedMemoryRegions
table_refusal MemoryRegionOverlap = refused.MemoryRegionOverlap
table_refusal (BadRegion i) = refused.BadRegion i
table_refusal NoRoom = refused.NoRoom
