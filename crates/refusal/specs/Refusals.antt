-- The list of refusals: what the clauses of src/lib.rt cite. Assumes nothing.
use Rattle.std.specs.Prelude.{List, [], ◌∷◌, ℕ, codes}
use Rattle.refusal.specs.declared.Refusal.{Refusal}
use Rattle.refusal.specs.declared.Refusal.TheVariants.{NoMemoryRegion, UnsortedMemoryRegions, MemoryRegionOverlap, BadRegion, NoRoom, BadHost, InvalidGuestAddress, GuestAddressOverflow, HostAddressNotAvailable, InvalidBackendAddress, BadPermissions}

-- the number that stands for a refusal
abbrev pub number : Refusal → ℕ
number NoMemoryRegion = 1
number UnsortedMemoryRegions = 2
number MemoryRegionOverlap = 3
number (BadRegion i) = 4
number NoRoom = 5
number BadHost = 7
number (InvalidGuestAddress a) = 8
number GuestAddressOverflow = 9
number HostAddressNotAvailable = 10
number InvalidBackendAddress = 11
number BadPermissions = 14

-- the word that stands for a refusal
abbrev pub name : Refusal → List ℕ
name NoMemoryRegion = codes "NoMemoryRegion"
name UnsortedMemoryRegions = codes "UnsortedMemoryRegions"
name MemoryRegionOverlap = codes "MemoryRegionOverlap"
name (BadRegion i) = codes "BadRegion"
name NoRoom = codes "NoRoom"
name BadHost = codes "BadHost"
name (InvalidGuestAddress a) = codes "InvalidGuestAddress"
name GuestAddressOverflow = codes "GuestAddressOverflow"
name HostAddressNotAvailable = codes "HostAddressNotAvailable"
name InvalidBackendAddress = codes "InvalidBackendAddress"
name BadPermissions = codes "BadPermissions"

-- what is told beside the name: the region's index, or the target address
abbrev pub details : Refusal → List ℕ
details NoMemoryRegion = []
details UnsortedMemoryRegions = []
details MemoryRegionOverlap = []
details (BadRegion i) = i ∷ []
details NoRoom = []
details BadHost = []
details (InvalidGuestAddress a) = a ∷ []
details GuestAddressOverflow = []
details HostAddressNotAvailable = []
details InvalidBackendAddress = []
details BadPermissions = []
