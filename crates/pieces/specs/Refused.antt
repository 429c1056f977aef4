-- The refusal that each error of guest memory is: its number and values are those of the refusal. Assumes nothing.
use Rattle.refusal.specs.declared.Refusal.{Refusal}
use Rattle.refusal.specs.declared.Refusal.TheVariants as refused
use Rattle.pieces.specs.declared.error.GuestMemoryError.{GuestMemoryError}
use Rattle.pieces.specs.declared.error.GuestMemoryError.TheVariants.{BadHost, InvalidGuestAddress, GuestAddressOverflow, HostAddressNotAvailable, InvalidBackendAddress}

abbrev pub memory_refusal : GuestMemoryError → Refusal
memory_refusal BadHost = refused.BadHost
memory_refusal (InvalidGuestAddress a) = refused.InvalidGuestAddress a.0
memory_refusal GuestAddressOverflow = refused.GuestAddressOverflow
memory_refusal HostAddressNotAvailable = refused.HostAddressNotAvailable
memory_refusal InvalidBackendAddress = refused.InvalidBackendAddress
