-- What permissions are and allow, cited by the contracts of src/permissions.rt. Assumes nothing.
use Rattle.std.specs.Prelude.{◌≡◌, ℕ, bit_and}
use Rattle.address.specs.declared.permissions.Permissions.{Permissions}
use Rattle.address.specs.declared.permissions.Permissions.TheVariants.{No, Read, Write, ReadWrite}

-- the raw value of permissions: one bit for each access
abbrev pub bits : Permissions → ℕ
bits No = 0
bits Read = 1
bits Write = 2
bits ReadWrite = 3

-- held permissions allow an access when they have each of its bits, so No is always allowed
abbrev pub Allows : ℕ → ℕ → Type 0
Allows held access = bit_and held access ≡ access
