-- "The packet": the fixed supply object (000, Table 6.9) and the Request object (Table 6.22), by their fields. Other bits are ignored.
use Rattle.std.specs.Prelude.{ℕ, Bool, eqb}
use Rattle.message.specs.Layout.{Bits, bits, get}

-- ---- a fixed supply object
abbrev FixedSupply : Bits
FixedSupply = bits 30 2

abbrev Voltage : Bits
Voltage = bits 10 10

abbrev MaximumCurrent : Bits
MaximumCurrent = bits 0 10

abbrev pub is_fixed : ℕ → Bool
is_fixed x = eqb (get FixedSupply x) 0

abbrev pub voltage_of : ℕ → ℕ
voltage_of x = get Voltage x

abbrev pub current_of : ℕ → ℕ
current_of x = get MaximumCurrent x

-- ---- a Request object
abbrev ObjectPosition : Bits
ObjectPosition = bits 28 4

abbrev CapabilityMismatch : Bits
CapabilityMismatch = bits 26 1

abbrev OperatingCurrent : Bits
OperatingCurrent = bits 10 10

abbrev MaximumOperatingCurrent : Bits
MaximumOperatingCurrent = bits 0 10

abbrev pub position_of : ℕ → ℕ
position_of r = get ObjectPosition r

abbrev pub is_mismatch : ℕ → Bool
is_mismatch r = eqb (get CapabilityMismatch r) 1

abbrev pub operating_of : ℕ → ℕ
operating_of r = get OperatingCurrent r

abbrev pub maximum_of : ℕ → ℕ
maximum_of r = get MaximumOperatingCurrent r
