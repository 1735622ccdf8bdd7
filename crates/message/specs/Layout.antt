-- Where the fields of the message header lie (000, Table 6.1), and of the extended message header (Table 6.3).
use Rattle.std.specs.Prelude.{ℕ, ◌*◌, ◌/◌, ◌%◌, ◌^◌}

-- a field: its lowest bit and how many bits it has
pub record Bits : Type 0 where
  pub lowest : ℕ
  pub count : ℕ

abbrev pub bits : ℕ → ℕ → Bits
bits l n = record { lowest = l; count = n }

abbrev pub Extended : Bits
Extended = bits 15 1

abbrev pub NumberOfDataObjects : Bits
NumberOfDataObjects = bits 12 3

abbrev pub MessageID : Bits
MessageID = bits 9 3

abbrev pub PortPowerRole : Bits
PortPowerRole = bits 8 1

abbrev pub SpecificationRevision : Bits
SpecificationRevision = bits 6 2

abbrev pub PortDataRole : Bits
PortDataRole = bits 5 1

abbrev pub MessageType : Bits
MessageType = bits 0 5

-- Table 6.3
abbrev pub Chunked : Bits
Chunked = bits 15 1

-- how many values a field has
abbrev pub values : Bits → ℕ
values b = 2 ^ b.count

-- a word's value of a field
abbrev pub get : Bits → ℕ → ℕ
get b word = word / 2 ^ b.lowest % values b

-- a value laid at its field's place, its low bits if it has more
abbrev pub put : Bits → ℕ → ℕ
put b x = x % values b * 2 ^ b.lowest
