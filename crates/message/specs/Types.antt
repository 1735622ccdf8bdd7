-- The message types that the paper names, by their numbers: control messages (000, Table 6.5) and data messages (Table 6.6).
use Rattle.std.specs.Prelude.{ℕ}

-- control
abbrev pub GoodCRC : ℕ
GoodCRC = 1

abbrev pub Accept : ℕ
Accept = 3

abbrev pub Reject : ℕ
Reject = 4

abbrev pub PsRdy : ℕ
PsRdy = 6

abbrev pub GetSourceCap : ℕ
GetSourceCap = 7

abbrev pub Wait : ℕ
Wait = 12

abbrev pub SoftReset : ℕ
SoftReset = 13

abbrev pub NotSupported : ℕ
NotSupported = 16

-- data
abbrev pub SourceCapabilities : ℕ
SourceCapabilities = 1

abbrev pub Request : ℕ
Request = 2

abbrev pub Bist : ℕ
Bist = 3
