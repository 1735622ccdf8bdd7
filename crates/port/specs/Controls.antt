-- The control messages that we send: the type of each (000, Table 6.5).
use Rattle.std.specs.Prelude.{ℕ}
use Rattle.message.specs.Types as Types
use Rattle.port.specs.declared.entering.Control.{Control}

abbrev pub type_of : Control → ℕ
type_of Control.Accept = Types.Accept
type_of Control.Reject = Types.Reject
type_of Control.PsRdy = Types.PsRdy
type_of Control.SoftReset = Types.SoftReset
type_of Control.NotSupported = Types.NotSupported
