-- "The packet": the header's sixteen bits and the fields in them.
use Rattle.std.specs.Prelude.{ℕ, ◌+◌, ◌<◌, Bool, true, false, eqb}
use Rattle.message.specs.declared.Fields.{Fields}
use Rattle.message.specs.Layout.{get, put, values, Extended, NumberOfDataObjects, MessageID, PortPowerRole, SpecificationRevision, PortDataRole, MessageType}

-- a bit that is set is 1
abbrev pub bit_of : Bool → ℕ
bit_of true = 1
bit_of false = 0

unfoldable pub fields_of : ℕ → Fields
fields_of h =
    record {
      extended = eqb (get Extended h) 1;
      message_id = get MessageID h;
      power_role = get PortPowerRole h;
      revision = get SpecificationRevision h;
      data_role = get PortDataRole h;
      message_type = get MessageType h;
    }

unfoldable pub objects_of : ℕ → ℕ
objects_of h = get NumberOfDataObjects h

unfoldable pub header_of : Fields → ℕ → ℕ
header_of f objects =
    put Extended (bit_of f.extended)
    + put NumberOfDataObjects objects
    + put MessageID f.message_id
    + put PortPowerRole f.power_role
    + put SpecificationRevision f.revision
    + put PortDataRole f.data_role
    + put MessageType f.message_type

-- fields that have no more bits than their places
pub record Fits (f : Fields) : Type 0 where
  pub message_id : f.message_id < values MessageID
  pub power_role : f.power_role < values PortPowerRole
  pub revision : f.revision < values SpecificationRevision
  pub data_role : f.data_role < values PortDataRole
  pub message_type : f.message_type < values MessageType
