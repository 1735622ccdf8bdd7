-- "Night-desk examples" 8: the rack, and receivers that ask it for power.
use Rattle.std.specs.Prelude.{ℕ, List, [], ◌∷◌, ◌++◌, replicate}
use Rattle.offers.specs.declared.Offer.{Offer}
use Rattle.port.specs.declared.Event.{Event}
use Rattle.rack.specs.declared.Rack.{Rack}
use Rattle.rack.specs.Ports.{most_ports}
use Rattle.rack.specs.Steps.{event, packet}
use Rattle.rack.specs.Runs.{Happens, run}
use Rattle.setup.specs.declared.SetUp.{SetUp}
use Rattle.setup.specs.SetUps.{accepted_set_up, rack_or_none}

-- 5 V, 9 V and 20 V, each with 3 A
abbrev pub three_objects : Offer
three_objects = record { objects = 0x0001912C ∷ 0x0002D12C ∷ 0x0006412C ∷ 0 ∷ 0 ∷ 0 ∷ 0 ∷ []; count = 3 }

-- "supply 240,000, four ports, share 30,000, limit 120,000"
abbrev pub night_desk : SetUp
night_desk = record { settings = replicate most_ports (record { share = 30000; limit = 120000; offer = three_objects }); count = 4; supply = 240000 }

-- Requests, by what they ask: 20 V 3 A, 9 V 3 A, 9 V 2 A, 9 V 2.01 A, 5 V 3 A
abbrev request : List ℕ → List ℕ
request object = 0x82 ∷ (0x10 ∷ object)

abbrev pub for120000 : List ℕ
for120000 = request (0x2C ∷ 0xB1 ∷ 0x04 ∷ 0x30 ∷ [])

abbrev pub for54000 : List ℕ
for54000 = request (0x2C ∷ 0xB1 ∷ 0x04 ∷ 0x20 ∷ [])

abbrev pub for36000 : List ℕ
for36000 = request (0xC8 ∷ 0x20 ∷ 0x03 ∷ 0x20 ∷ [])

abbrev pub for36180 : List ℕ
for36180 = request (0xC9 ∷ 0x24 ∷ 0x03 ∷ 0x20 ∷ [])

abbrev pub for30000 : List ℕ
for30000 = request (0x2C ∷ 0xB1 ∷ 0x04 ∷ 0x10 ∷ [])

-- a receiver is attached to the port of a number, and acknowledges the offer
abbrev pub attached : ℕ → List Happens
attached number = record { number = number; happening = event Event.Attach } ∷ (record { number = number; happening = packet (0x81 ∷ 0x00 ∷ []) } ∷ [])

abbrev pub asking : ℕ → List ℕ → Happens
asking number s = record { number = number; happening = packet s }

-- a port and the Request that comes to it
pub record Asking : Type 0 where
  pub number : ℕ
  pub bytes : List ℕ

abbrev pub asked : List Asking → List Happens
asked [] = []
asked (a ∷ rest) = attached a.number ++ (asking a.number a.bytes ∷ asked rest)

-- the rack in which these have asked in turn, and then the receiver at a port has acknowledged its offer
unfoldable pub rack_after : List Asking → ℕ → Rack
rack_after earlier number = run (rack_or_none (accepted_set_up night_desk)) (asked earlier ++ attached number)
