-- "Refusal numbers": "A set-up is good with 1 to 8 ports, numbered from 1, a supply of 30,000 to 1,600,000 units, for each port
-- 30,000 <= share <= limit <= 200,000, shares adding to at most the supply, and a good first offer for each port." Req 08, "Thirty-two ports", raises two of these
-- limits: "32 ports and a supply up to 6,400,000 units".
use Rattle.std.specs.Prelude.{ℕ, zero, suc, Bool, true, false, ◌&&◌, [], map, leb, get_or, replicate, Ok, Err, Result}
use Rattle.ground.specs.declared.Refusal.TheVariants.{BadSetUp}
use Rattle.offers.specs.Offers.{good_offer}
use Rattle.port.specs.Memory.{detached_port, no_offer}
use Rattle.slot.specs.declared.Slot.{Slot}
use Rattle.rack.specs.declared.Rack.{Rack}
use Rattle.rack.specs.Ports.{most_ports, total}
use Rattle.setup.specs.declared.Setting.{Setting}
use Rattle.setup.specs.declared.SetUp.{SetUp}
use Rattle.ground.specs.Refusals.{Verdict}
use Rattle.ground.specs.declared.Refusal.{Refusal}

-- a supply and a share
abbrev pub least : ℕ
least = 30000

abbrev pub largest_supply : ℕ
largest_supply = 6400000

abbrev pub largest_limit : ℕ
largest_limit = 200000

-- the port at a place, counted from 0; past the end stands one that is not good
abbrev pub no_setting : Setting
no_setting = record { share = 0; limit = 0; offer = record { objects = []; count = 0 } }

abbrev pub setting : SetUp → ℕ → Setting
setting u i = get_or u.settings i no_setting

-- a port by itself
unfoldable pub good_setting : Setting → Bool
good_setting s = ((leb least s.share && leb s.share s.limit) && leb s.limit largest_limit) && good_offer s.limit s.offer

-- whether something holds at each of the places 0 to n - 1
abbrev pub everywhere : (ℕ → Bool) → ℕ → Bool
everywhere f zero = true
everywhere f (suc n) = everywhere f n && f n

-- the shares of the first n ports
abbrev pub shares : SetUp → ℕ → ℕ
shares u n = total (λ k. (setting u k).share) n

abbrev pub good_count : ℕ → Bool
good_count n = leb 1 n && leb n most_ports

abbrev pub good_supply : ℕ → Bool
good_supply supply = leb least supply && leb supply largest_supply

unfoldable pub good_set_up : SetUp → Bool
good_set_up u = good_count u.count && (everywhere (λ k. good_setting (setting u k)) u.count && (good_supply u.supply && leb (shares u u.count) u.supply))

-- ---- what is set up: every port detached, with its first offer
abbrev pub slot_of : Setting → Slot
slot_of s = record { port = detached_port s.offer; share = s.share; limit = s.limit }

abbrev pub rack_of : SetUp → Rack
rack_of u = record { slots = map slot_of u.settings; count = u.count; supply = u.supply }

-- nothing
abbrev pub no_rack : Rack
no_rack = record { slots = replicate most_ports (record { port = detached_port no_offer; share = 0; limit = 0 }); count = 0; supply = 0 }

abbrev pub judged : Bool → SetUp → Result Rack Refusal
judged true u = Ok (rack_of u)
judged false u = Err BadSetUp

unfoldable pub accepted_set_up : SetUp → Result Rack Refusal
accepted_set_up u = judged (good_set_up u) u

-- its verdict, and the rack that there is then
abbrev pub verdict_of : Result Rack Refusal → Verdict
verdict_of (Ok r) = Ok tt
verdict_of (Err no') = Err no'

abbrev pub rack_or_none : Result Rack Refusal → Rack
rack_or_none (Ok r) = r
rack_or_none (Err no') = no_rack
