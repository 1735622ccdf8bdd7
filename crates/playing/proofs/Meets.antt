-- A field as `plan` takes it is answered as the rack's step answers it. Assumes nothing.
use Prim.Native.Nat.{ℕ}
use mathlib.Core.Path.{◌≡◌}
use mathlib.Core.List.{List}
use Rattle.port.specs.Calls as Port
use Rattle.slot.specs.declared.Slot.{Slot}
use Rattle.night.specs.Events.{behind_of, offer_of}
use Rattle.plan.specs.Plans.{done_of}
use Rattle.plan.proofs.SameAsStepping.{event_alike, packet_alike, offer_alike}
use Rattle.playing.specs.declared.turns.Coming.{Coming}
use Rattle.playing.specs.Meeting.{met_in, offer_in, stepped_by}

pub as_stepped : (t : Slot) (coming : Coming) (l : List ℕ) (others supply : ℕ) → done_of t (offer_in t.port coming l) (met_in t coming l) others supply ≡ stepped_by t coming l others supply
unfolding stepped_by Port.step
as_stepped t (Coming.Event e) l others supply = event_alike t t.port.newest others supply e
as_stepped t Coming.Packet l others supply = packet_alike t t.port.newest others supply (behind_of l)
as_stepped t Coming.NewOffer l others supply = offer_alike t (offer_of l) others supply
