-- Every answer of the rack and of its layers is pinned down: no two differing results meet the contract of a public call, as the checker itself reads that contract.
-- Assumes nothing.
use Rattle.ground.proofs.Settles.{Settles, same}
use Rattle.ground.proofs.larger.Kinds as ground-larger-k
use Rattle.ground.proofs.larger.Reads as ground-larger-c
use Rattle.source.proofs.judging.Kinds as source-judging-k
use Rattle.source.proofs.judging.Reads as source-judging-c
use Rattle.slot.proofs.has_asked.Kinds as slot-has-asked-k
use Rattle.slot.proofs.has_asked.Reads as slot-has-asked-c
use Rattle.slot.proofs.Slot.load.Kinds as slot-load-k
use Rattle.slot.proofs.Slot.load.Reads as slot-load-c
use Rattle.slot.proofs.Slot.approves.Kinds as slot-approves-k
use Rattle.slot.proofs.Slot.approves.Reads as slot-approves-c
use Rattle.slot.proofs.Slot.settles.Kinds as slot-settles-k
use Rattle.slot.proofs.Slot.settles.Reads as slot-settles-c
use Rattle.rack.proofs.Rack.has.Kinds as rack-has-k
use Rattle.rack.proofs.Rack.has.Reads as rack-has-c
use Rattle.rack.proofs.Rack.load.Kinds as rack-load-k
use Rattle.rack.proofs.Rack.load.Reads as rack-load-c
use Rattle.rack.proofs.Rack.event.Kinds as rack-event-k
use Rattle.rack.proofs.Rack.event.Reads as rack-event-c
use Rattle.rack.proofs.Rack.packet.Kinds as rack-packet-k
use Rattle.rack.proofs.Rack.packet.Reads as rack-packet-c
use Rattle.rack.proofs.Rack.new_offer.Kinds as rack-new-offer-k
use Rattle.rack.proofs.Rack.new_offer.Reads as rack-new-offer-c
use Rattle.setup.proofs.good.Kinds as setup-good-k
use Rattle.setup.proofs.good.Reads as setup-good-c
use Rattle.setup.proofs.no_rack.Kinds as setup-no-rack-k
use Rattle.setup.proofs.no_rack.Reads as setup-no-rack-c
use Rattle.setup.proofs.set_up.Kinds as setup-set-up-k
use Rattle.setup.proofs.set_up.Reads as setup-set-up-c

pub ground_larger : Settles 0 ground-larger-k.ps ground-larger-k.r ground-larger-c.Post (λ κs x s. x)
ground_larger κs a x y s t = same

pub source_judging : Settles 0 source-judging-k.ps source-judging-k.r source-judging-c.Post (λ κs x s. x)
source_judging κs a x y s t = same

pub slot_has_asked : Settles 0 slot-has-asked-k.ps slot-has-asked-k.r slot-has-asked-c.Post (λ κs x s. x)
slot_has_asked κs a x y s t = same

pub slot_load : Settles 0 slot-load-k.ps slot-load-k.r slot-load-c.Post (λ κs x s. x)
slot_load κs a x y s t = same

pub slot_approves : Settles 0 slot-approves-k.ps slot-approves-k.r slot-approves-c.Post (λ κs x s. x)
slot_approves κs a x y s t = same

pub slot_settles : Settles 0 slot-settles-k.ps slot-settles-k.r slot-settles-c.Post (λ κs x s. x)
slot_settles κs a x y s t = same

pub rack_has : Settles 0 rack-has-k.ps rack-has-k.r rack-has-c.Post (λ κs x s. x)
rack_has κs a x y s t = same

pub rack_load : Settles 0 rack-load-k.ps rack-load-k.r rack-load-c.Post (λ κs x s. x)
rack_load κs a x y s t = same

pub rack_event : Settles 0 rack-event-k.ps rack-event-k.r rack-event-c.Post (λ κs x s. x)
rack_event κs a x y s t = same

pub rack_packet : Settles 1 rack-packet-k.ps rack-packet-k.r rack-packet-c.Post (λ κs x s. x)
rack_packet κs a x y s t = same

pub rack_new_offer : Settles 0 rack-new-offer-k.ps rack-new-offer-k.r rack-new-offer-c.Post (λ κs x s. x)
rack_new_offer κs a x y s t = same

pub setup_good : Settles 0 setup-good-k.ps setup-good-k.r setup-good-c.Post (λ κs x s. x)
setup_good κs a x y s t = same

pub setup_no_rack : Settles 0 setup-no-rack-k.ps setup-no-rack-k.r setup-no-rack-c.Post (λ κs x s. x)
setup_no_rack κs a x y s t = same

pub setup_set_up : Settles 0 setup-set-up-k.ps setup-set-up-k.r setup-set-up-c.Post (λ κs x s. x)
setup_set_up κs a x y s t = same
