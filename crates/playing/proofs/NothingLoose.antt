-- Every answer of a night's replay is pinned down: no two differing results meet the contract of a public call, as the checker itself reads that contract.
-- Assumes nothing.
use Rattle.ground.proofs.Settles.{Settles, same}
use Rattle.plan.proofs.event.Kinds as event-k
use Rattle.plan.proofs.event.Reads as event-c
use Rattle.plan.proofs.packet.Kinds as packet-k
use Rattle.plan.proofs.packet.Reads as packet-c
use Rattle.plan.proofs.new_offer.Kinds as new-offer-k
use Rattle.plan.proofs.new_offer.Reads as new-offer-c
use Rattle.plan.proofs.done.Kinds as done-k
use Rattle.plan.proofs.done.Reads as done-c
use Rattle.playing.proofs.night.Kinds as night-k
use Rattle.playing.proofs.night.Reads as night-c

pub event : Settles 0 event-k.ps event-k.r event-c.Post (λ κs x s. x)
event κs a x y s t = same

pub packet : Settles 1 packet-k.ps packet-k.r packet-c.Post (λ κs x s. x)
packet κs a x y s t = same

pub new_offer_lem : Settles 0 new-offer-k.ps new-offer-k.r new-offer-c.Post (λ κs x s. x)
new_offer_lem κs a x y s t = same

pub done : Settles 0 done-k.ps done-k.r done-c.Post (λ κs x s. x)
done κs a x y s t = same

pub night : Settles 1 night-k.ps night-k.r night-c.Post (λ κs x s. x)
night κs a x y s t = same
