-- Every answer is pinned down: no two differing results meet the contract of a public call, as the checker itself reads that contract.
-- Where a call returns a part, its place in the caller's memory is settled too. Assumes nothing.
use Rattle.ground.proofs.Settles.{Settles, same}
use Rattle.night.proofs.size.Kinds as size-k
use Rattle.night.proofs.size.Reads as size-c
use Rattle.night.proofs.next.Kinds as next-k
use Rattle.night.proofs.next.Reads as next-c
use Rattle.night.proofs.behind.Kinds as behind-k
use Rattle.night.proofs.behind.Reads as behind-c
use Rattle.night.proofs.offer.Kinds as offer-k
use Rattle.night.proofs.offer.Reads as offer-c
use Rattle.night.proofs.set_up.Kinds as set-up-k
use Rattle.night.proofs.set_up.Reads as set-up-c

pub size : Settles 1 size-k.ps size-k.r size-c.Post (λ κs x s. x)
size κs a x y s t = same

pub next : Settles 1 next-k.ps next-k.r next-c.Post (λ κs x s. x)
next κs a x y s t = same

pub behind_bytes : Settles 1 behind-k.ps behind-k.r behind-c.Post (λ κs x s. x.now)
behind_bytes κs a x y s t p q = same p.bytes q.bytes

pub behind_memory : Settles 1 behind-k.ps behind-k.r behind-c.Post (λ κs x s. x.ref_ptr.0)
behind_memory κs a x y s t p q = same p.memory q.memory

pub behind_start_lem : Settles 1 behind-k.ps behind-k.r behind-c.Post (λ κs x s. x.ref_ptr.1)
behind_start_lem κs a x y s t p q = same p.start q.start

pub offer : Settles 1 offer-k.ps offer-k.r offer-c.Post (λ κs x s. x)
offer κs a x y s t = same

pub set_up_lem : Settles 1 set-up-k.ps set-up-k.r set-up-c.Post (λ κs x s. x)
set_up_lem κs a x y s t = same
