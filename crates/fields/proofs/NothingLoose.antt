-- Every answer is pinned down: no two differing results meet the contract of a public call, as the checker itself reads that contract; and the lent buffer is
-- settled too. Assumes nothing.
use Rattle.ground.proofs.Settles.{Settles, same}
use Rattle.fields.proofs.first.Kinds as first-k
use Rattle.fields.proofs.first.Reads as first-c
use Rattle.fields.proofs.alone.at_port.Kinds as alone-k
use Rattle.fields.proofs.alone.at_port.Reads as alone-c
use Rattle.fields.proofs.carry_over.Kinds as carry-over-k
use Rattle.fields.proofs.carry_over.Reads as carry-over-c

pub first : Settles 1 first-k.ps first-k.r first-c.Post (λ κs x s. x)
first κs a x y s t = same

pub alone : Settles 1 alone-k.ps alone-k.r alone-c.Post (λ κs x s. x)
alone κs a x y s t = same

pub carry_over : Settles 1 carry-over-k.ps carry-over-k.r carry-over-c.Post (λ κs x s. x)
carry_over κs a x y s t p q = same p.answer q.answer

pub carry_over_bytes : Settles 1 carry-over-k.ps carry-over-k.r carry-over-c.Post (λ κs x s. s.0.now)
carry_over_bytes κs a x y s t p q = same p.bytes q.bytes
