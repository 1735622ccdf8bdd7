-- Every answer is pinned down: no two differing results meet the contract of a public call, as the checker itself reads that contract; and the lent buffer is
-- settled too. Assumes nothing.
use Rattle.ground.proofs.Settles.{Settles, same}
use Rattle.telling.proofs.Input.new.Kinds as new-k
use Rattle.telling.proofs.Input.new.Reads as new-c
use Rattle.telling.proofs.Input.answered.Kinds as answered-k
use Rattle.telling.proofs.Input.answered.Reads as answered-c

pub new : Settles 0 new-k.ps new-k.r new-c.Post (λ κs x s. x)
new κs a x y s t = same

pub answered : Settles 1 answered-k.ps answered-k.r answered-c.Post (λ κs x s. x)
answered κs a x y s t p q = same p.input q.input

pub answered_bytes : Settles 1 answered-k.ps answered-k.r answered-c.Post (λ κs x s. s.1.0.now)
answered_bytes κs a x y s t p q = same p.bytes q.bytes
