-- Every answer of the tally is pinned down: no two differing results meet the contract of a public call, as the checker itself reads that contract.
-- Assumes nothing.
use Rattle.ground.proofs.Settles.{Settles, same}
use Rattle.tally.proofs.new.Kinds as new-k
use Rattle.tally.proofs.new.Reads as new-c
use Rattle.tally.proofs.verdict_number.Kinds as verdict-number-k
use Rattle.tally.proofs.verdict_number.Reads as verdict-number-c
use Rattle.tally.proofs.one_more.Kinds as one-more-k
use Rattle.tally.proofs.one_more.Reads as one-more-c
use Rattle.tally.proofs.Tally.sums.Kinds as sums-k
use Rattle.tally.proofs.Tally.sums.Reads as sums-c
use Rattle.tally.proofs.Tally.told.Kinds as told-k
use Rattle.tally.proofs.Tally.told.Reads as told-c
use Rattle.tally.proofs.Tally.set_up_told.Kinds as set-up-told-k
use Rattle.tally.proofs.Tally.set_up_told.Reads as set-up-told-c

pub new : Settles 0 new-k.ps new-k.r new-c.Post (λ κs x s. x)
new κs a x y s t = same

pub verdict_number_lem : Settles 0 verdict-number-k.ps verdict-number-k.r verdict-number-c.Post (λ κs x s. x)
verdict_number_lem κs a x y s t p q = same p.0 q.0

pub one_more : Settles 0 one-more-k.ps one-more-k.r one-more-c.Post (λ κs x s. x)
one_more κs a x y s t = same

pub sums : Settles 0 sums-k.ps sums-k.r sums-c.Post (λ κs x s. x)
sums κs a x y s t = same

pub told : Settles 0 told-k.ps told-k.r told-c.Post (λ κs x s. x)
told κs a x y s t = same

pub set_up_told_lem : Settles 0 set-up-told-k.ps set-up-told-k.r set-up-told-c.Post (λ κs x s. x)
set_up_told_lem κs a x y s t = same
