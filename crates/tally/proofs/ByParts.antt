-- An event's answer, taken in part by part: the count of its verdict in its place, and the sums. Assumes nothing.
use Prim.Native.Nat.{ℕ}
use mathlib.Core.Path.{◌≡◌, refl}
use lib.ListN.{get_or, set}
use Rattle.source.specs.declared.State.{State}
use Rattle.port.specs.declared.Actions.{Actions}
use Rattle.tally.specs.declared.Tally.{Tally}
use Rattle.tally.specs.declared.Sums.{Sums}
use Rattle.tally.specs.Checksum.{verdict_number}
use Rattle.tally.specs.Counts.{one_more, told, sums_of}
use Rattle.ground.specs.Refusals.{Verdict}

pub by_parts : (t : Tally) (port : ℕ) (v : Verdict) (a : Actions) (before after : State) (held : ℕ) (sums : Sums) → sums ≡ sums_of (told t port v a before after held) →
    (k : ℕ) → k ≡ verdict_number v → (n : ℕ) → n ≡ one_more (get_or t.verdicts k 0) →
    record { verdicts = set t.verdicts k n; sums = sums } ≡ told t port v a before after held
unfolding told
by_parts t port v a before after held sums e k f n g = rw (g, f, e) refl
