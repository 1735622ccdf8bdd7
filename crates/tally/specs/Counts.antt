-- docs/REPLAY.md, "The counts": how many answers there were of each sort.
use Rattle.std.specs.Prelude.{ℕ, ◌+◌, min, Bool, not, cond, ◌&&◌, get_or, set, replicate, Ok, Err}
use Rattle.ground.specs.Refusals.{number_of, Verdict}
use Rattle.source.specs.declared.State.{State}
use Rattle.source.specs.States.{same}
use Rattle.port.specs.declared.Actions.{Actions}
use Rattle.tally.specs.declared.Tally.{Tally}
use Rattle.tally.specs.declared.Sums.{Sums}
use Rattle.tally.specs.Checksum.{mixed, verdict_number, checked}

-- one more, as far as the place for it goes
abbrev pub one_more : ℕ → ℕ
one_more n = min (n + 1) 18446744073709551615

abbrev pub no_tally : Tally
no_tally = record { verdicts = replicate 11 0; sums = record { accepts = 0; rejects = 0; hard_resets = 0; checksum = 0 } }

-- "an event by which a port comes to" a state "from another state"
abbrev pub comes_to : State → State → State → Bool
comes_to s before after = not (same before after) && same after s

abbrev pub counted_if : Bool → ℕ → ℕ
counted_if b n = cond b (one_more n) n

-- an event's answer: at which port, the verdict, the actions, the port's state before and after, and what it then holds
unfoldable pub told : Tally → ℕ → Verdict → Actions → State → State → ℕ → Tally
told t port v a before after held =
    record {
      verdicts = set t.verdicts (verdict_number v) (one_more (get_or t.verdicts (verdict_number v) 0));
      sums =
          record {
            accepts = counted_if (comes_to State.Accepting before after) t.sums.accepts;
            rejects = counted_if (comes_to State.Refusing before after) t.sums.rejects;
            hard_resets = counted_if (comes_to State.Hard before after) t.sums.hard_resets;
            checksum = checked t.sums.checksum port v a after held;
          };
    }

-- all of it but the answers by verdict
abbrev pub sums_of : Tally → Sums
sums_of t = t.sums

-- the sums with another checksum
abbrev pub checksum_is : ℕ → Sums → Sums
checksum_is x s = record { accepts = s.accepts; rejects = s.rejects; hard_resets = s.hard_resets; checksum = x }

-- a set-up's answer: it is no event, and counts only where it is refused
unfoldable pub set_up_told : Tally → Verdict → Tally
set_up_told t (Ok _) = record { verdicts = t.verdicts; sums = checksum_is (mixed t.sums.checksum 0) t.sums }
set_up_told t (Err r) =
    record {
      verdicts = set t.verdicts (number_of r) (one_more (get_or t.verdicts (number_of r) 0));
      sums = checksum_is (mixed t.sums.checksum (number_of r)) t.sums;
    }
