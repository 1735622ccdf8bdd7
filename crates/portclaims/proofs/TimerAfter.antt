-- The timer that runs after a call, by what was done in it. Assumes nothing.
use mathlib.Core.Bool.{Bool, true, false, cond, ◌&&◌}
use Rattle.source.specs.declared.Timer.{Timer}
use Rattle.source.specs.declared.Timer.TheVariants.{SenderResponse, SourceCapability, PsHardReset}
use Rattle.port.specs.declared.Answer.{Answer}
use Rattle.port.specs.Calls.{Call}
use Rattle.portclaims.proofs.Shapes.{is_expiry}
use Rattle.ground.specs.Refusals.{Verdict}
use Rattle.std.specs.Prelude.{Some, None, Ok, Err, Option}

-- one that expired or was stopped no longer runs, one that was started does
abbrev pub begun : Option Timer → Option Timer → Option Timer
begun None t = t
begun (Some u) t = Some u

abbrev pub halted : Option Timer → Option Timer → Option Timer
halted None t = t
halted (Some SenderResponse) t = None
halted (Some SourceCapability) t = None
halted (Some PsHardReset) t = None

abbrev pub is_fine : Verdict → Bool
is_fine (Ok _) = true
is_fine (Err r) = false

abbrev pub timer_after : Option Timer → Call → Answer → Option Timer
timer_after t c a = begun a.actions.start (halted a.actions.stop (cond (is_expiry c && is_fine a.verdict) None t))
