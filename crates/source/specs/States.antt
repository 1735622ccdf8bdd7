-- "The Source states": the states told apart, which of them listen, and the timer that runs in each.
use Rattle.std.specs.Prelude.{ℕ, Bool, true, false, not, cond, ◌||◌, eqb, Some, None, Option}
use Rattle.source.specs.declared.State.{State}
use Rattle.source.specs.declared.Timer.{Timer}
use Rattle.source.specs.declared.Timer.TheVariants.{SenderResponse, SourceCapability, PsHardReset}

abbrev pub code_of : State → ℕ
code_of State.Detached = 0
code_of State.Offer = 1
code_of State.Discovery = 2
code_of State.Disabled = 3
code_of State.Judge = 4
code_of State.Accepting = 5
code_of State.Moving = 6
code_of State.Telling = 7
code_of State.Ready = 8
code_of State.Declining = 9
code_of State.Refusing = 10
code_of State.Waiting = 11
code_of State.Soft = 12
code_of State.Answering = 13
code_of State.Hard = 14
code_of State.Default = 15

abbrev pub same : State → State → Bool
same s t = eqb (code_of s) (code_of t)

-- "Detached, Hard, Default, Disabled refuse packets and a heard Hard Reset. All others listen."
abbrev pub listens : State → Bool
listens s = not ((same s State.Detached || same s State.Hard) || (same s State.Default || same s State.Disabled))

-- the timer of a state that waits for an answer once its message is acknowledged
abbrev pub awaits_reply : Bool → Option Timer
awaits_reply true = None
awaits_reply false = Some SenderResponse

-- the timer that runs in a state, with or without a pending message
abbrev pub running : State → Bool → Option Timer
running State.Offer pending = awaits_reply pending
running State.Soft pending = awaits_reply pending
running State.Discovery pending = Some SourceCapability
running State.Hard pending = Some PsHardReset
running State.Detached pending = None
running State.Disabled pending = None
running State.Judge pending = None
running State.Accepting pending = None
running State.Moving pending = None
running State.Telling pending = None
running State.Ready pending = None
running State.Declining pending = None
running State.Refusing pending = None
running State.Waiting pending = None
running State.Answering pending = None
running State.Default pending = None

-- "Leaving a state stops its running timer."
abbrev pub stopped : State → State → Option Timer → Option Timer
stopped before after runs = cond (same before after) None runs
