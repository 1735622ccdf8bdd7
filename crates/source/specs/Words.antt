-- docs/STEPS.md: the words for each state and each timer.
use Rattle.std.specs.Prelude.{ℕ, List, codes}
use Rattle.source.specs.declared.State.{State}
use Rattle.source.specs.declared.Timer.{Timer}

unfoldable pub state_words : State → List ℕ
state_words State.Detached = codes "Detached"
state_words State.Offer = codes "Offer"
state_words State.Discovery = codes "Discovery"
state_words State.Disabled = codes "Disabled"
state_words State.Judge = codes "Judge"
state_words State.Accepting = codes "Accepting"
state_words State.Moving = codes "Moving"
state_words State.Telling = codes "Telling"
state_words State.Ready = codes "Ready"
state_words State.Declining = codes "Declining"
state_words State.Refusing = codes "Refusing"
state_words State.Waiting = codes "Waiting"
state_words State.Soft = codes "Soft"
state_words State.Answering = codes "Answering"
state_words State.Hard = codes "Hard"
state_words State.Default = codes "Default"

unfoldable pub timer_words : Timer → List ℕ
timer_words Timer.SenderResponse = codes "SenderResponse"
timer_words Timer.SourceCapability = codes "SourceCapability"
timer_words Timer.PsHardReset = codes "PSHardReset"
