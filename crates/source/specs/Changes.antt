-- What happens to held power: "Judge: yes", "Telling: acknowledged", "Default: supply ready" and detach.
use Rattle.std.specs.Prelude.{cond}
use Rattle.power.specs.declared.Change.{Change}
use Rattle.power.specs.declared.Change.TheVariants.{Nothing, Accepted, InForce, GivenUp}
use Rattle.source.specs.declared.State.{State}
use Rattle.source.specs.declared.Stimulus.{Stimulus}
use Rattle.source.specs.States.{same}

abbrev pub when_acknowledged : State → Change
when_acknowledged s = cond (same s State.Telling) InForce Nothing

abbrev pub when_supply_ready : State → Change
when_supply_ready s = cond (same s State.Default) GivenUp Nothing

unfoldable pub change_of : State → Stimulus → Change
change_of s Stimulus.Attach = Nothing
change_of s Stimulus.Detach = GivenUp
change_of s Stimulus.HardReset = Nothing
change_of s Stimulus.Acknowledged = when_acknowledged s
change_of s Stimulus.Failed = Nothing
change_of s Stimulus.SenderResponse = Nothing
change_of s Stimulus.SourceCapability = Nothing
change_of s Stimulus.PsHardReset = Nothing
change_of s Stimulus.SupplyReady = when_supply_ready s
change_of s Stimulus.NewOffer = Nothing
change_of s Stimulus.Yes = Accepted
change_of s Stimulus.No = Nothing
