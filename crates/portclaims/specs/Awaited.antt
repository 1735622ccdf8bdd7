-- "In Offer and Discovery a Request is awaited"; "Ready: Request as above".
use Rattle.std.specs.Prelude.{Bool, ◌||◌}
use Rattle.source.specs.declared.State.{State}
use Rattle.source.specs.States.{same}

-- awaited, or in Ready
abbrev pub awaits_request : State → Bool
awaits_request s = same s State.Offer || (same s State.Discovery || same s State.Ready)
