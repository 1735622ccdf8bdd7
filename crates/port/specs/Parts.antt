-- A port with one part of its memory changed: there is no update syntax, so each part's change names every other part, once, here.
use Rattle.std.specs.Prelude.{ℕ, Bool}
use Rattle.offers.specs.declared.Offer.{Offer}
use Rattle.channel.specs.declared.Channel.{Channel}
use Rattle.power.specs.declared.Power.{Power}
use Rattle.source.specs.declared.State.{State}
use Rattle.port.specs.declared.Port.{Port}

-- in another state
abbrev pub to : State → Port → Port
to s p = record { state = s; channel = p.channel; newest = p.newest; gone_out = p.gone_out; last = p.last; power = p.power; count = p.count; connected = p.connected }

abbrev pub channel_is : Channel → Port → Port
channel_is x p = record { state = p.state; channel = x; newest = p.newest; gone_out = p.gone_out; last = p.last; power = p.power; count = p.count; connected = p.connected }

abbrev pub newest_is : Offer → Port → Port
newest_is x p = record { state = p.state; channel = p.channel; newest = x; gone_out = p.gone_out; last = p.last; power = p.power; count = p.count; connected = p.connected }

abbrev pub gone_out_is : Bool → Port → Port
gone_out_is x p = record { state = p.state; channel = p.channel; newest = p.newest; gone_out = x; last = p.last; power = p.power; count = p.count; connected = p.connected }

abbrev pub last_is : Offer → Port → Port
last_is x p = record { state = p.state; channel = p.channel; newest = p.newest; gone_out = p.gone_out; last = x; power = p.power; count = p.count; connected = p.connected }

abbrev pub power_is : Power → Port → Port
power_is x p = record { state = p.state; channel = p.channel; newest = p.newest; gone_out = p.gone_out; last = p.last; power = x; count = p.count; connected = p.connected }

abbrev pub count_is : ℕ → Port → Port
count_is x p = record { state = p.state; channel = p.channel; newest = p.newest; gone_out = p.gone_out; last = p.last; power = p.power; count = x; connected = p.connected }

abbrev pub connected_is : Bool → Port → Port
connected_is x p = record { state = p.state; channel = p.channel; newest = p.newest; gone_out = p.gone_out; last = p.last; power = p.power; count = p.count; connected = x }
