-- the parts, made one by one, are those of the port that the rules leave
use mathlib.Core.Path.{◌≡◌, refl}
use mathlib.Core.Bool.{Bool, true, false, ◌||◌}
use Rattle.offers.specs.declared.Asked.{Asked}
use Rattle.offers.specs.declared.Offer.{Offer}
use Rattle.port.specs.declared.Port.{Port}
use Rattle.port.specs.Parts.{channel_is, power_is, connected_is}
use Rattle.plan.specs.declared.Prior.{Prior}
use Rattle.plan.specs.Plans.{after, judging, base, channel_after, is_heard, power_judging}
use Rattle.plan.proofs.doing.ready.Goals as goal

part_by_part : (x : Prior) (asks : Bool) (a : Asked) (o : Offer) (p : Port) →
    connected_is (is_heard x || (base x o p).connected) (power_is (power_judging asks a (base x o p).power) (channel_is (channel_after x p.channel) (base x o p))) ≡ judging asks a (after x o p)
part_by_part Prior.Nothing true a o p = refl
part_by_part Prior.Nothing false a o p = refl
part_by_part Prior.Cleared true a o p = refl
part_by_part Prior.Cleared false a o p = refl
part_by_part Prior.Ended true a o p = refl
part_by_part Prior.Ended false a o p = refl
part_by_part Prior.Again true a o p = refl
part_by_part Prior.Again false a o p = refl
part_by_part (Prior.Heard id soft) true a o p = refl
part_by_part (Prior.Heard id soft) false a o p = refl
part_by_part Prior.Replaced true a o p = refl
part_by_part Prior.Replaced false a o p = refl

pub returns : goal.returns
returns c = rw (c.is_heard-heard.ensures, c.power_judging-power.ensures, c.base-q.ensures, c.channel_after-channel.ensures) (let s = c.args in part_by_part s.x s.asks s.a s.o s.p)
