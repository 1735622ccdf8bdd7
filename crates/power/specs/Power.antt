-- "The port's memory": accepted request, contract and held power, and what each change does to them.
use Rattle.std.specs.Prelude.{max, Bool, true, false, Some, None, Option}
use Rattle.offers.specs.declared.Asked.{Asked}
use Rattle.offers.specs.declared.Offer.{Offer}
use Rattle.offers.specs.Requests.{is_honoured}
use Rattle.power.specs.declared.Power.{Power}
use Rattle.power.specs.declared.Change.{Change}
use Rattle.power.specs.declared.Standing.{Standing}
use Rattle.power.specs.declared.Standing.TheVariants.{NoContract, Honoured, Broken}

abbrev pub nothing_asked : Asked
nothing_asked = record { position = 0; voltage = 0; current = 0; worth = 0 }

-- at attach
abbrev pub none : Power
none = record { accepted = nothing_asked; contract = None; held = 0 }

-- a Request is to be judged: what it asks is kept until the power answer comes
abbrev pub judges : Power → Asked → Power
judges p a = record { accepted = a; contract = p.contract; held = p.held }

-- "held becomes the larger of held and asked"
abbrev pub accepts : Power → Power
accepts p = record { accepted = p.accepted; contract = p.contract; held = max p.held p.accepted.worth }

-- "the contract and held become the accepted request"
abbrev pub comes_into_force : Power → Power
comes_into_force p = record { accepted = p.accepted; contract = Some p.accepted; held = p.accepted.worth }

-- "contract, held cleared"
abbrev pub gives_up : Power → Power
gives_up p = record { accepted = p.accepted; contract = None; held = 0 }

unfoldable pub changed : Change → Power → Power
changed Change.Nothing p = p
changed Change.Accepted p = accepts p
changed Change.InForce p = comes_into_force p
changed Change.GivenUp p = gives_up p

abbrev pub by_offer : Bool → Standing
by_offer true = Honoured
by_offer false = Broken

-- no contract; or one that the offer still has; or one that it no longer has
unfoldable pub standing_of : Option Asked → Offer → Standing
standing_of None o = NoContract
standing_of (Some a) o = by_offer (is_honoured a o)
