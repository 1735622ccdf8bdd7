-- what is left to be tested decides
use mathlib.Core.Path.{◌≡◌}
use lib.ListN.{drop}
use Rattle.offers.specs.Offers.{good_from}
use Rattle.offers.proofs.good_objects.Given as goal

abbrev pub invariant-loop-x : goal.invariant-loop-x
invariant-loop-x l = good_from l.limit 0 l.objects ≡ good_from l.limit l.before (drop l.x-index l.objects)
