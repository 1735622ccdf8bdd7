-- docs/STEPS.md: the words for each change of held power.
use Rattle.std.specs.Prelude.{ℕ, List, codes}
use Rattle.power.specs.declared.Change.{Change}

unfoldable pub change_words : Change → List ℕ
change_words Change.Nothing = codes "nothing"
change_words Change.Accepted = codes "accepted"
change_words Change.InForce = codes "in force"
change_words Change.GivenUp = codes "given up"
