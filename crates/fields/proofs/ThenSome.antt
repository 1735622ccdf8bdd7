-- A value that is there under a condition. Assumes nothing.
use mathlib.Core.Path.{◌≡◌, refl}
use mathlib.Core.Bool.{Bool, true, false}
use Rattle.std.specs.Prelude.{Some}
use Rattle.std.specs.Bool.{then_some}
use Rattle.std.proofs.lemmas.Option.{none-some, same_Some}

-- where it is there, the condition holds
pub is_there : {A : Type 0} (b : Bool) (y x : A) → then_some b y ≡ Some x → (b ≡ true) × (y ≡ x)
is_there true y x e = (refl, same_Some y x e)
is_there false y x e = absurd (none-some x e)
