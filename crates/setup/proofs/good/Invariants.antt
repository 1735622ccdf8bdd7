-- `setup::good` meets its contract: the ports passed are good, and their shares are summed. Assumes nothing.
use Prim.Native.Nat.{◌≤◌, ◌*◌}
use mathlib.Core.Path.{◌≡◌}
use mathlib.Core.Bool.{true}
use Rattle.setup.specs.SetUps.{setting, good_setting, everywhere, shares}
use Rattle.setup.proofs.good.Given as goal

abbrev pub invariant-loop-s : goal.invariant-loop-s
invariant-loop-s l = (everywhere (λ k. good_setting (setting l.fn.u k)) l.s-index ≡ true) × (l.shares ≡ shares l.fn.u l.s-index) × (l.shares ≤ l.s-index * 4294967295)
