-- A refusal returns its number only: the port is the very same, nothing is done, and nothing happens to held power. Assumes nothing.
use mathlib.Core.Path.{◌≡◌, refl, ap}
use Rattle.ground.specs.declared.Refusal.{Refusal}
use Rattle.power.specs.declared.Change.{Change}
use Rattle.port.specs.declared.Port.{Port}
use Rattle.port.specs.declared.Answer.{Answer}
use Rattle.port.specs.Memory.{refused_by, no_actions}
use Rattle.port.specs.Steps.{turn, resent, nothing_done}
use Rattle.port.specs.Calls.{Call, step}
use Rattle.portclaims.proofs.Shapes.{Shape, refused, idle, again, led, heard, shape}
use Rattle.std.specs.Prelude.{Ok, Err}

-- a refusal is no other answer
other : (a : Answer) (r : Refusal) (p : Port) → a.verdict ≡ Ok tt → a.verdict ≡ Err r → a ≡ refused_by r p
other a r p fine no' = cc

by_shape : (p : Port) (c : Call) (a : Answer) (r : Refusal) → Shape p c a → a.verdict ≡ Err r → a ≡ refused_by r p
unfolding turn resent nothing_done
by_shape p c a r (refused d s) e = cc
by_shape p c a r (idle d u crc) e = other (nothing_done crc p) r p refl e
by_shape p c a r (again d u pending more) e = other (resent p) r p refl e
by_shape p c a r (led d s after runs way rule l) e = other _ r p refl e
by_shape p c a r (heard s n f m way new l) e = other _ r p refl e

module _ (p : Port) (c : Call) (r : Refusal) (e : (step p c).verdict ≡ Err r) where
  whole : step p c ≡ refused_by r p
  whole = by_shape p c (step p c) r (shape p c) e

  -- THE CLAIM
  pub the_same_port : (step p c).port ≡ p
  the_same_port = ap (λ (a : Answer). a.port) whole

  pub no_action : (step p c).actions ≡ no_actions
  no_action = ap (λ (a : Answer). a.actions) whole

  pub nothing_held_or_given_up : (step p c).held ≡ Change.Nothing
  nothing_held_or_given_up = ap (λ (a : Answer). a.held) whole
