-- `setup::good` meets its contract: the ports passed are good, and their shares are summed. Assumes nothing.
use native.Mathlib.Omega.{arith}
use Prim.Native.Nat.{◌<◌}
use mathlib.Core.Path.{sym, ap, ◌∙◌}
use Rattle.std.proofs.lemmas.List.{get_or-take}
use Rattle.setup.specs.SetUps.{good_setting, no_setting}
use Rattle.setup.proofs.Settings.{too_few, too_many, one_is_bad, all_are_good}
use Rattle.setup.proofs.good.Goals as goal
use Rattle.setup.proofs.good.Goals.{then-n-lt1-via-then-n-lt1, then-n-lt1-via-else-n-lt1+then-n-gt-PORTS}

pub returns-then-n-lt1 : goal.returns-then-n-lt1
returns-then-n-lt1 c =
    elim c.then-n-lt1.branch [
      | then-n-lt1-via-then-n-lt1 w ↦ too_few c.args.u w.if-n-lt1.true
      | then-n-lt1-via-else-n-lt1+then-n-gt-PORTS w ↦ too_many c.args.u w.if-n-gt-PORTS.true
    ]

pub returns-then-not-good_setting : goal.returns-then-not-good_setting
returns-then-not-good_setting c =
    let u = c.args.u in
    let i = c.loop-s.s-index in
    let h : i < u.count = omega arith in
    one_is_bad u i h (ap good_setting (sym (get_or-take u.count u.settings i no_setting h)) ∙ sym c.good_setting.ensures ∙ c.if-not-good_setting.true)

pub returns : goal.returns
returns c = let q = c.loop-s in all_are_good c.args.u q.s-index q.shares (omega (arith, c.if-n-lt1.false)) c.if-n-gt-PORTS.false (omega arith) (omega arith) q.invariant.0 q.invariant.1
