use native.Mathlib.Omega.{arith}
use mathlib.Core.Path.{refl}
use Rattle.night.proofs.Fields.{behind_is, start_is, cut_behind, cut_start, none_behind, no_start}
use Rattle.night.proofs.behind.Goals.{else-n-ge4-via-then-n-ge4+else-n-s, else-n-ge4-via-else-n-ge4}
use Rattle.night.proofs.behind.Goals as goal

pub returns-then-n-s : goal.returns-then-n-s
returns-then-n-s c =
    let l = c.args.s.now in
    let n = c.size-n.result in
    let e = c.size-n.ensures in
    record { memory = refl; start = rw (start_is l n e c.if-n-s.true c.if-n-ge4.true) (omega arith); bytes = behind_is l n e c.if-n-s.true }

pub returns-else-n-ge4 : goal.returns-else-n-ge4
returns-else-n-ge4 c =
    let l = c.args.s.now in
    let n = c.size-n.result in
    let e = c.size-n.ensures in
    elim c.else-n-ge4.branch [
      | else-n-ge4-via-then-n-ge4+else-n-s w ↦ record { memory = refl; start = rw (cut_start l n e w.if-n-s.false w.if-n-ge4.true) (omega arith); bytes = cut_behind l n e w.if-n-s.false }
      | else-n-ge4-via-else-n-ge4 w ↦ record { memory = refl; start = rw (no_start l n e w.if-n-ge4.false) (omega arith); bytes = none_behind l n e w.if-n-ge4.false }
    ]
