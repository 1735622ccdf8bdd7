use native.Mathlib.Omega.{arith}
use Rattle.night.specs.Fields.{size_of}
use Rattle.night.proofs.Fields.{value_is, cut_value}
use Rattle.night.proofs.value.Goals as goal

pub slice_bounds-result-count : goal.slice_bounds-result-count
unfolding size_of
slice_bounds-result-count c = omega (arith, c.size-n.ensures)

pub slice_bounds-result-start : goal.slice_bounds-result-start
unfolding size_of
slice_bounds-result-start c = omega (arith, c.size-n.ensures)

pub returns-then-n-s : goal.returns-then-n-s
unfolding size_of
returns-then-n-s c = value_is c.args.s.now c.size-n.result c.size-n.ensures c.if-n-s.true

pub returns-else-n-s : goal.returns-else-n-s
unfolding size_of
returns-else-n-s c = cut_value c.args.s.now c.size-n.result c.size-n.ensures c.if-n-s.false
