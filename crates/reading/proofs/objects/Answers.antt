use mathlib.Core.Path.{refl, sym, ◌∙◌}
use native.Mathlib.Omega.{arith}
use Rattle.ground.proofs.Parts.{rest}
use Rattle.reading.specs.Reading.{part_start, part_of}
use Rattle.reading.proofs.Fine.{readable}
use Rattle.reading.proofs.objects.Goals as goal

pub slice_bounds-result-start : goal.slice_bounds-result-start
slice_bounds-result-start c = let told = readable _ (sym c.tried.ensures ∙ c.in-Ok.is) in omega (arith, told.least)

pub slice_bounds-result-count : goal.slice_bounds-result-count
slice_bounds-result-count c = let told = readable _ (sym c.tried.ensures ∙ c.in-Ok.is) in told.least

pub returns-in-Ok : goal.returns-in-Ok
unfolding part_start part_of
returns-in-Ok c =
    let told = sym c.tried.ensures ∙ c.in-Ok.is in
    record { memory = refl; start = rw told (omega arith); bytes = rw told (rest 2 c.args.s.now) }

pub returns-in-Err : goal.returns-in-Err
unfolding part_start part_of
returns-in-Err c =
    let told = sym c.tried.ensures ∙ c.in-Err.is in
    record { memory = refl; start = rw told (omega arith); bytes = rw told refl }
