use native.Mathlib.Nat.{div-one}
use Rattle.message.specs.Header.{fields_of}
use Rattle.message.proofs.unpack.Goals as goal

pub returns : goal.returns
unfolding fields_of
returns c = simp div-one
