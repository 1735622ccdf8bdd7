-- Numbers that are taken into a checksum one by one: a message once all of its bytes are in. Assumes nothing.
use Prim.Native.Nat.{ℕ, ◌<◌, ◌≤◌, min}
use native.Mathlib.Omega.{arith}
use mathlib.Core.Path.{◌≡◌, sym, ap, ◌∙◌}
use mathlib.Core.List.{List}
use lib.ListN.{length, take, drop, drop_of_length-le}
use Rattle.std.proofs.lemmas.List.{take_min}
use Rattle.ground.specs.declared.Refusal.{Refusal}
use Rattle.ground.specs.declared.Refusal.TheVariants.{TooShort, TooLong, WrongLength, NotChunked, NoRoom, OutOfRange, BadOffer, NotAwaited, NotInRack, BadSetUp}
use Rattle.ground.specs.Refusals.{number_of, Verdict}
use Rattle.tally.specs.Checksum.{mixed_all, verdict_number}
use Rattle.std.specs.Prelude.{Ok, Err}

-- past the last byte, what was taken in is the whole message: as many of its bytes as it says, and no more than there are
pub all_in : (l : List ℕ) (length_of n i mix first : ℕ) → n ≡ min length_of (length l) → mixed_all first (take n l) ≡ mixed_all mix (drop i (take n l)) → length (take n l) ≤ i → mix ≡ mixed_all first (take length_of l)
all_in l length_of n i mix first m e h =
    sym (e ∙ ap (mixed_all mix) (drop_of_length-le (take n l) h)) ∙ ap (mixed_all first) (ap (λ (k : ℕ). take k l) m ∙ take_min length_of l)

-- there are ten refusals
few_refusals : (r : Refusal) → number_of r < 11
few_refusals TooShort = omega arith
few_refusals TooLong = omega arith
few_refusals WrongLength = omega arith
few_refusals NotChunked = omega arith
few_refusals NoRoom = omega arith
few_refusals OutOfRange = omega arith
few_refusals BadOffer = omega arith
few_refusals NotAwaited = omega arith
few_refusals NotInRack = omega arith
few_refusals BadSetUp = omega arith

pub few : (v : Verdict) (n : ℕ) → n ≡ verdict_number v → n < 11
few (Ok _) n e = omega (arith, e)
few (Err r) n e = omega (arith, e, few_refusals r)
