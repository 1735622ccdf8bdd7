-- Ours meets demand 1 (specs/Demand1). And every refusal has a number of the table's ten. Assumes nothing.
use Prim.Native.Nat.{◌≤◌}
use native.Mathlib.Omega.{arith}
use mathlib.Core.Path.{refl, sym}
use Rattle.ground.specs.declared.Refusal.{Refusal}
use Rattle.ground.specs.declared.Refusal.TheVariants.{TooShort, TooLong, WrongLength, NotChunked, NoRoom, OutOfRange, BadOffer, NotAwaited, NotInRack, BadSetUp}
use Rattle.ground.specs.Refusals.{number_of}
use Rattle.reading.specs.Reading.{read_of, part_of}
use Rattle.setup.specs.SetUps.{accepted_set_up}
use Rattle.rackclaims.proofs.RefusalsInOrder.{refused_just_so}
use Rattle.rackclaims.proofs.RefusedChangesNothing as Changed
use Rattle.demands.specs.Ours.{ours}
use Rattle.demands.specs.Demand1.{Demand1}
use Rattle.demands.proofs.RefusedWriteChangesNothing.{refused_changes_nothing}

-- THE CLAIM
pub a_number_of_the_table : (no' : Refusal) → (1 ≤ number_of no') × (number_of no' ≤ 10)
a_number_of_the_table TooShort = (omega arith, omega arith)
a_number_of_the_table TooLong = (omega arith, omega arith)
a_number_of_the_table WrongLength = (omega arith, omega arith)
a_number_of_the_table NotChunked = (omega arith, omega arith)
a_number_of_the_table NoRoom = (omega arith, omega arith)
a_number_of_the_table OutOfRange = (omega arith, omega arith)
a_number_of_the_table BadOffer = (omega arith, omega arith)
a_number_of_the_table NotAwaited = (omega arith, omega arith)
a_number_of_the_table NotInRack = (omega arith, omega arith)
a_number_of_the_table BadSetUp = (omega arith, omega arith)

-- THE CLAIM
pub ours_meets_demand_1 : Demand1 ours
unfolding read_of part_of accepted_set_up
ours_meets_demand_1 =
    record {
      every_event_is_answered = refused_just_so;
      every_packet_is_answered = λ s no' e. (rw e refl, rw e refl);
      every_message_is_answered = λ f o buf place no' e. rw e refl;
      no_port_is_different = Changed.the_same_rack;
      nothing_is_done = λ r number h no' e. (Changed.no_action_at_all r number h no' e, Changed.nothing_happens_to_held r number h no' e);
      no_lent_byte_is_different = λ f o buf place no' e. refused_changes_nothing f o buf place (ours.buffer f o buf place) no' (record { result = sym e; buffer = refl });
      good_is_set_up = λ u e. (rw e refl, rw e refl);
      bad_is_ten = λ u e. (rw e refl, rw e refl);
    }
