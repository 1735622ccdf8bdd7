-- In the rack too, a readable packet that repeats the stored MessageID of a port that listens, Soft_Reset and GoodCRC aside, gets its GoodCRC again and changes
-- nothing: the whole rack is as it was. For every rack. Assumes nothing.
use Prim.Native.Nat.{ℕ}
use mathlib.Core.Path.{◌≡◌, ap, ◌∙◌}
use mathlib.Core.Bool.{true, false}
use mathlib.Core.List.{List}
use Rattle.message.specs.declared.Fields.{Fields}
use Rattle.reading.specs.Reading.{read_of, message_with}
use Rattle.channel.specs.Channel.{is_repeat}
use Rattle.source.specs.declared.State.{State}
use Rattle.source.specs.States.{same, listens}
use Rattle.port.specs.Memory.{state_of}
use Rattle.port.specs.Packets.{meaning_in}
use Rattle.port.specs.Calls as Port
use Rattle.portclaims.specs.Repeats.{only_good_crc, aside}
use Rattle.portclaims.proofs.RepeatChangesNothing.{repeat_changes_nothing}
use Rattle.rack.specs.declared.Rack.{Rack}
use Rattle.rack.specs.Ports.{at}
use Rattle.rack.specs.Steps.{packet, own_answer, answer_at, turned}
use Rattle.rackclaims.proofs.Neighbours.{put_same, answers_by_itself}
use Rattle.rackclaims.proofs.RefusalsInOrder.{never_twice}

module _ (r : Rack) (i : ℕ) (s : List ℕ) (n : ℕ) (f : Fields) (listening : listens (state_of (at r i).port) ≡ true) (read : read_of s ≡ message_with n f)
    (again : is_repeat (at r i).port.channel f.message_id ≡ true) (not-aside : aside (meaning_in n f) ≡ false) where
  alone : own_answer r i (packet s) ≡ only_good_crc f (at r i).port
  unfolding Port.step
  alone = repeat_changes_nothing (at r i).port s n f listening read again not-aside

  pub only_good_crc_lem : answer_at r i (packet s) ≡ only_good_crc f (at r i).port
  only_good_crc_lem = answers_by_itself r i (packet s) (rw alone (never_twice (same (state_of (at r i).port) State.Judge))) ∙ alone

  -- THE CLAIM
  pub repeat_changes_no_port : (turned r i (answer_at r i (packet s))).rack ≡ r
  repeat_changes_no_port = rw only_good_crc_lem (put_same r i)

  pub repeat_gets_good_crc : (turned r i (answer_at r i (packet s))).actions ≡ (only_good_crc f (at r i).port).actions
  repeat_gets_good_crc = ap (λ a. a.actions) only_good_crc_lem
