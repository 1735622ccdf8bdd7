-- Ways and stimuli told apart, and the groups of them, and of states, that the claims speak of. Assumes nothing.
use Prim.Native.Nat.{ℕ}
use mathlib.Core.Bool.{Bool, false, ◌||◌}
use mathlib.Core.List.{List, [], ◌∷◌}
use lib.Dec.{eqb}
use Rattle.source.specs.declared.State.{State}
use Rattle.source.specs.declared.Stimulus.{Stimulus}
use Rattle.source.specs.declared.Way.{Way}
use Rattle.source.specs.States.{same}

abbrev way_code : Way → ℕ
way_code Way.Stay = 0
way_code Way.Offered = 1
way_code Way.Softened = 2
way_code Way.Offer = 3
way_code Way.Discovery = 4
way_code Way.Disabled = 5
way_code Way.Judge = 6
way_code Way.Accepting = 7
way_code Way.Moving = 8
way_code Way.Telling = 9
way_code Way.Ready = 10
way_code Way.Declining = 11
way_code Way.Refusing = 12
way_code Way.Waiting = 13
way_code Way.Soft = 14
way_code Way.Answering = 15
way_code Way.Hard = 16
way_code Way.HardHeard = 17
way_code Way.Default = 18
way_code Way.Detached = 19

abbrev pub one_way_of : List Way → Way → Bool
one_way_of [] w = false
one_way_of (x ∷ xs) w = eqb (way_code w) (way_code x) || one_way_of xs w

abbrev stimulus_code : Stimulus → ℕ
stimulus_code Stimulus.Attach = 0
stimulus_code Stimulus.Detach = 1
stimulus_code Stimulus.HardReset = 2
stimulus_code Stimulus.Acknowledged = 3
stimulus_code Stimulus.Failed = 4
stimulus_code Stimulus.SenderResponse = 5
stimulus_code Stimulus.SourceCapability = 6
stimulus_code Stimulus.PsHardReset = 7
stimulus_code Stimulus.SupplyReady = 8
stimulus_code Stimulus.NewOffer = 9
stimulus_code Stimulus.Yes = 10
stimulus_code Stimulus.No = 11

abbrev pub one_stimulus_of : List Stimulus → Stimulus → Bool
one_stimulus_of [] e = false
one_stimulus_of (x ∷ xs) e = eqb (stimulus_code e) (stimulus_code x) || one_stimulus_of xs e

-- ---- ways: those on which a message goes out, those into Hard, the one on which an offer does
abbrev pub is_sending : Way → Bool
is_sending w = one_way_of (Way.Offer ∷ Way.Accepting ∷ Way.Telling ∷ Way.Declining ∷ Way.Refusing ∷ Way.Soft ∷ Way.Answering ∷ []) w

abbrev pub is_hard : Way → Bool
is_hard w = one_way_of (Way.Hard ∷ Way.HardHeard ∷ []) w

abbrev pub is_offer : Way → Bool
is_offer w = one_way_of (Way.Offer ∷ []) w

abbrev pub is_offered : Way → Bool
is_offered w = one_way_of (Way.Offered ∷ []) w

-- ---- stimuli: those that clear the memory, those that end the pending message
abbrev pub clears : Stimulus → Bool
clears e = one_stimulus_of (Stimulus.Attach ∷ Stimulus.Detach ∷ []) e

abbrev pub ends : Stimulus → Bool
ends e = one_stimulus_of (Stimulus.Acknowledged ∷ Stimulus.Failed ∷ []) e

-- those that are the expiry of a timer that is started and stopped
abbrev pub expiring : Stimulus → Bool
expiring e = one_stimulus_of (Stimulus.SenderResponse ∷ Stimulus.SourceCapability ∷ Stimulus.PsHardReset ∷ []) e

-- the one at which a port accepts
abbrev pub is_yes : Stimulus → Bool
is_yes e = one_stimulus_of (Stimulus.Yes ∷ []) e

-- ---- states: "In these three, any new packet (Soft_Reset too, our stricter rule)"
abbrev pub is_stricter : State → Bool
is_stricter s = same s State.Accepting || (same s State.Moving || same s State.Telling)
