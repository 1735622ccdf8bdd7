-- The offers since the count was last cleared, reckoned step by step without looking at the count: from what goes out, what is given up, and the state, pending message
-- and retries of the port before and after.
use Rattle.std.specs.Prelude.{ℕ, ◌+◌, Bool, true, false, not, cond, ◌&&◌, ◌||◌, List, [], ◌∷◌, ltb, eqb}
use Rattle.power.specs.declared.Change.{Change}
use Rattle.source.specs.declared.State.{State}
use Rattle.source.specs.States.{same}
use Rattle.port.specs.declared.Port.{Port}
use Rattle.port.specs.declared.Answer.{Answer}
use Rattle.port.specs.Memory.{state_of, pending_in}
use Rattle.port.specs.Calls.{Call, step}

-- an offer is put on the wire: a message goes out, with no retries yet, of a port that is then in Offer
abbrev pub offer_made : Answer → Bool
offer_made a = (ltb 0 a.actions.transmit.length && eqb a.port.channel.pending.retries 0) && same (state_of a.port) State.Offer

abbrev pub is_given_up : Change → Bool
is_given_up Change.Nothing = false
is_given_up Change.Accepted = false
is_given_up Change.InForce = false
is_given_up Change.GivenUp = true

-- the count is cleared: the offer is acknowledged; or all is given up (Default ready, detach); or the port is attached
abbrev pub seen_cleared : State → Bool → State → Bool → Bool → Bool
seen_cleared before pending after pending_after given =
    ((same before State.Offer && pending) && (same after State.Offer && not pending_after)) || (given || (same before State.Detached && not (same after State.Detached)))

abbrev pub count_cleared : Port → Answer → Bool
count_cleared p a = seen_cleared (state_of p) (pending_in p) (state_of a.port) (pending_in a.port) (is_given_up a.held)

-- so many offers, and one step more
abbrev pub offers_after : ℕ → Port → Answer → ℕ
offers_after n p a = cond (count_cleared p a) 0 n + cond (offer_made a) 1 0

-- the offers since the count was last cleared, after a port with n of them has been through some calls
abbrev pub offers_since : ℕ → Port → List Call → ℕ
offers_since n p [] = n
offers_since n p (c ∷ cs) = offers_since (offers_after n p (step p c)) (step p c).port cs
