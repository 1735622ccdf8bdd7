-- What holds of a port between events: where a message may be pending, the timer that runs, what Ready and Waiting have, what is held.
use Rattle.std.specs.Prelude.{ℕ, ◌<◌, ◌≤◌, ◌≡◌, Bool, true, false, not, cond, ◌&&◌, ◌||◌, List, [], ◌∷◌, Some, None, Option}
use Rattle.channel.specs.declared.Channel.{Channel}
use Rattle.channel.specs.Channel.{is_pending, pending_id, most_retries, fresh}
use Rattle.source.specs.declared.State.{State}
use Rattle.source.specs.States.{same}
use Rattle.port.specs.declared.Port.{Port}
use Rattle.port.specs.Memory.{state_of, pending_in, most_offers}
use Rattle.offers.specs.declared.Asked.{Asked}

abbrev pub one_of : List State → State → Bool
one_of [] s = false
one_of (t ∷ ts) s = same s t || one_of ts s

-- whether one thing holds wherever another does
abbrev pub implies : Bool → Bool → Bool
implies a b = cond a b true

-- whether a state and what is or is not pending go together: in Offer and Soft a message is pending until it is acknowledged, in the states that
-- send one and wait for its acknowledgement it is, and in all others nothing is
abbrev pub pends : State → Bool → Bool
pends s pending =
    cond (one_of (State.Offer ∷ State.Soft ∷ []) s) true
    (cond (one_of (State.Accepting ∷ State.Telling ∷ State.Declining ∷ State.Refusing ∷ State.Answering ∷ []) s) pending (not pending))

-- whether a contract is made
abbrev pub is_made : Option Asked → Bool
is_made None = false
is_made (Some a) = true

-- "Ready has a contract and Waiting has none, both with the newest offer gone out"; a port that is Declining was Ready, and one that is Detached has none
abbrev pub calm : State → Bool → Bool → Bool → Bool
calm s pending goneOut made =
    pends s pending
    && (implies (same s State.Ready) (goneOut && made)
    && (implies (same s State.Waiting) (goneOut && not made)
    && (implies (same s State.Declining) made
    && implies (same s State.Detached) (not made))))

-- where held power may be more than the contract's: from the Accept until it is in force, and until a Hard Reset is over
abbrev pub in_between : State → Bool
in_between s = one_of (State.Accepting ∷ State.Moving ∷ State.Telling ∷ State.Hard ∷ State.Default ∷ []) s

abbrev pub worth_in : Option Asked → ℕ
worth_in None = 0
worth_in (Some a) = a.worth

-- the states in which the channel is as at attach
abbrev pub is_reset : State → Bool
is_reset s = one_of (State.Detached ∷ State.Hard ∷ State.Default ∷ []) s

-- "The pending MessageID is the counter", which is below 8, "at most twice"
pub record Numbered (c : Channel) : Type 0 where
  pub id : is_pending c ≡ true → pending_id c ≡ c.counter
  pub below : c.counter < 8
  pub few : c.pending.retries ≤ most_retries

-- what may be relied on between events
pub record Between (p : Port) : Type 0 where
  pub calmly : calm (state_of p) (pending_in p) p.gone_out (is_made p.power.contract) ≡ true
  pub numbered : Numbered p.channel
  pub reset : is_reset (state_of p) ≡ true → p.channel ≡ fresh
  pub known : (id : ℕ) → p.channel.stored ≡ Some id → p.connected ≡ true
  pub shown : p.gone_out ≡ true → p.newest ≡ p.last
  pub holds : in_between (state_of p) ≡ false → p.power.held ≡ worth_in p.power.contract
  pub counted : p.count ≤ most_offers
