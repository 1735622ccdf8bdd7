-- What the state tables keep, as tests that the checker computes over every state, stimulus and packet. Assumes nothing.
use mathlib.Core.Bool.{Bool, true, false, not, cond, ◌&&◌, ◌||◌}
use mathlib.Core.List.{[], ◌∷◌}
use lib.Dec.{T}
use Rattle.ground.proofs.Rows.{both}
use Rattle.power.specs.declared.Change.{Change}
use Rattle.power.specs.declared.Standing.{Standing}
use Rattle.source.specs.declared.State.{State}
use Rattle.source.specs.declared.Stimulus.{Stimulus}
use Rattle.source.specs.declared.Heard.{Heard}
use Rattle.source.specs.declared.Facts.{Facts}
use Rattle.source.specs.declared.Way.{Way}
use Rattle.source.specs.States.{same}
use Rattle.stimuli.specs.Leads.{leads}
use Rattle.hearing.specs.Packets.{on_packet}
use Rattle.source.specs.Changes.{change_of}
use Rattle.source.proofs.Finite.{everywhere, at_packets}
use Rattle.portclaims.specs.Between.{implies, calm, in_between, is_reset}
use Rattle.portclaims.proofs.Groups.{one_way_of, one_stimulus_of, clears, ends}
use Rattle.portclaims.proofs.Ways.{state_after, pending_after, gone_out_after, made_after}
use Rattle.std.specs.Prelude.{Some, None, Option}

-- what the protocol rules make of the four facts before the state leads on
abbrev pub ruled_state : Stimulus → State → State
ruled_state e s = cond (clears e) State.Detached s

abbrev pub ruled_pending : Stimulus → Bool → Bool
ruled_pending e b = cond (clears e || ends e) false b

abbrev pub ruled_gone_out : Stimulus → Bool → Bool
ruled_gone_out e b = cond (one_stimulus_of (Stimulus.Attach ∷ Stimulus.Detach ∷ Stimulus.NewOffer ∷ []) e) false b

abbrev pub ruled_made : Stimulus → Bool → Bool
ruled_made e b = cond (clears e) false b

-- a message is acknowledged or fails only where one is pending
abbrev pub possible : Stimulus → Bool → Bool
possible e b = cond (ends e) b true

abbrev pub made_by : Standing → Bool
made_by Standing.NoContract = false
made_by Standing.Honoured = true
made_by Standing.Broken = true

-- ---- calm is kept
abbrev pub calm_after : State → Stimulus → Facts → Way → Bool
calm_after s e f way =
    calm (state_after (ruled_state e s) way) (pending_after (ruled_pending e f.pending) way) (gone_out_after (ruled_gone_out e f.gone_out) way) (made_after (ruled_made e (made_by f.standing)) (change_of s e))

abbrev pub calm_test : State → Stimulus → Facts → Option Way → Bool
calm_test s e f None = true
calm_test s e f (Some way) = implies (calm s f.pending f.gone_out (made_by f.standing) && possible e f.pending) (calm_after s e f way)

pub calm_kept : (s : State) (e : Stimulus) (f : Facts) → T (calm_test s e f (leads s e f))
unfolding leads change_of
calm_kept = everywhere (λ s e f. calm_test s e f (leads s e f)) tt

-- ---- where the channel is as at attach, and what is held there
abbrev pub is_deaf_way : Way → Bool
is_deaf_way w = one_way_of (Way.Default ∷ Way.Detached ∷ []) w

abbrev pub by_change : Change → Bool → Bool → Bool
by_change Change.Nothing before after = implies (not after) (not before)
by_change Change.Accepted before after = after
by_change Change.InForce before after = true
by_change Change.GivenUp before after = true

abbrev pub is_given_up : Change → Bool
is_given_up Change.Nothing = false
is_given_up Change.Accepted = false
is_given_up Change.InForce = false
is_given_up Change.GivenUp = true

abbrev pub reset_test : State → Stimulus → Option Way → Bool
reset_test s e None = true
reset_test s e (Some way) = implies (is_deaf_way way) (is_reset (ruled_state e s))

pub reset_kept : (s : State) (e : Stimulus) (f : Facts) → T (reset_test s e (leads s e f))
unfolding leads
reset_kept = everywhere (λ s e f. reset_test s e (leads s e f)) tt

abbrev pub held_test : State → Stimulus → Option Way → Bool
held_test s e None = true
held_test s e (Some way) = by_change (change_of s e) (in_between (ruled_state e s)) (in_between (state_after (ruled_state e s) way))

pub held_kept : (s : State) (e : Stimulus) (f : Facts) → T (held_test s e (leads s e f))
unfolding leads change_of
held_kept = everywhere (λ s e f. held_test s e (leads s e f)) tt

-- what is given up is given up where the channel is as at attach
abbrev pub given_up_test : State → Stimulus → Option Way → Bool
given_up_test s e None = true
given_up_test s e (Some way) = implies (is_given_up (change_of s e)) (is_reset (ruled_state e s))

pub given_up_kept : (s : State) (e : Stimulus) (f : Facts) → T (given_up_test s e (leads s e f))
unfolding leads change_of
given_up_kept = everywhere (λ s e f. given_up_test s e (leads s e f)) tt

-- ---- packets: once one is heard, nothing is pending
abbrev pub calm_heard : State → Bool → Bool → Option Way → Bool
calm_heard s goneOut made None = true
calm_heard s goneOut made (Some way) =
    implies (implies (same s State.Ready) (goneOut && made) && implies (same s State.Declining) made) (calm (state_after s way) (pending_after false way) (gone_out_after goneOut way) made)

abbrev both_ways : (Bool → Bool → Bool) → Bool
both_ways f = (f true true && f true false) && (f false true && f false false)

each_way : (f : Bool → Bool → Bool) → T (both_ways f) → (a b : Bool) → T (f a b)
each_way f t true true = (both (f true true) (f true false) (both (f true true && f true false) _ t).0).0
each_way f t true false = (both (f true true) (f true false) (both (f true true && f true false) _ t).0).1
each_way f t false true = (both (f false true) (f false false) (both (f true true && f true false) _ t).1).0
each_way f t false false = (both (f false true) (f false false) (both (f true true && f true false) _ t).1).1

pub calm_heard_lem : (s : State) (h : Heard) (goneOut made : Bool) → T (calm_heard s goneOut made (on_packet s h))
unfolding on_packet
calm_heard_lem s h = each_way (λ goneOut made. calm_heard s goneOut made (on_packet s h)) (at_packets (λ s h. both_ways (λ goneOut made. calm_heard s goneOut made (on_packet s h))) tt s h)

-- a packet leads to no state where the channel is as at attach but by a way that clears it, and to rest only from rest
abbrev pub rest_heard : State → Option Way → Bool
rest_heard s None = true
rest_heard s (Some way) = not (is_deaf_way way) && (not (is_reset s) && implies (not (in_between (state_after s way))) (not (in_between s)))

pub rest_heard_lem : (s : State) (h : Heard) → T (rest_heard s (on_packet s h))
unfolding on_packet
rest_heard_lem = at_packets (λ s h. rest_heard s (on_packet s h)) tt
