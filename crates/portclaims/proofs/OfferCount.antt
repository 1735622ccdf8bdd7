-- The offer count is the number of offers since it was last cleared, and never over fifty. (Who comes to be Disabled had made fifty: DisabledAfterFifty.) Assumes nothing.
use Prim.Native.Nat.{ℕ, suc, min, ◌+◌, ◌≤◌}
use native.Mathlib.Nat.{not-suc-le-zero}
use native.Mathlib.Omega.{arith}
use borrow.Author.Tests.{ne_eqb}
use mathlib.Core.Path.{◌≡◌, refl, sym, ap, ◌∙◌}
use mathlib.Core.Bool.{Bool, true, false, not, cond, ◌&&◌, ◌||◌}
use mathlib.Core.List.{List, [], ◌∷◌}
use lib.Dec.{T, ltb, eqb, nltb→le}
use Rattle.offers.specs.declared.Asked.{Asked}
use Rattle.offers.specs.declared.Offer.{Offer}
use Rattle.channel.specs.Channel.{most_retries, again as once-again, heard as hears}
use Rattle.power.specs.declared.Change.{Change}
use Rattle.power.specs.Power.{nothing_asked}
use Rattle.source.specs.declared.State.{State}
use Rattle.source.specs.declared.Stimulus.{Stimulus}
use Rattle.source.specs.declared.Heard.{Heard}
use Rattle.source.specs.declared.Timer.{Timer}
use Rattle.source.specs.declared.Facts.{Facts}
use Rattle.source.specs.declared.Way.{Way}
use Rattle.source.specs.States.{same}
use Rattle.stimuli.specs.Leads.{leads}
use Rattle.hearing.specs.Packets.{on_packet}
use Rattle.source.specs.Changes.{change_of}
use Rattle.source.proofs.Finite.{everywhere, at_packets}
use Rattle.port.specs.declared.Port.{Port}
use Rattle.port.specs.declared.Answer.{Answer}
use Rattle.port.specs.Memory.{state_of, pending_in, facts_of, running_in, no_crc, most_offers, detached_port}
use Rattle.port.specs.Entering.{one_offer}
use Rattle.port.specs.Steps.{with_change, turn, nothing_done, resent}
use Rattle.port.specs.Packets.{heard_as, asked_by, is_soft_reset, crc_for, hearing}
use Rattle.port.specs.Calls.{Call, step, run}
use Rattle.portclaims.specs.Between.{implies, pends, Between}
use Rattle.portclaims.specs.OfferCount.{offer_made, is_given_up, seen_cleared, count_cleared, offers_after, offers_since}
use Rattle.portclaims.proofs.Groups.{is_sending, is_offer, is_offered, clears}
use Rattle.portclaims.proofs.Truth.{so, holds, true_not_false, then, and, first, second, not_true, below}
use Rattle.portclaims.proofs.Ways as Ways
use Rattle.portclaims.proofs.Tables as Tables
use Rattle.portclaims.proofs.Led.{ruled, turn_state, turn_pending, led_state, at_way}
use Rattle.portclaims.proofs.Between.{step_keeps, at_first}
use Rattle.portclaims.proofs.Shapes.{Rule, fit_in, Shape, refused, idle, again as sent_again, led, heard, shape}
use Rattle.std.specs.Prelude.{Some, None, Option}

-- ---- what a way does to the count, and to what goes out
abbrev counted : Bool → Bool → ℕ → ℕ
counted offer offered n = cond offer (one_offer n) (cond offered 0 n)

made_by : (s : State) (w : Way) → (is_sending w && same (Ways.state_after s w) State.Offer) ≡ is_offer w
made_by s Way.Stay = refl
made_by s w = refl

not_both : (w : Way) → (is_offer w && is_offered w) ≡ false
not_both Way.Stay = refl
not_both w = refl

-- ---- numbers: a count that is at most fifty, and the offers that it stands for
one_more_by : (c n : ℕ) (b : Bool) → ltb c most_offers ≡ b → c ≡ min most_offers n → cond b (c + 1) most_offers ≡ min most_offers (n + 1)
one_more_by c n true e h = omega (arith, below c most_offers e)
one_more_by c n false e h = omega (arith, nltb→le c most_offers (so (not (ltb c most_offers)) (ap not e)))

one_more : (c n : ℕ) → c ≡ min most_offers n → one_offer c ≡ min most_offers (n + 1)
one_more c n h = one_more_by c n (ltb c most_offers) refl h

tally : (offer offered given cleared : Bool) (c n : ℕ) → (offer && offered) ≡ false → c ≡ min most_offers n →
    counted offer offered (cond given 0 (cond cleared 0 c)) ≡ min most_offers (cond (offered || (given || cleared)) 0 n + cond offer 1 0)
tally true true given cleared c n x h = true_not_false x
tally true false false false c n x h = one_more c n h
tally true false given cleared c n x h = one_more 0 0 refl
tally false false false false c n x h = omega arith
tally false offered given cleared c n x h = refl

-- ---- what is seen from outside is what the ways do
abbrev alike : Bool → Bool → Bool
alike a b = cond a b (not b)

are_alike : (a b : Bool) → T (alike a b) → a ≡ b
are_alike true b t = sym (holds b t)
are_alike false true t = absurd t
are_alike false false t = refl

abbrev clear_test : State → Stimulus → Facts → Option Way → Bool
clear_test s e f None = true
clear_test s e f (Some way) =
    implies (pends s f.pending && Tables.possible e f.pending)
    (alike (seen_cleared s f.pending (Ways.state_after (Tables.ruled_state e s) way) (Ways.pending_after (Tables.ruled_pending e f.pending) way) (is_given_up (change_of s e)))
    (is_offered way || (is_given_up (change_of s e) || clears e)))

clear_table : (s : State) (e : Stimulus) (f : Facts) → T (clear_test s e f (leads s e f))
unfolding leads change_of
clear_table = everywhere (λ s e f. clear_test s e f (leads s e f)) tt

abbrev packet_test : State → Bool → Option Way → Bool
packet_test s pending None = true
packet_test s pending (Some way) =
    implies (pends s pending) (not (is_offered way) && not (seen_cleared s pending (Ways.state_after s way) (Ways.pending_after false way) false))

packet_table : (s : State) (h : Heard) (pending : Bool) → T (packet_test s pending (on_packet s h))
unfolding on_packet
packet_table s h true = at_packets (λ s h. packet_test s true (on_packet s h)) tt s h
packet_table s h false = at_packets (λ s h. packet_test s false (on_packet s h)) tt s h

-- ---- a turn
change_count : (c : Change) (q : Port) → (with_change c q).count ≡ cond (is_given_up c) 0 q.count
change_count Change.Nothing q = refl
change_count c q = refl

module _ (q : Port) (s : State) (crc : Option (List ℕ)) (t : Option Timer) (c : Change) (w : Way) (a : Asked) where
  turn_count : (turn q s crc t c w a).port.count ≡ counted (is_offer w) (is_offered w) (cond (is_given_up c) 0 q.count)
  unfolding turn
  turn_count = (Ways.goes w a (with_change c q)).count ∙ rw (change_count c q)

  some_sent : (ltb 0 (turn q s crc t c w a).actions.transmit.length && eqb (turn q s crc t c w a).port.channel.pending.retries 0) ≡ is_sending w
  unfolding turn
  some_sent = (Ways.goes w a (with_change c q)).sent

  turn_held : (turn q s crc t c w a).held ≡ c
  unfolding turn
  turn_held = refl

  turn_made : offer_made (turn q s crc t c w a) ≡ is_offer w
  turn_made = rw (turn_state q s crc t c w a, some_sent) (made_by (state_of q) w)

as_seen : (n : ℕ) (cleared x made y : Bool) → cleared ≡ x → made ≡ y → min most_offers (cond x 0 n + cond y 1 0) ≡ min most_offers (cond cleared 0 n + cond made 1 0)
as_seen n cleared x made y e f = rw (e, f) refl

and_none : (b : Bool) → (b && false) ≡ false
and_none true = refl
and_none false = refl

module _ (p : Port) (k : Between p) (n : ℕ) (h : p.count ≡ min most_offers n) where
  pends_now : pends (state_of p) (pending_in p) ≡ true
  pends_now = first (pends (state_of p) (pending_in p)) _ k.calmly

  module _ (c : Call) (e : Stimulus) (q : Port) (t : Option Timer) (rule : Rule p c e q t) (way : Way) (l : leads (state_of p) e (facts_of p) ≡ Some way) where
    abbrev change : Change
    change = change_of (state_of p) e

    abbrev end : Answer
    end = turn q (state_of p) no_crc t change way nothing_asked

    end_cleared : count_cleared p end ≡ (is_offered way || (is_given_up change || clears e))
    end_cleared =
        let r = ruled p c e q t rule in
        rw (led_state p c e q t rule no_crc t change way nothing_asked, turn_pending q (state_of p) no_crc t change way nothing_asked, r.pending, turn_held q (state_of p) no_crc t change way nothing_asked)
        (are_alike _ _
        (so _
        (then (pends (state_of p) (pending_in p) && Tables.possible e (pending_in p)) _
        (at_way (clear_test (state_of p) e (facts_of p)) (leads (state_of p) e (facts_of p)) way l (clear_table (state_of p) e (facts_of p)))
        (and (pends (state_of p) (pending_in p)) (Tables.possible e (pending_in p)) pends_now r.possible))))

    by_rule : end.port.count ≡ min most_offers (offers_after n p end)
    by_rule =
        turn_count q (state_of p) no_crc t change way nothing_asked
        ∙ rw (ruled p c e q t rule).count (tally (is_offer way) (is_offered way) (is_given_up change) (clears e) p.count n (not_both way) h)
        ∙ as_seen n (count_cleared p end) _ (offer_made end) _ end_cleared (turn_made q (state_of p) no_crc t change way nothing_asked)

  module _ (f : Heard) (id : ℕ) (soft : Bool) (crc : Option (List ℕ)) (a : Asked) (way : Way) (l : on_packet (state_of p) f ≡ Some way) where
    abbrev heard_end : Answer
    heard_end = turn (hearing p id soft) (state_of p) crc (running_in p) Change.Nothing way a

    none_left : pending_in (hearing p id soft) ≡ false
    unfolding hears
    none_left = refl

    told : (not (is_offered way) && not (seen_cleared (state_of p) (pending_in p) (Ways.state_after (state_of p) way) (Ways.pending_after false way) false)) ≡ true
    told = then (pends (state_of p) (pending_in p)) _ (at_way (packet_test (state_of p) (pending_in p)) (on_packet (state_of p) f) way l (packet_table (state_of p) f (pending_in p))) pends_now

    not_cleared : count_cleared p heard_end ≡ false
    not_cleared =
        rw (turn_state (hearing p id soft) (state_of p) crc (running_in p) Change.Nothing way a, turn_pending (hearing p id soft) (state_of p) crc (running_in p) Change.Nothing way a, none_left, turn_held (hearing p id soft) (state_of p) crc (running_in p) Change.Nothing way a)
        (not_true _ (second (not (is_offered way)) _ told))

    by_packet : heard_end.port.count ≡ min most_offers (offers_after n p heard_end)
    by_packet =
        turn_count (hearing p id soft) (state_of p) crc (running_in p) Change.Nothing way a
        ∙ ap (λ (b : Bool). counted (is_offer way) b p.count) (not_true (is_offered way) (first (not (is_offered way)) _ told))
        ∙ tally (is_offer way) false false false p.count n (and_none (is_offer way)) h
        ∙ as_seen n (count_cleared p heard_end) false (offer_made heard_end) _ not_cleared (turn_made (hearing p id soft) (state_of p) crc (running_in p) Change.Nothing way a)

  -- a port that is as it was, and whose message, if one goes out, goes out again
  same_state : seen_cleared (state_of p) (pending_in p) (state_of p) (pending_in p) false ≡ false
  same_state = by_tests (same (state_of p) State.Offer) (pending_in p) (same (state_of p) State.Detached)
    where
      by_tests : (offer pending detached : Bool) → (((offer && pending) && (offer && not pending)) || (false || (detached && not detached))) ≡ false
      by_tests true true true = refl
      by_tests true true false = refl
      by_tests true false true = refl
      by_tests true false false = refl
      by_tests false pending true = refl
      by_tests false pending false = refl

  unchanged : p.count ≡ min most_offers (offers_after n p (nothing_done no_crc p))
  unfolding nothing_done
  unchanged = h ∙ rw same_state (omega arith)

  not_first : (r : ℕ) → (ltb 0 p.channel.pending.packet.length && eqb (r + 1) 0) ≡ false
  not_first r = rw (ne_eqb (r + 1) 0 (λ e. absurd (not-suc-le-zero (none_such r e)))) (and_none (ltb 0 p.channel.pending.packet.length))
    where
      none_such : (r : ℕ) → r + 1 ≡ 0 → suc 0 ≤ 0
      none_such r e = omega arith

  plus_none : (n : ℕ) → min most_offers n ≡ min most_offers (n + 0)
  plus_none n = omega arith

  sent_again_made : ltb p.channel.pending.retries most_retries ≡ true → offer_made (resent p) ≡ false
  unfolding resent once-again
  sent_again_made few = rw (few, not_first p.channel.pending.retries) refl

  by_shape : (c : Call) (a : Answer) → Shape p c a → a.port.count ≡ min most_offers (offers_after n p a)
  unfolding nothing_done resent once-again
  by_shape c a (refused d r) = unchanged
  by_shape c a (idle d u crc) = unchanged
  by_shape c a (sent_again d u on few) = h ∙ plus_none n ∙ as_seen n (count_cleared p (resent p)) false (offer_made (resent p)) false same_state (sent_again_made few)
  by_shape c a (led d e q t way rule l) = by_rule d e q t rule way l
  by_shape c a (heard s m f x way new l) = by_packet (heard_as x f.message_type (fit_in p m s)) f.message_id (is_soft_reset x) (crc_for f) (asked_by (fit_in p m s)) way l

  -- one step more
  pub step_counts : (c : Call) → (step p c).port.count ≡ min most_offers (offers_after n p (step p c))
  step_counts c = by_shape c (step p c) (shape p c)

-- THE CLAIM: through any list of calls
pub run_counts : (p : Port) (cs : List Call) (n : ℕ) → Between p → p.count ≡ min most_offers n → (run p cs).count ≡ min most_offers (offers_since n p cs)
run_counts p [] n k h = h
run_counts p (c ∷ cs) n k h = run_counts (step p c).port cs (offers_after n p (step p c)) (step_keeps p k c) (step_counts p k n h c)

pub count_is_offers : (o : Offer) (cs : List Call) → (run (detached_port o) cs).count ≡ min most_offers (offers_since 0 (detached_port o) cs)
count_is_offers o cs = run_counts (detached_port o) cs 0 (at_first o) refl
