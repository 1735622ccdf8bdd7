-- Acknowledged, failed and dropped each count one on: while a message is pending, a step keeps it, or takes the counter one on, or leads to a state that starts the
-- count over (Soft, Hard, Answering, Detached). (With nothing pending: NothingElseCounts.) Assumes nothing.
use Prim.Native.Nat.{ℕ}
use mathlib.Core.Path.{◌≡◌, refl, sym, ap, subst, ◌∙◌}
use mathlib.Core.Bool.{Bool, true, false, not, ◌&&◌, ◌||◌}
use lib.Dec.{T}
use Rattle.message.specs.declared.Fields.{Fields}
use Rattle.meaning.specs.declared.Meaning.{Meaning}
use Rattle.offers.specs.declared.Asked.{Asked}
use Rattle.channel.specs.declared.Channel.{Channel}
use Rattle.channel.specs.Channel.{next_id, counter_after, ended, again as once-again, heard as hears}
use Rattle.power.specs.declared.Change.{Change}
use Rattle.power.specs.Power.{nothing_asked}
use Rattle.source.specs.declared.State.{State}
use Rattle.source.specs.declared.Stimulus.{Stimulus}
use Rattle.source.specs.declared.Timer.{Timer}
use Rattle.source.specs.declared.Heard.{Heard}
use Rattle.source.specs.declared.Facts.{Facts}
use Rattle.source.specs.declared.Way.{Way}
use Rattle.source.specs.States.{same}
use Rattle.stimuli.specs.Leads.{leads}
use Rattle.hearing.specs.Packets.{same_heard, on_packet}
use Rattle.source.specs.Changes.{change_of}
use Rattle.source.proofs.Finite.{everywhere, at_packets}
use Rattle.port.specs.declared.Port.{Port}
use Rattle.port.specs.declared.Answer.{Answer}
use Rattle.port.specs.Memory.{state_of, pending_in, facts_of, running_in, no_crc}
use Rattle.port.specs.Steps.{with_change, turn, nothing_done, resent}
use Rattle.port.specs.Packets.{heard_as, asked_by, is_soft_reset, crc_for, hearing}
use Rattle.port.specs.Calls.{Call, step}
use Rattle.portclaims.specs.Between.{implies, pends, Between}
use Rattle.portclaims.proofs.Groups.{is_sending, is_hard, clears, ends}
use Rattle.portclaims.proofs.Truth.{so, true_not_false, then, and, first, second, not_true}
use Rattle.portclaims.proofs.Ways as Ways
use Rattle.portclaims.proofs.Tables as Tables
use Rattle.portclaims.proofs.Led.{change_channel, turn_state, led_state, at_way}
use Rattle.portclaims.proofs.Shapes.{Rule, by_attach, by_detach, by_acknowledgement, by_failure, fit_in, Shape, refused, idle, again as sent_again, led, heard, shape}
use Rattle.std.specs.Prelude.{Some, None, Option, List}

abbrev pub starts_over : State → Bool
starts_over s = (same s State.Soft || same s State.Hard) || (same s State.Answering || same s State.Detached)

-- what becomes of the pending message's number
pub data Counts (p : Port) (q : Port) : Type 0 where
  still_pending : q.channel.pending.packet ≡ p.channel.pending.packet → q.channel.counter ≡ p.channel.counter → Counts p q
  one_on : q.channel.counter ≡ next_id p.channel.counter → Counts p q
  over : q.channel.counter ≡ 0 → starts_over (state_of q) ≡ true → Counts p q

-- ---- ways that start over, and ways that leave the channel alone
abbrev is_aside : Way → Bool
is_aside w = not (is_sending w || is_hard w)

over_there : (s : State) (w : Way) → Ways.is_over w ≡ true → starts_over (Ways.state_after s w) ≡ true
over_there s Way.Soft e = refl
over_there s w e = cc

-- ---- a turn of a port whose counter has gone one on
module _ (p q : Port) (s : State) (crc : Option (List ℕ)) (t : Option Timer) (c : Change) (w : Way) (a : Asked) where
  abbrev pub end : Port
  end = (turn q s crc t c w a).port

  pub zeroed : Ways.is_over w ≡ true → end.channel.counter ≡ 0
  unfolding turn
  zeroed e = (Ways.goes w a (with_change c q)).counter ∙ rw e refl

  pub same_counter : Ways.is_over w ≡ false → end.channel.counter ≡ q.channel.counter
  unfolding turn
  same_counter e = (Ways.goes w a (with_change c q)).counter ∙ rw e refl ∙ ap (λ (x : Channel). x.counter) (change_channel q c)

  pub in_over : Ways.is_over w ≡ true → starts_over (state_of end) ≡ true
  in_over e = rw (turn_state q s crc t c w a) (over_there (state_of q) w e)

  counted : q.channel.counter ≡ next_id p.channel.counter → (b : Bool) → Ways.is_over w ≡ b → Counts p end
  counted n true e = over (zeroed e) (in_over e)
  counted n false e = one_on (same_counter e ∙ n)

  -- whose counter is 0
  from_zero : q.channel.counter ≡ 0 → starts_over (state_of end) ≡ true → (b : Bool) → Ways.is_over w ≡ b → Counts p end
  from_zero n o true e = over (zeroed e) o
  from_zero n o false e = over (same_counter e ∙ n) o

  -- whose channel is p's
  untouched : q.channel ≡ p.channel → (b : Bool) → Ways.is_over w ≡ b → (Ways.is_over w || is_aside w) ≡ true → Counts p end
  unfolding turn
  untouched n true e k = over (zeroed e) (in_over e)
  untouched n false e k =
      let whole = (Ways.goes w a (with_change c q)).alone (not_true (is_sending w || is_hard w) (subst (λ (b : Bool). (b || is_aside w) ≡ true) e k)) ∙ change_channel q c ∙ n in
      still_pending (ap (λ (x : Channel). x.pending.packet) whole) (ap (λ (x : Channel). x.counter) whole)

-- ---- while a message is pending
abbrev untouched_by : Stimulus → Bool
untouched_by e = not (clears e || ends e)

abbrev count_test : State → Stimulus → Facts → Option Way → Bool
count_test s e f None = true
count_test s e f (Some way) =
    implies (f.pending && pends s f.pending)
    (implies (untouched_by e) (Ways.is_over way || is_aside way) && implies (clears e) (starts_over (Ways.state_after (Tables.ruled_state e s) way)))

count_table : (s : State) (e : Stimulus) (f : Facts) → T (count_test s e f (leads s e f))
unfolding leads
count_table = everywhere (λ s e f. count_test s e f (leads s e f)) tt

abbrev pub is_soft : Heard → Bool
is_soft h = same_heard h Heard.SoftReset

abbrev pub soft_test : State → Heard → Option Way → Bool
soft_test s h None = true
soft_test s h (Some way) = implies (is_soft h) (starts_over (Ways.state_after s way))

pub soft_table : (s : State) (h : Heard) → T (soft_test s h (on_packet s h))
unfolding on_packet
soft_table = at_packets (λ s h. soft_test s h (on_packet s h)) tt

pub soft_heard : (m : Meaning) (t : ℕ) (fit : Option Asked) → is_soft_reset m ≡ true → is_soft (heard_as m t fit) ≡ true
unfolding heard_as
soft_heard Meaning.SoftReset t fit e = refl
soft_heard m t fit e = true_not_false (sym e)

module _ (p : Port) (k : Between p) (on : pending_in p ≡ true) where
  module _ (c : Call) (e : Stimulus) (q : Port) (t : Option Timer) (rule : Rule p c e q t) (way : Way) (l : leads (state_of p) e (facts_of p) ≡ Some way) where
    abbrev after : Port
    after = (turn q (state_of p) no_crc t (change_of (state_of p) e) way nothing_asked).port

    told : (implies (untouched_by e) (Ways.is_over way || is_aside way) && implies (clears e) (starts_over (Ways.state_after (Tables.ruled_state e (state_of p)) way))) ≡ true
    told =
        then (pending_in p && pends (state_of p) (pending_in p)) _ (at_way (count_test (state_of p) e (facts_of p)) (leads (state_of p) e (facts_of p)) way l (count_table (state_of p) e (facts_of p)))
        (and (pending_in p) (pends (state_of p) (pending_in p)) on (first (pends (state_of p) (pending_in p)) _ k.calmly))

    aside : untouched_by e ≡ true → (Ways.is_over way || is_aside way) ≡ true
    aside u = then (untouched_by e) (Ways.is_over way || is_aside way) (so _ (first (implies (untouched_by e) (Ways.is_over way || is_aside way)) _ told)) u

    starting : clears e ≡ true → starts_over (state_of after) ≡ true
    starting u =
        rw (led_state p c e q t rule no_crc t (change_of (state_of p) e) way nothing_asked)
        (then (clears e) _ (so _ (second (implies (untouched_by e) (Ways.is_over way || is_aside way)) _ told)) u)

  by_rule : (c : Call) (e : Stimulus) (q : Port) (t : Option Timer) (r : Rule p c e q t) (way : Way) (l : leads (state_of p) e (facts_of p) ≡ Some way) →
      Counts p (turn q (state_of p) no_crc t (change_of (state_of p) e) way nothing_asked).port
  unfolding ended
  by_rule c e q t by_attach way l = from_zero p q (state_of p) no_crc t (change_of (state_of p) Stimulus.Attach) way nothing_asked refl (starting c Stimulus.Attach q t by_attach way l refl) (Ways.is_over way) refl
  by_rule c e q t by_detach way l = from_zero p q (state_of p) no_crc t (change_of (state_of p) Stimulus.Detach) way nothing_asked refl (starting c Stimulus.Detach q t by_detach way l refl) (Ways.is_over way) refl
  by_rule c e q t (by_acknowledgement d u o) way l = counted p q (state_of p) no_crc t (change_of (state_of p) Stimulus.Acknowledged) way nothing_asked refl (Ways.is_over way) refl
  by_rule c e q t (by_failure d u o) way l = counted p q (state_of p) no_crc t (change_of (state_of p) Stimulus.Failed) way nothing_asked refl (Ways.is_over way) refl
  by_rule c e q t rule way l = untouched p q (state_of p) no_crc t (change_of (state_of p) e) way nothing_asked refl (Ways.is_over way) refl (aside c e q t rule way l refl)

  hearing_counter : (id : ℕ) (soft : Bool) → (hearing p id soft).channel.counter ≡ counter_after soft true p.channel.counter
  unfolding hears
  hearing_counter id soft = rw on refl

  by_packet : (f : Fields) (m : Meaning) (fit : Option Asked) (way : Way) → on_packet (state_of p) (heard_as m f.message_type fit) ≡ Some way → (soft : Bool) → is_soft_reset m ≡ soft →
      Counts p (turn (hearing p f.message_id soft) (state_of p) (crc_for f) (running_in p) Change.Nothing way (asked_by fit)).port
  by_packet f m fit way l false e =
      counted p (hearing p f.message_id false) (state_of p) (crc_for f) (running_in p) Change.Nothing way (asked_by fit) (hearing_counter f.message_id false) (Ways.is_over way) refl
  by_packet f m fit way l true e =
      let h = heard_as m f.message_type fit in
      from_zero p (hearing p f.message_id true) (state_of p) (crc_for f) (running_in p) Change.Nothing way (asked_by fit) (hearing_counter f.message_id true)
      (rw (turn_state (hearing p f.message_id true) (state_of p) (crc_for f) (running_in p) Change.Nothing way (asked_by fit))
      (then (is_soft h) (starts_over (Ways.state_after (state_of p) way)) (at_way (soft_test (state_of p) h) (on_packet (state_of p) h) way l (soft_table (state_of p) h)) (soft_heard m f.message_type fit e)))
      (Ways.is_over way)
      refl

  by_shape : (c : Call) (a : Answer) → Shape p c a → Counts p a.port
  unfolding nothing_done resent once-again
  by_shape c a (refused d r) = still_pending refl refl
  by_shape c a (idle d u crc) = still_pending refl refl
  by_shape c a (sent_again d u o few) = still_pending refl refl
  by_shape c a (led d e q t way rule l) = by_rule d e q t rule way l
  by_shape c a (heard s n f m way new l) = by_packet f m (fit_in p n s) way l (is_soft_reset m) refl

  -- THE CLAIM
  pub counts_one_on : (c : Call) → Counts p (step p c).port
  counts_one_on c = by_shape c (step p c) (shape p c)
