-- What becomes of the counter in a step with nothing pending, case by case (the claim is NothingElseCounts). Assumes nothing.
use Prim.Native.Nat.{ℕ}
use mathlib.Core.Path.{◌≡◌, refl, sym, ap, ◌∙◌}
use mathlib.Core.Bool.{Bool, true, false, ◌&&◌}
use mathlib.Core.List.{[], ◌∷◌}
use lib.Dec.{T}
use Rattle.message.specs.declared.Fields.{Fields}
use Rattle.meaning.specs.declared.Meaning.{Meaning}
use Rattle.offers.specs.declared.Asked.{Asked}
use Rattle.channel.specs.declared.Channel.{Channel}
use Rattle.channel.specs.Channel.{counter_after, heard as hears}
use Rattle.power.specs.declared.Change.{Change}
use Rattle.power.specs.Power.{nothing_asked}
use Rattle.source.specs.declared.State.{State}
use Rattle.source.specs.declared.Stimulus.{Stimulus}
use Rattle.source.specs.declared.Timer.{Timer}
use Rattle.source.specs.declared.Facts.{Facts}
use Rattle.source.specs.declared.Way.{Way}
use Rattle.stimuli.specs.Leads.{leads}
use Rattle.hearing.specs.Packets.{on_packet}
use Rattle.source.specs.Changes.{change_of}
use Rattle.source.proofs.Finite.{everywhere}
use Rattle.port.specs.declared.Port.{Port}
use Rattle.port.specs.declared.Answer.{Answer}
use Rattle.port.specs.Memory.{state_of, pending_in, facts_of, running_in, no_crc}
use Rattle.port.specs.Steps.{turn, nothing_done}
use Rattle.port.specs.Packets.{heard_as, asked_by, is_soft_reset, crc_for, hearing}
use Rattle.port.specs.Calls.{Call}
use Rattle.portclaims.specs.Between.{implies, is_reset, Between}
use Rattle.portclaims.proofs.Groups.{one_stimulus_of}
use Rattle.portclaims.proofs.Truth.{holds, true_not_false, then, first}
use Rattle.portclaims.proofs.Ways as Ways
use Rattle.portclaims.proofs.Tables as Tables
use Rattle.portclaims.proofs.Led.{turn_state, led_state, at_way}
use Rattle.portclaims.proofs.CountsOneOn.{starts_over, zeroed, same_counter, in_over, is_soft, soft_test, soft_table, soft_heard}
use Rattle.portclaims.proofs.Shapes.{Rule, by_attach, by_detach, by_acknowledgement, by_failure, fit_in, Shape, refused, idle, again as sent_again, led, heard}
use Rattle.std.specs.Prelude.{Some, None, Option, List}

-- what becomes of the counter
pub data Rests (p : Port) (q : Port) : Type 0 where
  as_it_was : q.channel.counter ≡ p.channel.counter → Rests p q
  over : q.channel.counter ≡ 0 → starts_over (state_of q) ≡ true → Rests p q

module _ (p q : Port) (s : State) (crc : Option (List ℕ)) (t : Option Timer) (c : Change) (w : Way) (a : Asked) where
  -- a turn of a port whose counter is as it was
  rested : q.channel.counter ≡ p.channel.counter → (b : Bool) → Ways.is_over w ≡ b → Rests p (turn q s crc t c w a).port
  rested n true e = over (zeroed p q s crc t c w a e) (in_over p q s crc t c w a e)
  rested n false e = as_it_was (same_counter p q s crc t c w a e ∙ n)

  -- and of one whose counter is 0
  from_zero : q.channel.counter ≡ 0 → starts_over (state_of (turn q s crc t c w a).port) ≡ true → (b : Bool) → Ways.is_over w ≡ b → Rests p (turn q s crc t c w a).port
  from_zero n o true e = over (zeroed p q s crc t c w a e) o
  from_zero n o false e = over (same_counter p q s crc t c w a e ∙ n) o

-- attach comes to a port whose channel is as at attach, and detach leads to a state that starts over
abbrev clear_test : State → Stimulus → Option Way → Bool
clear_test s e None = true
clear_test s e (Some way) =
    implies (one_stimulus_of (Stimulus.Attach ∷ []) e) (is_reset s)
    && implies (one_stimulus_of (Stimulus.Detach ∷ []) e) (starts_over (Ways.state_after (Tables.ruled_state e s) way))

clear_table : (s : State) (e : Stimulus) (f : Facts) → T (clear_test s e (leads s e f))
unfolding leads
clear_table = everywhere (λ s e f. clear_test s e (leads s e f)) tt

module _ (p : Port) (k : Between p) (none : pending_in p ≡ false) where
  module _ (e : Stimulus) (way : Way) (l : leads (state_of p) e (facts_of p) ≡ Some way) where
    told : clear_test (state_of p) e (Some way) ≡ true
    told = holds _ (at_way (clear_test (state_of p) e) (leads (state_of p) e (facts_of p)) way l (clear_table (state_of p) e (facts_of p)))

  after_attach : (way : Way) → leads (state_of p) Stimulus.Attach (facts_of p) ≡ Some way → p.channel.counter ≡ 0
  after_attach way l = ap (λ (x : Channel). x.counter) (k.reset (first (is_reset (state_of p)) _ (told Stimulus.Attach way l)))

  by_rule : (c : Call) (e : Stimulus) (q : Port) (t : Option Timer) (r : Rule p c e q t) (way : Way) (l : leads (state_of p) e (facts_of p) ≡ Some way) →
      Rests p (turn q (state_of p) no_crc t (change_of (state_of p) e) way nothing_asked).port
  by_rule c e q t by_attach way l = rested p q (state_of p) no_crc t (change_of (state_of p) Stimulus.Attach) way nothing_asked (sym (after_attach way l)) (Ways.is_over way) refl
  by_rule c e q t by_detach way l =
      from_zero p q (state_of p) no_crc t (change_of (state_of p) Stimulus.Detach) way nothing_asked refl
      (rw (led_state p c Stimulus.Detach q t by_detach no_crc t (change_of (state_of p) Stimulus.Detach) way nothing_asked) (told Stimulus.Detach way l))
      (Ways.is_over way)
      refl
  by_rule c e q t (by_acknowledgement d u on) way l = true_not_false (sym on ∙ none)
  by_rule c e q t (by_failure d u on) way l = true_not_false (sym on ∙ none)
  by_rule c e q t rule way l = rested p q (state_of p) no_crc t (change_of (state_of p) e) way nothing_asked refl (Ways.is_over way) refl

  hearing_counter : (id : ℕ) (soft : Bool) → (hearing p id soft).channel.counter ≡ counter_after soft false p.channel.counter
  unfolding hears
  hearing_counter id soft = rw none refl

  by_packet : (f : Fields) (m : Meaning) (fit : Option Asked) (way : Way) → on_packet (state_of p) (heard_as m f.message_type fit) ≡ Some way → (soft : Bool) → is_soft_reset m ≡ soft →
      Rests p (turn (hearing p f.message_id soft) (state_of p) (crc_for f) (running_in p) Change.Nothing way (asked_by fit)).port
  by_packet f m fit way l false e =
      rested p (hearing p f.message_id false) (state_of p) (crc_for f) (running_in p) Change.Nothing way (asked_by fit) (hearing_counter f.message_id false) (Ways.is_over way) refl
  by_packet f m fit way l true e =
      let h = heard_as m f.message_type fit in
      from_zero p (hearing p f.message_id true) (state_of p) (crc_for f) (running_in p) Change.Nothing way (asked_by fit) (hearing_counter f.message_id true)
      (rw (turn_state (hearing p f.message_id true) (state_of p) (crc_for f) (running_in p) Change.Nothing way (asked_by fit))
      (then (is_soft h) (starts_over (Ways.state_after (state_of p) way)) (at_way (soft_test (state_of p) h) (on_packet (state_of p) h) way l (soft_table (state_of p) h)) (soft_heard m f.message_type fit e)))
      (Ways.is_over way)
      refl

  pub by_shape : (c : Call) (a : Answer) → Shape p c a → Rests p a.port
  unfolding nothing_done
  by_shape c a (refused d r) = as_it_was refl
  by_shape c a (idle d u crc) = as_it_was refl
  by_shape c a (sent_again d u on few) = true_not_false (sym on ∙ none)
  by_shape c a (led d e q t way rule l) = by_rule d e q t rule way l
  by_shape c a (heard s n f m way new l) = by_packet f m (fit_in p n s) way l (is_soft_reset m) refl
