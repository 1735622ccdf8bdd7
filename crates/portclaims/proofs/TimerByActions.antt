-- The timer that runs, reckoned from the actions (started, stopped, expired), is always the one that belongs to the state and to what is pending. Assumes nothing.
use Prim.Native.Nat.{ℕ}
use mathlib.Core.Path.{◌≡◌, refl, sym}
use mathlib.Core.Bool.{Bool, true, false, cond, ◌&&◌}
use mathlib.Core.List.{List}
use lib.Dec.{T, eqb}
use Rattle.offers.specs.declared.Asked.{Asked}
use Rattle.channel.specs.Channel.{again as once-again, heard as hears}
use Rattle.power.specs.declared.Change.{Change}
use Rattle.power.specs.Power.{nothing_asked}
use Rattle.source.specs.declared.State.{State}
use Rattle.source.specs.declared.Stimulus.{Stimulus}
use Rattle.source.specs.declared.Heard.{Heard}
use Rattle.source.specs.declared.Timer.{Timer}
use Rattle.source.specs.declared.Timer.TheVariants.{SenderResponse, SourceCapability, PsHardReset}
use Rattle.source.specs.declared.Facts.{Facts}
use Rattle.source.specs.declared.Way.{Way}
use Rattle.source.specs.States.{same, running, stopped}
use Rattle.stimuli.specs.Leads.{leads}
use Rattle.hearing.specs.Packets.{on_packet}
use Rattle.source.specs.Changes.{change_of}
use Rattle.source.proofs.Finite.{everywhere, at_packets}
use Rattle.port.specs.declared.Port.{Port}
use Rattle.port.specs.declared.Answer.{Answer}
use Rattle.port.specs.Memory.{state_of, pending_in, facts_of, running_in, no_crc}
use Rattle.port.specs.Steps.{with_change, turn, nothing_done, resent}
use Rattle.port.specs.Packets.{heard_as, asked_by, is_soft_reset, crc_for, hearing}
use Rattle.port.specs.Calls.{Call, packet, step}
use Rattle.portclaims.specs.Between.{implies, pends, Between}
use Rattle.portclaims.proofs.Groups.{expiring}
use Rattle.portclaims.proofs.Truth.{true_not_false, then, and, first}
use Rattle.portclaims.proofs.Ways as Ways
use Rattle.portclaims.proofs.Tables as Tables
use Rattle.portclaims.proofs.Led.{ruled, turn_state, turn_pending, led_state, at_way}
use Rattle.portclaims.proofs.Shapes.{Rule, fit_in, is_expiry, Shape, refused, idle, again as sent_again, led, heard, shape}
use Rattle.portclaims.proofs.TimerAfter.{begun, halted}
pub use Rattle.portclaims.proofs.TimerAfter.{timer_after}
use Rattle.std.specs.Prelude.{Some, None, Ok, Option}

abbrev code_of : Option Timer → ℕ
code_of None = 0
code_of (Some SenderResponse) = 1
code_of (Some SourceCapability) = 2
code_of (Some PsHardReset) = 3

abbrev alike : Option Timer → Option Timer → Bool
alike t u = eqb (code_of t) (code_of u)

are_alike : (t u : Option Timer) → alike t u ≡ true → t ≡ u
are_alike None None e = refl
are_alike None (Some SenderResponse) e = true_not_false (sym e)
are_alike (Some SenderResponse) (Some SenderResponse) e = refl
are_alike (Some SourceCapability) (Some SourceCapability) e = refl
are_alike (Some PsHardReset) (Some PsHardReset) e = refl
are_alike t u e = true_not_false (sym e)

abbrev before : Bool → Option Timer → Option Timer
before expired t = cond expired None t

abbrev timer_test : State → Stimulus → Facts → Option Way → Bool
timer_test s e f None = true
timer_test s e f (Some way) =
    implies (pends s f.pending && Tables.possible e f.pending)
    (alike (running (Ways.state_after (Tables.ruled_state e s) way) (Ways.pending_after (Tables.ruled_pending e f.pending) way))
    (begun (Ways.start_of way)
    (halted (stopped s (Ways.state_after (Tables.ruled_state e s) way) (before (expiring e) (running s f.pending))) (before (expiring e) (running s f.pending)))))

timer_table : (s : State) (e : Stimulus) (f : Facts) → T (timer_test s e f (leads s e f))
unfolding leads
timer_table = everywhere (λ s e f. timer_test s e f (leads s e f)) tt

abbrev packet_test : State → Bool → Option Way → Bool
packet_test s pending None = true
packet_test s pending (Some way) =
    implies (pends s pending)
    (alike (running (Ways.state_after s way) (Ways.pending_after false way)) (begun (Ways.start_of way) (halted (stopped s (Ways.state_after s way) (running s pending)) (running s pending))))

packet_table : (s : State) (h : Heard) (pending : Bool) → T (packet_test s pending (on_packet s h))
unfolding on_packet
packet_table s h true = at_packets (λ s h. packet_test s true (on_packet s h)) tt s h
packet_table s h false = at_packets (λ s h. packet_test s false (on_packet s h)) tt s h

turn_start : (q : Port) (s : State) (crc : Option (List ℕ)) (t : Option Timer) (c : Change) (w : Way) (a : Asked) → (turn q s crc t c w a).actions.start ≡ Ways.start_of w
unfolding turn
turn_start q s crc t c w a = (Ways.goes w a (with_change c q)).start

turn_stop : (q : Port) (s : State) (crc : Option (List ℕ)) (t : Option Timer) (c : Change) (w : Way) (a : Asked) → (turn q s crc t c w a).actions.stop ≡ stopped s (state_of (turn q s crc t c w a).port) t
unfolding turn
turn_stop q s crc t c w a = refl

turn_fine : (q : Port) (s : State) (crc : Option (List ℕ)) (t : Option Timer) (c : Change) (w : Way) (a : Asked) → (turn q s crc t c w a).verdict ≡ Ok tt
unfolding turn
turn_fine q s crc t c w a = refl

and_true : (b : Bool) → (b && true) ≡ b
and_true true = refl
and_true false = refl

and_false : (b : Bool) → (b && false) ≡ false
and_false true = refl
and_false false = refl

either_way : (b : Bool) → cond {A = Option Timer} b None None ≡ None
either_way true = refl
either_way false = refl

module _ (p : Port) (k : Between p) where
  pends_now : pends (state_of p) (pending_in p) ≡ true
  pends_now = first (pends (state_of p) (pending_in p)) _ k.calmly

  by_rule : (c : Call) (e : Stimulus) (q : Port) (t : Option Timer) → Rule p c e q t → (way : Way) → leads (state_of p) e (facts_of p) ≡ Some way →
      running_in (turn q (state_of p) no_crc t (change_of (state_of p) e) way nothing_asked).port ≡ timer_after (running_in p) c (turn q (state_of p) no_crc t (change_of (state_of p) e) way nothing_asked)
  by_rule c e q t rule way l =
      let r = ruled p c e q t rule in
      let end = led_state p c e q t rule no_crc t (change_of (state_of p) e) way nothing_asked in
      rw
      (turn_fine q (state_of p) no_crc t (change_of (state_of p) e) way nothing_asked, turn_start q (state_of p) no_crc t (change_of (state_of p) e) way nothing_asked, turn_stop q (state_of p) no_crc t (change_of (state_of p) e) way nothing_asked, end, turn_pending q (state_of p) no_crc t (change_of (state_of p) e) way nothing_asked, r.pending, r.expiry, and_true (expiring e), r.runs)
      (are_alike _ _
      (then (pends (state_of p) (pending_in p) && Tables.possible e (pending_in p)) _
      (at_way (timer_test (state_of p) e (facts_of p)) (leads (state_of p) e (facts_of p)) way l (timer_table (state_of p) e (facts_of p)))
      (and (pends (state_of p) (pending_in p)) (Tables.possible e (pending_in p)) pends_now r.possible)))

  none_once_heard : (id : ℕ) (soft : Bool) → pending_in (hearing p id soft) ≡ false
  unfolding hears
  none_once_heard id soft = refl

  by_packet : (s : List ℕ) (h : Heard) (id : ℕ) (soft : Bool) (crc : Option (List ℕ)) (a : Asked) (way : Way) → on_packet (state_of p) h ≡ Some way →
      running_in (turn (hearing p id soft) (state_of p) crc (running_in p) Change.Nothing way a).port ≡ timer_after (running_in p) (packet s) (turn (hearing p id soft) (state_of p) crc (running_in p) Change.Nothing way a)
  by_packet s h id soft crc a way l =
      let q = hearing p id soft in
      rw
      (turn_start q (state_of p) crc (running_in p) Change.Nothing way a, turn_stop q (state_of p) crc (running_in p) Change.Nothing way a, turn_state q (state_of p) crc (running_in p) Change.Nothing way a, turn_pending q (state_of p) crc (running_in p) Change.Nothing way a, none_once_heard id soft)
      (are_alike _ _
      (then (pends (state_of p) (pending_in p)) _ (at_way (packet_test (state_of p) (pending_in p)) (on_packet (state_of p) h) way l (packet_table (state_of p) h (pending_in p))) pends_now))

  by_shape : (c : Call) (a : Answer) → Shape p c a → running_in a.port ≡ timer_after (running_in p) c a
  unfolding nothing_done resent once-again
  by_shape c a (refused d r) = rw (and_false (is_expiry d)) refl
  by_shape c a (idle d u crc) = rw (u, either_way (same (state_of p) (state_of p))) refl
  by_shape c a (sent_again d u on few) = rw (u, either_way (same (state_of p) (state_of p))) refl
  by_shape c a (led d e q t way rule l) = by_rule d e q t rule way l
  by_shape c a (heard s n f m way new l) = by_packet s (heard_as m f.message_type (fit_in p n s)) f.message_id (is_soft_reset m) (crc_for f) (asked_by (fit_in p n s)) way l

  -- THE CLAIM
  pub timer_by_actions : (c : Call) → running_in (step p c).port ≡ timer_after (running_in p) c (step p c)
  timer_by_actions c = by_shape c (step p c) (shape p c)
