-- Every transmission is either the first of a message made in that event or the pending bytes again after fewer than two retries; what is pending was made in one
-- event and kept ever since, so what was acknowledged, has failed or was dropped is never sent again; and it has gone out since then once more than it has retries,
-- which is at most three times. Assumes nothing.
use Prim.Native.Nat.{ℕ, ◌+◌, ◌≤◌}
use native.Mathlib.Omega.{arith}
use mathlib.Core.Path.{◌≡◌, refl, sym, ap, subst, ◌∙◌}
use mathlib.Core.Bool.{Bool, true, false}
use mathlib.Core.List.{List, [], ◌∷◌}
use mathlib.Core.Logic.{◌⊎◌, inl, inr}
use lib.Dec.{ltb}
use Rattle.message.specs.Types as Types
use Rattle.offers.specs.declared.Asked.{Asked}
use Rattle.outgoing.specs.declared.Packet.{Packet}
use Rattle.outgoing.specs.Packets.{no_packet}
use Rattle.channel.specs.declared.Channel.{Channel}
use Rattle.channel.specs.declared.Pending.{Pending}
use Rattle.channel.specs.Channel.{is_pending, most_retries, fresh, ended, again as once-again, heard as hears, sends}
use Rattle.power.specs.declared.Change.{Change}
use Rattle.power.specs.Power.{nothing_asked}
use Rattle.source.specs.declared.State.{State}
use Rattle.source.specs.declared.Stimulus.{Stimulus}
use Rattle.source.specs.declared.Timer.{Timer}
use Rattle.source.specs.declared.Way.{Way}
use Rattle.source.specs.Changes.{change_of}
use Rattle.port.specs.declared.Port.{Port}
use Rattle.port.specs.declared.Answer.{Answer}
use Rattle.port.specs.declared.Entered.{Entered}
use Rattle.port.specs.Memory.{state_of, pending_in}
use Rattle.port.specs.Entering.{enter}
use Rattle.port.specs.Steps.{with_change, turn, nothing_done, resent}
use Rattle.port.specs.Packets.{hearing, is_soft_reset}
use Rattle.port.specs.Calls.{Call, step, run}
use Rattle.portclaims.specs.Messages.{control, offer, First, Transmits, nothing, first, again, SentAgain, Fate, kept, goes_again, made, gone, Kept, to_the_end, quietly, once_more, Sent, at_once, later, Made}
use Rattle.portclaims.proofs.Truth.{true_not_false, below}
use Rattle.portclaims.proofs.Led.{change_channel}
use Rattle.portclaims.proofs.Shapes.{Rule, by_attach, by_detach, by_acknowledgement, by_failure, Shape, refused, idle, again as sent_again, led, heard, shape}
use Rattle.std.specs.Prelude.{Option}

-- ---- what a way does to the pending message: it is kept, or one is made, or none is left
pub data Passed (p : Port) (e : Entered) : Type 0 where
  keeps : e.transmit ≡ no_packet → e.port.channel ≡ p.channel → Passed p e
  makes : First e.port e.transmit → Passed p e
  clears : e.transmit ≡ no_packet → e.port.channel ≡ fresh → Passed p e

passed : (w : Way) (a : Asked) (p : Port) → Passed p (enter w a p)
unfolding enter sends
passed Way.Offer a p = makes (record { pending = refl; ours = offer p.channel.counter p.newest.objects p.newest.count })
passed Way.Accepting a p = makes (record { pending = refl; ours = control Types.Accept p.channel.counter })
passed Way.Telling a p = makes (record { pending = refl; ours = control Types.PsRdy p.channel.counter })
passed Way.Declining a p = makes (record { pending = refl; ours = control Types.NotSupported p.channel.counter })
passed Way.Refusing a p = makes (record { pending = refl; ours = control Types.Reject p.channel.counter })
passed Way.Soft a p = makes (record { pending = refl; ours = control Types.SoftReset 0 })
passed Way.Answering a p = makes (record { pending = refl; ours = control Types.Accept p.channel.counter })
passed Way.Hard a p = clears refl refl
passed Way.HardHeard a p = clears refl refl
passed w a p = keeps refl refl

-- ---- a step
module _ (q : Port) (s : State) (crc : Option (List ℕ)) (t : Option Timer) (c : Change) (w : Way) (a : Asked) where
  turn_transmits : (p : Port) → Passed (with_change c q) (enter w a (with_change c q)) → Transmits p (turn q s crc t c w a)
  unfolding turn
  turn_transmits p (keeps n h) = nothing n
  turn_transmits p (makes f) = first f
  turn_transmits p (clears n h) = nothing n

  -- from a port whose channel is p's, or has nothing pending
  turn_fate : (p : Port) → (q.channel ≡ p.channel) ⊎ (pending_in q ≡ false) → Passed (with_change c q) (enter w a (with_change c q)) → Fate p (turn q s crc t c w a)
  unfolding turn
  turn_fate p (inl e) (keeps n h) =
      let same = h ∙ change_channel q c ∙ e in
      kept n (ap (λ (x : Channel). x.pending) same) (ap (λ (x : Channel). x.counter) same)
  turn_fate p (inr e) (keeps n h) = gone n (ap is_pending (h ∙ change_channel q c) ∙ e)
  turn_fate p g (makes f) = made f
  turn_fate p g (clears n h) = gone n (ap is_pending h)

module _ (p : Port) where
  after_rule : (c : Call) (e : Stimulus) (q : Port) (t : Option Timer) → Rule p c e q t → (q.channel ≡ p.channel) ⊎ (pending_in q ≡ false)
  unfolding ended
  after_rule c e q t by_attach = inr refl
  after_rule c e q t by_detach = inr refl
  after_rule c e q t (by_acknowledgement d u on) = inr refl
  after_rule c e q t (by_failure d u on) = inr refl
  after_rule c e q t rule = inl refl

  none_once_heard : (id : ℕ) (soft : Bool) → pending_in (hearing p id soft) ≡ false
  unfolding hears
  none_once_heard id soft = refl

  goes_out_again : pending_in p ≡ true → ltb p.channel.pending.retries most_retries ≡ true → SentAgain p (resent p)
  unfolding resent once-again
  goes_out_again on few =
      record {
        was_pending = on;
        few = below p.channel.pending.retries most_retries few;
        same_bytes = refl;
        one_more = rw few refl;
        same_counter = refl;
      }

  transmitted : (c : Call) (a : Answer) → Shape p c a → Transmits p a
  unfolding nothing_done
  transmitted c a (refused d r) = nothing refl
  transmitted c a (idle d u crc) = nothing refl
  transmitted c a (sent_again d u on few) = again (goes_out_again on few)
  transmitted c a (led d e q t way rule l) = turn_transmits q _ _ _ (change_of (state_of p) e) way nothing_asked p (passed way nothing_asked (with_change (change_of (state_of p) e) q))
  transmitted c a (heard s n f m way new l) = turn_transmits (hearing p f.message_id (is_soft_reset m)) _ _ _ Change.Nothing way _ p (passed way _ (hearing p f.message_id (is_soft_reset m)))

  fated : (c : Call) (a : Answer) → Shape p c a → Fate p a
  unfolding nothing_done
  fated c a (refused d r) = kept refl refl refl
  fated c a (idle d u crc) = kept refl refl refl
  fated c a (sent_again d u on few) = goes_again (goes_out_again on few)
  fated c a (led d e q t way rule l) = turn_fate q _ _ _ (change_of (state_of p) e) way nothing_asked p (after_rule d e q t rule) (passed way nothing_asked (with_change (change_of (state_of p) e) q))
  fated c a (heard s n f m way new l) =
      turn_fate (hearing p f.message_id (is_soft_reset m)) _ _ _ Change.Nothing way _ p (inr (none_once_heard f.message_id (is_soft_reset m)))
      (passed way _ (hearing p f.message_id (is_soft_reset m)))

  -- THE CLAIM
  pub transmits : (c : Call) → Transmits p (step p c)
  transmits c = transmitted c (step p c) (shape p c)

  pub fate : (c : Call) → Fate p (step p c)
  fate c = fated c (step p c) (shape p c)

-- ---- any list of calls
abbrev pending_packet : Port → Packet
pending_packet p = p.channel.pending.packet

starts_with : (m : Packet) (n : ℕ) (p : Port) (cs : List Call) → Kept m n p cs → pending_packet p ≡ m
starts_with m n p cs (to_the_end q e) = e
starts_with m n p cs (quietly k q c ds e t r) = e
starts_with m n p cs (once_more k q c ds e t r) = e

abbrev retries : Port → ℕ
retries p = p.channel.pending.retries

-- message m stays pending through some calls to port p, with as many retries more as times it goes out
record Retried (m : Packet) (p : Port) (cs : List Call) : Type 0 where
  times : ℕ
  kept_so : Kept m times p cs
  retried : retries (run p cs) ≡ retries p + times
  few : retries p ≤ most_retries → retries (run p cs) ≤ most_retries

-- one call more in front
module _ (m : Packet) (is : ltb 0 m.length ≡ true) (p : Port) (c : Call) (cs : List Call) where
  abbrev next : Port
  next = (step p c).port

  in_front : Fate p (step p c) → Retried m next cs → Retried m p (c ∷ cs) ⊎ Made m p (c ∷ cs)
  in_front (kept t e n) k =
      let as_before = ap (λ (x : Pending). x.retries) e in
      inl
      (record {
        times = k.times;
        kept_so = quietly k.times p c cs (sym (ap (λ (x : Pending). x.packet) e) ∙ starts_with m k.times next cs k.kept_so) t k.kept_so;
        retried = omega (arith, k.retried, as_before);
        few = λ h. k.few (omega (arith, h, as_before));
      })
  in_front (goes_again s) k =
      let one_more = ap (λ (x : Pending). x.retries) s.one_more in
      let same = sym (ap (λ (x : Pending). x.packet) s.one_more) ∙ starts_with m k.times next cs k.kept_so in
      inl
      (record {
        times = k.times + 1;
        kept_so = once_more k.times p c cs same (s.same_bytes ∙ same) k.kept_so;
        retried = omega (arith, k.retried, one_more);
        few = λ h. k.few (omega (arith, s.few, one_more));
      })
  in_front (made f) k =
      let none_yet = ap (λ (x : Pending). x.retries) f.pending in
      let few = k.few (omega (arith, none_yet)) in
      inr
      (record {
        times = k.times + 1;
        sent = at_once k.times p c cs f (sym (ap (λ (x : Pending). x.packet) f.pending) ∙ starts_with m k.times next cs k.kept_so) k.kept_so;
        retried = omega (arith, k.retried, none_yet);
        at_most_three = omega (arith, k.retried, none_yet, few);
      })
  in_front (gone t e) k = true_not_false (sym (ap (λ (x : Packet). ltb 0 x.length) (starts_with m k.times next cs k.kept_so) ∙ is) ∙ e)

  made_later : Made m next cs → Made m p (c ∷ cs)
  made_later k = record { times = k.times; sent = later k.times p c cs k.sent; retried = k.retried; at_most_three = k.at_most_three }

kept_or_made : (p : Port) (cs : List Call) → pending_in (run p cs) ≡ true → Retried (pending_packet (run p cs)) p cs ⊎ Made (pending_packet (run p cs)) p cs
kept_or_made p [] on = inl (record { times = 0; kept_so = to_the_end p refl; retried = omega arith; few = λ h. h })
kept_or_made p (c ∷ cs) on = by_rest (kept_or_made (step p c).port cs on)
  where
    by_rest : Retried (pending_packet (run p (c ∷ cs))) (step p c).port cs ⊎ Made (pending_packet (run p (c ∷ cs))) (step p c).port cs → Retried (pending_packet (run p (c ∷ cs))) p (c ∷ cs) ⊎ Made (pending_packet (run p (c ∷ cs))) p (c ∷ cs)
    by_rest (inl k) = in_front (pending_packet (run p (c ∷ cs))) on p c cs (fate p c) k
    by_rest (inr k) = inr (made_later (pending_packet (run p (c ∷ cs))) on p c cs k)

-- THE CLAIM: from a port with nothing pending, whatever is pending after some calls, and so whatever may go out again, was made in one of them and kept since, and has
-- gone out since then once more than it has retries, at most three times
pub what_is_pending_was_made : (p : Port) (cs : List Call) → pending_in p ≡ false → pending_in (run p cs) ≡ true → Made (pending_packet (run p cs)) p cs
what_is_pending_was_made p cs none on = not_kept (kept_or_made p cs on)
  where
    not_kept : Retried (pending_packet (run p cs)) p cs ⊎ Made (pending_packet (run p cs)) p cs → Made (pending_packet (run p cs)) p cs
    not_kept (inl k) = true_not_false (sym (ap (λ (x : Packet). ltb 0 x.length) (starts_with (pending_packet (run p cs)) k.times p cs k.kept_so) ∙ on) ∙ none)
    not_kept (inr k) = k

-- THE CLAIM, the number alone: what is pending after some calls has gone out so many times as its retries and one, since it was made, which is at most three
pub three_at_most : (p : Port) (cs : List Call) → pending_in p ≡ false → pending_in (run p cs) ≡ true →
    Sent (pending_packet (run p cs)) (retries (run p cs) + 1) p cs × (retries (run p cs) + 1 ≤ 3)
three_at_most p cs none on =
    let k = what_is_pending_was_made p cs none on in
    (subst (λ (n : ℕ). Sent (pending_packet (run p cs)) n p cs) k.retried k.sent, omega (arith, k.retried, k.at_most_three))
