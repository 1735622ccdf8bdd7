-- What becomes of a message, at any event at a port of the rack: it stays pending as it was and nothing goes out; or it goes out again, after fewer than two retries; or
-- a new one is made and goes out; or none is left and nothing goes out. So what is no longer pending never goes out again. For every rack that is reached. Assumes nothing.
use Prim.Native.Nat.{ℕ, ◌<◌}
use mathlib.Core.Path.{◌≡◌, sym, ap, ◌∙◌}
use mathlib.Core.Bool.{Bool, true, false, not}
use mathlib.Core.List.{List}
use lib.Dec.{ltb}
use Rattle.source.specs.declared.State.{State}
use Rattle.port.specs.declared.Port.{Port}
use Rattle.port.specs.declared.Answer.{Answer}
use Rattle.port.specs.Memory.{state_of, pending_in}
use Rattle.port.specs.Steps.{event_of}
use Rattle.port.specs.Calls as Port
use Rattle.portclaims.specs.Between.{Between, calm, is_made}
use Rattle.channel.specs.declared.Pending.{Pending}
use Rattle.portclaims.specs.Messages.{Fate, kept, goes_again, made, gone}
use Rattle.portclaims.proofs.Truth as Truth
use Rattle.portclaims.proofs.Between.{step_keeps}
use Rattle.portclaims.proofs.AcceptExactly.{FittingRequest, comes_to_ask}
use Rattle.portclaims.proofs.Transmissions.{fate}
use Rattle.slot.specs.Answers.{answer_of, joined, judged}
use Rattle.rack.specs.declared.Rack.{Rack}
use Rattle.rack.specs.Ports.{at, others}
use Rattle.rack.specs.Steps.{Happening, call_of, answer_at}
use Rattle.setup.specs.declared.SetUp.{SetUp}
use Rattle.rackclaims.proofs.Settling.{Settles, by_itself, granted, denied, settles}
use Rattle.rackclaims.proofs.Reached.{Reached}

-- nothing is pending in Judge
none_in_judge : (p : Port) → Between p → state_of p ≡ State.Judge → pending_in p ≡ false
none_in_judge p k e =
    Truth.not_true (pending_in p)
    (Truth.first (not (pending_in p)) _ (ap (λ s. calm s (pending_in p) p.gone_out (is_made p.power.contract)) (sym e) ∙ k.calmly))

-- two steps in one event, nothing pending in between: what goes out goes out of the second
module _ (p : Port) (a b : Answer) (none : pending_in a.port ≡ false) where
  in_both : Fate a.port b → Fate p (joined a b)
  in_both (kept quiet same counter) = gone quiet (ap (λ (x : Pending). ltb 0 x.packet.length) same ∙ none)
  in_both (goes_again x) = Truth.true_not_false (sym x.was_pending ∙ none)
  in_both (made f) = made f
  in_both (gone quiet e) = gone quiet e

module _ (u : SetUp) (r : Rack) (k : Reached u r) (i : ℕ) (here : i < u.count) where
  answered : (s : List ℕ) → FittingRequest (at r i).port s → (yes' : Bool) → Fate (at r i).port (judged yes' (Port.step (at r i).port (Port.packet s)))
  unfolding judged Port.step
  answered s q yes' =
      let a = Port.step (at r i).port (Port.packet s) in
      let none = none_in_judge a.port (step_keeps (at r i).port (k.steady i here).between (Port.packet s)) (comes_to_ask (at r i).port s q).0 in
      in_both (at r i).port a (event_of a.port (answer_of yes')) none (fate a.port (Port.event (answer_of yes')))

  by_view : (c : Port.Call) (a : Answer) → Settles (at r i) (others r i) r.supply c a → Fate (at r i).port a
  by_view c a (by_itself d e) = fate (at r i).port d
  by_view c a (granted s q e) = answered s q true
  by_view c a (denied s q e) = answered s q false

  -- THE CLAIM
  pub fate_in_the_rack : (h : Happening) → Fate (at r i).port (answer_at r i h)
  unfolding answer_at
  fate_in_the_rack h = by_view (call_of (at r i).limit h) _ (settles (at r i) (others r i) r.supply (k.steady i here).elsewhere (call_of (at r i).limit h))
