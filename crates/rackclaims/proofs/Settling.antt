-- What a port's answer is in the rack: its own, where it has not asked the power rule; where it has, a new Request came awaited or in Ready and fits the last
-- offer, and the answer is the one to yes or to no, as the rule says. And what is kept of the port by all three. Assumes nothing.
use Prim.Native.Nat.{ℕ, ◌≤◌}
use native.Mathlib.Omega.{arith}
use mathlib.Core.Path.{◌≡◌, refl, sym, ap, subst, ◌∙◌}
use mathlib.Core.Bool.{Bool, true, false, not, cond}
use mathlib.Core.List.{List}
use Rattle.reading.specs.Reading.{part_of}
use Rattle.offers.specs.Requests.{asked}
use Rattle.source.specs.declared.State.{State}
use Rattle.source.specs.States.{same}
use Rattle.port.specs.declared.Event.{Event}
use Rattle.port.specs.declared.Port.{Port}
use Rattle.port.specs.declared.Answer.{Answer}
use Rattle.port.specs.Memory.{state_of, detached_port}
use Rattle.port.specs.Steps.{event_of}
use Rattle.port.specs.Packets.{first_object}
use Rattle.port.specs.Calls.{Call, event, packet, step}
use Rattle.portclaims.specs.Between.{Between}
use Rattle.portclaims.specs.Held.{held_after}
use Rattle.portclaims.proofs.Truth.{true_not_false, and, second, not_false}
use Rattle.portclaims.proofs.Between.{step_keeps, at_first}
use Rattle.portclaims.proofs.HeldByChange.{held_by_change}
use Rattle.portclaims.proofs.AcceptExactly.{FittingRequest, comes_to_ask, AskedBy, by_packet, asks_only_so}
use Rattle.slot.specs.declared.Slot.{Slot}
use Rattle.slot.specs.Load.{approves}
use Rattle.slot.specs.Answers.{has_asked, judged, settled}
use Rattle.rackclaims.proofs.OwnSteps.{is_in_hand, own, no_more, at_yes_lem, at_no}
use Rattle.offers.specs.declared.Offer.{Offer}
pub use Rattle.rackclaims.proofs.Steady.{Steady}

-- what a Request in the bytes s asks of a port, in units
abbrev pub asks : Port → List ℕ → ℕ
asks p s = (asked (first_object (part_of s)) p.last).worth

pub data Settles (s : Slot) (others supply : ℕ) : Call → Answer → Type 0 where
  by_itself : (c : Call) → has_asked s.port (step s.port c).port ≡ false → Settles s others supply c (step s.port c)
  granted : (bytes : List ℕ) → FittingRequest s.port bytes → approves s others supply (asks s.port bytes) ≡ true →
      Settles s others supply (packet bytes) (judged true (step s.port (packet bytes)))
  denied : (bytes : List ℕ) → FittingRequest s.port bytes → approves s others supply (asks s.port bytes) ≡ false →
      Settles s others supply (packet bytes) (judged false (step s.port (packet bytes)))

pub judge_is : (s : State) → same s State.Judge ≡ true → s ≡ State.Judge
judge_is State.Judge e = refl
judge_is State.Detached e = true_not_false (sym e)
judge_is State.Offer e = true_not_false (sym e)
judge_is State.Discovery e = true_not_false (sym e)
judge_is State.Disabled e = true_not_false (sym e)
judge_is State.Accepting e = true_not_false (sym e)
judge_is State.Moving e = true_not_false (sym e)
judge_is State.Telling e = true_not_false (sym e)
judge_is State.Ready e = true_not_false (sym e)
judge_is State.Declining e = true_not_false (sym e)
judge_is State.Refusing e = true_not_false (sym e)
judge_is State.Waiting e = true_not_false (sym e)
judge_is State.Soft e = true_not_false (sym e)
judge_is State.Answering e = true_not_false (sym e)
judge_is State.Hard e = true_not_false (sym e)
judge_is State.Default e = true_not_false (sym e)

-- what came to ask: a fitting Request, and what it asks is kept
pub asked_is : (p : Port) (s : List ℕ) → FittingRequest p s → (step p (packet s)).port.power.accepted.worth ≡ asks p s
asked_is p s q = ap (λ a. a.worth) (comes_to_ask p s q).1

module _ (s : Slot) (others supply : ℕ) (elsewhere : same (state_of s.port) State.Judge ≡ false) where
  by_rule : (bytes : List ℕ) → FittingRequest s.port bytes → (b : Bool) → approves s others supply (step s.port (packet bytes)).port.power.accepted.worth ≡ b →
      Settles s others supply (packet bytes) (judged b (step s.port (packet bytes)))
  by_rule bytes q true e = granted bytes q (ap (approves s others supply) (sym (asked_is s.port bytes q)) ∙ e)
  by_rule bytes q false e = denied bytes q (ap (approves s others supply) (sym (asked_is s.port bytes q)) ∙ e)

  by_request : (c : Call) → AskedBy s.port c → Settles s others supply c (judged (approves s others supply (step s.port c).port.power.accepted.worth) (step s.port c))
  by_request c (by_packet bytes q) = by_rule bytes q (approves s others supply (step s.port (packet bytes)).port.power.accepted.worth) refl

  by_asking : (c : Call) (b : Bool) → has_asked s.port (step s.port c).port ≡ b →
      Settles s others supply c (cond b (judged (approves s others supply (step s.port c).port.power.accepted.worth) (step s.port c)) (step s.port c))
  by_asking c false e = by_itself c e
  by_asking c true e = by_request c (asks_only_so s.port elsewhere c (judge_is (state_of (step s.port c).port) (second (not (same (state_of s.port) State.Judge)) _ e)))

  -- THE CLAIM
  pub settles : (c : Call) → Settles s others supply c (settled s others supply (step s.port c))
  unfolding settled
  settles c = by_asking c (has_asked s.port (step s.port c).port) refl

-- ---- what is kept
pub steady_first : (o : Offer) → Steady (detached_port o)
steady_first o = record { between = at_first o; elsewhere = refl; promised = λ h. true_not_false (sym h) }

module _ (p : Port) (k : Steady p) where
  -- by itself the port holds no more than before
  pub own_holds_less : (c : Call) → (step p c).port.power.held ≤ p.power.held
  own_holds_less c =
      subst (λ n. n ≤ p.power.held) (sym (held_by_change p k.between c))
      (no_more (step p c).held p.power.held p.power.accepted.worth (own p k.elsewhere c).accepts_nothing (λ h. k.promised ((own p k.elsewhere c).in_force h)))

  own_promised : (c : Call) → is_in_hand (state_of (step p c).port) ≡ true → (step p c).port.power.accepted.worth ≤ (step p c).port.power.held
  own_promised c h =
      let o = (own p k.elsewhere c).in_hand_lem h in
      let same_held : (step p c).port.power.held ≡ p.power.held = held_by_change p k.between c ∙ ap (λ d. held_after d p.power.held p.power.accepted.worth) o.1 in
      rw (o.2, same_held) (k.promised o.0)

  not_asked : (after : Port) → has_asked p after ≡ false → same (state_of after) State.Judge ≡ false
  not_asked after e = by_test (same (state_of after) State.Judge) refl
    where
      by_test : (b : Bool) → same (state_of after) State.Judge ≡ b → b ≡ false
      by_test true f = sym (and (not (same (state_of p) State.Judge)) (same (state_of after) State.Judge) (not_false (same (state_of p) State.Judge) k.elsewhere) f) ∙ e
      by_test false f = refl

at_event : (p : Port) → Between p → (e : Event) → Between (event_of p e).port
unfolding step
at_event p k e = step_keeps p k (event e)

module _ (s : Slot) (others supply : ℕ) (k : Steady s.port) where
  steady_view : (c : Call) (a : Answer) → Settles s others supply c a → Steady a.port
  unfolding judged
  steady_view c a (by_itself d e) =
      record { between = step_keeps s.port k.between d; elsewhere = not_asked s.port k (step s.port d).port e; promised = own_promised s.port k d }
  steady_view c a (granted bytes q e) =
      let j = (step s.port (packet bytes)).port in
      let y = at_yes_lem j (comes_to_ask s.port bytes q).0 in
      record {
        between = at_event j (step_keeps s.port k.between (packet bytes)) Event.Yes;
        elsewhere = ap (λ t. same t State.Judge) y.state_is;
        promised = λ h. rw (y.accepted_is, y.held_is) (omega arith);
      }
  steady_view c a (denied bytes q e) =
      let j = (step s.port (packet bytes)).port in
      let y = at_no j (comes_to_ask s.port bytes q).0 in
      record {
        between = at_event j (step_keeps s.port k.between (packet bytes)) Event.No;
        elsewhere = ap (λ t. same t State.Judge) y.state_is;
        promised = λ h. true_not_false (sym h ∙ ap is_in_hand y.state_is);
      }

  -- THE CLAIM: whatever comes, the port is steady again
  pub stays_steady : (c : Call) → Steady (settled s others supply (step s.port c)).port
  stays_steady c = steady_view c _ (settles s others supply k.elsewhere c)
