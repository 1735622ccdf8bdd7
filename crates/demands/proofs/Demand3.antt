-- Ours meets demand 3 (specs/Demand3). Assumes nothing.
use Prim.Native.Nat.{ℕ, suc, ◌<◌}
use mathlib.Core.Path.{◌≡◌, sym, ap, ◌∙◌}
use mathlib.Core.List.{List}
use Rattle.outgoing.specs.Packets.{on_wire}
use Rattle.portclaims.proofs.AcceptExactly.{fitting_request}
use Rattle.rack.specs.declared.Rack.{Rack}
use Rattle.rack.specs.declared.RackAnswer.{RackAnswer}
use Rattle.rack.specs.Ports.{at}
use Rattle.rack.specs.Steps.{Happening, packet, answer_at, turned, step}
use Rattle.rack.specs.Runs.{Happens, run}
use Rattle.setup.specs.declared.SetUp.{SetUp}
use Rattle.setup.specs.SetUps.{accepted_set_up, verdict_of, rack_or_none}
use Rattle.rackclaims.specs.Wire.{is_accept}
use Rattle.rackclaims.specs.Told.{told_of}
use Rattle.rackclaims.proofs.GoodSetUps.{accepted_is_good}
use Rattle.rackclaims.proofs.Reached.{Reached, comes_to_it}
use Rattle.rackclaims.proofs.SupplyHolds as Supply
use Rattle.rackclaims.proofs.HeldIsToldExactly.{told_exactly}
use Rattle.rackclaims.proofs.AcceptExactly.{share_is_accepted}
use Rattle.rackclaims.proofs.AcceptOnTheWire.{accept_is_sent}
use Rattle.demands.specs.Ours.{ours}
use Rattle.demands.specs.Demand3.{SupplyHolds, ShareIsGranted, HistoryIsTrue, Demand3}
use Rattle.std.specs.Prelude.{Ok}

module _ (u : SetUp) (accepted : verdict_of (accepted_set_up u) ≡ Ok tt) (es : List Happens) where
  supply : SupplyHolds ours u es
  supply =
      record {
        supply_is_never_exceeded = Supply.supply_holds u accepted es;
        limit_is_never_exceeded = Supply.limit_holds u accepted es;
        shares_stay_free = Supply.shares_stay_free u accepted es;
      }

  module _ (i : ℕ) (here : i < u.count) where
    abbrev r : Rack
    r = run (rack_or_none (accepted_set_up u)) es

    k : Reached u r
    k = Supply.reached u accepted es

    it_comes : (h : Happening) → step r (suc i) h ≡ turned r i (answer_at r i h)
    it_comes h = comes_to_it u (accepted_is_good u accepted) r k i here h

    share : ShareIsGranted ours u es i
    share =
        record {
          granted =
              λ s n f read request new awaited fit little.
              let q = fitting_request (at r i).port s n f read request new awaited fit in
              ap (λ a. is_accept (on_wire a.actions.transmit)) (it_comes (packet s))
              ∙ accept_is_sent (answer_at r i (packet s)) (share_is_accepted u (accepted_is_good u accepted) r k i here s q little);
        }

    told : HistoryIsTrue ours u es i
    told =
        record {
          told_exactly =
              λ h.
              ap (λ a. a.held) (it_comes h) ∙ told_exactly u r k i here h ∙ ap (λ (a : RackAnswer). told_of (at r i).port a.actions h) (sym (it_comes h));
          program_keeps_it = Supply.program_keeps_the_history u accepted es i here;
        }

-- THE CLAIM
pub ours_meets_demand_3 : Demand3 ours
ours_meets_demand_3 = record { supply = supply; share = share; history = told }
