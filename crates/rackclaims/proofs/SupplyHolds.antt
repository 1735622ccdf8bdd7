-- After any set-up that was accepted, and any list of events at any ports, refused ones among them: the power held by all ports is at most the supply, no port
-- holds more than its limit, and what a port has not taken of its share stays free for it. Held power is the history's. Assumes nothing.
use Prim.Native.Nat.{ℕ, suc, max, ◌<◌, ◌≤◌}
use native.Mathlib.Nat.{le_trans, le_of_eq}
use native.Mathlib.Omega.{arith}
use mathlib.Core.Path.{◌≡◌, sym, ap, subst, ◌∙◌}
use mathlib.Core.Bool.{true, cond}
use mathlib.Core.List.{List}
use lib.Dec.{eqb}
use Rattle.slot.specs.Load.{load_of}
use Rattle.rack.specs.Ports.{at, total, loads, others}
use Rattle.rack.specs.Runs.{Happens, run}
use Rattle.rack.proofs.Totals.{total_same, total_larger}
use Rattle.setup.specs.declared.SetUp.{SetUp}
use Rattle.setup.specs.SetUps.{setting, good_set_up, rack_of, accepted_set_up, verdict_of, rack_or_none}
use Rattle.rackclaims.specs.History.{Entry, history, held_by}
use Rattle.rackclaims.proofs.GoodSetUps.{accepted_is_good, good_is_set_up}
use Rattle.rackclaims.proofs.Reached.{Reached, always_reached, ports_are}
use Rattle.rackclaims.proofs.HeldByHistory.{held_by_history}
use Rattle.std.specs.Prelude.{Ok}

module _ (u : SetUp) (accepted : verdict_of (accepted_set_up u) ≡ Ok tt) (es : List Happens) where
  abbrev entries : List Entry
  entries = history (rack_or_none (accepted_set_up u)) es

  good : good_set_up u ≡ true
  good = accepted_is_good u accepted

  the_rack : rack_or_none (accepted_set_up u) ≡ rack_of u
  the_rack = good_is_set_up u good

  -- the rack that the events lead to
  pub reached : Reached u (run (rack_or_none (accepted_set_up u)) es)
  reached = subst (λ r. Reached u (run r es)) (sym the_rack) (always_reached u good es)

  -- THE CLAIM: what the program keeps is what the history says
  pub program_keeps_the_history : (i : ℕ) → i < u.count → (at (run (rack_or_none (accepted_set_up u)) es) i).port.power.held ≡ held_by (suc i) entries
  program_keeps_the_history i h = subst (λ r. (at (run r es) i).port.power.held ≡ held_by (suc i) (history r es)) (sym the_rack) (held_by_history u good i h es)

  -- THE CLAIM: no port holds more than its limit
  pub limit_holds : (i : ℕ) → i < u.count → held_by (suc i) entries ≤ (setting u i).limit
  limit_holds i h = le_trans (le_of_eq (sym (program_keeps_the_history i h))) (le_trans (reached.within i h) (le_of_eq (reached.limit i h)))

  -- what a port takes, by the history, and what the others take
  pub load_is : (i : ℕ) → i < u.count → max (setting u i).share (held_by (suc i) entries) ≡ load_of (at (run (rack_or_none (accepted_set_up u)) es) i)
  load_is i h = rw (← program_keeps_the_history i h, ← reached.share i h)

  pub others_are : (i : ℕ) → total (λ k. cond (eqb k i) 0 (max (setting u k).share (held_by (suc k) entries))) u.count ≡ others (run (rack_or_none (accepted_set_up u)) es) i
  unfolding others
  others_are i =
      total_same _ (λ k. cond (eqb k i) 0 (load_of (at (run (rack_or_none (accepted_set_up u)) es) k))) u.count (λ k h. ap (λ n. cond (eqb k i) 0 n) (load_is k h))
      ∙ ap (total (λ k. cond (eqb k i) 0 (load_of (at (run (rack_or_none (accepted_set_up u)) es) k)))) (sym (ports_are u good (run (rack_or_none (accepted_set_up u)) es) reached))

  all_ports : total (λ i. load_of (at (run (rack_or_none (accepted_set_up u)) es) i)) u.count ≡ loads (run (rack_or_none (accepted_set_up u)) es)
  unfolding loads
  all_ports = ap (total (λ i. load_of (at (run (rack_or_none (accepted_set_up u)) es) i))) (sym (ports_are u good (run (rack_or_none (accepted_set_up u)) es) reached))

  -- THE CLAIM: what a port has not taken of its share stays free for it
  pub shares_stay_free : total (λ i. max (setting u i).share (held_by (suc i) entries)) u.count ≤ u.supply
  shares_stay_free =
      le_trans (le_of_eq (total_same (λ i. max (setting u i).share (held_by (suc i) entries)) (λ i. load_of (at (run (rack_or_none (accepted_set_up u)) es) i)) u.count load_is ∙ all_ports))
      (le_trans reached.fits (le_of_eq reached.supply))

  -- THE CLAIM: the power held by all ports is at most the supply
  pub supply_holds : total (λ i. held_by (suc i) entries) u.count ≤ u.supply
  supply_holds = le_trans (total_larger (λ i. held_by (suc i) entries) (λ i. max (setting u i).share (held_by (suc i) entries)) u.count (λ i h. omega arith)) shares_stay_free
