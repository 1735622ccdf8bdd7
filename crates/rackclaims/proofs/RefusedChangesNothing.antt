-- A refused event, 9 included, leaves the whole rack as it was: every port, all held power, and nothing is done. For every rack. Assumes nothing.
use Prim.Native.Nat.{ℕ}
use mathlib.Core.Path.{◌≡◌, refl, sym, ap, ◌∙◌}
use mathlib.Core.Bool.{Bool, true, false, not}
use Rattle.ground.specs.declared.Refusal.{Refusal}
use Rattle.power.specs.declared.Change.{Change}
use Rattle.source.specs.declared.State.{State}
use Rattle.source.specs.States.{same}
use Rattle.port.specs.declared.Answer.{Answer}
use Rattle.port.specs.Memory.{state_of, no_actions}
use Rattle.portclaims.proofs.Truth.{true_not_false, second}
use Rattle.portclaims.proofs.RefusedChangesNothing.{the_same_port, no_action, nothing_held_or_given_up}
use Rattle.slot.specs.Answers.{has_asked, judged}
use Rattle.rack.specs.declared.Rack.{Rack}
use Rattle.rack.specs.Ports.{at, in_rack, place_of}
use Rattle.rack.specs.Steps.{Happening, call_of, own_answer, answer_at, turned, refused_by, if_in_rack, step}
use Rattle.rackclaims.proofs.OwnSteps.{at_yes_lem, at_no}
use Rattle.rackclaims.proofs.Settling.{judge_is}
use Rattle.rackclaims.proofs.Neighbours.{put_same, answers_by_itself, answers_by_the_rule}
use Rattle.ground.specs.Refusals.{Verdict}
use Rattle.std.specs.Prelude.{Ok, Err}

-- the power answer is never refused
pub fine_in_judge : (yes' : Bool) (a : Answer) → state_of a.port ≡ State.Judge → (judged yes' a).verdict ≡ Ok tt
unfolding judged
fine_in_judge true a e = (at_yes_lem a.port e).fine
fine_in_judge false a e = (at_no a.port e).fine

fine_not_refused : {A : Type 0} (v : Verdict) (no' : Refusal) → v ≡ Ok tt → v ≡ Err no' → A
fine_not_refused v no' e f = true_not_false (ap is_fine (sym e ∙ f))
  where
    is_fine : Verdict → Bool
    is_fine (Ok _) = true
    is_fine (Err x) = false

module _ (r : Rack) (i : ℕ) (h : Happening) (no' : Refusal) where
  -- a port that is refused had not asked, and is refused by itself
  refused_by_itself : (answer_at r i h).verdict ≡ Err no' → (b : Bool) → has_asked (at r i).port (own_answer r i h).port ≡ b → answer_at r i h ≡ own_answer r i h
  refused_by_itself e false f = answers_by_itself r i h f
  refused_by_itself e true f =
      fine_not_refused _ no'
      (ap (λ a. a.verdict) (answers_by_the_rule r i h f) ∙ fine_in_judge _ (own_answer r i h) (judge_is _ (second (not (same (state_of (at r i).port) State.Judge)) _ f)))
      e

  whole : (answer_at r i h).verdict ≡ Err no' → turned r i (answer_at r i h) ≡ refused_by no' r
  whole e =
      let alone : answer_at r i h ≡ own_answer r i h = refused_by_itself e (has_asked (at r i).port (own_answer r i h).port) refl in
      let e' : (own_answer r i h).verdict ≡ Err no' = sym (ap (λ a. a.verdict) alone) ∙ e in
      let p = (at r i).port in
      let c = call_of (at r i).limit h in
      ap (turned r i) alone ∙ rw (e', the_same_port p c no' e', no_action p c no' e', nothing_held_or_given_up p c no' e', put_same r i) refl

by_number : (b : Bool) (r : Rack) (i : ℕ) (h : Happening) (no' : Refusal) → (if_in_rack b r i h).verdict ≡ Err no' → if_in_rack b r i h ≡ refused_by no' r
by_number true r i h no' e = whole r i h no' e
by_number false r i h no' e = ap (λ v. record { verdict = v; rack = r; actions = no_actions; held = Change.Nothing }) e

module _ (r : Rack) (number : ℕ) (h : Happening) (no' : Refusal) (e : (step r number h).verdict ≡ Err no') where
  answer : step r number h ≡ refused_by no' r
  unfolding step
  answer = by_number (in_rack r number) r (place_of number) h no' e

  -- THE CLAIM
  pub the_same_rack : (step r number h).rack ≡ r
  the_same_rack = ap (λ a. a.rack) answer

  pub no_action_at_all : (step r number h).actions ≡ no_actions
  no_action_at_all = ap (λ a. a.actions) answer

  pub nothing_happens_to_held : (step r number h).held ≡ Change.Nothing
  nothing_happens_to_held = ap (λ a. a.held) answer
