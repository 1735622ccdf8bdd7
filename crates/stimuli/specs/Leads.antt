-- "The Source states": where each stimulus leads each state, new packets aside. What is not named: "Anything else is refusal 8."
use Rattle.std.specs.Prelude.{Bool, cond, List, [], ◌∷◌, Some, None, Option}
use Rattle.power.specs.declared.Standing.{Standing}
use Rattle.power.specs.declared.Standing.TheVariants.{NoContract, Honoured, Broken}
use Rattle.source.specs.declared.State.{State}
use Rattle.source.specs.declared.Stimulus.{Stimulus}
use Rattle.source.specs.declared.Facts.{Facts}
use Rattle.source.specs.declared.Way.{Way}
use Rattle.source.specs.States.{same, listens}

-- a state, and where it leads
pub record Row : Type 0 where
  pub state : State
  pub lead : Option Way

infixl 20 ◌leads-to◌
abbrev ◌leads-to◌ : State → Option Way → Row
s leads-to l = record { state = s; lead = l }

-- where a state leads by one row: the row's lead in its state, else what the other rows say
abbrev pub when : State → State → Option Way → Option Way → Option Way
when s t lead other = cond (same s t) lead other

-- where a state leads by a list of rows, and where every other state does
abbrev by_rows : List Row → Option Way → State → Option Way
by_rows [] other s = other
by_rows (r ∷ rs) other s = when s r.state r.lead (by_rows rs other s)

-- "Detached takes attach, to Offer."
abbrev pub on_attach : State → Option Way
on_attach = by_rows ((State.Detached leads-to Some Way.Offer) ∷ []) None

-- "Detach takes any other state to Detached."
abbrev pub on_detach : State → Option Way
on_detach = by_rows ((State.Detached leads-to None) ∷ []) (Some Way.Detached)

-- "a heard Hard Reset leads them to Hard" (those that listen)
abbrev pub on_hard_reset : State → Option Way
on_hard_reset s = cond (listens s) (Some Way.HardHeard) None

-- "Entering either with a newest offer that hasn't gone out leads to Offer at once."
abbrev pub ready_or : Bool → Way
ready_or goneOut = cond goneOut Way.Ready Way.Offer

abbrev pub waiting_or : Bool → Way
waiting_or goneOut = cond goneOut Way.Waiting Way.Offer

-- "no contract: Waiting; last offer has at the contract's position the same voltage and at least its current: Ready; else Hard"
abbrev pub after_reject : Standing → Bool → Way
after_reject NoContract goneOut = waiting_or goneOut
after_reject Honoured goneOut = ready_or goneOut
after_reject Broken goneOut = Way.Hard

abbrev pub on_acknowledged : State → Standing → Bool → Option Way
on_acknowledged s contract goneOut =
    by_rows
    ((State.Offer leads-to Some Way.Offered)
    ∷ (State.Accepting leads-to Some Way.Moving)
    ∷ (State.Telling leads-to Some (ready_or goneOut))
    ∷ (State.Declining leads-to Some (ready_or goneOut))
    ∷ (State.Refusing leads-to Some (after_reject contract goneOut))
    ∷ (State.Soft leads-to Some Way.Softened)
    ∷ (State.Answering leads-to Some Way.Offer)
    ∷ [])
    (Some Way.Stay)
    s

-- "Failed: Discovery, or Soft if connected."
abbrev pub unheard_offer : Bool → Way
unheard_offer connected = cond connected Way.Soft Way.Discovery

abbrev pub on_failed : State → Bool → Option Way
on_failed s connected =
    by_rows
    ((State.Offer leads-to Some (unheard_offer connected))
    ∷ (State.Accepting leads-to Some Way.Hard)
    ∷ (State.Moving leads-to Some Way.Hard)
    ∷ (State.Telling leads-to Some Way.Hard)
    ∷ (State.Refusing leads-to Some Way.Soft)
    ∷ (State.Declining leads-to Some Way.Soft)
    ∷ (State.Waiting leads-to Some Way.Soft)
    ∷ (State.Soft leads-to Some Way.Hard)
    ∷ (State.Answering leads-to Some Way.Hard)
    ∷ [])
    (Some Way.Stay)
    s

-- SenderResponse runs once the offer or the Soft_Reset is acknowledged; "its expiry: Hard"
abbrev pub no_answer : Bool → Option Way
no_answer pending = cond pending None (Some Way.Hard)

abbrev pub on_sender_response : State → Bool → Option Way
on_sender_response s pending = by_rows ((State.Offer leads-to no_answer pending) ∷ (State.Soft leads-to no_answer pending) ∷ []) None s

-- "on expiry Offer, or Disabled once the count is 50"
abbrev pub offer_again : Bool → Way
offer_again fifty = cond fifty Way.Disabled Way.Offer

abbrev pub on_source_capability : State → Bool → Option Way
on_source_capability s fifty = by_rows ((State.Discovery leads-to Some (offer_again fifty)) ∷ []) None s

-- "start PSHardReset; on expiry Default"
abbrev pub on_ps_hard_reset : State → Option Way
on_ps_hard_reset = by_rows ((State.Hard leads-to Some Way.Default) ∷ []) None

-- "supply ready": Moving goes on to Telling, Default to Offer
abbrev pub on_supply_ready : State → Option Way
on_supply_ready = by_rows ((State.Moving leads-to Some Way.Telling) ∷ (State.Default leads-to Some Way.Offer) ∷ []) None

-- "From Ready and Waiting it leads to Offer; elsewhere it is kept."
abbrev pub on_new_offer : State → Option Way
on_new_offer = by_rows ((State.Ready leads-to Some Way.Offer) ∷ (State.Waiting leads-to Some Way.Offer) ∷ []) (Some Way.Stay)

-- "power answer yes: Accepting; no: Refusing"
abbrev pub on_answer : State → Option Way → Option Way
on_answer s lead = by_rows ((State.Judge leads-to lead) ∷ []) None s

unfoldable pub leads : State → Stimulus → Facts → Option Way
leads s Stimulus.Attach f = on_attach s
leads s Stimulus.Detach f = on_detach s
leads s Stimulus.HardReset f = on_hard_reset s
leads s Stimulus.Acknowledged f = on_acknowledged s f.standing f.gone_out
leads s Stimulus.Failed f = on_failed s f.connected
leads s Stimulus.SenderResponse f = on_sender_response s f.pending
leads s Stimulus.SourceCapability f = on_source_capability s f.fifty
leads s Stimulus.PsHardReset f = on_ps_hard_reset s
leads s Stimulus.SupplyReady f = on_supply_ready s
leads s Stimulus.NewOffer f = on_new_offer s
leads s Stimulus.Yes f = on_answer s (Some Way.Accepting)
leads s Stimulus.No f = on_answer s (Some Way.Refusing)
