-- A rule of the state tables is one test that the checker computes over all of it, and is then had at each entry. Assumes nothing.
use mathlib.Core.Bool.{Bool, true, false, ◌&&◌}
use lib.Dec.{T}
use Rattle.ground.proofs.Rows.{both}
use Rattle.power.specs.declared.Standing.{Standing}
use Rattle.source.specs.declared.State.{State}
use Rattle.source.specs.declared.Stimulus.{Stimulus}
use Rattle.source.specs.declared.Heard.{Heard}
use Rattle.source.specs.declared.Facts.{Facts}

-- a test at both truth values
abbrev bools : (Bool → Bool) → Bool
bools f = f true && f false

bool : (f : Bool → Bool) → T (bools f) → (b : Bool) → T (f b)
bool f t true = (both (f true) (f false) t).0
bool f t false = (both (f true) (f false) t).1

abbrev standings : (Standing → Bool) → Bool
standings f = f Standing.NoContract && (f Standing.Honoured && f Standing.Broken)

standing : (f : Standing → Bool) → T (standings f) → (x : Standing) → T (f x)
standing f t Standing.NoContract = (both (f Standing.NoContract) _ t).0
standing f t Standing.Honoured = (both (f Standing.Honoured) (f Standing.Broken) (both (f Standing.NoContract) _ t).1).0
standing f t Standing.Broken = (both (f Standing.Honoured) (f Standing.Broken) (both (f Standing.NoContract) _ t).1).1

abbrev pub states : (State → Bool) → Bool
states f = f State.Detached && (f State.Offer && (f State.Discovery && (f State.Disabled && (f State.Judge && (f State.Accepting && (f State.Moving && (f State.Telling && (f State.Ready && (f State.Declining && (f State.Refusing && (f State.Waiting && (f State.Soft && (f State.Answering && (f State.Hard && (f State.Default)))))))))))))))

pub state : (f : State → Bool) → T (states f) → (x : State) → T (f x)
state f t State.Detached = (both (f State.Detached) _ t).0
state f t State.Offer = (both (f State.Offer) _ (both (f State.Detached) _ t).1).0
state f t State.Discovery = (both (f State.Discovery) _ (both (f State.Offer) _ (both (f State.Detached) _ t).1).1).0
state f t State.Disabled = (both (f State.Disabled) _ (both (f State.Discovery) _ (both (f State.Offer) _ (both (f State.Detached) _ t).1).1).1).0
state f t State.Judge = (both (f State.Judge) _ (both (f State.Disabled) _ (both (f State.Discovery) _ (both (f State.Offer) _ (both (f State.Detached) _ t).1).1).1).1).0
state f t State.Accepting = (both (f State.Accepting) _ (both (f State.Judge) _ (both (f State.Disabled) _ (both (f State.Discovery) _ (both (f State.Offer) _ (both (f State.Detached) _ t).1).1).1).1).1).0
state f t State.Moving = (both (f State.Moving) _ (both (f State.Accepting) _ (both (f State.Judge) _ (both (f State.Disabled) _ (both (f State.Discovery) _ (both (f State.Offer) _ (both (f State.Detached) _ t).1).1).1).1).1).1).0
state f t State.Telling = (both (f State.Telling) _ (both (f State.Moving) _ (both (f State.Accepting) _ (both (f State.Judge) _ (both (f State.Disabled) _ (both (f State.Discovery) _ (both (f State.Offer) _ (both (f State.Detached) _ t).1).1).1).1).1).1).1).0
state f t State.Ready = (both (f State.Ready) _ (both (f State.Telling) _ (both (f State.Moving) _ (both (f State.Accepting) _ (both (f State.Judge) _ (both (f State.Disabled) _ (both (f State.Discovery) _ (both (f State.Offer) _ (both (f State.Detached) _ t).1).1).1).1).1).1).1).1).0
state f t State.Declining = (both (f State.Declining) _ (both (f State.Ready) _ (both (f State.Telling) _ (both (f State.Moving) _ (both (f State.Accepting) _ (both (f State.Judge) _ (both (f State.Disabled) _ (both (f State.Discovery) _ (both (f State.Offer) _ (both (f State.Detached) _ t).1).1).1).1).1).1).1).1).1).0
state f t State.Refusing = (both (f State.Refusing) _ (both (f State.Declining) _ (both (f State.Ready) _ (both (f State.Telling) _ (both (f State.Moving) _ (both (f State.Accepting) _ (both (f State.Judge) _ (both (f State.Disabled) _ (both (f State.Discovery) _ (both (f State.Offer) _ (both (f State.Detached) _ t).1).1).1).1).1).1).1).1).1).1).0
state f t State.Waiting = (both (f State.Waiting) _ (both (f State.Refusing) _ (both (f State.Declining) _ (both (f State.Ready) _ (both (f State.Telling) _ (both (f State.Moving) _ (both (f State.Accepting) _ (both (f State.Judge) _ (both (f State.Disabled) _ (both (f State.Discovery) _ (both (f State.Offer) _ (both (f State.Detached) _ t).1).1).1).1).1).1).1).1).1).1).1).0
state f t State.Soft = (both (f State.Soft) _ (both (f State.Waiting) _ (both (f State.Refusing) _ (both (f State.Declining) _ (both (f State.Ready) _ (both (f State.Telling) _ (both (f State.Moving) _ (both (f State.Accepting) _ (both (f State.Judge) _ (both (f State.Disabled) _ (both (f State.Discovery) _ (both (f State.Offer) _ (both (f State.Detached) _ t).1).1).1).1).1).1).1).1).1).1).1).1).0
state f t State.Answering = (both (f State.Answering) _ (both (f State.Soft) _ (both (f State.Waiting) _ (both (f State.Refusing) _ (both (f State.Declining) _ (both (f State.Ready) _ (both (f State.Telling) _ (both (f State.Moving) _ (both (f State.Accepting) _ (both (f State.Judge) _ (both (f State.Disabled) _ (both (f State.Discovery) _ (both (f State.Offer) _ (both (f State.Detached) _ t).1).1).1).1).1).1).1).1).1).1).1).1).1).0
state f t State.Hard = (both (f State.Hard) _ (both (f State.Answering) _ (both (f State.Soft) _ (both (f State.Waiting) _ (both (f State.Refusing) _ (both (f State.Declining) _ (both (f State.Ready) _ (both (f State.Telling) _ (both (f State.Moving) _ (both (f State.Accepting) _ (both (f State.Judge) _ (both (f State.Disabled) _ (both (f State.Discovery) _ (both (f State.Offer) _ (both (f State.Detached) _ t).1).1).1).1).1).1).1).1).1).1).1).1).1).1).0
state f t State.Default = (both (f State.Hard) _ (both (f State.Answering) _ (both (f State.Soft) _ (both (f State.Waiting) _ (both (f State.Refusing) _ (both (f State.Declining) _ (both (f State.Ready) _ (both (f State.Telling) _ (both (f State.Moving) _ (both (f State.Accepting) _ (both (f State.Judge) _ (both (f State.Disabled) _ (both (f State.Discovery) _ (both (f State.Offer) _ (both (f State.Detached) _ t).1).1).1).1).1).1).1).1).1).1).1).1).1).1).1

abbrev pub stimuli : (Stimulus → Bool) → Bool
stimuli f = f Stimulus.Attach && (f Stimulus.Detach && (f Stimulus.HardReset && (f Stimulus.Acknowledged && (f Stimulus.Failed && (f Stimulus.SenderResponse && (f Stimulus.SourceCapability && (f Stimulus.PsHardReset && (f Stimulus.SupplyReady && (f Stimulus.NewOffer && (f Stimulus.Yes && (f Stimulus.No)))))))))))

pub stimulus : (f : Stimulus → Bool) → T (stimuli f) → (x : Stimulus) → T (f x)
stimulus f t Stimulus.Attach = (both (f Stimulus.Attach) _ t).0
stimulus f t Stimulus.Detach = (both (f Stimulus.Detach) _ (both (f Stimulus.Attach) _ t).1).0
stimulus f t Stimulus.HardReset = (both (f Stimulus.HardReset) _ (both (f Stimulus.Detach) _ (both (f Stimulus.Attach) _ t).1).1).0
stimulus f t Stimulus.Acknowledged = (both (f Stimulus.Acknowledged) _ (both (f Stimulus.HardReset) _ (both (f Stimulus.Detach) _ (both (f Stimulus.Attach) _ t).1).1).1).0
stimulus f t Stimulus.Failed = (both (f Stimulus.Failed) _ (both (f Stimulus.Acknowledged) _ (both (f Stimulus.HardReset) _ (both (f Stimulus.Detach) _ (both (f Stimulus.Attach) _ t).1).1).1).1).0
stimulus f t Stimulus.SenderResponse = (both (f Stimulus.SenderResponse) _ (both (f Stimulus.Failed) _ (both (f Stimulus.Acknowledged) _ (both (f Stimulus.HardReset) _ (both (f Stimulus.Detach) _ (both (f Stimulus.Attach) _ t).1).1).1).1).1).0
stimulus f t Stimulus.SourceCapability = (both (f Stimulus.SourceCapability) _ (both (f Stimulus.SenderResponse) _ (both (f Stimulus.Failed) _ (both (f Stimulus.Acknowledged) _ (both (f Stimulus.HardReset) _ (both (f Stimulus.Detach) _ (both (f Stimulus.Attach) _ t).1).1).1).1).1).1).0
stimulus f t Stimulus.PsHardReset = (both (f Stimulus.PsHardReset) _ (both (f Stimulus.SourceCapability) _ (both (f Stimulus.SenderResponse) _ (both (f Stimulus.Failed) _ (both (f Stimulus.Acknowledged) _ (both (f Stimulus.HardReset) _ (both (f Stimulus.Detach) _ (both (f Stimulus.Attach) _ t).1).1).1).1).1).1).1).0
stimulus f t Stimulus.SupplyReady = (both (f Stimulus.SupplyReady) _ (both (f Stimulus.PsHardReset) _ (both (f Stimulus.SourceCapability) _ (both (f Stimulus.SenderResponse) _ (both (f Stimulus.Failed) _ (both (f Stimulus.Acknowledged) _ (both (f Stimulus.HardReset) _ (both (f Stimulus.Detach) _ (both (f Stimulus.Attach) _ t).1).1).1).1).1).1).1).1).0
stimulus f t Stimulus.NewOffer = (both (f Stimulus.NewOffer) _ (both (f Stimulus.SupplyReady) _ (both (f Stimulus.PsHardReset) _ (both (f Stimulus.SourceCapability) _ (both (f Stimulus.SenderResponse) _ (both (f Stimulus.Failed) _ (both (f Stimulus.Acknowledged) _ (both (f Stimulus.HardReset) _ (both (f Stimulus.Detach) _ (both (f Stimulus.Attach) _ t).1).1).1).1).1).1).1).1).1).0
stimulus f t Stimulus.Yes = (both (f Stimulus.Yes) _ (both (f Stimulus.NewOffer) _ (both (f Stimulus.SupplyReady) _ (both (f Stimulus.PsHardReset) _ (both (f Stimulus.SourceCapability) _ (both (f Stimulus.SenderResponse) _ (both (f Stimulus.Failed) _ (both (f Stimulus.Acknowledged) _ (both (f Stimulus.HardReset) _ (both (f Stimulus.Detach) _ (both (f Stimulus.Attach) _ t).1).1).1).1).1).1).1).1).1).1).0
stimulus f t Stimulus.No = (both (f Stimulus.Yes) _ (both (f Stimulus.NewOffer) _ (both (f Stimulus.SupplyReady) _ (both (f Stimulus.PsHardReset) _ (both (f Stimulus.SourceCapability) _ (both (f Stimulus.SenderResponse) _ (both (f Stimulus.Failed) _ (both (f Stimulus.Acknowledged) _ (both (f Stimulus.HardReset) _ (both (f Stimulus.Detach) _ (both (f Stimulus.Attach) _ t).1).1).1).1).1).1).1).1).1).1).1

abbrev pub packets : (Heard → Bool) → Bool
packets f = f Heard.FittingRequest && (f Heard.OtherRequest && (f Heard.Accept && (f Heard.OtherReply && (f Heard.GetSourceCap && (f Heard.SoftReset && (f Heard.Quiet && (f Heard.Unsupported)))))))

pub packet : (f : Heard → Bool) → T (packets f) → (x : Heard) → T (f x)
packet f t Heard.FittingRequest = (both (f Heard.FittingRequest) _ t).0
packet f t Heard.OtherRequest = (both (f Heard.OtherRequest) _ (both (f Heard.FittingRequest) _ t).1).0
packet f t Heard.Accept = (both (f Heard.Accept) _ (both (f Heard.OtherRequest) _ (both (f Heard.FittingRequest) _ t).1).1).0
packet f t Heard.OtherReply = (both (f Heard.OtherReply) _ (both (f Heard.Accept) _ (both (f Heard.OtherRequest) _ (both (f Heard.FittingRequest) _ t).1).1).1).0
packet f t Heard.GetSourceCap = (both (f Heard.GetSourceCap) _ (both (f Heard.OtherReply) _ (both (f Heard.Accept) _ (both (f Heard.OtherRequest) _ (both (f Heard.FittingRequest) _ t).1).1).1).1).0
packet f t Heard.SoftReset = (both (f Heard.SoftReset) _ (both (f Heard.GetSourceCap) _ (both (f Heard.OtherReply) _ (both (f Heard.Accept) _ (both (f Heard.OtherRequest) _ (both (f Heard.FittingRequest) _ t).1).1).1).1).1).0
packet f t Heard.Quiet = (both (f Heard.Quiet) _ (both (f Heard.SoftReset) _ (both (f Heard.GetSourceCap) _ (both (f Heard.OtherReply) _ (both (f Heard.Accept) _ (both (f Heard.OtherRequest) _ (both (f Heard.FittingRequest) _ t).1).1).1).1).1).1).0
packet f t Heard.Unsupported = (both (f Heard.Quiet) _ (both (f Heard.SoftReset) _ (both (f Heard.GetSourceCap) _ (both (f Heard.OtherReply) _ (both (f Heard.Accept) _ (both (f Heard.OtherRequest) _ (both (f Heard.FittingRequest) _ t).1).1).1).1).1).1).1

-- a test at all facts
abbrev fact : Bool → Bool → Bool → Bool → Standing → Facts
fact a b c d x = record { pending = a; connected = b; gone_out = c; fifty = d; standing = x }

abbrev pub facts : (Facts → Bool) → Bool
facts f = bools (λ a. bools (λ b. bools (λ c. bools (λ d. standings (λ x. f (fact a b c d x))))))

pub at_facts : (f : Facts → Bool) → T (facts f) → (x : Facts) → T (f x)
at_facts f t x =
    standing (λ s. f (fact x.pending x.connected x.gone_out x.fifty s))
    (bool (λ d. standings (λ s. f (fact x.pending x.connected x.gone_out d s)))
    (bool (λ c. bools (λ d. standings (λ s. f (fact x.pending x.connected c d s))))
    (bool (λ b. bools (λ c. bools (λ d. standings (λ s. f (fact x.pending b c d s)))))
    (bool (λ a. bools (λ b. bools (λ c. bools (λ d. standings (λ s. f (fact a b c d s))))))
    t
    x.pending)
    x.connected)
    x.gone_out)
    x.fifty)
    x.standing

-- a test at every state, stimulus and all facts; and at every state and packet
pub everywhere : (f : State → Stimulus → Facts → Bool) → T (states (λ s. stimuli (λ e. facts (f s e)))) → (s : State) (e : Stimulus) (x : Facts) → T (f s e x)
everywhere f t s e x = at_facts (f s e) (stimulus (λ e. facts (f s e)) (state (λ s. stimuli (λ e. facts (f s e))) t s) e) x

pub at_packets : (f : State → Heard → Bool) → T (states (λ s. packets (f s))) → (s : State) (h : Heard) → T (f s h)
at_packets f t s h = packet (f s) (state (λ s. packets (f s)) t s) h
