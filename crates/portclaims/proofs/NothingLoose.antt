-- Every answer of the port and of its layers is pinned down: no two differing results meet the contract of a public call, as the checker itself reads that contract.
-- Assumes nothing.
use Rattle.ground.proofs.Settles.{Settles, same}
use Rattle.offers.proofs.voltage.Kinds as offers-voltage-k
use Rattle.offers.proofs.voltage.Reads as offers-voltage-c
use Rattle.offers.proofs.current.Kinds as offers-current-k
use Rattle.offers.proofs.current.Reads as offers-current-c
use Rattle.offers.proofs.good.Kinds as offers-good-k
use Rattle.offers.proofs.good.Reads as offers-good-c
use Rattle.offers.proofs.judge.Kinds as offers-judge-k
use Rattle.offers.proofs.judge.Reads as offers-judge-c
use Rattle.offers.proofs.honoured.Kinds as offers-honoured-k
use Rattle.offers.proofs.honoured.Reads as offers-honoured-c
use Rattle.outgoing.proofs.control.Kinds as outgoing-control-k
use Rattle.outgoing.proofs.control.Reads as outgoing-control-c
use Rattle.outgoing.proofs.with_objects.Kinds as outgoing-with-objects-k
use Rattle.outgoing.proofs.with_objects.Reads as outgoing-with-objects-c
use Rattle.channel.proofs.new.Kinds as channel-new-k
use Rattle.channel.proofs.new.Reads as channel-new-c
use Rattle.channel.proofs.Channel.is_pending.Kinds as channel-is-pending-k
use Rattle.channel.proofs.Channel.is_pending.Reads as channel-is-pending-c
use Rattle.channel.proofs.Channel.repeats.Kinds as channel-repeats-k
use Rattle.channel.proofs.Channel.repeats.Reads as channel-repeats-c
use Rattle.channel.proofs.Channel.good_crc.Kinds as channel-good-crc-k
use Rattle.channel.proofs.Channel.good_crc.Reads as channel-good-crc-c
use Rattle.channel.proofs.Channel.expired.Kinds as channel-expired-k
use Rattle.channel.proofs.Channel.expired.Reads as channel-expired-c
use Rattle.channel.proofs.Channel.ended.Kinds as channel-ended-k
use Rattle.channel.proofs.Channel.ended.Reads as channel-ended-c
use Rattle.channel.proofs.Channel.again.Kinds as channel-again-k
use Rattle.channel.proofs.Channel.again.Reads as channel-again-c
use Rattle.channel.proofs.Channel.heard.Kinds as channel-heard-k
use Rattle.channel.proofs.Channel.heard.Reads as channel-heard-c
use Rattle.channel.proofs.Channel.sends.Kinds as channel-sends-k
use Rattle.channel.proofs.Channel.sends.Reads as channel-sends-c
use Rattle.power.proofs.new.Kinds as power-new-k
use Rattle.power.proofs.new.Reads as power-new-c
use Rattle.power.proofs.Power.judges.Kinds as power-judges-k
use Rattle.power.proofs.Power.judges.Reads as power-judges-c
use Rattle.power.proofs.Power.changed.Kinds as power-changed-k
use Rattle.power.proofs.Power.changed.Reads as power-changed-c
use Rattle.power.proofs.Power.standing.Kinds as power-standing-k
use Rattle.power.proofs.Power.standing.Reads as power-standing-c
use Rattle.source.proofs.is.Kinds as source-is-k
use Rattle.source.proofs.is.Reads as source-is-c
use Rattle.source.proofs.listens.Kinds as source-listens-k
use Rattle.source.proofs.listens.Reads as source-listens-c
use Rattle.source.proofs.running.Kinds as source-running-k
use Rattle.source.proofs.running.Reads as source-running-c
use Rattle.source.proofs.stopped.Kinds as source-stopped-k
use Rattle.source.proofs.stopped.Reads as source-stopped-c
use Rattle.stimuli.proofs.leads.Kinds as stimuli-leads-k
use Rattle.stimuli.proofs.leads.Reads as stimuli-leads-c
use Rattle.hearing.proofs.packet_leads.Kinds as hearing-packet-leads-k
use Rattle.hearing.proofs.packet_leads.Reads as hearing-packet-leads-c
use Rattle.source.proofs.change.Kinds as source-change-k
use Rattle.source.proofs.change.Reads as source-change-c
use Rattle.port.proofs.Port.new.Kinds as port-new-k
use Rattle.port.proofs.Port.new.Reads as port-new-c
use Rattle.port.proofs.Port.event.Kinds as port-event-k
use Rattle.port.proofs.Port.event.Reads as port-event-c
use Rattle.port.proofs.Port.packet.Kinds as port-packet-k
use Rattle.port.proofs.Port.packet.Reads as port-packet-c
use Rattle.port.proofs.Port.new_offer.Kinds as port-new-offer-k
use Rattle.port.proofs.Port.new_offer.Reads as port-new-offer-c
use Rattle.source.proofs.code_of.Kinds as source-code-of-k
use Rattle.source.proofs.code_of.Reads as source-code-of-c
use Rattle.port.proofs.Port.facts.Kinds as port-facts-k
use Rattle.port.proofs.Port.facts.Reads as port-facts-c
use Rattle.port.proofs.Port.runs.Kinds as port-runs-k
use Rattle.port.proofs.Port.runs.Reads as port-runs-c
use Rattle.port.proofs.Port.turn.Kinds as port-turn-k
use Rattle.port.proofs.Port.turn.Reads as port-turn-c
use Rattle.port.proofs.Port.refused.Kinds as port-refused-k
use Rattle.port.proofs.Port.refused.Reads as port-refused-c
use Rattle.port.proofs.Port.replaced.Kinds as port-replaced-k
use Rattle.port.proofs.Port.replaced.Reads as port-replaced-c
use Rattle.port.proofs.packets.first_object.Kinds as port-first-object-k
use Rattle.port.proofs.packets.first_object.Reads as port-first-object-c
use Rattle.port.proofs.packets.meaning_in.Kinds as port-meaning-in-k
use Rattle.port.proofs.packets.meaning_in.Reads as port-meaning-in-c
use Rattle.port.proofs.packets.heard_as.Kinds as port-heard-as-k
use Rattle.port.proofs.packets.heard_as.Reads as port-heard-as-c
use Rattle.port.proofs.packets.asked_by.Kinds as port-asked-by-k
use Rattle.port.proofs.packets.asked_by.Reads as port-asked-by-c
use Rattle.port.proofs.packets.is_soft_reset.Kinds as port-is-soft-reset-k
use Rattle.port.proofs.packets.is_soft_reset.Reads as port-is-soft-reset-c
use Rattle.port.proofs.packets.crc_for.Kinds as port-crc-for-k
use Rattle.port.proofs.packets.crc_for.Reads as port-crc-for-c

pub offers_voltage : Settles 0 offers-voltage-k.ps offers-voltage-k.r offers-voltage-c.Post (λ κs x s. x)
offers_voltage κs a x y s t = same

pub offers_current : Settles 0 offers-current-k.ps offers-current-k.r offers-current-c.Post (λ κs x s. x)
offers_current κs a x y s t = same

pub offers_good : Settles 0 offers-good-k.ps offers-good-k.r offers-good-c.Post (λ κs x s. x)
offers_good κs a x y s t = same

pub offers_judge : Settles 0 offers-judge-k.ps offers-judge-k.r offers-judge-c.Post (λ κs x s. x)
offers_judge κs a x y s t = same

pub offers_honoured : Settles 0 offers-honoured-k.ps offers-honoured-k.r offers-honoured-c.Post (λ κs x s. x)
offers_honoured κs a x y s t = same

pub outgoing_control : Settles 0 outgoing-control-k.ps outgoing-control-k.r outgoing-control-c.Post (λ κs x s. x)
outgoing_control κs a x y s t = same

pub outgoing_with_objects : Settles 0 outgoing-with-objects-k.ps outgoing-with-objects-k.r outgoing-with-objects-c.Post (λ κs x s. x)
outgoing_with_objects κs a x y s t = same

pub channel_new : Settles 0 channel-new-k.ps channel-new-k.r channel-new-c.Post (λ κs x s. x)
channel_new κs a x y s t = same

pub channel_is_pending : Settles 0 channel-is-pending-k.ps channel-is-pending-k.r channel-is-pending-c.Post (λ κs x s. x)
channel_is_pending κs a x y s t = same

pub channel_repeats : Settles 0 channel-repeats-k.ps channel-repeats-k.r channel-repeats-c.Post (λ κs x s. x)
channel_repeats κs a x y s t = same

pub channel_good_crc : Settles 0 channel-good-crc-k.ps channel-good-crc-k.r channel-good-crc-c.Post (λ κs x s. x)
channel_good_crc κs a x y s t = same

pub channel_expired : Settles 0 channel-expired-k.ps channel-expired-k.r channel-expired-c.Post (λ κs x s. x)
channel_expired κs a x y s t = same

pub channel_ended : Settles 0 channel-ended-k.ps channel-ended-k.r channel-ended-c.Post (λ κs x s. x)
channel_ended κs a x y s t = same

pub channel_again : Settles 0 channel-again-k.ps channel-again-k.r channel-again-c.Post (λ κs x s. x)
channel_again κs a x y s t = same

pub channel_heard : Settles 0 channel-heard-k.ps channel-heard-k.r channel-heard-c.Post (λ κs x s. x)
channel_heard κs a x y s t = same

pub channel_sends : Settles 0 channel-sends-k.ps channel-sends-k.r channel-sends-c.Post (λ κs x s. x)
channel_sends κs a x y s t = same

pub power_new : Settles 0 power-new-k.ps power-new-k.r power-new-c.Post (λ κs x s. x)
power_new κs a x y s t = same

pub power_judges : Settles 0 power-judges-k.ps power-judges-k.r power-judges-c.Post (λ κs x s. x)
power_judges κs a x y s t = same

pub power_changed : Settles 0 power-changed-k.ps power-changed-k.r power-changed-c.Post (λ κs x s. x)
power_changed κs a x y s t = same

pub power_standing : Settles 0 power-standing-k.ps power-standing-k.r power-standing-c.Post (λ κs x s. x)
power_standing κs a x y s t = same

pub source_is : Settles 0 source-is-k.ps source-is-k.r source-is-c.Post (λ κs x s. x)
source_is κs a x y s t = same

pub source_listens : Settles 0 source-listens-k.ps source-listens-k.r source-listens-c.Post (λ κs x s. x)
source_listens κs a x y s t = same

pub source_running : Settles 0 source-running-k.ps source-running-k.r source-running-c.Post (λ κs x s. x)
source_running κs a x y s t = same

pub source_stopped : Settles 0 source-stopped-k.ps source-stopped-k.r source-stopped-c.Post (λ κs x s. x)
source_stopped κs a x y s t = same

pub stimuli_leads : Settles 0 stimuli-leads-k.ps stimuli-leads-k.r stimuli-leads-c.Post (λ κs x s. x)
stimuli_leads κs a x y s t = same

pub hearing_packet_leads : Settles 0 hearing-packet-leads-k.ps hearing-packet-leads-k.r hearing-packet-leads-c.Post (λ κs x s. x)
hearing_packet_leads κs a x y s t = same

pub source_change : Settles 0 source-change-k.ps source-change-k.r source-change-c.Post (λ κs x s. x)
source_change κs a x y s t = same

pub port_new : Settles 0 port-new-k.ps port-new-k.r port-new-c.Post (λ κs x s. x)
port_new κs a x y s t = same

pub port_event : Settles 0 port-event-k.ps port-event-k.r port-event-c.Post (λ κs x s. x)
port_event κs a x y s t = same

pub port_packet : Settles 1 port-packet-k.ps port-packet-k.r port-packet-c.Post (λ κs x s. x)
port_packet κs a x y s t = same

pub port_new_offer : Settles 0 port-new-offer-k.ps port-new-offer-k.r port-new-offer-c.Post (λ κs x s. x)
port_new_offer κs a x y s t = same

pub source_code_of : Settles 0 source-code-of-k.ps source-code-of-k.r source-code-of-c.Post (λ κs x s. x)
source_code_of κs a x y s t = same

pub port_facts : Settles 0 port-facts-k.ps port-facts-k.r port-facts-c.Post (λ κs x s. x)
port_facts κs a x y s t = same

pub port_runs : Settles 0 port-runs-k.ps port-runs-k.r port-runs-c.Post (λ κs x s. x)
port_runs κs a x y s t = same

pub port_turn : Settles 0 port-turn-k.ps port-turn-k.r port-turn-c.Post (λ κs x s. x)
port_turn κs a x y s t = same

pub port_refused : Settles 0 port-refused-k.ps port-refused-k.r port-refused-c.Post (λ κs x s. x)
port_refused κs a x y s t = same

pub port_replaced : Settles 0 port-replaced-k.ps port-replaced-k.r port-replaced-c.Post (λ κs x s. x)
port_replaced κs a x y s t = same

pub port_first_object : Settles 1 port-first-object-k.ps port-first-object-k.r port-first-object-c.Post (λ κs x s. x)
port_first_object κs a x y s t = same

pub port_meaning_in : Settles 0 port-meaning-in-k.ps port-meaning-in-k.r port-meaning-in-c.Post (λ κs x s. x)
port_meaning_in κs a x y s t = same

pub port_heard_as : Settles 0 port-heard-as-k.ps port-heard-as-k.r port-heard-as-c.Post (λ κs x s. x)
port_heard_as κs a x y s t = same

pub port_asked_by : Settles 0 port-asked-by-k.ps port-asked-by-k.r port-asked-by-c.Post (λ κs x s. x)
port_asked_by κs a x y s t = same

pub port_is_soft_reset : Settles 0 port-is-soft-reset-k.ps port-is-soft-reset-k.r port-is-soft-reset-c.Post (λ κs x s. x)
port_is_soft_reset κs a x y s t = same

pub port_crc_for : Settles 0 port-crc-for-k.ps port-crc-for-k.r port-crc-for-c.Post (λ κs x s. x)
port_crc_for κs a x y s t = same
