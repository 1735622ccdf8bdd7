-- "Protocol rules": what a packet does to a port.
use Rattle.std.specs.Prelude.{ℕ, ◌+◌, ◌*◌, Bool, true, false, cond, not, ◌&&◌, List, [], eqb, drop, Some, None, Ok, Err, Option, Result}
use Rattle.ground.specs.declared.Refusal.TheVariants.{NotAwaited}
use Rattle.message.specs.declared.Fields.{Fields}
use Rattle.message.specs.Bytes.{bytes_of, word_of}
use Rattle.message.specs.Types as Types
use Rattle.meaning.specs.declared.Meaning.{Meaning}
use Rattle.meaning.specs.Meaning.{kind_of, meaning_of}
use Rattle.reading.specs.Reading.{read_of, part_of}
use Rattle.sending.specs.Sending.{good_crc_packet}
use Rattle.offers.specs.declared.Asked.{Asked}
use Rattle.offers.specs.Requests.{fit_of}
use Rattle.channel.specs.Channel.{is_repeat, heard}
use Rattle.channel.specs.Outcomes.{on_good_crc}
use Rattle.power.specs.declared.Change.{Change}
use Rattle.power.specs.Power.{nothing_asked}
use Rattle.source.specs.declared.Heard.{Heard}
use Rattle.source.specs.declared.Heard.TheVariants.{FittingRequest, OtherRequest, OtherReply}
use Rattle.source.specs.States.{listens}
use Rattle.hearing.specs.Packets.{on_packet}
use Rattle.port.specs.declared.Port.{Port}
use Rattle.port.specs.declared.Answer.{Answer}
use Rattle.port.specs.Parts.{channel_is, connected_is}
use Rattle.port.specs.Memory.{state_of, running_in, no_crc, refused_by}
use Rattle.port.specs.Steps.{turn, by_outcome, nothing_done}
use Rattle.reading.specs.declared.Message.{Message}
use Rattle.ground.specs.declared.Refusal.{Refusal}
use Rattle.source.specs.declared.Way.{Way}

-- the first object of some object bytes, "four bytes, least first"
unfoldable pub first_object : List ℕ → ℕ
first_object o = word_of o + word_of (drop 2 o) * 65536

-- what a packet is
unfoldable pub meaning_in : ℕ → Fields → Meaning
meaning_in objects f = meaning_of (kind_of f.extended objects) f.message_type

-- a packet as far as the states tell packets apart
abbrev pub requested : Option Asked → Heard
requested None = OtherRequest
requested (Some a) = FittingRequest

abbrev pub replied : ℕ → Heard
replied type = cond (eqb type Types.Accept) Heard.Accept OtherReply

unfoldable pub heard_as : Meaning → ℕ → Option Asked → Heard
heard_as Meaning.Request type fit = requested fit
heard_as Meaning.Reply type fit = replied type
heard_as Meaning.GetSourceCap type fit = Heard.GetSourceCap
heard_as Meaning.SoftReset type fit = Heard.SoftReset
heard_as Meaning.Quiet type fit = Heard.Quiet
heard_as Meaning.GoodCrc type fit = Heard.Quiet
heard_as Meaning.Unsupported type fit = Heard.Unsupported

abbrev pub asked_by : Option Asked → Asked
asked_by None = nothing_asked
asked_by (Some a) = a

abbrev pub is_soft_reset : Meaning → Bool
is_soft_reset Meaning.Unsupported = false
is_soft_reset Meaning.GoodCrc = false
is_soft_reset Meaning.Reply = false
is_soft_reset Meaning.GetSourceCap = false
is_soft_reset Meaning.SoftReset = true
is_soft_reset Meaning.Quiet = false
is_soft_reset Meaning.Request = false

-- the GoodCRC with which a packet is answered
abbrev pub crc_for : Fields → Option (List ℕ)
crc_for f = Some (bytes_of (good_crc_packet f) [])

-- "a pending message is dropped (counter plus one), the MessageID is stored, connected is set"
abbrev pub hearing : Port → ℕ → Bool → Port
hearing p id softReset = connected_is true (channel_is (heard p.channel id softReset) p)

-- "and the state acts"
abbrev pub led_by : Port → Fields → Meaning → Option Asked → Option Way → Answer
led_by p f m fit None = refused_by NotAwaited p
led_by p f m fit (Some way) = turn (hearing p f.message_id (is_soft_reset m)) (state_of p) (crc_for f) (running_in p) Change.Nothing way (asked_by fit)

unfoldable pub new_packet : Port → Fields → Meaning → Option Asked → Answer
new_packet p f m fit = led_by p f m fit (on_packet (state_of p) (heard_as m f.message_type fit))

-- "Any other packet gets GoodCRC. If its MessageID is the stored one and it isn't Soft_Reset, that's all."
unfoldable pub other_packet : Port → Fields → Meaning → Option Asked → Answer
other_packet p f m fit = cond (is_repeat p.channel f.message_id && not (is_soft_reset m)) (nothing_done (crc_for f) p) (new_packet p f m fit)

unfoldable pub good_crc_heard : Port → Fields → Answer
good_crc_heard p f = by_outcome (on_good_crc p.channel f.message_id) (nothing_done no_crc p) p

unfoldable pub by_meaning : Meaning → Port → Fields → Option Asked → Answer
by_meaning Meaning.Unsupported p f fit = other_packet p f Meaning.Unsupported fit
by_meaning Meaning.GoodCrc p f fit = good_crc_heard p f
by_meaning Meaning.Reply p f fit = other_packet p f Meaning.Reply fit
by_meaning Meaning.GetSourceCap p f fit = other_packet p f Meaning.GetSourceCap fit
by_meaning Meaning.SoftReset p f fit = other_packet p f Meaning.SoftReset fit
by_meaning Meaning.Quiet p f fit = other_packet p f Meaning.Quiet fit
by_meaning Meaning.Request p f fit = other_packet p f Meaning.Request fit

-- "Detached, Hard, Default, Disabled refuse packets (8). All others listen."
unfoldable pub message_of : Port → ℕ → Fields → Option Asked → Answer
message_of p objects f fit = cond (listens (state_of p)) (by_meaning (meaning_in objects f) p f fit) (refused_by NotAwaited p)

-- a Request is judged by "the last offer put on the wire"
abbrev pub read_to : Result Message Refusal → Port → List ℕ → Answer
read_to (Ok m) p s = message_of p m.objects m.fields (fit_of m.objects (first_object (part_of s)) p.last)
read_to (Err r) p s = refused_by r p

unfoldable pub packet_of : Port → List ℕ → Answer
packet_of p s = read_to (read_of s) p s
