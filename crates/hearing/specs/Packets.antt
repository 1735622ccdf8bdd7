-- "The Source states": where a new packet leads each state. Soft_Reset leads to Answering "in every listening state not named otherwise".
use Rattle.std.specs.Prelude.{ℕ, Bool, cond, List, [], ◌∷◌, eqb, Some, None, Option}
use Rattle.source.specs.declared.State.{State}
use Rattle.source.specs.declared.Heard.{Heard}
use Rattle.source.specs.declared.Heard.TheVariants.{FittingRequest, OtherRequest, OtherReply, Quiet}
use Rattle.source.specs.declared.Way.{Way}

-- kinds of packets told apart
abbrev pub heard_code : Heard → ℕ
heard_code Heard.FittingRequest = 0
heard_code Heard.OtherRequest = 1
heard_code Heard.Accept = 2
heard_code Heard.OtherReply = 3
heard_code Heard.GetSourceCap = 4
heard_code Heard.SoftReset = 5
heard_code Heard.Quiet = 6
heard_code Heard.Unsupported = 7

abbrev pub same_heard : Heard → Heard → Bool
same_heard h x = eqb (heard_code h) (heard_code x)

-- a kind of packet, and where it leads
pub record Row : Type 0 where
  pub heard : Heard
  pub way : Way

infixl 20 ◌leads-to◌
abbrev ◌leads-to◌ : Heard → Way → Row
h leads-to w = record { heard = h; way = w }

-- where a packet leads by one row: the row's way for its kind, else what the other rows say
abbrev pub when_heard : Heard → Heard → Way → Way → Way
when_heard h x way other = cond (same_heard h x) way other

-- where a packet leads by a list of rows, and where every other packet does
abbrev by_rows : List Row → Way → Heard → Way
by_rows [] other h = other
by_rows (r ∷ rs) other h = when_heard h r.heard r.way (by_rows rs other h)

-- "In Offer and Discovery a Request is awaited: one that fits goes to Judge, else Refusing. Any other packet but Soft_Reset: Soft."
abbrev pub awaiting : Heard → Way
awaiting = by_rows ((FittingRequest leads-to Way.Judge) ∷ (OtherRequest leads-to Way.Refusing) ∷ (Heard.SoftReset leads-to Way.Answering) ∷ []) Way.Soft

-- "Ready: Request as above; Get_Source_Cap: Offer; reply: Soft; quiet: nothing; unsupported: Declining."
abbrev pub at_rest : Heard → Way
at_rest = by_rows ((FittingRequest leads-to Way.Judge) ∷ (OtherRequest leads-to Way.Refusing) ∷ (Heard.GetSourceCap leads-to Way.Offer) ∷ (Heard.Accept leads-to Way.Soft) ∷ (OtherReply leads-to Way.Soft) ∷ (Quiet leads-to Way.Stay) ∷ (Heard.SoftReset leads-to Way.Answering) ∷ []) Way.Declining

-- "Any packet but Soft_Reset: Soft." (Judge, Refusing, Declining)
abbrev pub answered : Heard → Way
answered = by_rows ((Heard.SoftReset leads-to Way.Answering) ∷ []) Way.Soft

-- "Waiting: Get_Source_Cap: Offer"; "any other packet but Soft_Reset: Soft"
abbrev pub waited : Heard → Way
waited = by_rows ((Heard.GetSourceCap leads-to Way.Offer) ∷ (Heard.SoftReset leads-to Way.Answering) ∷ []) Way.Soft

-- "Soft: Accept: Offer. Another packet but Soft_Reset: Hard."
abbrev pub resetting : Heard → Way
resetting = by_rows ((Heard.Accept leads-to Way.Offer) ∷ (Heard.SoftReset leads-to Way.Answering) ∷ []) Way.Hard

-- "Answering: another packet but Soft_Reset: Hard."
abbrev pub answering : Heard → Way
answering = by_rows ((Heard.SoftReset leads-to Way.Answering) ∷ []) Way.Hard

-- "In these three (Accepting, Moving, Telling), any new packet (Soft_Reset too): Hard."
unfoldable pub on_packet : State → Heard → Option Way
on_packet State.Detached h = None
on_packet State.Offer h = Some (awaiting h)
on_packet State.Discovery h = Some (awaiting h)
on_packet State.Disabled h = None
on_packet State.Judge h = Some (answered h)
on_packet State.Accepting h = Some Way.Hard
on_packet State.Moving h = Some Way.Hard
on_packet State.Telling h = Some Way.Hard
on_packet State.Ready h = Some (at_rest h)
on_packet State.Declining h = Some (answered h)
on_packet State.Refusing h = Some (answered h)
on_packet State.Waiting h = Some (waited h)
on_packet State.Soft h = Some (resetting h)
on_packet State.Answering h = Some (answering h)
on_packet State.Hard h = None
on_packet State.Default h = None
