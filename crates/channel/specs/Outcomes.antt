-- "A GoodCRC with the pending MessageID acknowledges. A GoodCRC with another, or the acknowledgement timer, sends the same bytes again, at
-- most twice; the third time the send has failed."
use Rattle.std.specs.Prelude.{ℕ, Bool, true, false, ltb, eqb}
use Rattle.channel.specs.declared.Channel.{Channel}
use Rattle.channel.specs.declared.Outcome.{Outcome}
use Rattle.channel.specs.declared.Outcome.TheVariants.{NonePending, Acknowledged, Again, Failed}
use Rattle.channel.specs.Channel.{is_pending, pending_id, most_retries}

-- whether a message is pending, whether it is acknowledged, whether it may be sent again
abbrev pub outcome_of : Bool → Bool → Bool → Outcome
outcome_of false acknowledged more = NonePending
outcome_of true true more = Acknowledged
outcome_of true false true = Again
outcome_of true false false = Failed

abbrev may_again : Channel → Bool
may_again c = ltb c.pending.retries most_retries

unfoldable pub on_good_crc : Channel → ℕ → Outcome
on_good_crc c id = outcome_of (is_pending c) (eqb (pending_id c) id) (may_again c)

unfoldable pub on_expiry : Channel → Outcome
on_expiry c = outcome_of (is_pending c) false (may_again c)
