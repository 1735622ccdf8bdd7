-- docs/NIGHT.md, "Cut and damaged files": what stands where the reading stopped.
use Rattle.std.specs.Prelude.{ℕ, Bool, cond, List, eqb, length, is_some}
use Rattle.night.specs.declared.Found.{Found}
use Rattle.night.specs.Events.{next_of}
use Rattle.night.specs.SetUps.{set_up_in}
use Rattle.fields.specs.declared.Ending.{Ending}

-- by what is found, and whether it is a rack group that is laid out as it must be
abbrev pub ending_by : Found → Bool → Ending
ending_by Found.Cut laid = Ending.Cut
ending_by Found.UnknownTag laid = Ending.UnknownTag
ending_by Found.WrongLength laid = Ending.WrongLength
ending_by Found.SetUp laid = cond laid Ending.Readable Ending.NotLaid
ending_by (Found.Event number e) laid = Ending.Readable
ending_by (Found.Packet number) laid = Ending.Readable
ending_by (Found.NewOffer number) laid = Ending.Readable

-- where no byte is left, the night was read to its end
unfoldable pub ending_of : List ℕ → Ending
ending_of l = cond (eqb (length l) 0) Ending.Whole (ending_by (next_of l) (is_some (set_up_in l)))
