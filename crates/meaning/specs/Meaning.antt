-- "Meaning of each type": the kind of a message, and what each type of a kind means to us.
use Rattle.std.specs.Prelude.{ℕ, zero, suc, ◌/◌, ◌%◌, Bool, true, false, cond, List, [], ◌∷◌, eqb}
use Rattle.message.specs.Types as Types
use Rattle.meaning.specs.declared.Kind.{Kind}
use Rattle.meaning.specs.declared.Kind.TheVariants.{Control, Data, Extended}
use Rattle.meaning.specs.declared.Meaning.{Meaning}
use Rattle.meaning.specs.declared.Meaning.TheVariants.{Unsupported, GoodCrc, Reply, GetSourceCap, SoftReset, Quiet, Request}

-- "Extended set: an extended message; else no objects: control; else data."
abbrev pub kind_of : Bool → ℕ → Kind
kind_of true objects = Extended
kind_of false objects = cond (eqb objects 0) Control Data

-- a type, and its meaning
pub record Named : Type 0 where
  pub type : ℕ
  pub meaning : Meaning

infixl 20 ◌is◌
abbrev ◌is◌ : ℕ → Meaning → Named
t is m = record { type = t; meaning = m }

-- the types of each kind that are named
abbrev pub named_of : Kind → List Named
named_of Control =
    (Types.GoodCRC is GoodCrc)
    ∷ (Types.Accept is Reply)
    ∷ (Types.Reject is Reply)
    ∷ (Types.PsRdy is Reply)
    ∷ (Types.Wait is Reply)
    ∷ (Types.GetSourceCap is GetSourceCap)
    ∷ (Types.SoftReset is SoftReset)
    ∷ (Types.NotSupported is Quiet)
    ∷ []
named_of Data = (Types.Request is Request) ∷ (Types.Bist is Quiet) ∷ []
named_of Extended = []

-- "All others are unsupported."
abbrev pub found_in : List Named → ℕ → Meaning
found_in [] t = Unsupported
found_in (n ∷ ns) t = cond (eqb t n.type) n.meaning (found_in ns t)

unfoldable pub meaning_of : Kind → ℕ → Meaning
meaning_of k t = found_in (named_of k) t

-- the table: where the 32 entries of a kind begin, and the entry at a place
abbrev pub first_of : Kind → ℕ
first_of Control = 0
first_of Data = 32
first_of Extended = 64

abbrev kind_at : ℕ → Kind
kind_at zero = Control
kind_at (suc zero) = Data
kind_at (suc (suc n)) = Extended

unfoldable pub entry_of : ℕ → Meaning
entry_of at = meaning_of (kind_at (at / 32)) (at % 32)
