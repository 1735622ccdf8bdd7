-- Two ways of stepping that answer alike, event by event as they come, lead a rack to the same rack by the same history. Assumes nothing.
use mathlib.Core.Path.{◌≡◌, refl, ap, ◌∙◌}
use mathlib.Core.List.{List, [], ◌∷◌}
use Rattle.rack.specs.declared.Rack.{Rack}
use Rattle.rack.specs.declared.RackAnswer.{RackAnswer}
use Rattle.rack.specs.Runs.{Happens, Stepping, run_by}
use Rattle.rackclaims.specs.History.{entry_of, history_by}

module _ (f g : Stepping) where
  abbrev pub Alike : Rack → List Happens → Type 0
  Alike r [] = Unit {0}
  Alike r (e ∷ es) = (f r e.number e.happening ≡ g r e.number e.happening) × Alike (g r e.number e.happening).rack es

  pub lead_alike : (r : Rack) (es : List Happens) → Alike r es → (run_by f r es ≡ run_by g r es) × (history_by f r es ≡ history_by g r es)
  unfolding run_by history_by
  lead_alike r [] alike = (refl, refl)
  lead_alike r (e ∷ es) alike =
      let rest = lead_alike (g r e.number e.happening).rack es alike.1 in (
        ap (λ (a : RackAnswer). run_by f a.rack es) alike.0 ∙ rest.0,
        ap (λ (a : RackAnswer). entry_of e a ∷ history_by f a.rack es) alike.0 ∙ ap (λ l. entry_of e (g r e.number e.happening) ∷ l) rest.1,
      )
