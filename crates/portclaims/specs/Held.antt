-- Held power over the history: "accepting takes the larger of held and asked, in force the accepted worth, given up (Default ready, detach) zero".
use Rattle.std.specs.Prelude.{ℕ, max}
use Rattle.power.specs.declared.Change.{Change}

-- held power after a change, from what was held and what was asked
abbrev pub held_after : Change → ℕ → ℕ → ℕ
held_after Change.Nothing held asked = held
held_after Change.Accepted held asked = max held asked
held_after Change.InForce held asked = asked
held_after Change.GivenUp held asked = 0
