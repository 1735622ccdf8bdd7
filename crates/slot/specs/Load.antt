-- "Power rule": what a port takes of the supply, and whether what it asks is approved.
use Rattle.std.specs.Prelude.{ℕ, ◌+◌, max, Bool, ◌&&◌, leb}
use Rattle.slot.specs.declared.Slot.{Slot}

-- "max(share, held)"
abbrev pub load_of : Slot → ℕ
load_of s = max s.share s.port.power.held

-- "Yes exactly when asked <= limit and the sum over the other ports of max(share, held) plus max(share, held, asked) of this port is at most the supply."
unfoldable pub approves : Slot → ℕ → ℕ → ℕ → Bool
approves s others supply asked = leb asked s.limit && leb (others + max (load_of s) asked) supply
