-- docs/NIGHT.md, "The set-up": a rack group is its port groups, in the order of the ports' numbers, and then the supply; a port group is share, limit and
-- offer objects.
use Rattle.std.specs.Prelude.{ℕ, zero, suc, ◌+◌, ◌-◌, ◌%◌, min, Bool, cond, ◌&&◌, List, leb, ltb, eqb, length, drop, set, replicate, Some, None, Option}
use Rattle.port.specs.Memory.{no_offer}
use Rattle.rack.specs.Ports.{most_ports}
use Rattle.setup.specs.declared.Setting.{Setting}
use Rattle.setup.specs.declared.SetUp.{SetUp}
use Rattle.night.specs.Fields.{tag_of, length_of, size_of, value_of, number_at, offer_in}

-- whether a field's tag and length stand at a place
unfoldable pub head_is : List ℕ → ℕ → ℕ → ℕ → Bool
head_is l at tag n = eqb (tag_of (drop at l)) tag && eqb (length_of (drop at l)) n

-- "a port group's value is 17 bytes and 4 for each object": share, limit and offer objects
unfoldable pub is_setting : List ℕ → Bool
is_setting v =
    (leb 17 (length v) && eqb ((length v - 17) % 4) 0)
    && (head_is v 0 19 4
    && (head_is v 7 20 4
    && head_is v 14 21 (length v - 17)))

-- what such a value says
unfoldable pub setting_of : List ℕ → Setting
setting_of v = record { share = number_at v 3; limit = number_at v 10; offer = offer_in (drop 17 v) }

-- whether a port group stands here, whole
unfoldable pub is_port : List ℕ → Bool
is_port l = eqb (tag_of l) 17 && is_setting (value_of l)

-- whether the supply stands here, and nothing behind it
unfoldable pub is_supply : List ℕ → Bool
is_supply l = eqb (length l) 7 && head_is l 0 18 4

-- a set-up with one port more; one past the most is counted, and has no place
unfoldable pub placed : SetUp → Setting → SetUp
placed u s = record { settings = cond (ltb u.count most_ports) (set u.settings u.count s) u.settings; count = min (u.count + 1) 255; supply = u.supply }

-- what stands where a set-up has no port
abbrev pub nobody : Setting
nobody = record { share = 0; limit = 0; offer = no_offer }

abbrev pub no_set_up : SetUp
no_set_up = record { settings = replicate most_ports nobody; count = 0; supply = 0 }

abbrev pub not_laid : Option SetUp
not_laid = None

abbrev pub supplied : SetUp → ℕ → Option SetUp
supplied u supply = Some record { settings = u.settings; count = u.count; supply = supply }

-- port groups and the supply, from a set-up with the ports before them on; there are at most as many groups as bytes
unfoldable pub group_in : ℕ → SetUp → List ℕ → Option SetUp
group_in zero u l = not_laid
group_in (suc n) u l =
    cond (is_supply l) (supplied u (number_at l 3))
    (cond (is_port l) (group_in n (placed u (setting_of (value_of l))) (drop (size_of l) l))
    not_laid)

-- the set-up that a rack group says
unfoldable pub set_up_in : List ℕ → Option SetUp
set_up_in l = group_in (length (value_of l)) no_set_up (value_of l)

-- that set-up, or one of no port
abbrev pub set_up_or_none : Option SetUp → SetUp
set_up_or_none None = no_set_up
set_up_or_none (Some u) = u
