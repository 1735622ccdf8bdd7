-- docs/NIGHT.md, "The set-up", the other way round: the bytes of a set-up, and what is read from them (proofs/WrittenReadsBack.antt).
use Rattle.std.specs.Prelude.{ℕ, zero, suc, ◌/◌, ◌%◌, ◌<◌, ◌≤◌, List, [], ◌∷◌, ◌++◌, map, length}
use Rattle.message.specs.Bytes.{two_bytes}
use Rattle.rack.specs.Ports.{most_ports}
use Rattle.setup.specs.declared.Setting.{Setting}
use Rattle.setup.specs.declared.SetUp.{SetUp}
use Rattle.night.specs.SetUps.{nobody}

-- ---- what a rack group is made of: port groups, and the supply
pub record PortGroup : Type 0 where
  pub share : ℕ
  pub limit : ℕ
  pub objects : List ℕ

-- ---- its bytes
unfoldable pub four_bytes : ℕ → List ℕ
four_bytes n = two_bytes (n % 65536) ++ two_bytes (n / 65536)

unfoldable pub object_bytes : List ℕ → List ℕ
object_bytes [] = []
object_bytes (o ∷ objects) = four_bytes o ++ object_bytes objects

-- "the tag; the length of the value, least byte first; the value"
unfoldable pub field_bytes : ℕ → List ℕ → List ℕ
field_bytes tag value = tag ∷ (two_bytes (length value) ++ value)

-- "share, limit, offer objects, in this order"
unfoldable pub port_value : PortGroup → List ℕ
port_value p = field_bytes 19 (four_bytes p.share) ++ (field_bytes 20 (four_bytes p.limit) ++ field_bytes 21 (object_bytes p.objects))

-- "one port group for each port in the order of their numbers, then the supply"
unfoldable pub rack_value : List PortGroup → ℕ → List ℕ
rack_value [] supply = field_bytes 18 (four_bytes supply)
rack_value (p ∷ ports) supply = field_bytes 17 (port_value p) ++ rack_value ports supply

-- THE DEFINITION: the bytes of a set-up
unfoldable pub rack_bytes : List PortGroup → ℕ → List ℕ
rack_bytes ports supply = field_bytes 16 (rack_value ports supply)

-- ---- the set-up that it is: its first ports have a place, as many as a rack can have
-- the first n of a list, with d for those that are not there
abbrev pub firsts : {A : Type 0} → A → ℕ → List A → List A
firsts d zero l = []
firsts d (suc n) [] = d ∷ firsts d n []
firsts d (suc n) (x ∷ l) = x ∷ firsts d n l

abbrev pub setting_for : PortGroup → Setting
setting_for p = record { share = p.share; limit = p.limit; offer = record { objects = firsts 0 7 p.objects; count = length p.objects } }

abbrev pub set_up_for : List PortGroup → ℕ → SetUp
set_up_for ports supply = record { settings = firsts nobody most_ports (map setting_for ports); count = length ports; supply = supply }

-- ---- what can be laid out so: numbers that fit four bytes, at most seven objects, at most 255 ports
abbrev pub Every : {A : Type 0} → (A → Type 0) → List A → Type 0
Every P [] = Unit {0}
Every P (x ∷ l) = P x × Every P l

abbrev pub Four : ℕ → Type 0
Four n = n < 4294967296

pub record FitGroup (p : PortGroup) : Type 0 where
  pub share : Four p.share
  pub limit : Four p.limit
  pub objects : Every Four p.objects
  pub few : length p.objects ≤ 7

pub record Fit (ports : List PortGroup) (supply : ℕ) : Type 0 where
  pub power : Four supply
  pub groups : Every FitGroup ports
  pub few : length ports ≤ 255
