-- What is laid out is bytes: every number in it is below 256. Assumes nothing.
use Prim.Native.Nat.{ℕ, zero, suc, ◌+◌, ◌*◌, ◌/◌, ◌%◌, ◌<◌, ◌≤◌}
use native.Mathlib.Omega.{arith}
use mathlib.Core.List.{List, [], ◌∷◌, ◌++◌}
use lib.ListN.{length, length-append}
use Rattle.message.specs.Bytes.{AreBytes, two_bytes}
use Rattle.night.specs.Layout.{PortGroup, four_bytes, object_bytes, field_bytes, port_value, rack_value, rack_bytes, Every, Four, FitGroup, Fit}
use Rattle.night.proofs.LaidOut.{field_length, value_length, objects_length}

none : AreBytes []
none i = omega arith

one : (x : ℕ) (l : List ℕ) → x < 256 → AreBytes l → AreBytes (x ∷ l)
one x l h b zero = h
one x l h b (suc i) = b i

joined : (a b : List ℕ) → AreBytes a → AreBytes b → AreBytes (a ++ b)
joined [] b p q = q
joined (x ∷ a) b p q = one x (a ++ b) (p 0) (joined a b (λ i. p (suc i)) q)

two : (w : ℕ) → w < 65536 → AreBytes (two_bytes w)
two w h = one (w % 256) ((w / 256) ∷ []) (omega arith) (one (w / 256) [] (omega arith) none)

four : (n : ℕ) → Four n → AreBytes (four_bytes n)
unfolding four_bytes
four n h = joined (two_bytes (n % 65536)) (two_bytes (n / 65536)) (two (n % 65536) (omega arith)) (two (n / 65536) (omega arith))

four_long : (n : ℕ) → length (four_bytes n) ≤ 4
unfolding four_bytes
four_long n = omega arith

field : (tag : ℕ) (v : List ℕ) → tag < 256 → length v < 65536 → AreBytes v → AreBytes (field_bytes tag v)
unfolding field_bytes
field tag v t h b = one tag (two_bytes (length v) ++ v) t (joined (two_bytes (length v)) v (two (length v) h) b)

number : (tag n : ℕ) → tag < 256 → Four n → AreBytes (field_bytes tag (four_bytes n))
number tag n t h = field tag (four_bytes n) t (omega (arith, four_long n)) (four n h)

objects : (os : List ℕ) → Every Four os → AreBytes (object_bytes os)
unfolding object_bytes
objects [] fit = none
objects (o ∷ os) fit = joined (four_bytes o) (object_bytes os) (four o fit.0) (objects os fit.1)

port : (p : PortGroup) → FitGroup p → AreBytes (field_bytes 17 (port_value p))
unfolding port_value
port p fit =
    field 17 (port_value p) (omega arith) (omega (arith, value_length p, fit.few))
    (joined (field_bytes 19 (four_bytes p.share)) _ (number 19 p.share (omega arith) fit.share)
    (joined (field_bytes 20 (four_bytes p.limit)) _ (number 20 p.limit (omega arith) fit.limit)
    (field 21 (object_bytes p.objects) (omega arith) (omega (arith, objects_length p.objects, fit.few)) (objects p.objects fit.objects))))

ports : (l : List PortGroup) (supply : ℕ) → Four supply → Every FitGroup l → AreBytes (rack_value l supply)
unfolding rack_value
ports [] supply h fit = number 18 supply (omega arith) h
ports (p ∷ l) supply h fit = joined (field_bytes 17 (port_value p)) (rack_value l supply) (port p fit.0) (ports l supply h fit.1)

-- "a port group's value is 17 bytes and 4 for each object, and the rack group's value is its port groups and 7 bytes"
value_long : (l : List PortGroup) (supply : ℕ) → Every FitGroup l → length (rack_value l supply) ≤ 7 + 48 * length l
unfolding rack_value
value_long [] supply fit = omega (arith, field_length 18 (four_bytes supply), four_long supply)
value_long (p ∷ l) supply fit =
    rw (length-append (field_bytes 17 (port_value p)))
    (omega (arith, field_length 17 (port_value p), value_length p, fit.0.few, value_long l supply fit.1))

pub rack_bytes_lem : (l : List PortGroup) (supply : ℕ) → Fit l supply → AreBytes (rack_bytes l supply)
unfolding rack_bytes
rack_bytes_lem l supply fit =
    field 16 (rack_value l supply) (omega arith) (omega (arith, value_long l supply fit.groups, fit.few)) (ports l supply fit.power fit.groups)
