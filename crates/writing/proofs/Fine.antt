-- When there is nothing to refuse in a writing: exactly for a sound message whose revision may be written and that has room. Assumes nothing.
use Prim.Native.Nat.{ℕ, suc, ◌+◌, ◌-◌, ◌*◌, ◌/◌, ◌%◌, ◌<◌, ◌≤◌}
use native.Mathlib.Nat.{le_of_suc-le-suc}
use native.Mathlib.Omega.{arith}
use mathlib.Core.Path.{◌≡◌, refl, ap}
use mathlib.Core.Bool.{not}
use mathlib.Core.List.{List}
use lib.ListN.{length}
use borrow.Author.Tests.{ltb-false, lt-ltb, le-ltb, eqb-true, eq-eqb, ne_eqb, not-false}
use Rattle.ground.specs.declared.Refusal.TheVariants.{OutOfRange}
use Rattle.ground.proofs.Rows.{passed, pass, refuse, here, later, neither, nor, none, spared, spare}
use Rattle.message.specs.declared.Fields.{Fields}
use Rattle.message.proofs.Bytes.{chunked_there}
use Rattle.writing.specs.Writing.{Writable, writing_tried}
use Rattle.std.specs.Prelude.{Ok, Err}

fours : (n size place : ℕ) → n % 4 ≡ 0 → 2 + 4 * (n / 4) ≤ size - place → 2 + n ≤ size - place
fours n size place e h = omega arith

-- ---- the tests passed
pub writable : (f : Fields) (o : List ℕ) (size place : ℕ) → writing_tried f o size place ≡ Ok tt → Writable f o size place
unfolding writing_tried
writable f o size place e =
    let range = passed _ _ _ e in
    let chunk = passed _ _ _ range.1 in
    let IsPlace-in = neither _ _ (passed _ _ _ chunk.1).0 in
    let type-in = neither _ _ range.0 in
    let id-in = neither _ _ type-in.1 in
    let power_in = neither _ _ id-in.1 in
    let data-in = neither _ _ power_in.1 in
    let revision-in = neither _ _ data-in.1 in
    let whole_in = neither _ _ revision-in.1 in
    let few : length o ≤ 28 = ltb-false _ _ (neither _ _ whole_in.1).0 in
    let whole : length o % 4 ≡ 0 = eqb-true _ _ (not-false _ whole_in.0) in
    let revision : f.revision ≤ 2 = ltb-false _ _ revision-in.0 in
    record {
      sound =
          record {
            fits =
                record {
                  message_id = le_lt (ltb-false _ _ id-in.0);
                  power_role = le_lt (ltb-false _ _ power_in.0);
                  revision = omega arith;
                  data_role = le_lt (ltb-false _ _ data-in.0);
                  message_type = le_lt (ltb-false _ _ type-in.0);
                };
            whole = whole;
            few = few;
            chunked = λ x. not-false _ (neither _ _ (neither _ _ (spared _ _ chunk.0 x)).1).0;
          };
      revision = le_lt revision;
      within = ltb-false _ _ IsPlace-in.0;
      room = fours (length o) size place whole (ltb-false _ _ (neither _ _ IsPlace-in.1).0);
    }
  where
    le_lt : {m n : ℕ} → m ≤ n → m < n + 1
    le_lt h = omega arith

-- ---- and so they pass
lt_le : {m n : ℕ} → m < suc n → m ≤ n
lt_le h = le_of_suc-le-suc h

there : (n : ℕ) → 1 ≤ n → n ≡ 0 → ⊥
there n h e = omega arith

back : (n size place : ℕ) → 2 + n ≤ size - place → 2 + 4 * (n / 4) ≤ size - place
back n size place h = omega arith

pub fine : (f : Fields) (o : List ℕ) (size place : ℕ) → Writable f o size place → writing_tried f o size place ≡ Ok tt
unfolding writing_tried
fine f o size place w =
    let m = w.sound in
    pass _ _ _
    (nor _ _ (le-ltb 31 _ (lt_le m.fits.message_type))
    (nor _ _ (le-ltb 7 _ (lt_le m.fits.message_id))
    (nor _ _ (le-ltb 1 _ (lt_le m.fits.power_role))
    (nor _ _ (le-ltb 1 _ (lt_le m.fits.data_role))
    (nor _ _ (le-ltb 2 _ (lt_le w.revision))
    (nor _ _ (ap not (eq-eqb _ 0 m.whole))
    (nor _ _ (le-ltb 28 _ m.few) none)))))))
    (pass _ _ _
    (spare _ _ (λ x. nor _ _ (ne_eqb (length o) 0 (there (length o) (chunked_there o (m.chunked x)))) (nor _ _ (ap not (m.chunked x)) none)))
    (pass _ _ _
    (nor _ _ (le-ltb size place w.within) (nor _ _ (le-ltb (size - place) (2 + 4 * (length o / 4)) (back (length o) size place w.room)) none))
    refl))

-- ---- the reserved revision is refused first of all
pub reserved : (f : Fields) (o : List ℕ) (size place : ℕ) → 3 ≤ f.revision → writing_tried f o size place ≡ Err OutOfRange
unfolding writing_tried
reserved f o size place h = refuse _ _ _ (later _ _ (later _ _ (later _ _ (later _ _ (here _ _ (lt-ltb 2 f.revision h))))))
