-- When there is nothing to refuse in a packet, and what is known of it then. Assumes nothing.
use Prim.Native.Nat.{ℕ, ◌+◌, ◌*◌, ◌≤◌}
use mathlib.Core.Path.{◌≡◌, refl, ap}
use mathlib.Core.Bool.{true, not}
use mathlib.Core.List.{List}
use lib.ListN.{length}
use borrow.Author.Tests.{ltb-false, eqb-true, not-false, le-ltb, eq-eqb}
use Rattle.ground.proofs.Rows.{passed, pass, spared, spare, has, hold}
use Rattle.message.specs.Header.{objects_of}
use Rattle.message.specs.Bytes.{is_chunked}
use Rattle.reading.specs.Reading.{header_in, extended_in, after_header, reading_tried}
use Rattle.std.specs.Prelude.{Ok}

-- what each test in the row asks
pub record Readable (s : List ℕ) : Type 0 where
  pub least : 2 ≤ length s
  pub most : length s ≤ 30
  pub four : extended_in s ≡ true → 4 ≤ length s
  pub chunked : extended_in s ≡ true → is_chunked (after_header s) ≡ true
  pub even : length s ≡ 2 + 4 * objects_of (header_in s)

pub readable : (s : List ℕ) → reading_tried s ≡ Ok tt → Readable s
unfolding reading_tried
readable s e =
    let short = passed _ _ _ e in
    let long = passed _ _ _ short.1 in
    let under = passed _ _ _ long.1 in
    let unchunked = passed _ _ _ under.1 in
    let uneven = passed _ _ _ unchunked.1 in
    record {
      least = ltb-false _ _ short.0;
      most = ltb-false _ _ long.0;
      four = λ x. ltb-false _ _ (spared _ _ under.0 x);
      chunked = has _ _ unchunked.0;
      even = eqb-true _ _ (not-false _ uneven.0);
    }

pub fine : (s : List ℕ) → Readable s → reading_tried s ≡ Ok tt
unfolding reading_tried
fine s r =
    pass _ _ _ (le-ltb _ _ r.least)
    (pass _ _ _ (le-ltb _ _ r.most)
    (pass _ _ _ (spare _ _ (λ x. le-ltb _ _ (r.four x)))
    (pass _ _ _ (hold _ _ r.chunked)
    (pass _ _ _ (ap not (eq-eqb _ _ r.even))
    refl))))
