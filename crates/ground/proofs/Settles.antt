-- What it is for a contract to leave nothing loose: no two differing results meet it, as the checker itself reads the contract. Assumes nothing.
use Prim.Native.Nat.{ℕ}
use mathlib.Core.Path.{◌≡◌, sym, ◌∙◌}
use mathlib.Core.List.{List}
use contract.Lifetimes.{Lfts}
use denote.Triple.Clauses.{AtExit}
use borrow.Fn.Kinds.{ParamKind, ResultKind, Out, Dens, ended_of, res_t}

-- what `see` sees of the result and of the parameters at exit is the same, whichever meet the contract `P` of n lifetimes, parameters ps and result r
abbrev pub Settles : {A : Type 0} (n : ℕ) (ps : List (ParamKind n)) (r : ResultKind n) → Out n ps r → ((κs : Lfts n) → (res_t r κs).Denot → AtExit (ended_of n ps r) κs → A) → Type 0
Settles n ps r P see =
    (κs : Lfts n) (a : Dens κs ps) (x y : (res_t r κs).Denot) (s t : AtExit (ended_of n ps r) κs) → P κs a x s → P κs a y t → see κs x s ≡ see κs y t

-- so an equation settles: two things that are the same third are the same
pub same : {A : Type 0} {x y d : A} → x ≡ d → y ≡ d → x ≡ y
same p q = p ∙ sym q
