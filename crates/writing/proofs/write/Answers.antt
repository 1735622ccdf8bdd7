use mathlib.Core.Path.{sym, ◌∙◌}
use Rattle.std.proofs.lemmas.Grind.{common_steps}
use Rattle.std.proofs.Common.{arith}
use Rattle.message.proofs.Bytes.{length_bytes}
use Rattle.writing.proofs.Fine.{writable}
use Rattle.writing.proofs.write.Goals as goal

pub put_at-requires : goal.put_at-requires
put_at-requires c = writable _ _ _ _ (sym c.tried.ensures ∙ c.in_ok-tried.was)

pub returns : goal.returns
returns c =
    let told = sym c.tried.ensures ∙ c.in_ok-tried.was in
    let a = c.args in
    record { result = rw (told, length_bytes a.f a.objects.now); buffer = rw told c.put_at.ensures }

pub returns-in_err-tried : goal.returns-in_err-tried
returns-in_err-tried c =
    let told = sym c.tried.ensures ∙ c.in_err-tried.was in
    record { result = rw told (grind (arith, common_steps)); buffer = rw told }
