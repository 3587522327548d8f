use Rattle.std.proofs.Common.{◌≡◌, IfOk, sym, subst, drop, map, string_bytes}
use Rattle.lpcc_run.specs.Commands.{ReadsNothing}
use Rattle.lpcc_run.proofs.running.run_called.Goals as goal

pub returns-in-Ok-clause-reads_nothing : goal.returns-in-Ok-clause-reads_nothing
returns-in-Ok-clause-reads_nothing g c =
    subst (λ called. IfOk called (λ words. ReadsNothing (drop 1 (map string_bytes words.items)) → c.run_behind_name.new.src ≡ c.args.src.now)) (sym c.in-Ok.is)
    (λ nothing. c.run_behind_name.ensures.reads_nothing (subst (λ words. ReadsNothing (drop 1 (map string_bytes words))) (sym c.as_slice.ensures.value) nothing))
