use Rattle.std.proofs.Common.{◌≡◌, map, string_bytes, rules}
use Rattle.clap.specs.Words.{app_of, kind_of}
use Rattle.clap.specs.declared.error.ErrorKind.TheVariants as kind
use Rattle.words.proofs.Parses.{refused, taken}
use Rattle.words.proofs.taking.command_of.Goals as goal

pub returns-in-Ok : goal.returns-in-Ok
returns-in-Ok c = taken (app_of c.in_ok-rules.rules) (map string_bytes c.args.words.now) c.in-Ok.matches c.command_in.result c.in_ok-rules.ensures c.in-Ok.ensures.matches c.in-Ok.ensures.kinds c.command_in.ensures

pub returns : goal.returns
returns c =
    let other : kind_of c.in-Err.error ≡ kind.OutOfMemory → ⊥ = search rules in
    refused (app_of c.in_ok-rules.rules) (map string_bytes c.args.words.now) c.in-Err.error c.in_ok-rules.ensures other c.in-Err.ensures.kinds
