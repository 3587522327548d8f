-- The command that was found.
use Rattle.std.proofs.Common.{ℕ, ◌≡◌, subst, List, Option, Some}
use Rattle.std.specs.Prelude.{MatchOption}
use Rattle.words.specs.declared.command.Command.{Command}
use Rattle.lpcc_run.specs.Commands.{IsCommand, IsNoCommand}

pub found_one : (words : List (List ℕ)) (found : Option Command) (c : Command) → found ≡ Some c → MatchOption found (IsNoCommand words) (λ d. IsCommand words d) → IsCommand words c
found_one words found c is h = subst (λ x. MatchOption x (IsNoCommand words) (λ d. IsCommand words d)) is h
