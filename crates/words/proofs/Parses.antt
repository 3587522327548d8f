-- What the parse of words says, by the command of the definitions.
use Rattle.std.proofs.Common.{refl, true, ◌≡◌, ◌∙◌, sym, ap, subst, List, [], ◌∷◌, Option, None, inl, inr}
use Rattle.clap.specs.Words.{App, HasKind, HasMatchesOf, Kinds, Text, fault_of, found_of, is_simple, is_simple_and_free, kind_of, matches_of, rows_of}
use Rattle.clap.specs.declared.Error.{Error}
use Rattle.clap.specs.declared.ArgMatches.{ArgMatches}
use Rattle.clap.specs.declared.error.ErrorKind.TheVariants as kind
use Rattle.clap.proofs.OnLiterals.{clap_on_literals}
use Rattle.words.specs.Command.{bare, lpcc_command, options, tuned}
use Rattle.words.specs.Commands.{command_in, command_of, if_none}
use Rattle.words.specs.declared.command.Command.{Command}

-- the command is one of those whose matches clap states exactly
is_simple-command : is_simple lpcc_command ≡ true
unfolding clap_on_literals lpcc_command tuned options bare
is_simple-command = refl

is_simple_and_free-command : is_simple_and_free lpcc_command ≡ true
unfolding clap_on_literals lpcc_command tuned options bare
is_simple_and_free-command = refl

pub taken : (a : App) (words : List Text) (m : ArgMatches) (found : Option Command) → a ≡ lpcc_command → HasMatchesOf a words m → (is_simple_and_free a ≡ true → fault_of a words ≡ []) → found ≡ command_in (rows_of (found_of m)) → found ≡ command_of words
taken a words m found same has exact is =
    let rows = subst (λ (x : App). HasMatchesOf x words m) same has is_simple-command in
    let none = subst (λ (x : App). is_simple_and_free x ≡ true → fault_of x words ≡ []) same exact is_simple_and_free-command in
    is ∙ ap command_in rows.0 ∙ sym (ap (λ (k : Kinds). if_none k (command_in (matches_of lpcc_command words))) none)

refused_by : (kinds : Kinds) (e : Error) (found : Option Command) → (kind_of e ≡ kind.OutOfMemory → ⊥) → HasKind kinds e → None ≡ if_none kinds found
refused_by [] e found other (inl short) = absurd (other short)
refused_by [] e found other (inr none) = absurd none
refused_by (k ∷ ks) e found other has = refl

pub refused : (a : App) (words : List Text) (e : Error) → a ≡ lpcc_command → (kind_of e ≡ kind.OutOfMemory → ⊥) → (is_simple_and_free a ≡ true → HasKind (fault_of a words) e) → None ≡ command_of words
refused a words e same other exact =
    let has = subst (λ (x : App). is_simple_and_free x ≡ true → HasKind (fault_of x words) e) same exact is_simple_and_free-command in
    refused_by (fault_of lpcc_command words) e (command_in (matches_of lpcc_command words)) other has
