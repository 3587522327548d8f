-- When a refutation ends with a line without choices.
use Rattle.std.proofs.Common.{◌-◌, ◌≡◌, refl, sym, ap, ◌∙◌, arith, Bool, true, List, [], ◌∷◌, length, map, Some}
use Rattle.std.specs.Prelude.{◌==◌, ◌↔◌, IsTrue, slice_get}
use Rattle.std.proofs.lemmas.Bool.{eqb-true}
use Rattle.std.proofs.lemmas.Option.{same_Some, slice_get-map}
use Rattle.std.specs.Option.{option_map}
use Rattle.nogoods.specs.declared.choice.Choice.{Choice}
use Rattle.cert_text.specs.declared.cert.CertLine.{CertLine}
use Rattle.cert_text.specs.Certs.{no_good_of}
use Rattle.cert_check.specs.Acceptance.{EndsEmpty}

pub empty_from_length : (cs : List Choice) → (length cs == 0) ≡ true → cs ≡ []
empty_from_length [] e = refl
empty_from_length (c ∷ cs) e = let none : length (c ∷ cs) ≡ 0 = eqb-true (length (c ∷ cs)) 0 e in absurd (omega arith)

pub length_from_empty : (cs : List Choice) → cs ≡ [] → (length cs == 0) ≡ true
length_from_empty cs e = ap (λ (xs : List Choice). length xs == 0) e

pub ends_at : (lines : List CertLine) (line : CertLine) (cs ng : List Choice) (result : Bool) → Some line ≡ slice_get lines (length lines - 1) → ng ≡ no_good_of line → cs ≡ ng → result ≡ (length cs == 0) → IsTrue result ↔ EndsEmpty lines
ends_at lines line cs ng result found is read test =
    let at : slice_get (map no_good_of lines) (length lines - 1) ≡ Some (no_good_of line) =
    slice_get-map no_good_of lines (length lines - 1) ∙ ap (option_map no_good_of) (sym found) in
    let same : cs ≡ no_good_of line = read ∙ is in (
      λ yes. at ∙ ap (λ xs. Some xs) (sym same ∙ empty_from_length cs (sym test ∙ yes)),
      λ ends. test ∙ length_from_empty cs (same ∙ same_Some (no_good_of line) [] (sym at ∙ ends)),
    )
