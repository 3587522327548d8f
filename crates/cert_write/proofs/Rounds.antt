-- A text that was written is read as the certificate that it was written from.
use Rattle.std.proofs.Common.{ℕ, ◌+◌, ◌-◌, ◌^◌, ◌≤◌, ◌<◌, ◌≡◌, sym, subst, arith, List, [], ◌∷◌, ◌++◌, length, map, Result}
use Rattle.std.proofs.lemmas.List.{length-append, length-map}
use Rattle.lp_base.specs.Answers.{Gives}
use Rattle.cert_text.specs.declared.cert.Cert.{Cert}
use Rattle.cert_text.specs.declared.cert.Cert.TheVariants.{Optimal, Infeasible, Unbounded}
use Rattle.cert_text.specs.declared.cert.CertLine.{CertLine}
use Rattle.cert_text.specs.declared.fault.CertFault.{CertFault}
use Rattle.cert_text.specs.Certs.{KeepsForm, lines_of}
use Rattle.cert_text.specs.Spelling.{cert_lines, cert_words, end_words, line_bytes, line_words, log_words, spelling, text_of}
use Rattle.cert_text.specs.Texts.{Spells, found_by}
use Rattle.cert_text.proofs.Certificates.{spelling_spells}

-- each line has a byte of its own
lines_within : (lines : List (List ℕ)) → length lines ≤ length (text_of lines)
lines_within [] = omega arith
lines_within (line ∷ lines) =
    omega (arith, lines_within lines, length-append (line ++ 10 ∷ []) (text_of lines), length-append line (10 ∷ []))

log_length : (lines : List CertLine) → length (log_words lines) ≡ length lines + 1
log_length lines = omega (arith, length-append (map line_words lines) (end_words lines ∷ []), length-map lines line_words)

words_enough : (cert : Cert) → length (lines_of cert) ≤ length (cert_words cert)
words_enough (Optimal point z lines) = omega (arith, log_length lines)
words_enough (Infeasible lines) = omega (arith, log_length lines)
words_enough (Unbounded piece point ray) = omega arith

few_lines : (cert : Cert) → length (lines_of cert) ≤ length (spelling cert)
few_lines cert = omega (arith, words_enough cert, length-map (cert_words cert) line_bytes, lines_within (cert_lines cert))

pub given_back : (cert : Cert) (text : List ℕ) (read : Result Cert CertFault) → KeepsForm cert → length (spelling cert) < 2 ^ 32 - 1 → text ≡ spelling cert → ((c : Cert) → Spells text c → Gives found_by c read) → Gives found_by cert read
given_back cert text read form room written reads =
    let few : length (lines_of cert) < 2 ^ 64 = omega (arith, few_lines cert, room) in
    reads cert (subst (λ (t : List ℕ). Spells t cert) (sym written) (spelling_spells cert form few))
