-- What is written of an answer of a search by branching, and the status that goes with it.
use Rattle.std.specs.Prelude.{ℕ, Bool, true, false, List, [], ◌∷◌, ◌++◌, codes, map}
use Rattle.std.specs.Fmt.{decimal}
use Rattle.std.specs.List.{join_with_byte}
use Rattle.nogoods.specs.declared.choice.Choice.{Choice}
use Rattle.lpcc_case.specs.declared.verdict.Verdict.{Verdict}
use Rattle.cert_text.specs.Spelling.{choice_word}
use Rattle.cert_text.specs.declared.cert.Cert.{Cert}
use Rattle.cert2_text.specs.Spelling2.{spelling2}
use Rattle.migrating.specs.Migration.{migrated}
use Rattle.report.specs.Endings.{verdict_line}
use Rattle.tree_engine.specs.declared.answer.Branch.{Branch}
use Rattle.tree_engine.specs.declared.answer.Branch.TheVariants.{Closed, Unbounded, Overflow, PivotsSpent, NodesSpent}

-- two lines that a certificate takes for comments: the verdict, and the number of nodes
abbrev pub nodes_line : ℕ → List ℕ
nodes_line nodes = codes "\n* nodes " ++ decimal nodes ++ codes "\n"

abbrev pub comments : Verdict → ℕ → List ℕ
comments verdict nodes = verdict_line verdict ++ nodes_line nodes

-- the certificate in form 2, or nothing where the text is to be brief
abbrev pub certificate_text : Bool → Cert → List ℕ
certificate_text true cert = []
certificate_text false cert = spelling2 (migrated cert)

abbrev pub verdict_text : Verdict → ℕ → Bool → Cert → List ℕ
verdict_text verdict nodes brief cert = comments verdict nodes ++ certificate_text brief cert

-- one space between the choices
abbrev pub choices_text : List Choice → List ℕ
choices_text choices = join_with_byte 32 (map choice_word choices)

abbrev pub nodes_text : ℕ → List Choice → List ℕ
nodes_text nodes left = codes "budget nodes " ++ decimal nodes ++ codes " left " ++ choices_text left ++ 10 ∷ []

abbrev pub status_of : Branch → ℕ
status_of (Closed best tree nodes) = 0
status_of (Unbounded piece point ray nodes) = 0
status_of (Overflow piece at run) = 7
status_of (PivotsSpent piece at run) = 8
status_of (NodesSpent nodes left run) = 8
