-- What the lines of form 2 say together: their lists, their no-goods and the lines that they drop, and the certificate
-- of form 1 that says the same, each of its cuts with all multipliers.
use Rattle.std.specs.Prelude.{◌==◌, ℕ, ℤ, Bool, nat_lt, if◌then◌else◌, List, [], ◌∷◌, ◌++◌, flat_map, slice_index_or, Option, Some, None}
use Rattle.std.specs.List.{list_any}
use Rattle.nogoods.specs.declared.choice.Choice.{Choice}
use Rattle.cert_text.specs.declared.cert.Cert.{Cert}
use Rattle.cert_text.specs.declared.cert.Cert.TheVariants as cert
use Rattle.cert_text.specs.declared.cert.CertLine.{CertLine}
use Rattle.cert_text.specs.declared.cert.CertLine.TheVariants as line
use Rattle.cert2_text.specs.declared.cert2.Cert2.{Cert2}
use Rattle.cert2_text.specs.declared.cert2.Cert2.TheVariants.{Optimal, Infeasible, Unbounded}
use Rattle.cert2_text.specs.declared.cert2.Cert2Line.{Cert2Line}
use Rattle.cert2_text.specs.declared.cert2.Cert2Line.TheVariants.{Shared, Ray, Point, Derived, Forget}

abbrev pub Terms : Type 0
Terms = List (ℕ × ℤ)

-- ---- lists

abbrev pub list_in : Cert2Line → List Terms
list_in (Shared mult) = mult ∷ []
list_in (Ray ng list mult) = []
list_in (Point ng e list mult) = []
list_in (Derived ng hints) = []
list_in (Forget lines) = []

abbrev pub lists_of : List Cert2Line → List Terms
lists_of lines = flat_map list_in lines

-- ---- no-goods, and the lines that are dropped

abbrev pub no_good_in : Cert2Line → List (List Choice)
no_good_in (Shared mult) = []
no_good_in (Ray ng list mult) = ng ∷ []
no_good_in (Point ng e list mult) = ng ∷ []
no_good_in (Derived ng hints) = ng ∷ []
no_good_in (Forget lines) = []

abbrev pub no_goods_of : List Cert2Line → List (List Choice)
no_goods_of lines = flat_map no_good_in lines

abbrev pub dropped_in : Cert2Line → List ℕ
dropped_in (Shared mult) = []
dropped_in (Ray ng list mult) = []
dropped_in (Point ng e list mult) = []
dropped_in (Derived ng hints) = []
dropped_in (Forget lines) = lines

abbrev pub dropped_of : List Cert2Line → List ℕ
dropped_of lines = flat_map dropped_in lines

-- a line is among those that are dropped
abbrev pub is_dropped : List ℕ → ℕ → Bool
is_dropped dropped h = list_any (λ d. d == h) dropped

-- what lines say to the lines behind them
pub record Said : Type 0 where
  pub lists : List Terms
  pub no_goods : List (List Choice)
  pub dropped : List ℕ

abbrev pub said_by : List Cert2Line → Said
said_by lines = record { lists = lists_of lines; no_goods = no_goods_of lines; dropped = dropped_of lines }

-- ---- all multipliers of a cut

-- a term before the first whose number is not below its own
abbrev pub insert : ℕ × ℤ → Terms → Terms
insert t [] = t ∷ []
insert t (u ∷ terms) = if nat_lt u.0 t.0 then u ∷ insert t terms else t ∷ u ∷ terms

-- the terms of two lists that ascend, in the order of their numbers. Where both have a term on one number, the two
-- stand side by side, and the list does not ascend strictly.
abbrev pub together : Terms → Terms → Terms
together [] own = own
together (t ∷ terms) own = insert t (together terms own)

-- the terms of the list that a line names, one of these, and its own
abbrev pub all_terms : List Terms → Option ℕ → Terms → Terms
all_terms lists None own = own
all_terms lists (Some h) own = together (slice_index_or lists h []) own

-- ---- the certificate of form 1 that says the same

-- a no-good line over these lists
abbrev pub whole_line : List Terms → Cert2Line → List CertLine
whole_line lists (Shared mult) = []
whole_line lists (Ray ng list mult) = line.Ray ng (all_terms lists list mult) ∷ []
whole_line lists (Point ng e list mult) = line.Point ng e (all_terms lists list mult) ∷ []
whole_line lists (Derived ng hints) = line.Derived ng hints ∷ []
whole_line lists (Forget lines) = []

-- the lines behind some others
abbrev pub whole_lines : List Cert2Line → List Cert2Line → List CertLine
whole_lines before [] = []
whole_lines before (x ∷ lines) = whole_line (lists_of before) x ++ whole_lines (before ++ x ∷ []) lines

abbrev pub whole_of : Cert2 → Cert
whole_of (Optimal point z lines) = cert.Optimal point z (whole_lines [] lines)
whole_of (Infeasible lines) = cert.Infeasible (whole_lines [] lines)
whole_of (Unbounded piece point ray) = cert.Unbounded piece point ray
