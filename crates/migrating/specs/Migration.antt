-- A certificate of form 1 in form 2: multipliers that stand whole in several cuts become lists, and each line is dropped
-- behind the last line that hints at it.
use Rattle.std.specs.Prelude.{◌+◌, ◌==◌, ℕ, ℤ, pos, negsuc, Bool, true, false, not, ◌&&◌, nat_le, if◌then◌else◌, List, [], ◌∷◌, ◌++◌, flat_map, length, Option, Some, None}
use Rattle.std.specs.List.{filter, list_any, range_with_len}
use Rattle.cert_text.specs.declared.cert.Cert.{Cert}
use Rattle.cert_text.specs.declared.cert.Cert.TheVariants as cert
use Rattle.cert_text.specs.declared.cert.CertLine.{CertLine}
use Rattle.cert_text.specs.declared.cert.CertLine.TheVariants as line
use Rattle.cert2_text.specs.declared.cert2.Cert2.{Cert2}
use Rattle.cert2_text.specs.declared.cert2.Cert2.TheVariants.{Optimal, Infeasible, Unbounded}
use Rattle.cert2_text.specs.declared.cert2.Cert2Line.{Cert2Line}
use Rattle.cert2_text.specs.declared.cert2.Cert2Line.TheVariants.{Shared, Ray, Point, Derived, Forget}
use Rattle.cert2_text.specs.Wholes.{Terms}
use Rattle.migrating.specs.declared.lists.TheConstants.{LEAST_SHARED}

-- ---- equal multipliers

abbrev pub same_number : ℤ → ℤ → Bool
same_number (pos m) (pos n) = m == n
same_number (pos m) (negsuc n) = false
same_number (negsuc m) (pos n) = false
same_number (negsuc m) (negsuc n) = m == n

abbrev pub same_terms : Terms → Terms → Bool
same_terms [] [] = true
same_terms [] (u ∷ us) = false
same_terms (t ∷ ts) [] = false
same_terms (t ∷ ts) (u ∷ us) = t.0 == u.0 && same_number t.1 u.1 && same_terms ts us

-- ---- lists

-- the multipliers of a cut
abbrev pub mult_in : CertLine → List Terms
mult_in (line.Ray ng mult) = mult ∷ []
mult_in (line.Point ng e mult) = mult ∷ []
mult_in (line.Derived ng hints) = []

-- enough terms, which stand whole in at least two cuts of the certificate
abbrev pub is_shared : List CertLine → Terms → Bool
is_shared all mult = nat_le LEAST_SHARED (length mult) && nat_le 2 (length (filter (same_terms mult) (flat_map mult_in all)))

abbrev pub has_list : List Terms → Terms → Bool
has_list lists mult = list_any (same_terms mult) lists

-- the number of these multipliers among the lists, or the next number
abbrev pub place : List Terms → Terms → ℕ
place [] mult = 0
place (l ∷ lists) mult = if same_terms mult l then 0 else place lists mult + 1

-- a cut over the lists before it: where its multipliers are shared it has no terms of its own, and stands behind their
-- list where this is the first such cut
abbrev pub migrated_cut : List CertLine → List Terms → Terms → (Option ℕ → Terms → Cert2Line) → List Cert2Line
migrated_cut all lists mult cut =
    if is_shared all mult then (if has_list lists mult then [] else Shared mult ∷ []) ++ cut (Some (place lists mult)) [] ∷ []
    else cut None mult ∷ []

-- the lists behind a line
abbrev pub lists_behind : List CertLine → List Terms → CertLine → List Terms
lists_behind all lists (line.Ray ng mult) = if is_shared all mult && not (has_list lists mult) then lists ++ mult ∷ [] else lists
lists_behind all lists (line.Point ng e mult) = if is_shared all mult && not (has_list lists mult) then lists ++ mult ∷ [] else lists
lists_behind all lists (line.Derived ng hints) = lists

-- ---- lines that are dropped

abbrev pub names_hint : List ℕ → ℕ → Bool
names_hint hints h = list_any (λ k. k == h) hints

abbrev pub hints_at : ℕ → CertLine → Bool
hints_at h (line.Ray ng mult) = false
hints_at h (line.Point ng e mult) = false
hints_at h (line.Derived ng hints) = names_hint hints h

-- of so many lines those at which these hints and no later line hints
abbrev pub last_named : ℕ → List ℕ → List CertLine → List ℕ
last_named count hints later = filter (λ h. names_hint hints h && not (list_any (hints_at h) later)) (range_with_len 0 count)

abbrev pub drop_line : List ℕ → List Cert2Line
drop_line [] = []
drop_line (h ∷ lines) = Forget (h ∷ lines) ∷ []

-- ---- the certificate

abbrev pub migrated_line : List CertLine → List Terms → CertLine → List CertLine → List Cert2Line
migrated_line all lists (line.Ray ng mult) later = migrated_cut all lists mult (λ list own. Ray ng list own)
migrated_line all lists (line.Point ng e mult) later = migrated_cut all lists mult (λ list own. Point ng e list own)
migrated_line all lists (line.Derived ng hints) later = Derived ng hints ∷ drop_line (last_named (length all) hints later)

-- lines of a certificate, behind so many lists
abbrev pub migrated_from : List CertLine → List Terms → List CertLine → List Cert2Line
migrated_from all lists [] = []
migrated_from all lists (x ∷ later) = migrated_line all lists x later ++ migrated_from all (lists_behind all lists x) later

abbrev pub migrated_lines : List CertLine → List Cert2Line
migrated_lines lines = migrated_from lines [] lines

abbrev pub migrated : Cert → Cert2
migrated (cert.Optimal point z lines) = Optimal point z (migrated_lines lines)
migrated (cert.Infeasible lines) = Infeasible (migrated_lines lines)
migrated (cert.Unbounded piece point ray) = Unbounded piece point ray
