-- The migration of a certificate keeps the rules of form 2, and has as many no-good lines.
use Rattle.std.proofs.Common.{◌≡◌, ℕ, zero, suc, ◌+◌, ◌<◌, ◌≤◌, ◌^◌, Bool, true, false, not, ◌&&◌, cond, List, [], ◌∷◌, ◌++◌, length, get_or, Option, Some, None, refl, sym, subst, ◌∙◌, arith}
use Rattle.std.specs.Prelude.{All, IfOk, Result, Ok, Err}
use Rattle.std.specs.List.{filter, list_any, range_with_len}
use Rattle.std.proofs.lemmas.List.{length_push}
use Rattle.std.proofs.lemmas.List.Elements.{All-append, All-cons, All-head, All-nil, All-tail}
use Rattle.lp_base.specs.declared.limits.TheConstants.{LARGEST_WORD}
use Rattle.cert_text.specs.declared.cert.Cert.{Cert}
use Rattle.cert_text.specs.declared.cert.Cert.TheVariants as cert
use Rattle.cert_text.specs.declared.cert.CertLine.{CertLine}
use Rattle.cert_text.specs.declared.cert.CertLine.TheVariants as line
use Rattle.cert_text.specs.Certs.{AreTerms, IsLine, KeepsForm, lines_of}
use Rattle.cert_text.proofs.Ascents.{Ascend, BeginsAt, ascend_more}
use Rattle.cert2_text.specs.declared.cert2.Cert2.{Cert2}
use Rattle.cert2_text.specs.declared.cert2.Cert2Line.{Cert2Line}
use Rattle.cert2_text.specs.declared.cert2.Cert2Line.TheVariants.{Shared, Ray, Point, Derived, Forget}
use Rattle.cert2_text.specs.Certs2.{IsLine2, IsListNumber, KeepsForm2, count_of, counted, lines2_of}
use Rattle.cert2_text.specs.Wholes.{Terms}
use Rattle.migrating.specs.Migration.{same_terms, is_shared, has_list, place, lists_behind, names_hint, hints_at, last_named, drop_line, migrated_line, migrated_from, migrated}
use Rattle.migrating.proofs.Accepting.{named_has, last_are}

-- ---- lines that are dropped

begins_below : (from : ℕ) (hs : List ℕ) → BeginsAt (λ n. n) (from + 1) hs → BeginsAt (λ n. n) from hs
begins_below from [] b = tt
begins_below from (h ∷ hs) b = omega (arith, b)

filter_ascends : (p : ℕ → Bool) (from count : ℕ) → Ascend (λ n. n) from (filter p (range_with_len from count))
filter_ascends p from zero = (tt, refl)
filter_ascends p from (suc count) = by (p from) (filter_ascends p (from + 1) count)
  where
    rest : List ℕ
    rest = filter p (range_with_len (from + 1) count)

    by : (t : Bool) → Ascend (λ n. n) (from + 1) rest → Ascend (λ n. n) from (cond t (from ∷ rest) rest)
    by true h = ascend_more (λ n. n) from from rest (omega arith) h
    by false h = (begins_below from rest h.0, h.1)

last_below : (count : ℕ) (hints : List ℕ) (later : List CertLine) → All (λ h. h < LARGEST_WORD) hints → All (λ h. h < LARGEST_WORD) (last_named count hints later)
last_below count hints later low k d inside = named_has (λ h. h < LARGEST_WORD) hints (get_or (last_named count hints later) k d) low (last_are count hints later k d inside).0

drop_keeps : (ds : List ℕ) → Ascend (λ n. n) 0 ds → All (λ h. h < LARGEST_WORD) ds → All IsLine2 (drop_line ds)
drop_keeps [] a low = All-nil IsLine2
drop_keeps (h ∷ hs) a low = All-cons IsLine2 (Forget (h ∷ hs)) [] (record { some = omega arith; ascending = a.1; numbers = low }) (All-nil IsLine2)

-- ---- cuts

place_within : (lists : List Terms) (mult : Terms) → place lists mult ≤ length lists
place_within [] mult = omega arith
place_within (l ∷ lists) mult = by (same_terms mult l) (place_within lists mult)
  where
    by : (t : Bool) → place lists mult ≤ length lists → cond t 0 (place lists mult + 1) ≤ length (l ∷ lists)
    by true most = omega arith
    by false most = omega (arith, most)

abbrev Cut : Type 0
Cut = Option ℕ → Terms → Cert2Line

cut_keeps : (cut : Cut) (p : ℕ) (mult : Terms) (s h : Bool) → p < LARGEST_WORD → AreTerms mult → AreTerms [] → ((list : Option ℕ) (own : Terms) → IsListNumber list → AreTerms own → IsLine2 (cut list own))
    → All IsLine2 (cond s (cond h [] (Shared mult ∷ []) ++ cut (Some p) [] ∷ []) (cut None mult ∷ []))
cut_keeps cut p mult true true low terms none keeps = All-cons IsLine2 (cut (Some p) []) [] (keeps (Some p) [] low none) (All-nil IsLine2)
cut_keeps cut p mult true false low terms none keeps =
    All-cons IsLine2 (Shared mult) (cut (Some p) [] ∷ []) terms (All-cons IsLine2 (cut (Some p) []) [] (keeps (Some p) [] low none) (All-nil IsLine2))
cut_keeps cut p mult false h low terms none keeps = All-cons IsLine2 (cut None mult) [] (keeps None mult tt terms) (All-nil IsLine2)

no_terms : AreTerms []
no_terms = record { ascending = refl; numbers = All-nil _; narrow = All-nil _ }

-- ---- lines

line_keeps : (all : List CertLine) (lists : List Terms) (y : CertLine) (later : List CertLine) → IsLine y → length lists + 1 < 2 ^ 64 → All IsLine2 (migrated_line all lists y later)
line_keeps all lists (line.Ray ng mult) later form few =
    cut_keeps (λ list own. Ray ng list own) (place lists mult) mult (is_shared all mult) (has_list lists mult) (omega (arith, place_within lists mult, few)) form.1 no_terms (λ list own number terms. (form.0, number, terms))
line_keeps all lists (line.Point ng e mult) later form few =
    cut_keeps (λ list own. Point ng e list own) (place lists mult) mult (is_shared all mult) (has_list lists mult) (omega (arith, place_within lists mult, few)) form.3 no_terms (λ list own number terms. (form.0, form.1, form.2, number, terms))
line_keeps all lists (line.Derived ng hints) later form few =
    All-cons IsLine2 (Derived ng hints) (drop_line (last_named (length all) hints later)) form
    (drop_keeps (last_named (length all) hints later) (filter_ascends (λ h. names_hint hints h && not (list_any (hints_at h) later)) 0 (length all)) (last_below (length all) hints later form.1))

one_more : (lists : List Terms) (mult : Terms) (t : Bool) → length (cond t (lists ++ mult ∷ []) lists) ≤ length lists + 1
one_more lists mult true = omega (arith, length_push lists mult)
one_more lists mult false = omega arith

lists_grow : (all : List CertLine) (lists : List Terms) (y : CertLine) → length (lists_behind all lists y) ≤ length lists + 1
lists_grow all lists (line.Ray ng mult) = one_more lists mult (is_shared all mult && not (has_list lists mult))
lists_grow all lists (line.Point ng e mult) = one_more lists mult (is_shared all mult && not (has_list lists mult))
lists_grow all lists (line.Derived ng hints) = omega arith

lines_keep : (all : List CertLine) (lists : List Terms) (ys : List CertLine) → All IsLine ys → length lists + length ys < 2 ^ 64 → All IsLine2 (migrated_from all lists ys)
lines_keep all lists [] form few = All-nil IsLine2
lines_keep all lists (y ∷ ys) form few =
    All-append IsLine2 (migrated_line all lists y ys) (migrated_from all (lists_behind all lists y) ys) (line_keeps all lists y ys (All-head IsLine y ys form) (omega (arith, few)))
    (lines_keep all (lists_behind all lists y) ys (All-tail IsLine y ys form) (omega (arith, few, lists_grow all lists y)))

pub keeps_form : (c : Cert) → KeepsForm c → length (lines_of c) < 2 ^ 64 → KeepsForm2 (migrated c)
keeps_form (cert.Optimal point z lines) form few = (form.0, form.1, lines_keep lines [] lines form.2 (omega (arith, few)))
keeps_form (cert.Infeasible lines) form few = lines_keep lines [] lines form (omega (arith, few))
keeps_form (cert.Unbounded piece point ray) form few = form

-- ---- how many

count_append : (xs ys : List Cert2Line) → count_of (xs ++ ys) ≡ count_of xs + count_of ys
count_append [] ys = omega arith
count_append (x ∷ xs) ys = let e = count_append xs ys in omega (arith, e)

drop_counts : (ds : List ℕ) → count_of (drop_line ds) ≡ 0
drop_counts [] = refl
drop_counts (h ∷ hs) = refl

cut_counts : (cut : Cut) (p : ℕ) (mult : Terms) (s h : Bool) → ((list : Option ℕ) (own : Terms) → counted (cut list own) ≡ 1) → count_of (cond s (cond h [] (Shared mult ∷ []) ++ cut (Some p) [] ∷ []) (cut None mult ∷ [])) ≡ 1
cut_counts cut p mult true true one = let e = one (Some p) [] in omega (arith, e)
cut_counts cut p mult true false one = let e = one (Some p) [] in omega (arith, e)
cut_counts cut p mult false h one = let e = one None mult in omega (arith, e)

line_counts : (all : List CertLine) (lists : List Terms) (y : CertLine) (later : List CertLine) → count_of (migrated_line all lists y later) ≡ 1
line_counts all lists (line.Ray ng mult) later = cut_counts (λ list own. Ray ng list own) (place lists mult) mult (is_shared all mult) (has_list lists mult) (λ list own. refl)
line_counts all lists (line.Point ng e mult) later = cut_counts (λ list own. Point ng e list own) (place lists mult) mult (is_shared all mult) (has_list lists mult) (λ list own. refl)
line_counts all lists (line.Derived ng hints) later = let e = drop_counts (last_named (length all) hints later) in omega (arith, e)

lines_count : (all : List CertLine) (lists : List Terms) (ys : List CertLine) → count_of (migrated_from all lists ys) ≡ length ys
lines_count all lists [] = refl
lines_count all lists (y ∷ ys) =
    let e = count_append (migrated_line all lists y ys) (migrated_from all (lists_behind all lists y) ys) in
    let f = line_counts all lists y ys in
    let g = lines_count all (lists_behind all lists y) ys in
    omega (arith, e, f, g)

pub counts_alike : (c : Cert) → count_of (lines2_of (migrated c)) ≡ length (lines_of c)
counts_alike (cert.Optimal point z lines) = lines_count lines [] lines
counts_alike (cert.Infeasible lines) = lines_count lines [] lines
counts_alike (cert.Unbounded piece point ray) = refl

-- ---- what is made

pub made_keeps : {E : Type 0} (c : Cert) (count : ℕ) (r : Result Cert2 E) → count ≡ length (lines_of c) → count < 2 ^ 64 → KeepsForm c → IfOk r (λ made. made ≡ migrated c) → IfOk r KeepsForm2
made_keeps c count (Err e) same few form h = tt
made_keeps c count (Ok made) same few form h = subst KeepsForm2 (sym h) (keeps_form c form (subst (λ (n : ℕ). n < 2 ^ 64) same few))

pub made_few : {E : Type 0} (c : Cert) (count : ℕ) (r : Result Cert2 E) → count ≡ length (lines_of c) → count < 2 ^ 64 → IfOk r (λ made. made ≡ migrated c) → IfOk r (λ made. count_of (lines2_of made) < 2 ^ 64)
made_few c count (Err e) same few h = tt
made_few c count (Ok made) same few h = subst (λ (d : Cert2). count_of (lines2_of d) < 2 ^ 64) (sym h) (subst (λ (n : ℕ). n < 2 ^ 64) (same ∙ sym (counts_alike c)) few)
