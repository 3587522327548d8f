-- The steps that the first empty step reaches make lines that pass.
use Rattle.std.proofs.Common.{ℕ, zero, suc, ◌-◌, ◌<◌, ◌≤◌, ◌≡◌, refl, sym, ap, ◌∙◌, subst, arith, true, List, [], ◌∷◌, ◌++◌, length, get_or, map, take, Some}
use Rattle.std.specs.Prelude.{Contains, IsTrue, slice_get}
use Rattle.std.specs.List.{AllByRecursion}
use Rattle.std.proofs.lemmas.List.{length-map, take-map, get_or-take, get_or_default, length-take-le}
use Rattle.std.proofs.lemmas.List.Elements.{All-get_or, Contains-get_or}
use Rattle.std.proofs.lemmas.Option.{slice_get-get_or, slice_get_within, get_or_from_slice_get}
use Rattle.std.proofs.Math.ListN.{get_or-map}
use Rattle.lp_base.specs.Ascending.{ascends_by}
use Rattle.nogoods.specs.declared.choice.Choice.{Choice}
use Rattle.nogoods.specs.declared.choice.Side.{Side}
use Rattle.lpcc_case.specs.Instance.{Instance}
use Rattle.lpcc_case.specs.Pieces.{NamesPairs}
use Rattle.cuts.specs.declared.cut.Cut.{Cut}
use Rattle.cuts.specs.declared.cut.Cut.TheVariants as cut
use Rattle.cuts.specs.Cuts as cuts
use Rattle.derivation.specs.declared.step.Step.{Step}
use Rattle.derivation.specs.declared.step.Step.TheVariants.{Start, Derived}
use Rattle.derivation.specs.HintRuns.{closes}
use Rattle.derivation.specs.Logs.{no_goods, no_good_of}
use Rattle.trimming.specs.Marks.{Moves}
use Rattle.trimming.specs.Trimmed.{IsFirstEmpty, hints_of, place_of, step_at}
use Rattle.trimming.proofs.PathLaws.{before_place, hint_below, path_below, path_more, place_found}
use Rattle.trimming.proofs.RenumberLaws.{renumbered, hints_below}
use Rattle.cert_text.specs.declared.cert.Cert.{Cert}
use Rattle.cert_text.specs.declared.cert.Cert.TheVariants as cert
use Rattle.cert_text.specs.declared.cert.CertLine.{CertLine}
use Rattle.cert_text.specs.declared.cert.CertLine.TheVariants as line
use Rattle.cert_text.specs.Certs as certs
use Rattle.cert_check.specs.Acceptance.{EndsEmpty}
use Rattle.play.specs.declared.event.VerdictKind.{VerdictKind}
use Rattle.play.specs.declared.event.VerdictKind.TheVariants as kind
use Rattle.play.specs.Parts.{Part}
use Rattle.play.specs.Truth.{IsTrueToBest, starts_of}
use Rattle.play.specs.Certificates.{line_of_cut, cut_at, line_of, line_at, AreTrimmedLines, IsBackedLine, AreBacked, IsCertOf, IsBackedCert}
use Rattle.play.proofs.ListLaws.{here, there}
use Rattle.play.proofs.EndingLaws.{rest_up, least}

-- ---- ascending places

-- a place further on holds no less
further : (places : List ℕ) (i j : ℕ) → IsTrue (ascends_by (λ n. n) places) → i ≤ j → j < length places → get_or places i 0 ≤ get_or places j 0
further [] i j up le inside = absurd (omega (arith, inside))
further (p ∷ places) zero zero up le inside = omega arith
further (p ∷ places) zero (suc j) up le inside = least (get_or places j 0) p places up (suc j, inside, get_or_default places j (get_or places j 0) 0 (omega (arith, inside)))
further (p ∷ places) (suc i) zero up le inside = absurd (omega (arith, le))
further (p ∷ places) (suc i) (suc j) up le inside = further places i j (rest_up p places up) (omega (arith, le)) (omega (arith, inside))

-- ---- the lines

pub start_at : (log : List Step) (p : ℕ) (ng : List Choice) → p < length log → step_at log p ≡ Start ng → (length (starts_of (take p log)) < length (starts_of log)) × (get_or (starts_of log) (length (starts_of (take p log))) [] ≡ ng)
start_at [] p ng inside e = absurd (omega (arith, inside))
start_at (Start n ∷ log) zero ng inside e = let same : n ≡ ng = cc in (omega arith, same)
start_at (Derived n hints ∷ log) zero ng inside e = absurd (cc)
start_at (Start n ∷ log) (suc p) ng inside e = let rest = start_at log p ng (omega (arith, inside)) e in (omega (arith, rest.0), rest.1)
start_at (Derived n hints ∷ log) (suc p) ng inside e = start_at log p ng (omega (arith, inside)) e

-- the cut of a start
cut_of_start : (a : Instance) (drawn : List (List Side)) (d : Part) (p : ℕ) (ng : List Choice) → IsTrueToBest a drawn d → p < length d.log → step_at d.log p ≡ Start ng → Contains d.absorbed (cut_at d.absorbed d.log p) × (cuts.no_good_of (cut_at d.absorbed d.log p) ≡ ng)
cut_of_start a drawn d p ng h inside e =
    let found = start_at d.log p ng inside e in
    let n = length (starts_of (take p d.log)) in
    let size : length (starts_of d.log) ≡ length d.absorbed = ap length h.starts ∙ length-map d.absorbed cuts.no_good_of in
    let within : n < length d.absorbed = omega (arith, found.0, size) in
    let read : cuts.no_good_of (cut_at d.absorbed d.log p) ≡ get_or (map cuts.no_good_of d.absorbed) n [] = sym (get_or-map cuts.no_good_of d.absorbed n (cut.Ray [] [])) in
    ((n, within, get_or_default d.absorbed n (cut_at d.absorbed d.log p) (cut.Ray [] []) within), read ∙ ap (λ l. get_or l n []) (sym h.starts) ∙ found.1)

line_cut_no_good : (c : Cut) → certs.no_good_of (line_of_cut c) ≡ cuts.no_good_of c
line_cut_no_good (cut.Ray ng mult) = refl
line_cut_no_good (cut.Point ng mult e v) = refl

line_cut_backed : (a : Instance) (d : Part) (earlier : List (List Choice)) (c : Cut) → Contains d.absorbed c → IsBackedLine a d earlier (line_of_cut c)
line_cut_backed a d earlier (cut.Ray ng mult) c = c
line_cut_backed a d earlier (cut.Point ng mult e v) c = (v, c)

no_good_at : (log : List Step) (p : ℕ) → get_or (no_goods log) p [] ≡ no_good_of (step_at log p)
no_good_at log p = get_or-map no_good_of log p (Start [])

by_step : (a : Instance) (drawn : List (List Side)) (d : Part) (places : List ℕ) (p : ℕ) (s : Step) → IsTrueToBest a drawn d → p < length d.log → step_at d.log p ≡ s → certs.no_good_of (line_of (cut_at d.absorbed d.log p) places s) ≡ no_good_of s
by_step a drawn d places p (Start ng) h inside e = line_cut_no_good (cut_at d.absorbed d.log p) ∙ (cut_of_start a drawn d p ng h inside e).1
by_step a drawn d places p (Derived ng hints) h inside e = refl

-- a line has the no-good of its step
line_no_good : (a : Instance) (drawn : List (List Side)) (d : Part) (places : List ℕ) (p : ℕ) → IsTrueToBest a drawn d → p < length d.log → certs.no_good_of (line_at d.absorbed d.log places p) ≡ get_or (no_goods d.log) p []
line_no_good a drawn d places p h inside = by_step a drawn d places p (step_at d.log p) h inside refl ∙ sym (no_good_at d.log p)

-- ---- a kept step

first_inside : (log : List Step) (e : ℕ) → IsFirstEmpty log e → e < length log
first_inside log e x = omega (arith, slice_get_within (no_goods log) e [] x.empty, length-map log no_good_of)

kept_inside : (a : Instance) (drawn : List (List Side)) (d : Part) (lines : List CertLine) (t : AreTrimmedLines d.absorbed d.log lines) (p : ℕ) → IsTrueToBest a drawn d → Contains t.places p → (p ≤ t.kept.first) × (p < length d.log)
kept_inside a drawn d lines t p h c =
    let inside = first_inside d.log t.kept.first t.kept.empty in
    let path = (t.kept.reached p).0 c in
    let le = path_below d.log t.kept.first path.0 p h.log inside path.1 in
    (le, omega (arith, le, inside))

lines_before : (d : Part) (places : List ℕ) (k j : ℕ) → k ≤ length places → j < k → (j < length (map certs.no_good_of (take k (map (line_at d.absorbed d.log places) places)))) × (get_or (map certs.no_good_of (take k (map (line_at d.absorbed d.log places) places))) j [] ≡ certs.no_good_of (line_at d.absorbed d.log places (get_or places j 0)))
lines_before d places k j few below =
    let lines = map (line_at d.absorbed d.log places) places in
    let size : length lines ≡ length places = length-map places (line_at d.absorbed d.log places) in
    let taken : length (take k lines) ≡ k = length-take-le k lines (omega (arith, few, size)) in
    let all : length (map certs.no_good_of (take k lines)) ≡ k = length-map (take k lines) certs.no_good_of ∙ taken in
    let none : CertLine = line.Derived [] [] in
    let one : get_or (map certs.no_good_of (take k lines)) j [] ≡ certs.no_good_of (get_or (take k lines) j none) = get_or-map certs.no_good_of (take k lines) j none in
    let two : get_or (take k lines) j none ≡ get_or lines j none = get_or-take k lines j none below in
    let three : get_or lines j none ≡ get_or lines j (line_at d.absorbed d.log places 0) = get_or_default lines j none (line_at d.absorbed d.log places 0) (omega (arith, few, size, below)) in
    (omega (arith, all, below), one ∙ ap certs.no_good_of (two ∙ three ∙ get_or-map (line_at d.absorbed d.log places) places j 0))

hint_moves : (a : Instance) (drawn : List (List Side)) (d : Part) (lines : List CertLine) (t : AreTrimmedLines d.absorbed d.log lines) (k p h : ℕ) → IsTrueToBest a drawn d → k < length t.places → get_or t.places k 0 ≡ p → p < length d.log → Contains (hints_of (step_at d.log p)) h → h < length (no_goods (take p d.log)) → Moves (no_goods (take p d.log)) (map certs.no_good_of (take k (map (line_at d.absorbed d.log t.places) t.places))) (place_of t.places) h
hint_moves a drawn d lines t k p h truth inside is within c low =
    let P : ℕ → Type 0 = λ m. Contains t.places m in
    let kept : P p = subst P is (Contains-get_or t.places k 0 inside) in
    let path = (t.kept.reached p).0 kept in
    let reached : Contains t.places h = (t.kept.reached h).1 (path.0 ++ h ∷ [], path_more d.log t.kept.first path.0 p h path.1 c) in
    let below = hint_below d.log p h truth.log within c in
    let found = place_found t.places h reached in
    let early = before_place t.places (place_of t.places h) k t.kept.ascending found.0 (omega (arith, found.1, is, below)) in
    let there_is = lines_before d t.places k (place_of t.places h) (omega (arith, inside)) early in
    let read : get_or (no_goods (take p d.log)) h [] ≡ get_or (no_goods d.log) h [] = ap (λ l. get_or l h []) (sym (take-map no_good_of p d.log)) ∙ get_or-take p (no_goods d.log) h [] below in
    (there_is.0, there_is.1 ∙ ap (λ m. certs.no_good_of (line_at d.absorbed d.log t.places m)) found.1 ∙ line_no_good a drawn d t.places h truth (omega (arith, below, within)) ∙ sym read)

all_move : (earlier out : List (List Choice)) (f : ℕ → ℕ) (all hints : List ℕ) → ((h : ℕ) → Contains all h → h < length earlier → Moves earlier out f h) → ((h : ℕ) → Contains hints h → Contains all h) → AllByRecursion (λ h. h < length earlier) hints → AllByRecursion (Moves earlier out f) hints
all_move earlier out f all [] moves within low = tt
all_move earlier out f all (h ∷ hints) moves within low =
    (moves h (within h (here h hints)) low.0, all_move earlier out f all hints moves (λ g c. within g (there h hints g c)) low.1)

kept_backed : (a : Instance) (drawn : List (List Side)) (d : Part) (lines : List CertLine) (t : AreTrimmedLines d.absorbed d.log lines) (k p : ℕ) (s : Step) → IsTrueToBest a drawn d → k < length t.places → get_or t.places k 0 ≡ p → p < length d.log → step_at d.log p ≡ s → IsBackedLine a d (map certs.no_good_of (take k (map (line_at d.absorbed d.log t.places) t.places))) (line_of (cut_at d.absorbed d.log p) t.places s)
kept_backed a drawn d lines t k p (Start ng) truth inside is within e =
    line_cut_backed a d (map certs.no_good_of (take k (map (line_at d.absorbed d.log t.places) t.places))) (cut_at d.absorbed d.log p) (cut_of_start a drawn d p ng truth within e).0
kept_backed a drawn d lines t k p (Derived ng hints) truth inside is within e =
    let out = map certs.no_good_of (take k (map (line_at d.absorbed d.log t.places) t.places)) in
    let follows : closes (no_goods (take p d.log)) ng hints ≡ true = truth.log p (Derived ng hints) (slice_get-get_or d.log p (Start []) within ∙ ap (λ x. Some x) e) in
    let P : Step → Type 0 = λ x. (h : ℕ) → Contains (hints_of x) h → h < length (no_goods (take p d.log)) → Moves (no_goods (take p d.log)) out (place_of t.places) h in
    let moves : P (Derived ng hints) = subst P e (λ h c low. hint_moves a drawn d lines t k p h truth inside is within c low) in
    let named : NamesPairs a ng = subst (NamesPairs a) (no_good_at d.log p ∙ ap no_good_of e) (All-get_or (NamesPairs a) (no_goods d.log) p [] (omega (arith, within, length-map d.log no_good_of)) truth.named) in
    (named, renumbered (no_goods (take p d.log)) out (place_of t.places) hints ng (all_move (no_goods (take p d.log)) out (place_of t.places) hints hints moves (λ h c. c) (hints_below (no_goods (take p d.log)) ng hints follows)) follows)

each_backed : (a : Instance) (drawn : List (List Side)) (d : Part) (lines : List CertLine) (t : AreTrimmedLines d.absorbed d.log lines) (k : ℕ) (l : CertLine) → IsTrueToBest a drawn d → slice_get (map (line_at d.absorbed d.log t.places) t.places) k ≡ Some l → IsBackedLine a d (map certs.no_good_of (take k (map (line_at d.absorbed d.log t.places) t.places))) l
each_backed a drawn d lines t k l truth found =
    let made = map (line_at d.absorbed d.log t.places) t.places in
    let inside : k < length t.places = omega (arith, slice_get_within made k l found, length-map t.places (line_at d.absorbed d.log t.places)) in
    let p = get_or t.places k 0 in
    let kept = kept_inside a drawn d lines t p truth (Contains-get_or t.places k 0 inside) in
    let read : line_at d.absorbed d.log t.places p ≡ l = sym (get_or-map (line_at d.absorbed d.log t.places) t.places k 0) ∙ get_or_default made k (line_at d.absorbed d.log t.places 0) l (slice_get_within made k l found) ∙ get_or_from_slice_get made k l l found in
    subst (IsBackedLine a d (map certs.no_good_of (take k made))) read (kept_backed a drawn d lines t k p (step_at d.log p) truth inside refl kept.1 refl)

-- the last kept step is the empty one
last_empty : (a : Instance) (drawn : List (List Side)) (d : Part) (lines : List CertLine) (t : AreTrimmedLines d.absorbed d.log lines) → IsTrueToBest a drawn d → EndsEmpty (map (line_at d.absorbed d.log t.places) t.places)
last_empty a drawn d lines t truth =
    let made = map (line_at d.absorbed d.log t.places) t.places in
    let first : Contains t.places t.kept.first = (t.kept.reached t.kept.first).1 ([], refl) in
    let size : length made ≡ length t.places = length-map t.places (line_at d.absorbed d.log t.places) in
    let some : 0 < length t.places = omega (arith, first.1) in
    let last = length made - 1 in
    let inside : last < length t.places = omega (arith, size, some) in
    let at_first : get_or t.places first.0 0 ≡ t.kept.first = get_or_default t.places first.0 0 t.kept.first first.1 ∙ first.2 in
    let le = (kept_inside a drawn d lines t (get_or t.places last 0) truth (Contains-get_or t.places last 0 inside)).0 in
    let ge = further t.places first.0 last t.kept.ascending (omega (arith, first.1, size)) inside in
    let same : get_or t.places last 0 ≡ t.kept.first = omega (arith, le, ge, at_first) in
    let none : CertLine = line.Derived [] [] in
    let within : last < length (map certs.no_good_of made) = omega (arith, inside, size, length-map made certs.no_good_of) in
    let read : get_or (map certs.no_good_of made) last [] ≡ certs.no_good_of (line_at d.absorbed d.log t.places (get_or t.places last 0)) =
    get_or-map certs.no_good_of made last none ∙ ap certs.no_good_of (get_or_default made last none (line_at d.absorbed d.log t.places 0) (omega (arith, inside, size)) ∙ get_or-map (line_at d.absorbed d.log t.places) t.places last 0) in
    let empty : certs.no_good_of (line_at d.absorbed d.log t.places t.kept.first) ≡ [] =
    line_no_good a drawn d t.places t.kept.first truth (first_inside d.log t.kept.first t.kept.empty) ∙ get_or_from_slice_get (no_goods d.log) t.kept.first [] [] t.kept.empty.empty in
    slice_get-get_or (map certs.no_good_of made) last [] within ∙ ap (λ x. Some x) (read ∙ ap (λ m. certs.no_good_of (line_at d.absorbed d.log t.places m)) same ∙ empty)

pub trimmed_backed : (a : Instance) (drawn : List (List Side)) (d : Part) (lines : List CertLine) → IsTrueToBest a drawn d → AreTrimmedLines d.absorbed d.log lines → AreBacked a d lines
trimmed_backed a drawn d lines truth t =
    let P : List CertLine → Type 0 = λ l. AreBacked a d l in
    subst P (sym t.made) (record { each = λ k l found. each_backed a drawn d lines t k l truth found; ends = last_empty a drawn d lines t truth })

pub cert_backed : (a : Instance) (drawn : List (List Side)) (d : Part) (v : VerdictKind) (c : Cert) → IsTrueToBest a drawn d → IsCertOf d v c → IsBackedCert a d v c
cert_backed a drawn d kind.Optimal (cert.Optimal p z l) h x = (x.0, x.1, x.2, x.3, trimmed_backed a drawn d l h x.4)
cert_backed a drawn d kind.Optimal (cert.Infeasible l) h x = x
cert_backed a drawn d kind.Optimal (cert.Unbounded s p r) h x = x
cert_backed a drawn d kind.Infeasible (cert.Optimal p z l) h x = x
cert_backed a drawn d kind.Infeasible (cert.Infeasible l) h x = (x.0, trimmed_backed a drawn d l h x.1)
cert_backed a drawn d kind.Infeasible (cert.Unbounded s p r) h x = x
cert_backed a drawn d kind.Unbounded (cert.Optimal p z l) h x = x
cert_backed a drawn d kind.Unbounded (cert.Infeasible l) h x = x
cert_backed a drawn d kind.Unbounded (cert.Unbounded s p r) h x = x
