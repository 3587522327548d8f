-- The lines of the steps that the first empty step reaches are backed.
use Rattle.std.proofs.Common.{ℕ, ◌-◌, ◌<◌, ◌≤◌, ◌≡◌, refl, sym, ap, ◌∙◌, subst, arith, true, List, [], ◌∷◌, ◌++◌, length, get_or, map, take, Option, Some}
use Rattle.std.specs.Prelude.{Contains, slice_get}
use Rattle.std.specs.List.{AllByRecursion}
use Rattle.std.proofs.lemmas.List.{length-map, take-map, get_or-take, get_or_default, length-take-le}
use Rattle.std.proofs.lemmas.List.Elements.{All-contains, All-get_or, Contains-get_or}
use Rattle.std.proofs.lemmas.Option.{slice_get-get_or, slice_get_within, get_or_from_slice_get}
use Rattle.std.proofs.Math.ListN.{get_or-map}
use Rattle.nogoods.specs.declared.choice.Choice.{Choice}
use Rattle.lpcc_case.specs.Instance.{Instance}
use Rattle.lpcc_case.specs.Pieces.{NamesPairs}
use Rattle.lpcc_case.specs.declared.point.Point.{Point}
use Rattle.cuts.specs.declared.cut.Cut.{Cut}
use Rattle.cuts.specs.declared.cut.Cut.TheVariants as cut
use Rattle.cuts.specs.Cuts as cuts
use Rattle.derivation.specs.declared.step.Step.{Step}
use Rattle.derivation.specs.declared.step.Step.TheVariants.{Start, Derived}
use Rattle.derivation.specs.HintRuns.{closes}
use Rattle.derivation.specs.Logs.{no_goods, no_good_of}
use Rattle.trimming.specs.Marks.{Moves}
use Rattle.trimming.specs.Trimmed.{IsFirstEmpty, hints_of, place_of, step_at}
use Rattle.trimming.proofs.PathLaws.{before_place, hint_below, path_below, path_more, place_found}
use Rattle.trimming.proofs.RenumberLaws.{renumbered, hints_below}
use Rattle.cert_text.specs.declared.cert.CertLine.{CertLine}
use Rattle.cert_text.specs.declared.cert.CertLine.TheVariants as line
use Rattle.cert_text.specs.Certs as certs
use Rattle.cert_check.specs.Acceptance.{EndsEmpty}
use Rattle.cert_parts.specs.Lines.{line_of_cut, cut_at, line_of, line_at, starts_of, AreTrimmedLines, IsBacked, AreBacked, IsSoundCut, IsSoundLog}
use Rattle.cert_parts.proofs.Lists.{further, here, there}
use Rattle.cert_parts.proofs.StepLaws.{start_at}

-- ---- the lines

-- the cut of a start
cut_of_start : (a : Instance) (best : Option Point) (known : List Cut) (log : List Step) (p : ℕ) (ng : List Choice) → IsSoundLog a best known log → p < length log → step_at log p ≡ Start ng → Contains known (cut_at known log p) × (cuts.no_good_of (cut_at known log p) ≡ ng)
cut_of_start a best known log p ng h inside e =
    let found = start_at log p ng inside e in
    let n = length (starts_of (take p log)) in
    let size : length (starts_of log) ≡ length known = ap length h.starts ∙ length-map known cuts.no_good_of in
    let within : n < length known = omega (arith, found.0, size) in
    let read : cuts.no_good_of (cut_at known log p) ≡ get_or (map cuts.no_good_of known) n [] = sym (get_or-map cuts.no_good_of known n (cut.Ray [] [])) in
    ((n, within, get_or_default known n (cut_at known log p) (cut.Ray [] []) within), read ∙ ap (λ l. get_or l n []) (sym h.starts) ∙ found.1)

line_cut_no_good : (c : Cut) → certs.no_good_of (line_of_cut c) ≡ cuts.no_good_of c
line_cut_no_good (cut.Ray ng mult) = refl
line_cut_no_good (cut.Point ng mult e v) = refl

line_cut_backed : (a : Instance) (best : Option Point) (earlier : List (List Choice)) (c : Cut) → IsSoundCut a best c → IsBacked a best earlier (line_of_cut c)
line_cut_backed a best earlier (cut.Ray ng mult) c = c
line_cut_backed a best earlier (cut.Point ng mult e v) c = (v, c)

no_good_at : (log : List Step) (p : ℕ) → get_or (no_goods log) p [] ≡ no_good_of (step_at log p)
no_good_at log p = get_or-map no_good_of log p (Start [])

by_step : (a : Instance) (best : Option Point) (known : List Cut) (log : List Step) (places : List ℕ) (p : ℕ) (s : Step) → IsSoundLog a best known log → p < length log → step_at log p ≡ s → certs.no_good_of (line_of (cut_at known log p) places s) ≡ no_good_of s
by_step a best known log places p (Start ng) h inside e = line_cut_no_good (cut_at known log p) ∙ (cut_of_start a best known log p ng h inside e).1
by_step a best known log places p (Derived ng hints) h inside e = refl

-- a line has the no-good of its step
line_no_good : (a : Instance) (best : Option Point) (known : List Cut) (log : List Step) (places : List ℕ) (p : ℕ) → IsSoundLog a best known log → p < length log → certs.no_good_of (line_at known log places p) ≡ get_or (no_goods log) p []
line_no_good a best known log places p h inside = by_step a best known log places p (step_at log p) h inside refl ∙ sym (no_good_at log p)

-- ---- a kept step

first_inside : (log : List Step) (e : ℕ) → IsFirstEmpty log e → e < length log
first_inside log e x = omega (arith, slice_get_within (no_goods log) e [] x.empty, length-map log no_good_of)

kept_inside : (a : Instance) (best : Option Point) (known : List Cut) (log : List Step) (lines : List CertLine) (t : AreTrimmedLines known log lines) (p : ℕ) → IsSoundLog a best known log → Contains t.places p → (p ≤ t.kept.first) × (p < length log)
kept_inside a best known log lines t p h c =
    let inside = first_inside log t.kept.first t.kept.empty in
    let path = (t.kept.reached p).0 c in
    let le = path_below log t.kept.first path.0 p h.is_log inside path.1 in
    (le, omega (arith, le, inside))

lines_before : (known : List Cut) (log : List Step) (places : List ℕ) (k j : ℕ) → k ≤ length places → j < k → (j < length (map certs.no_good_of (take k (map (line_at known log places) places)))) × (get_or (map certs.no_good_of (take k (map (line_at known log places) places))) j [] ≡ certs.no_good_of (line_at known log places (get_or places j 0)))
lines_before known log places k j few below =
    let lines = map (line_at known log places) places in
    let size : length lines ≡ length places = length-map places (line_at known log places) in
    let taken : length (take k lines) ≡ k = length-take-le k lines (omega (arith, few, size)) in
    let all : length (map certs.no_good_of (take k lines)) ≡ k = length-map (take k lines) certs.no_good_of ∙ taken in
    let none : CertLine = line.Derived [] [] in
    let one : get_or (map certs.no_good_of (take k lines)) j [] ≡ certs.no_good_of (get_or (take k lines) j none) = get_or-map certs.no_good_of (take k lines) j none in
    let two : get_or (take k lines) j none ≡ get_or lines j none = get_or-take k lines j none below in
    let three : get_or lines j none ≡ get_or lines j (line_at known log places 0) = get_or_default lines j none (line_at known log places 0) (omega (arith, few, size, below)) in
    (omega (arith, all, below), one ∙ ap certs.no_good_of (two ∙ three ∙ get_or-map (line_at known log places) places j 0))

hint_moves : (a : Instance) (best : Option Point) (known : List Cut) (log : List Step) (lines : List CertLine) (t : AreTrimmedLines known log lines) (k p h : ℕ) → IsSoundLog a best known log → k < length t.places → get_or t.places k 0 ≡ p → p < length log → Contains (hints_of (step_at log p)) h → h < length (no_goods (take p log)) → Moves (no_goods (take p log)) (map certs.no_good_of (take k (map (line_at known log t.places) t.places))) (place_of t.places) h
hint_moves a best known log lines t k p h truth inside is within c low =
    let P : ℕ → Type 0 = λ m. Contains t.places m in
    let kept : P p = subst P is (Contains-get_or t.places k 0 inside) in
    let path = (t.kept.reached p).0 kept in
    let reached : Contains t.places h = (t.kept.reached h).1 (path.0 ++ h ∷ [], path_more log t.kept.first path.0 p h path.1 c) in
    let below = hint_below log p h truth.is_log within c in
    let found = place_found t.places h reached in
    let early = before_place t.places (place_of t.places h) k t.kept.ascending found.0 (omega (arith, found.1, is, below)) in
    let there_is = lines_before known log t.places k (place_of t.places h) (omega (arith, inside)) early in
    let read : get_or (no_goods (take p log)) h [] ≡ get_or (no_goods log) h [] = ap (λ l. get_or l h []) (sym (take-map no_good_of p log)) ∙ get_or-take p (no_goods log) h [] below in
    (there_is.0, there_is.1 ∙ ap (λ m. certs.no_good_of (line_at known log t.places m)) found.1 ∙ line_no_good a best known log t.places h truth (omega (arith, below, within)) ∙ sym read)

all_move : (earlier out : List (List Choice)) (f : ℕ → ℕ) (all hints : List ℕ) → ((h : ℕ) → Contains all h → h < length earlier → Moves earlier out f h) → ((h : ℕ) → Contains hints h → Contains all h) → AllByRecursion (λ h. h < length earlier) hints → AllByRecursion (Moves earlier out f) hints
all_move earlier out f all [] moves within low = tt
all_move earlier out f all (h ∷ hints) moves within low =
    (moves h (within h (here h hints)) low.0, all_move earlier out f all hints moves (λ g c. within g (there h hints g c)) low.1)

kept_backed : (a : Instance) (best : Option Point) (known : List Cut) (log : List Step) (lines : List CertLine) (t : AreTrimmedLines known log lines) (k p : ℕ) (s : Step) → IsSoundLog a best known log → k < length t.places → get_or t.places k 0 ≡ p → p < length log → step_at log p ≡ s → IsBacked a best (map certs.no_good_of (take k (map (line_at known log t.places) t.places))) (line_of (cut_at known log p) t.places s)
kept_backed a best known log lines t k p (Start ng) truth inside is within e =
    line_cut_backed a best (map certs.no_good_of (take k (map (line_at known log t.places) t.places))) (cut_at known log p) (All-contains (IsSoundCut a best) known (cut_at known log p) truth.sound (cut_of_start a best known log p ng truth within e).0)
kept_backed a best known log lines t k p (Derived ng hints) truth inside is within e =
    let out = map certs.no_good_of (take k (map (line_at known log t.places) t.places)) in
    let follows : closes (no_goods (take p log)) ng hints ≡ true = truth.is_log p (Derived ng hints) (slice_get-get_or log p (Start []) within ∙ ap (λ x. Some x) e) in
    let P : Step → Type 0 = λ x. (h : ℕ) → Contains (hints_of x) h → h < length (no_goods (take p log)) → Moves (no_goods (take p log)) out (place_of t.places) h in
    let moves : P (Derived ng hints) = subst P e (λ h c low. hint_moves a best known log lines t k p h truth inside is within c low) in
    let named : NamesPairs a ng = subst (NamesPairs a) (no_good_at log p ∙ ap no_good_of e) (All-get_or (NamesPairs a) (no_goods log) p [] (omega (arith, within, length-map log no_good_of)) truth.named) in
    (named, renumbered (no_goods (take p log)) out (place_of t.places) hints ng (all_move (no_goods (take p log)) out (place_of t.places) hints hints moves (λ h c. c) (hints_below (no_goods (take p log)) ng hints follows)) follows)

each_backed : (a : Instance) (best : Option Point) (known : List Cut) (log : List Step) (lines : List CertLine) (t : AreTrimmedLines known log lines) (k : ℕ) (l : CertLine) → IsSoundLog a best known log → slice_get (map (line_at known log t.places) t.places) k ≡ Some l → IsBacked a best (map certs.no_good_of (take k (map (line_at known log t.places) t.places))) l
each_backed a best known log lines t k l truth found =
    let made = map (line_at known log t.places) t.places in
    let inside : k < length t.places = omega (arith, slice_get_within made k l found, length-map t.places (line_at known log t.places)) in
    let p = get_or t.places k 0 in
    let kept = kept_inside a best known log lines t p truth (Contains-get_or t.places k 0 inside) in
    let read : line_at known log t.places p ≡ l = sym (get_or-map (line_at known log t.places) t.places k 0) ∙ get_or_default made k (line_at known log t.places 0) l (slice_get_within made k l found) ∙ get_or_from_slice_get made k l l found in
    subst (IsBacked a best (map certs.no_good_of (take k made))) read (kept_backed a best known log lines t k p (step_at log p) truth inside refl kept.1 refl)

-- the last kept step is the empty one
last_empty : (a : Instance) (best : Option Point) (known : List Cut) (log : List Step) (lines : List CertLine) (t : AreTrimmedLines known log lines) → IsSoundLog a best known log → EndsEmpty (map (line_at known log t.places) t.places)
last_empty a best known log lines t truth =
    let made = map (line_at known log t.places) t.places in
    let first : Contains t.places t.kept.first = (t.kept.reached t.kept.first).1 ([], refl) in
    let size : length made ≡ length t.places = length-map t.places (line_at known log t.places) in
    let some : 0 < length t.places = omega (arith, first.1) in
    let last = length made - 1 in
    let inside : last < length t.places = omega (arith, size, some) in
    let at_first : get_or t.places first.0 0 ≡ t.kept.first = get_or_default t.places first.0 0 t.kept.first first.1 ∙ first.2 in
    let le = (kept_inside a best known log lines t (get_or t.places last 0) truth (Contains-get_or t.places last 0 inside)).0 in
    let ge = further t.places first.0 last t.kept.ascending (omega (arith, first.1, size)) inside in
    let same : get_or t.places last 0 ≡ t.kept.first = omega (arith, le, ge, at_first) in
    let none : CertLine = line.Derived [] [] in
    let within : last < length (map certs.no_good_of made) = omega (arith, inside, size, length-map made certs.no_good_of) in
    let read : get_or (map certs.no_good_of made) last [] ≡ certs.no_good_of (line_at known log t.places (get_or t.places last 0)) =
    get_or-map certs.no_good_of made last none ∙ ap certs.no_good_of (get_or_default made last none (line_at known log t.places 0) (omega (arith, inside, size)) ∙ get_or-map (line_at known log t.places) t.places last 0) in
    let empty : certs.no_good_of (line_at known log t.places t.kept.first) ≡ [] =
    line_no_good a best known log t.places t.kept.first truth (first_inside log t.kept.first t.kept.empty) ∙ get_or_from_slice_get (no_goods log) t.kept.first [] [] t.kept.empty.empty in
    slice_get-get_or (map certs.no_good_of made) last [] within ∙ ap (λ x. Some x) (read ∙ ap (λ m. certs.no_good_of (line_at known log t.places m)) same ∙ empty)

pub trimmed_backed : (a : Instance) (best : Option Point) (known : List Cut) (log : List Step) (lines : List CertLine) → IsSoundLog a best known log → AreTrimmedLines known log lines → AreBacked a best lines
trimmed_backed a best known log lines truth t =
    let P : List CertLine → Type 0 = λ l. AreBacked a best l in
    subst P (sym t.made) (record { each = λ k l found. each_backed a best known log lines t k l truth found; ends = last_empty a best known log lines t truth })
