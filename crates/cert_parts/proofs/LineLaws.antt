-- The lines of a log, as they are made.
use Rattle.std.proofs.Common.{inl, inr, ℕ, zero, suc, ◌+◌, ◌-◌, ◌^◌, ◌<◌, ◌≤◌, ◌≡◌, refl, sym, ap, ◌∙◌, subst, arith, Bool, true, false, List, [], ◌∷◌, ◌++◌, length, get_or, map, take}
use Rattle.std.specs.Prelude.{All, Any, Contains, Result, Ok, Err, IfOk, OnOk, slice_get, ℤ, if◌then◌else◌, nat_eq, unsigned_abs}
use Rattle.std.proofs.lemmas.List.{get_or_default, length-map, take_more, append-nil}
use Rattle.std.proofs.lemmas.List.Elements.{All-get_or, All-push, All-weaker, Contains-get_or}
use Rattle.std.proofs.Math.ListN.{get_or-map}
use Rattle.nogoods.specs.declared.choice.Choice.{Choice}
use Rattle.nogoods.specs.declared.choice.Side.{Side}
use Rattle.nogoods.specs.declared.choice.Side.TheVariants.{A}
use Rattle.lpcc_case.specs.Instance.{Instance}
use Rattle.lpcc_case.specs.Pieces.{NamesPairs}
use Rattle.cuts.specs.declared.cut.Cut.{Cut}
use Rattle.cuts.specs.declared.cut.Cut.TheVariants as cut_of
use Rattle.cuts.specs.Cuts as cuts
use Rattle.cuts.specs.Cuts.{Passes}
use Rattle.lpcc_case.specs.Cases.{IsCase}
use Rattle.derivation.specs.declared.step.Step.{Step}
use Rattle.derivation.specs.declared.step.Step.TheVariants.{Start, Derived}
use Rattle.derivation.specs.Logs.{IsLog, no_good_of, no_goods}
use Rattle.trimming.specs.Trimmed.{AreReached, IsTrimmed, hints_of, kept_steps, place_of, step_at, with_hints}
use Rattle.trimming.proofs.KeepLaws.{kept_inside}
use Rattle.trimming.proofs.RenumberLaws.{step_hints_below}
use Rattle.cert_text.specs.declared.cert.CertLine.{CertLine}
use Rattle.cert_text.specs.Certs.{IsLine}
use Rattle.cert_parts.specs.Lines.{AreTrimmedLines, cut_at, line_at, line_of, starts_of}
use Rattle.cert_parts.specs.Making.{AreCounted, AreReady, line_by}
use Rattle.cert_parts.proofs.Lists.{map_both}
use Rattle.cert_parts.proofs.StepLaws.{reached_same, start_at, starts_derived, starts_start}

-- ---- counting starts

pub starts_few : (log : List Step) → length (starts_of log) ≤ length log
starts_few [] = omega arith
starts_few (Start ng ∷ log) = omega (arith, starts_few log)
starts_few (Derived ng hints ∷ log) = omega (arith, starts_few log)

starts_push : (log : List Step) (s : Step) → length (starts_of (log ++ s ∷ [])) ≡ length (starts_of log) + length (starts_of (s ∷ []))
starts_push log (Start ng) = ap length (starts_start log ng) ∙ Rattle.std.proofs.lemmas.List.length-append (starts_of log) (ng ∷ [])
starts_push log (Derived ng hints) =
    let none : length (starts_of log) ≡ length (starts_of log) + 0 = omega arith in
    ap length (starts_derived log ng hints) ∙ none

pub counts_begin : (log : List Step) (made : List ℕ) → made ≡ 0 ∷ [] → AreCounted log (0 + 1) made
counts_begin log made is =
    let P : List ℕ → Type 0 = λ l. AreCounted log (0 + 1) l in
    subst P (sym is) (record { size = refl; counts = λ k below. at_zero k below })
  where
    at_zero : (k : ℕ) → k < 0 + 1 → get_or (0 ∷ []) k 0 ≡ length (starts_of (take k log))
    at_zero zero below = refl
    at_zero (suc k) below = absurd (omega (arith, below))

-- the count of a step is that before it, with the step
pub count_is : (log : List Step) (at : ℕ) (made : List ℕ) → at < length log → AreCounted log (at + 1) made → get_or made at 0 < length log
count_is log at made inside h =
    let few = starts_few (take at log) in
    let size : length (take at log) ≡ at = Rattle.std.proofs.lemmas.List.length-take-le at log (omega (arith, inside)) in
    omega (arith, h.counts at (omega arith), few, size, inside)

pub count_read : (log : List Step) (at v : ℕ) (made : List ℕ) → AreCounted log (at + 1) made → v ≡ get_or made at v → v ≡ get_or made at 0
count_read log at v made h read = read ∙ get_or_default made at v 0 (omega (arith, h.size))

pub counts_next : (log : List Step) (at : ℕ) (x : Step) (count : ℕ) (made new : List ℕ) → at < length log → x ≡ get_or log at x → count ≡ get_or made at 0 + length (starts_of (x ∷ [])) → AreCounted log (at + 1) made → new ≡ made ++ count ∷ [] → AreCounted log (at + 1 + 1) new
counts_next log at x count made new inside read is h added =
    let P : List ℕ → Type 0 = λ l. AreCounted log (at + 1 + 1) l in
    let total : count ≡ length (starts_of (take (at + 1) log)) =
    is ∙ ap (λ n. n + length (starts_of (x ∷ []))) (h.counts at (omega arith)) ∙ sym (starts_push (take at log) x)
    ∙ ap (λ l. length (starts_of l)) (ap (λ y. take at log ++ y ∷ []) read ∙ sym (take_more log at x inside)) in
    subst P (sym added) (record {
      size = Rattle.std.proofs.lemmas.List.length-append made (count ∷ []) ∙ ap (λ n. n + 1) h.size;
      counts = λ k below. each k below total;
    })
  where
    each : (k : ℕ) → k < at + 1 + 1 → count ≡ length (starts_of (take (at + 1) log)) → get_or (made ++ count ∷ []) k 0 ≡ length (starts_of (take k log))
    each k below total = elim (Rattle.std.proofs.lemmas.Bool.cases_lt k (at + 1)) [
      | inl before ↦ Rattle.std.proofs.Math.ListN.get_or-append made (count ∷ []) 0 k (omega (arith, before, h.size)) ∙ h.counts k before
      | inr past ↦
          let last : k ≡ at + 1 = omega (arith, past, below) in
          let P : ℕ → Type 0 = λ i. get_or (made ++ count ∷ []) i 0 ≡ length (starts_of (take i log)) in
          subst P (sym last) (Rattle.std.proofs.lemmas.List.get_or_push made count 0 (at + 1) h.size ∙ total)
    ]

-- ---- the line of a place

line_same : (c : Cut) (places : List ℕ) (s : Step) → line_by c (with_hints (place_of places) s) ≡ line_of c places s
line_same c places (Start ng) = refl
line_same c places (Derived ng hints) = refl

start_of_hinted : (f : ℕ → ℕ) (s : Step) (ng : List Choice) → with_hints f s ≡ Start ng → s ≡ Start ng
start_of_hinted f (Start n) ng e = e
start_of_hinted f (Derived n hints) ng e = absurd (cc)

no_good_hinted : (f : ℕ → ℕ) (s : Step) → no_good_of (with_hints f s) ≡ no_good_of s
no_good_hinted f (Start n) = refl
no_good_hinted f (Derived n hints) = refl

place_inside : (a : Instance) (known : List Cut) (log : List Step) (places : List ℕ) (trimmed : List Step) (numbers : List ℕ) (at : ℕ) → AreReady a known log places trimmed numbers → at < length places → get_or places at 0 < length log
place_inside a known log places trimmed numbers at r within = kept_inside log places (get_or places at 0) r.reached r.is_log (Contains-get_or places at 0 within)

pub number_inside : (a : Instance) (known : List Cut) (log : List Step) (places : List ℕ) (trimmed : List Step) (numbers : List ℕ) (at : ℕ) → AreReady a known log places trimmed numbers → at < length places → get_or places at 0 < length numbers
number_inside a known log places trimmed numbers at r within = omega (arith, place_inside a known log places trimmed numbers at r within, r.counted.size)

pub trimmed_size : (a : Instance) (known : List Cut) (log : List Step) (places : List ℕ) (trimmed : List Step) (numbers : List ℕ) → AreReady a known log places trimmed numbers → length trimmed ≡ length places
trimmed_size a known log places trimmed numbers r = ap length r.trimmed_is ∙ length-map places (λ k. with_hints (place_of places) (step_at log k))

-- the step of the trimmed log at a place, as the code reads it
step_is : (a : Instance) (known : List Cut) (log : List Step) (places : List ℕ) (trimmed : List Step) (numbers : List ℕ) (at : ℕ) (steps : List Step) (x : Step) → AreReady a known log places trimmed numbers → at < length places → steps ≡ trimmed → x ≡ get_or steps at x → x ≡ with_hints (place_of places) (step_at log (get_or places at 0))
step_is a known log places trimmed numbers at steps x r within same read =
    let f : ℕ → Step = λ k. with_hints (place_of places) (step_at log k) in
    let size : length (map f places) ≡ length places = length-map places f in
    read ∙ ap (λ l. get_or l at x) (same ∙ r.trimmed_is) ∙ get_or_default (map f places) at x (f 0) (omega (arith, size, within)) ∙ get_or-map f places at 0

pub step_within : (a : Instance) (known : List Cut) (log : List Step) (places : List ℕ) (trimmed : List Step) (numbers : List ℕ) (at : ℕ) (steps : List Step) (x : Step) (number : ℕ) → AreReady a known log places trimmed numbers → at < length places → steps ≡ trimmed → x ≡ get_or steps at x → number ≡ get_or numbers (get_or places at 0) 0 → (ng : List Choice) → x ≡ Start ng → number < length known
step_within a known log places trimmed numbers at steps x number r within same read is ng start =
    let p = get_or places at 0 in
    let inside = place_inside a known log places trimmed numbers at r within in
    let origin : step_at log p ≡ Start ng = start_of_hinted (place_of places) (step_at log p) ng (sym (step_is a known log places trimmed numbers at steps x r within same read) ∙ start) in
    let found = start_at log p ng inside origin in
    let size : length (starts_of log) ≡ length known = ap length r.starts ∙ length-map known cuts.no_good_of in
    omega (arith, is, r.counted.counts p (omega (arith, inside)), found.0, size)

pub step_named : (a : Instance) (known : List Cut) (log : List Step) (places : List ℕ) (trimmed : List Step) (numbers : List ℕ) (at : ℕ) (steps : List Step) (x : Step) → AreReady a known log places trimmed numbers → at < length places → steps ≡ trimmed → x ≡ get_or steps at x → NamesPairs a (no_good_of x)
step_named a known log places trimmed numbers at steps x r within same read =
    let p = get_or places at 0 in
    let inside = place_inside a known log places trimmed numbers at r within in
    let here_it : NamesPairs a (get_or (no_goods log) p []) = All-get_or (NamesPairs a) (no_goods log) p [] (omega (arith, inside, length-map log no_good_of)) r.named in
    let is : get_or (no_goods log) p [] ≡ no_good_of x = get_or-map no_good_of log p (Start []) ∙ sym (no_good_hinted (place_of places) (step_at log p)) ∙ ap no_good_of (sym (step_is a known log places trimmed numbers at steps x r within same read)) in
    subst (NamesPairs a) is here_it

pub step_low : (a : Instance) (known : List Cut) (log : List Step) (places : List ℕ) (trimmed : List Step) (numbers : List ℕ) (at : ℕ) (steps : List Step) (x : Step) → AreReady a known log places trimmed numbers → at < length places → at < 2 ^ 64 → steps ≡ trimmed → x ≡ get_or steps at x → All (λ h. h < 2 ^ 64 - 1) (hints_of x)
step_low a known log places trimmed numbers at steps x r within fits same read =
    let inside : at < length trimmed = omega (arith, trimmed_size a known log places trimmed numbers r, within) in
    let is : step_at trimmed at ≡ x = get_or_default trimmed at (Start []) x inside ∙ ap (λ l. get_or l at x) (sym same) ∙ sym read in
    let below = step_hints_below trimmed at r.trimmed_log inside in
    let P : Step → Type 0 = λ s. All (λ h. h < 2 ^ 64 - 1) (hints_of s) in
    subst P is (All-weaker (λ h. h < at) (λ h. h < 2 ^ 64 - 1) (λ h less. omega (arith, less, fits)) (hints_of (step_at trimmed at)) below)

pub line_result : {E : Type 0} (r : Result CertLine E) (a : Instance) (known : List Cut) (log : List Step) (places : List ℕ) (trimmed : List Step) (numbers : List ℕ) (at : ℕ) (steps : List Step) (x : Step) (number : ℕ) → AreReady a known log places trimmed numbers → at < length places → steps ≡ trimmed → x ≡ get_or steps at x → number ≡ get_or numbers (get_or places at 0) 0 → IfOk r (λ l. l ≡ line_by (get_or known number (cut_of.Ray [] [])) x) → IfOk r (λ l. l ≡ line_at known log places (get_or places at 0))
line_result (Ok l) a known log places trimmed numbers at steps x number r within same read is made =
    let p = get_or places at 0 in
    let inside = place_inside a known log places trimmed numbers at r within in
    let count : number ≡ length (starts_of (take p log)) = is ∙ r.counted.counts p (omega (arith, inside)) in
    made ∙ ap (λ n. line_by (get_or known n (cut_of.Ray [] [])) x) count
    ∙ ap (λ s. line_by (cut_at known log p) s) (step_is a known log places trimmed numbers at steps x r within same read)
    ∙ line_same (cut_at known log p) places (step_at log p)
line_result (Err x1) a known log places trimmed numbers at steps x number r within same read is made = made

pub lines_next : (f : ℕ → CertLine) (places : List ℕ) (at : ℕ) (l : CertLine) (made new : List CertLine) → at < length places → l ≡ f (get_or places at 0) → made ≡ map f (take at places) → new ≡ made ++ l ∷ [] → new ≡ map f (take (at + 1) places)
lines_next f places at l made new within is so_far added =
    added ∙ ap (λ m. m ++ l ∷ []) so_far ∙ ap (λ y. map f (take at places) ++ y ∷ []) is
    ∙ sym (map_both f (take at places) (get_or places at 0 ∷ [])) ∙ ap (λ m. map f m) (sym (take_more places at 0 within))

pub forms_next : (l : CertLine) (made new : List CertLine) → IsLine l → All IsLine made → new ≡ made ++ l ∷ [] → All IsLine new
forms_next l made new here_it so_far added = subst (All IsLine) (sym added) (All-push IsLine made l so_far here_it)

-- ---- all lines

pub trimmed_by : (log made : List Step) (places : List ℕ) → AreReached log places → IsTrimmed log made → made ≡ kept_steps log places places
trimmed_by log made places reached t =
    let same = reached_same log t.places places t.are reached in
    t.made_of ∙ ap (λ l. kept_steps log l l) same

pub lines_made : {E : Type 0} (r : Result (List CertLine) E) (known : List Cut) (log : List Step) (places : List ℕ) → AreReached log places → IfOk r (λ made. made ≡ map (line_at known log places) places) → IfOk r (AreTrimmedLines known log)
lines_made (Ok made) known log places reached is = record { places = places; kept = reached; made = is }
lines_made (Err x) known log places reached is = is

-- all that the lines are made of, as the code has it
pub ready_is : (a : Instance) (known : List Cut) (log : List Step) (places slice : List ℕ) (trimmed steps : List Step) (numbers items : List ℕ) → IsCase a → All (Passes a) known → starts_of log ≡ map cuts.no_good_of known → All (NamesPairs a) (no_goods log) → AreReached log places → slice ≡ places → IsTrimmed log trimmed → steps ≡ log → IsLog log → IsLog trimmed → numbers ≡ items → AreCounted steps (length steps + 1) items → AreReady a known log slice trimmed numbers
ready_is a known log places slice trimmed steps numbers items is_case passing starts named reached same t same_steps is_log trimmed_log same_numbers counted =
    let P : List ℕ → Type 0 = λ l. AreReached log l in
    let at_slice : AreReached log slice = subst P (sym same) reached in
    let Q : List Step → List ℕ → Type 0 = λ l n. AreCounted l (length l + 1) n in
    record {
      is_case = is_case;
      passing = passing;
      starts = starts;
      named = named;
      is_log = is_log;
      reached = at_slice;
      trimmed_is = trimmed_by log trimmed slice at_slice t;
      trimmed_log = trimmed_log;
      counted = subst (λ n. Q log n) (sym same_numbers) (subst (λ l. Q l items) same_steps counted);
    }

pub reached_by : (log : List Step) (places slice : List ℕ) → AreReached log places → slice ≡ places → AreReached log slice
reached_by log places slice reached same = subst (λ l. AreReached log l) (sym same) reached
