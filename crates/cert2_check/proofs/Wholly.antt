-- Where a certificate of form 2 is accepted, that of form 1 which says the same is.
use Rattle.std.proofs.Common.{◌≡◌, ℕ, zero, suc, ◌+◌, ◌-◌, ◌<◌, List, [], ◌∷◌, ◌++◌, length, map, take, get_or, Option, Some, None, refl, sym, ap, subst, ◌∙◌, append_assoc, ◌⊎◌, inl, inr, arith, ℤ}
use Rattle.std.specs.Prelude.{slice_get}
use Rattle.std.proofs.lemmas.Bool.{cases_lt}
use Rattle.std.proofs.lemmas.List.{append-nil, length-map}
use Rattle.std.proofs.lemmas.Option.{slice_get-get_or, slice_get_within, get_or_from_slice_get}
use Rattle.nogoods.specs.declared.choice.Choice.{Choice}
use Rattle.lpcc_case.specs.Instance.{Instance}
use Rattle.lpcc_case.specs.Verdicts.{IsTrueOf}
use Rattle.lpcc_case.specs.declared.verdict.Verdict.{Verdict}
use Rattle.cert_text.specs.declared.cert.Cert.TheVariants as cert
use Rattle.cert_text.specs.declared.cert.CertLine.{CertLine}
use Rattle.cert_text.specs.declared.cert.CertLine.TheVariants as line
use Rattle.cert_text.specs.Certs.{no_good_of}
use Rattle.cert_check.specs.declared.accept.NoWhy.{NoWhy}
use Rattle.cert_check.specs.declared.accept.NoWhy.TheVariants.{ListFails, HintFails, NotEmptyAtEnd}
use Rattle.cert_check.specs.Acceptance.{HintsPass, NoGoodFails, NoGoodsFail, EndsEmpty, LineFails, Accepts}
use Rattle.cert_check.proofs.Truth.{accepted_true}
use Rattle.cert2_text.specs.declared.cert2.AnyCert.{AnyCert}
use Rattle.cert2_text.specs.declared.cert2.AnyCert.TheVariants.{One, Two}
use Rattle.cert2_text.specs.declared.cert2.Cert2.{Cert2}
use Rattle.cert2_text.specs.declared.cert2.Cert2.TheVariants.{Optimal, Infeasible, Unbounded}
use Rattle.cert2_text.specs.declared.cert2.Cert2Line.{Cert2Line}
use Rattle.cert2_text.specs.declared.cert2.Cert2Line.TheVariants.{Shared, Ray, Point, Derived, Forget}
use Rattle.cert2_text.specs.Wholes.{Terms, said_by, no_good_in, no_goods_of, all_terms, lists_of, whole_line, whole_lines, whole_of}
use Rattle.cert2_check.specs.Acceptance2.{IsListed, CutFails2, Line2Fails, EndsEmpty2, Lines2Fail, AcceptsAny}
use Rattle.cert2_check.proofs.Showing.{no_goods_push}

-- ---- a list of which each element has a property over those before it, by recursion and by place

abbrev pub Each : {L : Type 0} → (List L → L → Type 0) → List L → List L → Type 0
Each P before [] = Unit {0}
Each P before (x ∷ xs) = P before x × Each P (before ++ x ∷ []) xs

pub by_recursion : {L : Type 0} (P : List L → L → Type 0) (before xs : List L) → ((k : ℕ) (d : L) → k < length xs → P (before ++ take k xs) (get_or xs k d)) → Each P before xs
by_recursion P before [] h = tt
by_recursion P before (x ∷ xs) h = (
  subst (λ b. P b x) (append-nil before) (h zero x (omega arith)),
  by_recursion P (before ++ x ∷ []) xs (λ k d inside. subst (λ b. P b (get_or xs k d)) (sym (append_assoc before (x ∷ []) (take k xs))) (h (suc k) d (omega (arith, inside)))),
)

pub by_place : {L : Type 0} (P : List L → L → Type 0) (before xs : List L) → Each P before xs → (k : ℕ) (d : L) → k < length xs → P (before ++ take k xs) (get_or xs k d)
by_place P before [] h k d inside = absurd (omega (arith, inside))
by_place P before (x ∷ xs) h zero d inside = subst (λ b. P b x) (sym (append-nil before)) h.0
by_place P before (x ∷ xs) h (suc k) d inside = subst (λ b. P b (get_or xs k d)) (append_assoc before (x ∷ []) (take k xs)) (by_place P (before ++ x ∷ []) xs h.1 k d (omega (arith, inside)))

-- ---- lines that do not fail

abbrev pub Passes1 : Instance → Option (ℤ × ℤ) → List CertLine → CertLine → Type 0
Passes1 a value before y = (why : NoWhy) → NoGoodFails a value (map no_good_of before) y why → ⊥

abbrev pub Passes2 : Instance → Option (ℤ × ℤ) → List Cert2Line → Cert2Line → Type 0
Passes2 a value before x = (why : NoWhy) → Line2Fails a value (said_by before) x why → ⊥

-- the no-goods are the same
abbrev pub Same : List Cert2Line → List CertLine → Type 0
Same before2 before1 = no_goods_of before2 ≡ map no_good_of before1

pub map_push : (ys : List CertLine) (y : CertLine) → map no_good_of (ys ++ y ∷ []) ≡ map no_good_of ys ++ no_good_of y ∷ []
map_push [] y = refl
map_push (z ∷ ys) y = ap (λ (ns : List (List Choice)). no_good_of z ∷ ns) (map_push ys y)

pub same_push : (before2 : List Cert2Line) (before1 : List CertLine) (x : Cert2Line) → no_good_in x ≡ [] → Same before2 before1 → Same (before2 ++ x ∷ []) before1
same_push before2 before1 x none s =
    no_goods_push before2 x ∙ ap (λ (ns : List (List Choice)). no_goods_of before2 ++ ns) none ∙ append-nil (no_goods_of before2) ∙ s

pub more_push : (before2 : List Cert2Line) (before1 : List CertLine) (x : Cert2Line) (y : CertLine) → no_good_in x ≡ no_good_of y ∷ [] → Same before2 before1 → Same (before2 ++ x ∷ []) (before1 ++ y ∷ [])
more_push before2 before1 x y one s =
    no_goods_push before2 x ∙ ap (λ (ns : List (List Choice)). no_goods_of before2 ++ ns) one ∙ ap (λ (ns : List (List Choice)). ns ++ no_good_of y ∷ []) s ∙ sym (map_push before1 y)

listed_or_not : (lists : List Terms) (list : Option ℕ) → IsListed lists list ⊎ (IsListed lists list → ⊥)
listed_or_not lists None = inl tt
listed_or_not lists (Some h) = elim (cases_lt h (length lists)) [
  | inl inside ↦ inl inside
  | inr outside ↦ inr (λ inside. omega (arith, inside, outside))
]

-- a cut with all its multipliers does not fail
cut_passes : (lists : List Terms) (list : Option ℕ) (F : NoWhy → Type 0) → ((why : NoWhy) → CutFails2 lists list (F why) why → ⊥) → (why : NoWhy) → F why → ⊥
cut_passes lists list F p why f = elim (listed_or_not lists list) [
  | inl there ↦ p why (inr (there, f))
  | inr gone ↦ p ListFails (inl (refl, gone))
]

point_passes : (a : Instance) (value : Option (ℤ × ℤ)) (before2 : List Cert2Line) (before1 : List CertLine) (ng : List Choice) (e : ℤ) (list : Option ℕ) (mult : Terms)
    → Passes2 a value before2 (Point ng e list mult) → Passes1 a value before1 (line.Point ng e (all_terms (lists_of before2) list mult))
point_passes a None before2 before1 ng e list mult p = p
point_passes a (Some value) before2 before1 ng e list mult p =
    cut_passes (lists_of before2) list (λ why. NoGoodFails a (Some value) (map no_good_of before1) (line.Point ng e (all_terms (lists_of before2) list mult)) why) p

each_whole : (a : Instance) (value : Option (ℤ × ℤ)) (before2 : List Cert2Line) (before1 : List CertLine) (xs : List Cert2Line) → Same before2 before1 → Each (Passes2 a value) before2 xs → Each (Passes1 a value) before1 (whole_lines before2 xs)
each_whole a value before2 before1 [] s h = tt
each_whole a value before2 before1 (Shared mult ∷ xs) s h = each_whole a value (before2 ++ Shared mult ∷ []) before1 xs (same_push before2 before1 (Shared mult) refl s) h.1
each_whole a value before2 before1 (Ray ng list mult ∷ xs) s h =
    let y = line.Ray ng (all_terms (lists_of before2) list mult) in (
      cut_passes (lists_of before2) list (λ why. NoGoodFails a value (map no_good_of before1) y why) h.0,
      each_whole a value (before2 ++ Ray ng list mult ∷ []) (before1 ++ y ∷ []) xs (more_push before2 before1 (Ray ng list mult) y refl s) h.1,
    )
each_whole a value before2 before1 (Point ng e list mult ∷ xs) s h =
    let y = line.Point ng e (all_terms (lists_of before2) list mult) in (
      point_passes a value before2 before1 ng e list mult h.0,
      each_whole a value (before2 ++ Point ng e list mult ∷ []) (before1 ++ y ∷ []) xs (more_push before2 before1 (Point ng e list mult) y refl s) h.1,
    )
each_whole a value before2 before1 (Derived ng hints ∷ xs) s h =
    let y = line.Derived ng hints in (
      λ why f. h.0 HintFails (refl, λ p. f.1 (subst (λ (ns : List (List Choice)). HintsPass a ns ng hints) s p.0)),
      each_whole a value (before2 ++ Derived ng hints ∷ []) (before1 ++ y ∷ []) xs (more_push before2 before1 (Derived ng hints) y refl s) h.1,
    )
each_whole a value before2 before1 (Forget hs ∷ xs) s h = each_whole a value (before2 ++ Forget hs ∷ []) before1 xs (same_push before2 before1 (Forget hs) refl s) h.1

map_append : (xs ys : List CertLine) → map no_good_of (xs ++ ys) ≡ map no_good_of xs ++ map no_good_of ys
map_append [] ys = refl
map_append (x ∷ xs) ys = ap (λ (ns : List (List Choice)). no_good_of x ∷ ns) (map_append xs ys)

line_no_goods : (lists : List Terms) (x : Cert2Line) → map no_good_of (whole_line lists x) ≡ no_good_in x
line_no_goods lists (Shared mult) = refl
line_no_goods lists (Ray ng list mult) = refl
line_no_goods lists (Point ng e list mult) = refl
line_no_goods lists (Derived ng hints) = refl
line_no_goods lists (Forget hs) = refl

pub whole_no_goods : (before xs : List Cert2Line) → map no_good_of (whole_lines before xs) ≡ no_goods_of xs
whole_no_goods before [] = refl
whole_no_goods before (x ∷ xs) =
    map_append (whole_line (lists_of before) x) (whole_lines (before ++ x ∷ []) xs) ∙ ap (λ (ns : List (List Choice)). ns ++ map no_good_of (whole_lines (before ++ x ∷ []) xs)) (line_no_goods (lists_of before) x)
    ∙ ap (λ (ns : List (List Choice)). no_good_in x ++ ns) (whole_no_goods (before ++ x ∷ []) xs)

ends_there : (lines : List Cert2Line) (ys : List CertLine) → map no_good_of ys ≡ no_goods_of lines → EndsEmpty2 lines → EndsEmpty ys
ends_there lines ys same ends =
    let long : length ys ≡ length (no_goods_of lines) = sym (length-map ys no_good_of) ∙ ap length same in
    ap (λ (ns : List (List Choice)). slice_get ns (length ys - 1)) same ∙ ap (λ (n : ℕ). slice_get (no_goods_of lines) (n - 1)) long ∙ ends

pub lines_pass : (a : Instance) (value : Option (ℤ × ℤ)) (lines : List Cert2Line) (first : ℕ) → ((n : ℕ) (why : NoWhy) → Lines2Fail a value lines first n why → ⊥)
    → (n : ℕ) (why : NoWhy) → NoGoodsFail a value (whole_lines [] lines) first n why → ⊥
lines_pass a value lines first pass n why (inl x) =
    let ys = whole_lines [] lines in
    let each : Each (Passes1 a value) [] ys = each_whole a value [] [] lines refl (by_recursion (Passes2 a value) [] lines
    (λ k d inside w f. pass (first + k) w (inl (k, get_or lines k d, slice_get-get_or lines k d inside, refl, f)))) in
    let here : Passes1 a value (take x.0 ys) (get_or ys x.0 x.1) = by_place (Passes1 a value) [] ys each x.0 x.1 (slice_get_within ys x.0 x.1 x.2) in
    subst (λ (y : CertLine). Passes1 a value (take x.0 ys) y) (get_or_from_slice_get ys x.0 x.1 x.1 x.2) here why x.4
lines_pass a value lines first pass n why (inr x) =
    pass (first + length lines) NotEmptyAtEnd (inr (refl, refl, λ ends. x.2 (ends_there lines (whole_lines [] lines) (whole_no_goods [] lines) ends)))

-- ---- certificates

pub whole_accepted : (a : Instance) (c : Cert2) (v : Verdict) → AcceptsAny a (Two c) v → Accepts a (whole_of c) v
whole_accepted a (Optimal point z lines) v h = record { passes = optimal; claims = h.claims }
  where
    optimal : (n : ℕ) (why : NoWhy) → LineFails a (cert.Optimal point z (whole_lines [] lines)) n why → ⊥
    optimal n why (inl x) = h.passes n why (inl (inl x))
    optimal n why (inr (inl x)) = h.passes n why (inl (inr x))
    optimal n why (inr (inr x)) = lines_pass a (Some (z, point.d)) lines 5 (λ m w f. h.passes m w (inr f)) n why x
whole_accepted a (Infeasible lines) v h = record { passes = lines_pass a None lines 3 h.passes; claims = h.claims }
whole_accepted a (Unbounded piece point ray) v h = record { passes = h.passes; claims = h.claims }

pub accepted_any_true : (a : Instance) (c : AnyCert) (v : Verdict) → AcceptsAny a c v → IsTrueOf a v
accepted_any_true a (One c) v h = accepted_true a c v (record { passes = h.passes; claims = h.claims })
accepted_any_true a (Two c) v h = accepted_true a (whole_of c) v (whole_accepted a c v h)
