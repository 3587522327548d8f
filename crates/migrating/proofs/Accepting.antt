-- Where a certificate is accepted, so is its migration, with the same verdict; and the other way.
use Rattle.std.proofs.Common.{◌≡◌, ℕ, zero, suc, ◌+◌, ◌-◌, ◌<◌, ltb, Bool, true, false, not, ◌&&◌, cond, eqb, List, [], ◌∷◌, ◌++◌, length, get_or, take, map, Option, Some, None, refl, sym, ap, subst, ◌∙◌, append_assoc, ◌⊎◌, inl, inr, arith, ℤ}
use Rattle.std.specs.Prelude.{All, ◌||◌, ◌↔◌, slice_get}
use Rattle.std.specs.List.{filter, list_any, range_with_len}
use Rattle.std.proofs.lemmas.Bool.{eqb-true, eq-eqb, ltb-true, or_parts, and_parts}
use Rattle.std.proofs.lemmas.List.{append-nil, length-map, length_push}
use Rattle.std.proofs.lemmas.List.Concat.{flat_map-append}
use Rattle.std.proofs.lemmas.List.Elements.{All-nil, All-cons, All-head, All-tail}
use Rattle.std.proofs.lemmas.Option.{slice_get-get_or, slice_get_within, get_or_from_slice_get}
use Rattle.nogoods.specs.declared.choice.Choice.{Choice}
use Rattle.nogoods.specs.Choices.{other}
use Rattle.derivation.specs.HintRuns.{is_assumed, unassumed, is_last, hint_run, closes}
use Rattle.lpcc_case.specs.Instance.{Instance}
use Rattle.lpcc_case.specs.declared.verdict.Verdict.{Verdict}
use Rattle.cert_text.specs.declared.cert.Cert.{Cert}
use Rattle.cert_text.specs.declared.cert.Cert.TheVariants as cert
use Rattle.cert_text.specs.declared.cert.CertLine.{CertLine}
use Rattle.cert_text.specs.declared.cert.CertLine.TheVariants as line
use Rattle.cert_text.specs.Certs.{IsLine, KeepsForm, no_good_of}
use Rattle.cert_check.specs.declared.accept.NoWhy.{NoWhy}
use Rattle.cert_check.specs.declared.accept.NoWhy.TheVariants.{HintFails, NotEmptyAtEnd}
use Rattle.cert_check.specs.Acceptance.{HintsPass, NoGoodFails, NoGoodsFail, EndsEmpty, Claims, Accepts}
use Rattle.cert2_text.specs.declared.cert2.AnyCert.TheVariants.{Two}
use Rattle.cert2_text.specs.declared.cert2.Cert2Line.{Cert2Line}
use Rattle.cert2_text.specs.declared.cert2.Cert2Line.TheVariants.{Shared, Ray, Point, Derived}
use Rattle.cert2_text.specs.Wholes.{Terms, said_by, all_terms, lists_of, no_good_in, no_goods_of, dropped_in, dropped_of, is_dropped}
use Rattle.cert2_check.specs.Acceptance2.{IsListed, MayDrop, EndsEmpty2, Lines2Fail, LineFails2, AcceptsAny}
use Rattle.cert2_check.proofs.Merging.{Ascends}
use Rattle.cert2_check.proofs.Showing.{lists_push, no_goods_push, dropped_same}
use Rattle.cert2_check.proofs.Wholly.{Each, by_recursion, by_place, Passes1, Passes2, Same, map_push, whole_no_goods, whole_accepted}
use Rattle.migrating.specs.Migration.{is_shared, has_list, place, lists_behind, names_hint, hints_at, last_named, drop_line, migrated_line, migrated_from, migrated_lines, migrated}
use Rattle.migrating.proofs.Saying.{place_is, place_next, listed_terms, new_place, Says, made_cut, line_says, lines_say, says_the_same}

each_append : {L : Type 0} (P : List L → L → Type 0) (before xs ys : List L) → Each P before xs → Each P (before ++ xs) ys → Each P before (xs ++ ys)
each_append P before [] ys h k = subst (λ b. Each P b ys) (append-nil before) k
each_append P before (x ∷ xs) ys h k = (h.0, each_append P (before ++ x ∷ []) xs ys h.1 (subst (λ b. Each P b ys) (sym (append_assoc before (x ∷ []) xs)) k))

made_same : (before2 made : List Cert2Line) (before1 : List CertLine) (y : CertLine) (lists : List Terms) → Says before2 made y lists → Same before2 before1 → Same (before2 ++ made) (before1 ++ y ∷ [])
made_same before2 made before1 y lists s same =
    flat_map-append no_good_in before2 made ∙ ap (λ (ns : List (List Choice)). no_goods_of before2 ++ ns) (sym (whole_no_goods before2 made) ∙ ap (λ (ls : List CertLine). map no_good_of ls) s.line)
    ∙ ap (λ (ns : List (List Choice)). ns ++ no_good_of y ∷ []) same ∙ sym (map_push before1 y)

-- ---- hints

hints_inside : (earlier : List (List Choice)) (assumed : List Choice) (hints : List ℕ) → closes earlier assumed hints ≡ true → All (λ h. h < length earlier) hints
hints_inside earlier assumed [] e = absurd cc
hints_inside earlier assumed (h ∷ hints) e =
    let p = and_parts (ltb h (length earlier)) (hint_run (unassumed assumed (get_or earlier h [])) assumed (is_last hints) (λ more. closes earlier more hints)) e in
    All-cons (λ k. k < length earlier) h hints (ltb-true h (length earlier) p.0) (by_left (λ a f. hints_inside earlier a hints f) (unassumed assumed (get_or earlier h [])) p.1)
  where
    none_left : (hints : List ℕ) → is_last hints ≡ true → All (λ k. k < length earlier) hints
    none_left [] e = All-nil (λ k. k < length earlier)
    none_left (k ∷ hints) e = absurd cc

    by_left : ((a : List Choice) → closes earlier a hints ≡ true → All (λ k. k < length earlier) hints) → (left : List Choice) → hint_run left assumed (is_last hints) (λ more. closes earlier more hints) ≡ true → All (λ k. k < length earlier) hints
    by_left more [] e = none_left hints e
    by_left more (c ∷ []) e = more (other c ∷ assumed) (and_parts (not (is_assumed assumed (other c))) (closes earlier (other c ∷ assumed) hints) e).1
    by_left more (c ∷ d ∷ cs) e = absurd cc

pub named_has : (P : ℕ → Type 0) (hints : List ℕ) (h : ℕ) → All P hints → names_hint hints h ≡ true → P h
named_has P [] h all e = absurd cc
named_has P (k ∷ hints) h all e = by_test (λ f. named_has P hints h (All-tail P k hints all) f) (eqb k h) refl e
  where
    by_test : (names_hint hints h ≡ true → P h) → (t : Bool) → eqb k h ≡ t → (t || names_hint hints h) ≡ true → P h
    by_test more true same e = subst P (eqb-true k h same) (All-head P k hints all)
    by_test more false same e = more e

or_true : (b : Bool) → (b || true) ≡ true
or_true true = refl
or_true false = refl

named_own : (hints : List ℕ) (k d : ℕ) → k < length hints → names_hint hints (get_or hints k d) ≡ true
named_own [] k d inside = absurd (omega (arith, inside))
named_own (h ∷ hints) zero d inside = ap (λ (b : Bool). b || names_hint hints h) (eq-eqb h h refl)
named_own (h ∷ hints) (suc k) d inside = ap (λ (b : Bool). eqb h (get_or hints k d) || b) (named_own hints k d (omega (arith, inside))) ∙ or_true (eqb h (get_or hints k d))

filter_has : (p : ℕ → Bool) (xs : List ℕ) → All (λ h. p h ≡ true) (filter p xs)
filter_has p [] = All-nil (λ h. p h ≡ true)
filter_has p (x ∷ xs) = by_test (filter_has p xs) (p x) refl
  where
    by_test : All (λ h. p h ≡ true) (filter p xs) → (t : Bool) → p x ≡ t → All (λ h. p h ≡ true) (cond t (x ∷ filter p xs) (filter p xs))
    by_test more true e = All-cons (λ h. p h ≡ true) x (filter p xs) e more
    by_test more false e = more

any_append : (p : ℕ → Bool) (xs ys : List ℕ) → list_any p (xs ++ ys) ≡ true → (list_any p xs ≡ true) ⊎ (list_any p ys ≡ true)
any_append p [] ys e = inr e
any_append p (x ∷ xs) ys e = by_test (λ f. any_append p xs ys f) (p x) e
  where
    by_test : (list_any p (xs ++ ys) ≡ true → (list_any p xs ≡ true) ⊎ (list_any p ys ≡ true)) → (t : Bool) → (t || list_any p (xs ++ ys)) ≡ true → ((t || list_any p xs) ≡ true) ⊎ (list_any p ys ≡ true)
    by_test more true e = inl refl
    by_test more false e = more e

no_later : (b : Bool) → not b ≡ true → b ≡ false
no_later true e = absurd cc
no_later false e = refl

both : (b : Bool) → b ≡ true → b ≡ false → ⊥
both true e f = absurd cc
both false e f = absurd cc

-- no line hints at what is dropped
abbrev Done : List ℕ → List CertLine → Type 0
Done dropped ys = (h : ℕ) → is_dropped dropped h ≡ true → list_any (hints_at h) ys ≡ false

-- what is dropped behind a derived line
abbrev pub IsLast : List ℕ → List CertLine → ℕ → Type 0
IsLast hints later h = (names_hint hints h ≡ true) × (list_any (hints_at h) later ≡ false)

pub last_are : (count : ℕ) (hints : List ℕ) (later : List CertLine) → All (IsLast hints later) (last_named count hints later)
last_are count hints later k d inside =
    let test : ℕ → Bool = λ h. names_hint hints h && not (list_any (hints_at h) later) in
    let ds = filter test (range_with_len 0 count) in
    let p = and_parts (names_hint hints (get_or ds k d)) (not (list_any (hints_at (get_or ds k d)) later)) (filter_has test (range_with_len 0 count) k d inside) in
    (p.0, no_later (list_any (hints_at (get_or ds k d)) later) p.1)

-- ---- cuts

pub record IsTested (a : Instance) (value : Option (ℤ × ℤ)) (cut : Option ℕ → Terms → Cert2Line) (F : Terms → NoWhy → Type 0) : Type 0 where
  pub passes : (before : List Cert2Line) (list : Option ℕ) (own : Terms) → IsListed (lists_of before) list → ((why : NoWhy) → F (all_terms (lists_of before) list own) why → ⊥) → Passes2 a value before (cut list own)
  pub drops : (list : Option ℕ) (own : Terms) → dropped_in (cut list own) ≡ []

ray_is_tested : (a : Instance) (value : Option (ℤ × ℤ)) (ng : List Choice) → IsTested a value (λ list own. Ray ng list own) (λ mult. NoGoodFails a value [] (line.Ray ng mult))
ray_is_tested a value ng = record {
  passes = λ before list own listed none why f. elim f [
    | inl x ↦ x.1 listed
    | inr y ↦ none why y.1
  ];
  drops = λ list own. refl;
}

point_is_tested : (a : Instance) (value : Option (ℤ × ℤ)) (ng : List Choice) (e : ℤ) → IsTested a value (λ list own. Point ng e list own) (λ mult. NoGoodFails a value [] (line.Point ng e mult))
point_is_tested a None ng e = record { passes = λ before list own listed none why f. none why f; drops = λ list own. refl }
point_is_tested a (Some v) ng e = record {
  passes = λ before list own listed none why f. elim f [
    | inl x ↦ x.1 listed
    | inr y ↦ none why y.1
  ];
  drops = λ list own. refl;
}

cut_each : (a : Instance) (value : Option (ℤ × ℤ)) (before : List Cert2Line) (lists : List Terms) (mult : Terms) (cut : Option ℕ → Terms → Cert2Line) (F : Terms → NoWhy → Type 0) (shared has : Bool)
    → IsTested a value cut F → lists_of before ≡ lists → Ascends mult → has_list lists mult ≡ has → ((why : NoWhy) → F mult why → ⊥) → Each (Passes2 a value) before (made_cut shared has lists mult cut)
cut_each a value before lists mult cut F false has is same asc e none = (is.passes before None mult tt none, tt)
cut_each a value before lists mult cut F true true is same asc e none =
    let k = place lists mult in
    let p = place_is lists mult e in
    let whole : all_terms (lists_of before) (Some k) [] ≡ mult = ap (λ (ls : List Terms). all_terms ls (Some k) []) same ∙ listed_terms lists k mult p.1 asc in
    (is.passes before (Some k) [] (omega (arith, p.0, ap length same)) (λ why f. none why (subst (λ (ts : Terms). F ts why) whole f)), tt)
cut_each a value before lists mult cut F true false is same asc e none =
    let k = place lists mult in
    let b = before ++ Shared mult ∷ [] in
    let more : lists_of b ≡ lists ++ mult ∷ [] = lists_push before (Shared mult) ∙ ap (λ (ls : List Terms). ls ++ mult ∷ []) same in
    let whole : all_terms (lists_of b) (Some k) [] ≡ mult = ap (λ (ls : List Terms). all_terms ls (Some k) []) more ∙ listed_terms (lists ++ mult ∷ []) k mult (new_place lists mult e) asc in
    let inside : k < length (lists_of b) = omega (arith, place_next lists mult e, ap length more, length_push lists mult) in
    (λ why f. f, (is.passes b (Some k) [] inside (λ why f. none why (subst (λ (ts : Terms). F ts why) whole f)), tt))

cut_drops : (cut : Option ℕ → Terms → Cert2Line) (lists : List Terms) (mult : Terms) (shared has : Bool) → ((list : Option ℕ) (own : Terms) → dropped_in (cut list own) ≡ []) → dropped_of (made_cut shared has lists mult cut) ≡ []
cut_drops cut lists mult false has none = ap (λ (t : List ℕ). t ++ []) (none None mult)
cut_drops cut lists mult true true none = ap (λ (t : List ℕ). t ++ []) (none (Some (place lists mult)) [])
cut_drops cut lists mult true false none = ap (λ (t : List ℕ). t ++ []) (none (Some (place lists mult)) [])

-- ---- derived lines

named_kept : (dropped hints : List ℕ) (ng : List Choice) (later : List CertLine) (h : ℕ) → Done dropped (line.Derived ng hints ∷ later) → names_hint hints h ≡ true → is_dropped dropped h ≡ false
named_kept dropped hints ng later h done named = by_test (is_dropped dropped h) refl
  where
    by_test : (t : Bool) → is_dropped dropped h ≡ t → t ≡ false
    by_test false e = refl
    by_test true e = absurd (both (names_hint hints h) named (or_parts (names_hint hints h) (list_any (hints_at h) later) (done h e)).0)

derived_each : (a : Instance) (value : Option (ℤ × ℤ)) (before2 : List Cert2Line) (before1 : List CertLine) (ng : List Choice) (hints ds : List ℕ) (later : List CertLine) → Same before2 before1
    → Done (dropped_of before2) (line.Derived ng hints ∷ later) → All (IsLast hints later) ds → Passes1 a value before1 (line.Derived ng hints) → Each (Passes2 a value) before2 (Derived ng hints ∷ drop_line ds)
derived_each a value before2 before1 ng hints ds later same done last p = (
  λ why f. p HintFails (refl, λ hp. f.1 (subst (λ (ns : List (List Choice)). HintsPass a ns ng hints) (sym same) hp, λ k d inside. named_kept (dropped_of before2) hints ng later (get_or hints k d) done (named_own hints k d inside))),
  drop_each ds last,
)
  where
    may : (ds : List ℕ) → All (IsLast hints later) ds → HintsPass a (map no_good_of before1) ng hints → MayDrop (said_by (before2 ++ Derived ng hints ∷ [])) ds
    may ds last hp k d inside =
        let h = get_or ds k d in
        let named = (last k d inside).0 in
        let low : h < length (map no_good_of before1) = named_has (λ n. n < length (map no_good_of before1)) hints h (hints_inside (map no_good_of before1) ng hints hp.1) named in
        let more = ap length (no_goods_push before2 (Derived ng hints)) in (
          omega (arith, low, ap length same, more, length_push (no_goods_of before2) ng),
          ap (λ (xs : List ℕ). is_dropped xs h) (dropped_same before2 (Derived ng hints) refl) ∙ named_kept (dropped_of before2) hints ng later h done named,
        )

    drop_each : (ds : List ℕ) → All (IsLast hints later) ds → Each (Passes2 a value) (before2 ++ Derived ng hints ∷ []) (drop_line ds)
    drop_each [] last = tt
    drop_each (h ∷ hs) last = (λ why f. p HintFails (refl, λ hp. f.1 (may (h ∷ hs) last hp)), tt)

derived_drops : (ng : List Choice) (hints ds : List ℕ) → dropped_of (Derived ng hints ∷ drop_line ds) ≡ ds
derived_drops ng hints [] = refl
derived_drops ng hints (h ∷ hs) = append-nil (h ∷ hs)

-- ---- lines

point_same : (a : Instance) (value : Option (ℤ × ℤ)) (before1 : List CertLine) (ng : List Choice) (e : ℤ) (mult : Terms) → Passes1 a value before1 (line.Point ng e mult) → (why : NoWhy) → NoGoodFails a value [] (line.Point ng e mult) why → ⊥
point_same a None before1 ng e mult p why f = p why f
point_same a (Some v) before1 ng e mult p why f = p why f

line_each : (a : Instance) (value : Option (ℤ × ℤ)) (all : List CertLine) (before2 : List Cert2Line) (before1 : List CertLine) (lists : List Terms) (y : CertLine) (later : List CertLine) → IsLine y → lists_of before2 ≡ lists → Same before2 before1
    → Done (dropped_of before2) (y ∷ later) → Passes1 a value before1 y → Each (Passes2 a value) before2 (migrated_line all lists y later)
line_each a value all before2 before1 lists (line.Ray ng mult) later form same_lists same done p =
    cut_each a value before2 lists mult (λ list own. Ray ng list own) (λ m. NoGoodFails a value [] (line.Ray ng m)) (is_shared all mult) (has_list lists mult) (ray_is_tested a value ng) same_lists form.1.ascending refl p
line_each a value all before2 before1 lists (line.Point ng e mult) later form same_lists same done p =
    cut_each a value before2 lists mult (λ list own. Point ng e list own) (λ m. NoGoodFails a value [] (line.Point ng e m)) (is_shared all mult) (has_list lists mult) (point_is_tested a value ng e) same_lists form.3.ascending refl
    (point_same a value before1 ng e mult p)
line_each a value all before2 before1 lists (line.Derived ng hints) later form same_lists same done p =
    derived_each a value before2 before1 ng hints (last_named (length all) hints later) later same done (last_are (length all) hints later) p

none_more : (before made : List Cert2Line) → dropped_of made ≡ [] → dropped_of (before ++ made) ≡ dropped_of before
none_more before made e = flat_map-append dropped_in before made ∙ ap (λ (t : List ℕ). dropped_of before ++ t) e ∙ append-nil (dropped_of before)

done_next : (all : List CertLine) (before : List Cert2Line) (lists : List Terms) (y : CertLine) (later : List CertLine) → Done (dropped_of before) (y ∷ later) → Done (dropped_of (before ++ migrated_line all lists y later)) later
done_next all before lists (line.Ray ng mult) later done h e =
    let made = made_cut (is_shared all mult) (has_list lists mult) lists mult (λ list own. Ray ng list own) in
    done h (sym (ap (λ (xs : List ℕ). is_dropped xs h) (none_more before made (cut_drops (λ list own. Ray ng list own) lists mult (is_shared all mult) (has_list lists mult) (λ list own. refl)))) ∙ e)
done_next all before lists (line.Point ng c mult) later done h e =
    let made = made_cut (is_shared all mult) (has_list lists mult) lists mult (λ list own. Point ng c list own) in
    done h (sym (ap (λ (xs : List ℕ). is_dropped xs h) (none_more before made (cut_drops (λ list own. Point ng c list own) lists mult (is_shared all mult) (has_list lists mult) (λ list own. refl)))) ∙ e)
done_next all before lists (line.Derived ng hints) later done h e =
    let ds = last_named (length all) hints later in
    let made = Derived ng hints ∷ drop_line ds in
    let split : is_dropped (dropped_of before ++ ds) h ≡ true = sym (ap (λ (xs : List ℕ). is_dropped xs h) (flat_map-append dropped_in before made ∙ ap (λ (t : List ℕ). dropped_of before ++ t) (derived_drops ng hints ds))) ∙ e in
    elim (any_append (λ d. eqb d h) (dropped_of before) ds split) [
      | inl earlier ↦ (or_parts (names_hint hints h) (list_any (hints_at h) later) (done h earlier)).1
      | inr now ↦ (named_has (IsLast hints later) ds h (last_are (length all) hints later) now).1
    ]

each_migrated : (a : Instance) (value : Option (ℤ × ℤ)) (all : List CertLine) (before2 : List Cert2Line) (before1 : List CertLine) (lists : List Terms) (ys : List CertLine) → All IsLine ys → lists_of before2 ≡ lists → Same before2 before1
    → Done (dropped_of before2) ys → Each (Passes1 a value) before1 ys → Each (Passes2 a value) before2 (migrated_from all lists ys)
each_migrated a value all before2 before1 lists [] form same_lists same done h = tt
each_migrated a value all before2 before1 lists (y ∷ ys) form same_lists same done h =
    let made = migrated_line all lists y ys in
    let head = All-head IsLine y ys form in
    let s = line_says all before2 lists y ys head same_lists in
    each_append (Passes2 a value) before2 made (migrated_from all (lists_behind all lists y) ys) (line_each a value all before2 before1 lists y ys head same_lists same done h.0)
    (each_migrated a value all (before2 ++ made) (before1 ++ y ∷ []) (lists_behind all lists y) ys (All-tail IsLine y ys form) s.lists_are (made_same before2 made before1 y (lists_behind all lists y) s same)
    (done_next all before2 lists y ys done) h.1)

ends_there : (xs : List Cert2Line) (ys : List CertLine) → map no_good_of ys ≡ no_goods_of xs → EndsEmpty ys → EndsEmpty2 xs
ends_there xs ys same ends =
    let long : length ys ≡ length (no_goods_of xs) = sym (length-map ys no_good_of) ∙ ap length same in
    sym (ap (λ (ns : List (List Choice)). slice_get ns (length ys - 1)) same ∙ ap (λ (n : ℕ). slice_get (no_goods_of xs) (n - 1)) long) ∙ ends

lines_pass : (a : Instance) (value : Option (ℤ × ℤ)) (lines : List CertLine) (first : ℕ) → All IsLine lines → ((n : ℕ) (why : NoWhy) → NoGoodsFail a value lines first n why → ⊥)
    → (n : ℕ) (why : NoWhy) → Lines2Fail a value (migrated_lines lines) first n why → ⊥
lines_pass a value lines first form pass n why (inl x) =
    let xs = migrated_lines lines in
    let each : Each (Passes2 a value) [] xs = each_migrated a value lines [] [] [] lines form refl refl (λ h e. absurd cc) (by_recursion (Passes1 a value) [] lines
    (λ k d inside w f. pass (first + k) w (inl (k, get_or lines k d, slice_get-get_or lines k d inside, refl, f)))) in
    let here : Passes2 a value (take x.0 xs) (get_or xs x.0 x.1) = by_place (Passes2 a value) [] xs each x.0 x.1 (slice_get_within xs x.0 x.1 x.2) in
    subst (λ (y : Cert2Line). Passes2 a value (take x.0 xs) y) (get_or_from_slice_get xs x.0 x.1 x.1 x.2) here why x.4
lines_pass a value lines first form pass n why (inr x) =
    let xs = migrated_lines lines in
    let same : map no_good_of lines ≡ no_goods_of xs = ap (λ (ls : List CertLine). map no_good_of ls) (sym (lines_say lines [] [] lines form refl)) ∙ whole_no_goods [] xs in
    pass (first + length lines) NotEmptyAtEnd (inr (refl, refl, λ ends. x.2 (ends_there xs lines same ends)))

-- ---- certificates

accepted_migrated : (a : Instance) (c : Cert) (v : Verdict) → KeepsForm c → Accepts a c v → AcceptsAny a (Two (migrated c)) v
accepted_migrated a (cert.Optimal point z lines) v form h = record {
  passes = passes;
  claims = subst (λ (d : Cert). Claims a d v) (sym (says_the_same (cert.Optimal point z lines) form)) h.claims;
}
  where
    passes : (n : ℕ) (why : NoWhy) → LineFails2 a (migrated (cert.Optimal point z lines)) n why → ⊥
    passes n why (inl (inl x)) = h.passes n why (inl x)
    passes n why (inl (inr x)) = h.passes n why (inr (inl x))
    passes n why (inr f) = lines_pass a (Some (z, point.d)) lines 5 form.2 (λ m w g. h.passes m w (inr (inr g))) n why f
accepted_migrated a (cert.Infeasible lines) v form h = record {
  passes = lines_pass a None lines 3 form h.passes;
  claims = subst (λ (d : Cert). Claims a d v) (sym (says_the_same (cert.Infeasible lines) form)) h.claims;
}
accepted_migrated a (cert.Unbounded piece point ray) v form h = record { passes = h.passes; claims = h.claims }

pub accepted_alike : (a : Instance) (c : Cert) (v : Verdict) → KeepsForm c → Accepts a c v ↔ AcceptsAny a (Two (migrated c)) v
accepted_alike a c v form = (accepted_migrated a c v form, λ h. subst (λ (d : Cert). Accepts a d v) (says_the_same c form) (whole_accepted a (migrated c) v h))
