-- The migration of a certificate says the same.
use Rattle.std.proofs.Common.{◌≡◌, ℕ, ◌+◌, ◌<◌, Bool, true, false, not, ◌&&◌, cond, eqb, List, [], ◌∷◌, ◌++◌, length, get_or, Option, Some, None, refl, sym, ap, ◌∙◌, append_assoc, arith, ℤ, pos, negsuc, suc}
use Rattle.std.specs.Prelude.{All, ◌||◌}
use Rattle.std.proofs.lemmas.Bool.{eqb-true, and_parts}
use Rattle.std.proofs.lemmas.List.{append-nil, get_or_at}
use Rattle.std.proofs.lemmas.List.Elements.{All-head, All-tail}
use Rattle.lp_base.specs.Ascending.{number_of}
use Rattle.nogoods.specs.declared.choice.Choice.{Choice}
use Rattle.cert_text.specs.declared.cert.Cert.{Cert}
use Rattle.cert_text.specs.declared.cert.Cert.TheVariants as cert
use Rattle.cert_text.specs.declared.cert.CertLine.{CertLine}
use Rattle.cert_text.specs.declared.cert.CertLine.TheVariants as line
use Rattle.cert_text.specs.Certs.{IsLine, KeepsForm}
use Rattle.cert_text.proofs.Ascents.{ascend_parts}
use Rattle.cert2_text.specs.declared.cert2.Cert2Line.{Cert2Line}
use Rattle.cert2_text.specs.declared.cert2.Cert2Line.TheVariants.{Shared, Ray, Point, Derived, Forget}
use Rattle.cert2_text.specs.Wholes.{Terms, together, all_terms, list_in, lists_of, whole_line, whole_lines, whole_of}
use Rattle.cert2_check.proofs.Merging.{Ascends, take_list}
use Rattle.cert2_check.proofs.Showing.{lists_push, lists_same}
use Rattle.migrating.specs.Migration.{same_number, same_terms, is_shared, has_list, place, lists_behind, last_named, drop_line, migrated_line, migrated_from, migrated}

-- ---- equal multipliers

pub same_number_is : (x y : ℤ) → same_number x y ≡ true → x ≡ y
same_number_is (pos m) (pos n) e = ap pos (eqb-true m n e)
same_number_is (pos m) (negsuc n) e = absurd cc
same_number_is (negsuc m) (pos n) e = absurd cc
same_number_is (negsuc m) (negsuc n) e = ap negsuc (eqb-true m n e)

pub same_terms_is : (xs ys : Terms) → same_terms xs ys ≡ true → xs ≡ ys
same_terms_is [] [] e = refl
same_terms_is [] (y ∷ ys) e = absurd cc
same_terms_is (x ∷ xs) [] e = absurd cc
same_terms_is (x ∷ xs) (y ∷ ys) e =
    let p = and_parts (eqb x.0 y.0 && same_number x.1 y.1) (same_terms xs ys) e in
    let q = and_parts (eqb x.0 y.0) (same_number x.1 y.1) p.0 in
    let number : x.0 ≡ y.0 = eqb-true x.0 y.0 q.0 in
    let value : x.1 ≡ y.1 = same_number_is x.1 y.1 q.1 in
    let first : x ≡ y = λ i. (number i, value i) in
    (λ i. first i ∷ same_terms_is xs ys p.1 i)

-- the place of multipliers that are among the lists
abbrev PlaceIs : List Terms → Terms → Type 0
PlaceIs lists mult = (place lists mult < length lists) × (get_or lists (place lists mult) [] ≡ mult)

pub place_is : (lists : List Terms) (mult : Terms) → has_list lists mult ≡ true → PlaceIs lists mult
place_is [] mult e = absurd cc
place_is (l ∷ lists) mult e = by_test (λ h. place_is lists mult h) (same_terms mult l) refl e
  where
    by_test : (has_list lists mult ≡ true → PlaceIs lists mult) → (t : Bool) → same_terms mult l ≡ t → (t || has_list lists mult) ≡ true → PlaceIs (l ∷ lists) mult
    by_test more true s h =
        let here : place (l ∷ lists) mult ≡ 0 = ap (λ (b : Bool). cond b 0 (place lists mult + 1)) s in
        (omega (arith, here), ap (λ (k : ℕ). get_or (l ∷ lists) k []) here ∙ sym (same_terms_is mult l s))
    by_test more false s h =
        let next = more h in
        let here : place (l ∷ lists) mult ≡ place lists mult + 1 = ap (λ (b : Bool). cond b 0 (place lists mult + 1)) s in
        let behind : place lists mult + 1 ≡ suc (place lists mult) = omega arith in
        (omega (arith, here, next.0), ap (λ (k : ℕ). get_or (l ∷ lists) k []) (here ∙ behind) ∙ next.1)

-- and of those that are not: the next number
pub place_next : (lists : List Terms) (mult : Terms) → has_list lists mult ≡ false → place lists mult ≡ length lists
place_next [] mult e = refl
place_next (l ∷ lists) mult e = by_test (λ h. place_next lists mult h) (same_terms mult l) refl e
  where
    by_test : (has_list lists mult ≡ false → place lists mult ≡ length lists) → (t : Bool) → same_terms mult l ≡ t → (t || has_list lists mult) ≡ false → place (l ∷ lists) mult ≡ length (l ∷ lists)
    by_test more true s h = absurd cc
    by_test more false s h =
        let here : place (l ∷ lists) mult ≡ place lists mult + 1 = ap (λ (b : Bool). cond b 0 (place lists mult + 1)) s in
        omega (arith, here, more h)

together_none : (xs : Terms) → Ascends xs → together xs [] ≡ xs
together_none [] a = refl
together_none (x ∷ xs) a = take_list x xs [] a tt ∙ ap (λ (ys : Terms). x ∷ ys) (together_none xs (ascend_parts number_of x xs a).1)

-- a list that is named without own terms
pub listed_terms : (lists : List Terms) (k : ℕ) (mult : Terms) → get_or lists k [] ≡ mult → Ascends mult → all_terms lists (Some k) [] ≡ mult
listed_terms lists k mult e a = ap (λ (ts : Terms). together ts []) e ∙ together_none mult a

pub new_place : (lists : List Terms) (mult : Terms) → has_list lists mult ≡ false → get_or (lists ++ mult ∷ []) (place lists mult) [] ≡ mult
new_place lists mult e = ap (λ (k : ℕ). get_or (lists ++ mult ∷ []) k []) (place_next lists mult e) ∙ get_or_at lists mult [] [] (length lists) refl

-- ---- lines

pub whole_append : (before xs ys : List Cert2Line) → whole_lines before (xs ++ ys) ≡ whole_lines before xs ++ whole_lines (before ++ xs) ys
whole_append before [] ys = ap (λ (b : List Cert2Line). whole_lines b ys) (sym (append-nil before))
whole_append before (x ∷ xs) ys =
    ap (λ (t : List CertLine). whole_line (lists_of before) x ++ t) (whole_append (before ++ x ∷ []) xs ys ∙ ap (λ (b : List Cert2Line). whole_lines (before ++ x ∷ []) xs ++ whole_lines b ys) (append_assoc before (x ∷ []) xs))
    ∙ sym (append_assoc (whole_line (lists_of before) x) (whole_lines (before ++ x ∷ []) xs) (whole_lines (before ++ x ∷ xs) ys))

-- a cut of the kind that is made so, with its whole line
pub record IsCut (cut : Option ℕ → Terms → Cert2Line) (whole : Terms → CertLine) : Type 0 where
  pub is_line : (lists : List Terms) (list : Option ℕ) (own : Terms) → whole_line lists (cut list own) ≡ whole (all_terms lists list own) ∷ []
  pub no_list : (list : Option ℕ) (own : Terms) → list_in (cut list own) ≡ []

pub ray_is_cut : (ng : List Choice) → IsCut (λ list own. Ray ng list own) (λ mult. line.Ray ng mult)
ray_is_cut ng = record { is_line = λ lists list own. refl; no_list = λ list own. refl }

pub point_is_cut : (ng : List Choice) (e : ℤ) → IsCut (λ list own. Point ng e list own) (λ mult. line.Point ng e mult)
point_is_cut ng e = record { is_line = λ lists list own. refl; no_list = λ list own. refl }

-- what a line is migrated to says this line, and leaves these lists
pub record Says (before : List Cert2Line) (made : List Cert2Line) (y : CertLine) (lists : List Terms) : Type 0 where
  pub line : whole_lines before made ≡ y ∷ []
  pub lists_are : lists_of (before ++ made) ≡ lists

abbrev pub behind_cut : Bool → Bool → List Terms → Terms → List Terms
behind_cut shared has lists mult = cond (shared && not has) (lists ++ mult ∷ []) lists

abbrev pub made_cut : Bool → Bool → List Terms → Terms → (Option ℕ → Terms → Cert2Line) → List Cert2Line
made_cut shared has lists mult cut = cond shared (cond has [] (Shared mult ∷ []) ++ cut (Some (place lists mult)) [] ∷ []) (cut None mult ∷ [])

cut_says : (before : List Cert2Line) (lists : List Terms) (mult : Terms) (cut : Option ℕ → Terms → Cert2Line) (whole : Terms → CertLine) (shared has : Bool) → IsCut cut whole → lists_of before ≡ lists → Ascends mult
    → has_list lists mult ≡ has → Says before (made_cut shared has lists mult cut) (whole mult) (behind_cut shared has lists mult)
cut_says before lists mult cut whole false has is same a e = record {
  line = ap (λ (t : List CertLine). t ++ []) (is.is_line (lists_of before) None mult);
  lists_are = lists_same before (cut None mult) (is.no_list None mult) ∙ same;
}
cut_says before lists mult cut whole true true is same a e =
    let k = place lists mult in
    let p = place_is lists mult e in record {
      line = ap (λ (t : List CertLine). t ++ []) (is.is_line (lists_of before) (Some k) []) ∙ ap (λ (ls : List Terms). whole (all_terms ls (Some k) []) ∷ []) same
          ∙ ap (λ (ts : Terms). whole ts ∷ []) (listed_terms lists k mult p.1 a);
      lists_are = lists_same before (cut (Some k) []) (is.no_list (Some k) []) ∙ same;
    }
cut_says before lists mult cut whole true false is same a e =
    let k = place lists mult in
    let b = before ++ Shared mult ∷ [] in
    let more : lists_of b ≡ lists ++ mult ∷ [] = lists_push before (Shared mult) ∙ ap (λ (ls : List Terms). ls ++ mult ∷ []) same in record {
      line = ap (λ (t : List CertLine). t ++ []) (is.is_line (lists_of b) (Some k) []) ∙ ap (λ (ls : List Terms). whole (all_terms ls (Some k) []) ∷ []) more
          ∙ ap (λ (ts : Terms). whole ts ∷ []) (listed_terms (lists ++ mult ∷ []) k mult (new_place lists mult e) a);
      lists_are = ap lists_of (sym (append_assoc before (Shared mult ∷ []) (cut (Some k) [] ∷ []))) ∙ lists_same b (cut (Some k) []) (is.no_list (Some k) []) ∙ more;
    }

derived_says : (before : List Cert2Line) (lists : List Terms) (ng : List Choice) (hints dropped : List ℕ) → lists_of before ≡ lists → Says before (Derived ng hints ∷ drop_line dropped) (line.Derived ng hints) lists
derived_says before lists ng hints [] same = record { line = refl; lists_are = lists_same before (Derived ng hints) refl ∙ same }
derived_says before lists ng hints (h ∷ hs) same =
    let b = before ++ Derived ng hints ∷ [] in record {
      line = refl;
      lists_are = ap lists_of (sym (append_assoc before (Derived ng hints ∷ []) (Forget (h ∷ hs) ∷ []))) ∙ lists_same b (Forget (h ∷ hs)) refl ∙ lists_same before (Derived ng hints) refl ∙ same;
    }

pub line_says : (all : List CertLine) (before : List Cert2Line) (lists : List Terms) (y : CertLine) (later : List CertLine) → IsLine y → lists_of before ≡ lists → Says before (migrated_line all lists y later) y (lists_behind all lists y)
line_says all before lists (line.Ray ng mult) later form same = cut_says before lists mult (λ list own. Ray ng list own) (λ m. line.Ray ng m) (is_shared all mult) (has_list lists mult) (ray_is_cut ng) same form.1.ascending refl
line_says all before lists (line.Point ng e mult) later form same = cut_says before lists mult (λ list own. Point ng e list own) (λ m. line.Point ng e m) (is_shared all mult) (has_list lists mult) (point_is_cut ng e) same form.3.ascending refl
line_says all before lists (line.Derived ng hints) later form same = derived_says before lists ng hints (last_named (length all) hints later) same

pub lines_say : (all : List CertLine) (before : List Cert2Line) (lists : List Terms) (ys : List CertLine) → All IsLine ys → lists_of before ≡ lists → whole_lines before (migrated_from all lists ys) ≡ ys
lines_say all before lists [] form same = refl
lines_say all before lists (y ∷ ys) form same =
    let made = migrated_line all lists y ys in
    let s = line_says all before lists y ys (All-head IsLine y ys form) same in
    whole_append before made (migrated_from all (lists_behind all lists y) ys) ∙ ap (λ (t : List CertLine). t ++ whole_lines (before ++ made) (migrated_from all (lists_behind all lists y) ys)) s.line
    ∙ ap (λ (t : List CertLine). y ∷ t) (lines_say all (before ++ made) (lists_behind all lists y) ys (All-tail IsLine y ys form) s.lists_are)

pub says_the_same : (c : Cert) → KeepsForm c → whole_of (migrated c) ≡ c
says_the_same (cert.Optimal point z lines) form = ap (λ (ls : List CertLine). cert.Optimal point z ls) (lines_say lines [] [] lines form.2 refl)
says_the_same (cert.Infeasible lines) form = ap (λ (ls : List CertLine). cert.Infeasible ls) (lines_say lines [] [] lines form refl)
says_the_same (cert.Unbounded piece point ray) form = refl
