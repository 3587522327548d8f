-- Cuts that were tested over the lists of all lines.
use Rattle.std.proofs.Common.{◌≡◌, ℕ, ◌<◌, Bool, true, false, List, [], ◌++◌, length, get_or, take, drop, Option, Some, None, refl, sym, ap, subst, ◌∙◌, inl, inr, arith, ℤ}
use Rattle.std.proofs.lemmas.List.{get_or_append_left, length-append, take-append-drop}
use Rattle.std.proofs.lemmas.List.Concat.{flat_map-append}
use Rattle.std.proofs.lemmas.Option.{slice_get-get_or}
use Rattle.lpcc_case.specs.Instance.{Instance}
use Rattle.cert_text.specs.declared.cert.CertLine.TheVariants as line
use Rattle.cert_text.specs.declared.cert.CertPoint.{CertPoint}
use Rattle.cert_check.specs.declared.accept.NoWhy.{NoWhy}
use Rattle.cert_check.specs.Acceptance.{NoGoodFails}
use Rattle.cert2_text.specs.declared.cert2.Cert2Line.{Cert2Line}
use Rattle.cert2_text.specs.declared.cert2.Cert2Line.TheVariants.{Shared, Ray, Point, Derived, Forget}
use Rattle.cert2_text.specs.Wholes.{Terms, Said, said_by, together, all_terms, list_in, lists_of}
use Rattle.cert2_check.specs.Acceptance2.{IsListed, CutFails2, Line2Fails}
use Rattle.cert2_text.specs.declared.cert2.Cert2.{Cert2}
use Rattle.cert2_text.specs.declared.cert2.Cert2.TheVariants as cert2
use Rattle.cert2_check.specs.Results2.{Before, Shows, AreTested, AreTestedIn, CutPasses, named_list}

all_terms_more : (lists more : List Terms) (list : Option ℕ) (own : Terms) → IsListed lists list → all_terms (lists ++ more) list own ≡ all_terms lists list own
all_terms_more lists more None own listed = refl
all_terms_more lists more (Some h) own listed = ap (λ (ts : Terms). together ts own) (get_or_append_left lists more [] h listed)

listed_more : (lists more : List Terms) (list : Option ℕ) → IsListed lists list → IsListed (lists ++ more) list
listed_more lists more None listed = tt
listed_more lists more (Some h) listed = omega (arith, listed, length-append lists more)

-- a cut that passes over more lists passes over those before it, where its own list is among them
cut_passes : (lists more before : List Terms) (list : Option ℕ) (own : Terms) (F : Terms → Type 0) (why : NoWhy) → lists ≡ before → IsListed lists list
    → (CutFails2 (lists ++ more) list (F (all_terms (lists ++ more) list own)) why → ⊥) → CutFails2 before list (F (all_terms before list own)) why → ⊥
cut_passes lists more before list own F why same listed passes (inl x) = x.1 (subst (λ (ls : List Terms). IsListed ls list) same listed)
cut_passes lists more before list own F why same listed passes (inr x) =
    passes (inr (listed_more lists more list listed, subst F (ap (λ (ls : List Terms). all_terms ls list own) (sym same) ∙ sym (all_terms_more lists more list own listed)) x.1))

pub tested_passes : (a : Instance) (value : Option (ℤ × ℤ)) (e : Before) (x : Cert2Line) (more : List Terms) → CutPasses a value (e.lists ++ more) x → IsListed e.lists (named_list x)
    → (said : Said) → Shows e said → (why : NoWhy) → Line2Fails a value said x why → ⊥
tested_passes a value e (Shared mult) more p listed said s why f = p
tested_passes a value e (Ray ng list mult) more p listed said s why f =
    cut_passes e.lists more said.lists list mult (λ ts. NoGoodFails a None [] (line.Ray ng ts) why) why s.lists listed (p why) f
tested_passes a None e (Point ng k list mult) more p listed said s why f = p why f
tested_passes a (Some v) e (Point ng k list mult) more p listed said s why f =
    cut_passes e.lists more said.lists list mult (λ ts. NoGoodFails a (Some v) [] (line.Point ng k ts) why) why s.lists listed (p why) f
tested_passes a value e (Derived ng hints) more p listed said s why f = p
tested_passes a value e (Forget hs) more p listed said s why f = p

abbrev pub PassesMore : Instance → Option (ℤ × ℤ) → Before → Cert2Line → Type 0
PassesMore a value e x = (more : List Terms) × CutPasses a value (e.lists ++ more) x

-- the line at a place, over the lists of the lines before it
pub tested_at : (a : Instance) (value : Option (ℤ × ℤ)) (lines : List Cert2Line) (tested : List Bool) (at : ℕ) (e : Before) (x : Cert2Line) (t : Bool) → at < length lines → x ≡ get_or lines at x → Shows e (said_by (take at lines))
    → AreTested a value lines tested → t ≡ get_or tested at false → t ≡ true → PassesMore a value e x
tested_at a value lines tested at e x t inside is s are found marked =
    let whole : lists_of lines ≡ e.lists ++ lists_of (drop at lines) =
    ap lists_of (sym (take-append-drop at lines)) ∙ flat_map-append list_in (take at lines) (drop at lines) ∙ ap (λ (ls : List Terms). ls ++ lists_of (drop at lines)) (sym s.lists) in
    (lists_of (drop at lines), subst (λ (ls : List Terms). CutPasses a value ls x) whole (are at x (slice_get-get_or lines at x inside ∙ ap Some (sym is)) (sym found ∙ marked)))

none_tested : (a : Instance) (value : Option (ℤ × ℤ)) (lines : List Cert2Line) → AreTested a value lines []
none_tested a value lines k x here marked = absurd (never k marked)
  where
    never : (k : ℕ) → get_or [] k false ≡ true → ⊥
    never k e = cc e

pub none_tested_in : (a : Instance) (c : Cert2) → AreTestedIn a c []
none_tested_in a (cert2.Optimal point z lines) = none_tested a (Some (z, point.d)) lines
none_tested_in a (cert2.Infeasible lines) = none_tested a None lines
none_tested_in a (cert2.Unbounded piece point ray) = tt

-- the lines of a certificate of an optimum, with the number of its value read again
pub optimal_tested : (a : Instance) (c : Cert2) (tested : List Bool) (point : CertPoint) (z z2 : ℤ) (lines lines2 : List Cert2Line) → c ≡ cert2.Optimal point z lines → lines2 ≡ lines → z2 ≡ z → AreTestedIn a c tested
    → AreTested a (Some (z2, point.d)) lines2 tested
optimal_tested a c tested point z z2 lines lines2 is same again h =
    subst (λ (n : ℤ). AreTested a (Some (n, point.d)) lines2 tested) (sym again)
    (subst (λ (ls : List Cert2Line). AreTested a (Some (z, point.d)) ls tested) (sym same) (subst (λ (d : Cert2). AreTestedIn a d tested) is h))
