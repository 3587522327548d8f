-- Lines of form 1, of which cuts were tested before.
use Rattle.std.proofs.Common.{◌≡◌, ℕ, ◌+◌, ◌-◌, ◌<◌, ◌≤◌, Bool, true, false, List, [], ◌∷◌, ◌++◌, length, map, get_or, take, Option, Some, None, refl, sym, ap, subst, ◌∙◌, ◌⊎◌, inl, inr, arith, ℤ}
use Rattle.std.specs.Prelude.{All, slice_get, ◌↔◌, IfOk, IfErr, Result}
use Rattle.std.proofs.lemmas.Bool.{both_ways, cases_lt}
use Rattle.std.proofs.lemmas.List.{length-map, map_push, take_more, take_all}
use Rattle.std.proofs.lemmas.List.Elements.{All-push}
use Rattle.std.proofs.lemmas.Option.{same_Some, slice_get-get_or, slice_get_within}
use Rattle.nogoods.specs.declared.choice.Choice.{Choice}
use Rattle.derivation.specs.HintRuns.{NamesBelow}
use Rattle.lpcc_case.specs.Instance.{Instance}
use Rattle.cert_text.specs.declared.cert.CertLine.{CertLine}
use Rattle.cert_text.specs.declared.cert.CertLine.TheVariants.{Ray, Point, Derived}
use Rattle.cert_text.specs.Certs.{IsLine, no_good_of}
use Rattle.cert_check.specs.declared.accept.NoWhy.{NoWhy}
use Rattle.cert_check.specs.declared.accept.NoWhy.TheVariants.{NotEmptyAtEnd}
use Rattle.cert_check.specs.declared.accept.CheckFault.{CheckFault}
use Rattle.cert_check.specs.declared.accept.CheckFault.TheVariants.{No, NoMemory}
use Rattle.cert_check.specs.Acceptance.{Accepts, NoGoodFails, NoGoodsFail, LineFails, EndsEmpty, RefusesAs}
use Rattle.cert_check.specs.Barring.{FirstPass}
use Rattle.cert_check.specs.Results.{Finds, NamesFirst}
use Rattle.cert_text.specs.declared.cert.Cert.{Cert}
use Rattle.cert_text.specs.declared.cert.Cert.TheVariants as cert
use Rattle.cert_text.specs.declared.cert.CertPoint.{CertPoint}
use Rattle.lp_nums.specs.Fractions.{Fraction}
use Rattle.lpcc_case.specs.declared.verdict.Verdict.{Verdict}
use Rattle.lpcc_case.specs.declared.verdict.Verdict.TheVariants as verdict
use Rattle.cert2_check.proofs.Judging2.{one_accepted, one_refused}
use Rattle.cert2_text.specs.declared.cert2.AnyCert.TheVariants.{One}
use Rattle.cert2_check.specs.Acceptance2.{AcceptsAny, FrontFails, RefusesAnyAs}
use Rattle.cert2_check.specs.declared.lines2.Found.TheVariants.{Fails, Passes}
use Rattle.cert2_check.specs.Results2.{Before, AreGood, FrontPasses, with_no_good}
use Rattle.parallel_check.specs.Testing.{AreTested1, CutPasses1, FindsFirst1}

-- a cut that passes does so over all no-goods
pub tested_passes1 : (a : Instance) (value : Option (ℤ × ℤ)) (earlier : List (List Choice)) (x : CertLine) → CutPasses1 a value x → (why : NoWhy) → NoGoodFails a value earlier x why → ⊥
tested_passes1 a value earlier (Ray ng mult) p why f = p why f
tested_passes1 a value earlier (Point ng e mult) p why f = p why f
tested_passes1 a value earlier (Derived ng hints) p why f = p

pub tested_at1 : (a : Instance) (value : Option (ℤ × ℤ)) (lines : List CertLine) (tested : List Bool) (at : ℕ) (x : CertLine) (t : Bool) → at < length lines → x ≡ get_or lines at x → AreTested1 a value lines tested → t ≡ get_or tested at false → t ≡ true
    → CutPasses1 a value x
tested_at1 a value lines tested at x t inside is are found marked = are at x (slice_get-get_or lines at x inside ∙ ap Some (sym is)) (sym found ∙ marked)

-- the no-goods of the first lines, none of which fails
pub record ArePassed (a : Instance) (value : Option (ℤ × ℤ)) (lines : List CertLine) (at : ℕ) (e : Before) : Type 0 where
  pub passed : FirstPass a value lines at
  pub no_goods : e.no_goods ≡ map no_good_of (take at lines)
  pub good : AreGood e

pub found_at1 : (a : Instance) (value : Option (ℤ × ℤ)) (lines : List CertLine) (at : ℕ) (e : Before) (x : CertLine) (why : NoWhy) (found : Option NoWhy) → at < length lines → x ≡ get_or lines at x → ArePassed a value lines at e
    → Finds (NoGoodFails a value e.no_goods x) found → found ≡ Some why → FindsFirst1 a value lines (Fails at why)
found_at1 a value lines at e x why found inside is h finds some =
    ((x, slice_get-get_or lines at x inside ∙ ap Some (sym is), subst (λ (ns : List (List Choice)). NoGoodFails a value ns x why) h.no_goods (subst (λ (r : Option NoWhy). Finds (NoGoodFails a value e.no_goods x) r) some finds)), h.passed)

pub none_here1 : (a : Instance) (value : Option (ℤ × ℤ)) (e : Before) (x : CertLine) (found : Option NoWhy) → Finds (NoGoodFails a value e.no_goods x) found → found ≡ None → (why : NoWhy) → NoGoodFails a value e.no_goods x why → ⊥
none_here1 a value e x found finds none = subst (λ (r : Option NoWhy). Finds (NoGoodFails a value e.no_goods x) r) none finds

first_more1 : (a : Instance) (value : Option (ℤ × ℤ)) (lines : List CertLine) (n : ℕ) (x : CertLine) → n < length lines → x ≡ get_or lines n x → FirstPass a value lines n
    → ((why : NoWhy) → NoGoodFails a value (map no_good_of (take n lines)) x why → ⊥) → FirstPass a value lines (n + 1)
first_more1 a value lines n x inside is before here k y why lt found fails = elim (cases_lt k n) [
  | inl below ↦ before k y why below found fails
  | inr above ↦
      let same : k ≡ n = omega (arith, lt, above) in
      let line : y ≡ x = same_Some y x (sym found ∙ ap (slice_get lines) same ∙ slice_get-get_or lines n x inside ∙ ap (λ z. Some z) (sym is)) in
      here why (subst (λ (z : CertLine). NoGoodFails a value (map no_good_of (take n lines)) z why) line (subst (λ (j : ℕ). NoGoodFails a value (map no_good_of (take j lines)) y why) same fails))
]

names_few : (x : CertLine) → IsLine x → NamesBelow 512 (no_good_of x)
names_few (Ray ng mult) form = form.0.pairs_named
names_few (Point ng e mult) form = form.0.pairs_named
names_few (Derived ng hints) form = form.0.pairs_named

pub passed_more : (a : Instance) (value : Option (ℤ × ℤ)) (lines : List CertLine) (at : ℕ) (e new : Before) (x : CertLine) (ng : List Choice) → at < length lines → x ≡ get_or lines at x → All IsLine lines → ArePassed a value lines at e
    → ((why : NoWhy) → NoGoodFails a value e.no_goods x why → ⊥) → ng ≡ no_good_of x → new ≡ with_no_good e ng → ArePassed a value lines (at + 1) new
passed_more a value lines at e new x ng inside is forms h here named made = subst (ArePassed a value lines (at + 1)) (sym made) (record {
  passed = first_more1 a value lines at x inside is h.passed (subst (λ (ns : List (List Choice)). (why : NoWhy) → NoGoodFails a value ns x why → ⊥) h.no_goods here);
  no_goods = ap (λ (ns : List (List Choice)). ns ++ ng ∷ []) h.no_goods ∙ ap (λ (n : List Choice). map no_good_of (take at lines) ++ n ∷ []) named
      ∙ sym (map_push no_good_of (take at lines) x) ∙ ap (λ (y : CertLine). map no_good_of (take at lines ++ y ∷ [])) is ∙ sym (ap (λ (ls : List CertLine). map no_good_of ls) (take_more lines at x inside));
  good = record {
    lists = h.good.lists;
    no_goods = All-push (NamesBelow 512) e.no_goods ng h.good.no_goods (subst (NamesBelow 512) (sym named) (names_few x (subst IsLine (sym is) (forms at x inside))));
  };
})

pub passed_all : (a : Instance) (value : Option (ℤ × ℤ)) (lines : List CertLine) (at : ℕ) (e : Before) (empty : Bool) → length lines ≤ at → at ≤ length lines → ArePassed a value lines at e
    → ((empty ≡ true) ↔ (slice_get e.no_goods (length e.no_goods - 1) ≡ Some [])) → FindsFirst1 a value lines (Passes empty)
passed_all a value lines at e empty past most h ends =
    let all : at ≡ length lines = omega (arith, past, most) in
    let whole : e.no_goods ≡ map no_good_of lines = h.no_goods ∙ ap (λ (ls : List CertLine). map no_good_of ls) (take_all at lines past) in
    let long : length e.no_goods ≡ length lines = ap length whole ∙ length-map lines no_good_of in
    let same : slice_get e.no_goods (length e.no_goods - 1) ≡ slice_get (map no_good_of lines) (length lines - 1) =
    ap (λ (ns : List (List Choice)). slice_get ns (length e.no_goods - 1)) whole ∙ ap (λ (n : ℕ). slice_get (map no_good_of lines) (n - 1)) long in
    (subst (λ (n : ℕ). FirstPass a value lines n) all h.passed, (λ t. sym same ∙ ends.0 t, λ f. ends.1 (same ∙ f)))

-- ---- the first line that fails

lines_from : (a : Instance) (value : Option (ℤ × ℤ)) (lines : List CertLine) (first n : ℕ) (why : NoWhy) → NoGoodsFail a value lines first n why → n < first → ⊥
lines_from a value lines first n why (inl x) before = omega (arith, x.3, before)
lines_from a value lines first n why (inr x) before = omega (arith, x.0, before)

-- the lines up to one pass
passed_up_to : (a : Instance) (value : Option (ℤ × ℤ)) (lines : List CertLine) (first at m : ℕ) (why : NoWhy) → at ≤ length lines → FirstPass a value lines at → NoGoodsFail a value lines first m why → m < first + at → ⊥
passed_up_to a value lines first at m why few pass (inl x) before = pass x.0 x.1 why (omega (arith, x.3, before)) x.2 x.4
passed_up_to a value lines first at m why few pass (inr x) before = omega (arith, x.0, before, few)

pub line_named : (a : Instance) (value : Option (ℤ × ℤ)) (lines : List CertLine) (first at n : ℕ) (why : NoWhy) → n ≡ first + at → FindsFirst1 a value lines (Fails at why) → NamesFirst (NoGoodsFail a value lines first) (No n why)
line_named a value lines first at n why is found =
    let x = found.0 in
    let few = slice_get_within lines at x.0 x.1 in (
      inl (at, x.0, x.1, is, x.2),
      λ m other before f. passed_up_to a value lines first at m other (omega (arith, few)) found.1 f (omega (arith, before, is)),
    )

pub end_named : (a : Instance) (value : Option (ℤ × ℤ)) (lines : List CertLine) (first n : ℕ) (empty : Bool) → n ≡ first + length lines → empty ≡ false → FindsFirst1 a value lines (Passes empty) → NamesFirst (NoGoodsFail a value lines first) (No n NotEmptyAtEnd)
end_named a value lines first n empty is gone found = (
  inr (is, refl, λ ends. both_ways empty gone (found.1.1 ends)),
  λ m other before f. passed_up_to a value lines first (length lines) m other (omega arith) found.0 f (omega (arith, before, is)),
)

pub all_pass : (a : Instance) (value : Option (ℤ × ℤ)) (lines : List CertLine) (first : ℕ) (empty : Bool) → empty ≡ true → FindsFirst1 a value lines (Passes empty) → (n : ℕ) (why : NoWhy) → NoGoodsFail a value lines first n why → ⊥
all_pass a value lines first empty there found n why (inl x) = found.0 x.0 x.1 why (slice_get_within lines x.0 x.1 x.2) x.2 x.4
all_pass a value lines first empty there found n why (inr x) = x.2 (found.1.0 there)

-- ---- a certificate of form 1

no_front : (a : Instance) (line : CertPoint) (z : ℤ) (v : Fraction) (n : ℕ) (why : NoWhy) → FrontPasses a line z v → FrontFails a line z n why → ⊥
no_front a line z v n why p (inl x) = p.point why x.1
no_front a line z v n why p (inr x) = x.2 p.cost

front_first : (a : Instance) (line : CertPoint) (z : ℤ) (n : ℕ) (why : NoWhy) → FrontFails a line z n why → n < 5
front_first a line z n why (inl x) = omega (arith, x.0)
front_first a line z n why (inr x) = omega (arith, x.0)

as_line : (a : Instance) (line : CertPoint) (z : ℤ) (lines : List CertLine) (n : ℕ) (why : NoWhy) → FrontFails a line z n why → LineFails a (cert.Optimal line z lines) n why
as_line a line z lines n why (inl x) = inl x
as_line a line z lines n why (inr x) = inr (inl x)

-- the lines of the point and its value, or those behind them
parts : (a : Instance) (line : CertPoint) (z : ℤ) (lines : List CertLine) (n : ℕ) (why : NoWhy) → LineFails a (cert.Optimal line z lines) n why → FrontFails a line z n why ⊎ NoGoodsFail a (Some (z, line.d)) lines 5 n why
parts a line z lines n why (inl x) = inl (inl x)
parts a line z lines n why (inr (inl x)) = inl (inr x)
parts a line z lines n why (inr (inr f)) = inr f

pub front_refused : (a : Instance) (line : CertPoint) (z : ℤ) (lines : List CertLine) (fault : CheckFault) → NamesFirst (FrontFails a line z) fault → RefusesAnyAs a (One (cert.Optimal line z lines)) fault
front_refused a line z lines (NoMemory e) h = tt
front_refused a line z lines (No n why) h = record { fails = as_line a line z lines n why h.0; first = λ m other before f. no_earlier m other before (parts a line z lines m other f) }
  where
    no_earlier : (m : ℕ) (other : NoWhy) → m < n → FrontFails a line z m other ⊎ NoGoodsFail a (Some (z, line.d)) lines 5 m other → ⊥
    no_earlier m other before (inl f) = h.1 m other before f
    no_earlier m other before (inr f) = lines_from a (Some (z, line.d)) lines 5 m other f (omega (arith, before, front_first a line z n why h.0))

pub lines_refused : (a : Instance) (line : CertPoint) (z : ℤ) (lines : List CertLine) (v : Fraction) (fault : CheckFault) {value : Option (ℤ × ℤ)} → FrontPasses a line z v → value ≡ Some (z, line.d) → NamesFirst (NoGoodsFail a value lines 5) fault → RefusesAnyAs a (One (cert.Optimal line z lines)) fault
lines_refused a line z lines v (NoMemory e) p same h = tt
lines_refused a line z lines v (No n why) p same h =
    let here = subst (λ w. NamesFirst (NoGoodsFail a w lines 5) (No n why)) same h in
    record { fails = inr (inr here.0); first = λ m other before f. no_earlier here.1 m other before (parts a line z lines m other f) }
  where
    no_earlier : ((m : ℕ) (other : NoWhy) → m < n → NoGoodsFail a (Some (z, line.d)) lines 5 m other → ⊥) → (m : ℕ) (other : NoWhy) → m < n → FrontFails a line z m other ⊎ NoGoodsFail a (Some (z, line.d)) lines 5 m other → ⊥
    no_earlier first m other before (inl f) = no_front a line z v m other p f
    no_earlier first m other before (inr f) = first m other before f

pub optimal_accepted : (a : Instance) (line : CertPoint) (z : ℤ) (lines : List CertLine) (v : Fraction) {value : Option (ℤ × ℤ)} → FrontPasses a line z v → value ≡ Some (z, line.d) → ((n : ℕ) (why : NoWhy) → NoGoodsFail a value lines 5 n why → ⊥)
    → AcceptsAny a (One (cert.Optimal line z lines)) (verdict.Optimal v)
optimal_accepted a line z lines v p same none = record {
  passes = λ n why f. passes (subst (λ w. (n : ℕ) (why : NoWhy) → NoGoodsFail a w lines 5 n why → ⊥) same none) n why (parts a line z lines n why f);
  claims = p.value;
}
  where
    passes : ((n : ℕ) (why : NoWhy) → NoGoodsFail a (Some (z, line.d)) lines 5 n why → ⊥) → (n : ℕ) (why : NoWhy) → FrontFails a line z n why ⊎ NoGoodsFail a (Some (z, line.d)) lines 5 n why → ⊥
    passes none n why (inl f) = no_front a line z v n why p f
    passes none n why (inr f) = none n why f

pub infeasible_refused : (a : Instance) (lines : List CertLine) (fault : CheckFault) → NamesFirst (NoGoodsFail a None lines 3) fault → RefusesAnyAs a (One (cert.Infeasible lines)) fault
infeasible_refused a lines (NoMemory e) h = tt
infeasible_refused a lines (No n why) h = record { fails = h.0; first = h.1 }

pub infeasible_accepted : (a : Instance) (lines : List CertLine) → ((n : ℕ) (why : NoWhy) → NoGoodsFail a None lines 3 n why → ⊥) → AcceptsAny a (One (cert.Infeasible lines)) verdict.Infeasible
infeasible_accepted a lines none = record { passes = none; claims = tt }

pub unbounded_accepted : (a : Instance) (c : Cert) (piece : List Choice) (point : CertPoint) (ray ray2 : List (ℕ × ℤ)) (r : Result Verdict CheckFault) → c ≡ cert.Unbounded piece point ray → ray2 ≡ ray
    → IfOk r (Accepts a (cert.Unbounded piece point ray2)) → IfOk r (AcceptsAny a (One c))
unbounded_accepted a c piece point ray ray2 r is same h =
    one_accepted a c r (subst (λ (d : Cert). IfOk r (Accepts a d)) (sym is) (subst (λ (ts : List (ℕ × ℤ)). IfOk r (Accepts a (cert.Unbounded piece point ts))) same h))

pub unbounded_refused : (a : Instance) (c : Cert) (piece : List Choice) (point : CertPoint) (ray ray2 : List (ℕ × ℤ)) (r : Result Verdict CheckFault) → c ≡ cert.Unbounded piece point ray → ray2 ≡ ray
    → IfErr r (RefusesAs a (cert.Unbounded piece point ray2)) → IfErr r (RefusesAnyAs a (One c))
unbounded_refused a c piece point ray ray2 r is same h =
    one_refused a c r (subst (λ (d : Cert). IfErr r (RefusesAs a d)) (sym is) (subst (λ (ts : List (ℕ × ℤ)). IfErr r (RefusesAs a (cert.Unbounded piece point ts))) same h))
