-- Why one line fails, over what the lines before it say.
use Rattle.std.proofs.Common.{◌≡◌, ℕ, ◌<◌, ◌≤◌, Bool, true, false, List, [], length, get_or, Option, Some, None, refl, sym, ap, subst, ◌∙◌, inl, inr, arith, ℤ}
use Rattle.std.specs.Prelude.{All, IfOk, Result, Ok, Err, ◌↔◌}
use Rattle.std.proofs.lemmas.Bool.{both_ways}
use Rattle.nogoods.specs.declared.choice.Choice.{Choice}
use Rattle.lpcc_case.specs.Instance.{Instance}
use Rattle.cert_text.specs.declared.cert.CertLine.TheVariants as line
use Rattle.cert_check.specs.declared.accept.NoWhy.{NoWhy}
use Rattle.cert_check.specs.declared.accept.NoWhy.TheVariants.{ListFails, DropFails}
use Rattle.cert_check.specs.Acceptance.{NoGoodFails, HintsPass}
use Rattle.cert_check.specs.Results.{Finds}
use Rattle.cert_check.proofs.Stable.{Holds, all_stable, below_stable}
use Rattle.cert2_text.specs.declared.cert2.Cert2Line.{Cert2Line}
use Rattle.cert2_text.specs.declared.cert2.Cert2Line.TheVariants.{Shared, Ray, Point, Derived, Forget}
use Rattle.cert2_text.specs.Wholes.{Terms, Said, is_dropped, together, all_terms, dropped_in}
use Rattle.cert2_check.specs.Acceptance2.{CutFails2, PointFails2, AreKept, MayDrop, HintsPass2, Line2Fails}
use Rattle.cert2_check.specs.Results2.{Before, Flags, Shows}

-- ---- cuts whose multipliers are their own and those of a list

abbrev pub Cut : List Terms → Option ℕ → Terms → (Terms → NoWhy → Type 0) → NoWhy → Type 0
Cut lists list own G why = CutFails2 lists list (G (all_terms lists list own) why) why

pub cut_plain : (lists : List Terms) (list : Option ℕ) (own : Terms) (G : Terms → NoWhy → Type 0) (r : Option NoWhy) → list ≡ None → Finds (G own) r → Finds (Cut lists list own G) r
cut_plain lists list own G r e h = subst (λ (l : Option ℕ). Finds (Cut lists l own G) r) (sym e) (by_result r h)
  where
    by_result : (r : Option NoWhy) → Finds (G own) r → Finds (Cut lists None own G) r
    by_result None h = λ why f. elim f [
      | inl x ↦ x.1 tt
      | inr y ↦ h why y.1
    ]
    by_result (Some w) h = inr (tt, h)

pub cut_listed : (lists : List Terms) (list : Option ℕ) (n : ℕ) (own shared all : Terms) (G : Terms → NoWhy → Type 0) (r : Option NoWhy) → list ≡ Some n → n < length lists → shared ≡ get_or lists n [] → all ≡ together shared own
    → Finds (G all) r → Finds (Cut lists list own G) r
cut_listed lists list n own shared all G r e inside here merged h =
    subst (λ (l : Option ℕ). Finds (Cut lists l own G) r) (sym e)
    (by_result r (subst (λ (ts : Terms). Finds (G ts) r) (merged ∙ ap (λ (ts : Terms). together ts own) here) h))
  where
    by_result : (r : Option NoWhy) → Finds (G (together (get_or lists n []) own)) r → Finds (Cut lists (Some n) own G) r
    by_result None h = λ why f. elim f [
      | inl x ↦ x.1 inside
      | inr y ↦ h why y.1
    ]
    by_result (Some w) h = inr (inside, h)

pub cut_unlisted : (lists : List Terms) (list : Option ℕ) (n : ℕ) (own : Terms) (G : Terms → NoWhy → Type 0) → list ≡ Some n → length lists ≤ n → Cut lists list own G ListFails
cut_unlisted lists list n own G e outside = subst (λ (l : Option ℕ). Cut lists l own G ListFails) (sym e) (inl (refl, λ inside. omega (arith, inside, outside)))

-- ---- the same, over what the lines before say

abbrev Over : {E : Type 0} → Instance → Option (ℤ × ℤ) → Before → Cert2Line → Result (Option NoWhy) E → Type 0
Over a value e x r = IfOk r (λ found. (said : Said) → Shows e said → Finds (Line2Fails a value said x) found)

pub ray_over : {E : Type 0} (a : Instance) (value : Option (ℤ × ℤ)) (e : Before) (x : Cert2Line) (ng : List Choice) (list : Option ℕ) (own mult : Terms) (r : Result (Option NoWhy) E) → x ≡ Ray ng list mult → own ≡ mult
    → IfOk r (Finds (Cut e.lists list own (λ m. NoGoodFails a None [] (line.Ray ng m)))) → Over a value e x r
ray_over a value e x ng list own mult (Err m) is same h = tt
ray_over a value e x ng list own mult (Ok found) is same h =
    λ said s. subst (λ (y : Cert2Line). Finds (Line2Fails a value said y) found) (sym is)
    (subst (λ (ts : Terms). Finds (Line2Fails a value said (Ray ng list ts)) found) same
    (subst (λ (ls : List Terms). Finds (Cut ls list own (λ m. NoGoodFails a None [] (line.Ray ng m))) found) s.lists h))

pub point_over : {E : Type 0} (a : Instance) (value : Option (ℤ × ℤ)) (v : ℤ × ℤ) (e : Before) (ng : List Choice) (k k2 : ℤ) (list : Option ℕ) (own : Terms) (r : Result (Option NoWhy) E) → value ≡ Some v → k2 ≡ k
    → IfOk r (Finds (Cut e.lists list own (λ m. NoGoodFails a value [] (line.Point ng k2 m)))) → IfOk r (λ found. (said : Said) → Shows e said → Finds (PointFails2 a value said ng k list own) found)
point_over a value v e ng k k2 list own (Err m) is same h = tt
point_over a value v e ng k k2 list own (Ok found) is same h =
    λ said s. subst (λ (w : Option (ℤ × ℤ)). Finds (PointFails2 a w said ng k list own) found) (sym is)
    (subst (λ (n : ℤ). Finds (PointFails2 a (Some v) said ng n list own) found) same
    (subst (λ (ls : List Terms). Finds (Cut ls list own (λ m. NoGoodFails a (Some v) [] (line.Point ng k2 m))) found) s.lists
    (subst (λ (w : Option (ℤ × ℤ)). Finds (Cut e.lists list own (λ m. NoGoodFails a w [] (line.Point ng k2 m))) found) is h)))

pub point_line : {E : Type 0} (a : Instance) (value : Option (ℤ × ℤ)) (e : Before) (x : Cert2Line) (ng : List Choice) (k k2 : ℤ) (list : Option ℕ) (own mult : Terms) (r : Result (Option NoWhy) E) → x ≡ Point ng k list mult → own ≡ mult → k2 ≡ k
    → IfOk r (λ found. (said : Said) → Shows e said → Finds (PointFails2 a value said ng k2 list own) found) → Over a value e x r
point_line a value e x ng k k2 list own mult (Err m) is same again h = tt
point_line a value e x ng k k2 list own mult (Ok found) is same again h =
    λ said s. subst (λ (y : Cert2Line). Finds (Line2Fails a value said y) found) (sym is)
    (subst (λ (ts : Terms). Finds (PointFails2 a value said ng k list ts) found) same (subst (λ (n : ℤ). Finds (PointFails2 a value said ng n list own) found) again (h said s)))

pub forget_passes : (a : Instance) (value : Option (ℤ × ℤ)) (e : Before) (x : Cert2Line) (lines : List ℕ) (b : Bool) → x ≡ Forget lines → ((said : Said) → Shows e said → (b ≡ true) ↔ MayDrop said lines) → b ≡ true
    → (said : Said) → Shows e said → (why : NoWhy) → Line2Fails a value said x why → ⊥
forget_passes a value e x lines b is may holds said s why f =
    (subst (λ (y : Cert2Line). Line2Fails a value said y why) is f).1 ((may said s).0 holds)

pub forget_fails : (a : Instance) (value : Option (ℤ × ℤ)) (e : Before) (x : Cert2Line) (lines : List ℕ) (b : Bool) → x ≡ Forget lines → ((said : Said) → Shows e said → (b ≡ true) ↔ MayDrop said lines) → b ≡ false
    → (said : Said) → Shows e said → Line2Fails a value said x DropFails
forget_fails a value e x lines b is may fails said s =
    subst (λ (y : Cert2Line). Line2Fails a value said y DropFails) (sym is) (refl, λ m. both_ways b fails ((may said s).1 m))

-- ---- dropped lines

kept_there : (flags : List Bool) (dropped hints : List ℕ) → Flags flags dropped → All (λ h. get_or flags h false ≡ false) hints → AreKept dropped hints
kept_there flags dropped hints f kept k d inside = sym (f (get_or hints k d)) ∙ kept k d inside

kept_back : (flags : List Bool) (dropped hints : List ℕ) → Flags flags dropped → AreKept dropped hints → All (λ h. get_or flags h false ≡ false) hints
kept_back flags dropped hints f kept k d inside = f (get_or hints k d) ∙ kept k d inside

pub kept_over : (e : Before) (said : Said) (hints : List ℕ) → Shows e said → All (λ h. get_or e.dropped h false ≡ false) hints ↔ AreKept said.dropped hints
kept_over e said hints s = (kept_there e.dropped said.dropped hints s.flags, kept_back e.dropped said.dropped hints s.flags)

pub drops_over : (e : Before) (said : Said) (lines : List ℕ) → Shows e said → All (λ h. (h < length e.no_goods) × (get_or e.dropped h false ≡ false)) lines ↔ MayDrop said lines
drops_over e said lines s = (
  λ all k d inside. let h = all k d inside in (omega (arith, h.0, ap length s.no_goods), sym (s.flags (get_or lines k d)) ∙ h.1),
  λ all k d inside. let h = all k d inside in (omega (arith, h.0, ap length s.no_goods), s.flags (get_or lines k d) ∙ h.1),
)

pub hints_over : (a : Instance) (e : Before) (said : Said) (ng : List Choice) (hints : List ℕ) → Shows e said → (HintsPass a e.no_goods ng hints × All (λ h. get_or e.dropped h false ≡ false) hints) ↔ HintsPass2 a said ng hints
hints_over a e said ng hints s =
    let k = kept_over e said hints s in (
      λ h. (subst (λ (ns : List (List Choice)). HintsPass a ns ng hints) s.no_goods h.0, k.0 h.1),
      λ h. (subst (λ (ns : List (List Choice)). HintsPass a ns ng hints) (sym s.no_goods) h.0, k.1 h.1),
    )

-- what is dropped by a line that does not fail is there

bool_stable : (b : Bool) → Holds (b ≡ false) → b ≡ false
bool_stable false h = refl
bool_stable true h = absurd (h (λ e. absurd cc))

drops_stable : (said : Said) (lines : List ℕ) → Holds (MayDrop said lines) → MayDrop said lines
drops_stable said lines h =
    all_stable (λ n. (n < length said.no_goods) × (is_dropped said.dropped n ≡ false)) lines
    (λ n one. (below_stable n (length said.no_goods) (λ never. one (λ x. never x.0)), bool_stable (is_dropped said.dropped n) (λ never. one (λ x. never x.1)))) h

pub dropped_inside : (a : Instance) (value : Option (ℤ × ℤ)) (e : Before) (said : Said) (x : Cert2Line) → Shows e said → ((why : NoWhy) → Line2Fails a value said x why → ⊥) → All (λ h. h < length e.dropped) (dropped_in x)
dropped_inside a value e said (Shared mult) s passes = λ k d inside. absurd (omega (arith, inside))
dropped_inside a value e said (Ray ng list mult) s passes = λ k d inside. absurd (omega (arith, inside))
dropped_inside a value e said (Point ng c list mult) s passes = λ k d inside. absurd (omega (arith, inside))
dropped_inside a value e said (Derived ng hints) s passes = λ k d inside. absurd (omega (arith, inside))
dropped_inside a value e said (Forget hs) s passes =
    let there = drops_stable said hs (λ never. passes DropFails (refl, never)) in
    λ k d inside. omega (arith, (there k d inside).0, s.size, ap length s.no_goods)
