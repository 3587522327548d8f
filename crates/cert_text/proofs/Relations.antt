-- The first fault of a text as a function, and the relation that says the same. No rule of a line stands here.
use Rattle.std.proofs.Common.{◌≡◌, ℕ, ◌+◌, Bool, List, [], ◌∷◌, ◌++◌, length, Option, Some, None, refl, sym, ap, subst, ◌∙◌, append_assoc, ◌⊎◌, inl, inr}
use Rattle.std.proofs.lemmas.List.{append-nil}
use Rattle.cert_text.specs.declared.fault.CertWhy.{CertWhy}
use Rattle.cert_text.specs.Lines.{content, is_cut}
use Rattle.cert_text.specs.Faults.{end_fault}
use Rattle.cert_text.specs.Texts.{Judge, IsClean, FailsBehind, FailsBy}

abbrev Lines : Type 0
Lines = List (List ℕ)

abbrev pub numbered : ℕ → Option CertWhy → Option (ℕ × CertWhy)
numbered n None = None
numbered n (Some why) = Some (n, why)

abbrev pub or_later : Option CertWhy → ℕ → Option (ℕ × CertWhy) → Option (ℕ × CertWhy)
or_later (Some why) n later = Some (n, why)
or_later None n later = later

-- the first fault among the lines, behind those before, or behind all of them
abbrev pub first_fault : Judge → Bool → Lines → Lines → Option (ℕ × CertWhy)
first_fault judge cut before [] = numbered (length before + 1) (end_fault before cut)
first_fault judge cut before (l ∷ ls) = or_later (judge before l) (length before + 1) (first_fault judge cut (before ++ l ∷ []) ls)

abbrev is_fault : ℕ → CertWhy → Option (ℕ × CertWhy)
is_fault n w = Some (n, w)

moved : (before front : Lines) (l : List ℕ) → (before ++ l ∷ []) ++ front ≡ before ++ l ∷ front
moved before front l = append_assoc before (l ∷ []) front

step : (judge : Judge) (before ls : Lines) (l : List ℕ) (cut : Bool) (o : Option CertWhy) → judge before l ≡ o → first_fault judge cut before (l ∷ ls) ≡ or_later o (length before + 1) (first_fault judge cut (before ++ l ∷ []) ls)
step judge before ls l cut o e = ap (λ (x : Option CertWhy). or_later x (length before + 1) (first_fault judge cut (before ++ l ∷ []) ls)) e

-- a first fault is found

found : (judge : Judge) (before front rest : Lines) (l : List ℕ) (cut : Bool) (n : ℕ) (w : CertWhy) → IsClean judge before front → judge (before ++ front) l ≡ Some w → n ≡ length (before ++ front) + 1
    → first_fault judge cut before (front ++ l ∷ rest) ≡ is_fault n w
found judge before [] rest l cut n w clean fault number =
    step judge before rest l cut (Some w) (subst (λ (b : Lines). judge b l ≡ Some w) (append-nil before) fault)
    ∙ ap (λ (m : ℕ). is_fault m w) (sym (number ∙ ap (λ (b : Lines). length b + 1) (append-nil before)))
found judge before (k ∷ front) rest l cut n w clean fault number =
    step judge before (front ++ l ∷ rest) k cut None clean.0
    ∙ found judge (before ++ k ∷ []) front rest l cut n w clean.1 (subst (λ (b : Lines). judge b l ≡ Some w) (sym (moved before front k)) fault) (number ∙ ap (λ (b : Lines). length b + 1) (sym (moved before front k)))

found_behind : (judge : Judge) (before ls : Lines) (cut : Bool) (n : ℕ) (w : CertWhy) → IsClean judge before ls → end_fault (before ++ ls) cut ≡ Some w → n ≡ length (before ++ ls) + 1 → first_fault judge cut before ls ≡ is_fault n w
found_behind judge before [] cut n w clean fault number =
    let same : before ++ [] ≡ before = append-nil before in
    ap (λ (b : Lines). numbered (length b + 1) (end_fault b cut)) (sym same) ∙ ap (numbered (length (before ++ []) + 1)) fault ∙ ap (λ (m : ℕ). is_fault m w) (sym number)
found_behind judge before (l ∷ ls) cut n w clean fault number =
    step judge before ls l cut None clean.0
    ∙ found_behind judge (before ++ l ∷ []) ls cut n w clean.1 (subst (λ (b : Lines). end_fault b cut ≡ Some w) (sym (moved before ls l)) fault) (number ∙ ap (λ (b : Lines). length b + 1) (sym (moved before ls l)))

pub fault_found : (judge : Judge) (text : List ℕ) (n : ℕ) (w : CertWhy) → FailsBy judge text n w → first_fault judge (is_cut text) [] (content text) ≡ Some (n, w)
fault_found judge text n w (inl f) = subst (λ (ls : Lines). first_fault judge (is_cut text) [] ls ≡ is_fault n w) (sym f.lines_are) (found judge [] f.front f.rest f.line (is_cut text) n w f.clean f.fault f.number_is)
fault_found judge text n w (inr f) = found_behind judge [] (content text) (is_cut text) n w f.clean f.fault f.number_is

-- what is found is a first fault

abbrev FailsFrom : Judge → Lines → Lines → Bool → ℕ → CertWhy → Type 0
FailsFrom judge before ls cut n w = FailsBehind judge before ls n w ⊎ (IsClean judge before ls × (end_fault (before ++ ls) cut ≡ Some w) × (n ≡ length (before ++ ls) + 1))

pub same_fault : (m n : ℕ) (v w : CertWhy) → is_fault m v ≡ is_fault n w → (m ≡ n) × (v ≡ w)
same_fault m n v w e = let p = pair_same (m, v) (n, w) e in (ap (λ (x : ℕ × CertWhy). x.0) p, ap (λ (x : ℕ × CertWhy). x.1) p)
  where
    some_of : ℕ × CertWhy → Option (ℕ × CertWhy)
    some_of x = Some x

    pair_same : (x y : ℕ × CertWhy) → some_of x ≡ some_of y → x ≡ y
    pair_same x y e = cc

at_end : (judge : Judge) (before : Lines) (cut : Bool) (n : ℕ) (w : CertWhy) (o : Option CertWhy) → end_fault before cut ≡ o → numbered (length before + 1) o ≡ is_fault n w → FailsFrom judge before [] cut n w
at_end judge before cut n w None e h = absurd cc
at_end judge before cut n w (Some v) e h =
    let same = same_fault (length before + 1) n v w h in
    inr (
      tt,
      ap (λ (b : Lines). end_fault b cut) (append-nil before) ∙ e ∙ ap (λ (x : CertWhy). Some x) same.1,
      sym same.0 ∙ ap (λ (b : Lines). length b + 1) (sym (append-nil before)),
    )

more : (judge : Judge) (before ls : Lines) (l : List ℕ) (cut : Bool) (n : ℕ) (w : CertWhy) → judge before l ≡ None → FailsFrom judge (before ++ l ∷ []) ls cut n w → FailsFrom judge before (l ∷ ls) cut n w
more judge before ls l cut n w e (inl f) = inl (record {
  front = l ∷ f.front;
  line = f.line;
  rest = f.rest;
  lines_are = ap (λ (x : Lines). l ∷ x) f.lines_are;
  clean = (e, f.clean);
  fault = subst (λ (x : Lines). judge x f.line ≡ Some w) (moved before f.front l) f.fault;
  number_is = f.number_is ∙ ap (λ (x : Lines). length x + 1) (moved before f.front l);
})
more judge before ls l cut n w e (inr f) = inr ((e, f.0), subst (λ (x : Lines). end_fault x cut ≡ Some w) (moved before ls l) f.1, f.2 ∙ ap (λ (x : Lines). length x + 1) (moved before ls l))

at_line : (judge : Judge) (before ls : Lines) (l : List ℕ) (cut : Bool) (n : ℕ) (w : CertWhy) (o : Option CertWhy) → judge before l ≡ o → (first_fault judge cut (before ++ l ∷ []) ls ≡ is_fault n w → FailsFrom judge (before ++ l ∷ []) ls cut n w)
    → or_later o (length before + 1) (first_fault judge cut (before ++ l ∷ []) ls) ≡ is_fault n w → FailsFrom judge before (l ∷ ls) cut n w
at_line judge before ls l cut n w None e next h = more judge before ls l cut n w e (next h)
at_line judge before ls l cut n w (Some v) e next h =
    let same = same_fault (length before + 1) n v w h in
    inl (record {
      front = [];
      line = l;
      rest = ls;
      lines_are = refl;
      clean = tt;
      fault = ap (λ (x : Lines). judge x l) (append-nil before) ∙ e ∙ ap (λ (x : CertWhy). Some x) same.1;
      number_is = sym same.0 ∙ ap (λ (x : Lines). length x + 1) (sym (append-nil before));
    })

fails_from : (judge : Judge) (before ls : Lines) (cut : Bool) (n : ℕ) (w : CertWhy) → first_fault judge cut before ls ≡ is_fault n w → FailsFrom judge before ls cut n w
fails_from judge before [] cut n w h = at_end judge before cut n w (end_fault before cut) refl h
fails_from judge before (l ∷ ls) cut n w h = at_line judge before ls l cut n w (judge before l) refl (λ k. fails_from judge (before ++ l ∷ []) ls cut n w k) h

as_fails : (judge : Judge) (text : List ℕ) (n : ℕ) (w : CertWhy) → FailsFrom judge [] (content text) (is_cut text) n w → FailsBy judge text n w
as_fails judge text n w (inl f) = inl f
as_fails judge text n w (inr f) = inr (record { clean = f.0; fault = f.1; number_is = f.2 })

pub found_fails : (judge : Judge) (text : List ℕ) (n : ℕ) (w : CertWhy) → first_fault judge (is_cut text) [] (content text) ≡ Some (n, w) → FailsBy judge text n w
found_fails judge text n w h = as_fails judge text n w (fails_from judge [] (content text) (is_cut text) n w h)
