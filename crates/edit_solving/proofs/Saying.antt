-- What the commands before a place of a script say, and those behind it.
use Rattle.std.proofs.Common.{ℕ, suc, ◌+◌, ◌<◌, ◌≤◌, ◌≡◌, ◌≢◌, refl, sym, ◌∙◌, ap, subst, arith, inl, inr, ◌⊎◌, List, [], ◌∷◌, ◌++◌, length, get_or, drop}
use Rattle.std.specs.Prelude.{Result, Ok, Err}
use Rattle.std.proofs.lemmas.List.{append-nil, append_assoc, drop_all}
use Rattle.std.proofs.Math.Seq.{drop-cons}
use Rattle.command.specs.declared.refusal.Refusal.TheVariants.{NoMemory as short}
use Rattle.edit_session.specs.Answers.{SessionView}
use Rattle.edit_text.specs.declared.script.Command.{Command}
use Rattle.editing.specs.declared.refusal.EditRefusal.{EditRefusal}
use Rattle.editing.specs.declared.refusal.EditRefusal.TheVariants.{Input, Script}
use Rattle.editing.specs.declared.refusal.EditWhy.{EditWhy}
use Rattle.edit_solving.specs.Scripts.{IsDone, IsRefused, Said, Says, behind}

-- the commands left say something: the text before stands in front of it
abbrev pub GoesOn : SessionView → List Command → SessionView → ℕ → List Command → List ℕ → Type 0
GoesOn first all s line left text = (said : Said) → Says s line left said → Says first 1 all (behind text said)

pub begun : (s : SessionView) (all : List Command) → GoesOn s all s 1 all []
begun s all (Ok said) says = says
begun s all (Err refusal) says = says

behind_twice : (text more : List ℕ) (said : Said) → behind text (behind more said) ≡ behind (text ++ more) said
behind_twice text more (Ok said) = ap (λ (t : List ℕ). Ok (t, said.1)) (sym (append_assoc text more said.0))
behind_twice text more (Err refusal) = refl

pub gone_on : (first s t : SessionView) (all : List Command) (c : Command) (left : List Command) (line status : ℕ) (text more : List ℕ) → IsDone c s t more status → status ≡ 0
    → GoesOn first all s line (c ∷ left) text → GoesOn first all t (line + 1) left (text ++ more)
gone_on first s t all c left line status text more done zero before said says =
    subst (Says first 1 all) (behind_twice text more said) (before (behind more said) (inr (t, more, status, done, inr (zero, said, says, refl))))

pub stopped : (first s t : SessionView) (all : List Command) (c : Command) (left : List Command) (line status : ℕ) (text more : List ℕ) → IsDone c s t more status → status ≢ 0
    → GoesOn first all s line (c ∷ left) text → Says first 1 all (Ok (text ++ more, status))
stopped first s t all c left line status text more done other before = before (Ok (more, status)) (inr (t, more, status, done, inl (other, refl)))

pub refused : (first s : SessionView) (all : List Command) (c : Command) (left : List Command) (line : ℕ) (text : List ℕ) (why : EditWhy) → IsRefused s.kept.case_of c why
    → GoesOn first all s line (c ∷ left) text → Says first 1 all (Err (Script line why))
refused first s all c left line text why bad before = before (Err (Script line why)) (inl (why, bad, refl))

pub ended : (first s : SessionView) (all : List Command) (line : ℕ) (text : List ℕ) → GoesOn first all s line [] text → Says first 1 all (Ok (text, 0))
ended first s all line text before = subst (λ (t : List ℕ). Says first 1 all (Ok (t, 0))) (append-nil text) (before (Ok ([], 0)) refl)

-- ---- at a place of the script

at_place : (first s : SessionView) (all : List Command) (i line : ℕ) (x : Command) (text : List ℕ) → i < length all → x ≡ get_or all i x → GoesOn first all s line (drop i all) text → GoesOn first all s line (x ∷ drop (i + 1) all) text
at_place first s all i line x text inside is before =
    let next : suc i ≡ i + 1 = omega arith in
    let here : drop i all ≡ x ∷ drop (i + 1) all = drop-cons all i x inside ∙ ap (λ (n : ℕ). get_or all i x ∷ drop n all) next ∙ ap (λ (c : Command). c ∷ drop (i + 1) all) (sym is) in
    subst (λ (left : List Command). GoesOn first all s line left text) here before

-- what following one command comes to
abbrev pub IsFollowed : Command → SessionView → SessionView → List ℕ → List ℕ → ℕ → Type 0
IsFollowed c s t text now status = (more : List ℕ) × (now ≡ text ++ more) × IsDone c s t more status

pub gone_on_at : (first s t : SessionView) (all : List Command) (i line status : ℕ) (x : Command) (text now : List ℕ) → i < length all → x ≡ get_or all i x → IsFollowed x s t text now status → status ≡ 0
    → (line ≡ i + 1) × GoesOn first all s line (drop i all) text → (line + 1 ≡ i + 1 + 1) × GoesOn first all t (line + 1) (drop (i + 1) all) now
gone_on_at first s t all i line status x text now inside is done nought (number, before) =
    (omega (arith, number), subst (GoesOn first all t (line + 1) (drop (i + 1) all)) (sym done.1) (gone_on first s t all x (drop (i + 1) all) line status text done.0 done.2 nought (at_place first s all i line x text inside is before)))

pub stopped_at : (first s t : SessionView) (all : List Command) (i line status : ℕ) (x : Command) (text now : List ℕ) → i < length all → x ≡ get_or all i x → IsFollowed x s t text now status → status ≢ 0
    → GoesOn first all s line (drop i all) text → Says first 1 all (Ok (now, status))
stopped_at first s t all i line status x text now inside is done other before =
    subst (λ (y : List ℕ). Says first 1 all (Ok (y, status))) (sym done.1) (stopped first s t all x (drop (i + 1) all) line status text done.0 done.2 other (at_place first s all i line x text inside is before))

pub refused_at : (first s : SessionView) (all : List Command) (i line : ℕ) (x : Command) (text : List ℕ) (r : EditRefusal) → i < length all → x ≡ get_or all i x → (r ≡ Input short) ⊎ ((why : EditWhy) × IsRefused s.kept.case_of x why × (r ≡ Script line why))
    → GoesOn first all s line (drop i all) text → (r ≡ Input short) ⊎ Says first 1 all (Err r)
refused_at first s all i line x text r inside is (inl none) before = inl none
refused_at first s all i line x text r inside is (inr (why, bad, same)) before =
    inr (subst (λ (y : EditRefusal). Says first 1 all (Err y)) (sym same) (refused first s all x (drop (i + 1) all) line text why bad (at_place first s all i line x text inside is before)))

pub ended_at : (first s : SessionView) (all : List Command) (i line : ℕ) (text : List ℕ) → length all ≤ i → GoesOn first all s line (drop i all) text → Says first 1 all (Ok (text, 0))
ended_at first s all i line text past before = ended first s all line text (subst (λ (left : List Command). GoesOn first all s line left text) (drop_all i all past) before)
