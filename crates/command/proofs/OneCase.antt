-- The bytes of an input begin with one case at most, or are the cause of one refusal.
use Rattle.std.proofs.Common.{ℕ, ◌≡◌, ◌∙◌, refl, sym, ap, subst, arith, List, Option, None, Some, drop, ◌⊎◌, inl, inr}
use Rattle.std.specs.Prelude.{Result, Ok, Err}
use Rattle.lpcc_case.specs.Instance.{Instance}
use Rattle.decks.specs.Texts.{Spells, Fails}
use Rattle.decks.specs.declared.deck.Deck as decks
use Rattle.decks.specs.declared.fault.DeckWhy.{DeckWhy}
use Rattle.decks.specs.declared.fault.DeckWhy.TheVariants.{AfterEnd}
use Rattle.deck_case.specs.declared.fault.CaseFault.{CaseFault}
use Rattle.deck_case.specs.declared.fault.CaseFault.TheVariants as case_fault
use Rattle.deck_case.specs.DeckCases.{HasCase}
use Rattle.deck_case.specs.Faults.{HasCaseFault}
use Rattle.command.specs.Inputs.{HasNoCase, IsFaulty, IsReadAlone, IsRefusal, IsTaken, SpellsCase, unwanted}
use Rattle.command.specs.Refusals.{of_case_fault}
use Rattle.command.specs.declared.extent.Extent.{Extent}
use Rattle.command.specs.declared.extent.Extent.TheVariants.{Alone}
use Rattle.command.specs.declared.refusal.Refusal.{Refusal}
use Rattle.command.specs.declared.refusal.Refusal.TheVariants.{ReadFault, TooLong, Deck, RowWide, TooMany, NoMemory}

-- what the crates below promise of texts and cases
pub record Laws : Type 0 where
  pub one_deck : (text : List ℕ) (d e : decks.Deck) (p q : ℕ) → Spells text d p → Spells text e q → (d ≡ e) × (p ≡ q)
  pub deck_or_fault : (text : List ℕ) (d : decks.Deck) (p line : ℕ) (why : DeckWhy) → Spells text d p → Fails text line why → ⊥
  pub one_deck_fault : (text : List ℕ) (m n : ℕ) (v w : DeckWhy) → Fails text m v → Fails text n w → (m ≡ n) × (v ≡ w)
  pub one_case : (d : decks.Deck) (a b : Instance) → HasCase d a → HasCase d b → a ≡ b
  pub one_case_fault : (d : decks.Deck) (f g : CaseFault) → HasCaseFault d f → HasCaseFault d g → f ≡ g
  pub case_or_fault : (d : decks.Deck) (a : Instance) (f : CaseFault) → HasCase d a → HasCaseFault d f → ⊥

-- ---- cases

pub one : Laws → (e : Extent) (bytes : List ℕ) (a b : Instance) (rest other : List ℕ) → SpellsCase e bytes a rest → SpellsCase e bytes b other → (a ≡ b) × (rest ≡ other)
one l e bytes a b rest other h k =
    let same = l.one_deck bytes h.deck k.deck h.place k.place h.spelled k.spelled in (
      l.one_case k.deck a b (subst (λ (d : decks.Deck). HasCase d a) same.0 h.case) k.case,
      h.behind ∙ ap (λ p. drop p bytes) same.1 ∙ sym k.behind,
    )

-- ---- refusals

none_some : (o : Option ℕ) (n : ℕ) → o ≡ None → o ≡ Some n → ⊥
none_some o n h k =
    let e : None ≡ Some n = sym h ∙ k in
    absurd (cc e)

value_in : ℕ → Option ℕ → ℕ
value_in default None = default
value_in default (Some n) = n

one_line : (o : Option ℕ) (m n : ℕ) → o ≡ Some m → o ≡ Some n → m ≡ n
unfolding value_in
one_line o m n h k = ap (value_in 0) (sym h ∙ k)

-- what is wrong behind the first lines, which spell a deck
Behind : Extent → List ℕ → decks.Deck → ℕ → Refusal → Type 0
Behind e bytes d p r =
    ((line : ℕ) × (r ≡ Deck line AfterEnd) × (unwanted e bytes p ≡ Some line))
    ⊎ ((f : CaseFault) × (r ≡ of_case_fault f) × (unwanted e bytes p ≡ None) × HasCaseFault d f)

Faulty : Extent → List ℕ → Refusal → Type 0
Faulty e bytes r =
    ((line : ℕ) × (why : DeckWhy) × (r ≡ Deck line why) × Fails bytes line why)
    ⊎ ((d : decks.Deck) × (p : ℕ) × Spells bytes d p × Behind e bytes d p r)

of_no_case : (e : Extent) (bytes : List ℕ) (f : CaseFault) → HasNoCase e bytes f → Faulty e bytes (of_case_fault f)
unfolding Faulty Behind
of_no_case e bytes f h = inr (h.deck, h.place, h.spelled, inr (f, refl, h.alone, h.no_case))

faulty : (e : Extent) (bytes : List ℕ) (r : Refusal) → IsFaulty e bytes r → Faulty e bytes r
unfolding Faulty Behind
faulty e bytes ReadFault h = absurd h
faulty e bytes TooLong h = absurd h
faulty e bytes (Deck line why) (inl h) = inl (line, why, refl, h)
faulty e bytes (Deck line why) (inr h) = inr (h.1.deck, h.1.place, h.1.spelled, inl (line, ap (λ w. Deck line w) h.0, h.1.first))
faulty e bytes (RowWide line) h = of_no_case e bytes (case_fault.RowWide line) h
faulty e bytes (TooMany line) h = of_no_case e bytes (case_fault.TooMany line) h
faulty e bytes NoMemory h = absurd h

same_behind : Laws → (e : Extent) (bytes : List ℕ) (d : decks.Deck) (p : ℕ) (r s : Refusal) → Behind e bytes d p r → Behind e bytes d p s → r ≡ s
unfolding Behind
same_behind l e bytes d p r s (inl h) (inl k) = h.1 ∙ ap (λ line. Deck line AfterEnd) (one_line (unwanted e bytes p) h.0 k.0 h.2 k.2) ∙ sym k.1
same_behind l e bytes d p r s (inl h) (inr k) = absurd (none_some (unwanted e bytes p) h.0 k.2 h.2)
same_behind l e bytes d p r s (inr h) (inl k) = absurd (none_some (unwanted e bytes p) k.0 h.2 k.2)
same_behind l e bytes d p r s (inr h) (inr k) = h.1 ∙ ap of_case_fault (l.one_case_fault d h.0 k.0 h.3 k.3) ∙ sym k.1

same_faulty : Laws → (e : Extent) (bytes : List ℕ) (r s : Refusal) → Faulty e bytes r → Faulty e bytes s → r ≡ s
unfolding Faulty
same_faulty l e bytes r s (inl h) (inl k) =
    let same = l.one_deck_fault bytes h.0 k.0 h.1 k.1 h.3 k.3 in
    cc (h.2, k.2, same.0, same.1)
same_faulty l e bytes r s (inl h) (inr k) = absurd (l.deck_or_fault bytes k.0 k.1 h.0 h.1 k.2 h.3)
same_faulty l e bytes r s (inr h) (inl k) = absurd (l.deck_or_fault bytes h.0 h.1 k.0 k.1 h.2 k.3)
same_faulty l e bytes r s (inr h) (inr k) =
    let same = l.one_deck bytes h.0 k.0 h.1 k.1 h.2 k.2 in
    let moved = subst (λ (d : decks.Deck). Behind e bytes d k.1 r) same.0 (subst (λ (p : ℕ). Behind e bytes h.0 p r) same.1 h.3) in
    same_behind l e bytes k.0 k.1 r s moved k.3

pub one_refusal : Laws → (limit : ℕ) (e : Extent) (bytes : List ℕ) (r s : Refusal) → IsRefusal limit e bytes r → IsRefusal limit e bytes s → r ≡ s
one_refusal l limit e bytes r s (inl h) (inl k) = h.0 ∙ sym k.0
one_refusal l limit e bytes r s (inl h) (inr k) = absurd (omega (arith, h.1, k.0))
one_refusal l limit e bytes r s (inr h) (inl k) = absurd (omega (arith, h.0, k.1))
one_refusal l limit e bytes r s (inr h) (inr k) = same_faulty l e bytes r s (faulty e bytes r h.1) (faulty e bytes s k.1)

-- ---- not both

case_or_behind : Laws → (e : Extent) (bytes : List ℕ) (d : decks.Deck) (p : ℕ) (a : Instance) (r : Refusal) → unwanted e bytes p ≡ None → HasCase d a → Behind e bytes d p r → ⊥
unfolding Behind
case_or_behind l e bytes d p a r none case (inl h) = none_some (unwanted e bytes p) h.0 none h.2
case_or_behind l e bytes d p a r none case (inr h) = l.case_or_fault d a h.0 case h.3

case_or_faulty : Laws → (e : Extent) (bytes : List ℕ) (a : Instance) (rest : List ℕ) (r : Refusal) → SpellsCase e bytes a rest → Faulty e bytes r → ⊥
unfolding Faulty
case_or_faulty l e bytes a rest r h (inl k) = l.deck_or_fault bytes h.deck h.place k.0 k.1 h.spelled k.3
case_or_faulty l e bytes a rest r h (inr k) =
    let same = l.one_deck bytes k.0 h.deck k.1 h.place k.2 h.spelled in
    let moved = subst (λ (d : decks.Deck). Behind e bytes d h.place r) same.0 (subst (λ (p : ℕ). Behind e bytes k.0 p r) same.1 k.3) in
    case_or_behind l e bytes h.deck h.place a r h.alone h.case moved

pub not_both : Laws → (limit : ℕ) (e : Extent) (bytes : List ℕ) (a : Instance) (rest : List ℕ) (r : Refusal) → IsTaken limit bytes → SpellsCase e bytes a rest → IsRefusal limit e bytes r → ⊥
not_both l limit e bytes a rest r taken h (inl k) = omega (arith, taken, k.1)
not_both l limit e bytes a rest r taken h (inr k) = case_or_faulty l e bytes a rest r h (faulty e bytes r k.1)

-- ---- a deck alone

abbrev pub OneCase : Type 0
OneCase = (e : Extent) (bytes : List ℕ) (a b : Instance) (rest other : List ℕ) → SpellsCase e bytes a rest → SpellsCase e bytes b other → (a ≡ b) × (rest ≡ other)

abbrev pub NotBoth : Type 0
NotBoth = (limit : ℕ) (e : Extent) (bytes : List ℕ) (a : Instance) (rest : List ℕ) (r : Refusal) → IsTaken limit bytes → SpellsCase e bytes a rest → IsRefusal limit e bytes r → ⊥

abbrev pub OneRefusal : Type 0
OneRefusal = (limit : ℕ) (e : Extent) (bytes : List ℕ) (r s : Refusal) → IsRefusal limit e bytes r → IsRefusal limit e bytes s → r ≡ s

pub read_once : OneCase → NotBoth → OneRefusal → (limit : ℕ) (bytes : List ℕ) (x y : Result Instance Refusal) → IsReadAlone limit bytes x → IsReadAlone limit bytes y → x ≡ y
read_once cases never refusals limit bytes (Ok a) (Ok b) h k = ap Ok (cases Alone bytes a b h.1.0 k.1.0 h.1.1 k.1.1).0
read_once cases never refusals limit bytes (Ok a) (Err r) h k = absurd (never limit Alone bytes a h.1.0 r h.0 h.1.1 k)
read_once cases never refusals limit bytes (Err r) (Ok a) h k = absurd (never limit Alone bytes a k.1.0 r k.0 k.1.1 h)
read_once cases never refusals limit bytes (Err r) (Err s) h k = ap Err (refusals limit Alone bytes r s h k)
