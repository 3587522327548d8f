-- The numbers of the marked steps are those of the steps that are reached.
use Rattle.std.proofs.Common.{inl, inr, ℕ, zero, suc, ◌+◌, ◌<◌, ◌≤◌, ◌≡◌, refl, sym, ap, ◌∙◌, subst, arith, Bool, true, false, nat_lt, List, [], ◌∷◌, ◌++◌, length, get_or, drop, Some, append_assoc}
use Rattle.std.specs.Prelude.{◌⊎◌, Contains, IsTrue}
use Rattle.std.proofs.lemmas.Bool.{false≢true, lt-ltb, and_from}
use Rattle.std.proofs.lemmas.List.{append-nil, drop_more, drop_all}
use Rattle.std.proofs.lemmas.List.Elements.{All-contains}
use Rattle.std.proofs.lemmas.Option.{slice_get-get_or, get_or_from_slice_get}
use Rattle.lp_base.specs.Ascending.{ascends_by}
use Rattle.derivation.specs.declared.step.Step.{Step}
use Rattle.derivation.specs.Logs.{IsLog, no_goods}
use Rattle.trimming.specs.Marks.{AreSound, IsClosedFrom, marked, with_number}
use Rattle.trimming.specs.Trimmed.{AreReached, IsFirstEmpty, IsPath, hints_of, step_at}
use Rattle.trimming.proofs.PathLaws.{behind, front_or_rest, hint_below, path_more}

-- ---- the list of numbers

marked_true : (i : ℕ) (m : Bool) (marks : List Bool) → m ≡ true → marked i (m ∷ marks) ≡ i ∷ marked (i + 1) marks
marked_true i true marks e = refl
marked_true i false marks e = absurd (false≢true e)

marked_false : (i : ℕ) (m : Bool) (marks : List Bool) → m ≡ false → marked i (m ∷ marks) ≡ marked (i + 1) marks
marked_false i true marks e = absurd (false≢true (sym e))
marked_false i false marks e = refl

pub marked_next : (marks : List Bool) (made new : List ℕ) (i : ℕ) (m : Bool) → i < length marks → get_or marks i false ≡ m → new ≡ with_number made m i → marked 0 marks ≡ made ++ marked i (drop i marks) → marked 0 marks ≡ new ++ marked (i + 1) (drop (i + 1) marks)
marked_next marks made new i true inside is made_of so_far =
    let e : marked i (drop i marks) ≡ i ∷ marked (i + 1) (drop (i + 1) marks) = rw (drop_more marks i false inside) (marked_true i (get_or marks i false) (drop (i + 1) marks) is) in
    so_far ∙ ap (λ l. made ++ l) e ∙ sym (append_assoc made (i ∷ []) (marked (i + 1) (drop (i + 1) marks))) ∙ ap (λ l. l ++ marked (i + 1) (drop (i + 1) marks)) (sym made_of)
marked_next marks made new i false inside is made_of so_far =
    let e : marked i (drop i marks) ≡ marked (i + 1) (drop (i + 1) marks) = rw (drop_more marks i false inside) (marked_false i (get_or marks i false) (drop (i + 1) marks) is) in
    so_far ∙ ap (λ l. made ++ l) e ∙ ap (λ l. l ++ marked (i + 1) (drop (i + 1) marks)) (sym made_of)

pub marked_end : (marks : List Bool) (made : List ℕ) (i : ℕ) → length marks ≤ i → marked 0 marks ≡ made ++ marked i (drop i marks) → made ≡ marked 0 marks
marked_end marks made i past so_far =
    let e : marked i (drop i marks) ≡ [] = rw (drop_all i marks past) refl in
    sym (so_far ∙ ap (λ l. made ++ l) e ∙ append-nil made)

rises_behind : (h i : ℕ) (marks : List Bool) → h < i → IsTrue (ascends_by (λ k. k) (h ∷ marked i marks))
rises_behind h i [] low = refl
rises_behind h i (true ∷ marks) low = and_from (nat_lt h i) (ascends_by (λ k. k) (i ∷ marked (i + 1) marks)) (lt-ltb h i low) (rises_behind i (i + 1) marks (omega arith))
rises_behind h i (false ∷ marks) low = rises_behind h (i + 1) marks (omega arith)

marked_ascends : (i : ℕ) (marks : List Bool) → IsTrue (ascends_by (λ k. k) (marked i marks))
marked_ascends i [] = refl
marked_ascends i (true ∷ marks) = rises_behind i (i + 1) marks (omega arith)
marked_ascends i (false ∷ marks) = marked_ascends (i + 1) marks

marked_read : (i : ℕ) (marks : List Bool) (k : ℕ) → Contains (marked i marks) k → (j : ℕ) × (k ≡ i + j) × (get_or marks j false ≡ true)
marked_read i [] k c = absurd (omega (arith, c.1))
marked_read i (true ∷ marks) k c = elim (front_or_rest i (marked (i + 1) marks) k c) [
  | inl same ↦ (0, omega (arith, same), refl)
  | inr later ↦ let r = marked_read (i + 1) marks k later in (suc r.0, omega (arith, r.1), r.2)
]
marked_read i (false ∷ marks) k c = let r = marked_read (i + 1) marks k c in (suc r.0, omega (arith, r.1), r.2)

marked_put : (i : ℕ) (marks : List Bool) (j k : ℕ) → k ≡ i + j → get_or marks j false ≡ true → Contains (marked i marks) k
marked_put i [] j k e h = absurd (false≢true h)
marked_put i (true ∷ marks) zero k e h = (0, omega arith, omega (arith, e))
marked_put i (true ∷ marks) (suc j) k e h = behind i (marked (i + 1) marks) k (marked_put (i + 1) marks j k (omega (arith, e)) h)
marked_put i (false ∷ marks) zero k e h = absurd (false≢true h)
marked_put i (false ∷ marks) (suc j) k e h = marked_put (i + 1) marks j k (omega (arith, e)) h

marked_has : (marks : List Bool) (k : ℕ) → Contains (marked 0 marks) k → get_or marks k false ≡ true
marked_has marks k c =
    let r = marked_read 0 marks k c in
    let e : r.0 ≡ k = omega (arith, r.1) in
    let P : ℕ → Type 0 = λ j. get_or marks j false ≡ true in
    subst P e r.2

-- ---- what is marked is reached, and the other way round

path_marked : (log : List Step) (marks : List Bool) (e : ℕ) (path : List ℕ) (k : ℕ) → IsLog log → e < length log → IsClosedFrom 0 log marks → get_or marks e false ≡ true → IsPath log e path k → get_or marks k false ≡ true
path_marked log marks e [] k is inside closed marked_e p =
    let P : ℕ → Type 0 = λ j. get_or marks j false ≡ true in
    subst P p marked_e
path_marked log marks e (h ∷ path) k is inside closed marked_e p =
    let below = hint_below log e h is inside p.0 in
    let here : h < e → get_or marks h false ≡ true = All-contains (λ g. g < e → get_or marks g false ≡ true) (hints_of (step_at log e)) h (closed e (omega arith) marked_e) p.0 in
    path_marked log marks h path k is (omega (arith, below, inside)) closed (here below) p.1

pub are_reached : (log : List Step) (e : ℕ) (marks : List Bool) (places : List ℕ) → IsLog log → e < length log → IsFirstEmpty log e → get_or marks e false ≡ true → IsClosedFrom 0 log marks → AreSound log e marks → places ≡ marked 0 marks → AreReached log places
are_reached log e marks places is inside first marked_e closed sound made =
    let P : List ℕ → Type 0 = λ l. AreReached log l in
    subst P (sym made) record {
      first = e;
      empty = first;
      ascending = marked_ascends 0 marks;
      reached = λ k. (λ c. sound k (marked_has marks k c), λ r. marked_put 0 marks k k (omega arith) (path_marked log marks e r.0 k is inside closed marked_e r.1));
    }

-- ---- how marks stay sound

pub sound_more : (log : List Step) (e k : ℕ) (old new : List Bool) (hints : List ℕ) → AreSound log e old → get_or old k false ≡ true → hints ≡ hints_of (step_at log k) → ((j : ℕ) → get_or new j false ≡ true → (get_or old j false ≡ true) ⊎ Contains hints j) → AreSound log e new
sound_more log e k old new hints sound here is only j now = elim (only j now) [
  | inl before ↦ sound j before
  | inr hint ↦
      let path = sound k here in
      let P : List ℕ → Type 0 = λ l. Contains l j in
      (path.0 ++ j ∷ [], path_more log e path.0 k j path.1 (subst P is hint))
]

pub is_first : (log : List Step) (n : ℕ) → n < length (no_goods log) → get_or (no_goods log) n [] ≡ [] → ((k : ℕ) → k < n → ¬ (get_or (no_goods log) k [] ≡ [])) → IsFirstEmpty log n
is_first log n within empty none = record {
  empty = slice_get-get_or (no_goods log) n [] within ∙ ap (λ x. Some x) empty;
  first = λ k low found. none k low (get_or_from_slice_get (no_goods log) k [] [] found);
}
