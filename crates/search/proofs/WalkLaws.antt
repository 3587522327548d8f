-- What a walk keeps.
use Rattle.std.proofs.Common.{inl, inr, ℕ, suc, ◌+◌, ◌<◌, ◌≤◌, ◌≡◌, refl, sym, ap, ◌∙◌, subst, arith, List, [], ◌∷◌, ◌++◌, length, get_or, take, Some, append_assoc, Bool, true, false}
use Rattle.std.specs.Prelude.{Contains, ◌⊎◌, slice_get}
use Rattle.std.proofs.lemmas.Bool.{cases_lt}
use Rattle.std.proofs.lemmas.List.{append-nil, length-append, length-take-le, get_or_append_left, get_or_at, get_or_default, get_or-take, take-append-le, take_at, take-take}
use Rattle.std.proofs.lemmas.List.Elements.{All-weaker, All-push}
use Rattle.std.proofs.lemmas.Option.{slice_get_within, slice_get-get_or, get_or_from_slice_get}
use Rattle.nogoods.specs.declared.choice.Choice.{Choice}
use Rattle.nogoods.specs.declared.choice.Side.{Side}
use Rattle.nogoods.specs.declared.choice.Side.TheVariants.{A, B}
use Rattle.nogoods.specs.Pieces.{IsChoiceOf, Bars, precedes}
use Rattle.search.specs.declared.walk.Reason.{Reason}
use Rattle.search.specs.declared.walk.Reason.TheVariants.{By, BlockedPieces}
use Rattle.search.specs.FirstPieces.{IsBarred, IsFirst}
use Rattle.search.specs.Growth.{Adds}
use Rattle.search.specs.Walks.{Witnessed, IsExhausted, BarsNext, ExhaustsA, Exhausts, IsJustified, IsWalk}

-- ---- what bars a beginning bars the whole

choice_onwards : (w v : List Side) (c : Choice) → IsChoiceOf w c → IsChoiceOf (w ++ v) c
choice_onwards w v c is =
    let inside : c.pair < length w = slice_get_within w c.pair c.side is in
    let within : c.pair < length (w ++ v) = omega (arith, length-append w v) in
    slice_get-get_or (w ++ v) c.pair A within ∙ ap (λ s. Some s) (get_or_append_left w v A c.pair inside ∙ get_or_from_slice_get w c.pair c.side A is)

pub bars_onwards : (ng : List Choice) (w v : List Side) → Bars ng w → Bars ng (w ++ v)
bars_onwards ng w v bars = All-weaker (IsChoiceOf w) (IsChoiceOf (w ++ v)) (choice_onwards w v) ng bars

own_choice : (w : List Side) (s : Side) → slice_get (w ++ s ∷ []) (length w) ≡ Some s
own_choice w s =
    let within : length w < length (w ++ s ∷ []) = omega (arith, length-append w (s ∷ [])) in
    slice_get-get_or (w ++ s ∷ []) (length w) A within ∙ ap (λ x. Some x) (get_or_at w s [] A (length w) refl)

pub next_bars : (w : List Side) (s : Side) (cs : List Choice) → BarsNext w s cs → Bars cs (w ++ s ∷ [])
next_bars w s cs b =
    let c : Choice = record { pair = length w; side = s } in
    let P : List Choice → Type 0 = λ x. Bars x (w ++ s ∷ []) in
    let whole : Bars (b.front ++ c ∷ []) (w ++ s ∷ []) = All-push (IsChoiceOf (w ++ s ∷ [])) b.front c (bars_onwards b.front w (s ∷ []) b.held) (own_choice w s) in
    subst P (sym b.ends) whole

-- ---- exhausted prefixes

pub barred_by : (ngs : List (List Choice)) (p : List Side) (k : ℕ) → k < length ngs → Bars (get_or ngs k []) p → IsBarred ngs p
barred_by ngs p k here bars = (k, get_or ngs k [], here, get_or_default ngs k (get_or ngs k []) [] here, bars)

pub exhausted_by : (n : ℕ) (ngs : List (List Choice)) (blocked : List (List Side)) (w : List Side) (k : ℕ) → k < length ngs → Bars (get_or ngs k []) w → IsExhausted n ngs blocked w
exhausted_by n ngs blocked w k here bars v size = inl (barred_by ngs (w ++ v) k here (bars_onwards (get_or ngs k []) w v bars))

pub exhausted_both : (n : ℕ) (ngs : List (List Choice)) (blocked : List (List Side)) (w : List Side) → length w < n → IsExhausted n ngs blocked (w ++ A ∷ []) → IsExhausted n ngs blocked (w ++ B ∷ []) → IsExhausted n ngs blocked w
exhausted_both n ngs blocked w small a b [] size = absurd (omega (arith, length-append w []))
exhausted_both n ngs blocked w small a b (A ∷ v) size =
    let P : List Side → Type 0 = λ p. length p ≡ n → IsBarred ngs p ⊎ Contains blocked p in
    subst P (append_assoc w (A ∷ []) v) (a v) size
exhausted_both n ngs blocked w small a b (B ∷ v) size =
    let P : List Side → Type 0 = λ p. length p ≡ n → IsBarred ngs p ⊎ Contains blocked p in
    subst P (append_assoc w (B ∷ []) v) (b v) size

pub exhausted_blocked : (n : ℕ) (ngs : List (List Choice)) (blocked : List (List Side)) (w : List Side) → length w ≡ n → Contains blocked w → IsExhausted n ngs blocked w
exhausted_blocked n ngs blocked w full inside [] size =
    let P : List Side → Type 0 = λ p. Contains blocked p in
    inr (subst P (sym (append-nil w)) inside)
exhausted_blocked n ngs blocked w full inside (s ∷ v) size = absurd (omega (arith, length-append w (s ∷ v)))

pub exhausts_exhausted : (fresh : Bool) (n : ℕ) (ngs : List (List Choice)) (blocked : List (List Side)) (w : List Side) (reason : Reason) → Exhausts fresh n ngs blocked w reason → IsExhausted n ngs blocked w
exhausts_exhausted fresh n ngs blocked w (By k) s = exhausted_by n ngs blocked w k s.0 s.1
exhausts_exhausted fresh n ngs blocked w BlockedPieces s = s.0

pub turn_exhausted : (fresh : Bool) (n : ℕ) (ngs : List (List Choice)) (blocked : List (List Side)) (w : List Side) (reason : Reason) → ExhaustsA fresh n ngs blocked w reason → IsExhausted n ngs blocked (w ++ A ∷ [])
turn_exhausted fresh n ngs blocked w (By k) s = exhausted_by n ngs blocked (w ++ A ∷ []) k s.0 (next_bars w A (get_or ngs k []) s.1)
turn_exhausted fresh n ngs blocked w BlockedPieces s = s.0

-- ---- steps of the walk

justified_moved : (fresh : Bool) (n : ℕ) (ngs : List (List Choice)) (blocked : List (List Side)) (u x : List Side) (s t : Side) (y z : Reason) → u ≡ x → s ≡ t → y ≡ z → IsJustified fresh n ngs blocked u s y → IsJustified fresh n ngs blocked x t z
justified_moved fresh n ngs blocked u x s t y z eu es ey r =
    let P : List Side → Type 0 = λ a. IsJustified fresh n ngs blocked a s y in
    let Q : Side → Type 0 = λ a. IsJustified fresh n ngs blocked x a y in
    let R : Reason → Type 0 = λ a. IsJustified fresh n ngs blocked x t a in
    subst R ey (subst Q es (subst P eu r))

pub walk_push : (fresh : Bool) (n : ℕ) (ngs : List (List Choice)) (blocked : List (List Side)) (w : List Side) (reasons : List Reason) (s : Side) (reason : Reason) → IsWalk fresh n ngs blocked w reasons → length w < n → IsJustified fresh n ngs blocked w s reason → IsWalk fresh n ngs blocked (w ++ s ∷ []) (reasons ++ reason ∷ [])
walk_push fresh n ngs blocked w reasons s reason h small r = record {
  sizes = length-append reasons (reason ∷ []) ∙ ap (λ k. k + 1) h.sizes ∙ sym (length-append w (s ∷ []));
  fits = omega (arith, length-append w (s ∷ []));
  justified = λ i inside. elim (cases_lt i (length w)) [
    | inl here ↦
        let there : i < length reasons = omega (arith, h.sizes) in
        justified_moved fresh n ngs blocked _ _ _ _ _ _ (sym (take-append-le i w (s ∷ []) (omega arith))) (sym (get_or_append_left w (s ∷ []) A i here)) (sym (get_or_append_left reasons (reason ∷ []) BlockedPieces i there)) (h.justified i here)
    | inr past ↦
        let e : length w ≡ i = omega (arith, length-append w (s ∷ [])) in
        justified_moved fresh n ngs blocked _ _ _ _ _ _ (sym (take_at w (s ∷ []) i e)) (sym (get_or_at w s [] A i e)) (sym (get_or_at reasons reason [] BlockedPieces i (h.sizes ∙ e))) r
  ];
}

pub walk_take : (fresh : Bool) (n : ℕ) (ngs : List (List Choice)) (blocked : List (List Side)) (w : List Side) (reasons : List Reason) (q : ℕ) → IsWalk fresh n ngs blocked w reasons → q ≤ length w → IsWalk fresh n ngs blocked (take q w) (take q reasons)
walk_take fresh n ngs blocked w reasons q h low =
    let size : length (take q w) ≡ q = length-take-le q w low in
    let size_too : length (take q reasons) ≡ q = length-take-le q reasons (omega (arith, h.sizes)) in
    record {
      sizes = size_too ∙ sym size;
      fits = omega (arith, h.fits);
      justified = λ i inside.
          let below : i < q = omega arith in
          justified_moved fresh n ngs blocked _ _ _ _ _ _ (sym (take-take i q w (omega arith))) (sym (get_or-take q w i A below)) (sym (get_or-take q reasons i BlockedPieces below)) (h.justified i (omega arith));
    }

-- ---- a log that grows by what bars no more

pub barred_onwards : (n : ℕ) (ngs more : List (List Choice)) (p : List Side) → Adds n ngs more → IsBarred ngs p → IsBarred more p
barred_onwards n ngs more p adds barred =
    let here = adds.kept barred.0 barred.2 in
    let P : List Choice → Type 0 = λ ng. Bars ng p in
    let same : barred.1 ≡ get_or more barred.0 [] = sym barred.3 ∙ get_or_default ngs barred.0 barred.1 [] barred.2 ∙ sym here.1 in
    barred_by more p barred.0 here.0 (subst P same barred.4)

pub exhausted_onwards : (n : ℕ) (ngs more : List (List Choice)) (blocked : List (List Side)) (w : List Side) → Adds n ngs more → IsExhausted n ngs blocked w → IsExhausted n more blocked w
exhausted_onwards n ngs more blocked w adds exhausted v size = elim (exhausted v size) [
  | inl barred ↦ inl (barred_onwards n ngs more (w ++ v) adds barred)
  | inr inside ↦ inr inside
]

witness_onwards : (fresh : Bool) (n : ℕ) (ngs more : List (List Choice)) (blocked : List (List Side)) → Adds n ngs more → Witnessed fresh n ngs blocked → Witnessed fresh n more blocked
witness_onwards true n ngs more blocked adds w = (w.0, w.1, w.2, λ barred. w.3 (adds.bars w.0 w.1 barred))
witness_onwards false n ngs more blocked adds w = tt

pub witnessed_by : (fresh : Bool) (n : ℕ) (ngs : List (List Choice)) (blocked : List (List Side)) (w : List Side) → length w ≡ n → Contains blocked w → ¬ (IsBarred ngs w) → Witnessed fresh n ngs blocked
witnessed_by true n ngs blocked w full inside apart = (w, full, inside, apart)
witnessed_by false n ngs blocked w full inside apart = tt

pub turn_onwards : (fresh : Bool) (n : ℕ) (ngs more : List (List Choice)) (blocked : List (List Side)) (w : List Side) (reason : Reason) → Adds n ngs more → ExhaustsA fresh n ngs blocked w reason → ExhaustsA fresh n more blocked w reason
turn_onwards fresh n ngs more blocked w (By k) adds s =
    let here = adds.kept k s.0 in
    let P : List Choice → Type 0 = λ ng. BarsNext w A ng in
    (here.0, subst P (sym here.1) s.1)
turn_onwards fresh n ngs more blocked w BlockedPieces adds s = (exhausted_onwards n ngs more blocked (w ++ A ∷ []) adds s.0, witness_onwards fresh n ngs more blocked adds s.1)

justified_onwards : (fresh : Bool) (n : ℕ) (ngs more : List (List Choice)) (blocked : List (List Side)) (w : List Side) (s : Side) (reason : Reason) → Adds n ngs more → IsJustified fresh n ngs blocked w s reason → IsJustified fresh n more blocked w s reason
justified_onwards fresh n ngs more blocked w A reason adds r = r
justified_onwards fresh n ngs more blocked w B reason adds r = turn_onwards fresh n ngs more blocked w reason adds r

pub walk_onwards : (fresh : Bool) (n : ℕ) (ngs more : List (List Choice)) (blocked : List (List Side)) (w : List Side) (reasons : List Reason) → Adds n ngs more → IsWalk fresh n ngs blocked w reasons → IsWalk fresh n more blocked w reasons
walk_onwards fresh n ngs more blocked w reasons adds h = record {
  sizes = h.sizes;
  fits = h.fits;
  justified = λ i inside. justified_onwards fresh n ngs more blocked (take i w) (get_or w i A) (get_or reasons i BlockedPieces) adds (h.justified i inside);
}

-- ---- the first piece

first_from : (p u w other : List Side) → u ++ other ≡ p → length other ≡ length w → ((i : ℕ) → i < length w → get_or w i A ≡ B → (v : List Side) → (u ++ take i w) ++ A ∷ v ≡ p → ⊥) → (other ≡ w) ⊎ (precedes w other ≡ true)
first_from p u [] [] is size out = inl refl
first_from p u [] (t ∷ b) is size out = absurd (omega arith)
first_from p u (s ∷ a) [] is size out = absurd (omega arith)
first_from p u (A ∷ a) (A ∷ b) is size out =
    elim (first_from p (u ++ A ∷ []) a b (append_assoc u (A ∷ []) b ∙ is) (omega arith) (λ i inside side v e. out (suc i) (omega arith) side v (ap (λ x. x ++ A ∷ v) (sym (append_assoc u (A ∷ []) (take i a))) ∙ e))) [
      | inl same ↦ inl (ap (λ x. A ∷ x) same)
      | inr before ↦ inr before
    ]
first_from p u (A ∷ a) (B ∷ b) is size out = inr refl
first_from p u (B ∷ a) (A ∷ b) is size out = absurd (out 0 (omega arith) refl b (ap (λ x. x ++ A ∷ b) (append-nil u) ∙ is))
first_from p u (B ∷ a) (B ∷ b) is size out =
    elim (first_from p (u ++ B ∷ []) a b (append_assoc u (B ∷ []) b ∙ is) (omega arith) (λ i inside side v e. out (suc i) (omega arith) side v (ap (λ x. x ++ A ∷ v) (sym (append_assoc u (B ∷ []) (take i a))) ∙ e))) [
      | inl same ↦ inl (ap (λ x. B ∷ x) same)
      | inr before ↦ inr before
    ]

justified_at_b : (fresh : Bool) (n : ℕ) (ngs : List (List Choice)) (blocked : List (List Side)) (u : List Side) (s : Side) (reason : Reason) → s ≡ B → IsJustified fresh n ngs blocked u s reason → ExhaustsA fresh n ngs blocked u reason
justified_at_b fresh n ngs blocked u A reason is r = absurd (cc)
justified_at_b fresh n ngs blocked u B reason is r = r

pub b_exhausts : (fresh : Bool) (n : ℕ) (ngs : List (List Choice)) (blocked : List (List Side)) (w : List Side) (reasons : List Reason) (i : ℕ) → IsWalk fresh n ngs blocked w reasons → i < length w → get_or w i A ≡ B → ExhaustsA fresh n ngs blocked (take i w) (get_or reasons i BlockedPieces)
b_exhausts fresh n ngs blocked w reasons i h inside side = justified_at_b fresh n ngs blocked (take i w) (get_or w i A) (get_or reasons i BlockedPieces) side (h.justified i inside)

pub is_first : (fresh : Bool) (n : ℕ) (ngs : List (List Choice)) (blocked : List (List Side)) (w : List Side) (reasons : List Reason) → IsWalk fresh n ngs blocked w reasons → length w ≡ n → ¬ (IsBarred ngs w) → ¬ (Contains blocked w) → IsFirst n ngs blocked w
is_first fresh n ngs blocked w reasons h full unbarred free = record {
  size = full;
  unbarred = unbarred;
  free = free;
  first = λ other size apart outside. first_from other [] w other refl (size ∙ sym full) (λ i inside side v e.
      let exhausted = turn_exhausted fresh n ngs blocked (take i w) (get_or reasons i BlockedPieces) (b_exhausts fresh n ngs blocked w reasons i h inside side) in
      let is : (take i w ++ A ∷ []) ++ v ≡ other = append_assoc (take i w) (A ∷ []) v ∙ e in
      elim (exhausted v (ap (λ x. length x) is ∙ size)) [
        | inl barred ↦ let P : List Side → Type 0 = λ x. IsBarred ngs x in apart (subst P is barred)
        | inr inside' ↦ let P : List Side → Type 0 = λ x. Contains blocked x in outside (subst P is inside')
      ]);
}

-- ---- a log with more starts, and more blocked pieces, where no witness is kept

later_barred : (ngs added : List (List Choice)) (p : List Side) → IsBarred ngs p → IsBarred (ngs ++ added) p
later_barred ngs added p barred =
    (barred.0, barred.1, omega (arith, barred.2, length-append ngs added), get_or_append_left ngs added barred.1 barred.0 barred.2 ∙ barred.3, barred.4)

exhausted_later : (n : ℕ) (ngs more : List (List Choice)) (blocked later : List (List Side)) (w : List Side) → ((p : List Side) → IsBarred ngs p → IsBarred more p) → ((p : List Side) → Contains blocked p → Contains later p ⊎ IsBarred more p) → IsExhausted n ngs blocked w → IsExhausted n more later w
exhausted_later n ngs more blocked later w still put exhausted v size = elim (exhausted v size) [
  | inl barred ↦ inl (still (w ++ v) barred)
  | inr inside ↦ elim (put (w ++ v) inside) [
    | inl there_still ↦ inr there_still
    | inr barred ↦ inl barred
  ]
]

justified_later : (n : ℕ) (ngs more : List (List Choice)) (blocked later : List (List Side)) (w : List Side) (s : Side) (reason : Reason) → ((k : ℕ) → k < length ngs → (k < length more) × (get_or more k [] ≡ get_or ngs k [])) → ((p : List Side) → IsBarred ngs p → IsBarred more p) → ((p : List Side) → Contains blocked p → Contains later p ⊎ IsBarred more p) → IsJustified false n ngs blocked w s reason → IsJustified false n more later w s reason
justified_later n ngs more blocked later w A reason kept still put r = r
justified_later n ngs more blocked later w B (By k) kept still put r =
    let here = kept k r.0 in
    let P : List Choice → Type 0 = λ ng. BarsNext w A ng in
    (here.0, subst P (sym here.1) r.1)
justified_later n ngs more blocked later w B BlockedPieces kept still put r = (exhausted_later n ngs more blocked later (w ++ A ∷ []) still put r.0, tt)

pub walk_later : (n : ℕ) (ngs added : List (List Choice)) (blocked later : List (List Side)) (w : List Side) (reasons : List Reason) → ((p : List Side) → Contains blocked p → Contains later p ⊎ IsBarred (ngs ++ added) p) → IsWalk false n ngs blocked w reasons → IsWalk false n (ngs ++ added) later w reasons
walk_later n ngs added blocked later w reasons put h =
    let kept : (k : ℕ) → k < length ngs → (k < length (ngs ++ added)) × (get_or (ngs ++ added) k [] ≡ get_or ngs k []) = λ k inside. (omega (arith, length-append ngs added), get_or_append_left ngs added [] k inside) in
    let still : (p : List Side) → IsBarred ngs p → IsBarred (ngs ++ added) p = λ p barred. later_barred ngs added p barred in
    record {
      sizes = h.sizes;
      fits = h.fits;
      justified = λ i inside. justified_later n ngs (ngs ++ added) blocked later (take i w) (get_or w i A) (get_or reasons i BlockedPieces) kept still put (h.justified i inside);
    }

justified_free : (n : ℕ) (ngs : List (List Choice)) (blocked : List (List Side)) (w : List Side) (s : Side) (reason : Reason) → IsJustified true n ngs blocked w s reason → IsJustified false n ngs blocked w s reason
justified_free n ngs blocked w A reason r = r
justified_free n ngs blocked w B (By k) r = r
justified_free n ngs blocked w B BlockedPieces r = (r.0, tt)

-- the witness may be let go
pub walk_free : (n : ℕ) (ngs : List (List Choice)) (blocked : List (List Side)) (w : List Side) (reasons : List Reason) → IsWalk true n ngs blocked w reasons → IsWalk false n ngs blocked w reasons
walk_free n ngs blocked w reasons h = record {
  sizes = h.sizes;
  fits = h.fits;
  justified = λ i inside. justified_free n ngs blocked (take i w) (get_or w i A) (get_or reasons i BlockedPieces) (h.justified i inside);
}
