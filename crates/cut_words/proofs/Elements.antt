-- Lists that are read from words, and the words of lists.
use Rattle.std.proofs.Common.{ℕ, zero, suc, ◌+◌, ◌<◌, ◌≤◌, ◌≡◌, ◌≢◌, ⊎_elim, refl, sym, ap, ◌∙◌, subst, arith, List, [], ◌∷◌, length, get_or, Bool, true, false, IsTrue, nat_lt, ◌&&◌, eq-eqb, ne_eqb, eqb, take, drop, set, ◌++◌, append_assoc}
use Rattle.std.specs.List.{AllByRecursion}
use Rattle.std.proofs.lemmas.Bool.{cases_eq, lt-ltb, cond-true, cond-false, cond_both}
use Rattle.std.proofs.lemmas.List.{take_more_set, drop_more}
use Rattle.lp_base.specs.Ascending.{ascends_by}
use Rattle.lp_base.proofs.Rises.{ascends_next, ascends_tail}
use Rattle.cut_words.specs.Words.{word_at}
use Rattle.cut_words.specs.Reading.{elements}

-- elements are read from words W that are not 0, and V holds of them
pub record AreRead {T : Type 0} (key word : T → ℕ) (make : ℕ → ℕ → T) (V : T → Type 0) (W : ℕ → Type 0) : Type 0 where
  pub keyed : (k w : ℕ) → key (make k w) ≡ k
  pub worded : (k w : ℕ) → W w → w ≢ 0 → word (make k w) ≡ w
  pub valid : (k w : ℕ) → W w → w ≢ 0 → V (make k w)
  pub back : (t : T) → V t → make (key t) (word t) ≡ t
  pub nonzero : (t : T) → V t → word t ≢ 0
  pub spells : (t : T) → V t → W (word t)

pub all_map : {T : Type 0} (P Q : T → Type 0) (ts : List T) → ((t : T) → P t → Q t) → AllByRecursion P ts → AllByRecursion Q ts
all_map P Q [] f a = tt
all_map P Q (t ∷ ts) f a = (f t a.0, all_map P Q ts f a.1)

both_true : (b c : Bool) → IsTrue b → IsTrue c → IsTrue (b && c)
both_true true c h k = k
both_true false c h k = absurd (cc)

-- ---- the word at a key

word_here : {T : Type 0} (key word : T → ℕ) (x : T) (xs : List T) (k : ℕ) → key x ≡ k → word_at key word (x ∷ xs) k ≡ word x
word_here key word x xs k e = cond-true (eqb (key x) k) (word x) (word_at key word xs k) (eq-eqb (key x) k e)

word_else : {T : Type 0} (key word : T → ℕ) (x : T) (xs : List T) (k : ℕ) → key x ≢ k → word_at key word (x ∷ xs) k ≡ word_at key word xs k
word_else key word x xs k n = cond-false (eqb (key x) k) (word x) (word_at key word xs k) (ne_eqb (key x) k n)

absent : {T : Type 0} (key word : T → ℕ) (k : ℕ) (ts : List T) → AllByRecursion (λ t. suc k ≤ key t) ts → word_at key word ts k ≡ 0
absent key word k [] a = refl
absent key word k (t ∷ ts) a = word_else key word t ts k (λ e. absurd (omega (arith, e, a.0))) ∙ absent key word k ts a.1

-- each word is 0, or an element's
pub word_kept : {T : Type 0} (key word : T → ℕ) (V : T → Type 0) (W : ℕ → Type 0) (ts : List T) (k : ℕ) → ((t : T) → V t → W (word t)) → W 0 → AllByRecursion V ts → W (word_at key word ts k)
word_kept key word V W [] k f z a = z
word_kept key word V W (t ∷ ts) k f z a = cond_both (eqb (key t) k) (word t) (word_at key word ts k) W (λ _. f t a.0) (λ _. word_kept key word V W ts k f z a.1)

-- ---- keys that ascend

later : {T : Type 0} (key : T → ℕ) (t : T) (ts : List T) → IsTrue (ascends_by key (t ∷ ts)) → AllByRecursion (λ u. suc (key t) ≤ key u) ts
later key t [] h = tt
later key t (u ∷ ts) h =
    let p = ascends_next key t u ts h in
    (p.0, all_map (λ v. suc (key u) ≤ key v) (λ v. suc (key t) ≤ key v) ts (λ v le. omega (arith, le, p.0)) (later key u ts p.1))

ascends_cons : {T : Type 0} (key : T → ℕ) (t : T) (ts : List T) → AllByRecursion (λ u. suc (key t) ≤ key u) ts → IsTrue (ascends_by key ts) → IsTrue (ascends_by key (t ∷ ts))
ascends_cons key t [] a h = refl
ascends_cons key t (u ∷ ts) a h = both_true (nat_lt (key t) (key u)) (ascends_by key (u ∷ ts)) (lt-ltb (key t) (key u) a.0) h

-- ---- word by word

module _ {T : Type 0} (make : ℕ → ℕ → T) where
  skipped : (k w : ℕ) (ws : List ℕ) → w ≡ 0 → elements make k (w ∷ ws) ≡ elements make (suc k) ws
  skipped k zero ws e = refl
  skipped k (suc w) ws e = absurd (omega (arith, e))

  taken : (k w : ℕ) (ws : List ℕ) → w ≢ 0 → elements make k (w ∷ ws) ≡ make k w ∷ elements make (suc k) ws
  taken k zero ws n = absurd (n refl)
  taken k (suc w) ws n = refl

  -- a word that is not 0 is an element more
  pub read_more : (words : List ℕ) (k count w : ℕ) (into all : List T) → count < length into → k < length words → w ≡ get_or words k 0 → w ≢ 0 → take count into ++ elements make k (drop k words) ≡ all → take (count + 1) (set into count (make k w)) ++ elements make (k + 1) (drop (k + 1) words) ≡ all
  read_more words k count w into all room h e n so_far =
      let rest = elements make (k + 1) (drop (k + 1) words) in
      let next : elements make k (drop k words) ≡ make k w ∷ rest = ap (elements make k) (drop_more words k 0 h) ∙ ap (λ (x : ℕ). elements make k (x ∷ drop (k + 1) words)) (sym e) ∙ taken k w (drop (k + 1) words) n ∙ ap (λ (j : ℕ). make k w ∷ elements make j (drop (k + 1) words)) (omega arith) in
      ap (λ (l : List T). l ++ rest) (take_more_set into count (make k w) room) ∙ append_assoc (take count into) (make k w ∷ []) rest ∙ ap (λ (l : List T). take count into ++ l) (sym next) ∙ so_far

  -- a word that is 0 is none
  pub read_skip : (words : List ℕ) (k : ℕ) (front all : List T) → k < length words → get_or words k 0 ≡ 0 → front ++ elements make k (drop k words) ≡ all → front ++ elements make (k + 1) (drop (k + 1) words) ≡ all
  read_skip words k front all h e so_far =
      let next : elements make k (drop k words) ≡ elements make (k + 1) (drop (k + 1) words) = ap (elements make k) (drop_more words k 0 h) ∙ skipped k (get_or words k 0) (drop (k + 1) words) e ∙ ap (λ (j : ℕ). elements make j (drop (k + 1) words)) (omega arith) in
      ap (λ (l : List T). front ++ l) (sym next) ∙ so_far

-- ---- what is read

module _ {T : Type 0} (key word : T → ℕ) (make : ℕ → ℕ → T) (V : T → Type 0) (W : ℕ → Type 0) (R : AreRead key word make V W) where
  above : (k j : ℕ) (ws : List ℕ) → j ≤ k → AllByRecursion (λ t. j ≤ key t) (elements make k ws)
  above k j [] h = tt
  above k j (zero ∷ ws) h = above (suc k) j ws (omega arith)
  above k j (suc w ∷ ws) h = (omega (arith, h, R.keyed k (suc w)), above (suc k) j ws (omega arith))

  pub below : (k n : ℕ) (ws : List ℕ) → k + length ws ≤ n → AllByRecursion (λ t. key t < n) (elements make k ws)
  below k n [] h = tt
  below k n (zero ∷ ws) h = below (suc k) n ws (omega arith)
  below k n (suc w ∷ ws) h = (omega (arith, h, R.keyed k (suc w)), below (suc k) n ws (omega arith))

  pub valids : (k : ℕ) (ws : List ℕ) → AllByRecursion W ws → AllByRecursion V (elements make k ws)
  valids k [] a = tt
  valids k (zero ∷ ws) a = valids (suc k) ws a.1
  valids k (suc w ∷ ws) a = (R.valid k (suc w) a.0 (λ e. absurd (omega (arith, e))), valids (suc k) ws a.1)

  pub ascending : (k : ℕ) (ws : List ℕ) → IsTrue (ascends_by key (elements make k ws))
  ascending k [] = refl
  ascending k (zero ∷ ws) = ascending (suc k) ws
  ascending k (suc w ∷ ws) = ascends_cons key (make k (suc w)) (elements make (suc k) ws) (subst (λ (n : ℕ). AllByRecursion (λ u. suc n ≤ key u) (elements make (suc k) ws)) (sym (R.keyed k (suc w))) (above (suc k) (suc k) ws (omega arith))) (ascending (suc k) ws)

  -- the words of what was read are those from which it was read
  pub spelled : (k i j : ℕ) (ws : List ℕ) → j ≡ k + i → AllByRecursion W ws → i < length ws → word_at key word (elements make k ws) j ≡ get_or ws i 0
  spelled k i j [] e a h = absurd (omega arith)
  spelled k zero j (zero ∷ ws) e a h = absent key word j (elements make (suc k) ws) (above (suc k) (suc j) ws (omega (arith, e)))
  spelled k (suc i) j (zero ∷ ws) e a h = spelled (suc k) i j ws (omega (arith, e)) a.1 (omega arith)
  spelled k zero j (suc w ∷ ws) e a h = word_here key word (make k (suc w)) (elements make (suc k) ws) j (omega (arith, R.keyed k (suc w), e)) ∙ R.worded k (suc w) a.0 (λ z. absurd (omega (arith, z)))
  spelled k (suc i) j (suc w ∷ ws) e a h = word_else key word (make k (suc w)) (elements make (suc k) ws) j (λ z. absurd (omega (arith, z, R.keyed k (suc w), e))) ∙ spelled (suc k) i j ws (omega (arith, e)) a.1 (omega arith)

  -- a list that ascends is what is read from its words
  pub unique : (ts : List T) (k : ℕ) (ws : List ℕ) → IsTrue (ascends_by key ts) → AllByRecursion (λ t. k ≤ key t) ts → AllByRecursion (λ t. key t < k + length ws) ts → AllByRecursion V ts → ((i : ℕ) → i < length ws → get_or ws i 0 ≡ word_at key word ts (k + i)) → ts ≡ elements make k ws
  unique [] k [] asc ge lt v e = refl
  unique (t ∷ ts) k [] asc ge lt v e = absurd (omega (arith, ge.0, lt.0))
  unique [] k (w ∷ ws) asc ge lt v e =
      let none : w ≡ 0 = e 0 (omega arith) in
      unique [] (suc k) ws asc tt tt tt (λ i h. e (suc i) (omega arith)) ∙ sym (skipped make k w ws none)
  unique (t ∷ ts) k (w ∷ ws) asc ge lt v e =
      let here : w ≡ word_at key word (t ∷ ts) (k + 0) = e 0 (omega arith) in
      ⊎_elim
      (λ (same : key t ≡ k).
      let found : w ≡ word t = here ∙ word_here key word t ts (k + 0) (omega (arith, same)) in
      let some : w ≢ 0 = λ z. R.nonzero t v.0 (sym found ∙ z) in
      let first : t ≡ make k w = sym (R.back t v.0) ∙ ap (λ (j : ℕ). make j (word t)) same ∙ ap (make k) (sym found) in
      let more : AllByRecursion (λ u. suc k ≤ key u) ts = subst (λ (n : ℕ). AllByRecursion (λ u. suc n ≤ key u) ts) same (later key t ts asc) in
      let rest : ts ≡ elements make (suc k) ws = unique ts (suc k) ws (ascends_tail key t ts asc) more (all_map (λ u. key u < k + suc (length ws)) (λ u. key u < suc k + length ws) ts (λ u h. omega (arith, h)) lt.1) v.1
      (λ i h. e (suc i) (omega arith) ∙ word_else key word t ts (k + suc i) (λ z. absurd (omega (arith, z, same))) ∙ ap (word_at key word ts) (omega arith)) in
      ap (λ (x : T). x ∷ ts) first ∙ ap (λ (xs : List T). make k w ∷ xs) rest ∙ sym (taken make k w ws some))
      (λ (other : key t ≢ k).
      let behind : suc k ≤ key t = by_neq k (key t) ge.0 other in
      let all : AllByRecursion (λ u. suc k ≤ key u) (t ∷ ts) = (behind, all_map (λ u. suc (key t) ≤ key u) (λ u. suc k ≤ key u) ts (λ u h. omega (arith, h, behind)) (later key t ts asc)) in
      let none : w ≡ 0 = here ∙ ap (word_at key word (t ∷ ts)) (omega arith) ∙ absent key word k (t ∷ ts) all in
      unique (t ∷ ts) (suc k) ws asc all (all_map (λ u. key u < k + suc (length ws)) (λ u. key u < suc k + length ws) (t ∷ ts) (λ u h. omega (arith, h)) lt) v
      (λ i h. e (suc i) (omega arith) ∙ ap (word_at key word (t ∷ ts)) (omega arith)) ∙ sym (skipped make k w ws none))
      (cases_eq (key t) k)
    where
      by_neq : (a b : ℕ) → a ≤ b → b ≢ a → suc a ≤ b
      by_neq a b le ne = omega (arith, le, ne)
