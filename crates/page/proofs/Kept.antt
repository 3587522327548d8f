-- Each step of a page keeps its rule.
use Rattle.std.proofs.Common.{ℕ, zero, suc, ◌+◌, ◌*◌, ◌<◌, ◌≤◌, ◌≡◌, ◌≢◌, refl, sym, ap, ◌∙◌, subst, arith, List, [], ◌∷◌, ◌++◌, length, get_or, set, true, false, ⊎_elim, append_assoc, get_or-set_other, get_or-set_same, length-set, length-append, mul-le-mul_right}
use Rattle.std.specs.Prelude.{replicate}
use Rattle.std.proofs.lemmas.List.{append-nil, get_or_append_left, set-get_or}
use Rattle.std.proofs.lemmas.Bool.{false≢true, cases_lt}
use Rattle.std.proofs.Math.Seq.{get_or-append_seam}
use mathlib.Core.Option.{some, none, some-injective, some-ne-none}
use lib.ListN.{get_elem?}
use Rattle.atomic_table.specs.Table.{Me, keeps, step, Allows, Splits, opening}
use Rattle.atomic_table.proofs.Lists.{at_set, set_here, set_else, set_again, at_longer, at_snoc}
use Rattle.page.specs.Places.{place, word_count, Begins}
use Rattle.page.specs.Rules.{newcomer, IsItem, Writes, Kept, StoresWord, StoresHead, Looked, LooksAt, ReadsWord}
use Rattle.page.specs.declared.rule.View.{View}
use Rattle.page.specs.declared.rule.Look.{Look}
use Rattle.page.specs.declared.rule.PageKey.{PageKey}

-- ---- places

blocks_below : (s a b k l : ℕ) → a < b → k ≤ s → place s a k < place s b l
blocks_below s a b k l h n =
    let m : suc a * (s + 1) ≤ b * (s + 1) = mul-le-mul_right (s + 1) h in
    omega (arith, m)

pub place_apart : (s a b k l : ℕ) → k ≤ s → l ≤ s → (a ≡ b → k ≢ l) → place s a k ≢ place s b l
place_apart s a b k l hk hl differ e = ⊎_elim
    (λ (lt : a < b). absurd (omega (arith, blocks_below s a b k l lt hk)))
    (λ (ge : b ≤ a). ⊎_elim
    (λ (lt : b < a). absurd (omega (arith, blocks_below s b a l k lt hl)))
    (λ (le : a ≤ b). let same : a ≡ b = omega arith in
    differ same (omega (arith, ap (λ (j : ℕ). j * (s + 1)) same)))
    (cases_lt b a))
    (cases_lt a b)

pub same_item : (s a b : ℕ) → place s a 0 ≡ place s b 0 → a ≡ b
same_item s a b e = ⊎_elim
    (λ (lt : a < b). absurd (omega (arith, blocks_below s a b 0 0 lt (omega arith))))
    (λ (ge : b ≤ a). ⊎_elim
    (λ (lt : b < a). absurd (omega (arith, blocks_below s b a 0 0 lt (omega arith))))
    (λ (le : a ≤ b). omega arith)
    (cases_lt b a))
    (cases_lt a b)

pub place_within : (s n i k : ℕ) → i < n → k ≤ s → place s i k < word_count s n
place_within s n i k h hk =
    let m : suc i * (s + 1) ≤ n * (s + 1) = mul-le-mul_right (s + 1) h in
    omega (arith, m)

-- ---- lists

longer : (a b c : List (List ℕ)) → Begins a b → Begins (a ++ c) b
longer a b c s = (s.0 ++ c, ap (λ (t : List (List ℕ)). t ++ c) s.1 ∙ append_assoc b s.0 c)

begun_at : (a b : List (List ℕ)) (i : ℕ) → Begins a b → i < length b → get_or a i [] ≡ get_or b i []
begun_at a b i s h = ap (λ (t : List (List ℕ)). get_or t i []) s.1 ∙ get_or_append_left b s.0 [] i h

begun_length : (a b : List (List ℕ)) → Begins a b → length b ≤ length a
begun_length a b s = omega (arith, ap length s.1, length-append b s.0)

-- a beginning that is shorter goes on with the next item
next_begins : (a b : List (List ℕ)) (i : ℕ) → Begins a b → i ≡ length b → i < length a → Begins a (b ++ get_or a i [] ∷ [])
next_begins a b i s e h = go s.0 s.1
  where
    go : (rest : List (List ℕ)) → a ≡ b ++ rest → Begins a (b ++ get_or a i [] ∷ [])
    go [] same = absurd (omega (arith, ap length same, ap length (append-nil b)))
    go (x ∷ xs) same =
        let here : get_or a i [] ≡ x = ap (λ (t : List (List ℕ)). get_or t i []) same ∙ ap (λ (j : ℕ). get_or (b ++ x ∷ xs) j []) e ∙ get_or-append_seam b x xs [] in
        (xs, same ∙ sym (append_assoc b (x ∷ []) xs) ∙ ap (λ (y : List ℕ). (b ++ y ∷ []) ++ xs) (sym here))

nothing : (n i z : ℕ) → z ≡ 0 → get_or (replicate n z) i 0 ≡ 0
nothing zero i z e = refl
nothing (suc n) zero z e = e
nothing (suc n) (suc i) z e = nothing n i z e

replicate_length : (n z : ℕ) → length (replicate n z) ≡ n
replicate_length zero z = refl
replicate_length (suc n) z = ap suc (replicate_length n z)

module _ {K : Type 0} where
  in_range : (l : List (View K)) (i : ℕ) (a : View K) → get_elem? l i ≡ some a → i < length l
  in_range [] i a e = absurd (some-ne-none a (sym e))
  in_range (x ∷ xs) zero a e = omega arith
  in_range (x ∷ xs) (suc i) a e = omega (arith, in_range xs i a e)

  -- a seat that writes is the one that writes
  own : (s : ℕ) (F : List ℕ → Type 0) (q : PageKey K) (words : List ℕ) (views : List (View K)) (seat : ℕ) (w : View K) (id : ℕ) (v : View K) → Writes s F q words views seat w → get_elem? views id ≡ some v → v.writes ≡ true → Writes s F q words views id v
  own s F q words views seat w id v W at e =
      let p : id ≡ seat = (W.others id v at).alone e in
      let there : get_elem? views seat ≡ some v = subst (λ (j : ℕ). get_elem? views j ≡ some v) p at in
      let r : w ≡ v = some-injective w v (sym W.at ∙ there) in
      subst (λ (j : ℕ). Writes s F q words views j v) (sym p) (subst (λ (u : View K). Writes s F q words views seat u) r W)

  store_keeps : (s : ℕ) (F : List ℕ → Type 0) (q : PageKey K) (words : List ℕ) (views : List (View K)) (id : ℕ) (v : View K) (x : ℕ) → Writes s F q words views id v → length v.draft < s → place s (length v.seen) (suc (length v.draft)) < length words → Writes s F q (set words (place s (length v.seen) (suc (length v.draft))) x) (set views id (record v { draft = v.draft ++ x ∷ [] })) id (record v { draft = v.draft ++ x ∷ [] })
  store_keeps s F q words views id v x W short room =
      let w : View K = record v { draft = v.draft ++ x ∷ [] } in
      let p : ℕ = length v.seen in
      let d : ℕ = length v.draft in
      let at : ℕ = place s p (suc d) in
      record {
        at = set_here views id w (in_range views id v W.at);
        writes = W.writes;
        facts = W.facts;
        ones = λ i h. get_or-set_other words at (place s i 0) x 0 (place_apart s i p 0 (suc d) (omega arith) (omega arith) (λ _ z. absurd (omega arith))) ∙ W.ones i h;
        zeros = λ i h n. get_or-set_other words at (place s i 0) x 0 (place_apart s i p 0 (suc d) (omega arith) (omega arith) (λ _ z. absurd (omega arith))) ∙ W.zeros i h n;
        stored = λ i k h n. get_or-set_other words at (place s i (suc k)) x 0 (place_apart s i p (suc k) (suc d) (omega arith) (omega arith) (λ e _. absurd (omega (arith, e, h)))) ∙ W.stored i k h n;
        drafted = λ k h n. ⊎_elim
            (λ (lt : k < d). get_or-set_other words at (place s p (suc k)) x 0 (place_apart s p p (suc k) (suc d) (omega arith) (omega arith) (λ _ z. absurd (omega (arith, z, lt)))) ∙ W.drafted k lt n ∙ sym (get_or_append_left v.draft (x ∷ []) 0 k lt))
            (λ (ge : d ≤ k).
            let here : k ≡ d = omega (arith, length-append v.draft (x ∷ [])) in
            ap (λ (j : ℕ). get_or (set words at x) (place s p (suc j)) 0) here ∙ get_or-set_same words at x 0 room ∙ sym (ap (λ (j : ℕ). get_or (v.draft ++ x ∷ []) j 0) here ∙ get_or-append_seam v.draft x [] 0))
            (cases_lt k d);
        others = λ j u f. ⊎_elim
            (λ (t : (j ≡ id) × (w ≡ u)). record {
              alone = λ _. t.0;
              begins = λ g. absurd (false≢true (sym g ∙ ap (λ (z : View K). z.writes) (sym t.1) ∙ W.writes));
              counted = λ g. absurd (false≢true (sym g ∙ ap (λ (z : View K). z.writes) (sym t.1) ∙ W.writes));
              same = sym (ap (λ (z : View K). z.key) t.1) ∙ (W.others id v W.at).same;
            })
            (λ (t : (j ≢ id) × (get_elem? views j ≡ some u)). let o = W.others j u t.1 in record { alone = o.alone; begins = o.begins; counted = o.counted; same = o.same })
            (at_set views id j w u f);
      }

  pub store_allowed : (s : ℕ) (F : List ℕ → Type 0) (key : PageKey K) (slots id : ℕ) (me : Me ℕ (View K)) (x i : ℕ) → me.0.writes ≡ true → i ≡ place s (length me.0.seen) (suc (length me.0.draft)) → length me.0.seen < key.items → length me.0.draft < s → Allows (Kept s F key) slots id me i (λ _. x) (λ _. StoresWord (step slots i x 0 none) me x)
  store_allowed s F key slots id me x i writes e room short st kept homes at fits =
      let W = own s F key st.words st.views kept.1.0 kept.1.1 id me.0 kept.1.2 at writes in
      let w : View K = record me.0 { draft = me.0.draft ++ x ∷ [] } in
      let inside : place s (length me.0.seen) (suc (length me.0.draft)) < length st.words = omega (arith, kept.0, place_within s key.items (length me.0.seen) (suc (length me.0.draft)) room (omega arith)) in
      let after = subst (λ (y : ℕ). Writes s F key (set st.words y x) (set st.views id w) id w) (sym e) (store_keeps s F key st.words st.views id me.0 x W short inside) in
      (w, keeps, tt, (length-set st.words i x ∙ kept.0, (id, w, after)), refl)

  head_keeps : (s : ℕ) (F : List ℕ → Type 0) (q : PageKey K) (words : List ℕ) (views : List (View K)) (id : ℕ) (v : View K) → Writes s F q words views id v → IsItem s F v.draft → place s (length v.seen) 0 < length words → Writes s F q (set words (place s (length v.seen) 0) 1) (set views id (record v { seen = v.seen ++ v.draft ∷ []; draft = [] })) id (record v { seen = v.seen ++ v.draft ∷ []; draft = [] })
  head_keeps s F q words views id v W fact room =
      let all : List (List ℕ) = v.seen ++ v.draft ∷ [] in
      let w : View K = record v { seen = all; draft = [] } in
      let p : ℕ = length v.seen in
      let at : ℕ = place s p 0 in
      let size : length all ≡ suc p = omega (arith, length-append v.seen (v.draft ∷ [])) in
      let old : (i : ℕ) → i < p → get_or all i [] ≡ get_or v.seen i [] = λ i h. get_or_append_left v.seen (v.draft ∷ []) [] i h in
      let last : (i : ℕ) → i ≡ p → get_or all i [] ≡ v.draft = λ i e. ap (λ (j : ℕ). get_or all j []) e ∙ get_or-append_seam v.seen v.draft [] [] in
      record {
        at = set_here views id w (in_range views id v W.at);
        writes = W.writes;
        facts = λ i h. ⊎_elim
            (λ (lt : i < p). subst (IsItem s F) (sym (old i lt)) (W.facts i lt))
            (λ (ge : p ≤ i). let e : i ≡ p = omega (arith, size, h) in subst (IsItem s F) (sym (last i e)) fact)
            (cases_lt i p);
        ones = λ i h. ⊎_elim
            (λ (lt : i < p). get_or-set_other words at (place s i 0) 1 0 (place_apart s i p 0 0 (omega arith) (omega arith) (λ e _. absurd (omega (arith, e, lt)))) ∙ W.ones i lt)
            (λ (ge : p ≤ i). let e : i ≡ p = omega (arith, size, h) in ap (λ (j : ℕ). get_or (set words at 1) (place s j 0) 0) e ∙ get_or-set_same words at 1 0 room)
            (cases_lt i p);
        zeros = λ i h n.
            let above : p < i = omega (arith, size, h) in
            get_or-set_other words at (place s i 0) 1 0 (place_apart s i p 0 0 (omega arith) (omega arith) (λ e _. absurd (omega (arith, e, above)))) ∙ W.zeros i (omega arith) n;
        stored = λ i k h n.
            get_or-set_other words at (place s i (suc k)) 1 0 (place_apart s i p (suc k) 0 (omega arith) (omega arith) (λ _ z. absurd (omega (arith, z)))) ∙ ⊎_elim
            (λ (lt : i < p). W.stored i k lt n ∙ ap (λ (y : List ℕ). get_or y k 0) (sym (old i lt)))
            (λ (ge : p ≤ i). let e : i ≡ p = omega (arith, size, h) in
            ap (λ (j : ℕ). get_or words (place s j (suc k)) 0) e ∙ W.drafted k (omega (arith, fact.0, n)) n ∙ ap (λ (y : List ℕ). get_or y k 0) (sym (last i e)))
            (cases_lt i p);
        drafted = λ k h n. absurd (omega (arith, h));
        others = λ j u f. ⊎_elim
            (λ (t : (j ≡ id) × (w ≡ u)). record {
              alone = λ _. t.0;
              begins = λ g. absurd (false≢true (sym g ∙ ap (λ (z : View K). z.writes) (sym t.1) ∙ W.writes));
              counted = λ g. absurd (false≢true (sym g ∙ ap (λ (z : View K). z.writes) (sym t.1) ∙ W.writes));
              same = sym (ap (λ (z : View K). z.key) t.1) ∙ (W.others id v W.at).same;
            })
            (λ (t : (j ≢ id) × (get_elem? views j ≡ some u)). let o = W.others j u t.1 in record {
              alone = o.alone;
              begins = λ g. longer v.seen u.seen (v.draft ∷ []) (o.begins g);
              counted = λ g. omega (arith, o.counted g, size);
              same = o.same;
            })
            (at_set views id j w u f);
      }

  pub head_allowed : (s : ℕ) (F : List ℕ → Type 0) (key : PageKey K) (slots id : ℕ) (me : Me ℕ (View K)) (i : ℕ) → me.0.writes ≡ true → i ≡ place s (length me.0.seen) 0 → length me.0.seen < key.items → IsItem s F me.0.draft → Allows (Kept s F key) slots id me i (λ _. 1) (λ _. StoresHead (step slots i 1 0 none) me 1)
  head_allowed s F key slots id me i writes e room fact st kept homes at fits =
      let W = own s F key st.words st.views kept.1.0 kept.1.1 id me.0 kept.1.2 at writes in
      let w : View K = record me.0 { seen = me.0.seen ++ me.0.draft ∷ []; draft = [] } in
      let inside : place s (length me.0.seen) 0 < length st.words = omega (arith, kept.0, place_within s key.items (length me.0.seen) 0 room (omega arith)) in
      let after = subst (λ (y : ℕ). Writes s F key (set st.words y 1) (set st.views id w) id w) (sym e) (head_keeps s F key st.words st.views id me.0 W fact inside) in
      (w, keeps, tt, (length-set st.words i 1 ∙ kept.0, (id, w, after)), refl)

  -- the rule is kept where a reader's view is another beginning of what is published
  reader_keeps : (s : ℕ) (F : List ℕ → Type 0) (q : PageKey K) (words : List ℕ) (views : List (View K)) (seat : ℕ) (w : View K) (id : ℕ) (v u : View K) → Writes s F q words views seat w → get_elem? views id ≡ some v → v.writes ≡ false → u.writes ≡ false → u.key ≡ q → Begins w.seen u.seen → u.look.count ≤ length w.seen → Writes s F q words (set views id u) seat w
  reader_keeps s F q words views seat w id v u W at reads same by starts counted =
      let apart : seat ≢ id = λ e.
      let there : get_elem? views id ≡ some w = subst (λ (j : ℕ). get_elem? views j ≡ some w) e W.at in
      let r : v ≡ w = some-injective v w (sym at ∙ there) in
      false≢true (sym reads ∙ ap (λ (z : View K). z.writes) r ∙ W.writes) in
      record {
        at = set_else views id seat u apart ∙ W.at;
        writes = W.writes;
        facts = W.facts;
        ones = W.ones;
        zeros = W.zeros;
        stored = W.stored;
        drafted = W.drafted;
        others = λ j z f. ⊎_elim
            (λ (t : (j ≡ id) × (u ≡ z)). record {
              alone = λ g. absurd (false≢true (sym same ∙ ap (λ (y : View K). y.writes) t.1 ∙ g));
              begins = λ g. subst (λ (y : View K). Begins w.seen y.seen) t.1 starts;
              counted = λ g. subst (λ (y : View K). y.look.count ≤ length w.seen) t.1 counted;
              same = sym (ap (λ (y : View K). y.key) t.1) ∙ by;
            })
            (λ (t : (j ≢ id) × (get_elem? views j ≡ some z)). W.others j z t.1)
            (at_set views id j u z f);
      }

  -- the rule is kept by a load that changes a reader's view alone
  loaded : (s : ℕ) (F : List ℕ → Type 0) (q : PageKey K) (words : List ℕ) (views : List (View K)) (seat : ℕ) (w : View K) (i : ℕ) → Writes s F q words views seat w → Writes s F q (set words i (get_or words i 0)) views seat w
  loaded s F q words views seat w i W = subst (λ (l : List ℕ). Writes s F q l views seat w) (sym (set-get_or words i 0)) W

  look_known : (s : ℕ) (F : List ℕ → Type 0) (i n : ℕ) (v : View K) (found : ℕ) → found ≡ 1 → i < n → i < length v.seen → IsItem s F (get_or v.seen i []) → Looked s F i v found (record v { look = record { loads = v.look.loads + 1; place = i; word = found; count = n } })
  look_known s F i n v found e h known fact = record {
    writes = refl;
    key = refl;
    look = refl;
    there = λ _. h;
    known = λ _ _. refl;
    new = λ _ z. absurd (omega (arith, z, known));
    fact = λ _. fact;
    none = λ ne. absurd (ne e);
  }

  look_new : (s : ℕ) (F : List ℕ → Type 0) (i n : ℕ) (v : View K) (found : ℕ) (item : List ℕ) → found ≡ 1 → i < n → i ≡ length v.seen → IsItem s F item → Looked s F i v found (record v { seen = v.seen ++ item ∷ []; look = record { loads = v.look.loads + 1; place = i; word = found; count = n } })
  look_new s F i n v found item e h here fact =
      let at : get_or (v.seen ++ item ∷ []) i [] ≡ item = ap (λ (j : ℕ). get_or (v.seen ++ item ∷ []) j []) here ∙ get_or-append_seam v.seen item [] [] in
      record {
        writes = refl;
        key = refl;
        look = refl;
        there = λ _. h;
        known = λ _ z. absurd (omega (arith, z, here));
        new = λ _ _. ap (λ (y : List ℕ). v.seen ++ y ∷ []) (sym at);
        fact = λ _. subst (IsItem s F) (sym at) fact;
        none = λ ne. absurd (ne e);
      }

  look_none : (s : ℕ) (F : List ℕ → Type 0) (i n : ℕ) (v : View K) (found : ℕ) → found ≡ 0 → n ≤ i → Looked s F i v found (record v { look = record { loads = v.look.loads + 1; place = i; word = found; count = n } })
  look_none s F i n v found e h = record {
    writes = refl;
    key = refl;
    look = refl;
    there = λ z. absurd (omega (arith, e, z));
    known = λ _ _. refl;
    new = λ z. absurd (omega (arith, e, z));
    fact = λ z. absurd (omega (arith, e, z));
    none = λ _. (h, refl);
  }

  -- the view that a look leaves, with the rule and what the look tells
  pub look_view : (s : ℕ) (F : List ℕ → Type 0) (q : PageKey K) (words : List ℕ) (views : List (View K)) (seat : ℕ) (w : View K) (id : ℕ) (v : View K) (i : ℕ) → Writes s F q words views seat w → get_elem? views id ≡ some v → v.writes ≡ false → i ≤ length v.seen → i < q.items → (u : View K) × Writes s F q words (set views id u) seat w × Looked s F i v (get_or words (place s i 0) 0) u
  look_view s F q words views seat w id v i W at reads seen room =
      let mine = W.others id v at in
      let found : ℕ = get_or words (place s i 0) 0 in
      let n : ℕ = length w.seen in
      let look : Look = record { loads = v.look.loads + 1; place = i; word = found; count = n } in
      ⊎_elim
      (λ (lt : i < n). ⊎_elim
      (λ (known : i < length v.seen).
      let u : View K = record v { look = look } in
      let fact : IsItem s F (get_or v.seen i []) = subst (IsItem s F) (begun_at w.seen v.seen i (mine.begins reads) known) (W.facts i lt) in
      (u, reader_keeps s F q words views seat w id v u W at reads reads mine.same (mine.begins reads) (omega arith), look_known s F i n v found (W.ones i lt) lt known fact))
      (λ (ge : length v.seen ≤ i).
      let here : i ≡ length v.seen = omega arith in
      let item : List ℕ = get_or w.seen i [] in
      let u : View K = record v { seen = v.seen ++ item ∷ []; look = look } in
      (u, reader_keeps s F q words views seat w id v u W at reads reads mine.same (next_begins w.seen v.seen i (mine.begins reads) here lt) (omega arith), look_new s F i n v found item (W.ones i lt) lt here (W.facts i lt)))
      (cases_lt i (length v.seen)))
      (λ (ge : n ≤ i).
      let u : View K = record v { look = look } in
      (u, reader_keeps s F q words views seat w id v u W at reads reads mine.same (mine.begins reads) (omega arith), look_none s F i n v found (W.zeros i ge room) ge))
      (cases_lt i n)

  -- what a pass keeps is what its page keeps: G is the fact at the pass's own value
  pub look_allowed : (G : K → List ℕ → Type 0) (key : PageKey K) (slots id : ℕ) (me : Me ℕ (View K)) (word i : ℕ) → me.0.writes ≡ false → me.0.key ≡ key → word ≡ place key.stride i 0 → i ≤ length me.0.seen → i < key.items → Allows (Kept key.stride (G key.keeps) key) slots id me word (λ m. m) (LooksAt me.0.key.stride (G me.0.key.keeps) (step slots word 0 0 none) me)
  look_allowed G key slots id me word i reads mine e seen room st kept homes at fits =
      let s : ℕ = key.stride in
      let F : List ℕ → Type 0 = G key.keeps in
      let seat = kept.1.0 in
      let w = kept.1.1 in
      let V = look_view s F key st.words st.views seat w id me.0 i kept.1.2 at reads seen room in
      let u = V.0 in
      let here : get_or st.words word 0 ≡ get_or st.words (place s i 0) 0 = ap (λ (j : ℕ). get_or st.words j 0) e in
      let tells : Looked s F i me.0 (get_or st.words word 0) u = subst (λ (f : ℕ). Looked s F i me.0 f u) (sym here) V.2 in
      let tells' : Looked me.0.key.stride (G me.0.key.keeps) i me.0 (get_or st.words word 0) u = subst (λ (q : PageKey K). Looked q.stride (G q.keeps) i me.0 (get_or st.words word 0) u) (sym mine) tells in (
        u,
        keeps,
        tt,
        (length-set st.words word (get_or st.words word 0) ∙ kept.0, (seat, w, loaded s F key st.words (set st.views id u) seat w word V.1)),
        λ j z.
            let same : i ≡ j = same_item s i j (sym e ∙ z ∙ ap (λ (q : PageKey K). place q.stride j 0) mine) in
            subst (λ (k : ℕ). Looked me.0.key.stride (G me.0.key.keeps) k me.0 (get_or st.words word 0) u) same tells',
      )

  -- a word of an item that was seen is the word that is stored
  read_is : (s : ℕ) (F : List ℕ → Type 0) (q : PageKey K) (words : List ℕ) (views : List (View K)) (seat : ℕ) (w v : View K) (i k : ℕ) → Writes s F q words views seat w → Begins w.seen v.seen → i < length v.seen → k < s → get_or words (place s i (suc k)) 0 ≡ get_or (get_or v.seen i []) k 0
  read_is s F q words views seat w v i k W starts h n =
      let inside : i < length w.seen = omega (arith, begun_length w.seen v.seen starts, h) in
      W.stored i k inside n ∙ ap (λ (y : List ℕ). get_or y k 0) (begun_at w.seen v.seen i starts h)

  pub read_allowed : (F : List ℕ → Type 0) (key : PageKey K) (slots id : ℕ) (me : Me ℕ (View K)) (word : ℕ) → me.0.writes ≡ false → me.0.key ≡ key → Allows (Kept key.stride F key) slots id me word (λ m. m) (ReadsWord me.0.key.stride (step slots word 0 0 none) me)
  read_allowed F key slots id me word reads mine st kept homes at fits =
      let s : ℕ = key.stride in
      let seat = kept.1.0 in
      let w = kept.1.1 in
      let W = kept.1.2 in
      let o = W.others id me.0 at in
      let after = reader_keeps s F key st.words st.views seat w id me.0 me.0 W at reads reads o.same (o.begins reads) (o.counted reads) in
      let tells : ReadsWord s (step slots word 0 0 none) me (get_or st.words word 0) me = (refl, λ i k e h n. ap (λ (j : ℕ). get_or st.words j 0) e ∙ read_is s F key st.words st.views seat w me.0 i k W (o.begins reads) h n) in (
        me.0,
        keeps,
        tt,
        (length-set st.words word (get_or st.words word 0) ∙ kept.0, (seat, w, loaded s F key st.words (set st.views id me.0) seat w word after)),
        subst (λ (q : PageKey K). ReadsWord q.stride (step slots word 0 0 none) me (get_or st.words word 0) me) (sym mine) tells,
      )

  pub splits : (F : List ℕ → Type 0) (key : PageKey K) (id : ℕ) (v : View K) → v.key ≡ key → Splits (Kept key.stride F key) id v v (newcomer v.key false)
  splits F key id v mine st kept at =
      let seat = kept.1.0 in
      let w = kept.1.1 in
      let W = kept.1.2 in
      let new : View K = newcomer v.key false in
      let more : Writes key.stride F key st.words (st.views ++ new ∷ []) seat w = record {
        at = at_longer st.views (new ∷ []) seat w W.at;
        writes = W.writes;
        facts = W.facts;
        ones = W.ones;
        zeros = W.zeros;
        stored = W.stored;
        drafted = W.drafted;
        others = λ j z f. ⊎_elim
            (λ (g : get_elem? st.views j ≡ some z). W.others j z g)
            (λ (g : new ≡ z). record {
              alone = λ t. absurd (false≢true (ap (λ (y : View K). y.writes) g ∙ t));
              begins = λ _. subst (λ (y : View K). Begins w.seen y.seen) g (w.seen, refl);
              counted = λ _. subst (λ (y : View K). y.look.count ≤ length w.seen) g (omega arith);
              same = sym (ap (λ (y : View K). y.key) g) ∙ mine;
            })
            (at_snoc st.views new z j f);
      } in
      (kept.0, (seat, w, subst (λ (l : List (View K)). Writes key.stride F key st.words (l ++ new ∷ []) seat w) (sym (set_again st.views id v at)) more))

  only : (a b : View K) (j : ℕ) → get_elem? (a ∷ []) j ≡ some b → (j ≡ 0) × (a ≡ b)
  only a b zero e = (refl, some-injective a b e)
  only a b (suc j) e = absurd (some-ne-none b (sym e))

  pub opens : (F : List ℕ → Type 0) (key : PageKey K) (l : List ℕ) → l ≡ replicate (word_count key.stride key.items) 0 → Kept key.stride F key (opening l [] (newcomer key true))
  opens F key l e =
      let w : View K = newcomer key true in
      let zero_at : (i : ℕ) → get_or l i 0 ≡ 0 = λ i. ap (λ (t : List ℕ). get_or t i 0) e ∙ nothing (word_count key.stride key.items) i 0 refl in (
        ap length e ∙ replicate_length (word_count key.stride key.items) 0,
        (
          0,
          w,
          record {
            at = refl;
            writes = refl;
            facts = λ i h. absurd (omega (arith, h));
            ones = λ i h. absurd (omega (arith, h));
            zeros = λ i _ _. zero_at (place key.stride i 0);
            stored = λ i k h _. absurd (omega (arith, h));
            drafted = λ k h _. absurd (omega (arith, h));
            others = λ j v f. let t = only w v j f in record {
              alone = λ _. t.0;
              begins = λ g. absurd (false≢true (sym g ∙ ap (λ (z : View K). z.writes) (sym t.1)));
              counted = λ g. absurd (false≢true (sym g ∙ ap (λ (z : View K). z.writes) (sym t.1)));
              same = sym (ap (λ (z : View K). z.key) t.1);
            };
          },
        ),
      )
