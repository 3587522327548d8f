-- The forms of lines: what is read is spelled so, and what is spelled is read.
use Rattle.std.proofs.Common.{◌≡◌, ℕ, ◌^◌, ◌<◌, ◌≤◌, Bool, true, cond, List, [], ◌∷◌, ◌++◌, map, Ok, Err, refl, sym, ap, subst, ◌∙◌, inl, inr, ℤ, pos, ◌≤ℤ◌}
use Rattle.std.specs.Prelude.{bytes_eq, flat_map, codes, unsigned_abs}
use Rattle.std.specs.Fmt.{decimal, signed_decimal}
use Rattle.std.proofs.lemmas.Slice.Eq.{bytes_eq-Decides}
use Rattle.lp_base.specs.Numbers.{IsNarrow}
use Rattle.nogoods.specs.declared.choice.Choice.{Choice}
use Rattle.cert_text.specs.declared.cert.CertPoint.{CertPoint}
use Rattle.cert_text.specs.declared.cert.CertLine.{CertLine}
use Rattle.cert_text.specs.declared.cert.CertLine.TheVariants.{Ray, Point, Derived}
use Rattle.cert_text.specs.declared.fault.CertWhy.TheVariants.{BadLine}
use Rattle.cert_text.specs.Certs.{IsNoGood, AreTerms, IsPoint, IsLine}
use Rattle.cert_text.specs.Spelling.{Word, choice_word, term_words, hint_word, colon, point_words, value_words, piece_words, ray_words, line_words}
use Rattle.cert_text.specs.Reading.{◌>>=◌, Reading, positive_at, cost_value_at, count_at, after, ended, choices_from, last_choices_from, terms_from, hints_at, bound_at, first_at, point_at, value_at, piece_at, ray_at, ray_cut_at, point_cut_at, derived_at, cut_at, line_at, end_at}
use Rattle.cert_text.proofs.Results.{same_ok, bind_ok, by_test, either}
use Rattle.cert_text.proofs.Numbers.{positive_takes, positive_int_again, cost_value_takes, cost_value_again, count_takes, count_again}
use Rattle.cert_text.proofs.WordLists.{no_good_takes, no_good_again, piece_takes, piece_again, row_takes, row_again, hints_take, hints_again}

-- ---- words

pub after_takes : (wanted : Word) (ws rest : List Word) → after wanted ws ≡ Ok rest → ws ≡ wanted ∷ rest
unfolding after
after_takes wanted [] rest e = absurd cc
after_takes wanted (w ∷ ws) rest e =
    let g = by_test (bytes_eq w wanted) ws BadLine rest e in
    ap (λ (x : Word). x ∷ ws) ((bytes_eq-Decides w wanted).0 g.0) ∙ ap (λ (x : List Word). wanted ∷ x) g.1

pub after_again : (wanted : Word) (rest : List Word) → after wanted (wanted ∷ rest) ≡ Ok rest
unfolding after
after_again wanted rest = ap (λ (t : Bool). cond t (Ok rest) (Err BadLine)) ((bytes_eq-Decides wanted wanted).1 refl)

pub first_takes : (ws : List Word) (x : Word × List Word) → first_at ws ≡ Ok x → ws ≡ x.0 ∷ x.1
unfolding first_at
first_takes [] x e = absurd cc
first_takes (w ∷ ws) x e = ap (λ (y : Word × List Word). y.0 ∷ y.1) (same_ok (w, ws) x e)

ended_takes : (ws rest : List Word) → ended ws ≡ Ok rest → ws ≡ []
unfolding ended
ended_takes [] rest e = refl
ended_takes (w ∷ ws) rest e = absurd cc

pub bound_takes : (ws : List Word) (x : ℤ × List Word) → bound_at ws ≡ Ok x → (ws ≡ signed_decimal x.0 ∷ colon ∷ x.1) × (pos 1 ≤ℤ x.0) × IsNarrow x.0
unfolding bound_at
bound_takes [] x e = absurd cc
bound_takes (w ∷ ws) x e =
    let a = bind_ok (positive_at w) (λ n. after colon ws >>= λ rest. Ok (n, rest)) x e in
    let b = bind_ok (after colon ws) (λ rest. Ok (a.0, rest)) x a.2 in
    let p = positive_takes w a.0 a.1 in
    let made : ℤ × List Word = (a.0, b.0) in
    subst (λ (y : ℤ × List Word). (w ∷ ws ≡ signed_decimal y.0 ∷ colon ∷ y.1) × (pos 1 ≤ℤ y.0) × IsNarrow y.0) {x = made} (same_ok made x b.2)
    (ap (λ (v : Word). v ∷ ws) (sym p.0) ∙ ap (λ (t : List Word). signed_decimal a.0 ∷ t) (after_takes colon ws b.0 b.1), p.1, p.2)

pub bound_again : (e : ℤ) (rest : List Word) → pos 1 ≤ℤ e → IsNarrow e → bound_at (signed_decimal e ∷ colon ∷ rest) ≡ Ok (e, rest)
unfolding bound_at
bound_again e rest low narrow =
    ap (λ (r : Reading ℤ). r >>= λ n. after colon (colon ∷ rest) >>= λ behind. Ok (n, behind)) (positive_int_again e low narrow)
    ∙ ap (λ (r : Reading (List Word)). r >>= λ behind. Ok (e, behind)) (after_again colon rest)

-- ---- the lines of points, values, pieces and rays

pub point_takes : (ws : List Word) (p : CertPoint) → point_at ws ≡ Ok p → (ws ≡ point_words p) × IsPoint p
unfolding point_at
point_takes ws p e =
    let a = bind_ok (after (codes "point") ws) (λ rest. bound_at rest >>= λ bound. terms_from 0 bound.1 >>= λ terms. Ok (record { d = bound.0; terms = terms })) p e in
    let b = bind_ok (bound_at a.0) (λ bound. terms_from 0 bound.1 >>= λ terms. Ok (record { d = bound.0; terms = terms })) p a.2 in
    let t = bind_ok (terms_from 0 b.0.1) (λ terms. Ok (record { d = b.0.0; terms = terms })) p b.2 in
    let k = bound_takes a.0 b.0 b.1 in
    let r = row_takes b.0.1 t.0 t.1 in
    let made : CertPoint = record { d = b.0.0; terms = t.0 } in
    subst (λ (q : CertPoint). (ws ≡ point_words q) × IsPoint q) {x = made} (same_ok made p t.2)
    (after_takes (codes "point") ws a.0 a.1 ∙ ap (λ (v : List Word). codes "point" ∷ v) (k.0 ∙ ap (λ (v : List Word). signed_decimal b.0.0 ∷ colon ∷ v) r.0), record { positive = k.1; narrow = k.2; terms = r.1 })

pub point_again : (p : CertPoint) → IsPoint p → point_at (point_words p) ≡ Ok p
unfolding point_at
point_again p h =
    ap (λ (r : Reading (List Word)). r >>= λ rest. bound_at rest >>= λ bound. terms_from 0 bound.1 >>= λ terms. Ok (record { d = bound.0; terms = terms })) (after_again (codes "point") (signed_decimal p.d ∷ colon ∷ flat_map term_words p.terms))
    ∙ ap (λ (r : Reading (ℤ × List Word)). r >>= λ bound. terms_from 0 bound.1 >>= λ terms. Ok (record { d = bound.0; terms = terms })) (bound_again p.d (flat_map term_words p.terms) h.positive h.narrow)
    ∙ ap (λ (r : Reading (List (ℕ × ℤ))). r >>= λ terms. Ok (record { d = p.d; terms = terms })) (row_again p.terms h.terms)

pub value_takes : (ws : List Word) (z : ℤ) → value_at ws ≡ Ok z → (ws ≡ value_words z) × (unsigned_abs z ≤ 2 ^ 126)
unfolding value_at
value_takes ws z e =
    let a = bind_ok (after (codes "value") ws) (λ rest. first_at rest >>= λ first. cost_value_at first.0 >>= λ y. ended first.1 >>= λ _. Ok y) z e in
    let f = bind_ok (first_at a.0) (λ first. cost_value_at first.0 >>= λ y. ended first.1 >>= λ _. Ok y) z a.2 in
    let v = bind_ok (cost_value_at f.0.0) (λ y. ended f.0.1 >>= λ _. Ok y) z f.2 in
    let n = bind_ok (ended f.0.1) (λ _. Ok v.0) z v.2 in
    let t = cost_value_takes f.0.0 v.0 v.1 in
    subst (λ (y : ℤ). (ws ≡ value_words y) × (unsigned_abs y ≤ 2 ^ 126)) {x = v.0} (same_ok v.0 z n.2) (
      after_takes (codes "value") ws a.0 a.1
          ∙ ap (λ (x : List Word). codes "value" ∷ x) (first_takes a.0 f.0 f.1 ∙ ap (λ (x : Word). x ∷ f.0.1) (sym t.0) ∙ ap (λ (x : List Word). signed_decimal v.0 ∷ x) (ended_takes f.0.1 n.0 n.1)),
      t.1,
    )

pub value_again : (z : ℤ) → unsigned_abs z ≤ 2 ^ 126 → value_at (value_words z) ≡ Ok z
unfolding value_at first_at ended
value_again z h =
    ap (λ (r : Reading (List Word)). r >>= λ rest. first_at rest >>= λ first. cost_value_at first.0 >>= λ y. ended first.1 >>= λ _. Ok y) (after_again (codes "value") (signed_decimal z ∷ []))
    ∙ ap (λ (r : Reading ℤ). r >>= λ y. ended [] >>= λ _. Ok y) (cost_value_again z h)

pub piece_line_takes : (ws : List Word) (cs : List Choice) → piece_at ws ≡ Ok cs → (ws ≡ piece_words cs) × IsNoGood cs
unfolding piece_at
piece_line_takes ws cs e =
    let a = bind_ok (after (codes "piece") ws) (λ rest. last_choices_from 0 rest) cs e in
    let t = piece_takes a.0 cs a.2 in
    (after_takes (codes "piece") ws a.0 a.1 ∙ ap (λ (x : List Word). codes "piece" ∷ x) t.0, t.1)

pub piece_line_again : (cs : List Choice) → IsNoGood cs → piece_at (piece_words cs) ≡ Ok cs
unfolding piece_at
piece_line_again cs h = ap (λ (r : Reading (List Word)). r >>= λ rest. last_choices_from 0 rest) (after_again (codes "piece") (map choice_word cs)) ∙ piece_again cs h

pub ray_takes : (ws : List Word) (ts : List (ℕ × ℤ)) → ray_at ws ≡ Ok ts → (ws ≡ ray_words ts) × AreTerms ts
unfolding ray_at
ray_takes ws ts e =
    let a = bind_ok (after (codes "ray") ws) (λ rest. after colon rest >>= λ terms. terms_from 0 terms) ts e in
    let b = bind_ok (after colon a.0) (λ terms. terms_from 0 terms) ts a.2 in
    let t = row_takes b.0 ts b.2 in
    (after_takes (codes "ray") ws a.0 a.1 ∙ ap (λ (x : List Word). codes "ray" ∷ x) (after_takes colon a.0 b.0 b.1 ∙ ap (λ (x : List Word). colon ∷ x) t.0), t.1)

pub ray_again : (ts : List (ℕ × ℤ)) → AreTerms ts → ray_at (ray_words ts) ≡ Ok ts
unfolding ray_at
ray_again ts h =
    ap (λ (r : Reading (List Word)). r >>= λ rest. after colon rest >>= λ terms. terms_from 0 terms) (after_again (codes "ray") (colon ∷ flat_map term_words ts))
    ∙ ap (λ (r : Reading (List Word)). r >>= λ terms. terms_from 0 terms) (after_again colon (flat_map term_words ts)) ∙ row_again ts h

-- ---- no-good lines

pub front : (kind : Word) (ws : List Word) (ng : List Choice) (rest behind : List Word) → ws ≡ map choice_word ng ++ colon ∷ rest → rest ≡ behind → kind ∷ ws ≡ kind ∷ map choice_word ng ++ colon ∷ behind
front kind ws ng rest behind e f = ap (λ (t : List Word). kind ∷ t) (e ∙ ap (λ (t : List Word). map choice_word ng ++ colon ∷ t) f)

abbrev Spelled : Word → List Word → CertLine → Type 0
Spelled kind ws x = (kind ∷ ws ≡ line_words x) × IsLine x

ray_cut_takes : (ws : List Word) (x : CertLine) → ray_cut_at ws ≡ Ok x → Spelled (codes "i") ws x
unfolding ray_cut_at
ray_cut_takes ws x e =
    let a = bind_ok (choices_from 0 ws) (λ y. terms_from 0 y.1 >>= λ mult. Ok (Ray y.0 mult)) x e in
    let b = bind_ok (terms_from 0 a.0.1) (λ mult. Ok (Ray a.0.0 mult)) x a.2 in
    let n = no_good_takes ws a.0 a.1 in
    let r = row_takes a.0.1 b.0 b.1 in
    subst (Spelled (codes "i") ws) {x = Ray a.0.0 b.0} (same_ok (Ray a.0.0 b.0) x b.2) (front (codes "i") ws a.0.0 a.0.1 (flat_map term_words b.0) n.0 r.0, (n.1, r.1))

point_cut_takes : (ws : List Word) (x : CertLine) → point_cut_at ws ≡ Ok x → Spelled (codes "p") ws x
unfolding point_cut_at
point_cut_takes ws x e =
    let a = bind_ok (choices_from 0 ws) (λ y. bound_at y.1 >>= λ n. terms_from 0 n.1 >>= λ mult. Ok (Point y.0 n.0 mult)) x e in
    let b = bind_ok (bound_at a.0.1) (λ n. terms_from 0 n.1 >>= λ mult. Ok (Point a.0.0 n.0 mult)) x a.2 in
    let d = bind_ok (terms_from 0 b.0.1) (λ mult. Ok (Point a.0.0 b.0.0 mult)) x b.2 in
    let n = no_good_takes ws a.0 a.1 in
    let k = bound_takes a.0.1 b.0 b.1 in
    let r = row_takes b.0.1 d.0 d.1 in
    let behind : a.0.1 ≡ signed_decimal b.0.0 ∷ colon ∷ flat_map term_words d.0 = k.0 ∙ ap (λ (t : List Word). signed_decimal b.0.0 ∷ colon ∷ t) r.0 in
    subst (Spelled (codes "p") ws) {x = Point a.0.0 b.0.0 d.0} (same_ok (Point a.0.0 b.0.0 d.0) x d.2)
    (front (codes "p") ws a.0.0 a.0.1 (signed_decimal b.0.0 ∷ colon ∷ flat_map term_words d.0) n.0 behind, (n.1, k.1, k.2, r.1))

derived_takes : (ws : List Word) (x : CertLine) → derived_at ws ≡ Ok x → Spelled (codes "d") ws x
unfolding derived_at
derived_takes ws x e =
    let a = bind_ok (choices_from 0 ws) (λ y. hints_at y.1 >>= λ hints. Ok (Derived y.0 hints)) x e in
    let b = bind_ok (hints_at a.0.1) (λ hints. Ok (Derived a.0.0 hints)) x a.2 in
    let n = no_good_takes ws a.0 a.1 in
    let h = hints_take a.0.1 b.0 b.1 in
    subst (Spelled (codes "d") ws) {x = Derived a.0.0 b.0} (same_ok (Derived a.0.0 b.0) x b.2) (front (codes "d") ws a.0.0 a.0.1 (map hint_word b.0) n.0 h.0, (n.1, h.1))

of_kind : (kind letter : Word) (ws : List Word) (x : CertLine) → bytes_eq kind letter ≡ true → Spelled letter ws x → Spelled kind ws x
of_kind kind letter ws x t h = (ap (λ (v : Word). v ∷ ws) ((bytes_eq-Decides kind letter).0 t) ∙ h.0, h.1)

cut_takes : (kind : Word) (ws : List Word) (x : CertLine) → cut_at kind ws ≡ Ok x → Spelled kind ws x
unfolding cut_at
cut_takes kind ws x e = elim (either (bytes_eq kind (codes "i")) (ray_cut_at ws) (cond (bytes_eq kind (codes "p")) (point_cut_at ws) (cond (bytes_eq kind (codes "d")) (derived_at ws) (Err BadLine))) (Ok x) e) [
  | inl ray ↦ of_kind kind (codes "i") ws x ray.0 (ray_cut_takes ws x ray.1)
  | inr other ↦ elim (either (bytes_eq kind (codes "p")) (point_cut_at ws) (cond (bytes_eq kind (codes "d")) (derived_at ws) (Err BadLine)) (Ok x) other.1) [
    | inl point ↦ of_kind kind (codes "p") ws x point.0 (point_cut_takes ws x point.1)
    | inr last ↦ elim (either (bytes_eq kind (codes "d")) (derived_at ws) (Err BadLine) (Ok x) last.1) [
      | inl derived ↦ of_kind kind (codes "d") ws x derived.0 (derived_takes ws x derived.1)
      | inr none ↦ absurd (no_line x none.1)
    ]
  ]
]
  where
    read : CertLine → Reading CertLine
    read x = Ok x

    no_line : (x : CertLine) → Err BadLine ≡ read x → ⊥
    no_line x e = absurd cc

pub line_takes : (ws : List Word) (x : CertLine) → line_at ws ≡ Ok x → (ws ≡ line_words x) × IsLine x
unfolding line_at
line_takes ws x e =
    let a = bind_ok (first_at ws) (λ first. cut_at first.0 first.1) x e in
    let t = cut_takes a.0.0 a.0.1 x a.2 in
    (first_takes ws a.0 a.1 ∙ t.0, t.1)

ray_cut_again : (ng : List Choice) (mult : List (ℕ × ℤ)) → IsLine (Ray ng mult) → ray_cut_at (map choice_word ng ++ colon ∷ flat_map term_words mult) ≡ Ok (Ray ng mult)
unfolding ray_cut_at
ray_cut_again ng mult h =
    ap (λ (r : Reading (List Choice × List Word)). r >>= λ y. terms_from 0 y.1 >>= λ m. Ok (Ray y.0 m)) (no_good_again ng (flat_map term_words mult) h.0)
    ∙ ap (λ (r : Reading (List (ℕ × ℤ))). r >>= λ m. Ok (Ray ng m)) (row_again mult h.1)

point_cut_again : (ng : List Choice) (e : ℤ) (mult : List (ℕ × ℤ)) → IsLine (Point ng e mult) → point_cut_at (map choice_word ng ++ colon ∷ signed_decimal e ∷ colon ∷ flat_map term_words mult) ≡ Ok (Point ng e mult)
unfolding point_cut_at
point_cut_again ng e mult h =
    ap (λ (r : Reading (List Choice × List Word)). r >>= λ y. bound_at y.1 >>= λ n. terms_from 0 n.1 >>= λ m. Ok (Point y.0 n.0 m)) (no_good_again ng (signed_decimal e ∷ colon ∷ flat_map term_words mult) h.0)
    ∙ ap (λ (r : Reading (ℤ × List Word)). r >>= λ n. terms_from 0 n.1 >>= λ m. Ok (Point ng n.0 m)) (bound_again e (flat_map term_words mult) h.1 h.2)
    ∙ ap (λ (r : Reading (List (ℕ × ℤ))). r >>= λ m. Ok (Point ng e m)) (row_again mult h.3)

derived_again : (ng : List Choice) (hints : List ℕ) → IsLine (Derived ng hints) → derived_at (map choice_word ng ++ colon ∷ map hint_word hints) ≡ Ok (Derived ng hints)
unfolding derived_at
derived_again ng hints h =
    ap (λ (r : Reading (List Choice × List Word)). r >>= λ y. hints_at y.1 >>= λ hs. Ok (Derived y.0 hs)) (no_good_again ng (map hint_word hints) h.0)
    ∙ ap (λ (r : Reading (List ℕ)). r >>= λ hs. Ok (Derived ng hs)) (hints_again hints h.1)

pub line_again : (x : CertLine) → IsLine x → line_at (line_words x) ≡ Ok x
unfolding line_at first_at cut_at
line_again (Ray ng mult) h = ray_cut_again ng mult h
line_again (Point ng e mult) h = point_cut_again ng e mult h
line_again (Derived ng hints) h = derived_again ng hints h

-- ---- the last line

pub end_takes : (n : ℕ) (ws : List Word) (k : ℕ) → end_at n ws ≡ Ok k → (ws ≡ codes "end" ∷ decimal n ∷ []) × (n < 2 ^ 64)
unfolding end_at
end_takes n ws k e =
    let a = bind_ok (after (codes "end") ws) (λ rest. first_at rest >>= λ first. count_at n first.0 >>= λ y. ended first.1 >>= λ _. Ok y) k e in
    let f = bind_ok (first_at a.0) (λ first. count_at n first.0 >>= λ y. ended first.1 >>= λ _. Ok y) k a.2 in
    let v = bind_ok (count_at n f.0.0) (λ y. ended f.0.1 >>= λ _. Ok y) k f.2 in
    let z = bind_ok (ended f.0.1) (λ _. Ok v.0) k v.2 in
    let t = count_takes n f.0.0 v.0 v.1 in (
      after_takes (codes "end") ws a.0 a.1
          ∙ ap (λ (x : List Word). codes "end" ∷ x) (first_takes a.0 f.0 f.1 ∙ ap (λ (x : Word). x ∷ f.0.1) (sym t.0) ∙ ap (λ (x : List Word). decimal n ∷ x) (ended_takes f.0.1 z.0 z.1)),
      t.1,
    )

pub end_again : (n : ℕ) → n < 2 ^ 64 → end_at n (codes "end" ∷ decimal n ∷ []) ≡ Ok n
unfolding end_at first_at ended
end_again n h =
    ap (λ (r : Reading (List Word)). r >>= λ rest. first_at rest >>= λ first. count_at n first.0 >>= λ y. ended first.1 >>= λ _. Ok y) (after_again (codes "end") (decimal n ∷ []))
    ∙ ap (λ (r : Reading ℕ). r >>= λ y. ended [] >>= λ _. Ok y) (count_again n h)
