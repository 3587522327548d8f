-- Names that stand once.
use Rattle.std.proofs.Common.{◌≡◌, Bool, true, false, ◌||◌, cond, List, [], ◌∷◌, ◌++◌, refl, sym, ap, ◌∙◌}
use Rattle.std.proofs.lemmas.Bool.{or_parts, true≢false}
use Rattle.std.proofs.lemmas.List.Folds.{list_any-append}
use Rattle.std.specs.Prelude.{fold}
use Rattle.std.specs.Str.{bytes_eq}
use Rattle.mps_lex.specs.Kinds.{Name}
use Rattle.decks.specs.Names.{has, add_name}
use Rattle.decks.proofs.KeptNames.{same_name, own_name, has_more, has_added}

same_back : (b : Bool) (m n : Name) → bytes_eq n m ≡ b → bytes_eq m n ≡ false → b ≡ false
same_back true m n q e = absurd (true≢false (sym (own_name m) ∙ ap (bytes_eq m) (sym (same_name n m q)) ∙ e))
same_back false m n q e = refl

pub other_way : (m n : Name) → bytes_eq m n ≡ false → bytes_eq n m ≡ false
other_way m n e = same_back (bytes_eq n m) m n refl e

abbrev pub Distinct : List Name → Type 0
Distinct [] = Unit {0}
Distinct (n ∷ ns) = (has ns n ≡ false) × Distinct ns

neither : (a b : Bool) → a ≡ false → b ≡ false → (a || (b || false)) ≡ false
neither a b e f = ap (λ (x : Bool). x || (b || false)) e ∙ ap (λ (x : Bool). x || false) f

distinct_push : (ns : List Name) (c : Name) → Distinct ns → has ns c ≡ false → Distinct (ns ++ c ∷ [])
distinct_push [] c d e = (refl, tt)
distinct_push (n ∷ ns) c d e =
    let p = or_parts (bytes_eq c n) (has ns c) e in
    (list_any-append (bytes_eq n) ns (c ∷ []) ∙ neither (has ns n) (bytes_eq n c) d.0 (other_way c n p.0), distinct_push ns c d.1 p.1)

distinct_by : (b : Bool) (ns : List Name) (c : Name) → has ns c ≡ b → Distinct ns → Distinct (cond b ns (ns ++ c ∷ []))
distinct_by true ns c q d = d
distinct_by false ns c q d = distinct_push ns c d q

pub distinct_all : (ns more : List Name) → Distinct ns → Distinct (fold add_name ns more)
distinct_all ns [] d = d
distinct_all ns (c ∷ more) d = distinct_all (add_name ns c) more (distinct_by (has ns c) ns c refl d)

still_has : (ns more : List Name) (c : Name) → has ns c ≡ true → has (fold add_name ns more) c ≡ true
still_has ns [] c h = h
still_has ns (n ∷ more) c h = still_has (add_name ns n) more c (has_more ns n c h)

has_by : (b : Bool) (ns more : List Name) (n c : Name) → bytes_eq c n ≡ b → (has more c ≡ true → has (fold add_name (add_name ns n) more) c ≡ true) → (b || has more c) ≡ true → has (fold add_name (add_name ns n) more) c ≡ true
has_by true ns more n c q next h = still_has (add_name ns n) more c (ap (has (add_name ns n)) (same_name c n q) ∙ has_added ns n)
has_by false ns more n c q next h = next h

-- each name stands once
pub has_once : (ns more : List Name) (c : Name) → has more c ≡ true → has (fold add_name ns more) c ≡ true
has_once ns [] c h = absurd (true≢false (sym h))
has_once ns (n ∷ more) c h = has_by (bytes_eq c n) ns more n c refl (λ e. has_once (add_name ns n) more c e) h

pub not_by : (b : Bool) (ns : List Name) (c : Name) → has ns c ≡ b → has (fold add_name [] ns) c ≡ false → b ≡ false
not_by true ns c q e = absurd (true≢false (sym (has_once [] ns c q) ∙ e))
not_by false ns c q e = refl
