-- Walks over tables by their places.
use Rattle.std.proofs.Common.{ℕ, zero, suc, ◌+◌, ◌≡◌, ◌<◌, Bool, true, false, cond, List, [], ◌∷◌, ◌++◌, map, take, fold, length, Option, Some, None, ap, sym, ◌∙◌, arith}
use Rattle.std.proofs.lemmas.List.{map_push, append-nil}
use Rattle.std.proofs.lemmas.List.Elements.{filter-append}
use Rattle.std.proofs.lemmas.List.Sums.{fold_push}
use Rattle.std.proofs.lemmas.Option.{same_Some}
use Rattle.std.specs.Prelude.{slice_get, filter, option_map}
use Rattle.mps_lex.specs.Kinds.{Name}
use Rattle.decks.specs.declared.deck.Column.{Column}
use Rattle.decks.specs.Bounds.{is_below_zero, lesser, below_zero_line}

-- one element more
pub more : {X : Type 0} (xs : List X) (i : ℕ) (x : X) → slice_get xs i ≡ Some x → take (i + 1) xs ≡ take i xs ++ x ∷ []
more {X = X} [] i x e = absurd cc
more {X = X} (y ∷ ys) zero x e = ap (λ (z : X). z ∷ []) (same_Some y x e)
more {X = X} (y ∷ ys) (suc i) x e = ap (λ (k : ℕ). take k (y ∷ ys)) (shift i) ∙ ap (λ (t : List X). y ∷ t) (more ys i x e)
  where
    shift : (i : ℕ) → suc i + 1 ≡ suc (i + 1)
    shift i = omega arith

-- the element that a look-up gives
pub told : {X Y : Type 0} (f : X → Y) (ys : List Y) (i : ℕ) (o : Option X) (x : X) → option_map f o ≡ slice_get ys i → o ≡ Some x → slice_get ys i ≡ Some (f x)
told {X = X} f ys i o x e is = sym e ∙ ap (λ (z : Option X). option_map f z) is

pub untold : {X Y Z : Type 0} (f : X → Y) (ys : List Y) (i : ℕ) (o : Option X) → option_map f o ≡ slice_get ys i → o ≡ None → i < length ys → Z
untold {X = X} f [] i o e is h = absurd (omega (arith, h))
untold {X = X} f (y ∷ ys) zero o e is h = absurd (none (sym (ap (λ (z : Option X). option_map f z) is) ∙ e))
  where
    none : None ≡ Some y → ⊥
    none q = absurd cc
untold {X = X} f (y ∷ ys) (suc i) o e is h = untold f ys i o e is (omega (arith, h))

below_push : (cs : List Column) (c : Column) → below_zero_line (cs ++ c ∷ []) ≡ cond (is_below_zero c) (lesser (below_zero_line cs) c.upper.line) (below_zero_line cs)
below_push cs c = ap (λ (t : List Column). fold lesser None (map (λ x. x.upper.line) t)) (filter-append is_below_zero cs (c ∷ [])) ∙ by (is_below_zero c)
  where
    by : (b : Bool) → fold lesser None (map (λ x. x.upper.line) (filter is_below_zero cs ++ cond b (c ∷ []) [])) ≡ cond b (lesser (below_zero_line cs) c.upper.line) (below_zero_line cs)
    by true = ap (λ (t : List ℕ). fold lesser None t) (map_push (λ x. x.upper.line) (filter is_below_zero cs) c) ∙ fold_push lesser None (map (λ x. x.upper.line) (filter is_below_zero cs)) c.upper.line
    by false = ap (λ (t : List Column). fold lesser None (map (λ x. x.upper.line) t)) (append-nil (filter is_below_zero cs))

pub below_more : (es : List (Name × Column)) (i : ℕ) (e : Name × Column) (least new : Option ℕ) → slice_get es i ≡ Some e → least ≡ below_zero_line (map (λ x. x.1) (take i es)) → new ≡ cond (is_below_zero e.1) (lesser least e.1.upper.line) least → new ≡ below_zero_line (map (λ x. x.1) (take (i + 1) es))
below_more es i e least new q h hn =
    hn ∙ ap (λ (o : Option ℕ). cond (is_below_zero e.1) (lesser o e.1.upper.line) o) h ∙ sym (below_push (map (λ x. x.1) (take i es)) e.1)
    ∙ ap below_zero_line (sym (map_push (λ x. x.1) (take i es) e)) ∙ ap (λ (t : List (Name × Column)). below_zero_line (map (λ x. x.1) t)) (sym (more es i e q))
