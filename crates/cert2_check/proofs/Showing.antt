-- What the code keeps of the lines so far, one line more.
use Rattle.std.proofs.Common.{◌≡◌, ℕ, zero, suc, ◌+◌, ◌-◌, ◌<◌, Bool, true, false, ◌||◌, eqb, List, [], ◌∷◌, ◌++◌, length, get_or, set, take, Some, refl, sym, ap, subst, ◌∙◌, append_assoc, inl, inr, arith}
use Rattle.std.specs.Prelude.{All, slice_get, ◌==◌, ◌↔◌}
use Rattle.std.specs.List.{list_any}
use Rattle.std.proofs.lemmas.Bool.{cases_eq, cases_lt, eq-eqb, ne_eqb}
use Rattle.std.proofs.lemmas.List.{append-nil, length_push, get_or-set_same, get_or-set_other, length-set, take_more}
use Rattle.std.proofs.lemmas.Option.{same_Some, slice_get-get_or, slice_get_within}
use Rattle.cert_check.proofs.Endings.{empty_from_length, length_from_empty}
use Rattle.std.proofs.lemmas.List.Concat.{flat_map-append}
use Rattle.std.proofs.lemmas.List.Elements.{All-head, All-tail, All-push}
use Rattle.nogoods.specs.declared.choice.Choice.{Choice}
use Rattle.derivation.specs.HintRuns.{NamesBelow}
use Rattle.lp_base.specs.Ascending.{ascends_by, number_of}
use Rattle.cert2_text.specs.declared.cert2.Cert2Line.{Cert2Line}
use Rattle.cert2_text.specs.declared.cert2.Cert2Line.TheVariants.{Shared, Ray, Point, Derived, Forget}
use Rattle.cert2_text.specs.Certs2.{IsLine2}
use Rattle.cert2_text.specs.Wholes.{Terms, list_in, lists_of, no_good_in, no_goods_of, dropped_in, dropped_of, is_dropped, said_by}
use Rattle.cert2_check.specs.Results2.{Before, Flags, Shows, AreGood, marked, with_list, with_no_good, with_dropped, with_line}

-- ---- flags

or_false : (b : Bool) → (b || false) ≡ b
or_false true = refl
or_false false = refl

any_push : (p : ℕ → Bool) (xs : List ℕ) (x : ℕ) → list_any p (xs ++ x ∷ []) ≡ (list_any p xs || p x)
any_push p [] x = or_false (p x)
any_push p (y ∷ xs) x = ap (λ (b : Bool). p y || b) (any_push p xs x) ∙ or_assoc (p y) (list_any p xs) (p x)
  where
    or_assoc : (a b c : Bool) → (a || (b || c)) ≡ ((a || b) || c)
    or_assoc true b c = refl
    or_assoc false b c = refl

or_true : (b : Bool) → (b || true) ≡ true
or_true true = refl
or_true false = refl

set_flags : (flags : List Bool) (dropped : List ℕ) (h : ℕ) → Flags flags dropped → h < length flags → Flags (set flags h true) (dropped ++ h ∷ [])
set_flags flags dropped h f inside k = elim (cases_eq h k) [
  | inl same ↦
      ap (λ (j : ℕ). get_or (set flags h true) j false) (sym same) ∙ get_or-set_same flags h true false inside
      ∙ sym (any_push (λ d. eqb d k) dropped h ∙ ap (λ (b : Bool). is_dropped dropped k || b) (eq-eqb h k same) ∙ or_true (is_dropped dropped k))
  | inr other ↦
      get_or-set_other flags h k true false (λ e. other (sym e)) ∙ f k
      ∙ sym (any_push (λ d. eqb d k) dropped h ∙ ap (λ (b : Bool). is_dropped dropped k || b) (ne_eqb h k other) ∙ or_false (is_dropped dropped k))
]

marked_flags : (flags : List Bool) (dropped hs : List ℕ) → Flags flags dropped → All (λ h. h < length flags) hs → Flags (marked flags hs) (dropped ++ hs)
marked_flags flags dropped [] f inside = subst (Flags flags) (sym (append-nil dropped)) f
marked_flags flags dropped (h ∷ hs) f inside =
    let first = All-head (λ x. x < length flags) h hs inside in
    let rest : All (λ x. x < length (set flags h true)) hs = subst (λ (n : ℕ). All (λ x. x < n) hs) (sym (length-set flags h true)) (All-tail (λ x. x < length flags) h hs inside) in
    subst (Flags (marked (set flags h true) hs)) (append_assoc dropped (h ∷ []) hs) (marked_flags (set flags h true) (dropped ++ h ∷ []) hs (set_flags flags dropped h f first) rest)

pub length-marked : (flags : List Bool) (hs : List ℕ) → length (marked flags hs) ≡ length flags
length-marked flags [] = refl
length-marked flags (h ∷ hs) = length-marked (set flags h true) hs ∙ length-set flags h true

push_flag : (flags : List Bool) (k : ℕ) → get_or (flags ++ false ∷ []) k false ≡ get_or flags k false
push_flag [] zero = refl
push_flag [] (suc k) = refl
push_flag (b ∷ flags) zero = refl
push_flag (b ∷ flags) (suc k) = push_flag flags k

-- ---- what lines say, one line more

pub lists_push : (lines : List Cert2Line) (x : Cert2Line) → lists_of (lines ++ x ∷ []) ≡ lists_of lines ++ list_in x
lists_push lines x = flat_map-append list_in lines (x ∷ []) ∙ ap (λ (t : List Terms). lists_of lines ++ t) (append-nil (list_in x))

pub no_goods_push : (lines : List Cert2Line) (x : Cert2Line) → no_goods_of (lines ++ x ∷ []) ≡ no_goods_of lines ++ no_good_in x
no_goods_push lines x = flat_map-append no_good_in lines (x ∷ []) ∙ ap (λ (t : List (List Choice)). no_goods_of lines ++ t) (append-nil (no_good_in x))

pub dropped_push : (lines : List Cert2Line) (x : Cert2Line) → dropped_of (lines ++ x ∷ []) ≡ dropped_of lines ++ dropped_in x
dropped_push lines x = flat_map-append dropped_in lines (x ∷ []) ∙ ap (λ (t : List ℕ). dropped_of lines ++ t) (append-nil (dropped_in x))

abbrev pub same_lists : List Cert2Line → Cert2Line → Type 0
same_lists lines x = list_in x ≡ [] → lists_of (lines ++ x ∷ []) ≡ lists_of lines

pub lists_same : (lines : List Cert2Line) (x : Cert2Line) → same_lists lines x
lists_same lines x e = lists_push lines x ∙ ap (λ (t : List Terms). lists_of lines ++ t) e ∙ append-nil (lists_of lines)

pub no_goods_same : (lines : List Cert2Line) (x : Cert2Line) → no_good_in x ≡ [] → no_goods_of (lines ++ x ∷ []) ≡ no_goods_of lines
no_goods_same lines x e = no_goods_push lines x ∙ ap (λ (t : List (List Choice)). no_goods_of lines ++ t) e ∙ append-nil (no_goods_of lines)

pub dropped_same : (lines : List Cert2Line) (x : Cert2Line) → dropped_in x ≡ [] → dropped_of (lines ++ x ∷ []) ≡ dropped_of lines
dropped_same lines x e = dropped_push lines x ∙ ap (λ (t : List ℕ). dropped_of lines ++ t) e ∙ append-nil (dropped_of lines)

shows_list : (e : Before) (lines : List Cert2Line) (mult : Terms) → Shows e (said_by lines) → Shows (with_list e mult) (said_by (lines ++ Shared mult ∷ []))
shows_list e lines mult s = record {
  lists = ap (λ (t : List Terms). t ++ mult ∷ []) s.lists ∙ sym (lists_push lines (Shared mult));
  no_goods = s.no_goods ∙ sym (no_goods_same lines (Shared mult) refl);
  size = s.size;
  flags = subst (Flags e.dropped) (sym (dropped_same lines (Shared mult) refl)) s.flags;
}

shows_no_good : (e : Before) (lines : List Cert2Line) (x : Cert2Line) (ng : List Choice) → list_in x ≡ [] → no_good_in x ≡ ng ∷ [] → dropped_in x ≡ [] → Shows e (said_by lines) → Shows (with_no_good e ng) (said_by (lines ++ x ∷ []))
shows_no_good e lines x ng no_list one none s = record {
  lists = s.lists ∙ sym (lists_same lines x no_list);
  no_goods = ap (λ (t : List (List Choice)). t ++ ng ∷ []) s.no_goods ∙ sym (no_goods_push lines x ∙ ap (λ (t : List (List Choice)). no_goods_of lines ++ t) one);
  size = omega (arith, s.size, length_push e.dropped false, length_push e.no_goods ng);
  flags = subst (Flags (e.dropped ++ false ∷ [])) (sym (dropped_same lines x none)) (λ k. push_flag e.dropped k ∙ s.flags k);
}

shows_dropped : (e : Before) (lines : List Cert2Line) (hs : List ℕ) → Shows e (said_by lines) → All (λ h. h < length e.dropped) hs → Shows (with_dropped e hs) (said_by (lines ++ Forget hs ∷ []))
shows_dropped e lines hs s inside = record {
  lists = s.lists ∙ sym (lists_same lines (Forget hs) refl);
  no_goods = s.no_goods ∙ sym (no_goods_same lines (Forget hs) refl);
  size = length-marked e.dropped hs ∙ s.size;
  flags = subst (Flags (marked e.dropped hs)) (sym (dropped_push lines (Forget hs))) (marked_flags e.dropped (dropped_of lines) hs s.flags inside);
}

pub shows_more : (e : Before) (lines : List Cert2Line) (x : Cert2Line) → Shows e (said_by lines) → All (λ h. h < length e.dropped) (dropped_in x) → Shows (with_line e x) (said_by (lines ++ x ∷ []))
shows_more e lines (Shared mult) s inside = shows_list e lines mult s
shows_more e lines (Ray ng list mult) s inside = shows_no_good e lines (Ray ng list mult) ng refl refl refl s
shows_more e lines (Point ng k list mult) s inside = shows_no_good e lines (Point ng k list mult) ng refl refl refl s
shows_more e lines (Derived ng hints) s inside = shows_no_good e lines (Derived ng hints) ng refl refl refl s
shows_more e lines (Forget hs) s inside = shows_dropped e lines hs s inside

good_no_good : (e : Before) (ng : List Choice) → AreGood e → NamesBelow 512 ng → AreGood (with_no_good e ng)
good_no_good e ng g named = record { lists = g.lists; no_goods = All-push (NamesBelow 512) e.no_goods ng g.no_goods named }

pub good_more : (e : Before) (x : Cert2Line) → AreGood e → IsLine2 x → AreGood (with_line e x)
good_more e (Shared mult) g form = record { lists = All-push (λ l. ascends_by number_of l ≡ true) e.lists mult g.lists form.ascending; no_goods = g.no_goods }
good_more e (Ray ng list mult) g form = good_no_good e ng g form.0.pairs_named
good_more e (Point ng k list mult) g form = good_no_good e ng g form.0.pairs_named
good_more e (Derived ng hints) g form = good_no_good e ng g form.0.pairs_named
good_more e (Forget hs) g form = record { lists = g.lists; no_goods = g.no_goods }

-- a line more behind the first ones of a list
pub shows_next : (e new : Before) (lines : List Cert2Line) (at : ℕ) (x : Cert2Line) → at < length lines → x ≡ get_or lines at x → new ≡ with_line e x → Shows e (said_by (take at lines)) → All (λ h. h < length e.dropped) (dropped_in x)
    → Shows new (said_by (take (at + 1) lines))
shows_next e new lines at x inside is made s dropped =
    let more : take at lines ++ x ∷ [] ≡ take (at + 1) lines = ap (λ (y : Cert2Line). take at lines ++ y ∷ []) is ∙ sym (take_more lines at x inside) in
    subst (λ (ls : List Cert2Line). Shows new (said_by ls)) more (subst (λ (b : Before). Shows b (said_by (take at lines ++ x ∷ []))) (sym made) (shows_more e (take at lines) x s dropped))

pub good_next : (e new : Before) (x : Cert2Line) → new ≡ with_line e x → AreGood e → IsLine2 x → AreGood new
good_next e new x made g form = subst AreGood (sym made) (good_more e x g form)

-- ---- the last no-good

pub ends_by : (xs : List (List Choice)) (cs : List Choice) (r : Bool) → (length xs ≡ 0 → ⊥) → cs ≡ get_or xs (length xs - 1) [] → r ≡ (length cs == 0) → (r ≡ true) ↔ (slice_get xs (length xs - 1) ≡ Some [])
ends_by xs cs r some is test =
    let inside : length xs - 1 < length xs = elim (cases_lt 0 (length xs)) [
      | inl low ↦ omega (arith, low)
      | inr none ↦ absurd (some (omega (arith, none)))
    ] in
    let at : slice_get xs (length xs - 1) ≡ Some cs = slice_get-get_or xs (length xs - 1) [] inside ∙ ap (λ z. Some z) (sym is) in (
      λ holds. at ∙ ap (λ z. Some z) (empty_from_length cs (sym test ∙ holds)),
      λ ends. test ∙ length_from_empty cs (same_Some cs [] (sym at ∙ ends)),
    )

pub no_end : (xs : List (List Choice)) → length xs ≡ 0 → slice_get xs (length xs - 1) ≡ Some [] → ⊥
no_end xs none ends = omega (arith, none, slice_get_within xs (length xs - 1) [] ends)

pub form_at : (lines : List Cert2Line) (at : ℕ) (x : Cert2Line) → at < length lines → x ≡ get_or lines at x → All IsLine2 lines → IsLine2 x
form_at lines at x inside is forms = subst IsLine2 (sym is) (forms at x inside)
