-- Cuts that are tested over lists alone.
use Rattle.std.proofs.Common.{◌≡◌, ℕ, ◌+◌, ◌<◌, ◌≤◌, Bool, true, false, List, [], ◌∷◌, ◌++◌, length, get_or, take, Option, Some, None, refl, sym, ap, subst, ◌∙◌, ℤ}
use Rattle.std.specs.Prelude.{All, slice_get}
use Rattle.std.proofs.lemmas.List.{append-nil, take_more, take_all}
use Rattle.std.proofs.lemmas.List.Elements.{All-push}
use Rattle.lp_base.specs.Ascending.{ascends_by, number_of}
use Rattle.lpcc_case.specs.Instance.{Instance}
use Rattle.cert_check.specs.declared.accept.NoWhy.{NoWhy}
use Rattle.cert_check.specs.Results.{Finds}
use Rattle.cert2_text.specs.declared.cert2.Cert2Line.{Cert2Line}
use Rattle.cert2_text.specs.declared.cert2.Cert2Line.TheVariants.{Shared, Ray, Point, Derived, Forget}
use Rattle.cert2_text.specs.Certs2.{IsLine2}
use Rattle.cert2_text.specs.Wholes.{Said, Terms, list_in, lists_of}
use Rattle.cert2_check.specs.Acceptance2.{Line2Fails}
use Rattle.cert2_check.specs.Results2.{Before, Shows, AreGood, CutPasses, only_lists, with_lists}
use Rattle.cert2_check.proofs.Showing.{lists_push}
use Rattle.parallel_check.specs.Testing.{HasOnlyLists, is_cut}

shows_only : (e : Before) → HasOnlyLists e → Shows e (only_lists e.lists)
shows_only e only = record {
  lists = refl;
  no_goods = only.0;
  size = ap length only.1 ∙ sym (ap length only.0);
  flags = λ h. ap (λ (flags : List Bool). get_or flags h false) only.1;
}

pub cut_marked : (a : Instance) (value : Option (ℤ × ℤ)) (e : Before) (x : Cert2Line) → is_cut x ≡ true → HasOnlyLists e → ((said : Said) → Shows e said → (why : NoWhy) → Line2Fails a value said x why → ⊥) → CutPasses a value e.lists x
cut_marked a value e (Shared mult) cut only h = absurd cc
cut_marked a value e (Ray ng list mult) cut only h = λ why f. h (only_lists e.lists) (shows_only e only) why f
cut_marked a value e (Point ng k list mult) cut only h = λ why f. h (only_lists e.lists) (shows_only e only) why f
cut_marked a value e (Derived ng hints) cut only h = absurd cc
cut_marked a value e (Forget lines) cut only h = absurd cc

-- the lists of the first lines
pub record AreLists (lines : List Cert2Line) (i : ℕ) (e : Before) : Type 0 where
  pub lists : e.lists ≡ lists_of (take i lines)
  pub good : AreGood e
  pub only : HasOnlyLists e

same_good : (e : Before) → AreGood e → AreGood (with_lists e [])
same_good e g = record { lists = subst (λ (ls : List Terms). All (λ l. ascends_by number_of l ≡ true) ls) (sym (append-nil e.lists)) g.lists; no_goods = g.no_goods }

good_lists : (e : Before) (x : Cert2Line) → AreGood e → IsLine2 x → AreGood (with_lists e (list_in x))
good_lists e (Shared mult) g form = record { lists = All-push (λ l. ascends_by number_of l ≡ true) e.lists mult g.lists form.ascending; no_goods = g.no_goods }
good_lists e (Ray ng list mult) g form = same_good e g
good_lists e (Point ng k list mult) g form = same_good e g
good_lists e (Derived ng hints) g form = same_good e g
good_lists e (Forget lines) g form = same_good e g

pub lists_more : (lines : List Cert2Line) (i : ℕ) (x : Cert2Line) (e new : Before) → i < length lines → x ≡ get_or lines i x → All IsLine2 lines → AreLists lines i e → new ≡ with_lists e (list_in x) → AreLists lines (i + 1) new
lists_more lines i x e new inside is forms h made = subst (AreLists lines (i + 1)) (sym made) (record {
  lists = ap (λ ls. ls ++ list_in x) h.lists ∙ sym (lists_push (take i lines) x) ∙ ap (λ (y : Cert2Line). lists_of (take i lines ++ y ∷ [])) is ∙ sym (ap lists_of (take_more lines i x inside));
  good = good_lists e x h.good (subst IsLine2 (sym is) (forms i x inside));
  only = h.only;
})

pub lists_all : (lines : List Cert2Line) (i : ℕ) (e : Before) → length lines ≤ i → AreLists lines i e → (e.lists ≡ lists_of lines) × AreGood e × HasOnlyLists e
lists_all lines i e past h = (h.lists ∙ ap lists_of (take_all i lines past), h.good, h.only)

pub none_found : (a : Instance) (value : Option (ℤ × ℤ)) (e : Before) (x : Cert2Line) (found : Option NoWhy) → found ≡ None → ((said : Said) → Shows e said → Finds (Line2Fails a value said x) found)
    → (said : Said) → Shows e said → (why : NoWhy) → Line2Fails a value said x why → ⊥
none_found a value e x found none h said s = subst (λ (r : Option NoWhy). Finds (Line2Fails a value said x) r) none (h said s)
