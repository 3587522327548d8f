-- The lines that are made are those of the migration.
use Rattle.std.proofs.Common.{◌≡◌, ℕ, ◌+◌, ◌<◌, ◌≤◌, Bool, true, false, not, ◌&&◌, cond, List, [], ◌∷◌, ◌++◌, length, drop, get_or, Option, Some, None, refl, sym, ap, ◌∙◌, append_assoc, arith}
use Rattle.std.proofs.lemmas.List.{append-nil, drop_more, drop_all, get_or_default}
use Rattle.std.proofs.lemmas.Option.{slice_get-get_or}
use Rattle.cert_text.specs.declared.cert.CertLine.{CertLine}
use Rattle.cert_text.specs.declared.cert.CertLine.TheVariants as line
use Rattle.cert2_text.specs.declared.cert2.Cert2Line.{Cert2Line}
use Rattle.cert2_text.specs.declared.cert2.Cert2Line.TheVariants.{Shared, Ray, Point, Derived}
use Rattle.cert2_text.specs.Wholes.{Terms}
use Rattle.migrating.specs.Migration.{has_list, place, lists_behind, last_named, drop_line, migrated_cut, migrated_line, migrated_from}
use Rattle.migrating.specs.Making.{AreShared, AreLastHinted, hints_in, list_named, own_terms, list_in_front, made_line, made_lists}

abbrev Cut : Type 0
Cut = Option ℕ → Terms → Cert2Line

cut_is : (cut : Cut) (p : ℕ) (mult : Terms) (s h : Bool)
    → cond (s && not h) (Shared mult ∷ []) [] ++ cut (cond s (Some p) None) (own_terms (cond s (Some p) None) mult) ∷ [] ≡ cond s (cond h [] (Shared mult ∷ []) ++ cut (Some p) [] ∷ []) (cut None mult ∷ [])
cut_is cut p mult true true = refl
cut_is cut p mult true false = refl
cut_is cut p mult false h = refl

made_cut_is : (all : List CertLine) (shared lists : List Terms) (mult : Terms) (cut : Cut) → AreShared all shared
    → list_in_front shared lists mult ++ cut (list_named shared lists mult) (own_terms (list_named shared lists mult) mult) ∷ [] ≡ migrated_cut all lists mult cut
made_cut_is all shared lists mult cut are =
    cut_is cut (place lists mult) mult (has_list shared mult) (has_list lists mult)
    ∙ ap (λ (s : Bool). cond s (cond (has_list lists mult) [] (Shared mult ∷ []) ++ cut (Some (place lists mult)) [] ∷ []) (cut None mult ∷ [])) (are mult)

line_is : (all : List CertLine) (shared lists : List Terms) (y : CertLine) (later : List CertLine) (dropped : List ℕ) → AreShared all shared → dropped ≡ last_named (length all) (hints_in y) later
    → made_line shared lists y dropped ≡ migrated_line all lists y later
line_is all shared lists (line.Ray ng mult) later dropped are e = made_cut_is all shared lists mult (λ list own. Ray ng list own) are
line_is all shared lists (line.Point ng k mult) later dropped are e = made_cut_is all shared lists mult (λ list own. Point ng k list own) are
line_is all shared lists (line.Derived ng hints) later dropped are e = ap (λ (ds : List ℕ). Derived ng hints ∷ drop_line ds) e

lists_are : (all : List CertLine) (shared lists : List Terms) (y : CertLine) → AreShared all shared → made_lists shared lists y ≡ lists_behind all lists y
lists_are all shared lists (line.Ray ng mult) are = ap (λ (s : Bool). cond (s && not (has_list lists mult)) (lists ++ mult ∷ []) lists) (are mult)
lists_are all shared lists (line.Point ng k mult) are = ap (λ (s : Bool). cond (s && not (has_list lists mult)) (lists ++ mult ∷ []) lists) (are mult)
lists_are all shared lists (line.Derived ng hints) are = refl

-- one line more
pub put_more : (all : List CertLine) (shared lists new_lists : List Terms) (lines new_lines whole : List Cert2Line) (at : ℕ) (y : CertLine) (rows : List (List ℕ)) (dropped : List ℕ) → at < length all → y ≡ get_or all at y
    → AreShared all shared → AreLastHinted all rows → dropped ≡ get_or rows at [] → new_lists ≡ made_lists shared lists y → new_lines ≡ lines ++ made_line shared lists y dropped
    → lines ++ migrated_from all lists (drop at all) ≡ whole → new_lines ++ migrated_from all new_lists (drop (at + 1) all) ≡ whole
put_more all shared lists new_lists lines new_lines whole at y rows dropped inside same are behind d e f h =
    let later = drop (at + 1) all in
    let dropped_is : dropped ≡ last_named (length all) (hints_in y) later = d ∙ behind.each at y (slice_get-get_or all at y inside ∙ ap Some (sym same)) in
    let here : drop at all ≡ y ∷ later = drop_more all at y inside ∙ ap (λ (z : CertLine). z ∷ later) (sym same) in
    ap (λ (ls : List Cert2Line). ls ++ migrated_from all new_lists later) (f ∙ ap (λ (ls : List Cert2Line). lines ++ ls) (line_is all shared lists y later dropped are dropped_is))
    ∙ append_assoc lines (migrated_line all lists y later) (migrated_from all new_lists later)
    ∙ ap (λ (ls : List Terms). lines ++ (migrated_line all lists y later ++ migrated_from all ls later)) (e ∙ lists_are all shared lists y are)
    ∙ ap (λ (ys : List CertLine). lines ++ migrated_from all lists ys) (sym here) ∙ h

pub put_all : (all : List CertLine) (lists : List Terms) (lines whole : List Cert2Line) (at : ℕ) → length all ≤ at → lines ++ migrated_from all lists (drop at all) ≡ whole → lines ≡ whole
put_all all lists lines whole at past h = sym (ap (λ (ys : List CertLine). lines ++ migrated_from all lists ys) (drop_all at all past) ∙ append-nil lines) ∙ h

-- the lines that are dropped behind a line
pub row_at : (all : List CertLine) (rows : List (List ℕ)) (at : ℕ) (d dropped : List ℕ) → AreLastHinted all rows → at < length all → dropped ≡ get_or rows at d → dropped ≡ get_or rows at []
row_at all rows at d dropped behind inside e = e ∙ get_or_default rows at d [] (omega (arith, inside, behind.size))
