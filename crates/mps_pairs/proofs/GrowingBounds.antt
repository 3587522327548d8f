-- What is known of bounds when a line of BOUNDS is read.
use Rattle.std.proofs.Common.{◌≡◌, Bool, true, false, ◌||◌, cond, List, [], ◌∷◌, ◌++◌, map, Option, Some, None, refl, sym, ap, ◌∙◌, append_assoc}
use Rattle.std.proofs.lemmas.Bool.{or_parts}
use Rattle.std.proofs.lemmas.List.{append-nil, map_push}
use Rattle.std.proofs.lemmas.List.Concat.{flat_map-append}
use Rattle.std.proofs.lemmas.List.Elements.{filter-append}
use Rattle.std.proofs.lemmas.List.Sums.{fold_push}
use Rattle.std.specs.Prelude.{fold, unwrap_or}
use Rattle.std.specs.Str.{bytes_eq}
use Rattle.mps_lex.specs.Kinds.{Name}
use Rattle.mps_lex.specs.Lines.{Line}
use Rattle.decks.specs.declared.deck.Column.{Column}
use Rattle.decks.specs.Names.{has, add_name, named, put}
use Rattle.decks.specs.Bounds.{Setting, setting_on, settings_in, bound_set, default_column, set_by, settings_of, column_bounds, bounded, below_zero_line, upper_below_zero}
use Rattle.decks.specs.Spelling.{first_set}
use Rattle.mps_tables.specs.Known.{set_or, bounds_of, known_bounds, bounds_with, with_setting, with_settings, with_bound}
use Rattle.decks.proofs.KeptNames.{same_name, own_name}
use Rattle.decks.proofs.OnceNames.{Distinct, other_way, distinct_all, not_by}

-- ---- the bounds of a column behind one more setting

-- those of a column are one more, or the same, by whether the setting is of that column
own_push : (b : Bool) (ss : List Setting) (s : Setting) → fold set_by default_column (ss ++ cond b (s ∷ []) []) ≡ cond b (set_by (fold set_by default_column ss) s) (fold set_by default_column ss)
own_push true ss s = fold_push set_by default_column ss s
own_push false ss s = ap (fold set_by default_column) (append-nil ss)

bounds_behind : (ss : List Setting) (s : Setting) (c : Name) → column_bounds (ss ++ s ∷ []) c ≡ cond (bytes_eq c s.column) (set_by (column_bounds ss c) s) (column_bounds ss c)
bounds_behind ss s c =
    ap (fold set_by default_column) (filter-append (λ (x : Setting). bytes_eq c x.column) ss (s ∷ [])) ∙ own_push (bytes_eq c s.column) (settings_of c ss) s

other_same : (ss : List Setting) (s : Setting) (c : Name) → bytes_eq c s.column ≡ false → column_bounds (ss ++ s ∷ []) c ≡ column_bounds ss c
other_same ss s c e = bounds_behind ss s c ∙ ap (λ (b : Bool). cond b (set_by (column_bounds ss c) s) (column_bounds ss c)) e

own_same : (ss : List Setting) (s : Setting) → column_bounds (ss ++ s ∷ []) s.column ≡ set_by (column_bounds ss s.column) s
own_same ss s = bounds_behind ss s s.column ∙ ap (λ (b : Bool). cond b (set_by (column_bounds ss s.column) s) (column_bounds ss s.column)) (own_name s.column)

-- ---- the columns with their bounds

named_by : (b : Bool) (ss : List Setting) (n : Name) (ns : List Name) (c : Name) → bytes_eq c n ≡ b → named (map (bounds_of ss) ns) c ≡ cond (has ns c) (Some (column_bounds ss c)) None
    → cond b (Some (column_bounds ss n)) (named (map (bounds_of ss) ns) c) ≡ cond (b || has ns c) (Some (column_bounds ss c)) None
named_by true ss n ns c q next = ap (λ (x : Name). Some (column_bounds ss x)) (sym (same_name c n q))
named_by false ss n ns c q next = next

named_mapped : (ss : List Setting) (ns : List Name) (c : Name) → named (map (bounds_of ss) ns) c ≡ cond (has ns c) (Some (column_bounds ss c)) None
named_mapped ss [] c = refl
named_mapped ss (n ∷ ns) c = named_by (bytes_eq c n) ss n ns c refl (named_mapped ss ns c)

abbrev columns_of : Setting → Name
columns_of s = s.column

-- no setting is of a column of this name
unnamed : (ss : List Setting) (c : Name) → has (map columns_of ss) c ≡ false → settings_of c ss ≡ []
unnamed [] c e = refl
unnamed (s ∷ ss) c e =
    let p = or_parts (bytes_eq c s.column) (has (map columns_of ss) c) e in
    ap (λ (b : Bool). cond b (s ∷ settings_of c ss) (settings_of c ss)) p.0 ∙ unnamed ss c p.1

free_by : (b : Bool) (ss : List Setting) (c : Name) → has (bounded ss) c ≡ b → unwrap_or (cond b (Some (column_bounds ss c)) None) default_column ≡ column_bounds ss c
free_by true ss c q = refl
free_by false ss c q = sym (ap (fold set_by default_column) (unnamed ss c (not_by (has (map columns_of ss) c) (map columns_of ss) c refl q)))

abbrev bounds_known : List Setting → List (Name × Column)
bounds_known ss = map (bounds_of ss) (bounded ss)

pub bounds_same : (ss : List Setting) (c : Name) → bounds_with (map (bounds_of ss) (bounded ss)) c ≡ column_bounds ss c
bounds_same ss c = ap (λ (o : Option Column). unwrap_or o default_column) (named_mapped ss (bounded ss) c) ∙ free_by (has (bounded ss) c) ss c refl

seconds : (ss : List Setting) (ns : List Name) → map (λ (e : Name × Column). e.1) (map (bounds_of ss) ns) ≡ map (column_bounds ss) ns
seconds ss [] = refl
seconds ss (n ∷ ns) = ap (λ (x : List Column). column_bounds ss n ∷ x) (seconds ss ns)

pub below_same : (ss : List Setting) → below_zero_line (map (λ (e : Name × Column). e.1) (map (bounds_of ss) (bounded ss))) ≡ upper_below_zero ss
below_same ss = ap below_zero_line (seconds ss (bounded ss))

-- ---- one setting more

abbrev OthersSame : List Setting → List Setting → Name → Type 0
OthersSame ss new c = (n : Name) → bytes_eq c n ≡ false → column_bounds ss n ≡ column_bounds new n

abbrev Bounds : Type 0
Bounds = List (Name × Column)

others_same : (ss new : List Setting) (c : Name) (ns : List Name) → OthersSame ss new c → has ns c ≡ false → map (bounds_of ss) ns ≡ map (bounds_of new) ns
others_same ss new c [] f e = refl
others_same ss new c (n ∷ ns) f e =
    let p = or_parts (bytes_eq c n) (has ns c) e in
    λ i. (n, f n p.0 i) ∷ others_same ss new c ns f p.1 i

added_behind : (new : List Setting) (b : Bool) (n : Name) (ns more : List Name) → map (bounds_of new) (cond b (n ∷ ns) (n ∷ more)) ≡ bounds_of new n ∷ map (bounds_of new) (cond b ns more)
added_behind new true n ns more = refl
added_behind new false n ns more = refl

put_by : (b : Bool) (ss new : List Setting) (c : Name) (x : Column) (n : Name) (ns : List Name) → bytes_eq c n ≡ b → OthersSame ss new c → x ≡ column_bounds new c → has ns n ≡ false
    → put (map (bounds_of ss) ns) c x ≡ map (bounds_of new) (add_name ns c)
    → cond b ((n, x) ∷ map (bounds_of ss) ns) (bounds_of ss n ∷ put (map (bounds_of ss) ns) c x) ≡ map (bounds_of new) (cond (b || has ns c) (n ∷ ns) (n ∷ (ns ++ c ∷ [])))
put_by true ss new c x n ns q f e d next =
    let same = same_name c n q in
    let here : x ≡ column_bounds new n = e ∙ ap (column_bounds new) same in
    let rest = others_same ss new c ns f (ap (has ns) same ∙ d) in
    λ i. (n, here i) ∷ rest i
put_by false ss new c x n ns q f e d next = (λ i. (n, f n q i) ∷ next i) ∙ sym (added_behind new (has ns c) n ns (ns ++ c ∷ []))

put_same : (ss new : List Setting) (c : Name) (x : Column) (ns : List Name) → OthersSame ss new c → x ≡ column_bounds new c → Distinct ns → put (map (bounds_of ss) ns) c x ≡ map (bounds_of new) (add_name ns c)
put_same ss new c x [] f e d = λ i. (c, e i) ∷ []
put_same ss new c x (n ∷ ns) f e d = put_by (bytes_eq c n) ss new c x n ns refl f e d.0 (put_same ss new c x ns f e d.1)

bounded_push : (ss : List Setting) (s : Setting) → bounded (ss ++ s ∷ []) ≡ add_name (bounded ss) s.column
bounded_push ss s = ap (fold add_name []) (map_push columns_of ss s) ∙ fold_push add_name [] (map columns_of ss) s.column

setting_step : (ss : List Setting) (s : Setting) → with_setting (bounds_known ss) s ≡ bounds_known (ss ++ s ∷ [])
setting_step ss s =
    let new = ss ++ s ∷ [] in
    put_same ss new s.column (set_by (bounds_with (bounds_known ss) s.column) s) (bounded ss) (λ n q. sym (other_same ss s n (other_way s.column n q)))
    (ap (λ (x : Column). set_by x s) (bounds_same ss s.column) ∙ sym (own_same ss s)) (distinct_all [] (map columns_of ss) tt)
    ∙ ap (map (bounds_of new)) (sym (bounded_push ss s))

settings_step : (ss more : List Setting) → with_settings (bounds_known ss) more ≡ bounds_known (ss ++ more)
settings_step ss [] = ap bounds_known (sym (append-nil ss))
settings_step ss (s ∷ more) =
    ap (λ (x : Bounds). with_settings x more) (setting_step ss s) ∙ settings_step (ss ++ s ∷ []) more ∙ ap bounds_known (append_assoc ss (s ∷ []) more)

-- ---- a line

pub set_push : (set_on : List Name → Name) (ls : List Line) (l : Line) → first_set set_on (ls ++ l ∷ []) ≡ set_or (first_set set_on ls) (set_on l.fields)
set_push set_on [] l = refl
set_push set_on (x ∷ ls) l = refl

settings_push : (bs : List Line) (l : Line) → settings_in (bs ++ l ∷ []) ≡ settings_in bs ++ setting_on l.number l.fields
settings_push bs l = flat_map-append (λ (x : Line). setting_on x.number x.fields) bs (l ∷ []) ∙ ap (λ (x : List Setting). settings_in bs ++ x) (append-nil (setting_on l.number l.fields))

pub bounds_push : (bs : List Line) (l : Line) → known_bounds (bs ++ l ∷ []) ≡ with_bound (known_bounds bs) l.number l.fields
bounds_push bs l =
    let columns = ap bounds_known (settings_push bs l) ∙ sym (settings_step (settings_in bs) (setting_on l.number l.fields)) in
    λ i. record { set = set_push bound_set bs l i; columns = columns i }
