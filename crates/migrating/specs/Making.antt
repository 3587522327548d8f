-- How a migration is made: lists of multipliers, each once; what a cut becomes over them; and the last line that hints at
-- each line.
use Rattle.std.specs.Prelude.{◌≡◌, ◌+◌, ◌==◌, ◌<◌, ℕ, Bool, not, ◌&&◌, nat_le, if◌then◌else◌, List, [], ◌∷◌, ◌++◌, length, drop, slice_get, slice_index_or, slice_set, Option, Some, None}
use Rattle.std.specs.List.{filter, range_with_len}
use Rattle.cert_text.specs.declared.cert.CertLine.{CertLine}
use Rattle.cert_text.specs.declared.cert.CertLine.TheVariants as line
use Rattle.cert2_text.specs.declared.cert2.Cert2Line.{Cert2Line}
use Rattle.cert2_text.specs.declared.cert2.Cert2Line.TheVariants.{Shared, Ray, Point, Derived}
use Rattle.cert2_text.specs.Wholes.{Terms}
use Rattle.migrating.specs.declared.lists.TheConstants.{LEAST_SHARED}
use Rattle.migrating.specs.Migration.{same_terms, is_shared, has_list, place, names_hint, last_named, drop_line}

-- ---- lists

-- multipliers behind the lists, unless they are among them
abbrev pub add_list : List Terms → Terms → List Terms
add_list lists mult = if has_list lists mult then lists else lists ++ mult ∷ []

-- these are the multipliers that the lines share
abbrev pub AreShared : List CertLine → List Terms → Type 0
AreShared all shared = (mult : Terms) → has_list shared mult ≡ is_shared all mult

-- how often multipliers stand in a list of these
abbrev pub count_in : List Terms → Terms → ℕ
count_in mults mult = length (filter (same_terms mult) mults)

-- of some multipliers those of enough terms, and those of them that stand there at least twice
pub record AreCounted (mults once again : List Terms) : Type 0 where
  pub once_is : (mult : Terms) → has_list once mult ≡ (nat_le LEAST_SHARED (length mult) && nat_le 1 (count_in mults mult))
  pub again_is : (mult : Terms) → has_list again mult ≡ (nat_le LEAST_SHARED (length mult) && nat_le 2 (count_in mults mult))

-- ---- cuts, over the lists that are shared and those before the cut

abbrev pub list_named : List Terms → List Terms → Terms → Option ℕ
list_named shared lists mult = if has_list shared mult then Some (place lists mult) else None

abbrev pub own_terms : Option ℕ → Terms → Terms
own_terms None mult = mult
own_terms (Some h) mult = []

abbrev pub is_new : List Terms → List Terms → Terms → Bool
is_new shared lists mult = has_list shared mult && not (has_list lists mult)

-- the list that stands in front of the cut
abbrev pub list_in_front : List Terms → List Terms → Terms → List Cert2Line
list_in_front shared lists mult = if is_new shared lists mult then Shared mult ∷ [] else []

-- the lists behind the cut
abbrev pub lists_and : List Terms → List Terms → Terms → List Terms
lists_and shared lists mult = if is_new shared lists mult then lists ++ mult ∷ [] else lists

abbrev pub made_line : List Terms → List Terms → CertLine → List ℕ → List Cert2Line
made_line shared lists (line.Ray ng mult) dropped =
    let list = list_named shared lists mult in list_in_front shared lists mult ++ Ray ng list (own_terms list mult) ∷ []
made_line shared lists (line.Point ng e mult) dropped =
    let list = list_named shared lists mult in list_in_front shared lists mult ++ Point ng e list (own_terms list mult) ∷ []
made_line shared lists (line.Derived ng hints) dropped = Derived ng hints ∷ drop_line dropped

abbrev pub made_lists : List Terms → List Terms → CertLine → List Terms
made_lists shared lists (line.Ray ng mult) = lists_and shared lists mult
made_lists shared lists (line.Point ng e mult) = lists_and shared lists mult
made_lists shared lists (line.Derived ng hints) = lists

-- ---- lines that hint last

abbrev pub hints_in : CertLine → List ℕ
hints_in (line.Ray ng mult) = []
hints_in (line.Point ng e mult) = []
hints_in (line.Derived ng hints) = hints

-- this number at each of these places
abbrev pub noted : List ℕ → ℕ → List ℕ → List ℕ
noted last number [] = last
noted last number (h ∷ hints) = noted (slice_set last h number) number hints

-- the number of the last of the lines that hints at a line, the first of them having the number above this one; or 0
abbrev pub last_hint : ℕ → List CertLine → ℕ → ℕ
last_hint above [] h = 0
last_hint above (y ∷ ys) h =
    let later = last_hint (above + 1) ys h in
    if later == 0 then (if names_hint (hints_in y) h then above + 1 else 0) else later

-- for each line the number of the last line that hints at it, from 1, or 0
pub record AreLast (lines : List CertLine) (last : List ℕ) : Type 0 where
  pub size : length last ≡ length lines
  pub each : (h : ℕ) → h < length lines → slice_index_or last h 0 ≡ last_hint 0 lines h

-- for each line the lines at which it is the last to hint
pub record AreLastHinted (lines : List CertLine) (rows : List (List ℕ)) : Type 0 where
  pub size : length rows ≡ length lines
  pub each : (k : ℕ) (y : CertLine) → slice_get lines k ≡ Some y → slice_index_or rows k [] ≡ last_named (length lines) (hints_in y) (drop (k + 1) lines)

-- the first lines, as many as are told, each in the list at the place before the number that it has
pub record AreRows (last : List ℕ) (count : ℕ) (rows : List (List ℕ)) : Type 0 where
  pub size : length rows ≡ length last
  pub each : (k : ℕ) → k < length last → slice_index_or rows k [] ≡ filter (λ h. slice_index_or last h 0 == k + 1) (range_with_len 0 count)
