-- Groups speak of quantities of the deck, and their pairs and those of PAIRS are not too many.
use Rattle.std.proofs.Common.{ℕ, zero, suc, ◌+◌, ◌≤◌, ◌≡◌, Bool, true, false, not, ◌||◌, cond, List, [], ◌∷◌, ◌++◌, length, map, None, refl, sym, ap, subst, ◌∙◌, ltb, arith}
use Rattle.std.proofs.lemmas.Bool.{ltb-false, or_parts, true≢false}
use Rattle.std.proofs.lemmas.List.{append-nil, length-append, length-map, map-append, map_push}
use Rattle.std.proofs.lemmas.List.Concat.{flat_map-append}
use Rattle.std.proofs.lemmas.List.Elements.{All-from_recursion, filter-append}
use Rattle.std.specs.Prelude.{All, filter}
use Rattle.std.specs.List.{AllByRecursion, flat_map, list_any}
use Rattle.std.specs.Str.{bytes_eq}
use Rattle.mps_lex.specs.Kinds.{Name}
use Rattle.mps_lex.specs.Lines.{Line}
use Rattle.decks.specs.declared.deck.Deck.{Deck}
use Rattle.decks.specs.declared.deck.GroupLine.{GroupLine}
use Rattle.decks.specs.declared.deck.PairLine.{PairLine}
use Rattle.decks.specs.declared.deck.Quantity.{Quantity}
use Rattle.decks.specs.declared.fault.DeckWhy.TheVariants.{FieldCount, GroupSplit, PairKind, TooMany}
use Rattle.decks.specs.Decks.{NamesQuantity, twos, new_pairs, group_pairs}
use Rattle.decks.specs.Names.{has, place, add_name}
use Rattle.decks.specs.Bounds.{settings_in, column_bounds, Setting}
use Rattle.decks.specs.Spelling.{field, RowLine, RowValue, rows_of, column_names, pair_names, ItemWords, items_in, items_on, items_of, item_of, group_names, group_of, deck_groups}
use Rattle.decks.specs.Faults.{◌or◌, fault_if, is_kind, quantity_fault, is_split, are_items, group_front_fault, items_fault, full_group_fault, group_fault}
use Rattle.decks.proofs.KeptParts.{first_none, second_none, if_none, all_map, all_flat}
use Rattle.decks.proofs.KeptNames.{same_name, own_name, columns_push}
use Rattle.decks.proofs.OnceNames.{other_way, not_by}
use Rattle.decks.proofs.KeptRows.{RowsKept}
use Rattle.decks.proofs.KeptBounds.{SettingsKept}
use Rattle.decks.proofs.KeptPairs.{IsMade, quantity_named}
use Rattle.decks.proofs.KeptSlices.{IsRightBy, groups_fault, by_lines, each_line}

-- ---- the pairs of further items

one_before : (n more : ℕ) → new_pairs (n + 1) more ≡ more + new_pairs n more
one_before n zero = refl
one_before n (suc more) = omega (arith, one_before (n + 1) more)

abbrev paired : Quantity → Quantity → PairLine
paired a b = record { a = a; b = b }

abbrev with_first : Quantity → List Quantity → List PairLine
with_first a items = map (paired a) items

first_twos : (a : Quantity) (items : List Quantity) → length (twos (a ∷ items)) ≡ length items + length (twos items)
first_twos a items =
    let made : length (with_first a items) ≡ length items = length-map items (paired a) in
    omega (arith, length-append (with_first a items) (twos items), made)

all_new : (more : List Quantity) → length (twos more) ≡ new_pairs 0 (length more)
all_new [] = refl
all_new (a ∷ more) = omega (arith, first_twos a more, all_new more, one_before 0 (length more))

plus_one : (n : ℕ) → suc n ≡ n + 1
plus_one n = omega arith

pub more_twos : (items more : List Quantity) → length (twos (items ++ more)) ≡ length (twos items) + new_pairs (length items) (length more)
more_twos [] more = omega (arith, all_new more)
more_twos (a ∷ items) more =
    let all : length (twos ((a ∷ items) ++ more)) ≡ length (items ++ more) + length (twos (items ++ more)) = first_twos a (items ++ more) in
    let next : new_pairs (suc (length items)) (length more) ≡ new_pairs (length items + 1) (length more) = ap (λ (n : ℕ). new_pairs n (length more)) (plus_one (length items)) in
    omega (arith, all, next, first_twos a items, length-append items more, more_twos items more, one_before (length items) (length more))

-- ---- the items of a group on one line more

own_items : (b : Bool) (l : Line) → flat_map (λ (x : Line). items_on x.fields) (cond b (l ∷ []) []) ≡ cond b (items_on l.fields) []
own_items true l = append-nil (items_on l.fields)
own_items false l = refl

items_push : (g : Name) (ls : List Line) (l : Line) → items_of g (ls ++ l ∷ []) ≡ items_of g ls ++ cond (bytes_eq g (field 0 l.fields)) (items_on l.fields) []
items_push g ls l =
    let own = λ (x : Line). bytes_eq g (field 0 x.fields) in
    ap (flat_map (λ (x : Line). items_on x.fields)) (filter-append own ls (l ∷ []))
    ∙ flat_map-append (λ (x : Line). items_on x.fields) (filter own ls) (cond (own l) (l ∷ []) [])
    ∙ ap (λ (x : List ItemWords). items_of g ls ++ x) (own_items (own l) l)

other_items : (g : Name) (ls : List Line) (l : Line) → bytes_eq g (field 0 l.fields) ≡ false → items_of g (ls ++ l ∷ []) ≡ items_of g ls
other_items g ls l e = items_push g ls l ∙ ap (λ (b : Bool). items_of g ls ++ cond b (items_on l.fields) []) e ∙ append-nil (items_of g ls)

same_items : (ls : List Line) (l : Line) → items_of (field 0 l.fields) (ls ++ l ∷ []) ≡ items_of (field 0 l.fields) ls ++ items_on l.fields
same_items ls l =
    let g = field 0 l.fields in
    items_push g ls l ∙ ap (λ (b : Bool). items_of g ls ++ cond b (items_on l.fields) []) (own_name g)

-- ---- groups that stay

abbrev name_of : Line → Name
name_of l = field 0 l.fields

unnamed : (ls : List Line) (g : Name) → has (map name_of ls) g ≡ false → items_of g ls ≡ []
unnamed [] g e = refl
unnamed (l ∷ ls) g e =
    let p = or_parts (bytes_eq g (name_of l)) (has (map name_of ls) g) e in
    let rest = filter (λ (x : Line). bytes_eq g (field 0 x.fields)) ls in
    ap (λ (b : Bool). flat_map (λ (x : Line). items_on x.fields) (cond b (l ∷ rest) rest)) p.0 ∙ unnamed ls g p.1

no_items : (ls : List Line) (g : Name) → has (group_names ls) g ≡ false → items_of g ls ≡ []
no_items ls g e = unnamed ls g (not_by (has (map name_of ls) g) (map name_of ls) g refl e)

others_stay : (rows : List RowLine) (columns : List Name) (ls : List Line) (l : Line) (ns : List Name) → has ns (field 0 l.fields) ≡ false → map (group_of rows columns (ls ++ l ∷ [])) ns ≡ map (group_of rows columns ls) ns
others_stay rows columns ls l [] e = refl
others_stay rows columns ls l (n ∷ ns) e =
    let p = or_parts (bytes_eq (field 0 l.fields) n) (has ns (field 0 l.fields)) e in
    let here = other_items n ls l (other_way (field 0 l.fields) n p.0) in
    λ i. record { items = map (item_of rows columns) (here i) } ∷ others_stay rows columns ls l ns p.1 i

-- ---- the last name

record EndsBy (ns : List Name) (g : Name) : Type 0 where
  pub front : List Name
  pub names : ns ≡ front ++ g ∷ []
  pub fresh : has front g ≡ false

ends_here : (b : Bool) (n g : Name) → bytes_eq g n ≡ b → (b || false) ≡ true → EndsBy (n ∷ []) g
ends_here true n g q h = record { front = []; names = ap (λ (x : Name). x ∷ []) (sym (same_name g n q)); fresh = refl }
ends_here false n g q h = absurd (true≢false (sym h))

ends_later : (b any : Bool) (n g : Name) (ns : List Name) (len p : ℕ) → bytes_eq g n ≡ b → (b || any) ≡ true → suc (suc len) ≤ cond (not b) (1 + p) 0 + 1 → (any ≡ true → suc len ≤ p + 1 → EndsBy ns g) → EndsBy (n ∷ ns) g
ends_later true any n g ns len p q h le next = absurd (omega (arith, le))
ends_later false any n g ns len p q h le next =
    let rest = next h (omega (arith, le)) in
    record {
      front = n ∷ rest.front;
      names = ap (λ (x : List Name). n ∷ x) rest.names;
      fresh = ap (λ (b : Bool). b || has rest.front g) q ∙ rest.fresh;
    }

-- a name that stands and is not split is the last one
ends_by : (ns : List Name) (g : Name) → has ns g ≡ true → length ns ≤ place ns g + 1 → EndsBy ns g
ends_by [] g h le = absurd (true≢false (sym h))
ends_by (n ∷ []) g h le = ends_here (bytes_eq g n) n g refl h
ends_by (n ∷ m ∷ ns) g h le =
    ends_later (bytes_eq g n) (has (m ∷ ns) g) n g (m ∷ ns) (length ns) (place (m ∷ ns) g) refl h le (λ any more. ends_by (m ∷ ns) g any more)

-- ---- the groups behind one line more

abbrev pub group_with : List Quantity → GroupLine
group_with items = record { items = items }

-- the group of the line stands as the last one, or is new; behind the line it is the last one with these items more
pub record GroupStep (before after : List GroupLine) (stands : Bool) (old more : List Quantity) : Type 0 where
  pub front : List GroupLine
  pub before_is : before ≡ cond stands (front ++ group_with old ∷ []) front
  pub after_is : after ≡ front ++ group_with (old ++ more) ∷ []
  pub new : stands ≡ false → old ≡ []

abbrev items_at : List RowLine → List Name → Name → List Line → List Quantity
items_at rows columns g ls = map (item_of rows columns) (items_of g ls)

-- the group of a line with its items
grown_group : (rows : List RowLine) (columns : List Name) (ls : List Line) (l : Line)
    → group_of rows columns (ls ++ l ∷ []) (field 0 l.fields) ≡ group_with (items_at rows columns (field 0 l.fields) ls ++ map (item_of rows columns) (items_on l.fields))
grown_group rows columns ls l =
    ap (λ (x : List ItemWords). group_with (map (item_of rows columns) x)) (same_items ls l)
    ∙ ap group_with (map-append (item_of rows columns) (items_of (field 0 l.fields) ls) (items_on l.fields))

step_new : (rows : List RowLine) (columns : List Name) (ls : List Line) (l : Line) → has (group_names ls) (field 0 l.fields) ≡ false
    → GroupStep (deck_groups rows columns ls) (map (group_of rows columns (ls ++ l ∷ [])) (group_names ls ++ field 0 l.fields ∷ [])) false (items_at rows columns (field 0 l.fields) ls) (map (item_of rows columns) (items_on l.fields))
step_new rows columns ls l e = record {
  front = deck_groups rows columns ls;
  before_is = refl;
  after_is = map_push (group_of rows columns (ls ++ l ∷ [])) (group_names ls) (field 0 l.fields)
      ∙ (λ i. others_stay rows columns ls l (group_names ls) e i ++ grown_group rows columns ls l i ∷ []);
  new = λ _. ap (map (item_of rows columns)) (no_items ls (field 0 l.fields) e);
}

step_last : (rows : List RowLine) (columns : List Name) (ls : List Line) (l : Line) (ns : List Name) → EndsBy ns (field 0 l.fields)
    → GroupStep (map (group_of rows columns ls) ns) (map (group_of rows columns (ls ++ l ∷ [])) ns) true (items_at rows columns (field 0 l.fields) ls) (map (item_of rows columns) (items_on l.fields))
step_last rows columns ls l ns e = record {
  front = map (group_of rows columns ls) e.front;
  before_is = ap (map (group_of rows columns ls)) e.names ∙ map_push (group_of rows columns ls) e.front (field 0 l.fields);
  after_is = ap (map (group_of rows columns (ls ++ l ∷ []))) e.names ∙ map_push (group_of rows columns (ls ++ l ∷ [])) e.front (field 0 l.fields)
      ∙ (λ i. others_stay rows columns ls l e.front e.fresh i ++ grown_group rows columns ls l i ∷ []);
  new = λ q. absurd (true≢false q);
}

step_by : (rows : List RowLine) (columns : List Name) (ls : List Line) (l : Line) (b : Bool) → has (group_names ls) (field 0 l.fields) ≡ b → length (group_names ls) ≤ place (group_names ls) (field 0 l.fields) + 1
    → GroupStep (deck_groups rows columns ls) (map (group_of rows columns (ls ++ l ∷ [])) (cond b (group_names ls) (group_names ls ++ field 0 l.fields ∷ []))) b (items_at rows columns (field 0 l.fields) ls) (map (item_of rows columns) (items_on l.fields))
step_by rows columns ls l true e le = step_last rows columns ls l (group_names ls) (ends_by (group_names ls) (field 0 l.fields) e le)
step_by rows columns ls l false e le = step_new rows columns ls l e

pub group_step : (rows : List RowLine) (columns : List Name) (ls : List Line) (l : Line) → length (group_names ls) ≤ place (group_names ls) (field 0 l.fields) + 1
    → GroupStep (deck_groups rows columns ls) (deck_groups rows columns (ls ++ l ∷ [])) (has (group_names ls) (field 0 l.fields)) (map (item_of rows columns) (items_of (field 0 l.fields) ls)) (map (item_of rows columns) (items_on l.fields))
group_step rows columns ls l le =
    subst (λ (ns : List Name). GroupStep (deck_groups rows columns ls) (map (group_of rows columns (ls ++ l ∷ [])) ns) (has (group_names ls) (field 0 l.fields)) (items_at rows columns (field 0 l.fields) ls) (map (item_of rows columns) (items_on l.fields)))
    (sym (columns_push ls l)) (step_by rows columns ls l (has (group_names ls) (field 0 l.fields)) refl le)

-- ---- the pairs of the groups behind one line more

pairs_push : (groups : List GroupLine) (items : List Quantity) → length (group_pairs (groups ++ group_with items ∷ [])) ≡ length (group_pairs groups) + length (twos items)
pairs_push groups items =
    ap length (flat_map-append (λ (g : GroupLine). twos g.items) groups (group_with items ∷ []) ∙ ap (λ (x : List PairLine). group_pairs groups ++ x) (append-nil (twos items)))
    ∙ length-append (group_pairs groups) (twos items)

pairs_before : (front : List GroupLine) (b : Bool) (old : List Quantity) → (b ≡ false → old ≡ []) → length (group_pairs (cond b (front ++ group_with old ∷ []) front)) ≡ length (group_pairs front) + length (twos old)
pairs_before front true old none = pairs_push front old
pairs_before front false old none = omega (arith, ap (λ (x : List Quantity). length (twos x)) (none refl))

pub step_pairs : (before after : List GroupLine) (b : Bool) (old more : List Quantity) → GroupStep before after b old more → length (group_pairs after) ≡ length (group_pairs before) + new_pairs (length old) (length more)
step_pairs before after b old more s =
    omega (arith, ap (λ (x : List GroupLine). length (group_pairs x)) s.before_is, ap (λ (x : List GroupLine). length (group_pairs x)) s.after_is, pairs_before s.front b old s.new, pairs_push s.front (old ++ more), more_twos old more)

-- ---- what a right line says

pub record IsGroupLine (rows : List RowLine) (columns : List Name) (ss : List Setting) (groups : List Name) (n made : ℕ) (fs : List Name) : Type 0 where
  pub whole : length groups ≤ place groups (field 0 fs) + 1
  pub items : items_fault rows columns (column_bounds ss) (items_on fs) ≡ None
  pub room : made + new_pairs n (length (items_on fs)) ≤ 512

pub group_line : (rows : List RowLine) (columns : List Name) (ss : List Setting) (groups : List Name) (n made : ℕ) (fs : List Name) → group_fault rows columns (column_bounds ss) groups n made fs ≡ None → IsGroupLine rows columns ss groups n made fs
group_line rows columns ss groups n made [] e = absurd cc
group_line rows columns ss groups n made (g ∷ ws) e =
    let front = group_front_fault groups g ws in
    let items = items_fault rows columns (column_bounds ss) (items_in ws) in
    let full = full_group_fault made n (length (items_in ws)) in
    let after = second_none front (items or full) e in
    let count = fault_if (not (are_items ws)) FieldCount in
    let kinds = fault_if (list_any (λ (w : ItemWords). not (is_kind w.0)) (items_in ws)) PairKind in
    let split = fault_if (is_split groups g) GroupSplit in
    let last = second_none kinds split (second_none count (kinds or split) (first_none front (items or full) e)) in
    record {
      whole = ltb-false (place groups g + 1) (length groups) (if_none (is_split groups g) GroupSplit last);
      items = first_none items full after;
      room = ltb-false 512 (made + new_pairs n (length (items_in ws))) (if_none (ltb 512 (made + new_pairs n (length (items_in ws)))) TooMany (second_none items full after));
    }

-- ---- the lines

pub few_made : (rows columns bounds pairs ls : List Line) → length (pair_names pairs) ≤ 512 → IsRightBy (groups_fault rows columns bounds pairs) [] ls
    → length (pair_names pairs) + length (group_pairs (deck_groups (rows_of rows) (column_names columns) ls)) ≤ 512
few_made rows columns bounds pairs ls few h =
    by_lines (groups_fault rows columns bounds pairs) (λ gs. length (pair_names pairs) + length (group_pairs (deck_groups (rows_of rows) (column_names columns) gs)) ≤ 512) one [] ls (omega (arith, few)) h
  where
    one : (before : List Line) (l : Line) → length (pair_names pairs) + length (group_pairs (deck_groups (rows_of rows) (column_names columns) before)) ≤ 512 → groups_fault rows columns bounds pairs before l.fields ≡ None
        → length (pair_names pairs) + length (group_pairs (deck_groups (rows_of rows) (column_names columns) (before ++ l ∷ []))) ≤ 512
    one before l room e =
        let rs = rows_of rows in
        let cs = column_names columns in
        let line = group_line rs cs (settings_in bounds) (group_names before) (length (items_of (field 0 l.fields) before)) (length (pair_names pairs) + length (group_pairs (deck_groups rs cs before))) l.fields e in
        let old = map (item_of rs cs) (items_of (field 0 l.fields) before) in
        let more = map (item_of rs cs) (items_on l.fields) in
        let count = step_pairs (deck_groups rs cs before) (deck_groups rs cs (before ++ l ∷ [])) (has (group_names before) (field 0 l.fields)) old more (group_step rs cs before l line.whole) in
        let same : new_pairs (length old) (length more) ≡ new_pairs (length (items_of (field 0 l.fields) before)) (length (items_on l.fields)) =
        λ i. new_pairs (length-map (items_of (field 0 l.fields) before) (item_of rs cs) i) (length-map (items_on l.fields) (item_of rs cs) i) in
        omega (arith, line.room, count, same)

-- ---- the items

abbrev IsRightItem : List RowLine → List Name → List Setting → ItemWords → Type 0
IsRightItem rows columns ss w = quantity_fault rows columns (column_bounds ss) w.0 w.1 ≡ None

right_items : (rows : List RowLine) (columns : List Name) (ss : List Setting) (ws : List ItemWords) → items_fault rows columns (column_bounds ss) ws ≡ None → AllByRecursion (IsRightItem rows columns ss) ws
right_items rows columns ss [] e = tt
right_items rows columns ss (w ∷ ws) e =
    let one = quantity_fault rows columns (column_bounds ss) w.0 w.1 in
    let rest = items_fault rows columns (column_bounds ss) ws in
    (first_none one rest e, right_items rows columns ss ws (second_none one rest e))

kept_by : {X : Type 0} (P : X → Type 0) (b : Bool) (x : X) (xs : List X) → P x → AllByRecursion P xs → AllByRecursion P (cond b (x ∷ xs) xs)
kept_by P true x xs p a = (p, a)
kept_by P false x xs p a = a

all_filter : {X : Type 0} (P : X → Type 0) (test : X → Bool) (xs : List X) → AllByRecursion P xs → AllByRecursion P (filter test xs)
all_filter P test [] a = tt
all_filter P test (x ∷ xs) a = kept_by P (test x) x (filter test xs) a.0 (all_filter P test xs a.1)

each_map : {X Y : Type 0} (Q : Y → Type 0) (g : X → Y) (h : (x : X) → Q (g x)) (xs : List X) → AllByRecursion Q (map g xs)
each_map Q g h [] = tt
each_map Q g h (x ∷ xs) = (h x, each_map Q g h xs)

abbrev pub HasNamedItems : Deck → GroupLine → Type 0
HasNamedItems d g = All (NamesQuantity d) g.items

pub groups_are : (d : Deck) (rows columns bounds pairs ls : List Line) (rights ranges : List RowValue) → IsMade d (rows_of rows) (column_names columns) (settings_in bounds) rights ranges → RowsKept (rows_of rows) → SettingsKept (settings_in bounds)
    → IsRightBy (groups_fault rows columns bounds pairs) [] ls → AllByRecursion (HasNamedItems d) (deck_groups (rows_of rows) (column_names columns) ls)
groups_are d rows columns bounds pairs ls rights ranges m h k right =
    let rs = rows_of rows in
    let cs = column_names columns in
    let ss = settings_in bounds in
    let IsRightLine = λ (fs : List Name). AllByRecursion (IsRightItem rs cs ss) (items_on fs) in
    let lines = each_line (groups_fault rows columns bounds pairs) IsRightLine (λ before fs e. right_items rs cs ss (items_on fs) (group_line rs cs ss (group_names before) (length (items_of (field 0 fs) before)) (length (pair_names pairs) + length (group_pairs (deck_groups rs cs before))) fs e).items) [] ls right in
    each_map (HasNamedItems d) (group_of rs cs ls)
    (λ g.
    let own = filter (λ (l : Line). bytes_eq g (field 0 l.fields)) ls in
    let words = all_flat (λ (l : Line). IsRightLine l.fields) (IsRightItem rs cs ss) (λ (l : Line). items_on l.fields) (λ l q. q) own (all_filter (λ (l : Line). IsRightLine l.fields) (λ (l : Line). bytes_eq g (field 0 l.fields)) ls lines) in
    All-from_recursion (NamesQuantity d) (map (item_of rs cs) (items_of g ls))
    (all_map (IsRightItem rs cs ss) (NamesQuantity d) (item_of rs cs) (λ w q. quantity_named d rs cs ss rights ranges w.0 w.1 m h k q) (items_of g ls) words))
    (group_names ls)
