-- What is known of groups when a line of GROUPS is read.
use Rattle.std.proofs.Common.{ℕ, ◌+◌, ◌-◌, ◌≤◌, ◌≡◌, Bool, true, false, cond, List, [], ◌∷◌, ◌++◌, length, map, take, get_or, Option, Some, None, refl, sym, ap, ◌∙◌, arith}
use Rattle.std.proofs.lemmas.Bool.{ltb-false}
use Rattle.std.proofs.lemmas.List.{length-append, length-map, take-append-le, take_all}
use Rattle.mps_lex.specs.Kinds.{Name}
use Rattle.mps_lex.specs.Lines.{Line}
use Rattle.mps_lex.specs.declared.line.LineKind.TheVariants.{Entry}
use Rattle.decks.specs.declared.deck.Column.{Column}
use Rattle.decks.specs.declared.deck.GroupLine.{GroupLine}
use Rattle.decks.specs.declared.deck.Quantity.{Quantity}
use Rattle.decks.specs.declared.fault.DeckWhy.{DeckWhy}
use Rattle.decks.specs.declared.fault.DeckWhy.TheVariants.{FieldCount, GroupSplit, PairKind}
use Rattle.decks.specs.Decks.{new_pairs, group_pairs}
use Rattle.decks.specs.Names.{has, place}
use Rattle.decks.specs.Spelling.{field, RowLine, ItemWords, items_in, items_on, items_of, item_of, group_names, deck_groups}
use Rattle.decks.specs.Faults.{◌or◌, fault_if, is_kind, is_split, are_items, group_front_fault, items_fault, full_group_fault, group_fault}
use Rattle.std.specs.Prelude.{not}
use Rattle.std.specs.List.{list_any}
use Rattle.decks.proofs.KeptParts.{first_none, second_none, if_none}
use Rattle.decks.proofs.KeptNames.{columns_push}
use Rattle.decks.proofs.KeptGroups.{GroupStep, group_with, group_step, step_pairs}
use Rattle.mps_pairs.specs.Groups.{known_groups, no_group, items_of_last, items_here, other_groups, with_group, known_group_fault}

-- ---- the last group

at_end : (front : List GroupLine) (g d : GroupLine) → get_or (front ++ g ∷ []) (length front) d ≡ g
at_end [] g d = refl
at_end (f ∷ front) g d = at_end front g d

before_last : (front : List GroupLine) (g : GroupLine) → length (front ++ g ∷ []) - 1 ≡ length front
before_last front g = omega (arith, length-append front (g ∷ []))

last_is : (front : List GroupLine) (items : List Quantity) → items_of_last (front ++ group_with items ∷ []) ≡ items
last_is front items =
    let all = front ++ group_with items ∷ [] in
    ap (λ (i : ℕ). (get_or all i no_group).items) (before_last front (group_with items)) ∙ ap (λ (g : GroupLine). g.items) (at_end front (group_with items) no_group)

front_is : (front : List GroupLine) (g : GroupLine) → take (length (front ++ g ∷ []) - 1) (front ++ g ∷ []) ≡ front
front_is front g =
    ap (λ (i : ℕ). take i (front ++ g ∷ [])) (before_last front g) ∙ take-append-le (length front) front (g ∷ []) (omega arith) ∙ take_all (length front) front (omega arith)

abbrev before_line : Bool → List GroupLine → List Quantity → List GroupLine
before_line b front old = cond b (front ++ group_with old ∷ []) front

here_by : (b : Bool) (front : List GroupLine) (old : List Quantity) → (b ≡ false → old ≡ []) → items_here b (before_line b front old) ≡ old
here_by true front old none = last_is front old
here_by false front old none = sym (none refl)

others_by : (b : Bool) (front : List GroupLine) (old : List Quantity) → other_groups b (before_line b front old) ≡ front
others_by true front old = front_is front (group_with old)
others_by false front old = refl

here_is : (before after : List GroupLine) (b : Bool) (old more : List Quantity) → GroupStep before after b old more → items_here b before ≡ old
here_is before after b old more s = ap (items_here b) s.before_is ∙ here_by b s.front old s.new

others_are : (before after : List GroupLine) (b : Bool) (old more : List Quantity) (s : GroupStep before after b old more) → other_groups b before ≡ s.front
others_are before after b old more s = ap (other_groups b) s.before_is ∙ others_by b s.front old

-- ---- one line more

-- a group that stands is the last one
abbrev pub IsWholeGroup : List Line → List Name → Type 0
IsWholeGroup ls fs = length (group_names ls) ≤ place (group_names ls) (field 0 fs) + 1

abbrev pairs_with : ℕ → List Quantity → List Quantity → ℕ
pairs_with made items more = made + new_pairs (length items) (length more)

pub groups_push : (rows : List RowLine) (columns : List Name) (ls : List Line) (l : Line) → IsWholeGroup ls l.fields → known_groups rows columns (ls ++ l ∷ []) ≡ with_group rows columns (known_groups rows columns ls) l.fields
groups_push rows columns ls l whole =
    let before = deck_groups rows columns ls in
    let after = deck_groups rows columns (ls ++ l ∷ []) in
    let b = has (group_names ls) (field 0 l.fields) in
    let old = map (item_of rows columns) (items_of (field 0 l.fields) ls) in
    let more = map (item_of rows columns) (items_on l.fields) in
    let s = group_step rows columns ls l whole in
    let here = here_is before after b old more s in
    let others = others_are before after b old more s in
    let joined : after ≡ other_groups b before ++ group_with (items_here b before ++ more) ∷ [] = s.after_is ∙ sym (λ i. others i ++ group_with (here i ++ more) ∷ []) in
    let count : length (group_pairs after) ≡ (with_group rows columns (known_groups rows columns ls) l.fields).pairs =
    step_pairs before after b old more s ∙ ap (λ (x : List Quantity). pairs_with (length (group_pairs before)) x more) (sym here) in
    λ i. record { names = columns_push ls l i; groups = joined i; pairs = count i }

-- ---- the fault

unless_first : (a b c : Option DeckWhy) → (a ≡ None → b ≡ c) → (a or b) ≡ (a or c)
unless_first None b c f = f refl
unless_first (Some w) b c f = refl

not_split : (groups : List Name) (g : Name) (ws : List Name) → group_front_fault groups g ws ≡ None → length groups ≤ place groups g + 1
not_split groups g ws e =
    let count = fault_if (not (are_items ws)) FieldCount in
    let kinds = fault_if (list_any (λ (w : ItemWords). not (is_kind w.0)) (items_in ws)) PairKind in
    let split = fault_if (is_split groups g) GroupSplit in
    ltb-false (place groups g + 1) (length groups) (if_none (is_split groups g) GroupSplit (second_none kinds split (second_none count (kinds or split) e)))

pub group_whole : (rows : List RowLine) (columns : List Name) (bounds : Name → Column) (groups : List Name) (n made : ℕ) (fs : List Name) → group_fault rows columns bounds groups n made fs ≡ None → length groups ≤ place groups (field 0 fs) + 1
group_whole rows columns bounds groups n made [] e = absurd cc
group_whole rows columns bounds groups n made (g ∷ ws) e = not_split groups g ws (first_none (group_front_fault groups g ws) (items_fault rows columns bounds (items_in ws) or full_group_fault made n (length (items_in ws))) e)

same_by_whole : (rows : List RowLine) (columns : List Name) (bounds : Name → Column) (groups : List Name) (m n made : ℕ) (fs : List Name) → (length groups ≤ place groups (field 0 fs) + 1 → m ≡ n)
    → group_fault rows columns bounds groups m made fs ≡ group_fault rows columns bounds groups n made fs
same_by_whole rows columns bounds groups m n made [] f = refl
same_by_whole rows columns bounds groups m n made (g ∷ ws) f =
    let items = items_fault rows columns bounds (items_in ws) in
    unless_first (group_front_fault groups g ws) (items or full_group_fault made m (length (items_in ws))) (items or full_group_fault made n (length (items_in ws)))
    (λ e. ap (λ (k : ℕ). items or full_group_fault made k (length (items_in ws))) (f (not_split groups g ws e)))

abbrev line_of_fields : List Name → Line
line_of_fields fs = record { number = 0; kind = Entry; fields = fs; size = 0 }

pub group_fault_same : (rows : List RowLine) (columns : List Name) (bounds : Name → Column) (ls : List Line) (pairs : ℕ) (fs : List Name)
    → known_group_fault rows columns bounds (known_groups rows columns ls) pairs fs ≡ group_fault rows columns bounds (group_names ls) (length (items_of (field 0 fs) ls)) (pairs + length (group_pairs (deck_groups rows columns ls))) fs
group_fault_same rows columns bounds ls pairs fs =
    let g = field 0 fs in
    let l = line_of_fields fs in
    let b = has (group_names ls) g in
    let before = deck_groups rows columns ls in
    let old = map (item_of rows columns) (items_of g ls) in
    same_by_whole rows columns bounds (group_names ls) (length (items_here b before)) (length (items_of g ls)) (pairs + length (group_pairs before)) fs
    (λ whole. ap length (here_is before (deck_groups rows columns (ls ++ l ∷ [])) b old (map (item_of rows columns) (items_on fs)) (group_step rows columns ls l whole)) ∙ length-map (items_of g ls) (item_of rows columns))
