-- Lines of GROUPS.
use Rattle.std.proofs.Common.{ℕ, zero, suc, ◌+◌, ◌-◌, ◌≤◌, ◌<◌, ◌≡◌, Bool, not, List, [], ◌∷◌, ◌++◌, length, map, Result, Ok, Err, sym, ◌∙◌, ltb, arith}
use Rattle.std.proofs.lemmas.List.{length-map}
use Rattle.std.proofs.lemmas.Bool.{lt-ltb, ltb-true, ltb_from_iff}
use Rattle.std.specs.List.{list_any}
use Rattle.std.specs.Prelude.{OnOk}
use Rattle.mps_lex.specs.Kinds.{Name}
use Rattle.decks.specs.declared.deck.Quantity.{Quantity}
use Rattle.decks.specs.Decks.{new_pairs}
use Rattle.decks.specs.Names.{add_name, has}
use Rattle.decks.specs.Spelling.{ItemWords, items_in}
use Rattle.decks.specs.Faults.{is_kind, full_group_fault}
use Rattle.mps_pairs.specs.Groups.{KnownGroups, items_here, other_groups, with_items}

-- whether one of the words in the places of kinds is none
abbrev pub has_other : List Name → Bool
has_other ws = list_any (λ (w : ItemWords). not (is_kind w.0)) (items_in ws)

-- further items make at least so many pairs as one of them
pub one_makes : (n more : ℕ) → 0 < more → n ≤ new_pairs n more
one_makes n zero h = absurd (omega (arith, h))
one_makes n (suc more) h = omega arith

-- something stands behind a place
pub behind_place : (p n : ℕ) → p ≤ n → ltb 1 (n - p) ≡ ltb (p + 1) n
behind_place p n h = ltb_from_iff ((λ e. omega (arith, h, ltb-true 1 (n - p) e), λ l. lt-ltb 1 (n - p) (omega (arith, h, l))))

-- ---- a group that is put back

pub still_ok : {X E K : Type 0} (r : Result X E) (x a b : K) → OnOk r (x ≡ a) → a ≡ b → OnOk r (x ≡ b)
still_ok (Ok y) x a b h e = h ∙ e
still_ok (Err f) x a b h e = tt

-- the fault of a line, told from what stands without its group
pub room_same : (k now : KnownGroups) (g : Name) (old here : List Quantity) (pairs more : ℕ) → now ≡ record k { groups = other_groups (has k.names g) k.groups } → old ≡ here
    → full_group_fault (pairs + now.pairs) (length old) more ≡ full_group_fault (pairs + k.pairs) (length here) more
room_same k now g old here pairs more ek eo = λ i. full_group_fault (pairs + (ek i).pairs) (length (eo i)) more

pub put_same : (k now : KnownGroups) (g : Name) (old : List Quantity) (item : ItemWords → Quantity) (ws : List ItemWords) (all : ℕ) → now ≡ record k { groups = other_groups (has k.names g) k.groups } → old ≡ items_here (has k.names g) k.groups
    → all ≡ now.pairs + new_pairs (length old) (length ws) → record { names = add_name now.names g; groups = now.groups ++ record { items = old ++ map item ws } ∷ []; pairs = all } ≡ with_items k g (map item ws)
put_same k now g old item ws all ek eo ea =
    let count = sym (length-map ws item) in
    let pairs : all ≡ k.pairs + new_pairs (length (items_here (has k.names g) k.groups)) (length (map item ws)) = ea ∙ (λ i. (ek i).pairs + new_pairs (length (eo i)) (count i)) in
    λ i. record { names = add_name (ek i).names g; groups = (ek i).groups ++ record { items = eo i ++ map item ws } ∷ []; pairs = pairs i }
