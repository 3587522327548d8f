-- What the reader knows of the groups so far, how a line of GROUPS adds to it, and which fault the line has by it.
use Rattle.std.specs.Prelude.{ℕ, ◌+◌, ◌-◌, Bool, if◌then◌else◌, List, [], ◌∷◌, ◌++◌, length, map, take, slice_index_or, Option}
use Rattle.mps_lex.specs.Kinds.{Name}
use Rattle.mps_lex.specs.Lines.{Line}
use Rattle.decks.specs.declared.deck.Column.{Column}
use Rattle.decks.specs.declared.deck.GroupLine.{GroupLine}
use Rattle.decks.specs.declared.deck.Quantity.{Quantity}
use Rattle.decks.specs.declared.fault.DeckWhy.{DeckWhy}
use Rattle.decks.specs.Decks.{new_pairs, group_pairs}
use Rattle.decks.specs.Names.{has, add_name}
use Rattle.decks.specs.Spelling.{field, RowLine, item_of, items_on, group_names, deck_groups}
use Rattle.decks.specs.Faults.{group_fault}

-- the groups, and how many pairs they make
pub record KnownGroups : Type 0 where
  pub names : List Name
  pub groups : List GroupLine
  pub pairs : ℕ

abbrev pub known_groups : List RowLine → List Name → List Line → KnownGroups
known_groups rows columns ls = record {
  names = group_names ls;
  groups = deck_groups rows columns ls;
  pairs = length (group_pairs (deck_groups rows columns ls));
}

abbrev pub no_group : GroupLine
no_group = record { items = [] }

abbrev pub items_of_last : List GroupLine → List Quantity
items_of_last groups = (slice_index_or groups (length groups - 1) no_group).items

-- the items so far of a group that stands as the last one, or is new, and the groups but that one
abbrev pub items_here : Bool → List GroupLine → List Quantity
items_here stands groups = if stands then items_of_last groups else []

abbrev pub other_groups : Bool → List GroupLine → List GroupLine
other_groups stands groups = if stands then take (length groups - 1) groups else groups

abbrev pub with_items : KnownGroups → Name → List Quantity → KnownGroups
with_items k g items = record {
  names = add_name k.names g;
  groups = other_groups (has k.names g) k.groups ++ record { items = items_here (has k.names g) k.groups ++ items } ∷ [];
  pairs = k.pairs + new_pairs (length (items_here (has k.names g) k.groups)) (length items);
}

abbrev pub with_group : List RowLine → List Name → KnownGroups → List Name → KnownGroups
with_group rows columns k fs = with_items k (field 0 fs) (map (item_of rows columns) (items_on fs))

-- the fault of a line, below so many pairs of PAIRS
abbrev pub known_group_fault : List RowLine → List Name → (Name → Column) → KnownGroups → ℕ → List Name → Option DeckWhy
known_group_fault rows columns bounds k pairs fs =
    group_fault rows columns bounds k.names (length (items_here (has k.names (field 0 fs)) k.groups)) (pairs + k.pairs) fs
