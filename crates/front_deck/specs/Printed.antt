-- The decks of problems with the names that their texts print.
use Rattle.std.specs.Prelude.{◌+◌, ◌==◌, ℕ, pos, true, false, not, ◌++◌, length, codes}
use Rattle.std.specs.List.{flat_map, list_all, range_with_len}
use Rattle.decks.specs.Bounds.{default_column}
use Rattle.decks.specs.declared.deck.Letter.TheVariants.{N}
use Rattle.front_text.specs.declared.problem.Bilevel.{Bilevel}
use Rattle.front_text.specs.declared.problem.Lcp.{Lcp}
use Rattle.kkt_front.specs.DeckTexts.{has_no_rights, is_zero}
use Rattle.kkt_front.specs.Decks.{follow_row, free_column, lcp_entries, lcp_row, listed, low_row, lows, multiplier_entries, row, up_row, ups, variable_entries}
use Rattle.deck_print.specs.Printed.{NamedColumn, NamedRow, Printed, numbered_name}

abbrev pub cost_row : NamedRow
cost_row = (codes "cost", row N 3 (pos 0))

-- ---- a complementarity problem: rows w, columns z

abbrev pub lcp_named_row : Lcp → ℕ → NamedRow
lcp_named_row p i = (numbered_name 119 i, lcp_row p i)

abbrev pub lcp_named_column : ℕ → NamedColumn
lcp_named_column j = (numbered_name 122 j, default_column)

abbrev pub lcp_pair_of : ℕ → ℕ × ℕ
lcp_pair_of i = (1 + i, i)

abbrev pub lcp_printed : Lcp → Printed
lcp_printed p = record {
  name = codes "lcp";
  objective = cost_row;
  others = listed (lcp_named_row p) p.size;
  columns = listed lcp_named_column p.size;
  entries = flat_map (lcp_entries p) (range_with_len 0 p.size);
  pairs = listed lcp_pair_of p.size;
  has_rights = not (list_all is_zero p.q);
  has_bounds = false;
  has_pairs = true;
}

-- ---- a bilevel problem: rows u, l and s, columns v and m; the lines of BOUNDS begin with this number

abbrev pub up_named_row : Bilevel → ℕ → NamedRow
up_named_row b i = (numbered_name 117 i, up_row b i)

abbrev pub low_named_row : Bilevel → ℕ → NamedRow
low_named_row b i = (numbered_name 108 i, low_row b i)

abbrev pub follow_named_row : Bilevel → ℕ → NamedRow
follow_named_row b k = (numbered_name 115 k, follow_row b k)

abbrev pub variable_named_column : ℕ → ℕ → NamedColumn
variable_named_column bounds j = (numbered_name 118 j, free_column (bounds + j))

abbrev pub multiplier_named_column : ℕ → NamedColumn
multiplier_named_column i = (numbered_name 109 i, default_column)

abbrev pub bilevel_pair_of : Bilevel → ℕ → ℕ × ℕ
bilevel_pair_of b i = (1 + ups b + i, b.nx + b.ny + i)

abbrev pub bilevel_printed : Bilevel → ℕ → Printed
bilevel_printed b bounds = record {
  name = codes "bilevel";
  objective = cost_row;
  others = listed (up_named_row b) (ups b) ++ listed (low_named_row b) (lows b) ++ listed (follow_named_row b) b.ny;
  columns = listed (variable_named_column bounds) (b.nx + b.ny) ++ listed multiplier_named_column (lows b);
  entries = flat_map (variable_entries b) (range_with_len 0 (b.nx + b.ny)) ++ flat_map (multiplier_entries b) (range_with_len 0 (lows b));
  pairs = listed (bilevel_pair_of b) (lows b);
  has_rights = not (has_no_rights b);
  has_bounds = true;
  has_pairs = not (length b.low == 0);
}
