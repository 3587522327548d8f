-- The fault of a content line of form 2, behind the content lines that stand before it.
use Rattle.std.specs.Prelude.{ℕ, Bool, not, ◌||◌, if◌then◌else◌, List, [], slice_index_or, Option, Some, None, codes, bytes_eq}
use Rattle.std.specs.List.{filter}
use Rattle.cert_text.specs.declared.fault.CertWhy.{CertWhy}
use Rattle.cert_text.specs.declared.fault.CertWhy.TheVariants.{BadHead, AfterEnd}
use Rattle.cert_text.specs.Reading.{end_at}
use Rattle.cert_text.specs.Faults.{Place, Head, Kind, PointLine, ValueLine, PieceLine, RayLine, NoGoodLine, LastLine, words, is_last, is_ended, reason, place_behind, fault_at}
use Rattle.cert2_text.specs.Reading2.{line2_at}

abbrev pub first_word : List ℕ → List ℕ
first_word line = slice_index_or (words line) 0 []

-- a line that is counted where the form of the next line is asked for: it is no list, and drops no lines
abbrev pub is_counted : List ℕ → Bool
is_counted line = not (bytes_eq (first_word line) (codes "m") || bytes_eq (first_word line) (codes "x"))

abbrev pub is_head2 : List ℕ → Bool
is_head2 line = bytes_eq line (codes "lpcc-certificate 2")

abbrev pub log2_fault : ℕ → List ℕ → Option CertWhy
log2_fault n line = if is_last line then reason (end_at n (words line)) else reason (line2_at (words line))

-- the fault of a line at its place, which differs from that of form 1 at the head and among the no-good lines
abbrev pub fault2_at : Place → List ℕ → Option CertWhy
fault2_at Head line = if is_head2 line then None else Some BadHead
fault2_at (NoGoodLine n) line = log2_fault n line
fault2_at Kind line = fault_at Kind line
fault2_at PointLine line = fault_at PointLine line
fault2_at ValueLine line = fault_at ValueLine line
fault2_at PieceLine line = fault_at PieceLine line
fault2_at RayLine line = fault_at RayLine line
fault2_at LastLine line = fault_at LastLine line

-- the fault of a whole line behind the lines before it
abbrev pub fault2_of : List (List ℕ) → List ℕ → Option CertWhy
fault2_of before line = if is_ended before then Some AfterEnd else fault2_at (place_behind (filter is_counted before)) line
