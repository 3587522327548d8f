-- The fault of a content line, behind the content lines that stand before it.
use Rattle.std.specs.Prelude.{ℕ, zero, suc, Bool, not, if◌then◌else◌, ◌&&◌, ◌==◌, List, [], ◌∷◌, length, slice_index_or, Option, Some, None, Ok, Err, codes, bytes_eq}
use Rattle.std.specs.List.{list_any}
use Rattle.cert_text.specs.declared.fault.CertWhy.{CertWhy}
use Rattle.cert_text.specs.declared.fault.CertWhy.TheVariants.{BadHead, NotEnded, AfterEnd}
use Rattle.cert_text.specs.Spelling.{Word}
use Rattle.cert_text.specs.Splits.{split}
use Rattle.cert_text.specs.Reading.{Reading, kind_at, line_at, end_at, point_at, value_at, piece_at, ray_at}

-- the form of a line that comes next
pub data Place : Type 0 where
  Head : Place
  Kind : Place
  PointLine : Place
  ValueLine : Place
  PieceLine : Place
  RayLine : Place
  -- behind this number of no-good lines comes one more, or the last line
  NoGoodLine : ℕ → Place
  LastLine : Place

-- behind the line of the kind, and so many further lines
abbrev pub optimal_place : ℕ → Place
optimal_place zero = PointLine
optimal_place (suc zero) = ValueLine
optimal_place (suc (suc n)) = NoGoodLine n

abbrev pub unbounded_place : ℕ → Place
unbounded_place zero = PieceLine
unbounded_place (suc zero) = PointLine
unbounded_place (suc (suc zero)) = RayLine
unbounded_place (suc (suc (suc n))) = LastLine

abbrev pub place_in : List ℕ → ℕ → Place
place_in kind n =
    if bytes_eq kind (codes "optimal") then optimal_place n else
    if bytes_eq kind (codes "unbounded") then unbounded_place n else NoGoodLine n

abbrev pub place_behind : List (List ℕ) → Place
place_behind [] = Head
place_behind (head ∷ []) = Kind
place_behind (head ∷ kind ∷ lines) = place_in kind (length lines)

abbrev pub words : List ℕ → List Word
words line = split 32 line

abbrev pub is_last : List ℕ → Bool
is_last line = bytes_eq (slice_index_or (words line) 0 []) (codes "end")

-- the last line stands among these
abbrev pub is_ended : List (List ℕ) → Bool
is_ended lines = list_any is_last lines

-- the first reason against what was read
abbrev pub reason : {X : Type 0} → Reading X → Option CertWhy
reason (Ok x) = None
reason (Err why) = Some why

abbrev pub head_fault : List ℕ → Option CertWhy
head_fault line = if bytes_eq line (codes "lpcc-certificate 1") then None else Some BadHead

abbrev pub log_fault : ℕ → List ℕ → Option CertWhy
log_fault n line = if is_last line then reason (end_at n (words line)) else reason (line_at (words line))

-- the fault of a line at its place
abbrev pub fault_at : Place → List ℕ → Option CertWhy
fault_at Head line = head_fault line
fault_at Kind line = reason (kind_at line)
fault_at PointLine line = reason (point_at (words line))
fault_at ValueLine line = reason (value_at (words line))
fault_at PieceLine line = reason (piece_at (words line))
fault_at RayLine line = reason (ray_at (words line))
fault_at (NoGoodLine n) line = log_fault n line
fault_at LastLine line = reason (end_at 0 (words line))

-- the fault of a whole line behind the lines before it
abbrev pub fault_of : List (List ℕ) → List ℕ → Option CertWhy
fault_of before line = if is_ended before then Some AfterEnd else fault_at (place_behind before) line

-- what is wrong behind all whole lines, where other bytes than those of a comment stand there or not
abbrev pub end_fault : List (List ℕ) → Bool → Option CertWhy
end_fault lines cut =
    if is_ended lines then (if cut then Some AfterEnd else None) else
    if length lines == 0 && not cut then Some BadHead else Some NotEnded
