-- Under `yes`: fields, and what kind of line bytes are.
use Rattle.std.specs.Prelude.{ℕ, Bool, true, false, ◌||◌, ◌==◌, codes, if◌then◌else◌, List, [], ◌∷◌, Option, Some, None}
use Rattle.std.specs.Str.{bytes_eq}
use Rattle.mps_lex.specs.declared.line.Section.{Section}
use Rattle.mps_lex.specs.declared.line.Section.TheVariants.{Name as NameSection, ObjSense, Rows, Columns, Rhs, Ranges, Bounds, Pairs, Groups, Endata}
use Rattle.mps_lex.specs.declared.line.LineKind.{LineKind}
use Rattle.mps_lex.specs.declared.line.LineKind.TheVariants.{Blank, Comment, Head, LeftOut, Unknown, Entry}

-- the bytes of a field
abbrev pub Name : Type 0
Name = List ℕ

-- a space or a tab
abbrev pub is_blank : ℕ → Bool
is_blank b = b == 32 || b == 9

abbrev pub ends_here : List ℕ → Bool
ends_here [] = true
ends_here (b ∷ bs) = is_blank b

abbrev pub onto_field : ℕ → List Name → List Name
onto_field b [] = (b ∷ []) ∷ []
onto_field b (f ∷ fs) = (b ∷ f) ∷ fs

-- the longest runs of bytes that are no blanks
abbrev pub fields : List ℕ → List Name
fields [] = []
fields (b ∷ bs) = if is_blank b then fields bs else if ends_here bs then (b ∷ []) ∷ fields bs else onto_field b (fields bs)

unfoldable pub section_named : Name → Option Section
section_named w =
    if bytes_eq w (codes "NAME") then Some NameSection else
    if bytes_eq w (codes "OBJSENSE") then Some ObjSense else
    if bytes_eq w (codes "ROWS") then Some Rows else
    if bytes_eq w (codes "COLUMNS") then Some Columns else
    if bytes_eq w (codes "RHS") then Some Rhs else
    if bytes_eq w (codes "RANGES") then Some Ranges else
    if bytes_eq w (codes "BOUNDS") then Some Bounds else
    if bytes_eq w (codes "PAIRS") then Some Pairs else
    if bytes_eq w (codes "GROUPS") then Some Groups else
    if bytes_eq w (codes "ENDATA") then Some Endata else None

-- the words of sections that free MPS has elsewhere and decks leave out
unfoldable pub is_left_out : Name → Bool
is_left_out w =
    bytes_eq w (codes "OBJSENSEMAX") || bytes_eq w (codes "OBJNAME") || bytes_eq w (codes "SOS")
    || bytes_eq w (codes "SOS1") || bytes_eq w (codes "SOS2") || bytes_eq w (codes "SETS") || bytes_eq w (codes "QUADOBJ")
    || bytes_eq w (codes "QMATRIX") || bytes_eq w (codes "QSECTION") || bytes_eq w (codes "QCMATRIX") || bytes_eq w (codes "CSECTION")
    || bytes_eq w (codes "INDICATORS")

-- a section word alone on its line
abbrev pub head_alone : Option Section → LineKind
head_alone (Some s) = Head s
head_alone None = Unknown

abbrev pub kind_alone : Name → List Name → LineKind
kind_alone w [] = head_alone (section_named w)
kind_alone w (v ∷ ws) = Entry

-- a line that begins with no blank and has these fields; NAME and OBJSENSE are heads whatever follows
abbrev pub kind_at_margin : List Name → LineKind
kind_at_margin [] = Blank
kind_at_margin (w ∷ ws) = if bytes_eq w (codes "NAME") then Head NameSection else if bytes_eq w (codes "OBJSENSE") then Head ObjSense else if is_left_out w then LeftOut else kind_alone w ws

-- a line that begins with a blank
abbrev pub kind_indented : List Name → LineKind
kind_indented [] = Blank
kind_indented (w ∷ ws) = Entry

-- a line with these bytes; one that begins with an asterisk is a comment
abbrev pub kind_of : List ℕ → LineKind
kind_of [] = Blank
kind_of (b ∷ bs) = if b == 42 then Comment else if is_blank b then kind_indented (fields (b ∷ bs)) else kind_at_margin (fields (b ∷ bs))

-- blank lines and comments are passed over
abbrev pub is_passed : LineKind → Bool
is_passed Blank = true
is_passed Comment = true
is_passed kind = false
