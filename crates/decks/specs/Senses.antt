-- Under `yes`: the sense of the objective, which the head of OBJSENSE or a line of that section names.
use Rattle.std.specs.Prelude.{if◌then◌else◌, List, [], ◌∷◌, Option, Some, None, codes}
use Rattle.std.specs.Str.{bytes_eq}
use Rattle.sense.specs.declared.objective.Sense.{Sense}
use Rattle.sense.specs.declared.objective.Sense.TheVariants.{Min, Max}
use Rattle.mps_lex.specs.Kinds.{Name}
use Rattle.mps_lex.specs.Lines.{Line}
use Rattle.mps_lex.specs.declared.line.Section.{Section}
use Rattle.mps_lex.specs.declared.line.Section.TheVariants.{ObjSense}
use Rattle.mps_lex.specs.declared.line.LineKind.{LineKind}
use Rattle.mps_lex.specs.declared.line.LineKind.TheVariants.{Head, Entry}
use Rattle.decks.specs.Sections.{Open, is_open, behind}

unfoldable pub sense_word : Name → Option Sense
sense_word w =
    if bytes_eq w (codes "MIN") then Some Min else
    if bytes_eq w (codes "MINIMIZE") then Some Min else
    if bytes_eq w (codes "MAX") then Some Max else
    if bytes_eq w (codes "MAXIMIZE") then Some Max else None

-- a head of OBJSENSE may have a word of a sense behind it
abbrev pub sense_on_head : Section → List Name → Option Sense
sense_on_head ObjSense (h ∷ w ∷ []) = sense_word w
sense_on_head t fs = None

-- a line of the section has that word alone
abbrev pub sense_on_line : List Name → Option Sense
sense_on_line (w ∷ []) = sense_word w
sense_on_line fs = None

-- the sense that a line names, where s stands open before it
abbrev pub sense_on : Open → LineKind → List Name → Option Sense
sense_on s (Head t) fs = sense_on_head t fs
sense_on s Entry fs = if is_open ObjSense s then sense_on_line fs else None
sense_on s kind fs = None

-- the first of two senses, as far as they are there
abbrev pub earlier : Option Sense → Option Sense → Option Sense
earlier (Some s) other = Some s
earlier None other = other

-- the sense that lines name, where s stands open before them
abbrev pub sense_from : Open → List Line → Option Sense
sense_from s [] = None
sense_from s (l ∷ ls) = earlier (sense_on s l.kind l.fields) (sense_from (behind s l.kind) ls)

abbrev pub sense_named : List Line → Option Sense
sense_named ls = sense_from None ls
