-- Lines that are blank or comments.
use Rattle.std.proofs.Common.{ℕ, ◌≡◌, Bool, true, false, ◌&&◌, cond, eqb, List, [], ◌∷◌, Option, Some, None, refl, sym, ◌∙◌, ◌<◌, length, get_or, arith}
use Rattle.std.specs.List.{list_all}
use Rattle.std.specs.Str.{bytes_eq}
use Rattle.std.specs.Prelude.{codes}
use Rattle.mps_lex.specs.declared.line.LineKind.TheVariants.{Comment, Head, LeftOut}
use Rattle.mps_lex.specs.declared.line.Section.TheVariants.{Name as NameSection, ObjSense}
use Rattle.mps_lex.specs.declared.line.Section.{Section}
use Rattle.mps_lex.specs.Kinds.{Name, is_blank, ends_here, onto_field, fields, section_named, is_left_out, head_alone, kind_alone, kind_at_margin, kind_indented, kind_of, is_passed}

-- whether there is no field
abbrev none : List Name → Bool
none [] = true
none (f ∷ fs) = false

onto_some : (b : ℕ) (fs : List Name) → none (onto_field b fs) ≡ false
onto_some b [] = refl
onto_some b (f ∷ fs) = refl

by_blank : (blank here : Bool) (b : ℕ) (fs : List Name) (all : Bool) → none fs ≡ all → none (cond blank fs (cond here ((b ∷ []) ∷ fs) (onto_field b fs))) ≡ (blank && all)
by_blank true here b fs all h = h
by_blank false true b fs all h = refl
by_blank false false b fs all h = onto_some b fs

-- no field is there where all bytes are blanks
none_all : (bs : List ℕ) → none (fields bs) ≡ list_all is_blank bs
none_all [] = refl
none_all (b ∷ bs) = by_blank (is_blank b) (ends_here bs) b (fields bs) (list_all is_blank bs) (none_all bs)

indented_passed : (fs : List Name) → is_passed (kind_indented fs) ≡ none fs
indented_passed [] = refl
indented_passed (f ∷ fs) = refl

alone_passed : (w : Name) (ws : List Name) → is_passed (kind_alone w ws) ≡ false
alone_passed w [] = by (section_named w)
  where
    by : (o : Option Section) → is_passed (head_alone o) ≡ false
    by None = refl
    by (Some s) = refl
alone_passed w (v ∷ ws) = refl

margin_passed : (fs : List Name) → is_passed (kind_at_margin fs) ≡ none fs
margin_passed [] = refl
margin_passed (w ∷ ws) = by (bytes_eq w (codes "NAME")) (bytes_eq w (codes "OBJSENSE")) (is_left_out w)
  where
    by : (a b c : Bool) → is_passed (cond a (Head NameSection) (cond b (Head ObjSense) (cond c LeftOut (kind_alone w ws)))) ≡ false
    by true b c = refl
    by false true c = refl
    by false false true = refl
    by false false false = alone_passed w ws

first_passed : (star blank : Bool) (fs : List Name) (all : Bool) → star ≡ false → none fs ≡ all → is_passed (cond star Comment (cond blank (kind_indented fs) (kind_at_margin fs))) ≡ all
first_passed true blank fs all e h = absurd cc
first_passed false true fs all e h = indented_passed fs ∙ h
first_passed false false fs all e h = margin_passed fs ∙ h

passed_blank : (b : ℕ) (bs : List ℕ) → eqb b 42 ≡ false → is_passed (kind_of (b ∷ bs)) ≡ list_all is_blank (b ∷ bs)
passed_blank b bs e = first_passed (eqb b 42) (is_blank b) (fields (b ∷ bs)) (list_all is_blank (b ∷ bs)) e (none_all (b ∷ bs))

pub passed_others : (text : List ℕ) (d : ℕ) → 0 < length text → eqb (get_or text 0 d) 42 ≡ false → list_all is_blank text ≡ is_passed (kind_of text)
passed_others [] d h e = absurd (omega (arith, h))
passed_others (b ∷ bs) d h e = sym (passed_blank b bs e)
