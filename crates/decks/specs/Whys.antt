-- The names of faults.
use Rattle.std.specs.Prelude.{ℕ, List, codes}
use Rattle.decks.specs.declared.fault.DeckWhy.{DeckWhy}
use Rattle.decks.specs.declared.fault.DeckWhy.TheVariants.{UnknownSection, LeftOutSection, SectionOrder, FieldCount, RowLetter, SenseWord, BoundKind, NameTwice, UnknownName, NumberText, NumberWide, EntryTwice, ColumnSplit, GroupSplit, SecondSet, SecondSense, NoObjective, IntegerMarker, UpperBelowZero, PairKind, PairLower, PairUpper, TooMany, NotClosed, AfterEnd}

abbrev pub why_name : DeckWhy → List ℕ
why_name UnknownSection = codes "UnknownSection"
why_name LeftOutSection = codes "LeftOutSection"
why_name SectionOrder = codes "SectionOrder"
why_name FieldCount = codes "FieldCount"
why_name RowLetter = codes "RowLetter"
why_name SenseWord = codes "SenseWord"
why_name BoundKind = codes "BoundKind"
why_name NameTwice = codes "NameTwice"
why_name UnknownName = codes "UnknownName"
why_name NumberText = codes "NumberText"
why_name NumberWide = codes "NumberWide"
why_name EntryTwice = codes "EntryTwice"
why_name ColumnSplit = codes "ColumnSplit"
why_name GroupSplit = codes "GroupSplit"
why_name SecondSet = codes "SecondSet"
why_name SecondSense = codes "SecondSense"
why_name NoObjective = codes "NoObjective"
why_name IntegerMarker = codes "IntegerMarker"
why_name UpperBelowZero = codes "UpperBelowZero"
why_name PairKind = codes "PairKind"
why_name PairLower = codes "PairLower"
why_name PairUpper = codes "PairUpper"
why_name TooMany = codes "TooMany"
why_name NotClosed = codes "NotClosed"
why_name AfterEnd = codes "AfterEnd"
