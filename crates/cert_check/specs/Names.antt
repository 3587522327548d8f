-- How the reasons are named in what programs print.
use Rattle.std.specs.Prelude.{ℕ, List, codes}
use Rattle.cert_check.specs.declared.accept.NoWhy.{NoWhy}
use Rattle.cert_check.specs.declared.accept.NoWhy.TheVariants.{PointFails, NotComplementary, ValueFails, RayFails, WrongKind, CutFails, BoundLow, HintFails, NotEmptyAtEnd, ListFails, DropFails}

abbrev pub name_of : NoWhy → List ℕ
name_of PointFails = codes "PointFails"
name_of NotComplementary = codes "NotComplementary"
name_of ValueFails = codes "ValueFails"
name_of RayFails = codes "RayFails"
name_of WrongKind = codes "WrongKind"
name_of CutFails = codes "CutFails"
name_of BoundLow = codes "BoundLow"
name_of HintFails = codes "HintFails"
name_of NotEmptyAtEnd = codes "NotEmptyAtEnd"
name_of ListFails = codes "ListFails"
name_of DropFails = codes "DropFails"
