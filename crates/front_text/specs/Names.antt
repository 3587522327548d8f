-- How faults are named in what programs print.
use Rattle.std.specs.Prelude.{ℕ, List, codes}
use Rattle.front_text.specs.declared.fault.FrontWhy.{FrontWhy}
use Rattle.front_text.specs.declared.fault.FrontWhy.TheVariants.{BadHead, BadLine, NoSuch, Wide, TooMany, NotEnded, AfterEnd}

abbrev pub name_of : FrontWhy → List ℕ
name_of BadHead = codes "BadHead"
name_of BadLine = codes "BadLine"
name_of NoSuch = codes "NoSuch"
name_of Wide = codes "Wide"
name_of TooMany = codes "TooMany"
name_of NotEnded = codes "NotEnded"
name_of AfterEnd = codes "AfterEnd"
