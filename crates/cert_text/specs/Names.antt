-- How faults are named in what programs print.
use Rattle.std.specs.Prelude.{ℕ, List, codes}
use Rattle.cert_text.specs.declared.fault.CertWhy.{CertWhy}
use Rattle.cert_text.specs.declared.fault.CertWhy.TheVariants.{BadHead, BadLine, BadChoice, NumberWide, BadCount, NotEnded, AfterEnd}

abbrev pub name_of : CertWhy → List ℕ
name_of BadHead = codes "BadHead"
name_of BadLine = codes "BadLine"
name_of BadChoice = codes "BadChoice"
name_of NumberWide = codes "NumberWide"
name_of BadCount = codes "BadCount"
name_of NotEnded = codes "NotEnded"
name_of AfterEnd = codes "AfterEnd"
