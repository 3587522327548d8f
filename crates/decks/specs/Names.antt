-- Under `yes`: lists of names, and of names with what is known of each.
use Rattle.std.specs.Prelude.{ℕ, Bool, if◌then◌else◌, List, [], ◌∷◌, ◌++◌, fold, Option, Some, None}
use Rattle.std.specs.List.{list_any, position_or_len}
use Rattle.std.specs.Str.{bytes_eq}
use Rattle.mps_lex.specs.Kinds.{Name}

-- whether a name is in a list
abbrev pub has : List Name → Name → Bool
has ns n = list_any (bytes_eq n) ns

-- the place of a name in a list, or the list's length
abbrev pub place : List Name → Name → ℕ
place ns n = position_or_len (bytes_eq n) ns

-- a name behind others, if it does not stand there
abbrev pub add_name : List Name → Name → List Name
add_name ns n = if has ns n then ns else ns ++ n ∷ []

-- each name once, in the order of first standing
abbrev pub each_once : List Name → List Name
each_once ns = fold add_name [] ns

-- what stands with a name
abbrev pub named : {T : Type 0} → List (Name × T) → Name → Option T
named [] n = None
named (e ∷ es) n = if bytes_eq n e.0 then Some e.1 else named es n

-- a name with something else, or behind the others with it
abbrev pub put : {T : Type 0} → List (Name × T) → Name → T → List (Name × T)
put [] n x = (n, x) ∷ []
put (e ∷ es) n x = if bytes_eq n e.0 then (e.0, x) ∷ es else e ∷ put es n x
