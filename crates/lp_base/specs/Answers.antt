-- What a call answers, unless memory is short. A fault has a cause, or it is want of memory, which has none.
use Rattle.std.specs.Prelude.{◌≡◌, Option, Result, Ok, Err, IfSome}

-- the cause of the fault has this property
abbrev pub UnlessShort : {E F : Type 0} → (E → Option F) → (F → Type 0) → E → Type 0
UnlessShort cause Has fault = IfSome (cause fault) Has

-- the call gives this value
abbrev pub Gives : {T E F : Type 0} → (E → Option F) → T → Result T E → Type 0
Gives cause value (Ok found) = found ≡ value
Gives cause value (Err fault) = UnlessShort cause (λ why. ⊥) fault

-- the call refuses for this cause
abbrev pub Refuses : {T E F : Type 0} → (E → Option F) → F → Result T E → Type 0
Refuses cause why (Ok found) = ⊥
Refuses cause why (Err fault) = UnlessShort cause (λ found. found ≡ why) fault
