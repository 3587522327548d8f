-- What a step that did not refuse gave.
use Rattle.std.proofs.Common.{◌≡◌, Bool, true, false, cond, Result, Ok, Err, refl, ◌⊎◌, inl, inr}
use Rattle.cert_text.specs.Reading.{◌>>=◌}

abbrev pub given : {X E : Type 0} → X → Result X E
given x = Ok x

abbrev pub refused : {X E : Type 0} → E → Result X E
refused e = Err e

pub same_ok : {X E : Type 0} (x y : X) → given {X = X} {E = E} x ≡ given y → x ≡ y
same_ok x y e = cc

pub same_err : {X E : Type 0} (d e : E) → refused {X = X} {E = E} d ≡ refused e → d ≡ e
same_err d e h = cc

pub apart : {X E : Type 0} (x : X) (e : E) → given {X = X} {E = E} x ≡ refused e → ⊥
apart x e h = absurd cc

pub bind_ok : {X Y E : Type 0} (r : Result X E) (f : X → Result Y E) (y : Y) → (r >>= f) ≡ Ok y → (x : X) × (r ≡ Ok x) × (f x ≡ Ok y)
bind_ok (Ok x) f y e = (x, refl, e)
bind_ok (Err w) f y e = absurd cc

pub by_test : {X E : Type 0} (b : Bool) (x : X) (w : E) (y : X) → cond b (Ok x) (Err w) ≡ Ok y → (b ≡ true) × (x ≡ y)
by_test true x w y e = (refl, same_ok x y e)
by_test false x w y e = absurd cc

pub unless_test : {X E : Type 0} (b : Bool) (r : Result X E) (w : E) (y : X) → cond b (Err w) r ≡ Ok y → (b ≡ false) × (r ≡ Ok y)
unless_test true r w y e = absurd cc
unless_test false r w y e = (refl, e)

pub if_test : {X E : Type 0} (b : Bool) (r : Result X E) (w : E) (y : X) → cond b r (Err w) ≡ Ok y → (b ≡ true) × (r ≡ Ok y)
if_test true r w y e = (refl, e)
if_test false r w y e = absurd cc

pub either : {A : Type 0} (b : Bool) (x y z : A) → cond b x y ≡ z → ((b ≡ true) × (x ≡ z)) ⊎ ((b ≡ false) × (y ≡ z))
either true x y z e = inl (refl, e)
either false x y z e = inr (refl, e)
