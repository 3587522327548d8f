-- Clauses on results, joined.
use Rattle.std.proofs.Common.{Option, Some, None}
use Rattle.std.specs.Prelude.{Result, Ok, Err, IfOk, IfSome, IfNone}

pub some_join : {T E : Type 0} {P Q R S : T → Type 0} → (r : Result (Option T) E) → ((x : T) → P x → Q x → R x → S x) → IfOk r (λ f. IfSome f P) → IfOk r (λ f. IfSome f Q) → IfOk r (λ f. IfSome f R) → IfOk r (λ f. IfSome f S)
some_join (Ok (Some x)) f p q r = f x p q r
some_join (Ok None) f p q r = tt
some_join (Err e) f p q r = tt

pub none_map : {T E A B : Type 0} → (r : Result (Option T) E) → (A → B) → IfOk r (λ f. IfNone f A) → IfOk r (λ f. IfNone f B)
none_map (Ok (Some x)) f a = tt
none_map (Ok None) f a = f a
none_map (Err e) f a = tt
