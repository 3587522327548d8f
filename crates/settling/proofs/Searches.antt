-- What a search has found is true at its beginning, and stays so behind a cut that passes.
use Rattle.std.proofs.Common.{◌≡◌, sym, subst}
use Rattle.std.specs.Prelude.{Result, Ok, Err, OnErr, OnOk}
use Rattle.std.proofs.lemmas.List.Elements.{All-nil, All-push}
use Rattle.lpcc_case.specs.Instance.{Instance}
use Rattle.cuts.specs.declared.cut.Cut.{Cut}
use Rattle.cuts.specs.Cuts.{Passes}
use Rattle.own_order.specs.Searching.{Found, IsTrueOf, nothing, with_cut}

pub true_behind : {T E : Type 0} (a : Instance) (f g : Found) (c : Cut) (r : Result T E) → OnOk r (g ≡ with_cut f c) → OnErr r (g ≡ f) → IsTrueOf a f → Passes a c → IsTrueOf a g
true_behind a f g c (Ok t) ok err is passes = subst (IsTrueOf a) (sym ok) (record { best = is.best; cuts = All-push (Passes a) f.cuts c is.cuts passes })
true_behind a f g c (Err e) ok err is passes = subst (IsTrueOf a) (sym err) is

pub nothing_true : (a : Instance) (f : Found) → f ≡ nothing → IsTrueOf a f
nothing_true a f is = subst (IsTrueOf a) (sym is) (record { best = tt; cuts = All-nil (Passes a) })
