-- What was found stays true behind a new best point and behind a new cut.
use Rattle.std.proofs.Common.{◌≡◌, List, ◌++◌, [], sym, subst, ap, ◌∙◌}
use Rattle.std.specs.Prelude.{Result, Ok, Err, OnErr, OnOk}
use Rattle.std.proofs.lemmas.List.{append-nil, append_assoc}
use Rattle.std.proofs.lemmas.List.Elements.{All-push}
use Rattle.lpcc_case.specs.Instance.{Instance}
use Rattle.lpcc_case.specs.declared.point.Point.{Point}
use Rattle.cuts.specs.declared.cut.Cut.{Cut}
use Rattle.cuts.specs.Cuts.{Passes}
use Rattle.play.specs.Points.{IsCandidate}
use Rattle.own_order.specs.Searching.{Found, IsTrueOf, Keeps, with_best, with_cut}

pub true_best : (a : Instance) (f : Found) (q : Point) → IsTrueOf a f → IsCandidate a q → IsTrueOf a (with_best f q)
true_best a f q is candidate = record { best = candidate; cuts = is.cuts }

true_cut : (a : Instance) (f : Found) (c : Cut) → IsTrueOf a f → Passes a c → IsTrueOf a (with_cut f c)
true_cut a f c is passes = record { best = is.best; cuts = All-push (Passes a) f.cuts c is.cuts passes }

pub true_after : {T E : Type 0} (a : Instance) (f g : Found) (c : Cut) (r : Result T E) → OnOk r (g ≡ with_cut f c) → OnErr r (g ≡ f) → IsTrueOf a f → Passes a c → IsTrueOf a g
true_after a f g c (Ok t) ok err is passes = subst (IsTrueOf a) (sym ok) (true_cut a f c is passes)
true_after a f g c (Err e) ok err is passes = subst (IsTrueOf a) (sym err) is

pub keeps_all : (f : Found) → Keeps f f
keeps_all f = ([], sym (append-nil f.cuts))

pub keeps_more : (f g h : Found) → Keeps f g → Keeps g h → Keeps f h
keeps_more f g h (xs, e) (ys, d) = (xs ++ ys, d ∙ ap (λ (cs : List Cut). cs ++ ys) e ∙ append_assoc f.cuts xs ys)
