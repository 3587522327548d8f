use Rattle.std.proofs.Common.{ℕ, List, sym, ap}
use Rattle.std.specs.Prelude.{slice_get}
use Rattle.cert_text.proofs.Cuts.{left_is, parts_found, parts_last}
use Rattle.cert_text.proofs.split.Split.first.Goals as goal

pub returns-in-Some : goal.returns-in-Some
returns-in-Some c =
    let found = parts_found c.self.inside.separator c.in_ok-rest.rest.now c.split_at.result.0.now c.split_at.result.1.now c.in-Some.at (sym c.in-Some.ensures.place) c.split_at.ensures.front c.split_at.ensures.back in
    ap (λ (ps : List (List ℕ)). slice_get ps 0) (left_is c.self.inside.separator c.args.self.now _ c.self.inside.rest c.in_ok-rest.rest c.self.view_is c.in_ok-rest.was found)

pub returns-in-None : goal.returns-in-None
returns-in-None c =
    ap (λ (ps : List (List ℕ)). slice_get ps 0)
    (left_is c.self.inside.separator c.args.self.now _ c.self.inside.rest c.in_ok-rest.rest c.self.view_is c.in_ok-rest.was (parts_last c.self.inside.separator c.in_ok-rest.rest.now (sym c.in-None.ensures.place)))
