use Rattle.std.proofs.Common.{◌≡◌, map, ap, ◌∙◌, rules}
use Rattle.std.specs.Prelude.{filter}
use Rattle.std.proofs.lemmas.Fn.{filter_same}
use Rattle.shrink.specs.Known.{is_lower, point_of}
use Rattle.shrink.proofs.Filters.{points_lower}
use Rattle.shrink.proofs.known.KnownPoints.keep_lower.Goals as goal

pub returns : goal.returns
returns c =
    let limit = c.args.limit.now in
    let same : c.retain.new.self.items ≡ filter (λ k. is_lower limit k.point) c.self.inside.held.items = filter_same _ (λ k. is_lower limit k.point) _ (λ x b f' k. search rules) _ _ c.retain.ensures.filtered in
    ap (map point_of) same ∙ points_lower limit c.self.inside.held.items ∙ ap (filter (is_lower limit)) c.self.view_is
