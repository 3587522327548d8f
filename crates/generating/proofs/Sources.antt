-- A run over a text in memory.
use Rattle.std.proofs.Common.{ℕ, ◌≡◌, ◌∙◌, ap, subst, true, List, drop, Option, Some, ◌⊎◌, inl}
use Rattle.command.specs.Runs.{IsRun}
use Rattle.deck_gen.specs.Generator.{deck_text}
use Rattle.deck_gen.specs.declared.sizes.Sizes.{Sizes}
use Rattle.play.specs.declared.event.Options.{Options}
use Rattle.report.specs.declared.style.Style.TheVariants.{Brief}
use Rattle.solving.specs.Solving.{Says}
use Rattle.generating.specs.Generating.{IsGeneratedAndSolved}

pub solved : (o : Options) (z : Sizes) (place : ℕ) (bytes text : List ℕ) (f g : ℕ) (tb tn : Option (List ℕ)) (wb wn status : ℕ) → place ≡ 0 → bytes ≡ text → text ≡ deck_text z → IsRun (Says o Brief) (Some (drop place bytes)) f g tb tn wb wn status → IsGeneratedAndSolved o z tb tn wb wn status
solved o z place bytes text f g tb tn wb wn status ep eb et run =
    inl (f, g, subst (λ (l : List ℕ). IsRun (Says o Brief) (Some l) f g tb tn wb wn status) (ap (λ p. drop p bytes) ep ∙ eb ∙ et) run)
