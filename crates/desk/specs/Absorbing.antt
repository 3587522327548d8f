-- A cut that a desk absorbs besides those that settle pieces.
use Rattle.std.specs.Prelude.{◌≡◌}
use Rattle.cuts.specs.declared.cut.Cut.{Cut}
use Rattle.desk_part.specs.Absorbing.{AbsorbsOn}
use Rattle.desk.specs.Desks.{DeskView}

-- the desk part absorbs it, and all else stays
pub record Absorbs (c : Cut) (old new : DeskView) : Type 0 where
  pub run : AbsorbsOn c old.run new.run
  pub shelf : new.shelf ≡ old.shelf
  pub abandoned : new.abandoned ≡ old.abandoned
  pub refuted : new.refuted ≡ old.refuted
