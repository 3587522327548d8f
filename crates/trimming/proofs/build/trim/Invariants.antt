use Rattle.std.proofs.Common.{◌≡◌, take}
use Rattle.trimming.specs.Trimmed.{kept_steps}
use Rattle.trimming.proofs.build.trim.Given as goal

abbrev pub invariant-loop-place : goal.invariant-loop-place
invariant-loop-place l = l.made ≡ kept_steps l.log l.places (take l.place l.places)
