-- No piece that is drawn is barred by a kept ray cut.
use Rattle.std.proofs.Common.{inl, inr, ℕ, ℤ, ◌≡◌, sym, subst, arith, List, [], ◌∷◌}
use Rattle.std.specs.Prelude.{◌⊎◌, Contains}
use Rattle.std.proofs.lemmas.List.Elements.{Contains-append_cases}
use Rattle.nogoods.specs.Pieces.{Bars}
use Rattle.nogoods.specs.declared.choice.Choice.{Choice}
use Rattle.nogoods.specs.declared.choice.Side.{Side}
use Rattle.lpcc_case.specs.Instance.{Instance}
use Rattle.cuts.specs.declared.cut.Cut.{Cut}
use Rattle.cuts.specs.declared.cut.Cut.TheVariants.{Ray}
use Rattle.cuts.specs.Cuts.{no_good_of}
use Rattle.play.specs.declared.event.Event.{Event}
use Rattle.play.specs.declared.event.Event.TheVariants.{Publish, Read, Offer, Draw, Absorb, Learn, Settle, Conclude}
use Rattle.play.specs.declared.event.Options.{Options}
use Rattle.play.specs.Parts.{Part, barring}
use Rattle.play.specs.Steps.{after, drawn_by, drawn_in}
use Rattle.play.specs.Records.{IsNext, Leads}
use Rattle.play.proofs.ListLaws.{any_of, front_or_rest, in_map}
use Rattle.edit_session.specs.Answers.{AreAbsorbed, AreAbsorbedAtDraws}

no_piece : (p : List Side) → Contains [] p → ⊥
no_piece p h = omega (arith, h.1)

drawn_once : (a : Instance) (o : Options) (kept : List Cut) (ng : List Choice) (mult : List (ℕ × ℤ)) (d : Part) (x : Event) (p : List Side) → IsNext a o d x → (drawn_by x ≡ []) ⊎ AreAbsorbed kept d → Contains kept (Ray ng mult) → Contains (drawn_by x) p → Bars ng p → ⊥
drawn_once a o kept ng mult d (Publish lane c) p next ready held drawn bars = no_piece p drawn
drawn_once a o kept ng mult d (Read worker lane place) p next ready held drawn bars = no_piece p drawn
drawn_once a o kept ng mult d (Offer worker point) p next ready held drawn bars = no_piece p drawn
drawn_once a o kept ng mult d (Draw worker number piece) p next (inl none) held drawn bars = no_piece p (subst (λ l. Contains l p) none drawn)
drawn_once a o kept ng mult d (Draw worker number piece) p next (inr absorbed) held drawn bars =
    let there : Contains (barring d) ng = in_map no_good_of d.absorbed (Ray ng mult) (absorbed (Ray ng mult) held tt) in
    let here_it : Bars ng piece = subst (λ q. Bars ng q) (sym (same_piece piece drawn)) bars in
    next.lawful.row.unbarred (any_of (λ n. Bars n piece) (barring d) ng there here_it)
  where
    same_piece : (q : List Side) → Contains (q ∷ []) p → q ≡ p
    same_piece q h = elim (front_or_rest q [] p h) [
      | inl same ↦ same
      | inr none ↦ absurd (no_piece p none)
    ]
drawn_once a o kept ng mult d (Absorb c) p next ready held drawn bars = no_piece p drawn
drawn_once a o kept ng mult d (Learn n hints) p next ready held drawn bars = no_piece p drawn
drawn_once a o kept ng mult d (Settle worker number what) p next ready held drawn bars = no_piece p drawn
drawn_once a o kept ng mult d (Conclude verdict) p next ready held drawn bars = no_piece p drawn

pub drawn_unbarred : (a : Instance) (o : Options) (kept : List Cut) (ng : List Choice) (mult : List (ℕ × ℤ)) (d : Part) (xs : List Event) (e : Part) (p : List Side) → Leads a o d xs e → AreAbsorbedAtDraws kept d xs → Contains kept (Ray ng mult) → Contains (drawn_in xs) p → Bars ng p → ⊥
drawn_unbarred a o kept ng mult d [] e p leads ready held drawn bars = no_piece p drawn
drawn_unbarred a o kept ng mult d (x ∷ xs) e p leads ready held drawn bars = elim (Contains-append_cases (drawn_by x) (drawn_in xs) p drawn) [
  | inl here_it ↦ drawn_once a o kept ng mult d x p leads.0 ready.0 held here_it bars
  | inr later ↦ drawn_unbarred a o kept ng mult (after x d) xs e p leads.1 ready.1 held later bars
]
