-- The certificate of a whole derivation, and that of a point and a ray.
use Rattle.std.proofs.Common.{ℕ, zero, suc, ◌+◌, ◌≡◌, refl, sym, ap, ◌∙◌, subst, arith, List, [], ◌∷◌, ◌++◌, length, map, Option, Some, None}
use Rattle.std.specs.Prelude.{All, Contains, Result, Ok, Err, IfOk}
use Rattle.std.specs.List.{range_with_len}
use Rattle.std.proofs.lemmas.List.{length-map}
use Rattle.std.proofs.lemmas.List.Elements.{All-weaker}
use Rattle.std.proofs.Math.ListN.{get_or-map}
use Rattle.nogoods.specs.declared.choice.Choice.{Choice}
use Rattle.nogoods.specs.declared.choice.Side.{Side}
use Rattle.lpcc_case.specs.Instance.{Instance}
use Rattle.lpcc_case.specs.Pieces.{NamesPairs}
use Rattle.lpcc_case.specs.declared.point.Point.{Point}
use Rattle.lpcc_case.specs.declared.point.Ray.{Ray}
use Rattle.lpcc_case.specs.declared.verdict.Verdict.{Verdict}
use Rattle.lpcc_case.specs.declared.verdict.Verdict.TheVariants as verdict
use Rattle.cuts.specs.declared.cut.Cut.{Cut}
use Rattle.cuts.specs.Cuts.{Passes}
use Rattle.reasons.specs.Reasons.{IsPointIn, IsRayFor}
use Rattle.derivation.specs.declared.step.Step.TheVariants.{Start}
use Rattle.derivation.specs.Logs.{no_good_of}
use Rattle.cert_text.specs.declared.cert.Cert.{Cert}
use Rattle.cert_text.specs.declared.cert.Cert.TheVariants as cert
use Rattle.cert_text.specs.declared.cert.CertLine.{CertLine}
use Rattle.cert_check.specs.Acceptance.{Accepts, IsWholePiece}
use Rattle.cert_check.proofs.Following.{whole_at, whole_size}
use Rattle.cert_parts.specs.Lines.{AreBacked, AreTrimmedLines, IsSoundCut, IsSoundLog}
use Rattle.cert_parts.specs.PieceChoices.{choices_from, choices_of}
use Rattle.cert_parts.specs.PointTerms.{cert_point, terms_from}
use Rattle.cert_parts.proofs.CertLaws.{infeasible_accepted, optimal_accepted, unbounded_accepted}
use Rattle.cert_parts.proofs.TrimLaws.{trimmed_backed}
use Rattle.tree_engine.specs.Answers.{IsDirection}
use Rattle.tree_engine.specs.Bests.{IsBest, IsVerdictOf}
use Rattle.tree_engine.specs.Paths.{side_of}
use Rattle.tree_engine.specs.declared.tree.Tree.{Tree}
use Rattle.tree_engine.proofs.Pieces.{tight_in_piece}
use Rattle.tree_certs.specs.declared.refuting.Derivation.{Derivation}
use Rattle.tree_certs.specs.Certs.{IsTreeCert, direction_cert}
use Rattle.tree_certs.specs.Derivations.{leaves, log_of, refutation}
use Rattle.tree_certs.specs.Refuting.{IsRefuted, IsSound, IsWholeDerivation, ng_at}
use Rattle.tree_certs.proofs.Soundness.{sound_empty}

-- ---- a whole derivation

none_contained : (ng : List Choice) → All (Contains []) ng → ng ≡ []
none_contained [] on = refl
none_contained (c ∷ ng) on = let at = on 0 c (omega arith) in absurd (omega (arith, at.1))

pub whole_derivation : (a : Instance) (best : Option Point) (t : Tree) (old new : Derivation) (at : ℕ) → old.cuts ≡ [] → old.log ≡ [] → IsRefuted a best [] t old new at → IsWholeDerivation a best t new
whole_derivation a best t old new at no_cuts no_steps h =
    let n : length old.log ≡ 0 = ap length no_steps in
    let none : ng_at new.log at ≡ [] = h.stands.read ∙ none_contained (refutation (length old.log) [] t).ng h.stands.on_path in
    record {
      sound = h.sound;
      cuts = h.more ∙ ap (λ l. l ++ leaves t) no_cuts;
      log = h.steps ∙ ap (λ l. l ++ (refutation (length old.log) [] t).steps) no_steps ∙ ap (λ m. (refutation m [] t).steps) n;
      empty = (at, omega (arith, h.stands.within, length-map new.log no_good_of), get_or-map no_good_of new.log at (Start []) ∙ none);
    }

pub sound_at_first : (a : Instance) (best : Option Point) (d : Derivation) → d.cuts ≡ [] → d.log ≡ [] → IsSound a best d
sound_at_first a best d no_cuts no_steps =
    subst (λ k. IsSoundLog a best k d.log) (sym no_cuts) (subst (λ l. IsSoundLog a best [] l) (sym no_steps) (sound_empty a best))

pub cuts_pass : (a : Instance) (best : Option Point) (d : Derivation) → IsSound a best d → All (Passes a) d.cuts
cuts_pass a best d h = All-weaker (IsSoundCut a best) (Passes a) (λ c sound. sound.0) d.cuts h.sound

-- ---- the certificate of a tree

pub tree_lines_are : {E : Type 0} (r : Result (List CertLine) E) (a : Instance) (best : Option Point) (t : Tree) (d : Derivation) (known : List Cut) → IsWholeDerivation a best t d → known ≡ d.cuts → IfOk r (AreTrimmedLines known d.log) → IfOk r (AreTrimmedLines (leaves t) (log_of t))
tree_lines_are (Ok lines) a best t d known h same made = subst (λ l. AreTrimmedLines (leaves t) l lines) h.log (subst (λ k. AreTrimmedLines k d.log lines) (same ∙ h.cuts) made)
tree_lines_are (Err e) a best t d known h same made = made

pub tree_lines_backed : {E : Type 0} (r : Result (List CertLine) E) (a : Instance) (best : Option Point) (t : Tree) (d : Derivation) (known : List Cut) → IsWholeDerivation a best t d → known ≡ d.cuts → IfOk r (AreTrimmedLines known d.log) → IfOk r (AreBacked a best)
tree_lines_backed (Ok lines) a best t d known h same made = trimmed_backed a best d.cuts d.log lines h.sound (subst (λ k. AreTrimmedLines k d.log lines) same made)
tree_lines_backed (Err e) a best t d known h same made = made

pub optimal_tree : {E : Type 0} (r : Result Cert E) (q : Point) (t : Tree) (lines : List CertLine) → IfOk r (λ c. c ≡ cert.Optimal (cert_point q) q.z lines) → AreTrimmedLines (leaves t) (log_of t) lines → IfOk r (IsTreeCert (Some q) t)
optimal_tree (Ok c) q t lines is trimmed = subst (IsTreeCert (Some q) t) (sym is) (refl, refl, trimmed)
optimal_tree (Err e) q t lines is trimmed = is

best_accepted : (a : Instance) (q : Point) (c : Cert) (lines : List CertLine) (v : Verdict) → IsBest a (Some q) → AreBacked a (Some q) lines → c ≡ cert.Optimal (cert_point q) q.z lines → IsVerdictOf a (Some q) v → Accepts a c v
best_accepted a q c lines (verdict.Optimal value) best backed is says = subst (λ x. Accepts a x (verdict.Optimal value)) (sym is) (optimal_accepted a q lines value best.of best.feasible backed says)
best_accepted a q c lines verdict.Infeasible best backed is says = absurd says
best_accepted a q c lines verdict.Unbounded best backed is says = absurd says

pub optimal_tree_accepted : {E : Type 0} (r : Result Cert E) (a : Instance) (q : Point) (lines : List CertLine) (v : Verdict) → IsBest a (Some q) → AreBacked a (Some q) lines → IfOk r (λ c. c ≡ cert.Optimal (cert_point q) q.z lines) → IsVerdictOf a (Some q) v → IfOk r (λ c. Accepts a c v)
optimal_tree_accepted (Ok c) a q lines v best backed is says = best_accepted a q c lines v best backed is says
optimal_tree_accepted (Err e) a q lines v best backed is says = is

pub infeasible_tree_accepted : (a : Instance) (lines : List CertLine) (v : Verdict) → AreBacked a None lines → IsVerdictOf a None v → Accepts a (cert.Infeasible lines) v
infeasible_tree_accepted a lines (verdict.Optimal value) backed says = absurd says
infeasible_tree_accepted a lines verdict.Infeasible backed says = infeasible_accepted a lines backed
infeasible_tree_accepted a lines verdict.Unbounded backed says = absurd says

-- ---- a point and a ray

from_path : (n k : ℕ) (path : List Choice) → map (λ (c : Choice). c.pair) path ≡ range_with_len k n → choices_from k (map side_of path) ≡ path
from_path n k [] whole = refl
from_path zero k (c ∷ path) whole = absurd (cc)
from_path (suc n) k (c ∷ path) whole =
    let front : c.pair ≡ k = cc in
    let rest : map (λ (c : Choice). c.pair) path ≡ range_with_len (k + 1) n = cc in
    ap (λ m. (record { pair = m; side = c.side }) ∷ choices_from (k + 1) (map side_of path)) (sym front) ∙ ap (λ l. c ∷ l) (from_path n (k + 1) path rest)

choices_are : (a : Instance) (piece : List Side) (path : List Choice) → IsWholePiece a path → piece ≡ map side_of path → choices_of piece ≡ path
choices_are a piece path whole sides = ap choices_of sides ∙ from_path (length a.pairs) 0 path whole

pub direction_is : (a : Instance) (piece : List Side) (q : Point) (ray : Ray) → IsDirection a piece q ray → IsWholePiece a (choices_of piece) × IsPointIn a (choices_of piece) q × IsRayFor a (choices_of piece) ray
direction_is a piece q ray h =
    let same : h.choices ≡ choices_of piece = sym (choices_are a piece h.choices h.are.pairs h.are.sides) in
    subst (λ l. IsWholePiece a l × IsPointIn a l q × IsRayFor a l ray) same (
      h.are.pairs,
      record { numbers = h.point_of; inside = λ p means. (let lies = h.lies p means in record { met = lies.met; tight_there = tight_in_piece a piece h.choices p h.are.pairs h.are.sides lies }) },
      record { numbers = h.numbers; recedes = h.recedes },
    )

pub piece_size : (a : Instance) (piece : List Side) (q : Point) (ray : Ray) → IsDirection a piece q ray → length piece ≡ length a.pairs
piece_size a piece q ray h =
    ap length h.are.sides ∙ length-map h.choices side_of ∙ whole_size a h.choices h.are.pairs

pub choices_named : (a : Instance) (choices : List Choice) → IsWholePiece a choices → NamesPairs a choices
choices_named a choices whole k c inside =
    let size = whole_size a choices whole in
    omega (arith, whole_at a choices k c whole (omega (arith, inside, size)), inside, size)

pub direction_accepted : {E : Type 0} (r : Result Cert E) (a : Instance) (piece : List Side) (q : Point) (ray : Ray) → IsDirection a piece q ray → IfOk r (λ c. c ≡ direction_cert piece q ray) → IfOk r (λ c. Accepts a c verdict.Unbounded)
direction_accepted (Ok c) a piece q ray h is =
    let parts = direction_is a piece q ray h in
    subst (λ x. Accepts a x verdict.Unbounded) (sym is) (unbounded_accepted a (choices_of piece) q ray parts.0 parts.1 parts.2)
direction_accepted (Err e) a piece q ray h is = is

pub direction_made : {E : Type 0} (r : Result Cert E) (piece : List Side) (choices : List Choice) (q : Point) (ray : Ray) → choices ≡ choices_of piece → IfOk r (λ c. c ≡ cert.Unbounded choices (cert_point q) (terms_from 0 ray.r)) → IfOk r (λ c. c ≡ direction_cert piece q ray)
direction_made (Ok c) piece choices q ray same is = is ∙ ap (λ l. cert.Unbounded l (cert_point q) (terms_from 0 ray.r)) same
direction_made (Err e) piece choices q ray same is = is
