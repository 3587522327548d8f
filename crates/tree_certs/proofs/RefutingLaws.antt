-- The steps of a tree: a leaf's, a side's, a resolvent's.
use Rattle.std.proofs.Common.{inl, inr, ℕ, ◌+◌, ◌<◌, ◌≡◌, refl, sym, ap, ◌∙◌, subst, arith, true, false, IsTrue, List, [], ◌∷◌, ◌++◌, length, get_or, Option, append_assoc}
use Rattle.std.specs.Prelude.{All, Contains, Result, Ok, Err, IfOk}
use Rattle.std.proofs.lemmas.List.{append-nil, get_or_append_left, get_or_at, length-append, length-map}
use Rattle.std.proofs.lemmas.List.Elements.{All-contains, All-weaker, Contains-get_or}
use Rattle.std.proofs.Math.ListN.{get_or-map}
use Rattle.nogoods.specs.declared.choice.Choice.{Choice}
use Rattle.nogoods.specs.declared.choice.Side.TheVariants.{A, B}
use Rattle.nogoods.specs.Choices.{pairs_ascend}
use Rattle.lpcc_case.specs.Instance.{Instance}
use Rattle.lpcc_case.specs.Pieces.{NamesPairs}
use Rattle.lpcc_case.specs.declared.point.Point.{Point}
use Rattle.cuts.specs.declared.cut.Cut.{Cut}
use Rattle.cuts.specs.Cuts as cuts
use Rattle.derivation.specs.declared.step.Step.{Step}
use Rattle.derivation.specs.declared.step.Step.TheVariants.{Start, Derived}
use Rattle.derivation.specs.HintRuns.{closes, is_assumed}
use Rattle.derivation.specs.Logs.{no_good_of, no_goods}
use Rattle.tree_engine.specs.Paths.{IsFree, choice_of, first_side, second_side, with_choice}
use Rattle.tree_engine.specs.Trees.{Holds, IsLeafCut}
use Rattle.tree_engine.specs.declared.tree.Tree.{Tree}
use Rattle.tree_engine.proofs.PathLaws.{named_with}
use Rattle.tree_certs.specs.declared.refuting.Derivation.{Derivation}
use Rattle.tree_certs.specs.Derivations.{Refutation, leaves, refutation, resolution, resolved, resolvent}
use Rattle.tree_certs.specs.Refuting.{AreSides, IsRefuted, IsResolved, IsSound, Refutes, StandsFor, ng_at}
use Rattle.tree_certs.proofs.Resolutions.{assumed_is_contained, contained_is_assumed, on_longer, resolution_closes, resolvent_on_path}
use Rattle.tree_certs.proofs.Soundness.{sound_derived, sound_start}

-- the choices of a no-good on a path name pairs
pub on_path_named : (a : Instance) (path ng : List Choice) → NamesPairs a path → All (Contains path) ng → NamesPairs a ng
on_path_named a path ng named on = All-weaker (Contains path) (λ c. c.pair < length a.pairs) (λ c at. All-contains (λ c. c.pair < length a.pairs) path c named at) ng on

-- ---- the new step stands for its no-good

stands_last : (path : List Choice) (log new : List Step) (s : Step) (at : ℕ) (ng : List Choice) → new ≡ log ++ s ∷ [] → at ≡ length log → no_good_of s ≡ ng → IsTrue (pairs_ascend ng) → All (Contains path) ng → StandsFor path new at ng
stands_last path log new s at ng pushed is same up on = record {
  within = omega (arith, is, ap length pushed, length-append log (s ∷ []));
  read = ap (λ l. ng_at l at) pushed ∙ ap no_good_of (get_or_at log s [] (Start []) at (sym is)) ∙ same;
  ascending = up;
  on_path = on;
}

-- a step that stands stays where it is
stands_longer : (path : List Choice) (log new more : List Step) (at : ℕ) (ng : List Choice) → new ≡ log ++ more → StandsFor path log at ng → StandsFor path new at ng
stands_longer path log new more at ng joined h = record {
  within = omega (arith, h.within, ap length joined, length-append log more);
  read = ap (λ l. ng_at l at) joined ∙ ap no_good_of (get_or_append_left log more (Start []) at h.within) ∙ h.read;
  ascending = h.ascending;
  on_path = h.on_path;
}

-- ---- a leaf

pub leaf_refutes : (a : Instance) (best : Option Point) (path : List Choice) (c : Cut) (old new : Derivation) (at : ℕ) → IsSound a best old → NamesPairs a path → IsLeafCut a best path c → IsTrue (pairs_ascend (cuts.no_good_of c)) → new.log ≡ old.log ++ Start (cuts.no_good_of c) ∷ [] → new.cuts ≡ old.cuts ++ c ∷ [] → at ≡ length old.log → Refutes a best path (record { steps = Start (cuts.no_good_of c) ∷ []; at = length old.log; ng = cuts.no_good_of c }) (c ∷ []) old new at
leaf_refutes a best path c old new at sound named leaf up pushed more number = record {
  sound = sound_start a best old.cuts new.cuts old.log new.log c sound (leaf.passes, leaf.active) (on_path_named a path (cuts.no_good_of c) named leaf.choices) more pushed;
  steps = pushed;
  more = more;
  number = number;
  stands = stands_last path old.log new.log (Start (cuts.no_good_of c)) at (cuts.no_good_of c) pushed number refl up leaf.choices;
}

-- ---- a split

on_shorter : (c : Choice) (path ng : List Choice) → All (Contains (with_choice c path)) ng → (Contains ng c → ⊥) → All (Contains path) ng
on_shorter c path ng on lacks k d inside = elim (on_longer c (get_or ng k d) path (on k d inside)) [
  | inl same ↦ absurd (lacks (subst (λ x. Contains ng x) same (Contains-get_or ng k d inside)))
  | inr at ↦ at
]

lacks_it : (ng : List Choice) (c : Choice) → is_assumed ng c ≡ false → Contains ng c → ⊥
lacks_it ng c e at = let both : true ≡ false = sym (contained_is_assumed ng c at) ∙ e in absurd (cc)

first_stands : (n : ℕ) (path : List Choice) (pair i : ℕ) (u : List Choice) (j : ℕ) (v : List Choice) → is_assumed u (choice_of pair A) ≡ false → resolution n path pair i u j v ≡ record { steps = []; at = i; ng = u }
first_stands n path pair i u j v lacks = rw lacks refl

second_stands : (n : ℕ) (path : List Choice) (pair i : ℕ) (u : List Choice) (j : ℕ) (v : List Choice) → is_assumed u (choice_of pair A) ≡ true → is_assumed v (choice_of pair B) ≡ false → resolution n path pair i u j v ≡ record { steps = []; at = j; ng = v }
second_stands n path pair i u j v has lacks = rw (has, lacks) refl

both_have : (n : ℕ) (path : List Choice) (pair i : ℕ) (u : List Choice) (j : ℕ) (v : List Choice) → is_assumed u (choice_of pair A) ≡ true → is_assumed v (choice_of pair B) ≡ true → resolution n path pair i u j v ≡ record { steps = Derived (resolvent path u v) (i ∷ j ∷ []) ∷ []; at = n; ng = resolvent path u v }
both_have n path pair i u j v has holds = rw (has, holds) refl

one_side : (a : Instance) (best : Option Point) (path : List Choice) (d : Derivation) (at : ℕ) (ng : List Choice) (c : Choice) → IsSound a best d → StandsFor (with_choice c path) d.log at ng → (Contains ng c → ⊥) → Refutes a best path (record { steps = []; at = at; ng = ng }) [] d d at
one_side a best path d at ng c sound stands lacks = record {
  sound = sound;
  steps = sym (append-nil d.log);
  more = sym (append-nil d.cuts);
  number = refl;
  stands = record { within = stands.within; read = stands.read; ascending = stands.ascending; on_path = on_shorter c path ng stands.on_path lacks };
}

pub first_resolves : (a : Instance) (best : Option Point) (path : List Choice) (pair : ℕ) (d : Derivation) (first second : ℕ) → AreSides a best path pair d first second → is_assumed (ng_at d.log first) (choice_of pair A) ≡ false → IsResolved a best path pair d first second d first
first_resolves a best path pair d first second h lacks =
    subst (λ r. Refutes a best path r [] d d first) (sym (first_stands (length d.log) path pair first (ng_at d.log first) second (ng_at d.log second) lacks))
    (one_side a best path d first (ng_at d.log first) (choice_of pair A) h.sound h.one (lacks_it (ng_at d.log first) (choice_of pair A) lacks))

pub second_resolves : (a : Instance) (best : Option Point) (path : List Choice) (pair : ℕ) (d : Derivation) (first second : ℕ) → AreSides a best path pair d first second → is_assumed (ng_at d.log first) (choice_of pair A) ≡ true → is_assumed (ng_at d.log second) (choice_of pair B) ≡ false → IsResolved a best path pair d first second d second
second_resolves a best path pair d first second h has lacks =
    subst (λ r. Refutes a best path r [] d d second) (sym (second_stands (length d.log) path pair first (ng_at d.log first) second (ng_at d.log second) has lacks))
    (one_side a best path d second (ng_at d.log second) (choice_of pair B) h.sound h.other (lacks_it (ng_at d.log second) (choice_of pair B) lacks))

read_no_good : (log : List Step) (at : ℕ) → get_or (no_goods log) at [] ≡ ng_at log at
read_no_good log at = get_or-map no_good_of log at (Start [])

-- the resolvent follows
pub sides_close : (a : Instance) (best : Option Point) (path : List Choice) (pair : ℕ) (d : Derivation) (first second : ℕ) → AreSides a best path pair d first second → is_assumed (ng_at d.log first) (choice_of pair A) ≡ true → closes (no_goods d.log) (resolvent path (ng_at d.log first) (ng_at d.log second)) (first ∷ second ∷ []) ≡ true
sides_close a best path pair d first second h has =
    let size = length-map d.log no_good_of in
    resolution_closes (no_goods d.log) path (ng_at d.log first) (ng_at d.log second) pair first second
    (omega (arith, size, h.one.within)) (omega (arith, size, h.other.within)) (read_no_good d.log first) (read_no_good d.log second) h.one.ascending h.one.on_path h.other.on_path
    (assumed_is_contained (ng_at d.log first) (choice_of pair A) has) h.free.1

pub resolvent_resolves : (a : Instance) (best : Option Point) (path : List Choice) (pair : ℕ) (d new : Derivation) (first second at : ℕ) → AreSides a best path pair d first second → is_assumed (ng_at d.log first) (choice_of pair A) ≡ true → is_assumed (ng_at d.log second) (choice_of pair B) ≡ true → IsTrue (pairs_ascend (resolvent path (ng_at d.log first) (ng_at d.log second))) → new.log ≡ d.log ++ Derived (resolvent path (ng_at d.log first) (ng_at d.log second)) (first ∷ second ∷ []) ∷ [] → new.cuts ≡ d.cuts → at ≡ length d.log → IsResolved a best path pair d first second new at
resolvent_resolves a best path pair d new first second at h has holds up pushed same number =
    let u = ng_at d.log first in
    let v = ng_at d.log second in
    let ng = resolvent path u v in
    let on = resolvent_on_path path u v in
    let sound : IsSound a best new =
    subst (λ k. Rattle.cert_parts.specs.Lines.IsSoundLog a best k new.log) (sym same)
    (sound_derived a best d.cuts d.log new.log ng (first ∷ second ∷ []) h.sound (sides_close a best path pair d first second h has) (on_path_named a path ng h.named on) pushed) in
    subst (λ r. Refutes a best path r [] d new at) (sym (both_have (length d.log) path pair first u second v has holds)) (record {
      sound = sound;
      steps = pushed;
      more = same ∙ sym (append-nil d.cuts);
      number = number;
      stands = stands_last path d.log new.log (Derived ng (first ∷ second ∷ [])) at ng pushed number refl up on;
    })

-- ---- both sides of a split behind each other

pub sides_are : (a : Instance) (best : Option Point) (path : List Choice) (pair : ℕ) (s t : Refutation) (xs ys : List Cut) (old half d : Derivation) (first second : ℕ) → NamesPairs a path → IsFree a path pair → Refutes a best (first_side pair path) s xs old half first → Refutes a best (second_side pair path) t ys half d second → AreSides a best path pair d first second
sides_are a best path pair s t xs ys old half d first second named free one other =
    let longer : StandsFor (first_side pair path) d.log first s.ng = stands_longer (first_side pair path) half.log d.log t.steps first s.ng other.steps one.stands in
    record {
      sound = other.sound;
      named = named;
      free = free;
      one = subst (StandsFor (first_side pair path) d.log first) (sym longer.read) longer;
      other = subst (StandsFor (second_side pair path) d.log second) (sym other.stands.read) other.stands;
    }

pub split_refutes : (a : Instance) (best : Option Point) (path : List Choice) (pair : ℕ) (s t : Refutation) (xs ys : List Cut) (old half d new : Derivation) (first second at : ℕ) → Refutes a best (first_side pair path) s xs old half first → Refutes a best (second_side pair path) t ys half d second → IsResolved a best path pair d first second new at → Refutes a best path (resolved (length old.log) path pair s t) (xs ++ ys) old new at
split_refutes a best path pair s t xs ys old half d new first second at one other done =
    let longer : StandsFor (first_side pair path) d.log first s.ng = stands_longer (first_side pair path) half.log d.log t.steps first s.ng other.steps one.stands in
    let joined : d.log ≡ (old.log ++ s.steps) ++ t.steps = other.steps ∙ ap (λ l. l ++ t.steps) one.steps in
    let n = length old.log + length s.steps + length t.steps in
    let count : length d.log ≡ n =
    omega (arith, ap length joined, length-append (old.log ++ s.steps) t.steps, length-append old.log s.steps) in
    let same : resolution (length d.log) path pair first (ng_at d.log first) second (ng_at d.log second) ≡ resolution n path pair s.at s.ng t.at t.ng =
    ap (λ m. resolution m path pair first (ng_at d.log first) second (ng_at d.log second)) count
    ∙ ap (λ i. resolution n path pair i (ng_at d.log first) second (ng_at d.log second)) one.number
    ∙ ap (λ u. resolution n path pair s.at u second (ng_at d.log second)) longer.read
    ∙ ap (λ j. resolution n path pair s.at s.ng j (ng_at d.log second)) other.number
    ∙ ap (λ v. resolution n path pair s.at s.ng t.at v) other.stands.read in
    let r = resolution n path pair s.at s.ng t.at t.ng in
    let last : Refutes a best path r [] d new at = subst (λ x. Refutes a best path x [] d new at) same done in
    record {
      sound = last.sound;
      steps = last.steps ∙ ap (λ l. l ++ r.steps) joined ∙ ap (λ l. l ++ r.steps) (append_assoc old.log s.steps t.steps) ∙ append_assoc old.log (s.steps ++ t.steps) r.steps;
      more = last.more ∙ append-nil d.cuts ∙ other.more ∙ ap (λ l. l ++ ys) one.more ∙ append_assoc old.cuts xs ys;
      number = last.number;
      stands = last.stands;
    }

-- ---- both sides of a split, as they were refuted

-- the steps of side A behind so many steps
abbrev first_of : ℕ → List Choice → ℕ → Tree → Refutation
first_of n path pair x = refutation n (first_side pair path) x

-- the steps of side B behind those of side A
abbrev second_of : ℕ → List Choice → ℕ → Tree → Tree → Refutation
second_of n path pair x y = refutation (n + length (first_of n path pair x).steps) (second_side pair path) y

pub record BothRefuted (a : Instance) (best : Option Point) (path : List Choice) (pair : ℕ) (x y : Tree) (old half d : Derivation) (first second : ℕ) : Type 0 where
  pub one : Refutes a best (first_side pair path) (first_of (length old.log) path pair x) (leaves x) old half first
  pub other : Refutes a best (second_side pair path) (second_of (length old.log) path pair x y) (leaves y) half d second

refuted_at : (a : Instance) (best : Option Point) (p q : List Choice) (u x : Tree) (old new : Derivation) (at : ℕ) → p ≡ q → u ≡ x → IsRefuted a best p u old new at → IsRefuted a best q x old new at
refuted_at a best p q u x old new at same is h = subst (λ w. IsRefuted a best q w old new at) is (subst (λ l. IsRefuted a best l u old new at) same h)

pub both_refuted : (a : Instance) (best : Option Point) (path : List Choice) (pair : ℕ) (x y u v : Tree) (p q : List Choice) (old half d : Derivation) (first second : ℕ) → p ≡ first_side pair path → u ≡ x → IsRefuted a best p u old half first → q ≡ second_side pair path → v ≡ y → IsRefuted a best q v half d second → BothRefuted a best path pair x y old half d first second
both_refuted a best path pair x y u v p q old half d first second p_is u_is one q_is v_is other =
    let here = refuted_at a best p (first_side pair path) u x old half first p_is u_is one in
    let there_is = refuted_at a best q (second_side pair path) v y half d second q_is v_is other in
    let count : length half.log ≡ length old.log + length (first_of (length old.log) path pair x).steps =
    ap length here.steps ∙ length-append old.log (first_of (length old.log) path pair x).steps in
    record {
      one = here;
      other = subst (λ n. Refutes a best (second_side pair path) (refutation n (second_side pair path) y) (leaves y) half d second) count there_is;
    }

pub sides_of_both : (a : Instance) (best : Option Point) (path : List Choice) (pair : ℕ) (x y : Tree) (old half d : Derivation) (first second : ℕ) → NamesPairs a path → IsFree a path pair → BothRefuted a best path pair x y old half d first second → AreSides a best path pair d first second
sides_of_both a best path pair x y old half d first second named free h =
    sides_are a best path pair (first_of (length old.log) path pair x) (second_of (length old.log) path pair x y) (leaves x) (leaves y) old half d first second named free h.one h.other

pub split_result : {E : Type 0} (r : Result ℕ E) (a : Instance) (best : Option Point) (path : List Choice) (pair : ℕ) (x y : Tree) (old half d new : Derivation) (first second : ℕ) → BothRefuted a best path pair x y old half d first second → IfOk r (IsResolved a best path pair d first second new) → IfOk r (λ at. Refutes a best path (resolved (length old.log) path pair (first_of (length old.log) path pair x) (second_of (length old.log) path pair x y)) (leaves x ++ leaves y) old new at)
split_result (Ok at) a best path pair x y old half d new first second h done =
    split_refutes a best path pair (first_of (length old.log) path pair x) (second_of (length old.log) path pair x y) (leaves x) (leaves y) old half d new first second at h.one h.other done
split_result (Err e) a best path pair x y old half d new first second h done = done

-- ---- the sides of a path

pub side_named : (a : Instance) (c : Choice) (path p : List Choice) → p ≡ with_choice c path → NamesPairs a path → IsFree a path c.pair → NamesPairs a p
side_named a c path p is named free = subst (NamesPairs a) (sym is) (named_with a c path named free)

pub side_holds : (a : Instance) (best : Option Point) (p q : List Choice) (u x : Tree) → p ≡ q → u ≡ x → Holds a best q x → Holds a best p u
side_holds a best p q u x same is h = subst (λ l. Holds a best l u) (sym same) (subst (λ w. Holds a best q w) (sym is) h)
