-- A node more: a leaf, or one that is split.
use Rattle.std.proofs.Common.{inr, ℕ, ◌+◌, ◌-◌, ◌<◌, ◌≤◌, ◌^◌, ◌≡◌, refl, sym, ap, ◌∙◌, subst, arith, IsTrue, List, [], ◌∷◌, ◌++◌, length, Option, Some, None, add-one}
use Rattle.std.specs.Prelude.{All, Contains, IfOk, Result, Ok, Err}
use Rattle.std.proofs.Math.Nat.{two-pow-succ}
use Rattle.std.proofs.lemmas.Nat.{pow_pos}
use Rattle.std.proofs.lemmas.Option.{slice_get_within}
use Rattle.std.proofs.lemmas.List.{length-append}
use Rattle.std.proofs.lemmas.List.Elements.{All-cons, All-contains, All-contains_itself, All-nil, All-weaker}
use Rattle.nogoods.specs.declared.choice.Choice.{Choice}
use Rattle.lpcc_case.specs.Instance.{Instance}
use Rattle.lpcc_case.specs.declared.point.Point.{Point}
use Rattle.cuts.specs.declared.cut.Cut.{Cut}
use Rattle.cuts.specs.Cuts.{no_good_of}
use Rattle.shrink.specs.Shrinking.{IsShrunk}
use Rattle.shrink.specs.declared.shrunk.Shrunk.{Shrunk}
use Rattle.lex_simplex.specs.declared.answer.LpAnswer.{LpAnswer}
use Rattle.reasons.specs.Reasons.{IsActiveAgainst, IsUnder}
use Rattle.tree_engine.specs.declared.answer.BranchOptions.{BranchOptions}
use Rattle.tree_engine.specs.declared.closing.Closing.{Closing}
use Rattle.tree_engine.specs.declared.node.Node.{Node}
use Rattle.tree_engine.specs.declared.node.NodeEnd.{NodeEnd}
use Rattle.tree_engine.specs.declared.node.NodeEnd.TheVariants as end
use Rattle.tree_engine.specs.declared.tree.Tree.TheVariants.{Leaf}
use Rattle.tree_engine.specs.declared.turn.Turn.{Turn}
use Rattle.tree_engine.specs.declared.turn.Turn.TheVariants as turn
use Rattle.tree_engine.specs.Answers.{RunsOut}
use Rattle.tree_engine.specs.Bests.{IsBest, IsCandidate}
use Rattle.tree_engine.specs.Closings.{Closes, IsBelow, IsClosing, IsLeaf, IsSplit, IsState, IsTurn, KeepsActive, MayClose, most_below, node_at}
use Rattle.tree_engine.specs.Runs.{EndsAs, FallsTo, Follows, IsFurther, IsRun, IsSplitAt, best_behind}
use Rattle.tree_engine.specs.Trees.{IsLeafCut}
use Rattle.tree_engine.proofs.BestLaws.{stays, under_keeps}
use Rattle.tree_engine.proofs.LoosePairs.{split_free}
use Rattle.tree_engine.proofs.RunLaws.{behind_last, run_more}

-- ---- powers

pub at_least_one : (k : ℕ) → 1 ≤ 2 ^ k
at_least_one k = omega (arith, pow_pos k)

pub twice : (k : ℕ) → 2 ^ (k + 1) ≡ 2 ^ k + 2 ^ k
twice k = ap (λ m. 2 ^ m) (add-one k) ∙ two-pow-succ k

-- ---- the state with one node more

next_state : (a : Instance) (o : BranchOptions) (path : List Choice) (old : List Node) (best : Option Point) (run : List Node) (now : Option Point) (what : NodeEnd) → MayClose a o path old best → length old < o.nodes → IsBest a now → run ≡ old ++ node_at path now what ∷ [] → EndsAs a o.pivots best path now what → IsState a o run now
next_state a o path old best run now what may room is_best joined ends =
    let n = node_at path now what in
    let follows : Follows a o.pivots old n = record { further = may.further; ends = subst (λ b. EndsAs a o.pivots b path now what) may.is_state.behind ends } in
    let size : length run ≡ length old + 1 = ap length joined ∙ length-append old (n ∷ []) in
    record {
      is_run = subst (IsRun a o.pivots) (sym joined) (run_more a o.pivots old n may.is_state.is_run follows);
      behind = sym (ap best_behind joined ∙ behind_last old n);
      is_best = is_best;
      few = omega (arith, room, size);
    }

own : (path : List Choice) (now : Option Point) (what : NodeEnd) → IsTrue (Rattle.nogoods.specs.Choices.pairs_ascend path) → IsBelow path (node_at path now what)
own path now what up = record { ascending = up; choices = All-contains_itself path }

leaf_closes : (a : Instance) (o : BranchOptions) (path : List Choice) (old : List Node) (best : Option Point) (run : List Node) (now : Option Point) (c : Cut) → MayClose a o path old best → length old < o.nodes → IsBest a now → FallsTo a best now → KeepsActive a best now → run ≡ old ++ node_at path now (end.Leaf c) ∷ [] → IsLeafCut a now path c → Closes a o path old best run now (Leaf c)
leaf_closes a o path old best run now c may room is_best falls keeps joined holds =
    let n = node_at path now (end.Leaf c) in
    let k = length a.pairs - length path in
    record {
      grows = record {
        is_state = next_state a o path old best run now (end.Leaf c) may room is_best joined (falls, holds);
        more = n ∷ [];
        joined = joined;
        below = All-cons (IsBelow path) n [] (own path now (end.Leaf c) may.ascending) (All-nil (IsBelow path));
        keeps = keeps;
      };
      holds = holds;
      counted = ap length joined ∙ length-append old (n ∷ []);
      few = omega (arith, twice k, at_least_one k);
    }

-- ---- what a node comes to

pub leaf_turn : (a : Instance) (o : BranchOptions) (path : List Choice) (old : List Node) (best : Option Point) (run : List Node) (now : Option Point) (t : Turn) → MayClose a o path old best → length old < o.nodes → IsBest a now → FallsTo a best now → KeepsActive a best now → IsLeaf a path old run now t → IsTurn a o path old best run now t
leaf_turn a o path old best run now (turn.Leaf c) may room is_best falls keeps h = leaf_closes a o path old best run now c may room is_best falls keeps h.0 h.1
leaf_turn a o path old best run now (turn.Split pair) may room is_best falls keeps h = absurd h
leaf_turn a o path old best run now (turn.Stop why) may room is_best falls keeps h = absurd h

-- the best point stays
pub closed_turn : (a : Instance) (o : BranchOptions) (path : List Choice) (old : List Node) (best : Option Point) (run : List Node) (now : Option Point) (t : Turn) → MayClose a o path old best → length old < o.nodes → now ≡ best → IsLeaf a path old run now t → IsTurn a o path old best run now t
closed_turn a o path old best run now t may room same h =
    let P : Option Point → Type 0 = λ b. IsBest a b × (FallsTo a best b × KeepsActive a best b) in
    let facts : P now = subst P (sym same) (may.is_state.is_best, (stays a best, λ c passes active. active)) in
    leaf_turn a o path old best run now t may room facts.0 facts.1.0 facts.1.1 h

-- a new best point
pub improved_turn : (a : Instance) (o : BranchOptions) (path : List Choice) (old : List Node) (best : Option Point) (run : List Node) (now : Option Point) (q : Point) (t : Turn) → MayClose a o path old best → length old < o.nodes → IsCandidate a q → IsUnder q best → now ≡ Some q → IsLeaf a path old run now t → IsTurn a o path old best run now t
improved_turn a o path old best run now q t may room of under same h =
    let P : Option Point → Type 0 = λ b. IsBest a b × (FallsTo a best b × KeepsActive a best b) in
    let facts : P now = subst P (sym same) (of, (inr (of, under), under_keeps a best q may.is_state.is_best of under)) in
    leaf_turn a o path old best run now t may room facts.0 facts.1.0 facts.1.1 h

pub split_turn : (a : Instance) (o : BranchOptions) (path : List Choice) (old : List Node) (best : Option Point) (run : List Node) (now : Option Point) (pair : ℕ) (answer : LpAnswer) → MayClose a o path old best → length old < o.nodes → now ≡ best → IsSplitAt a o.pivots best path pair answer → run ≡ old ++ node_at path best (end.Split pair answer) ∷ [] → IsSplit a o path pair old best run now
split_turn a o path old best run now pair answer may room same splits pushed =
    let joined : run ≡ old ++ node_at path now (end.Split pair answer) ∷ [] = pushed ∙ ap (λ b. old ++ node_at path b (end.Split pair answer) ∷ []) (sym same) in record {
      may = may;
      is_state =
          let P : Option Point → Type 0 = λ b. IsBest a b × ((b ≡ best) × IsSplitAt a o.pivots b path pair answer) in
          let facts : P now = subst P (sym same) (may.is_state.is_best, (refl, splits)) in
          next_state a o path old best run now (end.Split pair answer) may room facts.0 joined facts.1;
      answer = answer;
      joined = joined;
      same = same;
      free = split_free a o.pivots best path pair answer splits;
    }

-- ---- a shrunk cut

pub shrunk_leaf : (a : Instance) (budget : ℕ) (best limit : Option Point) (path : List Choice) (old : Cut) (s : Shrunk) → IsLeafCut a best path old → limit ≡ best → IsShrunk a budget limit old s → IsLeafCut a best path s.cut
shrunk_leaf a budget best limit path old s leaf same is = record {
  passes = is.passes;
  choices = All-weaker (Contains (no_good_of old)) (Contains path) (λ x h. All-contains (Contains path) (no_good_of old) x leaf.choices h) (no_good_of s.cut) is.choices;
  active = subst (IsActiveAgainst s.cut) same is.active;
}

-- ---- results

pub closed_result : {E : Type 0} (r : Result Turn E) (a : Instance) (o : BranchOptions) (path : List Choice) (old : List Node) (best : Option Point) (run : List Node) (now : Option Point) → MayClose a o path old best → length old < o.nodes → now ≡ best → IfOk r (IsLeaf a path old run now) → IfOk r (IsTurn a o path old best run now)
closed_result (Ok t) a o path old best run now may room same h = closed_turn a o path old best run now t may room same h
closed_result (Err e) a o path old best run now may room same h = h

pub improved_result : {E : Type 0} (r : Result Turn E) (a : Instance) (o : BranchOptions) (path : List Choice) (old : List Node) (best : Option Point) (run : List Node) (now : Option Point) (q : Point) → MayClose a o path old best → length old < o.nodes → IsCandidate a q → IsUnder q best → now ≡ Some q → IfOk r (IsLeaf a path old run now) → IfOk r (IsTurn a o path old best run now)
improved_result (Ok t) a o path old best run now q may room of under same h = improved_turn a o path old best run now q t may room of under same h
improved_result (Err e) a o path old best run now q may room of under same h = h

pub nodes_out : (a : Instance) (o : BranchOptions) (path : List Choice) (run : List Node) (best : Option Point) (left : List Choice) → MayClose a o path run best → o.nodes ≤ length run → left ≡ path → RunsOut a o (length run) left run × (length run + 1 < most_below a 0)
nodes_out a o path run best left may all same =
    let k = length a.pairs - length path in (
      record {
        is_run = may.is_state.is_run;
        further = subst (IsFurther run) (sym same) may.further;
        all = refl;
        allowed = omega (arith, all, may.is_state.few);
      },
      omega (arith, may.room, twice k, at_least_one k),
    )

-- ---- the root

empty_run : (a : Instance) (budget : ℕ) → IsRun a budget []
empty_run a budget k n found = absurd (omega (arith, slice_get_within [] k n found))

pub may_start : (a : Instance) (o : BranchOptions) (path : List Choice) (run : List Node) (best : Option Point) → path ≡ [] → run ≡ [] → best ≡ None → MayClose a o path run best
may_start a o path run best no_choices no_nodes no_best =
    subst (λ x. MayClose a o x run best) (sym no_choices) (subst (λ x. MayClose a o [] x best) (sym no_nodes) (subst (λ x. MayClose a o [] [] x) (sym no_best) (record {
      is_state = record { is_run = empty_run a o.pivots; behind = refl; is_best = tt; few = omega arith };
      ascending = refl;
      named = All-nil (λ (c : Choice). c.pair < length a.pairs);
      further = refl;
      unvisited = All-nil (λ (n : Node). All (Contains n.path) [] → ⊥);
      room = omega arith;
    })))

pub from_start : (a : Instance) (o : BranchOptions) (path : List Choice) (run : List Node) (best : Option Point) (new : List Node) (now : Option Point) (c : Closing) → path ≡ [] → run ≡ [] → best ≡ None → IsClosing a o path run best new now c → IsClosing a o [] [] None new now c
from_start a o path run best new now c no_choices no_nodes no_best h =
    subst (λ x. IsClosing a o [] [] x new now c) no_best (subst (λ x. IsClosing a o [] x best new now c) no_nodes (subst (λ x. IsClosing a o x run best new now c) no_choices h))
