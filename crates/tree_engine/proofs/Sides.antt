-- Below a node that was split: side A with all below it, then side B.
use Rattle.std.proofs.Common.{ℕ, ◌+◌, ◌-◌, ◌<◌, ◌≤◌, ◌^◌, ◌≡◌, ◌≢◌, refl, sym, ap, ◌∙◌, subst, arith, IsTrue, List, [], ◌∷◌, ◌++◌, length, get_or, Option, append_assoc}
use Rattle.std.specs.Prelude.{All, Any, Contains}
use Rattle.std.proofs.lemmas.List.{length-append}
use Rattle.std.proofs.lemmas.List.Elements.{All-append, All-cons, All-contains, All-contains_itself, All-nil, All-weaker}
use Rattle.std.proofs.lemmas.List.Quantifiers.{Any-push}
use Rattle.nogoods.specs.declared.choice.Choice.{Choice}
use Rattle.nogoods.specs.declared.choice.Side.{Side}
use Rattle.nogoods.specs.declared.choice.Side.TheVariants.{A, B}
use Rattle.nogoods.specs.Choices.{pairs_ascend}
use Rattle.lpcc_case.specs.Instance.{Instance}
use Rattle.lpcc_case.specs.Pieces.{NamesPairs}
use Rattle.lpcc_case.specs.declared.point.Point.{Point}
use Rattle.tree_engine.specs.declared.answer.BranchOptions.{BranchOptions}
use Rattle.tree_engine.specs.declared.node.Node.{Node}
use Rattle.tree_engine.specs.declared.node.NodeEnd.TheVariants as end
use Rattle.tree_engine.specs.declared.tree.Tree.{Tree}
use Rattle.tree_engine.specs.Closings.{Closes, IsBelow, IsHalfClosed, IsSplit, IsUnvisited, KeepsActive, MayClose, WasHalfClosed, WasSplit, most_below, node_at}
use Rattle.tree_engine.specs.Paths.{IsFree, IsOn, choice_of, first_side, second_side, with_choice}
use Rattle.tree_engine.specs.Runs.{IsChild, IsNew}
use Rattle.tree_engine.specs.Trees.{Holds, size}
use Rattle.tree_engine.proofs.Lists.{any_left}
use Rattle.tree_engine.proofs.PathLaws.{ascends_with, contains_new, contains_old, length_with, named_with, one_of_pair, shorter}
use Rattle.tree_engine.proofs.RunLaws.{further_by}
use Rattle.tree_engine.proofs.TreeLaws.{kept}
use Rattle.tree_engine.proofs.Turns.{at_least_one, twice}

-- ---- paths below

-- what has the longer path has the path
less : (c : Choice) (path longer : List Choice) → All (Contains longer) (with_choice c path) → All (Contains longer) path
less c path longer all k d inside = All-contains (Contains longer) (with_choice c path) (get_or path k d) all (contains_old c path k d inside)

has_new : (c : Choice) (path longer : List Choice) → All (Contains longer) (with_choice c path) → Contains longer c
has_new c path longer all = All-contains (Contains longer) (with_choice c path) c all (contains_new c path)

below_less : (c : Choice) (path : List Choice) (n : Node) → IsBelow (with_choice c path) n → IsBelow path n
below_less c path n h = record { ascending = h.ascending; choices = less c path n.path h.choices }

apart_sides : (pair : ℕ) → choice_of pair A ≡ choice_of pair B → ⊥
apart_sides pair e = cc (ap (λ (c : Choice). c.side) e)

-- no path below side A is below side B
not_both : (pair : ℕ) (path : List Choice) (n : Node) → IsBelow (first_side pair path) n → All (Contains n.path) (second_side pair path) → ⊥
not_both pair path n h all =
    apart_sides pair (one_of_pair n.path (choice_of pair A) (choice_of pair B) h.ascending (has_new (choice_of pair A) path n.path h.choices) (has_new (choice_of pair B) path n.path all) refl)

not_own : (pair : ℕ) (s : Side) (path : List Choice) → (IsOn path pair → ⊥) → All (Contains path) (with_choice (choice_of pair s) path) → ⊥
not_own pair s path free all =
    let at = has_new (choice_of pair s) path path all in
    free (at.0, choice_of pair s, at.1, at.2, refl)

-- ---- the path of a side may be next

unvisited_longer : (c : Choice) (path : List Choice) (run : List Node) → IsUnvisited path run → IsUnvisited (with_choice c path) run
unvisited_longer c path run un = All-weaker (λ n. All (Contains n.path) path → ⊥) (λ n. All (Contains n.path) (with_choice c path) → ⊥) (λ n h all. h (less c path n.path all)) run un

new_by : (path : List Choice) (run : List Node) → IsUnvisited path run → IsNew path run
new_by path run un = All-weaker (λ n. All (Contains n.path) path → ⊥) (λ n. n.path ≢ path) (λ n h e. h (subst (λ p. All (Contains p) path) (sym e) (All-contains_itself path))) run un

-- the node that was split
abbrev split_node : (a : Instance) (o : BranchOptions) (path : List Choice) (pair : ℕ) (old : List Node) (best : Option Point) (run : List Node) (now : Option Point) → IsSplit a o path pair old best run now → Node
split_node a o path pair old best run now h = node_at path now (end.Split pair h.answer)

child_here : (a : Instance) (o : BranchOptions) (path : List Choice) (pair : ℕ) (s : Side) (old : List Node) (best : Option Point) (run : List Node) (now : Option Point) → IsSplit a o path pair old best run now → Any (IsChild (with_choice (choice_of pair s) path)) run
child_here a o path pair s old best run now h =
    let P : Node → Type 0 = IsChild (with_choice (choice_of pair s) path) in
    subst (Any P) (sym h.joined) (Any-push P old (split_node a o path pair old best run now h) (s, refl))

unvisited_there : (a : Instance) (o : BranchOptions) (path : List Choice) (pair : ℕ) (s : Side) (old : List Node) (best : Option Point) (run : List Node) (now : Option Point) → IsSplit a o path pair old best run now → IsUnvisited (with_choice (choice_of pair s) path) run
unvisited_there a o path pair s old best run now h =
    let c = choice_of pair s in
    let P : Node → Type 0 = λ n. All (Contains n.path) (with_choice c path) → ⊥ in
    let n = split_node a o path pair old best run now h in
    subst (All P) (sym h.joined) (All-append P old (n ∷ []) (unvisited_longer c path old h.may.unvisited) (All-cons P n [] (λ all. not_own pair s path h.free.1 all) (All-nil P)))

longer_size : (a : Instance) (path : List Choice) (c : Choice) → length path < length a.pairs → (length a.pairs - length (with_choice c path)) + 1 ≡ length a.pairs - length path
longer_size a path c lt = omega (arith, lt, length_with c path)

-- the most nodes below a path are twice those below a longer one
most_twice : (a : Instance) (path : List Choice) (c : Choice) → length path < length a.pairs → most_below a (length path) ≡ most_below a (length (with_choice c path)) + most_below a (length (with_choice c path))
most_twice a path c lt =
    let e = longer_size a path c lt in
    twice (length a.pairs - length path) ∙ ap (λ k. 2 ^ k + 2 ^ k) (sym e)

pub first_may : (a : Instance) (o : BranchOptions) (path : List Choice) (pair : ℕ) (old : List Node) (best : Option Point) (run : List Node) (now : Option Point) → IsSplit a o path pair old best run now → MayClose a o (first_side pair path) run now
first_may a o path pair old best run now h =
    let c = choice_of pair A in
    let un = unvisited_there a o path pair A old best run now h in
    let lt = shorter a c path h.may.ascending h.may.named h.free in
    let size : length run ≡ length old + 1 = ap length h.joined ∙ length-append old (split_node a o path pair old best run now h ∷ []) in
    let some = at_least_one ((length a.pairs - length (with_choice c path)) + 1) in
    record {
      is_state = h.is_state;
      ascending = ascends_with c path h.may.ascending h.free.1;
      named = named_with a c path h.may.named h.free;
      further = further_by run (with_choice c path) (new_by (with_choice c path) run un) (child_here a o path pair A old best run now h);
      unvisited = un;
      room = omega (arith, size, some, h.may.room, most_twice a path c lt);
    }

pub second_may : (a : Instance) (o : BranchOptions) (path : List Choice) (pair : ℕ) (old : List Node) (best : Option Point) (run : List Node) (now : Option Point) (t : Tree) → IsHalfClosed a o path pair old best run now t → MayClose a o (second_side pair path) run now
second_may a o path pair old best run now t h =
    let c = choice_of pair B in
    let more = h.first.grows.more in
    let P : Node → Type 0 = λ n. All (Contains n.path) (with_choice c path) → ⊥ in
    let there_is = unvisited_there a o path pair B old best h.at h.behind h.split in
    let here_is = All-weaker (IsBelow (first_side pair path)) P (λ n below all. not_both pair path n below all) more h.first.grows.below in
    let un : IsUnvisited (with_choice c path) run = subst (All P) (sym h.first.grows.joined) (All-append P h.at more there_is here_is) in
    let Q : Node → Type 0 = IsChild (with_choice c path) in
    let child : Any Q run = subst (Any Q) (sym h.first.grows.joined) (any_left Q h.at more (child_here a o path pair B old best h.at h.behind h.split)) in
    let lt = shorter a c path h.split.may.ascending h.split.may.named h.split.free in
    let size_at : length h.at ≡ length old + 1 = ap length h.split.joined ∙ length-append old (split_node a o path pair old best h.at h.behind h.split ∷ []) in
    let sizes : length (first_side pair path) ≡ length (with_choice c path) = length_with (choice_of pair A) path ∙ sym (length_with c path) in
    let few : size t + 1 ≤ most_below a (length (with_choice c path)) = subst (λ k. size t + 1 ≤ most_below a k) sizes h.first.few in
    record {
      is_state = h.first.grows.is_state;
      ascending = ascends_with c path h.split.may.ascending h.split.free.1;
      named = named_with a c path h.split.may.named h.split.free;
      further = further_by run (with_choice c path) (new_by (with_choice c path) run un) child;
      unvisited = un;
      room = omega (arith, size_at, few, h.first.counted, h.split.may.room, most_twice a path c lt);
    }

-- ---- both sides together

both_keep : (a : Instance) (o : BranchOptions) (path : List Choice) (pair : ℕ) (old : List Node) (best : Option Point) (half : List Node) (then_best : Option Point) (x : Tree) (now : Option Point) → IsHalfClosed a o path pair old best half then_best x → KeepsActive a then_best now → KeepsActive a best now
both_keep a o path pair old best half then_best x now h second c passes active =
    second c passes (h.first.grows.keeps c passes (subst (Rattle.reasons.specs.Reasons.IsActiveAgainst c) (sym h.split.same) active))

pub both_hold : (a : Instance) (o : BranchOptions) (path : List Choice) (pair : ℕ) (old : List Node) (best : Option Point) (half : List Node) (then_best : Option Point) (run : List Node) (now : Option Point) (x y : Tree) → IsHalfClosed a o path pair old best half then_best x → Closes a o (second_side pair path) half then_best run now y → IsFree a path pair × Holds a now (first_side pair path) x × Holds a now (second_side pair path) y
both_hold a o path pair old best half then_best run now x y h second =
    (h.split.free, kept a then_best now (first_side pair path) x second.grows.keeps h.first.holds, second.holds)

pub both_close : (a : Instance) (o : BranchOptions) (path : List Choice) (pair : ℕ) (old : List Node) (best : Option Point) (half : List Node) (then_best : Option Point) (run : List Node) (now : Option Point) (x y t : Tree) → IsHalfClosed a o path pair old best half then_best x → Closes a o (second_side pair path) half then_best run now y → Holds a now path t → size t ≡ size x + size y + 1 → Closes a o path old best run now t
both_close a o path pair old best half then_best run now x y t h second holds sized =
    let n = split_node a o path pair old best h.at h.behind h.split in
    let first_more = h.first.grows.more in
    let second_more = second.grows.more in
    let joined : run ≡ ((old ++ n ∷ []) ++ first_more) ++ second_more =
    second.grows.joined ∙ ap (λ l. l ++ second_more) (h.first.grows.joined ∙ ap (λ l. l ++ first_more) h.split.joined) in
    let lt = shorter a (choice_of pair A) path h.split.may.ascending h.split.may.named h.split.free in
    let size_at : length h.at ≡ length old + 1 = ap length h.split.joined ∙ length-append old (n ∷ []) in
    let sizes : length (second_side pair path) ≡ length (first_side pair path) = length_with (choice_of pair B) path ∙ sym (length_with (choice_of pair A) path) in
    let few : size y + 1 ≤ most_below a (length (first_side pair path)) = subst (λ k. size y + 1 ≤ most_below a k) sizes second.few in
    let own_below : IsBelow path n = record { ascending = h.split.may.ascending; choices = All-contains_itself path } in
    let first_below = All-weaker (IsBelow (first_side pair path)) (IsBelow path) (λ m b. below_less (choice_of pair A) path m b) first_more h.first.grows.below in
    let second_below = All-weaker (IsBelow (second_side pair path)) (IsBelow path) (λ m b. below_less (choice_of pair B) path m b) second_more second.grows.below in
    record {
      grows = record {
        is_state = second.grows.is_state;
        more = (n ∷ []) ++ (first_more ++ second_more);
        joined = joined ∙ append_assoc (old ++ n ∷ []) first_more second_more ∙ append_assoc old (n ∷ []) (first_more ++ second_more);
        below = All-append (IsBelow path) (n ∷ []) (first_more ++ second_more) (All-cons (IsBelow path) n [] own_below (All-nil (IsBelow path))) (All-append (IsBelow path) first_more second_more first_below second_below);
        keeps = both_keep a o path pair old best half then_best x now h second.grows.keeps;
      };
      holds = holds;
      counted = omega (arith, second.counted, h.first.counted, size_at, sized);
      few = omega (arith, sized, few, h.first.few, most_twice a path (choice_of pair A) lt);
    }

-- ---- what the code holds on to

pub was_split : (a : Instance) (o : BranchOptions) (path : List Choice) (pair : ℕ) (old : List Node) (best : Option Point) (run : List Node) (now : Option Point) → IsSplit a o path pair old best run now → WasSplit a o path pair run now
was_split a o path pair old best run now h = (old, best, h)

pub first_after : (a : Instance) (o : BranchOptions) (path longer : List Choice) (pair : ℕ) (run : List Node) (now : Option Point) → WasSplit a o path pair run now → longer ≡ first_side pair path → MayClose a o longer run now
first_after a o path longer pair run now h same = subst (λ p. MayClose a o p run now) (sym same) (first_may a o path pair h.0 h.1 run now h.2)

pub second_after : (a : Instance) (o : BranchOptions) (path longer : List Choice) (pair : ℕ) (run : List Node) (now : Option Point) (t : Tree) → WasHalfClosed a o path pair run now t → longer ≡ second_side pair path → MayClose a o longer run now
second_after a o path longer pair run now t h same = subst (λ p. MayClose a o p run now) (sym same) (second_may a o path pair h.0 h.1 run now t h.2)

pub half : (a : Instance) (o : BranchOptions) (path longer : List Choice) (pair : ℕ) (old : List Node) (best : Option Point) (at : List Node) (behind : Option Point) (run : List Node) (now : Option Point) (t : Tree) → IsSplit a o path pair old best at behind → longer ≡ first_side pair path → Closes a o longer at behind run now t → IsHalfClosed a o path pair old best run now t
half a o path longer pair old best at behind run now t h same closes = record { at = at; behind = behind; split = h; first = subst (λ p. Closes a o p at behind run now t) same closes }

pub was_half : (a : Instance) (o : BranchOptions) (path longer : List Choice) (pair : ℕ) (at : List Node) (behind : Option Point) (run : List Node) (now : Option Point) (t : Tree) → WasSplit a o path pair at behind → longer ≡ first_side pair path → Closes a o longer at behind run now t → WasHalfClosed a o path pair run now t
was_half a o path longer pair at behind run now t h same closes = (h.0, h.1, half a o path longer pair h.0 h.1 at behind run now t h.2 same closes)

pub falls : (a : Instance) (path longer : List Choice) (c : Choice) → IsTrue (pairs_ascend path) → NamesPairs a path → IsFree a path c.pair → longer ≡ with_choice c path → (length a.pairs - length longer) + 1 ≡ length a.pairs - length path
falls a path longer c up named free same = ap (λ l. (length a.pairs - length l) + 1) same ∙ longer_size a path c (shorter a c path up named free)
