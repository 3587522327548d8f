-- All pages of a reach are of its case.
use Rattle.std.proofs.Common.{ℕ, zero, suc, ◌<◌, ◌≡◌, ◌∙◌, sym, ap, subst, arith, List, [], ◌∷◌, length, set, map}
use Rattle.std.specs.List.{AllByRecursion}
use Rattle.std.proofs.lemmas.List.Elements.{All-from_recursion, recursion_from_All}
use Rattle.lpcc_case.specs.Instance.{Instance}
use Rattle.cut_pool.specs.Pages.{PageView}
use Rattle.cut_pool.specs.Lanes.{LaneView, case_of, ArePagesOf}
use Rattle.cut_pool.specs.Reaches.{AreLanesOf, AreMarked}

abbrev head_or : Instance → List Instance → Instance
head_or d [] = d
head_or d (x ∷ xs) = x

abbrev tail_of : List Instance → List Instance
tail_of [] = []
tail_of (x ∷ xs) = xs

go : (a : Instance) (ps qs : List PageView) → map case_of qs ≡ map case_of ps → AllByRecursion (λ p. p.case ≡ a) ps → AllByRecursion (λ p. p.case ≡ a) qs
go a [] [] e h = tt
go a [] (q ∷ qs) e h = absurd (cc)
go a (p ∷ ps) [] e h = tt
go a (p ∷ ps) (q ∷ qs) e h = (ap (head_or a) e ∙ h.0, go a ps qs (ap tail_of e) h.1)

pub same_cases : (a : Instance) (ps qs : List PageView) → map case_of qs ≡ map case_of ps → ArePagesOf a ps → ArePagesOf a qs
same_cases a ps qs e h = All-from_recursion (λ p. p.case ≡ a) qs (go a ps qs e (recursion_from_All (λ p. p.case ≡ a) ps h))

set_all : {T : Type 0} (P : T → Type 0) (ls : List T) (k : ℕ) (l : T) → AllByRecursion P ls → P l → AllByRecursion P (set ls k l)
set_all P [] k l h x = h
set_all P (o ∷ ls) zero l h x = (x, h.1)
set_all P (o ∷ ls) (suc k) l h x = (h.0, set_all P ls k l h.1 x)

pub lanes_set : (a : Instance) (ls : List LaneView) (k : ℕ) (l : LaneView) → AreLanesOf a ls → ArePagesOf a l.pages → AreLanesOf a (set ls k l)
lanes_set a ls k l h x = All-from_recursion (λ t. ArePagesOf a t.pages) (set ls k l) (set_all (λ t. ArePagesOf a t.pages) ls k l (recursion_from_All (λ t. ArePagesOf a t.pages) ls h) x)

pub lanes_marked : (a : Instance) (before after : List LaneView) → AreLanesOf a before → AreMarked before after → AreLanesOf a after
lanes_marked a before after h m = λ k d lt.
    let inside : k < length before = omega (arith, m.0, lt) in
    subst (λ (l : LaneView). ArePagesOf a l.pages) (sym (m.1 k d inside)) (h k d inside)
