-- What contracts see of a lane of a reach, and what `next` does to it.
use Rattle.std.specs.Prelude.{◌≡◌, ◌≢◌, ◌<◌, ◌≤◌, ◌+◌, ◌⊎◌, Bool, IsTrue, true, false, ℕ, List, [], ◌∷◌, ◌++◌, All, length, map, slice_get, slice_set, Some}
use Rattle.cut_words.specs.Words.{item_length, SpellsPassing}
use Rattle.lpcc_case.specs.Instance.{Instance}
use Rattle.cut_pool.specs.Pages.{PageView, given_of, IsUsedUp}

-- the pages to which the reach has a pass, the number of items given at the last `ready`, and whether `next` has answered false since
pub record LaneView : Type 0 where
  pub pages : List PageView
  pub at_ready : ℕ
  pub dry : Bool

abbrev pub given : LaneView → List (List ℕ)
given l = given_of l.pages

-- the marks of `ready`
abbrev pub marked : LaneView → LaneView
marked l = record { pages = l.pages; at_ready = length (given l); dry = false }

-- a page behind the others
abbrev pub with_page : LaneView → PageView → LaneView
with_page l p = record { pages = l.pages ++ p ∷ []; at_ready = l.at_ready; dry = l.dry }

abbrev pub case_of : PageView → Instance
case_of p = p.case

abbrev pub room_of : PageView → ℕ
room_of p = p.room

-- all pages are of this case
abbrev pub ArePagesOf : Instance → List PageView → Type 0
ArePagesOf a pages = All (λ p. p.case ≡ a) pages

-- A look at the first page of the lane that is not used up found that it had no further item.
pub record LookedInVain (before after : List PageView) (at : ℕ) (p q : PageView) : Type 0 where
  pub page : slice_get before at ≡ Some p
  pub left : length p.seen < p.room
  pub earlier : (j : ℕ) (o : PageView) → j < at → slice_get before j ≡ Some o → IsUsedUp o
  pub later : slice_get after at ≡ Some q
  pub one : q.look.loads ≡ p.look.loads + 1
  pub place : q.look.place ≡ length p.seen
  pub none : q.look.count ≤ length p.seen

-- the items of all pages have this length
abbrev pub HaveLength : ℕ → List PageView → Type 0
HaveLength n pages = All (λ p. n ≡ item_length p.case) pages

-- The next item of page `at` was given, or a look found that there is none.
pub record GivesNext (before : List PageView) (at : ℕ) (after : List PageView) (into words : List ℕ) (answer : Bool) : Type 0 where
  pub page : PageView
  pub next : PageView
  pub here : slice_get before at ≡ Some page
  pub put : after ≡ slice_set before at next
  pub cases : next.case ≡ page.case
  pub rooms : next.room ≡ page.room
  pub one : next.look.loads ≡ page.look.loads + 1
  pub place : next.look.place ≡ length page.seen
  pub more : IsTrue answer → next.seen ≡ page.seen ++ words ∷ []
  pub fact : IsTrue answer → SpellsPassing page.case words
  pub same : (IsTrue answer → ⊥) → (next.seen ≡ page.seen) × (words ≡ into) × (next.look.count ≤ length page.seen)

-- behind the last item of a page comes the first of the next one
abbrev pub StepsOn : ℕ → ℕ → ℕ → ℕ × ℕ → Type 0
StepsOn room at place next = ((place + 1 ≡ room) × (next.0 ≡ at + 1) × (next.1 ≡ 0)) ⊎ ((place + 1 ≢ room) × (next.0 ≡ at) × (next.1 ≡ place + 1))

-- what `next` does: true gives one item more of the lane, false nothing
pub record NextOf (before after : LaneView) (into words : List ℕ) (answer : Bool) : Type 0 where
  pub ready : after.at_ready ≡ before.at_ready
  pub more : IsTrue answer → given after ≡ given before ++ words ∷ []
  pub same : (IsTrue answer → ⊥) → (given after ≡ given before) × (words ≡ into)
  pub still : IsTrue answer → after.dry ≡ before.dry
  pub dry : (IsTrue answer → ⊥) → after.dry ≡ true
  -- false comes exactly where all pages are used up, and then without a look, or where the look found no further item
  pub cause : (IsTrue answer → ⊥) → (All IsUsedUp before.pages × (after.pages ≡ before.pages)) ⊎ ((at : ℕ) × (p : PageView) × (q : PageView) × LookedInVain before.pages after.pages at p q)
  pub cases : map case_of after.pages ≡ map case_of before.pages
  pub rooms : map room_of after.pages ≡ map room_of before.pages
