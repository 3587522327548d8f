-- The rule of a page, and what its steps tell.
use Rattle.std.specs.Prelude.{◌≡◌, ◌≢◌, Bool, ℕ, suc, ◌+◌, ◌<◌, ◌≤◌, true, false, List, [], ◌∷◌, ◌++◌, length, slice_index, slice_index_or}
use mathlib.Core.Option.{some}
use lib.ListN.{get_elem?}
use Rattle.atomic_table.specs.Table.{State, Me, Step}
use Rattle.page.specs.Places.{place, word_count, Begins}
use Rattle.page.specs.declared.rule.View.{View}
use Rattle.page.specs.declared.rule.Look.{Look}
use Rattle.page.specs.declared.rule.PageKey.{PageKey}

abbrev pub no_look : Look
no_look = record { loads = 0; place = 0; word = 0; count = 0 }

-- an item has the stride's length, and the fact F
abbrev pub IsItem : ℕ → (List ℕ → Type 0) → List ℕ → Type 0
IsItem stride F item = (length item ≡ stride) × F item

module _ {K : Type 0} where
  abbrev pub newcomer : PageKey K → Bool → View K
  newcomer key writes = record { key = key; writes = writes; seen = []; draft = []; look = no_look }

  -- what a view has to do with the writer's
  pub record Knows (key : PageKey K) (seat : ℕ) (w : View K) (id : ℕ) (v : View K) : Type 0 where
    pub alone : v.writes ≡ true → id ≡ seat
    pub begins : v.writes ≡ false → Begins w.seen v.seen
    pub counted : v.writes ≡ false → v.look.count ≤ length w.seen
    pub same : v.key ≡ key

  -- the seat writes, with the view w. The heads that are 1 come first, and every other head is 0.
  pub record Writes (stride : ℕ) (F : List ℕ → Type 0) (key : PageKey K) (words : List ℕ) (views : List (View K)) (seat : ℕ) (w : View K) : Type 0 where
    pub at : get_elem? views seat ≡ some w
    pub writes : w.writes ≡ true
    pub facts : (i : ℕ) → i < length w.seen → IsItem stride F (slice_index_or w.seen i [])
    pub ones : (i : ℕ) → i < length w.seen → slice_index words (place stride i 0) ≡ 1
    pub zeros : (i : ℕ) → length w.seen ≤ i → i < key.items → slice_index words (place stride i 0) ≡ 0
    pub stored : (i k : ℕ) → i < length w.seen → k < stride → slice_index words (place stride i (suc k)) ≡ slice_index (slice_index_or w.seen i []) k
    pub drafted : (k : ℕ) → k < length w.draft → k < stride → slice_index words (place stride (length w.seen) (suc k)) ≡ slice_index w.draft k
    pub others : (id : ℕ) (v : View K) → get_elem? views id ≡ some v → Knows key seat w id v

  -- one seat writes, and the page keeps its number of words
  abbrev pub Kept : ℕ → (List ℕ → Type 0) → PageKey K → State ℕ (View K) → Type 0
  Kept stride F key s = (length s.words ≡ word_count stride key.items) × ((seat : ℕ) × (w : View K) × Writes stride F key s.words s.views seat w)

  abbrev pub StoresWord : Step ℕ → Me ℕ (View K) → ℕ → Me ℕ (View K) → Type 0
  StoresWord step me found after = after.0 ≡ record me.0 { draft = me.0.draft ++ step.first ∷ [] }

  abbrev pub StoresHead : Step ℕ → Me ℕ (View K) → ℕ → Me ℕ (View K) → Type 0
  StoresHead step me found after = after.0 ≡ record me.0 { seen = me.0.seen ++ me.0.draft ∷ []; draft = [] }

  -- A look at the head of item i found this word. Where it is 1 the item is seen, and else there was no such item.
  pub record Looked (stride : ℕ) (F : List ℕ → Type 0) (i : ℕ) (v : View K) (found : ℕ) (u : View K) : Type 0 where
    pub writes : u.writes ≡ v.writes
    pub key : u.key ≡ v.key
    pub look : u.look ≡ record { loads = v.look.loads + 1; place = i; word = found; count = u.look.count }
    pub there : found ≡ 1 → i < u.look.count
    pub known : found ≡ 1 → i < length v.seen → u.seen ≡ v.seen
    pub new : found ≡ 1 → i ≡ length v.seen → u.seen ≡ v.seen ++ slice_index_or u.seen i [] ∷ []
    pub fact : found ≡ 1 → IsItem stride F (slice_index_or u.seen i [])
    pub none : found ≢ 1 → (u.look.count ≤ i) × (u.seen ≡ v.seen)

  abbrev pub LooksAt : ℕ → (List ℕ → Type 0) → Step ℕ → Me ℕ (View K) → ℕ → Me ℕ (View K) → Type 0
  LooksAt stride F step me found after = (i : ℕ) → step.word ≡ place stride i 0 → Looked stride F i me.0 found after.0

  abbrev pub ReadsWord : ℕ → Step ℕ → Me ℕ (View K) → ℕ → Me ℕ (View K) → Type 0
  ReadsWord stride step me found after = (after ≡ me) × ((i k : ℕ) → step.word ≡ place stride i (suc k) → i < length me.0.seen → k < stride → found ≡ slice_index (slice_index_or me.0.seen i []) k)
