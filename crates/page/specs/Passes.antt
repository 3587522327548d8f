-- What callers see of a page and its passes.
use Rattle.std.specs.Prelude.{◌≡◌, ◌↔◌, Bool, IsTrue, ℕ, ◌+◌, ◌<◌, true, false, List, [], ◌∷◌, ◌++◌, length, slice_index_or}
use Rattle.page.specs.declared.passes.Page.{Page}
use Rattle.page.specs.declared.passes.WritePass.{WritePass}
use Rattle.page.specs.declared.passes.ReadPass.{ReadPass}
use Rattle.page.specs.declared.rule.Look.{Look}

module _ {K : Type 0} where
  -- how many items a page has room for
  abbrev pub room_of : Page K → ℕ
  room_of p = p.table.shared.key.items

  abbrev pub stride_of : Page K → ℕ
  stride_of p = p.table.shared.key.stride

  abbrev pub keeps_of : Page K → K
  keeps_of p = p.table.shared.key.keeps

  -- the items that the pass has published, and so the page's list
  abbrev pub published : WritePass K → List (List ℕ)
  published w = w.seat.me.0.seen

  -- the items that the pass has seen, a beginning of the page's list
  abbrev pub seen : ReadPass K → List (List ℕ)
  seen r = r.seat.me.0.seen

  -- the last look of the pass at a head, with the number of items that the page had then
  abbrev pub look_of : ReadPass K → Look
  look_of r = r.seat.me.0.look

  -- the pass writes this page
  pub record IsWriterOf (p : Page K) (w : WritePass K) : Type 0 where
    pub ours : w.seat.table_id ≡ p.table.shared.table_id
    pub writes : w.seat.me.0.writes ≡ true
    pub whole : w.seat.me.0.draft ≡ []
    pub counted : w.count ≡ length (published w)
    pub same : w.seat.me.0.key ≡ p.table.shared.key

  -- the pass reads this page
  pub record IsReaderOf (p : Page K) (r : ReadPass K) : Type 0 where
    pub ours : r.seat.table_id ≡ p.table.shared.table_id
    pub reads : r.seat.me.0.writes ≡ false
    pub same : r.seat.me.0.key ≡ p.table.shared.key

  -- a pass that has looked at nothing
  abbrev pub IsNewReaderOf : Page K → ReadPass K → Type 0
  IsNewReaderOf p r = IsReaderOf p r × (seen r ≡ []) × ((look_of r).loads ≡ 0)

  -- A read of item i made one look, at the head of item i, and answered true exactly where it found 1.
  -- Then the page had more than i items, these words are item i, and the pass has seen it; else the page had at most i items, and the words and what was seen are as before.
  pub record ReadOf (i : ℕ) (before : ReadPass K) (into : List ℕ) (answer : Bool) (after : ReadPass K) (words : List ℕ) : Type 0 where
    pub looked : (look_of after).loads ≡ (look_of before).loads + 1
    pub place : (look_of after).place ≡ i
    pub head : IsTrue answer ↔ ((look_of after).word ≡ 1)
    pub exact : IsTrue answer ↔ (i < (look_of after).count)
    pub again : IsTrue answer → i < length (seen before) → (words ≡ slice_index_or (seen before) i []) × (seen after ≡ seen before)
    pub new : IsTrue answer → i ≡ length (seen before) → seen after ≡ seen before ++ words ∷ []
    pub none : (IsTrue answer → ⊥) → (words ≡ into) × (seen after ≡ seen before)
