-- The numbers of columns, written term by term.
use Rattle.std.proofs.Common.{ℕ, ◌+◌, ◌<◌, ◌≡◌, sym, ap, ◌∙◌, subst, arith, ℤ, pos, ◌+ℤ◌, IsTrue, inl, inr, List, length, get_or, set, take}
use Rattle.std.specs.Prelude.{All}
use Rattle.std.proofs.lemmas.Bool.{cases_eq}
use Rattle.std.proofs.lemmas.List.{get_or-set_same, get_or-set_other, length-set}
use Rattle.std.proofs.lemmas.List.FromFn.{fill_by_all}
use Rattle.std.proofs.Math.IntN.{+ℤ_idl, +ℤ_idr}
use Rattle.lp_base.specs.Ascending.{ascends_by}
use Rattle.lp_base.specs.Numbers.{IsNarrow}
use Rattle.lp_base.proofs.SumLaws.{sum_over-more}
use Rattle.lpcc_case.specs.Points.{coefficient}
use Rattle.lpcc_case.proofs.Shares.{share, share_at, share_other}
use Rattle.cuts.proofs.Columns.{coefficient_before}
use Rattle.cert_text.specs.Certs.{number_of}
use Rattle.cert_check.specs.Acceptance.{numbers_of}

-- a number for each column, those of these terms written and each other 0
pub record AreWritten (columns : ℕ) (numbers : List ℤ) (terms : List (ℕ × ℤ)) : Type 0 where
  pub size : length numbers ≡ columns
  pub value : (j : ℕ) → j < columns → get_or numbers j (pos 0) ≡ coefficient terms j
  pub narrow : All IsNarrow numbers

-- one term more
coefficient_more : (ts : List (ℕ × ℤ)) (i j : ℕ) → i < length ts → coefficient (take (i + 1) ts) j ≡ (coefficient (take i ts) j +ℤ share (get_or ts i (0, pos 0)) j)
coefficient_more ts i j inside = sum_over-more (λ t. share t j) ts i (0, pos 0) inside

value_more : (numbers : List ℤ) (ts : List (ℕ × ℤ)) (t : ℕ × ℤ) (i j : ℕ) → coefficient (take i ts) t.0 ≡ pos 0 → coefficient (take (i + 1) ts) j ≡ (coefficient (take i ts) j +ℤ share t j) → t.0 < length numbers → get_or numbers j (pos 0) ≡ coefficient (take i ts) j → get_or (set numbers t.0 t.1) j (pos 0) ≡ coefficient (take (i + 1) ts) j
value_more numbers ts t i j none more within before = elim (cases_eq j t.0) [
  | inl same ↦
      let here : get_or (set numbers t.0 t.1) j (pos 0) ≡ t.1 = ap (λ k. get_or (set numbers t.0 t.1) k (pos 0)) same ∙ get_or-set_same numbers t.0 t.1 (pos 0) within in
      let there : (coefficient (take i ts) j +ℤ share t j) ≡ t.1 = rw (same, none, share_at t.0 t.1) (+ℤ_idl t.1) in
      here ∙ sym there ∙ sym more
  | inr other ↦
      let there : (coefficient (take i ts) j +ℤ share t j) ≡ coefficient (take i ts) j = rw (share_other t.0 j t.1 other) (+ℤ_idr (coefficient (take i ts) j)) in
      get_or-set_other numbers t.0 j t.1 (pos 0) other ∙ before ∙ sym there ∙ sym more
]

narrow_more : (numbers : List ℤ) (k : ℕ) (y : ℤ) → IsNarrow y → All IsNarrow numbers → All IsNarrow (set numbers k y)
narrow_more numbers k y here before j d inside = elim (cases_eq j k) [
  | inl same ↦
      let within : k < length numbers = omega (arith, inside, same, length-set numbers k y) in
      let read : get_or (set numbers k y) j d ≡ y = ap (λ m. get_or (set numbers k y) m d) same ∙ get_or-set_same numbers k y d within in
      subst IsNarrow (sym read) here
  | inr other ↦ subst IsNarrow (sym (get_or-set_other numbers k j y d other)) (before j d (omega (arith, inside, length-set numbers k y)))
]

pub written_more : (columns : ℕ) (numbers : List ℤ) (ts : List (ℕ × ℤ)) (i : ℕ) → IsTrue (ascends_by number_of ts) → i < length ts → (get_or ts i (0, pos 0)).0 < columns → IsNarrow (get_or ts i (0, pos 0)).1 → AreWritten columns numbers (take i ts) → AreWritten columns (set numbers (get_or ts i (0, pos 0)).0 (get_or ts i (0, pos 0)).1) (take (i + 1) ts)
written_more columns numbers ts i ascends inside within narrow before =
    let t = get_or ts i (0, pos 0) in
    record {
      size = length-set numbers t.0 t.1 ∙ before.size;
      value = λ j lt. value_more numbers ts t i j (coefficient_before ts i (0, pos 0) ascends inside) (coefficient_more ts i j inside) (omega (arith, within, before.size)) (before.value j lt);
      narrow = narrow_more numbers t.0 t.1 narrow before.narrow;
    }

pub written_all : (columns : ℕ) (numbers : List ℤ) (ts : List (ℕ × ℤ)) → AreWritten columns numbers ts → numbers ≡ numbers_of columns ts
written_all columns numbers ts written = fill_by_all (coefficient ts) numbers columns (pos 0) written.size written.value
