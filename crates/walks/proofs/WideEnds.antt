-- The ends of a walk at a wide dictionary.
use Rattle.std.proofs.Common.{ℕ, ◌+◌, ◌<◌, ◌≡◌, ◌∙◌, refl, sym, ap, subst, arith, List, [], ◌∷◌, inl, inr}
use Rattle.std.specs.Prelude.{IsPermutation}
use Rattle.nogoods.specs.declared.choice.Choice.{Choice}
use Rattle.lpcc_case.specs.declared.form.Form.{Form}
use Rattle.lpcc_case.specs.Cases.{IsCase}
use Rattle.lpcc_case.specs.Instance.{Instance}
use Rattle.dict.specs.Equations.{Equation}
use Rattle.dict.specs.Dictionaries.{Dictionary, basic_after, nonbasic_after, IsWideRow}
use Rattle.dict.specs.Forms.{IsDictionaryAt, IsWideDictionary, with_rows, after_exchange}
use Rattle.dict.proofs.LawsOfDictionaries.{wide_at_list}
use Rattle.walks.specs.Walks.{Place, IsOnWalk, IsPath, IsStep, IsWideEnd}
use Rattle.walks.proofs.Walks.{walk_is_sound}

-- the last exchange or pivot before a place
record LastStep (a : Instance) (tight : List Choice) (p : Place) : Type 0 where
  from : Place
  on : IsOnWalk a tight from
  row : ℕ
  col : ℕ
  step : IsStep a tight from row col
  steps : p.steps ≡ from.steps + 1
  basic : p.at.basic ≡ basic_after row col from.at
  nonbasic : p.at.nonbasic ≡ nonbasic_after row col from.at

-- where nothing was exchanged in between
same_step : (a : Instance) (tight : List Choice) (p q : Place) → p.steps ≡ q.steps → p.at ≡ q.at → LastStep a tight q → LastStep a tight p
same_step a tight p q steps at s = record {
  from = s.from;
  on = s.on;
  row = s.row;
  col = s.col;
  step = s.step;
  steps = steps ∙ s.steps;
  basic = ap (λ (d : Dictionary). d.basic) at ∙ s.basic;
  nonbasic = ap (λ (d : Dictionary). d.nonbasic) at ∙ s.nonbasic;
}

last_step : (a : Instance) (tight : List Choice) (p : Place) (before : List Place) → IsPath a tight p before → 0 < p.steps → LastStep a tight p
last_step a tight p [] path some = absurd (omega (arith, some, ap (λ (q : Place). q.steps) path))
last_step a tight p (q ∷ before) path some = elim path.0 [
  | inl skip ↦
      let e : p.steps ≡ q.steps = ap (λ (r : Place). r.steps) skip.2 in
      same_step a tight p q e (ap (λ (r : Place). r.at) skip.2) (last_step a tight q before path.1 (omega (arith, some, e)))
  | inr other ↦ elim other [
    | inl fix ↦ record {
      from = q;
      on = (before, path.1);
      row = fix.1;
      col = fix.2;
      step = inl (fix.0, fix.4);
      steps = ap (λ (r : Place). r.steps) fix.6 ∙ omega arith;
      basic = ap (λ (r : Place). r.at.basic) fix.6 ∙ fix.5.basic;
      nonbasic = ap (λ (r : Place). r.at.nonbasic) fix.6 ∙ fix.5.nonbasic;
    }
    | inr later ↦ elim later [
      | inl raise ↦
          let e : p.steps ≡ q.steps = ap (λ (r : Place). r.steps) raise.3 in
          same_step a tight p q e (ap (λ (r : Place). r.at) raise.3) (last_step a tight q before path.1 (omega (arith, some, e)))
      | inr pivot ↦ record {
        from = q;
        on = (before, path.1);
        row = pivot.2;
        col = pivot.3;
        step = inr (pivot.0, pivot.1, pivot.5);
        steps = ap (λ (r : Place). r.steps) pivot.7 ∙ omega arith;
        basic = ap (λ (r : Place). r.at.basic) pivot.7 ∙ pivot.6.basic;
        nonbasic = ap (λ (r : Place). r.at.nonbasic) pivot.7 ∙ pivot.6.nonbasic;
      }
    ]
  ]
]

abbrev listed : List Equation → List Form → List Form → Dictionary
listed rows b n = record { rows = rows; basic = b; nonbasic = n }

same_lists : (rows : List Equation) (b c m n : List Form) → b ≡ c → m ≡ n → listed rows b m ≡ listed rows c n
same_lists rows b c m n eb en = rw (eb, en) refl

-- where the last dictionary is wide, the walk ended before it
pub wide_dictionary_ends_walk : (a : Instance) (tight : List Choice) (p : Place) (made : ℕ) (forms : List Form) → IsOnWalk a tight p → p.steps ≡ made + 1 → IsPermutation p.at.nonbasic forms → ((rows : List Equation) → IsDictionaryAt a (with_rows rows p.at) → IsWideDictionary (with_rows rows p.at)) → IsWideEnd a tight made forms
wide_dictionary_ends_walk a tight p made forms on steps permutes wide =
    let s = last_step a tight p on.0 on.1 (omega (arith, steps)) in
    record {
      at = s.from;
      on = s.on;
      row = s.row;
      col = s.col;
      step = s.step;
      wide = λ rows there.
          let same : with_rows rows p.at ≡ with_rows rows (after_exchange s.row s.col s.from.at) = same_lists rows p.at.basic (basic_after s.row s.col s.from.at) p.at.nonbasic (nonbasic_after s.row s.col s.from.at) s.basic s.nonbasic in
          subst (λ (d : Dictionary). IsWideDictionary d) same (wide rows (subst (λ (d : Dictionary). IsDictionaryAt a d) (sym same) there));
      steps = omega (arith, steps, s.steps);
      forms = subst (λ (fs : List Form). IsPermutation fs forms) s.nonbasic permutes;
    }

-- where a pivot answers that a row would be wide, the walk ends before it
pub wide_pivot_ends_walk : (a : Instance) (tight : List Choice) (p : Place) (row col i at : ℕ) (forms : List Form) → IsCase a → IsOnWalk a tight p → IsStep a tight p row col → IsWideRow row col p.at i at → IsPermutation (nonbasic_after row col p.at) forms → IsWideEnd a tight p.steps forms
wide_pivot_ends_walk a tight p row col i at forms kept on step cause permutes =
    let sound = walk_is_sound a tight p kept on in
    record {
      at = p;
      on = on;
      row = row;
      col = col;
      step = step;
      wide = λ rows there. wide_at_list a row col i at p.at rows sound.sized.size sound.sized.of cause there;
      steps = refl;
      forms = permutes;
    }
