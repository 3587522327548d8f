-- A pivot of the dictionary is a step of the walk.
use Rattle.std.proofs.Common.{ℕ, suc, ◌+◌, ◌<◌, ◌^◌, ◌≡◌, ◌∙◌, refl, sym, ap, arith, List, ◌∷◌, length, inl, inr}
use Rattle.std.specs.Prelude.{Result, Ok, Err, OnOk}
use Rattle.std.proofs.lemmas.List.{length-set}
use Rattle.nogoods.specs.declared.choice.Choice.{Choice}
use Rattle.lpcc_case.specs.Instance.{Instance}
use Rattle.lpcc_case.specs.Cases.{IsCase}
use Rattle.dict.specs.Dictionaries.{Dictionary, AreRows, form_at, basic_after, nonbasic_after}
use Rattle.dict.specs.Forms.{IsDictionaryOf}
use Rattle.walks.specs.Steps.{IsSized, IsExchanged, IsFixing, IsPivot}
use Rattle.walks.specs.Walks.{Place, place, IsOnWalk, IsRaised, IsSkipped}
use Rattle.lex_simplex.specs.Rounds.{IsInStage}
use Rattle.walks.proofs.Walks.{walk_is_sound}

exchanged : (a : Instance) (row col : ℕ) (d e : Dictionary) → IsSized a d → e.basic ≡ basic_after row col d → e.nonbasic ≡ nonbasic_after row col d → length e.rows ≡ length d.rows → AreRows (length e.nonbasic) e.rows → ((a : Instance) → IsDictionaryOf a d → IsDictionaryOf a e) → IsExchanged a row col d e
exchanged a row col d e sized basic nonbasic size rows keeps = record {
  sized = record {
    of = keeps a sized.of;
    size = ap length basic ∙ length-set d.basic row (form_at d.nonbasic col) ∙ sized.size ∙ sym size;
    bound = 2 ^ 63;
    rows = λ i h. (rows i h).0;
  };
  basic = basic;
  nonbasic = nonbasic;
}

pub on_exchanged : {T E : Type 0} (r : Result T E) (a : Instance) (row col : ℕ) (d e : Dictionary) → IsSized a d → OnOk r (e.basic ≡ basic_after row col d) → OnOk r (e.nonbasic ≡ nonbasic_after row col d) → OnOk r (length e.rows ≡ length d.rows) → OnOk r (AreRows (length e.nonbasic) e.rows) → OnOk r ((a : Instance) → IsDictionaryOf a d → IsDictionaryOf a e) → OnOk r (IsExchanged a row col d e)
on_exchanged (Ok x) a row col d e sized basic nonbasic size rows keeps = exchanged a row col d e sized basic nonbasic size rows keeps
on_exchanged (Err x) a row col d e sized basic nonbasic size rows keeps = tt

-- each way on is a step of the walk
pub on_pivot : (a : Instance) (tight : List Choice) (p : Place) (row col pivots steps : ℕ) (e : Dictionary) → IsOnWalk a tight p → IsInStage a p → IsPivot a tight p.stage p.at row col → IsExchanged a row col p.at e → pivots ≡ p.pivots + 1 → steps ≡ p.steps + 1 → IsOnWalk a tight (place p.looked p.stage pivots steps e)
on_pivot a tight p row col pivots steps e on stage pivot is pv sv =
    let v : pivots ≡ suc p.pivots = omega (arith, pv) in
    let s : steps ≡ suc p.steps = omega (arith, sv) in
    let same : place p.looked p.stage pivots steps e ≡ place p.looked p.stage (suc p.pivots) (suc p.steps) e = rw (v, s) refl in
    (p ∷ on.0, (inr (inr (inr (stage.0, stage.1, row, col, e, pivot, is, same))), on.1))

pub on_fix : (a : Instance) (tight : List Choice) (p : Place) (row col looked steps : ℕ) (e : Dictionary) → IsOnWalk a tight p → p.looked < length a.constraints → IsFixing a tight p.looked p.at row col → IsExchanged a row col p.at e → looked ≡ p.looked + 1 → steps ≡ p.steps + 1 → IsOnWalk a tight (place looked p.stage p.pivots steps e)
on_fix a tight p row col looked steps e on lt fixing is lv sv =
    let v : looked ≡ suc p.looked = omega (arith, lv) in
    let s : steps ≡ suc p.steps = omega (arith, sv) in
    let same : place looked p.stage p.pivots steps e ≡ place (suc p.looked) p.stage p.pivots (suc p.steps) e = rw (v, s) refl in
    (p ∷ on.0, (inr (inl (lt, row, col, e, fixing, is, same)), on.1))

pub on_skip : (a : Instance) (tight : List Choice) (p : Place) (looked : ℕ) → IsOnWalk a tight p → p.looked < length a.constraints → IsSkipped a tight p.looked p.at → looked ≡ p.looked + 1 → IsOnWalk a tight (place looked p.stage p.pivots p.steps p.at)
on_skip a tight p looked on lt skipped lv =
    let v : looked ≡ suc p.looked = omega (arith, lv) in
    let same : place looked p.stage p.pivots p.steps p.at ≡ place (suc p.looked) p.stage p.pivots p.steps p.at = rw (v) refl in
    (p ∷ on.0, (inl (lt, skipped, same), on.1))

pub on_raise : (a : Instance) (tight : List Choice) (p : Place) (stage : ℕ) → IsOnWalk a tight p → p.looked ≡ length a.constraints → p.stage < length a.constraints → IsRaised a tight p.stage p.at → stage ≡ p.stage + 1 → IsOnWalk a tight (place p.looked stage 0 p.steps p.at)
on_raise a tight p stage on looked lt raised sv =
    let v : stage ≡ suc p.stage = omega (arith, sv) in
    let same : place p.looked stage 0 p.steps p.at ≡ place p.looked (suc p.stage) 0 p.steps p.at = rw (v) refl in
    (p ∷ on.0, (inr (inr (inl (looked, lt, raised, same))), on.1))

pub walk_sized : (a : Instance) (tight : List Choice) (p : Place) → IsCase a → IsOnWalk a tight p → IsSized a p.at
walk_sized a tight p kept on = (walk_is_sound a tight p kept on).sized
