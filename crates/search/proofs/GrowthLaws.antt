-- How a log that grows goes on.
use Rattle.std.proofs.Common.{ℕ, ◌≡◌, refl, sym, ap, ◌∙◌, subst, true, List, [], ◌∷◌, ◌++◌, append_assoc}
use Rattle.std.specs.Prelude.{All, Result, Ok, Err, OnOk, OnErr}
use Rattle.std.proofs.lemmas.List.{append-nil, map_push}
use Rattle.std.proofs.lemmas.List.Elements.{All-nil, All-push, All-append, All-cons}
use Rattle.nogoods.specs.declared.choice.Choice.{Choice}
use Rattle.derivation.specs.declared.step.Step.{Step}
use Rattle.derivation.specs.declared.step.Step.TheVariants.{Derived}
use Rattle.derivation.specs.HintRuns.{NamesBelow, closes}
use Rattle.derivation.specs.Logs.{no_goods, no_good_of}
use Rattle.search.specs.Growth.{IsDerivedBelow, Adds, Grown}
use Rattle.search.proofs.Resolving.{adds_one}

pub adds_none : (n : ℕ) (ngs : List (List Choice)) → Adds n ngs ngs
adds_none n ngs = record { kept = λ k inside. (inside, refl); bars = λ p size barred. barred }

pub adds_more : (n : ℕ) (a b c : List (List Choice)) → Adds n a b → Adds n b c → Adds n a c
adds_more n a b c x y = record {
  kept = λ k inside.
      let one = x.kept k inside in
      let two = y.kept k one.0 in
      (two.0, two.1 ∙ one.1);
  bars = λ p size barred. x.bars p size (y.bars p size barred);
}

pub grown_none : (n : ℕ) (log : List Step) → All (NamesBelow n) (no_goods log) → Grown n log log
grown_none n log named = record {
  grows = record { added = []; joined = sym (append-nil log); derived = All-nil (IsDerivedBelow n) };
  adds = adds_none n (no_goods log);
  named = named;
}

pub grown_same : (n : ℕ) (log new : List Step) → All (NamesBelow n) (no_goods log) → new ≡ log → Grown n log new
grown_same n log new named same =
    let P : List Step → Type 0 = λ x. Grown n log x in
    subst P (sym same) (grown_none n log named)

pub grown_more : (n : ℕ) (a b c : List Step) → Grown n a b → Grown n b c → Grown n a c
grown_more n a b c x y = record {
  grows = record {
    added = x.grows.added ++ y.grows.added;
    joined = y.grows.joined ∙ ap (λ l. l ++ y.grows.added) x.grows.joined ∙ append_assoc a x.grows.added y.grows.added;
    derived = All-append (IsDerivedBelow n) x.grows.added y.grows.added x.grows.derived y.grows.derived;
  };
  adds = adds_more n (no_goods a) (no_goods b) (no_goods c) x.adds y.adds;
  named = y.named;
}

pub grown_one : (n : ℕ) (log new : List Step) (ng : List Choice) (hints : List ℕ) → All (NamesBelow n) (no_goods log) → NamesBelow n ng → closes (no_goods log) ng hints ≡ true → new ≡ log ++ Derived ng hints ∷ [] → Grown n log new
grown_one n log new ng hints named below closed is =
    let joined : no_goods (log ++ Derived ng hints ∷ []) ≡ no_goods log ++ ng ∷ [] = map_push no_good_of log (Derived ng hints) in
    let P : List (List Choice) → Type 0 = λ x. Adds n (no_goods log) x in
    let Q : List (List Choice) → Type 0 = λ x. All (NamesBelow n) x in
    let R : List Step → Type 0 = λ x. Grown n log x in
    subst R (sym is) record {
      grows = record { added = Derived ng hints ∷ []; joined = refl; derived = All-cons (IsDerivedBelow n) (Derived ng hints) [] below (All-nil (IsDerivedBelow n)) };
      adds = subst P (sym joined) (adds_one n (no_goods log) ng hints named closed);
      named = subst Q (sym joined) (All-push (NamesBelow n) (no_goods log) ng named below);
    }

pub grown_result : {T E : Type 0} (n : ℕ) (log new : List Step) (ng : List Choice) (hints : List ℕ) (r : Result T E) → All (NamesBelow n) (no_goods log) → NamesBelow n ng → closes (no_goods log) ng hints ≡ true → OnOk r (new ≡ log ++ Derived ng hints ∷ []) → OnErr r (new ≡ log) → Grown n log new
grown_result n log new ng hints (Ok u) named below closed ok err = grown_one n log new ng hints named below closed ok
grown_result n log new ng hints (Err e) named below closed ok err = grown_same n log new named err
