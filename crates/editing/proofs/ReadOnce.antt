-- What is read of a deck and the script behind it is determined by the bytes.
use Rattle.std.proofs.Common.{ℕ, ◌≡◌, ◌∙◌, ap, subst, List}
use Rattle.std.specs.Prelude.{Result, Ok, Err}
use Rattle.lpcc_case.specs.Instance.{Instance}
use Rattle.command.specs.Inputs.{IsRefusal, IsTaken, SpellsCase}
use Rattle.command.specs.declared.extent.Extent.{Extent}
use Rattle.command.specs.declared.extent.Extent.TheVariants.{Prefix}
use Rattle.command.specs.declared.refusal.Refusal as refusals
use Rattle.edit_text.specs.Texts.{Fails, Spells}
use Rattle.edit_text.specs.declared.fault.ScriptWhy.{ScriptWhy}
use Rattle.edit_text.specs.declared.script.Script as scripts
use Rattle.editing.specs.declared.refusal.EditRefusal.{EditRefusal}
use Rattle.editing.specs.declared.refusal.EditRefusal.TheVariants.{Input, Script}
use Rattle.editing.specs.declared.refusal.EditWhy.{EditWhy}
use Rattle.editing.specs.declared.refusal.EditWhy.TheVariants.{Text, NoSuch, Loosens, Limit}
use Rattle.editing.specs.Inputs.{Edits, IsEditRefusal, IsNoScript, IsRead, SpellsEdits}

-- what the crates below promise of inputs and scripts
pub record Laws : Type 0 where
  pub one_case : (e : Extent) (bytes : List ℕ) (a b : Instance) (rest other : List ℕ) → SpellsCase e bytes a rest → SpellsCase e bytes b other → (a ≡ b) × (rest ≡ other)
  pub case_or_refusal : (limit : ℕ) (e : Extent) (bytes : List ℕ) (a : Instance) (rest : List ℕ) (r : refusals.Refusal) → IsTaken limit bytes → SpellsCase e bytes a rest → IsRefusal limit e bytes r → ⊥
  pub one_refusal : (limit : ℕ) (e : Extent) (bytes : List ℕ) (r s : refusals.Refusal) → IsRefusal limit e bytes r → IsRefusal limit e bytes s → r ≡ s
  pub one_script : (text : List ℕ) (one other : scripts.Script) → Spells text one → Spells text other → one ≡ other
  pub one_fault : (text : List ℕ) (m n : ℕ) (v w : ScriptWhy) → Fails text m v → Fails text n w → (m ≡ n) × (v ≡ w)
  pub script_or_fault : (text : List ℕ) (script : scripts.Script) (line : ℕ) (why : ScriptWhy) → Spells text script → Fails text line why → ⊥

-- ---- behind a deck

no_script_once : Laws → (text : List ℕ) (m n : ℕ) (v w : EditWhy) → IsNoScript text m v → IsNoScript text n w → (m ≡ n) × (v ≡ w)
no_script_once l text m n (Text v) (Text w) h k = let e = l.one_fault text m n v w h k in (e.0, ap (λ (x : ScriptWhy). Text x) e.1)
no_script_once l text m n (Text v) NoSuch h k = absurd k
no_script_once l text m n (Text v) Loosens h k = absurd k
no_script_once l text m n (Text v) Limit h k = absurd k
no_script_once l text m n NoSuch w h k = absurd h
no_script_once l text m n Loosens w h k = absurd h
no_script_once l text m n Limit w h k = absurd h

script_or_none : Laws → (text : List ℕ) (script : scripts.Script) (line : ℕ) (why : EditWhy) → Spells text script → IsNoScript text line why → ⊥
script_or_none l text script line (Text why) h k = l.script_or_fault text script line why h k
script_or_none l text script line NoSuch h k = k
script_or_none l text script line Loosens h k = k
script_or_none l text script line Limit h k = k

-- ---- in the bytes

refused_once : Laws → (limit : ℕ) (bytes : List ℕ) (r s : EditRefusal) → IsEditRefusal limit bytes r → IsEditRefusal limit bytes s → r ≡ s
refused_once l limit bytes (Input r) (Input s) h k = ap (λ (x : refusals.Refusal). Input x) (l.one_refusal limit Prefix bytes r s h k)
refused_once l limit bytes (Input r) (Script line why) h k = absurd (l.case_or_refusal limit Prefix bytes k.1 k.2 r k.0 k.3 h)
refused_once l limit bytes (Script line why) (Input s) h k = absurd (l.case_or_refusal limit Prefix bytes h.1 h.2 s h.0 h.3 k)
refused_once l limit bytes (Script m v) (Script n w) h k =
    let same = l.one_case Prefix bytes h.1 k.1 h.2 k.2 h.3 k.3 in
    let e = no_script_once l k.2 m n v w (subst (λ (rest : List ℕ). IsNoScript rest m v) same.1 h.4) k.4 in
    ap (λ (line : ℕ). Script line v) e.0 ∙ ap (λ (why : EditWhy). Script n why) e.1

never_both : Laws → (limit : ℕ) (bytes : List ℕ) (x : Edits) (r : EditRefusal) → IsTaken limit bytes → SpellsEdits bytes x.0 x.1 → IsEditRefusal limit bytes r → ⊥
never_both l limit bytes x (Input r) taken h k = l.case_or_refusal limit Prefix bytes x.0 h.rest r taken h.deck k
never_both l limit bytes x (Script line why) taken h k =
    let same = l.one_case Prefix bytes x.0 k.1 h.rest k.2 h.deck k.3 in
    script_or_none l k.2 x.1 line why (subst (λ (rest : List ℕ). Spells rest x.1) same.1 h.edits) k.4

same_edits : (x y : Edits) → x.0 ≡ y.0 → x.1 ≡ y.1 → x ≡ y
same_edits x y e f = λ i. (e i, f i)

pub read_once : Laws → (limit : ℕ) (bytes : List ℕ) (x y : Result Edits EditRefusal) → IsRead limit bytes x → IsRead limit bytes y → x ≡ y
read_once l limit bytes (Ok x) (Ok y) h k =
    let same = l.one_case Prefix bytes x.0 y.0 h.1.rest k.1.rest h.1.deck k.1.deck in
    ap Ok (same_edits x y same.0 (l.one_script k.1.rest x.1 y.1 (subst (λ (rest : List ℕ). Spells rest x.1) same.1 h.1.edits) k.1.edits))
read_once l limit bytes (Ok x) (Err r) h k = absurd (never_both l limit bytes x r h.0 h.1 k)
read_once l limit bytes (Err r) (Ok y) h k = absurd (never_both l limit bytes y r k.0 k.1 h)
read_once l limit bytes (Err r) (Err s) h k = ap Err (refused_once l limit bytes r s h k)
