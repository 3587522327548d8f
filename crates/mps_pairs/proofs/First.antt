-- The first fields of a line tell what it says, unless it is one of GROUPS.
use Rattle.std.proofs.Common.{ℕ, ◌≡◌, Bool, true, false, List, [], ◌∷◌, Option, Some, None, Result, refl, ap, subst, ◌∙◌}
use Rattle.std.specs.Prelude.{OnOk}
use Rattle.mps_lex.specs.Kinds.{Name}
use Rattle.mps_lex.specs.First.{first_of}
use Rattle.mps_lex.specs.declared.line.Section.{Section}
use Rattle.mps_lex.specs.declared.line.Section.TheVariants as section
use Rattle.decks.specs.declared.fault.DeckWhy.{DeckWhy}
use Rattle.decks.specs.Sections.{Open, is_open}
use Rattle.decks.specs.Senses.{sense_on_head}
use Rattle.decks.specs.declared.bounds.BoundKind.{BoundKind}
use Rattle.decks.specs.Bounds.{Setting, bound_kind, takes_value, bound_words, setting_with, setting_of_kind, set_in, set_with}
use Rattle.decks.specs.Faults.{head_words_fault, bound_words_fault, bound_kind_fault}
use Rattle.mps_tables.specs.Known.{set_or, with_settings}
use Rattle.mps_tables.specs.declared.fault.Fault.{Fault}
use Rattle.mps_tables.specs.Answers.{Judges}
use Rattle.mps_pairs.specs.Known.{Known, known_fault, with_data}

-- what is one for all lists of six and more with the same front
stable : {X : Type 0} (f : List Name → X) → ((a b c d e g : Name) (fs : List Name) → f (a ∷ b ∷ c ∷ d ∷ e ∷ g ∷ []) ≡ f (a ∷ b ∷ c ∷ d ∷ e ∷ g ∷ fs)) → (fs : List Name) → f (first_of fs) ≡ f fs
stable f h [] = refl
stable f h (a ∷ []) = refl
stable f h (a ∷ b ∷ []) = refl
stable f h (a ∷ b ∷ c ∷ []) = refl
stable f h (a ∷ b ∷ c ∷ d ∷ []) = refl
stable f h (a ∷ b ∷ c ∷ d ∷ e ∷ []) = refl
stable f h (a ∷ b ∷ c ∷ d ∷ e ∷ g ∷ fs) = h a b c d e g fs

pub head_same : (t : Section) (fs : List Name) → head_words_fault t (first_of fs) ≡ head_words_fault t fs
head_same section.Name fs = refl
head_same section.ObjSense fs = stable (head_words_fault section.ObjSense) (λ a b c d e g gs. refl) fs
head_same section.Rows fs = refl
head_same section.Columns fs = refl
head_same section.Rhs fs = refl
head_same section.Ranges fs = refl
head_same section.Bounds fs = refl
head_same section.Pairs fs = refl
head_same section.Groups fs = refl
head_same section.Endata fs = refl

pub sense_same : (t : Section) (fs : List Name) → sense_on_head t (first_of fs) ≡ sense_on_head t fs
sense_same section.Name fs = refl
sense_same section.ObjSense fs = stable (sense_on_head section.ObjSense) (λ a b c d e g gs. refl) fs
sense_same section.Rows fs = refl
sense_same section.Columns fs = refl
sense_same section.Rhs fs = refl
sense_same section.Ranges fs = refl
sense_same section.Bounds fs = refl
sense_same section.Pairs fs = refl
sense_same section.Groups fs = refl
sense_same section.Endata fs = refl

-- no line of BOUNDS has six fields
words_same : (t : Bool) (b c d e g : Name) (gs : List Name) → bound_words t (b ∷ c ∷ d ∷ e ∷ g ∷ []) ≡ bound_words t (b ∷ c ∷ d ∷ e ∷ g ∷ gs)
words_same true b c d e g gs = refl
words_same false b c d e g gs = refl

bound_same : (columns : List Name) (set : Option Name) (a : Name) (o : Option BoundKind) (b c d e g : Name) (gs : List Name)
    → bound_kind_fault columns set a o (b ∷ c ∷ d ∷ e ∷ g ∷ []) ≡ bound_kind_fault columns set a o (b ∷ c ∷ d ∷ e ∷ g ∷ gs)
bound_same columns set a None b c d e g gs = refl
bound_same columns set a (Some k) b c d e g gs = ap (bound_words_fault columns set (takes_value k)) (words_same (takes_value k) b c d e g gs)

set_same : (o : Option BoundKind) (b c d e g : Name) (gs : List Name) → set_with o (b ∷ c ∷ d ∷ e ∷ g ∷ []) ≡ set_with o (b ∷ c ∷ d ∷ e ∷ g ∷ gs)
set_same None b c d e g gs = refl
set_same (Some k) b c d e g gs = ap set_in (words_same (takes_value k) b c d e g gs)

setting_same : (o : Option BoundKind) (n : ℕ) (b c d e g : Name) (gs : List Name) → setting_of_kind o n (b ∷ c ∷ d ∷ e ∷ g ∷ []) ≡ setting_of_kind o n (b ∷ c ∷ d ∷ e ∷ g ∷ gs)
setting_same None n b c d e g gs = refl
setting_same (Some k) n b c d e g gs = ap (setting_with k n) (words_same (takes_value k) b c d e g gs)

-- the tables behind a line of BOUNDS that names this set and says this
abbrev behind : Known → Name → List Setting → Known
behind k set settings = record k { bounds = record { set = set_or k.bounds.set set; columns = with_settings k.bounds.columns settings } }

pub fault_first : (s : Open) (k : Known) (fs : List Name) → is_open section.Groups s ≡ false → known_fault s k (first_of fs) ≡ known_fault s k fs
fault_first None k fs h = refl
fault_first (Some section.Name) k fs h = refl
fault_first (Some section.ObjSense) k fs h = stable (known_fault (Some section.ObjSense) k) (λ a b c d e g gs. refl) fs
fault_first (Some section.Rows) k fs h = stable (known_fault (Some section.Rows) k) (λ a b c d e g gs. refl) fs
fault_first (Some section.Columns) k fs h = stable (known_fault (Some section.Columns) k) (λ a b c d e g gs. refl) fs
fault_first (Some section.Rhs) k fs h = stable (known_fault (Some section.Rhs) k) (λ a b c d e g gs. refl) fs
fault_first (Some section.Ranges) k fs h = stable (known_fault (Some section.Ranges) k) (λ a b c d e g gs. refl) fs
fault_first (Some section.Bounds) k fs h = stable (known_fault (Some section.Bounds) k) (λ a b c d e g gs. bound_same k.columns.names k.bounds.set a (bound_kind a) b c d e g gs) fs
fault_first (Some section.Pairs) k fs h = stable (known_fault (Some section.Pairs) k) (λ a b c d e g gs. refl) fs
fault_first (Some section.Groups) k fs h = absurd cc
fault_first (Some section.Endata) k fs h = refl

pub data_first : (s : Open) (k : Known) (n : ℕ) (fs : List Name) → is_open section.Groups s ≡ false → with_data s k n (first_of fs) ≡ with_data s k n fs
data_first None k n fs h = refl
data_first (Some section.Name) k n fs h = refl
data_first (Some section.ObjSense) k n fs h = stable (with_data (Some section.ObjSense) k n) (λ a b c d e g gs. refl) fs
data_first (Some section.Rows) k n fs h = stable (with_data (Some section.Rows) k n) (λ a b c d e g gs. refl) fs
data_first (Some section.Columns) k n fs h = stable (with_data (Some section.Columns) k n) (λ a b c d e g gs. refl) fs
data_first (Some section.Rhs) k n fs h = stable (with_data (Some section.Rhs) k n) (λ a b c d e g gs. refl) fs
data_first (Some section.Ranges) k n fs h = stable (with_data (Some section.Ranges) k n) (λ a b c d e g gs. refl) fs
data_first (Some section.Bounds) k n fs h = stable (with_data (Some section.Bounds) k n) (λ a b c d e g gs. λ i. behind k (set_same (bound_kind a) b c d e g gs i) (setting_same (bound_kind a) n b c d e g gs i)) fs
data_first (Some section.Pairs) k n fs h = stable (with_data (Some section.Pairs) k n) (λ a b c d e g gs. refl) fs
data_first (Some section.Groups) k n fs h = absurd cc
data_first (Some section.Endata) k n fs h = refl

-- what a call says of the fields that are held, it says of all
pub fault_held : {X : Type 0} (r : Result X Fault) (s : Open) (k : Known) (held fs : List Name) → is_open section.Groups s ≡ false → held ≡ first_of fs → Judges r (known_fault s k held) → Judges r (known_fault s k fs)
fault_held r s k held fs e h j = subst (λ (o : Option DeckWhy). Judges r o) (ap (known_fault s k) h ∙ fault_first s k fs e) j

pub data_held : {X : Type 0} (r : Result X Fault) (new : Known) (s : Open) (k : Known) (n : ℕ) (held fs : List Name) → is_open section.Groups s ≡ false → held ≡ first_of fs → OnOk r (new ≡ with_data s k n held)
    → OnOk r (new ≡ with_data s k n fs)
data_held r new s k n held fs e h j = subst (λ (x : Known). OnOk r (new ≡ x)) (ap (with_data s k n) h ∙ data_first s k n fs e) j
