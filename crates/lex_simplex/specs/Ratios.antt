-- The ratio test of the code: of the rows whose form reaches 0 the one that reaches it first.
use Rattle.std.specs.Prelude.{◌≡◌, ◌≢◌, ◌<◌, ◌≤◌, ◌↔◌, ℕ, suc, ℤ, pos, ◌*ℤ◌, ◌-ℤ◌, ◌<ℤ◌, unsigned_abs, int_lt, Bool, false, List, length, IsTrue, Option, Some, None}
use Rattle.lp_base.specs.Numbers.{IsNarrow}
use Rattle.nogoods.specs.declared.choice.Choice.{Choice}
use Rattle.lpcc_case.specs.Instance.{Instance}
use Rattle.lpcc_case.specs.declared.form.Form.TheVariants.{Con}
use Rattle.dict.specs.Dictionaries.{Dictionary, form_at, entry_at, row_at}
use Rattle.walks.specs.Values.{is_fixed}
use Rattle.walks.specs.Steps.{Blocks, IsSooner, distance, rate}
use Rattle.lex_simplex.specs.Firsts.{place_at}
use Rattle.lex_simplex.specs.declared.leave.Candidate.{Candidate}
use Rattle.lex_simplex.specs.declared.tie.Earliest.{Earliest}

-- part p of how much later the form of row l reaches 0 than that of row i
abbrev pub lead : Instance → List Choice → Dictionary → ℕ → Bool → ℕ → ℕ → ℕ → ℤ
lead a tight d col down i l p = (pos (unsigned_abs (entry_at d i col)) *ℤ distance a tight d col down l p) -ℤ (pos (unsigned_abs (entry_at d l col)) *ℤ distance a tight d col down i p)

-- of the rows below i whose form reaches 0, the one that reaches it first, or none
abbrev pub SoonestUpto : Instance → List Choice → ℕ → Dictionary → ℕ → ℕ → Bool → ℕ → Option ℕ → Type 0
SoonestUpto a tight stage d goal_row col down i None = (k : ℕ) → k < i → Blocks a tight stage d goal_row col down k → ⊥
SoonestUpto a tight stage d goal_row col down i (Some b) = (b < i) × Blocks a tight stage d goal_row col down b × ((k : ℕ) → k < i → Blocks a tight stage d goal_row col down k → IsSooner a tight d col down k b → ⊥)

-- a row whose form reaches 0, with the numbers by which it is compared
pub record IsCandidate (a : Instance) (tight : List Choice) (stage : ℕ) (d : Dictionary) (goal_row col : ℕ) (down : Bool) (c : Candidate) : Type 0 where
  pub within : c.row < length d.rows
  pub blocks : Blocks a tight stage d goal_row col down c.row
  pub size : c.size ≡ pos (unsigned_abs (entry_at d c.row col))
  pub far : c.far ≡ distance a tight d col down c.row 0
  pub rises : c.rises ≡ int_lt (pos 0) (rate d col down c.row)
  pub narrow_size : IsNarrow c.size
  pub narrow_far : IsNarrow c.far

abbrev pub best_row : Option Candidate → Option ℕ
best_row None = None
best_row (Some c) = Some c.row

abbrev pub AreCandidates : Instance → List Choice → ℕ → Dictionary → ℕ → ℕ → Bool → Option Candidate → Type 0
AreCandidates a tight stage d goal_row col down None = Rattle.std.specs.Prelude.⊤
AreCandidates a tight stage d goal_row col down (Some c) = IsCandidate a tight stage d goal_row col down c

-- ---- ties of the constants

-- a constraint, none after those of the two rows, whose eps decides between them unless one before it does
pub record IsEarliest (a : Instance) (tight : List Choice) (d : Dictionary) (col : ℕ) (down : Bool) (i l : ℕ) (e : Earliest) : Type 0 where
  pub within : e.constraint < length a.constraints
  pub some : lead a tight d col down i l (suc e.constraint) ≢ pos 0
  pub sign : IsTrue e.sooner ↔ (pos 0 <ℤ lead a tight d col down i l (suc e.constraint))
  pub own : (k : ℕ) → form_at d.basic i ≡ Con k → e.constraint ≤ k
  pub other : (k : ℕ) → form_at d.basic l ≡ Con k → e.constraint ≤ k

-- the constraint at this place does not decide before e
abbrev pub IsSeen : Instance → List Choice → Dictionary → ℕ → Bool → ℕ → ℕ → Earliest → ℕ → Type 0
IsSeen a tight d col down i l e place = (k : ℕ) → form_at d.nonbasic place ≡ Con k → is_fixed a tight k ≡ false → k < e.constraint → lead a tight d col down i l (suc k) ≡ pos 0

-- nor do those of the first n terms of this row
abbrev pub AreSeen : Instance → List Choice → Dictionary → ℕ → Bool → ℕ → ℕ → Earliest → ℕ → ℕ → Type 0
AreSeen a tight d col down i l e row n = (x : ℕ) → x < n → IsSeen a tight d col down i l e (place_at (row_at d.rows row).entries x)
