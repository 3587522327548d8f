-- The forms of lines: what is read is spelled so, and what is spelled is read.
use Rattle.std.proofs.Common.{◌≡◌, ℕ, true, false, cond, List, [], ◌∷◌, Ok, Err, refl, sym, ap, subst, ◌∙◌, inl, inr, ℤ}
use Rattle.std.specs.Prelude.{All, bytes_eq, codes, flat_map}
use Rattle.std.specs.Fmt.{signed_decimal}
use Rattle.std.proofs.lemmas.List.Elements.{All-nil, All-cons, All-head, All-tail}
use Rattle.std.proofs.lemmas.Slice.Eq.{bytes_eq-Decides}
use Rattle.cert_text.specs.declared.fault.CertWhy.TheVariants.{BadLine}
use Rattle.cert_text.specs.Spelling.{Word, colon, line_bytes}
use Rattle.cert_text.specs.Splits.{split}
use Rattle.cert_text.specs.Reading.{ended, first_at}
use Rattle.cert_text.proofs.Forms.{after_again, after_takes, first_takes}
use Rattle.cert_text.proofs.Joined.{words_joined}
use Rattle.cert_text.proofs.Numbers.{IsPlain, factor_again, factor_takes, plain_signed}
use Rattle.cert_text.proofs.Plain.{ArePlain, plain_by_test, plain_colon}
use Rattle.cert_text.proofs.Results.{bind_ok, either, same_ok}
use Rattle.cert_text.proofs.Stepping.{line_of_words}
use Rattle.edit_text.specs.declared.script.Command.{Command}
use Rattle.edit_text.specs.declared.script.Command.TheVariants.{Add, Tighten, Cost, Solve}
use Rattle.edit_text.specs.declared.script.Relation.{Relation}
use Rattle.edit_text.specs.declared.script.Relation.TheVariants.{Ge, Le, Eq}
use Rattle.edit_text.specs.Scripts.{IsCommand, IsTerm, Terms}
use Rattle.edit_text.specs.Spelling.{command_words, end_words, relation_word, term_words}
use Rattle.edit_text.specs.Reading.{◌>>=◌, Reading, add_at, after, command_at, command_in, cost_at, factor_at, kind_at, narrow_at, relation_at, solve_at, terms_at, tighten_at}
use Rattle.edit_text.specs.Texts.{end_line}
use Rattle.edit_text.proofs.Narrow.{narrow_again, narrow_takes}

-- ---- words

ended_takes : (ws rest : List Word) → ended ws ≡ Ok rest → ws ≡ []
unfolding ended
ended_takes [] rest e = refl
ended_takes (w ∷ ws) rest e = absurd cc

relation_is : (relation other : Relation) (w : Word) → bytes_eq w (relation_word relation) ≡ true → relation ≡ other → w ≡ relation_word other
relation_is relation other w t e = (bytes_eq-Decides w (relation_word relation)).0 t ∙ ap relation_word e

relation_takes : (w : Word) (relation : Relation) → relation_at w ≡ Ok relation → w ≡ relation_word relation
unfolding relation_at
relation_takes w r e = elim (either (bytes_eq w (codes "G")) (Ok Ge) (cond (bytes_eq w (codes "L")) (Ok Le) (cond (bytes_eq w (codes "E")) (Ok Eq) (Err BadLine))) (Ok r) e) [
  | inl ge ↦ relation_is Ge r w ge.0 (same_ok Ge r ge.1)
  | inr other ↦ elim (either (bytes_eq w (codes "L")) (Ok Le) (cond (bytes_eq w (codes "E")) (Ok Eq) (Err BadLine)) (Ok r) other.1) [
    | inl le ↦ relation_is Le r w le.0 (same_ok Le r le.1)
    | inr last ↦ elim (either (bytes_eq w (codes "E")) (Ok Eq) (Err BadLine) (Ok r) last.1) [
      | inl eq ↦ relation_is Eq r w eq.0 (same_ok Eq r eq.1)
      | inr none ↦ absurd (no_relation r none.1)
    ]
  ]
]
  where
    read : Relation → Reading Relation
    read r = Ok r

    no_relation : (r : Relation) → Err BadLine ≡ read r → ⊥
    no_relation r e = absurd cc

relation_again : (relation : Relation) → relation_at (relation_word relation) ≡ Ok relation
unfolding relation_at
relation_again Ge = refl
relation_again Le = refl
relation_again Eq = refl

-- ---- terms

abbrev TermsAre : List Word → Terms → Type 0
TermsAre ws ts = (ws ≡ flat_map term_words ts) × All IsTerm ts

terms_take : (ws : List Word) (ts : Terms) → terms_at ws ≡ Ok ts → TermsAre ws ts
unfolding terms_at
terms_take [] ts e = subst (TermsAre []) {x = []} (same_ok [] ts e) (refl, All-nil IsTerm)
terms_take (number ∷ []) ts e = absurd (refused (narrow_at number) ts e)
  where
    refused : (r : Reading ℤ) (ts : Terms) → (r >>= λ n. Err BadLine) ≡ Ok ts → ⊥
    refused (Ok n) ts e = absurd cc
    refused (Err why) ts e = absurd cc
terms_take (number ∷ word ∷ ws) ts e =
    let n = bind_ok (narrow_at number) (λ n. factor_at word >>= λ z. terms_at ws >>= λ terms. Ok ((n, z) ∷ terms)) ts e in
    let z = bind_ok (factor_at word) (λ z. terms_at ws >>= λ terms. Ok ((n.0, z) ∷ terms)) ts n.2 in
    let us = bind_ok (terms_at ws) (λ terms. Ok ((n.0, z.0) ∷ terms)) ts z.2 in
    let t : ℤ × ℤ = (n.0, z.0) in
    let k = narrow_takes number n.0 n.1 in
    let y = factor_takes word z.0 z.1 in
    let more = terms_take ws us.0 us.1 in
    subst (TermsAre (number ∷ word ∷ ws)) {x = t ∷ us.0} (same_ok (t ∷ us.0) ts us.2) (
      ap (λ (v : Word). v ∷ word ∷ ws) (sym k.0) ∙ ap (λ (v : Word). signed_decimal n.0 ∷ v ∷ ws) (sym y.0) ∙ ap (λ (vs : List Word). signed_decimal n.0 ∷ signed_decimal z.0 ∷ vs) more.0,
      All-cons IsTerm t us.0 (k.1, y.1, y.2) more.1,
    )

terms_again : (ts : Terms) → All IsTerm ts → terms_at (flat_map term_words ts) ≡ Ok ts
unfolding terms_at
terms_again [] h = refl
terms_again (t ∷ ts) h =
    let here = All-head IsTerm t ts h in
    let rest = flat_map term_words ts in
    ap (λ (r : Reading ℤ). r >>= λ n. factor_at (signed_decimal t.1) >>= λ z. terms_at rest >>= λ terms. Ok ((n, z) ∷ terms)) (narrow_again t.0 here.0)
    ∙ ap (λ (r : Reading ℤ). r >>= λ z. terms_at rest >>= λ terms. Ok ((t.0, z) ∷ terms)) (factor_again t.1 here.1 here.2)
    ∙ ap (λ (r : Reading Terms). r >>= λ terms. Ok (t ∷ terms)) (terms_again ts (All-tail IsTerm t ts h))

-- ---- commands

abbrev Spelled : Word → List Word → Command → Type 0
Spelled kind ws x = (kind ∷ ws ≡ command_words x) × IsCommand x

add_takes : (ws : List Word) (x : Command) → add_at ws ≡ Ok x → Spelled (codes "add") ws x
unfolding add_at
add_takes ws x e =
    let a = bind_ok (first_at ws) (λ first. relation_at first.0 >>= λ relation. first_at first.1 >>= λ second. narrow_at second.0 >>= λ rhs. after colon second.1 >>= λ rest. terms_at rest >>= λ terms. Ok (Add relation rhs terms)) x e in
    let r = bind_ok (relation_at a.0.0) (λ relation. first_at a.0.1 >>= λ second. narrow_at second.0 >>= λ rhs. after colon second.1 >>= λ rest. terms_at rest >>= λ terms. Ok (Add relation rhs terms)) x a.2 in
    let s = bind_ok (first_at a.0.1) (λ second. narrow_at second.0 >>= λ rhs. after colon second.1 >>= λ rest. terms_at rest >>= λ terms. Ok (Add r.0 rhs terms)) x r.2 in
    let n = bind_ok (narrow_at s.0.0) (λ rhs. after colon s.0.1 >>= λ rest. terms_at rest >>= λ terms. Ok (Add r.0 rhs terms)) x s.2 in
    let c = bind_ok (after colon s.0.1) (λ rest. terms_at rest >>= λ terms. Ok (Add r.0 n.0 terms)) x n.2 in
    let t = bind_ok (terms_at c.0) (λ terms. Ok (Add r.0 n.0 terms)) x c.2 in
    let k = narrow_takes s.0.0 n.0 n.1 in
    let ts = terms_take c.0 t.0 t.1 in
    let words : ws ≡ relation_word r.0 ∷ signed_decimal n.0 ∷ colon ∷ flat_map term_words t.0 =
    first_takes ws a.0 a.1 ∙ ap (λ (v : Word). v ∷ a.0.1) (relation_takes a.0.0 r.0 r.1)
    ∙ ap (λ (v : List Word). relation_word r.0 ∷ v)
    (first_takes a.0.1 s.0 s.1 ∙ ap (λ (v : Word). v ∷ s.0.1) (sym k.0)
    ∙ ap (λ (v : List Word). signed_decimal n.0 ∷ v) (after_takes colon s.0.1 c.0 c.1 ∙ ap (λ (v : List Word). colon ∷ v) ts.0)) in
    subst (Spelled (codes "add") ws) {x = Add r.0 n.0 t.0} (same_ok (Add r.0 n.0 t.0) x t.2) (ap (λ (v : List Word). codes "add" ∷ v) words, (k.1, ts.1))

tighten_takes : (ws : List Word) (x : Command) → tighten_at ws ≡ Ok x → Spelled (codes "tighten") ws x
unfolding tighten_at
tighten_takes ws x e =
    let a = bind_ok (first_at ws) (λ first. narrow_at first.0 >>= λ con. first_at first.1 >>= λ second. narrow_at second.0 >>= λ rhs. ended second.1 >>= λ _. Ok (Tighten con rhs)) x e in
    let k = bind_ok (narrow_at a.0.0) (λ con. first_at a.0.1 >>= λ second. narrow_at second.0 >>= λ rhs. ended second.1 >>= λ _. Ok (Tighten con rhs)) x a.2 in
    let s = bind_ok (first_at a.0.1) (λ second. narrow_at second.0 >>= λ rhs. ended second.1 >>= λ _. Ok (Tighten k.0 rhs)) x k.2 in
    let n = bind_ok (narrow_at s.0.0) (λ rhs. ended s.0.1 >>= λ _. Ok (Tighten k.0 rhs)) x s.2 in
    let z = bind_ok (ended s.0.1) (λ _. Ok (Tighten k.0 n.0)) x n.2 in
    let con = narrow_takes a.0.0 k.0 k.1 in
    let rhs = narrow_takes s.0.0 n.0 n.1 in
    let words : ws ≡ signed_decimal k.0 ∷ signed_decimal n.0 ∷ [] =
    first_takes ws a.0 a.1 ∙ ap (λ (v : Word). v ∷ a.0.1) (sym con.0)
    ∙ ap (λ (v : List Word). signed_decimal k.0 ∷ v)
    (first_takes a.0.1 s.0 s.1 ∙ ap (λ (v : Word). v ∷ s.0.1) (sym rhs.0) ∙ ap (λ (v : List Word). signed_decimal n.0 ∷ v) (ended_takes s.0.1 z.0 z.1)) in
    subst (Spelled (codes "tighten") ws) {x = Tighten k.0 n.0} (same_ok (Tighten k.0 n.0) x z.2) (ap (λ (v : List Word). codes "tighten" ∷ v) words, (con.1, rhs.1))

cost_takes : (ws : List Word) (x : Command) → cost_at ws ≡ Ok x → Spelled (codes "cost") ws x
unfolding cost_at
cost_takes ws x e =
    let c = bind_ok (after colon ws) (λ rest. terms_at rest >>= λ terms. Ok (Cost terms)) x e in
    let t = bind_ok (terms_at c.0) (λ terms. Ok (Cost terms)) x c.2 in
    let ts = terms_take c.0 t.0 t.1 in
    subst (Spelled (codes "cost") ws) {x = Cost t.0} (same_ok (Cost t.0) x t.2)
    (ap (λ (v : List Word). codes "cost" ∷ v) (after_takes colon ws c.0 c.1 ∙ ap (λ (v : List Word). colon ∷ v) ts.0), ts.1)

solve_takes : (ws : List Word) (x : Command) → solve_at ws ≡ Ok x → Spelled (codes "solve") ws x
unfolding solve_at
solve_takes ws x e =
    let z = bind_ok (ended ws) (λ _. Ok Solve) x e in
    subst (Spelled (codes "solve") ws) {x = Solve} (same_ok Solve x z.2) (ap (λ (v : List Word). codes "solve" ∷ v) (ended_takes ws z.0 z.1), tt)

of_kind : (kind word : Word) (ws : List Word) (x : Command) → bytes_eq kind word ≡ true → Spelled word ws x → Spelled kind ws x
of_kind kind word ws x t h = (ap (λ (v : Word). v ∷ ws) ((bytes_eq-Decides kind word).0 t) ∙ h.0, h.1)

kind_takes : (kind : Word) (ws : List Word) (x : Command) → kind_at kind ws ≡ Ok x → Spelled kind ws x
unfolding kind_at
kind_takes kind ws x e =
    elim (either (bytes_eq kind (codes "add")) (add_at ws) (cond (bytes_eq kind (codes "tighten")) (tighten_at ws) (cond (bytes_eq kind (codes "cost")) (cost_at ws) (cond (bytes_eq kind (codes "solve")) (solve_at ws) (Err BadLine)))) (Ok x) e) [
      | inl add ↦ of_kind kind (codes "add") ws x add.0 (add_takes ws x add.1)
      | inr no_add ↦ elim (either (bytes_eq kind (codes "tighten")) (tighten_at ws) (cond (bytes_eq kind (codes "cost")) (cost_at ws) (cond (bytes_eq kind (codes "solve")) (solve_at ws) (Err BadLine))) (Ok x) no_add.1) [
        | inl tighten ↦ of_kind kind (codes "tighten") ws x tighten.0 (tighten_takes ws x tighten.1)
        | inr no_tighten ↦ elim (either (bytes_eq kind (codes "cost")) (cost_at ws) (cond (bytes_eq kind (codes "solve")) (solve_at ws) (Err BadLine)) (Ok x) no_tighten.1) [
          | inl cost ↦ of_kind kind (codes "cost") ws x cost.0 (cost_takes ws x cost.1)
          | inr no_cost ↦ elim (either (bytes_eq kind (codes "solve")) (solve_at ws) (Err BadLine) (Ok x) no_cost.1) [
            | inl solve ↦ of_kind kind (codes "solve") ws x solve.0 (solve_takes ws x solve.1)
            | inr none ↦ absurd (no_command x none.1)
          ]
        ]
      ]
    ]
  where
    read : Command → Reading Command
    read x = Ok x

    no_command : (x : Command) → Err BadLine ≡ read x → ⊥
    no_command x e = absurd cc

command_takes : (ws : List Word) (x : Command) → command_at ws ≡ Ok x → (ws ≡ command_words x) × IsCommand x
unfolding command_at
command_takes ws x e =
    let a = bind_ok (first_at ws) (λ first. kind_at first.0 first.1) x e in
    let t = kind_takes a.0.0 a.0.1 x a.2 in
    (first_takes ws a.0 a.1 ∙ t.0, t.1)

add_again : (relation : Relation) (rhs : ℤ) (ts : Terms) → IsCommand (Add relation rhs ts) → add_at (relation_word relation ∷ signed_decimal rhs ∷ colon ∷ flat_map term_words ts) ≡ Ok (Add relation rhs ts)
unfolding add_at first_at
add_again relation rhs ts h =
    let rest = flat_map term_words ts in
    ap (λ (r : Reading Relation). r >>= λ k. narrow_at (signed_decimal rhs) >>= λ z. after colon (colon ∷ rest) >>= λ behind. terms_at behind >>= λ us. Ok (Add k z us)) (relation_again relation)
    ∙ ap (λ (r : Reading ℤ). r >>= λ z. after colon (colon ∷ rest) >>= λ behind. terms_at behind >>= λ us. Ok (Add relation z us)) (narrow_again rhs h.0)
    ∙ ap (λ (r : Reading (List Word)). r >>= λ behind. terms_at behind >>= λ us. Ok (Add relation rhs us)) (after_again colon rest)
    ∙ ap (λ (r : Reading Terms). r >>= λ us. Ok (Add relation rhs us)) (terms_again ts h.1)

tighten_again : (con rhs : ℤ) → IsCommand (Tighten con rhs) → tighten_at (signed_decimal con ∷ signed_decimal rhs ∷ []) ≡ Ok (Tighten con rhs)
unfolding tighten_at first_at ended
tighten_again con rhs h =
    ap (λ (r : Reading ℤ). r >>= λ k. narrow_at (signed_decimal rhs) >>= λ z. ended [] >>= λ _. Ok (Tighten k z)) (narrow_again con h.0)
    ∙ ap (λ (r : Reading ℤ). r >>= λ z. ended [] >>= λ _. Ok (Tighten con z)) (narrow_again rhs h.1)

cost_again : (ts : Terms) → IsCommand (Cost ts) → cost_at (colon ∷ flat_map term_words ts) ≡ Ok (Cost ts)
unfolding cost_at
cost_again ts h =
    ap (λ (r : Reading (List Word)). r >>= λ behind. terms_at behind >>= λ us. Ok (Cost us)) (after_again colon (flat_map term_words ts))
    ∙ ap (λ (r : Reading Terms). r >>= λ us. Ok (Cost us)) (terms_again ts h)

solve_again : solve_at [] ≡ Ok Solve
unfolding solve_at ended
solve_again = refl

command_again : (x : Command) → IsCommand x → command_at (command_words x) ≡ Ok x
unfolding command_at first_at kind_at
command_again (Add relation rhs ts) h = add_again relation rhs ts h
command_again (Tighten con rhs) h = tighten_again con rhs h
command_again (Cost ts) h = cost_again ts h
command_again Solve h = solve_again

-- ---- lines

plain_terms : (ts : Terms) → All IsPlain (flat_map term_words ts)
plain_terms [] = All-nil IsPlain
plain_terms (t ∷ ts) =
    All-cons IsPlain (signed_decimal t.0) (signed_decimal t.1 ∷ flat_map term_words ts) (plain_signed t.0)
    (All-cons IsPlain (signed_decimal t.1) (flat_map term_words ts) (plain_signed t.1) (plain_terms ts))

plain_relation : (relation : Relation) → IsPlain (relation_word relation)
plain_relation Ge = plain_by_test (codes "G") refl
plain_relation Le = plain_by_test (codes "L") refl
plain_relation Eq = plain_by_test (codes "E") refl

pub plain_end : ArePlain end_words
plain_end = All-cons IsPlain (codes "end") [] (plain_by_test (codes "end") refl) (All-nil IsPlain)

pub plain_command : (x : Command) → ArePlain (command_words x)
plain_command (Add relation rhs ts) =
    let terms = plain_colon (flat_map term_words ts) (plain_terms ts) in
    All-cons IsPlain (codes "add") (relation_word relation ∷ signed_decimal rhs ∷ colon ∷ flat_map term_words ts) (plain_by_test (codes "add") refl)
    (All-cons IsPlain (relation_word relation) (signed_decimal rhs ∷ colon ∷ flat_map term_words ts) (plain_relation relation)
    (All-cons IsPlain (signed_decimal rhs) (colon ∷ flat_map term_words ts) (plain_signed rhs) terms))
plain_command (Tighten con rhs) =
    All-cons IsPlain (codes "tighten") (signed_decimal con ∷ signed_decimal rhs ∷ []) (plain_by_test (codes "tighten") refl)
    (All-cons IsPlain (signed_decimal con) (signed_decimal rhs ∷ []) (plain_signed con) (All-cons IsPlain (signed_decimal rhs) [] (plain_signed rhs) (All-nil IsPlain)))
plain_command (Cost ts) = All-cons IsPlain (codes "cost") (colon ∷ flat_map term_words ts) (plain_by_test (codes "cost") refl) (plain_colon (flat_map term_words ts) (plain_terms ts))
plain_command Solve = All-cons IsPlain (codes "solve") [] (plain_by_test (codes "solve") refl) (All-nil IsPlain)

command_split : (x : Command) → split 32 (line_bytes (command_words x)) ≡ command_words x
command_split (Add relation rhs ts) = words_joined (codes "add") (relation_word relation ∷ signed_decimal rhs ∷ colon ∷ flat_map term_words ts) (plain_command (Add relation rhs ts))
command_split (Tighten con rhs) = words_joined (codes "tighten") (signed_decimal con ∷ signed_decimal rhs ∷ []) (plain_command (Tighten con rhs))
command_split (Cost ts) = words_joined (codes "cost") (colon ∷ flat_map term_words ts) (plain_command (Cost ts))
command_split Solve = words_joined (codes "solve") [] (plain_command Solve)

pub line_takes : (line : List ℕ) (x : Command) → command_in line ≡ Ok x → (line ≡ line_bytes (command_words x)) × IsCommand x
unfolding command_in
line_takes line x e = let t = command_takes (split 32 line) x e in (line_of_words line (command_words x) t.0, t.1)

pub line_again : (x : Command) → IsCommand x → command_in (line_bytes (command_words x)) ≡ Ok x
unfolding command_in
line_again x h = ap command_at (command_split x) ∙ command_again x h

-- a command is not the last line
pub no_end : (x : Command) → bytes_eq (line_bytes (command_words x)) end_line ≡ false
no_end (Add relation rhs ts) = refl
no_end (Tighten con rhs) = refl
no_end (Cost ts) = refl
no_end Solve = refl
