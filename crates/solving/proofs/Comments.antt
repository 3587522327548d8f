-- The two lines before a certificate are comments, so the text with them spells the certificate too.
use Rattle.std.proofs.Common.{ℕ, ◌<◌, ltb, ◌≡◌, ◌∙◌, refl, sym, ap, subst, cond, Bool, true, false, List, [], ◌∷◌, ◌++◌, length, get_or, append_assoc}
use Rattle.std.specs.List.{list_all}
use Rattle.std.specs.Ordering.{int_eq}
use Rattle.std.proofs.lemmas.Bool.{and_parts, ltb-true}
use Rattle.std.specs.Prelude.{All, if◌then◌else◌, pos, flat_map, codes}
use Rattle.std.specs.Fmt.{decimal, signed_decimal}
use Rattle.std.proofs.lemmas.Grind.{flat_map-append}
use Rattle.std.proofs.lemmas.List.{append-nil}
use Rattle.std.proofs.lemmas.List.Elements.{All-nil, All-cons, All-append, All-map, All-tail}
use Rattle.lp_nums.specs.Fractions.{Fraction}
use Rattle.lp_nums.specs.Texts.{fraction_text}
use Rattle.lpcc_case.specs.declared.verdict.Verdict.{Verdict}
use Rattle.lpcc_case.specs.declared.verdict.Verdict.TheVariants.{Optimal, Infeasible, Unbounded}
use Rattle.cert_text.specs.declared.cert.Cert.{Cert}
use Rattle.cert_text.specs.Lines.{content, is_comment, is_content, is_cut, lines_among, tail_among}
use Rattle.cert_text.specs.Spelling.{cert_lines, cert_words, line_bytes, spelling, text_of}
use Rattle.cert_text.specs.Texts.{Spells}
use Rattle.cert_text.proofs.Joined.{IsInLine, line_in_line, lines_joined}
use Rattle.cert_text.proofs.Numbers.{IsPlain, plain_decimal, plain_signed}
use Rattle.cert_text.proofs.Plain.{ArePlain, good_cert}
use Rattle.cert2_text.specs.declared.cert2.Cert2.{Cert2}
use Rattle.cert2_text.specs.Spelling2.{cert2_lines, cert2_words, spelling2}
use Rattle.cert2_text.specs.Texts2.{Spells2}
use Rattle.cert2_text.proofs.Plain2.{good_cert2}
use Rattle.report.specs.declared.style.Style.TheVariants.{One}
use Rattle.report.specs.Endings.{comments, verdict_line, verdict_text}

-- ---- the comments as lines of words

abbrev verdict_words : Verdict → List (List ℕ)
verdict_words (Optimal value) = codes "*" ∷ codes "optimal" ∷ fraction_text value ∷ []
verdict_words Infeasible = codes "*" ∷ codes "infeasible" ∷ []
verdict_words Unbounded = codes "*" ∷ codes "unbounded" ∷ []

abbrev drawn_words : ℕ → List (List ℕ)
drawn_words drawn = codes "*" ∷ codes "drawn" ∷ decimal drawn ∷ []

abbrev comment_lines : Verdict → ℕ → List (List ℕ)
comment_lines verdict drawn = line_bytes (verdict_words verdict) ∷ line_bytes (drawn_words drawn) ∷ []

one_end : (v : Verdict) (n : ℕ) (w : List ℕ) → w ≡ verdict_line v → comments v n ≡ text_of (w ∷ line_bytes (drawn_words n) ∷ [])
one_end v n w same =
    let first = verdict_line v ++ 10 ∷ [] in
    let second = line_bytes (drawn_words n) in
    append_assoc first second (10 ∷ [])
    ∙ ap (λ l. first ++ l) (sym (append-nil (second ++ 10 ∷ [])))
    ∙ ap (λ l. (l ++ 10 ∷ []) ++ ((second ++ 10 ∷ []) ++ [])) (sym same)

line_of_verdict : (v : Verdict) → line_bytes (verdict_words v) ≡ verdict_line v
line_of_verdict (Optimal value) = refl
line_of_verdict Infeasible = refl
line_of_verdict Unbounded = refl

as_lines : (v : Verdict) (n : ℕ) → comments v n ≡ text_of (comment_lines v n)
as_lines v n = one_end v n (line_bytes (verdict_words v)) (line_of_verdict v)

-- ---- no word of the comments has a space or LF

plain_by_test : (w : List ℕ) → list_all (λ b. ltb 32 b) w ≡ true → IsPlain w
plain_by_test [] e = All-nil (λ b. 32 < b)
plain_by_test (b ∷ w) e =
    let p = and_parts (ltb 32 b) (list_all (λ c. ltb 32 c) w) e in
    All-cons (λ c. 32 < c) b w (ltb-true 32 b p.0) (plain_by_test w p.1)

either : (b : Bool) (v w : List ℕ) → IsPlain v → IsPlain w → IsPlain (cond b v w)
either true v w hv hw = hv
either false v w hv hw = hw

plain_fraction : (f : Fraction) → IsPlain (fraction_text f)
plain_fraction f =
    let front = All-append (λ b. 32 < b) (signed_decimal f.num) (codes "/") (plain_signed f.num) (plain_by_test (codes "/") refl) in
    either (int_eq f.den (pos 1)) (signed_decimal f.num) (signed_decimal f.num ++ codes "/" ++ signed_decimal f.den) (plain_signed f.num)
    (All-append (λ b. 32 < b) (signed_decimal f.num ++ codes "/") (signed_decimal f.den) front (plain_signed f.den))

two_plain : (v w : List ℕ) → IsPlain v → IsPlain w → ArePlain (v ∷ w ∷ [])
two_plain v w hv hw = All-cons IsPlain v (w ∷ []) hv (All-cons IsPlain w [] hw (All-nil IsPlain))

starred : (v w : List ℕ) → IsPlain v → IsPlain w → ArePlain (codes "*" ∷ v ∷ w ∷ [])
starred v w hv hw = All-cons IsPlain (codes "*") (v ∷ w ∷ []) (plain_by_test (codes "*") refl) (two_plain v w hv hw)

plain_verdict : (v : Verdict) → ArePlain (verdict_words v)
plain_verdict (Optimal value) = starred (codes "optimal") (fraction_text value) (plain_by_test (codes "optimal") refl) (plain_fraction value)
plain_verdict Infeasible = two_plain (codes "*") (codes "infeasible") (plain_by_test (codes "*") refl) (plain_by_test (codes "infeasible") refl)
plain_verdict Unbounded = two_plain (codes "*") (codes "unbounded") (plain_by_test (codes "*") refl) (plain_by_test (codes "unbounded") refl)

plain_drawn : (n : ℕ) → ArePlain (drawn_words n)
plain_drawn n = starred (codes "drawn") (decimal n) (plain_by_test (codes "drawn") refl) (plain_decimal n)

is_star : (v : Verdict) → is_comment (line_bytes (verdict_words v)) ≡ true
is_star (Optimal value) = refl
is_star Infeasible = refl
is_star Unbounded = refl

-- ---- a comment in front of lines

skips : (c : List ℕ) (ls : List (List ℕ)) → is_comment c ≡ true → lines_among (c ∷ (ls ++ [] ∷ [])) ≡ lines_among (ls ++ [] ∷ [])
skips c [] e = ap (λ b. if b then [] else c ∷ []) e
skips c (l ∷ ls) e = ap (λ b. if b then lines_among (l ∷ (ls ++ [] ∷ [])) else c ∷ lines_among (l ∷ (ls ++ [] ∷ []))) e

same_tail : (c : List ℕ) (ls : List (List ℕ)) → tail_among (c ∷ (ls ++ [] ∷ [])) ≡ tail_among (ls ++ [] ∷ [])
same_tail c [] = refl
same_tail c (l ∷ ls) = refl

content_behind : (c : List ℕ) (ls : List (List ℕ)) → is_comment c ≡ true → All IsInLine (c ∷ ls) → content (text_of (c ∷ ls)) ≡ content (text_of ls)
content_behind c ls e h =
    ap lines_among (lines_joined (c ∷ ls) h) ∙ skips c ls e ∙ ap lines_among (sym (lines_joined ls (All-tail IsInLine c ls h)))

cut_behind : (c : List ℕ) (ls : List (List ℕ)) → All IsInLine (c ∷ ls) → is_cut (text_of (c ∷ ls)) ≡ is_cut (text_of ls)
cut_behind c ls h =
    ap (λ x. is_content (tail_among x)) (lines_joined (c ∷ ls) h) ∙ ap is_content (same_tail c ls) ∙ ap (λ x. is_content (tail_among x)) (sym (lines_joined ls (All-tail IsInLine c ls h)))

cert_in_lines : (c : Cert) → All IsInLine (cert_lines c)
cert_in_lines c = All-map IsInLine line_bytes (cert_words c) (λ i d lt. line_in_line (get_or (cert_words c) i d) (good_cert c i d lt).0)

cert2_in_lines : (c : Cert2) → All IsInLine (cert2_lines c)
cert2_in_lines c = All-map IsInLine line_bytes (cert2_words c) (λ i d lt. line_in_line (get_or (cert2_words c) i d) (good_cert2 c i d lt).0)

-- the comments in front of lines leave their content, and whether they end with LF
abbrev SameBehind : Verdict → ℕ → List (List ℕ) → Type 0
SameBehind v n ls = (content (comments v n ++ text_of ls) ≡ content (text_of ls)) × (is_cut (comments v n ++ text_of ls) ≡ is_cut (text_of ls))

same_behind : (v : Verdict) (n : ℕ) (ls : List (List ℕ)) → All IsInLine ls → SameBehind v n ls
same_behind v n ls h =
    let first = line_bytes (verdict_words v) in
    let second = line_bytes (drawn_words n) in
    let inner = All-cons IsInLine second ls (line_in_line (drawn_words n) (plain_drawn n)) h in
    let outer = All-cons IsInLine first (second ∷ ls) (line_in_line (verdict_words v) (plain_verdict v)) inner in
    let joined : text_of (comment_lines v n ++ ls) ≡ text_of (comment_lines v n) ++ text_of ls = flat_map-append (λ line. line ++ 10 ∷ []) (comment_lines v n) ls in
    let here : comments v n ++ text_of ls ≡ text_of (first ∷ second ∷ ls) = ap (λ l. l ++ text_of ls) (as_lines v n) ∙ sym joined in (
      ap content here ∙ content_behind first (second ∷ ls) (is_star v) outer ∙ content_behind second ls refl inner,
      ap is_cut here ∙ cut_behind first (second ∷ ls) outer ∙ cut_behind second ls inner,
    )

pub comments_spell : (v : Verdict) (n : ℕ) (c : Cert) → Spells (spelling c) c → Spells (verdict_text v n One c) c
comments_spell v n c h =
    let same = same_behind v n (cert_lines c) (cert_in_lines c) in
    record { form = h.form; few = h.few; lines = same.0 ∙ h.lines; whole = same.1 ∙ h.whole }

pub comments_spell2 : (v : Verdict) (n : ℕ) (c : Cert2) → Spells2 (spelling2 c) c → Spells2 (comments v n ++ spelling2 c) c
comments_spell2 v n c h =
    let same = same_behind v n (cert2_lines c) (cert2_in_lines c) in
    record { form = h.form; few = h.few; lines = same.0 ∙ h.lines; whole = same.1 ∙ h.whole }
