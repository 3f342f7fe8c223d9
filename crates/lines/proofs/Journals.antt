-- A journal's lines are its first, and those of what stands behind it.
use Rattle.std.proofs.lemmas.Bool.Decides.{nat_tests}
use Rattle.std.proofs.Common.{◌≡◌, ℕ, ◌+◌, ◌<◌, ◌≤◌, false, eqb, List, [], ◌∷◌, length, take, drop, IfSome, Some, None, Option, sym, ap, ◌∙◌, ⊎_elim, arith}
use Rattle.std.specs.Option.{option_map}
use Rattle.std.proofs.lemmas.List.{take_all, drop_all, length-drop}
use Rattle.std.proofs.lemmas.List.Sums.{prefix_len-le-length}
use Rattle.std.proofs.lemmas.Bool.{cases_lt, cond-false, ne_eqb}
use Rattle.byte_text.specs.Classes.{before}
use Rattle.values.specs.Names.{split_at}
use Rattle.values.proofs.Parts.{split_last, split_more, split_first}
use Rattle.lines.specs.Lines.{without_last_empty, lines_of}
use Rattle.lines.specs.Journals.{cut_said, first_line, lines_by}
use Rattle.lines.specs.declared.journal.LineCut.{LineCut}

kept : (p : List ℕ) (ps : List (List ℕ)) (q : List ℕ) (qs : List (List ℕ)) → ps ≡ q ∷ qs → without_last_empty (p ∷ ps) ≡ p ∷ without_last_empty ps
kept p ps q qs e = rw e

lines_more : (bs : List ℕ) → 0 < length bs → lines_of bs ≡ take (before 10 bs) bs ∷ lines_of (drop (before 10 bs + 1) bs)
lines_more bs h =
    ⊎_elim
    (λ (l : before 10 bs < length bs).
    let rest = drop (before 10 bs + 1) bs in
    let s = split_first 10 rest in
    ap without_last_empty (split_more 10 bs l) ∙ kept (take (before 10 bs) bs) (split_at 10 rest) _ s.0 s.1)
    (λ (g : length bs ≤ before 10 bs).
    let e : before 10 bs ≡ length bs = omega (arith, before_within bs) in
    let none : drop (before 10 bs + 1) bs ≡ [] = drop_all _ bs (omega arith) in
    let some : eqb (length bs) 0 ≡ false = ne_eqb _ _ (λ z. omega arith) in
    ap without_last_empty (split_last 10 bs e)
    ∙ cond-false _ _ _ some
    ∙ ap (λ (x : List ℕ). x ∷ []) (sym (take_all _ bs g))
    ∙ ap (λ (x : List ℕ). take (before 10 bs) bs ∷ lines_of x) (sym none))
    (cases_lt (before 10 bs) (length bs))
  where
    before_within : (bs : List ℕ) → before 10 bs ≤ length bs
    before_within bs = prefix_len-le-length _ bs

-- a cut comes of some bytes, and shows what stands before and behind the line's end
some_cut : (c : LineCut) (bs : List ℕ) → Some (cut_said c) ≡ first_line bs → (0 < length bs) × (take (before 10 bs) bs ≡ c.line.now) × (drop (before 10 bs + 1) bs ≡ c.rest.now)
unfolding first_line
some_cut c bs h = grind (arith, nat_tests)
  where
    same_some : {A : Type 0} {x y : A} → Some x ≡ Some y → x ≡ y
    same_some e = cc

    positive : (n : ℕ) → (n ≡ 0 → ⊥) → 0 < n
    positive n h = ⊎_elim (λ (l : 0 < n). l) (λ (g : n ≤ 0). absurd (h (omega arith))) (cases_lt 0 n)

no_cut : (bs : List ℕ) → None ≡ first_line bs → bs ≡ []
unfolding first_line
no_cut bs h = grind (arith, nat_tests)

pub lines_cut : (r : Option LineCut) (bs : List ℕ) → option_map cut_said r ≡ first_line bs → lines_of bs ≡ lines_by r
lines_cut None bs h = ap lines_of (no_cut bs h)
lines_cut (Some c) bs h =
    let s = some_cut c bs h in
    lines_more bs s.0
    ∙ ap (λ (x : List ℕ). x ∷ lines_of (drop (before 10 bs + 1) bs)) s.1
    ∙ ap (λ (x : List ℕ). c.line.now ∷ lines_of x) s.2

pub rest_shorter : (r : Option LineCut) (bs : List ℕ) → option_map cut_said r ≡ first_line bs → IfSome r (λ c. length c.rest.now < length bs)
rest_shorter None bs h = tt
rest_shorter (Some c) bs h =
    let s = some_cut c bs h in
    omega (arith, ap length s.2, length-drop (before 10 bs + 1) bs)
