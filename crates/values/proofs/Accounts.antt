-- An account's name is spelled as it is tested.
use Rattle.std.proofs.Common.{◌≡◌, ℕ, ◌≤◌, true, false, not, eqb, leb, ◌⊎◌, List, [], ◌∷◌, ◌++◌, length, get_or, Decides, sym, refl, ap, ◌∙◌, subst, ⊎_elim, rules, tests, arith}
use Rattle.std.specs.List.{AllByRecursion, list_all, onto_first}
use Rattle.std.proofs.lemmas.Bool.{and_parts, and_from, le-leb, leb-true, cases_Bool, eqb-true, not-true, false≢true}
use Rattle.std.proofs.lemmas.Bool.Decides.{nat_tests, Decides-and, Decides-like}
use Rattle.std.proofs.ByRecursion.{Decides-by_and}
use Rattle.byte_text.specs.Classes.{in_class}
use Rattle.byte_text.specs.declared.ByteClass.TheVariants.{CommodityName, AccountPart}
use Rattle.values.specs.Names.{is_account_name, is_part, is_root, split_at, root_and_parts}
use Rattle.values.specs.Spelling.{Capital, Lowercase, Digit, Starts, Root, Part, joined_by_colons, IsAccountName}
use Rattle.values.proofs.Commodities.{capital_or_digit}

root_decides : (t : List ℕ) → Decides (is_root t) (Root t)
root_decides t = search (rules, tests)

part_byte : (b : ℕ) → Decides (in_class AccountPart b) (((Capital b ⊎ Lowercase b) ⊎ Digit b) ⊎ (b ≡ 45))
part_byte b = grind (arith, nat_tests)

first_of_part : (t : List ℕ) → Decides (in_class CommodityName (get_or t 0 0)) (Starts (λ b. Capital b ⊎ Digit b) t)
first_of_part [] = (λ e. absurd (grind (arith, nat_tests)), λ h. absurd h)
first_of_part (b ∷ bs) = capital_or_digit b

part_decides : (t : List ℕ) → Decides (is_part t) (Part t)
part_decides t =
    Decides-like _
    (λ h. record { capital_or_digit_first = h.0; letters_digits_hyphens = h.1 })
    (λ p. (p.capital_or_digit_first, p.letters_digits_hyphens))
    (Decides-and _ _ (first_of_part t)
    (Decides-by_and (in_class AccountPart) (λ b. ((Capital b ⊎ Lowercase b) ⊎ Digit b) ⊎ (b ≡ 45)) (list_all (in_class AccountPart)) part_byte refl (λ _ _. refl) t))

parts_decide : (ps : List (List ℕ)) → Decides (list_all is_part ps) (AllByRecursion Part ps)
parts_decide ps = Decides-by_and is_part Part (list_all is_part) part_decides refl (λ _ _. refl) ps

-- joining what was cut gives the text back

abbrev joined : List (List ℕ) → List ℕ
joined [] = []
joined (p ∷ ps) = joined_by_colons p ps

onto : (b : ℕ) (p : List ℕ) (ps : List (List ℕ)) → joined ((b ∷ p) ∷ ps) ≡ b ∷ joined (p ∷ ps)
onto b p [] = refl
onto b p (q ∷ qs) = refl

onto_joined : (b : ℕ) (ps : List (List ℕ)) → joined (onto_first b ps) ≡ b ∷ joined ps
onto_joined b [] = refl
onto_joined b (p ∷ ps) = onto b p ps

nonempty : (bs : List ℕ) → (p : List ℕ) × (ps : List (List ℕ)) × (split_at 58 bs ≡ p ∷ ps)
nonempty [] = ([], [], refl)
nonempty (b ∷ bs) =
    ⊎_elim
    (λ (e : eqb b 58 ≡ true). ([], split_at 58 bs, rw e))
    (λ (e : eqb b 58 ≡ false). let s = nonempty bs in (b ∷ s.0, s.1, rw (e, s.2)))
    (cases_Bool (eqb b 58))

behind_colon : (ps : List (List ℕ)) (q : List ℕ) (qs : List (List ℕ)) → ps ≡ q ∷ qs → joined ([] ∷ ps) ≡ 58 ∷ joined ps
behind_colon ps q qs e = rw e

split_joined : (t : List ℕ) → joined (split_at 58 t) ≡ t
split_joined [] = refl
split_joined (b ∷ bs) =
    ⊎_elim
    (λ (e : eqb b 58 ≡ true).
    let s = nonempty bs in
    rw e (behind_colon (split_at 58 bs) s.0 s.1 s.2 ∙ ap (λ (x : List ℕ). 58 ∷ x) (split_joined bs) ∙ ap (λ (x : ℕ). x ∷ bs) (sym (eqb-true b 58 e))))
    (λ (e : eqb b 58 ≡ false). rw e (onto_joined b (split_at 58 bs) ∙ ap (λ (x : List ℕ). b ∷ x) (split_joined bs)))
    (cases_Bool (eqb b 58))

-- cutting what was joined gives the parts back, where none has a colon

abbrev NoColon : List ℕ → Type 0
NoColon t = AllByRecursion (λ b. eqb b 58 ≡ false) t

split_alone : (p : List ℕ) → NoColon p → split_at 58 p ≡ p ∷ []
split_alone [] h = refl
split_alone (b ∷ bs) h = rw (h.0, split_alone bs h.1)

split_front : (p rest : List ℕ) → NoColon p → split_at 58 (p ++ 58 ∷ rest) ≡ p ∷ split_at 58 rest
split_front [] rest h = refl
split_front (b ∷ bs) rest h = rw (h.0, split_front bs rest h.1)

joined_split : (p : List ℕ) (ps : List (List ℕ)) → NoColon p → AllByRecursion NoColon ps → split_at 58 (joined_by_colons p ps) ≡ p ∷ ps
joined_split p [] h hs = split_alone p h
joined_split p (q ∷ qs) h hs = split_front p (joined_by_colons q qs) h ∙ ap (λ (x : List (List ℕ)). p ∷ x) (joined_split q qs hs.0 hs.1)

byte_no_colon : (b : ℕ) → ((Capital b ⊎ Lowercase b) ⊎ Digit b) ⊎ (b ≡ 45) → eqb b 58 ≡ false
byte_no_colon b h = grind (arith, nat_tests)

part_no_colon : (bs : List ℕ) → AllByRecursion (λ b. ((Capital b ⊎ Lowercase b) ⊎ Digit b) ⊎ (b ≡ 45)) bs → NoColon bs
part_no_colon [] h = tt
part_no_colon (b ∷ bs) h = (byte_no_colon b h.0, part_no_colon bs h.1)

parts_no_colon : (ps : List (List ℕ)) → AllByRecursion Part ps → AllByRecursion NoColon ps
parts_no_colon [] h = tt
parts_no_colon (p ∷ ps) h = (part_no_colon p h.0.letters_digits_hyphens, parts_no_colon ps h.1)

no_colon_by : (t : List ℕ) → list_all (λ b. not (eqb b 58)) t ≡ true → NoColon t
no_colon_by [] e = tt
no_colon_by (b ∷ bs) e = let p = and_parts (not (eqb b 58)) _ e in (not-true _ p.0, no_colon_by bs p.1)

word : (t w : List ℕ) → list_all (λ b. not (eqb b 58)) w ≡ true → t ≡ w → NoColon t
word t w e h = subst NoColon (sym h) (no_colon_by w e)

root_no_colon : (t : List ℕ) → Root t → NoColon t
root_no_colon t h = grind (arith, nat_tests)

from_parts : (t : List ℕ) (ps : List (List ℕ)) → split_at 58 t ≡ ps → root_and_parts ps ≡ true → length t ≤ 48 → IsAccountName t
from_parts t [] e h l = absurd (false≢true h)
from_parts t (p ∷ ps) e h l =
    let first = and_parts (is_root p) _ h in
    let rest = and_parts (leb 1 (length ps)) _ first.1 in
    let few = and_parts (list_all is_part ps) _ rest.1 in
    record {
      root = p;
      parts = ps;
      spelled = sym (split_joined t) ∙ ap joined e;
      a_root = (root_decides p).0 first.0;
      one_or_more = leb-true _ _ rest.0;
      five_at_most = leb-true _ _ few.1;
      each_a_part = (parts_decide ps).0 few.0;
      short = l;
    }

to_parts : (t : List ℕ) (a : IsAccountName t) → split_at 58 t ≡ a.root ∷ a.parts
to_parts t a =
    ap (split_at 58) a.spelled
    ∙ joined_split a.root a.parts (root_no_colon a.root a.a_root) (parts_no_colon a.parts a.each_a_part)

pub account_decides : (t : List ℕ) → Decides (is_account_name t) (IsAccountName t)
unfolding is_account_name
account_decides t = (
  λ e. let p = and_parts (leb (length t) 48) _ e in from_parts t (split_at 58 t) refl p.1 (leb-true _ _ p.0),
  λ a.
      and_from _ _
      (le-leb _ _ a.short)
      (ap root_and_parts (to_parts t a)
      ∙ and_from _ _
      ((root_decides a.root).1 a.a_root)
      (and_from _ _
      (le-leb _ _ a.one_or_more)
      (and_from _ _ ((parts_decide a.parts).1 a.each_a_part) (le-leb _ _ a.five_at_most)))),
)
