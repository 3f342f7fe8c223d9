-- The table of a settling, read as what booking defines: 2, then the first posting to meet one of 21 to 24, then the whole draft.
use Rattle.std.proofs.Common.{◌≡◌, ℕ, Bool, List, [], ◌∷◌, ◌++◌, Option, refl, ap, ◌∙◌, arith}
use Rattle.std.proofs.lemmas.Grind.{common_steps}
use Rattle.std.specs.Option.{option_or}
use Rattle.refusal.specs.declared.Refusal.{Refusal}
use Rattle.refusal.specs.declared.Fault.{Fault}
use Rattle.refusal.specs.Refusing.{first_met}
use Rattle.lots.specs.Orders.{Order}
use Rattle.stock.specs.Tables.{Table}
use Rattle.booking.specs.declared.posting.Posting.{Posting}
use Rattle.booking.specs.Postings.{lots_tests, table_after_posting, posting_refusal}
use Rattle.booking.specs.Booking.{at_line, first_fault}
use Rattle.booking.specs.declared.draft.Draft.{Draft}
use Rattle.books.specs.States.{State}
use Rattle.books.specs.Refusals.{Test, tests_at, first_fault_met, lots_tests_of_all, whole_draft_tests, draft_entries, draft_tests}

pub first_append : (xs ys : List Test) → first_fault_met (xs ++ ys) ≡ option_or (first_fault_met xs) (first_fault_met ys)
first_append [] ys = refl
first_append (x ∷ xs) ys = let ih = first_append xs ys in grind (arith, common_steps)

pub first_at : (line : ℕ) (ts : List (Refusal × Bool)) → first_fault_met (tests_at line ts) ≡ at_line line (first_met ts)
first_at line [] = refl
first_at line (t ∷ ts) = let ih = first_at line ts in grind (arith, common_steps)

pub postings_first : (o : Order) (day : ℕ) (ps : List Posting) (t : Table) → first_fault_met (lots_tests_of_all o day t ps) ≡ first_fault o day t ps
postings_first o day [] t = refl
postings_first o day (p ∷ ps) t =
    first_append (tests_at p.line (lots_tests o day p.account t p.kind)) (lots_tests_of_all o day (table_after_posting o day t p) ps)
    ∙ ap (λ (f : Option Fault). option_or f (first_fault_met (lots_tests_of_all o day (table_after_posting o day t p) ps))) (first_at p.line (lots_tests o day p.account t p.kind))
    ∙ ap (option_or (at_line p.line (posting_refusal o day t p))) (postings_first o day ps (table_after_posting o day t p))

-- what a draft that is under way meets
pub draft_first : (o : Order) (s : State) (lent : ℕ) (d : Draft)
    → first_fault_met (draft_tests o s lent d) ≡ option_or (first_fault o d.date s.books.table d.postings) (at_line d.line (first_met (whole_draft_tests s lent d (draft_entries o s d))))
draft_first o s lent d =
    first_append (lots_tests_of_all o d.date s.books.table d.postings) (tests_at d.line (whole_draft_tests s lent d (draft_entries o s d)))
    ∙ ap (λ (f : Option Fault). option_or f (first_fault_met (tests_at d.line (whole_draft_tests s lent d (draft_entries o s d))))) (postings_first o d.date d.postings s.books.table)
    ∙ ap (option_or (first_fault o d.date s.books.table d.postings)) (first_at d.line (whole_draft_tests s lent d (draft_entries o s d)))
