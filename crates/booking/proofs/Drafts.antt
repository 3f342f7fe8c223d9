-- One posting more of a draft.
use Rattle.std.proofs.lemmas.Grind.{common_steps}
use Rattle.std.proofs.Common.{arith, ◌≡◌, ℕ, ◌+◌, ◌<◌, List, ◌++◌, length, get_or, drop, Some, None, Ok, Err, Option, Result}
use Rattle.std.specs.Option.{option_or}
use Rattle.refusal.specs.declared.Refusal.{Refusal}
use Rattle.refusal.specs.declared.Fault.{Fault}
use Rattle.refusal.specs.Refusing.{unless}
use Rattle.lots.specs.Orders.{Order}
use Rattle.stock.specs.Tables.{Table}
use Rattle.booking.specs.declared.posting.Posting.{Posting}
use Rattle.booking.specs.declared.posting.PostingKind.TheVariants.{Blank}
use Rattle.booking.specs.declared.entry.Entry.{Entry}
use Rattle.booking.specs.Postings.{table_after_posting, entries_of_posting}
use Rattle.booking.specs.Booking.{at_line, table_after, entries_of, first_fault}
use Rattle.booking.specs.Stages.{book_posting, book_postings}

-- what is read past the end
abbrev pub no_posting : Posting
no_posting = record { line = 0; account = 0; kind = Blank }

module _ (o : Order) (day : ℕ) (b : Table × List Entry) where
  module _ (p : Posting) (ps : List Posting) where
    abbrev t' : Table
    t' = table_after_posting o day b.0 p

    abbrev given : List Entry
    given = entries_of_posting o day b.0 p

    after_accepted : (q : Option Refusal) (c : Table × List Entry) → Ok c ≡ unless (at_line p.line q) (t', b.1 ++ given)
        → book_postings o day c ps ≡ unless (option_or (at_line p.line q) (first_fault o day t' ps)) (table_after o day t' ps, b.1 ++ (given ++ entries_of o day t' ps))
    after_accepted None c e = grind (arith, common_steps)
    after_accepted (Some r) c e = cc

  -- the posting at place i is booked, and what is left gives the rest
  module _ (ps : List Posting) (i : ℕ) (within : i < length ps) (all : Result (Table × List Entry) Fault) (was : book_postings o day b (drop i ps) ≡ all) where
    pub booked_more : (c : Table × List Entry) → Ok c ≡ book_posting o day (get_or ps i no_posting) b → book_postings o day c (drop (i + 1) ps) ≡ all
    booked_more c e = grind (arith, common_steps)

    -- or it is refused, and so is the draft
    pub booked_refused : {f : Fault} → Err f ≡ book_posting o day (get_or ps i no_posting) b → Err f ≡ all
    booked_refused {f} e = grind (arith, common_steps)
