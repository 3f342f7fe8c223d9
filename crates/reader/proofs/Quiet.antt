-- Posting lines write nothing to the record.
use Rattle.std.proofs.Common.{◌≡◌, ℕ, List, [], ◌∷◌, Some, None, Ok, Err, Option, Result, refl, ◌∙◌}
use Rattle.std.specs.Option.{option_map}
use Rattle.std.proofs.lemmas.Bool.{cond_both}
use Rattle.refusal.specs.declared.Fault.{Fault}
use Rattle.lots.specs.Orders.{Order}
use Rattle.lines.specs.Said.{Said, posting}
use Rattle.books.specs.declared.outcome.Outcome.{Outcome}
use Rattle.books.specs.Calls as call
use Rattle.books.specs.Calls.{Call, AmountGiven}
use Rattle.books.specs.States.{State, next_number}
use Rattle.books.specs.Refusals.{refusal}
use Rattle.books.specs.Recording.{record_answered, record_after_call, record_after_calls}
use Rattle.books.specs.Steps.{step}
use Rattle.law.specs.Histories.{accepted}
use Rattle.reader.specs.Asked.{units_given}
use Rattle.reader.specs.Turns.{or_torn, posting_turn}

torn : (o : Order) (s : State) (slip : ℕ) (book : List ℕ) → record_after_call o s (call.tearing slip) book ≡ book
torn o s slip book = by (refusal o s (call.tearing slip))
  where
    by : (r : Option Fault) → record_answered o s (call.tearing slip) book r ≡ book
    by None = refl
    by (Some f) = refl

posted : (o : Order) (s : State) (slip source : ℕ) (account : List ℕ) (amount : Option AmountGiven) (book : List ℕ) → record_after_call o s (call.posting slip source account amount) book ≡ book
posted o s slip source account amount book = by (refusal o s (call.posting slip source account amount))
  where
    by : (r : Option Fault) → record_answered o s (call.posting slip source account amount) book r ≡ book
    by None = refl
    by (Some f) = refl

-- a call that writes nothing, and a tearing if it is refused
torn_or_not : (o : Order) (s : State) (c : Call) (x : Outcome) (book : List ℕ) → record_after_call o s c book ≡ book → record_after_calls o s (or_torn s c x) book ≡ book
torn_or_not o s c x book e =
    cond_both (accepted x) (c ∷ []) (c ∷ call.tearing (next_number s) ∷ []) (λ cs. record_after_calls o s cs book ≡ book)
    (λ _. e)
    (λ _. torn o (step o s c).1 (next_number s) (record_after_call o s c book) ∙ e)

pub posting_writes_nothing : (o : Order) (s : State) (number : ℕ) (r : Result (Option Said) Fault) (book : List ℕ) → record_after_calls o s (posting_turn o s number r).calls book ≡ book
posting_writes_nothing o s number (Err f) book = torn o s (next_number s) book
posting_writes_nothing o s number (Ok (Some (posting p))) book =
    let c = call.posting (next_number s) number p.account.text (option_map units_given p.units) in
    torn_or_not o s c (step o s c).0 book (posted o s (next_number s) number p.account.text (option_map units_given p.units) book)
posting_writes_nothing o s number (Ok other) book = refl
