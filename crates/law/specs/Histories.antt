-- What calls and their answers come to. These words are made from the policy's order and settling, the calls' arguments
-- and which calls were refused, and from nothing that a ledger stores.
use Rattle.std.specs.Prelude.{ℕ, ◌+◌, Bool, true, false, cond, List, [], ◌∷◌, ◌++◌, length, Some, None, Option}
use Rattle.std.specs.Option.{option_map}
use Rattle.std.specs.List.{flat_map}
use Rattle.lots.specs.declared.rows.Key.{Key}
use Rattle.lots.specs.Orders.{Order}
use Rattle.record.specs.declared.rows.Row.{Row}
use Rattle.stock.specs.Tables.{Table, no_lots, is_open}
use Rattle.booking.specs.declared.posting.Posting.{Posting}
use Rattle.booking.specs.declared.posting.PostingKind.{PostingKind}
use Rattle.booking.specs.declared.posting.PostingKind.TheVariants.{Blank, Plain, Purchase, Reduction}
use Rattle.booking.specs.declared.entry.Entry.{Entry}
use Rattle.booking.specs.declared.entry.Transaction.{Transaction}
use Rattle.booking.specs.Postings.{purchase_key, table_after_posting}
use Rattle.booking.specs.Rows.{rows_of}
use Rattle.books.specs.declared.outcome.Outcome.{Outcome}
use Rattle.books.specs.declared.outcome.Outcome.TheVariants.{Declared, Opened, Begun, Settled, Done, Refused}
use Rattle.booking.specs.declared.draft.Draft.{Draft}
use Rattle.books.specs.States.{Names, no_names}
use Rattle.books.specs.Calls.{Call, declaring, opening, asserting, closing, beginning, posting, settling, tearing, writing_header}
use Rattle.books.specs.Lookups.{open_account, number_or_0}
use Rattle.books.specs.Changes.{posting_of, new_draft, with_posting, lots_after_draft, settled_entries, with_commodity, with_account, with_account_closed}
use Rattle.books.specs.Recording.{transaction_of}

-- a settled transaction: its number, date and flag, and its entries
pub record Settlement : Type 0 where
  pub transaction : Transaction
  pub entries : List Entry

-- the names given so far, the draft under way, the open lots, the keys of all lots opened so far in the order of opening,
-- and the settled transactions in order
pub record History : Type 0 where
  pub names : Names
  pub draft : Option Draft
  pub table : Table
  pub opened : List Key
  pub settlements : List Settlement

abbrev pub no_history : History
no_history = record { names = no_names; draft = None; table = no_lots; opened = []; settlements = [] }

abbrev pub accepted : Outcome → Bool
accepted (Declared number) = true
accepted (Opened number) = true
accepted (Begun slip) = true
accepted (Settled number) = true
accepted Done = true
accepted (Refused fault) = false

-- a purchase whose key is not open opens a lot
abbrev pub opened_by_kind : ℕ → ℕ → Table → PostingKind → List Key
opened_by_kind day a t Blank = []
opened_by_kind day a t (Plain amount commodity) = []
opened_by_kind day a t (Purchase units commodity cost date) = cond (is_open (purchase_key day a commodity cost date) t.lots) [] (purchase_key day a commodity cost date ∷ [])
opened_by_kind day a t (Reduction units commodity cost date) = []

-- the keys of the lots that postings open, each upon the lots that the one before left
abbrev pub opened_by : Order → ℕ → Table → List Posting → List Key
opened_by o day t [] = []
opened_by o day t (p ∷ ps) = opened_by_kind day p.account t p.kind ++ opened_by o day (table_after_posting o day t p) ps

abbrev pub with_names : History → Names → History
with_names h k = record { names = k; draft = h.draft; table = h.table; opened = h.opened; settlements = h.settlements }

abbrev pub with_draft : History → Option Draft → History
with_draft h d = record { names = h.names; draft = d; table = h.table; opened = h.opened; settlements = h.settlements }

-- a draft is settled upon the lots that the calls before leave
abbrev pub with_settlement : Order → History → Option Draft → History
with_settlement o h None = h
with_settlement o h (Some d) = record {
  names = h.names;
  draft = None;
  table = lots_after_draft o h.table d;
  opened = h.opened ++ opened_by o d.date h.table d.postings;
  settlements = h.settlements ++ (record { transaction = transaction_of (length h.settlements + 1) d; entries = settled_entries o h.table d } ∷ []);
}

-- Accepted, a beginning starts an empty draft, a posting joins it, a tearing drops it and a settling settles it;
-- declaring, opening and closing concern names alone. Other calls leave all as it was.
abbrev pub after_accepted : Order → History → Call → History
after_accepted o h (declaring source date name) = with_names h (with_commodity h.names name)
after_accepted o h (opening source date name own) = with_names h (with_account h.names name own)
after_accepted o h (asserting source date account amount commodity) = h
after_accepted o h (closing source date account) = with_names h (with_account_closed h.names (number_or_0 (open_account h.names account)))
after_accepted o h (beginning source date flag) = with_draft h (Some (new_draft source date flag))
after_accepted o h (posting slip source account amount) = with_draft h (option_map (with_posting (posting_of h.names source account amount)) h.draft)
after_accepted o h (settling slip lent) = with_settlement o h h.draft
after_accepted o h (tearing slip) = with_draft h None
after_accepted o h (writing_header lent) = h

-- a refused call leaves all as it was
abbrev pub after_call : Order → History → Call → Outcome → History
after_call o h c x = cond (accepted x) (after_accepted o h c) h

abbrev pub history_after : Order → History → List Call → List Outcome → History
history_after o h [] outs = h
history_after o h (c ∷ cs) [] = h
history_after o h (c ∷ cs) (x ∷ outs) = history_after o (after_call o h c x) cs outs

abbrev pub history_of : Order → List Call → List Outcome → History
history_of o calls outs = history_after o no_history calls outs

-- all entries that were settled, in order, and their rows
abbrev pub all_entries : List Settlement → List Entry
all_entries xs = flat_map (λ x. x.entries) xs

abbrev pub all_rows : List Settlement → List Row
all_rows xs = flat_map (λ x. rows_of x.transaction x.entries) xs
