-- A worked run under FIFO, and two settlings that are refused.
use Rattle.std.specs.Prelude.{◌≡◌, ℕ, List, [], ◌∷◌, ◌++◌, replicate, ℤ, pos, neg_ℤ, Some, None, Ok, codes, Option}
use Rattle.refusal.specs.declared.Refusal.{Refusal}
use Rattle.refusal.specs.declared.Refusal.TheVariants.{NoSuchDraft, BadAccountName, GoesBack, AccountOpenedBefore, AccountNotOpen, NotBalanced, BlankCannotBeFilled, BalanceDiffers, AccountNotEmpty}
use Rattle.values.specs.declared.flag.Flag.TheVariants.{Complete, Incomplete}
use Rattle.lots.specs.declared.rows.LotRow.{LotRow}
use Rattle.lots.specs.Orders.{fifo, whole_lot}
use Rattle.booking.specs.declared.entry.EntryKind.TheVariants.{PlainAmount, Filled, Bought, Drew}
use Rattle.booking.specs.Postings.{entry}
use Rattle.refusal.specs.Faults.{fault_at}
use Rattle.books.specs.declared.outcome.Outcome.{Outcome}
use Rattle.books.specs.declared.outcome.Outcome.TheVariants.{Declared, Opened, Begun, Settled, Done, Refused}
use Rattle.books.specs.States.{empty_ledger}
use Rattle.books.specs.Calls.{Call, declaring, opening, asserting, closing, beginning, posting, settling, tearing, AmountGiven}
use Rattle.books.specs.Steps.{state_after, outcomes}
use Rattle.books.specs.Recording.{record_after_calls}
use Rattle.books.specs.Questions.{holding_of, plain_balance_of}
use Rattle.law.specs.Histories.{history_of, all_entries}

abbrev stock : List ℕ
stock = codes "Assets:Stock"

abbrev van : List ℕ
van = codes "Assets:Stock:Van"

abbrev bank : List ℕ
bank = codes "Assets:Bank"

abbrev gains : List ℕ
gains = codes "Income:Gains"

abbrev eur : List ℕ
eur = codes "EUR"

abbrev sensor : List ℕ
sensor = codes "SENSOR"

abbrev pub plain : ℤ → Option AmountGiven
plain number = Some (record { number = number; commodity = eur; braces = None })

abbrev bought : ℕ → ℤ → Option AmountGiven
bought units cost = Some (record { number = pos units; commodity = sensor; braces = Some (record { cost = Some (record { number = cost; commodity = eur }); date = None }) })

abbrev bought_on : ℕ → ℕ → ℤ → Option AmountGiven
bought_on date units cost = Some (record { number = pos units; commodity = sensor; braces = Some (record { cost = Some (record { number = cost; commodity = eur }); date = Some date }) })

abbrev sold : ℕ → Option AmountGiven
sold units = Some (record { number = neg_ℤ (pos units); commodity = sensor; braces = Some (record { cost = None; date = None }) })

abbrev refused : Refusal → ℕ → Outcome
refused refusal line = Refused (fault_at line refusal)

-- two commodities and three accounts; the bank keeps EUR alone
abbrev names : List Call
names = declaring 1 20240101 eur ∷ declaring 2 20240101 sensor ∷ opening 3 20240101 stock None ∷ opening 4 20240101 bank (Some eur) ∷ opening 5 20240101 gains None ∷ []

abbrev named : List Outcome
named = Declared 1 ∷ Declared 2 ∷ Opened 1 ∷ Opened 2 ∷ Opened 3 ∷ []

-- 10 bought at 24.50 and 4 at 26.00, each against a blank; then 12 sold for 300.00, and a blank for the gain
abbrev trade : List Call
trade =
    names
    ++ (beginning 6 20240103 Complete ∷ posting 1 7 stock (bought 1000 (pos 2450)) ∷ posting 1 8 bank None ∷ settling 1 10000
    ∷ beginning 9 20240201 Complete ∷ posting 2 10 stock (bought 400 (pos 2600)) ∷ posting 2 11 bank None ∷ settling 2 10000
    ∷ beginning 12 20240301 Complete ∷ posting 3 13 stock (sold 1200) ∷ posting 3 14 bank (plain (pos 30000)) ∷ posting 3 15 gains None ∷ settling 3 10000 ∷ [])

abbrev traded : List Outcome
traded =
    named
    ++ (Begun 1 ∷ Done ∷ Done ∷ Settled 1
    ∷ Begun 2 ∷ Done ∷ Done ∷ Settled 2
    ∷ Begun 3 ∷ Done ∷ Done ∷ Done ∷ Settled 3 ∷ [])

abbrev first_lot : LotRow
first_lot = record { key = record { account = 1; commodity = 2; cost = record { number = 2450; commodity = 1 }; date = 20240103 }; units = 1000; serial = 1 }

abbrev second_lot : LotRow
second_lot = record { key = record { account = 1; commodity = 2; cost = record { number = 2600; commodity = 1 }; date = 20240201 }; units = 400; serial = 2 }

-- what is left of the second lot is asserted, and stands in the way of closing its account
abbrev afterwards : List Call
afterwards =
    asserting 16 20240301 stock (pos 200) sensor ∷ asserting 17 20240302 stock (pos 200) sensor ∷ asserting 18 20240302 stock (pos 1400) sensor ∷ asserting 19 20240302 (codes "Assets") (pos 200) sensor
    ∷ closing 20 20240302 stock ∷ tearing 3 ∷ []

abbrev answered_afterwards : List Outcome
answered_afterwards = refused GoesBack 16 ∷ Done ∷ refused BalanceDiffers 18 ∷ refused BadAccountName 19 ∷ refused AccountNotEmpty 20 ∷ refused NoSuchDraft 0 ∷ []

-- A van below the stock, and a stockroom beside it. The van's sensors have a lot date of their own, before that of the stock's.
abbrev branches : List Call
branches =
    names
    ++ (opening 6 20240101 van None ∷ opening 7 20240101 (codes "Assets:Stockroom") None
    ∷ beginning 8 20240102 Complete ∷ posting 1 9 stock (bought 500 (pos 1000)) ∷ posting 1 10 van (bought_on 20231201 300 (pos 1100)) ∷ posting 1 11 (codes "Assets:Stockroom") (bought 100 (pos 1000)) ∷ posting 1 12 bank None ∷ settling 1 10000
    ∷ asserting 13 20240103 stock (pos 800) sensor ∷ asserting 14 20240103 van (pos 300) sensor ∷ asserting 15 20240103 (codes "Assets:Shelf") (pos 0) sensor
    ∷ closing 16 20240103 gains ∷ beginning 17 20240104 Complete ∷ posting 2 18 gains None ∷ tearing 2 ∷ opening 19 20240104 gains None ∷ asserting 20 20240104 gains (pos 0) eur ∷ [])

abbrev branched : List Outcome
branched =
    named
    ++ (Opened 4 ∷ Opened 5
    ∷ Begun 1 ∷ Done ∷ Done ∷ Done ∷ Done ∷ Settled 1
    ∷ Done ∷ Done ∷ refused AccountNotOpen 15
    ∷ Done ∷ Begun 2 ∷ refused AccountNotOpen 18 ∷ Done ∷ refused AccountOpenedBefore 19 ∷ Done ∷ [])

abbrev sensors_in : ℕ → ℕ → ℕ → ℕ → ℕ → LotRow
sensors_in account cost date units serial = record { key = record { account = account; commodity = 2; cost = record { number = cost; commodity = 1 }; date = date }; units = units; serial = serial }

-- a purchase of 2.50 at 3.33 against a posting to the bank
abbrev pub against : Option AmountGiven → List Call
against amount = names ++ (beginning 6 20240102 Complete ∷ posting 1 7 stock (bought 250 (pos 333)) ∷ posting 1 8 bank amount ∷ settling 1 10000 ∷ [])

-- the example of the record's layout: four sensors, and a supplier's blank
abbrev invoice : List Call
invoice =
    declaring 2 20240301 eur ∷ declaring 3 20240301 sensor ∷ opening 4 20240301 stock None ∷ opening 5 20240301 (codes "Liabilities:Supplier") None
    ∷ beginning 6 20240304 Incomplete ∷ posting 1 7 stock (bought 400 (pos 1250)) ∷ posting 1 8 (codes "Liabilities:Supplier") None ∷ settling 1 100 ∷ []

abbrev invoice_record : List ℕ
invoice_record =
    0x01 ∷ 0x00 ∷ 0x0a ∷ 0x00 ∷ 0x01 ∷ 0x00 ∷ 0x00 ∷ 0x00 ∷ 0x02 ∷ 0x00 ∷ 0x00 ∷ 0x00 ∷ 0x18 ∷ 0x00 ∷ 0x00 ∷ 0x00 ∷ 0x60 ∷ 0x00 ∷ 0x00 ∷ 0x00 ∷ 0x02 ∷ 0x00 ∷ 0x00 ∷ 0x00
    ∷ 0x07 ∷ 0x00 ∷ 0x00 ∷ 0x00 ∷ 0x01 ∷ 0x00 ∷ 0x00 ∷ 0x00 ∷ 0xb0 ∷ 0xd7 ∷ 0x34 ∷ 0x01 ∷ 0x01 ∷ 0x00 ∷ 0x02 ∷ 0x02 ∷ 0x90 ∷ 0x01 ∷ 0x00 ∷ 0x00 ∷ 0xe2 ∷ 0x04 ∷ 0x00 ∷ 0x00
    ∷ 0xb0 ∷ 0xd7 ∷ 0x34 ∷ 0x01 ∷ 0x01 ∷ 0x00 ∷ 0x00 ∷ 0x00 ∷ 0x01 ∷ 0x01 ∷ 0x00 ∷ 0x00
    ∷ 0x08 ∷ 0x00 ∷ 0x00 ∷ 0x00 ∷ 0x01 ∷ 0x00 ∷ 0x00 ∷ 0x00 ∷ 0xb0 ∷ 0xd7 ∷ 0x34 ∷ 0x01 ∷ 0x02 ∷ 0x00 ∷ 0x01 ∷ 0x04 ∷ 0x78 ∷ 0xec ∷ 0xff ∷ 0xff ∷ 0x00 ∷ 0x00 ∷ 0x00 ∷ 0x00
    ∷ 0x00 ∷ 0x00 ∷ 0x00 ∷ 0x00 ∷ 0x00 ∷ 0x00 ∷ 0x00 ∷ 0x00 ∷ 0x00 ∷ 0x01 ∷ 0x00 ∷ 0x00 ∷ []

pub record WorkedRun : Type 0 where
  pub outcomes_are : outcomes fifo empty_ledger (trade ++ afterwards) ≡ traded ++ answered_afterwards
  pub lots_are : (state_after fifo empty_ledger trade).books.table ≡ record { lots = record { key = second_lot.key; units = 200; serial = 2 } ∷ []; next = 3 }
  pub bank_has : plain_balance_of (state_after fifo empty_ledger trade) 2 1 ≡ Ok (neg_ℤ (pos 4900))
  pub gains_are : plain_balance_of (state_after fifo empty_ledger trade) 3 1 ≡ Ok (neg_ℤ (pos 300))
  pub stock_holds : holding_of (state_after fifo empty_ledger trade) 1 2 ≡ Ok (pos 200)
  pub entries_are : all_entries (history_of fifo trade traded).settlements ≡
      entry 7 (Bought first_lot.key 1000 1) ∷ entry 8 (Filled 2 (neg_ℤ (pos 24500)) 1)
      ∷ entry 10 (Bought second_lot.key 400 2) ∷ entry 11 (Filled 2 (neg_ℤ (pos 10400)) 1)
      ∷ entry 13 (Drew (record { lot = first_lot; units = 1000 })) ∷ entry 13 (Drew (record { lot = second_lot; units = 200 })) ∷ entry 14 (PlainAmount 2 (pos 30000) 1) ∷ entry 15 (Filled 3 (neg_ℤ (pos 300)) 1) ∷ []
  pub branches_are : outcomes fifo empty_ledger branches ≡ branched
  pub branch_lots_are : (state_after fifo empty_ledger branches).books.table.lots ≡ sensors_in 1 1000 20240102 500 1 ∷ sensors_in 4 1100 20231201 300 2 ∷ sensors_in 5 1000 20240102 100 3 ∷ []
  pub against_an_amount : outcomes fifo empty_ledger (against (plain (neg_ℤ (pos 833)))) ≡ named ++ (Begun 1 ∷ Done ∷ Done ∷ refused NotBalanced 6 ∷ [])
  pub against_a_blank : outcomes fifo empty_ledger (against None) ≡ named ++ (Begun 1 ∷ Done ∷ Done ∷ refused BlankCannotBeFilled 6 ∷ [])
  pub record_is : record_after_calls (whole_lot fifo) empty_ledger invoice (replicate 100 7) ≡ invoice_record ++ (7 ∷ 7 ∷ 7 ∷ 7 ∷ [])
