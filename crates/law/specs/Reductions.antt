-- Reductions draw by the policy, and settling answers 22 and 23 exactly where it reaches a reduction that asks for it.
use Rattle.std.specs.Prelude.{◌≡◌, ℕ, true, ◌⊎◌, List, [], ◌∷◌, Some, None, Option, ◌≢◌}
use Rattle.std.specs.List.{flat_map}
use Rattle.refusal.specs.Table.{number_of}
use Rattle.lots.specs.Orders.{Order}
use Rattle.matching.specs.declared.wanted.Draw.{Draw}
use Rattle.matching.specs.Matching.{matches}
use Rattle.matching.specs.Drawn.{Drawn, TooFew, Unsettled}
use Rattle.stock.specs.Tables.{Table}
use Rattle.booking.specs.declared.posting.Posting.{Posting}
use Rattle.booking.specs.declared.posting.PostingKind.{PostingKind}
use Rattle.booking.specs.declared.posting.PostingKind.TheVariants.{Blank, Plain, Purchase, Reduction}
use Rattle.booking.specs.declared.entry.Entry.{Entry}
use Rattle.booking.specs.declared.entry.EntryKind.{EntryKind}
use Rattle.booking.specs.declared.entry.EntryKind.TheVariants.{PlainAmount, Unfilled, Filled, Bought, Drew}
use Rattle.booking.specs.Postings.{wanted_lots, table_after_kind, table_after_posting, entries_of_kind, posting_refusal}
use Rattle.books.specs.declared.outcome.Outcome.{Outcome}
use Rattle.books.specs.declared.outcome.Outcome.TheVariants.{Declared, Opened, Begun, Settled, Done, Refused}
use Rattle.booking.specs.declared.draft.Draft.{Draft}
use Rattle.books.specs.Calls.{Call, declaring, opening, asserting, closing, beginning, posting, settling, tearing, writing_header}
use Rattle.law.specs.Histories.{History, accepted, after_call}

-- the draws among entries, in their order
abbrev pub draw_in_kind : EntryKind → List Draw
draw_in_kind (PlainAmount account amount commodity) = []
draw_in_kind (Unfilled account) = []
draw_in_kind (Filled account amount commodity) = []
draw_in_kind (Bought key units serial) = []
draw_in_kind (Drew draw) = draw ∷ []

abbrev pub draws_among : List Entry → List Draw
draws_among es = flat_map (λ e. draw_in_kind e.kind) es

-- A reduction draws exactly its units, from matching lots alone, in the policy's order, from a lot only if every matching
-- lot that the policy puts earlier is emptied by it, and changes nothing else (`Drawn`). Its entries are these draws.
abbrev pub KindDraws : Order → ℕ → ℕ → ℕ → Table → PostingKind → Type 0
KindDraws o day line a t Blank = Unit {0}
KindDraws o day line a t (Plain amount commodity) = Unit {0}
KindDraws o day line a t (Purchase units commodity cost date) = Unit {0}
KindDraws o day line a t (Reduction units commodity cost date) =
    Drawn (matches (wanted_lots a commodity cost date)) (o.before units) units t.lots (table_after_kind o day a t (Reduction units commodity cost date)).lots (draws_among (entries_of_kind o day line a t (Reduction units commodity cost date)))

-- each reduction of a draft draws so, upon the lots that the postings before it leave
abbrev pub DrawsByPolicy : Order → ℕ → Table → List Posting → Type 0
DrawsByPolicy o day t [] = Unit {0}
DrawsByPolicy o day t (p ∷ ps) = KindDraws o day p.line p.account t p.kind × DrawsByPolicy o day (table_after_posting o day t p) ps

-- a reduction of more units than the matching lots hold
abbrev pub AsksTooMany : ℕ → Table → PostingKind → Type 0
AsksTooMany a t Blank = ⊥
AsksTooMany a t (Plain amount commodity) = ⊥
AsksTooMany a t (Purchase units commodity cost date) = ⊥
AsksTooMany a t (Reduction units commodity cost date) = TooFew (matches (wanted_lots a commodity cost date)) units t.lots

-- a reduction that the matching lots cover, and that the policy, asked with the earliest of them, does not settle
abbrev pub IsUnsettled : Order → ℕ → Table → PostingKind → Type 0
IsUnsettled o a t Blank = ⊥
IsUnsettled o a t (Plain amount commodity) = ⊥
IsUnsettled o a t (Purchase units commodity cost date) = ⊥
IsUnsettled o a t (Reduction units commodity cost date) = Unsettled o (matches (wanted_lots a commodity cost date)) units t.lots

-- a posting of which P holds is reached: no posting before it meets one of 21 to 24
abbrev pub Reaches : Order → ℕ → (ℕ → Table → PostingKind → Type 0) → Table → List Posting → Type 0
Reaches o day P t [] = ⊥
Reaches o day P t (p ∷ ps) = P p.account t p.kind ⊎ ((posting_refusal o day t p ≡ None) × Reaches o day P (table_after_posting o day t p) ps)

abbrev pub DraftReaches : Order → (ℕ → Table → PostingKind → Type 0) → Table → Option Draft → Type 0
DraftReaches o P t None = ⊥
DraftReaches o P t (Some d) = Reaches o d.date P t d.postings

abbrev pub DraftDraws : Order → Table → Option Draft → Type 0
DraftDraws o t None = Unit {0}
DraftDraws o t (Some d) = DrawsByPolicy o d.date t d.postings

-- the number of the refusal, if there is one
abbrev pub refused_number : Outcome → Option ℕ
refused_number (Declared number) = None
refused_number (Opened number) = None
refused_number (Begun slip) = None
refused_number (Settled number) = None
refused_number Done = None
refused_number (Refused fault) = Some (number_of fault.refusal)

-- a number comes back exactly where a posting is reached that asks for it; a settling refused 2 reaches none
pub record RefusedWhere (x : Outcome) (n : ℕ) (Reached : Type 0) : Type 0 where
  pub only_where : refused_number x ≡ Some n → Reached
  pub wherever : (refused_number x ≢ Some 2) → Reached → refused_number x ≡ Some n

-- what holds of a settling upon what the calls before it leave
pub record Settling (o : Order) (h : History) (x : Outcome) : Type 0 where
  pub draws_by_policy : accepted x ≡ true → DraftDraws o h.table h.draft
  pub too_many_is_22 : RefusedWhere x 22 (DraftReaches o AsksTooMany h.table h.draft)
  pub unsettled_is_23 : RefusedWhere x 23 (DraftReaches o (IsUnsettled o) h.table h.draft)

abbrev pub IfSettling : Order → History → Call → Outcome → Type 0
IfSettling o h (declaring source date name) x = Unit {0}
IfSettling o h (opening source date name own) x = Unit {0}
IfSettling o h (asserting source date account amount commodity) x = Unit {0}
IfSettling o h (closing source date account) x = Unit {0}
IfSettling o h (beginning source date flag) x = Unit {0}
IfSettling o h (posting slip source account amount) x = Unit {0}
IfSettling o h (settling slip lent) x = Settling o h x
IfSettling o h (tearing slip) x = Unit {0}
IfSettling o h (writing_header lent) x = Unit {0}

-- each settling of a list of calls
abbrev pub EachSettling : Order → History → List Call → List Outcome → Type 0
EachSettling o h [] outs = Unit {0}
EachSettling o h (c ∷ cs) [] = Unit {0}
EachSettling o h (c ∷ cs) (x ∷ outs) = IfSettling o h c x × EachSettling o (after_call o h c x) cs outs
