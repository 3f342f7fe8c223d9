-- The ranges of what a draft holds: a purchase is within a lot's ranges, a reduction asks for some units, and no entry has more
-- units than a lot can have.
use Rattle.std.specs.Prelude.{Bool, true, ◌&&◌, nat_le}
use Rattle.lots.specs.Rows.{most}
use Rattle.stock.specs.Promises.{draw_in_range}
use Rattle.booking.specs.declared.posting.Posting.{Posting}
use Rattle.booking.specs.declared.posting.PostingKind.{PostingKind}
use Rattle.booking.specs.declared.posting.PostingKind.TheVariants.{Blank, Plain, Purchase, Reduction}
use Rattle.booking.specs.declared.entry.Entry.{Entry}
use Rattle.booking.specs.declared.entry.EntryKind.{EntryKind}
use Rattle.booking.specs.declared.entry.EntryKind.TheVariants.{PlainAmount, Unfilled, Filled, Bought, Drew}

abbrev pub posting_kind_in_range : PostingKind → Bool
posting_kind_in_range Blank = true
posting_kind_in_range (Plain amount commodity) = true
posting_kind_in_range (Purchase units commodity cost date) = nat_le 1 units && (nat_le units most && nat_le cost.number most)
posting_kind_in_range (Reduction units commodity cost date) = nat_le 1 units

abbrev pub posting_in_range : Posting → Bool
posting_in_range p = posting_kind_in_range p.kind

abbrev pub entry_kind_in_range : EntryKind → Bool
entry_kind_in_range (PlainAmount account amount commodity) = true
entry_kind_in_range (Unfilled account) = true
entry_kind_in_range (Filled account amount commodity) = true
entry_kind_in_range (Bought key units serial) = nat_le units most
entry_kind_in_range (Drew draw) = draw_in_range draw

abbrev pub entry_in_range : Entry → Bool
entry_in_range e = entry_kind_in_range e.kind
