use Rattle.std.proofs.Common.{◌≡◌, get_or, ap, ◌∙◌, w32, rules}
use Rattle.std.proofs.lemmas.Int.{to_z-of_z}
use Rattle.std.proofs.lemmas.Iterator.{YieldsList-from_slice}
use Rattle.std.proofs.lemmas.Iterator.Search.{position_from_yields_List}
use borrow.Author.Tests.{tests}
use Rattle.booking.specs.declared.entry.Entry.{Entry}
use Rattle.booking.specs.Weighing.{is_unfilled, filled_with}
use Rattle.booking.proofs.Blanks.{no_entry, place_found, place_missing, fill_at, fill_none}
use Rattle.booking.proofs.entries.Entries.fill_blank.Goals as goal

pub returns-in-Some-clause-filled : goal.returns-in-Some-clause-filled
returns-in-Some-clause-filled c =
    let es = c.as_slice-entries.result.now in
    let found = place_found es c.position.result c.in-Some.place (position_from_yields_List (λ (e : Entry). is_unfilled e.kind) _ _ c.position.result c.position.ensures.ran (YieldsList-from_slice es cc) (λ x b q k. search (rules, tests))) c.in-Some.is in
    let z = c.args.amount in
    let k = c.args.commodity in
    let i = c.in-Some.place in
    let same = c.as_slice-entries.ensures.listed in
    let kind : c.filled_with.result ≡ filled_with z k (get_or es i no_entry).kind = c.filled_with.ensures ∙ ap (λ y. filled_with y k (get_or es i no_entry).kind) (to_z-of_z w32 z c.ranges.amount) in
    let put = c.put.ensures.written in
    let filled = fill_at z k es no_entry found.1 in
    let place = found.0 in
    cc

pub returns-in_default-clause-filled : goal.returns-in_default-clause-filled
returns-in_default-clause-filled c =
    let es = c.as_slice-entries.result.now in
    let past = place_missing es c.position.result (position_from_yields_List (λ (e : Entry). is_unfilled e.kind) _ _ c.position.result c.position.ensures.ran (YieldsList-from_slice es cc) (λ x b q k. search (rules, tests))) c.in_default.is in
    let same = c.as_slice-entries.ensures.listed in
    let none = fill_none c.args.amount c.args.commodity es past in
    cc
