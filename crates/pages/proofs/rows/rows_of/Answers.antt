use Rattle.std.proofs.Common.{◌≡◌, ℕ, ◌/◌, List, length, drop, ap, ◌∙◌, rules, arith}
use Rattle.std.specs.Simd.{first_chunks}
use Rattle.record.specs.Promises.{number_at}
use Rattle.pages.proofs.Reading.{rows_there}
use Rattle.pages.proofs.rows.rows_of.Goals as goal

pub returns : goal.returns
returns c =
    let counted : c.from_le_bytes-written.result ≡ number_at c.args.book.now 8 4 = search rules in
    let behind : c.split_at.result.1.now ≡ drop 24 c.args.book.now = search rules in
    rows_there c.args.book.now (omega arith) c.min.ensures counted (c.as_chunks.ensures.front ∙ ap (λ (xs : List ℕ). first_chunks 36 (length xs / 36) xs) behind)
