-- As many rows as the header counts, of those that are there.
use Rattle.std.proofs.Common.{◌≡◌, ℕ, ◌/◌, ◌≤◌, true, leb, List, [], length, min, take, drop, sym, ap, ◌∙◌, arith}
use Rattle.std.proofs.lemmas.Bool.{cond-true}
use Rattle.std.proofs.lemmas.Bool.Decides.{nat_tests}
use Rattle.std.proofs.lemmas.List.{take_min}
use Rattle.std.specs.Simd.{first_chunks}
use Rattle.record.specs.Promises.{number_at}
use Rattle.pages.specs.Rows.{rows_in}

pub rows_there : (book : List ℕ) {rows : List (List ℕ)} {written n : ℕ} → 24 ≤ length book → n ≡ min written (length rows) → written ≡ number_at book 8 4 → rows ≡ first_chunks 36 (length (drop 24 book) / 36) (drop 24 book) → take n rows ≡ rows_in book
rows_there book {rows} {written} {n} room few counted front =
    let enough : leb 24 (length book) ≡ true = grind (arith, nat_tests) in
    ap (λ (k : ℕ). take k rows) few ∙ take_min written rows ∙ ap (λ (k : ℕ). take k rows) counted ∙ ap (take (number_at book 8 4)) front
    ∙ sym (cond-true (leb 24 (length book)) (take (number_at book 8 4) (first_chunks 36 (length (drop 24 book) / 36) (drop 24 book))) [] enough)
