-- Bytes written behind one another, and over a part of a record.
use Rattle.std.proofs.Common.{◌≡◌, ℕ, ◌+◌, ◌*◌, ◌<◌, List, [], ◌∷◌, ◌++◌, length, get_or, take, drop, pos, sym, refl, ap, ◌∙◌, subst, arith}
use borrow.Rule.Slice.PartMut.{put_mid}
use Rattle.std.proofs.lemmas.List.{take_more, append_assoc, length-append, length-take-le, take_at, drop_at, drop-drop, get_or_at}
use Rattle.std.proofs.lemmas.Grind.{flat_map-append}
use Rattle.values.specs.declared.flag.Flag.TheVariants.{Complete}
use Rattle.record.specs.declared.rows.RowKind.TheVariants.{Plain}
use Rattle.record.specs.declared.rows.Row.{Row}
use Rattle.record.specs.Layout.{row_length, row_bytes, rows_bytes}
use Rattle.record.specs.Promises.{Sized, AllSized}

abbrev pub no_row : Row
no_row = record { line = 0; transaction = 0; date = 0; account = 0; commodity = 0; kind = Plain; units = pos 0; flag = Complete }

pub rows_bytes_length : (rows : List Row) → length (rows_bytes rows) ≡ row_length * length rows
rows_bytes_length [] = refl
rows_bytes_length (r ∷ rs) = let ih = rows_bytes_length rs in omega arith

-- `new` written over the k bytes behind `front`
write_more : (front new d out : List ℕ) (n k m : ℕ) → length front ≡ n → k ≡ m → out ≡ front ++ drop n d → put_mid n k out new ≡ (front ++ new) ++ drop (n + m) d
write_more front new d out n k m size width is =
    rw (is, width, take_at front (drop n d) n size, drop_at front (drop n d) n size, drop-drop m n d) (sym (append_assoc front new (drop (n + m) d)))

-- one row more
pub rows_more : (rows : List Row) (i k : ℕ) (d out new : List ℕ) → i < length rows → k ≡ row_length → new ≡ row_bytes (get_or rows i no_row)
    → out ≡ rows_bytes (take i rows) ++ drop (row_length * i) d → put_mid (row_length * i) k out new ≡ rows_bytes (take (i + 1) rows) ++ drop (row_length * (i + 1)) d
rows_more rows i k d out new h width is was =
    let size : length (rows_bytes (take i rows)) ≡ row_length * i = rows_bytes_length (take i rows) ∙ ap (λ n. row_length * n) (length-take-le i rows (omega arith)) in
    let next : rows_bytes (take (i + 1) rows) ≡ rows_bytes (take i rows) ++ row_bytes (get_or rows i no_row) = ap rows_bytes (take_more rows i no_row h) ∙ flat_map-append row_bytes (take i rows) (get_or rows i no_row ∷ []) in
    let on : row_length * (i + 1) ≡ row_length * i + row_length = omega arith in
    write_more (rows_bytes (take i rows)) new d out (row_length * i) k row_length size width was ∙ rw (is, next, on)

-- rows that keep to their widths one by one
pub all_sized : (rows : List Row) → ((k : ℕ) → k < length rows → Sized (get_or rows k no_row)) → AllSized rows
all_sized rows each before r behind split =
    let within : length before < length rows = omega (arith, ap length split, length-append before (r ∷ behind)) in
    let there : get_or rows (length before) no_row ≡ r = rw split (get_or_at before r behind no_row (length before) refl) in
    subst Sized there (each (length before) within)
