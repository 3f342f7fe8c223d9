-- What a line says behind its date, word by word.
use Rattle.std.proofs.Common.{◌≡◌, ℕ, Bool, true, false, cond, List, Option, Some, None, Err, codes, refl}
use Rattle.std.specs.Str.{bytes_eq}
use Rattle.values.specs.declared.flag.Flag.TheVariants.{Complete, Incomplete}
use Rattle.lines.specs.Directives.{keyword_named, by_keyword, commodity_from, open_from, close_from, balance_from, transaction_from}
use Rattle.lines.specs.declared.directives.Keyword.TheVariants.{Commodity, Open, Close, Balance, Transaction}
use Rattle.lines.specs.declared.fault.LineFault.TheVariants.{Form}

by_choice : {K A : Type 0} (f : Option K → A) (k₁ k₂ k₃ k₄ k₅ k₆ : Option K) (b₁ b₂ b₃ b₄ b₅ b₆ : Bool) → cond b₁ (f k₁) (cond b₂ (f k₂) (cond b₃ (f k₃) (cond b₄ (f k₄) (cond b₅ (f k₅) (cond b₆ (f k₆) (f None)))))) ≡ f (cond b₁ k₁ (cond b₂ k₂ (cond b₃ k₃ (cond b₄ k₄ (cond b₅ k₅ (cond b₆ k₆ None))))))
by_choice f k₁ k₂ k₃ k₄ k₅ k₆ true b₂ b₃ b₄ b₅ b₆ = refl
by_choice f k₁ k₂ k₃ k₄ k₅ k₆ false true b₃ b₄ b₅ b₆ = refl
by_choice f k₁ k₂ k₃ k₄ k₅ k₆ false false true b₄ b₅ b₆ = refl
by_choice f k₁ k₂ k₃ k₄ k₅ k₆ false false false true b₅ b₆ = refl
by_choice f k₁ k₂ k₃ k₄ k₅ k₆ false false false false true b₆ = refl
by_choice f k₁ k₂ k₃ k₄ k₅ k₆ false false false false false true = refl
by_choice f k₁ k₂ k₃ k₄ k₅ k₆ false false false false false false = refl

pub by_words : (line : List ℕ) (date place end : ℕ) (word : List ℕ) → cond (bytes_eq word (codes "commodity")) (commodity_from line date end) (cond (bytes_eq word (codes "open")) (open_from line date end) (cond (bytes_eq word (codes "close")) (close_from line date end) (cond (bytes_eq word (codes "balance")) (balance_from line date end) (cond (bytes_eq word (codes "*")) (transaction_from line date Complete end) (cond (bytes_eq word (codes "!")) (transaction_from line date Incomplete end) (Err (Form place))))))) ≡ by_keyword line date place end (keyword_named word)
by_words line date place end word =
    by_choice (by_keyword line date place end) (Some Commodity) (Some Open) (Some Close) (Some Balance) (Some (Transaction Complete)) (Some (Transaction Incomplete)) _ _ _ _ _ _
