-- A refusal by its number.
use Prim.Native.Nat.{ℕ, ◌-◌}
use mathlib.Core.Path.{◌≡◌, refl, sym, ◌∙◌, ap}
use mathlib.Core.List.{List, [], ◌∷◌}
use lib.ListN.{get_or}
use Rattle.refusal.specs.Table.{number_of, Alone}
use Rattle.refusal.specs.declared.Refusal.{Refusal}
use Rattle.refusal.specs.declared.Refusal.TheVariants as refused

abbrev in_order : List Refusal
in_order =
    refused.DraftUnderWay
    ∷ refused.NoSuchDraft
    ∷ refused.NothingThere
    ∷ refused.WrongByte
    ∷ refused.UnknownForm
    ∷ refused.BadDate
    ∷ refused.BadAccountName
    ∷ refused.BadCommodityName
    ∷ refused.BadNumber
    ∷ refused.BadQuotedText
    ∷ refused.BadBraces
    ∷ refused.GoesBack
    ∷ refused.CommodityDeclaredAlready
    ∷ refused.CommodityNotDeclared
    ∷ refused.AccountOpenedBefore
    ∷ refused.AccountNotOpen
    ∷ refused.NotTheOwnCommodity
    ∷ refused.TooManyPostings
    ∷ refused.SecondBlank
    ∷ refused.BracesWithoutUse
    ∷ refused.LotTooLarge
    ∷ refused.TooFewUnits
    ∷ refused.NotSettledByPolicy
    ∷ refused.TooManyLots
    ∷ refused.NotBalanced
    ∷ refused.BlankCannotBeFilled
    ∷ refused.BalanceTooLarge
    ∷ refused.BalanceDiffers
    ∷ refused.AccountNotEmpty
    ∷ refused.BooksFull
    ∷ refused.RecordTooShort
    ∷ refused.TooManyRows
    ∷ []

abbrev numbered : ℕ → Refusal
numbered n = get_or in_order (n - 1) refused.DraftUnderWay

found : (r : Refusal) → numbered (number_of r) ≡ r
found refused.DraftUnderWay = refl
found refused.NoSuchDraft = refl
found refused.NothingThere = refl
found refused.WrongByte = refl
found refused.UnknownForm = refl
found refused.BadDate = refl
found refused.BadAccountName = refl
found refused.BadCommodityName = refl
found refused.BadNumber = refl
found refused.BadQuotedText = refl
found refused.BadBraces = refl
found refused.GoesBack = refl
found refused.CommodityDeclaredAlready = refl
found refused.CommodityNotDeclared = refl
found refused.AccountOpenedBefore = refl
found refused.AccountNotOpen = refl
found refused.NotTheOwnCommodity = refl
found refused.TooManyPostings = refl
found refused.SecondBlank = refl
found refused.BracesWithoutUse = refl
found refused.LotTooLarge = refl
found refused.TooFewUnits = refl
found refused.NotSettledByPolicy = refl
found refused.TooManyLots = refl
found refused.NotBalanced = refl
found refused.BlankCannotBeFilled = refl
found refused.BalanceTooLarge = refl
found refused.BalanceDiffers = refl
found refused.AccountNotEmpty = refl
found refused.BooksFull = refl
found refused.RecordTooShort = refl
found refused.TooManyRows = refl

pub alone : (r : Refusal) → Alone r
alone r other e = sym (found other) ∙ ap numbered e ∙ found r
