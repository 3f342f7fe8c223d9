-- The list of refusals: each case, its number and its layer, once. Assumes nothing.
use Rattle.std.specs.Prelude.{ℕ, ◌≡◌, List, codes}
use Rattle.refusal.specs.declared.Refusal.{Refusal}
use Rattle.refusal.specs.declared.Refusal.TheVariants as refused
use Rattle.refusal.specs.declared.Layer.{Layer}
use Rattle.refusal.specs.declared.Layer.TheVariants.{Host, Text, Books, Lots, Weights, Buffers}

-- a refusal's number and layer
abbrev pub listed : Refusal → ℕ × Layer
listed refused.DraftUnderWay = (1, Host)
listed refused.NoSuchDraft = (2, Host)
listed refused.NothingThere = (3, Host)
listed refused.WrongByte = (4, Text)
listed refused.UnknownForm = (5, Text)
listed refused.BadDate = (6, Text)
listed refused.BadAccountName = (7, Text)
listed refused.BadCommodityName = (8, Text)
listed refused.BadNumber = (9, Text)
listed refused.BadQuotedText = (10, Text)
listed refused.BadBraces = (11, Text)
listed refused.GoesBack = (12, Books)
listed refused.CommodityDeclaredAlready = (13, Books)
listed refused.CommodityNotDeclared = (14, Books)
listed refused.AccountOpenedBefore = (15, Books)
listed refused.AccountNotOpen = (16, Books)
listed refused.NotTheOwnCommodity = (17, Books)
listed refused.TooManyPostings = (18, Books)
listed refused.SecondBlank = (19, Books)
listed refused.BracesWithoutUse = (20, Books)
listed refused.LotTooLarge = (21, Lots)
listed refused.TooFewUnits = (22, Lots)
listed refused.NotSettledByPolicy = (23, Lots)
listed refused.TooManyLots = (24, Lots)
listed refused.NotBalanced = (25, Weights)
listed refused.BlankCannotBeFilled = (26, Weights)
listed refused.BalanceTooLarge = (27, Weights)
listed refused.BalanceDiffers = (28, Books)
listed refused.AccountNotEmpty = (29, Books)
listed refused.BooksFull = (30, Books)
listed refused.RecordTooShort = (31, Buffers)
listed refused.TooManyRows = (32, Buffers)

abbrev pub number_of : Refusal → ℕ
number_of r = (listed r).0

abbrev pub layer_of : Refusal → Layer
layer_of r = (listed r).1

-- no other refusal has this one's number
abbrev pub Alone : Refusal → Type 0
Alone r = (other : Refusal) → number_of other ≡ number_of r → other ≡ r

-- a layer's name as it is printed
abbrev pub name_of : Layer → List ℕ
name_of Host = codes "host"
name_of Text = codes "text"
name_of Books = codes "books"
name_of Lots = codes "lots"
name_of Weights = codes "weights"
name_of Buffers = codes "buffers"
