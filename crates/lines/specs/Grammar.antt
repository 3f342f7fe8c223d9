-- The written forms of a line, and what each says. Assumes nothing.
use Rattle.std.specs.Prelude.{◌≡◌, ℕ, ◌+◌, ◌≤◌, List, [], ◌∷◌, ◌++◌, length, Some, None, Ok, Err, codes, Option, Result, ◌≢◌}
use Rattle.std.specs.List.{AllByRecursion}
use Rattle.refusal.specs.declared.Fault.{Fault}
use Rattle.values.specs.Spelling.{Starts, IsCommodityName, IsAccountName}
use Rattle.fields.specs.Denotes.{Denotes, WritesDate, FieldEnds, Quotes}
use Rattle.fields.specs.Spots.{Spot}
use Rattle.lines.specs.Said.{Said, booking_method, commodity, opening, closing, balance, transaction, posting, CostSaid, BracesSaid, empty, cost, date, cost_and_date, UnitsSaid}
use Rattle.lines.specs.declared.directive.Method.{Method}
use Rattle.lines.specs.declared.directive.Method.TheVariants.{Strict, Fifo, Lifo}
use Rattle.values.specs.declared.flag.Flag.{Flag}
use Rattle.values.specs.declared.flag.Flag.TheVariants.{Complete, Incomplete}

abbrev pub Spaces : List ℕ → Type 0
Spaces t = AllByRecursion (λ b. b ≡ 32) t

-- a word: some bytes, none of them a space
pub record Word (t : List ℕ) : Type 0 where
  pub some : 1 ≤ length t
  pub unspaced : AllByRecursion (λ b. b ≢ 32) t

-- a text at the place p starts with the field f, behind spaces or none; `rest` stands behind it, at the place q
pub record Next (p : ℕ) (t : List ℕ) (f : Spot) (rest : List ℕ) (q : ℕ) : Type 0 where
  pub gap : List ℕ
  pub spelled : t ≡ gap ++ (f.text ++ rest)
  pub spaces : Spaces gap
  pub word : Word f.text
  pub place : f.place ≡ p + length gap
  pub ends : FieldEnds rest
  pub behind : q ≡ f.place + length f.text

-- it starts with several fields
abbrev pub Front : ℕ → List ℕ → List Spot → List ℕ → ℕ → Type 0
Front p t [] rest q = (t ≡ rest) × (p ≡ q)
Front p t (f ∷ fs) rest q = (more : List ℕ) × (r : ℕ) × Next p t f more r × Front r more fs rest q

-- it has these fields and no other
abbrev pub Fields : ℕ → List ℕ → List Spot → Type 0
Fields p t fs = (rest : List ℕ) × (q : ℕ) × Front p t fs rest q × Spaces rest

-- it starts with a quoted text, which bears the place of its first quote
pub record Quoted (p : ℕ) (t : List ℕ) (f : Spot) (rest : List ℕ) (q : ℕ) : Type 0 where
  pub gap : List ℕ
  pub after : List ℕ
  pub spelled : t ≡ gap ++ after
  pub spaces : Spaces gap
  pub quotes : Quotes after f.text rest
  pub place : f.place ≡ p + length gap
  pub behind : q ≡ f.place + length f.text + 2

-- a line that starts with a date at its first byte, and then a word
pub record Dated (line : List ℕ) (date : ℕ) (word : List ℕ) (rest : List ℕ) (q : ℕ) : Type 0 where
  pub day : Spot
  pub keyword : Spot
  pub front : Front 1 line (day ∷ keyword ∷ []) rest q
  pub first : day.place ≡ 1
  pub writes : WritesDate day.text date
  pub says : keyword.text ≡ word

-- what stands behind the words `commodity`, `open`, `close` and `balance`

abbrev pub CommodityForm : ℕ → List ℕ → Spot → Type 0
CommodityForm q rest name = Fields q rest (name ∷ []) × IsCommodityName name.text

abbrev pub OpenForm : ℕ → List ℕ → Spot → Option Spot → Type 0
OpenForm q rest account None = Fields q rest (account ∷ []) × IsAccountName account.text
OpenForm q rest account (Some own) = Fields q rest (account ∷ own ∷ []) × IsAccountName account.text × IsCommodityName own.text

abbrev pub CloseForm : ℕ → List ℕ → Spot → Type 0
CloseForm q rest account = Fields q rest (account ∷ []) × IsAccountName account.text

-- a cost: a number without a minus, spaces, and a commodity
pub record CostForm (p : ℕ) (t : List ℕ) (c : CostSaid) : Type 0 where
  pub gap : List ℕ
  pub spelled : t ≡ c.number.text ++ (gap ++ c.commodity.text)
  pub spaces : Spaces gap
  pub some : 1 ≤ length gap
  pub denotes : Denotes c.number.text c.hundredths
  pub unsigned : Starts (λ b. b ≢ 45) c.number.text
  pub name : IsCommodityName c.commodity.text
  pub number_place : c.number.place ≡ p
  pub name_place : c.commodity.place ≡ p + (length c.number.text + length gap)

-- what stands between braces, at the place p: nothing, a cost, a date, or both with a comma and a space between
abbrev pub BracesForm : ℕ → List ℕ → BracesSaid → Type 0
BracesForm p t empty = t ≡ []
BracesForm p t (cost c) = CostForm p t c
BracesForm p t (date d) = WritesDate t d
BracesForm p t (cost_and_date c d) = (a : List ℕ) × (b : List ℕ) × (t ≡ a ++ 44 ∷ (32 ∷ b)) × CostForm p a c × WritesDate b d

-- braces close the line
pub record Braced (q : ℕ) (t : List ℕ) (b : BracesSaid) : Type 0 where
  pub gap : List ℕ
  pub inside : List ℕ
  pub tail : List ℕ
  pub spelled : t ≡ gap ++ 123 ∷ (inside ++ 125 ∷ tail)
  pub spaces : Spaces gap
  pub spaces_behind : Spaces tail
  pub form : BracesForm (q + length gap + 1) inside b

-- a posting's number and commodity, with braces or without
abbrev pub UnitsForm : ℕ → List ℕ → UnitsSaid → Option BracesSaid → Type 0
UnitsForm q rest u None = Fields q rest (u.number ∷ u.commodity ∷ []) × Denotes u.number.text u.hundredths × IsCommodityName u.commodity.text
UnitsForm q rest u (Some b) = (more : List ℕ) × (r : ℕ) × Front q rest (u.number ∷ u.commodity ∷ []) more r × Denotes u.number.text u.hundredths × IsCommodityName u.commodity.text × Braced r more b

abbrev pub PostingForm : List ℕ → Spot → Option UnitsSaid → Type 0
PostingForm line account None = Fields 1 line (account ∷ []) × IsAccountName account.text
PostingForm line account (Some u) = (rest : List ℕ) × (q : ℕ) × Next 1 line account rest q × IsAccountName account.text × UnitsForm q rest u u.braces

abbrev pub flag_sign : Flag → List ℕ
flag_sign Complete = codes "*"
flag_sign Incomplete = codes "!"

abbrev pub method_name : Method → List ℕ
method_name Strict = codes "STRICT"
method_name Fifo = codes "FIFO"
method_name Lifo = codes "LIFO"

-- the option line: its first byte starts the word, and two quoted texts follow
pub record OptionForm (line : List ℕ) (m : Method) : Type 0 where
  pub keyword : Spot
  pub name : Spot
  pub value : Spot
  pub after_keyword : List ℕ
  pub at_name : ℕ
  pub after_name : List ℕ
  pub at_value : ℕ
  pub tail : List ℕ
  pub at_tail : ℕ
  pub opens : Next 1 line keyword after_keyword at_name
  pub first : keyword.place ≡ 1
  pub says : keyword.text ≡ codes "option"
  pub named : Quoted at_name after_keyword name after_name at_value
  pub which : name.text ≡ codes "booking_method"
  pub given : Quoted at_value after_name value tail at_tail
  pub method : value.text ≡ method_name m
  pub ends : Spaces tail

-- the forms of a line, by what it says
abbrev pub Form : ℕ → List ℕ → Said → Type 0
Form number line (booking_method m) = (number ≡ 1) × OptionForm line m
Form number line (commodity d name) = (rest : List ℕ) × (q : ℕ) × Dated line d (codes "commodity") rest q × CommodityForm q rest name
Form number line (opening d account own) = (rest : List ℕ) × (q : ℕ) × Dated line d (codes "open") rest q × OpenForm q rest account own
Form number line (closing d account) = (rest : List ℕ) × (q : ℕ) × Dated line d (codes "close") rest q × CloseForm q rest account
Form number line (balance d account n v c) = (rest : List ℕ) × (q : ℕ) × Dated line d (codes "balance") rest q × Fields q rest (account ∷ n ∷ c ∷ []) × IsAccountName account.text × Denotes n.text v × IsCommodityName c.text
Form number line (transaction d flag text) = (rest : List ℕ) × (q : ℕ) × (tail : List ℕ) × (r : ℕ) × Dated line d (flag_sign flag) rest q × Quoted q rest text tail r × Spaces tail
Form number line (posting p) = Starts (λ b. b ≡ 32) line × PostingForm line p.account p.units

-- a line has at most 120 bytes, each of 32 to 126
pub record Clean (line : List ℕ) : Type 0 where
  pub short : length line ≤ 120
  pub printable : AllByRecursion (λ b. (32 ≤ b) × (b ≤ 126)) line

-- the line of a number says nothing: it is blank
abbrev pub BlankLine : List ℕ → Type 0
BlankLine line = (length line ≤ 120) × Spaces line

-- the line of a number is written in a form that says s
abbrev pub Written : ℕ → List ℕ → Said → Type 0
Written number line s = Clean line × Form number line s

-- What is read of the line of a number is just what is written there: nothing of a blank line, of another what its form
-- says and no form says anything else, and a line is refused only if it is neither blank nor written in any form.
abbrev pub ReadsExactly : ℕ → List ℕ → Result (Option Said) Fault → Type 0
ReadsExactly number line (Ok None) = BlankLine line
ReadsExactly number line (Ok (Some s)) = Written number line s × ((other : Said) → Written number line other → other ≡ s)
ReadsExactly number line (Err f) = (BlankLine line → ⊥) × ((s : Said) → Written number line s → ⊥)
