-- A text of records, and what is refused of others.
use Rattle.std.specs.Prelude.{ℕ, ◌≡◌, ◌+◌, ◌<◌, ◌≤◌, ◌^◌, ◌&&◌, nat_le, Bool, true, List, [], ◌∷◌, ◌++◌, codes, length, Option, None, Some}
use Rattle.std.specs.Fmt.{decimal}
use Rattle.std.specs.List.{flat_map, list_all}
use Rattle.logfmt.specs.Bounds.{LogValue}
use Rattle.epochs.specs.declared.part.By.{By}
use Rattle.report.specs.MarkReading.{lacks}
use Rattle.known_text.specs.declared.head.HeadLine.{HeadLine}
use Rattle.known_text.specs.declared.head.HeadLine.TheVariants.{Inputs, Program, Sum}
use Rattle.known_text.specs.declared.fault.KnownCause.TheVariants as cause
use Rattle.known_text.specs.declared.fault.KnownFault.{KnownFault}
use Rattle.known_text.specs.Records.{RanValue, IsRan}

-- of which log, what departs as one, and the number H
pub record Source : Type 0 where
  pub log : LogValue
  pub way : By
  pub inputs : ℕ

-- the most records of a text
abbrev pub most_records : ℕ
most_records = 1048576

-- THE LINES OF A HEAD

-- printable ASCII, and the same without a blank
abbrev pub is_printed : ℕ → Bool
is_printed b = nat_le 32 b && nat_le b 126

abbrev pub is_graphic : ℕ → Bool
is_graphic b = nat_le 33 b && nat_le b 126

pub record IsDecimal (word : List ℕ) : Type 0 where
  pub number : ℕ
  pub small : number < 2 ^ 64
  pub is : word ≡ decimal number

-- the words of a program
pub record AreWordsOfProgram (words : List ℕ) : Type 0 where
  pub some : 0 < length words
  pub printed : list_all is_printed words ≡ true

-- a sum, as who judges makes it
pub record IsSumWord (sum : List ℕ) : Type 0 where
  pub some : 0 < length sum
  pub few : length sum ≤ 128
  pub graphic : list_all is_graphic sum ≡ true

-- with what a line of a head begins after the title, and what stands after that
abbrev pub front_of : HeadLine → List ℕ
front_of Inputs = codes "inputs "
front_of Program = codes "program 0 outside "
front_of Sum = codes "sum "

abbrev pub HasForm : HeadLine → List ℕ → Type 0
HasForm Inputs word = IsDecimal word
HasForm Program word = AreWordsOfProgram word
HasForm Sum word = IsSumWord word

abbrev pub title : List ℕ
title = codes "crash known 1"

abbrev pub line_of : HeadLine → List ℕ → List ℕ
line_of kind word = front_of kind ++ word

-- what a head says
pub record HeadValue : Type 0 where
  pub words : List ℕ
  pub sum : List ℕ

pub record IsHead (h : HeadValue) : Type 0 where
  pub words : AreWordsOfProgram h.words
  pub sum : IsSumWord h.sum

abbrev pub head_lines : ℕ → HeadValue → List (List ℕ)
head_lines inputs h = title ∷ line_of Inputs (decimal inputs) ∷ line_of Program h.words ∷ line_of Sum h.sum ∷ []

-- A TEXT

-- a head, and the line of a record with what it says
pub data Piece : Type 0 where
  Head : Piece
  Ran : List ℕ → RanValue → Piece

abbrev pub lines_in : ℕ → HeadValue → Piece → List (List ℕ)
lines_in inputs h Head = head_lines inputs h
lines_in inputs h (Ran line run) = line ∷ []

abbrev pub runs_in : Piece → List RanValue
runs_in Head = []
runs_in (Ran line run) = run ∷ []

abbrev pub lines_of : ℕ → HeadValue → List Piece → List (List ℕ)
lines_of inputs h pieces = flat_map (lines_in inputs h) pieces

abbrev pub runs_of : List Piece → List RanValue
runs_of pieces = flat_map runs_in pieces

-- each record is one of the log
abbrev pub AreGood : Source → List Piece → Type 0
AreGood s [] = Unit {0}
AreGood s (Head ∷ pieces) = AreGood s pieces
AreGood s (Ran line run ∷ pieces) = IsRan s.log s.way line run × AreGood s pieces

-- lines with their newlines
abbrev pub ended : List ℕ → List ℕ
ended line = line ++ 10 ∷ []

abbrev pub bytes_of : List (List ℕ) → List ℕ
bytes_of lines = flat_map ended lines

-- Lines are those of heads, all the same, and of records, each after a head.
pub record AreLines (s : Source) (h : HeadValue) (lines : List (List ℕ)) (runs : List RanValue) : Type 0 where
  pub pieces : List Piece
  pub head : IsHead h
  pub good : AreGood s pieces
  pub is : lines ≡ lines_of s.inputs h (Head ∷ pieces)
  pub said : runs ≡ runs_of pieces
  pub few : length runs ≤ most_records

pub record IsText (s : Source) (bytes : List ℕ) (h : HeadValue) (runs : List RanValue) : Type 0 where
  pub lines : List (List ℕ)
  pub are : AreLines s h lines runs
  pub is : bytes ≡ bytes_of lines

-- The bytes are a text of records with that head; or they are empty, and have no head and no record.
abbrev pub IsKnown : Source → List ℕ → Option HeadValue → List RanValue → Type 0
IsKnown s bytes None runs = (bytes ≡ []) × (runs ≡ [])
IsKnown s bytes (Some h) runs = IsText s bytes h runs

-- they are that text, and no other
pub record IsKnownOnly (s : Source) (bytes : List ℕ) (head : Option HeadValue) (runs : List RanValue) : Type 0 where
  pub is : IsKnown s bytes head runs
  pub only : (other : Option HeadValue) (others : List RanValue) → IsKnown s bytes other others → (other ≡ head) × (others ≡ runs)

-- WHAT IS REFUSED

-- a text of records begins with these lines
pub record IsBegun (s : Source) (lines : List (List ℕ)) : Type 0 where
  pub h : HeadValue
  pub runs : List RanValue
  pub more : List (List ℕ)
  pub are : AreLines s h (lines ++ more) runs

-- bytes begin with a line of that kind, whose word has a property
pub record HasLine (kind : HeadLine) (P : List ℕ → Type 0) (bytes : List ℕ) : Type 0 where
  pub word : List ℕ
  pub more : List ℕ
  pub of_word : P word
  pub is : bytes ≡ line_of kind word ++ 10 ∷ more

-- after which line of a head one of that kind stands
abbrev pub StandsBefore : HeadLine → List ℕ → Type 0
StandsBefore Inputs line = line ≡ title
StandsBefore Program line = (word : List ℕ) × (line ≡ line_of Inputs word)
StandsBefore Sum line = (word : List ℕ) × (line ≡ line_of Program word)

-- a line of a head stands where it belongs, in its form
pub record IsInPlace (lines : List (List ℕ)) (rest : List ℕ) : Type 0 where
  pub kind : HeadLine
  pub front : List (List ℕ)
  pub last : List ℕ
  pub at : lines ≡ front ++ last ∷ []
  pub before : StandsBefore kind last
  pub has : HasLine kind (HasForm kind) rest

-- The bytes are refused at a line: the lines before it are those of a text, and no text goes on with it, or it isn't there whole and the
-- text isn't complete. Where it is a line of a head, in its place and in its form, it is another one than there has to be.
pub record IsRefused (s : Source) (bytes : List ℕ) (f : KnownFault) : Type 0 where
  pub lines : List (List ℕ)
  pub rest : List ℕ
  pub is : bytes ≡ bytes_of lines ++ rest
  pub at : f.line ≡ length lines + 1
  pub begun : IsBegun s lines
  pub stops : (line more : List ℕ) → lacks 10 line ≡ true → rest ≡ line ++ 10 ∷ more → IsBegun s (lines ++ line ∷ []) → ⊥
  pub none : (head : Option HeadValue) (runs : List RanValue) → IsKnown s bytes head runs → ⊥
  pub other : f.cause ≡ cause.Other → IsInPlace lines rest
  pub unread : f.cause ≡ cause.Line → IsInPlace lines rest → ⊥
