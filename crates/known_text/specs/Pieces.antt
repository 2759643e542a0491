-- What is read of heads and records, line by line.
use Rattle.std.specs.Prelude.{ℕ, ◌≡◌, ◌≢◌, ◌+◌, ◌≤◌, true, List, [], ◌∷◌, ◌++◌, length}
use Rattle.std.specs.Fmt.{decimal}
use Rattle.logfmt.specs.Bounds.{LogValue}
use Rattle.epochs.specs.declared.part.By.{By}
use Rattle.report.specs.MarkReading.{lacks}
use Rattle.known_text.specs.declared.head.HeadLine.{HeadLine}
use Rattle.known_text.specs.declared.head.HeadLine.TheVariants.{Inputs, Program, Sum}
use Rattle.known_text.specs.declared.head.KnownHead.{KnownHead}
use Rattle.known_text.specs.declared.fault.KnownCause.TheVariants as cause
use Rattle.known_text.specs.declared.fault.KnownFault.{KnownFault}
use Rattle.known_text.specs.Records.{RanValue, IsRan, IsRanOnly}
use Rattle.known_text.specs.Texts.{Source, HeadValue, IsHead, Piece, Head, Ran, HasForm, line_of, lines_in, lines_of, runs_in, runs_of, bytes_of, ended, title, most_records}

abbrev pub unread_at : ℕ → KnownFault
unread_at line = record { cause = cause.Line; line = line }

abbrev pub other_at : ℕ → KnownFault
other_at line = record { cause = cause.Other; line = line }

-- bytes begin with such a line of a head in its form, and that is its word
pub record HasWord (kind : HeadLine) (bytes word rest : List ℕ) : Type 0 where
  pub form : HasForm kind word
  pub is : bytes ≡ line_of kind word ++ 10 ∷ rest

pub record NoWord (kind : HeadLine) (bytes : List ℕ) : Type 0 where
  pub none : (word more : List ℕ) → HasForm kind word → bytes ≢ line_of kind word ++ 10 ∷ more

-- why there is no such line, and why there is none with that word
pub data AnyFault (kind : HeadLine) (bytes : List ℕ) (line : ℕ) (f : KnownFault) : Type 0 where
  any_memory : f.cause ≡ cause.Memory → AnyFault kind bytes line f
  any_unread : f ≡ unread_at line → NoWord kind bytes → AnyFault kind bytes line f

pub data WordFault (kind : HeadLine) (word bytes : List ℕ) (line : ℕ) (f : KnownFault) : Type 0 where
  word_any : AnyFault kind bytes line f → WordFault kind word bytes line f
  word_other : (said rest : List ℕ) → f ≡ other_at line → HasWord kind bytes said rest → said ≢ word → WordFault kind word bytes line f

-- what a head of the code says
abbrev pub head_said : KnownHead → HeadValue
head_said h = record { words = h.words.now; sum = h.sum.now }

-- bytes begin with the lines of the program and of the sum of a head, or with all after its title
pub record HasProgram (h : HeadValue) (bytes rest : List ℕ) : Type 0 where
  pub head : IsHead h
  pub is : bytes ≡ line_of Program h.words ++ 10 ∷ (line_of Sum h.sum ++ 10 ∷ rest)

pub record HasHead (inputs : ℕ) (h : HeadValue) (bytes rest : List ℕ) : Type 0 where
  pub last : List ℕ
  pub is : bytes ≡ line_of Inputs (decimal inputs) ++ 10 ∷ last
  pub has : HasProgram h last rest

-- why they don't, where the first of these lines has that number
pub data ProgramFault (h : HeadValue) (bytes : List ℕ) (line : ℕ) (f : KnownFault) : Type 0 where
  in_program : WordFault Program h.words bytes line f → ProgramFault h bytes line f
  in_sum : (rest : List ℕ) → bytes ≡ line_of Program h.words ++ 10 ∷ rest → WordFault Sum h.sum rest (line + 1) f → ProgramFault h bytes line f

pub data HeadFault (inputs : ℕ) (h : HeadValue) (bytes : List ℕ) (line : ℕ) (f : KnownFault) : Type 0 where
  in_inputs : WordFault Inputs (decimal inputs) bytes line f → HeadFault inputs h bytes line f
  in_rest : (rest : List ℕ) → bytes ≡ line_of Inputs (decimal inputs) ++ 10 ∷ rest → ProgramFault h rest (line + 1) f → HeadFault inputs h bytes line f

-- why they begin with no head
pub data AnyProgramFault (bytes : List ℕ) (f : KnownFault) : Type 0 where
  any_program : AnyFault Program bytes 3 f → AnyProgramFault bytes f
  any_sum : (words rest : List ℕ) → HasWord Program bytes words rest → AnyFault Sum rest 4 f → AnyProgramFault bytes f

pub data FirstFault (inputs : ℕ) (bytes : List ℕ) (f : KnownFault) : Type 0 where
  first_title : f ≡ unread_at 1 → ((rest : List ℕ) → bytes ≢ ended title ++ rest) → FirstFault inputs bytes f
  first_inputs : (rest : List ℕ) → bytes ≡ ended title ++ rest → WordFault Inputs (decimal inputs) rest 2 f → FirstFault inputs bytes f
  first_rest : (rest last : List ℕ) → bytes ≡ ended title ++ rest → rest ≡ line_of Inputs (decimal inputs) ++ 10 ∷ last → AnyProgramFault last f → FirstFault inputs bytes f

pub record HasFirst (inputs : ℕ) (h : HeadValue) (bytes rest : List ℕ) : Type 0 where
  pub after : List ℕ
  pub is : bytes ≡ ended title ++ after
  pub has : HasHead inputs h after rest

-- a line is the record that was read, and it can be read as no other
pub record RanAt (log : LogValue) (way : By) (bytes : List ℕ) (run : RanValue) (rest : List ℕ) : Type 0 where
  pub line : List ℕ
  pub lack : lacks 10 line ≡ true
  pub is : bytes ≡ line ++ 10 ∷ rest
  pub only : IsRanOnly log way line run

pub record NoRanAt (log : LogValue) (way : By) (bytes : List ℕ) : Type 0 where
  pub none : (line more : List ℕ) (run : RanValue) → bytes ≡ line ++ 10 ∷ more → IsRan log way line run → ⊥

pub data RanFault (log : LogValue) (way : By) (bytes : List ℕ) (line : ℕ) (f : KnownFault) : Type 0 where
  ran_memory : f.cause ≡ cause.Memory → RanFault log way bytes line f
  ran_unread : f ≡ unread_at line → NoRanAt log way bytes → RanFault log way bytes line f

-- it is read after others
pub record PushesRan (log : LogValue) (way : By) (bytes : List ℕ) (old new : List RanValue) (rest : List ℕ) : Type 0 where
  pub run : RanValue
  pub ran : RanAt log way bytes run rest
  pub said : new ≡ old ++ run ∷ []
  pub few : length new ≤ most_records

pub data PushFault (log : LogValue) (way : By) (bytes : List ℕ) (line count : ℕ) (f : KnownFault) : Type 0 where
  push_many : f ≡ unread_at line → most_records ≤ count → PushFault log way bytes line count f
  push_ran : RanFault log way bytes line f → PushFault log way bytes line count f

-- a piece that can be read in one way
abbrev pub IsOnly : Source → Piece → Type 0
IsOnly s Head = Unit {0}
IsOnly s (Ran line run) = IsRanOnly s.log s.way line run

abbrev pub AreOnly : Source → List Piece → Type 0
AreOnly s [] = Unit {0}
AreOnly s (p ∷ ps) = IsOnly s p × AreOnly s ps

-- one more piece is read
pub record Steps (s : Source) (h : HeadValue) (bytes : List ℕ) (line : ℕ) (old new : List RanValue) (rest : List ℕ) (next : ℕ) : Type 0 where
  pub piece : Piece
  pub only : IsOnly s piece
  pub is : bytes ≡ bytes_of (lines_in s.inputs h piece) ++ rest
  pub at : next ≡ line + length (lines_in s.inputs h piece)
  pub said : new ≡ old ++ runs_in piece
  pub few : length new ≤ most_records

pub data PieceFault (s : Source) (h : HeadValue) (bytes : List ℕ) (line count : ℕ) (f : KnownFault) : Type 0 where
  piece_run : ((rest : List ℕ) → bytes ≢ ended title ++ rest) → PushFault s.log s.way bytes line count f → PieceFault s h bytes line count f
  piece_head : (rest : List ℕ) → bytes ≡ ended title ++ rest → HeadFault s.inputs h rest (line + 1) f → PieceFault s h bytes line count f

-- what is read of a text after its first head, up to a line
pub record IsGot (s : Source) (h : HeadValue) (bytes rest : List ℕ) (line : ℕ) (runs : List RanValue) : Type 0 where
  pub pieces : List Piece
  pub only : AreOnly s pieces
  pub is : bytes ≡ bytes_of (lines_of s.inputs h pieces) ++ rest
  pub at : line ≡ 5 + length (lines_of s.inputs h pieces)
  pub said : runs ≡ runs_of pieces
  pub few : length runs ≤ most_records

-- why it isn't read on
pub record PiecesFault (s : Source) (h : HeadValue) (bytes : List ℕ) (f : KnownFault) : Type 0 where
  pub rest : List ℕ
  pub line : ℕ
  pub runs : List RanValue
  pub got : IsGot s h bytes rest line runs
  pub some : rest ≢ []
  pub fault : PieceFault s h rest line (length runs) f

-- all of it is read
pub record HasAll (s : Source) (h : HeadValue) (bytes : List ℕ) (runs : List RanValue) : Type 0 where
  pub line : ℕ
  pub got : IsGot s h bytes [] line runs
