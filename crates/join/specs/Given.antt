-- A report that is given in place of programs (docs/OUTPUT.md, The report, The report of a program of yours): of which programs it is,
-- and what its lines say. Cuts and choices are those of the images of a run, by their numbers.
use Rattle.std.specs.Prelude.{ℕ, ◌≡◌, ◌<◌, ◌≤◌, ◌^◌, ◌&&◌, nat_le, Bool, true, false, List, [], ◌∷◌, ◌++◌, codes, length, map, None, Some, slice_get}
use Rattle.std.specs.Fmt.{decimal}
use Rattle.std.specs.List.{All, flat_map, list_all}
use Rattle.std.specs.Option.{option_map_or}
use Rattle.std.specs.Str.{IsUtf8}
use Rattle.epochs.specs.declared.part.By.{By}
use Rattle.choices.specs.Choices.{ChoiceValue, ranked_choices}
use Rattle.choices.specs.Sums.{StartsValue}
use Rattle.report.specs.declared.head.ProgramHead.{ProgramHead}
use Rattle.report.specs.declared.lines.marks.LineMark.{LineMark}
use Rattle.report.specs.ChoiceText.{departures_text}
use Rattle.report.specs.Images.{distinct_count}
use Rattle.report.specs.Report.{program_lines}
use Rattle.join.specs.declared.given.told.GivenLine.{GivenLine}
use Rattle.join.specs.Endings.{IsEnding}
use Rattle.join.specs.Heads.{IsProgramHead, are_programs_of_run}
use Rattle.join.specs.Order.{in_order}
use Rattle.join.specs.Reading.{words_text}

-- what a line says: of which image and program it is, and what the program ended in
pub record ToldLine : Type 0 where
  pub mark : LineMark
  pub outcome : List ℕ

-- what a line of the code says
abbrev pub line_told : GivenLine → ToldLine
line_told t = record { mark = t.mark; outcome = t.outcome.now }

abbrev pub marks_told : List ToldLine → List LineMark
marks_told ts = map (λ (t : ToldLine). t.mark) ts

abbrev pub images_told : List ToldLine → List ℕ
images_told ts = map (λ (t : ToldLine). t.mark.image) ts

-- a word is that of a number from 1 to below a bound
pub record IsBelow (bound : ℕ) (word : List ℕ) : Type 0 where
  pub number : ℕ
  pub some : 0 < number
  pub small : number < bound
  pub is : word ≡ decimal number

-- after `answer `: the exit status of a program that is given images as files
pub record IsStatus (text : List ℕ) : Type 0 where
  pub word : List ℕ
  pub status : IsBelow 256 word
  pub is : text ≡ word ++ codes " codes -"

-- what such a program ends in where it rejects an image: with a status, by a signal, or too late
pub data IsOutside (text : List ℕ) : Type 0 where
  out_of_time : text ≡ codes "out of time" → IsOutside text
  with_status : (rest : List ℕ) → text ≡ codes "answer " ++ rest → IsStatus rest → IsOutside text
  with_signal : (word : List ℕ) → text ≡ codes "signal " ++ word → IsBelow 128 word → IsOutside text

-- what a program of a report may end in: `outside` says that it is given images as files
abbrev pub IsOutcome : Bool → List ℕ → Type 0
IsOutcome false text = IsEnding text
IsOutcome true text = IsOutside text

-- what a line has without its newline, of an image with that choice
abbrev pub chosen_told : By → ToldLine → ChoiceValue → List ℕ
chosen_told way t c = words_text (record { image = t.mark.image; cut = c.cut; program = t.mark.program }) ++ (t.outcome ++ codes " choice " ++ departures_text way c.departures)

abbrev pub told_body : StartsValue → ToldLine → List ℕ
told_body s t = option_map_or (chosen_told s.plan.by t) (slice_get (ranked_choices s.plan s.bound s.tears) t.mark.image) []

unfoldable pub told_line : StartsValue → ToldLine → List ℕ
told_line s t = told_body s t ++ codes "\n"

-- a line of a run: it is of one of its images, and of one of that many programs, and says what such a program may end in
pub record IsTold (outside : Bool) (programs : ℕ) (s : StartsValue) (t : ToldLine) : Type 0 where
  pub choice : ChoiceValue
  pub there : slice_get (ranked_choices s.plan s.bound s.tears) t.mark.image ≡ Some choice
  pub small : choice.cut < 2 ^ 32
  pub image : t.mark.image < 2 ^ 64
  pub program : t.mark.program < programs
  pub outcome : IsOutcome outside t.outcome

abbrev pub AreToldOf : Bool → ℕ → StartsValue → List ToldLine → Type 0
AreToldOf outside programs s [] = Unit {0}
AreToldOf outside programs s (t ∷ ts) = IsTold outside programs s t × AreToldOf outside programs s ts

-- the last line of a report of that many images
unfoldable pub told_totals : ℕ → List ToldLine → List ℕ
told_totals images ts =
    codes "images " ++ decimal images ++ codes " failing " ++ decimal (distinct_count (images_told ts)) ++ codes " lines " ++ decimal (length ts) ++ codes "\n"

-- printable ASCII, of which the words of a program are written
abbrev pub is_printed : ℕ → Bool
is_printed b = nat_le 32 b && nat_le b 126

-- a text is the lines of checkers: 1 to 8, each as a run may have it
pub record AreCheckers (programs : List ProgramHead) (text : List ℕ) : Type 0 where
  pub some : 0 < length programs
  pub few : length programs ≤ 8
  pub numbers : All IsProgramHead programs
  pub of_run : are_programs_of_run programs ≡ true
  pub is : text ≡ program_lines 0 programs

-- a text is the line of a program that is given images as files
pub record IsOwn (programs : List ProgramHead) (text : List ℕ) : Type 0 where
  pub none : programs ≡ []
  pub words : List ℕ
  pub some : 0 < length words
  pub printed : list_all is_printed words ≡ true
  pub is : text ≡ codes "program 0 outside " ++ (words ++ codes "\n")

-- of which programs a report is
abbrev pub AreJudges : Bool → List ProgramHead → List ℕ → Type 0
AreJudges false programs text = AreCheckers programs text
AreJudges true programs text = IsOwn programs text

-- how many they are
abbrev pub judge_count : Bool → List ProgramHead → ℕ
judge_count false programs = length programs
judge_count true programs = 1

-- what is read of a report: its options and programs, what its lines say, and its last line
pub record GivenValue : Type 0 where
  pub head : List ℕ
  pub outside : Bool
  pub programs : List ProgramHead
  pub lines : List ToldLine
  pub last : List ℕ

-- The bytes are the report of a run with that title and that line of options, of that many images, which these choices number: the lines are of its
-- images, by image and then by program, each once; each has the cut and the choice of its image.
pub record IsReport (title options : List ℕ) (s : StartsValue) (images : ℕ) (bytes : List ℕ) (g : GivenValue) : Type 0 where
  pub utf8 : IsUtf8 bytes
  pub judges : List ℕ
  pub are : AreJudges g.outside g.programs judges
  pub head : g.head ≡ options ++ judges
  pub lines : AreToldOf g.outside (judge_count g.outside g.programs) s g.lines
  pub order : in_order 0 images None (marks_told g.lines) ≡ true
  pub last : g.last ≡ told_totals images g.lines
  pub is : bytes ≡ title ++ (options ++ (judges ++ (flat_map (told_line s) g.lines ++ g.last)))

-- they are the report of no such run
pub record NoReport (title options : List ℕ) (s : StartsValue) (images : ℕ) (bytes : List ℕ) : Type 0 where
  pub none : (g : GivenValue) → IsReport title options s images bytes g → ⊥

-- they are a report, and that is read of it: nothing else can be
pub record IsReportRead (title options : List ℕ) (s : StartsValue) (images : ℕ) (bytes : List ℕ) (g : GivenValue) : Type 0 where
  pub is : IsReport title options s images bytes g
  pub only : (other : GivenValue) → IsReport title options s images bytes other → g ≡ other
