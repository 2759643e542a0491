-- The texts of the parts of a run, joined, are what the run answers for these images (docs/COMMANDS.md, Joining parts).
use Rattle.std.specs.Prelude.{ℕ, ◌≡◌, ◌-◌, ◌≤◌, ◌⊎◌, ◌==◌, ◌&&◌, Bool, false, if◌then◌else◌, List, [], ◌∷◌, length, map, Some}
use Rattle.logfmt.specs.Bounds.{LogValue}
use Rattle.choices.specs.Choices.{limit}
use Rattle.base.specs.declared.causes.JoinCause.TheVariants as cause
use Rattle.request.specs.declared.command.OptionWords.{OptionWords}
use Rattle.request.specs.declared.command.Request.TheVariants as request
use Rattle.request.specs.declared.extent.Extent.{Extent}
use Rattle.request.specs.declared.extent.Extent.TheVariants as extent
use Rattle.request.specs.declared.settings.Settings.{Settings}
use Rattle.request.specs.OptionWords.{AskFor}
use Rattle.request.specs.Settings.{IsAsked}
use Rattle.request.specs.Source.{Recording, images_of, IsLogOf}
use Rattle.join.specs.declared.fault.JoinFault.{JoinFault}
use Rattle.join.specs.Joining.{IsJoined, RefusesJoin}
use Rattle.join.specs.Laws.{Range, CoverOnce}
use Rattle.runs.specs.Explore.{IsReportOfRun}
use Rattle.commands.specs.Acting.{Files, HoldsRecording, Answers}

-- the same settings, where these images are meant
abbrev pub meant : Extent → Settings → Settings
meant e s = record s { extent = e }

abbrev pub part_of : Settings → Range → Settings
part_of s x = meant (extent.Part x.from x.to) s

-- what `explore` answers: the options pass their checks, and the bytes are the report of the images that are meant
pub record IsAnswer (text : Recording) (files : List (List ℕ)) (s : Settings) (bytes : List ℕ) (failing : Bool) : Type 0 where
  pub asked : IsAsked s
  pub report : IsReportOfRun text files s bytes failing

-- the same, whether or not there is a failing image
abbrev pub HasAnswer : Recording → List (List ℕ) → Settings → List ℕ → Type 0
HasAnswer text files s bytes = (failing : Bool) × IsAnswer text files s bytes failing

-- the texts are answers for these ranges of a run, text by text
abbrev pub AnswerParts : Recording → List (List ℕ) → Settings → List Range → List (List ℕ) → Type 0
AnswerParts text files s [] [] = Unit {0}
AnswerParts text files s [] (t ∷ texts) = ⊥
AnswerParts text files s (x ∷ ranges) [] = ⊥
AnswerParts text files s (x ∷ ranges) (t ∷ texts) = HasAnswer text files (part_of s x) t × AnswerParts text files s ranges texts

-- a run has that many images
pub record HasCount (text : Recording) (s : Settings) (n : ℕ) : Type 0 where
  pub value : LogValue
  pub reads : IsLogOf text s value
  pub is : n ≡ length (images_of s value)

-- the texts are answers for parts of a run, which together have each image of a range once, of a run with that many
pub record AreTextsOf (text : Recording) (files : List (List ℕ)) (s : Settings) (texts : List (List ℕ)) (x : Range) (images : ℕ) : Type 0 where
  pub ranges : List Range
  pub answers : AnswerParts text files s ranges texts
  pub cover : CoverOnce ranges x.from x.to
  pub count : HasCount text s images
  pub within : x.to ≤ images

-- the images of a range are all of a run with that many, or a part
abbrev pub extent_of : ℕ → Range → Extent
extent_of images x = if x.from == 0 && x.to == images then extent.Wide else extent.Part x.from x.to

-- What such texts come to together is the report of the run with the images of the range, however many these are. Where they are all
-- images, or not all, and no more than the most of a run, it is what `explore` answers for them. Whether an image fails is told alike.
pub record JoinedPartsAreRun : Type 0 where
  pub joined : (text : Recording) (files : List (List ℕ)) (s : Settings) (texts : List (List ℕ)) (x : Range) (images : ℕ) (bytes : List ℕ) (failing : Bool)
      → AreTextsOf text files s texts x images → IsJoined texts bytes failing → IsReportOfRun text files (meant (extent_of images x) s) bytes failing
  pub whole : (text : Recording) (files : List (List ℕ)) (s : Settings) (texts : List (List ℕ)) (images : ℕ) (bytes : List ℕ) (failing : Bool)
      → AreTextsOf text files s texts (record { from = 0; to = images }) images → IsJoined texts bytes failing → images ≤ limit → IsAnswer text files (meant extent.Whole s) bytes failing
  pub part : (text : Recording) (files : List (List ℕ)) (s : Settings) (texts : List (List ℕ)) (x : Range) (images : ℕ) (bytes : List ℕ) (failing : Bool)
      → AreTextsOf text files s texts x images → IsJoined texts bytes failing → extent_of images x ≡ extent.Part x.from x.to → x.to - x.from ≤ limit
      → IsAnswer text files (part_of s x) bytes failing

-- such texts are refused for their length or for want of memory alone, where they are all parts of the run, or may be some
abbrev pub PartsOfRunAreJoined : Type 0
PartsOfRunAreJoined = (part : Bool) (text : Recording) (files : List (List ℕ)) (s : Settings) (texts : List (List ℕ)) (x : Range) (images : ℕ) (fault : JoinFault)
    → AreTextsOf text files s texts x images → (part ≡ false → (x.from ≡ 0) × (x.to ≡ images)) → RefusesJoin part texts fault → (fault.cause ≡ cause.TooLong) ⊎ (fault.cause ≡ cause.Memory)

-- On the command line.

-- the same words, by which these images are meant
abbrev pub asking : Extent → OptionWords → OptionWords
asking e w = record w { settings = meant e w.settings }

-- `explore --images` prints this text for these images of a run, and ends with some status
abbrev pub PrintsPart : OptionWords → Files → Range → List ℕ → Type 0
PrintsPart w files x t = (status : ℕ) × Answers (request.Explore (asking (extent.Part x.from x.to) w)) files t status

abbrev pub PrintParts : OptionWords → Files → List Range → List (List ℕ) → Type 0
PrintParts w files [] [] = Unit {0}
PrintParts w files [] (t ∷ texts) = ⊥
PrintParts w files (x ∷ ranges) [] = ⊥
PrintParts w files (x ∷ ranges) (t ∷ texts) = PrintsPart w files x t × PrintParts w files ranges texts

-- the words and the files are of a run with that many images
pub record CountsImages (w : OptionWords) (files : Files) (images : ℕ) : Type 0 where
  pub settings : Settings
  pub asked : AskFor (asking extent.Whole w) settings
  pub log : Recording
  pub held : HoldsRecording files log
  pub count : HasCount log settings images

-- these files hold what `explore --images` prints for parts of a run, which together have each of its images once
pub record HoldParts (w : OptionWords) (files parts : Files) (images : ℕ) : Type 0 where
  pub ranges : List Range
  pub texts : List (List ℕ)
  pub held : parts.named ≡ map Some texts
  pub prints : PrintParts w files ranges texts
  pub cover : CoverOnce ranges 0 images
  pub count : CountsImages w files images

-- Of such files `join` prints what `explore` prints of the whole run, where that may be explored at once, with the same status; so it does
-- with --part.
abbrev pub JoinIsExplore : Type 0
JoinIsExplore = (part : Bool) (w : OptionWords) (files parts : Files) (images : ℕ) (bytes : List ℕ) (status : ℕ) → HoldParts w files parts images → images ≤ limit
    → Answers (request.Join part) parts bytes status → Answers (request.Explore (asking extent.Whole w)) files bytes status
