-- One crash image, as bytes or in words (docs/COMMANDS.md, Commands).
use Rattle.std.specs.Prelude.{ℕ, ◌≡◌, List, []}
use Rattle.std.specs.List.{flat_map}
use Rattle.base.specs.declared.refusal.Refusal.{Refusal}
use Rattle.base.specs.Refusals.{memory_refusal}
use Rattle.logfmt.specs.Bounds.{LogValue}
use Rattle.epochs.specs.Plan.{PlanValue}
use Rattle.choices.specs.Choices.{ChoiceValue}
use Rattle.images.specs.Views.{ViewValue, view_of, sectors_of}
use Rattle.crash_text.specs.Shown.{shown_text}
use Rattle.request.specs.declared.command.Which.{Which}
use Rattle.request.specs.declared.settings.Settings.{Settings}
use Rattle.request.specs.Settings.{option_refusal}
use Rattle.inspect.specs.declared.looks.image_command.ImageForm.{ImageForm}
use Rattle.inspect.specs.declared.looks.image_command.ImageForm.TheVariants as form
use Rattle.inspect.specs.Which.{IsMeant, IsOnly, NoneIs, which_place}
use Rattle.request.specs.Source.{Recording, plan_of, HasImages, RefusesSource}

-- sectors one after the other
abbrev pub sector_bytes : List (List ℕ) → List ℕ
sector_bytes sectors = flat_map (λ (sector : List ℕ). sector) sectors

-- the image of a cut where nothing departs
abbrev pub whole_view : LogValue → ℕ → ViewValue
whole_view log cut = record { log = log; cut = cut; departures = [] }

-- the image of a choice: its sectors one after the other; or in words, beside the image of its cut where nothing departs
abbrev pub text_in : ImageForm → Settings → PlanValue → ChoiceValue → List ℕ
text_in form.Bytes s plan choice = sector_bytes (sectors_of (view_of plan choice))
text_in form.Words s plan choice = shown_text plan s.bound s.tears choice (sectors_of (whole_view plan.log choice.cut)) (sectors_of (view_of plan choice))

-- the bytes tell the image that is meant
pub record IsImageIn (form : ImageForm) (text : Recording) (s : Settings) (which : Which) (bytes : List ℕ) : Type 0 where
  pub value : LogValue
  pub source : HasImages text s value
  pub choice : ChoiceValue
  pub meant : IsOnly (IsMeant (plan_of s value) s.bound s.tears which) choice
  pub shown : bytes ≡ text_in form s (plan_of s value) choice

-- the bytes are those of the image that is meant
abbrev pub IsImage : Recording → Settings → Which → List ℕ → Type 0
IsImage text s which bytes = IsImageIn form.Bytes text s which bytes

-- the text is that of the image that is meant (docs/OUTPUT.md, The text of `show`)
abbrev pub IsShown : Recording → Settings → Which → List ℕ → Type 0
IsShown text s which bytes = IsImageIn form.Words text s which bytes

-- the refusals in their order: the log, the number of its images, then an image that there isn't
pub data RefusesImage (text : Recording) (s : Settings) (which : Which) : Refusal → Type 0 where
  for_source : (r : Refusal) → RefusesSource text s r → RefusesImage text s which r
  for_number : (value : LogValue) → HasImages text s value → NoneIs (IsMeant (plan_of s value) s.bound s.tears which) → RefusesImage text s which (option_refusal (which_place which))
  for_memory : (value : LogValue) → HasImages text s value → RefusesImage text s which memory_refusal
