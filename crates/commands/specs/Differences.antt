-- What `show` says of an image is all that sets it apart (docs/OUTPUT.md, The text of `show`).
use Rattle.std.specs.Prelude.{ℕ, ◌≡◌, ◌≢◌, List, ◌++◌, codes, slice_get, Some}
use Rattle.std.specs.Fmt.{decimal}
use Rattle.images.specs.Views.{view_of, sectors_of}
use Rattle.request.specs.declared.settings.Settings.{Settings}
use Rattle.request.specs.declared.command.Which.{Which}
use Rattle.request.specs.Source.{Recording, plan_of}
use Rattle.inspect.specs.Image.{whole_view, IsShown}

-- the sectors of the image that is shown
abbrev pub image_shown : (text : Recording) (s : Settings) (which : Which) (bytes : List ℕ) → IsShown text s which bytes → List (List ℕ)
image_shown text s which bytes h = sectors_of (view_of (plan_of s h.value) h.choice)

-- the sectors of the image of the same cut where nothing departs
abbrev pub image_beside : (text : Recording) (s : Settings) (which : Which) (bytes : List ℕ) → IsShown text s which bytes → List (List ℕ)
image_beside text s which bytes h = sectors_of (whole_view h.value h.choice.cut)

-- a text says of a sector how many of its bytes differ
pub record NamesSector (bytes : List ℕ) (n : ℕ) : Type 0 where
  pub before : List ℕ
  pub count : ℕ
  pub rest : List ℕ
  pub said : bytes ≡ before ++ codes "sector " ++ decimal n ++ codes ": " ++ decimal count ++ codes " of 512 bytes differ, the first is byte " ++ rest

-- a text names no sector
abbrev pub NamesNone : List ℕ → Type 0
NamesNone bytes = (n : ℕ) → NamesSector bytes n → ⊥

-- `show` names each sector in which an image differs from that of the same cut where nothing departs; where it names none,
-- the image is that one; so two images of one cut of which it names none are the same
pub record ShowNamesDifferences : Type 0 where
  pub each : (text : Recording) (s : Settings) (which : Which) (bytes : List ℕ) (h : IsShown text s which bytes) (n : ℕ) (whole image : List ℕ)
      → slice_get (image_beside text s which bytes h) n ≡ Some whole → slice_get (image_shown text s which bytes h) n ≡ Some image → whole ≢ image
      → NamesSector bytes n
  pub none : (text : Recording) (s : Settings) (which : Which) (bytes : List ℕ) (h : IsShown text s which bytes) → NamesNone bytes
      → image_shown text s which bytes h ≡ image_beside text s which bytes h
  pub two : (text : Recording) (s : Settings) (which other : Which) (bytes others : List ℕ) (h : IsShown text s which bytes) (k : IsShown text s other others)
      → h.choice.cut ≡ k.choice.cut → NamesNone bytes → NamesNone others → image_shown text s which bytes h ≡ image_shown text s other others k
