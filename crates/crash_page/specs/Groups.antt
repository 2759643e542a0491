-- What is said of a cut at which images fail: its first groups, each with the image of its example in words.
use Rattle.std.specs.Prelude.{ℕ, ◌-◌, ◌==◌, nat_le, Bool, false, if◌then◌else◌, List, [], ◌∷◌, ◌++◌, length, take, slice_get}
use Rattle.std.specs.Fmt.{decimal}
use Rattle.std.specs.List.{flat_map}
use Rattle.std.specs.Option.{option_map_or}
use Rattle.choices.specs.Choices.{ChoiceValue, ranked_choices}
use Rattle.choices.specs.Sums.{StartsValue}
use Rattle.report.specs.ChoiceText.{departures_text}
use Rattle.images.specs.Views.{ViewValue, view_of, sectors_of}
use Rattle.crash_text.specs.Shown.{shown_text}
use Rattle.losses.specs.declared.why.cut.CutFailures.{CutFailures}
use Rattle.losses.specs.declared.why.group.FailingGroup.{FailingGroup}
use Rattle.losses.specs.CountedGroups.{ends_at}
use Rattle.page_parts.specs.declared.pieces.PagePart.TheVariants as piece
use Rattle.page_parts.specs.Pieces.{piece_text}
use Rattle.page_parts.specs.declared.cut.Showing.{Showing}
use Rattle.crash_page.specs.Counts.{image_count}
use Rattle.page_parts.specs.Html.{html, side_by_side}
use Rattle.page_parts.specs.Cuts.{cut_begin, cut_body, shown_of, one_failing, showing}

-- the image of a choice's cut where nothing departs
abbrev pub whole_view : StartsValue → ChoiceValue → ViewValue
whole_view s choice = record { log = s.plan.log; cut = choice.cut; departures = [] }

-- the image of a choice in words, as `show` prints it
abbrev pub image_text : StartsValue → ChoiceValue → List ℕ
image_text s choice = shown_text s.plan s.bound s.tears choice (sectors_of (whole_view s choice)) (sectors_of (view_of s.plan choice))

-- how long a text is that stands on the page
abbrev pub longest : ℕ
longest = 16384

-- a text, or how long it is where it is too long
unfoldable pub block_text : List ℕ → List ℕ
block_text text =
    if nat_le (length text) longest then piece_text piece.TextOpen ++ side_by_side text ++ piece_text piece.TextClose
    else piece_text piece.LongOpen ++ decimal (length text) ++ piece_text piece.LongClose

-- the choice of an image
abbrev pub choice_at : StartsValue → ℕ → List ℕ
choice_at s image = option_map_or (λ (c : ChoiceValue). departures_text s.plan.by c.departures) (slice_get (ranked_choices s.plan s.bound s.tears) image) []

-- what the sides of its differences are, where something departs
abbrev pub sides_text : ChoiceValue → List ℕ
sides_text choice = if length choice.departures == 0 then [] else piece_text piece.Sides

-- a group, open or not: the choice of its example, its image, and how many failing images stand in it
abbrev pub group_open : Bool → List ℕ
group_open is_open = if is_open then piece_text piece.GroupOpened else piece_text piece.GroupOpen

unfoldable pub group_choice : StartsValue → Bool → ChoiceValue → List ℕ
group_choice s is_open choice = group_open is_open ++ departures_text s.plan.by choice.departures

unfoldable pub group_size : FailingGroup → List ℕ
group_size g = piece_text piece.GroupImage ++ decimal g.image ++ piece_text piece.GroupSize ++ decimal g.failing

-- what the program ends in on its image, and whether on all images of the group
abbrev pub same_text : Bool → List ℕ
same_text same = if same then piece_text piece.GroupAll else piece_text piece.GroupSome

unfoldable pub group_end : List (List ℕ) → FailingGroup → List ℕ
group_end outcomes g = same_text g.same ++ html (ends_at outcomes g.line) ++ piece_text piece.GroupLineEnd

unfoldable pub group_line : StartsValue → List (List ℕ) → Bool → FailingGroup → ChoiceValue → List ℕ
group_line s outcomes is_open g choice = group_choice s is_open choice ++ group_size g ++ group_end outcomes g

unfoldable pub chosen_text : StartsValue → List (List ℕ) → Bool → FailingGroup → ChoiceValue → List ℕ
chosen_text s outcomes is_open g choice =
    group_line s outcomes is_open g choice ++ sides_text choice ++ block_text (image_text s choice) ++ piece_text piece.GroupClose

abbrev pub group_text : StartsValue → List (List ℕ) → Bool → FailingGroup → List ℕ
group_text s outcomes is_open g = option_map_or (chosen_text s outcomes is_open g) (slice_get (ranked_choices s.plan s.bound s.tears) g.image) []

-- groups, of which the first may be open
unfoldable pub groups_text : StartsValue → List (List ℕ) → Bool → List FailingGroup → List ℕ
groups_text s outcomes is_open [] = []
groups_text s outcomes is_open (g ∷ gs) = group_text s outcomes is_open g ++ flat_map (group_text s outcomes false) gs

-- the choice of the first group of a cut, and how many there are
unfoldable pub first_text : StartsValue → List FailingGroup → List ℕ
first_text s [] = []
first_text s (g ∷ gs) = piece_text piece.FirstOpen ++ choice_at s g.image ++ piece_text piece.FirstOf ++ decimal (length (g ∷ gs)) ++ piece_text piece.FirstClose

unfoldable pub cut_head : StartsValue → Showing → CutFailures → List ℕ
cut_head s how c = cut_begin s.plan.log.entries how.is_open (image_count c) ++ first_text s c.groups.items ++ cut_body how.program c.cut

-- how many groups aren't shown
unfoldable pub rest_text : ℕ → List ℕ
rest_text n = if n == 0 then [] else piece_text piece.RestOpen ++ decimal n ++ piece_text piece.RestClose

-- a cut, with that many of its groups; where it is open, the first of them is, too
unfoldable pub cut_shown : StartsValue → List (List ℕ) → Showing → CutFailures → List ℕ
cut_shown s outcomes how c =
    cut_head s how c ++ groups_text s outcomes how.is_open (take how.rows c.groups.items) ++ rest_text (length c.groups.items - how.rows)
    ++ piece_text piece.CutClose

-- a cut, where images fail
abbrev pub cut_text : StartsValue → List (List ℕ) → Showing → CutFailures → List ℕ
cut_text s outcomes how c = if c.failing == 0 then [] else cut_shown s outcomes how c

-- a cut that is listed
abbrev pub listed_text : StartsValue → List (List ℕ) → ℕ → Showing → CutFailures → List ℕ
listed_text s outcomes lines how c = if lines == 0 then [] else cut_text s outcomes how c

-- the cuts of a program, of which that many failing ones may still be listed
abbrev pub cuts_text : StartsValue → List (List ℕ) → ℕ → ℕ → ℕ → List CutFailures → List ℕ
cuts_text s outcomes program lines left [] = []
cuts_text s outcomes program lines left (c ∷ cs) =
    listed_text s outcomes lines (showing program lines left (length c.groups.items)) c
    ++ cuts_text s outcomes program (lines - one_failing c.failing) (left - shown_of left (length c.groups.items)) cs
