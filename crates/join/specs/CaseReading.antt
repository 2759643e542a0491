-- What is read of a text of cases, piece by piece. A reader finds what was printed; what it finds of other texts is compared with them after.
use Rattle.std.specs.Prelude.{ℕ, ◌+◌, ◌≡◌, ◌≢◌, ◌<◌, ◌≤◌, ◌^◌, ◌&&◌, Bool, true, false, if◌then◌else◌, List, [], ◌∷◌, ◌++◌, length, map, codes, Option, None, Some}
use Rattle.std.specs.Fmt.{decimal}
use Rattle.std.specs.List.{flat_map}
use Rattle.epochs.specs.declared.part.By.{By}
use Rattle.choices.specs.declared.fate.Fate.{Fate}
use Rattle.choices.specs.declared.name.Name.{Name}
use Rattle.choices.specs.CrashModel.{IsFate}
use Rattle.report.specs.ChoiceText.{IsName, IsPlace, part_text, name_text, names_text}
use Rattle.report.specs.MarkReading.{lacks}
use Rattle.report.specs.Report.{HeadValue}
use Rattle.report.specs.Text.{yes_or_no}
use Rattle.losses.specs.declared.flushes.window.Window.{Window}
use Rattle.losses.specs.declared.found.Losses.{Losses}
use Rattle.case_text.specs.Text.{opening_text, options_text, fate_word, fates_text}
use Rattle.join.specs.declared.case_parts.names.PartName.{PartName}
use Rattle.join.specs.declared.case_parts.names.Mixed.{Mixed}
use Rattle.join.specs.declared.case_parts.front.CaseFront.{CaseFront}
use Rattle.join.specs.declared.case_parts.totals.CaseTotals.{CaseTotals}
use Rattle.join.specs.declared.case_parts.line.CaseTally.{CaseTally}
use Rattle.join.specs.declared.case_parts.known.KnownWords.{KnownWords}
use Rattle.join.specs.Endings.{IsEnding}
use Rattle.join.specs.Heads.{IsPrintedHead, IsSmallHead, IsSmallOption, HaveSameOptions, NoProgram, option_words, join_words, IsWord, AreWords, IsOtherFirst, device_words, given_words}
use Rattle.join.specs.CaseTexts.{ToldCase, MixedPart, front_text, parts_text, mixed_text, among_text, said_text, told_body, told_line, totals_line, IsToldCase, AreToldCases, goes_on, is_new_cut, fronts_of, AreLosses, CasesValue, IsCasesText}

-- P is so of each
abbrev pub Each : {A : Type 0} → (A → Type 0) → List A → Type 0
Each P [] = Unit {0}
Each P (x ∷ xs) = P x × Each P xs

-- PARTS AND THEIR FATES

pub record IsPartName (way : By) (p : PartName) : Type 0 where
  pub entry : p.entry < 2 ^ 32
  pub place : IsPlace way p.place

abbrev pub IsPossible : Option Fate → Type 0
IsPossible None = Unit {0}
IsPossible (Some f) = IsFate true f

pub record IsMixedPart (way : By) (m : MixedPart) : Type 0 where
  pub part : IsPartName way m.part
  pub some : 0 < length m.fates
  pub fates : Each IsPossible m.fates

abbrev pub mixed_value : Mixed → MixedPart
mixed_value m = record { part = m.part; fates = m.fates.items }

pub record ReadsPossible (word : List ℕ) (found : Option Fate) : Type 0 where
  pub read : (f : Option Fate) → IsPossible f → word ≡ fate_word f → found ≡ f

pub record ReadsPartName (way : By) (word : List ℕ) (found : PartName) : Type 0 where
  pub read : (p : PartName) → IsPartName way p → word ≡ part_text way p.entry p.place → found ≡ p

pub record ReadsOneName (way : By) (word : List ℕ) (found : Name) : Type 0 where
  pub read : (n : Name) → IsName way n → word ≡ name_text way n → found ≡ n

pub record ReadsMixedPart (way : By) (word : List ℕ) (found : MixedPart) : Type 0 where
  pub read : (m : MixedPart) → IsMixedPart way m → word ≡ mixed_text way m → found ≡ m

-- LISTS OF THEM

-- a list with a mark between
abbrev pub listed : {A : Type 0} → ℕ → (A → List ℕ) → A → List A → List ℕ
listed mark text a more = text a ++ flat_map (λ x. mark ∷ text x) more

-- of a text that is a list some are read, and the rest is that of the others
pub record HasReadSome {A : Type 0} (mark : ℕ) (P : A → Type 0) (text : A → List ℕ) (whole : List ℕ) (done : List A) (rest : List ℕ) : Type 0 where
  pub read : (a : A) (more : List A) → Each P (a ∷ more) → whole ≡ listed mark text a more
      → (b : A) × (left : List A) × (a ∷ more ≡ done ++ b ∷ left) × Each P (b ∷ left) × (rest ≡ listed mark text b left)

-- all are read
pub record HasReadAll {A : Type 0} (mark : ℕ) (P : A → Type 0) (text : A → List ℕ) (whole : List ℕ) (found : List A) : Type 0 where
  pub read : (a : A) (more : List A) → Each P (a ∷ more) → whole ≡ listed mark text a more → found ≡ a ∷ more

pub record ReadsNames (way : By) (text : List ℕ) (found : List Name) : Type 0 where
  pub read : (ns : List Name) → Each (IsName way) ns → text ≡ names_text way ns → found ≡ ns

pub record ReadsParts (way : By) (text : List ℕ) (found : List PartName) : Type 0 where
  pub read : (ps : List PartName) → Each (IsPartName way) ps → text ≡ parts_text way ps → found ≡ ps

pub record ReadsFates (text : List ℕ) (found : List (Option Fate)) : Type 0 where
  pub read : (fs : List (Option Fate)) → 0 < length fs → Each IsPossible fs → text ≡ fates_text fs → found ≡ fs

-- the text of mixed parts without the word before it
abbrev pub mixed_list : By → List MixedPart → List ℕ
mixed_list way [] = []
mixed_list way (m ∷ ms) = listed 44 (mixed_text way) m ms

pub record ReadsMixed (way : By) (text : List ℕ) (found : List MixedPart) : Type 0 where
  pub read : (ms : List MixedPart) → Each (IsMixedPart way) ms → text ≡ mixed_list way ms → found ≡ ms

-- WORDS OF A LINE

-- numbers within a u64
pub record IsSmallFront (f : CaseFront) : Type 0 where
  pub cut : f.cut < 2 ^ 64
  pub epoch : f.epoch < 2 ^ 64
  pub marks : f.marks < 2 ^ 64
  pub program : f.program < 2 ^ 64
  pub number : f.number < 2 ^ 64

pub record ReadsFront (line : List ℕ) (front : CaseFront) (rest : List ℕ) : Type 0 where
  pub read : (f : CaseFront) (more : List ℕ) → IsSmallFront f → line ≡ front_text f ++ more → (front ≡ f) × (rest ≡ more)

abbrev pub window_word : Option Window → List ℕ
window_word None = codes "none"
window_word (Some w) = decimal w.start ++ codes ".." ++ decimal w.end

abbrev pub IsSmallWindow : Option Window → Type 0
IsSmallWindow None = Unit {0}
IsSmallWindow (Some w) = (w.start < 2 ^ 32) × (w.end < 2 ^ 32)

pub record ReadsWindow (word : List ℕ) (window : Option Window) : Type 0 where
  pub read : (w : Option Window) → IsSmallWindow w → word ≡ window_word w → window ≡ w

-- a word that may be there after a name
abbrev pub named_words : List ℕ → List ℕ → List (List ℕ)
named_words name [] = []
named_words name (b ∷ bs) = name ∷ (b ∷ bs) ∷ []

abbrev pub IsNoneOrWord : List ℕ → Type 0
IsNoneOrWord [] = Unit {0}
IsNoneOrWord (b ∷ bs) = IsWord (b ∷ bs)

pub record ReadsNamed (name line found rest : List ℕ) : Type 0 where
  pub read : (word : List ℕ) (ws : List (List ℕ)) → IsNoneOrWord word → AreWords ws → IsOtherFirst name ws → line ≡ join_words (named_words name word ++ ws)
      → (found ≡ word) × (rest ≡ join_words ws)

-- what stands after ` choice `, by its words
pub record KnownSaid : Type 0 where
  pub lost : List ℕ
  pub kept : List ℕ
  pub mixed : List ℕ
  pub free : List ℕ
  pub window : List ℕ

abbrev pub known_said : KnownWords → KnownSaid
known_said w = record { lost = w.lost.now; kept = w.kept.now; mixed = w.mixed.now; free = w.free.now; window = w.window.now }

abbrev pub known_list : KnownSaid → List (List ℕ)
known_list k = k.lost ∷ codes "kept" ∷ k.kept ∷ (named_words (codes "among") k.mixed ++ (codes "free" ∷ k.free ∷ codes "flush" ∷ k.window ∷ []))

pub record AreKnownWords (k : KnownSaid) : Type 0 where
  pub lost : IsWord k.lost
  pub kept : IsWord k.kept
  pub mixed : IsNoneOrWord k.mixed
  pub free : IsWord k.free
  pub window : IsWord k.window

pub record ReadsKnown (line : List ℕ) (found : KnownSaid) : Type 0 where
  pub read : (k : KnownSaid) → AreKnownWords k → line ≡ join_words (known_list k) → found ≡ k

-- what stands before and after ` choice `, where no h stands before it
pub record ReadsHalves (text front back : List ℕ) : Type 0 where
  pub read : (xs ys : List ℕ) → lacks 104 xs ≡ true → text ≡ xs ++ codes " choice " ++ ys → (front ≡ xs) × (back ≡ ys)

-- what can be read of a line
pub record IsSmallCase (way : By) (t : ToldCase) : Type 0 where
  pub front : IsSmallFront t.front
  pub outcome : IsEnding t.outcome
  pub lost : Each (IsName way) t.lost
  pub kept : Each (IsPartName way) t.kept
  pub mixed : Each (IsMixedPart way) t.mixed
  pub free : t.free < 2 ^ 64
  pub window : IsSmallWindow t.window

pub record ReadsCase (way : By) (line : List ℕ) (found : ToldCase) : Type 0 where
  pub read : (t : ToldCase) → IsSmallCase way t → line ≡ told_body way t → found ≡ t

-- a text is a line without its newline, of a run with that head, and of no other case; and it begins so
pub record IsCaseBody (h : HeadValue) (text : List ℕ) (front : CaseFront) : Type 0 where
  pub told : ToldCase
  pub of_run : IsToldCase h told
  pub is : text ≡ told_body h.by told
  pub begins : front ≡ told.front
  pub only : (t : ToldCase) → IsToldCase h t → text ≡ told_body h.by t → told ≡ t

pub record NoCaseBody (h : HeadValue) (text : List ℕ) : Type 0 where
  pub none : (t : ToldCase) → IsToldCase h t → text ≡ told_body h.by t → ⊥

-- a text begins with a line of a run with that head, and with that of no other case
pub record IsCaseLine (h : HeadValue) (text : List ℕ) (front : CaseFront) (rest : List ℕ) : Type 0 where
  pub told : ToldCase
  pub of_run : IsToldCase h told
  pub is : text ≡ told_line h.by told ++ rest
  pub begins : front ≡ told.front
  pub only : (t : ToldCase) (more : List ℕ) → IsToldCase h t → text ≡ told_line h.by t ++ more → (told ≡ t) × (rest ≡ more)

pub record NoCaseLine (h : HeadValue) (text : List ℕ) : Type 0 where
  pub none : (t : ToldCase) (rest : List ℕ) → IsToldCase h t → text ≡ told_line h.by t ++ rest → ⊥

-- LINES, COUNTED

abbrev pub none_told : CaseTally
none_told = record { last = None; lines = 0; cuts = 0; rising = true }

abbrev pub one_told : CaseTally → CaseFront → CaseTally
one_told t f = record {
  last = Some f;
  lines = t.lines + 1;
  cuts = t.cuts + (if is_new_cut t.last f.cut then 1 else 0);
  rising = t.rising && goes_on t.last f;
}

unfoldable pub all_counted : CaseTally → List CaseFront → CaseTally
all_counted t [] = t
all_counted t (f ∷ fs) = all_counted (one_told t f) fs

-- of lines with which a text begins, up to a tail that begins with none, these are the first ones
pub record AreFirstLines (h : HeadValue) (text : List ℕ) (told : List ToldCase) (rest : List ℕ) : Type 0 where
  pub left : (ts : List ToldCase) (tail : List ℕ) → AreToldCases h ts → NoCaseLine h tail → text ≡ flat_map (told_line h.by) ts ++ tail
      → (more : List ToldCase) × (ts ≡ told ++ more) × AreToldCases h more × (rest ≡ flat_map (told_line h.by) more ++ tail)

-- a text begins with lines of a run with that head, of which that was counted
pub record AreCasesRead (h : HeadValue) (text : List ℕ) (tally : CaseTally) (rest : List ℕ) : Type 0 where
  pub told : List ToldCase
  pub of_run : AreToldCases h told
  pub is : text ≡ flat_map (told_line h.by) told ++ rest
  pub counted : tally ≡ all_counted none_told (fronts_of told)
  pub few : tally.lines + length rest ≤ length text
  pub fewer : tally.cuts ≤ tally.lines
  pub first : AreFirstLines h text told rest

-- THE FIRST LINES

-- what stands after them: no line of the number of the inputs
abbrev pub NoInputs : List ℕ → Type 0
NoInputs text = (rest : List ℕ) → text ≢ codes "inputs " ++ rest

-- of the first lines with which a text begins, that number is read, or that there is none
pub record ReadsInputs (text : List ℕ) (found : Option ℕ) : Type 0 where
  pub read : (i : Option ℕ) (more : List ℕ) → IsSmallOption i → NoInputs more → text ≡ opening_text i ++ more → found ≡ i

-- a text begins with first lines, and with no others
pub record IsOpening (text : List ℕ) (inputs : Option ℕ) (rest : List ℕ) : Type 0 where
  pub small : IsSmallOption inputs
  pub is : text ≡ opening_text inputs ++ rest
  pub only : (i : Option ℕ) (more : List ℕ) → IsSmallOption i → NoInputs more → text ≡ opening_text i ++ more → (inputs ≡ i) × (rest ≡ more)

pub record NoOpening (text : List ℕ) : Type 0 where
  pub none : (i : Option ℕ) (more : List ℕ) → IsSmallOption i → NoInputs more → text ≡ opening_text i ++ more → ⊥

-- THE HEAD

-- without what a text of cases doesn't say
abbrev pub unbounded : HeadValue → HeadValue
unbounded h = record {
  sectors = h.sectors;
  entries = h.entries;
  cuts = h.cuts;
  bound = 0;
  tears = h.tears;
  by = h.by;
  first = false;
  programs = h.programs;
  images = 0;
  base = h.base;
}

-- two heads say the same in a text of cases
pub record AreAlike (h v : HeadValue) : Type 0 where
  pub options : HaveSameOptions (unbounded h) (unbounded v)
  pub programs : h.programs ≡ v.programs

abbrev pub torn_option : Losses → Option ℕ
torn_option asked = if asked.tears then Some asked.torn else None

abbrev pub losses_words : Losses → List (List ℕ)
losses_words asked =
    codes "bound" ∷ codes "any" ∷ codes "tears" ∷ yes_or_no asked.tears ∷ (option_words (codes "torn") (torn_option asked) ++ option_words (codes "at-most") asked.lost)

pub record ReadsLosses (line : List ℕ) (asked : Losses) (rest : List ℕ) : Type 0 where
  pub read : (h : HeadValue) (w : Losses) (ws : List (List ℕ)) → AreLosses h w → AreWords ws → IsOtherFirst (codes "torn") ws → IsOtherFirst (codes "at-most") ws
      → line ≡ join_words (losses_words w ++ ws) → (asked ≡ w) × (rest ≡ join_words ws)

pub record ReadsCaseOptions (line : List ℕ) (h : HeadValue) (asked : Losses) : Type 0 where
  pub read : (v : HeadValue) (w : Losses) → IsSmallHead v → AreLosses v w → line ≡ join_words (device_words v ++ (losses_words w ++ given_words v))
      → HaveSameOptions h (unbounded v) × (asked ≡ w)

-- of a text that begins with options and programs, these are read
pub record ReadsCaseHead (text : List ℕ) (h : HeadValue) (asked : Losses) : Type 0 where
  pub read : (v : HeadValue) (w : Losses) (rest : List ℕ) → IsPrintedHead v → AreLosses v w → NoProgram rest → text ≡ options_text v w ++ rest
      → HaveSameOptions h (unbounded v) × (h.programs ≡ v.programs) × (asked ≡ w)

-- a text begins with the options and programs of a run, and with no others
pub record IsCaseHead (text : List ℕ) (h : HeadValue) (asked : Losses) (rest : List ℕ) : Type 0 where
  pub printed : IsPrintedHead h
  pub losses : AreLosses h asked
  pub is : text ≡ options_text h asked ++ rest
  pub only : (v : HeadValue) (w : Losses) (more : List ℕ) → IsPrintedHead v → AreLosses v w → NoProgram more → text ≡ options_text v w ++ more
      → AreAlike h v × (asked ≡ w) × (rest ≡ more)

pub record NoCaseHead (text : List ℕ) : Type 0 where
  pub none : (v : HeadValue) (w : Losses) (more : List ℕ) → IsPrintedHead v → AreLosses v w → NoProgram more → text ≡ options_text v w ++ more → ⊥

-- THE LAST LINE

pub record IsSmallTotals (t : CaseTotals) : Type 0 where
  pub cuts : t.cuts < 2 ^ 64
  pub cases : t.cases < 2 ^ 64
  pub failing : t.failing < 2 ^ 64
  pub torn : t.torn < 2 ^ 64
  pub lost : t.lost < 2 ^ 64

-- of words the second is read
pub record ReadsSecond (line word rest : List ℕ) : Type 0 where
  pub read : (w v : List ℕ) (ws : List (List ℕ)) → IsWord w → IsWord v → line ≡ join_words (w ∷ v ∷ ws) → (word ≡ v) × (rest ≡ join_words ws)

pub record ReadsTotals (line : List ℕ) (totals : CaseTotals) : Type 0 where
  pub read : (all : Bool) (t : CaseTotals) → IsSmallTotals t → line ≡ totals_line all t → totals ≡ t

-- A WHOLE TEXT

-- what is read of a text: the number of its inputs, its head, what is asked of losses, the bytes of its lines and what they come to; and
-- the number of its file
pub record CasesRead : Type 0 where
  pub inputs : Option ℕ
  pub head : HeadValue
  pub asked : Losses
  pub lines : List ℕ
  pub totals : CaseTotals
  pub file : ℕ

-- it says that
pub record SaysCases (c : CasesValue) (r : CasesRead) : Type 0 where
  pub inputs : r.inputs ≡ c.inputs
  pub head : AreAlike r.head c.head
  pub asked : r.asked ≡ c.asked
  pub lines : r.lines ≡ flat_map (told_line c.head.by) c.told
  pub totals : r.totals ≡ c.totals

-- the bytes are the text of cases, of which that is read: whatever cases they are the text of
pub record IsCasesPart (bytes : List ℕ) (r : CasesRead) : Type 0 where
  pub cases : CasesValue
  pub is : IsCasesText bytes cases
  pub head : r.head ≡ cases.head
  pub only : (c : CasesValue) → IsCasesText bytes c → SaysCases c r
