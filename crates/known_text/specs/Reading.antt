-- What is read of a text of records, piece by piece. A reader finds what was printed; what it finds of other texts is compared with them after.
use Rattle.std.specs.Prelude.{ℕ, ◌≡◌, ◌+◌, ◌<◌, ◌≤◌, ◌^◌, eqb, true, List, [], ◌∷◌, ◌++◌, codes, length, map, slice_get, Some}
use Rattle.std.specs.Fmt.{decimal}
use Rattle.std.specs.List.{flat_map, list_all, IsDistinct}
use Rattle.epochs.specs.Units.{marks_at}
use Rattle.logfmt.specs.declared.entry.Entry.{Entry}
use Rattle.logfmt.specs.Bounds.{LogValue}
use Rattle.epochs.specs.declared.part.By.{By}
use Rattle.epochs.specs.declared.part.Part.{Part}
use Rattle.choices.specs.declared.choice.Departure.{Departure}
use Rattle.cases.specs.AtCut.{parts_of}
use Rattle.report.specs.MarkReading.{lacks}
use Rattle.known.specs.declared.run.RunEnd.{RunEnd}
use Rattle.known.specs.declared.run.RunEnd.TheVariants.{Answer, Signal}
use Rattle.known_text.specs.declared.looked.SectorRange.{SectorRange}
use Rattle.lost_text.specs.Lost.{set_of}
use Rattle.lost_text.specs.Said.{IsSaid}
use Rattle.known_text.specs.declared.record.RanSaid.{RanSaid}
use Rattle.known_text.specs.Ranges.{is_range, range_text, ranges_text, sectors_in}
use Rattle.known_text.specs.Records.{RanWords, IsEnd, cut_at, end_text, ran_text}

-- a text is cut at its first c
pub record IsCut (c : ℕ) (text front back : List ℕ) : Type 0 where
  pub is : text ≡ front ++ c ∷ back
  pub first : lacks c front ≡ true

pub record NoCut (c : ℕ) (text : List ℕ) : Type 0 where
  pub none : lacks c text ≡ true

-- RANGES

-- a range within its numbers
pub record IsSmall (r : SectorRange) : Type 0 where
  pub order : r.first ≤ r.last
  pub small : r.last < 2 ^ 32

abbrev pub AreSmall : List SectorRange → Type 0
AreSmall [] = Unit {0}
AreSmall (r ∷ rs) = IsSmall r × AreSmall rs

pub record ReadsRange (word : List ℕ) (found : SectorRange) : Type 0 where
  pub read : (r : SectorRange) → IsSmall r → word ≡ range_text r → found ≡ r

-- some ranges are read of a text, and the rest of it is that of the others
pub record HasReadSome (whole : List ℕ) (done : List SectorRange) (rest : List ℕ) : Type 0 where
  pub read : (a : SectorRange) (more : List SectorRange) → AreSmall (a ∷ more) → whole ≡ ranges_text (a ∷ more)
      → (b : SectorRange) × (left : List SectorRange) × (a ∷ more ≡ done ++ b ∷ left) × AreSmall (b ∷ left) × (rest ≡ ranges_text (b ∷ left))

pub record ReadsRanges (text : List ℕ) (found : List SectorRange) : Type 0 where
  pub read : (rs : List SectorRange) → AreSmall rs → text ≡ ranges_text rs → found ≡ rs

-- ranges have these sectors of a device, and none twice
pub record AreSectors (sectors : ℕ) (ranges : List SectorRange) (looked : List ℕ) : Type 0 where
  pub are : list_all (is_range sectors) ranges ≡ true
  pub all : looked ≡ flat_map sectors_in ranges
  pub once : IsDistinct eqb looked

pub record NoSectors (sectors : ℕ) (ranges : List SectorRange) : Type 0 where
  pub none : (looked : List ℕ) → AreSectors sectors ranges looked → ⊥

-- RECORDS

-- of a word that names an end its number, and what stands after that and a blank
pub record ReadsNumbered (kind text : List ℕ) (end : RunEnd) (rest : List ℕ) : Type 0 where
  pub answer : (n : ℕ) (more : List ℕ) → n < 2 ^ 8 → kind ≡ codes "answer" → text ≡ decimal n ++ 32 ∷ more → (end ≡ Answer n) × (rest ≡ more)
  pub signal : (n : ℕ) (more : List ℕ) → n < 2 ^ 8 → kind ≡ codes "signal" → text ≡ decimal n ++ 32 ∷ more → (end ≡ Signal n) × (rest ≡ more)

-- how a program ended, and what stands after that and a blank
pub record ReadsEnd (text : List ℕ) (end : RunEnd) (rest : List ℕ) : Type 0 where
  pub read : (e : RunEnd) (more : List ℕ) → IsEnd e → text ≡ end_text e ++ 32 ∷ more → (end ≡ e) × (rest ≡ more)

-- the words of a line are within their ranges, and its choice is one word
pub record AreWords (w : RanWords) : Type 0 where
  pub cut : w.cut < 2 ^ 32
  pub marks : w.marks < 2 ^ 32
  pub choice : lacks 32 w.choice ≡ true
  pub ending : IsEnd w.end

pub record ReadsRan (line : List ℕ) (found : RanWords) : Type 0 where
  pub read : (w : RanWords) → AreWords w → line ≡ ran_text w → found ≡ w

-- a line has the form of a record with these words, and no others
pub record IsSaidSo (line : List ℕ) (said : RanWords) : Type 0 where
  pub is : line ≡ ran_text said
  pub only : (w : RanWords) → AreWords w → line ≡ ran_text w → said ≡ w

pub record NoneIsSaidSo (line : List ℕ) : Type 0 where
  pub none : (w : RanWords) → AreWords w → line ≡ ran_text w → ⊥

-- words are of a cut of a log, have as many marks as stand before it, and an end that there is
pub record AreOfLog (entries : List Entry) (w : RanWords) : Type 0 where
  pub within : w.cut ≤ length entries
  pub marks : w.marks ≡ marks_at entries w.cut
  pub ending : IsEnd w.end

-- of the first n entries it is counted how many marks stand before each, and in all
pub record AreCounted (entries : List Entry) (n count : ℕ) (marks : List ℕ) : Type 0 where
  pub all : count ≡ marks_at entries n
  pub each : (cut : ℕ) → cut ≤ n → slice_get marks cut ≡ Some (marks_at entries cut)
  pub long : length marks ≡ n + 1

-- how many marks stand before each cut
pub record AreMarks (entries : List Entry) (marks : List ℕ) : Type 0 where
  pub each : (cut : ℕ) → cut ≤ length entries → slice_get marks cut ≡ Some (marks_at entries cut)
  pub long : length marks ≡ length entries + 1

-- a word is that of a choice at a cut, and of each part at risk there these are the sets of what becomes of it
pub record AreSets (log : LogValue) (way : By) (cut : ℕ) (choice : List ℕ) (sets : List ℕ) : Type 0 where
  pub lost : List Departure
  pub said : IsSaid (cut_at log way cut) true choice lost
  pub each : (others : List Departure) (it : IsSaid (cut_at log way cut) true choice others)
      → sets ≡ map (λ (p : Part). set_of (it.choice p)) (parts_of (cut_at log way cut))

pub record NoSets (log : LogValue) (way : By) (cut : ℕ) (choice : List ℕ) : Type 0 where
  pub none : (lost : List Departure) → IsSaid (cut_at log way cut) true choice lost → ⊥

-- the words that the code has of a line
abbrev pub ran_said : RanSaid → RanWords
ran_said said = record { cut = said.cut; choice = said.choice.now; marks = said.marks; end = said.end; looked = said.looked.now }
