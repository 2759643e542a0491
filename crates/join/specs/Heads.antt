-- The options and the programs of a part, read (docs/OUTPUT.md, The report).
use Rattle.std.specs.Prelude.{ℕ, ◌+◌, ◌≡◌, ◌≢◌, ◌<◌, ◌≤◌, ◌^◌, ◌&&◌, nat_le, nat_lt, Bool, true, List, [], ◌∷◌, ◌++◌, length, codes, Option, None, Some, unwrap_or}
use Rattle.std.specs.Fmt.{decimal}
use Rattle.std.specs.List.{All, flat_map}
use Rattle.std.specs.Option.{option_map_or}
use Rattle.base.specs.Sizes.{most_sectors}
use Rattle.epochs.specs.declared.flushes.Flushes.{Flushes}
use Rattle.epochs.specs.declared.cuts.CutKind.{CutKind}
use Rattle.epochs.specs.declared.part.By.{By}
use Rattle.epochs.specs.declared.part.By.TheVariants as by
use Rattle.epochs.specs.declared.cuts.Cuts.{Cuts}
use Rattle.epochs.specs.Cuts.{is_before_last}
use Rattle.epochs.specs.Flushes.{places_of}
use Rattle.report.specs.Words.{next_flush}
use Rattle.report.specs.MarkReading.{lacks}
use Rattle.report.specs.declared.head.ProgramHead.{ProgramHead}
use Rattle.report.specs.Text.{yes_or_no, cuts_word}
use Rattle.report.specs.Report.{HeadValue, options_text, program_lines, steps_word}
use Rattle.join.specs.declared.options.GivenOptions.{GivenOptions}

-- a number that is given is within 64 bits
abbrev pub IsSmallOption : Option ℕ → Type 0
IsSmallOption None = Unit {0}
IsSmallOption (Some number) = number < 2 ^ 64

-- and one within 32 bits
abbrev pub IsFewOption : Option ℕ → Type 0
IsFewOption None = Unit {0}
IsFewOption (Some number) = number < 2 ^ 32

-- what is said of a program is within its ranges
pub record IsProgramHead (p : ProgramHead) : Type 0 where
  pub slots : p.slots < 2 ^ 32
  pub limit : p.limit < 2 ^ 64
  pub guards : IsFewOption p.guards

-- the numbers of a head are within their ranges
pub record IsSmallHead (h : HeadValue) : Type 0 where
  pub sectors : h.sectors < 2 ^ 32
  pub entries : h.entries < 2 ^ 32
  pub bound : h.bound < 2 ^ 8
  pub from : IsSmallOption h.cuts.from
  pub to : IsSmallOption h.cuts.to
  pub flushes : All (λ (entry : ℕ). entry < 2 ^ 32) (places_of h.cuts.flushes)
  pub base : IsSmallOption h.base
  pub programs : All IsProgramHead h.programs

-- of a program no more slots are guarded than it has, and none where it isn't verified
abbrev pub are_guards_of_run : ProgramHead → Bool
are_guards_of_run p = option_map_or (λ n. nat_le n p.slots && p.verified) p.guards true

-- a program of a run: 1 to 4,096 slots, and at most 1,000,000,000 steps
abbrev pub is_program_of_run : ProgramHead → Bool
is_program_of_run p = nat_le 1 p.slots && nat_le p.slots 4096 && nat_le p.limit 1000000000 && are_guards_of_run p

abbrev pub are_programs_of_run : List ProgramHead → Bool
are_programs_of_run [] = true
are_programs_of_run (p ∷ ps) = is_program_of_run p && are_programs_of_run ps

-- flushes are added before entries of a log with that many
abbrev pub are_entries_of_run : ℕ → List ℕ → Bool
are_entries_of_run entries [] = true
are_entries_of_run entries (e ∷ es) = nat_lt e entries && are_entries_of_run entries es

-- the cuts of a run whose log has that many entries: flushes before some of these, a first and a last cut of the log, and the first isn't
-- after the last
abbrev pub are_cuts_of_run : ℕ → Cuts → Bool
are_cuts_of_run entries cuts =
    are_entries_of_run entries (places_of cuts.flushes) && nat_le (unwrap_or cuts.from 0) entries && nat_le (unwrap_or cuts.to 0) entries
    && is_before_last cuts.to (unwrap_or cuts.from 0)

-- the options of a run: 1 to 33,554,432 sectors, at most 65,536 entries, and at most 3 lost or torn parts
abbrev pub are_options_of_run : HeadValue → Bool
are_options_of_run h = nat_le 1 h.sectors && nat_le h.sectors most_sectors && nat_le h.entries 65536 && nat_le h.bound 3 && are_cuts_of_run h.entries h.cuts

-- a head as a run can have it: each number within its range, and one program to eight
pub record IsPrintedHead (h : HeadValue) : Type 0 where
  pub numbers : IsSmallHead h
  pub some : 0 < length h.programs
  pub few : length h.programs ≤ 8
  pub options : are_options_of_run h ≡ true
  pub programs : are_programs_of_run h.programs ≡ true

-- a text is the options and the programs of such a head, which says whether the first failing image alone is shown
pub record AreOptions (text : List ℕ) (first : Bool) : Type 0 where
  pub head : HeadValue
  pub printed : IsPrintedHead head
  pub shown : head.first ≡ first
  pub is : text ≡ options_text head

-- words with blanks between
abbrev pub join_words : List (List ℕ) → List ℕ
join_words [] = []
join_words (w ∷ []) = w
join_words (w ∷ v ∷ vs) = w ++ 32 ∷ join_words (v ∷ vs)

-- the words of an option with a number, where it is given
abbrev pub option_words : List ℕ → Option ℕ → List (List ℕ)
option_words name None = []
option_words name (Some number) = name ∷ decimal number ∷ []

abbrev pub by_list : By → List (List ℕ)
by_list by.Sector = []
by_list by.Write = codes "by" ∷ codes "write" ∷ []

-- entries with commas between, where there are some
abbrev pub entries_text : List ℕ → List ℕ
entries_text [] = []
entries_text (entry ∷ entries) = decimal entry ++ flat_map next_flush entries

abbrev pub flush_list : List ℕ → List (List ℕ)
flush_list [] = []
flush_list (entry ∷ entries) = codes "flush" ∷ entries_text (entry ∷ entries) ∷ []

-- the words of the line of the options, in three parts
abbrev pub device_words : HeadValue → List (List ℕ)
device_words h = codes "sectors" ∷ decimal h.sectors ∷ codes "entries" ∷ decimal h.entries ∷ codes "cuts" ∷ cuts_word h.cuts.kind ∷ []

abbrev pub choices_words : HeadValue → List (List ℕ)
choices_words h = codes "bound" ∷ decimal h.bound ∷ codes "tears" ∷ yes_or_no h.tears ∷ codes "first" ∷ yes_or_no h.first ∷ []

abbrev pub given_words : HeadValue → List (List ℕ)
given_words h =
    by_list h.by ++ (flush_list (places_of h.cuts.flushes) ++ (option_words (codes "from") h.cuts.from ++ (option_words (codes "to") h.cuts.to ++ option_words (codes "base") h.base)))

-- the words of a program's line after `program`
abbrev pub program_words : ℕ → ProgramHead → List (List ℕ)
program_words number p = decimal number ∷ codes "slots" ∷ decimal p.slots ∷ steps_word p.verified ∷ decimal p.limit ∷ option_words (codes "guards") p.guards

-- a text is one word
abbrev pub IsWord : List ℕ → Type 0
IsWord word = (0 < length word) × (lacks 32 word ≡ true)

abbrev pub AreWords : List (List ℕ) → Type 0
AreWords [] = Unit {0}
AreWords (w ∷ ws) = IsWord w × AreWords ws

-- the first of words is another one than this
abbrev pub IsOtherFirst : List ℕ → List (List ℕ) → Type 0
IsOtherFirst name [] = Unit {0}
IsOtherFirst name (w ∷ ws) = w ≢ name

-- of words the first is read, and what stands after it; of none, none
pub record ReadsWord (line word rest : List ℕ) : Type 0 where
  pub read : (w : List ℕ) (ws : List (List ℕ)) → IsWord w → line ≡ join_words (w ∷ ws) → (word ≡ w) × (rest ≡ join_words ws)
  pub none : line ≡ [] → word ≡ []

-- of words that may begin with an option, its number is read
pub record ReadsOption (name line : List ℕ) (found : Option ℕ) (rest : List ℕ) : Type 0 where
  pub read : (o : Option ℕ) (ws : List (List ℕ)) → AreWords ws → IsSmallOption o → IsOtherFirst name ws → line ≡ join_words (option_words name o ++ ws)
      → (found ≡ o) × (rest ≡ join_words ws)

pub record ReadsBy (line : List ℕ) (found : By) (rest : List ℕ) : Type 0 where
  pub read : (way : By) (ws : List (List ℕ)) → AreWords ws → IsOtherFirst (codes "by") ws → line ≡ join_words (by_list way ++ ws) → (found ≡ way) × (rest ≡ join_words ws)

-- entries are numbers of 32 bits
abbrev pub AreEntries : List ℕ → Type 0
AreEntries entries = All (λ (entry : ℕ). entry < 2 ^ 32) entries

-- of the text of a list of entries, these are read after others
pub record ReadsEntries (before : List ℕ) (left : ℕ) (text : List ℕ) (found : Flushes) : Type 0 where
  pub read : (entry : ℕ) (entries : List ℕ) → length entries < left → AreEntries (entry ∷ entries) → text ≡ entries_text (entry ∷ entries)
      → places_of found ≡ before ++ entry ∷ entries

pub record ReadsFlushes (line : List ℕ) (found : Flushes) (rest : List ℕ) : Type 0 where
  pub read : (entries : List ℕ) (ws : List (List ℕ)) → length entries ≤ 64 → AreEntries entries → AreWords ws → IsOtherFirst (codes "flush") ws
      → line ≡ join_words (flush_list entries ++ ws) → (places_of found ≡ entries) × (rest ≡ join_words ws)

-- the three parts of the line of the options are read
pub record ReadsDevice (line : List ℕ) (sectors entries : ℕ) (kind : CutKind) (rest : List ℕ) : Type 0 where
  pub read : (v : HeadValue) (ws : List (List ℕ)) → IsSmallHead v → line ≡ join_words (device_words v ++ ws)
      → (sectors ≡ v.sectors) × (entries ≡ v.entries) × (kind ≡ v.cuts.kind) × (rest ≡ join_words ws)

pub record ReadsChoices (line : List ℕ) (bound : ℕ) (tears first : Bool) (rest : List ℕ) : Type 0 where
  pub read : (v : HeadValue) (ws : List (List ℕ)) → IsSmallHead v → line ≡ join_words (choices_words v ++ ws)
      → (bound ≡ v.bound) × (tears ≡ v.tears) × (first ≡ v.first) × (rest ≡ join_words ws)

pub record ReadsGiven (line : List ℕ) (g : GivenOptions) : Type 0 where
  pub read : (v : HeadValue) → IsSmallHead v → line ≡ join_words (given_words v)
      → (g.by ≡ v.by) × (places_of g.flushes ≡ places_of v.cuts.flushes) × (g.from ≡ v.cuts.from) × (g.to ≡ v.cuts.to) × (g.base ≡ v.base)

-- the numbers of these options are within their ranges
pub record IsSmallGiven (g : GivenOptions) : Type 0 where
  pub flushes : AreEntries (places_of g.flushes)
  pub from : IsSmallOption g.from
  pub to : IsSmallOption g.to
  pub base : IsSmallOption g.base

-- two heads have the same options, and so the same line of them
pub record HaveSameOptions (h v : HeadValue) : Type 0 where
  pub sectors : h.sectors ≡ v.sectors
  pub entries : h.entries ≡ v.entries
  pub kind : h.cuts.kind ≡ v.cuts.kind
  pub from : h.cuts.from ≡ v.cuts.from
  pub to : h.cuts.to ≡ v.cuts.to
  pub flushes : places_of h.cuts.flushes ≡ places_of v.cuts.flushes
  pub bound : h.bound ≡ v.bound
  pub tears : h.tears ≡ v.tears
  pub way : h.by ≡ v.by
  pub first : h.first ≡ v.first
  pub base : h.base ≡ v.base

pub record ReadsOptions (line : List ℕ) (h : HeadValue) : Type 0 where
  pub read : (v : HeadValue) → IsSmallHead v → line ≡ join_words (device_words v ++ (choices_words v ++ given_words v)) → HaveSameOptions h v

-- of the words of guards, where there are some, their number is read
pub record ReadsGuards (line : List ℕ) (found : Option ℕ) : Type 0 where
  pub read : (o : Option ℕ) → IsFewOption o → line ≡ join_words (option_words (codes "guards") o) → found ≡ o

pub record ReadsProgram (line : List ℕ) (p : ProgramHead) : Type 0 where
  pub read : (number : ℕ) (q : ProgramHead) → number < 2 ^ 64 → IsProgramHead q → line ≡ join_words (program_words number q) → p ≡ q

-- what stands after the programs: no line of one more
abbrev pub NoProgram : List ℕ → Type 0
NoProgram text = (rest : List ℕ) → text ≢ codes "program " ++ rest

-- a text goes on after its head with a line that is no program's
pub record HasLines (text head : List ℕ) : Type 0 where
  pub rest : List ℕ
  pub is : text ≡ head ++ rest
  pub other : NoProgram rest

-- a text begins with a line of a program: after its first word it has these words
pub record IsProgramLine (text words rest : List ℕ) : Type 0 where
  pub is : text ≡ codes "program " ++ (words ++ 10 ∷ rest)
  pub one : lacks 10 words ≡ true

pub record NoProgramLine (text : List ℕ) : Type 0 where
  pub none : (words rest : List ℕ) → lacks 10 words ≡ true → text ≡ codes "program " ++ (words ++ 10 ∷ rest) → ⊥

-- of lines of programs with which a text begins, these are read after others
pub record ReadsMore (before : List ProgramHead) (text : List ℕ) (found : List ProgramHead) : Type 0 where
  pub read : (qs : List ProgramHead) (rest : List ℕ) → length before + length qs ≤ 8 → All IsProgramHead qs → NoProgram rest
      → text ≡ program_lines (length before) qs ++ rest → found ≡ before ++ qs

-- all lines of programs with which a text begins are read
pub record ReadsPrograms (text : List ℕ) (found : List ProgramHead) : Type 0 where
  pub read : (qs : List ProgramHead) (rest : List ℕ) → length qs ≤ 8 → All IsProgramHead qs → NoProgram rest → text ≡ program_lines 0 qs ++ rest → found ≡ qs

-- a text is the options and the programs of such a head, which are read
pub record IsHeadRead (text : List ℕ) (h : HeadValue) : Type 0 where
  pub printed : IsPrintedHead h
  pub is : text ≡ options_text h
  pub only : (v : HeadValue) → IsPrintedHead v → text ≡ options_text v → HaveSameOptions h v × (h.programs ≡ v.programs)

pub record NoHeadRead (text : List ℕ) : Type 0 where
  pub none : (v : HeadValue) → IsPrintedHead v → text ≡ options_text v → ⊥

-- of a text that begins with the options and programs of such a head, these are read
pub record ReadsHead (text : List ℕ) (h : HeadValue) : Type 0 where
  pub read : (v : HeadValue) (rest : List ℕ) → IsPrintedHead v → NoProgram rest → text ≡ options_text v ++ rest → HaveSameOptions h v × (h.programs ≡ v.programs)
