-- What commands answer and refuse, by what their files hold.
use Rattle.std.proofs.Common.{ℕ, zero, suc, ◌≡◌, ◌+◌, ◌<◌, ◌≤◌, Bool, true, false, cond, nat_lt, List, [], ◌∷◌, ◌++◌, length, map, take, get_or, append-nil, add-one, Option, None, Some, position, is_none, refl, sym, ◌∙◌, ap, arith}
use Rattle.std.proofs.lemmas.Bool.Decides.{nat_tests}
use Rattle.std.proofs.lemmas.List.{map-append}
use Rattle.std.specs.Option.{option_map, option_to_list}
use Rattle.std.specs.List.{filter_map, position_or_len}
use Rattle.base.specs.declared.refusal.Refusal.{Refusal}
use Rattle.base.specs.Refusals.{memory_refusal}
use Rattle.request.specs.declared.settings.Settings.{Settings}
use Rattle.request.specs.Refusals.{file_refusal}
use Rattle.request.specs.Source.{Recording}
use Rattle.request.specs.declared.trials.Trial.{Trial}
use Rattle.request.specs.declared.trials.TrialWords.{TrialWords}
use Rattle.request.specs.Trials.{AskForTrial}
use Rattle.runs.specs.declared.explore_command.WantedAnswer.{WantedAnswer}
use Rattle.base.specs.declared.causes.JoinCause.TheVariants as joining
use Rattle.commands.specs.Acting.{join_refusal, most_texts, RefusesTexts, RefusesParts, for_no_part, for_many_parts, for_unread_part, for_parts, for_part_memory}
use Rattle.commands.specs.Acting.{second_held, lines_held, RefusesCheck, for_program_file, for_image_file, for_lines_file}
use Rattle.commands.specs.Acting.{RefusesGiven, for_log_of_report, for_report_file, for_base_of_report, for_given}
use Rattle.commands.specs.Acting.{Files, first_file, first_held, initial_of, unread, RefusesFile, for_file, RefusesRecording, for_log_file, for_base_file, for_recording, RefusesFiles, for_unread, for_base, for_memory}

-- the first file can't be read
pub unread_file : (files : Files) (Rest : List ℕ → Refusal → Type 0) (r : Refusal) → (first_held files ≡ None) × (r ≡ file_refusal 0) → RefusesFile files Rest r
unread_file files Rest r h = rw h.1 (for_file h.0)

-- the program of a run on one image can't be read, the image can't be, and the lines of C can't be
pub no_program_file : (w : TrialWords) (files : Files) (r : Refusal) (t : Trial) → AskForTrial w t → (first_held files ≡ None) × (r ≡ file_refusal 0) → RefusesCheck w files r
no_program_file w files r t asked h = rw h.1 (for_program_file t asked h.0)

pub no_image_file : (w : TrialWords) (files : Files) (r : Refusal) (t : Trial) (program : List ℕ) → AskForTrial w t → first_held files ≡ Some program
    → (second_held files ≡ None) × (r ≡ file_refusal 1) → RefusesCheck w files r
no_image_file w files r t program asked read h = rw h.1 (for_image_file t program asked read h.0)

pub no_lines_file : (w : TrialWords) (files : Files) (r : Refusal) (t : Trial) (program image : List ℕ) → AskForTrial w t → first_held files ≡ Some program
    → second_held files ≡ Some image → (lines_held files ≡ None) × (r ≡ file_refusal 2) → RefusesCheck w files r
no_lines_file w files r t program image asked read shown h = rw h.1 (for_lines_file t program image asked read shown h.0)

-- of a report, or records, the log, they themselves and what the device held before can't be read
pub no_log_of_report : (files : Files) (Rest : Recording → List ℕ → Refusal → Type 0) (r : Refusal) → (first_held files ≡ None) × (r ≡ file_refusal 0) → RefusesGiven files Rest r
no_log_of_report files Rest r h = rw h.1 (for_log_of_report h.0)

pub no_report_file : (files : Files) (Rest : Recording → List ℕ → Refusal → Type 0) (r : Refusal) (log : List ℕ) → first_held files ≡ Some log
    → (second_held files ≡ None) × (r ≡ file_refusal 1) → RefusesGiven files Rest r
no_report_file files Rest r log read h = rw h.1 (for_report_file log read h.0)

pub no_base_of_report : (files : Files) (Rest : Recording → List ℕ → Refusal → Type 0) (r : Refusal) (log report : List ℕ) → first_held files ≡ Some log
    → second_held files ≡ Some report → (initial_of files.base ≡ None) × (r ≡ file_refusal (length files.named)) → RefusesGiven files Rest r
no_base_of_report files Rest r log report read second h = rw h.1 (for_base_of_report log report read second h.0)

-- they can't be read, whatever is refused of them
pub unread_given : (files : Files) (Rest : Recording → List ℕ → Refusal → Type 0) (r : Refusal) → RefusesGiven files (λ text given q. ⊥) r → RefusesGiven files Rest r
unread_given files Rest _ (for_log_of_report h) = for_log_of_report h
unread_given files Rest _ (for_report_file log read h) = for_report_file log read h
unread_given files Rest _ (for_base_of_report log given read second h) = for_base_of_report log given read second h
unread_given files Rest _ (for_given log given initial r read second based why) = absurd why

-- the log of a recording can't be read, and what the device held before it can't be
pub no_log_file : (files : Files) (Rest : Recording → Refusal → Type 0) (r : Refusal) → (first_held files ≡ None) × (r ≡ file_refusal 0) → RefusesRecording files Rest r
no_log_file files Rest r h = rw h.1 (for_log_file h.0)

pub no_base_file : (files : Files) (Rest : Recording → Refusal → Type 0) (r : Refusal) (held : List ℕ) → first_held files ≡ Some held
    → (initial_of files.base ≡ None) × (r ≡ file_refusal (length files.named)) → RefusesRecording files Rest r
no_base_file files Rest r held read h = rw h.1 (for_base_file held read h.0)

-- the recording can't be read
pub unread_recording : (files : Files) (Rest : Recording → Refusal → Type 0) (r : Refusal) → RefusesRecording files (λ text q. ⊥) r → RefusesRecording files Rest r
unread_recording files Rest _ (for_log_file h) = for_log_file h
unread_recording files Rest _ (for_base_file held read h) = for_base_file held read h
unread_recording files Rest _ (for_recording held initial r there from why) = absurd why

-- no file passes the test where the place of the first is the end
none_by : (q n : ℕ) (b : Bool) → nat_lt q n ≡ b → cond b (Some q) None ≡ None → n ≤ q
none_by q n true e h = absurd (let bad : Some q ≡ None = h in cc)
none_by q n false e h = grind (arith, nat_tests)

none_within : {X : Type 0} (p : X → Bool) (xs : List X) → position p xs ≡ None → length xs ≤ position_or_len p xs
none_within p xs h = none_by (position_or_len p xs) (length xs) (nat_lt (position_or_len p xs) (length xs)) refl h

readable : {V : Type 0} (items : V → List ℕ) (files : List (Option V)) → length files ≤ position_or_len is_none files
    → map (option_map items) files ≡ map Some (filter_map (option_map items) files)
readable items [] h = refl
readable items (None ∷ files) h = absurd (let bad : suc (length files) ≤ 0 = h in omega (arith, bad))
readable items (Some v ∷ files) h = ap (λ rest. Some (items v) ∷ rest) (readable items files (let more : suc (length files) ≤ 1 + position_or_len is_none files = h in omega (arith, more)))

-- files all of which can be read hold what those that can be read hold
pub all_read : {V : Type 0} (items : V → List ℕ) (files : List (Option V)) → position is_none files ≡ None
    → map (option_map items) files ≡ map Some (filter_map (option_map items) files)
all_read items files h = readable items files (none_within is_none files h)

same_length : {V : Type 0} (items : V → List ℕ) (files : List (Option V)) → length (map (option_map items) files) ≡ length files
same_length items [] = refl
same_length items (file ∷ files) = ap suc (same_length items files)

same_place : {V : Type 0} (items : V → List ℕ) (files : List (Option V)) → position_or_len is_none (map (option_map items) files) ≡ position_or_len is_none files
same_place items [] = refl
same_place items (None ∷ files) = refl
same_place items (Some v ∷ files) = ap (λ n. 1 + n) (same_place items files)

next_by : (q n place : ℕ) (b : Bool) → nat_lt q n ≡ b → cond b (Some q) None ≡ Some place → cond (nat_lt (1 + q) (suc n)) (Some (1 + q)) None ≡ Some (place + 1)
next_by q n place true e h =
    let same : q ≡ place = (let s : Some q ≡ Some place = h in cc) in
    let less : nat_lt (1 + q) (suc n) ≡ true = grind (arith, nat_tests) in
    let more : 1 + q ≡ place + 1 = omega (arith, same) in
    rw (less, more) refl
next_by q n place false e h = absurd (let bad : None ≡ Some place = h in cc)

-- the first program that can't be read, after the log
pub unread_next : {V : Type 0} (items : V → List ℕ) (log : V) (files : List (Option V)) (place : ℕ) → position is_none files ≡ Some place
    → unread (map (option_map items) (Some log ∷ files)) ≡ Some (place + 1)
unread_next items log files place h =
    rw (same_place items files, same_length items files)
    (next_by (position_or_len is_none files) (length files) place (nat_lt (position_or_len is_none files) (length files)) refl h)

all_by : (q n : ℕ) (b : Bool) → nat_lt q n ≡ b → cond b (Some q) None ≡ None → cond (nat_lt (1 + q) (suc n)) (Some (1 + q)) None ≡ None
all_by q n true e h = absurd (let bad : Some q ≡ None = h in cc)
all_by q n false e h = let less : nat_lt (1 + q) (suc n) ≡ false = grind (arith, nat_tests) in rw less refl

-- all programs can be read, after the log
pub none_unread : {V : Type 0} (items : V → List ℕ) (log : V) (files : List (Option V)) → position is_none files ≡ None
    → unread (map (option_map items) (Some log ∷ files)) ≡ None
none_unread items log files h =
    rw (same_place items files, same_length items files)
    (all_by (position_or_len is_none files) (length files) (nat_lt (position_or_len is_none files) (length files)) refl h)

-- what one more file holds, if it can be read
filter_more : {V : Type 0} (items : V → List ℕ) (files : List (Option V)) (n : ℕ) (file : Option V) → n < length files → file ≡ get_or files n file
    → filter_map (option_map items) (take (suc n) files) ≡ filter_map (option_map items) (take n files) ++ option_to_list (option_map items file)
filter_more items [] n file lt here = absurd (omega (arith, lt))
filter_more items (None ∷ files) zero file lt here = rw here refl
filter_more items (Some v ∷ files) zero file lt here = rw here refl
filter_more items (None ∷ files) (suc n) file lt here = filter_more items files n file (omega (arith, lt)) here
filter_more items (Some v ∷ files) (suc n) file lt here = ap (λ rest. items v ∷ rest) (filter_more items files n file (omega (arith, lt)) here)

pub held_next : {V : Type 0} (items : V → List ℕ) (files : List (Option V)) (n : ℕ) (file : Option V) (v copy : V) (programs : List V) → n < length files
    → file ≡ get_or files n file → file ≡ Some v → items copy ≡ items v → map items programs ≡ filter_map (option_map items) (take n files)
    → map items (programs ++ copy ∷ []) ≡ filter_map (option_map items) (take (n + 1) files)
held_next items files n file v copy programs lt here is same before =
    let more = filter_more items files n file lt here in
    rw (add-one n, more, is, map-append items programs (copy ∷ []), before, same) refl

pub none_next : {V : Type 0} (items : V → List ℕ) (files : List (Option V)) (n : ℕ) (file : Option V) (programs : List V) → n < length files
    → file ≡ get_or files n file → file ≡ None → map items programs ≡ filter_map (option_map items) (take n files)
    → map items programs ≡ filter_map (option_map items) (take (n + 1) files)
none_next items files n file programs lt here is before =
    let more = filter_more items files n file lt here in
    rw (add-one n, more, is, before, append-nil) refl

-- why `explore` is refused by its files
pub no_file : {V : Type 0} {choice : List ℕ} {t : WantedAnswer} (items : V → List ℕ) (files : List (Option V)) (base : Option (Option (List ℕ))) (s : Settings) (r : Refusal) → length files ≡ 0 → r ≡ file_refusal 0
    → RefusesFiles t (record { named = map (option_map items) files; base = base; choice = choice }) s r
no_file items [] base s r none same = rw same (for_unread 0 refl)
no_file items (file ∷ files) base s r none same = absurd (let bad : suc (length files) ≡ 0 = none in omega (arith, bad))

pub no_log : {V : Type 0} {choice : List ℕ} {t : WantedAnswer} (items : V → List ℕ) (files : List (Option V)) (first : Option V) (others : List (Option V)) (base : Option (Option (List ℕ))) (s : Settings) (r : Refusal)
    → files ≡ first ∷ others → first ≡ None → r ≡ file_refusal 0 → RefusesFiles t (record { named = map (option_map items) files; base = base; choice = choice }) s r
no_log items files first others base s r split is same =
    let some : nat_lt 0 (suc (length (map (option_map items) others))) ≡ true = grind (arith, nat_tests) in
    rw (split, is, same) (for_unread 0 (rw some refl))

pub no_program : {V : Type 0} {choice : List ℕ} {t : WantedAnswer} (items : V → List ℕ) (files : List (Option V)) (first : Option V) (others : List (Option V)) (v : V) (place : ℕ) (base : Option (Option (List ℕ))) (s : Settings)
    (r : Refusal) → files ≡ first ∷ others → first ≡ Some v → position is_none others ≡ Some place → r ≡ file_refusal (place + 1)
    → RefusesFiles t (record { named = map (option_map items) files; base = base; choice = choice }) s r
no_program items files first others v place base s r split is there same =
    rw (split, is, same) (for_unread (place + 1) (unread_next items v others place there))

-- what was read of the files
pub files_read : {V : Type 0} (items : V → List ℕ) (files : List (Option V)) (first : Option V) (others : List (Option V)) (v : V) (log : List ℕ) (programs : List (List ℕ))
    → files ≡ first ∷ others → first ≡ Some v → position is_none others ≡ None → log ≡ items v → programs ≡ filter_map (option_map items) others
    → map (option_map items) files ≡ map Some (log ∷ programs)
files_read items files first others v log programs split is readable same all =
    rw (split, is, same, all) (ap (λ rest. Some (items v) ∷ rest) (all_read items others readable))

pub memory_wanting : {V : Type 0} {choice : List ℕ} {t : WantedAnswer} (items : V → List ℕ) (files : List (Option V)) (first : Option V) (others : List (Option V)) (v : V) (base : Option (Option (List ℕ))) (s : Settings) (r : Refusal)
    → files ≡ first ∷ others → first ≡ Some v → position is_none others ≡ None → r ≡ memory_refusal → RefusesFiles t (record { named = map (option_map items) files; base = base; choice = choice }) s r
memory_wanting items files first others v base s r split is readable same =
    rw (split, is, same) (for_memory (none_unread items v others readable))

-- all files that are named can be read, and that of the initial content can't be
pub no_base : {V : Type 0} {choice : List ℕ} {t : WantedAnswer} (items : V → List ℕ) (files : List (Option V)) (first : Option V) (others : List (Option V)) (v : V) (base : Option (Option (List ℕ))) (s : Settings) (r : Refusal)
    → files ≡ first ∷ others → first ≡ Some v → position is_none others ≡ None → (initial_of base ≡ None) × (r ≡ file_refusal (length (map (option_map items) files)))
    → RefusesFiles t (record { named = map (option_map items) files; base = base; choice = choice }) s r
no_base items files first others v base s r split is readable h =
    let all : unread (map (option_map items) files) ≡ None = rw (split, is) (none_unread items v others readable) in
    rw h.1 (for_base all h.0)

-- why `join` is refused by its files
pub no_part_file : {V : Type 0} {choice : List ℕ} {part : Bool} (items : V → List ℕ) (files : List (Option V)) (base : Option (Option (List ℕ))) (r : Refusal) → length files ≡ 0 → r ≡ file_refusal 0
    → RefusesParts part (record { named = map (option_map items) files; base = base; choice = choice }) r
no_part_file items [] base r none same = rw same (for_no_part refl)
no_part_file items (file ∷ files) base r none same = absurd (let bad : suc (length files) ≡ 0 = none in omega (arith, bad))

pub many_part_files : {V : Type 0} {choice : List ℕ} {part : Bool} (items : V → List ℕ) (files : List (Option V)) (base : Option (Option (List ℕ))) (r : Refusal) → most_texts < length files
    → r ≡ join_refusal (record { cause = joining.TooLong; file = most_texts }) → RefusesParts part (record { named = map (option_map items) files; base = base; choice = choice }) r
many_part_files items files base r many same = let long = same_length items files in rw same (for_many_parts (omega (arith, long, many)))

same_position : {V : Type 0} (items : V → List ℕ) (files : List (Option V)) → position is_none (map (option_map items) files) ≡ position is_none files
same_position items files = rw (same_place items files, same_length items files) refl

unread_parts : {V : Type 0} (items : V → List ℕ) (files : List (Option V)) (found : Option ℕ) → 0 < length files → position is_none files ≡ found → unread (map (option_map items) files) ≡ found
unread_parts items [] found some there = absurd (omega (arith, some))
unread_parts items (file ∷ files) found some there = same_position items (file ∷ files) ∙ there

pub unread_part : {V : Type 0} {choice : List ℕ} {part : Bool} (items : V → List ℕ) (files : List (Option V)) (place : ℕ) (base : Option (Option (List ℕ))) (r : Refusal) → 0 < length files → length files ≤ most_texts
    → position is_none files ≡ Some place → r ≡ file_refusal place → RefusesParts part (record { named = map (option_map items) files; base = base; choice = choice }) r
unread_part items files place base r some few there same =
    let long = same_length items files in rw same (for_unread_part place (omega (arith, long, few)) (unread_parts items files (Some place) some there))

pub part_memory : {V : Type 0} {choice : List ℕ} {part : Bool} (items : V → List ℕ) (files : List (Option V)) (base : Option (Option (List ℕ))) (r : Refusal) → 0 < length files → position is_none files ≡ None
    → r ≡ join_refusal (record { cause = joining.Memory; file = 0 }) → RefusesParts part (record { named = map (option_map items) files; base = base; choice = choice }) r
part_memory items files base r some readable same = rw same (for_part_memory (unread_parts items files None some readable))

-- the texts that were read are those of all files
pub texts_read : {V : Type 0} (items : V → List ℕ) (files : List (Option V)) (texts : List (List ℕ)) → position is_none files ≡ None → texts ≡ filter_map (option_map items) files
    → map (option_map items) files ≡ map Some texts
texts_read items files texts readable all = all_read items files readable ∙ ap (λ (ts : List (List ℕ)). map Some ts) (sym all)

map_long : {V W : Type 0} (f : V → W) (xs : List V) → length (map f xs) ≡ length xs
map_long f [] = refl
map_long f (x ∷ xs) = ap suc (map_long f xs)

pub texts_long : {V : Type 0} (items : V → List ℕ) (files : List (Option V)) (texts : List (List ℕ)) → position is_none files ≡ None → texts ≡ filter_map (option_map items) files
    → length texts ≡ length files
texts_long items files texts readable all =
    sym (map_long Some texts) ∙ ap (λ (fs : List (Option (List ℕ))). length fs) (sym (texts_read items files texts readable all)) ∙ same_length items files

pub copies_long : {V : Type 0} (items : V → List ℕ) (files : List (Option V)) (copies : List V) → position is_none files ≡ None → map items copies ≡ filter_map (option_map items) files
    → length copies ≡ length files
copies_long items files copies readable all = sym (map_long items copies) ∙ texts_long items files (map items copies) readable all

pub parts_refused : {V : Type 0} {choice : List ℕ} {part : Bool} (items : V → List ℕ) (files : List (Option V)) (texts : List (List ℕ)) (base : Option (Option (List ℕ))) (r : Refusal) → length files ≤ most_texts
    → position is_none files ≡ None → texts ≡ filter_map (option_map items) files → RefusesTexts part texts r → RefusesParts part (record { named = map (option_map items) files; base = base; choice = choice }) r
parts_refused items files texts base r few readable all why =
    let long = texts_long items files texts readable all in for_parts texts r (texts_read items files texts readable all) (omega (arith, long, few)) why

-- files that were read can be
all_there : (xs : List (List ℕ)) → position_or_len is_none (map Some xs) ≡ length (map Some xs)
all_there [] = refl
all_there (x ∷ xs) =
    let rest = all_there xs in
    let longer : 1 + position_or_len is_none (map Some xs) ≡ suc (length (map Some xs)) = omega (arith, rest) in
    longer

same_end : (q n : ℕ) → q ≡ n → cond (nat_lt q n) (Some q) None ≡ None
same_end q n same = let less : nat_lt q n ≡ false = grind (arith, nat_tests, same) in rw less refl

pub files_readable : (files : Files) (log : List ℕ) (programs : List (List ℕ)) → files.named ≡ map Some (log ∷ programs) → unread files.named ≡ None
files_readable files log programs is = ap unread is ∙ same_end (position_or_len is_none (map Some (log ∷ programs))) (length (map Some (log ∷ programs))) (all_there (log ∷ programs))

pub has_first : (files : Files) (log : List ℕ) (programs : List (List ℕ)) → files.named ≡ map Some (log ∷ programs) → first_held files ≡ None → ⊥
has_first files log programs is none = let bad : Some log ≡ None = sym (ap first_file is) ∙ none in cc
