-- The lines of the options and of the programs make a head.
use Rattle.std.proofs.Common.{ℕ, ◌≡◌, ◌≢◌, ◌+◌, ◌<◌, ◌==◌, ◌&&◌, nat_lt, not, Bool, true, false, if◌then◌else◌, List, [], ◌∷◌, ◌++◌, get_or, append_assoc, codes, Option, None, Some, refl, sym, ◌∙◌, ap, subst, arith}
use Rattle.std.specs.Fmt.{decimal}
use Rattle.std.specs.List.{flat_map, list_all}
use Rattle.std.specs.Str.{IsUtf8}
use Rattle.std.proofs.lemmas.Bool.Decides.{nat_tests}
use Rattle.std.proofs.lemmas.Str.{IsUtf8-from_ascii}
use Rattle.epochs.specs.declared.cuts.Cuts.{Cuts}
use Rattle.epochs.specs.declared.cuts.CutKind.{CutKind}
use Rattle.epochs.specs.declared.cuts.CutKind.TheVariants.{All, BeforeFlush, AfterMark}
use Rattle.epochs.specs.declared.part.By.{By}
use Rattle.epochs.specs.declared.part.By.TheVariants as by
use Rattle.epochs.specs.Flushes.{places_of}
use Rattle.report.specs.Words.{next_flush, flush_words, from_words, to_words, cuts_words}
use Rattle.report.specs.MarkReading.{lacks}
use Rattle.losses.proofs.Plain.{both, number, is_plain, ascii}
use Rattle.report.specs.declared.head.ProgramHead.{ProgramHead}
use Rattle.report.specs.Text.{yes_or_no, cuts_word, by_words}
use Rattle.report.specs.Report.{HeadValue, base_words, device_text, choices_text, given_text, options_line, steps_word, guards_words, steps_text, program_line, program_lines, options_text}
use Rattle.join.specs.Text.{lines_text, AreHeadLines, IsHead}

-- a byte of a line: of ASCII, and no newline
abbrev is_inner : ℕ → Bool
is_inner b = nat_lt b 128 && not (b == 10)

abbrev IsInner : List ℕ → Type 0
IsInner bs = list_all is_inner bs ≡ true

inner_digit : (k : ℕ) → k < 10 → is_inner (48 + k) ≡ true
inner_digit k small =
    let one : nat_lt (48 + k) 128 ≡ true = grind (arith, nat_tests, small) in
    let two : (48 + k == 10) ≡ false = grind (arith, nat_tests, small) in
    rw (one, two) refl

inner_number : (n : ℕ) → IsInner (decimal n)
inner_number n = number is_inner n inner_digit

beyond : (xs ys : List ℕ) → IsInner xs → IsInner ys → IsInner (xs ++ ys)
beyond xs ys own also = both is_inner xs ys own also

-- the words of the options

inner_kind : (kind : CutKind) → IsInner (cuts_word kind)
inner_kind All = refl
inner_kind BeforeFlush = refl
inner_kind AfterMark = refl

inner_yes : (is : Bool) → IsInner (yes_or_no is)
inner_yes true = refl
inner_yes false = refl

inner_by : (way : By) → IsInner (by_words way)
inner_by by.Sector = refl
inner_by by.Write = refl

inner_steps : (verified : Bool) → IsInner (steps_word verified)
inner_steps true = refl
inner_steps false = refl

inner_flushes : (es : List ℕ) → IsInner (flat_map next_flush es)
inner_flushes [] = refl
inner_flushes (e ∷ es) = beyond (next_flush e) (flat_map next_flush es) (beyond (codes ",") (decimal e) refl (inner_number e)) (inner_flushes es)

inner_flush : (es : List ℕ) → IsInner (flush_words es)
unfolding flush_words
inner_flush [] = refl
inner_flush (e ∷ es) = beyond (codes " flush " ++ decimal e) (flat_map next_flush es) (beyond (codes " flush ") (decimal e) refl (inner_number e)) (inner_flushes es)

inner_from : (o : Option ℕ) → IsInner (from_words o)
inner_from None = refl
inner_from (Some n) = beyond (codes " from ") (decimal n) refl (inner_number n)

inner_to : (o : Option ℕ) → IsInner (to_words o)
inner_to None = refl
inner_to (Some n) = beyond (codes " to ") (decimal n) refl (inner_number n)

inner_base : (o : Option ℕ) → IsInner (base_words o)
inner_base None = refl
inner_base (Some n) = beyond (codes " base ") (decimal n) refl (inner_number n)

inner_cuts : (cuts : Cuts) → IsInner (cuts_words cuts)
unfolding cuts_words
inner_cuts cuts =
    beyond (flush_words (places_of cuts.flushes) ++ from_words cuts.from) (to_words cuts.to)
    (beyond (flush_words (places_of cuts.flushes)) (from_words cuts.from) (inner_flush (places_of cuts.flushes)) (inner_from cuts.from)) (inner_to cuts.to)

inner_guards : (o : Option ℕ) → IsInner (guards_words o)
inner_guards None = refl
inner_guards (Some n) = beyond (codes " guards ") (decimal n) refl (inner_number n)

-- six texts one after the other
six : (a b c d e f : List ℕ) → IsInner a → IsInner b → IsInner c → IsInner d → IsInner e → IsInner f → IsInner (((((a ++ b) ++ c) ++ d) ++ e) ++ f)
six a b c d e f p q r s t u = beyond ((((a ++ b) ++ c) ++ d) ++ e) f (beyond (((a ++ b) ++ c) ++ d) e (beyond ((a ++ b) ++ c) d (beyond (a ++ b) c (beyond a b p q) r) s) t) u

inner_device : (h : HeadValue) → IsInner (device_text h)
unfolding device_text
inner_device h =
    six (codes "sectors ") (decimal h.sectors) (codes " entries ") (decimal h.entries) (codes " cuts ") (cuts_word h.cuts.kind) refl (inner_number h.sectors) refl (inner_number h.entries) refl (inner_kind h.cuts.kind)

inner_choices : (h : HeadValue) → IsInner (choices_text h)
unfolding choices_text
inner_choices h =
    six (codes " bound ") (decimal h.bound) (codes " tears ") (yes_or_no h.tears) (codes " first ") (yes_or_no h.first) refl (inner_number h.bound) refl (inner_yes h.tears) refl (inner_yes h.first)

-- the line of the options without its newline
abbrev given_inside : HeadValue → List ℕ
given_inside h = by_words h.by ++ cuts_words h.cuts ++ base_words h.base

abbrev options_inside : HeadValue → List ℕ
options_inside h = (device_text h ++ choices_text h) ++ given_inside h

inner_given : (h : HeadValue) → IsInner (given_inside h)
inner_given h = beyond (by_words h.by ++ cuts_words h.cuts) (base_words h.base) (beyond (by_words h.by) (cuts_words h.cuts) (inner_by h.by) (inner_cuts h.cuts)) (inner_base h.base)

inner_options : (h : HeadValue) → IsInner (options_inside h)
inner_options h = beyond (device_text h ++ choices_text h) (given_inside h) (beyond (device_text h) (choices_text h) (inner_device h) (inner_choices h)) (inner_given h)

options_ends : (h : HeadValue) → options_line h ≡ options_inside h ++ 10 ∷ []
unfolding given_text
options_ends h = sym (append_assoc (device_text h ++ choices_text h) (given_inside h) (10 ∷ []))

options_begins : (h : HeadValue) → get_or (options_inside h) 0 0 ≡ 115
unfolding device_text
options_begins h = refl

-- the line of a program without its newline
unfoldable program_inside : ℕ → ProgramHead → List ℕ
program_inside number p = codes "program " ++ decimal number ++ codes " slots " ++ decimal p.slots ++ codes " " ++ steps_text p

inner_program : (n : ℕ) (p : ProgramHead) → IsInner (program_inside n p)
unfolding program_inside
inner_program n p =
    six (codes "program ") (decimal n) (codes " slots ") (decimal p.slots) (codes " ") (steps_text p) refl (inner_number n) refl (inner_number p.slots) refl
    (beyond (steps_word p.verified ++ codes " " ++ decimal p.limit) (guards_words p.guards)
    (beyond (steps_word p.verified ++ codes " ") (decimal p.limit) (beyond (steps_word p.verified) (codes " ") (inner_steps p.verified) refl) (inner_number p.limit)) (inner_guards p.guards))

program_begins : (n : ℕ) (p : ProgramHead) → get_or (program_inside n p) 0 0 ≡ 112
unfolding program_inside
program_begins n p = refl

program_ends : (n : ℕ) (p : ProgramHead) → program_line n p ≡ program_inside n p ++ 10 ∷ []
unfolding program_line program_inside
program_ends n p = refl

abbrev programs_inside : ℕ → List ProgramHead → List (List ℕ)
programs_inside n [] = []
programs_inside n (p ∷ ps) = program_inside n p ∷ programs_inside (n + 1) ps

programs_are : (n : ℕ) (ps : List ProgramHead) → program_lines n ps ≡ lines_text (programs_inside n ps)
programs_are n [] = refl
programs_are n (p ∷ ps) =
    let first = program_ends n p in
    let rest = programs_are (n + 1) ps in
    rw (first, rest) refl

-- lines of a head

inner_lacks : (bs : List ℕ) → IsInner bs → lacks 10 bs ≡ true
inner_lacks [] all = refl
inner_lacks (b ∷ bs) all = by_test (nat_lt b 128) (b == 10) all (inner_lacks bs)
  where
    by_test : (t u : Bool) → ((t && not u) && list_all is_inner bs) ≡ true → (IsInner bs → lacks 10 bs ≡ true) → (if u then false else lacks 10 bs) ≡ true
    by_test true true all inner = absurd (let bad : false ≡ true = all in cc)
    by_test true false all inner = inner all
    by_test false u all inner = absurd (let bad : false ≡ true = all in cc)

inner_plain : (bs : List ℕ) → IsInner bs → list_all is_plain bs ≡ true
inner_plain [] all = refl
inner_plain (b ∷ bs) all = by_test (nat_lt b 128) (not (b == 10)) all (inner_plain bs)
  where
    by_test : (t u : Bool) → ((t && u) && list_all is_inner bs) ≡ true → (IsInner bs → list_all is_plain bs ≡ true) → (t && list_all is_plain bs) ≡ true
    by_test true true all inner = inner all
    by_test true false all inner = absurd (let bad : false ≡ true = all in cc)
    by_test false u all inner = absurd (let bad : false ≡ true = all in cc)

other_first : (line : List ℕ) (c : ℕ) → get_or line 0 0 ≡ c → c ≢ 105 → (rest : List ℕ) → line ≢ codes "image" ++ rest
other_first line c first differs rest e = differs (sym first ∙ ap (λ (bs : List ℕ). get_or bs 0 0) e)

-- lines of which each has bytes of a line alone, and begins with another byte than `image`
abbrev AreInner : List (List ℕ) → Type 0
AreInner [] = Unit {0}
AreInner (l ∷ ls) = IsInner l × ((rest : List ℕ) → l ≢ codes "image" ++ rest) × AreInner ls

inner_programs : (n : ℕ) (ps : List ProgramHead) → AreInner (programs_inside n ps)
inner_programs n [] = tt
inner_programs n (p ∷ ps) =
    (inner_program n p, other_first (program_inside n p) 112 (program_begins n p) (λ e. omega (arith, e)), inner_programs (n + 1) ps)

head_lines : (ls : List (List ℕ)) → AreInner ls → AreHeadLines ls
head_lines [] each = tt
head_lines (l ∷ ls) each = (record { one = inner_lacks l each.0; other = each.1 }, head_lines ls each.2)

plain_lines : (ls : List (List ℕ)) → AreInner ls → list_all is_plain (lines_text ls) ≡ true
plain_lines [] each = refl
plain_lines (l ∷ ls) each = both is_plain (l ++ 10 ∷ []) (lines_text ls) (both is_plain l (10 ∷ []) (inner_plain l each.0) refl) (plain_lines ls each.2)

abbrev head_inside : HeadValue → List (List ℕ)
head_inside h = options_inside h ∷ programs_inside 0 h.programs

head_is : (h : HeadValue) → options_text h ≡ lines_text (head_inside h)
head_is h =
    ap (λ (bs : List ℕ). bs ++ program_lines 0 h.programs) (options_ends h)
    ∙ ap (λ (bs : List ℕ). (options_inside h ++ 10 ∷ []) ++ bs) (programs_are 0 h.programs)

pub head_stands : (h : HeadValue) → IsHead (options_text h)
head_stands h =
    let each : AreInner (head_inside h) = (inner_options h, other_first (options_inside h) 115 (options_begins h) (λ e. omega (arith, e)), inner_programs 0 h.programs) in
    let text : IsUtf8 (lines_text (head_inside h)) = IsUtf8-from_ascii (lines_text (head_inside h)) (ascii (lines_text (head_inside h)) (plain_lines (head_inside h) each)) in
    record {
      lines = head_inside h;
      each = head_lines (head_inside h) each;
      is = head_is h;
      text = subst (λ (bs : List ℕ). IsUtf8 bs) (sym (head_is h)) text;
    }

-- so they are of ASCII

pub plain_device : (h : HeadValue) → list_all is_plain (device_text h) ≡ true
plain_device h = inner_plain (device_text h) (inner_device h)

pub plain_given : (h : HeadValue) → list_all is_plain (given_text h) ≡ true
unfolding given_text
plain_given h = both is_plain (given_inside h) (10 ∷ []) (inner_plain (given_inside h) (inner_given h)) refl

pub plain_programs : (n : ℕ) (ps : List ProgramHead) → list_all is_plain (program_lines n ps) ≡ true
plain_programs n ps = subst (λ (bs : List ℕ). list_all is_plain bs ≡ true) (sym (programs_are n ps)) (plain_lines (programs_inside n ps) (inner_programs n ps))
