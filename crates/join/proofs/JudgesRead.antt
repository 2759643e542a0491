-- The programs of a report, read to the byte and in one way alone.
use Rattle.std.proofs.Common.{ℕ, ◌≡◌, ◌≢◌, ◌+◌, ◌<◌, ◌≤◌, ◌==◌, ◌&&◌, Bool, true, false, if◌then◌else◌, List, [], ◌∷◌, ◌++◌, length, length-append, get_or, append_assoc, codes, refl, sym, subst, ◌∙◌, ap, arith}
use Rattle.std.specs.Fmt.{decimal}
use Rattle.std.specs.List.{All, list_all}
use Rattle.std.proofs.lemmas.Fmt.{decimal_digit}
use Rattle.std.proofs.lemmas.Bool.Decides.{nat_tests}
use Rattle.report.specs.MarkReading.{lacks}
use Rattle.report.specs.declared.head.ProgramHead.{ProgramHead}
use Rattle.report.specs.Report.{program_line, program_lines}
use Rattle.join.specs.Heads.{IsProgramHead, NoProgram, ReadsPrograms, are_programs_of_run, join_words, program_words}
use Rattle.join.specs.Reading.{IsCut, NoCut}
use Rattle.join.specs.Given.{AreCheckers, IsOwn, AreJudges, is_printed, judge_count}
use Rattle.join.specs.GivenReading.{AreJudgesRead, NoJudges}
use Rattle.join.proofs.Texts.{cancel, one_cut, has_it}
use Rattle.join.proofs.ProgramsRead.{line_words}

-- the lines of checkers don't begin as that of a program that is given images as files
checkers_no_own : (ps : List ProgramHead) (more rest : List ℕ) → 0 < length ps → program_lines 0 ps ++ more ≡ codes "program 0 outside " ++ rest → ⊥
checkers_no_own [] more rest some e = omega (arith, some)
checkers_no_own (p ∷ ps) more rest some e =
    let words = append_assoc (program_line 0 p) (program_lines 1 ps) more ∙ line_words 0 p (program_lines 1 ps ++ more) in
    let same : join_words (program_words 0 p) ++ 10 ∷ (program_lines 1 ps ++ more) ≡ codes "0 outside " ++ rest =
    cancel (codes "program ") (join_words (program_words 0 p) ++ 10 ∷ (program_lines 1 ps ++ more)) (codes "0 outside " ++ rest) (sym words ∙ e) in
    let zero : decimal 0 ≡ 48 ∷ [] = decimal_digit 0 (omega arith) in
    let step = rw zero at same in
    let bad : 115 ≡ 111 = ap (λ (bs : List ℕ). get_or bs 2 0) step in
    omega (arith, bad)

own_begins : (programs : List ProgramHead) (front more text : List ℕ) (own : IsOwn programs front) → text ≡ front ++ more → text ≡ codes "program 0 outside " ++ ((own.words ++ codes "\n") ++ more)
own_begins programs front more text own e = e ∙ ap (λ (bs : List ℕ). bs ++ more) own.is ∙ append_assoc (codes "program 0 outside ") (own.words ++ codes "\n") more

-- checkers
own_checkers : (ps programs : List ProgramHead) (front more rest text : List ℕ) → ReadsPrograms text programs → text ≡ program_lines 0 programs ++ rest → AreCheckers ps front → NoProgram more → text ≡ front ++ more
    → (ps ≡ programs) × (front ≡ program_lines 0 programs) × (more ≡ rest)
own_checkers ps programs front more rest text reads is are other e =
    let same : programs ≡ ps = reads.read ps more are.few are.numbers other (e ∙ ap (λ (bs : List ℕ). bs ++ more) are.is) in
    let fronts : front ≡ program_lines 0 programs = are.is ∙ ap (program_lines 0) (sym same) in
    (sym same, fronts, cancel (program_lines 0 programs) more rest (ap (λ (bs : List ℕ). bs ++ more) (sym fronts) ∙ sym e ∙ is))

pub checkers_found : (text printed rest : List ℕ) (programs : List ProgramHead) → ((more : List ℕ) → text ≢ codes "program 0 outside " ++ more) → ReadsPrograms text programs → All IsProgramHead programs
    → (0 < length programs) × (length programs ≤ 8) × (are_programs_of_run programs ≡ true) → printed ≡ program_lines 0 programs → text ≡ printed ++ rest → AreJudgesRead text false programs rest
checkers_found text printed rest programs none reads small (some, few, of_run) said e = record {
  judges = program_lines 0 programs;
  are = record { some = some; few = few; numbers = small; of_run = of_run; is = refl };
  is = is;
  only = only;
}
  where
    is : text ≡ program_lines 0 programs ++ rest
    is = e ∙ ap (λ (bs : List ℕ). bs ++ rest) said

    only : (own : Bool) (ps : List ProgramHead) (front more : List ℕ) → AreJudges own ps front → NoProgram more → text ≡ front ++ more
        → (own ≡ false) × (ps ≡ programs) × (front ≡ program_lines 0 programs) × (more ≡ rest)
    only false ps front more are other same = let all = own_checkers ps programs front more rest text reads is are other same in (refl, all.0, all.1, all.2)
    only true ps front more are other same = absurd (none ((are.words ++ codes "\n") ++ more) (own_begins ps front more text are same))

pub no_checkers : (text : List ℕ) (programs : List ProgramHead) → ((more : List ℕ) → text ≢ codes "program 0 outside " ++ more) → ReadsPrograms text programs
    → ((0 < length programs) × (length programs ≤ 8) × (are_programs_of_run programs ≡ true) → ⊥) → NoJudges text
no_checkers text programs none reads lack = record { none = no }
  where
    no : (own : Bool) (ps : List ProgramHead) (front more : List ℕ) → AreJudges own ps front → NoProgram more → text ≡ front ++ more → ⊥
    no false ps front more are other e =
        let same : programs ≡ ps = reads.read ps more are.few are.numbers other (e ∙ ap (λ (bs : List ℕ). bs ++ more) are.is) in
        lack (subst (λ (xs : List ProgramHead). (0 < length xs) × (length xs ≤ 8) × (are_programs_of_run xs ≡ true)) (sym same) (are.some, are.few, are.of_run))
    no true ps front more are other e = none ((are.words ++ codes "\n") ++ more) (own_begins ps front more text are e)

pub no_printed : (text printed : List ℕ) (programs : List ProgramHead) → ((more : List ℕ) → text ≢ codes "program 0 outside " ++ more) → ReadsPrograms text programs
    → printed ≡ program_lines 0 programs → ((rest : List ℕ) → text ≢ printed ++ rest) → NoJudges text
no_printed text printed programs none reads said lack = record { none = no }
  where
    no : (own : Bool) (ps : List ProgramHead) (front more : List ℕ) → AreJudges own ps front → NoProgram more → text ≡ front ++ more → ⊥
    no false ps front more are other e =
        let same : programs ≡ ps = reads.read ps more are.few are.numbers other (e ∙ ap (λ (bs : List ℕ). bs ++ more) are.is) in
        lack more (e ∙ ap (λ (bs : List ℕ). bs ++ more) (are.is ∙ ap (program_lines 0) (sym same) ∙ sym said))
    no true ps front more are other e = none ((are.words ++ codes "\n") ++ more) (own_begins ps front more text are e)

-- a program that is given images as files
printed_lacks : (bs : List ℕ) → list_all is_printed bs ≡ true → lacks 10 bs ≡ true
printed_lacks [] all = refl
printed_lacks (b ∷ bs) all = by_test (is_printed b) refl (b == 10) refl (printed_lacks bs) all
  where
    by_test : (p : Bool) → is_printed b ≡ p → (t : Bool) → (b == 10) ≡ t → (list_all is_printed bs ≡ true → lacks 10 bs ≡ true) → (p && list_all is_printed bs) ≡ true → (if t then false else lacks 10 bs) ≡ true
    by_test false own t at rest all = absurd (let bad : false ≡ true = all in cc)
    by_test true own true at rest all = absurd (grind (arith, nat_tests, own, at))
    by_test true own false at rest all = rest all

-- the words of such a line
own_words : (text begun : List ℕ) (ps : List ProgramHead) (front more : List ℕ) (own : IsOwn ps front) → text ≡ codes "program 0 outside " ++ begun → text ≡ front ++ more → begun ≡ own.words ++ 10 ∷ more
own_words text begun ps front more own is e =
    cancel (codes "program 0 outside ") begun (own.words ++ 10 ∷ more) (sym is ∙ own_begins ps front more text own e ∙ ap (λ (bs : List ℕ). codes "program 0 outside " ++ bs) (append_assoc own.words (codes "\n") more))

no_checkers_here : (text begun : List ℕ) (ps : List ProgramHead) (front more : List ℕ) → AreCheckers ps front → text ≡ codes "program 0 outside " ++ begun → text ≡ front ++ more → ⊥
no_checkers_here text begun ps front more are is e = checkers_no_own ps more begun are.some (ap (λ (bs : List ℕ). bs ++ more) (sym are.is) ∙ sym e ∙ is)

pub no_end_no_own : (text begun : List ℕ) → text ≡ codes "program 0 outside " ++ begun → NoCut 10 begun → NoJudges text
no_end_no_own text begun is lack = record { none = no }
  where
    no : (own : Bool) (ps : List ProgramHead) (front more : List ℕ) → AreJudges own ps front → NoProgram more → text ≡ front ++ more → ⊥
    no false ps front more are other e = no_checkers_here text begun ps front more are is e
    no true ps front more are other e = has_it 10 are.words more (subst (λ (bs : List ℕ). lacks 10 bs ≡ true) (own_words text begun ps front more are is e) lack.none)

-- another line has other words
same_words : (text begun words rest : List ℕ) (ps : List ProgramHead) (front more : List ℕ) (own : IsOwn ps front) → text ≡ codes "program 0 outside " ++ begun → IsCut 10 begun words rest → text ≡ front ++ more
    → (words ≡ own.words) × (rest ≡ more)
same_words text begun words rest ps front more own is cut e =
    one_cut 10 words own.words rest more cut.first (printed_lacks own.words own.printed) (sym cut.is ∙ own_words text begun ps front more own is e)

pub no_words_no_own : (text begun words rest : List ℕ) → text ≡ codes "program 0 outside " ++ begun → IsCut 10 begun words rest → words ≡ [] → NoJudges text
no_words_no_own text begun words rest is cut none = record { none = no }
  where
    no : (own : Bool) (ps : List ProgramHead) (front more : List ℕ) → AreJudges own ps front → NoProgram more → text ≡ front ++ more → ⊥
    no false ps front more are other e = no_checkers_here text begun ps front more are is e
    no true ps front more are other e =
        let same = (same_words text begun words rest ps front more are is cut e).0 in
        let some = are.some in
        let empty : length are.words ≡ 0 = ap length (sym same ∙ none) in
        omega (arith, some, empty)

pub unprinted_no_own : (text begun words rest : List ℕ) → text ≡ codes "program 0 outside " ++ begun → IsCut 10 begun words rest → list_all is_printed words ≡ false → NoJudges text
unprinted_no_own text begun words rest is cut lack = record { none = no }
  where
    no : (own : Bool) (ps : List ProgramHead) (front more : List ℕ) → AreJudges own ps front → NoProgram more → text ≡ front ++ more → ⊥
    no false ps front more are other e = no_checkers_here text begun ps front more are is e
    no true ps front more are other e =
        let same = (same_words text begun words rest ps front more are is cut e).0 in
        let bad : true ≡ false = sym are.printed ∙ ap (list_all is_printed) (sym same) ∙ lack in
        cc

pub own_found : (text begun words rest : List ℕ) (programs : List ProgramHead) → text ≡ codes "program 0 outside " ++ begun → IsCut 10 begun words rest → words ≢ [] → list_all is_printed words ≡ true → programs ≡ []
    → AreJudgesRead text true programs rest
own_found text begun words rest programs is cut some printed none = record {
  judges = codes "program 0 outside " ++ (words ++ codes "\n");
  are = record { none = none; words = words; some = longer words some; printed = printed; is = refl };
  is =
      is ∙ ap (λ (bs : List ℕ). codes "program 0 outside " ++ bs) (cut.is ∙ sym (append_assoc words (codes "\n") rest))
      ∙ sym (append_assoc (codes "program 0 outside ") (words ++ codes "\n") rest);
  only = only;
}
  where
    longer : (bs : List ℕ) → bs ≢ [] → 0 < length bs
    longer [] other = absurd (other refl)
    longer (b ∷ bs) other = omega arith

    only : (own : Bool) (ps : List ProgramHead) (front more : List ℕ) → AreJudges own ps front → NoProgram more → text ≡ front ++ more
        → (own ≡ true) × (ps ≡ programs) × (front ≡ codes "program 0 outside " ++ (words ++ codes "\n")) × (more ≡ rest)
    only false ps front more are other e = absurd (no_checkers_here text begun ps front more are is e)
    only true ps front more are other e =
        let same = same_words text begun words rest ps front more are is cut e in
        (refl, are.none ∙ sym none, are.is ∙ ap (λ (bs : List ℕ). codes "program 0 outside " ++ (bs ++ codes "\n")) (sym same.0), sym same.1)

-- programs are at most eight
count_few : (outside : Bool) (programs : List ProgramHead) (text : List ℕ) → AreJudges outside programs text → judge_count outside programs ≤ 8
count_few false programs text are = are.few
count_few true programs text are = omega arith

pub few_judges : (text : List ℕ) (outside : Bool) (programs : List ProgramHead) (rest : List ℕ) → AreJudgesRead text outside programs rest → judge_count outside programs ≤ 8
few_judges text outside programs rest read = count_few outside programs read.judges read.are

-- what stands after them is no longer than the text
pub after_judges : (text : List ℕ) (outside : Bool) (programs : List ProgramHead) (rest : List ℕ) → AreJudgesRead text outside programs rest → length rest ≤ length text
after_judges text outside programs rest read =
    let all : length text ≡ length read.judges + length rest = ap length read.is ∙ length-append read.judges rest in
    omega (arith, all)

pub after_front : (front text rest : List ℕ) → text ≡ front ++ rest → length rest ≤ length text
after_front front text rest is =
    let all : length text ≡ length front + length rest = ap length is ∙ length-append front rest in
    omega (arith, all)

-- checkers as a slice of them
pub are_of_run : (given items : List ProgramHead) → given ≡ items → (0 < length given) × (length given ≤ 8) × (are_programs_of_run given ≡ true) → (0 < length items) × (length items ≤ 8) × (are_programs_of_run items ≡ true)
are_of_run given items same are = subst (λ (ps : List ProgramHead). (0 < length ps) × (length ps ≤ 8) × (are_programs_of_run ps ≡ true)) same are
