-- There is at most one report, and no refusal beside it but for memory.
use Rattle.std.proofs.Common.{ℕ, zero, suc, ◌≡◌, ◌≢◌, ◌+◌, ◌≤◌, ◌↔◌, Bool, true, false, IsTrue, List, [], ◌∷◌, length, take, Option, None, Some, slice_get, refl, sym, ◌∙◌, ap, subst, arith, length-append}
use Rattle.std.proofs.lemmas.Bool.{false≢true}
use Rattle.base.specs.declared.causes.VerifierCause.{VerifierCause}
use Rattle.base.specs.declared.refusal.Refusal.{Refusal}
use Rattle.logfmt.specs.Bounds.{LogValue}
use Rattle.logfmt.specs.declared.entry.Entry.{Entry}
use Rattle.logfmt.specs.Faults as log_fault
use Rattle.logfmt.specs.Laws.{TextOfOneLog, TextHasNoFault}
use Rattle.epochs.specs.Cuts.{cuts_of}
use Rattle.choices.specs.Picks.{fates_of}
use Rattle.epochs.specs.declared.part.By.{By}
use Rattle.choices.specs.Choices.{choices_at, choices_over, ranked_choices, ranked_before, IsFirstPastOf}
use Rattle.bpf_isa.specs.declared.instr.Instr.{Instr}
use Rattle.bpf_isa.specs.Laws.{OneProgram, NoFaultInSpelled}
use Rattle.verifier.specs.Verdicts.{VerifiedValue, RefusedWith}
use Rattle.verifier.specs.Laws.{OneVerdict}
use Rattle.checker.specs.Checker.{CheckerValue, checker_of}
use Rattle.workers.specs.Failing.{failing_lines}
use Rattle.request.specs.declared.settings.Settings.{Settings}
use Rattle.request.specs.declared.settings.Telling.{Telling}
use Rattle.logfmt.specs.Flushed.{with_flushes}
use Rattle.epochs.specs.Flushes.{places_of}
use Rattle.request.specs.Source.{Recording, plan_of, images_of, HasImages, IsLogOf, IsRecorded, lacking, RefusesLog, past_device, with_fault, no_memory, lacks, RefusesPlan, too_many, lacks_images, no_plan_memory, RefusesSource, for_log, for_plan}
use Rattle.request.specs.Extents.{most_images, has_extent}
use Rattle.request.specs.Inputs.{inputs_number}
use Rattle.runs.specs.Judged.{takes}
use Rattle.request.specs.declared.any_losses.AnyLosses.{AnyLosses}
use Rattle.runs.specs.declared.explore_command.WantedAnswer.{WantedAnswer}
use Rattle.runs.specs.declared.explore_command.WantedAnswer.TheVariants as wanted
use Rattle.runs.specs.Programs.{IsAcceptedChecker, IsRunWithin}
use Rattle.runs.specs.Explore as explore
use Rattle.runs.specs.Explore.{IsProgramCount, IsCheckerOf, AreCheckersOf, subject_of, report_of, IsRun, RefusesProgram, with_code_fault, with_verifier_fault, no_code_memory, no_verifier_memory, no_list_memory, Refuses, for_count, for_program, RefusesWanted, for_extent, for_rest, for_cases, for_cure}
use Rattle.commands.specs.Laws.{IsOfMemory, OneReport}

pub same_recorded : TextOfOneLog → (text : Recording) (s : Settings) (v w : LogValue) → IsRecorded text s v → IsRecorded text s w → v ≡ w
same_recorded texts text s v w h k = texts text.text v w h.of_log k.of_log (h.device ∙ sym k.device) (h.initial ∙ sym k.initial)

pub same_asked : TextOfOneLog → (text : Recording) (s : Settings) (v w : LogValue) → IsLogOf text s v → IsLogOf text s w → v ≡ w
same_asked texts text s v w h k = h.added ∙ ap (with_flushes (places_of s.cuts.flushes)) (same_recorded texts text s h.read k.read h.recorded k.recorded) ∙ sym k.added

pub same_log : TextOfOneLog → (text : Recording) (s : Settings) (v w : LogValue) → HasImages text s v → HasImages text s w → v ≡ w
same_log texts text s v w h k = same_asked texts text s v w h.reads k.reads

-- an accepted program is accepted in one way
same_verified : OneVerdict → (guards : Bool) (sectors : ℕ) (c d : CheckerValue) → c.program ≡ d.program → IsAcceptedChecker guards sectors c → IsAcceptedChecker guards sectors d → c ≡ d
same_verified verdicts guards sectors c d same h k =
    let program : h.verified.program ≡ k.verified.program =
    ap (λ (x : CheckerValue). x.program) (sym h.made) ∙ same ∙ ap (λ (x : CheckerValue). x.program) k.made in
    let kind : h.verified.guards ≡ k.verified.guards = h.kind ∙ sym k.kind in
    let size : h.verified.sectors ≡ k.verified.sectors = h.size ∙ sym k.size in
    let one = verdicts.accepted h.verified k.verified h.is k.is program size in
    let all : h.verified ≡ k.verified = λ i. record { guards = kind i; program = program i; sectors = size i; budget = one.0 i; table = one.1 i } in
    h.made ∙ ap checker_of all ∙ sym k.made

-- a program is run in one way
same_run : OneVerdict → (checked : Option ℕ) (guards : Bool) (sectors : ℕ) (c d : CheckerValue) → c.program ≡ d.program → IsRunWithin checked guards sectors c
    → IsRunWithin checked guards sectors d → c ≡ d
same_run verdicts (Some most) guards sectors c d same h k =
    let limit : c.limit ≡ d.limit = h.limit ∙ sym k.limit in
    let verified : c.verified ≡ d.verified = h.verified ∙ sym k.verified in
    let guarded : c.guards ≡ d.guards = h.guards ∙ sym k.guards in
    λ i. record { program = same i; limit = limit i; verified = verified i; guards = guarded i }
same_run verdicts None guards sectors c d same h k = same_verified verdicts guards sectors c d same h k

same_checker : OneProgram → OneVerdict → (s : Settings) (bytes : List ℕ) (c d : CheckerValue) → IsCheckerOf s bytes c → IsCheckerOf s bytes d → c ≡ d
same_checker programs verdicts s bytes c d h k =
    let program : c.program ≡ d.program = programs bytes c.program d.program h.spelled k.spelled in
    same_run verdicts s.checked s.guards s.sectors c d program h.within k.within

pub same_checkers : OneProgram → OneVerdict → (s : Settings) (files : List (List ℕ)) (cs ds : List CheckerValue) → AreCheckersOf s files cs → AreCheckersOf s files ds → cs ≡ ds
same_checkers programs verdicts s [] [] [] h k = refl
same_checkers programs verdicts s [] [] (d ∷ ds) h k = absurd k
same_checkers programs verdicts s [] (c ∷ cs) ds h k = absurd h
same_checkers programs verdicts s (bytes ∷ files) [] ds h k = absurd h
same_checkers programs verdicts s (bytes ∷ files) (c ∷ cs) [] h k = absurd k
same_checkers programs verdicts s (bytes ∷ files) (c ∷ cs) (d ∷ ds) h k =
    let one = same_checker programs verdicts s bytes c d h.0 k.0 in
    let rest = same_checkers programs verdicts s files cs ds h.1 k.1 in
    λ i. one i ∷ rest i

pub same_test : {X : Type 0} (a b : Bool) (ls ms : List X) → IsTrue a ↔ (ls ≢ []) → IsTrue b ↔ (ms ≢ []) → ls ≡ ms → a ≡ b
same_test true true ls ms h k same = refl
same_test false false ls ms h k same = refl
same_test true false ls ms h k same = absurd (false≢true (k.1 (λ none. h.0 refl (same ∙ none))))
same_test false true ls ms h k same = absurd (false≢true (h.1 (λ none. k.0 refl (sym same ∙ none))))

-- a run has one answer, where what is told of a log and of checkers is one
pub one_run : TextOfOneLog → OneProgram → OneVerdict → (Tells : Settings → LogValue → List CheckerValue → List ℕ → Type 0)
    → ((s : Settings) (value : LogValue) (checkers : List CheckerValue) (bytes others : List ℕ) → Tells s value checkers bytes → Tells s value checkers others → bytes ≡ others)
    → (text : Recording) (files : List (List ℕ)) (s : Settings) (bytes others : List ℕ) (failing fails : Bool)
    → IsRun Tells text files s bytes failing → IsRun Tells text files s others fails → (bytes ≡ others) × (failing ≡ fails)
one_run texts programs verdicts Tells one text files s bytes others failing fails h k =
    let value = same_log texts text s h.value k.value h.source k.source in
    let checkers = same_checkers programs verdicts s files h.checkers k.checkers h.made k.made in
    let lines : failing_lines (subject_of s h.value h.checkers) ≡ failing_lines (subject_of s k.value k.checkers) = λ i. failing_lines (subject_of s (value i) (checkers i)) in
    let by_value = subst (λ (v : LogValue). Tells s v k.checkers others) (sym value) k.tells in
    let tells = subst (λ (cs : List CheckerValue). Tells s h.value cs others) (sym checkers) by_value in
    (one s h.value h.checkers bytes others h.tells tells, same_test failing fails _ _ h.fails k.fails lines)

pub one_report : TextOfOneLog → OneProgram → OneVerdict → OneReport
one_report texts programs verdicts text files =
    one_run texts programs verdicts (λ s value checkers bytes. bytes ≡ report_of (inputs_number text.text files) s value checkers) (λ s value checkers bytes others a b. a ∙ sym b) text files

-- the first cuts have no more choices than all
few_over : (way : By) (es : List Entry) (m bound place : ℕ) (n : ℕ) (cuts : List ℕ) → length (choices_over way es m bound place (take n cuts)) ≤ length (choices_over way es m bound place cuts)
unfolding choices_over
few_over way es m bound place zero cuts = omega arith
few_over way es m bound place (suc n) [] = omega arith
few_over way es m bound place (suc n) (cut ∷ cuts) =
    omega (
      arith,
      few_over way es m bound (place + 1) n cuts,
      length-append (choices_at way es m bound place cut) (choices_over way es m bound (place + 1) (take n cuts)),
      length-append (choices_at way es m bound place cut) (choices_over way es m bound (place + 1) cuts),
    )

-- a log with few enough images has no cut with which there are too many
pub not_past : (most : ℕ) (s : Settings) (value : LogValue) (cut : ℕ) → length (images_of s value) ≤ most → IsFirstPastOf most (plan_of s value) s.bound s.tears cut → ⊥
unfolding ranked_choices ranked_before
not_past most s value cut few past =
    omega (arith, few, past.past, few_over s.by value.entries (fates_of s.tears) s.bound 0 (past.place + 1) (cuts_of s.cuts value.entries))

-- the checker of a file
checker_there : (s : Settings) (files : List (List ℕ)) (checkers : List CheckerValue) (n : ℕ) (bytes : List ℕ) → AreCheckersOf s files checkers → slice_get files n ≡ Some bytes
    → (c : CheckerValue) × IsCheckerOf s bytes c
checker_there s [] [] n bytes h there = absurd (let bad : None ≡ Some bytes = there in cc)
checker_there s [] (c ∷ cs) n bytes h there = absurd h
checker_there s (f ∷ fs) [] n bytes h there = absurd h
checker_there s (f ∷ fs) (c ∷ cs) zero bytes h there =
    let same : f ≡ bytes = (let e : Some f ≡ Some bytes = there in cc) in
    (c, subst (λ (b : List ℕ). IsCheckerOf s b c) same h.0)
checker_there s (f ∷ fs) (c ∷ cs) (suc n) bytes h there = checker_there s fs cs n bytes h.1 there

-- what the laws of the lower layers say
pub record Below : Type 0 where
  pub texts : TextOfOneLog
  pub clean : TextHasNoFault
  pub programs : OneProgram
  pub spelled : NoFaultInSpelled
  pub verdicts : OneVerdict

pub of_log : Below → (text : Recording) (s : Settings) (value : LogValue) (r : Refusal) → IsLogOf text s value → RefusesLog text s r → IsOfMemory r.code
of_log below text s value _ h (past_device long) =
    let fits = h.recorded.of_log.bounds.held in
    let device = h.recorded.device in
    let initial = ap (λ (xs : List ℕ). length xs) h.recorded.initial in
    absurd (omega (arith, long, fits, device, initial))
of_log below text s value r h (with_fault cause at fits fault) =
    absurd (below.clean text.text h.read s.limits cause at h.recorded.of_log h.recorded.size h.recorded.units (subst (λ n. log_fault.FirstFault text.text n s.limits cause at) (sym h.recorded.device) fault))
of_log below text s value r h no_memory = refl
of_log below text s value r h (lacks read place recorded at) =
    let same : read ≡ h.read = same_recorded below.texts text s read h.read recorded h.recorded in
    let none : lacking s.cuts (length read.entries) ≡ [] = ap (λ (v : LogValue). lacking s.cuts (length v.entries)) same ∙ h.has in
    let bad : Some place ≡ None = sym at ∙ ap (λ xs. slice_get xs 0) none in
    absurd (let no : Some place ≡ None = bad in cc)

of_plan : Below → (s : Settings) (value : LogValue) (r : Refusal) → length (images_of s value) ≤ most_images s.extent → has_extent s.extent (length (images_of s value)) ≡ true
    → RefusesPlan s value r → IsOfMemory r.code
of_plan below s value r few has (too_many cut past) = absurd (not_past (most_images s.extent) s value cut few past)
of_plan below s value r few has (lacks_images small lack) = absurd (false≢true (sym lack ∙ has))
of_plan below s value r few has no_plan_memory = refl

pub of_source : Below → (text : Recording) (s : Settings) (value : LogValue) (r : Refusal) → HasImages text s value → RefusesSource text s r → IsOfMemory r.code
of_source below text s value _ h (for_log r why) = of_log below text s value r h.reads why
of_source below text s value _ h (for_plan r other reads why) =
    let same : other ≡ value = same_asked below.texts text s other value reads h.reads in
    of_plan below s value r h.few h.within (subst (λ v. RefusesPlan s v r) same why)

-- a refusal of what was asked is one of the same program
pub refused_as : (v : VerifiedValue) (guards : Bool) (sectors : ℕ) (slots : List (Option Instr)) (cause : VerifierCause) (slot : ℕ) → v.guards ≡ guards → slots ≡ v.program → v.sectors ≡ sectors
    → RefusedWith guards slots sectors cause slot → RefusedWith v.guards v.program v.sectors cause slot
refused_as v guards sectors slots cause slot kind program size refused =
    let one = subst (λ (p : List (Option Instr)). RefusedWith guards p sectors cause slot) program refused in
    let two = subst (λ (g : Bool). RefusedWith g v.program sectors cause slot) (sym kind) one in
    subst (λ (n : ℕ). RefusedWith v.guards v.program n cause slot) (sym size) two

not_unaccepted : Below → (checked : Option ℕ) (guards : Bool) (sectors : ℕ) (c : CheckerValue) (slots : List (Option Instr)) (cause : VerifierCause) (slot : ℕ) → checked ≡ None
    → IsRunWithin checked guards sectors c → slots ≡ c.program → RefusedWith guards slots sectors cause slot → ⊥
not_unaccepted below (Some n) guards sectors c slots cause slot unlimited within same refused = absurd (let bad : Some n ≡ None = unlimited in cc)
not_unaccepted below None guards sectors c slots cause slot unlimited within same refused =
    let program : slots ≡ within.verified.program = same ∙ ap (λ (x : CheckerValue). x.program) within.made in
    below.verdicts.not_both within.verified cause slot within.is (refused_as within.verified guards sectors slots cause slot within.kind program within.size refused)

of_program : Below → (s : Settings) (files : List (List ℕ)) (checkers : List CheckerValue) (r : Refusal) → AreCheckersOf s files checkers → RefusesProgram s files r
    → IsOfMemory r.code
of_program below s files checkers _ made (with_code_fault r program bytes before first there fault) =
    let c = checker_there s files checkers program bytes made there in
    absurd (below.spelled bytes c.0.program c.1.spelled fault.0 fault.1 fault.3)
of_program below s files checkers _ made (with_verifier_fault r program bytes slots before first there spelled unlimited fault) =
    let c = checker_there s files checkers program bytes made there in
    absurd (not_unaccepted below s.checked s.guards s.sectors c.0 slots fault.0 fault.1 unlimited c.1.within (below.programs bytes slots c.0.program spelled c.1.spelled) fault.3)
of_program below s files checkers r made (no_code_memory program bytes before first there) = refl
of_program below s files checkers r made (no_verifier_memory program bytes slots before first there spelled unlimited) = refl
of_program below s files checkers r made no_list_memory = refl

-- the refusals of a log and of programs that can be read
pub of_refuses : Below → (text : Recording) (files : List (List ℕ)) (s : Settings) (value : LogValue) (checkers : List CheckerValue) (r : Refusal) → IsProgramCount (length files)
    → HasImages text s value → AreCheckersOf s files checkers → Refuses text files s r → IsOfMemory r.code
of_refuses below text files s value checkers r counted source made (for_count none) = absurd (none counted)
of_refuses below text files s value checkers _ counted source made (explore.for_source r count why) = of_source below text s value r source why
of_refuses below text files s value checkers _ counted source made (for_program r other count images why) = of_program below s files checkers r made why

-- what is told of failing images isn't told by cases
pub told_apart : (t : Telling) (l : AnyLosses) → wanted.Told t ≡ wanted.Cases l → ⊥
told_apart t l is = let bad : wanted.Told t ≡ wanted.Cases l = is in cc

pub told_uncured : (t : Telling) (l : AnyLosses) → wanted.Told t ≡ wanted.CuredCases l → ⊥
told_uncured t l is = let bad : wanted.Told t ≡ wanted.CuredCases l = is in cc

pub cured_apart : (l : AnyLosses) → wanted.Cured ≡ wanted.Cases l → ⊥
cured_apart l is = let bad : wanted.Cured ≡ wanted.Cases l = is in cc

pub cured_by_images : (l : AnyLosses) → wanted.Cured ≡ wanted.CuredCases l → ⊥
cured_by_images l is = let bad : wanted.Cured ≡ wanted.CuredCases l = is in cc

-- a run that judges the images that are meant, and isn't asked for cases
pub wanted_or_refusal : Below → (w : WantedAnswer) (Tells : Settings → LogValue → List CheckerValue → List ℕ → Type 0) → ((l : AnyLosses) → w ≡ wanted.Cases l → ⊥)
    → ((l : AnyLosses) → w ≡ wanted.CuredCases l → ⊥)
    → (text : Recording) (files : List (List ℕ)) (s : Settings) (bytes : List ℕ) (failing : Bool) (r : Refusal) → takes w s.extent ≡ true → IsRun Tells text files s bytes failing
    → RefusesWanted w text files s r → IsOfMemory r.code
wanted_or_refusal below w Tells apart uncured text files s bytes failing _ taken h (for_extent other) = absurd (false≢true (sym other ∙ taken))
wanted_or_refusal below w Tells apart uncured text files s bytes failing _ taken h (for_rest r chosen why) = of_refuses below text files s h.value h.checkers r h.count h.source h.made why
wanted_or_refusal below w Tells apart uncured text files s bytes failing _ taken h (for_cases l value checkers cut is chosen count source made many) = absurd (apart l is)
wanted_or_refusal below w Tells apart uncured text files s bytes failing _ taken h (for_cure l value checkers cut is chosen count source made many) = absurd (uncured l is)
