-- What is told of a report that is given in place of programs is one.
use Rattle.std.proofs.Common.{ℕ, zero, suc, ◌≡◌, ◌<◌, ◌≤◌, ◌^◌, Bool, true, false, List, [], ◌∷◌, ◌++◌, codes, length, flat_map, Some, slice_get, get_or, append_assoc, refl, sym, ◌∙◌, ap, subst, arith}
use Rattle.logfmt.specs.Bounds.{LogValue}
use Rattle.logfmt.specs.Laws.{TextOfOneLog}
use Rattle.choices.specs.Choices.{ChoiceValue}
use Rattle.choices.specs.Sums.{StartsValue}
use Rattle.report.specs.declared.lines.marks.LineMark.{LineMark}
use Rattle.losses.specs.declared.flushes.window.Window.{Window}
use Rattle.losses.specs.declared.flushes.counted.MissingFlush.{MissingFlush}
use Rattle.losses.specs.Counted.{AreMissing}
use Rattle.losses.specs.declared.cure.failure.Failure.{Failure}
use Rattle.losses.specs.FailureWindows.{IsWindowIf, IsFailureAt, AreFailuresAt, windows_in}
use Rattle.losses.specs.CureText.{programs_text, missing_text, flush_line}
use Rattle.losses.specs.Causes.{causes_from}
use Rattle.page_parts.specs.Judges.{checker_text, outside_text}
use Rattle.crash_page.specs.Failing.{IsPage}
use Rattle.report.specs.Report.{device_text}
use Rattle.join.specs.Given.{ToldLine, GivenValue, IsReport, marks_told}
use Rattle.request.specs.declared.settings.Settings.{Settings}
use Rattle.request.specs.declared.settings.Retelling.{Retelling}
use Rattle.request.specs.declared.settings.Retelling.TheVariants as retelling
use Rattle.request.specs.Inputs.{inputs_line, options_given, report_number}
use Rattle.request.specs.Source.{Recording, HasImages, images_of}
use Rattle.epochs.specs.Flushes.{places_of}
use Rattle.retold.specs.declared.command.RetellFault.{RetellFault}
use Rattle.retold.specs.Told.{images_told_of, outcomes_told_of, AreMissingFor, opening_told, count_of, TellsWhy, IsSaid, of_checker, of_own, TellsPage, TellsPlaces, uncured_told, end_told}
use Rattle.retold.specs.Retold as retold
use Rattle.retold.specs.Retold.{starts_given, title_given, title_text, IsGiven, Retells, IsRetoldOf, IsRetold, RefusesSourceAs, RefusesReport, RefusesRetold}
use Rattle.commands.specs.Acting.{retold_refusal}
use Rattle.commands.specs.Laws.{IsOfMemory}
use Rattle.commands.proofs.Alike.{AreAlike, alike}
use Rattle.commands.proofs.OneCause.{SameCut, same_cuts}
use Rattle.commands.proofs.OneMissing.{same_if, same_missing}
use Rattle.join.proofs.Outsides.{cancel_back}
use Rattle.join.proofs.Texts.{cancel, one_cut}
use Rattle.join.proofs.Spans.{line_lacks}
use Rattle.std.proofs.lemmas.Fmt.{decimal_injective}
use Rattle.std.specs.Fmt.{decimal}
use Rattle.commands.proofs.OnePage.{one_page_of}
use Rattle.commands.proofs.OneReport.{Below, same_test, same_log, of_source}
use Rattle.commands.proofs.OneText.{same_programs}

-- a mark has one failure
same_failure_at : (s : StartsValue) (m : LineMark) (f g : Failure) → IsFailureAt s m f → IsFailureAt s m g → f ≡ g
same_failure_at s m f g a b =
    let both : Some b.choice ≡ Some a.choice = sym b.there ∙ a.there in
    let choice : b.choice ≡ a.choice = cc in
    let program : f.program ≡ g.program = a.program ∙ sym b.program in
    let other = subst (λ (c : ChoiceValue). IsWindowIf s.plan.by s.plan.log.entries c.cut c.departures g.window) choice b.window in
    let window = same_if s.plan.by s.plan.log.entries a.choice.cut a.choice.departures f.window g.window a.window other in
    λ i. record { program = program i; window = window i }

-- each failure is that of the mark at its place
abbrev EachFailsAt : StartsValue → List LineMark → List Failure → Type 0
EachFailsAt s ms fs = (i : ℕ) (m : LineMark) (f : Failure) → slice_get ms i ≡ Some m → slice_get fs i ≡ Some f → IsFailureAt s m f

same_each : (s : StartsValue) (ms : List LineMark) (fs gs : List Failure) → length fs ≡ length ms → length gs ≡ length ms → EachFailsAt s ms fs → EachFailsAt s ms gs → fs ≡ gs
same_each s [] [] [] long wide a b = refl
same_each s [] (f ∷ fs) gs long wide a b = absurd (let more : suc (length fs) ≡ 0 = long in omega (arith, more))
same_each s [] [] (g ∷ gs) long wide a b = absurd (let more : suc (length gs) ≡ 0 = wide in omega (arith, more))
same_each s (m ∷ ms) [] gs long wide a b = absurd (let more : 0 ≡ suc (length ms) = long in omega (arith, more))
same_each s (m ∷ ms) (f ∷ fs) [] long wide a b = absurd (let more : 0 ≡ suc (length ms) = wide in omega (arith, more))
same_each s (m ∷ ms) (f ∷ fs) (g ∷ gs) long wide a b =
    let one = same_failure_at s m f g (a 0 m f refl refl) (b 0 m g refl refl) in
    let more : suc (length fs) ≡ suc (length ms) = long in
    let much : suc (length gs) ≡ suc (length ms) = wide in
    let rest = same_each s ms fs gs (omega (arith, more)) (omega (arith, much)) (λ i n h there at. a (suc i) n h there at) (λ i n h there at. b (suc i) n h there at) in
    λ i. one i ∷ rest i

pub same_failures_at : (s : StartsValue) (ms : List LineMark) (fs gs : List Failure) → AreFailuresAt s ms fs → AreFailuresAt s ms gs → fs ≡ gs
same_failures_at s ms fs gs a b = same_each s ms fs gs a.all b.all a.each b.each

same_flushes : (s : StartsValue) (ts : List ToldLine) (fs gs : List Failure) (ms ns : List MissingFlush) → AreMissingFor s ts fs ms → AreMissingFor s ts gs ns → ms ≡ ns
same_flushes s ts fs gs ms ns a b =
    let windows : windows_in gs ≡ windows_in fs = ap windows_in (same_failures_at s (marks_told ts) gs fs b.failures a.failures) in
    same_missing (windows_in fs) ms ns a.missing (subst (λ (ws : List Window). AreMissing ws ns) windows b.missing)

-- why programs fail is told in one way
pub one_why : (s : StartsValue) (g : GivenValue) (bytes others : List ℕ) → TellsWhy s g bytes → TellsWhy s g others → bytes ≡ others
one_why s g bytes others a b =
    let failures : a.failures ≡ b.failures = same_failures_at s (marks_told g.lines) a.failures b.failures a.are_missing.failures b.are_missing.failures in
    let missing : a.missing ≡ b.missing = same_flushes s g.lines a.failures b.failures a.missing b.missing a.are_missing b.are_missing in
    let causes = alike (AreAlike SameCut) a.causes b.causes (a.all ∙ sym b.all)
    (λ program c d p q. same_cuts s (images_told_of program g.lines) (outcomes_told_of program g.lines) c d (a.each program c p) (b.each program d q)) in
    let same = same_programs s (λ program. outcomes_told_of program g.lines) 0 a.causes b.causes causes in
    let text : opening_told g ++ (missing_text (count_of g) a.failures a.missing ++ causes_from s (λ program. outcomes_told_of program g.lines) 0 a.causes)
    ≡ opening_told g ++ (missing_text (count_of g) b.failures b.missing ++ causes_from s (λ program. outcomes_told_of program g.lines) 0 b.causes) =
    λ i. opening_told g ++ (missing_text (count_of g) (failures i) (missing i) ++ same i) in
    a.text ∙ text ∙ sym b.text

-- and so are places for flushes
one_places : (added : List ℕ) (s : StartsValue) (g : GivenValue) (bytes others : List ℕ) → TellsPlaces added s g bytes → TellsPlaces added s g others → bytes ≡ others
one_places added s g bytes others a b =
    let failures : a.failures ≡ b.failures = same_failures_at s (marks_told g.lines) a.failures b.failures a.are_missing.failures b.are_missing.failures in
    let missing : a.missing ≡ b.missing = same_flushes s g.lines a.failures b.failures a.missing b.missing a.are_missing b.are_missing in
    let text : codes "crash cure 1\n" ++ (g.head ++ (programs_text (count_of g) a.failures ++ (uncured_told s g.lines a.failures ++ (flat_map (flush_line 1) a.missing ++ end_told added g a.missing))))
    ≡ codes "crash cure 1\n" ++ (g.head ++ (programs_text (count_of g) b.failures ++ (uncured_told s g.lines b.failures ++ (flat_map (flush_line 1) b.missing ++ end_told added g b.missing)))) =
    λ i. codes "crash cure 1\n" ++ (g.head ++ (programs_text (count_of g) (failures i) ++ (uncured_told s g.lines (failures i) ++ (flat_map (flush_line 1) (missing i) ++ end_told added g (missing i))))) in
    a.text ∙ text ∙ sym b.text

-- of a program one thing is said
one_name : (options : List ℕ) (g : GivenValue) (program : ℕ) (x y : List ℕ) → IsSaid options g program x → IsSaid options g program y → x ≡ y
one_name options g program x y (of_checker h out there is) (of_checker k own at as_well) =
    let both : Some h ≡ Some k = sym there ∙ at in
    let head : h ≡ k = cc in
    is ∙ ap checker_text head ∙ sym as_well
one_name options g program x y (of_checker h out there is) (of_own words own head as_well) = absurd (let bad : false ≡ true = sym out ∙ own in cc)
one_name options g program x y (of_own words own head is) (of_checker h out there as_well) = absurd (let bad : false ≡ true = sym out ∙ own in cc)
one_name options g program x y (of_own words out head is) (of_own others own as_head as_well) =
    let rest : codes "program 0 outside " ++ (words ++ codes "\n") ≡ codes "program 0 outside " ++ (others ++ codes "\n") =
    cancel options (codes "program 0 outside " ++ (words ++ codes "\n")) (codes "program 0 outside " ++ (others ++ codes "\n")) (sym head.is ∙ as_head.is) in
    let ends : words ++ codes "\n" ≡ others ++ codes "\n" = cancel (codes "program 0 outside ") (words ++ codes "\n") (others ++ codes "\n") rest in
    is ∙ ap outside_text (cancel_back (codes "\n") words others ends) ∙ sym as_well

-- and a report has one page
one_paged : (options : List ℕ) (s : StartsValue) (g : GivenValue) (bytes others : List ℕ) → TellsPage options s g bytes → TellsPage options s g others → bytes ≡ others
one_paged options s g bytes others a b =
    let failures : a.failures ≡ b.failures = same_failures_at s (marks_told g.lines) a.failures b.failures a.are_failures b.are_failures in
    let page = subst
    (λ (fs : List Failure). IsPage (g.head ++ g.last) s (IsSaid options g) (λ (program : ℕ). images_told_of program g.lines) (λ (program : ℕ). outcomes_told_of program g.lines) fs (count_of g) others)
    (sym failures) b.page in
    one_page_of (g.head ++ g.last) s (IsSaid options g) (λ (program : ℕ). images_told_of program g.lines) (λ (program : ℕ). outcomes_told_of program g.lines) a.failures (count_of g) bytes others
    (one_name options g) a.page page

one_telling : (t : Retelling) (s : Settings) (value : LogValue) (g : GivenValue) (bytes others : List ℕ) → Retells t s value g bytes → Retells t s value g others → bytes ≡ others
one_telling retelling.Causes s value g bytes others a b = one_why (starts_given s value) g bytes others a b
one_telling retelling.Page s value g bytes others a b = one_paged (options_given s value) (starts_given s value) g bytes others a b
one_telling retelling.Places s value g bytes others a b = one_places (places_of s.cuts.flushes) (starts_given s value) g bytes others a b

-- a report begins in one way
after_title : (number n : ℕ) (options x report : List ℕ) → report ≡ (codes "crash report 2\n" ++ inputs_line number (suc n)) ++ (options ++ x) → report ≡ codes "crash report 2\n" ++ (inputs_line number (suc n) ++ (options ++ x))
after_title number n options x report is = is ∙ append_assoc (codes "crash report 2\n") (inputs_line number (suc n)) (options ++ x)

-- the options are no line of the inputs
options_byte : (s : Settings) (value : LogValue) (x : List ℕ) → get_or (options_given s value ++ x) 0 0 ≡ 115
unfolding device_text
options_byte s value x = refl

inputs_byte : (number n : ℕ) (x : List ℕ) → get_or (inputs_line number n ++ x) 0 0 ≡ 105
unfolding inputs_line
inputs_byte number n x = refl

one_begins : (number n : ℕ) (s : Settings) (value : LogValue) (x y : List ℕ) → options_given s value ++ x ≡ inputs_line number n ++ y → ⊥
one_begins number n s value x y same =
    let bad : 115 ≡ 105 = sym (options_byte s value x) ∙ ap (λ (bs : List ℕ). get_or bs 0 0) same ∙ inputs_byte number n y in
    omega (arith, bad)

same_programs_said : (number m n : ℕ) (x y : List ℕ) → m ≤ 8 → n ≤ 8 → inputs_line number m ++ x ≡ inputs_line number n ++ y → m ≡ n
unfolding inputs_line
same_programs_said number m n x y few small same =
    let front : List ℕ = codes "inputs " ++ decimal number ++ codes " programs " in
    let left : front ++ (decimal m ++ 10 ∷ x) ≡ ((front ++ decimal m) ++ codes "\n") ++ x = sym (append_assoc (front ++ decimal m) (codes "\n") x ∙ append_assoc front (decimal m) (10 ∷ x)) in
    let right : ((front ++ decimal n) ++ codes "\n") ++ y ≡ front ++ (decimal n ++ 10 ∷ y) = append_assoc (front ++ decimal n) (codes "\n") y ∙ append_assoc front (decimal n) (10 ∷ y) in
    let rest : decimal m ++ 10 ∷ x ≡ decimal n ++ 10 ∷ y = cancel front (decimal m ++ 10 ∷ x) (decimal n ++ 10 ∷ y) (left ∙ same ∙ right) in
    let low : m < 2 ^ 64 = omega (arith, few) in
    let also : n < 2 ^ 64 = omega (arith, small) in
    let words = one_cut 10 (decimal m) (decimal n) x y (line_lacks m low) (line_lacks n also) rest in
    decimal_injective m n low also words.0

same_said : (number : ℕ) (s : Settings) (value : LogValue) (report x y : List ℕ) (m n : ℕ) → m ≤ 8 → n ≤ 8 → report ≡ title_text number m ++ (options_given s value ++ x) → report ≡ title_text number n ++ (options_given s value ++ y) → m ≡ n
same_said number s value report x y zero zero few small a b = refl
same_said number s value report x y zero (suc n) few small a b =
    absurd (one_begins number (suc n) s value x (options_given s value ++ y)
    (cancel (codes "crash report 2\n") (options_given s value ++ x) (inputs_line number (suc n) ++ (options_given s value ++ y)) (sym a ∙ after_title number n (options_given s value) y report b)))
same_said number s value report x y (suc m) zero few small a b =
    absurd (one_begins number (suc m) s value y (options_given s value ++ x)
    (cancel (codes "crash report 2\n") (options_given s value ++ y) (inputs_line number (suc m) ++ (options_given s value ++ x)) (sym b ∙ after_title number m (options_given s value) x report a)))
same_said number s value report x y (suc m) (suc n) few small a b =
    same_programs_said number (suc m) (suc n) (options_given s value ++ x) (options_given s value ++ y) few small
    (cancel (codes "crash report 2\n") (inputs_line number (suc m) ++ (options_given s value ++ x)) (inputs_line number (suc n) ++ (options_given s value ++ y))
    (sym (after_title number m (options_given s value) x report a) ∙ after_title number n (options_given s value) y report b))

-- and so it says one thing
pub one_given : (file : List ℕ) (s : Settings) (value : LogValue) (report : List ℕ) (g h : GivenValue) → IsGiven file s value report g → (said : ℕ) → said ≤ 8
    → IsReport (title_given file s value said) (options_given s value) (starts_given s value) (length (images_of s value)) report h → g ≡ h
one_given file s value report g h a said few is =
    let own = a.as_said.read in
    let same : said ≡ a.said = same_said (report_number file (options_given s value)) s value report _ _ said a.said few a.few is.is own.is.is in
    own.only h (subst (λ (n : ℕ). IsReport (title_given file s value n) (options_given s value) (starts_given s value) (length (images_of s value)) report h) same is)

one_of : (t : Retelling) (file : List ℕ) (s : Settings) (value : LogValue) (report bytes others : List ℕ) (failing fails : Bool) → IsRetoldOf t file s value report bytes failing
    → IsRetoldOf t file s value report others fails → (bytes ≡ others) × (failing ≡ fails)
one_of t file s value report bytes others failing fails a b =
    let given : b.given ≡ a.given = sym (one_given file s value report a.given b.given a.is b.is.said b.is.few b.is.as_said.read.is) in
    let tells = subst (λ (g : GivenValue). Retells t s value g others) given b.tells in
    (one_telling t s value a.given bytes others a.tells tells, same_test failing fails a.given.lines b.given.lines a.fails b.fails (sym (ap (λ (g : GivenValue). g.lines) given)))

pub one_retold : TextOfOneLog → (t : Retelling) (text : Recording) (report : List ℕ) (s : Settings) (bytes others : List ℕ) (failing fails : Bool)
    → IsRetold t text report s bytes failing → IsRetold t text report s others fails → (bytes ≡ others) × (failing ≡ fails)
one_retold texts t text report s bytes others failing fails a b =
    let value : b.value ≡ a.value = same_log texts text s b.value a.value b.source a.source in
    one_of t text.text s a.value report bytes others failing fails a.told (subst (λ (v : LogValue). IsRetoldOf t text.text s v report others fails) value b.told)

-- a report of which something is told is refused for want of memory alone
of_sources : Below → (text : Recording) (s : Settings) (a : LogValue) (f : RetellFault) → HasImages text s a → RefusesSourceAs text s f → IsOfMemory (retold_refusal f).code
of_sources below text s a _ h (retold.with_refusal r why) = of_source below text s a r h why

of_report : (t : Retelling) (file : List ℕ) (s : Settings) (value : LogValue) (report bytes : List ℕ) (failing : Bool) (f : RetellFault) → IsRetoldOf t file s value report bytes failing
    → RefusesReport file s value report f → IsOfMemory (retold_refusal f).code
of_report t file s value report bytes failing _ h (retold.no_report line none) = absurd ((none.none h.is.said h.is.few).none h.given h.is.as_said.counted h.is.as_said.read.is)
of_report t file s value report bytes failing _ h retold.no_memory = refl

pub retold_or_refusal : Below → (t : Retelling) (text : Recording) (report : List ℕ) (s : Settings) (bytes : List ℕ) (failing : Bool) (f : RetellFault) → IsRetold t text report s bytes failing
    → RefusesRetold text report s f → IsOfMemory (retold_refusal f).code
retold_or_refusal below t text report s bytes failing _ h (retold.for_part part) = absurd (part h.whole)
retold_or_refusal below t text report s bytes failing _ h (retold.too_long whole long) = absurd (let short = h.short in omega (arith, short, long))
retold_or_refusal below t text report s bytes failing _ h (retold.for_source f whole short why) = of_sources below text s h.value f h.source why
retold_or_refusal below t text report s bytes failing _ h (retold.for_report f value whole short source why) =
    let same : value ≡ h.value = same_log below.texts text s value h.value source h.source in
    of_report t text.text s h.value report bytes failing f h.told (subst (λ (v : LogValue). RefusesReport text.text s v report f) same why)
retold_or_refusal below t text report s bytes failing _ h retold.want_of_memory = refl
