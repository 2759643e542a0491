-- A report that is given in place of programs, read to the byte and in one way alone.
use Rattle.std.proofs.Common.{ℕ, ◌≡◌, ◌≢◌, ◌+◌, ◌≤◌, ◌^◌, Bool, true, false, List, map, [], ◌∷◌, ◌++◌, length, get_or, append_assoc, codes, None, refl, sym, subst, ◌∙◌, ap, arith}
use Rattle.std.specs.Fmt.{decimal}
use Rattle.std.specs.List.{flat_map}
use Rattle.std.specs.Str.{IsUtf8}
use Rattle.machine.specs.Outcome.{OutOfSteps}
use Rattle.epochs.specs.declared.part.By.TheVariants as by
use Rattle.choices.specs.Sums.{StartsValue}
use Rattle.report.specs.declared.head.ProgramHead.{ProgramHead}
use Rattle.report.specs.declared.lines.marks.LineMark.{LineMark}
use Rattle.report.specs.declared.span.Span.{Span}
use Rattle.report.specs.Line.{FailingLine}
use Rattle.report.specs.Marks.{marks_of}
use Rattle.report.specs.Images.{images_of, distinct_count}
use Rattle.join.specs.declared.tally.Tally.{Tally}
use Rattle.join.specs.Heads.{NoProgram}
use Rattle.join.specs.Order.{in_order}
use Rattle.join.specs.Reading.{none_read, tallied, last_text, words_text}
use Rattle.join.specs.Given.{ToldLine, AreToldOf, GivenValue, IsReport, NoReport, IsReportRead, chosen_told, judge_count, marks_told, images_told, told_line, told_totals}
use Rattle.join.specs.GivenReading.{AreJudgesRead, NoJudges, AreToldRead, NoToldLine}
use Rattle.join.proofs.Texts.{cancel}
use Rattle.join.proofs.Counts.{counted_order, counted_images, counted_lines}
use Rattle.join.proofs.Outsides.{cancel_back}
use Rattle.join.proofs.JudgesRead.{few_judges, after_judges, after_front}
use Rattle.join.proofs.ToldLines.{body_is, told_is, one_reading_told, totals_no_told}

-- lines of these marks, whatever they say besides
line_for : ToldLine → FailingLine
line_for t = record { image = t.mark.image; cut = 0; program = t.mark.program; ending = OutOfSteps; by = by.Sector; departures = [] }

marks_for : (ts : List ToldLine) → marks_of (map line_for ts) ≡ marks_told ts
unfolding line_for
marks_for [] = refl
marks_for (t ∷ ts) = ap (λ (ms : List LineMark). t.mark ∷ ms) (marks_for ts)

images_for : (ts : List ToldLine) → images_of (map line_for ts) ≡ images_told ts
unfolding line_for
images_for [] = refl
images_for (t ∷ ts) = ap (λ (ms : List ℕ). t.mark.image ∷ ms) (images_for ts)

long_for : (ts : List ToldLine) → length (map line_for ts) ≡ length ts
long_for [] = refl
long_for (t ∷ ts) = let rest = long_for ts in omega (arith, rest)

-- the images of a whole run
abbrev pub whole_span : ℕ → Span
whole_span images = record { from = 0; to = images; images = images; inputs = 0 }

ordered_is : (images : ℕ) (ts : List ToldLine) → (tallied (whole_span images) none_read (marks_told ts)).ordered ≡ in_order 0 images None (marks_told ts)
ordered_is images ts = counted_order (whole_span images) (marks_told ts)

-- the last line, by what was counted
totals_told : (images : ℕ) (ts : List ToldLine) → in_order 0 images None (marks_told ts) ≡ true → last_text false images (tallied (whole_span images) none_read (marks_told ts)) ≡ told_totals images ts
unfolding last_text told_totals
totals_told images ts order =
    let ls = map line_for ts in
    let own : in_order 0 images None (marks_of ls) ≡ true = ap (in_order 0 images None) (marks_for ts) ∙ order in
    let failing : (tallied (whole_span images) none_read (marks_told ts)).images ≡ distinct_count (images_told ts) =
    ap (λ (ms : List LineMark). (tallied (whole_span images) none_read ms).images) (sym (marks_for ts)) ∙ counted_images (whole_span images) ls own ∙ ap distinct_count (images_for ts) in
    let many : (tallied (whole_span images) none_read (marks_told ts)).lines ≡ length ts =
    ap (λ (ms : List LineMark). (tallied (whole_span images) none_read ms).lines) (sym (marks_for ts)) ∙ counted_lines (whole_span images) ls ∙ long_for ts in
    rw (failing, many) refl

-- the last line by its words
totals_rest : ℕ → List ToldLine → List ℕ
totals_rest images ts = decimal images ++ (codes " failing " ++ (decimal (distinct_count (images_told ts)) ++ (codes " lines " ++ (decimal (length ts) ++ codes "\n"))))

totals_begin : (images : ℕ) (ts : List ToldLine) → told_totals images ts ≡ codes "images " ++ totals_rest images ts
unfolding told_totals totals_rest
totals_begin images ts = simp append_assoc

-- after the programs stands no line of one more
lines_no_program : (outside : Bool) (programs images : ℕ) (s : StartsValue) (ts qs : List ToldLine) → AreToldOf outside programs s ts → NoProgram (flat_map (told_line s) ts ++ told_totals images qs)
unfolding told_totals words_text
lines_no_program outside programs images s [] qs all = λ rest e. let bad : 105 ≡ 112 = ap (λ (bs : List ℕ). get_or bs 0 0) e in omega (arith, bad)
lines_no_program outside programs images s (t ∷ ts) qs all = λ rest e.
    begins rest (sym (append_assoc (told_line s t) (flat_map (told_line s) ts) (told_totals images qs) ∙ told_is s t (flat_map (told_line s) ts ++ told_totals images qs)
    ∙ ap (λ (bs : List ℕ). bs ++ 10 ∷ (flat_map (told_line s) ts ++ told_totals images qs)) (body_is s t all.0.choice all.0.there)) ∙ e)
  where
    begins : (rest : List ℕ) → chosen_told s.plan.by t all.0.choice ++ 10 ∷ (flat_map (told_line s) ts ++ told_totals images qs) ≡ codes "program " ++ rest → ⊥
    begins rest same = let bad : 105 ≡ 112 = ap (λ (bs : List ℕ). get_or bs 0 0) same in omega (arith, bad)

pub no_title_no_report : (title options : List ℕ) (s : StartsValue) (images : ℕ) (text : List ℕ) → ((rest : List ℕ) → text ≢ title ++ rest) → NoReport title options s images text
no_title_no_report title options s images text none = record { none = λ g is. none _ is.is }

pub no_options_no_report : (title options : List ℕ) (s : StartsValue) (images : ℕ) (text titled : List ℕ) → text ≡ title ++ titled → ((rest : List ℕ) → titled ≢ options ++ rest) → NoReport title options s images text
no_options_no_report title options s images text titled begun none = record { none = λ g is. none _ (cancel title titled _ (sym begun ∙ is.is)) }

-- what stands after the options
rest_of : (title options : List ℕ) (s : StartsValue) (images : ℕ) (whole titled text : List ℕ) → whole ≡ title ++ titled → titled ≡ options ++ text
    → (g : GivenValue) (is : IsReport title options s images whole g) → text ≡ is.judges ++ (flat_map (told_line s) g.lines ++ g.last)
rest_of title options s images whole titled text begun given g is =
    cancel options text (is.judges ++ (flat_map (told_line s) g.lines ++ g.last))
    (sym given ∙ cancel title titled (options ++ (is.judges ++ (flat_map (told_line s) g.lines ++ g.last))) (sym begun ∙ is.is))

after_programs : (title options : List ℕ) (s : StartsValue) (images : ℕ) (whole : List ℕ) (g : GivenValue) (is : IsReport title options s images whole g) → NoProgram (flat_map (told_line s) g.lines ++ g.last)
after_programs title options s images whole g is =
    subst (λ (bs : List ℕ). NoProgram (flat_map (told_line s) g.lines ++ bs)) (sym is.last) (lines_no_program g.outside (judge_count g.outside g.programs) images s g.lines g.lines is.lines)

pub no_judges_no_report : (title options : List ℕ) (s : StartsValue) (images : ℕ) (whole titled text : List ℕ) → whole ≡ title ++ titled → titled ≡ options ++ text → NoJudges text → NoReport title options s images whole
no_judges_no_report title options s images whole titled text begun given lack = record {
  none = λ g is.
      lack.none g.outside g.programs is.judges (flat_map (told_line s) g.lines ++ g.last) is.are (after_programs title options s images whole g is) (rest_of title options s images whole titled text begun given g is);
}

-- what is read of a text
pub record AreSteps (title options : List ℕ) (s : StartsValue) (images : ℕ) (whole titled text lines : List ℕ) (outside : Bool) (programs : List ProgramHead) (count : ℕ) (ts : List ToldLine) (tally : Tally) (rest : List ℕ) : Type 0 where
  pub begun : whole ≡ title ++ titled
  pub given : titled ≡ options ++ text
  pub judges : AreJudgesRead text outside programs lines
  pub counted : count ≡ judge_count outside programs
  pub few : count ≤ 8
  pub told : AreToldRead outside count s (whole_span images) lines ts tally rest
  pub end : NoToldLine outside count s rest

pub are_steps : (title options : List ℕ) (s : StartsValue) (images : ℕ) (whole titled text lines : List ℕ) (outside : Bool) (programs : List ProgramHead) (count : ℕ) (ts : List ToldLine) (tally : Tally) (rest : List ℕ)
    → whole ≡ title ++ titled → titled ≡ options ++ text → AreJudgesRead text outside programs lines → count ≡ judge_count outside programs
    → AreToldRead outside count s (whole_span images) lines ts tally rest → NoToldLine outside count s rest → AreSteps title options s images whole titled text lines outside programs count ts tally rest
are_steps title options s images whole titled text lines outside programs count ts tally rest begun given judges counted told end = record {
  begun = begun;
  given = given;
  judges = judges;
  counted = counted;
  few = subst (λ (n : ℕ). n ≤ 8) (sym counted) (few_judges text outside programs lines judges);
  told = told;
  end = end;
}

pub are_steps_of : (title options : List ℕ) (s : StartsValue) (images : ℕ) (whole titled text lines : List ℕ) (outside : Bool) (programs : List ProgramHead) (count : ℕ) (ts : List ToldLine) (tally : Tally) (rest : List ℕ) (span : Span)
    → span ≡ whole_span images → whole ≡ title ++ titled → titled ≡ options ++ text → AreJudgesRead text outside programs lines → count ≡ judge_count outside programs
    → AreToldRead outside count s span lines ts tally rest → NoToldLine outside count s rest → AreSteps title options s images whole titled text lines outside programs count ts tally rest
are_steps_of title options s images whole titled text lines outside programs count ts tally rest span same begun given judges counted told end =
    are_steps title options s images whole titled text lines outside programs count ts tally rest begun given judges counted
    (subst (λ (x : Span). AreToldRead outside count s x lines ts tally rest) same told) end

-- the lines are no longer than the whole
pub lines_short : (title options whole titled text lines : List ℕ) (outside : Bool) (programs : List ProgramHead) → whole ≡ title ++ titled → titled ≡ options ++ text → AreJudgesRead text outside programs lines
    → length whole ≤ 2 ^ 30 → length lines ≤ 2 ^ 30
lines_short title options whole titled text lines outside programs begun given judges short =
    let a = after_front title whole titled begun in
    let b = after_front options titled text given in
    let d = after_judges text outside programs lines judges in
    omega (arith, a, b, d, short)

-- another reading reads the same
record IsSame (g : GivenValue) (judges : List ℕ) (outside : Bool) (programs : List ProgramHead) (front : List ℕ) (ts : List ToldLine) (rest : List ℕ) : Type 0 where
  outside_is : g.outside ≡ outside
  programs_are : g.programs ≡ programs
  judges_are : judges ≡ front
  lines_are : ts ≡ g.lines
  rest_is : rest ≡ g.last

same_of : (title options : List ℕ) (s : StartsValue) (images : ℕ) (whole titled text lines : List ℕ) (outside : Bool) (programs : List ProgramHead) (count : ℕ) (ts : List ToldLine) (tally : Tally) (rest : List ℕ)
    → (a : AreSteps title options s images whole titled text lines outside programs count ts tally rest) → (g : GivenValue) (is : IsReport title options s images whole g) → IsSame g is.judges outside programs a.judges.judges ts rest
same_of title options s images whole titled text lines outside programs count ts tally rest a g is =
    let one = a.judges.only g.outside g.programs is.judges (flat_map (told_line s) g.lines ++ g.last) is.are (after_programs title options s images whole g is) (rest_of title options s images whole titled text a.begun a.given g is) in
    let own : AreToldOf outside (judge_count g.outside g.programs) s g.lines = subst (λ (o : Bool). AreToldOf o (judge_count g.outside g.programs) s g.lines) one.0 is.lines in
    let same_count : judge_count g.outside g.programs ≡ count =
    ap (λ (o : Bool). judge_count o g.programs) one.0 ∙ ap (λ (ps : List ProgramHead). judge_count outside ps) one.1 ∙ sym a.counted in
    let also : AreToldOf outside count s g.lines = subst (λ (n : ℕ). AreToldOf outside n s g.lines) same_count own in
    let tail : NoToldLine outside count s g.last =
    subst (λ (bs : List ℕ). NoToldLine outside count s bs) (sym (is.last ∙ totals_begin images g.lines)) (totals_no_told outside count s (totals_rest images g.lines)) in
    let reading = one_reading_told outside count s ts g.lines rest g.last a.few a.told.each also a.end tail (sym a.told.is ∙ sym one.3) in
    record { outside_is = one.0; programs_are = one.1; judges_are = one.2; lines_are = reading.0; rest_is = reading.1 }

pub unordered_no_report : (title options : List ℕ) (s : StartsValue) (images : ℕ) (whole titled text lines : List ℕ) (outside : Bool) (programs : List ProgramHead) (count : ℕ) (ts : List ToldLine) (tally : Tally) (rest : List ℕ)
    → AreSteps title options s images whole titled text lines outside programs count ts tally rest → tally.ordered ≡ false → NoReport title options s images whole
unordered_no_report title options s images whole titled text lines outside programs count ts tally rest a lack = record {
  none = λ g is.
      let same = same_of title options s images whole titled text lines outside programs count ts tally rest a g is in
      let bad : true ≡ false =
      sym is.order ∙ ap (λ (xs : List ToldLine). in_order 0 images None (marks_told xs)) (sym same.lines_are) ∙ sym (ordered_is images ts) ∙ ap (λ (t : Tally). t.ordered) (sym a.told.told) ∙ lack in
      cc;
}

pub other_last_no_report : (title options : List ℕ) (s : StartsValue) (images : ℕ) (whole titled text lines : List ℕ) (outside : Bool) (programs : List ProgramHead) (count : ℕ) (ts : List ToldLine) (tally : Tally) (rest : List ℕ)
    → AreSteps title options s images whole titled text lines outside programs count ts tally rest → rest ≢ last_text false images tally → NoReport title options s images whole
other_last_no_report title options s images whole titled text lines outside programs count ts tally rest a other = record {
  none = λ g is.
      let same = same_of title options s images whole titled text lines outside programs count ts tally rest a g is in
      let lines = same.lines_are in
      let order : in_order 0 images None (marks_told ts) ≡ true = ap (λ (xs : List ToldLine). in_order 0 images None (marks_told xs)) lines ∙ is.order in
      other (same.rest_is ∙ is.last ∙ ap (told_totals images) (sym lines) ∙ sym (totals_told images ts order) ∙ ap (last_text false images) (sym a.told.told));
}

pub no_front_no_report : (title options : List ℕ) (s : StartsValue) (images : ℕ) (whole titled text lines : List ℕ) (outside : Bool) (programs : List ProgramHead) → titled ≡ options ++ text → AreJudgesRead text outside programs lines
    → ((front : List ℕ) → titled ≢ front ++ lines) → NoReport title options s images whole
no_front_no_report title options s images whole titled text lines outside programs given j none =
    absurd (none (options ++ j.judges) (given ∙ ap (λ (bs : List ℕ). options ++ bs) j.is ∙ sym (append_assoc options j.judges lines)))

same_given : {head last : List ℕ} {outside : Bool} {programs : List ProgramHead} {ts : List ToldLine} (g : GivenValue) → head ≡ g.head → outside ≡ g.outside → programs ≡ g.programs → ts ≡ g.lines → last ≡ g.last
    → record { head = head; outside = outside; programs = programs; lines = ts; last = last } ≡ g
same_given g a b c d e = λ i. record { head = a i; outside = b i; programs = c i; lines = d i; last = e i }

pub report_found : (title options : List ℕ) (s : StartsValue) (images : ℕ) (whole titled text lines : List ℕ) (outside : Bool) (programs : List ProgramHead) (count : ℕ) (ts : List ToldLine) (tally : Tally) (rest head : List ℕ)
    → AreSteps title options s images whole titled text lines outside programs count ts tally rest → IsUtf8 whole → tally.ordered ≡ true → rest ≡ last_text false images tally → titled ≡ head ++ lines
    → IsReportRead title options s images whole (record { head = head; outside = outside; programs = programs; lines = ts; last = rest })
report_found title options s images whole titled text lines outside programs count ts tally rest head a utf8 ordered at parts = record { is = is; only = only }
  where
    order : in_order 0 images None (marks_told ts) ≡ true
    order = sym (ordered_is images ts) ∙ ap (λ (t : Tally). t.ordered) (sym a.told.told) ∙ ordered

    last : rest ≡ told_totals images ts
    last = at ∙ ap (last_text false images) a.told.told ∙ totals_told images ts order

    front : titled ≡ (options ++ a.judges.judges) ++ lines
    front = a.given ∙ ap (λ (bs : List ℕ). options ++ bs) a.judges.is ∙ sym (append_assoc options a.judges.judges lines)

    head_is : head ≡ options ++ a.judges.judges
    head_is = cancel_back lines head (options ++ a.judges.judges) (sym parts ∙ front)

    is : IsReport title options s images whole (record { head = head; outside = outside; programs = programs; lines = ts; last = rest })
    is = record {
      utf8 = utf8;
      judges = a.judges.judges;
      are = a.judges.are;
      head = head_is;
      lines = subst (λ (n : ℕ). AreToldOf outside n s ts) a.counted a.told.each;
      order = order;
      last = last;
      is =
          a.begun ∙ ap (λ (bs : List ℕ). title ++ bs) (a.given ∙ ap (λ (bs : List ℕ). options ++ bs) (a.judges.is ∙ ap (λ (bs : List ℕ). a.judges.judges ++ bs) a.told.is));
    }

    only : (other : GivenValue) → IsReport title options s images whole other → record { head = head; outside = outside; programs = programs; lines = ts; last = rest } ≡ other
    only g also =
        let same = same_of title options s images whole titled text lines outside programs count ts tally rest a g also in
        same_given g (head_is ∙ ap (λ (bs : List ℕ). options ++ bs) (sym same.judges_are) ∙ sym also.head) (sym same.outside_is) (sym same.programs_are) same.lines_are same.rest_is

-- a report is a text
pub no_text_no_report : (title options : List ℕ) (s : StartsValue) (images : ℕ) (bytes : List ℕ) → (IsUtf8 bytes → ⊥) → NoReport title options s images bytes
no_text_no_report title options s images bytes none = record { none = λ g is. none is.utf8 }
