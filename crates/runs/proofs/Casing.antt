-- What is found of the cases of a run, and why they aren't told.
use Rattle.std.proofs.Common.{ℕ, ◌≡◌, ◌<◌, ◌≤◌, ◌==◌, ◌||◌, ◌⊎◌, inl, inr, not, if◌then◌else◌, Bool, true, false, List, [], ◌∷◌, ◌++◌, length, slice_get, Option, Some, None, All, Ok, Err, Result, Vec, Global, IfOk, refl, sym, ◌∙◌, ap, subst, arith}
use Rattle.std.specs.List.{flat_map}
use Rattle.std.proofs.lemmas.List.Elements.{All-head, All-tail}
use Rattle.std.proofs.lemmas.Option.{slice_get-get_or, slice_get_within, get_or_from_slice_get}
use Rattle.std.specs.declared.alloc.AllocError.{AllocError}
use Rattle.base.specs.declared.refusal.Refusal.{Refusal}
use Rattle.base.specs.Refusals.{memory_refusal}
use Rattle.logfmt.specs.Bounds.{LogValue}
use Rattle.epochs.specs.declared.cuts.Cuts.{Cuts}
use Rattle.epochs.specs.declared.part.By.{By}
use Rattle.epochs.specs.Cuts.{cuts_of}
use Rattle.epochs.specs.Plan.{PlanValue}
use Rattle.checker.specs.Checker.{CheckerValue, AreFor}
use Rattle.report.specs.Report.{HeadValue}
use Rattle.losses.specs.declared.found.Losses.{Losses}
use Rattle.losses.specs.declared.found.CutFound.{CutFound}
use Rattle.case_runs.specs.declared.found.SearchFault.{SearchFault}
use Rattle.case_runs.specs.declared.found.SearchFault.TheVariants as fault
use Rattle.losses.specs.FoundCases.{cases_in, most_cases}
use Rattle.case_runs.specs.Found.{AreFoundIn, AreTooMany, StopsIn}
use Rattle.losses.specs.declared.found.CaseFindings.{CaseFindings}
use Rattle.losses.specs.declared.found.FirstCase.{FirstCase}
use Rattle.case_runs.specs.declared.first.Sought.{Sought}
use Rattle.losses.specs.declared.found.FailingCase.{FailingCase}
use Rattle.case_runs.specs.First.{NoneFailsAt, NoneFails, IsFirstFailing, PassesMostIn, IsSought, EndsIn}
use Rattle.case_text.specs.Text.{are_all_cuts, count_lost_beyond, count_torn_beyond, cases_bytes, cases_head, cut_cases, fails_at, has_range, inputs_told, is_any_failing, totals_text}
use Rattle.case_text.specs.First.{first_bytes}
use Rattle.request.specs.declared.settings.CaseTelling.{CaseTelling}
use Rattle.request.specs.declared.settings.CaseTelling.TheVariants as telling
use Rattle.request.specs.declared.any_losses.AnyLosses.{AnyLosses}
use Rattle.request.specs.declared.settings.Settings.{Settings}
use Rattle.request.specs.Source.{Recording, plan_of, images_refusal, HasImages, for_plan, no_plan_memory}
use Rattle.runs.specs.declared.task.Task.{Task}
use Rattle.case_runs.specs.Cuts.{case_cuts}
use Rattle.request.specs.declared.facts.left_out.LeftOut.{LeftOut}
use Rattle.runs.specs.CaseCuts.{losses_of, left_out_of, AreMore, HasTooMany}
use Rattle.runs.specs.Inputs.{case_number}
use Rattle.runs.specs.CaseRefusals.{StopsFor, RefusesFor, RefusesAll}
use Rattle.runs.specs.Cases.{IsTextOf, TellsCases, TellsFirst, of_first, of_none, IsByCases, TellsLosses, TellsLeft, some_fails, none_fails, LeavesOut}
use Rattle.runs.specs.Judged.{takes}
use Rattle.runs.specs.declared.explore_command.Explored.{Explored}
use Rattle.runs.specs.declared.explore_command.WantedAnswer.{WantedAnswer}
use Rattle.runs.specs.declared.explore_command.WantedAnswer.TheVariants as wanted
use Rattle.runs.specs.Explore.{IsProgramCount, AreCheckersOf, head_of, for_source, RefusesWanted, for_rest, for_cases, for_cure}
use Rattle.runs.specs.Cured.{RefusesRun}
use Rattle.runs.specs.Why.{with_first}

-- what was found is of cuts of the log
pub found_within : (asked : Losses) (log : LogValue) (way : By) (cuts : List ℕ) (checkers : List CheckerValue) (found : List CutFound) (n : ℕ)
    → AreFoundIn asked log way cuts checkers found → All (λ cut. cut ≤ n) cuts → All (λ (c : CutFound). c.cut ≤ n) found
found_within asked log way cuts checkers found n are within k d lt =
    let long = are.count in
    let here : k < length cuts = omega (arith, lt, long) in
    let cut = slice_get-get_or cuts k 0 here in
    let own = are.cut k _ _ cut (slice_get-get_or found k d lt) in
    subst (λ m. m ≤ n) (sym own) (within k 0 here)

-- why they aren't told
pub why_refused : (l : AnyLosses) (t : Task) (cuts : List ℕ) (why : SearchFault) (r : Refusal) → cuts ≡ case_cuts l.at_most t.options.now.cuts t.log.now.entries
    → StopsIn (losses_of l t.options.now) t.log.now t.options.now.by cuts t.checkers.now why → StopsFor why r → RefusesAll l t r
why_refused l t cuts fault.Memory r are stops is = inl is
why_refused l t cuts (fault.TooMany cut) r are stops is =
    inr (cut, is, subst (λ (cs : List ℕ). AreTooMany (losses_of l t.options.now) t.log.now t.options.now.by cs t.checkers.now cut) are stops)

-- where all are asked for
pub all_refused : (l : AnyLosses) (t : Task) (r : Refusal) → t.options.now.first ≡ false → RefusesAll l t r → RefusesFor l t r
all_refused l t r all (inl memory) = inl memory
all_refused l t r all (inr (cut, is, more)) =
    inr (cut, is, subst (λ b. AreMore b (losses_of l t.options.now) t.log.now t.options.now.by (case_cuts l.at_most t.options.now.cuts t.log.now.entries) t.checkers.now cut) (sym all) more)

-- with what is known of the arguments
pub stops_so : (asked own : Losses) (log : LogValue) (way by : By) (cuts : List ℕ) (checkers : List CheckerValue) (why : SearchFault) → own ≡ asked → way ≡ by
    → StopsIn own log way cuts checkers why → StopsIn asked log by cuts checkers why
stops_so asked own log way by cuts checkers why same kind stops =
    subst (λ (x : Losses). StopsIn x log by cuts checkers why) same (subst (λ (b : By). StopsIn own log b cuts checkers why) kind stops)

pub found_so : (asked own : Losses) (log : LogValue) (way by : By) (cuts : List ℕ) (checkers : List CheckerValue) (found : List CutFound) → own ≡ asked → way ≡ by
    → AreFoundIn own log way cuts checkers found → AreFoundIn asked log by cuts checkers found
found_so asked own log way by cuts checkers found same kind are =
    subst (λ (x : Losses). AreFoundIn x log by cuts checkers found) same (subst (λ (b : By). AreFoundIn own log b cuts checkers found) kind are)

-- the text of what was found
pub tells_found : (l : AnyLosses) (t : Task) (cuts : List ℕ) (found : List CutFound) (h : HeadValue) (bytes : List ℕ) (failing : Bool)
    → cuts ≡ case_cuts l.at_most t.options.now.cuts t.log.now.entries → AreFoundIn (losses_of l t.options.now) t.log.now t.options.now.by cuts t.checkers.now found → cases_in found ≤ most_cases
    → h ≡ head_of (with_first false t.options.now) t.log.now t.checkers.now → IsTextOf l.telling t.span.inputs h (losses_of l t.options.now) t.log.now found bytes
    → failing ≡ is_any_failing found → TellsCases t.span.inputs l t.options.now t.log.now t.checkers.now bytes failing
tells_found l t cuts found h bytes failing are those few head text fails = record {
  found = found;
  are = subst (λ (cs : List ℕ). AreFoundIn (losses_of l t.options.now) t.log.now t.options.now.by cs t.checkers.now found) are those;
  few = few;
  text = subst (λ (x : HeadValue). IsTextOf l.telling t.span.inputs x (losses_of l t.options.now) t.log.now found bytes) head text;
  fails = fails;
}

-- the text is that which is asked for
pub text_by : (t : CaseTelling) (telling : CaseTelling) (inputs : ℕ) (h : HeadValue) (asked own : Losses) (log : LogValue) (found : List CutFound) (r : Result (Vec ℕ Global) AllocError) → telling ≡ t
    → own ≡ asked → IfOk r (λ bytes. IsTextOf t inputs h own log found bytes.items) → IfOk r (λ bytes. IsTextOf telling inputs h asked log found bytes.items)
text_by t telling inputs h asked own log found r same losses told =
    subst (λ (x : CaseTelling). IfOk r (λ bytes. IsTextOf x inputs h asked log found bytes.items)) (sym same)
    (subst (λ (x : Losses). IfOk r (λ bytes. IsTextOf t inputs h x log found bytes.items)) losses told)

-- at each cut something is found with each checker, of which there are few
pub found_few : (asked : Losses) (log : LogValue) (way : By) (cuts : List ℕ) (checkers : List CheckerValue) (found : List CutFound) → AreFoundIn asked log way cuts checkers found
    → length checkers ≤ 8 → All (λ (c : CutFound). length c.programs.items ≤ 256) found
found_few asked log way cuts checkers found are few k d lt =
    let long = are.count in
    let here : k < length cuts = omega (arith, lt, long) in
    let own = (are.each k _ _ (slice_get-get_or cuts k 0 here) (slice_get-get_or found k d lt)).count in
    omega (arith, own, few)

-- the text of the first that fails, or of all, where none does

any_none : (found : List CutFound) → NoneFails found → is_any_failing found ≡ false
any_none [] none = refl
any_none (c ∷ found) none =
    let own = none_at c.programs.items (All-head (λ (d : CutFound). NoneFailsAt d.programs.items) c found none) in
    let rest = any_none found (All-tail (λ (d : CutFound). NoneFailsAt d.programs.items) c found none) in
    λ i. own i || rest i
  where
    none_at : (fs : List CaseFindings) → NoneFailsAt fs → fails_at fs ≡ false
    none_at [] all = refl
    none_at (f ∷ fs) all =
        let here = ap (λ (xs : List FailingCase). length xs) (All-head (λ (g : CaseFindings). g.failing.items ≡ []) f fs all) in
        let rest = none_at fs (All-tail (λ (g : CaseFindings). g.failing.items ≡ []) f fs all) in
        λ i. not (here i == 0) || rest i

pub tells_none : (inputs : ℕ) (l : AnyLosses) (s : Settings) (value : LogValue) (checkers : List CheckerValue) (bytes : List ℕ) (failing : Bool) (found : List CutFound) → NoneFails found
    → failing ≡ is_any_failing found → TellsCases inputs l s value checkers bytes failing → TellsFirst inputs l s value checkers bytes failing
tells_none inputs l s value checkers bytes failing found none is tells =
    let passes : failing ≡ false = is ∙ any_none found none in
    subst (λ b. TellsFirst inputs l s value checkers bytes b) (sym passes) (of_none (subst (λ b. TellsCases inputs l s value checkers bytes b) passes tells))

pub tells_first : (l : AnyLosses) (t : Task) (cuts : List ℕ) (first : FirstCase) (h : HeadValue) (asked : Losses) (bytes : List ℕ)
    → cuts ≡ case_cuts l.at_most t.options.now.cuts t.log.now.entries → IsFirstFailing (losses_of l t.options.now) t.log.now t.options.now.by cuts t.checkers.now first
    → h ≡ head_of (with_first false t.options.now) t.log.now t.checkers.now → asked ≡ losses_of l t.options.now → bytes ≡ first_bytes h asked t.log.now first
    → TellsFirst t.span.inputs l t.options.now t.log.now t.checkers.now bytes true
tells_first l t cuts first h asked bytes are is head same text =
    of_first first (subst (λ (cs : List ℕ). IsFirstFailing (losses_of l t.options.now) t.log.now t.options.now.by cs t.checkers.now first) are is)
    (text ∙ (λ i. first_bytes (head i) (same i) t.log.now first))

-- the cut of the first that fails is one of the log
pub first_within : (asked : Losses) (log : LogValue) (way : By) (cuts : List ℕ) (checkers : List CheckerValue) (first : FirstCase) (n : ℕ)
    → IsFirstFailing asked log way cuts checkers first → All (λ cut. cut ≤ n) cuts → first.cut ≤ n
first_within asked log way cuts checkers first n is within =
    subst (λ m. m ≤ n) (get_or_from_slice_get cuts is.place first.cut 0 is.own) (within is.place 0 (slice_get_within cuts is.place first.cut is.own))

pub sought_so : (asked own : Losses) (log : LogValue) (way by : By) (cuts : List ℕ) (checkers : List CheckerValue) (found : Sought) → own ≡ asked → way ≡ by
    → IsSought own log way cuts checkers found → IsSought asked log by cuts checkers found
sought_so asked own log way by cuts checkers found same kind are =
    subst (λ (x : Losses). IsSought x log by cuts checkers found) same (subst (λ (b : By). IsSought own log b cuts checkers found) kind are)

pub ends_so : (asked own : Losses) (log : LogValue) (way by : By) (cuts : List ℕ) (checkers : List CheckerValue) (why : SearchFault) → own ≡ asked → way ≡ by
    → EndsIn own log way cuts checkers why → EndsIn asked log by cuts checkers why
ends_so asked own log way by cuts checkers why same kind stops =
    subst (λ (x : Losses). EndsIn x log by cuts checkers why) same (subst (λ (b : By). EndsIn own log b cuts checkers why) kind stops)

-- why it isn't told
pub first_refused : (l : AnyLosses) (t : Task) (cuts : List ℕ) (why : SearchFault) (r : Refusal) → t.options.now.first ≡ true → cuts ≡ case_cuts l.at_most t.options.now.cuts t.log.now.entries
    → EndsIn (losses_of l t.options.now) t.log.now t.options.now.by cuts t.checkers.now why → StopsFor why r → RefusesFor l t r
first_refused l t cuts fault.Memory r first are stops is = inl is
first_refused l t cuts (fault.TooMany cut) r first are stops is =
    inr (
      cut,
      is,
      subst (λ b. AreMore b (losses_of l t.options.now) t.log.now t.options.now.by (case_cuts l.at_most t.options.now.cuts t.log.now.entries) t.checkers.now cut) (sym first)
          (subst (λ (cs : List ℕ). PassesMostIn (losses_of l t.options.now) t.log.now t.options.now.by cs t.checkers.now cut) are stops),
    )

-- what is told is what is asked for
pub told_as : (inputs : ℕ) (l : AnyLosses) (s : Settings) (value : LogValue) (checkers : List CheckerValue) (b : Bool) (r : Result Explored Refusal) → s.first ≡ b
    → IfOk r (λ e. TellsLosses b inputs l s value checkers e.bytes.items e.failing) → IfOk r (λ e. TellsLosses s.first inputs l s value checkers e.bytes.items e.failing)
told_as inputs l s value checkers b r same told = subst (λ (x : Bool). IfOk r (λ e. TellsLosses x inputs l s value checkers e.bytes.items e.failing)) (sym same) told

-- the number of the inputs counts where a range of the cuts is told alone
told_again : (b : Bool) (n : ℕ) → (if b then Some (if b then n else 0) else None) ≡ (if b then Some n else None)
told_again true n = refl
told_again false n = refl

same_cases : (told inputs : ℕ) (h : HeadValue) (asked : Losses) (log : LogValue) (found : List CutFound) → told ≡ (if has_range h.cuts then inputs else 0) → cases_bytes told h asked log found ≡ cases_bytes inputs h asked log found
unfolding cases_bytes
same_cases told inputs h asked log found is =
    ap (λ (i : Option ℕ). cases_head i h asked ++ flat_map (cut_cases log h.by asked.tears) found ++ totals_text (are_all_cuts h.cuts) found)
    (ap (λ (n : ℕ). inputs_told h.cuts n) is ∙ told_again (has_range h.cuts) inputs)

text_by_number : (t : CaseTelling) (told inputs : ℕ) (h : HeadValue) (asked : Losses) (log : LogValue) (found : List CutFound) (bytes : List ℕ) → told ≡ case_number t h.cuts inputs
    → IsTextOf t told h asked log found bytes → IsTextOf t inputs h asked log found bytes
text_by_number telling.Cases told inputs h asked log found bytes is text = text ∙ same_cases told inputs h asked log found is
text_by_number telling.Causes told inputs h asked log found bytes is text = text
text_by_number telling.Page told inputs h asked log found bytes is text = text

cases_by_number : (l : AnyLosses) (told inputs : ℕ) (s : Settings) (value : LogValue) (checkers : List CheckerValue) (bytes : List ℕ) (failing : Bool) → told ≡ case_number l.telling s.cuts inputs
    → TellsCases told l s value checkers bytes failing → TellsCases inputs l s value checkers bytes failing
unfolding head_of
cases_by_number l told inputs s value checkers bytes failing is tells = record {
  found = tells.found;
  are = tells.are;
  few = tells.few;
  text = text_by_number l.telling told inputs (head_of (with_first false s) value checkers) (losses_of l s) value tells.found bytes is tells.text;
  fails = tells.fails;
}

first_by_number : (l : AnyLosses) (told inputs : ℕ) (s : Settings) (value : LogValue) (checkers : List CheckerValue) (bytes : List ℕ) (failing : Bool) → told ≡ case_number l.telling s.cuts inputs
    → TellsFirst told l s value checkers bytes failing → TellsFirst inputs l s value checkers bytes failing
first_by_number l told inputs s value checkers bytes _ is (of_first first own text) = of_first first own text
first_by_number l told inputs s value checkers bytes _ is (of_none tells) = of_none (cases_by_number l told inputs s value checkers bytes false is tells)

-- what is told with the number that is told is told with the number of the inputs
pub losses_by_number : (first : Bool) (l : AnyLosses) (told inputs : ℕ) (s : Settings) (value : LogValue) (checkers : List CheckerValue) (bytes : List ℕ) (failing : Bool)
    → told ≡ case_number l.telling s.cuts inputs → TellsLosses first told l s value checkers bytes failing → TellsLosses first inputs l s value checkers bytes failing
losses_by_number false l told inputs s value checkers bytes failing is tells = cases_by_number l told inputs s value checkers bytes failing is tells
losses_by_number true l told inputs s value checkers bytes failing is tells = first_by_number l told inputs s value checkers bytes failing is tells

-- what a run answers by cases
pub is_cases : (Tells : Settings → LogValue → List CheckerValue → List ℕ → Bool → Type 0) (text : Recording) (files : List (List ℕ)) (s : Settings) (log : LogValue) (checkers now : List CheckerValue)
    (bytes : List ℕ) (failing : Bool) → IsProgramCount (length files) → HasImages text s log → AreCheckersOf s files checkers → now ≡ checkers → Tells s log now bytes failing
    → IsByCases Tells text files s bytes failing
is_cases Tells text files s log checkers now bytes failing count source made same tells =
    record { count = count; value = log; source = source; checkers = now; made = subst (AreCheckersOf s files) (sym same) made; tells = tells }

-- and when it is refused
pub refused_for : (w : WantedAnswer) (l : AnyLosses) (text : Recording) (files : List (List ℕ)) (s : Settings) (log : LogValue) (checkers now : List CheckerValue) (r : Refusal)
    → w ≡ wanted.Cases l → takes w s.extent ≡ true → IsProgramCount (length files) → HasImages text s log → AreCheckersOf s files checkers → now ≡ checkers
    → (r ≡ memory_refusal) ⊎ ((cut : ℕ) × (r ≡ images_refusal cut) × HasTooMany l s log now cut) → RefusesWanted w text files s r
refused_for w l text files s log checkers now r is taken count source made same (inl memory) =
    subst (λ (q : Refusal). RefusesWanted w text files s q) (sym memory) (for_rest memory_refusal taken (for_source memory_refusal count (for_plan memory_refusal log source.reads no_plan_memory)))
refused_for w l text files s log checkers now r is taken count source made same (inr (cut, at, many)) =
    subst (λ (q : Refusal). RefusesWanted w text files s q) (sym at)
    (for_cases l log now cut is taken count source (subst (AreCheckersOf s files) (sym same) made) many)

-- or of a cure by cases
pub cure_refused : (w : WantedAnswer) (l : AnyLosses) (text : Recording) (files : List (List ℕ)) (s : Settings) (log : LogValue) (checkers now : List CheckerValue) (r : Refusal)
    → w ≡ wanted.CuredCases l → takes w s.extent ≡ true → IsProgramCount (length files) → HasImages text s log → AreCheckersOf s files checkers → now ≡ checkers
    → RefusesRun (Some l) s now log r → RefusesWanted w text files s r
cure_refused w l text files s log checkers now r is taken count source made same (inl plan) =
    for_rest r taken (for_source r count (for_plan r log source.reads plan))
cure_refused w l text files s log checkers now r is taken count source made same (inr (cut, at, more)) =
    subst (λ (q : Refusal). RefusesWanted w text files s q) (sym at)
    (for_cure l log now cut is taken count source (subst (AreCheckersOf s files) (sym same) made) more.1)

-- what was left out, where none that was found fails
pub left_told : (l : AnyLosses) (s : Settings) (value : LogValue) (checkers : List CheckerValue) (cuts : List ℕ) (found : List CutFound) (failing : Bool) (left : Option LeftOut)
    → cuts ≡ case_cuts l.at_most s.cuts value.entries → AreFoundIn (losses_of l s) value s.by cuts checkers found → failing ≡ is_any_failing found → left ≡ left_out_of found
    → TellsLeft l s value checkers failing left
left_told l s value checkers cuts found failing left those are fails told =
    subst (λ (b : Bool). TellsLeft l s value checkers b left) (sym fails)
    (subst (λ (o : Option LeftOut). TellsLeft l s value checkers (is_any_failing found) o) (sym told) (by_test (is_any_failing found) refl))
  where
    own : AreFoundIn (losses_of l s) value s.by (case_cuts l.at_most s.cuts value.entries) checkers found
    own = subst (λ (cs : List ℕ). AreFoundIn (losses_of l s) value s.by cs checkers found) those are

    counts : LeftOut
    counts = record { torn = count_torn_beyond found; lost = count_lost_beyond found }

    by_test : (b : Bool) → is_any_failing found ≡ b → TellsLeft l s value checkers b (if b then None else Some counts)
    by_test true is = some_fails
    by_test false is = none_fails found counts own (ap (λ (x : Bool). if x then None else Some counts) is)

-- of a run that was asked for
pub left_found : (l : AnyLosses) (text : Recording) (files : List (List ℕ)) (s : Settings) (value : LogValue) (items made : List CheckerValue) (failing : Bool) (left : Option LeftOut)
    → HasImages text s value → AreCheckersOf s files items → made ≡ items → TellsLeft l s value made failing left → LeavesOut l text files s failing left
left_found l text files s value items made failing left source are same tells = record {
  value = value;
  source = source;
  checkers = items;
  made = are;
  tells = subst (λ (cs : List CheckerValue). TellsLeft l s value cs failing left) same tells;
}
