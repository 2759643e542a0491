-- Who does the work changes no answer.
use Rattle.std.proofs.Common.{ℕ, ◌≡◌, ◌==◌, nat_le, Bool, true, false, not, ◌&&◌, ◌||◌, is_some, List, [], ◌∷◌, ◌++◌, Option, None, Some, inl, inr, option_map, refl, sym, ◌∙◌, ap, subst}
use Rattle.std.specs.Option.{option_map_or}
use Rattle.base.specs.Check.{Check, check, first_failing}
use Rattle.logfmt.specs.Bounds.{LogValue}
use Rattle.choices.specs.declared.choice.Departure.{Departure}
use Rattle.request.specs.declared.settings.OptionPlace.{OptionPlace}
use Rattle.request.specs.declared.settings.OptionPlace.TheVariants as place
use Rattle.base.specs.Sizes.{sector_limit}
use Rattle.request.specs.declared.settings.Settings.{Settings}
use Rattle.request.specs.declared.settings.Telling.{Telling}
use Rattle.request.specs.declared.settings.Telling.TheVariants as telling
use Rattle.request.specs.declared.settings.Retelling.{Retelling}
use Rattle.request.specs.declared.settings.Retelling.TheVariants as retelling
use Rattle.request.specs.declared.any_losses.AnyLosses.{AnyLosses}
use Rattle.request.specs.declared.any_losses.LossWords.{LossWords}
use Rattle.request.specs.AnyLosses.{is_torn_asked, is_lost_asked, loss_checks, losses_refusal, losses_asked}
use Rattle.request.specs.declared.command.OptionWords.{OptionWords}
use Rattle.request.specs.declared.command.Request.{Request}
use Rattle.request.specs.declared.command.Request.TheVariants as request
use Rattle.request.specs.Extents.{is_extent, is_whole}
use Rattle.request.specs.Inputs.{inputs_number}
use Rattle.request.specs.Settings.{is_one_kind, is_ordered, option_refusal, option_checks, settings_refusal}
use Rattle.request.specs.OptionWords.{AskFor}
use Rattle.request.specs.Source.{plan_of, Recording, IsLogOf, HasImages}
use Rattle.runs.specs.Explore.{AreCheckersOf, head_of}
use Rattle.choices.specs.Choices.{IsFirstPast}
use Rattle.checker.specs.Checker.{CheckerValue}
use Rattle.logfmt.specs.Flushed.{with_flushes}
use Rattle.losses.specs.FailureWindows.{places_in}
use Rattle.losses.specs.declared.cure.failure.Failure.{Failure}
use Rattle.runs.specs.Cured.{Finds, IsPast, AreRounds, with_rounds, Ends, with_totals, with_refusal, TellsCure, Cures, IsAnswered}
use Rattle.runs.specs.Cases.{TellsCases, TellsFirst, of_first, of_none, TellsLosses, IsByCases}
use Rattle.runs.specs.Explore.{IsRun}
use Rattle.runs.specs.Why.{Tells}
use Rattle.join.specs.Given.{GivenValue}
use Rattle.request.specs.Inputs.{head_given}
use Rattle.retold.specs.Retold.{IsGiven, Retells}
use Rattle.losses.specs.declared.flushes.counted.MissingFlush.{MissingFlush}
use Rattle.runs.specs.declared.explore_command.WantedAnswer.{WantedAnswer}
use Rattle.runs.specs.declared.explore_command.WantedAnswer.TheVariants as wanted
use Rattle.inspect.specs.Image.{IsImage, IsShown}
use Rattle.inspect.specs.AnyImage.{any_text_in, IsAnyImage}
use Rattle.inspect.specs.CutSurvey.{IsCutSurvey}
use Rattle.inspect.specs.Survey.{IsSurvey}
use Rattle.export.specs.Export.{export_text}
use Rattle.inspect.specs.Export.{export_head, exported, IsExport}
use Rattle.inspect.specs.Table.{IsTable}
use Rattle.inspect.specs.Verifying.{IsAcceptedText}
use Rattle.commands.specs.Acting.{Files, recording, any_words, form_of, AnswersExplore, AnswersCases, wanted_by, AnswersRetold, AnswersOf, AnswersLosses, AnswersWith, Answers}
use Rattle.commands.specs.OneAnswer.{OneAnswer, alone, asked_alone, WorkChangesNothing}

-- the same settings for one worker without a cache
abbrev pub set_alone : Settings → Settings
set_alone s = record {
  sectors = s.sectors;
  limits = s.limits;
  cuts = s.cuts;
  bound = s.bound;
  tears = s.tears;
  by = s.by;
  workers = 1;
  cache = 0;
  checked = s.checked;
  guards = s.guards;
  first = s.first;
  extent = s.extent;
}

-- where no check fails, none fails with one worker without a cache
passed_alone : (sectors bound workers cache : Bool) (rest : List (Check OptionPlace))
    → option_map option_refusal (first_failing (check place.Sectors sectors ∷ check place.Bound bound ∷ check place.Workers workers ∷ check place.Cache cache ∷ rest)) ≡ None
    → option_map option_refusal (first_failing (check place.Sectors sectors ∷ check place.Bound bound ∷ check place.Workers true ∷ check place.Cache true ∷ rest)) ≡ None
passed_alone false bound workers cache rest h = h
passed_alone true false workers cache rest h = h
passed_alone true true false cache rest h = absurd (let bad : Some (option_refusal place.Workers) ≡ None = h in cc)
passed_alone true true true false rest h = absurd (let bad : Some (option_refusal place.Cache) ≡ None = h in cc)
passed_alone true true true true rest h = h

good_alone : (s : Settings) → settings_refusal s ≡ None → settings_refusal (set_alone s) ≡ None
unfolding option_checks
good_alone s h =
    passed_alone (nat_le 1 s.sectors && nat_le s.sectors (sector_limit s.limits)) (nat_le s.bound 3) (nat_le 1 s.workers && nat_le s.workers 64) (nat_le s.cache 65536)
    (check place.Checked (option_map_or (λ limit. nat_le limit 1000000000) s.checked true) ∷ check place.Range (is_ordered s.cuts) ∷ check place.Images (is_extent s.extent)
    ∷ check place.Guards (is_one_kind s.guards s.checked) ∷ []) h

pub ask_alone : (w : OptionWords) (s : Settings) → AskFor w s → AskFor (alone w) (set_alone s)
ask_alone w s h = record { asked = ap set_alone h.asked; named = h.named; good = good_alone s h.good }

pub log_alone : {text : Recording} {s : Settings} {v : LogValue} → IsLogOf text s v → IsLogOf text (set_alone s) v
log_alone h = record { read = h.read; recorded = record { device = h.recorded.device; size = h.recorded.size; units = h.recorded.units; of_log = h.recorded.of_log; initial = h.recorded.initial }; has = h.has; added = h.added }

images_alone : {text : Recording} {s : Settings} {v : LogValue} → HasImages text s v → HasImages text (set_alone s) v
images_alone h = record { reads = log_alone h.reads; few = h.few; within = h.within }

checkers_alone : (s : Settings) (files : List (List ℕ)) (cs : List CheckerValue) → AreCheckersOf s files cs → AreCheckersOf (set_alone s) files cs
checkers_alone s [] [] h = h
checkers_alone s [] (c ∷ cs) h = h
checkers_alone s (bytes ∷ files) [] h = h
checkers_alone s (bytes ∷ files) (c ∷ cs) h =
    (record { spelled = h.0.spelled; clean = h.0.clean; within = h.0.within }, checkers_alone s files cs h.1)

-- what a run of a cure finds, and where it has too many images or cases
finds_alone : (o : Option AnyLosses) (s : Settings) (cs : List CheckerValue) (v : LogValue) (fs : List Failure) (begin last : List ℕ) → Finds o s cs v fs begin last
    → Finds o (set_alone s) cs v fs begin last
unfolding head_of
finds_alone None s cs v fs begin last h = record { few = h.few; fail = h.fail; begins = h.begins; ends = h.ends }
finds_alone (Some l) s cs v fs begin last h = record { images = h.images; found = h.found; are = h.are; few = h.few; fail = h.fail; begins = h.begins; ends = h.ends }

first_past_alone : (s : Settings) (v : LogValue) (cut : ℕ) → IsFirstPast (plan_of s v) s.bound s.tears cut → IsFirstPast (plan_of (set_alone s) v) s.bound s.tears cut
first_past_alone s v cut past = record { place = past.place; wanted = past.wanted; before = past.before; past = past.past }

past_alone : (o : Option AnyLosses) (s : Settings) (cs : List CheckerValue) (v : LogValue) (cut : ℕ) → IsPast o s cs v cut → IsPast o (set_alone s) cs v cut
past_alone None s cs v cut past = first_past_alone s v cut past
past_alone (Some l) s cs v cut past = elim past [ inl images ↦ inl (first_past_alone s v cut images) | inr cases ↦ inr cases ]

rounds_alone : (o : Option AnyLosses) (s : Settings) (cs : List CheckerValue) (v : LogValue) (rounds : List (List MissingFlush)) → AreRounds o s cs v rounds → AreRounds o (set_alone s) cs v rounds
rounds_alone o s cs v [] h = h
rounds_alone o s cs v (ms ∷ rounds) h = (
  record {
    failures = h.0.failures;
    begin = h.0.begin;
    last = h.0.last;
    finds = finds_alone o s cs v h.0.failures h.0.begin h.0.last h.0.finds;
    some = h.0.some;
    missing = h.0.missing;
  },
  rounds_alone o s cs (with_flushes (places_in ms) v) rounds h.1,
)

ends_alone : (o : Option AnyLosses) (s : Settings) (cs : List CheckerValue) (v : LogValue) (end : List ℕ) → Ends o s cs v end → Ends o (set_alone s) cs v end
ends_alone o s cs v _ (with_totals failures begin last finds none) = with_totals failures begin last (finds_alone o s cs v failures begin last finds) none
ends_alone o s cs v _ (with_refusal cut past) = with_refusal cut (past_alone o s cs v cut past)

-- what is told is the same
tells_alone : (t : Telling) (inputs : ℕ) (s : Settings) (value : LogValue) (cs : List CheckerValue) (bytes : List ℕ) → Tells t inputs s value cs bytes
    → Tells t inputs (set_alone s) value cs bytes
unfolding head_of
tells_alone telling.Report inputs s value cs bytes h = h
tells_alone telling.Causes inputs s value cs bytes h =
    record {
      failures = h.failures;
      missing = h.missing;
      are_missing = record { failures = h.are_missing.failures; missing = h.are_missing.missing };
      causes = h.causes;
      all = h.all;
      each = h.each;
      text = h.text;
    }
tells_alone telling.Page inputs s value cs bytes h =
    record {
      failures = h.failures;
      are_failures = h.are_failures;
      page = record {
        programs = h.page.programs;
        are = record { all = h.page.are.all; named = h.page.are.named; each = h.page.are.each };
        page = h.page.page;
      };
    }

cure_alone : (o : Option AnyLosses) (s : Settings) (value : LogValue) (cs : List CheckerValue) (bytes : List ℕ) → TellsCure o s value cs bytes → TellsCure o (set_alone s) value cs bytes
cure_alone o s value cs bytes h =
    let tells = h.tells in
    record {
      failures = h.failures;
      begin = h.begin;
      last = h.last;
      finds = finds_alone o s cs value h.failures h.begin h.last h.finds;
      rounds = h.rounds;
      tells = record {
        rounds = tells.rounds;
        are = rounds_alone o s cs value tells.rounds tells.are;
        end = tells.end;
        ends = ends_alone o s cs (with_rounds value tells.rounds) tells.end tells.ends;
        told = tells.told;
      };
      text = h.text;
    }

cures_alone : (o : Option AnyLosses) (s : Settings) (value : LogValue) (cs : List CheckerValue) (bytes : List ℕ) (failing : Bool) → Cures o s value cs bytes failing
    → Cures o (set_alone s) value cs bytes failing
unfolding cure_alone
cures_alone o s value cs bytes failing h = record { tells = cure_alone o s value cs bytes h.tells; fails = h.fails }

run_alone : (Is : Settings → LogValue → List CheckerValue → List ℕ → Type 0)
    → ((s : Settings) (value : LogValue) (cs : List CheckerValue) (bytes : List ℕ) → Is s value cs bytes → Is (set_alone s) value cs bytes)
    → (text : Recording) (files : List (List ℕ)) (s : Settings) (bytes : List ℕ) (failing : Bool) → IsRun Is text files s bytes failing → IsRun Is text files (set_alone s) bytes failing
run_alone Is keeps text files s bytes failing h =
    record {
      count = h.count;
      value = h.value;
      source = images_alone h.source;
      checkers = h.checkers;
      made = checkers_alone s files h.checkers h.made;
      tells = keeps s h.value h.checkers bytes h.tells;
      fails = h.fails;
      faultless = h.faultless;
    }

tells_cases_alone : (inputs : ℕ) (l : AnyLosses) (s : Settings) (value : LogValue) (cs : List CheckerValue) (bytes : List ℕ) (failing : Bool) → TellsCases inputs l s value cs bytes failing
    → TellsCases inputs l (set_alone s) value cs bytes failing
unfolding head_of
tells_cases_alone inputs l s value cs bytes failing tells = record { found = tells.found; are = tells.are; few = tells.few; text = tells.text; fails = tells.fails }

tells_first_alone : (inputs : ℕ) (l : AnyLosses) (s : Settings) (value : LogValue) (cs : List CheckerValue) (bytes : List ℕ) (failing : Bool) → TellsFirst inputs l s value cs bytes failing
    → TellsFirst inputs l (set_alone s) value cs bytes failing
unfolding head_of
tells_first_alone inputs l s value cs bytes _ (of_first first is text) = of_first first is text
tells_first_alone inputs l s value cs bytes _ (of_none tells) = of_none (tells_cases_alone inputs l s value cs bytes false tells)

tells_losses_alone : (first : Bool) (inputs : ℕ) (l : AnyLosses) (s : Settings) (value : LogValue) (cs : List CheckerValue) (bytes : List ℕ) (failing : Bool) → TellsLosses first inputs l s value cs bytes failing
    → TellsLosses first inputs l (set_alone s) value cs bytes failing
tells_losses_alone false inputs l s value cs bytes failing tells = tells_cases_alone inputs l s value cs bytes failing tells
tells_losses_alone true inputs l s value cs bytes failing tells = tells_first_alone inputs l s value cs bytes failing tells

by_cases_alone : (Is : Settings → LogValue → List CheckerValue → List ℕ → Bool → Type 0)
    → ((s : Settings) (value : LogValue) (cs : List CheckerValue) (bytes : List ℕ) (failing : Bool) → Is s value cs bytes failing → Is (set_alone s) value cs bytes failing)
    → (text : Recording) (files : List (List ℕ)) (s : Settings) (bytes : List ℕ) (failing : Bool) → IsByCases Is text files s bytes failing → IsByCases Is text files (set_alone s) bytes failing
by_cases_alone Is keeps text files s bytes failing h =
    record {
      count = h.count;
      value = h.value;
      source = images_alone h.source;
      checkers = h.checkers;
      made = checkers_alone s files h.checkers h.made;
      tells = keeps s h.value h.checkers bytes failing h.tells;
    }

answered_alone : (w : WantedAnswer) (text : Recording) (files : List (List ℕ)) (s : Settings) (bytes : List ℕ) (failing : Bool)
    → IsAnswered w text files s bytes failing → IsAnswered w text files (set_alone s) bytes failing
answered_alone (wanted.Told t) text files s bytes failing h =
    run_alone (λ s value checkers bytes. Tells t (inputs_number text.text files) s value checkers bytes) (tells_alone t (inputs_number text.text files)) text files s bytes failing h
answered_alone wanted.Cured text files s bytes failing h = run_alone (TellsCure None) (λ s value cs bytes. cure_alone None s value cs bytes) text files s bytes failing h
answered_alone (wanted.Cases l) text files s bytes failing h =
    by_cases_alone (TellsLosses s.first (inputs_number text.text files) l) (λ t value cs bytes failing. tells_losses_alone s.first (inputs_number text.text files) l t value cs bytes failing) text files s bytes failing h
answered_alone (wanted.CuredCases l) text files s bytes failing h =
    by_cases_alone (Cures (Some l)) (λ s value cs bytes failing. cures_alone (Some l) s value cs bytes failing) text files s bytes failing h

explore_alone : (t : WantedAnswer) (w : OptionWords) (files : Files) (bytes : List ℕ) (status : ℕ)
    → AnswersExplore t w files bytes status → AnswersExplore t (alone w) files bytes status
explore_alone t w files bytes status h =
    let run = h.answers.answers in
    record {
      settings = set_alone h.settings;
      asked = ask_alone w h.settings h.asked;
      answers = record {
        log = h.answers.log;
        programs = h.answers.programs;
        initial = h.answers.initial;
        read = h.answers.read;
        based = h.answers.based;
        answers = record { taken = run.taken; failing = run.failing; told = answered_alone t (recording h.answers.log h.answers.initial) h.answers.programs h.settings bytes run.failing run.told; ends = run.ends };
      };
    }

-- what is asked of losses without a cache is asked so for one worker
losses_alone : (l : LossWords) (s : Settings) → losses_refusal l s ≡ None → losses_refusal l (set_alone s) ≡ None
unfolding loss_checks
losses_alone l s h =
    by_checks (l.any || not (is_some l.torn)) l.any (is_torn_asked l.torn s.tears) (is_lost_asked l.at_most) (s.cache == 0) (is_whole s.extent) h
  where
    by_checks : (a b c d e f : Bool)
        → option_map option_refusal (first_failing (check place.Torn a ∷ check place.AtMost b ∷ check place.Torn c ∷ check place.AtMost d ∷ check place.Cache e ∷ check place.Images f
        ∷ [])) ≡ None
        → option_map option_refusal (first_failing (check place.Torn a ∷ check place.AtMost b ∷ check place.Torn c ∷ check place.AtMost d ∷ check place.Cache true ∷ check place.Images f
        ∷ [])) ≡ None
    by_checks false b c d e f k = k
    by_checks true false c d e f k = k
    by_checks true true false d e f k = k
    by_checks true true true false e f k = k
    by_checks true true true true false f k = absurd (let bad : Some (option_refusal place.Cache) ≡ None = k in cc)
    by_checks true true true true true f k = k

cases_answered_alone : (cured : Bool) (w : OptionWords) (l : LossWords) (files : Files) (bytes : List ℕ) (status : ℕ) → AnswersCases cured w l files bytes status → AnswersCases cured (alone w) l files bytes status
cases_answered_alone cured w l files bytes status h =
    let run = h.answers.answers in
    let t = wanted_by cured (losses_asked l h.settings) in
    record {
      settings = set_alone h.settings;
      asked = ask_alone w h.settings h.asked;
      good = losses_alone l h.settings h.good;
      answers = record {
        log = h.answers.log;
        programs = h.answers.programs;
        initial = h.answers.initial;
        read = h.answers.read;
        based = h.answers.based;
        answers = record { taken = run.taken; failing = run.failing; told = answered_alone t (recording h.answers.log h.answers.initial) h.answers.programs h.settings bytes run.failing run.told; ends = run.ends };
      };
    }

-- of a command on one file, where what it says is said for one worker without a cache too
with_alone : (w : OptionWords) (Is : Settings → List ℕ → List ℕ → Type 0) → ((s : Settings) (held bytes : List ℕ) → Is s held bytes → Is (set_alone s) held bytes)
    → (files : Files) (bytes : List ℕ) (status : ℕ) → AnswersWith w Is files bytes status → AnswersWith (alone w) Is files bytes status
with_alone w Is keeps files bytes status h =
    let own = h.answers in
    record {
      settings = set_alone h.settings;
      asked = ask_alone w h.settings h.asked;
      answers = record { held = own.held; read = own.read; is = keeps h.settings own.held bytes own.is; ends = own.ends };
    }

-- the same of a command on a log
of_alone : (w : OptionWords) (Is : Settings → Recording → List ℕ → Type 0) → ((s : Settings) (held : Recording) (bytes : List ℕ) → Is s held bytes → Is (set_alone s) held bytes)
    → (files : Files) (bytes : List ℕ) (status : ℕ) → AnswersOf w Is files bytes status → AnswersOf (alone w) Is files bytes status
of_alone w Is keeps files bytes status h =
    let own = h.answers in
    record {
      settings = set_alone h.settings;
      asked = ask_alone w h.settings h.asked;
      answers = record {
        held = own.held;
        initial = own.initial;
        read = own.read;
        based = own.based;
        is = keeps h.settings (recording own.held own.initial) bytes own.is;
        ends = own.ends;
      };
    }

told_alone : (in_words : Bool) (s : Settings) (v : LogValue) (cut : ℕ) (ds : List Departure) → any_text_in (form_of in_words) s v cut ds ≡ any_text_in (form_of in_words) (set_alone s) v cut ds
told_alone true s v cut ds = refl
told_alone false s v cut ds = refl

-- the images are told alike, and so is of which log and options they are
told_export : (s : Settings) (text : Recording) (v : LogValue) (bytes : List ℕ) → bytes ≡ export_head text.text s v ++ export_text (exported s v) → bytes ≡ export_head text.text (set_alone s) v ++ export_text (exported (set_alone s) v)
unfolding head_given
told_export s text v bytes told = told

-- what is told of a report is the same
tells_retold : (t : Retelling) (s : Settings) (v : LogValue) (g : GivenValue) (bytes : List ℕ) → Retells t s v g bytes → Retells t (set_alone s) v g bytes
unfolding head_given
tells_retold retelling.Causes s v g bytes h = h
tells_retold retelling.Page s v g bytes h = h
tells_retold retelling.Places s v g bytes h = h

-- and the report is one of the log
given_alone : (s : Settings) (text : Recording) (report : List ℕ) (v : LogValue) (g : GivenValue) → IsGiven text.text s v report g → IsGiven text.text (set_alone s) v report g
unfolding head_given
given_alone s text report v g h = record { said = h.said; few = h.few; as_said = record { counted = h.as_said.counted; read = record { is = h.as_said.read.is; only = h.as_said.read.only } } }

-- of a command on a log with any number of losses
losses_log_alone : (w : OptionWords) (l : LossWords) (Is : Settings → Recording → List ℕ → Type 0) → ((s : Settings) (held : Recording) (bytes : List ℕ) → Is s held bytes → Is (set_alone s) held bytes)
    → (files : Files) (bytes : List ℕ) (status : ℕ) → AnswersLosses w l Is files bytes status → AnswersLosses (alone w) l Is files bytes status
losses_log_alone w l Is keeps files bytes status h =
    let own = h.answers in
    record {
      settings = set_alone h.settings;
      asked = ask_alone w h.settings h.asked;
      good = losses_alone l h.settings h.good;
      answers = record {
        held = own.held;
        initial = own.initial;
        read = own.read;
        based = own.based;
        is = keeps h.settings (recording own.held own.initial) bytes own.is;
        ends = own.ends;
      };
    }

any_image_alone : (in_words : Bool) (cut : ℕ) (choice : List ℕ) (s : Settings) (held : Recording) (bytes : List ℕ) → IsAnyImage (form_of in_words) held s cut choice bytes
    → IsAnyImage (form_of in_words) held (set_alone s) cut choice bytes
any_image_alone in_words cut choice s held bytes is =
    let shown = is.shown in
    let lost = shown.departures in
    record {
      value = is.value;
      reads = log_alone is.reads;
      shown = record {
        departures = lost;
        meant = record { place = shown.meant.place; wanted = shown.meant.wanted; is = shown.meant.is };
        only = λ others m. shown.only others (record { place = m.place; wanted = m.wanted; is = m.is });
        told = shown.told ∙ told_alone in_words s is.value cut lost;
      };
    }

retold_alone : (t : Retelling) (w : OptionWords) (files : Files) (bytes : List ℕ) (status : ℕ) → AnswersRetold t w files bytes status → AnswersRetold t (alone w) files bytes status
unfolding head_given
retold_alone t w files bytes status h =
    let told = h.told in
    record {
      settings = set_alone h.settings;
      asked = ask_alone w h.settings h.asked;
      log = h.log;
      report = h.report;
      initial = h.initial;
      read = h.read;
      second = h.second;
      based = h.based;
      failing = h.failing;
      told = record {
        whole = told.whole;
        short = told.short;
        value = told.value;
        source = images_alone told.source;
        told = record { given = told.told.given; is = given_alone h.settings (recording h.log h.initial) h.report told.value told.told.given told.told.is; tells = tells_retold t h.settings told.value told.told.given bytes told.told.tells; fails = told.told.fails };
      };
      ends = h.ends;
    }

pub answers_alone : (r : Request) (files : Files) (bytes : List ℕ) (status : ℕ) → Answers r files bytes status → Answers (asked_alone r) files bytes status
answers_alone request.StoredRun files bytes status h = h
answers_alone (request.Explore w) files bytes status h = explore_alone (wanted.Told telling.Report) w files bytes status h
answers_alone (request.Marked w) files bytes status h =
    record { report = h.report; answers = explore_alone (wanted.Told telling.Report) w files h.report status h.answers; log = h.log; read = h.read; marks = h.marks }
answers_alone (request.Cases w l) files bytes status h = cases_answered_alone false w l files bytes status h
answers_alone (request.CureCases w l) files bytes status h = cases_answered_alone true w l files bytes status h
answers_alone (request.Why w) files bytes status h = explore_alone (wanted.Told telling.Causes) w files bytes status h
answers_alone (request.Cure w) files bytes status h = explore_alone wanted.Cured w files bytes status h
answers_alone (request.Page w) files bytes status h = explore_alone (wanted.Told telling.Page) w files bytes status h
answers_alone (request.Retold w t) files bytes status h = retold_alone t w files bytes status h
answers_alone (request.Known w k) files bytes status h = h
answers_alone (request.Images w parts) files bytes status h =
    of_alone w (λ s text. IsSurvey parts text s)
    (λ s held shown k. record { value = k.value; source = images_alone k.source; fits = k.fits; told = k.told }) files bytes status h
answers_alone (request.Cuts w l parts) files bytes status h =
    losses_log_alone w l (λ s text. IsCutSurvey parts (losses_asked l s) text s)
    (λ s held shown k. record { value = k.value; reads = log_alone k.reads; can = k.can; told = k.told }) files bytes status h
answers_alone (request.Export w) files bytes status h =
    of_alone w (λ s text. IsExport text s)
    (λ s held shown k. record { taken = k.taken; value = k.value; source = images_alone k.source; told = told_export s held k.value shown k.told }) files bytes status h
answers_alone (request.Log w) files bytes status h =
    of_alone w (λ s text. IsTable text s)
    (λ s held shown k. record { value = k.value; reads = log_alone k.reads; shown = k.shown }) files bytes status h
answers_alone (request.Image w which) files bytes status h =
    of_alone w (λ s text. IsImage text s which)
    (λ s held shown k. record { value = k.value; source = images_alone k.source; choice = k.choice; meant = k.meant; shown = k.shown }) files bytes status h
answers_alone (request.Show w which) files bytes status h =
    of_alone w (λ s text. IsShown text s which)
    (λ s held shown k. record { value = k.value; source = images_alone k.source; choice = k.choice; meant = k.meant; shown = k.shown }) files bytes status h
answers_alone (request.AnyImage w cut in_words) files bytes status h =
    losses_log_alone w any_words (λ s text. IsAnyImage (form_of in_words) text s cut files.choice) (λ s held text is. any_image_alone in_words cut files.choice s held text is) files bytes status h
answers_alone (request.Verify w listed) files bytes status h =
    with_alone w (λ s code. IsAcceptedText code s listed)
    (λ s held shown k. record { verified = k.verified; spelled = k.spelled; accepted = k.accepted; guards = k.guards; sectors = k.sectors; says = k.says }) files bytes status h
answers_alone (request.Import limits) files bytes status h = h
answers_alone (request.Check w) files bytes status h = h
answers_alone request.Asm files bytes status h = h
answers_alone (request.List numbered) files bytes status h = h
answers_alone (request.Join part) files bytes status h = h

pub work_changes_nothing : OneAnswer → WorkChangesNothing
work_changes_nothing one v w files bytes others status ended same a b =
    let given = answers_alone v.request files bytes status a in
    let other = answers_alone w.request files others ended b in
    one (asked_alone v.request) files bytes others status ended given (subst (λ (r : Request). Answers r files others ended) (sym same) other)
