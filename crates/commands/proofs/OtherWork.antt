-- What parts were made by changes nothing of what they come to.
use Rattle.std.proofs.Common.{ℕ, ◌≡◌, Bool, true, List, [], ◌∷◌, sym, ◌∙◌, subst}
use Rattle.logfmt.specs.Bounds.{LogValue}
use Rattle.checker.specs.Checker.{CheckerValue}
use Rattle.request.specs.declared.settings.Settings.{Settings}
use Rattle.request.specs.declared.settings.Telling.TheVariants as telling
use Rattle.request.specs.declared.command.OptionWords.{OptionWords}
use Rattle.request.specs.declared.command.Request.TheVariants as request
use Rattle.request.specs.declared.extent.Extent.TheVariants as extent
use Rattle.request.specs.OptionWords.{AskFor}
use Rattle.request.specs.Source.{Recording, IsLogOf, HasImages}
use Rattle.runs.specs.declared.explore_command.WantedAnswer.TheVariants as wanted
use Rattle.runs.specs.Cured.{IsAnswered}
use Rattle.runs.specs.Explore.{AreCheckersOf, head_of}
use Rattle.runs.specs.Judged.{takes}
use Rattle.join.specs.Laws.{Range}
use Rattle.commands.specs.Acting.{Files, recording, Answers}
use Rattle.commands.specs.OneAnswer.{alone}
use Rattle.commands.specs.Parts.{asking, PrintsPart, PrintParts, CountsImages, JoinIsExplore}
use Rattle.commands.specs.OtherWork.{PrintsByOwn, PrintEachByOwn, JoinIsExploreByOwn}
use Rattle.commands.proofs.OneWork.{set_alone, ask_alone, log_alone, answers_alone}

-- each part is one of the same run for one worker without a cache
part_alone : (w : OptionWords) (files : Files) (x : Range) (t : List ℕ) → PrintsByOwn w files x t → PrintsPart (alone w) files x t
part_alone w files x t h =
    (h.status, subst (λ (v : OptionWords). Answers (request.Explore v) files t h.status) h.same (answers_alone (request.Explore h.own) files t h.status h.answers))

parts_alone : (w : OptionWords) (files : Files) (ranges : List Range) (texts : List (List ℕ)) → PrintEachByOwn w files ranges texts → PrintParts (alone w) files ranges texts
parts_alone w files [] [] h = h
parts_alone w files [] (t ∷ texts) h = h
parts_alone w files (x ∷ ranges) [] h = h
parts_alone w files (x ∷ ranges) (t ∷ texts) h = (part_alone w files x t h.0, parts_alone w files ranges texts h.1)

counts_alone : (w : OptionWords) (files : Files) (images : ℕ) → CountsImages w files images → CountsImages (alone w) files images
counts_alone w files images h = record {
  settings = set_alone h.settings;
  asked = ask_alone (asking extent.Whole w) h.settings h.asked;
  log = h.log;
  held = h.held;
  count = record { value = h.count.value; reads = log_alone h.count.reads; is = h.count.is };
}

-- what is answered by one worker without a cache is answered by others
log_back : (text : Recording) (s : Settings) (v : LogValue) → IsLogOf text (set_alone s) v → IsLogOf text s v
log_back text s v h =
    record { read = h.read; recorded = record { device = h.recorded.device; size = h.recorded.size; units = h.recorded.units; of_log = h.recorded.of_log; initial = h.recorded.initial }; has = h.has; added = h.added }

pub images_back : (text : Recording) (s : Settings) (v : LogValue) → HasImages text (set_alone s) v → HasImages text s v
images_back text s v h = record { reads = log_back text s v h.reads; few = h.few; within = h.within }

pub checkers_back : (s : Settings) (files : List (List ℕ)) (cs : List CheckerValue) → AreCheckersOf (set_alone s) files cs → AreCheckersOf s files cs
checkers_back s [] [] h = h
checkers_back s [] (c ∷ cs) h = h
checkers_back s (bytes ∷ files) [] h = h
checkers_back s (bytes ∷ files) (c ∷ cs) h =
    (record { spelled = h.0.spelled; clean = h.0.clean; within = h.0.within }, checkers_back s files cs h.1)

report_back : (text : Recording) (files : List (List ℕ)) (s : Settings) (bytes : List ℕ) (failing : Bool)
    → IsAnswered (wanted.Told telling.Report) text files (set_alone s) bytes failing → IsAnswered (wanted.Told telling.Report) text files s bytes failing
unfolding head_of
report_back text files s bytes failing h =
    record {
      count = h.count;
      value = h.value;
      source = images_back text s h.value h.source;
      checkers = h.checkers;
      made = checkers_back s files h.checkers h.made;
      tells = h.tells;
      fails = h.fails;
      faultless = h.faultless;
    }

whole_back : (w : OptionWords) (files : Files) (bytes : List ℕ) (status : ℕ) (s : Settings) → AskFor (asking extent.Whole w) s
    → Answers (request.Explore (asking extent.Whole (alone w))) files bytes status → Answers (request.Explore (asking extent.Whole w)) files bytes status
whole_back w files bytes status s asked h =
    let own = h.answers in
    let run = own.answers in
    let given = ask_alone (asking extent.Whole w) s asked in
    let same : h.settings ≡ set_alone s = sym h.asked.asked ∙ given.asked in
    record {
      settings = s;
      asked = asked;
      answers = record {
        log = own.log;
        programs = own.programs;
        initial = own.initial;
        read = own.read;
        based = own.based;
        answers = record {
          taken = subst (λ (t : Settings). takes (wanted.Told telling.Report) t.extent ≡ true) same run.taken;
          failing = run.failing;
          told = report_back (recording own.log own.initial) own.programs s bytes run.failing
              (subst (λ (t : Settings). IsAnswered (wanted.Told telling.Report) (recording own.log own.initial) own.programs t bytes run.failing) same run.told);
          ends = run.ends;
        };
      };
    }

pub join_is_explore_by_own : JoinIsExplore → JoinIsExploreByOwn
join_is_explore_by_own law part w files parts images bytes status h few joined =
    whole_back w files bytes status h.count.settings h.count.asked
    (law part (alone w) files parts images bytes status
    (record {
      ranges = h.ranges;
      texts = h.texts;
      held = h.held;
      prints = parts_alone w files h.ranges h.texts h.prints;
      cover = h.cover;
      count = counts_alone w files images h.count;
    }) few joined)
