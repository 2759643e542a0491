-- What texts of ranges of cuts were made by changes nothing of what they come to.
use Rattle.std.proofs.Common.{ℕ, ◌≡◌, Bool, true, false, List, [], ◌∷◌, None, sym, ◌∙◌, subst, ap}
use Rattle.request.specs.declared.any_losses.LossWords.{LossWords}
use Rattle.request.specs.declared.command.OptionWords.{OptionWords}
use Rattle.request.specs.declared.command.Request.TheVariants as request
use Rattle.request.specs.declared.settings.Settings.{Settings}
use Rattle.request.specs.AnyLosses.{losses_asked, losses_refusal}
use Rattle.request.specs.OptionWords.{AskFor}
use Rattle.request.specs.Source.{Recording}
use Rattle.runs.specs.declared.explore_command.WantedAnswer.TheVariants as wanted
use Rattle.runs.specs.Cases.{IsCases, IsLosses}
use Rattle.runs.specs.Cured.{IsAnswered}
use Rattle.runs.specs.Explore.{head_of}
use Rattle.runs.specs.Judged.{takes}
use Rattle.join.specs.CaseLaws.{AskedRange}
use Rattle.commands.specs.Acting.{Files, recording, Answers}
use Rattle.commands.specs.OneAnswer.{alone}
use Rattle.commands.specs.CaseParts.{over, as_asked, PrintsRange, PrintRanges, AreOfRun, JoinIsExploreOfCases, PrintsRangeByOwn, PrintRangesByOwn, JoinIsExploreOfCasesByOwn}
use Rattle.commands.proofs.OneAnswer.{same_settings}
use Rattle.commands.proofs.OneWork.{set_alone, ask_alone, log_alone, answers_alone}
use Rattle.commands.proofs.OtherWork.{images_back, checkers_back}

-- each is of the same run for one worker
range_alone : (w : OptionWords) (l : LossWords) (files : Files) (x : AskedRange) (t : List ℕ) → PrintsRangeByOwn w l files x t → PrintsRange (alone w) l files x t
range_alone w l files x t h =
    (h.status, subst (λ (v : OptionWords). Answers (request.Cases v l) files t h.status) h.same (answers_alone (request.Cases h.own l) files t h.status h.answers))

ranges_alone : (w : OptionWords) (l : LossWords) (files : Files) (ranges : List AskedRange) (texts : List (List ℕ)) → PrintRangesByOwn w l files ranges texts → PrintRanges (alone w) l files ranges texts
ranges_alone w l files [] [] h = h
ranges_alone w l files [] (t ∷ texts) h = h
ranges_alone w l files (x ∷ ranges) [] h = h
ranges_alone w l files (x ∷ ranges) (t ∷ texts) h = (range_alone w l files x t h.0, ranges_alone w l files ranges texts h.1)

abbrev run_alone : (y : AskedRange) (w : OptionWords) (files : Files) → AreOfRun (over y w) files → AreOfRun (over y (alone w)) files
run_alone y w files h = record {
  settings = set_alone h.settings;
  asked = ask_alone (over y w) h.settings h.asked;
  log = h.log;
  held = h.held;
  value = h.value;
  source = record { reads = log_alone h.source.reads; few = h.source.few; within = h.source.within };
}

-- what is answered by one worker is answered by others
cases_back : (l : LossWords) (text : Recording) (files : List (List ℕ)) (s : Settings) (bytes : List ℕ) (failing : Bool) → IsCases (losses_asked l s) text files (set_alone s) bytes failing
    → IsCases (losses_asked l s) text files s bytes failing
unfolding head_of
cases_back l text files s bytes failing h = record {
  count = h.count;
  value = h.value;
  source = images_back text s h.value h.source;
  checkers = h.checkers;
  made = checkers_back s files h.checkers h.made;
  tells = record { found = h.tells.found; are = h.tells.are; few = h.tells.few; text = h.tells.text; fails = h.tells.fails };
}

losses_back : (l : LossWords) (text : Recording) (files : List (List ℕ)) (s : Settings) (bytes : List ℕ) (failing : Bool) → s.first ≡ false
    → IsLosses s.first (losses_asked l s) text files (set_alone s) bytes failing → IsLosses s.first (losses_asked l s) text files s bytes failing
losses_back l text files s bytes failing first h =
    subst (λ (b : Bool). IsLosses b (losses_asked l s) text files s bytes failing) (sym first)
    (cases_back l text files s bytes failing (subst (λ (b : Bool). IsLosses b (losses_asked l s) text files (set_alone s) bytes failing) first h))

whole_back : (y : AskedRange) (w : OptionWords) (l : LossWords) (files : Files) (bytes : List ℕ) (status : ℕ) (s : Settings) → w.settings.first ≡ false → AskFor (over y w) s → losses_refusal l s ≡ None
    → Answers (request.Cases (over y (alone w)) l) files bytes status → Answers (request.Cases (over y w) l) files bytes status
whole_back y w l files bytes status s all asked good h =
    let own = h.answers in
    let run = own.answers in
    let same : h.settings ≡ set_alone s = same_settings (over y (alone w)) h.settings (set_alone s) h.asked (ask_alone (over y w) s asked) in
    let first : s.first ≡ false = ap (λ (u : Settings). u.first) (sym asked.asked) ∙ all in
    record {
      settings = s;
      asked = asked;
      good = good;
      answers = record {
        log = own.log;
        programs = own.programs;
        initial = own.initial;
        read = own.read;
        based = own.based;
        answers = record {
          taken = subst (λ (t : Settings). takes (wanted.Cases (losses_asked l t)) t.extent ≡ true) same run.taken;
          failing = run.failing;
          told = losses_back l (recording own.log own.initial) own.programs s bytes run.failing first
              (subst (λ (t : Settings). IsAnswered (wanted.Cases (losses_asked l t)) (recording own.log own.initial) own.programs t bytes run.failing) same run.told);
          ends = run.ends;
        };
      };
    }

pub join_is_explore_of_cases_by_own : JoinIsExploreOfCases → JoinIsExploreOfCasesByOwn
join_is_explore_of_cases_by_own law part w l files parts whole n bytes status all cases h joined =
    whole_back (as_asked n whole) w l files bytes status h.run.settings all h.run.asked h.good
    (law part (alone w) l files parts whole n bytes status all cases
    (record {
      ranges = h.ranges;
      texts = h.texts;
      held = h.held;
      prints = ranges_alone w l files h.ranges h.texts h.prints;
      run = run_alone (as_asked n whole) w files h.run;
      entries = h.entries;
      of_range = h.of_range;
    }) joined)
