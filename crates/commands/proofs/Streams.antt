-- A command whose answer is written as it is made.
use Rattle.std.proofs.Common.{ℕ, List, Option, Result, Ok, Err, OnOk, IfErr, refl}
use Rattle.request.specs.declared.command.OptionWords.{OptionWords}
use Rattle.request.specs.declared.command.Request.TheVariants as asks
use Rattle.request.specs.declared.settings.Settings.{Settings}
use Rattle.request.specs.OptionWords.{AskFor}
use Rattle.request.specs.Source.{Recording}
use Rattle.inspect.specs.declared.looks.export_command.Stopped.{Stopped}
use Rattle.inspect.specs.declared.looks.export_command.Stopped.TheVariants as stopped
use Rattle.inspect.specs.Export.{IsExport, WritesExport, StopsExport}
use Rattle.commands.specs.Acting.{Files, HoldsRecording, AnswersOf, for_settings, for_recording}
use Rattle.commands.specs.Exits.{IsWritten, IsStopped}

answers_export : (w : OptionWords) (s : Settings) (files : Files) (text : Recording) (bytes : List ℕ) → AskFor w s → HoldsRecording files text → IsExport text s bytes
    → AnswersOf w (λ s text. IsExport text s) files bytes 0
answers_export w s files text bytes asked held is = record {
  settings = s;
  asked = asked;
  answers = record { held = text.text; initial = text.initial; read = held.read; based = held.based; is = is; ends = refl };
}

pub all_written : {T : Type 0} (w : OptionWords) (s : Settings) (files : Files) (text : Recording) (before after : Option (List ℕ)) (r : Result T Stopped) → AskFor w s → HoldsRecording files text
    → OnOk r (WritesExport text s before after) → OnOk r (IsWritten (asks.Export w) files before after)
all_written w s files text before after (Ok done) asked held writes =
    record { answer = writes.bytes; answers = answers_export w s files text writes.bytes asked held writes.is; all = writes.all }
all_written w s files text before after (Err why) asked held writes = tt

pub is_stopped : {T : Type 0} (w : OptionWords) (s : Settings) (files : Files) (text : Recording) (before after : Option (List ℕ)) (r : Result T Stopped) → AskFor w s → HoldsRecording files text
    → IfErr r (StopsExport text s before after) → IfErr r (IsStopped (asks.Export w) files before after)
is_stopped w s files text before after (Ok done) asked held stops = tt
is_stopped w s files text before after (Err (stopped.Refused r)) asked held stops =
    (for_settings s r asked (for_recording text.text text.initial r held.read held.based stops.0), stops.1)
is_stopped w s files text before after (Err (stopped.Cut fault)) asked held stops =
    record { answer = stops.bytes; answers = answers_export w s files text stops.bytes asked held stops.is; part = stops.part }
