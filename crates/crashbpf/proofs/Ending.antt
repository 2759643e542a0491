-- How the process ends.
use Rattle.std.proofs.Common.{ℕ, ◌≡◌, ◌<◌, ◌++◌, Bool, true, false, List, length, take, map, Option, Some, None, Result, Ok, Err, OnOk, OnErr, IfErr, is_ok, is_err, refl, sym, subst, ◌∙◌, ap, append_assoc, append-nil}
use Rattle.std.specs.Option.{option_map}
use Rattle.std.specs.Io.KnownBytes.{Appends, Keeps}
use Rattle.base.specs.declared.refusal.Refusal.{Refusal}
use Rattle.export.specs.declared.stream.StreamFault.{StreamFault}
use Rattle.export.specs.Streaming.{TakesPart}
use Rattle.commands.specs.Acting.{Files, Answers, RefusesToAct, files_of}
use Rattle.request.specs.FaultLine.{fault_text}
use Rattle.request.specs.declared.command.Request.{Request}
use Rattle.inspect.specs.declared.looks.export_command.Stopped.{Stopped}
use Rattle.inspect.specs.declared.looks.export_command.Stopped.TheVariants as stopped
use Rattle.commands.specs.Exits.{Exits, IsWritten, IsStopped}
use Rattle.input_files.specs.Reads.{InputsValue}
use Rattle.input_files.specs.Sized.{base_sectors}
use Rattle.input_files.specs.Standing.{refusal_of_files}
use Rattle.command_line.specs.Words.{WordsValue, sized_by}
use Rattle.crashbpf.specs.Ending.{held_in, meant, cut_line, Takes, SaysFirst, SaysStopped, Ends, answered, refused, unwritten}

-- what the command is given is what was read
pub given_as_read : {V : Type 0} → (items : V → List ℕ) (named : List (Option V)) (base : Option (Option V)) (given choice : List ℕ) (inputs : InputsValue)
    → map (option_map items) named ≡ inputs.files → option_map (option_map items) base ≡ inputs.base → given ≡ choice → files_of items named base given ≡ held_in inputs choice
given_as_read items named base given choice inputs files based same = λ i. record { named = files i; base = based i; choice = same i }

-- how the process ends on that
pub exits_as_read : (request : _) (given held : Files) (output : List ℕ) (refusal : Option Refusal) (status : ℕ) → Exits request given output refusal status → given ≡ held
    → Exits request held output refusal status
exits_as_read request given held output refusal status exits same = subst (λ f. Exits request f output refusal status) same exits

-- the answer, or the refusal, on that
pub answered_on : (request : _) (given held : Files) (output : List ℕ) (refusal : Option Refusal) (status : ℕ) → Exits request given output refusal status → given ≡ held → refusal ≡ None
    → Answers request held output status
answered_on request given held output refusal status exits same none =
    subst (λ f. Answers request f output status) same (subst (λ r. Exits request given output r status) none exits)

pub refused_on : (request : _) (given held : Files) (output : List ℕ) (refusal : Option Refusal) (status : ℕ) (r : Refusal) → Exits request given output refusal status → given ≡ held → refusal ≡ Some r
    → RefusesToAct request held r
refused_on request given held output refusal status r exits same some =
    subst (λ f. RefusesToAct request f r) same (subst (λ x. Exits request given output x status) some exits).0

-- an answer of which all was written, with its status
pub ends_answered : {T : Type 0} → (words : WordsValue) (inputs : InputsValue) (before after : Option (List ℕ)) (Took : List ℕ → Type 0) (answer text : List ℕ) (status : ℕ) (written : Result T ℕ) (failed : Bool)
    → Answers words.request (held_in inputs words.choice) answer status → text ≡ answer → failed ≡ is_err written → failed ≡ false → OnOk written (Appends before after text)
    → Ends words inputs before after Took status
ends_answered words inputs before after Took answer text status (Ok done) failed answers same is none whole =
    answered text status (subst (λ (a : List ℕ). Answers words.request (held_in inputs words.choice) a status) (sym same) answers) whole
ends_answered words inputs before after Took answer text status (Err n) failed answers same is none whole = absurd (let bad : true ≡ false = sym is ∙ none in cc)

-- an answer of which the first bytes alone were written
pub ends_unwritten : {T : Type 0} → (words : WordsValue) (inputs : InputsValue) (before after : Option (List ℕ)) (Took : List ℕ → Type 0) (answer text : List ℕ) (status last : ℕ) (written : Result T ℕ) (failed : Bool) (why : StreamFault)
    → Answers words.request (held_in inputs words.choice) answer status → text ≡ answer → failed ≡ is_err written → failed ≡ true → IfErr written (λ n. (n < length text) × Appends before after (take n text))
    → Took (cut_line why) → last ≡ 2 → Ends words inputs before after Took last
ends_unwritten words inputs before after Took answer text status last (Ok done) failed why answers same is some part says two = absurd (let bad : false ≡ true = sym is ∙ some in cc)
ends_unwritten words inputs before after Took answer text status last (Err n) failed why answers same is some part says two =
    subst (λ (s : ℕ). Ends words inputs before after Took s) (sym two)
    (unwritten text status n why (subst (λ (a : List ℕ). Answers words.request (held_in inputs words.choice) a status) (sym same) answers) part.0 part.1 says)

-- a refusal, with nothing written
pub nothing_written : (known : Option (List ℕ)) → Keeps known known
nothing_written None = tt
nothing_written (Some xs) = refl

pub ends_refused : (words : WordsValue) (inputs : InputsValue) (before : Option (List ℕ)) (Took : List ℕ → Type 0) (r : Refusal) (last : ℕ) → RefusesToAct words.request (held_in inputs words.choice) r
    → SaysFirst Took (fault_text (refusal_of_files inputs.lengths r)) → last ≡ 2 → Ends words inputs before before Took last
ends_refused words inputs before Took r last refuses says two =
    subst (λ (s : ℕ). Ends words inputs before before Took s) (sym two) (refused r refuses (nothing_written before) says)

-- an answer that was written as it was made, all of it
pub ends_written : {T : Type 0} (words : WordsValue) (inputs : InputsValue) (asked : Request) (given : Files) (before after : Option (List ℕ)) (Took : List ℕ → Type 0) (r : Result T Stopped) (done : T)
    → words.request ≡ asked → given ≡ held_in inputs words.choice → r ≡ Ok done → OnOk r (IsWritten asked given before after) → Ends words inputs before after Took 0
ends_written words inputs asked given before after Took r done same files is all =
    let held : Files = held_in inputs words.choice in
    let w : IsWritten asked given before after = subst (λ (x : Result _ Stopped). OnOk x (IsWritten asked given before after)) is all in
    answered w.answer 0 (subst (λ q. Answers q held w.answer 0) (sym same) (subst (λ f. Answers asked f w.answer 0) files w.answers)) w.all

-- or not
stops_so : (words : WordsValue) (inputs : InputsValue) (before after : Option (List ℕ)) (Took : List ℕ → Type 0) (why : Stopped) → IsStopped words.request (held_in inputs words.choice) before after why
    → SaysStopped inputs.lengths Took why → Ends words inputs before after Took 2
stops_so words inputs before after Took (stopped.Refused r) s says = refused r s.0 s.1 says
stops_so words inputs before after Took (stopped.Cut fault) s says = unwritten s.answer 0 s.part.0 fault s.answers s.part.1 s.part.2 says

pub ends_stopped : {T : Type 0} (words : WordsValue) (inputs : InputsValue) (asked : Request) (given : Files) (before after : Option (List ℕ)) (Took : List ℕ → Type 0) (r : Result T Stopped) (why : Stopped) (last : ℕ)
    → words.request ≡ asked → given ≡ held_in inputs words.choice → r ≡ Err why → IfErr r (IsStopped asked given before after) → SaysStopped inputs.lengths Took why → last ≡ 2
    → Ends words inputs before after Took last
ends_stopped words inputs asked given before after Took r why last same files is stops says two =
    let held : Files = held_in inputs words.choice in
    let s : IsStopped asked given before after why = subst (λ (x : Result _ Stopped). IfErr x (IsStopped asked given before after)) is stops in
    subst (λ (n : ℕ). Ends words inputs before after Took n) (sym two)
    (stops_so words inputs before after Took why (subst (λ q. IsStopped q held before after why) (sym same) (subst (λ f. IsStopped asked f before after why) files s)) says)

-- a command on a device of the size that one of its files has
pub ends_meant : (old new : WordsValue) (size : Option ℕ) (inputs : InputsValue) (before after : Option (List ℕ)) (Took : List ℕ → Type 0) (status : ℕ) → new ≡ sized_by old size → size ≡ base_sectors inputs.base
    → Ends new inputs before after Took status → Ends (meant old inputs) inputs before after Took status
ends_meant old new size inputs before after Took status is so ends = subst (λ (w : WordsValue). Ends w inputs before after Took status) (is ∙ ap (sized_by old) so) ends
