-- What `--sectors base` asks for on a device whose size is known (docs/COMMANDS.md, Options).
use Rattle.std.specs.Prelude.{ℕ, ◌≡◌, true, false, Option, Some}
use Rattle.request.specs.declared.command.Request.{Request}
use Rattle.command_line.specs.declared.parsed.Parsed.{Parsed}
use Rattle.command_line.specs.declared.parsed.Verb.{Verb}
use Rattle.command_line.specs.Parsed.{Asks}
use Rattle.command_line.specs.Words.{request_on}

-- the same words with a number in place of what stands after --sectors
abbrev pub numbered : Parsed → ℕ → Parsed
numbered p n = record { command = p.command; file = p.file; image = p.image; lines = p.lines; programs = p.programs; report = p.report; known = p.known; is_sized = false; sectors = Some n; large = p.large; flush = p.flush; base = p.base; cuts = p.cuts; from = p.from; to = p.to; any = p.any; bound = p.bound; tears = p.tears; torn = p.torn; at_most = p.at_most; at_failing = p.at_failing; cases = p.cases; by = p.by; workers = p.workers; cache = p.cache; checked = p.checked; guards = p.guards; first = p.first; inputs = p.inputs; progress = p.progress; number = p.number; cut = p.cut; choice = p.choice; slots = p.slots; list = p.list; epoch = p.epoch; marks = p.marks; trace = p.trace; images = p.images; wide = p.wide; parts = p.parts; part = p.part; texts = p.texts }

-- what is asked for with `base`, on a device of that many sectors, is what is asked for with the number
abbrev pub SizedIsNumbered : Type 0
SizedIsNumbered = (p : Parsed) (n : ℕ) (v : Option Verb) (r : Request) → Asks p v r → Asks (numbered p n) v (request_on r n)
