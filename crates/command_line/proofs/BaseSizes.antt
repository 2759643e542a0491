-- What the words ask for with a number of sectors in place of `base`.
use Rattle.std.proofs.Common.{ℕ, ◌≡◌, Bool, true, false, if◌then◌else◌, Option, None, Some, is_some, refl, ◌∙◌, ap}
use Rattle.request.specs.declared.command.OptionWords.{OptionWords}
use Rattle.request.specs.declared.command.Request.{Request}
use Rattle.request.specs.declared.command.Request.TheVariants as asks
use Rattle.request.specs.declared.command.Which.{Which}
use Rattle.request.specs.declared.command.Which.TheVariants as which
use Rattle.request.specs.declared.settings.CaseTelling.TheVariants as telling
use Rattle.request.specs.declared.settings.KnownTelling.TheVariants as known
use Rattle.request.specs.declared.settings.Retelling.{Retelling}
use Rattle.request.specs.declared.settings.Retelling.TheVariants as retelling
use Rattle.command_line.specs.declared.parsed.Parsed.{Parsed}
use Rattle.command_line.specs.declared.parsed.Verb.{Verb}
use Rattle.command_line.specs.declared.parsed.Verb.TheVariants as verb
use Rattle.command_line.specs.Parsed.{Asks, AsksAny, AsksBounded, AsksExport, AsksReport, AsksTold, AreOptionsWith, IsWhich, asks_losses, counted, cured, explained, explored, losses_named, paged, recorded}
use Rattle.command_line.specs.Words.{options_on, request_on}
use Rattle.command_line.specs.Sized.{numbered, SizedIsNumbered}

-- the options
options_so : (any : ℕ) (p : Parsed) (n : ℕ) (w : OptionWords) → AreOptionsWith any p w → AreOptionsWith any (numbered p n) (options_on w n)
unfolding AreOptionsWith
options_so any p n w (added, meant, are, is, same) = (added, meant, are, is, ap (λ (x : OptionWords). options_on x n) same)

-- one of two requests
either_on : (b : Bool) (x y : Request) (n : ℕ) → request_on (if b then x else y) n ≡ (if b then request_on x n else request_on y n)
either_on true x y n = refl
either_on false x y n = refl

-- the image that is meant
which_so : (p : Parsed) (n : ℕ) (w : Which) → IsWhich p w → IsWhich (numbered p n) w
which_so p n (which.Number number) is = is
which_so p n (which.Printed cut choice) is = is

bounded_so : (p : Parsed) (n : ℕ) (in_words : Bool) (r : Request) → AsksBounded p in_words r → AsksBounded (numbered p n) in_words (request_on r n)
bounded_so p n in_words r (w, meant, are, is, same) =
    (options_on w n, meant, options_so _ p n w are, which_so p n meant is, ap (λ x. request_on x n) same ∙ either_on in_words (asks.Show w meant) (asks.Image w meant) n)

image_so : (p : Parsed) (n : ℕ) (in_words : Bool) (cut : Option ℕ) (any : Bool) (r : Request) → AsksAny p in_words cut any r → AsksAny (numbered p n) in_words cut any (request_on r n)
image_so p n in_words (Some cut) true r (w, are, same) = (options_on w n, options_so 0 p n w are, ap (λ x. request_on x n) same)
image_so p n in_words (Some cut) false r asked = bounded_so p n in_words r asked
image_so p n in_words None any r asked = bounded_so p n in_words r asked

-- a command that takes a report in place of programs
told_so : (p : Parsed) (n : ℕ) (told : Retelling) (before after : OptionWords → Request) → ((w : OptionWords) → request_on (before w) n ≡ after (options_on w n))
    → (given : Bool) (r : Request) → AsksTold p told before given r → AsksTold (numbered p n) told after given (request_on r n)
told_so p n told before after alike true r (w, are, same) = (options_on w n, options_so _ p n w are, ap (λ x. request_on x n) same)
told_so p n told before after alike false r (w, are, same) = (options_on w n, options_so 0 p n w are, ap (λ x. request_on x n) same ∙ alike w)

-- what `explore` asks for
explored_on : (p : Parsed) (n : ℕ) (w : OptionWords) → request_on (explored p w) n ≡ explored (numbered p n) (options_on w n)
explored_on p n w =
    either_on (is_some p.known) (asks.Known w (recorded p known.Cases)) (if asks_losses p then asks.Cases w (losses_named p telling.Cases) else asks.Explore w) n
    ∙ ap (λ (r : Request). if is_some p.known then asks.Known (options_on w n) (recorded p known.Cases) else r) (either_on (asks_losses p) (asks.Cases w (losses_named p telling.Cases)) (asks.Explore w) n)

-- `export` with records, and without
export_so : (p : Parsed) (n : ℕ) (recorded : Bool) (r : Request) → AsksExport p recorded r → AsksExport (numbered p n) recorded (request_on r n)
export_so p n true r (w, are, same) = (options_on w n, options_so 0 p n w are, ap (λ x. request_on x n) same)
export_so p n false r (w, are, same) = (options_on w n, options_so _ p n w are, ap (λ x. request_on x n) same)

-- a report that says of what it is, or another
report_so : (p : Parsed) (n : ℕ) (inputs : Bool) (r : Request) → AsksReport p inputs r → AsksReport (numbered p n) inputs (request_on r n)
report_so p n true r (w, are, same) = (options_on w n, options_so _ p n w are, ap (λ x. request_on x n) same)
report_so p n false r (w, are, same) = (options_on w n, options_so 0 p n w are, ap (λ x. request_on x n) same ∙ explored_on p n w)

pub alike : SizedIsNumbered
alike p n (Some verb.Explore) r asked = report_so p n p.inputs r asked
alike p n (Some verb.Why) r asked =
    told_so p n retelling.Causes (explained p) (explained (numbered p n)) (λ w. either_on (asks_losses p) (asks.Cases w (losses_named p telling.Causes)) (asks.Why w) n) (is_some p.report) r asked
alike p n (Some verb.Cure) r asked =
    told_so p n retelling.Places (cured p) (cured (numbered p n)) (λ w. either_on (asks_losses p) (asks.CureCases w (losses_named p telling.Cases)) (asks.Cure w) n) (is_some p.report) r asked
alike p n (Some verb.Page) r asked =
    told_so p n retelling.Page (paged p) (paged (numbered p n)) (λ w. either_on (asks_losses p) (asks.Cases w (losses_named p telling.Page)) (asks.Page w) n) (is_some p.report) r asked
alike p n (Some verb.Images) r (w, are, same) =
    (options_on w n, options_so 0 p n w are, ap (λ x. request_on x n) same ∙ either_on (asks_losses p) (asks.Cuts w (losses_named p telling.Cases) p.parts) (asks.Images w p.parts) n)
alike p n (Some verb.Export) r asked = export_so p n (is_some p.known) r asked
alike p n (Some verb.Image) r asked = image_so p n false p.cut p.any r asked
alike p n (Some verb.Show) r asked = image_so p n true p.cut p.any r asked
alike p n (Some verb.Log) r (w, are, same) = (options_on w n, options_so _ p n w are, ap (λ x. request_on x n) same)
alike p n (Some verb.Verify) r (w, are, same) = (options_on w n, options_so _ p n w are, ap (λ x. request_on x n) same)
alike p n (Some verb.Import) r same = ap (λ x. request_on x n) same
alike p n (Some verb.Check) r same = ap (λ x. request_on x n) same
alike p n (Some verb.Asm) r same = ap (λ x. request_on x n) same
alike p n (Some verb.List) r same = ap (λ x. request_on x n) same
alike p n (Some verb.Join) r same = ap (λ x. request_on x n) same
alike p n None r same = ap (λ x. request_on x n) same
