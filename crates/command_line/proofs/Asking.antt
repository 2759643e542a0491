-- What a command asks for, by the options that were written and what else stands there.
use Rattle.std.proofs.Common.{ℕ, ◌≡◌, Bool, true, Option, None, Some, is_some, refl, sym, ap, subst, if◌then◌else◌, List}
use Rattle.std.specs.Borrow.{Bor}
use Rattle.request.specs.declared.command.OptionWords.{OptionWords}
use Rattle.request.specs.declared.command.Request.{Request}
use Rattle.request.specs.declared.command.Request.TheVariants as asks
use Rattle.request.specs.declared.command.Which.{Which}
use Rattle.request.specs.declared.settings.KnownTelling.TheVariants as known
use Rattle.request.specs.declared.settings.Retelling.{Retelling}
use Rattle.command_line.specs.declared.parsed.Parsed.{Parsed}
use Rattle.command_line.specs.Parsed.{AreOptions, AreOptionsWith, AsksAny, AsksBounded, AsksExport, AsksImage, AsksTold, IsWhich, recorded}

-- a command that takes a report in place of programs, with one and without
pub of_report : (p : Parsed) (told : Retelling) (of_programs : OptionWords → Request) (name : Bor (List ℕ)) (w : OptionWords)
    → p.report ≡ Some name → AreOptions p w → AsksTold p told of_programs (is_some p.report) (asks.Retold w told)
of_report p told of_programs name w there are =
    subst (λ (o : Option (Bor (List ℕ))). AsksTold p told of_programs (is_some o) (asks.Retold w told)) (sym there) (w, are, refl)

pub of_programs : (p : Parsed) (told : Retelling) (made : OptionWords → Request) (w : OptionWords) (r : Request)
    → p.report ≡ None → AreOptionsWith 0 p w → r ≡ made w → AsksTold p told made (is_some p.report) r
of_programs p told made w r none are same =
    subst (λ (o : Option (Bor (List ℕ))). AsksTold p told made (is_some o) r) (sym none) (w, are, same)

-- `export` with records and without
pub of_records : (p : Parsed) (name : Bor (List ℕ)) (w : OptionWords) → p.known ≡ Some name → AreOptionsWith 0 p w
    → AsksExport p (is_some p.known) (asks.Known w (recorded p known.Wanted))
of_records p name w there are =
    subst (λ (o : Option (Bor (List ℕ))). AsksExport p (is_some o) (asks.Known w (recorded p known.Wanted))) (sym there) (w, are, refl)

pub of_images : (p : Parsed) (w : OptionWords) → p.known ≡ None → AreOptions p w → AsksExport p (is_some p.known) (asks.Export w)
of_images p w none are = subst (λ (o : Option (Bor (List ℕ))). AsksExport p (is_some o) (asks.Export w)) (sym none) (w, are, refl)

-- one image, with a bound and with any
pub of_bound : (p : Parsed) (in_words chosen : Bool) (w : OptionWords) (which : Which) → in_words ≡ chosen → AreOptions p w → IsWhich p which
    → AsksBounded p in_words (if chosen then asks.Show w which else asks.Image w which)
of_bound p in_words chosen w which is are meant =
    (w, which, are, meant, ap (λ (b : Bool). if b then asks.Show w which else asks.Image w which) (sym is))

pub of_any : (p : Parsed) (in_words : Bool) (cut : ℕ) (w : OptionWords) → p.cut ≡ Some cut → p.any ≡ true → AreOptionsWith 0 p w
    → AsksImage p in_words (asks.AnyImage w cut in_words)
of_any p in_words cut w there any are =
    subst (λ (c : Option ℕ). AsksAny p in_words c p.any (asks.AnyImage w cut in_words)) (sym there)
    (subst (λ (b : Bool). AsksAny p in_words (Some cut) b (asks.AnyImage w cut in_words)) (sym any) (w, are, refl))
