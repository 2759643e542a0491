use Rattle.std.proofs.Common.{ℕ, ◌≡◌, ◌++◌, ◌∙◌, ap, refl, sym, length, slice_get, Some, List, OnOk, subst, string_bytes}
use Rattle.std.proofs.lemmas.Option.{slice_get_read}
use Rattle.logfmt.specs.declared.entry.Entry.{Entry}
use Rattle.logfmt.specs.Bounds.{LogValue}
use Rattle.epochs.specs.Units.{epoch_at}
use Rattle.crash_text.proofs.Lines.{entry_noted}
use Rattle.crash_text.proofs.table.put_entry.Goals as goal

pub returns : goal.returns
returns c =
    let told = c.in-Some.ensures.lookup in
    let there : slice_get c.args.log.now.entries c.args.number ≡ Some c.in-Some.entry.now =
    ap (λ (es : List Entry). slice_get es c.args.number) (sym c.entries.ensures.value)
    ∙ slice_get_read c.entries.result.now (length c.entries.result.now) c.args.number c.in-Some.entry.now refl told.3.0 told.1 in
    subst (λ (text : List ℕ). OnOk c.put_noted.result (string_bytes c.put_noted.new.out ≡ string_bytes c.args.out.now ++ text))
    (entry_noted c.args.log.now.entries c.args.number c.epoch.result c.in-Some.entry.now there
    (c.epoch.ensures.value ∙ ap (λ (log : LogValue). epoch_at log.entries c.args.number) c.in_ok-plan.ensures.log))
    c.put_noted.ensures
