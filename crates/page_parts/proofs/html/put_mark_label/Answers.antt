use Rattle.std.proofs.Common.{◌≡◌, ◌++◌, List, ℕ, chars, OnOk, string_bytes, sym, subst}
use Rattle.std.specs.List.{flat_map}
use Rattle.page_parts.specs.Html.{mark_char}
use Rattle.page_parts.proofs.Labels.{label_of_utf8, label_of_others}
use Rattle.page_parts.proofs.html.put_mark_label.Goals as goal

pub returns-in-Ok : goal.returns-in-Ok
returns-in-Ok c =
    let is = c.in-Ok.ensures.cases in
    subst (λ (l : List ℕ). OnOk c.put_mark_chars.result (string_bytes c.put_mark_chars.new.out ≡ string_bytes c.args.out.now ++ l)) (sym (label_of_utf8 c.args.text.now is.1))
    (subst (λ (ts : List ℕ). OnOk c.put_mark_chars.result (string_bytes c.put_mark_chars.new.out ≡ string_bytes c.args.out.now ++ flat_map mark_char (chars ts))) is.0 c.put_mark_chars.ensures)

pub returns-in-Err : goal.returns-in-Err
returns-in-Err c =
    subst (λ (l : List ℕ). OnOk c.put_printable.result (string_bytes c.put_printable.new.out ≡ string_bytes c.args.out.now ++ l)) (sym (label_of_others c.args.text.now c.in-Err.ensures.cases.0))
    c.put_printable.ensures
