use Rattle.std.proofs.Common.{false, true, ◌≡◌, ◌++◌, ◌∙◌, List, ℕ, sym, ap, subst}
use Rattle.std.specs.List.{flat_map}
use Rattle.std.specs.Str.{IsUtf8}
use Rattle.report.specs.LineText.{line_text}
use Rattle.losses.proofs.Plain.{lines_are_text}
use Rattle.losses.proofs.outcomes.text.printed_text.Goals as goal

pub unreachable-requires : goal.unreachable-requires
unreachable-requires c =
    let all : c.put.new.out.items ≡ flat_map line_text c.args.lines.now =
    c.in_ok-put.ensures ∙ ap (λ (bs : List ℕ). bs ++ flat_map line_text c.args.lines.now) (c.in_ok-reserve_exact.ensures.items ∙ c.new-bytes.ensures.items) in
    let bad : false ≡ true = c.in-Err.ensures.succeeds (subst (λ (bs : List ℕ). IsUtf8 bs) (sym all) (lines_are_text c.args.lines.now)) in
    cc
