use Rattle.std.proofs.Common.{◌++◌, List, ℕ, string_bytes, sym, ◌∙◌, ap}
use Rattle.std.proofs.lemmas.Iterator.{YieldsList-from_chars}
use Rattle.std.proofs.lemmas.Iterator.Consumers.{YieldsList-end}
use Rattle.std.specs.List.{flat_map}
use Rattle.page_parts.specs.Html.{mark_char}
use Rattle.page_parts.proofs.Labels.{map_self}
use Rattle.page_parts.proofs.html.put_mark_chars.Goals as goal

pub returns : goal.returns
returns c =
    let all = YieldsList-end (YieldsList-from_chars c.args.text.now c.utf8.text cc) c.loop-character.yielded _ c.loop-character.yielded_by _ _ c.in-None.is c.next.ensures.steps in
    c.loop-character.invariant ∙ ap (λ (cs : List ℕ). string_bytes c.args.out.now ++ flat_map mark_char cs) (sym (map_self c.loop-character.yielded) ∙ all.0)
