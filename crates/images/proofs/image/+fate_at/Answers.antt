use Rattle.std.proofs.Common.{sym, ◌∙◌}
use Rattle.images.proofs.Kept.{no_fate, own_fate, other_fate}
use Rattle.images.proofs.image.+fate_at.Goals as goal

pub returns-in-empty : goal.returns-in-empty
returns-in-empty t c = no_fate _ _ c.in-empty.len_below

pub returns-in-Some : goal.returns-in-Some
returns-in-Some t c = own_fate _ _ _ _ c.in-len1-up.len_at_least c.first-item.is (sym c.share.ensures ∙ c.in-Some.is)

pub returns-in-None : goal.returns-in-None
returns-in-None t c =
    c.fate_at.ensures ∙ other_fate _ _ _ c.in-len1-up.len_at_least c.first-item.is (sym c.share.ensures ∙ c.in-None.is)
