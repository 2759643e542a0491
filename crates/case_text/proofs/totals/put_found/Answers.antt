use Rattle.std.proofs.Common.{refl}
use Rattle.std.proofs.lemmas.Result.{on_ok_weaker}
use Rattle.case_text.proofs.Counting.{found_told}
use Rattle.case_text.proofs.totals.put_found.Goals as goal

pub returns : goal.returns
returns c =
    on_ok_weaker c.put_beyond.result
    (λ said.
    found_told c.args.found.now _ c.totals_of-all.result.cases c.totals_of-all.result.failing c.totals_of-all.result.torn_beyond c.totals_of-all.result.lost_beyond _ _ _
    refl c.totals_of-all.ensures.cases c.totals_of-all.ensures.failing c.totals_of-all.ensures.torn c.totals_of-all.ensures.lost
    c.in_ok-put_counts.ensures said)
    c.put_beyond.ensures
