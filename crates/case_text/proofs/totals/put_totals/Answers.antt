use Rattle.case_text.proofs.Counting.{totals_told}
use Rattle.case_text.proofs.totals.put_totals.Goals as goal

pub returns : goal.returns
returns c =
    totals_told c.args.all_cuts c.args.found.now _ _ _ _ _ _ c.left_out-torn.ensures.torn c.left_out-torn.ensures.lost
    c.in_ok-put_found.ensures c.in_ok-put_complete.ensures c.in_ok-write.ensures.bytes
